use Rattle.std.proofs.Common.{take, get_or, if◌then◌else◌, ap, sym, ◌∙◌, arith}
use Rattle.handoff_steps.specs.declared.cell.Cell.TheVariants as cell
use Rattle.handoff_steps.specs.Places.{place_at, moving, acknowledged_by, ended, place_without, lost_at}
use Rattle.handoff_steps.specs.Seen.{seen}
use Rattle.handoff_steps.proofs.PlaceLaws.{found, placed, moving_with, all_there, lost_acts, lost_here}
use Rattle.handoff_steps.proofs.round.Round.region_gone.Goals as goal

pub returns-then-is_owned-clause-place : goal.returns-then-is_owned-clause-place
returns-then-is_owned-clause-place c =
    let i = c.self.inside in
    let f = seen (take i.count i.regions) in
    let p = f (get_or i.cells c.get-place.result cell.Out) in
    placed f c.args.self.now i.stamp i.cells c.get-place.result c.args.s cell.Out c.ended-next.result (place_without c.args.who)
    c.self.view_is c.get-place.ensures.value (omega (arith, c.self.invariant, c.get-place.ensures))
    (c.ended-next.ensures ∙ ap (λ b. if b then ended p else acknowledged_by c.args.who p) (sym (sym c.is_owned.ensures ∙ c.if-is_owned.true)))

pub returns-then-is_owned-clause-moving : goal.returns-then-is_owned-clause-moving
returns-then-is_owned-clause-moving c =
    let i = c.self.inside in
    let v = c.args.self.now in
    let s = c.args.s in
    let all = all_there (seen (take i.count i.regions)) v i.stamp i.cells c.self.view_is c.self.invariant.2 in
    ap moving (returns-then-is_owned-clause-place c) ∙ moving_with v s (lost_at s c.args.who) (lost_acts s c.args.who) _ (omega (arith, c.get-place.ensures)) (lost_here s c.args.who (place_at v s))

pub returns-clause-place : goal.returns-clause-place
returns-clause-place c =
    let i = c.self.inside in
    let f = seen (take i.count i.regions) in
    let p = f (get_or i.cells c.get-place.result cell.Out) in
    placed f c.args.self.now i.stamp i.cells c.get-place.result c.args.s cell.Out c.acknowledged_by-next.result (place_without c.args.who)
    c.self.view_is c.get-place.ensures.value (omega (arith, c.self.invariant, c.get-place.ensures))
    (c.acknowledged_by-next.ensures ∙ ap (λ b. if b then ended p else acknowledged_by c.args.who p) (sym (sym c.is_owned.ensures ∙ c.if-is_owned.false)))

pub returns-clause-moving : goal.returns-clause-moving
returns-clause-moving c =
    let i = c.self.inside in
    let v = c.args.self.now in
    let s = c.args.s in
    let all = all_there (seen (take i.count i.regions)) v i.stamp i.cells c.self.view_is c.self.invariant.2 in
    ap moving (returns-clause-place c) ∙ moving_with v s (lost_at s c.args.who) (lost_acts s c.args.who) _ (omega (arith, c.get-place.ensures)) (lost_here s c.args.who (place_at v s))

pub returns-clause-shard : goal.returns-clause-shard
returns-clause-shard c = found c.args.s c.args.self.now.places 0 c.args.s (omega arith)

pub returns-then-is_owned-clause-shard : goal.returns-then-is_owned-clause-shard
returns-then-is_owned-clause-shard c = found c.args.s c.args.self.now.places 0 c.args.s (omega arith)
