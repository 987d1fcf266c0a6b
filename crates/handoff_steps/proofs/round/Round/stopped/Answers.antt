use Rattle.std.proofs.Common.{take, ap, ◌∙◌, arith}
use Rattle.handoff_steps.specs.declared.cell.Cell.TheVariants as cell
use Rattle.handoff_steps.specs.Places.{place_at, moving, ended}
use Rattle.handoff_steps.specs.Seen.{seen}
use Rattle.handoff_steps.proofs.PlaceLaws.{found, placed, moving_with, all_there, stop, stop_acts, stop_here}
use Rattle.handoff_steps.proofs.round.Round.stopped.Goals as goal

pub returns-clause-place : goal.returns-clause-place
returns-clause-place c = λ taken.
    let i = c.self.inside in
    let f = seen (take i.count i.regions) in
    placed f c.args.self.now i.stamp i.cells c.get-place.result c.args.s cell.Out c.ended-next.result ended
    c.self.view_is c.get-place.ensures.value (omega (arith, c.self.invariant, c.get-place.ensures)) c.ended-next.ensures

pub returns-clause-moving : goal.returns-clause-moving
returns-clause-moving c = λ taken.
    let i = c.self.inside in
    let v = c.args.self.now in
    let s = c.args.s in
    let all = all_there (seen (take i.count i.regions)) v i.stamp i.cells c.self.view_is c.self.invariant.2 in
    ap moving (returns-clause-place c taken) ∙ moving_with v s (stop s) (stop_acts s) _ (omega (arith, c.get-place.ensures)) (stop_here s (place_at v s))

pub returns-clause-shard : goal.returns-clause-shard
returns-clause-shard c = found c.args.s c.args.self.now.places 0 c.args.s (omega arith)

pub returns-then-ne-clause-shard : goal.returns-then-ne-clause-shard
returns-then-ne-clause-shard c = found c.args.s c.args.self.now.places 0 c.args.s (omega arith)
