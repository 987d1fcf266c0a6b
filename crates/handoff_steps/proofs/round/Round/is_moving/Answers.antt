use Rattle.std.proofs.Common.{take, ap, ◌∙◌, arith}
use Rattle.handoff_steps.specs.declared.cell.Cell.TheVariants as cell
use Rattle.handoff_steps.specs.Places.{is_open}
use Rattle.handoff_steps.specs.Seen.{seen}
use Rattle.handoff_steps.proofs.PlaceLaws.{found, opened, place_seen}
use Rattle.handoff_steps.proofs.round.Round.is_moving.Goals as goal

pub returns-clause-shard : goal.returns-clause-shard
returns-clause-shard c = found c.args.s c.args.self.now.places 0 c.args.s (omega arith)

pub returns-clause-moving : goal.returns-clause-moving
returns-clause-moving c =
    let i = c.self.inside in
    let there = place_seen (seen (take i.count i.regions)) c.args.self.now i.stamp i.cells c.get.result c.args.s cell.Out c.self.view_is c.get.ensures.value (omega (arith, c.self.invariant, c.get.ensures)) in
    c.is_open.ensures ∙ (ap is_open there ∙ opened c.args.s c.args.self.now)
