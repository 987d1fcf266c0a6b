use Rattle.std.proofs.Common.{take, ap, ◌∙◌, arith}
use Rattle.handoff_steps.specs.declared.cell.Cell.TheVariants as cell
use Rattle.handoff_steps.specs.Places.{awaited_in}
use Rattle.handoff_steps.specs.Seen.{seen}
use Rattle.handoff_steps.proofs.PlaceLaws.{place_seen}
use Rattle.handoff_steps.proofs.round.Round.awaited.Goals as goal

pub returns : goal.returns
returns c =
    let i = c.self.inside in
    let there = place_seen (seen (take i.count i.regions)) c.args.self.now i.stamp i.cells c.get.result c.args.s cell.Out c.self.view_is c.get.ensures.value (omega (arith, c.self.invariant, c.get.ensures)) in
    c.awaited.ensures ∙ ap awaited_in there
