use Rattle.std.proofs.Common.{take, ap, ◌∙◌, arith}
use Rattle.handoff_steps.specs.declared.cell.Cell.TheVariants as cell
use Rattle.handoff_steps.specs.Places.{is_awaiting}
use Rattle.handoff_steps.specs.Seen.{seen}
use Rattle.handoff_steps.proofs.PlaceLaws.{awaiting, place_seen}
use Rattle.handoff_steps.proofs.round.Round.awaits.Goals as goal

pub returns-clause-moving : goal.returns-clause-moving
returns-clause-moving c =
    let i = c.self.inside in
    let there = place_seen (seen (take i.count i.regions)) c.args.self.now i.stamp i.cells c.get.result c.args.s cell.Out c.self.view_is c.get.ensures.value (omega (arith, c.self.invariant, c.get.ensures)) in
    c.is_awaiting.ensures ∙ (ap (is_awaiting c.args.who) there ∙ awaiting c.args.s c.args.who c.args.self.now)
