use Rattle.std.proofs.Common.{take, arith}
use Rattle.std.proofs.lemmas.List.{length-take}
use Rattle.handoff_steps.proofs.AwaitedLaws.{round_few}
use Rattle.handoff_steps.proofs.round.Round.awaited_few.Goals as goal

pub returns : goal.returns
returns c =
    let i = c.self.inside in
    round_few c.args.self.now i.stamp (take i.count i.regions) i.cells (omega (arith, length-take i.count i.regions, c.self.invariant.0)) c.self.view_is
