use Rattle.std.proofs.Common.{take}
use Rattle.handoff_steps.specs.Seen.{seen}
use Rattle.handoff_steps.proofs.PlaceLaws.{all_there, below_all, few_move, rising}
use Rattle.handoff_steps.proofs.round.Round.stamp.Goals as goal

pub returns-clause-few : goal.returns-clause-few
returns-clause-few c =
    let i = c.self.inside in
    few_move c.args.self.now (all_there (seen (take i.count i.regions)) c.args.self.now i.stamp i.cells c.self.view_is c.self.invariant.2)

pub returns-clause-rising : goal.returns-clause-rising
returns-clause-rising c =
    let i = c.self.inside in
    rising c.args.self.now (all_there (seen (take i.count i.regions)) c.args.self.now i.stamp i.cells c.self.view_is c.self.invariant.2)

pub returns-clause-below : goal.returns-clause-below
returns-clause-below c =
    let i = c.self.inside in
    below_all c.args.self.now (all_there (seen (take i.count i.regions)) c.args.self.now i.stamp i.cells c.self.view_is c.self.invariant.2)
