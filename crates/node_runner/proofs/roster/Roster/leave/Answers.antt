use Rattle.std.proofs.Common.{ap, ◌∙◌}
use Rattle.node_runner.specs.Entered.{are_members}
use Rattle.node_runner.proofs.RosterLaws.{members_without}
use Rattle.node_runner.proofs.roster.Roster.leave.Goals as goal

pub invariant_of-self : goal.invariant_of-self
invariant_of-self g c = record { fit = ap (are_members g.J.Run.script) c.leave.ensures ∙ members_without g.J.Run.script c.args.self.now.members c.args.who c.args.self.now.fit }
