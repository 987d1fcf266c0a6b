use Rattle.std.proofs.Common.{sym, ap, ◌∙◌}
use Rattle.yard_model.specs.Genuine.{is_genuine_packet}
use Rattle.node_runner.specs.Parcels.{is_within_packet}
use Rattle.node_runner.proofs.RosterLaws.{view_genuine, view_within}
use Rattle.node_runner.proofs.roster.Views.packet.Goals as goal

pub returns-in-Some-clause-genuine : goal.returns-in-Some-clause-genuine
returns-in-Some-clause-genuine g c = ap (is_genuine_packet g.J.Run.script) c.packet_to.ensures ∙ view_genuine g.J.Run.script c.args.self.now.version c.args.self.now.members c.args.place c.in-Some.member c.args.self.now.fit (sym c.get.ensures ∙ c.in-Some.is)

pub returns-in-Some-clause-within : goal.returns-in-Some-clause-within
returns-in-Some-clause-within g c = ap is_within_packet c.packet_to.ensures ∙ view_within g.J.Run.script c.args.self.now.version c.args.self.now.members c.args.place c.in-Some.member c.args.self.now.fit (sym c.get.ensures ∙ c.in-Some.is)
