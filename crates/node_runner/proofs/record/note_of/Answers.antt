use Rattle.std.proofs.Common.{sym, ◌∙◌}
use Rattle.std.specs.Prelude.{Some}
use Rattle.node_runner.proofs.Confirming.{none_shown}
use Rattle.node_runner.proofs.record.note_of.Goals as goal

pub returns-in-None-clause-shown : goal.returns-in-None-clause-shown
returns-in-None-clause-shown g c = none_shown g.J.Run.script c.args.packet.now.body (Some c.note-pass.result.1) (sym c.confirmed_of.ensures ∙ c.in-None.is)
