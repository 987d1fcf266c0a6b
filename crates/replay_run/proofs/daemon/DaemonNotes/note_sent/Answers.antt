use Rattle.replay_run.proofs.DaemonLaws.{with_course}
use Rattle.replay_run.proofs.daemon.DaemonNotes.note_sent.Goals as goal

pub returns-clause-ok : goal.returns-clause-ok
returns-clause-ok c = with_course c.note_sent.result c.args.self.now.course c.args.self.now.lines c.note_sent.new.self c.args.number c.args.packet.now c.note_sent.ensures.ok
