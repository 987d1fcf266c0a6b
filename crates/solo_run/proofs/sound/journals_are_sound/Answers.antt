use Rattle.solo_run.proofs.SoloLaws.{solo_sound}
use Rattle.solo_run.proofs.sound.journals_are_sound.Goals as goal

pub returns : goal.returns
returns c = solo_sound c.command_law.ensures c.decision_law.ensures c.decided_law.ensures
