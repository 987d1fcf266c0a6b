use Rattle.play_laws.proofs.Lines as lines
use Rattle.play_laws.proofs.play.played_is_safe.Goals as goal

pub returns : goal.returns
returns c = lines.played_is_safe c.played_is_sound.ensures
