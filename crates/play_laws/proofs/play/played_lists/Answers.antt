use Rattle.play_laws.proofs.Lines as lines
use Rattle.play_laws.proofs.play.played_lists.Goals as goal

pub returns : goal.returns
returns c = lines.played_lists c.played_is_sound.ensures
