use Rattle.play_laws.proofs.Texts as texts
use Rattle.play_laws.proofs.play.replay_is_safe.Goals as goal

pub returns : goal.returns
returns c = texts.replay_is_safe c.played_is_safe.ensures c.played_lists.ensures
