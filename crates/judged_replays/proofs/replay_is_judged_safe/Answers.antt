use Rattle.judged_replays.proofs.ReplayLaws as laws
use Rattle.judged_replays.proofs.replay_is_judged_safe.Goals as goal

pub returns : goal.returns
returns c = laws.replay_is_judged_safe c.played_is_safe.ensures c.quiet_says_nothing.ensures c.safe_is_answered.ensures
