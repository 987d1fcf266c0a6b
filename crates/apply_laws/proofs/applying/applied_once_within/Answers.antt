use Rattle.apply_laws.proofs.AppliedLaws as laws
use Rattle.apply_laws.proofs.applying.applied_once_within.Goals as goal

pub returns : goal.returns
returns c = laws.applied_once_within c.applied_is_taken.ensures c.applied_settles_within.ensures c.settled_is_once.ensures
