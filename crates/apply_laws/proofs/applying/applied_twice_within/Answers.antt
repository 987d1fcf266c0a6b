use Rattle.apply_laws.proofs.AppliedLaws as laws
use Rattle.apply_laws.proofs.applying.applied_twice_within.Goals as goal

pub returns : goal.returns
returns c = laws.applied_twice_within c.applied_settles_within.ensures
