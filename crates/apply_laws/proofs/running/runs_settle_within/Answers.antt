use Rattle.apply_laws.proofs.RunsLaws as laws
use Rattle.apply_laws.proofs.running.runs_settle_within.Goals as goal

pub returns : goal.returns
returns c = laws.runs_settle_within c.runs_are_taken.ensures c.applied_settles_within.ensures c.applied_once_within.ensures
