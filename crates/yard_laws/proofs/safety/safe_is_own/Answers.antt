use Rattle.yard_laws.proofs.SafetyLaws.{safe_is_own}
use Rattle.yard_laws.proofs.safety.safe_is_own.Goals as goal

pub returns : goal.returns
returns c = safe_is_own
