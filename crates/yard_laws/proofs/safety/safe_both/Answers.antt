use Rattle.yard_laws.proofs.SafetyLaws.{safe_both}
use Rattle.yard_laws.proofs.safety.safe_both.Goals as goal

pub returns : goal.returns
returns c = safe_both
