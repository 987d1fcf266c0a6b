use Rattle.yard_laws.proofs.SafetyLaws.{safe_goes_on}
use Rattle.yard_laws.proofs.safety.safe_goes_on.Goals as goal

pub returns : goal.returns
returns c = safe_goes_on
