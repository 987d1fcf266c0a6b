use Rattle.yard_laws.proofs.SafetyLaws.{safe_begins}
use Rattle.yard_laws.proofs.safety.safe_begins.Goals as goal

pub returns : goal.returns
returns c = safe_begins
