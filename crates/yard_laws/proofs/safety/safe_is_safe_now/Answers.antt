use Rattle.yard_laws.proofs.Before.{safe_now}
use Rattle.yard_laws.proofs.safety.safe_is_safe_now.Goals as goal

pub returns : goal.returns
returns c = safe_now
