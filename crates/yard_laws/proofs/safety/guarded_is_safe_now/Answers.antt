use Rattle.yard_laws.proofs.SafetyLaws.{guarded_is_safe_now}
use Rattle.yard_laws.proofs.safety.guarded_is_safe_now.Goals as goal

pub returns : goal.returns
returns c = guarded_is_safe_now
