use Rattle.yard_laws.proofs.Before.{own_before, guarded_before, safe_before}
use Rattle.yard_laws.proofs.safety.held_before.Goals as goal

pub returns-clause-own : goal.returns-clause-own
returns-clause-own c = own_before

pub returns-clause-guarded : goal.returns-clause-guarded
returns-clause-guarded c = guarded_before

pub returns-clause-safe : goal.returns-clause-safe
returns-clause-safe c = safe_before
