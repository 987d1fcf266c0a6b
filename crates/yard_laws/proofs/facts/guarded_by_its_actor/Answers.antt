use Rattle.yard_laws.proofs.LocalLaws.{guarded_by_its_actor}
use Rattle.yard_laws.proofs.facts.guarded_by_its_actor.Goals as goal

pub returns : goal.returns
returns c = guarded_by_its_actor
