use Rattle.yard_laws.proofs.FreeLaws.{region_is_free}
use Rattle.yard_laws.proofs.facts.region_is_free.Goals as goal

pub returns : goal.returns
returns c = region_is_free
