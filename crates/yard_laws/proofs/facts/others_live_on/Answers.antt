use Rattle.yard_laws.proofs.LocalLaws.{others_live_on}
use Rattle.yard_laws.proofs.facts.others_live_on.Goals as goal

pub returns : goal.returns
returns c = others_live_on
