use Rattle.live_laws.proofs.Closed as laws
use Rattle.live_laws.proofs.closed_is_lawful.Goals as goal

pub returns : goal.returns
returns c = laws.closed_is_lawful
