use Rattle.daemon_process.proofs.SingleLaws.{written_live}
use Rattle.daemon_process.proofs.laws.written_is_live.Goals as goal

pub returns : goal.returns
returns c = λ s trace front back e r h is. written_live s trace front back e r h is
