use Rattle.node_runner.proofs.Alone as laws
use Rattle.node_runner.proofs.laws.steady_is_free.Goals as goal

pub returns : goal.returns
returns c = laws.steady_is_free
