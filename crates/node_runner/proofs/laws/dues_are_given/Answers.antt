use Rattle.node_runner.proofs.Dues as laws
use Rattle.node_runner.proofs.laws.dues_are_given.Goals as goal

pub returns : goal.returns
returns c = laws.dues_are_given
