use Rattle.std.proofs.Common.{refl}
use Rattle.std.specs.Fmt.{digits}
use Rattle.worked_scripts.proofs.lines_of_facts.Goals as goal

pub returns-clause-nodes : goal.returns-clause-nodes
unfolding digits
returns-clause-nodes c = refl

pub returns-clause-shards : goal.returns-clause-shards
unfolding digits
returns-clause-shards c = refl

pub returns-clause-queues : goal.returns-clause-queues
unfolding digits
returns-clause-queues c = refl

pub returns-clause-packets : goal.returns-clause-packets
unfolding digits
returns-clause-packets c = refl

pub returns-clause-records : goal.returns-clause-records
unfolding digits
returns-clause-records c = refl

pub returns-clause-states : goal.returns-clause-states
unfolding digits
returns-clause-states c = refl
