use Rattle.std.proofs.Common.{length}
use Rattle.lease_table.specs.Belongs.{id_of, charter_of}
use Rattle.node_runner.proofs.Working.{Uniting}
use Rattle.node_runner.proofs.run.unite_all.Given as goal

abbrev pub invariant-loop-next : goal.invariant-loop-next
invariant-loop-next l = Uniting (id_of l.table) (charter_of l.table) l.turns l.left.items l.all

abbrev pub decreases-loop-next : goal.decreases-loop-next
decreases-loop-next l = length l.left.items
