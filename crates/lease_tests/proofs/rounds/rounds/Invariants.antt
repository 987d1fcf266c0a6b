use Rattle.std.proofs.Common.{◌≡◌}
use Rattle.lease_table.specs.Belongs.{id_of}
use Rattle.lease_table.specs.Leasing.{Idle}
use Rattle.lease_tests.specs.Holding.{two_nodes}
use Rattle.lease_tests.proofs.rounds.rounds.Given as goal

abbrev pub invariant-loop-done : goal.invariant-loop-done
invariant-loop-done l = Idle (id_of l.table) two_nodes l.fn.node l.pass × (l.this ≡ l.fn.node)
