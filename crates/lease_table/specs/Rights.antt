-- What the leases of a node are made of.
use Rattle.std.specs.Prelude.{ℕ}
use Rattle.lease_table.specs.declared.table_pass.TablePass.{TablePass}
use Rattle.lease_table.specs.Leasing.{Pass}

-- its pass
abbrev pub pass_of : TablePass → Pass
pass_of t = t.pass

-- the node
abbrev pub node_of : TablePass → ℕ
node_of t = t.node
