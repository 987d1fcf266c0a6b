-- The passes that aren't out yet, by rising node.
use Rattle.std.specs.Prelude.{List, reverse}
use Rattle.lease_table.specs.declared.make.Passes.{Passes}
use Rattle.lease_table.specs.Leasing.{Pass}

abbrev pub left_of : Passes → List Pass
left_of p = reverse p.left.items
