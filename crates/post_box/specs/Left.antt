-- The passes that aren't out yet, by rising node.
use Rattle.std.specs.Prelude.{List, reverse}
use Rattle.post_box.specs.declared.make.BoxPasses.{BoxPasses}
use Rattle.post_box.specs.Holding.{Holder}

abbrev pub left_of : {P : Type 0} → BoxPasses P → List (Holder P)
left_of p = reverse p.left.items
