-- The pass of a worker at the boxes, after it posted or took.
use Rattle.std.specs.Prelude.{◌≡◌}
use Rattle.post_box.specs.Holding.{Holder}

-- a pass at the same boxes, of the same node
abbrev pub IsSameHolder : {P : Type 0} → Holder P → Holder P → Type 0
IsSameHolder old new = (new.tables ≡ old.tables) × (new.node ≡ old.node)
