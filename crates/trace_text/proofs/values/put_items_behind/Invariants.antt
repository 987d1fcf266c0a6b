use Rattle.std.proofs.Common.{◌≡◌, ◌+◌, ◌*◌, ◌≤◌, ◌++◌, ◌∷◌, [], drop, take}
use Rattle.yard_model.specs.Text.{item_text}
use Rattle.trace_text.specs.Behind.{behind}
use Rattle.trace_text.proofs.values.put_items_behind.Given as goal

abbrev pub invariant-loop-x : goal.invariant-loop-x
invariant-loop-x l =
    (take l.end l.cells ++ behind (44 ∷ []) item_text (drop l.x-index l.items) ≡ take l.fn.at l.fn.cells ++ behind (44 ∷ []) item_text l.items)
    × (l.end ≤ l.fn.at + 22 * l.x-index)
