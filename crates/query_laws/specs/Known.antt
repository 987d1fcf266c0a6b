-- The machine's words and what the queries answer of its facts.
use Rattle.std.specs.Prelude.{◌≡◌, ℕ, Bool, true, false, ◌==◌, not, List, [], map, take}
use Rattle.std.specs.List.{list_any}
use Rattle.yard_model.specs.declared.charter.Line.{Line}
use Rattle.yard_model.specs.Follow.{each_follows}
use Rattle.yard_model.specs.Queries.{known}
use Rattle.yard_model.specs.Script.{Script, IsScript}
use Rattle.yard_model.specs.World.{World, Made, new_world, play_line, in_order}

-- each line has another number than those before it
abbrev pub are_numbered : Script → Bool
are_numbered c = each_follows (λ before (l : Line). not (list_any (λ (m : Line). m.number == l.number) before)) [] c.orders

-- the same words but those of nodes
abbrev pub AreAlike : World → World → Type 0
AreAlike v w = record v { nodes = [] } ≡ record w { nodes = [] }

-- after any number of the orders the world is what the queries answer but for its nodes; and where the wire isn't full then, it is so with its nodes
abbrev pub OrdersAreKnown : Type 0
OrdersAreKnown = (c : Script) (limit n : ℕ) → IsScript c → are_numbered c ≡ true
    → let first : World = new_world c limit in let lines : List Line = take n c.orders in let m : Made = in_order (map play_line lines) first in let w : World = (known c.orders first m.facts).world in
    AreAlike w m.world × (m.world.full ≡ false → w ≡ m.world)
