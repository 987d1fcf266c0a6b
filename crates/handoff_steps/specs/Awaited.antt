-- The regions that a round waits for, as bits by their place in order of registration.
use Rattle.std.specs.Prelude.{ℕ, ◌+◌, List, [], ◌∷◌, if◌then◌else◌}
use Rattle.yard_model.specs.declared.incarnation.Incarnation.{Incarnation}
use Rattle.yard_model.specs.ShardSet.{has}

-- of the regions from place i on, those whose bit is one
abbrev pub awaited_from : ℕ → List Incarnation → ℕ → List Incarnation
awaited_from i [] bits = []
awaited_from i (r ∷ rs) bits = if has bits i then r ∷ awaited_from (i + 1) rs bits else awaited_from (i + 1) rs bits

abbrev pub awaited_of : List Incarnation → ℕ → List Incarnation
awaited_of rs bits = awaited_from 0 rs bits
