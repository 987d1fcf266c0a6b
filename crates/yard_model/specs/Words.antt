-- Small words that the other modules share.
use Rattle.std.specs.Prelude.{ℕ, zero, suc, ◌+◌, ◌-◌, Bool, true, false, ◌==◌, ◌&&◌, ◌||◌, nat_lt, not, List, [], ◌∷◌, filter, Option, Some, None, slice_index_or}
use Rattle.std.specs.List.{list_any}
use Rattle.yard_model.specs.declared.incarnation.Incarnation.{Incarnation}
use Rattle.yard_model.specs.declared.incarnation.Stamp.{Stamp}

-- n numbers from a on, rising
abbrev pub numbers : ℕ → ℕ → List ℕ
numbers a zero = []
numbers a (suc n) = a ∷ numbers (a + 1) n

-- the numbers from a to b, rising
abbrev pub from_to : ℕ → ℕ → List ℕ
from_to a b = numbers a (b + 1 - a)

-- the same incarnation
abbrev pub is_same : Incarnation → Incarnation → Bool
is_same x y = (x.node == y.node) && (x.number == y.number)

-- there is one, and it is this incarnation
abbrev pub is_at : Incarnation → Option Incarnation → Bool
is_at x None = false
is_at x (Some y) = is_same x y

abbrev pub is_among : Incarnation → List Incarnation → Bool
is_among x xs = list_any (is_same x) xs

abbrev pub without : Incarnation → List Incarnation → List Incarnation
without x xs = filter (λ y. not (is_same x y)) xs

-- the same stamp
abbrev pub is_stamp : Stamp → Stamp → Bool
is_stamp a b = (a.epoch == b.epoch) && (a.round == b.round)

-- a stamp below another: by epoch, then by round
abbrev pub is_below : Stamp → Stamp → Bool
is_below a b = nat_lt a.epoch b.epoch || ((a.epoch == b.epoch) && nat_lt a.round b.round)

abbrev pub is_empty : {A : Type 0} → List A → Bool
is_empty [] = true
is_empty (x ∷ xs) = false

-- what is at that place of a table, if anything is
abbrev pub at : {A : Type 0} → List (Option A) → ℕ → Option A
at xs i = slice_index_or xs i None
