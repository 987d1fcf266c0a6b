-- The stores of all slots that go on.
use Rattle.std.specs.Prelude.{◌≡◌, ℕ, ◌<◌, ◌≤◌, List, length, Option, Some, None}
use Rattle.yard_model.specs.Grown.{GoesOn}
use Rattle.yard_model.specs.Script.{Script}
use Rattle.yard_model.specs.Words.{at}
use Rattle.shard_store.specs.declared.store.Store.{Store}
use Rattle.shard_store.specs.Stores.{script_of, slot_of, entries_of, spare_of}

-- the script goes on as that of the store, where there is one
abbrev pub MayGoOn : Script → Option Store → Type 0
MayGoOn d None = Unit {0}
MayGoOn d (Some x) = GoesOn (script_of x) d

-- the same store under this script
pub record IsOn (d : Script) (x y : Store) : Type 0 where
  pub script_is : script_of y ≡ d
  pub slot_is : slot_of y ≡ slot_of x
  pub list_is : entries_of y ≡ entries_of x
  pub spare_is : spare_of y ≡ spare_of x

abbrev pub IsOnAt : Script → Option Store → Option Store → Type 0
IsOnAt d None None = Unit {0}
IsOnAt d None (Some y) = ⊥
IsOnAt d (Some x) None = ⊥
IsOnAt d (Some x) (Some y) = IsOn d x y

-- the first n are, and the others are as they were
pub record AreOn (d : Script) (xs ys : List (Option Store)) (n : ℕ) : Type 0 where
  pub long : length ys ≡ length xs
  pub done : (k : ℕ) → k < n → IsOnAt d (at xs k) (at ys k)
  pub left : (k : ℕ) → n ≤ k → at ys k ≡ at xs k
