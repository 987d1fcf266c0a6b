-- Places of the table of nodes, and of lists.
use Rattle.std.proofs.Common.{◌≡◌, ℕ, zero, suc, Bool, true, List, [], ◌∷◌, refl, ap, sym, ◌∙◌}
use Rattle.std.specs.Prelude.{map, slice_get, slice_set, Option, Some, None}
use Rattle.std.specs.List.{list_all}
use Rattle.yard_model.specs.Words.{at}
use Rattle.node_core.specs.Standing.{Standing}
use Rattle.plain_laws.proofs.Lists.{none_is_not_some, some_is}
use Rattle.plain_laws.proofs.Booleans.{and_both}
use Rattle.world_sim.specs.Yard.{state_in}

pub state_at : (ys : List (Option Standing)) (k : ℕ) → at (map state_in ys) k ≡ state_in (at ys k)
state_at [] k = refl
state_at (y ∷ ys) zero = refl
state_at (y ∷ ys) (suc k) = state_at ys k

-- a place that is emptied
pub taken_out : (ys : List (Option Standing)) (k : ℕ) → at (slice_set ys k None) k ≡ None
taken_out [] k = refl
taken_out (y ∷ ys) zero = refl
taken_out (y ∷ ys) (suc k) = taken_out ys k

-- what is so of all is so of the one at a place
pub all_got : {A : Type 0} (p : A → Bool) (xs : List A) (i : ℕ) (x : A) → list_all p xs ≡ true → slice_get xs i ≡ Some x → p x ≡ true
all_got p [] i x all e = absurd (none_is_not_some x e)
all_got p (y ∷ ys) zero x all e = ap p (sym (some_is y x e)) ∙ (and_both (p y) (list_all p ys) all).0
all_got p (y ∷ ys) (suc i) x all e = all_got p ys i x (and_both (p y) (list_all p ys) all).1 e
