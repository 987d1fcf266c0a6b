-- The registered regions, looked at one after the other: who is in the view stays, who isn't is terminated.
use Rattle.std.proofs.Common.{◌≡◌, sym, ap, ◌∙◌, refl}
use Rattle.std.specs.Prelude.{Bool, true, false, ◌||◌, not, cond, List, [], ◌∷◌, filter, if◌then◌else◌}
use Rattle.std.specs.List.{list_all}
use Rattle.yard_model.specs.declared.incarnation.Incarnation.{Incarnation}
use Rattle.yard_model.specs.Coordinator.{Coordinator, coordinator_after, registered, terminate, terminate_lost}
use Rattle.yard_model.specs.Turns.{for_each}
use Rattle.yard_model.specs.Words.{is_same, is_among, without}
use Rattle.coordinator_actor.specs.Held.{are_viewed}
use Rattle.coordinator_actor.proofs.Same.{and_both, both, or_left, or_right, same_is, same_itself, same_turned}
use Rattle.coordinator_actor.specs.Parts.{stay}
use Rattle.coordinator_actor.proofs.Differ.{differ, of_not, left_among}

-- these are still to be looked at, of those that are registered
pub record IsRest (view rest regs : List Incarnation) : Type 0 where
  pub there : list_all (λ x. is_among x regs) rest ≡ true
  pub apart : differ rest ≡ true
  pub seen : list_all (λ x. is_among x view || is_among x rest) regs ≡ true

all_to : (p q : Incarnation → Bool) → ((x : Incarnation) → p x ≡ true → q x ≡ true) → (xs : List Incarnation) → list_all p xs ≡ true → list_all q xs ≡ true
all_to p q h [] e = refl
all_to p q h (x ∷ xs) e = both (q x) (list_all q xs) (h x (and_both (p x) (list_all p xs) e).0) (all_to p q h xs (and_both (p x) (list_all p xs) e).1)

pub each_among : (xs : List Incarnation) → list_all (λ r. is_among r xs) xs ≡ true
each_among [] = refl
each_among (x ∷ xs) =
    both (is_among x (x ∷ xs)) (list_all (λ r. is_among r (x ∷ xs)) xs) (or_left (is_same x x) (is_among x xs) (same_itself x))
    (all_to (λ r. is_among r xs) (λ r. is_among r (x ∷ xs)) (λ r e. or_right (is_same r x) (is_among r xs) e) xs (each_among xs))

pub rest_all : (view regs : List Incarnation) → differ regs ≡ true → IsRest view regs regs
rest_all view regs d = record {
  there = each_among regs;
  apart = d;
  seen = all_to (λ x. is_among x regs) (λ x. is_among x view || is_among x regs) (λ x e. or_right (is_among x view) (is_among x regs) e) regs (each_among regs);
}

-- what is in the view, or is r or after it, where r is in the view
seen_here : (view rest : List Incarnation) (r x : Incarnation) → is_among r view ≡ true → (is_among x view || (is_same x r || is_among x rest)) ≡ true → (is_among x view || is_among x rest) ≡ true
seen_here view rest r x here e = step (is_same x r) refl e
  where
    step : (b : Bool) → is_same x r ≡ b → (is_among x view || (b || is_among x rest)) ≡ true → (is_among x view || is_among x rest) ≡ true
    step true t f = or_left (is_among x view) (is_among x rest) (ap (λ z. is_among z view) (same_is x r t) ∙ here)
    step false t f = f

seen_there : (view rest : List Incarnation) (r : Incarnation) (xs : List Incarnation) → list_all (λ x. is_among x view || (is_same x r || is_among x rest)) xs ≡ true → list_all (λ x. is_among x view || is_among x rest) (without r xs) ≡ true
seen_there view rest r [] e = refl
seen_there view rest r (x ∷ xs) e = step (is_same r x) refl (seen_there view rest r xs m.1)
  where
    m : ((is_among x view || (is_same x r || is_among x rest)) ≡ true) × (list_all (λ x. is_among x view || (is_same x r || is_among x rest)) xs ≡ true)
    m = and_both (is_among x view || (is_same x r || is_among x rest)) (list_all (λ x. is_among x view || (is_same x r || is_among x rest)) xs) e

    step : (b : Bool) → is_same r x ≡ b → list_all (λ x. is_among x view || is_among x rest) (without r xs) ≡ true → list_all (λ x. is_among x view || is_among x rest) (cond (not b) (x ∷ without r xs) (without r xs)) ≡ true
    step true t h = h
    step false t h = both (is_among x view || is_among x rest) (list_all (λ x. is_among x view || is_among x rest) (without r xs))
        (sym (ap (λ b. is_among x view || (b || is_among x rest)) (same_turned x r ∙ t)) ∙ m.0) h

pub rest_next : (view rest regs : List Incarnation) (r : Incarnation) → IsRest view (r ∷ rest) regs → IsRest view rest (stay view r regs)
rest_next view rest regs r k = step (is_among r view) refl
  where
    n : (not (is_among r rest) ≡ true) × (differ rest ≡ true)
    n = and_both (not (is_among r rest)) (differ rest) k.apart

    later : list_all (λ x. is_among x regs) rest ≡ true
    later = (and_both (is_among r regs) (list_all (λ x. is_among x regs) rest) k.there).1

    step : (b : Bool) → is_among r view ≡ b → IsRest view rest (if b then regs else without r regs)
    step true t = record {
      there = later;
      apart = n.1;
      seen = all_to (λ x. is_among x view || (is_same x r || is_among x rest)) (λ x. is_among x view || is_among x rest) (λ x e. seen_here view rest r x t e) regs k.seen;
    }
    step false t = record {
      there = left_among r regs rest later (of_not (is_among r rest) n.0);
      apart = n.1;
      seen = seen_there view rest r regs k.seen;
    }

-- all have been looked at
pub rest_none : (view regs : List Incarnation) → IsRest view [] regs → list_all (λ x. is_among x view) regs ≡ true
rest_none view regs k = all_to (λ x. is_among x view || false) (λ x. is_among x view) (λ x e. left (is_among x view) e) regs k.seen
  where
    left : (b : Bool) → (b || false) ≡ true → b ≡ true
    left true e = refl
    left false e = e

-- where all are in the view, none is lost
none_left : (view regs : List Incarnation) → list_all (λ r. is_among r view) regs ≡ true → filter (λ r. not (is_among r view)) regs ≡ []
none_left view [] e = refl
none_left view (x ∷ xs) e =
    let k : _ × _ = and_both (is_among x view) (list_all (λ r. is_among r view) xs) e in
    ap (λ b. cond (not b) (x ∷ filter (λ r. not (is_among r view)) xs) (filter (λ r. not (is_among r view)) xs)) k.0 ∙ none_left view xs k.1

pub all_stay_viewed : (view : List Incarnation) (st : Coordinator) → are_viewed view st.entries ≡ true → terminate_lost view st ≡ []
all_stay_viewed view st e = ap (λ (rs : List Incarnation). for_each coordinator_after terminate rs st) (none_left view (registered st) e)
