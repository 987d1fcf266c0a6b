-- Lists in which each item may follow those before it.
use Rattle.std.proofs.Common.{◌≡◌, sym, refl, subst}
use Rattle.std.specs.Prelude.{Bool, true, List, [], ◌∷◌, ◌++◌}
use Rattle.std.proofs.lemmas.List.{append-nil, append_assoc}
use Rattle.yard_model.specs.Follow.{each_follows}
use Rattle.plain_laws.proofs.Booleans.{and_both, both}

-- what holds at the start and is kept by each item holds at the end
pub follows_to : {A : Type 0} (may : List A → A → Bool) (P : List A → Type 0) → ((before : List A) (x : A) → P before → may before x ≡ true → P (before ++ x ∷ []))
    → (before xs : List A) → P before → each_follows may before xs ≡ true → P (before ++ xs)
follows_to may P step before [] p e = subst P (sym (append-nil before)) p
follows_to may P step before (x ∷ xs) p e =
    let m : (may before x ≡ true) × (each_follows may (before ++ x ∷ []) xs ≡ true) = and_both (may before x) (each_follows may (before ++ x ∷ []) xs) e in
    subst P (append_assoc before (x ∷ []) xs) (follows_to may P step (before ++ x ∷ []) xs (step before x p m.0) m.1)

-- what is kept by each item, and gives another test of it, gives that test of each
pub follows_by : {A : Type 0} (may gives : List A → A → Bool) (P : List A → Type 0)
    → ((before : List A) (x : A) → P before → may before x ≡ true → P (before ++ x ∷ []) × (gives before x ≡ true))
    → (before xs : List A) → P before → each_follows may before xs ≡ true → each_follows gives before xs ≡ true
follows_by may gives P step before [] p e = refl
follows_by may gives P step before (x ∷ xs) p e =
    let m : (may before x ≡ true) × (each_follows may (before ++ x ∷ []) xs ≡ true) = and_both (may before x) (each_follows may (before ++ x ∷ []) xs) e in
    let new : P (before ++ x ∷ []) × (gives before x ≡ true) = step before x p m.0 in
    both (gives before x) (each_follows gives (before ++ x ∷ []) xs) new.1 (follows_by may gives P step (before ++ x ∷ []) xs new.0 m.1)
