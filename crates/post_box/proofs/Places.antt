-- Lists at a place, and functions changed at one number.
use Rattle.std.proofs.Common.{◌≡◌, ◌≢◌, ℕ, zero, suc, ◌+◌, ◌<◌, ◌⊎◌, inl, inr, ⊎_elim, List, [], ◌∷◌, ◌++◌, length, get_or, map, replicate, refl, sym, ap, ◌∙◌, arith}
use Rattle.std.specs.Prelude.{slice_set}
use Rattle.std.proofs.lemmas.List.{map-set}
use mathlib.Core.Option as maybe
use lib.ListN.{get_elem?}
use native.Mathlib.Decide.{ℕ_discrete}

decided : {P : Type 0} → Dec P → P ⊎ (P → ⊥)
decided (yes p) = inl p
decided (no n) = inr n

pub same_or_not : (a b : ℕ) → (a ≡ b) ⊎ (a ≢ b)
same_or_not a b = decided (ℕ_discrete a b)

module _ {A : Type 0} where
  abbrev chosen : {P : Type 0} → (P ⊎ (P → ⊥)) → A → A → A
  chosen (inl p) a b = a
  chosen (inr n) a b = b

  chosen_yes : {P : Type 0} (d : P ⊎ (P → ⊥)) (a b : A) → P → chosen d a b ≡ a
  chosen_yes (inl p) a b h = refl
  chosen_yes (inr n) a b h = absurd (n h)

  chosen_no : {P : Type 0} (d : P ⊎ (P → ⊥)) (a b : A) → (P → ⊥) → chosen d a b ≡ b
  chosen_no (inl p) a b h = absurd (h p)
  chosen_no (inr n) a b h = refl

  -- the function with another value at k
  abbrev pub edit : (ℕ → A) → ℕ → A → ℕ → A
  edit f k a j = chosen (same_or_not j k) a (f j)

  pub edit_here : (f : ℕ → A) (k : ℕ) (a : A) → edit f k a k ≡ a
  edit_here f k a = chosen_yes (same_or_not k k) a (f k) refl

  pub edit_else : (f : ℕ → A) (k : ℕ) (a : A) (j : ℕ) → j ≢ k → edit f k a j ≡ f j
  edit_else f k a j n = chosen_no (same_or_not j k) a (f j) n

  pub at_snoc_place : (l : List A) (a b : A) (j : ℕ) → get_elem? (l ++ a ∷ []) j ≡ maybe.some b → (get_elem? l j ≡ maybe.some b) ⊎ ((j ≡ length l) × (a ≡ b))
  at_snoc_place [] a b zero e = inr (refl, maybe.some-injective a b e)
  at_snoc_place [] a b (suc j) e = absurd (maybe.some-ne-none b (sym e))
  at_snoc_place (x ∷ xs) a b zero e = inl e
  at_snoc_place (x ∷ xs) a b (suc j) e = ⊎_elim (λ h. inl h) (λ t. inr (ap suc t.0, t.1)) (at_snoc_place xs a b j e)

  pub there_inside : (l : List A) (i : ℕ) (a : A) → get_elem? l i ≡ maybe.some a → i < length l
  there_inside [] i a e = absurd (maybe.some-ne-none a (sym e))
  there_inside (x ∷ xs) zero a e = omega arith
  there_inside (x ∷ xs) (suc i) a e = let h = there_inside xs i a e in omega arith

module _ {A B : Type 0} where
  pub at_map : (f : A → B) (xs : List A) (k : ℕ) (x : A) → get_elem? xs k ≡ maybe.some x → get_elem? (map f xs) k ≡ maybe.some (f x)
  at_map f [] k x e = absurd (maybe.some-ne-none x (sym e))
  at_map f (y ∷ ys) zero x e = ap (λ z. maybe.some (f z)) (maybe.some-injective y x e)
  at_map f (y ∷ ys) (suc k) x e = at_map f ys k x e

  -- two functions that agree on a list agree at each place
  pub same_at : (f g : A → B) (xs : List A) → map f xs ≡ map g xs → (k : ℕ) (x : A) → get_elem? xs k ≡ maybe.some x → f x ≡ g x
  same_at f g xs e k x at = maybe.some-injective (f x) (g x) (sym (at_map f xs k x at) ∙ ap (λ (l : List B). get_elem? l k) e ∙ at_map g xs k x at)

  -- and where one place is changed
  pub same_set : (f g : A → B) (xs : List A) (k : ℕ) (y : A) → map f xs ≡ map g xs → f y ≡ g y → map f (slice_set xs k y) ≡ map g (slice_set xs k y)
  same_set f g xs k y e h = map-set f xs k y ∙ ap (λ (l : List B). slice_set l k (f y)) e ∙ ap (λ (b : B). slice_set (map g xs) k b) h ∙ sym (map-set g xs k y)

module _ {A : Type 0} where
  pub got : (xs : List A) (k : ℕ) (x d : A) → get_elem? xs k ≡ maybe.some x → get_or xs k d ≡ x
  got [] k x d e = absurd (maybe.some-ne-none x (sym e))
  got (y ∷ ys) zero x d e = maybe.some-injective y x e
  got (y ∷ ys) (suc k) x d e = got ys k x d e

  pub replicate_at : (n k : ℕ) (a x : A) → get_elem? (replicate n a) k ≡ maybe.some x → a ≡ x
  replicate_at zero k a x e = absurd (maybe.some-ne-none x (sym e))
  replicate_at (suc n) zero a x e = maybe.some-injective a x e
  replicate_at (suc n) (suc k) a x e = replicate_at n k a x e

  -- k times a and then b
  pub mixed_at : (k m : ℕ) (a b x : A) → get_elem? (replicate k a ++ replicate m b) k ≡ maybe.some x → b ≡ x
  mixed_at zero m a b x e = replicate_at m 0 b x e
  mixed_at (suc k) m a b x e = mixed_at k m a b x e

  pub mixed_set : (k m : ℕ) (a b : A) → slice_set (replicate k a ++ replicate (suc m) b) k a ≡ replicate (suc k) a ++ replicate m b
  mixed_set zero m a b = refl
  mixed_set (suc k) m a b = ap (λ l. a ∷ l) (mixed_set k m a b)

  pub map_replicate : {B : Type 0} (f : A → B) (n : ℕ) (a : A) → map f (replicate n a) ≡ replicate n (f a)
  map_replicate f zero a = refl
  map_replicate f (suc n) a = ap (λ l. f a ∷ l) (map_replicate f n a)

module _ {A B C : Type 0} where
  pub map_map : (g : B → C) (f : A → B) (xs : List A) → map g (map f xs) ≡ map (λ x. g (f x)) xs
  map_map g f [] = refl
  map_map g f (x ∷ xs) = ap (λ l. g (f x) ∷ l) (map_map g f xs)
