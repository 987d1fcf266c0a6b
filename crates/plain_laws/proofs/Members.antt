-- Members: those that are among a list, and lists of different nodes.
use Rattle.std.proofs.Common.{◌≡◌, ℕ, sym, ap, ◌∙◌, refl, subst}
use Rattle.std.specs.Prelude.{Bool, true, false, ◌==◌, ◌&&◌, ◌||◌, not, cond, List, [], ◌∷◌, ◌++◌, filter}
use Rattle.std.specs.List.{list_all}
use Rattle.std.proofs.lemmas.List.Folds.{list_any-append}
use Rattle.yard_model.specs.declared.incarnation.Incarnation.{Incarnation}
use Rattle.yard_model.specs.Follow.{each_follows}
use Rattle.yard_model.specs.Members.{has_node, is_other_node, are_of_different_nodes}
use Rattle.yard_model.specs.Words.{is_same, is_among, without}
use Rattle.yard_model.proofs.FollowLaws.{follows_more}
use Rattle.plain_laws.proofs.Booleans.{true_is_not_false, and_both, both, left_of, right_of, same_number, all_map, number_itself, of_not, or_both, not_of}

pub same_is : (x y : Incarnation) → is_same x y ≡ true → x ≡ y
same_is x y e =
    let m : ((x.node == y.node) ≡ true) × ((x.number == y.number) ≡ true) = and_both (x.node == y.node) (x.number == y.number) e in
    let of_node : ℕ → Incarnation = λ n. record { node = n; number = x.number } in
    let of_number : ℕ → Incarnation = λ n. record { node = y.node; number = n } in
    ap of_node (same_number x.node y.node m.0) ∙ ap of_number (same_number x.number y.number m.1)

pub same_itself : (x : Incarnation) → is_same x x ≡ true
same_itself x = both (x.node == x.node) (x.number == x.number) (number_itself x.node x.node refl) (number_itself x.number x.number refl)

pub itself_is : (x y : Incarnation) → x ≡ y → is_same x y ≡ true
itself_is x y e = subst (λ z. is_same x z ≡ true) e (same_itself x)

pub each_among : (xs : List Incarnation) → list_all (λ r. is_among r xs) xs ≡ true
each_among [] = refl
each_among (x ∷ xs) =
    both (is_among x (x ∷ xs)) (list_all (λ r. is_among r (x ∷ xs)) xs) (left_of (is_same x x) (is_among x xs) (same_itself x))
    (all_map (λ r. is_among r xs) (λ r. is_among r (x ∷ xs)) (λ r e. right_of (is_same r x) (is_among r xs) e) xs (each_among xs))

-- what holds of those that are among a list holds of all of it
pub all_among : (p : Incarnation → Bool) (xs : List Incarnation) → ((x : Incarnation) → is_among x xs ≡ true → p x ≡ true) → list_all p xs ≡ true
all_among p xs h = all_map (λ x. is_among x xs) p h xs (each_among xs)

-- and the other way
pub of_among : (p : Incarnation → Bool) (xs : List Incarnation) (x : Incarnation) → list_all p xs ≡ true → is_among x xs ≡ true → p x ≡ true
of_among p [] x all e = absurd (true_is_not_false (sym e))
of_among p (y ∷ ys) x all e = step (is_same x y) refl (λ f. of_among p ys x (and_both (p y) (list_all p ys) all).1 f)
  where
    step : (b : Bool) → is_same x y ≡ b → (is_among x ys ≡ true → p x ≡ true) → p x ≡ true
    step true f rest = ap p (same_is x y f) ∙ (and_both (p y) (list_all p ys) all).0
    step false f rest = rest (ap (λ b. b || is_among x ys) (sym f) ∙ e)

-- One more.

pub among_last : (y x : Incarnation) (xs : List Incarnation) → is_among y (xs ++ x ∷ []) ≡ (is_among y xs || (is_same y x || false))
among_last y x xs = list_any-append (is_same y) xs (x ∷ [])

pub among_front : (y x : Incarnation) (xs : List Incarnation) → is_among y xs ≡ true → is_among y (xs ++ x ∷ []) ≡ true
among_front y x xs e = among_last y x xs ∙ left_of (is_among y xs) (is_same y x || false) e

pub last_among : (x : Incarnation) (xs : List Incarnation) → is_among x (xs ++ x ∷ []) ≡ true
last_among x xs = among_last x x xs ∙ right_of (is_among x xs) (is_same x x || false) (left_of (is_same x x) false (same_itself x))

-- it was there before, or is the last
pub by_last : (P : Type 0) (y x : Incarnation) (xs : List Incarnation) → is_among y (xs ++ x ∷ []) ≡ true → (is_among y xs ≡ true → P) → (y ≡ x → P) → P
by_last P y x xs e front last = step (is_among y xs) (is_same y x) refl refl
  where
    step : (a b : Bool) → is_among y xs ≡ a → is_same y x ≡ b → P
    step true b f g = front f
    step false true f g = last (same_is y x g)
    step false false f g = absurd (true_is_not_false (sym e ∙ (among_last y x xs ∙ (ap (λ a. a || (is_same y x || false)) f ∙ ap (λ b. b || false) g))))

pub different_last : (xs : List Incarnation) (x : Incarnation) → are_of_different_nodes xs ≡ true → has_node x.node xs ≡ false → are_of_different_nodes (xs ++ x ∷ []) ≡ true
different_last xs x old other = follows_more is_other_node [] xs x ∙ (ap (λ b. b && is_other_node xs x) old ∙ ap not other)

-- a node that is there is that of some member
pub node_of_some : (n : ℕ) (xs : List Incarnation) → has_node n xs ≡ true → ((y : Incarnation) → is_among y xs ≡ true → y.node ≡ n → ⊥) → ⊥
node_of_some n [] e none = true_is_not_false (sym e)
node_of_some n (y ∷ ys) e none = step (y.node == n) refl (λ f. node_of_some n ys f (λ z m g. none z (right_of (is_same z y) (is_among z ys) m) g))
  where
    step : (b : Bool) → (y.node == n) ≡ b → (has_node n ys ≡ true → ⊥) → ⊥
    step true f rest = none y (left_of (is_same y y) (is_among y ys) (same_itself y)) (same_number y.node n f)
    step false f rest = rest (ap (λ b. b || has_node n ys) (sym f) ∙ e)

-- One fewer.

pub among_kept : (p : Incarnation → Bool) (y : Incarnation) (xs : List Incarnation) → is_among y (filter p xs) ≡ true → is_among y xs ≡ true
among_kept p y [] e = e
among_kept p y (x ∷ xs) e = step (p x) e (λ f. among_kept p y xs f)
  where
    step : (b : Bool) → is_among y (cond b (x ∷ filter p xs) (filter p xs)) ≡ true → (is_among y (filter p xs) ≡ true → is_among y xs ≡ true) → (is_same y x || is_among y xs) ≡ true
    step false f rest = right_of (is_same y x) (is_among y xs) (rest f)
    step true f rest = at (is_same y x) f
      where
        at : (b : Bool) → (b || is_among y (filter p xs)) ≡ true → (b || is_among y xs) ≡ true
        at true g = refl
        at false g = rest g

pub gone_from : (x : Incarnation) (xs : List Incarnation) → is_among x (without x xs) ≡ false
gone_from x [] = refl
gone_from x (y ∷ ys) = step (is_same x y) refl (gone_from x ys)
  where
    step : (b : Bool) → is_same x y ≡ b → is_among x (without x ys) ≡ false → is_among x (cond (not b) (y ∷ without x ys) (without x ys)) ≡ false
    step true e rest = rest
    step false e rest = ap (λ b. b || is_among x (without x ys)) e ∙ rest

-- different nodes stay different
different_kept : (p : Incarnation → Bool) (old new xs : List Incarnation) → ((n : ℕ) → has_node n old ≡ false → has_node n new ≡ false) → each_follows is_other_node old xs ≡ true → each_follows is_other_node new (filter p xs) ≡ true
different_kept p old new [] fewer e = refl
different_kept p old new (x ∷ xs) fewer e = step (p x)
    (different_kept p (old ++ x ∷ []) (new ++ x ∷ []) xs (λ n f. grown n f) m.1)
    (different_kept p (old ++ x ∷ []) new xs (λ n f. fewer n (was n f)) m.1)
  where
    m : (is_other_node old x ≡ true) × (each_follows is_other_node (old ++ x ∷ []) xs ≡ true)
    m = and_both (is_other_node old x) (each_follows is_other_node (old ++ x ∷ []) xs) e

    of_or : (a b : Bool) → (a || (b || false)) ≡ false → (a ≡ false) × ((b || false) ≡ false)
    of_or true b f = absurd (true_is_not_false f)
    of_or false b f = (refl, f)

    not_false : (b : Bool) → not b ≡ true → b ≡ false
    not_false true f = sym f
    not_false false f = refl

    both_parts : (n : ℕ) → has_node n (old ++ x ∷ []) ≡ false → (has_node n old ≡ false) × (((x.node == n) || false) ≡ false)
    both_parts n f = of_or (has_node n old) (x.node == n) (sym (list_any-append (λ y. y.node == n) old (x ∷ [])) ∙ f)

    was : (n : ℕ) → has_node n (old ++ x ∷ []) ≡ false → has_node n old ≡ false
    was n f = (both_parts n f).0

    grown : (n : ℕ) → has_node n (old ++ x ∷ []) ≡ false → has_node n (new ++ x ∷ []) ≡ false
    grown n f = list_any-append (λ y. y.node == n) new (x ∷ []) ∙ (ap (λ b. b || ((x.node == n) || false)) (fewer n (was n f)) ∙ (both_parts n f).1)

    step : (b : Bool) → each_follows is_other_node (new ++ x ∷ []) (filter p xs) ≡ true → each_follows is_other_node new (filter p xs) ≡ true → each_follows is_other_node new (cond b (x ∷ filter p xs) (filter p xs)) ≡ true
    step true f g = both (is_other_node new x) (each_follows is_other_node (new ++ x ∷ []) (filter p xs)) (ap not (fewer x.node (not_false (has_node x.node old) m.0))) f
    step false f g = g

pub different_filter : (p : Incarnation → Bool) (xs : List Incarnation) → are_of_different_nodes xs ≡ true → are_of_different_nodes (filter p xs) ≡ true
different_filter p xs e = different_kept p [] [] xs (λ n f. f) e

pub same_both : (x y w : Incarnation) → is_same x w ≡ true → is_same y w ≡ true → is_same x y ≡ true
same_both x y w e f =
    let a : ((x.node == w.node) ≡ true) × ((x.number == w.number) ≡ true) = and_both (x.node == w.node) (x.number == w.number) e in
    let b : ((y.node == w.node) ≡ true) × ((y.number == w.number) ≡ true) = and_both (y.node == w.node) (y.number == w.number) f in
    both (x.node == y.node) (x.number == y.number)
    (number_itself x.node y.node (same_number x.node w.node a.0 ∙ sym (same_number y.node w.node b.0)))
    (number_itself x.number y.number (same_number x.number w.number a.1 ∙ sym (same_number y.number w.number b.1)))

-- the same incarnation as one that is the same as another
same_as : (x y z : Incarnation) → is_same y z ≡ true → is_same x z ≡ true → is_same x y ≡ true
same_as x y z e f = same_both x y z f e

pub among_fewer : (x y : Incarnation) (live : List Incarnation) → is_same x y ≡ false → is_among x (without y live) ≡ is_among x live
among_fewer x y [] other = refl
among_fewer x y (z ∷ zs) other = step (is_same y z) refl (among_fewer x y zs other)
  where
    no : (b : Bool) → is_same x z ≡ b → is_same y z ≡ true → is_same x z ≡ false
    no true e f = absurd (true_is_not_false (sym (same_as x y z f e) ∙ other))
    no false e f = e

    step : (b : Bool) → is_same y z ≡ b → is_among x (without y zs) ≡ is_among x zs → is_among x (cond (not b) (z ∷ without y zs) (without y zs)) ≡ (is_same x z || is_among x zs)
    step true e rest = rest ∙ ap (λ b. b || is_among x zs) (sym (no (is_same x z) refl e))
    step false e rest = ap (λ b. is_same x z || b) rest

pub turned : (x y : Incarnation) → is_same x y ≡ false → is_same y x ≡ false
turned x y e = at (is_same y x) refl
  where
    at : (b : Bool) → is_same y x ≡ b → is_same y x ≡ false
    at true t = absurd (true_is_not_false (sym (itself_is x y (sym (same_is y x t))) ∙ e))
    at false t = t

abbrev pub differ : List Incarnation → Bool
differ [] = true
differ (x ∷ xs) = not (is_among x xs) && differ xs

not_among_push : (x r : Incarnation) (xs : List Incarnation) → is_among x xs ≡ false → is_same x r ≡ false → is_among x (xs ++ r ∷ []) ≡ false
not_among_push x r [] e f = ap (λ b. b || false) f
not_among_push x r (y ∷ ys) e f =
    let m : (is_same x y ≡ false) × (is_among x ys ≡ false) = or_both (is_same x y) (is_among x ys) e in
    ap (λ b. b || is_among x (ys ++ r ∷ [])) m.0 ∙ not_among_push x r ys m.1 f

pub differ_push : (xs : List Incarnation) (r : Incarnation) → differ xs ≡ true → is_among r xs ≡ false → differ (xs ++ r ∷ []) ≡ true
differ_push [] r e new = refl
differ_push (x ∷ xs) r e new =
    let m : (not (is_among x xs) ≡ true) × (differ xs ≡ true) = and_both (not (is_among x xs)) (differ xs) e in
    let n : (is_same r x ≡ false) × (is_among r xs ≡ false) = or_both (is_same r x) (is_among r xs) new in
    both (not (is_among x (xs ++ r ∷ []))) (differ (xs ++ r ∷ [])) (not_of (is_among x (xs ++ r ∷ [])) (not_among_push x r xs (of_not (is_among x xs) m.0) (turned r x n.0))) (differ_push xs r m.1 n.1)

not_among_filter : (p : Incarnation → Bool) (x : Incarnation) (xs : List Incarnation) → is_among x xs ≡ false → is_among x (filter p xs) ≡ false
not_among_filter p x [] e = refl
not_among_filter p x (y ∷ ys) e = step (p y) (not_among_filter p x ys (or_both (is_same x y) (is_among x ys) e).1)
  where
    step : (b : Bool) → is_among x (filter p ys) ≡ false → is_among x (cond b (y ∷ filter p ys) (filter p ys)) ≡ false
    step true h = ap (λ b. b || is_among x (filter p ys)) (or_both (is_same x y) (is_among x ys) e).0 ∙ h
    step false h = h

pub differ_filter : (p : Incarnation → Bool) (xs : List Incarnation) → differ xs ≡ true → differ (filter p xs) ≡ true
differ_filter p [] e = refl
differ_filter p (x ∷ xs) e = step (p x) (differ_filter p xs (and_both (not (is_among x xs)) (differ xs) e).1)
  where
    step : (b : Bool) → differ (filter p xs) ≡ true → differ (cond b (x ∷ filter p xs) (filter p xs)) ≡ true
    step true h = both (not (is_among x (filter p xs))) (differ (filter p xs)) (not_of (is_among x (filter p xs)) (not_among_filter p x xs (of_not (is_among x xs) (and_both (not (is_among x xs)) (differ xs) e).0))) h
    step false h = h

-- those that are left are registered still
pub left_among : (r : Incarnation) (regs rs : List Incarnation) → list_all (λ x. is_among x regs) rs ≡ true → is_among r rs ≡ false → list_all (λ x. is_among x (without r regs)) rs ≡ true
left_among r regs [] e new = refl
left_among r regs (x ∷ xs) e new =
    let m : (is_among x regs ≡ true) × (list_all (λ x. is_among x regs) xs ≡ true) = and_both (is_among x regs) (list_all (λ x. is_among x regs) xs) e in
    let n : (is_same r x ≡ false) × (is_among r xs ≡ false) = or_both (is_same r x) (is_among r xs) new in
    both (is_among x (without r regs)) (list_all (λ x. is_among x (without r regs)) xs) (among_fewer x r regs (turned r x n.0) ∙ m.0) (left_among r regs xs m.1 n.1)
