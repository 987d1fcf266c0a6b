-- The members' numbers by their nodes: one member more.
use Rattle.std.proofs.Common.{◌⊎◌, inl, inr, ◌≡◌, ◌≢◌, ◌<◌, ◌≤◌, ℕ, zero, suc, ◌+◌, ◌-◌, sym, ap, ◌∙◌, arith, refl, subst, true≢false, append_assoc}
use Rattle.std.specs.Prelude.{IsTrue, Bool, true, false, not, ◌&&◌, ◌||◌, ◌==◌, List, [], ◌∷◌, ◌++◌, Some, take, length, slice_get, slice_set, slice_index_or}
use Rattle.std.proofs.lemmas.Bool.{cases_eq}
use Rattle.std.proofs.lemmas.Bool.Decides.{Decides-eqb}
use Rattle.std.proofs.lemmas.List.{append-nil, length-set, get_or-set_same, get_or-set_other, take_more}
use Rattle.std.proofs.lemmas.List.Folds.{list_any-append}
use Rattle.std.proofs.lemmas.Option.{slice_get_within, get_or_from_slice_get, none-some, same_Some}
use Rattle.yard_model.specs.Follow.{each_follows}
use Rattle.yard_model.specs.Words.{is_same, is_among}
use Rattle.yard_model.specs.declared.incarnation.Incarnation.{Incarnation}
use Rattle.yard_model.specs.Members.{has_node, is_other_node, are_of_different_nodes}
use Rattle.membership_view.specs.ByNode.{AreByNode}

-- what a comparison of numbers says
apart : (a b : ℕ) → a ≢ b → (a == b) ≡ false
apart a b other = by (a == b) refl
  where
    by : (t : Bool) → (a == b) ≡ t → (a == b) ≡ false
    by true e = absurd (other ((Decides-eqb a b).0 e))
    by false e = e

same_test : (a b c d : ℕ) → (a ≡ b → c ≡ d) → (c ≡ d → a ≡ b) → (a == b) ≡ (c == d)
same_test a b c d there back = by (cases_eq a b)
  where
    by : (a ≡ b) ⊎ (a ≢ b) → (a == b) ≡ (c == d)
    by (inl e) = (Decides-eqb a b).1 e ∙ sym ((Decides-eqb c d).1 (there e))
    by (inr n) = apart a b n ∙ sym (apart c d (λ e. n (back e)))

or_none : (a b : Bool) → (a || b) ≡ false → (a ≡ false) × (b ≡ false)
or_none true b h = absurd (true≢false h)
or_none false b h = (refl, h)

and_both : (a b : Bool) → (a && b) ≡ true → (a ≡ true) × (b ≡ true)
and_both true b e = (refl, e)
and_both false b e = absurd (true≢false (sym e))

of_not : (b : Bool) → not b ≡ true → b ≡ false
of_not true e = absurd (true≢false (sym e))
of_not false e = refl

or_nothing : (b : Bool) → (b || false) ≡ b
or_nothing true = refl
or_nothing false = refl

-- none of them is of a node that they don't have
none_among : (who : Incarnation) (xs : List Incarnation) → has_node who.node xs ≡ false → is_among who xs ≡ false
none_among who [] h = refl
none_among who (x ∷ xs) h =
    let p : ((x.node == who.node) ≡ false) × (has_node who.node xs ≡ false) = or_none (x.node == who.node) (has_node who.node xs) h in
    let other : (who.node == x.node) ≡ false = same_test who.node x.node x.node who.node sym sym ∙ p.0 in
    ap (λ b. (b && (who.number == x.number)) || is_among who xs) other ∙ none_among who xs p.1

-- a member of a node that had none
one_more : {xs : List Incarnation} {numbers : List ℕ} (m : Incarnation) → AreByNode xs numbers → 0 < m.node → m.node ≤ 16 → has_node m.node xs ≡ false
    → AreByNode (xs ++ m ∷ []) (slice_set numbers (m.node - 1) (m.number + 1))
one_more {xs} {numbers} m k low high none = record {
  size = length-set numbers (m.node - 1) (m.number + 1) ∙ k.size;
  each = λ who some most. by who some most (cases_eq who.node m.node);
}
  where
    within : m.node - 1 < length numbers
    within = let size = k.size in omega (arith, low, high, size)

    more : (who : Incarnation) → is_among who (xs ++ m ∷ []) ≡ (is_among who xs || is_same who m)
    more who = list_any-append (is_same who) xs (m ∷ []) ∙ ap (λ b. is_among who xs || b) (or_nothing (is_same who m))

    by : (who : Incarnation) → 0 < who.node → who.node ≤ 16 → (who.node ≡ m.node) ⊎ (who.node ≢ m.node) → (slice_index_or (slice_set numbers (m.node - 1) (m.number + 1)) (who.node - 1) 0 == who.number + 1) ≡ is_among who (xs ++ m ∷ [])
    by who some most (inl e) =
        let old : is_among who xs ≡ false = none_among who xs (ap (λ n. has_node n xs) e ∙ none) in
        let there : (who.node == m.node) ≡ true = (Decides-eqb who.node m.node).1 e in
        ap (λ n. slice_index_or (slice_set numbers (m.node - 1) (m.number + 1)) (n - 1) 0 == who.number + 1) e
        ∙ (ap (λ n. n == who.number + 1) (get_or-set_same numbers (m.node - 1) (m.number + 1) 0 within)
        ∙ (same_test (m.number + 1) (who.number + 1) who.number m.number (λ e. omega (arith, e)) (λ e. omega (arith, e))
        ∙ sym (more who ∙ (ap (λ b. b || is_same who m) old ∙ ap (λ b. b && (who.number == m.number)) there))))
    by who some most (inr n) =
        let other : is_same who m ≡ false = ap (λ b. b && (who.number == m.number)) (apart who.node m.node n) in
        ap (λ n. n == who.number + 1) (get_or-set_other numbers (m.node - 1) (who.node - 1) (m.number + 1) 0 (λ e. n (omega (arith, e, low, some))))
        ∙ (k.each who some most
        ∙ sym (more who ∙ (ap (λ b. is_among who xs || b) other ∙ or_nothing (is_among who xs))))

-- no member before is of a member's node
different_at : (before xs : List Incarnation) (i : ℕ) (x : Incarnation) → each_follows is_other_node before xs ≡ true → slice_get xs i ≡ Some x → has_node x.node (before ++ take i xs) ≡ false
different_at before [] i x h e = absurd (none-some x e)
different_at before (y ∷ ys) zero x h e =
    let p : not (has_node y.node before) ≡ true = (and_both (is_other_node before y) (each_follows is_other_node (before ++ y ∷ []) ys) h).0 in
    ap (λ (z : Incarnation). has_node z.node (before ++ [])) (sym (same_Some y x e)) ∙ (ap (has_node y.node) (append-nil before) ∙ of_not (has_node y.node before) p)
different_at before (y ∷ ys) (suc i) x h e =
    ap (has_node x.node) (sym (append_assoc before (y ∷ []) (take i ys)))
    ∙ different_at (before ++ y ∷ []) ys i x (and_both (is_other_node before y) (each_follows is_other_node (before ++ y ∷ []) ys) h).1 e

-- the next member of a list
pub next_by_node : {numbers : List ℕ} (xs : List Incarnation) (i : ℕ) (m : Incarnation) → AreByNode (take i xs) numbers → IsTrue (are_of_different_nodes xs) → slice_get xs i ≡ Some m → 0 < m.node → m.node ≤ 16
    → AreByNode (take (i + 1) xs) (slice_set numbers (m.node - 1) (m.number + 1))
next_by_node {numbers} xs i m k different is low high =
    let next : take (i + 1) xs ≡ take i xs ++ m ∷ [] = take_more xs i m (slice_get_within xs i m is) ∙ ap (λ (y : Incarnation). take i xs ++ y ∷ []) (get_or_from_slice_get xs i m m is) in
    subst (λ (l : List Incarnation). AreByNode l (slice_set numbers (m.node - 1) (m.number + 1))) (sym next) (one_more m k low high (different_at [] xs i m different is))
