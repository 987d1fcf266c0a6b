-- Entries that move: who joins, who leaves, and who is there.
use Rattle.std.proofs.Common.{◌⊎◌, inl, inr, ◌≡◌, ◌≢◌, ◌<◌, ◌≤◌, ℕ, zero, suc, ◌+◌, ◌-◌, sym, ap, ◌∙◌, arith, refl, subst, true≢false, get_or, length-take-le}
use Rattle.std.specs.Prelude.{Bool, true, false, cond, not, ◌&&◌, ◌||◌, ◌==◌, ◌↔◌, nat_eq, List, [], ◌∷◌, ◌++◌, Option, Some, IsSome, take, length, map, insert, remove, slice_get, position}
use Rattle.std.specs.List.{IsDistinct, AllByRecursion}
use Rattle.std.specs.Map.{keys_of, values_of, lookup}
use Rattle.std.specs.Option.{option_map, option_map_or}
use Rattle.std.proofs.lemmas.Bool.{eqb-true, eq-eqb, ne_eqb, cases_eq, cases_lt}
use Rattle.std.proofs.lemmas.List.Edits.{length-remove}
use Rattle.std.proofs.lemmas.Map.Keys.{IsDistinct-head, IsDistinct-tail}
use Rattle.std.proofs.lemmas.Map.Made.{IsSome-lookup_same_keys}
use Rattle.std.proofs.lemmas.List.{get_or-map, length-map, take_more}
use Rattle.std.proofs.lemmas.List.Quantifiers.{position-Some}
use Rattle.std.proofs.lemmas.Map.Entries.{length-keys_of}
use Rattle.std.proofs.lemmas.Option.{slice_get_within, slice_get-get_or, slice_get-map, get_or_from_slice_get, none-some, same_Some}
use Rattle.indexmap.specs.IndexMap.{move_index, set_value_at}
use Rattle.yard_model.specs.declared.incarnation.Incarnation.{Incarnation}
use Rattle.yard_model.specs.Members.{has_node}
use Rattle.yard_model.specs.Words.{is_same, without}
use Rattle.members_by_age.specs.Aged.{member_of, members_of, HasNodes}

abbrev Entry : Type 0
Entry = ℕ × ℕ

-- An entry that is moved.

moved_is : (es : List Entry) (from to : ℕ) (x : Entry) → slice_get es from ≡ Some x → move_index es from to ≡ insert (remove es from) to x
moved_is es from to x at = ap (λ (o : Option Entry). option_map_or (λ y. insert (remove es from) to y) o es) at

front_inserted : (es : List Entry) (i : ℕ) (x : Entry) → i ≤ length es → take i (insert es i x) ≡ take i es
front_inserted es zero x h = refl
front_inserted [] (suc i) x h = absurd (omega (arith, h))
front_inserted (e ∷ es) (suc i) x h = ap (λ l. e ∷ l) (front_inserted es i x (omega (arith, h)))

front_removed : (es : List Entry) (p i : ℕ) → i ≤ p → take i (remove es p) ≡ take i es
front_removed es p zero h = refl
front_removed [] zero (suc i) h = refl
front_removed [] (suc p) (suc i) h = refl
front_removed (e ∷ es) zero (suc i) h = absurd (omega (arith, h))
front_removed (e ∷ es) (suc p) (suc i) h = ap (λ l. e ∷ l) (front_removed es p i (omega (arith, h)))

one_more : (es : List Entry) (i : ℕ) (x : Entry) (w : ℕ) → i ≤ length es → take (suc i) (set_value_at (insert es i x) i w) ≡ take i es ++ (x.0, w) ∷ []
one_more es zero x w h = refl
one_more [] (suc i) x w h = absurd (omega (arith, h))
one_more (e ∷ es) (suc i) x w h = ap (λ l. e ∷ l) (one_more es i x w (omega (arith, h)))

-- Who is there.

pub place_at : (es : List Entry) (n i : ℕ) → position (nat_eq n) (keys_of es) ≡ Some i → (k : ℕ) × (slice_get es i ≡ Some (n, k))
place_at es n i e =
    let found = position-Some (nat_eq n) (keys_of es) i 0 e in
    let long = length-keys_of es in
    let less = found.0 in
    let within : i < length es = omega (arith, less, long) in
    let key : n ≡ (get_or es i (0, 0)).0 = eqb-true n _ (found.1) ∙ get_or-map (λ (x : Entry). x.0) es i (0, 0) 0 within in
    ((get_or es i (0, 0)).1, slice_get-get_or es i (0, 0) within ∙ ap (λ m. Some (m, (get_or es i (0, 0)).1)) (sym key))

head_apart : (k : ℕ) (es : List Entry) (i : ℕ) (x : Entry) → AllByRecursion (λ y. nat_eq k y ≡ false) (keys_of es) → slice_get es i ≡ Some x → nat_eq k x.0 ≡ false
head_apart k [] i x h e = absurd (none-some x e)
head_apart k (y ∷ ys) zero x h e = subst (λ (z : Entry). nat_eq k z.0 ≡ false) (same_Some y x e) h.0
head_apart k (y ∷ ys) (suc i) x h e = head_apart k ys i x h.1 e

flipped : (a b : ℕ) → (a == b) ≡ false → (b == a) ≡ false
flipped a b e = ne_eqb b a (λ s. true≢false (sym (eq-eqb a b (sym s)) ∙ e))

pub in_front : (es : List Entry) (p c n k : ℕ) → slice_get es p ≡ Some (n, k) → p < c → has_node n (members_of es c) ≡ true
in_front es p zero n k e h = absurd (omega (arith, h))
in_front [] p (suc c) n k e h = absurd (none-some (n, k) e)
in_front (x ∷ xs) zero (suc c) n k e h =
    let same : (x.0 == n) ≡ true = eq-eqb x.0 n (ap (λ (z : Entry). z.0) (same_Some x (n, k) e)) in
    ap (λ b. b || has_node n (members_of xs c)) same
in_front (x ∷ xs) (suc p) (suc c) n k e h =
    either (x.0 == n) (has_node n (members_of xs c)) (in_front xs p c n k e (omega (arith, h)))
  where
    either : (a b : Bool) → b ≡ true → (a || b) ≡ true
    either true b f = refl
    either false b f = f

none_of : (n : ℕ) (es : List Entry) (c : ℕ) → AllByRecursion (λ y. nat_eq n y ≡ false) (keys_of es) → has_node n (members_of es c) ≡ false
none_of n es zero h = refl
none_of n [] (suc c) h = refl
none_of n (x ∷ xs) (suc c) h = ap (λ b. b || has_node n (members_of xs c)) (flipped n x.0 h.0) ∙ none_of n xs c h.1

pub behind : (es : List Entry) (p c n k : ℕ) → IsDistinct nat_eq (keys_of es) → slice_get es p ≡ Some (n, k) → c ≤ p → has_node n (members_of es c) ≡ false
behind es p zero n k d e h = refl
behind [] p (suc c) n k d e h = refl
behind (x ∷ xs) zero (suc c) n k d e h = absurd (omega (arith, h))
behind (x ∷ xs) (suc p) (suc c) n k d e h =
    let other : (x.0 == n) ≡ false = head_apart x.0 xs p (n, k) (IsDistinct-head nat_eq x.0 (keys_of xs) d) e in
    ap (λ b. b || has_node n (members_of xs c)) other ∙ behind xs p c n k (IsDistinct-tail nat_eq x.0 (keys_of xs) d) e (omega (arith, h))

pub number_at : (es : List Entry) (i n k w : ℕ) → slice_get es i ≡ Some (n, k) → slice_get (values_of es) i ≡ Some w → w ≡ k
number_at es i n k w at e = same_Some w k (sym e ∙ (slice_get-map (λ (x : Entry). x.1) es i ∙ ap (option_map (λ (x : Entry). x.1)) at))

-- One joins.

pub place_behind : (es : List Entry) (p c n k : ℕ) → slice_get es p ≡ Some (n, k) → has_node n (members_of es c) ≡ false → c ≤ p
place_behind es p c n k e none = by (cases_lt p c)
  where
    by : (p < c) ⊎ (c ≤ p) → c ≤ p
    by (inl l) = absurd (true≢false (sym (in_front es p c n k e l) ∙ none))
    by (inr l) = l

members_pushed : (xs : List Entry) (y : Entry) → map member_of (xs ++ y ∷ []) ≡ map member_of xs ++ member_of y ∷ []
members_pushed [] y = refl
members_pushed (x ∷ xs) y = ap (λ l. member_of x ∷ l) (members_pushed xs y)

pub joined : (es fs : List Entry) (p c n k w : ℕ) → slice_get es p ≡ Some (n, k) → c ≤ p → fs ≡ move_index es p c
    → members_of (set_value_at fs c w) (suc c) ≡ members_of es c ++ (record { node = n; number = w }) ∷ []
joined es fs p c n k w e h is =
    let within = slice_get_within es p (n, k) e in
    let len = length-remove es p within in
    let room : c ≤ length (remove es p) = omega (arith, within, len, h) in
    ap (λ (l : List Entry). members_of (set_value_at l c w) (suc c)) (is ∙ moved_is es p c (n, k) e)
    ∙ (ap (map member_of) (one_more (remove es p) c (n, k) w room ∙ ap (λ l. l ++ (n, w) ∷ []) (front_removed es p c h))
    ∙ members_pushed (take c es) (n, w))

-- One leaves.

kept : (who y : Incarnation) (ys : List Incarnation) → is_same who y ≡ false → without who (y ∷ ys) ≡ y ∷ without who ys
kept who y ys e = ap (λ b. cond (not b) (y ∷ without who ys) (without who ys)) e

dropped : (who y : Incarnation) (ys : List Incarnation) → is_same who y ≡ true → without who (y ∷ ys) ≡ without who ys
dropped who y ys e = ap (λ b. cond (not b) (y ∷ without who ys) (without who ys)) e

both_true : (a b : Bool) → a ≡ true → b ≡ true → (a && b) ≡ true
both_true a b e f = ap (λ x. x && b) e ∙ f

right_false : (a b : Bool) → b ≡ false → (a && b) ≡ false
right_false true b e = e
right_false false b e = refl

other_node : (who y : Incarnation) → (y.node == who.node) ≡ false → is_same who y ≡ false
other_node who y e = ap (λ b. b && (who.number == y.number)) (flipped y.node who.node e)

none_goes : (who : Incarnation) (es : List Entry) (c : ℕ) → AllByRecursion (λ y. nat_eq who.node y ≡ false) (keys_of es) → without who (members_of es c) ≡ members_of es c
none_goes who es zero h = refl
none_goes who [] (suc c) h = refl
none_goes who (x ∷ xs) (suc c) h =
    kept who (member_of x) (members_of xs c) (other_node who (member_of x) (flipped who.node x.0 h.0)) ∙ ap (λ l. member_of x ∷ l) (none_goes who xs c h.1)

-- who has another number, or isn't counted
pub stays : (who : Incarnation) (es : List Entry) (p c k : ℕ) → IsDistinct nat_eq (keys_of es) → slice_get es p ≡ Some (who.node, k) → (c ≤ p) ⊎ ((who.number == k) ≡ false)
    → members_of es c ≡ without who (members_of es c)
stays who es p zero k d e o = refl
stays who [] p (suc c) k d e o = refl
stays who (x ∷ xs) zero (suc c) k d e (inl h) = absurd (omega (arith, h))
stays who (x ∷ xs) zero (suc c) k d e (inr h) =
    let it : x ≡ (who.node, k) = same_Some x (who.node, k) e in
    let n : x.0 ≡ who.node = ap (λ (z : Entry). z.0) it in
    let other : is_same who (member_of x) ≡ false = right_false (who.node == x.0) (who.number == x.1) (ap (λ (z : Entry). who.number == z.1) it ∙ h) in
    let rest : AllByRecursion (λ y. nat_eq who.node y ≡ false) (keys_of xs) = subst (λ m. AllByRecursion (λ y. nat_eq m y ≡ false) (keys_of xs)) n (IsDistinct-head nat_eq x.0 (keys_of xs) d) in
    sym (kept who (member_of x) (members_of xs c) other ∙ ap (λ l. member_of x ∷ l) (none_goes who xs c rest))
stays who (x ∷ xs) (suc p) (suc c) k d e o =
    let other : (x.0 == who.node) ≡ false = head_apart x.0 xs p (who.node, k) (IsDistinct-head nat_eq x.0 (keys_of xs) d) e in
    ap (λ l. member_of x ∷ l) (stays who xs p c k (IsDistinct-tail nat_eq x.0 (keys_of xs) d) e (less o))
    ∙ sym (kept who (member_of x) (members_of xs c) (other_node who (member_of x) other))
  where
    less : (suc c ≤ suc p) ⊎ ((who.number == k) ≡ false) → (c ≤ p) ⊎ ((who.number == k) ≡ false)
    less (inl h) = inl (omega (arith, h))
    less (inr h) = inr h

gone : (who : Incarnation) (es : List Entry) (p q k : ℕ) → IsDistinct nat_eq (keys_of es) → slice_get es p ≡ Some (who.node, k) → (who.number == k) ≡ true → p ≤ q
    → members_of (remove es p) q ≡ without who (members_of es (suc q))
gone who [] p q k d e same h = absurd (none-some (who.node, k) e)
gone who (x ∷ xs) zero q k d e same h =
    let it : x ≡ (who.node, k) = same_Some x (who.node, k) e in
    let n : x.0 ≡ who.node = ap (λ (z : Entry). z.0) it in
    let here : is_same who (member_of x) ≡ true = both_true (who.node == x.0) (who.number == x.1) (eq-eqb who.node x.0 (sym n)) (ap (λ (z : Entry). who.number == z.1) it ∙ same) in
    let rest : AllByRecursion (λ y. nat_eq who.node y ≡ false) (keys_of xs) = subst (λ m. AllByRecursion (λ y. nat_eq m y ≡ false) (keys_of xs)) n (IsDistinct-head nat_eq x.0 (keys_of xs) d) in
    sym (dropped who (member_of x) (members_of xs q) here ∙ none_goes who xs q rest)
gone who (x ∷ xs) (suc p) zero k d e same h = absurd (omega (arith, h))
gone who (x ∷ xs) (suc p) (suc q) k d e same h =
    let other : (x.0 == who.node) ≡ false = head_apart x.0 xs p (who.node, k) (IsDistinct-head nat_eq x.0 (keys_of xs) d) e in
    ap (λ l. member_of x ∷ l) (gone who xs p q k (IsDistinct-tail nat_eq x.0 (keys_of xs) d) e same (omega (arith, h)))
    ∙ sym (kept who (member_of x) (members_of xs (suc q)) (other_node who (member_of x) other))

pub left : (who : Incarnation) (es fs : List Entry) (p c k : ℕ) → IsDistinct nat_eq (keys_of es) → slice_get es p ≡ Some (who.node, k) → (who.number == k) ≡ true → p < c → c ≤ length es
    → fs ≡ move_index es p (c - 1) → members_of fs (c - 1) ≡ without who (members_of es c)
left who es fs p zero k d e same h most is = absurd (omega (arith, h))
left who es fs p (suc q) k d e same h most is =
    let within = slice_get_within es p (who.node, k) e in
    let len = length-remove es p within in
    let back : suc q - 1 ≡ q = omega arith in
    let room : q ≤ length (remove es p) = omega (arith, within, len, most) in
    (λ j. members_of ((is ∙ ap (move_index es p) back ∙ moved_is es p q (who.node, k) e) j) (back j))
    ∙ (ap (map member_of) (front_inserted (remove es p) q (who.node, k) room) ∙ gone who es p q k d e same (omega (arith, h)))

-- Each node has an entry.

pub other_order : (last : ℕ) (es fs : List Entry) → ((n : ℕ) → lookup (nat_eq n) fs ≡ lookup (nat_eq n) es) → HasNodes last es → HasNodes last fs
other_order last es fs same has = λ n. subst (λ (o : Option ℕ). IsSome o ↔ ((0 < n) × (n ≤ last))) (sym (same n)) (has n)

pub same_keys : (last : ℕ) (es fs : List Entry) → keys_of fs ≡ keys_of es → HasNodes last es → HasNodes last fs
same_keys last es fs keys has = λ n.
    let s = IsSome-lookup_same_keys (nat_eq n) fs es keys in
    let h = has n in
    (λ f. h.0 (s.0 f), λ w. s.1 (h.1 w))

pub no_nodes : HasNodes 0 []
no_nodes = λ n. (λ s. absurd (true≢false (sym s)), λ h. absurd (omega (arith, h)))

pub next_node : (last : ℕ) (es fs : List Entry) → ((n : ℕ) → lookup (nat_eq n) fs ≡ cond (nat_eq last n) (Some 0) (lookup (nat_eq n) es)) → 0 < last → HasNodes (last - 1) es → HasNodes last fs
next_node last es fs entered some has = λ n. by n (nat_eq last n) refl
  where
    by : (n : ℕ) (b : Bool) → nat_eq last n ≡ b → IsSome (lookup (nat_eq n) fs) ↔ ((0 < n) × (n ≤ last))
    by n true e =
        let it : last ≡ n = eqb-true last n e in
        let there : IsSome (lookup (nat_eq n) fs) = subst IsSome (sym (entered n ∙ ap (λ b. cond b (Some 0) (lookup (nat_eq n) es)) e)) refl in
        (λ _. (omega (arith, it, some), omega (arith, it)), λ _. there)
    by n false e =
        let same : lookup (nat_eq n) fs ≡ lookup (nat_eq n) es = entered n ∙ ap (λ b. cond b (Some 0) (lookup (nat_eq n) es)) e in
        let h = has n in (
          λ f. let r = h.0 (subst IsSome same f) in (r.0, omega (arith, r.1)),
          λ w. subst IsSome (sym same) (h.1 (w.0, below n e w.1)),
        )
      where
        below : (n : ℕ) → nat_eq last n ≡ false → n ≤ last → n ≤ last - 1
        below n e h = by_case (cases_eq last n)
          where
            by_case : (last ≡ n) ⊎ (last ≢ n) → n ≤ last - 1
            by_case (inl s) = absurd (true≢false (sym (eq-eqb last n s) ∙ e))
            by_case (inr o) = omega (arith, h, o)

-- How many.

pub counted : (es : List Entry) (c : ℕ) → c ≤ length es → length (members_of es c) ≡ c
counted es c h = length-map (take c es) member_of ∙ length-take-le c es h

pub member_more : (es : List Entry) (i n k : ℕ) → slice_get es i ≡ Some (n, k) → members_of es (i + 1) ≡ members_of es i ++ (record { node = n; number = k }) ∷ []
member_more es i n k e =
    let within = slice_get_within es i (n, k) e in
    ap (map member_of) (take_more es i (n, k) within ∙ ap (λ x. take i es ++ x ∷ []) (get_or_from_slice_get es i (n, k) (n, k) e))
    ∙ members_pushed (take i es) (n, k)
