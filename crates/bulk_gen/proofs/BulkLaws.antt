-- The script of a number is one that a charter may be made of.
use Rattle.std.proofs.Common.{◌≡◌, ℕ, zero, suc, ◌+◌, ◌-◌, ◌*◌, ◌<◌, ◌≤◌, Bool, true, false, List, [], ◌∷◌, ◌++◌, length, refl, sym, ap, ap₂, subst, ◌∙◌, arith, length-append}
use Rattle.std.specs.Prelude.{◌==◌, ◌&&◌, ◌||◌, if◌then◌else◌, fold, map, nat_le, Option, Some, None}
use Rattle.std.specs.List.{list_all, list_any, flat_map, IsDistinct}
use Rattle.std.specs.List.Sorted.{IsStrictlySortedBy}
use Rattle.std.specs.declared.cmp.Ordering.{Ordering}
use Rattle.std.specs.declared.cmp.Ordering.TheVariants.{Less, Equal, Greater}
use Rattle.std.specs.Ordering.{match_ordering, eq_by_cmp}
use Rattle.std.specs.Cmp.{eq_by_cmp_equiv}
use Rattle.std.specs.Cmp.Lexicographic.{nat_list_cmp_total, nat_list_eq_equiv, texts_ties}
use Rattle.std.specs.BTreeSet.{insert_key}
use Rattle.std.proofs.lemmas.List.{append_assoc, length-map, map-append}
use Rattle.std.proofs.lemmas.List.Folds.{list_any-append}
use Rattle.std.proofs.lemmas.Map.Keys.{IsDistinct-from_sorted, IsDistinct-push}
use Rattle.std.proofs.lemmas.Map.Made.{length-le_from_is_member}
use Rattle.yard_model.specs.declared.charter.Line.{Line}
use Rattle.yard_model.specs.declared.charter.Order.{Order}
use Rattle.yard_model.specs.declared.charter.Order.TheVariants as order
use Rattle.yard_model.specs.declared.event.Command.TheVariants as command
use Rattle.yard_model.specs.Behaviour.{is_in}
use Rattle.yard_model.specs.Script.{IsScript, Pair, brought, is_name, is_order, is_pair, names_in, pairs_in, with_brought, with_name_of, with_pair}
use Rattle.yard_model.specs.Words.{numbers}
use Rattle.plain_laws.proofs.Booleans.{and_both, both, left_of, right_of, within, all_map, same_name}
use Rattle.plain_laws.proofs.Lists.{all_join}
use Rattle.plain_laws.proofs.Names.{name_cmp, name_itself, inserted_sorted}
use Rattle.rand_pcg.specs.Lcg.{Lcg}
use Rattle.bulk_gen.specs.Bulk.{bulk_config, bulk_orders, bulk_script, crashed, draw, drawn, entity, lines_from, of_kind, one_drawn, one_to, opening, passivated, rebalanced, seeded, sent, taken, ticked, with_lines}
use Rattle.bulk_gen.proofs.DrawLaws.{all_below, draw_below}

abbrev all_entities : List (List ℕ)
all_entities = map entity (numbers 0 64)

-- one of the 64 names
abbrev inside : List ℕ → Bool
inside e = list_any (is_name e) all_entities

abbrev brings : Option (List ℕ) → Bool
brings None = true
brings (Some e) = inside e

abbrev from_four : Order → Bool
from_four (order.Send p e c) = list_any (λ q. p == q) (numbers 1 4)
from_four o = true

-- an order that the script may have
abbrev fits : Order → Bool
fits o = is_order bulk_config o && (brings (brought o) && from_four o)

abbrev on_line : Line → Bool
on_line l = fits l.order

-- Each order fits.

one_in : (k d : ℕ) → d < k → is_in 1 k (1 + d) ≡ true
one_in k d h = both (nat_le 1 (1 + d)) (nat_le (1 + d) k) (within 1 (1 + d) (omega arith)) (within (1 + d) k (omega arith))

in_row : (f : ℕ → List ℕ) (a n i : ℕ) → i < n → list_any (is_name (f (a + i))) (map f (numbers a n)) ≡ true
in_row f a zero i h = absurd (omega arith)
in_row f a (suc n) zero h =
    subst (λ k. list_any (is_name (f k)) (map f (numbers a (suc n))) ≡ true) (omega arith) (left_of (is_name (f a) (f a)) (list_any (is_name (f a)) (map f (numbers (a + 1) n))) (name_itself (f a)))
in_row f a (suc n) (suc i) h =
    right_of (is_name (f (a + suc i)) (f a)) (list_any (is_name (f (a + suc i))) (map f (numbers (a + 1) n)))
    (subst (λ k. list_any (is_name (f k)) (map f (numbers (a + 1) n)) ≡ true) (omega arith) (in_row f (a + 1) n i (omega arith)))

entity_inside : (d : ℕ) → d < 64 → inside (entity d) ≡ true
entity_inside d h = subst (λ k. inside (entity k) ≡ true) (omega arith) (in_row entity 0 64 d h)

four_in : (d : ℕ) → d < 4 → list_any (λ q. (1 + d) == q) (numbers 1 4) ≡ true
four_in d h = all_below (λ i. list_any (λ q. (1 + i) == q) (numbers 1 4)) 4 d refl h

one : (o : Order) → fits o ≡ true → list_all fits (o ∷ []) ≡ true
one o h = both (fits o) true h refl

two : (o q : Order) → fits o ≡ true → fits q ≡ true → list_all fits (o ∷ q ∷ []) ≡ true
two o q h k = both (fits o) (list_all fits (q ∷ [])) h (one q k)

-- an order with one number from 1 to k, that brings nothing
plain : (b : Bool) → b ≡ true → (b && (true && true)) ≡ true
plain b h = both b true h refl

below : (k : ℕ) (g : Lcg) → 0 < k → is_in 1 k (one_to k g).0 ≡ true
below k g h = one_in k (draw k g).0 (draw_below k g h)

sent_fits : (g : Lcg) → list_all fits (sent g).0 ≡ true
sent_fits g =
    let h = (draw 4 g).1 in
    let i = (draw 64 h).1 in
    two (order.Send (one_to 4 g).0 (entity (draw 64 h).0) (command.Add (one_to 1000 i).0)) (order.Pump 8)
    (both (is_in 1 4 (one_to 4 g).0 && is_in 1 1000 (one_to 1000 i).0) (inside (entity (draw 64 h).0) && list_any (λ q. (one_to 4 g).0 == q) (numbers 1 4))
    (both (is_in 1 4 (one_to 4 g).0) (is_in 1 1000 (one_to 1000 i).0) (below 4 g (omega arith)) (below 1000 i (omega arith)))
    (both (inside (entity (draw 64 h).0)) (list_any (λ q. (one_to 4 g).0 == q) (numbers 1 4)) (entity_inside (draw 64 h).0 (draw_below 64 h (omega arith))) (four_in (draw 4 g).0 (draw_below 4 g (omega arith)))))
    refl

ticked_fits : (g : Lcg) → list_all fits (ticked g).0 ≡ true
ticked_fits g = two (order.Tick (one_to 4 g).0) (order.Pump 32) (plain (is_in 1 4 (one_to 4 g).0) (below 4 g (omega arith))) refl

rebalanced_fits : (g : Lcg) → list_all fits (rebalanced g).0 ≡ true
rebalanced_fits g =
    let few : (draw 3 g).0 < 3 = draw_below 3 g (omega arith) in
    one (order.Rebalance (one_to 3 g).0) (plain (is_in 1 128 (one_to 3 g).0) (one_in 128 (draw 3 g).0 (omega (arith, few))))

crashed_fits : (g : Lcg) → list_all fits (crashed g).0 ≡ true
crashed_fits g =
    let node = plain (is_in 1 4 (one_to 4 g).0) (below 4 g (omega arith)) in
    two (order.Crash (one_to 4 g).0) (order.Up (one_to 4 g).0) node node

passivated_fits : (g : Lcg) → list_all fits (passivated g).0 ≡ true
passivated_fits g = one (order.Passivate (entity (draw 64 g).0)) (both (inside (entity (draw 64 g).0)) true (entity_inside (draw 64 g).0 (draw_below 64 g (omega arith))) refl)

taken_fits : (g : Lcg) → list_all fits (taken g).0 ≡ true
taken_fits g =
    let h = (draw 4 g).1 in
    one (order.Produce (one_to 4 g).0 (one_to 4 h).0)
    (plain (is_in 1 4 (one_to 4 g).0 && is_in 1 4 (one_to 4 h).0) (both (is_in 1 4 (one_to 4 g).0) (is_in 1 4 (one_to 4 h).0) (below 4 g (omega arith)) (below 4 h (omega arith))))

kind_fits : (w : ℕ) (g : Lcg) → list_all fits (of_kind w g).0 ≡ true
kind_fits w g = by (nat_le w 8) (nat_le w 11) (w == 12) (w == 13) (w == 14)
  where
    by : (a b c d e : Bool) → list_all fits (if a then sent g else if b then ticked g else if c then rebalanced g else if d then crashed g else if e then passivated g else taken g).0 ≡ true
    by true b c d e = sent_fits g
    by false true c d e = ticked_fits g
    by false false true d e = rebalanced_fits g
    by false false false true e = crashed_fits g
    by false false false false true = passivated_fits g
    by false false false false false = taken_fits g

drawn_fits : (n : ℕ) (g : Lcg) → list_all fits (drawn n g) ≡ true
drawn_fits zero g = refl
drawn_fits (suc n) g = all_join fits (one_drawn g).0 (drawn n (one_drawn g).1) (kind_fits (draw 16 g).0 (draw 16 g).1) (drawn_fits n (one_drawn g).1)

bulk_fits : (n : ℕ) → list_all fits (bulk_orders n) ≡ true
bulk_fits n = all_join fits opening (drawn (6 * n) (seeded n) ++ order.Settle ∷ []) refl (all_join fits (drawn (6 * n) (seeded n)) (order.Settle ∷ []) (drawn_fits (6 * n) (seeded n)) refl)

lines_fit : (n : ℕ) (os : List Order) → list_all fits os ≡ true → list_all on_line (lines_from n os) ≡ true
lines_fit n [] h = refl
lines_fit n (o ∷ os) h = let parts = and_both (fits o) (list_all fits os) h in both (fits o) (list_all on_line (lines_from (n + 1) os)) parts.0 (lines_fit (n + 1) os parts.1)

-- How many there are.

kind_few : (w : ℕ) (g : Lcg) → length (of_kind w g).0 ≤ 2
kind_few w g = by (nat_le w 8) (nat_le w 11) (w == 12) (w == 13) (w == 14)
  where
    by : (a b c d e : Bool) → length (if a then sent g else if b then ticked g else if c then rebalanced g else if d then crashed g else if e then passivated g else taken g).0 ≤ 2
    by true b c d e = omega arith
    by false true c d e = omega arith
    by false false true d e = omega arith
    by false false false true e = omega arith
    by false false false false true = omega arith
    by false false false false false = omega arith

drawn_few : (n : ℕ) (g : Lcg) → length (drawn n g) ≤ 2 * n
drawn_few zero g = omega arith
drawn_few (suc n) g = omega (arith, length-append (one_drawn g).0 (drawn n (one_drawn g).1), kind_few (draw 16 g).0 (draw 16 g).1, drawn_few n (one_drawn g).1)

pub bulk_few : (n : ℕ) → n ≤ 1000 → length (bulk_orders n) ≤ 3000000
bulk_few n h =
    let ten : length opening ≡ 10 = refl in
    omega (arith, ten, length-append opening (drawn (6 * n) (seeded n) ++ order.Settle ∷ []), length-append (drawn (6 * n) (seeded n)) (order.Settle ∷ []), drawn_few (6 * n) (seeded n))

lines_length : (n : ℕ) (os : List Order) → length (lines_from n os) ≡ length os
lines_length n [] = refl
lines_length n (o ∷ os) = ap suc (lines_length (n + 1) os)

-- orders on lines after lines, in two parts
lines_join : (n : ℕ) (xs ys : List Order) → lines_from n (xs ++ ys) ≡ lines_from n xs ++ lines_from (n + length xs) ys
lines_join n [] ys = ap (λ k. lines_from k ys) (omega arith)
lines_join n (x ∷ xs) ys =
    let there : (n + 1) + length xs ≡ n + length (x ∷ xs) = omega arith in
    ap (λ ls. record { number = n; order = x } ∷ ls) (lines_join (n + 1) xs ys ∙ ap (λ k. lines_from (n + 1) xs ++ lines_from k ys) there)

pub lines_with : (ls : List Line) (os : List Order) → length (with_lines ls os) ≡ length ls + length os
lines_with ls os = length-append ls (lines_from (2 + length ls) os) ∙ ap (λ k. length ls + k) (lines_length (2 + length ls) os)

pub with_both : (ls : List Line) (xs ys : List Order) → with_lines (with_lines ls xs) ys ≡ with_lines ls (xs ++ ys)
with_both ls xs ys =
    let there : 2 + length (with_lines ls xs) ≡ (2 + length ls) + length xs = ap (λ k. 2 + k) (lines_with ls xs) ∙ omega arith in
    append_assoc ls (lines_from (2 + length ls) xs) (lines_from (2 + length (with_lines ls xs)) ys)
    ∙ ap (λ k. ls ++ (lines_from (2 + length ls) xs ++ lines_from k ys)) there
    ∙ ap (λ rest. ls ++ rest) (sym (lines_join (2 + length ls) xs ys))

-- one drawing less is left
pub drawn_more : (start done after : List Line) (os : List Order) (g h : Lcg) (i n : ℕ) → i < n → after ≡ with_lines done (one_drawn g).0 → h ≡ (one_drawn g).1
    → with_lines done (drawn (n - i) g) ≡ with_lines start os → with_lines after (drawn (n - (i + 1)) h) ≡ with_lines start os
drawn_more start done after os g h i n l a r w =
    let less : n - i ≡ suc (n - (i + 1)) = omega arith in
    ap₂ (λ ls x. with_lines ls (drawn (n - (i + 1)) x)) a r ∙ (with_both done (one_drawn g).0 (drawn (n - (i + 1)) (one_drawn g).1) ∙ (ap (λ k. with_lines done (drawn k g)) (sym less) ∙ w))

-- a drawing brings two lines at most
pub lines_few : (done after : List Line) (g : Lcg) → after ≡ with_lines done (one_drawn g).0 → length after ≤ length done + 2
lines_few done after g a = let many : length after ≡ length done + length (one_drawn g).0 = ap length a ∙ lines_with done (one_drawn g).0 in omega (arith, many, kind_few (draw 16 g).0 (draw 16 g).1)

-- the orders of a number, in three parts
pub bulk_parts : (start first after whole : List Line) (n : ℕ) → start ≡ [] → first ≡ with_lines start opening → after ≡ with_lines first (drawn (6 * n) (seeded n))
    → whole ≡ with_lines after (order.Settle ∷ []) → whole ≡ lines_from 2 (bulk_orders n)
bulk_parts start first after whole n s f a w =
    w ∙ (ap (λ ls. with_lines ls (order.Settle ∷ [])) (a ∙ ap (λ ls. with_lines ls (drawn (6 * n) (seeded n))) (f ∙ ap (λ ls. with_lines ls opening) s))
    ∙ (ap (λ ls. with_lines ls (order.Settle ∷ [])) (with_both [] opening (drawn (6 * n) (seeded n))) ∙ (with_both [] (opening ++ drawn (6 * n) (seeded n)) (order.Settle ∷ [])
    ∙ ap (with_lines []) (append_assoc opening (drawn (6 * n) (seeded n)) (order.Settle ∷ [])))))

-- one line more after the drawings
pub bulk_room : (start first after : List Line) (n : ℕ) → n ≤ 1000 → start ≡ [] → first ≡ with_lines start opening → after ≡ with_lines first (drawn (6 * n) (seeded n))
    → length after + 1 ≤ 3000000
bulk_room start first after n h s f a =
    let none : length start ≡ 0 = ap length s in
    let ten : length first ≡ length start + 10 = ap length f ∙ lines_with start opening in
    let rest : length after ≡ length first + length (drawn (6 * n) (seeded n)) = ap length a ∙ lines_with first (drawn (6 * n) (seeded n)) in
    omega (arith, h, none, ten, rest, drawn_few (6 * n) (seeded n))

-- The names are some of the 64.

all_inserted : (p : List ℕ → Bool) (k : List ℕ) (xs : List (List ℕ)) → p k ≡ true → list_all p xs ≡ true → list_all p (insert_key name_cmp xs k) ≡ true
all_inserted p k [] h a = both (p k) true h refl
all_inserted p k (x ∷ xs) h a = by (name_cmp k x) (and_both (p x) (list_all p xs) a) (all_inserted p k xs h (and_both (p x) (list_all p xs) a).1)
  where
    by : (r : Ordering) → (p x ≡ true) × (list_all p xs ≡ true) → list_all p (insert_key name_cmp xs k) ≡ true → list_all p (match_ordering r (k ∷ x ∷ xs) (x ∷ xs) (x ∷ insert_key name_cmp xs k)) ≡ true
    by Less parts rest = both (p k) (list_all p (x ∷ xs)) h a
    by Equal parts rest = a
    by Greater parts rest = both (p x) (list_all p (insert_key name_cmp xs k)) parts.0 rest

names_inside : (ls : List Line) (names : List (List ℕ)) → list_all on_line ls ≡ true → list_all inside names ≡ true → list_all inside (fold with_name_of names ls) ≡ true
names_inside [] names f h = h
names_inside (l ∷ ls) names f h =
    let parts = and_both (on_line l) (list_all on_line ls) f in
    let brought_one = (and_both (brings (brought l.order)) (from_four l.order) (and_both (is_order bulk_config l.order) (brings (brought l.order) && from_four l.order) parts.0).1).0 in
    names_inside ls (with_name_of names l) parts.1 (by (brought l.order) brought_one)
  where
    by : (o : Option (List ℕ)) → brings o ≡ true → list_all inside (with_brought names o) ≡ true
    by None b = h
    by (Some e) b = all_inserted inside e names b h

names_sorted : (ls : List Line) (names : List (List ℕ)) → IsStrictlySortedBy name_cmp names → IsStrictlySortedBy name_cmp (fold with_name_of names ls)
names_sorted [] names h = h
names_sorted (l ∷ ls) names h = names_sorted ls (with_name_of names l) (by (brought l.order))
  where
    by : (o : Option (List ℕ)) → IsStrictlySortedBy name_cmp (with_brought names o)
    by None = h
    by (Some e) = inserted_sorted e names h

none_sorted : IsStrictlySortedBy name_cmp []
unfolding IsStrictlySortedBy
none_sorted = tt

found : (p : List ℕ → Bool) (q : List ℕ) (xs : List (List ℕ)) → list_all p xs ≡ true → list_any (is_name q) xs ≡ true → p q ≡ true
found p q [] a h = cc
found p q (x ∷ xs) a h = by (is_name q x) refl h (and_both (p x) (list_all p xs) a) (found p q xs)
  where
    by : (b : Bool) → is_name q x ≡ b → (b || list_any (is_name q) xs) ≡ true → (p x ≡ true) × (list_all p xs ≡ true) → (list_all p xs ≡ true → list_any (is_name q) xs ≡ true → p q ≡ true) → p q ≡ true
    by true e k parts rest = ap p (same_name q x e) ∙ parts.0
    by false e k parts rest = rest parts.1 k

any_tied : (q : List ℕ) (xs : List (List ℕ)) → list_any (is_name q) xs ≡ list_any (eq_by_cmp name_cmp q) xs
any_tied q [] = refl
any_tied q (x ∷ xs) = ap₂ (λ a b. a || b) (texts_ties q x) (any_tied q xs)

names_few : (ls : List Line) → list_all on_line ls ≡ true → length (names_in ls) ≤ 1000
names_few ls f =
    let kept : list_all inside (names_in ls) ≡ true = names_inside ls [] f refl in
    let few : length (names_in ls) ≤ length all_entities =
    length-le_from_is_member (eq_by_cmp_equiv nat_list_cmp_total) (names_in ls) all_entities (IsDistinct-from_sorted name_cmp (names_in ls) (names_sorted ls [] none_sorted))
    (λ q m. sym (any_tied q all_entities) ∙ found inside q (names_in ls) kept (any_tied q (names_in ls) ∙ m)) in
    let many : length all_entities ≡ 64 = refl in
    omega (arith, few, many)

-- The pairs are some of 256.

abbrev code : Pair → List ℕ
code x = x.producer ∷ x.entity

abbrev all_pairs : List (List ℕ)
all_pairs = flat_map (λ p. map (λ e. p ∷ e) all_entities) (numbers 1 4)

abbrev paired : List ℕ → Bool
paired c = list_any (is_name c) all_pairs

any_after : (p q : ℕ) (e : List ℕ) (xs : List (List ℕ)) → (p == q) ≡ true → list_any (is_name (p ∷ e)) (map (λ x. q ∷ x) xs) ≡ list_any (is_name e) xs
any_after p q e [] h = refl
any_after p q e (x ∷ xs) h = ap₂ (λ a b. (a && is_name e x) || b) h (any_after p q e xs h)

in_pairs : (p : ℕ) (e : List ℕ) (ps : List ℕ) (xs : List (List ℕ)) → list_any (λ q. p == q) ps ≡ true → list_any (is_name e) xs ≡ true → list_any (is_name (p ∷ e)) (flat_map (λ q. map (λ x. q ∷ x) xs) ps) ≡ true
in_pairs p e [] xs h k = cc
in_pairs p e (q ∷ qs) xs h k =
    list_any-append (is_name (p ∷ e)) (map (λ x. q ∷ x) xs) (flat_map (λ r. map (λ x. r ∷ x) xs) qs) ∙ by (p == q) refl h (in_pairs p e qs xs)
  where
    here : Bool
    here = list_any (is_name (p ∷ e)) (map (λ x. q ∷ x) xs)

    rest : Bool
    rest = list_any (is_name (p ∷ e)) (flat_map (λ r. map (λ x. r ∷ x) xs) qs)

    by : (b : Bool) → (p == q) ≡ b → (b || list_any (λ r. p == r) qs) ≡ true → (list_any (λ r. p == r) qs ≡ true → list_any (is_name e) xs ≡ true → rest ≡ true) → (here || rest) ≡ true
    by true s t r = left_of here rest (any_after p q e xs s ∙ k)
    by false s t r = right_of here rest (r t k)

any_code : (p : ℕ) (e : List ℕ) (pairs : List Pair) → list_any (is_name (p ∷ e)) (map code pairs) ≡ list_any (is_pair p e) pairs
any_code p e [] = refl
any_code p e (x ∷ xs) = ap₂ (λ a b. a || b) (nat_list_eq_equiv.symm (p ∷ e) (code x)) (any_code p e xs)

-- different pairs, each of them one of 256
record Kept (pairs : List Pair) : Type 0 where
  differ : IsDistinct is_name (map code pairs)
  paired : list_all paired (map code pairs) ≡ true

pair_kept : (pairs : List Pair) (o : Order) → fits o ≡ true → Kept pairs → Kept (with_pair pairs o)
pair_kept pairs (order.Send p e c) f k =
    let parts = and_both (inside e) (list_any (λ q. p == q) (numbers 1 4)) (and_both (is_order bulk_config (order.Send p e c)) (inside e && list_any (λ q. p == q) (numbers 1 4)) f).1 in
    by (list_any (is_pair p e) pairs) refl (in_pairs p e (numbers 1 4) all_entities parts.1 parts.0)
  where
    by : (b : Bool) → list_any (is_pair p e) pairs ≡ b → paired (p ∷ e) ≡ true → Kept (if b then pairs else pairs ++ record { producer = p; entity = e } ∷ [])
    by true t h = k
    by false t h =
        let more : map code (pairs ++ record { producer = p; entity = e } ∷ []) ≡ map code pairs ++ (p ∷ e) ∷ [] = map-append code pairs (record { producer = p; entity = e } ∷ []) in
        record {
          differ = subst (IsDistinct is_name) (sym more) (IsDistinct-push nat_list_eq_equiv (map code pairs) (p ∷ e) k.differ (any_code p e pairs ∙ t));
          paired = ap (list_all paired) more ∙ all_join paired (map code pairs) ((p ∷ e) ∷ []) k.paired (both (paired (p ∷ e)) true h refl);
        }
pair_kept pairs (order.Up n) f k = k
pair_kept pairs (order.Crash n) f k = k
pair_kept pairs (order.Leave n) f k = k
pair_kept pairs (order.Tick n) f k = k
pair_kept pairs (order.Produce p n) f k = k
pair_kept pairs (order.Rest p) f k = k
pair_kept pairs (order.Passivate e) f k = k
pair_kept pairs (order.FailWrite e x) f k = k
pair_kept pairs (order.Deliver n) f k = k
pair_kept pairs (order.Pump n) f k = k
pair_kept pairs (order.Rebalance n) f k = k
pair_kept pairs order.Settle f k = k
pair_kept pairs (order.Reshard n) f k = k
pair_kept pairs order.Upgrade f k = k
pair_kept pairs (order.Ping p) f k = k

pairs_kept : (ls : List Line) (pairs : List Pair) → list_all on_line ls ≡ true → Kept pairs → Kept (fold (λ (ps : List Pair) (l : Line). with_pair ps l.order) pairs ls)
pairs_kept [] pairs f k = k
pairs_kept (l ∷ ls) pairs f k =
    let parts = and_both (on_line l) (list_all on_line ls) f in
    pairs_kept ls (with_pair pairs l.order) parts.1 (pair_kept pairs l.order parts.0 k)

no_pairs : Kept []
unfolding IsDistinct
no_pairs = record { differ = tt; paired = refl }

pairs_few : (ls : List Line) → list_all on_line ls ≡ true → length (pairs_in ls) ≤ 4000
pairs_few ls f =
    let k : Kept (pairs_in ls) = pairs_kept ls [] f no_pairs in
    let few : length (map code (pairs_in ls)) ≤ length all_pairs = length-le_from_is_member nat_list_eq_equiv (map code (pairs_in ls)) all_pairs k.differ (λ q m. found paired q (map code (pairs_in ls)) k.paired m) in
    let many : length all_pairs ≡ 256 = refl in
    omega (arith, few, many, length-map (pairs_in ls) code)

pub is_bulk : (n : ℕ) → n ≤ 1000 → IsScript (bulk_script n)
is_bulk n h =
    let lines = lines_from 2 (bulk_orders n) in
    let fit : list_all on_line lines ≡ true = lines_fit 2 (bulk_orders n) (bulk_fits n) in
    record {
      config = refl;
      orders = all_map on_line (λ (l : Line). is_order bulk_config l.order) (λ l f. (and_both (is_order bulk_config l.order) (brings (brought l.order) && from_four l.order) f).0) lines fit;
      names = names_few lines fit;
      pairs = pairs_few lines fit;
      fits = let same : length lines ≡ length (bulk_orders n) = lines_length 2 (bulk_orders n) in omega (arith, same, bulk_few n h);
    }
