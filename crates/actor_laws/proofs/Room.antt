-- Of a view of different nodes of the script there is room for one that isn't registered.
use Rattle.std.proofs.Common.{◌≡◌, ◌<◌, ◌≤◌, ℕ, zero, suc, ◌+◌, sym, ap, ◌∙◌, refl, arith, length}
use Rattle.std.specs.Prelude.{Bool, true, false, ◌==◌, ◌&&◌, ◌||◌, not, nat_le, cond, List, [], ◌∷◌, ◌++◌, map}
use Rattle.std.specs.List.{list_all}
use Rattle.std.proofs.lemmas.List.{length-map}
use Rattle.std.proofs.lemmas.List.Folds.{list_any-append}
use Rattle.std.proofs.lemmas.List.Sums.{length-filter, count_by-le-length}
use Rattle.yard_model.specs.declared.fact.Fact.{Fact}
use Rattle.yard_model.specs.declared.incarnation.Incarnation.{Incarnation}
use Rattle.yard_model.specs.declared.incarnation.Slot.TheVariants as slot
use Rattle.yard_model.specs.Behaviour.{is_in}
use Rattle.yard_model.specs.Script.{Script, IsScript, is_config}
use Rattle.yard_model.specs.Follow.{each_follows}
use Rattle.yard_model.specs.Genuine.{is_node}
use Rattle.yard_model.specs.Lawful.{own}
use Rattle.yard_model.specs.Members.{has_node, is_other_node, are_of_different_nodes}
use Rattle.yard_model.specs.SlotReads.{regions}
use Rattle.yard_model.specs.Words.{numbers, is_same, is_among, without}
use Rattle.plain_laws.proofs.Booleans.{true_is_not_false, and_both, both, left_of, right_of, of_not, same_number, number_itself, other_number, at_most, or_both}
use Rattle.plain_laws.proofs.Members.{same_is, itself_is, differ, left_among}
use Rattle.yard_laws.proofs.LostLaws.{regions_differ}

-- one that is there takes a place
shorter : (x : Incarnation) (ys : List Incarnation) → is_among x ys ≡ true → length (without x ys) < length ys
shorter x [] e = absurd (true_is_not_false (sym e))
shorter x (y ∷ ys) e = step (is_same x y) e (λ f. shorter x ys f)
  where
    step : (b : Bool) → (b || is_among x ys) ≡ true → (is_among x ys ≡ true → length (without x ys) < length ys) → length (cond (not b) (y ∷ without x ys) (without x ys)) < suc (length ys)
    step true f less = omega (arith, length-filter (λ z. not (is_same x z)) ys, count_by-le-length (λ z. not (is_same x z)) ys)
    step false f less = omega (arith, less f)

-- different ones that all stand in a list are at most as many
fewer : (xs ys : List Incarnation) → differ xs ≡ true → list_all (λ x. is_among x ys) xs ≡ true → length xs ≤ length ys
fewer [] ys d e = omega arith
fewer (x ∷ xs) ys d e =
    let m : (is_among x ys ≡ true) × (list_all (λ x. is_among x ys) xs ≡ true) = and_both (is_among x ys) (list_all (λ x. is_among x ys) xs) e in
    let n : (not (is_among x xs) ≡ true) × (differ xs ≡ true) = and_both (not (is_among x xs)) (differ xs) d in
    let rest : length xs ≤ length (without x ys) = fewer xs (without x ys) n.1 (left_among x ys xs m.1 (of_not (is_among x xs) n.0)) in
    let less : length (without x ys) < length ys = shorter x ys m.0 in
    omega (arith, rest, less)

-- A view of different nodes: as members of number 0 they are different ones of a list with one for each node.

abbrev first_of : ℕ → Incarnation
first_of n = record { node = n; number = 0 }

abbrev firsts : List Incarnation → List Incarnation
firsts xs = map (λ x. first_of x.node) xs

first_there : (n a k : ℕ) → a ≤ n → n < a + k → is_among (first_of n) (map first_of (numbers a k)) ≡ true
first_there n a zero low high = absurd (omega (arith, low, high))
first_there n a (suc k) low high = step (n == a) refl (λ more. first_there n (a + 1) k more (omega (arith, high)))
  where
    step : (b : Bool) → (n == a) ≡ b → (a + 1 ≤ n → is_among (first_of n) (map first_of (numbers (a + 1) k)) ≡ true) → is_among (first_of n) (map first_of (numbers a (suc k))) ≡ true
    step true e rest = left_of (is_same (first_of n) (first_of a)) (is_among (first_of n) (map first_of (numbers (a + 1) k))) (itself_is (first_of n) (first_of a) (ap first_of (same_number n a e)))
    step false e rest =
        let differs : n ≡ a → ⊥ = other_number n a e in
        let above : a + 1 ≤ n = omega (arith, low, differs) in
        right_of (is_same (first_of n) (first_of a)) (is_among (first_of n) (map first_of (numbers (a + 1) k))) (rest above)

all_there : (c : Script) (xs : List Incarnation) → list_all (is_node c) xs ≡ true → list_all (λ x. is_among x (map first_of (numbers 1 c.config.nodes))) (firsts xs) ≡ true
all_there c [] e = refl
all_there c (x ∷ xs) e =
    let m : (is_node c x ≡ true) × (list_all (is_node c) xs ≡ true) = and_both (is_node c x) (list_all (is_node c) xs) e in
    let n : (nat_le 1 x.node ≡ true) × (nat_le x.node c.config.nodes ≡ true) = and_both (nat_le 1 x.node) (nat_le x.node c.config.nodes) m.0 in
    let low : 1 ≤ x.node = at_most 1 x.node n.0 in
    let high : x.node ≤ c.config.nodes = at_most x.node c.config.nodes n.1 in
    let all : List Incarnation = map first_of (numbers 1 c.config.nodes) in
    both (is_among (first_of x.node) all) (list_all (λ x. is_among x all) (firsts xs)) (first_there x.node 1 c.config.nodes low (omega (arith, high))) (all_there c xs m.1)

-- a node that isn't there
not_first : (n : ℕ) (xs : List Incarnation) → has_node n xs ≡ false → is_among (first_of n) (firsts xs) ≡ false
not_first n [] e = refl
not_first n (x ∷ xs) e =
    let m : ((x.node == n) ≡ false) × (has_node n xs ≡ false) = or_both (x.node == n) (has_node n xs) e in
    ap (λ b. b || is_among (first_of n) (firsts xs)) (other (is_same (first_of n) (first_of x.node)) refl m.0) ∙ not_first n xs m.1
  where
    other : (b : Bool) → is_same (first_of n) (first_of x.node) ≡ b → (x.node == n) ≡ false → is_same (first_of n) (first_of x.node) ≡ false
    other false f g = f
    other true f g = absurd (true_is_not_false (sym (number_itself x.node n (ap (λ y. y.node) (sym (same_is (first_of n) (first_of x.node) f)))) ∙ g))

-- those that follow are of other nodes than those before
others_follow : (before xs : List Incarnation) (n : ℕ) → has_node n before ≡ true → each_follows is_other_node before xs ≡ true → has_node n xs ≡ false
others_follow before [] n there e = refl
others_follow before (x ∷ xs) n there e =
    let m : (is_other_node before x ≡ true) × (each_follows is_other_node (before ++ x ∷ []) xs ≡ true) = and_both (is_other_node before x) (each_follows is_other_node (before ++ x ∷ []) xs) e in
    ap (λ b. b || has_node n xs) (other (x.node == n) refl m.0)
    ∙ others_follow (before ++ x ∷ []) xs n (list_any-append (λ y. y.node == n) before (x ∷ []) ∙ left_of (has_node n before) (has_node n (x ∷ [])) there) m.1
  where
    other : (b : Bool) → (x.node == n) ≡ b → is_other_node before x ≡ true → (x.node == n) ≡ false
    other false f g = f
    other true f g = absurd (true_is_not_false (sym there ∙ (ap (λ k. has_node k before) (sym (same_number x.node n f)) ∙ of_not (has_node x.node before) g)))

firsts_differ : (before xs : List Incarnation) → each_follows is_other_node before xs ≡ true → differ (firsts xs) ≡ true
firsts_differ before [] e = refl
firsts_differ before (x ∷ xs) e =
    let m : (is_other_node before x ≡ true) × (each_follows is_other_node (before ++ x ∷ []) xs ≡ true) = and_both (is_other_node before x) (each_follows is_other_node (before ++ x ∷ []) xs) e in
    let here : has_node x.node (before ++ x ∷ []) ≡ true = list_any-append (λ y. y.node == x.node) before (x ∷ [])
    ∙ right_of (has_node x.node before) (has_node x.node (x ∷ [])) (left_of (x.node == x.node) false (number_itself x.node x.node refl)) in
    both (not (is_among (first_of x.node) (firsts xs))) (differ (firsts xs)) (ap not (not_first x.node xs (others_follow (before ++ x ∷ []) xs x.node here m.1))) (firsts_differ (before ++ x ∷ []) xs m.1)

length_numbers : (a n : ℕ) → length (numbers a n) ≡ n
length_numbers a zero = refl
length_numbers a (suc n) = ap suc (length_numbers (a + 1) n)

pub few_nodes : (c : Script) → IsScript c → c.config.nodes ≤ 16
few_nodes c k = at_most c.config.nodes 16 (within k.config)
  where
    front : (a b : Bool) → (a && b) ≡ true → a ≡ true
    front a b e = (and_both a b e).0

    within : is_config c.config ≡ true → nat_le c.config.nodes 16 ≡ true
    within e = (and_both (nat_le 1 c.config.nodes) (nat_le c.config.nodes 16) (front (is_in 1 16 c.config.nodes) _ (front _ _ (front _ _ (front _ _ (front _ _ (front _ _ e))))))).1

pub few_members : (c : Script) (view : List Incarnation) → list_all (is_node c) view ≡ true → are_of_different_nodes view ≡ true → length view ≤ c.config.nodes
few_members c view nodes different =
    let all : List Incarnation = map first_of (numbers 1 c.config.nodes) in
    let less : length (firsts view) ≤ length all = fewer (firsts view) all (firsts_differ [] view different) (all_there c view nodes) in
    let long : length (firsts view) ≡ length view = length-map view (λ (x : Incarnation). first_of x.node) in
    let size : length all ≡ c.config.nodes = length-map (numbers 1 c.config.nodes) first_of ∙ length_numbers 1 c.config.nodes in
    omega (arith, less, long, size)

pub room : (c : Script) (list : List Fact) (view : List Incarnation) (r : Incarnation) → IsScript c → own c slot.Coordinator list ≡ true → list_all (is_node c) view ≡ true → are_of_different_nodes view ≡ true
    → list_all (λ x. is_among x view) (regions list) ≡ true → is_among r view ≡ true → is_among r (regions list) ≡ false → length (regions list) < 16
room c list view r k o nodes different viewed seen fresh =
    let all : length (r ∷ regions list) ≤ length view = fewer (r ∷ regions list) view
    (both (not (is_among r (regions list))) (differ (regions list)) (ap not fresh) (regions_differ c list o))
    (both (is_among r view) (list_all (λ x. is_among x view) (regions list)) seen viewed) in
    let few : length view ≤ c.config.nodes = few_members c view nodes different in
    let most : c.config.nodes ≤ 16 = few_nodes c k in
    omega (arith, all, few, most)
