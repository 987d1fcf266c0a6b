-- Members with one more.
use Rattle.std.proofs.Common.{◌≡◌, ◌<◌, ◌≤◌, ℕ, zero, suc, ◌+◌, sym, ap, ◌∙◌, arith, refl, subst, true≢false, append_assoc, not-suc-le-zero, le_of_suc-le-suc}
use Rattle.std.specs.Prelude.{Bool, true, false, not, ◌&&◌, ◌||◌, ◌==◌, if◌then◌else◌, List, [], ◌∷◌, ◌++◌, take, length, slice_set, slice_index_or}
use Rattle.std.specs.Cmp.Lexicographic.{pointwise}
use Rattle.std.proofs.lemmas.List.{append-nil, take_more_set, get_or_default}
use Rattle.yard_model.specs.Follow.{each_follows}
use Rattle.yard_model.specs.Words.{is_same, without}
use Rattle.yard_model.specs.declared.incarnation.Incarnation.{Incarnation}
use Rattle.yard_model.specs.Padded.{padded_more, padded_length}
use Rattle.yard_model.specs.Members.{AreMembers, paired, same_size, count_of, has_node, is_other_node, are_of_different_nodes}
use Rattle.yard_model.proofs.FollowLaws.{follows_more}

-- of different nodes, where the new one's node is not among them
different_more : (xs : List Incarnation) (x : Incarnation) → are_of_different_nodes xs ≡ true → has_node x.node xs ≡ false → are_of_different_nodes (xs ++ x ∷ []) ≡ true
different_more xs x old other =
    follows_more is_other_node [] xs x ∙ (ap (λ b. b && is_other_node xs x) old ∙ ap not other)

paired_set : (nodes numbers : List ℕ) (i : ℕ) (x : Incarnation) → paired (slice_set nodes i x.node) (slice_set numbers i x.number) ≡ slice_set (paired nodes numbers) i x
paired_set [] ks zero x = refl
paired_set [] ks (suc i) x = refl
paired_set (n ∷ ns) [] zero x = refl
paired_set (n ∷ ns) [] (suc i) x = refl
paired_set (n ∷ ns) (k ∷ ks) zero x = refl
paired_set (n ∷ ns) (k ∷ ks) (suc i) x = ap (λ l. record { node = n; number = k } ∷ l) (paired_set ns ks i x)

paired_length : (nodes numbers : List ℕ) → length nodes ≡ length numbers → length (paired nodes numbers) ≡ length nodes
paired_length [] ks e = refl
paired_length (n ∷ ns) [] e = absurd (omega (arith, e))
paired_length (n ∷ ns) (k ∷ ks) e = ap suc (paired_length ns ks (omega (arith, e)))

paired_at : (nodes numbers : List ℕ) (len i : ℕ) (x : Incarnation) → i < len → length nodes ≡ length numbers → len ≤ length nodes → x.node ≡ slice_index_or nodes i x.node → x.number ≡ slice_index_or numbers i x.number → x ≡ slice_index_or (take len (paired nodes numbers)) i x
paired_at ns ks zero i x h e f a b = absurd (omega (arith, h))
paired_at [] ks (suc len) i x h e f a b = absurd (omega (arith, f))
paired_at (n ∷ ns) [] (suc len) i x h e f a b = absurd (omega (arith, e))
paired_at (n ∷ ns) (k ∷ ks) (suc len) zero x h e f a b = same x n k a b
  where
    same : (x : Incarnation) (n k : ℕ) → x.node ≡ n → x.number ≡ k → x ≡ record { node = n; number = k }
    same x n k a b = λ i. record { node = a i; number = b i }
paired_at (n ∷ ns) (k ∷ ks) (suc len) (suc i) x h e f a b = paired_at ns ks len i x (omega (arith, h)) (omega (arith, e)) (omega (arith, f)) a b

inside : {nodes numbers : List ℕ} {len : ℕ} → AreMembers nodes numbers len → (i : ℕ) → i < length (take len (paired nodes numbers)) → i < length numbers
inside {nodes} {numbers} {len} h i l =
    let count : length (take len (paired nodes numbers)) ≡ len = count_of h in
    let size : length numbers ≡ 16 = h.numbers_padded.size in
    let within : len ≤ 16 = h.numbers_padded.within in
    omega (arith, l, count, size, within)

member_at : {nodes numbers : List ℕ} {len : ℕ} → AreMembers nodes numbers len → (i : ℕ) (x : Incarnation) → i < length (take len (paired nodes numbers)) → x.node ≡ slice_index_or nodes i x.node → x.number ≡ slice_index_or numbers i x.number → x ≡ slice_index_or (take len (paired nodes numbers)) i x
member_at {nodes} {numbers} {len} h i x l a b =
    let count : length (take len (paired nodes numbers)) ≡ len = count_of h in
    let size : length nodes ≡ 16 = h.nodes_padded.size in
    let within : len ≤ 16 = h.nodes_padded.within in
    paired_at nodes numbers len i x (omega (arith, l, count)) (same_size h) (omega (arith, size, within)) a b

-- what stands at a place of the cells is the member at that place
pub read_at : {nodes numbers : List ℕ} {len : ℕ} (xs : List Incarnation) → AreMembers nodes numbers len → take len (paired nodes numbers) ≡ xs → (i d e : ℕ) → i < length xs
    → (λ (x : Incarnation). x ≡ slice_index_or xs i x) (record { node = slice_index_or nodes i d; number = slice_index_or numbers i e })
read_at {nodes} {numbers} {len} xs h it i d e l =
    let within : i < length (take len (paired nodes numbers)) = subst (λ n. i < n) (sym (ap length it)) l in
    let x : Incarnation = record { node = slice_index_or nodes i d; number = slice_index_or numbers i e } in
    let size : length nodes ≡ length numbers = same_size h in
    let low : i < length numbers = inside h i within in
    member_at h i x within (get_or_default nodes i d x.node (subst (λ n. i < n) (sym size) low)) (get_or_default numbers i e x.number low) ∙ ap (λ l. slice_index_or l i x) it

pub with_last : {nodes numbers : List ℕ} {len : ℕ} → AreMembers nodes numbers len → (x : Incarnation) → len < 16 → take (len + 1) (paired (slice_set nodes len x.node) (slice_set numbers len x.number)) ≡ take len (paired nodes numbers) ++ x ∷ []
with_last {nodes} {numbers} {len} h x room =
    let size : length nodes ≡ 16 = h.nodes_padded.size in
    let inside : len < length (paired nodes numbers) = omega (arith, paired_length nodes numbers (same_size h), size, room) in
    ap (take (len + 1)) (paired_set nodes numbers len x) ∙ take_more_set (paired nodes numbers) len x inside

-- one more fits where there are fewer than 16
pub few : {nodes numbers : List ℕ} {len : ℕ} (xs : List Incarnation) → AreMembers nodes numbers len → take len (paired nodes numbers) ≡ xs → length xs < 16 → len < 16
few {nodes} {numbers} {len} xs h e room = subst (λ n. n < 16) (sym (ap length e) ∙ count_of h) room

pub members_more : {nodes numbers : List ℕ} {len : ℕ} → (x : Incarnation) → AreMembers nodes numbers len → len < 16
    → has_node x.node (take len (paired nodes numbers)) ≡ false → AreMembers (slice_set nodes len x.node) (slice_set numbers len x.number) (len + 1)
members_more {nodes} {numbers} {len} x h room other =
    let few : length (take len nodes) < 16 = subst (λ n. n < 16) (sym (padded_length h.nodes_padded)) room in
    let little : length (take len numbers) < 16 = subst (λ n. n < 16) (sym (padded_length h.numbers_padded)) room in
    record {
      nodes_padded = padded_more x.node h.nodes_padded refl few;
      numbers_padded = padded_more x.number h.numbers_padded refl little;
      different = ap are_of_different_nodes (with_last h x room) ∙ different_more (take len (paired nodes numbers)) x h.different other;
    }

-- members of different lengths differ
pub other_length : (xs ys : List Incarnation) → (length xs ≡ length ys → ⊥) → false ≡ pointwise is_same xs ys
other_length [] [] h = absurd (h refl)
other_length [] (y ∷ ys) h = refl
other_length (x ∷ xs) [] h = refl
other_length (x ∷ xs) (y ∷ ys) h = by (is_same x y) (other_length xs ys (λ e. h (ap suc e)))
  where
    by : (b : Bool) → false ≡ pointwise is_same xs ys → false ≡ (b && pointwise is_same xs ys)
    by true k = k
    by false k = refl

and_both : (a b : Bool) → (a && b) ≡ true → (a ≡ true) × (b ≡ true)
and_both true b e = (refl, e)
and_both false b e = absurd (true≢false (sym e))

of_not : (b : Bool) → not b ≡ true → b ≡ false
of_not true e = absurd (true≢false (sym e))
of_not false e = refl

or_none : (a b : Bool) → (a || b) ≡ false → (a ≡ false) × (b ≡ false)
or_none true b h = absurd (true≢false h)
or_none false b h = (refl, h)

without_by : (n : ℕ) (who x : Incarnation) (xs : List Incarnation) → (x.node == n) ≡ false → has_node n (without who xs) ≡ false → (b : Bool) → has_node n (if b then x ∷ without who xs else without who xs) ≡ false
without_by n who x xs e h true = ap (λ b. b || has_node n (without who xs)) e ∙ h
without_by n who x xs e h false = h

-- the others have no member of a node that had none
pub none_without : (n : ℕ) (who : Incarnation) (xs : List Incarnation) → has_node n xs ≡ false → has_node n (without who xs) ≡ false
none_without n who [] h = refl
none_without n who (x ∷ xs) h =
    let p : ((x.node == n) ≡ false) × (has_node n xs ≡ false) = or_none (x.node == n) (has_node n xs) h in
    without_by n who x xs p.0 (none_without n who xs p.1) (not (is_same who x))

-- no member before is of a member's node
different_at : (before xs : List Incarnation) (i : ℕ) (x : Incarnation) → each_follows is_other_node before xs ≡ true → i < length xs → slice_index_or xs i x ≡ x → has_node x.node (before ++ take i xs) ≡ false
different_at before [] i x h l e = absurd (not-suc-le-zero l)
different_at before (y ∷ ys) zero x h l e =
    let p : not (has_node y.node before) ≡ true = (and_both (is_other_node before y) (each_follows is_other_node (before ++ y ∷ []) ys) h).0 in
    ap (λ (z : Incarnation). has_node z.node (before ++ [])) (sym e) ∙ (ap (has_node y.node) (append-nil before) ∙ of_not (has_node y.node before) p)
different_at before (y ∷ ys) (suc i) x h l e =
    ap (has_node x.node) (sym (append_assoc before (y ∷ []) (take i ys)))
    ∙ different_at (before ++ y ∷ []) ys i x (and_both (is_other_node before y) (each_follows is_other_node (before ++ y ∷ []) ys) h).1 (le_of_suc-le-suc l) e

pub other_before : (xs : List Incarnation) (i : ℕ) (x who : Incarnation) → are_of_different_nodes xs ≡ true → i < length xs → x ≡ slice_index_or xs i x → has_node x.node (without who (take i xs)) ≡ false
other_before xs i x who h l e = none_without x.node who (take i xs) (different_at [] xs i x h l (sym e))
