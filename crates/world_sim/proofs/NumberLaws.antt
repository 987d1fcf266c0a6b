-- The greatest number of node 1 in lists, read one list after the other.
use Rattle.std.proofs.Common.{◌≡◌, ◌<◌, ◌≤◌, ℕ, zero, suc, ◌+◌, List, [], ◌∷◌, ◌++◌, length, sym, ap, ◌∙◌, refl, arith}
use Rattle.std.specs.Prelude.{fold, drop, slice_index_or}
use Rattle.std.specs.List.{flat_map}
use Rattle.std.proofs.lemmas.List.Sums.{fold-append}
use Rattle.yard_model.specs.declared.fact.Fact.{Fact}
use Rattle.yard_model.specs.declared.fact.Fact.TheVariants as fact
use Rattle.yard_model.specs.Era.{opening_of}
use Rattle.yard_model.specs.SlotLists.{SlotLists}
use Rattle.yard_model.specs.World.{number_step}

-- all entries of these lists
abbrev pub joined : List (List Fact) → List Fact
joined ls = flat_map (λ l. l) ls

next : (ls : List (List Fact)) (m i : ℕ) → i < length ls → fold number_step m (joined (drop i ls)) ≡ fold number_step (fold number_step m (slice_index_or ls i [])) (joined (drop (suc i) ls))
next [] m i less = absurd (none i less)
  where
    none : (i : ℕ) → i < 0 → ⊥
    none i h = omega (arith, h)
next (l ∷ ls) m zero less = fold-append number_step m l (joined ls)
next (l ∷ ls) m (suc i) less = next ls m i (back i (length ls) less)
  where
    back : (i n : ℕ) → suc i < suc n → i < n
    back i n h = omega (arith, h)

-- one list more
pub number_more : (ls : List (List Fact)) (start m i j k : ℕ) → i < length ls → j ≡ i + 1 → k ≡ fold number_step m (slice_index_or ls i []) → fold number_step m (joined (drop i ls)) ≡ fold number_step start (joined ls) → fold number_step k (joined (drop j ls)) ≡ fold number_step start (joined ls)
number_more ls start m i j k less e f so_far =
    let one : j ≡ suc i = omega (arith, e) in
    ap (λ n. fold number_step k (joined (drop n ls))) one ∙ (ap (λ n. fold number_step n (joined (drop (suc i) ls))) f ∙ (sym (next ls m i less) ∙ so_far))

drop_all : (ls : List (List Fact)) (i : ℕ) → length ls ≤ i → drop i ls ≡ []
drop_all [] zero h = refl
drop_all [] (suc i) h = refl
drop_all (l ∷ ls) zero h = absurd (none (length ls) h)
  where
    none : (n : ℕ) → suc n ≤ 0 → ⊥
    none n h = omega (arith, h)
drop_all (l ∷ ls) (suc i) h = drop_all ls i (back (length ls) i h)
  where
    back : (n i : ℕ) → suc n ≤ suc i → n ≤ i
    back n i h = omega (arith, h)

-- no list more
pub number_done : (ls : List (List Fact)) (start m i : ℕ) → length ls ≤ i → fold number_step m (joined (drop i ls)) ≡ fold number_step start (joined ls) → m ≡ fold number_step start (joined ls)
number_done ls start m i all so_far = sym (ap (λ l. fold number_step m (joined l)) (drop_all ls i all)) ∙ so_far

-- first the shards' lists, then the coordinator's, then the queues'
pub number_opening : (version : ℕ) (lists : SlotLists) (a b n : ℕ) → a ≡ fold number_step 0 (joined lists.shards) → b ≡ fold number_step a lists.coordinator → n ≡ fold number_step b (joined lists.queues) → n ≡ fold number_step 0 (opening_of version lists)
number_opening version lists a b n e f g =
    g ∙ (ap (λ k. fold number_step k (joined lists.queues)) (f ∙ (ap (λ k. fold number_step k lists.coordinator) e ∙ sym (fold-append number_step 0 (joined lists.shards) lists.coordinator)))
    ∙ (sym (fold-append number_step 0 (joined lists.shards ++ lists.coordinator) (joined lists.queues)) ∙ sym (fold-append number_step 0 ((joined lists.shards ++ lists.coordinator) ++ joined lists.queues) (fact.Upgrade version ∷ []))))
