-- The stores by place.
use Rattle.std.proofs.Common.{◌≡◌, ℕ, zero, suc, ◌+◌, ◌-◌, ◌<◌, ◌≤◌, List, length, sym, ap, subst, ◌∙◌, refl, true, false, arith, length-append}
use Rattle.std.specs.Prelude.{Bool, [], ◌∷◌, ◌++◌, ◌==◌, nat_lt, map, replicate, slice_index_or, Option, Some, None, if◌then◌else◌}
use Rattle.std.proofs.lemmas.Bool.Decides.{nat_tests}
use Rattle.std.proofs.lemmas.List.{get_or_append_left, get_or-map, get_or_at, length-map}
use Rattle.std.proofs.Math.ListN.{get_or-eq_default}
use Rattle.yard_model.specs.declared.charter.Config.{Config}
use Rattle.yard_model.specs.declared.fact.Fact.{Fact}
use Rattle.yard_model.specs.declared.incarnation.Slot.TheVariants as slot
use Rattle.yard_model.specs.Script.{Script, IsScript, setting}
use Rattle.yard_model.specs.SlotLists.{shard_list, queue_list}
use Rattle.yard_model.specs.Trace.{no_lists}
use Rattle.yard_model.specs.Words.{numbers, at}
use Rattle.shard_store.specs.declared.store.Store.{Store}
use Rattle.shard_store.specs.Stores.{slot_at, entries_at, entries_in, lists_at, IsHome, IsThere, AreHomes, IsNew, AreNew}

lt_is : (a b : ℕ) → a < b → nat_lt a b ≡ true
lt_is a b h = grind (arith, nat_tests)

lt_not : (a b : ℕ) → b ≤ a → nat_lt a b ≡ false
lt_not a b h = grind (arith, nat_tests)

eq_is : (a b : ℕ) → a ≡ b → (a == b) ≡ true
eq_is a b h = grind (arith, nat_tests)

eq_not : (a b : ℕ) → b < a → (a == b) ≡ false
eq_not a b h = grind (arith, nat_tests)

pub shard_at : (c : Config) (k : ℕ) → k < c.shards → slot_at c k ≡ slot.Shard k
shard_at c k h = ap (λ b. if b then slot.Shard k else if k == c.shards then slot.Coordinator else slot.Queue (k - c.shards)) (lt_is k c.shards h)

pub coordinator_at : (c : Config) (k : ℕ) → k ≡ c.shards → slot_at c k ≡ slot.Coordinator
coordinator_at c k h =
    ap (λ b. if b then slot.Shard k else if k == c.shards then slot.Coordinator else slot.Queue (k - c.shards)) (lt_not k c.shards (omega (arith, h)))
    ∙ ap (λ b. if b then slot.Coordinator else slot.Queue (k - c.shards)) (eq_is k c.shards h)

pub queue_at : (c : Config) (k p : ℕ) → c.shards < k → p ≡ k - c.shards → slot_at c k ≡ slot.Queue p
queue_at c k p h e =
    ap (λ b. if b then slot.Shard k else if k == c.shards then slot.Coordinator else slot.Queue (k - c.shards)) (lt_not k c.shards (omega arith))
    ∙ (ap (λ b. if b then slot.Coordinator else slot.Queue (k - c.shards)) (eq_not k c.shards h) ∙ ap (λ n. slot.Queue n) (sym e))

-- New stores.

pub none_yet : (c : Script) → AreNew c [] 0
none_yet c = record { count = refl; each = λ k h. absurd (omega arith); none = λ k h. absurd (omega arith) }

pub new_more : (c : Script) (places : List (Option Store)) (n : ℕ) (x : Store) → AreNew c places n → IsNew c (slot_at c.config n) x → AreNew c (places ++ Some x ∷ []) (n + 1)
new_more c places n x k new = record {
  count = length-append places (Some x ∷ []) ∙ ap (λ i. i + 1) k.count;
  each = λ i h. each_at i h (nat_lt i n) refl;
  none = λ i h. none_at i h (nat_lt i n) refl;
}
  where
    lt_of : (a b : ℕ) → nat_lt a b ≡ true → a < b
    lt_of a b e = grind (arith, nat_tests)

    ge_of : (a b : ℕ) → nat_lt a b ≡ false → b ≤ a
    ge_of a b e = grind (arith, nat_tests)

    old_at : (i : ℕ) → i < n → at (places ++ Some x ∷ []) i ≡ at places i
    old_at i h = get_or_append_left places (Some x ∷ []) None i (omega (arith, h, k.count))

    new_at : (i : ℕ) → n ≡ i → at (places ++ Some x ∷ []) i ≡ Some x
    new_at i h = get_or_at places (Some x) [] None i (k.count ∙ h)

    each_at : (i : ℕ) → i < n + 1 → (b : Bool) → nat_lt i n ≡ b → IsThere c (slot_at c.config i) (at (places ++ Some x ∷ []) i)
    each_at i h true e = subst (IsThere c (slot_at c.config i)) (sym (old_at i (lt_of i n e))) (k.each i (lt_of i n e))
    each_at i h false e =
        let here : n ≡ i = omega (arith, ge_of i n e, h) in
        subst (IsThere c (slot_at c.config i)) (sym (new_at i here)) (subst (λ j. IsHome c (slot_at c.config j) x) here new.home_is)

    none_at : (i : ℕ) → i < n + 1 → (b : Bool) → nat_lt i n ≡ b → entries_at (places ++ Some x ∷ []) i ≡ []
    none_at i h true e = ap entries_in (old_at i (lt_of i n e)) ∙ k.none i (lt_of i n e)
    none_at i h false e = ap entries_in (new_at i (omega (arith, ge_of i n e, h))) ∙ new.none

pub homes_of : (c : Script) (places : List (Option Store)) → IsScript c → AreNew c places (c.config.shards + c.config.producers + 1) → AreHomes c places
homes_of c places s k = record { script_is = s; all = k.count; each = λ i h. k.each i (omega (arith, h, k.count)) }

-- no entry at any place, nor past the last
pub none_at : (c : Script) (places : List (Option Store)) → AreNew c places (c.config.shards + c.config.producers + 1) → (k : ℕ) → entries_at places k ≡ []
none_at c places h k = by (nat_lt k (c.config.shards + c.config.producers + 1)) refl
  where
    lt_of : (a b : ℕ) → nat_lt a b ≡ true → a < b
    lt_of a b e = grind (arith, nat_tests)

    ge_of : (a b : ℕ) → nat_lt a b ≡ false → b ≤ a
    ge_of a b e = grind (arith, nat_tests)

    by : (v : Bool) → nat_lt k (c.config.shards + c.config.producers + 1) ≡ v → entries_at places k ≡ []
    by true e = h.none k (lt_of k (c.config.shards + c.config.producers + 1) e)
    by false e =
        let past : length places ≤ k = subst (λ n. n ≤ k) (sym h.count) (ge_of k (c.config.shards + c.config.producers + 1) e) in
        ap entries_in (get_or-eq_default places None past)

none_each : (f : ℕ → List Fact) (a n : ℕ) → ((i : ℕ) → a ≤ i → i < a + n → f i ≡ []) → map f (numbers a n) ≡ replicate n []
none_each f a zero h = refl
none_each f a (suc n) h = ap (λ x. x ∷ map f (numbers (a + 1) n)) (h a (omega arith) (omega arith)) ∙ ap (λ l. [] ∷ l) (none_each f (a + 1) n (λ i b l. h i (omega arith) (omega arith)))

pub no_entries : (c : Script) (places : List (Option Store)) → AreNew c places (c.config.shards + c.config.producers + 1) → lists_at c.config places ≡ no_lists (setting c)
no_entries c places k =
    let s : ℕ = c.config.shards in
    let p : ℕ = c.config.producers in
    let a : map (entries_at places) (numbers 0 s) ≡ replicate s [] = none_each (entries_at places) 0 s (λ i b l. k.none i (omega (arith, l))) in
    let b : entries_at places s ≡ [] = k.none s (omega arith) in
    let d : map (λ q. entries_at places (s + q)) (numbers 1 p) ≡ replicate p [] = none_each (λ q. entries_at places (s + q)) 1 p (λ i b l. k.none (s + i) (omega (arith, l))) in
    ap (λ x. record { shards = x; coordinator = entries_at places s; queues = map (λ q. entries_at places (s + q)) (numbers 1 p) }) a
    ∙ (ap (λ x. record { shards = replicate s []; coordinator = x; queues = map (λ q. entries_at places (s + q)) (numbers 1 p) }) b
    ∙ ap (λ x. record { shards = replicate s []; coordinator = []; queues = x }) d)

-- The lists by slot.

numbers_length : (a n : ℕ) → length (numbers a n) ≡ n
numbers_length a zero = refl
numbers_length a (suc n) = ap suc (numbers_length (a + 1) n)

numbers_at : (a n i d : ℕ) → i < n → slice_index_or (numbers a n) i d ≡ a + i
numbers_at a zero i d h = absurd (omega arith)
numbers_at a (suc n) zero d h = omega arith
numbers_at a (suc n) (suc i) d h = numbers_at (a + 1) n i d (omega arith) ∙ omega arith

pub shard_list_is : (c : Config) (places : List (Option Store)) (s : ℕ) → (if nat_lt s c.shards then entries_at places s else []) ≡ shard_list (lists_at c places) s
shard_list_is c places s = at_s (nat_lt s c.shards) refl
  where
    lt_of : (a b : ℕ) → nat_lt a b ≡ true → a < b
    lt_of a b e = grind (arith, nat_tests)

    ge_of : (a b : ℕ) → nat_lt a b ≡ false → b ≤ a
    ge_of a b e = grind (arith, nat_tests)

    at_s : (b : Bool) → nat_lt s c.shards ≡ b → (if b then entries_at places s else []) ≡ shard_list (lists_at c places) s
    at_s true e =
        let inside : s < length (numbers 0 c.shards) = subst (λ n. s < n) (sym (numbers_length 0 c.shards)) (lt_of s c.shards e) in
        let number : slice_index_or (numbers 0 c.shards) s 0 ≡ s = numbers_at 0 c.shards s 0 (lt_of s c.shards e) ∙ omega arith in
        sym (get_or-map (entries_at places) (numbers 0 c.shards) s 0 [] inside ∙ ap (entries_at places) number)
    at_s false e = sym (get_or-eq_default (map (entries_at places) (numbers 0 c.shards)) [] (omega (arith, ge_of s c.shards e, length-map (numbers 0 c.shards) (entries_at places), numbers_length 0 c.shards)))

pub queue_list_is : (c : Script) (places : List (Option Store)) (p : ℕ) → AreHomes c places → 0 < p → entries_at places (c.config.shards + p) ≡ queue_list (lists_at c.config places) p
queue_list_is c places p k above = at_p (nat_lt (p - 1) c.config.producers) refl
  where
    f : ℕ → List Fact
    f q = entries_at places (c.config.shards + q)

    lt_of : (a b : ℕ) → nat_lt a b ≡ true → a < b
    lt_of a b e = grind (arith, nat_tests)

    ge_of : (a b : ℕ) → nat_lt a b ≡ false → b ≤ a
    ge_of a b e = grind (arith, nat_tests)

    at_p : (b : Bool) → nat_lt (p - 1) c.config.producers ≡ b → entries_at places (c.config.shards + p) ≡ queue_list (lists_at c.config places) p
    at_p true e =
        let inside : p - 1 < length (numbers 1 c.config.producers) = subst (λ n. p - 1 < n) (sym (numbers_length 1 c.config.producers)) (lt_of (p - 1) c.config.producers e) in
        let number : slice_index_or (numbers 1 c.config.producers) (p - 1) 0 ≡ p = numbers_at 1 c.config.producers (p - 1) 0 (lt_of (p - 1) c.config.producers e) ∙ omega arith in
        sym (get_or-map (λ q. entries_at places (c.config.shards + q)) (numbers 1 c.config.producers) (p - 1) 0 [] inside ∙ ap (λ q. entries_at places (c.config.shards + q)) number)
    at_p false e =
        let past : at places (c.config.shards + p) ≡ None = get_or-eq_default places None (omega (arith, ge_of (p - 1) c.config.producers e, k.all)) in
        ap entries_in past ∙ sym (get_or-eq_default (map (λ q. entries_at places (c.config.shards + q)) (numbers 1 c.config.producers)) [] (omega (arith, ge_of (p - 1) c.config.producers e, length-map (numbers 1 c.config.producers) (λ q. entries_at places (c.config.shards + q)), numbers_length 1 c.config.producers)))
