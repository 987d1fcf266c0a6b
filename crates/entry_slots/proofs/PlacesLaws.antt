-- The stores by place, one of which is changed; and the lists by slot.
use Rattle.std.proofs.Common.{◌≡◌, ◌≢◌, ◌<◌, ◌≤◌, ℕ, zero, suc, ◌+◌, ◌-◌, ◌⊎◌, inl, inr, List, [], ◌∷◌, ◌++◌, length, map, sym, subst, ap, ap₂, ◌∙◌, refl, true, false, true≢false, arith}
use Rattle.std.specs.Prelude.{Bool, ◌==◌, ◌&&◌, nat_le, replicate, Option, Some, None, slice_index_or, slice_set, if◌then◌else◌}
use Rattle.std.proofs.lemmas.Bool.Decides.{Decides-eqb}
use Rattle.std.proofs.lemmas.List.{get_or-set_same, get_or-set_other, get_or_default, length-set, length-replicate, set-get_or}
use Rattle.yard_model.specs.declared.charter.Config.{Config}
use Rattle.yard_model.specs.declared.fact.Fact.{Fact}
use Rattle.yard_model.specs.declared.fact.Fact.TheVariants as fact
use Rattle.yard_model.specs.declared.incarnation.Incarnation.{Incarnation}
use Rattle.yard_model.specs.declared.incarnation.Slot.{Slot}
use Rattle.yard_model.specs.declared.incarnation.Slot.TheVariants as slot
use Rattle.yard_model.specs.Genuine.{is_producer, is_shard, is_slot_of}
use Rattle.yard_model.specs.Lawful.{is_held}
use Rattle.yard_model.specs.Script.{Script, setting}
use Rattle.yard_model.specs.SlotLists.{SlotLists, queue_list, shard_list}
use Rattle.yard_model.specs.SlotReads.{holder, holder_step}
use Rattle.yard_model.specs.Trace.{list_at, lists_step, no_lists, slot_of, with_entry}
use Rattle.yard_model.specs.Words.{at, numbers}
use Rattle.plain_laws.proofs.Booleans.{and_both, at_most, below, get_replicate, other_number, same_number}
use Rattle.shard_store.specs.declared.store.Store.{Store}
use Rattle.shard_store.specs.Stores.{AreHomes, IsHome, IsThere, entries_at, entries_in, entries_of, lists_at, place_of, slot_at, spare_of}
use Rattle.shard_store.proofs.PlaceLaws.{place_apart, place_within, slot_back}
use Rattle.yard_laws.proofs.Live.{holder_more}
use Rattle.entry_slots.specs.Entered.{EntersPlace, EntersPlaces, StaysPlace, StayPlaces}
use Rattle.entry_slots.specs.Kept.{AreHolders}

-- Numbers, and what stands at each.

length_numbers : (a n : ℕ) → length (numbers a n) ≡ n
length_numbers a zero = refl
length_numbers a (suc n) = ap suc (length_numbers (a + 1) n)

got_number : (f : ℕ → List Fact) (a n i : ℕ) → i < n → slice_index_or (map f (numbers a n)) i [] ≡ f (a + i)
got_number f a zero i h = absurd (omega arith)
got_number f a (suc n) zero h = ap f (omega arith)
got_number f a (suc n) (suc i) h = got_number f (a + 1) n i (omega arith) ∙ ap f (omega arith)

same_at : (f g : ℕ → List Fact) (a n : ℕ) → ((j : ℕ) → a ≤ j → j < a + n → g j ≡ f j) → map g (numbers a n) ≡ map f (numbers a n)
same_at f g a zero h = refl
same_at f g a (suc n) h = ap₂ (λ x xs. x ∷ xs) (h a (omega arith) (omega arith)) (same_at f g (a + 1) n (λ j low high. h j (omega (arith, low)) (omega (arith, high))))

set_at : (f g : ℕ → List Fact) (a n i : ℕ) (v : List Fact) → i < n → g (a + i) ≡ v → ((j : ℕ) → j ≢ a + i → g j ≡ f j) → map g (numbers a n) ≡ slice_set (map f (numbers a n)) i v
set_at f g a zero i v h here other = absurd (omega arith)
set_at f g a (suc n) zero v h here other =
    let same : a + 0 ≡ a = omega arith in
    ap₂ (λ x xs. x ∷ xs) (ap g (sym same) ∙ here) (same_at f g (a + 1) n (λ j low high. other j (λ e. absurd (omega (arith, low, e)))))
set_at f g a (suc n) (suc i) v h here other =
    let same : a + 1 + i ≡ a + suc i = omega arith in
    ap₂ (λ x xs. x ∷ xs) (other a (λ e. absurd (omega (arith, e)))) (set_at f g (a + 1) n i v (omega arith) (ap g same ∙ here) (λ j e. other j (λ k. e (k ∙ sym same))))

-- The list of a slot is that of its place.
pub list_there : (c : Script) (places : List (Option Store)) (s : Slot) → is_slot_of c s ≡ true → list_at (lists_at c.config places) s ≡ entries_at places (place_of c.config s)
list_there c places (slot.Shard k) h = got_number (entries_at places) 0 c.config.shards k (below k c.config.shards h) ∙ ap (entries_at places) (let same : 0 + k ≡ k = omega arith in same)
list_there c places slot.Coordinator h = refl
list_there c places (slot.Queue p) h =
    let t : (nat_le 1 p ≡ true) × (nat_le p c.config.producers ≡ true) = and_both (nat_le 1 p) (nat_le p c.config.producers) h in
    let low : 1 ≤ p = at_most 1 p t.0 in
    let high : p ≤ c.config.producers = at_most p c.config.producers t.1 in
    let back : c.config.shards + (1 + (p - 1)) ≡ c.config.shards + p = omega arith in
    got_number (λ q. entries_at places (c.config.shards + q)) 1 c.config.producers (p - 1) (omega arith) ∙ ap (entries_at places) back

-- One place is changed.

same_or_not : (a b : ℕ) → (a ≡ b) ⊎ (a ≢ b)
same_or_not a b = elim (a == b) as (λ v. (a == b) ≡ v → (a ≡ b) ⊎ (a ≢ b)) [
  | true ↦ λ e. inl (same_number a b e)
  | false ↦ λ e. inr (other_number a b e)
] refl

inside : (c : Script) (places : List (Option Store)) (s : Slot) → AreHomes c places → is_slot_of c s ≡ true → place_of c.config s < length places
inside c places s homes h = subst (λ n. place_of c.config s < n) (sym homes.all) (place_within c s h)

pub there_is : (c : Script) (places : List (Option Store)) (s : Slot) → AreHomes c places → is_slot_of c s ≡ true → IsThere c s (at places (place_of c.config s))
there_is c places s homes h = subst (λ t. IsThere c t (at places (place_of c.config s))) (slot_back c s h) (homes.each (place_of c.config s) (inside c places s homes h))

homes_set : (c : Script) (places : List (Option Store)) (s : Slot) (x : Option Store) → AreHomes c places → is_slot_of c s ≡ true → IsThere c s x → AreHomes c (slice_set places (place_of c.config s) x)
homes_set c places s x homes h now = record {
  script_is = homes.script_is;
  all = length-set places k x ∙ homes.all;
  each = λ i within. by i (subst (λ n. i < n) (length-set places k x) within) (same_or_not i k);
}
  where
    k : ℕ
    k = place_of c.config s

    by : (i : ℕ) → i < length places → (i ≡ k) ⊎ (i ≢ k) → IsThere c (slot_at c.config i) (at (slice_set places k x) i)
    by i within (inl e) =
        subst (λ j. IsThere c (slot_at c.config j) (at (slice_set places k x) j)) (sym e)
        (subst (IsThere c (slot_at c.config k)) (sym (get_or-set_same places k x None (inside c places s homes h)))
        (subst (λ t. IsThere c t x) (sym (slot_back c s h)) now))
    by i within (inr e) = subst (IsThere c (slot_at c.config i)) (sym (get_or-set_other places k i x None e)) (homes.each i within)

here_set : (c : Script) (places : List (Option Store)) (s : Slot) (x : Option Store) → AreHomes c places → is_slot_of c s ≡ true → entries_at (slice_set places (place_of c.config s) x) (place_of c.config s) ≡ entries_in x
here_set c places s x homes h = ap entries_in (get_or-set_same places (place_of c.config s) x None (inside c places s homes h))

else_set : (places : List (Option Store)) (k j : ℕ) (x : Option Store) → j ≢ k → entries_at (slice_set places k x) j ≡ entries_at places j
else_set places k j x e = ap entries_in (get_or-set_other places k j x None e)

-- the lists, where the list of one slot is v
lists_with : SlotLists → Slot → List Fact → SlotLists
lists_with lists (slot.Shard s) v = record { shards = slice_set lists.shards s v; coordinator = lists.coordinator; queues = lists.queues }
lists_with lists slot.Coordinator v = record { shards = lists.shards; coordinator = v; queues = lists.queues }
lists_with lists (slot.Queue p) v = record { shards = lists.shards; coordinator = lists.coordinator; queues = slice_set lists.queues (p - 1) v }

lists_set : (c : Script) (places : List (Option Store)) (s : Slot) (x : Option Store) → AreHomes c places → is_slot_of c s ≡ true
    → lists_at c.config (slice_set places (place_of c.config s) x) ≡ lists_with (lists_at c.config places) s (entries_in x)
unfolding lists_with
lists_set c places (slot.Shard s) x homes h =
    let new : List (Option Store) = slice_set places s x in
    let n : ℕ = c.config.shards in
    let within : s < n = below s n h in
    let a : map (entries_at new) (numbers 0 n) ≡ slice_set (map (entries_at places) (numbers 0 n)) s (entries_in x) =
    set_at (entries_at places) (entries_at new) 0 n s (entries_in x) within (let same : 0 + s ≡ s = omega arith in ap (entries_at new) same ∙ here_set c places (slot.Shard s) x homes h)
    (λ j e. else_set places s j x (λ k. e (k ∙ (let same : s ≡ 0 + s = omega arith in same)))) in
    let b : entries_at new n ≡ entries_at places n = else_set places s n x (λ k. absurd (omega (arith, within, k))) in
    let d : map (λ q. entries_at new (n + q)) (numbers 1 c.config.producers) ≡ map (λ q. entries_at places (n + q)) (numbers 1 c.config.producers) =
    same_at (λ q. entries_at places (n + q)) (λ q. entries_at new (n + q)) 1 c.config.producers (λ j low high. else_set places s (n + j) x (λ k. absurd (omega (arith, within, k)))) in
    ap (λ l. record { shards = l; coordinator = entries_at new n; queues = map (λ q. entries_at new (n + q)) (numbers 1 c.config.producers) }) a
    ∙ (ap (λ l. record { shards = slice_set (map (entries_at places) (numbers 0 n)) s (entries_in x); coordinator = l; queues = map (λ q. entries_at new (n + q)) (numbers 1 c.config.producers) }) b
    ∙ ap (λ l. record { shards = slice_set (map (entries_at places) (numbers 0 n)) s (entries_in x); coordinator = entries_at places n; queues = l }) d)
lists_set c places slot.Coordinator x homes h =
    let n : ℕ = c.config.shards in
    let new : List (Option Store) = slice_set places n x in
    let a : map (entries_at new) (numbers 0 n) ≡ map (entries_at places) (numbers 0 n) = same_at (entries_at places) (entries_at new) 0 n (λ j low high. else_set places n j x (λ k. absurd (omega (arith, high, k)))) in
    let b : entries_at new n ≡ entries_in x = here_set c places slot.Coordinator x homes h in
    let d : map (λ q. entries_at new (n + q)) (numbers 1 c.config.producers) ≡ map (λ q. entries_at places (n + q)) (numbers 1 c.config.producers) =
    same_at (λ q. entries_at places (n + q)) (λ q. entries_at new (n + q)) 1 c.config.producers (λ j low high. else_set places n (n + j) x (λ k. absurd (omega (arith, low, k)))) in
    ap (λ l. record { shards = l; coordinator = entries_at new n; queues = map (λ q. entries_at new (n + q)) (numbers 1 c.config.producers) }) a
    ∙ (ap (λ l. record { shards = map (entries_at places) (numbers 0 n); coordinator = l; queues = map (λ q. entries_at new (n + q)) (numbers 1 c.config.producers) }) b
    ∙ ap (λ l. record { shards = map (entries_at places) (numbers 0 n); coordinator = entries_in x; queues = l }) d)
lists_set c places (slot.Queue p) x homes h =
    let n : ℕ = c.config.shards in
    let t : (nat_le 1 p ≡ true) × (nat_le p c.config.producers ≡ true) = and_both (nat_le 1 p) (nat_le p c.config.producers) h in
    let low : 1 ≤ p = at_most 1 p t.0 in
    let high : p ≤ c.config.producers = at_most p c.config.producers t.1 in
    let new : List (Option Store) = slice_set places (n + p) x in
    let a : map (entries_at new) (numbers 0 n) ≡ map (entries_at places) (numbers 0 n) = same_at (entries_at places) (entries_at new) 0 n (λ j above under. else_set places (n + p) j x (λ k. absurd (omega (arith, under, k)))) in
    let b : entries_at new n ≡ entries_at places n = else_set places (n + p) n x (λ k. absurd (omega (arith, low, k))) in
    let back : n + (1 + (p - 1)) ≡ n + p = omega (arith, low) in
    let number : 1 + (p - 1) ≡ p = omega (arith, low) in
    let d : map (λ q. entries_at new (n + q)) (numbers 1 c.config.producers) ≡ slice_set (map (λ q. entries_at places (n + q)) (numbers 1 c.config.producers)) (p - 1) (entries_in x) =
    set_at (λ q. entries_at places (n + q)) (λ q. entries_at new (n + q)) 1 c.config.producers (p - 1) (entries_in x) (omega (arith, low, high)) (ap (entries_at new) back ∙ here_set c places (slot.Queue p) x homes h)
    (λ j e. else_set places (n + p) (n + j) x (λ k. e (omega (arith, k, number)))) in
    ap (λ l. record { shards = l; coordinator = entries_at new n; queues = map (λ q. entries_at new (n + q)) (numbers 1 c.config.producers) }) a
    ∙ (ap (λ l. record { shards = map (entries_at places) (numbers 0 n); coordinator = l; queues = map (λ q. entries_at new (n + q)) (numbers 1 c.config.producers) }) b
    ∙ ap (λ l. record { shards = map (entries_at places) (numbers 0 n); coordinator = entries_at places n; queues = l }) d)

-- with one entry more
with_more : (lists : SlotLists) (s : Slot) (f : Fact) → lists_with lists s (list_at lists s ++ f ∷ []) ≡ with_entry f lists (Some s)
unfolding lists_with
with_more lists (slot.Shard s) f = refl
with_more lists slot.Coordinator f = refl
with_more lists (slot.Queue p) f = refl

-- with none
with_none : (lists : SlotLists) (s : Slot) → lists_with lists s (list_at lists s) ≡ lists
unfolding lists_with
with_none lists (slot.Shard s) = ap (λ l. record { shards = l; coordinator = lists.coordinator; queues = lists.queues }) (set-get_or lists.shards s [])
with_none lists slot.Coordinator = refl
with_none lists (slot.Queue p) = ap (λ l. record { shards = lists.shards; coordinator = lists.coordinator; queues = l }) (set-get_or lists.queues (p - 1) [])

-- An entry was tested.

pub homes_after : (c : Script) (s : Slot) (old new : List (Option Store)) (f : Fact) (done : Bool) → AreHomes c old → is_slot_of c s ≡ true → EntersPlaces c s old f done new → AreHomes c new
homes_after c s old new f done homes h e = subst (AreHomes c) (sym e.places) (homes_set c old s e.store homes h e.entered.home)

pub lists_after : (c : Script) (s : Slot) (old new : List (Option Store)) (f : Fact) (done : Bool) → AreHomes c old → is_slot_of c s ≡ true → slot_of (setting c) f ≡ Some s → EntersPlaces c s old f done new
    → lists_at c.config new ≡ (if done then lists_step (setting c) (lists_at c.config old) f else lists_at c.config old)
lists_after c s old new f done homes h of e =
    ap (lists_at c.config) e.places ∙ (lists_set c old s e.store homes h ∙ (ap (lists_with lists s) e.entered.list ∙ by done))
  where
    lists : SlotLists
    lists = lists_at c.config old

    by : (b : Bool) → lists_with lists s (if b then entries_at old (place_of c.config s) ++ f ∷ [] else entries_at old (place_of c.config s)) ≡ (if b then lists_step (setting c) lists f else lists)
    by true = ap (λ l. lists_with lists s (l ++ f ∷ [])) (sym (list_there c old s h)) ∙ (with_more lists s f ∙ ap (with_entry f lists) (sym of))
    by false = ap (lists_with lists s) (sym (list_there c old s h)) ∙ with_none lists s

pub homes_stay : (c : Script) (s : Slot) (old new : List (Option Store)) → AreHomes c old → is_slot_of c s ≡ true → StayPlaces c s old new → AreHomes c new
homes_stay c s old new homes h e = subst (AreHomes c) (sym e.places) (homes_set c old s e.store homes h e.stays.home)

pub lists_stay : (c : Script) (s : Slot) (old new : List (Option Store)) → AreHomes c old → is_slot_of c s ≡ true → StayPlaces c s old new → lists_at c.config new ≡ lists_at c.config old
lists_stay c s old new homes h e =
    ap (lists_at c.config) e.places ∙ (lists_set c old s e.store homes h ∙ (ap (lists_with (lists_at c.config old) s) (e.stays.list ∙ sym (list_there c old s h)) ∙ with_none (lists_at c.config old) s))

-- the entries of a place after it
pub entries_after : (c : Script) (s : Slot) (old new : List (Option Store)) (f : Fact) (done : Bool) (j : ℕ) → AreHomes c old → is_slot_of c s ≡ true → EntersPlaces c s old f done new
    → entries_at new j ≡ (if done && (j == place_of c.config s) then entries_at old j ++ f ∷ [] else entries_at old j)
entries_after c s old new f done j homes h e = ap (λ l. entries_at l j) e.places ∙ by (same_or_not j (place_of c.config s)) done e.entered.list
  where
    k : ℕ
    k = place_of c.config s

    here : (b : Bool) → entries_in e.store ≡ (if b then entries_at old k ++ f ∷ [] else entries_at old k) → entries_in e.store ≡ (if b && (k == k) then entries_at old k ++ f ∷ [] else entries_at old k)
    here true l = l ∙ ap (λ v. if v then entries_at old k ++ f ∷ [] else entries_at old k) (sym ((Decides-eqb k k).1 refl))
    here false l = l

    other : (b v : Bool) → v ≡ false → entries_at old j ≡ (if b && v then entries_at old j ++ f ∷ [] else entries_at old j)
    other true v t = ap (λ w. if w then entries_at old j ++ f ∷ [] else entries_at old j) (sym t)
    other false v t = refl

    unequal : j ≢ k → (j == k) ≡ false
    unequal n = by_test (j == k) refl
      where
        by_test : (v : Bool) → (j == k) ≡ v → v ≡ false
        by_test true t = absurd (n (same_number j k t))
        by_test false t = refl

    by : (j ≡ k) ⊎ (j ≢ k) → (b : Bool) → entries_in e.store ≡ (if b then entries_at old k ++ f ∷ [] else entries_at old k) → entries_at (slice_set old k e.store) j ≡ (if b && (j == k) then entries_at old j ++ f ∷ [] else entries_at old j)
    by (inl same) b l = subst (λ i. entries_at (slice_set old k e.store) i ≡ (if b && (i == k) then entries_at old i ++ f ∷ [] else entries_at old i)) (sym same) (here_set c old s e.store homes h ∙ here b l)
    by (inr n) b l = else_set old k j e.store n ∙ other b (j == k) (unequal n)

pub entries_stay : (c : Script) (s : Slot) (old new : List (Option Store)) (j : ℕ) → AreHomes c old → is_slot_of c s ≡ true → StayPlaces c s old new → entries_at new j ≡ entries_at old j
entries_stay c s old new j homes h e = ap (λ l. entries_at l j) e.places ∙ by (same_or_not j (place_of c.config s))
  where
    k : ℕ
    k = place_of c.config s

    by : (j ≡ k) ⊎ (j ≢ k) → entries_at (slice_set old k e.store) j ≡ entries_at old j
    by (inl same) = subst (λ i. entries_at (slice_set old k e.store) i ≡ entries_at old i) (sym same) (here_set c old s e.store homes h ∙ e.stays.list)
    by (inr n) = else_set old k j e.store n

-- Who holds each slot.

pub none_held : (places : List (Option Store)) (holders : List (Option Incarnation)) → holders ≡ replicate (length places) None → ((k : ℕ) → entries_at places k ≡ []) → AreHolders places holders
none_held places holders is none = record {
  sized = ap length is ∙ length-replicate (length places) None;
  each = λ k h. ap (λ l. at l k) is ∙ (get_replicate (length places) k None ∙ sym (ap holder (none k)));
}

pub holders_after : (c : Script) (s : Slot) (old new : List (Option Store)) (held now : List (Option Incarnation)) (f : Fact) (done : Bool) → AreHomes c old → is_slot_of c s ≡ true → EntersPlaces c s old f done new → AreHolders old held
    → now ≡ (if done then slice_set held (place_of c.config s) (holder_step (at held (place_of c.config s)) f) else held) → AreHolders new now
holders_after c s old new held now f done homes h e k is = record {
  sized = sized_by done is;
  each = λ j within. by j (subst (λ n. j < n) long within) (same_or_not j (place_of c.config s)) done is e.entered.list;
}
  where
    p : ℕ
    p = place_of c.config s

    long : length new ≡ length old
    long = ap length e.places ∙ length-set old p e.store

    sized_by : (b : Bool) → now ≡ (if b then slice_set held p (holder_step (at held p) f) else held) → length now ≡ length new
    sized_by true is = ap length is ∙ (length-set held p (holder_step (at held p) f) ∙ (k.sized ∙ sym long))
    sized_by false is = ap length is ∙ (k.sized ∙ sym long)

    at_p : at held p ≡ holder (entries_at old p)
    at_p = k.each p (inside c old s homes h)

    by : (j : ℕ) → j < length old → (j ≡ p) ⊎ (j ≢ p) → (b : Bool) → now ≡ (if b then slice_set held p (holder_step (at held p) f) else held) → entries_in e.store ≡ (if b then entries_at old p ++ f ∷ [] else entries_at old p) → at now j ≡ holder (entries_at new j)
    by j within (inl same) true is list =
        subst (λ i. at now i ≡ holder (entries_at new i)) (sym same)
        (ap (λ l. at l p) is ∙ (get_or-set_same held p (holder_step (at held p) f) None (subst (λ n. p < n) (sym k.sized) (inside c old s homes h))
        ∙ (ap (λ x. holder_step x f) at_p ∙ (sym (holder_more (entries_at old p) f)
        ∙ sym (ap holder (ap (λ l. entries_at l p) e.places ∙ (here_set c old s e.store homes h ∙ list)))))))
    by j within (inl same) false is list =
        subst (λ i. at now i ≡ holder (entries_at new i)) (sym same)
        (ap (λ l. at l p) is ∙ (at_p ∙ sym (ap holder (ap (λ l. entries_at l p) e.places ∙ (here_set c old s e.store homes h ∙ list)))))
    by j within (inr other) true is list =
        ap (λ l. at l j) is ∙ (get_or-set_other held p j (holder_step (at held p) f) None other ∙ (k.each j within ∙ sym (ap holder (ap (λ l. entries_at l j) e.places ∙ else_set old p j e.store other))))
    by j within (inr other) false is list =
        ap (λ l. at l j) is ∙ (k.each j within ∙ sym (ap holder (ap (λ l. entries_at l j) e.places ∙ else_set old p j e.store other)))

pub holders_stay : (c : Script) (s : Slot) (old new : List (Option Store)) (held : List (Option Incarnation)) → AreHomes c old → is_slot_of c s ≡ true → StayPlaces c s old new → AreHolders old held → AreHolders new held
holders_stay c s old new held homes h e k =
    let long : length new ≡ length old = ap length e.places ∙ length-set old (place_of c.config s) e.store in
    record { sized = k.sized ∙ sym long; each = λ j within. k.each j (subst (λ n. j < n) long within) ∙ sym (ap holder (entries_stay c s old new j homes h e)) }

-- At the place of a slot, of a script that is told twice.
pub record Spot (c d : Script) (s : Slot) (places : List (Option Store)) (k : ℕ) : Type 0 where
  pub same : c ≡ d
  pub homes : AreHomes c places
  pub there : is_slot_of c s ≡ true
  pub place : k ≡ place_of c.config s

pub spot_within : (c d : Script) (s : Slot) (places : List (Option Store)) (k : ℕ) → Spot c d s places k → k < length places
spot_within c d s places k p = subst (λ n. n < length places) (sym p.place) (inside c places s p.homes p.there)

pub spot_read : (c d : Script) (s : Slot) (places : List (Option Store)) (k : ℕ) (x : Option Store) → Spot c d s places k → x ≡ slice_index_or places k x → x ≡ at places (place_of c.config s)
spot_read c d s places k x p read = read ∙ (get_or_default places k x None (spot_within c d s places k p) ∙ ap (at places) p.place)

pub spot_home : (c d : Script) (s : Slot) (places : List (Option Store)) (k : ℕ) (x : Option Store) → Spot c d s places k → x ≡ slice_index_or places k x → IsThere c s x
spot_home c d s places k x p read = subst (IsThere c s) (sym (spot_read c d s places k x p read)) (there_is c places s p.homes p.there)

pub spot_stays : (c d : Script) (s : Slot) (places : List (Option Store)) (k : ℕ) (x y : Option Store) → Spot c d s places k → x ≡ slice_index_or places k x → StaysPlace c s x y → StayPlaces c s places (slice_set places k y)
spot_stays c d s places k x y p read st = record {
  store = y;
  places = ap (λ i. slice_set places i y) p.place;
  stays = subst (λ o. StaysPlace c s o y) (spot_read c d s places k x p read) st;
}

pub spot_enters : (c d : Script) (s : Slot) (places : List (Option Store)) (k : ℕ) (x y : Option Store) (f : Fact) (done : Bool) → Spot c d s places k → x ≡ slice_index_or places k x → EntersPlace c s x f done y → EntersPlaces c s places f done (slice_set places k y)
spot_enters c d s places k x y f done p read en = record {
  store = y;
  places = ap (λ i. slice_set places i y) p.place;
  entered = subst (λ o. EntersPlace c s o f done y) (spot_read c d s places k x p read) en;
}

pub spot_kept : (c d : Script) (s : Slot) (places new : List (Option Store)) (holders : List (Option Incarnation)) (shards k : ℕ) → Spot c d s places k → AreHolders places holders → shards ≡ d.config.shards → StayPlaces c s places new
    → AreHomes d new × AreHolders new holders × (shards ≡ d.config.shards)
spot_kept c d s places new holders shards k p held count st =
    (subst (λ x. AreHomes x new) p.same (homes_stay c s places new p.homes p.there st), holders_stay c s places new holders p.homes p.there st held, count)

pub spot_entered : (c d : Script) (s : Slot) (places new : List (Option Store)) (holders now : List (Option Incarnation)) (shards k : ℕ) (f : Fact) (done : Bool) → Spot c d s places k → AreHolders places holders → shards ≡ d.config.shards → EntersPlaces c s places f done new
    → now ≡ (if done then slice_set holders k (holder_step (at holders k) f) else holders) → AreHomes d new × AreHolders new now × (shards ≡ d.config.shards)
spot_entered c d s places new holders now shards k f done p held count en noted = (
  subst (λ x. AreHomes x new) p.same (homes_after c s places new f done p.homes p.there en),
  holders_after c s places new holders now f done p.homes p.there en held (noted ∙ ap (λ i. if done then slice_set holders i (holder_step (at holders i) f) else holders) p.place),
  count,
)
