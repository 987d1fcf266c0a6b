-- The stores of all slots after a change of the number of shards.
use Rattle.std.proofs.Common.{◌≡◌, ℕ, zero, suc, ◌+◌, ◌-◌, ◌<◌, ◌≤◌, List, length, sym, ap, subst, ◌∙◌, refl, true, false, arith}
use Rattle.std.specs.Prelude.{Bool, [], ◌∷◌, ◌++◌, ◌==◌, ◌&&◌, nat_lt, nat_le, map, fold, max, Option, Some, None, if◌then◌else◌}
use Rattle.plain_laws.proofs.Booleans.{and_both, both, number_itself, at_most, below, not_below, is_below}
use Rattle.yard_model.specs.declared.fact.Fact.{Fact}
use Rattle.yard_model.specs.declared.fact.Fact.TheVariants as fact
use Rattle.yard_model.specs.declared.incarnation.Slot.{Slot}
use Rattle.yard_model.specs.declared.incarnation.Slot.TheVariants as slot
use Rattle.yard_model.specs.Behaviour.{is_in}
use Rattle.yard_model.specs.Era.{base, reshaped}
use Rattle.yard_model.specs.Genuine.{is_brought}
use Rattle.yard_model.specs.Lawful.{own, is_held, is_of_shard}
use Rattle.yard_model.specs.Script.{Script, IsScript, setting, with_shards}
use Rattle.yard_model.specs.Setting.{set_shards}
use Rattle.yard_model.specs.Shard.{shard}
use Rattle.yard_model.specs.SlotLists.{SlotLists, shard_list}
use Rattle.yard_model.specs.SlotReads.{epoch}
use Rattle.yard_model.specs.Trace.{list_at}
use Rattle.yard_model.specs.Words.{numbers, at}
use Rattle.yard_model.specs.World.{greatest_epoch}
use Rattle.era_laws.proofs.ShapeLaws.{reshaped_list, shard_below}
use Rattle.shard_store.specs.declared.store.Store.{Store}
use Rattle.shard_store.specs.declared.store.Store.TheVariants as store
use Rattle.shard_store.specs.Shelf.{Shelf}
use Rattle.shard_store.specs.Reshaped.{list_of, next_lists, IsOwn, AreEach, IsAfter, IsAfterAt, going_on, is_of_shards}
use Rattle.shard_store.specs.Stores.{Shelves, slot_at, script_of, slot_of, entries_of, entries_at, entries_in, lists_at, IsHome, IsThere, AreHomes}
use Rattle.shard_store.proofs.ReshapeLaws.{after_free}
use Rattle.shard_store.proofs.StoresLaws.{shard_at, coordinator_at, queue_at, shard_list_is, queue_list_is}

-- The greatest epoch, place by place.

pub greatest_more : (f : ℕ → List Fact) (place count now next total : ℕ) → place < count → next ≡ max now (epoch (f place)) → fold (λ m x. max m (epoch x)) now (map f (numbers place (count - place))) ≡ total
    → fold (λ m x. max m (epoch x)) next (map f (numbers (place + 1) (count - (place + 1)))) ≡ total
greatest_more f place count now next total within is so_far =
    let left : count - place ≡ suc (count - (place + 1)) = omega arith in
    ap (λ m. fold (λ m x. max m (epoch x)) m (map f (numbers (place + 1) (count - (place + 1))))) is
    ∙ (sym (ap (λ n. fold (λ m x. max m (epoch x)) now (map f (numbers place n))) left) ∙ so_far)

pub own_more_at : (places : List (Option Store)) (n : ℕ) → IsOwn (at places n) → ((k : ℕ) → k < n → IsOwn (at places k)) → (k : ℕ) → k < n + 1 → IsOwn (at places k)
own_more_at places n new old k h = by (nat_lt k n) refl
  where
    by : (b : Bool) → nat_lt k n ≡ b → IsOwn (at places k)
    by true e = old k (below k n e)
    by false e =
        let past : n ≤ k = not_below k n e in
        let here : n ≡ k = omega (arith, past, h) in
        subst (λ j. IsOwn (at places j)) here new

-- the list of each shard is lawful by itself
pub own_lists : (c : Script) (places : List (Option Store)) → AreHomes c places → ((k : ℕ) → k < c.config.shards → IsOwn (at places k)) → (s : ℕ) → own c (slot.Shard s) (shard_list (lists_at c.config places) s) ≡ true
own_lists c places homes owns s = subst (λ l. own c (slot.Shard s) l ≡ true) (shard_list_is c.config places s) (by (nat_lt s c.config.shards) refl)
  where
    there : (o : Option Store) → IsThere c (slot.Shard s) o → IsOwn o → own c (slot.Shard s) (entries_in o) ≡ true
    there None h k = absurd h
    there (Some x) h k = subst (λ d. own d (slot.Shard s) (entries_of x) ≡ true) h.script_is (subst (λ t. own (script_of x) t (entries_of x) ≡ true) h.slot_is k)

    by : (b : Bool) → nat_lt s c.config.shards ≡ b → own c (slot.Shard s) (if b then entries_at places s else []) ≡ true
    by true e =
        let within : s < c.config.shards = below s c.config.shards e in
        there (at places s) (subst (λ t. IsThere c t (at places s)) (shard_at c.config s within) (homes.each s (omega (arith, within, homes.all)))) (owns s within)
    by false e = refl

-- The store of the shard of a name.

pub shards_in : (c : Script) → IsScript c → (1 ≤ c.config.shards) × (c.config.shards ≤ 128)
shards_in c k =
    let m : (nat_le 1 c.config.shards ≡ true) × (nat_le c.config.shards 128 ≡ true) = and_both (nat_le 1 c.config.shards) (nat_le c.config.shards 128)
    (second (is_in 1 16 c.config.nodes) (is_in 1 128 c.config.shards) (is_in 1 32 c.config.producers) (is_in 1 1000 c.config.buffer) (is_in 1 64 c.config.window) (is_in 1 10000 c.config.snapshot) (is_in 1 10 c.config.keep) k.config) in
    (at_most 1 c.config.shards m.0, at_most c.config.shards 128 m.1)
  where
    second : (a b d e f g i : Bool) → (a && b && d && e && f && g && i) ≡ true → b ≡ true
    second true true d e f g i h = refl
    second true false d e f g i h = h
    second false true d e f g i h = refl
    second false false d e f g i h = h

-- what is told of it
pub record IsFound (v : Shelves) (e : List ℕ) (x : Shelf) : Type 0 where
  pub script_is : x.script ≡ v.script
  pub of : is_of_shard x.script x.shard e ≡ true
  pub list_is : x.entries ≡ list_of v e

pub found : (v : Shelves) (e : List ℕ) (x : Shelf) (s : ℕ) → AreHomes v.script v.places → s ≡ shard v.script.config.shards e → at v.places s ≡ Some (store.Shard x) → is_brought v.script e ≡ true → IsFound v e x
found v e x s homes is here brought = record {
  script_is = home.script_is;
  of = ap (λ c. is_of_shard c x.shard e) home.script_is ∙ both (is_brought v.script e) (shard v.script.config.shards e == x.shard) brought (number_itself (shard v.script.config.shards e) x.shard (sym is ∙ sym (ap number home.slot_is)));
  list_is = ap entries_in (sym here) ∙ (ap (λ b. if b then entries_at v.places s else []) (sym (is_below s v.script.config.shards within)) ∙ (shard_list_is v.script.config v.places s ∙ ap (shard_list (lists_at v.script.config v.places)) is));
}
  where
    number : Slot → ℕ
    number (slot.Shard t) = t
    number t = 0

    within : s < v.script.config.shards
    within = subst (λ t. t < v.script.config.shards) (sym is) (shard_below v.script.config.shards e (let some : 1 ≤ v.script.config.shards = (shards_in v.script homes.script_is).0 in omega arith))

    home : IsHome v.script (slot.Shard s) (store.Shard x)
    home = subst (IsThere v.script (slot.Shard s)) here (subst (λ t. IsThere v.script t (at v.places s)) (shard_at v.script.config s within) (homes.each s (omega (arith, within, homes.all))))

-- The store of a shard from here on.

pub shard_is_after : (x : Shelves) (c : Script) (s n k : ℕ) (old new : Shelf) → s < c.config.shards → n ≡ s → old ≡ record { script = c; shard = n; entries = shard_list (next_lists x c.config.shards k) n; spare = 0 } → new ≡ record old { spare = new.spare } → 100 ≤ new.spare
    → IsAfter c (slot.Shard s) (shard_list (next_lists x c.config.shards k) s) (store.Shard new)
shard_is_after x c s n k old new within same was is enough =
    let lists : SlotLists = next_lists x c.config.shards k in
    let list : new.entries ≡ shard_list lists s = ap (λ (y : Shelf). y.entries) is ∙ (ap (λ (y : Shelf). y.entries) was ∙ ap (shard_list lists) same) in
    record {
      home_is = record {
        script_is = ap (λ (y : Shelf). y.script) is ∙ ap (λ (y : Shelf). y.script) was;
        slot_is = ap (λ (y : Shelf). slot.Shard y.shard) is ∙ (ap (λ (y : Shelf). slot.Shard y.shard) was ∙ ap (λ t. slot.Shard t) same);
        spare_is = λ h. enough;
      };
      list_is = list;
      free = ap is_held list ∙ after_free x c.config.shards k s within;
    }

-- The other slots.

-- what stands at the place of a slot that isn't a shard's
pub record IsOther (d : Script) (n k : ℕ) (old : List (Option Store)) (j : ℕ) : Type 0 where
  pub slot_is : slot_at (with_shards n d).config (n + (j - d.config.shards)) ≡ slot_at d.config j
  pub other : is_of_shards (slot_at d.config j) ≡ false
  pub list_is : going_on n k (slot_at d.config j) (entries_at old j) ≡ list_at (reshaped (setting d) n k (lists_at d.config old)) (slot_at d.config j)

pub other_at : (d : Script) (n k : ℕ) (old : List (Option Store)) (j : ℕ) → AreHomes d old → d.config.shards ≤ j → IsOther d n k old j
other_at d n k old j homes from = by (nat_lt d.config.shards j) refl
  where
    m : ℕ
    m = d.config.shards

    new : SlotLists
    new = reshaped (setting d) n k (lists_at d.config old)

    by : (b : Bool) → nat_lt m j ≡ b → IsOther d n k old j
    by true e =
        let past : m < j = below m j e in
        let it : slot_at d.config j ≡ slot.Queue (j - m) = queue_at d.config j (j - m) past refl in
        let same : slot_at (with_shards n d).config (n + (j - m)) ≡ slot.Queue (j - m) = queue_at (with_shards n d).config (n + (j - m)) (j - m) (omega (arith, past)) (omega arith) in
        record {
          slot_is = same ∙ sym it;
          other = ap is_of_shards it;
          list_is = subst (λ t. going_on n k t (entries_at old j) ≡ list_at new t) (sym it) (ap (entries_at old) (let back : j ≡ m + (j - m) = omega (arith, from) in back) ∙ queue_list_is d old (j - m) homes (omega (arith, past)));
        }
    by false e =
        let most : j ≤ m = not_below m j e in
        let here : j ≡ m = omega (arith, most, from) in
        let it : slot_at d.config j ≡ slot.Coordinator = coordinator_at d.config j here in
        let same : slot_at (with_shards n d).config (n + (j - m)) ≡ slot.Coordinator = coordinator_at (with_shards n d).config (n + (j - m)) (omega (arith, here)) in
        record {
          slot_is = same ∙ sym it;
          other = ap is_of_shards it;
          list_is = subst (λ t. going_on n k t (entries_at old j) ≡ list_at new t) (sym it) (ap (λ i. entries_at old i ++ fact.Reshard n k ∷ []) here);
        }

-- the store that is taken out there
pub home_of : (c : Script) (s : Slot) (o : Option Store) (x : Store) → IsThere c s o → o ≡ Some x → IsHome c s x
home_of c s o x h e = subst (IsThere c s) e h

pub none_there : (c : Script) (s : Slot) (o : Option Store) → IsThere c s o → o ≡ None → ⊥
none_there c s o h e = subst (IsThere c s) e h

-- the place after those is its slot's
pub other_after : (d c : Script) (n k : ℕ) (old : List (Option Store)) (j i : ℕ) (x y : Store) → c ≡ with_shards n d → IsOther d n k old j → slot_of x ≡ slot_at d.config j → entries_of x ≡ entries_at old j → i ≡ n + (j - d.config.shards)
    → IsAfter c (slot_of x) (going_on n k (slot_of x) (entries_of x)) y → IsAfterAt c (reshaped (setting d) n k (lists_at d.config old)) (slot_at c.config i) (Some y)
other_after d c n k old j i x y same it slot_is list_is here after =
    let t : Slot = slot_at d.config j in
    let new : SlotLists = reshaped (setting d) n k (lists_at d.config old) in
    let at_it : IsAfter c t (going_on n k t (entries_at old j)) y = subst (λ l. IsAfter c t (going_on n k t l) y) list_is (subst (λ u. IsAfter c u (going_on n k u (entries_of x)) y) slot_is after) in
    subst (λ u. IsAfter c u (list_at new u) y) (sym (ap (λ (z : Script). slot_at z.config i) same ∙ (ap (slot_at (with_shards n d).config) here ∙ it.slot_is)))
    (subst (λ l. IsAfter c t l y) it.list_is at_it)

-- All slots.

map_numbers : (f g : ℕ → List Fact) (a n : ℕ) → ((i : ℕ) → a ≤ i → i < a + n → f i ≡ g i) → map f (numbers a n) ≡ map g (numbers a n)
map_numbers f g a zero h = refl
map_numbers f g a (suc n) h = ap (λ x. x ∷ map f (numbers (a + 1) n)) (h a (omega arith) (omega arith)) ∙ ap (λ l. g a ∷ l) (map_numbers f g (a + 1) n (λ i b l. h i (omega (arith, b)) (omega (arith, l))))

-- what stands of each place
record IsPlaced (c : Script) (lists : SlotLists) (s : Slot) (o : Option Store) : Type 0 where
  pub there : IsThere c s o
  pub list_is : entries_in o ≡ list_at lists s
  pub free : is_held (entries_in o) ≡ false

placed : (c : Script) (lists : SlotLists) (s : Slot) (o : Option Store) → IsAfterAt c lists s o → IsPlaced c lists s o
placed c lists s None h = absurd h
placed c lists s (Some x) h = record { there = h.home_is; list_is = h.list_is; free = h.free }

abbrev pub AreAll : Script → SlotLists → List (Option Store) → Type 0
AreAll c lists places = AreEach None (λ k. IsAfterAt c lists (slot_at c.config k)) places (c.config.shards + c.config.producers + 1)

pub all_homes : (c : Script) (lists : SlotLists) (places : List (Option Store)) → IsScript c → AreAll c lists places → AreHomes c places
all_homes c lists places script all = record {
  script_is = script;
  all = all.count;
  each = λ k h. (placed c lists (slot_at c.config k) (at places k) (all.each k (subst (λ n. k < n) all.count h))).there;
}

pub all_free : (c : Script) (lists : SlotLists) (places : List (Option Store)) → AreAll c lists places → (k : ℕ) → k < length places → is_held (entries_at places k) ≡ false
all_free c lists places all k h = (placed c lists (slot_at c.config k) (at places k) (all.each k (subst (λ n. k < n) all.count h))).free

lists_by : (d : Script) (n k : ℕ) (old places : List (Option Store)) → AreHomes d old → AreAll (with_shards n d) (reshaped (setting d) n k (lists_at d.config old)) places
    → lists_at (with_shards n d).config places ≡ reshaped (setting d) n k (lists_at d.config old)
lists_by d n k old places homes all =
    ap (λ x. record { shards = x; coordinator = entries_at places n; queues = map (λ p. entries_at places (n + p)) (numbers 1 d.config.producers) }) shards_are
    ∙ (ap (λ x. record { shards = map list_of (numbers 0 n); coordinator = x; queues = map (λ p. entries_at places (n + p)) (numbers 1 d.config.producers) }) coordinator_is
    ∙ ap (λ x. record { shards = map list_of (numbers 0 n); coordinator = new.coordinator; queues = x }) queues_are)
  where
    new : SlotLists
    new = reshaped (setting d) n k (lists_at d.config old)

    c : Script
    c = with_shards n d

    list_of : ℕ → List Fact
    list_of s = base (setting d) (set_shards n (setting d)) (lists_at d.config old) s ++ fact.Resharded s n k ∷ []

    at_slot : (i : ℕ) → i < n + d.config.producers + 1 → entries_at places i ≡ list_at new (slot_at c.config i)
    at_slot i h = (placed c new (slot_at c.config i) (at places i) (all.each i h)).list_is

    shards_are : map (entries_at places) (numbers 0 n) ≡ map list_of (numbers 0 n)
    shards_are = map_numbers (entries_at places) list_of 0 n (λ i b l. at_slot i (omega (arith, l)) ∙ (ap (list_at new) (shard_at c.config i (omega (arith, l))) ∙ reshaped_list (setting d) n k (lists_at d.config old) i (omega (arith, l))))

    coordinator_is : entries_at places n ≡ new.coordinator
    coordinator_is = at_slot n (omega arith) ∙ ap (list_at new) (coordinator_at c.config n refl)

    queues_are : map (λ p. entries_at places (n + p)) (numbers 1 d.config.producers) ≡ new.queues
    queues_are = map_numbers (λ p. entries_at places (n + p)) (λ p. entries_at old (d.config.shards + p)) 1 d.config.producers
        (λ p b l. at_slot (n + p) (omega (arith, l)) ∙ (ap (list_at new) (queue_at c.config (n + p) p (omega (arith, b)) (omega arith)) ∙ sym (queue_list_is d old p homes (omega (arith, b)))))

pub lists_after : (d c : Script) (n k : ℕ) (old places : List (Option Store)) → c ≡ with_shards n d → AreHomes d old → AreAll c (reshaped (setting d) n k (lists_at d.config old)) places → lists_at c.config places ≡ reshaped (setting d) n k (lists_at d.config old)
lists_after d c n k old places same homes all =
    let new : SlotLists = reshaped (setting d) n k (lists_at d.config old) in
    ap (λ (y : Script). lists_at y.config places) same ∙ lists_by d n k old places homes (subst (λ (y : Script). AreAll y new places) same all)

pub whole : (x : Shelves) (c : Script) (places result : List (Option Store)) (k : ℕ) → k ≡ greatest_epoch (lists_at x.script.config x.places) → c ≡ with_shards c.config.shards x.script → AreHomes x.script x.places
    → AreAll c (next_lists x c.config.shards k) places → result ≡ places
    → lists_at c.config result ≡ reshaped (setting x.script) c.config.shards (greatest_epoch (lists_at x.script.config x.places)) (lists_at x.script.config x.places)
whole x c places result k k_is same homes all is =
    let n : ℕ = c.config.shards in
    ap (lists_at c.config) is
    ∙ (lists_after x.script c n k x.places places same homes all
    ∙ ap (λ m. reshaped (setting x.script) n m (lists_at x.script.config x.places)) k_is)

-- The shards that come first are at the places of their slots.

pub first_at : (c : Script) (lists : SlotLists) (places : List (Option Store)) (n : ℕ) → n ≡ c.config.shards → AreEach None (λ k. IsAfterAt c lists (slot.Shard k)) places c.config.shards → AreEach None (λ k. IsAfterAt c lists (slot_at c.config k)) places n
first_at c lists places n count first = record {
  count = first.count ∙ sym count;
  each = λ i h. let within : i < c.config.shards = omega (arith, h, count) in subst (λ t. IsAfterAt c lists t (at places i)) (sym (shard_at c.config i within)) (first.each i within);
}
