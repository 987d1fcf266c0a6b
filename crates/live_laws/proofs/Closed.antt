-- What a closed table gives.
use Rattle.std.proofs.Common.{◌≡◌, ◌<◌, ◌≤◌, ℕ, zero, suc, ◌+◌, ◌-◌, ⊎_elim, List, length, map, sym, ap, ◌∙◌, refl, subst, true, arith}
use Rattle.std.specs.Prelude.{nat_le, [], Option, slice_index_or}
use Rattle.std.specs.List.{list_all}
use Rattle.std.proofs.lemmas.List.{length-map}
use Rattle.plain_laws.proofs.Booleans.{and_both, at_most, below, is_below}
use Rattle.yard_model.specs.declared.fact.Fact.{Fact}
use Rattle.yard_model.specs.declared.incarnation.Slot.{Slot}
use Rattle.yard_model.specs.declared.incarnation.Slot.TheVariants as slot
use Rattle.yard_model.specs.Genuine.{is_slot_of, is_producer}
use Rattle.yard_model.specs.Lawful.{own}
use Rattle.yard_model.specs.Script.{Script}
use Rattle.yard_model.specs.SlotLists.{SlotLists, queue_list}
use Rattle.yard_model.specs.Trace.{list_at}
use Rattle.yard_model.specs.Words.{at, numbers}
use Rattle.shard_lease.specs.Meaning.{Begins, confirms}
use Rattle.shard_store.specs.declared.store.Store.{Store}
use Rattle.shard_store.specs.Stores.{entries_of, entries_in, entries_at, lists_at, place_of}
use Rattle.shard_store.proofs.PlaceLaws.{place_within, slot_back}
use Rattle.lease_table.specs.declared.View.{View}
use Rattle.lease_table.specs.Fits.{Fits, is_fit, recorded, home_of}
use Rattle.lease_table.specs.Leasing.{Closed, ClosedAt}
use Rattle.lease_table.proofs.Records.{home_within}
use Rattle.live_laws.specs.Live.{ClosedIsLawful, ClosedIsWorked, SawQueued, HasSeen}
use Rattle.live_laws.proofs.Closes.{table_is_lawful}
use Rattle.live_laws.proofs.Steadies.{steady_is_worked}

length_numbers : (a n : ℕ) → length (numbers a n) ≡ n
length_numbers a zero = refl
length_numbers a (suc n) = ap suc (length_numbers (a + 1) n)

got_number : (f : ℕ → List Fact) (a n i : ℕ) → i < n → slice_index_or (map f (numbers a n)) i [] ≡ f (a + i)
got_number f a zero i h = absurd (omega arith)
got_number f a (suc n) zero h = ap f (omega arith)
got_number f a (suc n) (suc i) h = got_number f (a + 1) n i (omega arith) ∙ ap f (omega arith)

-- the list of a slot is that of its place
pub list_there : (c : Script) (places : List (Option Store)) (s : Slot) → is_slot_of c s ≡ true → list_at (lists_at c.config places) s ≡ entries_at places (place_of c.config s)
list_there c places (slot.Shard k) h = got_number (entries_at places) 0 c.config.shards k (below k c.config.shards h) ∙ ap (entries_at places) (let same : 0 + k ≡ k = omega arith in same)
list_there c places slot.Coordinator h = refl
list_there c places (slot.Queue p) h =
    let t : (nat_le 1 p ≡ true) × (nat_le p c.config.producers ≡ true) = and_both (nat_le 1 p) (nat_le p c.config.producers) h in
    let low : 1 ≤ p = at_most 1 p t.0 in
    let high : p ≤ c.config.producers = at_most p c.config.producers t.1 in
    let back : c.config.shards + (1 + (p - 1)) ≡ c.config.shards + p = omega arith in
    got_number (λ q. entries_at places (c.config.shards + q)) 1 c.config.producers (p - 1) (omega arith) ∙ ap (entries_at places) back

module _ (c : Script) (v : View) (places : List (Option Store)) (closed : Closed c v places) where
  abbrev lists : SlotLists
  lists = lists_at c.config places

  at_slot : (s : Slot) → is_slot_of c s ≡ true → ClosedAt c v (place_of c.config s) (at places (place_of c.config s))
  at_slot s h = closed.each (place_of c.config s) (place_within c s h)

  list_is : (s : Slot) (h : is_slot_of c s ≡ true) → list_at lists s ≡ entries_of (at_slot s h).store
  list_is s h = list_there c places s h ∙ ap entries_in (at_slot s h).there

  fits : (s : Slot) (h : is_slot_of c s ≡ true) → Fits c (place_of c.config s) (list_at lists s)
  fits s h = subst (Fits c (place_of c.config s)) (sym (list_is s h)) (at_slot s h).own

  owned : (s : Slot) → is_slot_of c s ≡ true → own c s (list_at lists s) ≡ true
  owned s h = subst (λ q. own c q (list_at lists s) ≡ true) (slot_back c s h) (fits s h).lawful

  fit : (s : Slot) → is_slot_of c s ≡ true → list_all (is_fit c s) (list_at lists s) ≡ true
  fit s h = subst (λ q. list_all (is_fit c q) (list_at lists s) ≡ true) (slot_back c s h) (fits s h).fit

  there : (q : ℕ) (e : List ℕ) (p n : ℕ) → is_producer c q ≡ true → confirms e p n (queue_list lists q) ≡ true → recorded e p n (list_at lists (slot.Shard (home_of c e))) ≡ true
  there q e p n h k =
      subst (λ l. recorded e p n l ≡ true) (sym (list_there c places (slot.Shard (home_of c e)) (is_below (home_of c e) c.config.shards (home_within c e closed.script))))
      (closed.confirmed (place_of c.config (slot.Queue q)) e p n (place_within c (slot.Queue q) h) (subst (λ l. confirms e p n l ≡ true) (list_there c places (slot.Queue q) h) k))

  saw : (p : ℕ) → is_producer c p ≡ true → SawQueued c v p → HasSeen c p (queue_list lists p)
  saw p h s =
      let x = at_slot (slot.Queue p) h in record {
        seen = s.list;
        begins = subst (λ l. Begins s.list l) (sym (list_is (slot.Queue p) h)) (⊎_elim (λ e. subst (λ l. Begins l (entries_of x.store)) (sym e) x.seen) (λ o. x.olds s.list o) s.saw);
        all = s.all;
      }

pub closed_is_lawful : ClosedIsLawful
closed_is_lawful c v places closed =
    table_is_lawful c (lists_at c.config places) closed.script
    (length-map (numbers 0 c.config.shards) (entries_at places) ∙ length_numbers 0 c.config.shards)
    (length-map (numbers 1 c.config.producers) (λ p. entries_at places (c.config.shards + p)) ∙ length_numbers 1 c.config.producers)
    (owned c v places closed) (there c v places closed)

pub closed_is_worked : ClosedIsWorked
closed_is_worked c turns v places closed seen =
    steady_is_worked c turns (lists_at c.config places) (λ p h. owned c v places closed (slot.Queue p) h) (λ p h. fit c v places closed (slot.Queue p) h)
    (λ p n h steady. saw c v places closed p h (seen p n h steady))
