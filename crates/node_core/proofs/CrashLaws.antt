-- The end of a node: the slots that are freed one after another, and that together they are its crash.
use Rattle.std.proofs.Common.{◌≡◌, ◌≢◌, ◌⊎◌, inl, inr, ℕ, zero, suc, ◌+◌, ◌-◌, ◌*◌, ◌<◌, ◌≤◌, List, [], ◌∷◌, ◌++◌, length, map, sym, ap, subst, ◌∙◌, refl, append-nil, append_assoc, true, false, arith}
use Rattle.std.specs.Prelude.{Bool, ◌==◌, ◌||◌, fold, nat_le, not, slice_index_or, slice_set, Option, Some, None, is_none, is_some, IfSome, MatchOption}
use Rattle.std.specs.Option.{option_map}
use Rattle.std.specs.List.{flat_map, list_all, list_any}
use Rattle.std.proofs.lemmas.Grind.{flat_map-append}
use Rattle.std.proofs.lemmas.List.{map-append, length-append, length-map, get_or-set_other}
use Rattle.std.proofs.lemmas.List.Folds.{flat_map-map, list_any-append}
use Rattle.yard_model.specs.declared.fact.Fact.{Fact}
use Rattle.yard_model.specs.declared.fact.Fact.TheVariants as fact
use Rattle.yard_model.specs.declared.incarnation.Cause.TheVariants as cause
use Rattle.yard_model.specs.declared.incarnation.Incarnation.{Incarnation}
use Rattle.yard_model.specs.declared.incarnation.Slot.{Slot}
use Rattle.yard_model.specs.declared.incarnation.Slot.TheVariants as slot
use Rattle.yard_model.specs.declared.out.Item.{Item}
use Rattle.yard_model.specs.Coordinator.{Coordinator}
use Rattle.yard_model.specs.Entities.{Hosted, hosted, is_hosted}
use Rattle.yard_model.specs.Genuine.{is_node, is_producer, is_slot_of}
use Rattle.yard_model.specs.Node.{Node, freed_stopped, crash}
use Rattle.yard_model.specs.Producer.{Producer}
use Rattle.yard_model.specs.Region.{Region}
use Rattle.yard_model.specs.Script.{Script, IsScript, setting, pairs_in}
use Rattle.yard_model.specs.Setting.{shards, producers}
use Rattle.yard_model.specs.SlotReads.{holder, holder_step}
use Rattle.yard_model.specs.Spared.{Spared}
use Rattle.yard_model.specs.Trace.{list_at}
use Rattle.yard_model.specs.Turns.{where_some}
use Rattle.yard_model.specs.Words.{at, numbers}
use Rattle.plain_laws.proofs.Booleans.{true_is_not_false, and_both, both, at_most, below, within, or_both, right_of, same_number, number_itself, other_number}
use Rattle.plain_laws.proofs.Lists.{by_place, placed_beside}
use Rattle.actor_laws.specs.Hands.{held_list}
use Rattle.coordinator_actor.specs.Held.{Held}
use Rattle.durable_queue.specs.Queue.{Queue}
use Rattle.shard_entities.specs.Lodged.{Lodged, IsStore, without}
use Rattle.shard_store.specs.Shelf.{Shelf}
use Rattle.shard_lease.specs.Meaning.{Meaning, Stays, is_taken}
use Rattle.producer_ctl.specs.Producing as producing
use Rattle.producer_ctl.specs.Producing.{Producing, no_routing}
use Rattle.node_core.specs.Found.{asks}
use Rattle.node_core.specs.Gave.{Moment, moment}
use Rattle.node_core.specs.Leased.{Rests, IsFreed, IsHandOf, MayGiveQueue, MayGiveOffice}
use Rattle.node_core.specs.LetGo.{LetGo, AreFreed, IsGone, IsSlotFreed, SlotFreed, slot_ends, slots_end, is_in}
use Rattle.node_core.specs.Slots.{queue_slots, last_slots, slots}
use Rattle.node_core.specs.Standing.{Standing, IsEnding, IsOf, IsReady, node_of, standing_of}
use Rattle.node_core.proofs.AskLaws.{asks_is, asks_itself}
use Rattle.node_core.proofs.GaveLaws.{stays_same}
use Rattle.node_core.proofs.LetGoLaws.{Frees, freed_goes, let_both, let_nothing}
use Rattle.room_laws.proofs.Gives.{length_numbers}
use Rattle.room_laws.proofs.Limits.{few_shards}
use Rattle.node_core.proofs.PartLaws.{IsOfHosted, store_hosted, held_is, none_there, without_frees, serves_at, holds_it, hand_of, leased_of}

-- Slots of one kind, among those of some numbers.

module _ (f : ℕ → Slot) (alike : (i j : ℕ) → asks (f i) (f j) ≡ (i == j)) where
  among_by : (a n i : ℕ) (b : Bool) → (i == a) ≡ b → (b ≡ false → is_in (map f (numbers (a + 1) n)) (f i) ≡ true) → (asks (f i) (f a) || is_in (map f (numbers (a + 1) n)) (f i)) ≡ true
  among_by a n i true e rest = ap (λ b. b || is_in (map f (numbers (a + 1) n)) (f i)) (alike i a ∙ e)
  among_by a n i false e rest = right_of (asks (f i) (f a)) (is_in (map f (numbers (a + 1) n)) (f i)) (rest refl)

  pub among : (a n i : ℕ) → a ≤ i → i < a + n → is_in (map f (numbers a n)) (f i) ≡ true
  among a zero i low high = absurd (let e : 0 < 0 = omega (arith, low, high) in omega (arith, e))
  among a (suc n) i low high = among_by a n i (i == a) refl (λ no. among (a + 1) n i (let other = other_number i a no in omega (arith, low, other)) (omega (arith, high)))

  within_by : (a n i : ℕ) (b : Bool) → (i == a) ≡ b → (b || is_in (map f (numbers (a + 1) n)) (f i)) ≡ true → (is_in (map f (numbers (a + 1) n)) (f i) ≡ true → (a + 1 ≤ i) × (i < a + 1 + n)) → (a ≤ i) × (i < a + suc n)
  within_by a n i true e h rest = let same = same_number i a e in (omega (arith, same), omega (arith, same))
  within_by a n i false e h rest = let k = rest h in let low = k.0 in let high = k.1 in (omega (arith, low), omega (arith, high))

  pub is_within : (a n i : ℕ) → is_in (map f (numbers a n)) (f i) ≡ true → (a ≤ i) × (i < a + n)
  is_within a zero i h = absurd (true_is_not_false (sym h))
  is_within a (suc n) i h = within_by a n i (i == a) refl (subst (λ b. (b || is_in (map f (numbers (a + 1) n)) (f i)) ≡ true) (alike i a) h) (is_within (a + 1) n i)

  pub beyond : (a n i : ℕ) → a + n ≤ i → is_in (map f (numbers a n)) (f i) ≡ false
  beyond a n i h = by (is_in (map f (numbers a n)) (f i)) refl
    where
      by : (b : Bool) → is_in (map f (numbers a n)) (f i) ≡ b → b ≡ false
      by false e = refl
      by true e = let high = (is_within a n i e).1 in absurd (let k : 0 < 0 = omega (arith, h, high) in omega (arith, k))

-- none of another kind
pub none_in : (f : ℕ → Slot) (s : Slot) → ((j : ℕ) → asks s (f j) ≡ false) → (ns : List ℕ) → is_in (map f ns) s ≡ false
none_in f s h [] = refl
none_in f s h (n ∷ ns) = ap (λ b. b || is_in (map f ns) s) (h n) ∙ none_in f s h ns

numbers_last : (a n : ℕ) → numbers a (suc n) ≡ numbers a n ++ (a + n) ∷ []
numbers_last a zero = ap (λ x. x ∷ []) (let e : a ≡ a + 0 = omega arith in e)
numbers_last a (suc n) = ap (λ l. a ∷ l) (numbers_last (a + 1) n ∙ ap (λ x. numbers (a + 1) n ++ x ∷ []) (let e : a + 1 + n ≡ a + suc n = omega arith in e))

-- of one slot
only_one : (b : Bool) → (b || false) ≡ true → b ≡ true
only_one true h = refl
only_one false h = absurd (true_is_not_false (sym h))

-- one number more
one_more : (f : ℕ → Slot) (a n i : ℕ) → a + n ≡ i → map f (numbers a n) ++ f i ∷ [] ≡ map f (numbers a (n + 1))
one_more f a n i e = sym (ap (map f) (ap (numbers a) (let k : n + 1 ≡ suc n = omega arith in k) ∙ (numbers_last a n ∙ ap (λ x. numbers a n ++ x ∷ []) e)) ∙ map-append f (numbers a n) (i ∷ []))

-- What is freed, in turn.

ends_same : (st to : Node) (ss : List Slot) → ((s : Slot) → is_in ss s ≡ true → held_list s to ≡ held_list s st) → slots_end ss to ≡ slots_end ss st
ends_same st to [] h = refl
ends_same st to (s ∷ ss) h =
    ap (λ o. where_some (freed_stopped s) o ++ slots_end ss to) (h s (ap (λ b. b || is_in ss s) (asks_itself s)))
    ∙ ap (λ l. slot_ends s st ++ l) (ends_same st to ss (λ z k. h z (right_of (asks z s) (is_in ss z) k)))

pub freed_both : (gs hs : List Slot) (v w x : Standing) (m n k : Meaning) (before mid late : Spared Item) → ((s : Slot) → is_in hs s ≡ true → (is_slot_of v.script s ≡ true) × (is_in gs s ≡ false))
    → AreFreed gs v w m n before mid → AreFreed hs w x n k mid late → AreFreed (gs ++ hs) v x m k before late
freed_both gs hs v w x m n k before mid late apart f g = record {
  script_is = g.script_is ∙ f.script_is;
  goes = subst (λ fs. LetGo v.script fs (moment m v.state before.items) (moment k x.state late.items)) (sym (flat_map-append (λ s. slot_ends s v.state) gs hs))
      (let_both v.script (slots_end gs v.state) (slots_end hs v.state) (moment m v.state before.items) (moment n w.state mid.items) (moment k x.state late.items) f.goes
      (subst (λ fs. LetGo v.script fs (moment n w.state mid.items) (moment k x.state late.items)) (ends_same v.state w.state hs (λ s h. f.else_are s (apart s h).0 (apart s h).1))
      (subst (λ (c : Script). LetGo c (slots_end hs w.state) (moment n w.state mid.items) (moment k x.state late.items)) f.script_is g.goes)));
  gone_are = λ s valid h. gone s valid (is_in hs s) refl (sym (list_any-append (asks s) gs hs) ∙ h);
  else_are = λ s valid h.
      let parts : (is_in gs s ≡ false) × (is_in hs s ≡ false) = or_both (is_in gs s) (is_in hs s) (sym (list_any-append (asks s) gs hs) ∙ h) in
      g.else_are s (there s valid) parts.1 ∙ f.else_are s valid parts.0;
  ending = g.ending;
  room = let one = f.room in let two = g.room in let all : length (gs ++ hs) ≡ length gs + length hs = length-append gs hs in omega (arith, one, two, all);
}
  where
    there : (s : Slot) → is_slot_of v.script s ≡ true → is_slot_of w.script s ≡ true
    there s valid = subst (λ (c : Script). is_slot_of c s ≡ true) (sym f.script_is) valid

    gone : (s : Slot) → is_slot_of v.script s ≡ true → (b : Bool) → is_in hs s ≡ b → (is_in gs s || b) ≡ true → held_list s x.state ≡ None
    gone s valid true e h = g.gone_are s (there s valid) e
    gone s valid false e h = g.else_are s (there s valid) e ∙ f.gone_are s valid (only_one (is_in gs s) h)

pub freed_nothing : (v : Standing) (m : Meaning) (before : Spared Item) → IsEnding v → Rests m v.script v.state → AreFreed [] v v m m before before
freed_nothing v m before ending rests = record {
  script_is = refl;
  goes = let_nothing v.script (moment m v.state before.items) rests;
  gone_are = λ s valid h. absurd (true_is_not_false (sym h));
  else_are = λ s valid h. refl;
  ending = ending;
  room = omega arith;
}

-- one more of a kind
pub freed_next : (f : ℕ → Slot) (a i j : ℕ) (v w x : Standing) (m n k : Meaning) (before mid late : Spared Item) → ((p q : ℕ) → asks (f p) (f q) ≡ (p == q)) → a + i ≡ j → is_slot_of v.script (f j) ≡ true
    → AreFreed (map f (numbers a i)) v w m n before mid → AreFreed (f j ∷ []) w x n k mid late → AreFreed (map f (numbers a (i + 1))) v x m k before late
freed_next f a i j v w x m n k before mid late alike next valid g h =
    subst (λ ss. AreFreed ss v x m k before late) (one_more f a i j next)
    (freed_both (map f (numbers a i)) (f j ∷ []) v w x m n k before mid late (λ s e. by s (asks_is s (f j) (only_one (asks s (f j)) e))) g h)
  where
    by : (s : Slot) → s ≡ f j → (is_slot_of v.script s ≡ true) × (is_in (map f (numbers a i)) s ≡ false)
    by s e = (subst (λ z. is_slot_of v.script z ≡ true) (sym e) valid, subst (λ z. is_in (map f (numbers a i)) z ≡ false) (sym e) (beyond f alike a i j (omega (arith, next))))

-- while some are left there is room
pub freed_room : (f : ℕ → Slot) (a i all : ℕ) (v w : Standing) (m n : Meaning) (before mid : Spared Item) → AreFreed (map f (numbers a i)) v w m n before mid → all ≤ before.spare → i < all → 1 ≤ mid.spare
freed_room f a i all v w m n before mid g wide more =
    let count : length (map f (numbers a i)) ≡ i = length-map (numbers a i) f ∙ length_numbers a i in
    let room = g.room in
    omega (arith, count, room, wide, more)

-- One slot.

-- another node that holds the same lists
let_same : (c : Script) (m : Meaning) (st to : Node) (items : List Item) → to.who ≡ st.who → ((t : Slot) → is_slot_of c t ≡ true → held_list t to ≡ held_list t st) → Rests m c st → LetGo c [] (moment m st items) (moment m to items)
let_same c m st to items who same rests = record {
  who_is = who;
  items_are = sym (append-nil items);
  tells = λ lists full t h. t;
  in_hand = λ lists full t h s v. subst (λ o. IfSome o (λ l. list_at lists s ≡ l)) (sym (same s v)) (h s v);
  rests = record {
    script_is = rests.script_is;
    serves_is = subst (λ w. m.serves w ≡ true) (sym who) rests.serves_is;
    number_is = subst (λ (w : Incarnation). m.within w.number ≡ true) (sym who) rests.number_is;
    admits_is = λ s v q. subst (λ (w : Incarnation). m.admits w.node s ≡ true) (sym who) (rests.admits_is s v q);
    held_is = λ s v. ap (λ (w : Incarnation). m.holds w.node s) who ∙ (rests.held_is s v ∙ ap is_some (sym (same s v)));
    lists_are = λ s v. subst (λ o. IfSome o (IsHandOf m s)) (sym (same s v)) (rests.lists_are s v);
    leased_are = λ s v. subst (λ o. IfSome o (λ l. holder l ≡ Some to.who)) (sym (same s v)) (subst (λ w. IfSome (held_list s st) (λ l. holder l ≡ Some w)) (sym who) (rests.leased_are s v));
  };
  stays = stays_same m;
  others = λ n s other. refl;
}

-- a slot that was free is, and the others are as they were
all_same : (c : Script) (s : Slot) (st to : Node) → held_list s st ≡ None → Frees c s st to → (t : Slot) → is_slot_of c t ≡ true → held_list t to ≡ held_list t st
all_same c s st to free frees t valid = by (asks s t) refl
  where
    by : (b : Bool) → asks s t ≡ b → held_list t to ≡ held_list t st
    by true e = subst (λ z. held_list z to ≡ held_list z st) (asks_is s t e) (frees.held_is ∙ sym free)
    by false e = frees.else_is t valid (λ same. true_is_not_false (sym (ap (asks s) same ∙ asks_itself s) ∙ e))

pub freed_one : (v w : Standing) (s : Slot) (o : Option (List Fact)) (old new : Meaning) (before late : Spared Item) → w.script ≡ v.script → is_slot_of v.script s ≡ true → held_list s v.state ≡ o
    → Frees v.script s v.state w.state → IsSlotFreed s v.state.who o old new before late → Rests old v.script v.state → IsEnding w → AreFreed (s ∷ []) v w old new before late
freed_one v w s o old new before late same valid held frees freed rests ending = record {
  script_is = same;
  goes = subst (λ fs. LetGo v.script fs (moment old v.state before.items) (moment new w.state late.items)) (sym (append-nil (slot_ends s v.state) ∙ ap (where_some (freed_stopped s)) held)) (goes o held freed);
  gone_are = λ t here e. subst (λ z. held_list z w.state ≡ None) (sym (asks_is t s (only_one (asks t s) e))) frees.held_is;
  else_are = λ t here e. frees.else_is t here (λ is. true_is_not_false (sym (ap (λ z. asks z s) is ∙ asks_itself s) ∙ first_not (asks t s) e));
  ending = ending;
  room = room o freed;
}
  where
    first_not : (b : Bool) → (b || false) ≡ false → b ≡ false
    first_not true k = absurd (true_is_not_false k)
    first_not false k = refl

    goes : (o : Option (List Fact)) → held_list s v.state ≡ o → IsSlotFreed s v.state.who o old new before late → LetGo v.script (where_some (freed_stopped s) o) (moment old v.state before.items) (moment new w.state late.items)
    goes None none f =
        subst (λ (m : Meaning). LetGo v.script [] (moment old v.state before.items) (moment m w.state late.items)) (sym f.0)
        (subst (λ (x : Spared Item). LetGo v.script [] (moment old v.state before.items) (moment old w.state x.items)) (sym f.1)
        (let_same v.script old v.state w.state before.items frees.who_is (all_same v.script s v.state w.state none frees) rests))
    goes (Some list) some f =
        subst (λ is. LetGo v.script (freed_stopped s list) (moment old v.state before.items) (moment new w.state is)) (sym f.items_are)
        (freed_goes v.script s cause.Stopped old new v.state w.state list before.items valid some rests f.stays f.freed frees)

    room : (o : Option (List Fact)) → IsSlotFreed s v.state.who o old new before late → before.spare ≤ late.spare + 1
    room None f = let e : late.spare ≡ before.spare = ap (λ (x : Spared Item). x.spare) f.1 in omega (arith, e)
    room (Some list) f = let e : late.spare + 1 ≡ before.spare = f.spare_is in omega (arith, e)

-- A shard.

-- a slot that isn't held: nothing is freed
pub none_freed : (v : Standing) (s : Slot) (m : Meaning) (out : Spared Item) → is_slot_of v.script s ≡ true → held_list s v.state ≡ None → Rests m v.script v.state → IsEnding v → AreFreed (s ∷ []) v v m m out out
none_freed v s m out valid none rests ending = freed_one v v s None m m out out refl valid none (record { who_is = refl; held_is = none; else_is = λ t there other. refl }) (refl, refl) rests ending

pub not_hosted : (st : Node) (s : ℕ) → is_hosted st.entities s ≡ false → held_list (slot.Shard s) st ≡ None
not_hosted st s not_there = by (hosted st.entities s) not_there
  where
    by : (o : Option Hosted) → not (is_none o) ≡ false → option_map (λ (h : Hosted). h.entries) o ≡ None
    by None e = refl
    by (Some h) e = absurd (true_is_not_false e)

pub no_queue : (st : Node) (p : ℕ) → is_some (at st.producers (p - 1)) ≡ false → held_list (slot.Queue p) st ≡ None
no_queue st p not_there = by (at st.producers (p - 1)) not_there
  where
    by : (o : Option Producer) → is_some o ≡ false → option_map (λ (x : Producer). x.entries) o ≡ None
    by None e = refl
    by (Some x) e = absurd (true_is_not_false e)

pub no_office : (st : Node) → is_some st.coordinator ≡ false → held_list slot.Coordinator st ≡ None
no_office st not_there = by st.coordinator not_there
  where
    by : (o : Option Coordinator) → is_some o ≡ false → option_map (λ (x : Coordinator). x.entries) o ≡ None
    by None e = refl
    by (Some x) e = absurd (true_is_not_false e)

pub shard_list_is : (c : Script) (r : Region) (e : Lodged) (ps : Producing) (k : Option Held) (s : ℕ) (o : Option Shelf) → MatchOption o (hosted e.state s ≡ None) (IsStore e s) → held_list (slot.Shard s) (node_of c r e ps k) ≡ option_map (λ (x : Shelf). x.entries) o
shard_list_is c r e ps k s None none = ap (option_map (λ (h : Hosted). h.entries)) none
shard_list_is c r e ps k s (Some x) is = held_is (node_of c r e ps k) s x.entries (store_hosted e s x is)

pub shard_ending : (c : Script) (r : Region) (e : Lodged) (ps : Producing) (k : Option Held) (s : ℕ) → IsEnding (standing_of c r e ps k) → IsEnding (standing_of c r (without e s) ps k)
shard_ending c r e ps k s ending = record {
  rooms = λ t there. by_place (101 ≤ slice_index_or (slice_set e.rooms s 0) t 0) t s
      (λ same. absurd (there (subst (λ n. at (slice_set e.state.hosted s None) n ≡ None) (sym same) (none_there e.state.hosted s))))
      (λ other. subst (λ n. 101 ≤ n) (sym (get_or-set_other e.rooms s t 0 0 other)) (ending.rooms t (λ none. there (placed_beside e.state.hosted s t None other ∙ none))));
  queues = ending.queues;
  entries = ending.entries;
}

-- The coordinator.

pub office_frees : (c : Script) (r : Region) (e : Lodged) (ps : Producing) (k : Option Held) → Frees c slot.Coordinator (node_of c r e ps k) (node_of c r e ps None)
office_frees c r e ps k = record { who_is = refl; held_is = refl; else_is = others }
  where
    others : (t : Slot) → is_slot_of c t ≡ true → t ≢ slot.Coordinator → held_list t (node_of c r e ps None) ≡ held_list t (node_of c r e ps k)
    others (slot.Shard s) valid other = refl
    others slot.Coordinator valid other = absurd (other refl)
    others (slot.Queue p) valid other = refl

pub office_list_is : (c : Script) (r : Region) (e : Lodged) (ps : Producing) (k : Option Held) → held_list slot.Coordinator (node_of c r e ps k) ≡ option_map (λ (x : Held). x.state.entries) k
office_list_is c r e ps None = refl
office_list_is c r e ps (Some k) = refl

pub office_ending : (c : Script) (r : Region) (e : Lodged) (ps : Producing) (k : Option Held) → IsEnding (standing_of c r e ps k) → IsEnding (standing_of c r e ps None)
office_ending c r e ps k ending = record { rooms = ending.rooms; queues = ending.queues; entries = tt }

pub back_of_office : (c : Script) (m : Meaning) (r : Region) (e : Lodged) (ps : Producing) (k : Option Held) → is_node c r.who ≡ true → IfSome k (IsOf c r.who) → IsEnding (standing_of c r e ps k)
    → Rests m c (node_of c r e ps k) → IfSome k (MayGiveOffice m r.who)
back_of_office c m r e ps None who of ending rests = tt
back_of_office c m r e ps (Some k) who of ending rests = record {
  serves = serves_at c m (node_of c r e ps (Some k)) slot.Coordinator who refl (rests.admits_is slot.Coordinator refl tt) rests;
  holds = holds_it c m (node_of c r e ps (Some k)) slot.Coordinator k.state.entries refl refl rests;
  script_is = of.script_is ∙ sym rests.script_is;
  who_is = of.who_is;
  hand = hand_of c m (node_of c r e ps (Some k)) slot.Coordinator k.state.entries refl refl rests;
  room = ending.entries;
}

-- A queue.

-- who holds a list was admitted to the slot
admitted_by : (m : Meaning) (s : Slot) (x : Incarnation) (o : Option Incarnation) (list : List Fact) → list_all (is_taken m s) list ≡ true → fold holder_step o list ≡ Some x → (o ≡ Some x) ⊎ (m.admits x.node s ≡ true)
admitted_by m s x o [] h e = inl e
admitted_by m s x o (f ∷ fs) h e =
    let parts : (is_taken m s f ≡ true) × (list_all (is_taken m s) fs ≡ true) = and_both (is_taken m s f) (list_all (is_taken m s) fs) h in
    by_fact f parts.0 (admitted_by m s x (holder_step o f) fs parts.1 e)
  where
    same : (y z : Incarnation) → Some y ≡ Some z → y ≡ z
    same y z k = cc

    none_is : (z : Incarnation) → None ≡ Some z → ⊥
    none_is z k = cc

    by_fact : (g : Fact) → is_taken m s g ≡ true → (holder_step o g ≡ Some x) ⊎ (m.admits x.node s ≡ true) → (o ≡ Some x) ⊎ (m.admits x.node s ≡ true)
    by_fact g taken (inr k) = inr k
    by_fact (fact.Granted t n y) taken (inl k) = inr (subst (λ (z : Incarnation). m.admits z.node s ≡ true) (same y x k) (and_both (m.admits y.node s) (m.within y.number) taken).0)
    by_fact (fact.Freed t n why) taken (inl k) = absurd (none_is x k)
    by_fact g taken (inl k) = inl k

pub held_admitted : (c : Script) (m : Meaning) (st : Node) (s : Slot) (list : List Fact) → is_slot_of c s ≡ true → held_list s st ≡ Some list → Rests m c st → m.admits st.who.node s ≡ true
held_admitted c m st s list valid held rests = by (admitted_by m s st.who None list (hand_of c m st s list valid held rests).taken (leased_of c m st s list valid held rests))
  where
    none_is : (z : Incarnation) → None ≡ Some z → ⊥
    none_is z k = cc

    by : (None ≡ Some st.who) ⊎ (m.admits st.who.node s ≡ true) → m.admits st.who.node s ≡ true
    by (inl k) = absurd (none_is st.who k)
    by (inr k) = k

-- the places of two queues of the script are apart
pub places_apart : (c : Script) (p q : ℕ) → is_producer c p ≡ true → is_producer c q ≡ true → slot.Queue q ≢ slot.Queue p → q - 1 ≡ p - 1 → ⊥
places_apart c p q here there other same =
    let one : 1 ≤ p = at_most 1 p (and_both (nat_le 1 p) (nat_le p c.config.producers) here).0 in
    let two : 1 ≤ q = at_most 1 q (and_both (nat_le 1 q) (nat_le q c.config.producers) there).0 in
    other (ap (λ n. slot.Queue n) (equal one two))
  where
    equal : 1 ≤ p → 1 ≤ q → q ≡ p
    equal one two = omega arith

pub queue_list_is : (c : Script) (r : Region) (e : Lodged) (ps : Producing) (k : Option Held) (p : ℕ) (o : Option Queue) → MatchOption o (producing.held p ps ≡ None) (producing.IsStore ps p) → held_list (slot.Queue p) (node_of c r e ps k) ≡ option_map (λ (x : Queue). x.entries) o
queue_list_is c r e ps k p None none = ap (option_map (λ (x : Producer). x.entries)) none
queue_list_is c r e ps k p (Some x) is = is.entries_are

pub queue_frees : (c : Script) (r : Region) (e : Lodged) (ps : Producing) (k : Option Held) (p : ℕ) → is_producer c p ≡ true → Frees c (slot.Queue p) (node_of c r e ps k) (node_of c r e (producing.without p ps) k)
queue_frees c r e ps k p here = record { who_is = refl; held_is = ap (option_map (λ (x : Producer). x.entries)) (none_there ps.producers (p - 1)); else_is = others }
  where
    others : (t : Slot) → is_slot_of c t ≡ true → t ≢ slot.Queue p → held_list t (node_of c r e (producing.without p ps) k) ≡ held_list t (node_of c r e ps k)
    others (slot.Shard s) valid other = refl
    others slot.Coordinator valid other = refl
    others (slot.Queue q) valid other = ap (option_map (λ (x : Producer). x.entries)) (placed_beside ps.producers (p - 1) (q - 1) None (places_apart c p q here valid other))

pub queue_ending : (c : Script) (r : Region) (e : Lodged) (ps : Producing) (k : Option Held) (p : ℕ) → is_producer c p ≡ true → IsEnding (standing_of c r e ps k) → IsEnding (standing_of c r e (producing.without p ps) k)
queue_ending c r e ps k p here ending = record {
  rooms = ending.rooms;
  queues = λ q valid there. by_place (101 ≤ slice_index_or (slice_set ps.rooms (p - 1) 0) (q - 1) 0) (q - 1) (p - 1)
      (λ same. absurd (there (subst (λ n. at (slice_set ps.producers (p - 1) None) n ≡ None) (sym same) (none_there ps.producers (p - 1)))))
      (λ other. subst (λ n. 101 ≤ n) (sym (get_or-set_other ps.rooms (p - 1) (q - 1) 0 0 other)) (ending.queues q valid (λ none. there (placed_beside ps.producers (p - 1) (q - 1) None other ∙ none))));
  entries = ending.entries;
}

pub back_of_queue : (c : Script) (m : Meaning) (r : Region) (e : Lodged) (ps : Producing) (k : Option Held) (p : ℕ) → is_node c r.who ≡ true → is_producer c p ≡ true → ps.script ≡ c → ps.who ≡ r.who
    → ((at ps.producers (p - 1) ≡ None → ⊥) → 101 ≤ slice_index_or ps.rooms (p - 1) 0) → Rests m c (node_of c r e ps k) → (o : Option Queue) → MatchOption o (producing.held p ps ≡ None) (producing.IsStore ps p) → IfSome o (MayGiveQueue m r.who p)
back_of_queue c m r e ps k p who here script same room rests None is = tt
back_of_queue c m r e ps k p who here script same room rests (Some x) is =
    let st : Node = node_of c r e ps k in
    let held : held_list (slot.Queue p) st ≡ Some x.entries = is.entries_are in
    record {
      serves = serves_at c m st (slot.Queue p) who here (held_admitted c m st (slot.Queue p) x.entries here held rests) rests;
      holds = holds_it c m st (slot.Queue p) x.entries here held rests;
      script_is = is.script_is ∙ (script ∙ sym rests.script_is);
      producer_is = is.producer_is;
      leased = is.leased ∙ ap (λ w. Some w) same;
      hand = hand_of c m st (slot.Queue p) x.entries here held rests;
      room = subst (λ n. 101 ≤ n) (sym is.room_is) (room (λ none. true_is_not_false (sym (ap is_some (sym (ap (option_map (λ (y : Producer). y.entries)) none) ∙ held)))));
    }

-- The end of it.

pub ready_ends : (v : Standing) (spare : ℕ) → IsReady v spare → IsEnding v
ready_ends v spare ready = record {
  rooms = λ t there. let wide = ready.rooms t there in omega (arith, wide);
  queues = λ p valid there. let wide = ready.queues p valid there in omega (arith, wide);
  entries = entries v.state.coordinator ready.entries;
}
  where
    entries : (o : Option Coordinator) → IfSome o (λ k. 300 ≤ v.spare) → IfSome o (λ k. 101 ≤ v.spare)
    entries None h = tt
    entries (Some k) h = omega (arith, h)

-- the room that is left after the shards, and after the coordinator
pub room_of_shards : (v w : Standing) (m n : Meaning) (before late : Spared Item) (c : Script) → IsScript c → 8000 + 5 * v.script.config.buffer + 5 * length (pairs_in v.script.orders) ≤ before.spare → v.script ≡ c
    → AreFreed (map slot.Shard (numbers 0 v.script.config.shards)) v w m n before late → 7872 ≤ late.spare
room_of_shards v w m n before late c script wide same f =
    let few : v.script.config.shards ≤ 128 = subst (λ (d : Script). d.config.shards ≤ 128) (sym same) (few_shards c script) in
    let count : length (map slot.Shard (numbers 0 v.script.config.shards)) ≡ v.script.config.shards = length-map (numbers 0 v.script.config.shards) slot.Shard ∙ length_numbers 0 v.script.config.shards in
    let room = f.room in
    omega (arith, few, count, room, wide)

-- all slots of the script
all_slots : (c : Script) (s : Slot) → is_slot_of c s ≡ true → is_in (slots c) s ≡ true
all_slots c (slot.Shard s) valid = list_any-append (asks (slot.Shard s)) (map slot.Shard (numbers 0 c.config.shards)) (last_slots c)
    ∙ ap (λ b. b || is_in (last_slots c) (slot.Shard s)) (among slot.Shard (λ i j. refl) 0 c.config.shards s (omega arith) (let low = below s c.config.shards valid in omega (arith, low)))
all_slots c slot.Coordinator valid = list_any-append (asks slot.Coordinator) (map slot.Shard (numbers 0 c.config.shards)) (last_slots c)
    ∙ right_of (is_in (map slot.Shard (numbers 0 c.config.shards)) slot.Coordinator) (is_in (last_slots c) slot.Coordinator) refl
all_slots c (slot.Queue p) valid =
    let parts = and_both (nat_le 1 p) (nat_le p c.config.producers) valid in
    list_any-append (asks (slot.Queue p)) (map slot.Shard (numbers 0 c.config.shards)) (last_slots c)
    ∙ right_of (is_in (map slot.Shard (numbers 0 c.config.shards)) (slot.Queue p)) (is_in (last_slots c) (slot.Queue p))
    (right_of false (is_in (queue_slots c) (slot.Queue p)) (among slot.Queue (λ i j. refl) 1 c.config.producers p (at_most 1 p parts.0) (let high = at_most p c.config.producers parts.1 in omega (arith, high))))

ends_of : {A : Type 0} (s : Slot) (entries : A → List Fact) (o : Option A) → where_some (freed_stopped s) (option_map entries o) ≡ where_some (λ x. freed_stopped s (entries x)) o
ends_of s entries None = refl
ends_of s entries (Some x) = refl

each_same : {A : Type 0} (p q : A → List Fact) → ((x : A) → p x ≡ q x) → (xs : List A) → flat_map p xs ≡ flat_map q xs
each_same p q h [] = refl
each_same p q h (x ∷ xs) = ap (λ l. l ++ flat_map p xs) (h x) ∙ ap (λ l. q x ++ l) (each_same p q h xs)

crash_is : (c : Script) (st : Node) → st.set ≡ setting c → slots_end (slots c) st ≡ crash st
crash_is c st set =
    let queue : ℕ → List Fact = λ p. where_some (λ k. freed_stopped (slot.Queue p) k.entries) (at st.producers (p - 1)) in
    let shard : ℕ → List Fact = λ s. where_some (λ h. freed_stopped (slot.Shard s) h.entries) (hosted st.entities s) in
    let office : List Fact = where_some (λ k. freed_stopped slot.Coordinator k.entries) st.coordinator in
    flat_map-append (λ s. slot_ends s st) (map slot.Shard (numbers 0 c.config.shards)) (last_slots c)
    ∙ (ap (λ l. l ++ slots_end (last_slots c) st) (flat_map-map (λ s. slot_ends s st) slot.Shard (numbers 0 c.config.shards) ∙ each_same (λ s. slot_ends (slot.Shard s) st) shard (λ s. ends_of (slot.Shard s) (λ (h : Hosted). h.entries) (hosted st.entities s)) (numbers 0 c.config.shards))
    ∙ (ap (λ l. flat_map shard (numbers 0 c.config.shards) ++ (l ++ slots_end (queue_slots c) st)) (ends_of slot.Coordinator (λ (k : Coordinator). k.entries) st.coordinator)
    ∙ (ap (λ l. flat_map shard (numbers 0 c.config.shards) ++ (office ++ l)) (flat_map-map (λ s. slot_ends s st) slot.Queue (numbers 1 c.config.producers) ∙ each_same (λ p. slot_ends (slot.Queue p) st) queue (λ p. ends_of (slot.Queue p) (λ (k : Producer). k.entries) (at st.producers (p - 1))) (numbers 1 c.config.producers))
    ∙ (sym (append_assoc (flat_map shard (numbers 0 c.config.shards)) office (flat_map queue (numbers 1 c.config.producers)))
    ∙ ap (λ z. (flat_map shard (numbers 0 z.config.shards) ++ office) ++ flat_map queue (numbers 1 z.config.producers)) (sym set)))))

-- the shards, then the coordinator's slot, then the queues
pub ended : (v w x y : Standing) (m n k l : Meaning) (a b d e : Spared Item) → v.state.set ≡ setting v.script → AreFreed (map slot.Shard (numbers 0 v.script.config.shards)) v w m n a b → AreFreed (slot.Coordinator ∷ []) w x n k b d
    → AreFreed (queue_slots x.script) x y k l d e → IsGone v.script (moment m v.state a.items) l e.items
ended v w x y m n k l a b d e set f g h = record {
  items_are = goes.items_are;
  tells = goes.tells;
  free = λ s valid. ap (λ u. l.holds u.node s) (sym goes.who_is) ∙ (goes.rests.held_is s valid ∙ ap is_some (all.gone_are s valid (all_slots v.script s valid)));
  stays = goes.stays;
  others = goes.others;
}
  where
    ss : List Slot
    ss = map slot.Shard (numbers 0 v.script.config.shards)

    first : (s : Slot) → is_in (slot.Coordinator ∷ []) s ≡ true → (is_slot_of v.script s ≡ true) × (is_in ss s ≡ false)
    first (slot.Shard s) i = absurd (true_is_not_false (sym i))
    first slot.Coordinator i = (refl, none_in slot.Shard slot.Coordinator (λ j. refl) (numbers 0 v.script.config.shards))
    first (slot.Queue p) i = absurd (true_is_not_false (sym i))

    one : AreFreed (ss ++ slot.Coordinator ∷ []) v x m k a d
    one = freed_both ss (slot.Coordinator ∷ []) v w x m n k a b d first f g

    second : (s : Slot) → is_in (queue_slots v.script) s ≡ true → (is_slot_of v.script s ≡ true) × (is_in (ss ++ slot.Coordinator ∷ []) s ≡ false)
    second (slot.Shard s) i = absurd (true_is_not_false (sym i ∙ none_in slot.Queue (slot.Shard s) (λ j. refl) (numbers 1 v.script.config.producers)))
    second slot.Coordinator i = absurd (true_is_not_false (sym i ∙ none_in slot.Queue slot.Coordinator (λ j. refl) (numbers 1 v.script.config.producers)))
    second (slot.Queue p) i =
        let parts : (1 ≤ p) × (p < 1 + v.script.config.producers) = is_within slot.Queue (λ i j. refl) 1 v.script.config.producers p i in (
          both (nat_le 1 p) (nat_le p v.script.config.producers) (within 1 p parts.0) (within p v.script.config.producers (let high = parts.1 in omega (arith, high))),
          list_any-append (asks (slot.Queue p)) ss (slot.Coordinator ∷ []) ∙ ap (λ b. b || false) (none_in slot.Shard (slot.Queue p) (λ j. refl) (numbers 0 v.script.config.shards)),
        )

    both_freed : AreFreed ((ss ++ slot.Coordinator ∷ []) ++ queue_slots v.script) v y m l a e
    both_freed = freed_both (ss ++ slot.Coordinator ∷ []) (queue_slots v.script) v x y m k l a d e second one (subst (λ (c : Script). AreFreed (queue_slots c) x y k l d e) one.script_is h)

    all : AreFreed (slots v.script) v y m l a e
    all = subst (λ zs. AreFreed zs v y m l a e) (append_assoc ss (slot.Coordinator ∷ []) (queue_slots v.script)) both_freed

    goes : LetGo v.script (crash v.state) (moment m v.state a.items) (moment l y.state e.items)
    goes = subst (λ fs. LetGo v.script fs (moment m v.state a.items) (moment l y.state e.items)) (crash_is v.script v.state set) all.goes
