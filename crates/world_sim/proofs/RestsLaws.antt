-- What a node rests on of its leases, where they are given out by a book that tells the world's lists.
use Rattle.std.proofs.Common.{◌≡◌, ◌<◌, ◌≤◌, ℕ, zero, suc, ◌+◌, ◌-◌, inr, sym, ap, ◌∙◌, refl, subst, arith}
use Rattle.std.specs.Prelude.{Bool, true, false, ◌==◌, ◌&&◌, nat_lt, nat_le, List, [], ◌∷◌, ◌++◌, length, map, replicate, Option, Some, None, is_some, IfSome, IsSomeAnd, slice_index_or, if◌then◌else◌}
use Rattle.std.specs.List.{list_all}
use Rattle.std.specs.Option.{option_map}
use Rattle.yard_model.specs.declared.fact.Fact.{Fact}
use Rattle.yard_model.specs.declared.fact.Fact.TheVariants as fact
use Rattle.yard_model.specs.declared.incarnation.Incarnation.{Incarnation}
use Rattle.yard_model.specs.declared.input.Input.TheVariants as input
use Rattle.yard_model.specs.declared.packet.Body.{Body}
use Rattle.yard_model.specs.declared.packet.Body.TheVariants as body
use Rattle.yard_model.specs.declared.packet.Packet.{Packet}
use Rattle.yard_model.specs.declared.incarnation.Slot.{Slot}
use Rattle.yard_model.specs.declared.incarnation.Slot.TheVariants as slot
use Rattle.yard_model.specs.Behaviour.{is_in}
use Rattle.yard_model.specs.Follow.{each_follows}
use Rattle.yard_model.specs.Genuine.{is_node, is_slot_of}
use Rattle.yard_model.specs.Lawful.{own, may_follow, may_open, is_opening, is_leased, is_entry}
use Rattle.yard_model.specs.Opening.{Parts, parts_of}
use Rattle.yard_model.proofs.FollowLaws.{parts_whole}
use Rattle.yard_model.specs.Script.{Script, setting, with_shards}
use Rattle.yard_model.specs.Coordinator.{Coordinator}
use Rattle.yard_model.specs.Entities.{Hosted}
use Rattle.yard_model.specs.Producer.{Producer}
use Rattle.yard_model.specs.SlotLists.{SlotLists, shard_list, queue_list}
use Rattle.yard_model.specs.SlotReads.{holder, epoch}
use Rattle.yard_model.specs.Trace.{list_at, lists_of, no_lists}
use Rattle.yard_model.specs.Words.{numbers, at}
use Rattle.yard_model.specs.Equal.{is_slot}
use Rattle.yard_model.specs.Node.{Node}
use Rattle.yard_model.specs.World.{World}
use Rattle.plain_laws.proofs.Booleans.{true_is_not_false, and_both, both, same_number, number_itself, below, at_most, not_below, get_replicate}
use Rattle.shard_store.specs.declared.store.Store.{Store}
use Rattle.shard_store.specs.Stores.{entries_in, entries_at, lists_at, place_of}
use Rattle.shard_lease.specs.Book.{Book, known_at, is_of_node, meaning_of}
use Rattle.shard_lease.specs.Meaning.{is_taken}
use Rattle.actor_laws.specs.Hands.{held_list, AreInHand}
use Rattle.plain_laws.proofs.Lists.{none_is_not_some, some_is, all_join}
use Rattle.yard_laws.specs.Guarded.{Owns}
use Rattle.yard_laws.proofs.Owns.{producer_above}
use Rattle.yard_laws.proofs.SafetyLaws.{guarded_is_own}
use Rattle.actor_laws.specs.EntitiesStand.{IsHeldShard}
use Rattle.node_laws.specs.Cluster.{IsMember, IsHeldBy}
use Rattle.node_laws.specs.NodeFound.{AreLawful}
use Rattle.node_laws.specs.NodeStands.{IsProducerAt, IsCoordinatorAt}
use Rattle.node_laws.specs.NodeTurns.{Promised, IsPromised, MayTake}
use Rattle.node_laws.specs.Traces.{recorded}
use Rattle.play_laws.specs.Confirming.{MayHand}
use Rattle.play_laws.specs.Sound.{IsWell}
use Rattle.play_laws.proofs.Handled.{lawful_lists}
use Rattle.play_laws.proofs.Orders.{well_may}
use Rattle.world_sim.specs.Stands.{Stands}
use Rattle.node_core.specs.Found.{AreThere}
use Rattle.node_core.specs.Leased.{IsHandOf, Rests, IsTold, Tells}

-- What holds of what is there.

if_some : {A : Type 0} (o : Option A) (P : A → Type 0) → ((x : A) → o ≡ Some x → P x) → IfSome o P
if_some None P h = tt
if_some (Some x) P h = h x refl

-- What a node has in hand.

pub of_some : {A : Type 0} (o : Option A) (P : A → Type 0) (x : A) → IfSome o P → o ≡ Some x → P x
of_some None P x h e = absurd (none_is_not_some x e)
of_some (Some y) P x h e = subst P (some_is y x e) h

pub member : (c : Script) (w : World) (k : ℕ) (st : Node) → (s : Stands c w) → at w.nodes k ≡ Some st → IsMember c s.trace k st
member c w k st s here = s.sound.cluster.members k st here

-- the slot's list, which it holds
pub record IsInHand (w : World) (st : Node) (s : Slot) (list : List Fact) : Type 0 where
  pub list_is : list_at w.lists s ≡ list
  pub holds_is : holder list ≡ Some st.who

pub hand_is : (c : Script) (w : World) (k : ℕ) (st : Node) (s : Slot) (list : List Fact) → Stands c w → at w.nodes k ≡ Some st → is_slot_of c s ≡ true → held_list s st ≡ Some list → IsInHand w st s list
hand_is c w k st s list stands here i e = by s i e
  where
    me : IsMember c stands.trace k st
    me = member c w k st stands here

    same : w.lists ≡ me.hand.lists
    same = stands.sound.lists_are ∙ sym me.has.of_trace.lists_are

    by : (s : Slot) → is_slot_of c s ≡ true → held_list s st ≡ Some list → IsInHand w st s list
    by (slot.Shard n) i e = of_shard (at st.entities.hosted n) refl e
      where
        of_shard : (o : Option Hosted) → at st.entities.hosted n ≡ o → option_map (λ (h : Hosted). h.entries) o ≡ Some list → IsInHand w st (slot.Shard n) list
        of_shard None f g = absurd (none_is_not_some list g)
        of_shard (Some x) f g =
            let entries : x.entries ≡ list = some_is x.entries list g in
            let held : IsHeldShard c st.entities.who n x = me.sound.entities.hosted_are n x f in
            record { list_is = ap (λ l. shard_list l n) same ∙ (me.has.holds.entities.lists_are n x f ∙ entries); holds_is = ap holder (sym entries) ∙ (held.held_is ∙ ap (λ y. Some y) me.sound.entities_who) }
    by slot.Coordinator i e = of_coordinator st.coordinator refl e
      where
        of_coordinator : (o : Option Coordinator) → st.coordinator ≡ o → option_map (λ (k : Coordinator). k.entries) o ≡ Some list → IsInHand w st slot.Coordinator list
        of_coordinator None f g = absurd (none_is_not_some list g)
        of_coordinator (Some x) f g =
            let entries : x.entries ≡ list = some_is x.entries list g in
            let good : IsCoordinatorAt c st.who x = of_some st.coordinator (IsCoordinatorAt c st.who) x me.sound.coordinator f in
            record {
              list_is = ap (λ (l : SlotLists). l.coordinator) same ∙ (of_some st.coordinator (λ (k : Coordinator). me.hand.lists.coordinator ≡ k.entries) x me.has.holds.coordinator f ∙ entries);
              holds_is = ap holder (sym entries) ∙ (good.sound.held_is ∙ ap (λ y. Some y) good.who_is);
            }
    by (slot.Queue p) i e = of_queue (at st.producers (p - 1)) refl e
      where
        of_queue : (o : Option Producer) → at st.producers (p - 1) ≡ o → option_map (λ (k : Producer). k.entries) o ≡ Some list → IsInHand w st (slot.Queue p) list
        of_queue None f g = absurd (none_is_not_some list g)
        of_queue (Some x) f g =
            let entries : x.entries ≡ list = some_is x.entries list g in
            let good : IsProducerAt c st.who p x = me.sound.producers p x (producer_above c p i) f in
            record { list_is = ap (λ l. queue_list l p) same ∙ (me.has.holds.producers p x (producer_above c p i) f ∙ entries); holds_is = ap holder (sym entries) ∙ (good.stands.held_is ∙ ap (λ y. Some y) good.who_is) }

pub in_hand_of : (c : Script) (w : World) (k : ℕ) (st : Node) → Stands c w → at w.nodes k ≡ Some st → AreInHand c w.lists st
in_hand_of c w k st stands here = λ s i. if_some (held_list s st) (λ list. list_at w.lists s ≡ list) (λ list e. let t : IsInHand w st s list = hand_is c w k st s list stands here i e in t.list_is)

-- each slot has its list
pub there_of : (c : Script) (w : World) → Stands c w → AreThere c w.lists
there_of c w s =
    let o : Owns c (lists_of (setting c) s.trace) = guarded_is_own c s.trace s.sound.cluster.guarded_are in
    record { shards = ap (λ (l : SlotLists). length l.shards) s.sound.lists_are ∙ o.shards; queues = ap (λ (l : SlotLists). length l.queues) s.sound.lists_are ∙ o.queues }

-- and it is lawful by itself
pub own_of : (c : Script) (w : World) (s : Slot) → Stands c w → is_slot_of c s ≡ true → own c s (list_at w.lists s) ≡ true
own_of c w s stands i = ap (λ l. own c s (list_at l s)) stands.sound.lists_are ∙ by s i
  where
    l : AreLawful c (lists_of (setting c) stands.trace)
    l = lawful_lists c stands.trace stands.sound.cluster.guarded_are

    by : (s : Slot) → is_slot_of c s ≡ true → own c s (list_at (lists_of (setting c) stands.trace) s) ≡ true
    by (slot.Shard n) i = l.shards n i
    by slot.Coordinator i = l.coordinator
    by (slot.Queue p) i = l.queues p i

-- Who holds a slot is up, and has its list in hand.
pub held_by : (c : Script) (w : World) (s : Slot) (x : Incarnation) → Stands c w → is_slot_of c s ≡ true → holder (list_at w.lists s) ≡ Some x → IsHeldBy w.nodes s x
held_by c w s x stands i e = stands.sound.cluster.held s x i (ap (λ l. holder (list_at l s)) (sym stands.sound.lists_are) ∙ e)

-- so a node of its number is it
holds_list : (c : Script) (w : World) (k : ℕ) (st : Node) (s : Slot) (x : Incarnation) → Stands c w → at w.nodes k ≡ Some st → IsHeldBy w.nodes s x → x.node ≡ st.who.node → is_some (held_list s st) ≡ true
holds_list c w k st s x stands here t e =
    let me : IsMember c stands.trace k st = member c w k st stands here in
    let it : IsMember c stands.trace t.place t.st = member c w t.place t.st stands t.here in
    let place : t.place ≡ k = one_less t.place k (sym it.node_is ∙ (ap (λ (y : Incarnation). y.node) t.who_is ∙ (e ∙ me.node_is))) in
    let same : t.st ≡ st = some_is t.st st (sym t.here ∙ (ap (at w.nodes) place ∙ here)) in
    ap (λ y. is_some (held_list s y)) (sym same) ∙ t.held
  where
    one_less : (a b : ℕ) → a + 1 ≡ b + 1 → a ≡ b
    one_less a b e = omega (arith, e)

-- What the book tells of a slot.

pub told_of : (b : Book) (c : Script) (lists : SlotLists) (s : Slot) → b.script ≡ c → Tells (meaning_of b) c lists → is_slot_of c s ≡ true → IsTold (list_at lists s) (known_at b (place_of b.script.config s))
told_of b c lists s e tells i =
    let its : is_slot_of b.script s ≡ true = ap (λ (x : Script). is_slot_of x s) e ∙ i in
    subst (λ v. IsSomeAnd (if v then Some (known_at b (place_of b.script.config s)) else None) (IsTold (list_at lists s))) its (tells s i)

-- a node holds a slot, as the book has it, where it has the slot's list in hand
pub held_of : (c : Script) (w : World) (k : ℕ) (st : Node) (s : Slot) → Stands c w → at w.nodes k ≡ Some st → is_slot_of c s ≡ true → is_of_node st.who.node (holder (list_at w.lists s)) ≡ is_some (held_list s st)
held_of c w k st s stands here i = by_hand (held_list s st) refl
  where
    by_holder : (o : Option Incarnation) → holder (list_at w.lists s) ≡ o → held_list s st ≡ None → is_of_node st.who.node o ≡ false
    by_holder None h none = refl
    by_holder (Some x) h none = by_number (x.node == st.who.node) refl
      where
        by_number : (v : Bool) → (x.node == st.who.node) ≡ v → (x.node == st.who.node) ≡ false
        by_number false f = f
        by_number true f = absurd (true_is_not_false (sym (holds_list c w k st s x stands here (held_by c w s x stands i h) (same_number x.node st.who.node f)) ∙ ap is_some none))

    by_hand : (o : Option (List Fact)) → held_list s st ≡ o → is_of_node st.who.node (holder (list_at w.lists s)) ≡ is_some (held_list s st)
    by_hand None e = by_holder (holder (list_at w.lists s)) refl e ∙ sym (ap is_some e)
    by_hand (Some list) e =
        let t : IsInHand w st s list = hand_is c w k st s list stands here i e in
        ap (λ l. is_of_node st.who.node (holder l)) t.list_is ∙ (ap (is_of_node st.who.node) t.holds_is ∙ (number_itself st.who.node st.who.node refl ∙ sym (ap is_some e)))

-- A lawful list is taken.

grant_is : (c : Script) (s t : Slot) (n : ℕ) (x : Incarnation) (before : List Fact) → is_entry c s before (fact.Granted t n x) ≡ true → is_node c x ≡ true
grant_is c (slot.Shard k) t n x before e = (and_both (is_slot t (slot.Shard k)) (is_node c x) e).1
grant_is c slot.Coordinator t n x before e = (and_both (is_slot t slot.Coordinator) (is_node c x) e).1
grant_is c (slot.Queue p) t n x before e = (and_both (is_slot t (slot.Queue p)) (is_node c x) e).1

pub admits_of : (b : Book) (c : Script) (s : Slot) (n : ℕ) → b.script ≡ c → is_slot_of c s ≡ true → is_in 1 c.config.nodes n ≡ true → (is_in 1 b.script.config.nodes n && is_slot_of b.script s) ≡ true
admits_of b c s n e i h = both (is_in 1 b.script.config.nodes n) (is_slot_of b.script s) (ap (λ (x : Script). is_in 1 x.config.nodes n) e ∙ h) (ap (λ (x : Script). is_slot_of x s) e ∙ i)

entry_taken : (b : Book) (c : Script) (s : Slot) (before : List Fact) (f : Fact) → b.script ≡ c → is_slot_of c s ≡ true → is_entry c s before f ≡ true → is_taken (meaning_of b) s f ≡ true
entry_taken b c s before (fact.Granted t n x) e i h = both (is_in 1 b.script.config.nodes x.node && is_slot_of b.script s) true (admits_of b c s x.node e i (grant_is c s t n x before h)) refl
entry_taken b c s before f e i h = refl

list_taken : (b : Book) (c : Script) (s : Slot) (before list : List Fact) → b.script ≡ c → is_slot_of c s ≡ true → each_follows (may_follow c s) before list ≡ true → list_all (is_taken (meaning_of b) s) list ≡ true
list_taken b c s before [] e i h = refl
list_taken b c s before (f ∷ fs) e i h =
    let m : (may_follow c s before f ≡ true) × (each_follows (may_follow c s) (before ++ f ∷ []) fs ≡ true) = and_both (may_follow c s before f) (each_follows (may_follow c s) (before ++ f ∷ []) fs) h in
    let entry : is_entry c s before f ≡ true = (and_both (is_leased before f) (is_entry c s before f) m.0).1 in
    both (is_taken (meaning_of b) s f) (list_all (is_taken (meaning_of b) s) fs) (entry_taken b c s before f e i entry) (list_taken b c s (before ++ f ∷ []) fs e i m.1)

-- also where it begins anew
open_taken : (b : Book) (c : Script) (s : Slot) (k : ℕ) (before : List Fact) (f : Fact) → b.script ≡ c → is_slot_of c s ≡ true → may_open c s k before f ≡ true → is_taken (meaning_of b) s f ≡ true
open_taken b c s k before (fact.Granted t n x) e i h = by s i h
  where
    by : (s : Slot) → is_slot_of c s ≡ true → may_open c s k before (fact.Granted t n x) ≡ true → is_taken (meaning_of b) s (fact.Granted t n x) ≡ true
    by (slot.Shard m) i h = absurd (true_is_not_false (sym h))
    by slot.Coordinator i h =
        let entry : is_entry (with_shards 128 c) slot.Coordinator before (fact.Granted t n x) ≡ true = (and_both (is_leased before (fact.Granted t n x)) (is_entry (with_shards 128 c) slot.Coordinator before (fact.Granted t n x)) h).1 in
        both (is_in 1 b.script.config.nodes x.node && is_slot_of b.script slot.Coordinator) true (admits_of b c slot.Coordinator x.node e i (grant_is (with_shards 128 c) slot.Coordinator t n x before entry)) refl
    by (slot.Queue p) i h = absurd (true_is_not_false (sym h))
open_taken b c s k before f e i h = refl

opening_taken : (b : Book) (c : Script) (s : Slot) (k : ℕ) (before list : List Fact) → b.script ≡ c → is_slot_of c s ≡ true → each_follows (may_open c s k) before list ≡ true → list_all (is_taken (meaning_of b) s) list ≡ true
opening_taken b c s k before [] e i h = refl
opening_taken b c s k before (f ∷ fs) e i h =
    let m : (may_open c s k before f ≡ true) × (each_follows (may_open c s k) (before ++ f ∷ []) fs ≡ true) = and_both (may_open c s k before f) (each_follows (may_open c s k) (before ++ f ∷ []) fs) h in
    both (is_taken (meaning_of b) s f) (list_all (is_taken (meaning_of b) s) fs) (open_taken b c s k before f e i m.0) (opening_taken b c s k (before ++ f ∷ []) fs e i m.1)

own_taken : (b : Book) (c : Script) (s : Slot) (list : List Fact) → b.script ≡ c → is_slot_of c s ≡ true → own c s list ≡ true → list_all (is_taken (meaning_of b) s) list ≡ true
own_taken b c s list e i o =
    let parts : Parts = parts_of list in
    let m : (is_opening c s parts.opening ≡ true) × (each_follows (may_follow c s) parts.opening parts.since ≡ true) = and_both (is_opening c s parts.opening) (each_follows (may_follow c s) parts.opening parts.since) o in
    subst (λ l. list_all (is_taken (meaning_of b) s) l ≡ true) (parts_whole list)
    (all_join (is_taken (meaning_of b) s) parts.opening parts.since (opening_taken b c s (epoch parts.opening) [] parts.opening e i m.0) (list_taken b c s parts.opening parts.since e i m.1))

hand_of : (b : Book) (c : Script) (s : Slot) (list : List Fact) → b.script ≡ c → is_slot_of c s ≡ true → own c s list ≡ true → IsHandOf (meaning_of b) s list
hand_of b c s list e i o = record {
  extends = record { rest = list; is = refl };
  taken = own_taken b c s list e i o;
  vouched = λ x p n h. inr refl;
}

pub rests_of : (b : Book) (c : Script) (w : World) (k : ℕ) (st : Node) → b.script ≡ c → Stands c w → Tells (meaning_of b) c w.lists → at w.nodes k ≡ Some st → Rests (meaning_of b) c st
rests_of b c w k st e stands tells here =
    let u : IsMember c stands.trace k st = member c w k st stands here in
    record {
      script_is = e;
      serves_is = ap (λ (x : Script). is_node x st.who) e ∙ u.sound.who_is;
      number_is = refl;
      admits_is = λ s i q. admits_of b c s st.who.node e i u.sound.who_is;
      held_is = λ s i.
          let its : is_slot_of b.script s ≡ true = ap (λ (x : Script). is_slot_of x s) e ∙ i in
          let holder_is : at b.holders (place_of b.script.config s) ≡ holder (list_at w.lists s) = (told_of b c w.lists s e tells i).holder_is in
          ap (λ v. v && is_of_node st.who.node (at b.holders (place_of b.script.config s))) its ∙ (ap (is_of_node st.who.node) holder_is ∙ held_of c w k st s stands here i);
      lists_are = λ s i. if_some (held_list s st) (IsHandOf (meaning_of b) s) (λ list h.
          let t : IsInHand w st s list = hand_is c w k st s list stands here i h in
          hand_of b c s list e i (ap (own c s) (sym t.list_is) ∙ own_of c w s stands i));
      leased_are = λ s i. if_some (held_list s st) (λ list. holder list ≡ Some st.who) (λ list h. let t : IsInHand w st s list = hand_is c w k st s list stands here i h in t.holds_is);
    }

-- What a packet promises, where all is vouched for.

abbrev all_vouched : List ℕ → ℕ → ℕ → Bool
all_vouched e p n = true

promised_more : (c : Script) (vouches : List ℕ → ℕ → ℕ → Bool) (st : Node) (b : Body) → Promised vouches st b → Promised all_vouched st b
promised_more c vouches st (body.View v xs) h = h
promised_more c vouches st (body.Request p e n u) h = λ k at_p. ((h k at_p).0, refl)
promised_more c vouches st (body.Ack p e n) h = λ k at_p. ((h k at_p).0, refl)
promised_more c vouches st b h = tt

pub may_of : (c : Script) (w : World) (k : ℕ) (st : Node) (p : Packet) → Stands c w → IsWell c w.lists p → MayHand c w.lists p → at w.nodes k ≡ Some st → MayTake c all_vouched st (input.Packet p)
may_of c w k st p s well all here =
    let may : IsPromised c (recorded c s.trace) st p.from p.body = well_may c w p well all s.trace s.sound st k here in
    record { from_is = may.from_is; genuine = may.genuine; promised = promised_more c (recorded c s.trace) st p.body may.promised }

-- Stores before any entry.

abbrev past_first : List (List Fact) → List (List Fact)
past_first [] = []
past_first (x ∷ xs) = xs

none_of : (f : ℕ → List Fact) (a n i j : ℕ) → map f (numbers a n) ≡ replicate n [] → i < n → j ≡ a + i → f j ≡ []
none_of f a zero i j h less e = absurd (omega arith)
none_of f a (suc n) zero j h less e =
    let first : j ≡ a = omega (arith, e) in
    ap f first ∙ ap (λ (l : List (List Fact)). slice_index_or l 0 []) h
none_of f a (suc n) (suc i) j h less e = none_of f (a + 1) n i j (ap past_first h) (omega (arith, less)) (omega (arith, e))

pub none_held : (c : Script) (stores : List (Option Store)) (k : ℕ) → lists_at c.config stores ≡ no_lists (setting c) → k < c.config.shards + c.config.producers + 1 → entries_at stores k ≡ []
none_held c stores k none less = by_shard (nat_lt k c.config.shards) refl
  where
    by_queue : (v : Bool) → nat_lt c.config.shards k ≡ v → c.config.shards ≤ k → entries_at stores k ≡ []
    by_queue true f above =
        let past : c.config.shards < k = below c.config.shards k f in
        let back : k ≡ c.config.shards + (k - c.config.shards) = omega (arith, past) in
        ap (entries_at stores) back
        ∙ none_of (λ p. entries_at stores (c.config.shards + p)) 1 c.config.producers (k - c.config.shards - 1) (k - c.config.shards) (ap (λ (x : SlotLists). x.queues) none) (omega (arith, past, less)) (omega (arith, past))
    by_queue false f above =
        let under : k ≤ c.config.shards = not_below c.config.shards k f in
        let same : k ≡ c.config.shards = omega (arith, above, under) in
        ap (entries_at stores) same ∙ ap (λ (x : SlotLists). x.coordinator) none

    by_shard : (v : Bool) → nat_lt k c.config.shards ≡ v → entries_at stores k ≡ []
    by_shard true f = none_of (entries_at stores) 0 c.config.shards k k (ap (λ (x : SlotLists). x.shards) none) (below k c.config.shards f) (omega arith)
    by_shard false f = by_queue (nat_lt c.config.shards k) refl (not_below k c.config.shards f)

-- The lists of a new trace.

empty_at : (c : Script) (s : Slot) → list_at (no_lists (setting c)) s ≡ []
empty_at c (slot.Shard k) = get_replicate c.config.shards k []
empty_at c slot.Coordinator = refl
empty_at c (slot.Queue p) = get_replicate c.config.producers (p - 1) []

place_within : (c : Script) (s : Slot) → is_slot_of c s ≡ true → place_of c.config s < c.config.shards + c.config.producers + 1
place_within c (slot.Shard k) h = let less : k < c.config.shards = below k c.config.shards h in omega (arith, less)
place_within c slot.Coordinator h = omega arith
place_within c (slot.Queue p) h = let most : p ≤ c.config.producers = at_most p c.config.producers (and_both (nat_le 1 p) (nat_le p c.config.producers) h).1 in omega (arith, most)

pub tells_new : (b : Book) (c : Script) (stores : List (Option Store)) → b.script ≡ c → b.places ≡ stores → b.holders ≡ replicate (length stores) None → lists_at c.config stores ≡ no_lists (setting c) → Tells (meaning_of b) c (no_lists (setting c))
tells_new b c stores e places holders none = λ s i.
    let its : is_slot_of b.script s ≡ true = ap (λ (x : Script). is_slot_of x s) e ∙ i in
    let place : place_of b.script.config s ≡ place_of c.config s = ap (λ (x : Script). place_of x.config s) e in
    let empty : list_at (no_lists (setting c)) s ≡ [] = empty_at c s in
    let nobody : at b.holders (place_of b.script.config s) ≡ None = ap (λ (l : List (Option Incarnation)). at l (place_of b.script.config s)) holders ∙ get_replicate (length stores) (place_of b.script.config s) None in
    let nothing : entries_in (at b.places (place_of b.script.config s)) ≡ [] =
    ap (λ (l : List (Option Store)). entries_at l (place_of b.script.config s)) places ∙ (ap (entries_at stores) place ∙ none_held c stores (place_of c.config s) none (place_within c s i)) in
    let told : IsTold (list_at (no_lists (setting c)) s) (known_at b (place_of b.script.config s)) = record {
      holder_is = nobody ∙ sym (ap holder empty);
      list_is = λ h. nothing ∙ sym empty;
    } in
    subst (λ v. IsSomeAnd (if v then Some (known_at b (place_of b.script.config s)) else None) (IsTold (list_at (no_lists (setting c)) s))) (sym its) told
