-- What asking for the coordinator's slot gives.
use Rattle.std.proofs.Common.{◌≡◌, ◌≢◌, ℕ, List, [], ◌∷◌, ◌++◌, map, sym, ap, subst, ◌∙◌, refl, true, false, true≢false}
use Rattle.std.specs.Prelude.{Bool, ◌&&◌, ◌+◌, Option, Some, None, if◌then◌else◌}
use Rattle.std.proofs.lemmas.List.Sums.{fold-append}
use Rattle.yard_model.specs.declared.fact.Fact.TheVariants as fact
use Rattle.yard_model.specs.declared.incarnation.Incarnation.{Incarnation}
use Rattle.yard_model.specs.declared.incarnation.Slot.{Slot}
use Rattle.yard_model.specs.declared.incarnation.Slot.TheVariants as slot
use Rattle.yard_model.specs.declared.out.Item.{Item}
use Rattle.yard_model.specs.declared.out.Item.TheVariants as item
use Rattle.yard_model.specs.Coordinator.{new_coordinator}
use Rattle.yard_model.specs.Genuine.{is_node, is_slot_of}
use Rattle.yard_model.specs.Lawful.{own}
use Rattle.yard_model.specs.Node.{Node, Act, by_coordinator, acquire}
use Rattle.yard_model.specs.Region.{Region, oldest}
use Rattle.yard_model.specs.Script.{Script, setting}
use Rattle.yard_model.specs.SlotReads.{holder, holder_step, epoch}
use Rattle.yard_model.specs.Words.{is_at}
use Rattle.plain_laws.proofs.Booleans.{and_both, both}
use Rattle.actor_laws.specs.Hands.{held_list}
use Rattle.shard_store.specs.declared.store.Store.{Store}
use Rattle.shard_store.specs.Stores.{entries_of}
use Rattle.yard_model.specs.Producer.{Producer}
use Rattle.coordinator_actor.specs.Held.{Held}
use Rattle.shard_entities.specs.Lodged.{Lodged}
use Rattle.shard_lease.specs.declared.leases.Acquire.{Acquire}
use Rattle.shard_lease.specs.declared.leases.Acquire.TheVariants as acquired
use Rattle.shard_lease.specs.Meaning.{Acquired, Meaning, Stays, Apart, Still, Hands, Refuses}
use Rattle.producer_ctl.specs.Producing.{Producing}
use Rattle.node_core.specs.Leased.{Rests}
use Rattle.node_core.specs.Standing.{node_of}
use Rattle.node_core.specs.Taken.{Took, IsGrant}
use Rattle.node_core.specs.Gave.{Gave, moment, take_lead, is_to_lead, office}
use Rattle.node_core.proofs.AskLaws.{granted_gave, refused_gave}
use Rattle.node_core.proofs.GaveLaws.{gave_same}

-- Slots.

abbrev is_coordinator : Slot → Bool
is_coordinator slot.Coordinator = true
is_coordinator s = false

pub shard_other : (s : ℕ) → slot.Shard s ≢ slot.Coordinator
shard_other s = λ e. true≢false (sym (ap is_coordinator e))

pub queue_other : (p : ℕ) → slot.Queue p ≢ slot.Coordinator
queue_other p = λ e. true≢false (sym (ap is_coordinator e))

-- The coordinator's slot.

pub coordinator_granted : (c : Script) (old new : Meaning) (st : Node) (x : Store) (before : List Item)
    → Rests old c (record st { coordinator = None })
    → Stays old new
    → Hands old st.who slot.Coordinator x new
    → Apart st.who.node slot.Coordinator old new
    → Gave c office (λ lists. map by_coordinator (acquire slot.Coordinator st.who lists.coordinator)) (moment old (record st { coordinator = None }) before)
    (moment new (record st { coordinator = Some (new_coordinator st.set st.who (entries_of x)) }) (before ++ item.Fact (fact.Granted slot.Coordinator (epoch (entries_of x)) st.who) ∷ []))
coordinator_granted c old new st x before rests stays h apart =
    granted_gave c slot.Coordinator by_coordinator old new (record st { coordinator = None }) (record st { coordinator = Some (new_coordinator st.set st.who (entries_of x)) }) x before refl refl (λ m. refl) rests stays h apart (λ n. refl)
    (record { held_is = refl; else_is = others })
  where
    others : (t : Slot) → is_slot_of c t ≡ true → t ≢ slot.Coordinator → held_list t (record st { coordinator = Some (new_coordinator st.set st.who (entries_of x)) }) ≡ held_list t (record st { coordinator = None })
    others (slot.Shard s) valid other = refl
    others slot.Coordinator valid other = absurd (other refl)
    others (slot.Queue p) valid other = refl

pub coordinator_refused : (c : Script) (old new : Meaning) (st : Node) (node : ℕ) (before : List Item)
    → Rests old c (record st { coordinator = None })
    → Stays old new
    → Refuses old st.who slot.Coordinator node
    → Still old new
    → Gave c office (λ lists. map by_coordinator (acquire slot.Coordinator st.who lists.coordinator)) (moment old (record st { coordinator = None }) before)
    (moment new (record st { coordinator = None }) (before ++ item.Fact (fact.Held slot.Coordinator st.who node) ∷ []))
coordinator_refused c old new st node before rests stays h still =
    refused_gave c slot.Coordinator by_coordinator old new (record st { coordinator = None }) node before refl refl (λ m. refl) lawful rests stays h still refl
  where
    lawful : own c slot.Coordinator (fact.Granted slot.Coordinator 1 (record { node = node; number = 1 }) ∷ []) ≡ true
    lawful = both (is_node c (record { node = node; number = 1 })) true (subst (λ s. is_node s (record { node = node; number = 1 }) ≡ true) rests.script_is h.node_is) refl

-- What is asked for is taken.

pub acquired_gave : (c : Script) (old new : Meaning) (r : Region) (e : Lodged) (p : Producing) (answer : Acquire) (k : Option Held) (before now : List Item)
    → Rests old c (node_of c r e p None)
    → Stays old new
    → Acquired old r.who slot.Coordinator answer new
    → Took c r.who answer k before now
    → Gave c office (λ lists. map by_coordinator (acquire slot.Coordinator r.who lists.coordinator)) (moment old (node_of c r e p None) before) (moment new (node_of c r e p k) now)
acquired_gave c old new r e p (acquired.Granted x) k before now rests stays a t =
    subst (λ (o : Option Held). Gave c office (λ lists. map by_coordinator (acquire slot.Coordinator r.who lists.coordinator)) (moment old (node_of c r e p None) before) (moment new (node_of c r e p o) now)) (sym t.0)
    (subst (λ is. Gave c office (λ lists. map by_coordinator (acquire slot.Coordinator r.who lists.coordinator)) (moment old (node_of c r e p None) before) (moment new (record (node_of c r e p None) { coordinator = Some (new_coordinator (setting c) r.who (entries_of x)) }) is)) (sym t.1)
    (coordinator_granted c old new (node_of c r e p None) x before rests stays a.0 a.1))
acquired_gave c old new r e p (acquired.Held h) k before now rests stays a t =
    subst (λ (o : Option Held). Gave c office (λ lists. map by_coordinator (acquire slot.Coordinator r.who lists.coordinator)) (moment old (node_of c r e p None) before) (moment new (node_of c r e p o) now)) (sym t.0)
    (subst (λ is. Gave c office (λ lists. map by_coordinator (acquire slot.Coordinator r.who lists.coordinator)) (moment old (node_of c r e p None) before) (moment new (node_of c r e p None) is)) (sym t.1)
    (coordinator_refused c old new (node_of c r e p None) h before rests stays a.0 a.1))

-- a store that is handed out is of the script and the slot, and leased
pub acquired_granted : (c : Script) (old new : Meaning) (who : Incarnation) (answer : Acquire) → old.script ≡ c → Acquired old who slot.Coordinator answer new → IsGrant c who answer
acquired_granted c old new who (acquired.Granted x) same a = record {
  script_is = a.0.script_is ∙ same;
  slot_is = a.0.slot_is;
  spare_is = a.0.spare_is;
  leased = ap holder a.0.list_is ∙ fold-append holder_step None a.0.before (fact.Granted slot.Coordinator (epoch a.0.before + 1) who ∷ []);
}
acquired_granted c old new who (acquired.Held h) same a = tt

taken_is : (b : Bool) (acts : List Act) → b ≡ true → acts ≡ (if b && true then acts else [])
taken_is true acts e = refl
taken_is false acts e = absurd (true≢false (sym e))

-- where it is the oldest and isn't the coordinator
pub took_gave : (c : Script) (old new : Meaning) (r : Region) (e : Lodged) (p : Producing) (answer : Acquire) (k : Option Held) (before now : List Item)
    → is_at r.who (oldest r) ≡ true
    → Rests old c (node_of c r e p None)
    → Stays old new
    → Acquired old r.who slot.Coordinator answer new
    → Took c r.who answer k before now
    → Gave c office (λ lists. take_lead lists (node_of c r e p None)) (moment old (node_of c r e p None) before) (moment new (node_of c r e p k) now)
took_gave c old new r e p answer k before now first rests stays a t =
    gave_same c office (λ lists. map by_coordinator (acquire slot.Coordinator r.who lists.coordinator)) (λ lists. take_lead lists (node_of c r e p None)) (moment old (node_of c r e p None) before) (moment new (node_of c r e p k) now)
    (λ lists. taken_is (is_at r.who (oldest r)) (map by_coordinator (acquire slot.Coordinator r.who lists.coordinator)) first)
    (acquired_gave c old new r e p answer k before now rests stays a t)

-- where it is to lead
pub slot_gave : (c : Script) (old new : Meaning) (r : Region) (e : Lodged) (p : Producing) (k : Option Held) (answer : Acquire) (now : Option Held) (before items : List Item)
    → is_to_lead (node_of c r e p k) ≡ true → Rests old c (node_of c r e p k) → Stays old new → Acquired old r.who slot.Coordinator answer new → Took c r.who answer now before items
    → Gave c office (λ lists. take_lead lists (node_of c r e p k)) (moment old (node_of c r e p k) before) (moment new (node_of c r e p now) items)
slot_gave c old new r e p None answer now before items leads rests stays a t = took_gave c old new r e p answer now before items (and_both (is_at r.who (oldest r)) true leads).0 rests stays a t
slot_gave c old new r e p (Some k) answer now before items leads rests stays a t = absurd (true≢false (sym (and_both (is_at r.who (oldest r)) false leads).1))

-- nobody is the coordinator where it is to lead
pub leads_alone : (c : Script) (r : Region) (e : Lodged) (p : Producing) (k : Option Held) → is_to_lead (node_of c r e p k) ≡ true → k ≡ None
leads_alone c r e p None leads = refl
leads_alone c r e p (Some k) leads = absurd (true≢false (sym (and_both (is_at r.who (oldest r)) false leads).1))
