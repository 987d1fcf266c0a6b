-- What a node rests on of the leases: the slots that it holds there are those whose lists it has in hand; and what the leases tell of all slots.
use Rattle.std.specs.Prelude.{◌≡◌, ℕ, ◌≤◌, [], ◌∷◌, ◌++◌, true, List, Some, None, is_some, IfSome, IsSomeAnd, MatchOption, IsTrue, Bool, false, not, nat_le}
use Rattle.std.specs.List.{list_all}
use Rattle.yard_model.specs.declared.fact.Fact.{Fact}
use Rattle.yard_model.specs.declared.fact.Fact.TheVariants as fact
use Rattle.yard_model.specs.declared.incarnation.Cause.TheVariants as cause
use Rattle.yard_model.specs.declared.incarnation.Incarnation.{Incarnation}
use Rattle.yard_model.specs.declared.incarnation.Slot.{Slot}
use Rattle.yard_model.specs.declared.incarnation.Slot.TheVariants as slot
use Rattle.yard_model.specs.declared.input.Input.{Input}
use Rattle.yard_model.specs.declared.input.Input.TheVariants as input
use Rattle.yard_model.specs.declared.packet.Body.{Body}
use Rattle.yard_model.specs.declared.packet.Body.TheVariants as body
use Rattle.yard_model.specs.declared.packet.Packet.{Packet}
use Rattle.yard_model.specs.Genuine.{is_slot_of}
use Rattle.yard_model.specs.Node.{Node}
use Rattle.yard_model.specs.Script.{Script}
use Rattle.yard_model.specs.SlotLists.{SlotLists}
use Rattle.yard_model.specs.SlotReads.{epoch, holder}
use Rattle.yard_model.specs.Trace.{list_at}
use Rattle.actor_laws.specs.Hands.{held_list}
use Rattle.coordinator_actor.specs.Held.{Held}
use Rattle.durable_queue.specs.Queue.{Queue}
use Rattle.shard_lease.specs.Meaning.{Known, Meaning, Apart, Begins, IsVouched, Serves, Stays, is_taken}
use Rattle.shard_store.specs.Shelf.{Shelf}

-- a list that a node has in hand: it extends the one that was told last, its incarnations have numbers within the limit, and what it confirms is vouched for
pub record IsHandOf (m : Meaning) (s : Slot) (list : List Fact) : Type 0 where
  pub extends : Begins (m.told s) list
  pub taken : IsTrue (list_all (is_taken m s) list)
  pub vouched : IsVouched m (m.told s) list

-- every slot but a queue, to which a node is admitted as it is to produce
abbrev pub IsNoQueue : Slot → Type 0
IsNoQueue (slot.Queue p) = ⊥
IsNoQueue s = Unit {0}

pub record Rests (m : Meaning) (c : Script) (st : Node) : Type 0 where
  pub script_is : m.script ≡ c
  pub serves_is : m.serves st.who ≡ true
  pub number_is : m.within st.who.number ≡ true
  pub admits_is : (s : Slot) → IsTrue (is_slot_of c s) → IsNoQueue s → m.admits st.who.node s ≡ true
  pub held_is : (s : Slot) → IsTrue (is_slot_of c s) → m.holds st.who.node s ≡ is_some (held_list s st)
  pub lists_are : (s : Slot) → IsTrue (is_slot_of c s) → IfSome (held_list s st) (IsHandOf m s)
  -- each of them is leased to it
  pub leased_are : (s : Slot) → IsTrue (is_slot_of c s) → IfSome (held_list s st) (λ list. holder list ≡ Some st.who)

-- what is told of a slot is so of this list: who holds it, and the list itself where nobody does
pub record IsTold (list : List Fact) (k : Known) : Type 0 where
  pub holder_is : k.holder ≡ holder list
  pub list_is : k.holder ≡ None → k.list ≡ list

-- the leases tell of each slot, by these lists
abbrev pub Tells : Meaning → Script → SlotLists → Type 0
Tells m c lists = (s : Slot) → IsTrue (is_slot_of c s) → IsSomeAnd (m.tells s) (IsTold (list_at lists s))

-- a packet for this incarnation, from one whose number is within the limit
pub record IsFor (m : Meaning) (who : Incarnation) (p : Packet) : Type 0 where
  pub to_is : p.to ≡ who
  pub within_is : m.within p.from.number ≡ true

abbrev pub IfPacket : Input → (Packet → Type 0) → Type 0
IfPacket (input.Packet p) P = P p
IfPacket i P = Unit {0}

abbrev pub IfProduce : Input → (ℕ → Type 0) → Type 0
IfProduce (input.Produce p) P = P p
IfProduce i P = Unit {0}

abbrev pub is_for_coordinator : Body → Bool
is_for_coordinator body.Register = true
is_for_coordinator (body.GetShardHome s) = true
is_for_coordinator (body.ShardStarted s) = true
is_for_coordinator (body.BeginHandOffAck s stamp) = true
is_for_coordinator (body.ShardStopped s stamp) = true
is_for_coordinator body.GracefulShutdownReq = true
is_for_coordinator b = false

abbrev pub is_view : Body → Bool
is_view (body.View v xs) = true
is_view b = false

-- a view whose version is greater than this
abbrev pub is_newer : Body → ℕ → Bool
is_newer (body.View v xs) old = not (nat_le v old)
is_newer b old = false

-- the slot has no holder any more, and this list; nothing is changed of others
pub record IsFreed (old : Meaning) (who : Incarnation) (s : Slot) (list : List Fact) (new : Meaning) : Type 0 where
  pub holds_is : new.holds who.node s ≡ false
  pub apart : Apart who.node s old new
  pub tells_is : MatchOption (old.tells s) (new.tells s ≡ None) (λ k. new.tells s ≡ Some (record { holder = None; list = list }))

-- a shard's store that the node may give back
pub record MayGiveBack (m : Meaning) (who : Incarnation) (s : ℕ) (x : Shelf) : Type 0 where
  pub serves : Serves m who (slot.Shard s)
  pub holds : m.holds who.node (slot.Shard s) ≡ true
  pub script_is : x.script ≡ m.script
  pub shard_is : x.shard ≡ s
  pub leased : holder x.entries ≡ Some who
  pub hand : IsHandOf m (slot.Shard s) x.entries
  pub room : 101 ≤ x.spare

-- a queue's store that it may
pub record MayGiveQueue (m : Meaning) (who : Incarnation) (p : ℕ) (x : Queue) : Type 0 where
  pub serves : Serves m who (slot.Queue p)
  pub holds : m.holds who.node (slot.Queue p) ≡ true
  pub script_is : x.script ≡ m.script
  pub producer_is : x.producer ≡ p
  pub leased : holder x.entries ≡ Some who
  pub hand : IsHandOf m (slot.Queue p) x.entries
  pub room : 101 ≤ x.spare

-- a coordinator whose store it may
pub record MayGiveOffice (m : Meaning) (who : Incarnation) (k : Held) : Type 0 where
  pub serves : Serves m who slot.Coordinator
  pub holds : m.holds who.node slot.Coordinator ≡ true
  pub script_is : k.script ≡ m.script
  pub who_is : k.state.who ≡ who
  pub hand : IsHandOf m slot.Coordinator k.state.entries
  pub room : 101 ≤ k.spare

-- a shard was given back, as released
pub record GaveBack (old : Meaning) (who : Incarnation) (s : ℕ) (list : List Fact) (new : Meaning) : Type 0 where
  pub stays : Stays old new
  pub freed : IsFreed old who (slot.Shard s) (list ++ fact.Freed (slot.Shard s) (epoch list) cause.Released ∷ []) new

-- so a queue
pub record GaveQueue (old : Meaning) (who : Incarnation) (p : ℕ) (list : List Fact) (new : Meaning) : Type 0 where
  pub stays : Stays old new
  pub freed : IsFreed old who (slot.Queue p) (list ++ fact.Freed (slot.Queue p) (epoch list) cause.Released ∷ []) new
