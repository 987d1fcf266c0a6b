-- A call of a producer, and the numbers that it leaves to be routed.
use Rattle.std.specs.Prelude.{◌≡◌, ℕ, ◌+◌, ◌-◌, ◌*◌, ◌<◌, ◌≤◌, Bool, true, false, ◌&&◌, List, [], ◌∷◌, ◌++◌, length, map, Option, Some, None, is_none, IfSome, slice_set}
use Rattle.std.specs.List.{list_all}
use Rattle.std.specs.Option.{option_and_then, option_map}
use Rattle.yard_model.specs.declared.fact.Fact.TheVariants as fact
use Rattle.yard_model.specs.declared.incarnation.Incarnation.{Incarnation}
use Rattle.yard_model.specs.declared.incarnation.Slot.{Slot}
use Rattle.yard_model.specs.declared.incarnation.Slot.TheVariants as slot
use Rattle.yard_model.specs.declared.out.Item.{Item}
use Rattle.yard_model.specs.declared.packet.Body.{Body}
use Rattle.yard_model.specs.declared.packet.Body.TheVariants as body
use Rattle.yard_model.specs.declared.packet.Message.{Message}
use Rattle.yard_model.specs.Move.{took, told}
use Rattle.yard_model.specs.Node.{Node, Act, Rule, by_producer, after, route_numbers, request, ack}
use Rattle.yard_model.specs.Producer.{Producer, message_of, progress, to_resend}
use Rattle.yard_model.specs.Script.{Script}
use Rattle.yard_model.specs.Setting.{shard_of}
use Rattle.yard_model.specs.SlotReads.{confirmed, epoch, holder, queued}
use Rattle.yard_model.specs.Spared.{Spared}
use Rattle.yard_model.specs.Turns.{where_some}
use Rattle.yard_model.specs.Words.{at, is_empty}
use Rattle.actor_laws.specs.ProducerStands.{is_sent_well}
use Rattle.durable_queue.specs.Queue.{Queue}
use Rattle.producer_ctl.specs.Produced.{Gives, given}
use Rattle.producer_ctl.specs.Producing.{Routing, no_routing, routing_by, moves_of, first_of, rest_of}
use Rattle.producer_ctl.specs.Routed.{given_by}
use Rattle.shard_lease.specs.declared.leases.Acquire.{Acquire}
use Rattle.shard_lease.specs.declared.leases.Acquire.TheVariants as answer
use Rattle.shard_store.specs.declared.store.Store.TheVariants as store
use Rattle.node_core.specs.Found.{asks}
use Rattle.node_core.specs.Releasing.{HasReleaseRoom, LeavesRoom}
use Rattle.node_core.specs.Standing.{Standing}
use Rattle.node_core.specs.Went.{Went}

-- Calls.

-- what F gives of the producer, where its queue is held
abbrev pub given_of : (Producer → Option Gives) → ℕ → Node → Option Gives
given_of F p st = option_and_then F (at st.producers (p - 1))

-- as a rule: its moves, and then each of its numbers routed
abbrev pub called : ℕ → (Producer → Option Gives) → Rule
called p F st = where_some (λ k. where_some (λ g. given_by p g k st) (F k)) (at st.producers (p - 1))

-- its moves are made, and its numbers are to be routed
pub record Called (p : ℕ) (g : Option Gives) (old new : Standing) (before late : Spared Item) : Type 0 where
  pub went : Went old new before late (map (by_producer p) (moves_of g))
  pub pending_is : new.pending ≡ routing_by p g

-- so many numbers to the entity are queued, where the queue is held
abbrev pub AreQueued : ℕ → List ℕ → ℕ → Node → Type 0
AreQueued p e n st = IfSome (at st.producers (p - 1)) (λ k. n ≤ queued e k.entries)

-- no more is demanded than so much above what is confirmed
abbrev pub AreDemanded : ℕ → Producer → Type 0
AreDemanded w k = (e : List ℕ) → (progress k e).demand ≤ confirmed e k.entries + w

-- Packets for a producer.

abbrev pub is_for_producer : Body → Bool
is_for_producer (body.Request p e n u) = true
is_for_producer (body.Resend p e f) = true
is_for_producer (body.Ack p e n) = true
is_for_producer b = false

abbrev pub producer_rule : Body → Rule
producer_rule (body.Request p e n u) = request p e n u
producer_rule (body.Resend p e f) = route_numbers p e (to_resend e f)
producer_rule (body.Ack p e n) = ack p e n
producer_rule b = λ st. []

-- what it confirms is queued
abbrev pub ConfirmsQueued : Body → Node → Type 0
ConfirmsQueued (body.Request p e n u) st = AreQueued p e n st
ConfirmsQueued (body.Ack p e n) st = AreQueued p e n st
ConfirmsQueued b st = Unit {0}

-- What is still to be routed.

-- the first message
abbrev pub next_pending : Standing → Option Message
next_pending v = option_and_then (λ n. option_map (λ k. message_of v.pending.entity k n) (at v.state.producers (v.pending.producer - 1))) (first_of v.pending.numbers)

abbrev pub without_first : Routing → Routing
without_first r = record { producer = r.producer; entity = r.entity; numbers = rest_of r.numbers }

-- all of them
abbrev pub pending_acts : Standing → List Act
pending_acts v = route_numbers v.pending.producer v.pending.entity (λ k. v.pending.numbers) v.state

-- each message is genuine
abbrev pub are_sent_well : Script → Routing → Option Producer → Bool
are_sent_well c r None = is_empty r.numbers
are_sent_well c r (Some k) = list_all (is_sent_well c r.entity k) r.numbers

abbrev pub is_pending_well : Standing → Bool
is_pending_well v = are_sent_well v.script v.pending (at v.state.producers (v.pending.producer - 1))

-- A queue that is asked for.

-- the slot that Produce asks for, if it asks
abbrev pub asks_queue : ℕ → Node → Slot → Bool
asks_queue p st s = is_none (at st.producers (p - 1)) && asks (slot.Queue p) s

-- the node with this store of a queue
abbrev pub with_queue : ℕ → Queue → Standing → Standing
with_queue p x v = record v { state = after v.state (by_producer p (took (slot.Queue p) x.entries)); queues = slice_set v.queues (p - 1) x.spare; pending = no_routing }

-- a store of this queue, that is leased to this incarnation
pub record IsQueueGrantOf (c : Script) (who : Incarnation) (p : ℕ) (x : Queue) : Type 0 where
  pub script_is : x.script ≡ c
  pub producer_is : x.producer ≡ p
  pub leased : holder x.entries ≡ Some who

-- where the queue is granted it is such a store
abbrev pub IsQueueGrant : Script → Incarnation → ℕ → Acquire → Type 0
IsQueueGrant c who p (answer.Granted (store.Queue x)) = IsQueueGrantOf c who p x
IsQueueGrant c who p (answer.Granted x) = ⊥
IsQueueGrant c who p (answer.Held h) = Unit {0}

-- where it is granted that is told, and it is held; else it is told who holds it
abbrev pub TookQueue : ℕ → Acquire → Standing → Standing → Spared Item → Spared Item → Type 0
TookQueue p (answer.Granted (store.Queue x)) old new before late = (new ≡ with_queue p x old) × (late ≡ given before (told (fact.Granted (slot.Queue p) (epoch x.entries) old.state.who) ∷ []))
TookQueue p (answer.Granted x) old new before late = ⊥
TookQueue p (answer.Held h) old new before late = (new ≡ old) × (late ≡ given before (told (fact.Held (slot.Queue p) old.state.who h) ∷ []))

-- While they are routed: what is still to be is the rest, and there is room for it.
pub record Sends (old now : Standing) (before late : Spared Item) : Type 0 where
  pub acts : List Act
  pub passed : ℕ
  pub went : Went old now before late acts
  pub rest : acts ++ pending_acts now ≡ pending_acts old
  pub count : length now.pending.numbers + passed ≡ length old.pending.numbers
  pub entity_is : now.pending.entity ≡ old.pending.entity
  pub set_is : now.state.set ≡ old.state.set
  pub well : is_pending_well now ≡ true
  pub rooms : 0 < length now.pending.numbers → HasReleaseRoom (2 + 2 * length now.pending.numbers) now (shard_of now.state.set now.pending.entity)
  pub room : 4 * length now.pending.numbers ≤ late.spare
  pub leaves : (s : ℕ) → (0 < length old.pending.numbers → shard_of old.state.set old.pending.entity ≡ s) → LeavesRoom s passed old now
