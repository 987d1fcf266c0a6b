-- The producers of a node as they are kept, and what moves make of them.
use Rattle.std.specs.Prelude.{◌≡◌, ℕ, ◌+◌, ◌-◌, ◌<◌, ◌≤◌, List, [], ◌∷◌, length, map, fold, slice_index_or, slice_set, Bool, false, Option, None, Some, IfSome, MatchOption}
use Rattle.std.specs.List.{All}
use Rattle.std.specs.List.Sorted.{IsStrictlySortedBy}
use Rattle.std.specs.Option.{option_map, option_map_or, option_and_then}
use Rattle.std.specs.Ordering.{nat_cmp}
use Rattle.std.specs.Cmp.Lexicographic.{slice_cmp}
use Rattle.yard_model.specs.declared.incarnation.Incarnation.{Incarnation}
use Rattle.yard_model.specs.declared.incarnation.Slot.TheVariants as slot
use Rattle.yard_model.specs.declared.charter.Sending.{Sending}
use Rattle.yard_model.specs.declared.packet.Message.{Message}
use Rattle.yard_model.specs.Limits.{turn_room}
use Rattle.yard_model.specs.Move.{Move, took}
use Rattle.yard_model.specs.Node.{by_producer, producers_part}
use Rattle.yard_model.specs.Producer.{Producer, no_progress, message_of, next_sending}
use Rattle.yard_model.specs.Script.{Script, setting}
use Rattle.yard_model.specs.SlotReads.{confirmed, holder, queued}
use Rattle.yard_model.specs.Words.{at}
use Rattle.durable_queue.specs.Queue.{Queue}
use Rattle.send_window.specs.declared.pair.Sends.{Sends}
use Rattle.producer_ctl.specs.declared.place.Place.{Place}
use Rattle.producer_ctl.specs.declared.producers.Pending.{Pending}
use Rattle.producer_ctl.specs.Paired.{IsPlace, name_at}
use Rattle.send_window.specs.Window.{numbers_of}
use Rattle.producer_ctl.specs.Produced.{Produced, Gives, moved, room_step, queueing, waits_to}
use Rattle.producer_ctl.specs.Within.{IsWithin}

-- the numbers to an entity that a producer is still to route
pub record Routing : Type 0 where
  pub producer : ℕ
  pub entity : List ℕ
  pub numbers : List ℕ

abbrev pub no_routing : Routing
no_routing = record { producer = 0; entity = []; numbers = [] }

pub record Producing : Type 0 where
  pub script : Script  -- that they were made for
  pub who : Incarnation
  pub producers : List (Option Producer)  -- those whose queue is held
  pub rooms : List ℕ  -- per producer: how many more entries are appended with no memory taken, 0 where its queue isn't held
  pub pending : Routing

-- What moves of a producer make of them.

abbrev pub producing_after : ℕ → Producing → Move → Producing
producing_after p v m = record {
  script = v.script;
  who = v.who;
  producers = producers_part (setting v.script) v.who v.producers (by_producer p m);
  rooms = slice_set v.rooms (p - 1) (room_step (slice_index_or v.rooms (p - 1) 0) m);
  pending = v.pending;
}

abbrev pub moved_by : ℕ → Producing → List Move → Producing
moved_by p v ms = fold (producing_after p) v ms

-- the producer, where its queue is held
abbrev pub held : ℕ → Producing → Option Producer
held p v = at v.producers (p - 1)

-- its queue is held, and a command to the entity is queued that isn't confirmed
abbrev pub waits : ℕ → List ℕ → Producing → Bool
waits p e v = option_map_or (waits_to e) (held p v) false

-- what an input makes of it, where its queue is held
abbrev pub of_held : (Producer → Gives) → ℕ → Producing → Option Gives
of_held f p v = option_map f (held p v)

abbrev pub of_item : (Producer → Gives) → Option Produced → Option Gives
of_item f o = option_map (λ k. f k.state) o

-- Send: where something is left to queue
abbrev pub sending : List Sending → Producer → Option Gives
sending sends st = option_map (λ x. queueing x st) (next_sending sends st)

abbrev pub moves_of : Option Gives → List Move
moves_of None = []
moves_of (Some g) = g.moves

abbrev pub routing_by : ℕ → Option Gives → Routing
routing_by p None = no_routing
routing_by p (Some g) = record { producer = p; entity = g.entity; numbers = g.numbers }

abbrev pub routing : Routing → Producing → Producing
routing r v = record { script = v.script; who = v.who; producers = v.producers; rooms = v.rooms; pending = r }

-- the moves, and then what is to be routed
abbrev pub stepped : ℕ → Producing → Option Gives → Producing
stepped p v g = routing (routing_by p g) (moved_by p v (moves_of g))

-- a queue is taken, with this room
abbrev pub holding : ℕ → Producing → Queue → Producing
holding p v x = record {
  script = v.script;
  who = v.who;
  producers = producers_part (setting v.script) v.who v.producers (by_producer p (took (slot.Queue p) x.entries));
  rooms = slice_set v.rooms (p - 1) x.spare;
  pending = no_routing;
}

-- a queue is let go
abbrev pub without : ℕ → Producing → Producing
without p v = record { script = v.script; who = v.who; producers = slice_set v.producers (p - 1) None; rooms = slice_set v.rooms (p - 1) 0; pending = no_routing }

-- What is routed.

abbrev pub first_of : List ℕ → Option ℕ
first_of [] = None
first_of (n ∷ ns) = Some n

abbrev pub rest_of : List ℕ → List ℕ
rest_of [] = []
rest_of (n ∷ ns) = ns

abbrev pub next_message : Producing → Option Message
next_message v = option_and_then (λ n. option_map (λ st. message_of v.pending.entity st n) (held v.pending.producer v)) (first_of v.pending.numbers)

abbrev pub after_message : Producing → Producing
after_message v = routing (record { producer = v.pending.producer; entity = v.pending.entity; numbers = rest_of v.pending.numbers }) v

-- the producer whose numbers are routed may send the number of this message
abbrev pub MayGo : Producing → Message → Type 0
MayGo v m = MatchOption (held v.pending.producer v) ⊥ (λ st. IsWithin m.entity st m.number)

-- How they are kept.

abbrev pub state_of : Produced → Producer
state_of k = k.state

abbrev pub room_of : Option Produced → ℕ
room_of None = 0
room_of (Some k) = k.room

-- the name at a place of the script's, and its place
abbrev pub place_at : Script → ℕ → Place
place_at c i = record { entity = name_at (setting c).names i; at = i }

abbrev pub routing_of : Script → Option Pending → Routing
routing_of c None = no_routing
routing_of c (Some x) = record { producer = x.producer; entity = name_at (setting c).names x.at; numbers = numbers_of x.sends }

abbrev pub producing : Script → Incarnation → List (Option Produced) → Option Pending → Producing
producing c who items pending = record { script = c; who = who; producers = map (option_map state_of) items; rooms = map room_of items; pending = routing_of c pending }

-- the producer p of this script and node
pub record IsHeld (c : Script) (who : Incarnation) (p : ℕ) (k : Produced) : Type 0 where
  pub script_is : k.script ≡ c
  pub who_is : k.state.who ≡ who
  pub set_is : k.state.set ≡ setting c
  pub number_is : k.state.number ≡ p

-- room for a table with so many places
abbrev pub HasPlaces : ℕ → Option ℕ → Type 0
HasPlaces n None = ⊥
HasPlaces n (Some t) = t ≡ n

-- there is a producer, which has so many commands queued
abbrev pub IsQueued : List ℕ → ℕ → Option Produced → Type 0
IsQueued e n None = ⊥
IsQueued e n (Some k) = n ≤ queued e k.state.entries

-- there is a producer, and it may send each of these numbers to the entity
abbrev pub MaySend : List ℕ → List ℕ → Option Produced → Type 0
MaySend e ns None = ⊥
MaySend e ns (Some k) = All (IsWithin e k.state) ns

-- what is to be routed may be sent, to a name of the script
pub record IsPending (c : Script) (items : List (Option Produced)) (x : Pending) : Type 0 where
  pub stands : IsPlace c (place_at c x.at)
  pub there : MaySend (name_at (setting c).names x.at) (numbers_of x.sends) (at items (x.producer - 1))

pub record IsProducing (c : Script) (who : Incarnation) (names : List (List ℕ)) (items : List (Option Produced)) (tables : List (Option ℕ)) (pending : Option Pending) : Type 0 where
  pub names_are : names ≡ (setting c).names
  pub sorted : IsStrictlySortedBy (slice_cmp nat_cmp) names
  pub there : length items ≡ c.config.producers
  pub tables_there : length tables ≡ c.config.producers
  pub each : (i : ℕ) → IfSome (at items i) (IsHeld c who (i + 1))
  pub free : (i : ℕ) → i < c.config.producers → at items i ≡ None → HasPlaces (length names) (at tables i)
  pub pending_is : IfSome pending (IsPending c items)

-- where it is held, the queue has room for all that a turn may write there
abbrev pub IsRoomy : Option Produced → Type 0
IsRoomy o = (o ≡ None → ⊥) → turn_room ≤ room_of o

-- each queue that is held has room for all that a turn may write there
abbrev pub AreReady : List (Option Produced) → Type 0
AreReady items = (i : ℕ) → (at items i ≡ None → ⊥) → turn_room ≤ room_of (at items i)

-- the store of the queue that is held
pub record IsStore (v : Producing) (p : ℕ) (x : Queue) : Type 0 where
  pub script_is : x.script ≡ v.script
  pub producer_is : x.producer ≡ p
  pub entries_are : option_map (λ (st : Producer). st.entries) (held p v) ≡ Some x.entries
  pub room_is : x.spare ≡ slice_index_or v.rooms (p - 1) 0
  pub leased : holder x.entries ≡ Some v.who

-- of a producer of the script that is held
pub record IsBounded (v : Producing) (p : ℕ) (st : Producer) : Type 0 where
  pub who_is : st.who ≡ v.who
  pub set_is : st.set ≡ setting v.script
  pub number_is : st.number ≡ p
  pub leased : holder st.entries ≡ Some v.who
  pub pairs_full : length st.pairs ≡ length (setting v.script).names
  pub bounded : (i : ℕ) → i < length (setting v.script).names → (slice_index_or st.pairs i no_progress).demand ≤ confirmed (name_at (setting v.script).names i) st.entries + v.script.config.window

-- what stands of a producer of the script; there is no room where it isn't held
pub record Stands (p : ℕ) (v : Producing) : Type 0 where
  pub empty : held p v ≡ None → slice_index_or v.rooms (p - 1) 0 ≡ 0
  pub each : IfSome (held p v) (IsBounded v p)

-- what a call makes of one of them, and what it answers
pub record IsSent (f : Producer → Gives) (old new : Option Produced) (result : Option Sends) : Type 0 where
  pub held_is : new ≡ option_map (λ k. moved k (f k.state).moves) old
  pub numbers_are : option_map numbers_of result ≡ option_map (λ k. (f k.state).numbers) old

-- no room is less
pub record AreMore (old new : List ℕ) : Type 0 where
  pub there : length new ≡ length old
  pub each : (i : ℕ) → slice_index_or old i 0 ≤ slice_index_or new i 0

-- the same but for its room, which isn't less
abbrev pub with_room : ℕ → Produced → Produced
with_room n k = record { script = k.script; state = k.state; room = n }

pub record IsReserved (old new : Option Produced) : Type 0 where
  pub same : new ≡ option_map (with_room (room_of new)) old
  pub more : room_of old ≤ room_of new
