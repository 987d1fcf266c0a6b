-- A node as it stands between its inputs.
use Rattle.std.specs.Prelude.{◌≡◌, ◌≢◌, ℕ, ◌+◌, ◌-◌, ◌*◌, ◌≤◌, ◌<◌, true, length, Option, Some, None, IfSome, IsTrue, List, slice_index_or}
use Rattle.std.specs.Option.{option_map}
use Rattle.yard_model.specs.declared.event.Kind.{Kind}
use Rattle.yard_model.specs.declared.incarnation.Incarnation.{Incarnation}
use Rattle.yard_model.specs.Entities.{hosted}
use Rattle.yard_model.specs.Genuine.{is_node, is_producer}
use Rattle.yard_model.specs.Limits.{turn_room}
use Rattle.yard_model.specs.Node.{Node}
use Rattle.yard_model.specs.Region.{Region}
use Rattle.yard_model.specs.Script.{Script, IsScript, setting, pairs_in}
use Rattle.yard_model.specs.Words.{at}
use Rattle.region_actor.specs.Made.{Made}
use Rattle.coordinator_actor.specs.Held.{Held, are_viewed}
use Rattle.shard_entities.specs.Lodged.{Lodged}
use Rattle.shard_entities.specs.Roomy.{room_wanted}
use Rattle.producer_ctl.specs.Producing.{Producing, Routing}

pub record Standing : Type 0 where
  pub script : Script  -- its setting is the state's
  pub state : Node
  pub rooms : List ℕ  -- per shard: how many more entries its store takes with no memory taken, 0 where it isn't hosted
  pub queues : List ℕ  -- per producer: how many more entries its queue takes with no memory taken, 0 where it isn't held
  pub pending : Routing  -- the numbers that a producer is still to route
  pub spare : ℕ  -- of the coordinator's store, 0 where there is no coordinator
  pub places : ℕ  -- how many more regions may leave with no memory taken, 0 where there is no coordinator

abbrev pub spare_in : Option Held → ℕ
spare_in None = 0
spare_in (Some k) = k.spare

abbrev pub places_in : Option Held → ℕ
places_in None = 0
places_in (Some k) = k.places

-- the node of these parts
abbrev pub node_of : Script → Region → Lodged → Producing → Option Held → Node
node_of c region entities producers coordinator = record {
  who = region.who;
  set = setting c;
  region = region;
  entities = entities.state;
  producers = producers.producers;
  coordinator = option_map (λ k. k.state) coordinator;
}

abbrev pub standing_of : Script → Region → Lodged → Producing → Option Held → Standing
standing_of c region entities producers coordinator = record {
  script = c;
  state = node_of c region entities producers coordinator;
  rooms = entities.rooms;
  queues = producers.rooms;
  pending = producers.pending;
  spare = spare_in coordinator;
  places = places_in coordinator;
}

-- a coordinator of this script, at this incarnation
pub record IsOf (c : Script) (who : Incarnation) (k : Held) : Type 0 where
  pub script_is : k.script ≡ c
  pub who_is : k.state.who ≡ who
  pub set_is : k.state.set ≡ setting c

-- the same coordinator but for its room
pub record IsSameOffice (old new : Option Held) : Type 0 where
  pub state_is : option_map (λ k. k.state) new ≡ option_map (λ k. k.state) old
  pub stays_of : (c : Script) (who : Incarnation) → IfSome old (IsOf c who) → IfSome new (IsOf c who)

-- the parts of a node are of one script and of one incarnation, which is of one of the script's nodes; its behaviour is of the script's kind and of the version of its entities
pub record AreParts (c : Script) (kind : Kind) (version : ℕ) (region : Made) (entities : Lodged) (queues : Producing) (office : Option Held) : Type 0 where
  pub script_is : IsScript c
  pub kind_is : kind ≡ c.config.kind
  pub who_is : is_node c region.state.who ≡ true
  pub region_script : region.script ≡ c
  pub region_set : region.state.set ≡ setting c
  pub entities_script : entities.script ≡ c
  pub entities_who : entities.state.who ≡ region.state.who
  pub entities_set : entities.state.set ≡ setting c
  pub entities_version : version ≡ entities.state.version
  pub queues_script : queues.script ≡ c
  pub queues_who : queues.who ≡ region.state.who
  pub queues_there : length queues.producers ≡ c.config.producers
  pub coordinator : IfSome office (IsOf c region.state.who)

-- where there is a coordinator, each registered region is in this view
abbrev pub AreSeen : List Incarnation → Option Held → Type 0
AreSeen view office = IfSome office (λ k. IsTrue (are_viewed view k.state.entries))

-- an input that it handles, and its crash, take no memory
pub record IsReady (v : Standing) (spare : ℕ) : Type 0 where
  pub room : 8000 + 5 * v.script.config.buffer + 5 * length (pairs_in v.script.orders) ≤ spare
  pub rooms : (s : ℕ) → (hosted v.state.entities s ≡ None → ⊥) → room_wanted v.script s ≤ slice_index_or v.rooms s 0
  pub queues : (p : ℕ) → is_producer v.script p ≡ true → (at v.state.producers (p - 1) ≡ None → ⊥) → turn_room ≤ slice_index_or v.queues (p - 1) 0
  pub entries : IfSome v.state.coordinator (λ k. turn_room ≤ v.spare)
  pub places : IfSome v.state.coordinator (λ k. 1 ≤ v.places)

-- the shard is hosted, with room for as many entries as this in its store
pub record IsHostedWith (n : ℕ) (v : Standing) (s : ℕ) : Type 0 where
  pub there : hosted v.state.entities s ≡ None → ⊥
  pub room : n ≤ slice_index_or v.rooms s 0

-- where the shard is hosted, there is room for as many entries as this in its store
abbrev pub HasRoomFor : ℕ → Standing → ℕ → Type 0
HasRoomFor n v s = (hosted v.state.entities s ≡ None → ⊥) → n ≤ slice_index_or v.rooms s 0

-- where the queue is held, there is room for as many entries as this
abbrev pub HasQueueRoom : ℕ → Standing → ℕ → Type 0
HasQueueRoom n v p = (at v.state.producers (p - 1) ≡ None → ⊥) → n ≤ slice_index_or v.queues (p - 1) 0

-- while a node ends: what is left of it can be freed with no memory taken
pub record IsEnding (v : Standing) : Type 0 where
  pub rooms : (t : ℕ) → (hosted v.state.entities t ≡ None → ⊥) → 101 ≤ slice_index_or v.rooms t 0
  pub queues : (p : ℕ) → is_producer v.script p ≡ true → (at v.state.producers (p - 1) ≡ None → ⊥) → 101 ≤ slice_index_or v.queues (p - 1) 0
  pub entries : IfSome v.state.coordinator (λ k. 101 ≤ v.spare)
