-- The entities of a node (Akka 2.6, Cluster Sharding: shards, passivation, remembering entities; Event Sourcing: recovery, stash, snapshots; Reliable Delivery: the consumer's side). The shards that the node hosts, each with its list, and a cell for each name. Numbers that tell repeats apart, and writes that fail on order, are own.
use Rattle.std.specs.Prelude.{ℕ, ◌+◌, ◌-◌, ◌/◌, ◌%◌, Bool, true, false, ◌==◌, ◌&&◌, nat_lt, nat_le, not, List, [], ◌∷◌, ◌++◌, length, map, filter, replicate, drop, Option, Some, None, is_none, slice_index_or, slice_set, if◌then◌else◌}
use Rattle.std.specs.List.{flat_map}
use Rattle.std.specs.Option.{option_map, option_and_then}
use Rattle.yard_model.specs.declared.fact.Fact.{Fact}
use Rattle.yard_model.specs.declared.fact.Fact.TheVariants as fact
use Rattle.yard_model.specs.declared.out.Item.{Item}
use Rattle.yard_model.specs.declared.out.Item.TheVariants as item
use Rattle.yard_model.specs.declared.packet.Body.{Body}
use Rattle.yard_model.specs.declared.packet.Body.TheVariants as body
use Rattle.yard_model.specs.declared.packet.Message.{Message}
use Rattle.yard_model.specs.declared.packet.Record.{Record}
use Rattle.yard_model.specs.declared.event.Decision.{Decision}
use Rattle.yard_model.specs.declared.incarnation.Incarnation.{Incarnation}
use Rattle.yard_model.specs.declared.incarnation.Stamp.{Stamp}
use Rattle.yard_model.specs.declared.incarnation.Slot.TheVariants as slot
use Rattle.yard_model.specs.declared.incarnation.Cause.TheVariants as cause
use Rattle.yard_model.specs.declared.incarnation.Keep.{Keep}
use Rattle.yard_model.specs.declared.incarnation.Keep.TheVariants as keep
use Rattle.yard_model.specs.declared.input.Phase.{Phase}
use Rattle.yard_model.specs.declared.input.Phase.TheVariants as phase
use Rattle.yard_model.specs.Script.{Setting}
use Rattle.yard_model.specs.Setting.{shards, shard_of, names_of, place}
use Rattle.yard_model.specs.Words.{is_empty, at}
use Rattle.yard_model.specs.Behaviour.{decide, folded}
use Rattle.yard_model.specs.SlotReads.{epoch, journal, position, is_remembered}
use Rattle.yard_model.specs.Turns.{in_turn, for_each, where_some}
use Rattle.yard_model.specs.Move.{Move, made, took, handed_off, passivates, told, post}

-- of a name
pub record Cell : Type 0 where
  pub phase : Phase
  pub passivating : Bool
  pub stash : List Message  -- oldest first
  pub armed : Option Keep  -- the next write fails, and so
  pub reach : List ℕ  -- per producer: the number that was asked up to

-- how a shard stops: the stamp of its HandOff, and to whom ShardStopped goes
pub record Stopping : Type 0 where
  pub stamp : Stamp
  pub to : Incarnation

-- a hosted shard: it is Running, or Stopping
pub record Hosted : Type 0 where
  pub entries : List Fact
  pub stopping : Option Stopping

pub record Entities : Type 0 where
  pub who : Incarnation
  pub set : Setting
  pub version : ℕ  -- of the node's behaviour
  pub hosted : List (Option Hosted)  -- per shard
  pub cells : List Cell  -- per name

abbrev pub new_cell : Setting → Cell
new_cell set = record { phase = phase.Absent; passivating = false; stash = []; armed = None; reach = replicate set.config.producers 0 }

-- of a node that comes up
abbrev pub new_entities : Setting → ℕ → Incarnation → Entities
new_entities set version who = record { who = who; set = set; version = version; hosted = replicate set.config.shards None; cells = replicate (length set.names) (new_cell set) }

abbrev pub is_phase : Phase → Phase → Bool
is_phase phase.Absent phase.Absent = true
is_phase phase.Loading phase.Loading = true
is_phase phase.Active phase.Active = true
is_phase phase.Stopping phase.Stopping = true
is_phase p q = false

-- What a move changes of the cell of its entity, word by word.

abbrev pub phase_by_post : Phase → Body → Phase
phase_by_post phase.Absent b = phase.Absent
phase_by_post old (body.StopEntity e) = phase.Stopping
phase_by_post old b = old

abbrev pub phase_step : Phase → Move → Phase
phase_step old (made (item.Fact (fact.Start x e))) = phase.Loading
phase_step old (made (item.Fact (fact.Active x e n st))) = phase.Active
phase_step old (made (item.Fact (fact.Stop x e))) = phase.Absent
phase_step old (made (item.Fact (fact.WriteFailed x e))) = phase.Absent
phase_step old (made (item.Post p)) = phase_by_post old p.body
phase_step old m = old

abbrev pub passivating_step : Bool → Move → Bool
passivating_step old (made (item.Fact (fact.Start x e))) = false
passivating_step old (passivates e) = true
passivating_step old m = old

-- an entity that is stopped keeps its stash until it starts again, or until the stashed messages are dropped
abbrev pub stash_step : Phase → List Message → Move → List Message
stash_step p old (made (item.Fact (fact.Stashed x m))) = old ++ m ∷ []
stash_step phase.Absent old (made (item.Fact (fact.Dropped x m))) = drop 1 old
stash_step p old (made (item.Fact (fact.Active x e n st))) = []
stash_step p old m = old

abbrev pub armed_step : Option Keep → Move → Option Keep
armed_step old (made (item.Fact (fact.Armed e k))) = Some k
armed_step old (made (item.Fact (fact.Start x e))) = None
armed_step old m = old

abbrev pub reach_by_post : List ℕ → Body → List ℕ
reach_by_post old (body.Request p e n u) = slice_set old (p - 1) u
reach_by_post old b = old

abbrev pub reach_step : List ℕ → Move → List ℕ
reach_step old (made (item.Fact (fact.Active x e n st))) = replicate (length old) 0
reach_step old (made (item.Post p)) = reach_by_post old p.body
reach_step old m = old

abbrev pub cell_after : Cell → Move → Cell
cell_after old m = record {
  phase = phase_step old.phase m;
  passivating = passivating_step old.passivating m;
  stash = stash_step old.phase old.stash m;
  armed = armed_step old.armed m;
  reach = reach_step old.reach m;
}

-- the entity that a move is of, if it is of one
abbrev pub entity_of_post : Body → Option (List ℕ)
entity_of_post (body.StopEntity e) = Some e
entity_of_post (body.Request p e n u) = Some e
entity_of_post b = None

abbrev pub entity_of_item : Item → Option (List ℕ)
entity_of_item (item.Fact (fact.Start x e)) = Some e
entity_of_item (item.Fact (fact.Active x e n st)) = Some e
entity_of_item (item.Fact (fact.Stop x e)) = Some e
entity_of_item (item.Fact (fact.WriteFailed x e)) = Some e
entity_of_item (item.Fact (fact.Armed e k)) = Some e
entity_of_item (item.Fact (fact.Stashed x m)) = Some m.entity
entity_of_item (item.Fact (fact.Dropped x m)) = Some m.entity
entity_of_item (item.Post p) = entity_of_post p.body
entity_of_item i = None

abbrev pub entity_of : Move → Option (List ℕ)
entity_of (made i) = entity_of_item i
entity_of (passivates e) = Some e
entity_of m = None

abbrev pub cell_in : Setting → List Cell → List ℕ → Cell
cell_in set cells e = slice_index_or cells (place set e) (new_cell set)

abbrev pub cells_by : Setting → List Cell → Move → Option (List ℕ) → List Cell
cells_by set old m None = old
cells_by set old m (Some e) = slice_set old (place set e) (cell_after (cell_in set old e) m)

abbrev pub cells_step : Setting → List Cell → Move → List Cell
cells_step set old m = cells_by set old m (entity_of m)

-- What a move changes of the hosted shards.

-- one entry more in the list of s
abbrev pub entered : ℕ → Fact → List (Option Hosted) → List (Option Hosted)
entered s f old = slice_set old s (option_map (λ h. record { entries = h.entries ++ f ∷ []; stopping = h.stopping }) (at old s))

abbrev pub hosted_by_fact : Setting → List (Option Hosted) → Fact → List (Option Hosted)
hosted_by_fact set old (fact.Freed (slot.Shard s) n why) = slice_set old s None
hosted_by_fact set old (fact.Wrote e r) = entered (shard_of set e) (fact.Wrote e r) old
hosted_by_fact set old (fact.Snapshot e n) = entered (shard_of set e) (fact.Snapshot e n) old
hosted_by_fact set old (fact.Remembered e) = entered (shard_of set e) (fact.Remembered e) old
hosted_by_fact set old (fact.Forgotten e) = entered (shard_of set e) (fact.Forgotten e) old
hosted_by_fact set old f = old

abbrev pub hosted_step : Setting → List (Option Hosted) → Move → List (Option Hosted)
hosted_step set old (took (slot.Shard s) list) = slice_set old s (Some (record { entries = list; stopping = None }))
hosted_step set old (made (item.Fact f)) = hosted_by_fact set old f
hosted_step set old (handed_off s stamp to) = slice_set old s (option_map (λ h. record { entries = h.entries; stopping = Some (record { stamp = stamp; to = to }) }) (at old s))
hosted_step set old m = old

abbrev pub entities_after : Entities → Move → Entities
entities_after st m = record { who = st.who; set = st.set; version = st.version; hosted = hosted_step st.set st.hosted m; cells = cells_step st.set st.cells m }

-- What is read.

abbrev pub cell : Entities → List ℕ → Cell
cell st e = cell_in st.set st.cells e

abbrev pub is_in_phase : Phase → Entities → List ℕ → Bool
is_in_phase p st e = is_phase p (cell st e).phase

abbrev pub hosted : Entities → ℕ → Option Hosted
hosted st s = at st.hosted s

abbrev pub is_hosted : Entities → ℕ → Bool
is_hosted st s = not (is_none (hosted st s))

abbrev pub entries_in : Option Hosted → List Fact
entries_in None = []
entries_in (Some h) = h.entries

-- the list of the shard of e
abbrev pub entries : Entities → List ℕ → List Fact
entries st e = entries_in (hosted st (shard_of st.set e))

abbrev pub is_running_in : Option Hosted → Bool
is_running_in None = false
is_running_in (Some h) = is_none h.stopping

abbrev pub is_running : Entities → ℕ → Bool
is_running st s = is_running_in (hosted st s)

-- the entities of a shard that exist, by name
abbrev pub entities_of : Entities → ℕ → List (List ℕ)
entities_of st s = filter (λ e. not (is_in_phase phase.Absent st e)) (names_of st.set s)

-- Starting.

-- `start`: it is Loading; post Recovered to the node itself
abbrev pub start_entity : List ℕ → Entities → List Move
start_entity e st = told (fact.Start st.who e) ∷ post st.who st.who (body.Recovered e) ∷ []

-- the second part of Start, once the shard is granted: with remember, each remembered name is started, in order
abbrev pub start_remembered : ℕ → Entities → List Move
start_remembered s st = if st.set.config.remember then flat_map (λ e. start_entity e st) (filter (λ e. is_remembered e (entries st e)) (names_of st.set s)) else []

-- Deliver.

-- it is stashed, or dropped where the stash is full
abbrev pub stash_message : Message → Entities → List Move
stash_message m st = if nat_lt (length (cell st m.entity).stash) st.set.config.window then told (fact.Stashed st.who m) ∷ [] else told (fact.Dropped st.who m) ∷ []

-- the record that a message gives: the next of the journal, under the lease's epoch, as Decide answers at the journal's Fold
abbrev pub record_of : Message → Entities → List Record → Record
record_of m st records =
    let d : Decision = decide st.version (folded st.set.config.kind records) m.command in
    record { number = length records + 1; epoch = epoch (entries st m.entity); producer = m.producer; place = m.number; command = m.command; events = d.events; reply = d.reply }

-- where the record's number is a multiple of `snapshot`: `snapshot`
abbrev pub snapshot_at : List ℕ → ℕ → Entities → List Move
snapshot_at e n st = if n % st.set.config.snapshot == 0 then told (fact.Snapshot e n) ∷ [] else []

-- where what was asked up to is at most half a window above the position: post Request up to a whole window above it, which is then asked up to
abbrev pub ask_more : Message → ℕ → Entities → List Move
ask_more m pos st =
    if nat_le (slice_index_or (cell st m.entity).reach (m.producer - 1) 0) (pos + st.set.config.window / 2)
    then post st.who m.origin (body.Request m.producer m.entity pos (pos + st.set.config.window)) ∷ []
    else []

-- the next number is written, unless the write fails: armed `lost`, the entity is gone before the record is written; armed `kept`, after it. Else a snapshot where one is due, Ack of the position, and Request where one is due; the position counts the new record
abbrev pub write : Message → Record → ℕ → Entities → Option Keep → List Move
write m r pos st (Some keep.Lost) = told (fact.WriteFailed st.who m.entity) ∷ []
write m r pos st (Some keep.Kept) = told (fact.Wrote m.entity r) ∷ told (fact.WriteFailed st.who m.entity) ∷ []
write m r pos st None = told (fact.Wrote m.entity r) ∷ snapshot_at m.entity r.number st ++ post st.who m.origin (body.Ack m.producer m.entity pos) ∷ ask_more m pos st

-- to an Active one, at the position of its producer. An old number: Ack of the position. One past the next: Resend from the next. The next one is written
abbrev pub deliver_at : Message → ℕ → List Record → Entities → List Move
deliver_at m pos records st =
    if nat_le m.number pos then post st.who m.origin (body.Ack m.producer m.entity pos) ∷ []
    else if nat_lt (pos + 1) m.number then post st.who m.origin (body.Resend m.producer m.entity (pos + 1)) ∷ []
    else write m (record_of m st records) (pos + 1) st (cell st m.entity).armed

abbrev pub deliver_by : Message → Entities → Phase → List Move
deliver_by m st phase.Absent = start_entity m.entity st ++ told (fact.Stashed st.who m) ∷ []
deliver_by m st phase.Active = let records : List Record = journal m.entity (entries st m.entity) in deliver_at m (position m.producer records) records st
deliver_by m st p = stash_message m st

-- Deliver. An entity that doesn't exist is started, and the message stashed; one that is Loading or Stopping stashes it
abbrev pub deliver : Message → Entities → List Move
deliver m st = deliver_by m st (cell st m.entity).phase

-- Recovery.

-- with remember, and not remembered: `remembered`
abbrev pub remember : List ℕ → Entities → List Move
remember e st = if st.set.config.remember && not (is_remembered e (entries st e)) then told (fact.Remembered e) ∷ [] else []

-- `active`, with the number of its records and the state that they fold to
abbrev pub activate : List ℕ → Entities → List Move
activate e st = let records : List Record = journal e (entries st e) in told (fact.Active st.who e (length records) (folded st.set.config.kind records)) ∷ remember e st

-- Recovered, Loading: it becomes Active; then its stash in order, each message by Deliver
abbrev pub recovered : List ℕ → Entities → List Move
recovered e st = if is_in_phase phase.Loading st e then in_turn entities_after (activate e) (for_each entities_after deliver (cell st e).stash) st else []

-- Stopping.

-- the order 'passivate' at its node, Active: post Passivate to the node itself
abbrev pub ask_to_passivate : List ℕ → Entities → List Move
ask_to_passivate e st = if is_in_phase phase.Active st e then post st.who st.who (body.Passivate e) ∷ [] else []

-- the order 'failwrite' at its node, Active: its next write fails, and so
abbrev pub arm : List ℕ → Keep → Entities → List Move
arm e k st = if is_in_phase phase.Active st e then told (fact.Armed e k) ∷ [] else []

-- Passivate, Active: it passivates and becomes Stopping; post StopEntity
abbrev pub passivate : List ℕ → Entities → List Move
passivate e st = if is_in_phase phase.Active st e then passivates e ∷ post st.who st.who (body.StopEntity e) ∷ [] else []

-- where the shard is Stopping and no entity of it is left: `freed`, and post ShardStopped with the kept stamp to the kept addressee
abbrev pub free_if_left : ℕ → Entities → List Move
free_if_left s st = where_some
    (λ k. if is_empty (entities_of st s) then told (fact.Freed (slot.Shard s) (epoch (entries_in (hosted st s))) cause.Released) ∷ post st.who k.to (body.ShardStopped s k.stamp) ∷ [] else [])
    (option_and_then (λ h. h.stopping) (hosted st s))

-- HandOff of a hosted shard: it is Stopping, with stamp and sender kept; StopEntity is posted for each of its entities, by name, and each becomes Stopping; where it has none it is freed
abbrev pub hand_off : ℕ → Stamp → Incarnation → Entities → List Move
hand_off s stamp from = in_turn entities_after (λ st. handed_off s stamp from ∷ map (λ e. post st.who st.who (body.StopEntity e)) (entities_of st s)) (free_if_left s)

-- where it was passivating and is remembered: `forgotten`
abbrev pub forget_passivated : List ℕ → Entities → List Move
forget_passivated e st = if (cell st e).passivating && is_remembered e (entries st e) then told (fact.Forgotten e) ∷ [] else []

-- each stashed message is dropped, in order
abbrev pub drop_stash : List ℕ → Entities → List Move
drop_stash e st = map (λ m. told (fact.Dropped st.who m)) (cell st e).stash

-- after the stop. Where the shard is Running and the stash isn't empty, the entity is started again with that stash. Where the shard is Stopping, the stash is dropped, and the shard is freed if this was its last entity
abbrev pub after_stop : List ℕ → Entities → List Move
after_stop e st =
    if is_running st (shard_of st.set e) then (if is_empty (cell st e).stash then [] else start_entity e st)
    else in_turn entities_after (drop_stash e) (free_if_left (shard_of st.set e)) st

-- StopEntity, Stopping: `stop`
abbrev pub stop : List ℕ → Entities → List Move
stop e st = if is_in_phase phase.Stopping st e then in_turn entities_after (λ st. told (fact.Stop st.who e) ∷ forget_passivated e st) (after_stop e) st else []

-- The tick.

abbrev pub remind_by : List ℕ → Entities → Phase → List Move
remind_by e st phase.Loading = post st.who st.who (body.Recovered e) ∷ []
remind_by e st phase.Stopping = post st.who st.who (body.StopEntity e) ∷ []
remind_by e st p = []

-- the entities' part of the tick: for each entity, by shard and name, Recovered again where it is Loading, and StopEntity again where it is Stopping
abbrev pub tick_entities : Entities → List Move
tick_entities st = flat_map (λ s. flat_map (λ e. remind_by e st (cell st e).phase) (entities_of st s)) (shards st.set)
