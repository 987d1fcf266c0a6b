-- The report as JSON: what its lines say, as objects whose members stand in the order of their keys.
use Rattle.std.specs.Prelude.{ℕ, ◌==◌, List, [], ◌∷◌, ◌++◌, map, codes, if◌then◌else◌}
use Rattle.std.specs.List.{flat_map}
use Rattle.serde_json.specs.Data.{Data, number, unsigned, string, array, object, no_members, member}
use Rattle.serde_json.specs.View.{items_of}
use Rattle.serde_json.specs.Written.{compact_text}
use Rattle.yard_model.specs.declared.event.Event.{Event}
use Rattle.yard_model.specs.declared.event.Kind.{Kind}
use Rattle.yard_model.specs.declared.packet.Record.{Record}
use Rattle.yard_model.specs.Behaviour.{folded}
use Rattle.yard_model.specs.Script.{Setting}
use Rattle.yard_model.specs.Setting.{shards, producers, shard_of, names_of}
use Rattle.yard_model.specs.SlotLists.{SlotLists, shard_list, queue_list}
use Rattle.yard_model.specs.SlotReads.{journal, queued, confirmed}
use Rattle.yard_model.specs.Text.{Bytes, command_text, event_text, reply_text, state_text}

abbrev pub number_json : ℕ → Data
number_json n = number (unsigned n)

abbrev pub list_json : List Data → Data
list_json ds = array (items_of ds)

abbrev pub events_json : List Event → Data
events_json es = list_json (map (λ e. string (event_text e)) es)

abbrev pub record_json : Record → Data
record_json r = object (
    member (codes "by") (list_json (number_json r.producer ∷ number_json r.place ∷ [])) (
    member (codes "command") (string (command_text r.command)) (
    member (codes "epoch") (number_json r.epoch) (
    member (codes "events") (events_json r.events) (
    member (codes "number") (number_json r.number) (
    member (codes "reply") (string (reply_text r.reply)) no_members))))))

-- an entity of shard s with these records
abbrev pub entity_value : Kind → ℕ → List ℕ → List Record → Data
entity_value k s e records = object (
    member (codes "name") (string e) (
    member (codes "records") (list_json (map record_json records)) (
    member (codes "shard") (number_json s) (
    member (codes "state") (string (state_text (folded k records))) no_members))))

-- an entity, where it has a record
abbrev pub entity_json : Setting → List ℕ → List Record → List Data
entity_json set e [] = []
entity_json set e (r ∷ rs) = entity_value set.config.kind (shard_of set e) e (r ∷ rs) ∷ []

-- a pair with so many commands queued, of which so many are confirmed
abbrev pub pair_value : ℕ → List ℕ → ℕ → ℕ → Data
pair_value p e queued confirmed = object (
    member (codes "confirmed") (number_json confirmed) (
    member (codes "entity") (string e) (
    member (codes "producer") (number_json p) (
    member (codes "queued") (number_json queued) no_members))))

-- a pair, where a command is queued
abbrev pub pair_json : ℕ → List ℕ → ℕ → ℕ → List Data
pair_json p e queued confirmed = if queued == 0 then [] else pair_value p e queued confirmed ∷ []

-- by shard and name
abbrev pub entities_json : Setting → SlotLists → List Data
entities_json set lists = flat_map (λ s. flat_map (λ e. entity_json set e (journal e (shard_list lists (shard_of set e)))) (names_of set s)) (shards set)

-- by producer and name
abbrev pub queues_json : Setting → SlotLists → List Data
queues_json set lists = flat_map (λ p. flat_map (λ e. pair_json p e (queued e (queue_list lists p)) (confirmed e (queue_list lists p))) set.names) (producers set)

-- the whole, of the values of entities and of pairs
abbrev pub whole_json : List Data → List Data → Data
whole_json entities queues = object (member (codes "entities") (list_json entities) (member (codes "queues") (list_json queues) no_members))

-- JsonReport: what the lists come to
abbrev pub json_report : Setting → SlotLists → Data
json_report set lists = whole_json (entities_json set lists) (queues_json set lists)

-- the compact text of the whole, and LF
abbrev pub whole_text : List Data → List Data → Bytes
whole_text entities queues = compact_text (whole_json entities queues) ++ 10 ∷ []

-- of what the lists come to
abbrev pub json_text : Setting → SlotLists → Bytes
json_text set lists = whole_text (entities_json set lists) (queues_json set lists)
