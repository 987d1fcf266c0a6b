-- The report as JSON, byte by byte: what stands of each entity and each pair, with a comma before it.
use Rattle.std.specs.Prelude.{ℕ, List, [], ◌∷◌, ◌++◌, codes, decimal}
use Rattle.serde_json.specs.Data.{Data}
use Rattle.serde_json.specs.Written.{compact_text}
use Rattle.yard_model.specs.declared.event.Event.{Event}
use Rattle.yard_model.specs.declared.event.Kind.{Kind}
use Rattle.yard_model.specs.declared.packet.Record.{Record}
use Rattle.yard_model.specs.declared.state.State.{State}
use Rattle.yard_model.specs.Behaviour.{folded}
use Rattle.yard_model.specs.Script.{Setting}
use Rattle.yard_model.specs.Text.{Bytes, command_text, event_text, reply_text, state_text}
use Rattle.trace_text.specs.declared.queues.Tally.{Tally}
use Rattle.trace_text.specs.Behind.{behind}
use Rattle.trace_text.specs.Json.{entity_json, pair_json}

-- values, each with a comma before it
abbrev pub values_text : List Data → Bytes
values_text ds = behind (44 ∷ []) compact_text ds

abbrev pub entity_values : Setting → List ℕ → List Record → Bytes
entity_values set e records = values_text (entity_json set e records)

abbrev pub pair_values : ℕ → List ℕ → Tally → Bytes
pair_values p e t = values_text (pair_json p e t.queued t.confirmed)

-- the texts of events, each in quotes
abbrev pub events_bytes : List Event → Bytes
events_bytes [] = codes "[]"
events_bytes (e ∷ es) = codes "[\"" ++ (event_text e ++ (behind (codes "\",\"") event_text es ++ codes "\"]"))

-- whose command it answers
abbrev pub by_bytes : Record → Bytes
by_bytes r = codes "{\"by\":[" ++ (decimal r.producer ++ 44 ∷ decimal r.place)

abbrev pub told_bytes : Record → Bytes
told_bytes r = codes "],\"command\":\"" ++ (command_text r.command ++ (codes "\",\"epoch\":" ++ decimal r.epoch))

abbrev pub answer_bytes : Record → Bytes
answer_bytes r = codes ",\"number\":" ++ (decimal r.number ++ (codes ",\"reply\":\"" ++ (reply_text r.reply ++ codes "\"}")))

abbrev pub record_bytes : Record → Bytes
record_bytes r = by_bytes r ++ (told_bytes r ++ (codes ",\"events\":" ++ (events_bytes r.events ++ answer_bytes r)))

-- an entity up to its first record
abbrev pub name_bytes : List ℕ → Bytes
name_bytes e = codes ",{\"name\":\"" ++ (e ++ codes "\",\"records\":[")

-- an entity behind its last record
abbrev pub state_bytes : ℕ → State → Bytes
state_bytes s st = codes "],\"shard\":" ++ (decimal s ++ (codes ",\"state\":\"" ++ (state_text st ++ codes "\"}")))

-- an entity with at least one record, and a comma before it
abbrev pub entity_bytes : Kind → ℕ → List ℕ → Record → List Record → Bytes
entity_bytes k s e r rs = name_bytes e ++ (record_bytes r ++ (behind (44 ∷ []) record_bytes rs ++ state_bytes s (folded k (r ∷ rs))))
