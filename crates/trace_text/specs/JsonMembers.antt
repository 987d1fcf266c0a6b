-- The members of the report's objects, a few at a time: those of `Json`, each put where its key belongs.
use Rattle.std.specs.Prelude.{ℕ, List, [], ◌∷◌, map, codes}
use Rattle.serde_json.specs.Data.{Members, string, put}
use Rattle.yard_model.specs.declared.event.Kind.{Kind}
use Rattle.yard_model.specs.declared.packet.Record.{Record}
use Rattle.yard_model.specs.Behaviour.{folded}
use Rattle.yard_model.specs.Text.{command_text, reply_text, state_text}
use Rattle.trace_text.specs.Json.{number_json, list_json, events_json, record_json}

-- whose command a record answers, the command and its epoch
abbrev pub with_told : Record → Members → Members
with_told r ms =
    put (codes "epoch") (number_json r.epoch) (
    put (codes "command") (string (command_text r.command)) (
    put (codes "by") (list_json (number_json r.producer ∷ number_json r.place ∷ [])) ms))

-- its events, its number and its reply
abbrev pub with_answered : Record → Members → Members
with_answered r ms =
    put (codes "reply") (string (reply_text r.reply)) (
    put (codes "number") (number_json r.number) (
    put (codes "events") (events_json r.events) ms))

-- an entity's name and its journal
abbrev pub with_named : List ℕ → List Record → Members → Members
with_named e records ms = put (codes "records") (list_json (map record_json records)) (put (codes "name") (string e) ms)

-- its shard and its state
abbrev pub with_shown : Kind → ℕ → List Record → Members → Members
with_shown k s records ms = put (codes "state") (string (state_text (folded k records))) (put (codes "shard") (number_json s) ms)

-- a pair and its counts
abbrev pub with_pair : ℕ → List ℕ → ℕ → ℕ → Members → Members
with_pair p e queued confirmed ms =
    put (codes "queued") (number_json queued) (
    put (codes "producer") (number_json p) (
    put (codes "entity") (string e) (
    put (codes "confirmed") (number_json confirmed) ms)))
