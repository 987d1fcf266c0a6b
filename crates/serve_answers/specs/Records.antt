-- The records of an entity in a shard's list, and the reply of one of them.
use Rattle.std.specs.Prelude.{◌≡◌, ℕ, List, [], ◌∷◌, drop, Some, if◌then◌else◌}
use Rattle.std.specs.List.{flat_map}
use Rattle.yard_model.specs.declared.entry.ShardEntry.{ShardEntry}
use Rattle.yard_model.specs.declared.entry.ShardEntry.TheVariants as shard
use Rattle.yard_model.specs.declared.event.Reply.{Reply}
use Rattle.yard_model.specs.declared.packet.Record.{Record}
use Rattle.yard_model.specs.Script.{is_name}
use Rattle.serve_laws.specs.Served.{reply_at}

-- the record of an entry, where it is one of this entity
abbrev pub record_in : List ℕ → ShardEntry → List Record
record_in e (shard.Wrote x r) = if is_name x e then r ∷ [] else []
record_in e f = []

-- the entity's records, in order
abbrev pub records_in : List ℕ → List ShardEntry → List Record
records_in e list = flat_map (record_in e) list

-- from some place of the list on, the first record that the producer's command of this number has, has this reply
abbrev pub IsReplyIn : ℕ → List ℕ → ℕ → List ShardEntry → Reply → Type 0
IsReplyIn p e n list r = (i : ℕ) × (reply_at p n (records_in e (drop i list)) ≡ Some r)
