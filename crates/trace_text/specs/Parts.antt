-- The report in parts, and the names that they want.
use Rattle.std.specs.Prelude.{◌≡◌, ◌<◌, ◌++◌, ◌∷◌, [], List, ℕ, map, codes, length, slice_index_or}
use Rattle.std.specs.List.Sorted.{IsStrictlySortedBy}
use Rattle.std.specs.Ordering.{nat_cmp}
use Rattle.std.specs.Cmp.Lexicographic.{slice_cmp}
use Rattle.yard_model.specs.Script.{Setting}
use Rattle.yard_model.specs.Setting.{shards, producers, names_of}
use Rattle.yard_model.specs.SlotLists.{SlotLists, shard_list, queue_list}
use Rattle.yard_model.specs.Text.{Bytes, line, entity_lines}
use Rattle.trace_text.specs.declared.parts.ReportNames.{ReportNames}
use Rattle.trace_text.specs.Rows.{shard_rows, queue_rows, tally_text}

-- the entities of a shard
abbrev pub shard_part : Setting → SlotLists → ℕ → Bytes
shard_part set lists s = shard_rows entity_lines set s (shard_list lists s)

-- the pairs of a queue
abbrev pub queue_part : Setting → SlotLists → ℕ → Bytes
queue_part set lists p = queue_rows tally_text p (queue_list lists p) set.names

-- its first line, a part for each shard, a part for each queue, its last line
abbrev pub report_parts : Setting → SlotLists → List Bytes
report_parts set lists = line (codes "report" ∷ []) ∷ (map (shard_part set lists) (shards set) ++ (map (queue_part set lists) (producers set) ++ (line (codes "end" ∷ []) ∷ [])))

abbrev pub report_part : Setting → SlotLists → ℕ → Bytes
report_part set lists k = slice_index_or (report_parts set lists) k []

-- a script's names: of each shard those that are its own, and all
pub record AreNames (set : Setting) (names : ReportNames) : Type 0 where
  pub own : (s : ℕ) → s < set.config.shards → slice_index_or (map (λ v. v.items) names.by_shard.items) s [] ≡ names_of set s
  pub sorted : (s : ℕ) → s < set.config.shards → IsStrictlySortedBy (slice_cmp nat_cmp) (slice_index_or (map (λ v. v.items) names.by_shard.items) s [])
  pub length : length names.by_shard.items ≡ set.config.shards
  pub all : names.all ≡ set.names
