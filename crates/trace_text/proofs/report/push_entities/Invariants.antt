use Rattle.std.proofs.Common.{◌≡◌, ◌++◌, ◌-◌, ◌≤◌}
use Rattle.std.specs.List.{flat_map}
use Rattle.yard_model.specs.Words.{numbers}
use Rattle.yard_model.specs.Script.{setting}
use Rattle.yard_model.specs.Setting.{shards}
use Rattle.yard_model.specs.SlotLists.{shard_list}
use Rattle.trace_text.specs.Rows.{shard_rows}
use Rattle.trace_text.proofs.report.push_entities.Given as goal

abbrev pub invariant-loop-i : goal.invariant-loop-i
invariant-loop-i g l = record {
  parts : g.R.ReportRows.parts l.out ++ flat_map (λ s. shard_rows g.R.ReportRows.entity_parts (setting l.charter) s (shard_list (g.T.Lists.lists l.stores) s)) (numbers l.i (l.charter.config.shards - l.i)) ≡ g.R.ReportRows.parts l.fn.out ++ flat_map (λ s. shard_rows g.R.ReportRows.entity_parts (setting l.charter) s (shard_list (g.T.Lists.lists l.stores) s)) (shards (setting l.charter));
  within : l.i ≤ l.charter.config.shards;
}
