use Rattle.std.proofs.Common.{◌≡◌, ◌++◌, ◌-◌, ◌+◌, ◌≤◌}
use Rattle.std.specs.List.{flat_map}
use Rattle.yard_model.specs.Words.{numbers}
use Rattle.yard_model.specs.Script.{setting}
use Rattle.yard_model.specs.Setting.{producers}
use Rattle.yard_model.specs.SlotLists.{queue_list}
use Rattle.trace_text.specs.Rows.{queue_rows}
use Rattle.trace_text.proofs.queues.push_each_queue.Given as goal

abbrev pub invariant-loop-i : goal.invariant-loop-i
invariant-loop-i g l = record {
  parts : g.R.ReportRows.parts l.out ++ flat_map (λ p. queue_rows g.R.ReportRows.pair_parts p (queue_list (g.T.Lists.lists l.stores) p) l.names) (numbers (l.i + 1) (l.charter.config.producers - l.i)) ≡ g.R.ReportRows.parts l.fn.out ++ flat_map (λ p. queue_rows g.R.ReportRows.pair_parts p (queue_list (g.T.Lists.lists l.stores) p) l.names) (producers (setting l.charter));
  within : l.i ≤ l.charter.config.producers;
}
