use Rattle.std.proofs.Common.{◌≡◌, ◌≤◌, ◌++◌, drop, length}
use Rattle.yard_model.specs.Script.{setting}
use Rattle.yard_model.specs.Text.{report}
use Rattle.trace_text.specs.Grown.{Begins}
use Rattle.trace_text.specs.Parts.{report_parts}
use Rattle.trace_text.proofs.PartLaws.{together}
use Rattle.trace_text.proofs.report.push_parts.Given as goal

abbrev pub invariant-loop-k : goal.invariant-loop-k
invariant-loop-k g l = record {
  left : l.text.items ++ together (drop l.k (report_parts (setting l.charter) (g.T.Lists.lists l.stores))) ≡ l.fn.text.items ++ report (setting l.charter) (g.T.Lists.lists l.stores);
  within : l.k ≤ length (report_parts (setting l.charter) (g.T.Lists.lists l.stores));
  begins : Begins l.fn.text.items l.text.items;
}
