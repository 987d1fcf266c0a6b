use Rattle.std.proofs.Common.{◌≤◌, ◌-◌, length}
use Rattle.script_text.specs.Words.{ArePrintable}
use Rattle.script_text.proofs.cut.last_stop.Given as goal

abbrev pub invariant-loop-at : goal.invariant-loop-at
invariant-loop-at l = record {
  before : ArePrintable l.bytes l.at;
  within : l.at ≤ length l.bytes;
}

abbrev pub decreases-loop-at : goal.decreases-loop-at
decreases-loop-at l = length l.bytes - l.at
