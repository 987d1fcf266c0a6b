use Rattle.std.proofs.Common.{◌≡◌, ◌≤◌, ◌+◌, length, None}
use Rattle.std.specs.Str.Lines.{lines}
use Rattle.script_text.specs.Reading.{lines_read, IsWithin}
use Rattle.script_text.proofs.read.read_script.Given as goal

abbrev pub invariant-loop-cut : goal.invariant-loop-cut
invariant-loop-cut l = record {
  read : lines_read l.mode l.draft (l.number + 1) (lines l.rest) ≡ lines_read l.mode None 1 (lines l.bytes);
  within : IsWithin l.mode l.number l.draft;
  early : l.number ≤ 20000;
}

abbrev pub decreases-loop-cut : goal.decreases-loop-cut
decreases-loop-cut l = length l.rest
