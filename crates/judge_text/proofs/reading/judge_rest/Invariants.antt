use Rattle.std.proofs.Common.{◌<◌, ◌≤◌, vec_len, []}
use Rattle.judge_text.specs.Reads.{GoesOn}
use Rattle.judge_text.proofs.reading.judge_rest.Given as goal

abbrev pub invariant-loop : goal.invariant-loop
invariant-loop g l = record {
  goes : GoesOn (record { script = l.charter; trace = []; lines = 0 }) l.first l.hearing l.window.items (g.S.Source.left l.initial.source) (g.S.Source.left l.source);
  faults : g.S.Source.faults l.initial.source ≤ g.S.Source.faults l.source;
  room : 0 < vec_len l.piece;
}
