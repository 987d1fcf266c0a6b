use Rattle.std.proofs.Common.{◌≡◌, ◌≤◌, ◌+◌, ◌*◌, ◌-◌, length}
use Rattle.bulk_gen.specs.Bulk.{drawn, with_lines}
use Rattle.bulk_gen.proofs.rounds.push_drawn.Given as goal

abbrev pub invariant-loop : goal.invariant-loop
invariant-loop l = record {
  few : length l.lines.items ≤ length l.initial.lines.items + 2 * l.counter;
  lines : with_lines l.lines.items (drawn (l.fn.count - l.counter) l.rng) ≡ with_lines l.initial.lines.items (drawn l.fn.count l.initial.rng);
}
