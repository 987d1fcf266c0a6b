use Rattle.std.proofs.Common.{◌≡◌, ◌≤◌, ◌+◌, ◌-◌, length}
use Rattle.std.specs.Prelude.{[], ◌∷◌}
use Rattle.state_lines.specs.States.{items_on}
use Rattle.state_lines.proofs.states.items_on.Given as goal

abbrev pub invariant-loop : goal.invariant-loop
invariant-loop l = record {
  few : length l.items ≤ l.counter + 1;
  rest : items_on (15 - l.counter) (l.items, l.rest) ≡ items_on 15 (l.fn.first ∷ [], l.fn.line);
}
