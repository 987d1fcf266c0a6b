use Rattle.std.proofs.Common.{◌≡◌, ◌++◌, drop}
use Rattle.fact_lines.specs.Behind.{events_behind}
use Rattle.fact_lines.proofs.values.push_events_behind.Given as goal

abbrev pub invariant-loop-event : goal.invariant-loop-event
invariant-loop-event l = (l.text.items ++ events_behind (drop l.event-index l.events) ≡ l.fn.text.items ++ events_behind l.events)
