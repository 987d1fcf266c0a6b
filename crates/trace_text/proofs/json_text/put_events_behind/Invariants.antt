use Rattle.std.proofs.Common.{◌≡◌, ◌+◌, ◌*◌, ◌≤◌, ◌++◌, drop, take}
use Rattle.std.specs.Prelude.{codes}
use Rattle.yard_model.specs.Text.{event_text}
use Rattle.trace_text.specs.Behind.{behind}
use Rattle.trace_text.proofs.json_text.put_events_behind.Given as goal

abbrev pub invariant-loop-event : goal.invariant-loop-event
invariant-loop-event l =
    (take l.end l.cells ++ behind (codes "\",\"") event_text (drop l.event-index l.events) ≡ take l.fn.at l.fn.cells ++ behind (codes "\",\"") event_text l.events)
    × (l.end ≤ l.fn.at + 39 * l.event-index)
