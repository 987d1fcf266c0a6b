use Rattle.std.proofs.Common.{◌≡◌, drop}
use Rattle.std.specs.Prelude.{IsTrue, fold}
use Rattle.yard_model.specs.Behaviour.{apply, are_applicable}
use Rattle.trace_text.proofs.entities.apply_events.Given as goal

abbrev pub invariant-loop-event : goal.invariant-loop-event
invariant-loop-event l = record {
  applicable : IsTrue (are_applicable l.state (drop l.event-index l.events));
  value : fold apply l.state (drop l.event-index l.events) ≡ fold apply l.fn.state l.events;
}
