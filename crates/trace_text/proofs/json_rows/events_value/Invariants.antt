use Rattle.std.proofs.Common.{◌≡◌, ◌++◌, drop}
use Rattle.std.specs.Prelude.{map}
use Rattle.serde_json.specs.Data.{string}
use Rattle.serde_json.specs.View.{view}
use Rattle.yard_model.specs.Text.{event_text}
use Rattle.trace_text.proofs.json_rows.events_value.Given as goal

abbrev pub invariant-loop-event : goal.invariant-loop-event
invariant-loop-event l = map view l.values.items ++ map (λ e. string (event_text e)) (drop l.event-index l.events) ≡ map (λ e. string (event_text e)) l.events
