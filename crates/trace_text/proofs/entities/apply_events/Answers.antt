use Rattle.std.proofs.Common.{◌≡◌, arith, drop, ◌+◌}
use Rattle.std.specs.Prelude.{IsTrue, fold}
use Rattle.yard_model.specs.declared.event.Event.TheVariants.{Added}
use Rattle.yard_model.specs.Behaviour.{apply, are_applicable}
use Rattle.trace_text.proofs.FoldLaws.{events_step}
use Rattle.trace_text.proofs.entities.apply_events.Goals as goal

pub loop-event-preserved : goal.loop-event-preserved
loop-event-preserved c =
    let step : IsTrue (are_applicable c.after.result (drop (c.loop-event.event-index + 1) c.args.events.now)) × (fold apply c.after.result (drop (c.loop-event.event-index + 1) c.args.events.now) ≡ fold apply c.args.state.now c.args.events.now)
    = events_step c.loop-event.state c.after.result c.args.state.now c.args.events.now c.loop-event.event-index (Added 0) (omega arith) c.loop-event.invariant.applicable c.loop-event.invariant.value c.after.ensures in
    record { applicable = step.0; value = step.1 }
