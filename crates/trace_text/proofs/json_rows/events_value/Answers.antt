use Rattle.std.proofs.Common.{List, ap, arith, drop, get_or, ◌+◌}
use Rattle.std.specs.Prelude.{map}
use Rattle.std.proofs.lemmas.List.{drop_all, drop_more}
use Rattle.serde_json.specs.Data.{string}
use Rattle.yard_model.specs.declared.event.Event.{Event}
use Rattle.yard_model.specs.declared.event.Event.TheVariants.{Added}
use Rattle.yard_model.specs.Text.{event_text}
use Rattle.trace_text.proofs.JsonValues.{array_of_all, item_more}
use Rattle.trace_text.proofs.json_rows.events_value.Goals as goal

pub loop-event-preserved : goal.loop-event-preserved
loop-event-preserved c =
    let i = c.loop-event.event-index in
    let es = c.args.events.now in
    item_more c.loop-event.values.items c.push.new.self.items c.in_ok-event_value.field-0 (string (event_text (get_or es i (Added 0)))) (map (λ e. string (event_text e)) (drop i es))
    (map (λ e. string (event_text e)) (drop (i + 1) es)) (map (λ e. string (event_text e)) es) c.in_ok-push.ensures.items c.in_ok-event_value.ensures
    (ap (λ (l : List Event). map (λ e. string (event_text e)) l) (drop_more es i (Added 0) (omega arith))) c.loop-event.invariant

pub returns : goal.returns
returns c =
    array_of_all c.loop-event.values (map (λ e. string (event_text e)) (drop c.loop-event.event-index c.args.events.now)) (map (λ e. string (event_text e)) c.args.events.now) c.loop-event.invariant
    (ap (λ (l : List Event). map (λ e. string (event_text e)) l) (drop_all c.loop-event.event-index c.args.events.now (omega arith)))
