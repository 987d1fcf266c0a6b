use Rattle.std.proofs.Common.{◌++◌, ap, ◌∙◌, List, take}
use Rattle.std.specs.Prelude.{codes}
use Rattle.yard_model.specs.declared.event.Event.{Event}
use Rattle.trace_text.specs.JsonText.{answer_bytes, by_bytes, events_bytes, told_bytes}
use Rattle.trace_text.proofs.JsonLaws.{five_parts}
use Rattle.trace_text.proofs.json_text.put_record_value.Goals as goal

pub returns-clause-items : goal.returns-clause-items
returns-clause-items c =
    five_parts (by_bytes c.args.written.now) (told_bytes c.args.written.now) (codes ",\"events\":") (events_bytes c.args.written.now.events) (answer_bytes c.args.written.now) _ _ _ _ _ _
    c.put_by-at.ensures.items c.put_told-at.ensures.items c.put_word-at.ensures.items
    (c.put_event_values-at.ensures.items ∙ ap (λ (es : List Event). take c.put_word-at.result c.put_word-at.new.cells ++ events_bytes es) c.as_slice.ensures.items)
    c.put_answer.ensures.items
