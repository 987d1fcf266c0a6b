-- Events, as they are printed, are the first and those behind it.
use Rattle.std.proofs.Common.{◌≡◌, List, [], ◌∷◌, ◌++◌, ap, append_assoc, sym, ◌∙◌, append-nil}
use Rattle.std.specs.Prelude.{codes}
use Rattle.yard_model.specs.declared.event.Event.{Event}
use Rattle.yard_model.specs.Text.{event_text, events_text}
use Rattle.fact_lines.specs.Behind.{events_behind}

pub first_and_others : (e : Event) (es : List Event) → events_text (e ∷ es) ≡ event_text e ++ events_behind es
first_and_others e [] = sym (append-nil (event_text e))
first_and_others e (f ∷ es) = append_assoc (event_text e) (codes ", ") (events_text (f ∷ es)) ∙ ap (λ l. event_text e ++ (codes ", " ++ l)) (first_and_others f es)
