-- Events behind the first, each with its comma.
use Rattle.std.specs.Prelude.{ℕ, List, [], ◌∷◌, ◌++◌, codes}
use Rattle.yard_model.specs.declared.event.Event.{Event}
use Rattle.yard_model.specs.Text.{event_text}

abbrev pub events_behind : List Event → List ℕ
events_behind [] = []
events_behind (e ∷ es) = (codes ", " ++ event_text e) ++ events_behind es
