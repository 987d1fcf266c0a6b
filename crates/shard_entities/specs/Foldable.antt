-- Records that lead to a state.
use Rattle.std.specs.Prelude.{Bool, true, ◌&&◌, List, [], ◌∷◌}
use Rattle.yard_model.specs.declared.packet.Record.{Record}
use Rattle.yard_model.specs.declared.state.State.{State}
use Rattle.yard_model.specs.Behaviour.{are_applicable, after_record}

-- the events of these records are applicable one after the other, from this state on
abbrev pub are_foldable : State → List Record → Bool
are_foldable st [] = true
are_foldable st (r ∷ rs) = are_applicable st r.events && are_foldable (after_record st r) rs
