use Rattle.std.proofs.Common.{◌≡◌, ◌+◌, ◌*◌, ◌≤◌, ◌++◌, ◌∷◌, [], drop, take}
use Rattle.std.specs.Fmt.{decimal}
use Rattle.yard_model.specs.Text.{incarnation_text}
use Rattle.trace_text.specs.Behind.{behind}
use Rattle.trace_text.proofs.bodies.put_members_behind.Given as goal

abbrev pub invariant-loop-place : goal.invariant-loop-place
invariant-loop-place l =
    (take l.end l.cells ++ behind (44 ∷ []) incarnation_text (drop l.place l.members) ≡ take l.fn.at l.fn.cells ++ behind (44 ∷ []) incarnation_text (drop 1 l.members))
    × (l.end + 14 ≤ l.fn.at + 14 * l.place)
    × (take l.known.len l.known.digits ≡ decimal l.known.number) × (l.known.len ≤ 4)
