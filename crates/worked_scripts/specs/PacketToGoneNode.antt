use Rattle.std.specs.Prelude.{false, codes, List, [], ◌∷◌}
use Rattle.yard_model.specs.declared.event.Kind.TheVariants as kind
use Rattle.yard_model.specs.declared.charter.Order.TheVariants as order
use Rattle.yard_model.specs.Script.{Script}
use Rattle.yard_model.specs.Text.{Bytes}
use Rattle.worked_scripts.specs.Worked.{script_of}

-- A packet to an incarnation that is gone is lost.
abbrev pub script : Script
script = script_of (record { nodes = 3; shards = 10; producers = 2; buffer = 100; window = 50; snapshot = 100; keep = 2; remember = false; kind = kind.Counter }) (
    (order.Up 1) ∷
    (order.Crash 1) ∷
    (order.Up 1) ∷
    (order.Deliver 1) ∷
    [])

abbrev pub printed : List Bytes
printed =
    codes "at 2" ∷
    codes "up 1.1" ∷
    codes "sent 1 1.1 1.1 view 1 1.1" ∷
    codes "at 3" ∷
    codes "gone 1.1" ∷
    codes "at 4" ∷
    codes "up 1.2" ∷
    codes "sent 2 1.2 1.2 view 3 1.2" ∷
    codes "at 5" ∷
    codes "got 1" ∷
    codes "report" ∷
    codes "end" ∷
    []
