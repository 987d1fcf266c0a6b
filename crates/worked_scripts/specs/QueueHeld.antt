use Rattle.std.specs.Prelude.{false, codes, List, [], ◌∷◌}
use Rattle.yard_model.specs.declared.event.Kind.TheVariants as kind
use Rattle.yard_model.specs.declared.charter.Order.TheVariants as order
use Rattle.yard_model.specs.Script.{Script}
use Rattle.yard_model.specs.Text.{Bytes}
use Rattle.worked_scripts.specs.Worked.{script_of}

-- A queue that is held is not granted; one that is given back is.
abbrev pub script : Script
script = script_of (record { nodes = 3; shards = 1; producers = 2; buffer = 100; window = 50; snapshot = 100; keep = 2; remember = false; kind = kind.Counter }) (
    (order.Up 1) ∷
    (order.Up 2) ∷
    (order.Produce 1 1) ∷
    (order.Produce 1 2) ∷
    (order.Rest 1) ∷
    (order.Produce 1 2) ∷
    [])

abbrev pub printed : List Bytes
printed =
    codes "at 2" ∷
    codes "up 1.1" ∷
    codes "sent 1 1.1 1.1 view 1 1.1" ∷
    codes "at 3" ∷
    codes "up 2.1" ∷
    codes "sent 2 1.1 1.1 view 2 1.1,2.1" ∷
    codes "sent 3 2.1 2.1 view 2 1.1,2.1" ∷
    codes "at 4" ∷
    codes "granted queue:1 1 1.1" ∷
    codes "at 5" ∷
    codes "held queue:1 2.1 by 1" ∷
    codes "at 6" ∷
    codes "freed queue:1 1 released" ∷
    codes "at 7" ∷
    codes "granted queue:1 2 2.1" ∷
    codes "report" ∷
    codes "end" ∷
    []
