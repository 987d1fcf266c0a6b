use Rattle.std.specs.Prelude.{false, codes, List, [], ◌∷◌}
use Rattle.yard_model.specs.declared.event.Kind.TheVariants as kind
use Rattle.yard_model.specs.declared.charter.Order.TheVariants as order
use Rattle.yard_model.specs.Script.{Script}
use Rattle.yard_model.specs.Text.{Bytes}
use Rattle.worked_scripts.specs.Worked.{script_of}

-- An acknowledgement is taken from any sender, and a tick registers with the oldest.
abbrev pub script : Script
script = script_of (record { nodes = 3; shards = 10; producers = 2; buffer = 100; window = 50; snapshot = 100; keep = 2; remember = false; kind = kind.Counter }) (
    (order.Up 2) ∷
    (order.Up 3) ∷
    (order.Pump 10) ∷
    (order.Crash 2) ∷
    (order.Pump 10) ∷
    (order.Deliver 9) ∷
    (order.Tick 3) ∷
    [])

abbrev pub printed : List Bytes
printed =
    codes "at 2" ∷
    codes "up 2.1" ∷
    codes "sent 1 2.1 2.1 view 1 2.1" ∷
    codes "at 3" ∷
    codes "up 3.1" ∷
    codes "sent 2 2.1 2.1 view 2 2.1,3.1" ∷
    codes "sent 3 3.1 3.1 view 2 2.1,3.1" ∷
    codes "at 4" ∷
    codes "got 1" ∷
    codes "view 2.1 1" ∷
    codes "granted coordinator 1 2.1" ∷
    codes "sent 4 2.1 2.1 register" ∷
    codes "got 2" ∷
    codes "view 2.1 2" ∷
    codes "sent 5 2.1 2.1 register" ∷
    codes "got 3" ∷
    codes "view 3.1 2" ∷
    codes "sent 6 3.1 2.1 register" ∷
    codes "got 4" ∷
    codes "registered 2.1" ∷
    codes "sent 7 2.1 2.1 registerack" ∷
    codes "got 5" ∷
    codes "sent 8 2.1 2.1 registerack" ∷
    codes "got 6" ∷
    codes "registered 3.1" ∷
    codes "sent 9 2.1 3.1 registerack" ∷
    codes "got 7" ∷
    codes "got 8" ∷
    codes "got 9" ∷
    codes "at 5" ∷
    codes "gone 2.1" ∷
    codes "freed coordinator 1 stopped" ∷
    codes "sent 10 3.1 3.1 view 3 3.1" ∷
    codes "at 6" ∷
    codes "got 10" ∷
    codes "view 3.1 3" ∷
    codes "granted coordinator 2 3.1" ∷
    codes "terminated 2.1" ∷
    codes "sent 11 3.1 3.1 register" ∷
    codes "got 11" ∷
    codes "sent 12 3.1 3.1 registerack" ∷
    codes "got 12" ∷
    codes "at 7" ∷
    codes "got 9" ∷
    codes "at 8" ∷
    codes "sent 13 3.1 3.1 register" ∷
    codes "report" ∷
    codes "end" ∷
    []
