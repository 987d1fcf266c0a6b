use Rattle.std.specs.Prelude.{false, codes, List, [], ◌∷◌}
use Rattle.yard_model.specs.declared.event.Command.TheVariants as command
use Rattle.yard_model.specs.declared.event.Kind.TheVariants as kind
use Rattle.yard_model.specs.declared.charter.Order.TheVariants as order
use Rattle.yard_model.specs.Script.{Script}
use Rattle.yard_model.specs.Text.{Bytes}
use Rattle.worked_scripts.specs.Worked.{script_of}

-- Alone, one send that is delivered is recorded.
abbrev pub script : Script
script = script_of (record { nodes = 3; shards = 1; producers = 2; buffer = 100; window = 50; snapshot = 100; keep = 2; remember = false; kind = kind.Counter }) (
    (order.Send 1 (codes "c1") (command.Add 5)) ∷
    (order.Deliver 1) ∷
    [])

abbrev pub printed : List Bytes
printed =
    codes "report" ∷
    codes "entity c1 shard 0 records 1 state 5" ∷
    codes "record 1 epoch 1 by 1:1 add 5 / added 5 / ok 5" ∷
    codes "end" ∷
    []
