use Rattle.std.specs.Prelude.{false, codes, List, [], ◌∷◌}
use Rattle.yard_model.specs.declared.event.Command.TheVariants as command
use Rattle.yard_model.specs.declared.event.Kind.TheVariants as kind
use Rattle.yard_model.specs.declared.charter.Order.TheVariants as order
use Rattle.yard_model.specs.Script.{Script}
use Rattle.yard_model.specs.Text.{Bytes}
use Rattle.worked_scripts.specs.Worked.{script_of}

-- Alone, with two names of one hash: a gap and a repeat are not recorded.
abbrev pub script : Script
script = script_of (record { nodes = 3; shards = 10; producers = 2; buffer = 100; window = 50; snapshot = 100; keep = 2; remember = false; kind = kind.Counter }) (
    (order.Send 1 (codes "Aa") (command.Add 1)) ∷
    (order.Send 1 (codes "BB") (command.Add 2)) ∷
    (order.Send 1 (codes "Aa") (command.Add 3)) ∷
    (order.Deliver 3) ∷
    (order.Deliver 1) ∷
    (order.Deliver 2) ∷
    (order.Deliver 3) ∷
    (order.Deliver 1) ∷
    [])

abbrev pub printed : List Bytes
printed =
    codes "report" ∷
    codes "entity Aa shard 2 records 2 state 4" ∷
    codes "record 1 epoch 1 by 1:1 add 1 / added 1 / ok 1" ∷
    codes "record 2 epoch 1 by 1:2 add 3 / added 3 / ok 4" ∷
    codes "entity BB shard 2 records 1 state 2" ∷
    codes "record 1 epoch 1 by 1:1 add 2 / added 2 / ok 2" ∷
    codes "end" ∷
    []
