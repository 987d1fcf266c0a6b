use Rattle.std.specs.Prelude.{false, codes, List, [], ◌∷◌}
use Rattle.yard_model.specs.declared.event.Command.TheVariants as command
use Rattle.yard_model.specs.declared.event.Kind.TheVariants as kind
use Rattle.yard_model.specs.declared.charter.Order.TheVariants as order
use Rattle.yard_model.specs.Script.{Script}
use Rattle.yard_model.specs.Text.{Bytes}
use Rattle.worked_scripts.specs.Worked.{script_of}

-- Alone, nine commands to an account.
abbrev pub script : Script
script = script_of (record { nodes = 3; shards = 1; producers = 2; buffer = 100; window = 50; snapshot = 100; keep = 2; remember = false; kind = kind.Account }) (
    (order.Send 1 (codes "a") (command.Deposit 5)) ∷
    (order.Send 1 (codes "a") command.Create) ∷
    (order.Send 1 (codes "a") (command.Deposit 100)) ∷
    (order.Send 1 (codes "a") (command.Withdraw 150)) ∷
    (order.Send 1 (codes "a") command.Close) ∷
    (order.Send 1 (codes "a") (command.Withdraw 100)) ∷
    (order.Send 1 (codes "a") command.Close) ∷
    (order.Send 1 (codes "a") command.Balance) ∷
    (order.Send 1 (codes "a") command.Create) ∷
    (order.Deliver 1) ∷
    (order.Deliver 2) ∷
    (order.Deliver 3) ∷
    (order.Deliver 4) ∷
    (order.Deliver 5) ∷
    (order.Deliver 6) ∷
    (order.Deliver 7) ∷
    (order.Deliver 8) ∷
    (order.Deliver 9) ∷
    [])

abbrev pub printed : List Bytes
printed =
    codes "report" ∷
    codes "entity a shard 0 records 9 state closed" ∷
    codes "record 1 epoch 1 by 1:1 deposit 5 / - / no 1" ∷
    codes "record 2 epoch 1 by 1:2 create / created / ok 0" ∷
    codes "record 3 epoch 1 by 1:3 deposit 100 / deposited 100 / ok 100" ∷
    codes "record 4 epoch 1 by 1:4 withdraw 150 / - / no 3" ∷
    codes "record 5 epoch 1 by 1:5 close / - / no 4" ∷
    codes "record 6 epoch 1 by 1:6 withdraw 100 / withdrawn 100 / ok 0" ∷
    codes "record 7 epoch 1 by 1:7 close / closed / ok 0" ∷
    codes "record 8 epoch 1 by 1:8 balance / - / no 1" ∷
    codes "record 9 epoch 1 by 1:9 create / - / no 2" ∷
    codes "end" ∷
    []
