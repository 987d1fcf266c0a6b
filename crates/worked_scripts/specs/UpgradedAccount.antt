use Rattle.std.specs.Prelude.{false, codes, List, [], ◌∷◌}
use Rattle.yard_model.specs.declared.event.Command.TheVariants as command
use Rattle.yard_model.specs.declared.event.Kind.TheVariants as kind
use Rattle.yard_model.specs.declared.charter.Order.TheVariants as order
use Rattle.yard_model.specs.Script.{Script}
use Rattle.yard_model.specs.Text.{Bytes}
use Rattle.worked_scripts.specs.Worked.{script_of}

-- A deposit with a memo is refused; while no node is up, behaviours are upgraded, and after that a withdrawal with a memo is taken.
abbrev pub script : Script
script = script_of (record { nodes = 1; shards = 1; producers = 1; buffer = 100; window = 50; snapshot = 100; keep = 2; remember = false; kind = kind.Account }) (
    (order.Up 1) ∷
    (order.Pump 9) ∷
    (order.Produce 1 1) ∷
    (order.Send 1 (codes "a") command.Create) ∷
    (order.Send 1 (codes "a") (command.Deposit 100)) ∷
    (order.Send 1 (codes "a") (command.DepositWithMemo 7 5)) ∷
    (order.Pump 40) ∷
    (order.Crash 1) ∷
    (order.Upgrade) ∷
    (order.Send 1 (codes "a") (command.WithdrawWithMemo 12 30)) ∷
    (order.Settle) ∷
    [])

abbrev pub printed : List Bytes
printed =
    codes "at 2" ∷
    codes "up 1.1" ∷
    codes "sent 1 1.1 1.1 view 1 1.1" ∷
    codes "at 3" ∷
    codes "got 1" ∷
    codes "view 1.1 1" ∷
    codes "granted coordinator 1 1.1" ∷
    codes "sent 2 1.1 1.1 register" ∷
    codes "got 2" ∷
    codes "registered 1.1" ∷
    codes "sent 3 1.1 1.1 registerack" ∷
    codes "got 3" ∷
    codes "at 4" ∷
    codes "granted queue:1 1 1.1" ∷
    codes "at 5" ∷
    codes "queued 1 a 1 create" ∷
    codes "kept 1.1 1 a 1" ∷
    codes "sent 4 1.1 1.1 getshardhome 0" ∷
    codes "at 6" ∷
    codes "queued 1 a 2 deposit 100" ∷
    codes "at 7" ∷
    codes "queued 1 a 3 deposit 5 7" ∷
    codes "at 8" ∷
    codes "got 4" ∷
    codes "allocated 0 1.1" ∷
    codes "sent 5 1.1 1.1 hostshard 0 1/0" ∷
    codes "sent 6 1.1 1.1 shardhome 0 1.1 1/0" ∷
    codes "got 5" ∷
    codes "home 1.1 0 1.1" ∷
    codes "granted shard:0 1 1.1" ∷
    codes "sent 7 1.1 1.1 shardstarted 0" ∷
    codes "start 1.1 a" ∷
    codes "sent 8 1.1 1.1 recovered a" ∷
    codes "stashed 1.1 1 a 1" ∷
    codes "got 6" ∷
    codes "got 7" ∷
    codes "got 8" ∷
    codes "active 1.1 a 0 none" ∷
    codes "wrote a 1 epoch 1 by 1:1 create / created / ok 0" ∷
    codes "sent 9 1.1 1.1 ack 1 a 1" ∷
    codes "sent 10 1.1 1.1 request 1 a 1 51" ∷
    codes "got 9" ∷
    codes "confirmed 1 a 1" ∷
    codes "wrote a 2 epoch 1 by 1:2 deposit 100 / deposited 100 / ok 100" ∷
    codes "sent 11 1.1 1.1 ack 1 a 2" ∷
    codes "got 10" ∷
    codes "wrote a 3 epoch 1 by 1:3 deposit 5 7 / - / no 6" ∷
    codes "sent 12 1.1 1.1 ack 1 a 3" ∷
    codes "got 11" ∷
    codes "confirmed 1 a 2" ∷
    codes "got 12" ∷
    codes "confirmed 1 a 3" ∷
    codes "at 9" ∷
    codes "gone 1.1" ∷
    codes "freed shard:0 1 stopped" ∷
    codes "freed coordinator 1 stopped" ∷
    codes "freed queue:1 1 stopped" ∷
    codes "at 10" ∷
    codes "upgrade 2" ∷
    codes "at 11" ∷
    codes "waits 1 a withdraw 30 12" ∷
    codes "at 12" ∷
    codes "up 1.2" ∷
    codes "sent 13 1.2 1.2 view 3 1.2" ∷
    codes "got 13" ∷
    codes "view 1.2 3" ∷
    codes "granted coordinator 2 1.2" ∷
    codes "terminated 1.1" ∷
    codes "sent 14 1.2 1.2 register" ∷
    codes "got 14" ∷
    codes "registered 1.2" ∷
    codes "sent 15 1.2 1.2 registerack" ∷
    codes "got 15" ∷
    codes "granted queue:1 2 1.2" ∷
    codes "queued 1 a 4 withdraw 30 12" ∷
    codes "kept 1.2 1 a 4" ∷
    codes "sent 16 1.2 1.2 getshardhome 0" ∷
    codes "got 16" ∷
    codes "allocated 0 1.2" ∷
    codes "sent 17 1.2 1.2 hostshard 0 2/0" ∷
    codes "sent 18 1.2 1.2 shardhome 0 1.2 2/0" ∷
    codes "got 17" ∷
    codes "home 1.2 0 1.2" ∷
    codes "granted shard:0 2 1.2" ∷
    codes "sent 19 1.2 1.2 shardstarted 0" ∷
    codes "start 1.2 a" ∷
    codes "sent 20 1.2 1.2 recovered a" ∷
    codes "stashed 1.2 1 a 4" ∷
    codes "got 18" ∷
    codes "got 19" ∷
    codes "got 20" ∷
    codes "active 1.2 a 3 open 100" ∷
    codes "wrote a 4 epoch 2 by 1:4 withdraw 30 12 / withdrawn 30 memo 12 / ok 70" ∷
    codes "sent 21 1.2 1.2 ack 1 a 4" ∷
    codes "sent 22 1.2 1.2 request 1 a 4 54" ∷
    codes "got 21" ∷
    codes "confirmed 1 a 4" ∷
    codes "got 22" ∷
    codes "gone 1.2" ∷
    codes "freed shard:0 2 stopped" ∷
    codes "freed coordinator 2 stopped" ∷
    codes "freed queue:1 2 stopped" ∷
    codes "settled" ∷
    codes "report" ∷
    codes "entity a shard 0 records 4 state open 70 memo 12" ∷
    codes "record 1 epoch 1 by 1:1 create / created / ok 0" ∷
    codes "record 2 epoch 1 by 1:2 deposit 100 / deposited 100 / ok 100" ∷
    codes "record 3 epoch 1 by 1:3 deposit 5 7 / - / no 6" ∷
    codes "record 4 epoch 2 by 1:4 withdraw 30 12 / withdrawn 30 memo 12 / ok 70" ∷
    codes "queue 1 a queued 4 confirmed 4" ∷
    codes "end" ∷
    []
