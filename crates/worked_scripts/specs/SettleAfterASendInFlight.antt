use Rattle.std.specs.Prelude.{false, codes, List, [], ◌∷◌}
use Rattle.yard_model.specs.declared.event.Command.TheVariants as command
use Rattle.yard_model.specs.declared.event.Kind.TheVariants as kind
use Rattle.yard_model.specs.declared.charter.Order.TheVariants as order
use Rattle.yard_model.specs.Script.{Script}
use Rattle.yard_model.specs.Text.{Bytes}
use Rattle.worked_scripts.specs.Worked.{script_of}

-- A settle of a command that was queued and never delivered.
abbrev pub script : Script
script = script_of (record { nodes = 3; shards = 1; producers = 2; buffer = 100; window = 50; snapshot = 100; keep = 2; remember = false; kind = kind.Counter }) (
    (order.Up 1) ∷
    (order.Produce 1 1) ∷
    (order.Send 1 (codes "a") (command.Add 1)) ∷
    (order.Settle) ∷
    [])

abbrev pub printed : List Bytes
printed =
    codes "at 2" ∷
    codes "up 1.1" ∷
    codes "sent 1 1.1 1.1 view 1 1.1" ∷
    codes "at 3" ∷
    codes "granted queue:1 1 1.1" ∷
    codes "at 4" ∷
    codes "queued 1 a 1 add 1" ∷
    codes "kept 1.1 1 a 1" ∷
    codes "at 5" ∷
    codes "gone 1.1" ∷
    codes "freed queue:1 1 stopped" ∷
    codes "up 1.2" ∷
    codes "sent 2 1.2 1.2 view 3 1.2" ∷
    codes "got 2" ∷
    codes "view 1.2 3" ∷
    codes "granted coordinator 1 1.2" ∷
    codes "sent 3 1.2 1.2 register" ∷
    codes "got 3" ∷
    codes "registered 1.2" ∷
    codes "sent 4 1.2 1.2 registerack" ∷
    codes "got 4" ∷
    codes "granted queue:1 2 1.2" ∷
    codes "granted queue:2 1 1.2" ∷
    codes "kept 1.2 1 a 1" ∷
    codes "sent 5 1.2 1.2 getshardhome 0" ∷
    codes "got 5" ∷
    codes "allocated 0 1.2" ∷
    codes "sent 6 1.2 1.2 hostshard 0 1/0" ∷
    codes "sent 7 1.2 1.2 shardhome 0 1.2 1/0" ∷
    codes "got 6" ∷
    codes "home 1.2 0 1.2" ∷
    codes "granted shard:0 1 1.2" ∷
    codes "sent 8 1.2 1.2 shardstarted 0" ∷
    codes "start 1.2 a" ∷
    codes "sent 9 1.2 1.2 recovered a" ∷
    codes "stashed 1.2 1 a 1" ∷
    codes "got 7" ∷
    codes "got 8" ∷
    codes "got 9" ∷
    codes "active 1.2 a 0 0" ∷
    codes "wrote a 1 epoch 1 by 1:1 add 1 / added 1 / ok 1" ∷
    codes "sent 10 1.2 1.2 ack 1 a 1" ∷
    codes "sent 11 1.2 1.2 request 1 a 1 51" ∷
    codes "got 10" ∷
    codes "confirmed 1 a 1" ∷
    codes "got 11" ∷
    codes "gone 1.2" ∷
    codes "freed shard:0 1 stopped" ∷
    codes "freed coordinator 1 stopped" ∷
    codes "freed queue:1 2 stopped" ∷
    codes "freed queue:2 1 stopped" ∷
    codes "settled" ∷
    codes "report" ∷
    codes "entity a shard 0 records 1 state 1" ∷
    codes "record 1 epoch 1 by 1:1 add 1 / added 1 / ok 1" ∷
    codes "queue 1 a queued 1 confirmed 1" ∷
    codes "end" ∷
    []
