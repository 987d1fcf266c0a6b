use Rattle.std.specs.Prelude.{false, codes, List, [], ◌∷◌}
use Rattle.yard_model.specs.declared.event.Command.TheVariants as command
use Rattle.yard_model.specs.declared.event.Kind.TheVariants as kind
use Rattle.yard_model.specs.declared.charter.Order.TheVariants as order
use Rattle.yard_model.specs.Script.{Script}
use Rattle.yard_model.specs.Text.{Bytes}
use Rattle.worked_scripts.specs.Worked.{script_of}

-- A new region gets a shard, and then all is even.
abbrev pub script : Script
script = script_of (record { nodes = 3; shards = 2; producers = 2; buffer = 100; window = 2; snapshot = 100; keep = 2; remember = false; kind = kind.Counter }) (
    (order.Up 1) ∷
    (order.Pump 9) ∷
    (order.Produce 1 1) ∷
    (order.Send 1 (codes "Aa") (command.Add 1)) ∷
    (order.Send 1 (codes "a") (command.Add 2)) ∷
    (order.Pump 40) ∷
    (order.Up 2) ∷
    (order.Pump 9) ∷
    (order.Rebalance 1) ∷
    (order.Pump 40) ∷
    (order.Rebalance 1) ∷
    [])

abbrev pub printed : List Bytes
printed =
    codes "at 2" ∷
    codes "up 1.1" ∷
    codes "sent 1 1.1 1.1 view 1 1.1" ∷
    codes "at 3" ∷
    codes "got 1" ∷
    codes "view 1.1 1" ∷
    codes "granted coordinator 1 1.1" ∷
    codes "sent 2 1.1 1.1 register" ∷
    codes "got 2" ∷
    codes "registered 1.1" ∷
    codes "sent 3 1.1 1.1 registerack" ∷
    codes "got 3" ∷
    codes "at 4" ∷
    codes "granted queue:1 1 1.1" ∷
    codes "at 5" ∷
    codes "queued 1 Aa 1 add 1" ∷
    codes "kept 1.1 1 Aa 1" ∷
    codes "sent 4 1.1 1.1 getshardhome 0" ∷
    codes "at 6" ∷
    codes "queued 1 a 1 add 2" ∷
    codes "kept 1.1 1 a 1" ∷
    codes "sent 5 1.1 1.1 getshardhome 1" ∷
    codes "at 7" ∷
    codes "got 4" ∷
    codes "allocated 0 1.1" ∷
    codes "sent 6 1.1 1.1 hostshard 0 1/0" ∷
    codes "sent 7 1.1 1.1 shardhome 0 1.1 1/0" ∷
    codes "got 5" ∷
    codes "allocated 1 1.1" ∷
    codes "sent 8 1.1 1.1 hostshard 1 1/0" ∷
    codes "sent 9 1.1 1.1 shardhome 1 1.1 1/0" ∷
    codes "got 6" ∷
    codes "home 1.1 0 1.1" ∷
    codes "granted shard:0 1 1.1" ∷
    codes "sent 10 1.1 1.1 shardstarted 0" ∷
    codes "start 1.1 Aa" ∷
    codes "sent 11 1.1 1.1 recovered Aa" ∷
    codes "stashed 1.1 1 Aa 1" ∷
    codes "got 7" ∷
    codes "got 8" ∷
    codes "home 1.1 1 1.1" ∷
    codes "granted shard:1 1 1.1" ∷
    codes "sent 12 1.1 1.1 shardstarted 1" ∷
    codes "start 1.1 a" ∷
    codes "sent 13 1.1 1.1 recovered a" ∷
    codes "stashed 1.1 1 a 1" ∷
    codes "got 9" ∷
    codes "got 10" ∷
    codes "got 11" ∷
    codes "active 1.1 Aa 0 0" ∷
    codes "wrote Aa 1 epoch 1 by 1:1 add 1 / added 1 / ok 1" ∷
    codes "sent 14 1.1 1.1 ack 1 Aa 1" ∷
    codes "sent 15 1.1 1.1 request 1 Aa 1 3" ∷
    codes "got 12" ∷
    codes "got 13" ∷
    codes "active 1.1 a 0 0" ∷
    codes "wrote a 1 epoch 1 by 1:1 add 2 / added 2 / ok 2" ∷
    codes "sent 16 1.1 1.1 ack 1 a 1" ∷
    codes "sent 17 1.1 1.1 request 1 a 1 3" ∷
    codes "got 14" ∷
    codes "confirmed 1 Aa 1" ∷
    codes "got 15" ∷
    codes "got 16" ∷
    codes "confirmed 1 a 1" ∷
    codes "got 17" ∷
    codes "at 8" ∷
    codes "up 2.1" ∷
    codes "sent 18 1.1 1.1 view 2 1.1,2.1" ∷
    codes "sent 19 2.1 2.1 view 2 1.1,2.1" ∷
    codes "at 9" ∷
    codes "got 18" ∷
    codes "view 1.1 2" ∷
    codes "got 19" ∷
    codes "view 2.1 2" ∷
    codes "sent 20 2.1 1.1 register" ∷
    codes "got 20" ∷
    codes "registered 2.1" ∷
    codes "sent 21 1.1 2.1 registerack" ∷
    codes "got 21" ∷
    codes "at 10" ∷
    codes "moving 0 1/1" ∷
    codes "sent 22 1.1 1.1 beginhandoff 0 1/1" ∷
    codes "sent 23 1.1 2.1 beginhandoff 0 1/1" ∷
    codes "at 11" ∷
    codes "got 22" ∷
    codes "forget 1.1 0" ∷
    codes "sent 24 1.1 1.1 beginhandoffack 0 1/1" ∷
    codes "got 23" ∷
    codes "sent 25 2.1 1.1 beginhandoffack 0 1/1" ∷
    codes "got 24" ∷
    codes "got 25" ∷
    codes "sent 26 1.1 1.1 handoff 0 1/1" ∷
    codes "got 26" ∷
    codes "sent 27 1.1 1.1 stopentity Aa" ∷
    codes "got 27" ∷
    codes "stop 1.1 Aa" ∷
    codes "freed shard:0 1 released" ∷
    codes "sent 28 1.1 1.1 shardstopped 0 1/1" ∷
    codes "got 28" ∷
    codes "deallocated 0" ∷
    codes "allocated 0 2.1" ∷
    codes "sent 29 1.1 2.1 hostshard 0 1/1" ∷
    codes "got 29" ∷
    codes "home 2.1 0 2.1" ∷
    codes "granted shard:0 2 2.1" ∷
    codes "sent 30 2.1 1.1 shardstarted 0" ∷
    codes "got 30" ∷
    codes "at 12" ∷
    codes "nothing" ∷
    codes "report" ∷
    codes "entity Aa shard 0 records 1 state 1" ∷
    codes "record 1 epoch 1 by 1:1 add 1 / added 1 / ok 1" ∷
    codes "entity a shard 1 records 1 state 2" ∷
    codes "record 1 epoch 1 by 1:1 add 2 / added 2 / ok 2" ∷
    codes "queue 1 Aa queued 1 confirmed 1" ∷
    codes "queue 1 a queued 1 confirmed 1" ∷
    codes "end" ∷
    []
