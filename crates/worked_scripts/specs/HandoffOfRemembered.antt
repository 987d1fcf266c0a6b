use Rattle.std.specs.Prelude.{true, codes, List, [], ◌∷◌}
use Rattle.yard_model.specs.declared.event.Command.TheVariants as command
use Rattle.yard_model.specs.declared.event.Kind.TheVariants as kind
use Rattle.yard_model.specs.declared.charter.Order.TheVariants as order
use Rattle.yard_model.specs.Script.{Script}
use Rattle.yard_model.specs.Text.{Bytes}
use Rattle.worked_scripts.specs.Worked.{script_of}

-- The same, where entities are remembered.
abbrev pub script : Script
script = script_of (record { nodes = 3; shards = 1; producers = 2; buffer = 100; window = 4; snapshot = 100; keep = 2; remember = true; kind = kind.Counter }) (
    (order.Up 1) ∷
    (order.Pump 9) ∷
    (order.Up 2) ∷
    (order.Pump 9) ∷
    (order.Produce 1 2) ∷
    (order.Send 1 (codes "c1") (command.Add 5)) ∷
    (order.Pump 9) ∷
    (order.Leave 1) ∷
    (order.Deliver 16) ∷
    (order.Send 1 (codes "c1") (command.Add 1)) ∷
    (order.Deliver 17) ∷
    (order.Deliver 19) ∷
    (order.Deliver 21) ∷
    (order.Pump 30) ∷
    (order.Tick 1) ∷
    (order.Pump 30) ∷
    [])

abbrev pub printed : List Bytes
printed =
    codes "at 2" ∷
    codes "up 1.1" ∷
    codes "sent 1 1.1 1.1 view 1 1.1" ∷
    codes "at 3" ∷
    codes "got 1" ∷
    codes "view 1.1 1" ∷
    codes "granted coordinator 1 1.1" ∷
    codes "sent 2 1.1 1.1 register" ∷
    codes "got 2" ∷
    codes "registered 1.1" ∷
    codes "sent 3 1.1 1.1 registerack" ∷
    codes "got 3" ∷
    codes "at 4" ∷
    codes "up 2.1" ∷
    codes "sent 4 1.1 1.1 view 2 1.1,2.1" ∷
    codes "sent 5 2.1 2.1 view 2 1.1,2.1" ∷
    codes "at 5" ∷
    codes "got 4" ∷
    codes "view 1.1 2" ∷
    codes "got 5" ∷
    codes "view 2.1 2" ∷
    codes "sent 6 2.1 1.1 register" ∷
    codes "got 6" ∷
    codes "registered 2.1" ∷
    codes "sent 7 1.1 2.1 registerack" ∷
    codes "got 7" ∷
    codes "at 6" ∷
    codes "granted queue:1 1 2.1" ∷
    codes "at 7" ∷
    codes "queued 1 c1 1 add 5" ∷
    codes "kept 2.1 1 c1 1" ∷
    codes "sent 8 2.1 1.1 getshardhome 0" ∷
    codes "at 8" ∷
    codes "got 8" ∷
    codes "allocated 0 1.1" ∷
    codes "sent 9 1.1 1.1 hostshard 0 1/0" ∷
    codes "sent 10 1.1 2.1 shardhome 0 1.1 1/0" ∷
    codes "got 9" ∷
    codes "home 1.1 0 1.1" ∷
    codes "granted shard:0 1 1.1" ∷
    codes "sent 11 1.1 1.1 shardstarted 0" ∷
    codes "got 10" ∷
    codes "home 2.1 0 1.1" ∷
    codes "sent 12 2.1 1.1 sequenced 1 c1 1 2.1 add 5" ∷
    codes "got 11" ∷
    codes "got 12" ∷
    codes "start 1.1 c1" ∷
    codes "sent 13 1.1 1.1 recovered c1" ∷
    codes "stashed 1.1 1 c1 1" ∷
    codes "got 13" ∷
    codes "active 1.1 c1 0 0" ∷
    codes "remembered c1" ∷
    codes "wrote c1 1 epoch 1 by 1:1 add 5 / added 5 / ok 5" ∷
    codes "sent 14 1.1 2.1 ack 1 c1 1" ∷
    codes "sent 15 1.1 2.1 request 1 c1 1 5" ∷
    codes "got 14" ∷
    codes "confirmed 1 c1 1" ∷
    codes "got 15" ∷
    codes "at 9" ∷
    codes "sent 16 1.1 1.1 gracefulshutdownreq" ∷
    codes "at 10" ∷
    codes "got 16" ∷
    codes "moving 0 1/1" ∷
    codes "sent 17 1.1 1.1 beginhandoff 0 1/1" ∷
    codes "sent 18 1.1 2.1 beginhandoff 0 1/1" ∷
    codes "at 11" ∷
    codes "queued 1 c1 2 add 1" ∷
    codes "sent 19 2.1 1.1 sequenced 1 c1 2 2.1 add 1" ∷
    codes "at 12" ∷
    codes "got 17" ∷
    codes "forget 1.1 0" ∷
    codes "sent 20 1.1 1.1 beginhandoffack 0 1/1" ∷
    codes "at 13" ∷
    codes "got 19" ∷
    codes "kept 1.1 1 c1 2" ∷
    codes "sent 21 1.1 1.1 getshardhome 0" ∷
    codes "at 14" ∷
    codes "got 21" ∷
    codes "at 15" ∷
    codes "got 18" ∷
    codes "forget 2.1 0" ∷
    codes "sent 22 2.1 1.1 beginhandoffack 0 1/1" ∷
    codes "got 20" ∷
    codes "got 22" ∷
    codes "sent 23 1.1 1.1 handoff 0 1/1" ∷
    codes "got 23" ∷
    codes "sent 24 1.1 1.1 stopentity c1" ∷
    codes "got 24" ∷
    codes "stop 1.1 c1" ∷
    codes "freed shard:0 1 released" ∷
    codes "sent 25 1.1 1.1 shardstopped 0 1/1" ∷
    codes "got 25" ∷
    codes "deallocated 0" ∷
    codes "allocated 0 2.1" ∷
    codes "sent 26 1.1 2.1 hostshard 0 1/1" ∷
    codes "got 26" ∷
    codes "home 2.1 0 2.1" ∷
    codes "granted shard:0 2 2.1" ∷
    codes "start 2.1 c1" ∷
    codes "sent 27 2.1 2.1 recovered c1" ∷
    codes "sent 28 2.1 1.1 shardstarted 0" ∷
    codes "got 27" ∷
    codes "active 2.1 c1 1 5" ∷
    codes "got 28" ∷
    codes "at 16" ∷
    codes "sent 29 1.1 1.1 getshardhome 0" ∷
    codes "at 17" ∷
    codes "got 29" ∷
    codes "sent 30 1.1 1.1 shardhome 0 2.1 1/1" ∷
    codes "got 30" ∷
    codes "home 1.1 0 2.1" ∷
    codes "sent 31 1.1 2.1 sequenced 1 c1 2 2.1 add 1" ∷
    codes "got 31" ∷
    codes "wrote c1 2 epoch 2 by 1:2 add 1 / added 1 / ok 6" ∷
    codes "sent 32 2.1 2.1 ack 1 c1 2" ∷
    codes "sent 33 2.1 2.1 request 1 c1 2 6" ∷
    codes "got 32" ∷
    codes "confirmed 1 c1 2" ∷
    codes "got 33" ∷
    codes "report" ∷
    codes "entity c1 shard 0 records 2 state 6" ∷
    codes "record 1 epoch 1 by 1:1 add 5 / added 5 / ok 5" ∷
    codes "record 2 epoch 2 by 1:2 add 1 / added 1 / ok 6" ∷
    codes "queue 1 c1 queued 2 confirmed 2" ∷
    codes "end" ∷
    []
