use Rattle.std.specs.Prelude.{false, codes, List, [], ◌∷◌}
use Rattle.yard_model.specs.declared.event.Command.TheVariants as command
use Rattle.yard_model.specs.declared.event.Kind.TheVariants as kind
use Rattle.yard_model.specs.declared.charter.Order.TheVariants as order
use Rattle.yard_model.specs.Script.{Script}
use Rattle.yard_model.specs.Text.{Bytes}
use Rattle.worked_scripts.specs.Worked.{script_of}

-- A shard that is stopping is handed off again, by the next coordinator: stamp and addressee are the new ones.
abbrev pub script : Script
script = script_of (record { nodes = 3; shards = 1; producers = 2; buffer = 100; window = 4; snapshot = 100; keep = 2; remember = false; kind = kind.Counter }) (
    (order.Up 1) ∷
    (order.Up 2) ∷
    (order.Up 3) ∷
    (order.Pump 40) ∷
    (order.Leave 1) ∷
    (order.Produce 1 3) ∷
    (order.Send 1 (codes "c1") (command.Add 5)) ∷
    (order.Pump 40) ∷
    (order.Leave 2) ∷
    (order.Pump 5) ∷
    (order.Pump 2) ∷
    (order.Deliver 35) ∷
    (order.Crash 1) ∷
    (order.Deliver 37) ∷
    (order.Leave 2) ∷
    (order.Deliver 40) ∷
    (order.Deliver 41) ∷
    (order.Deliver 42) ∷
    (order.Deliver 43) ∷
    (order.Deliver 44) ∷
    (order.Deliver 45) ∷
    (order.Deliver 36) ∷
    (order.Deliver 46) ∷
    [])

abbrev pub printed : List Bytes
printed =
    codes "at 2" ∷
    codes "up 1.1" ∷
    codes "sent 1 1.1 1.1 view 1 1.1" ∷
    codes "at 3" ∷
    codes "up 2.1" ∷
    codes "sent 2 1.1 1.1 view 2 1.1,2.1" ∷
    codes "sent 3 2.1 2.1 view 2 1.1,2.1" ∷
    codes "at 4" ∷
    codes "up 3.1" ∷
    codes "sent 4 1.1 1.1 view 3 1.1,2.1,3.1" ∷
    codes "sent 5 2.1 2.1 view 3 1.1,2.1,3.1" ∷
    codes "sent 6 3.1 3.1 view 3 1.1,2.1,3.1" ∷
    codes "at 5" ∷
    codes "got 1" ∷
    codes "view 1.1 1" ∷
    codes "granted coordinator 1 1.1" ∷
    codes "sent 7 1.1 1.1 register" ∷
    codes "got 2" ∷
    codes "view 1.1 2" ∷
    codes "sent 8 1.1 1.1 register" ∷
    codes "got 3" ∷
    codes "view 2.1 2" ∷
    codes "sent 9 2.1 1.1 register" ∷
    codes "got 4" ∷
    codes "view 1.1 3" ∷
    codes "sent 10 1.1 1.1 register" ∷
    codes "got 5" ∷
    codes "view 2.1 3" ∷
    codes "sent 11 2.1 1.1 register" ∷
    codes "got 6" ∷
    codes "view 3.1 3" ∷
    codes "sent 12 3.1 1.1 register" ∷
    codes "got 7" ∷
    codes "registered 1.1" ∷
    codes "sent 13 1.1 1.1 registerack" ∷
    codes "got 8" ∷
    codes "sent 14 1.1 1.1 registerack" ∷
    codes "got 9" ∷
    codes "registered 2.1" ∷
    codes "sent 15 1.1 2.1 registerack" ∷
    codes "got 10" ∷
    codes "sent 16 1.1 1.1 registerack" ∷
    codes "got 11" ∷
    codes "sent 17 1.1 2.1 registerack" ∷
    codes "got 12" ∷
    codes "registered 3.1" ∷
    codes "sent 18 1.1 3.1 registerack" ∷
    codes "got 13" ∷
    codes "got 14" ∷
    codes "got 15" ∷
    codes "got 16" ∷
    codes "got 17" ∷
    codes "got 18" ∷
    codes "at 6" ∷
    codes "sent 19 1.1 1.1 gracefulshutdownreq" ∷
    codes "at 7" ∷
    codes "granted queue:1 1 3.1" ∷
    codes "at 8" ∷
    codes "queued 1 c1 1 add 5" ∷
    codes "kept 3.1 1 c1 1" ∷
    codes "sent 20 3.1 1.1 getshardhome 0" ∷
    codes "at 9" ∷
    codes "got 19" ∷
    codes "got 20" ∷
    codes "allocated 0 2.1" ∷
    codes "sent 21 1.1 2.1 hostshard 0 1/0" ∷
    codes "sent 22 1.1 3.1 shardhome 0 2.1 1/0" ∷
    codes "got 21" ∷
    codes "home 2.1 0 2.1" ∷
    codes "granted shard:0 1 2.1" ∷
    codes "sent 23 2.1 1.1 shardstarted 0" ∷
    codes "got 22" ∷
    codes "home 3.1 0 2.1" ∷
    codes "sent 24 3.1 2.1 sequenced 1 c1 1 3.1 add 5" ∷
    codes "got 23" ∷
    codes "got 24" ∷
    codes "start 2.1 c1" ∷
    codes "sent 25 2.1 2.1 recovered c1" ∷
    codes "stashed 2.1 1 c1 1" ∷
    codes "got 25" ∷
    codes "active 2.1 c1 0 0" ∷
    codes "wrote c1 1 epoch 1 by 1:1 add 5 / added 5 / ok 5" ∷
    codes "sent 26 2.1 3.1 ack 1 c1 1" ∷
    codes "sent 27 2.1 3.1 request 1 c1 1 5" ∷
    codes "got 26" ∷
    codes "confirmed 1 c1 1" ∷
    codes "got 27" ∷
    codes "at 10" ∷
    codes "sent 28 2.1 1.1 gracefulshutdownreq" ∷
    codes "at 11" ∷
    codes "got 28" ∷
    codes "moving 0 1/1" ∷
    codes "sent 29 1.1 1.1 beginhandoff 0 1/1" ∷
    codes "sent 30 1.1 2.1 beginhandoff 0 1/1" ∷
    codes "sent 31 1.1 3.1 beginhandoff 0 1/1" ∷
    codes "got 29" ∷
    codes "sent 32 1.1 1.1 beginhandoffack 0 1/1" ∷
    codes "got 30" ∷
    codes "forget 2.1 0" ∷
    codes "sent 33 2.1 1.1 beginhandoffack 0 1/1" ∷
    codes "got 31" ∷
    codes "forget 3.1 0" ∷
    codes "sent 34 3.1 1.1 beginhandoffack 0 1/1" ∷
    codes "got 32" ∷
    codes "at 12" ∷
    codes "got 33" ∷
    codes "got 34" ∷
    codes "sent 35 1.1 2.1 handoff 0 1/1" ∷
    codes "at 13" ∷
    codes "got 35" ∷
    codes "sent 36 2.1 2.1 stopentity c1" ∷
    codes "at 14" ∷
    codes "gone 1.1" ∷
    codes "freed coordinator 1 stopped" ∷
    codes "sent 37 2.1 2.1 view 4 2.1,3.1" ∷
    codes "sent 38 3.1 3.1 view 4 2.1,3.1" ∷
    codes "at 15" ∷
    codes "got 37" ∷
    codes "view 2.1 4" ∷
    codes "granted coordinator 2 2.1" ∷
    codes "terminated 1.1" ∷
    codes "sent 39 2.1 2.1 register" ∷
    codes "at 16" ∷
    codes "sent 40 2.1 2.1 gracefulshutdownreq" ∷
    codes "at 17" ∷
    codes "got 40" ∷
    codes "moving 0 2/1" ∷
    codes "sent 41 2.1 2.1 beginhandoff 0 2/1" ∷
    codes "sent 42 2.1 3.1 beginhandoff 0 2/1" ∷
    codes "at 18" ∷
    codes "got 41" ∷
    codes "sent 43 2.1 2.1 beginhandoffack 0 2/1" ∷
    codes "at 19" ∷
    codes "got 42" ∷
    codes "sent 44 3.1 2.1 beginhandoffack 0 2/1" ∷
    codes "at 20" ∷
    codes "got 43" ∷
    codes "at 21" ∷
    codes "got 44" ∷
    codes "sent 45 2.1 2.1 handoff 0 2/1" ∷
    codes "at 22" ∷
    codes "got 45" ∷
    codes "sent 46 2.1 2.1 stopentity c1" ∷
    codes "at 23" ∷
    codes "got 36" ∷
    codes "stop 2.1 c1" ∷
    codes "freed shard:0 1 released" ∷
    codes "sent 47 2.1 2.1 shardstopped 0 2/1" ∷
    codes "at 24" ∷
    codes "got 46" ∷
    codes "report" ∷
    codes "entity c1 shard 0 records 1 state 5" ∷
    codes "record 1 epoch 1 by 1:1 add 5 / added 5 / ok 5" ∷
    codes "queue 1 c1 queued 1 confirmed 1" ∷
    codes "end" ∷
    []
