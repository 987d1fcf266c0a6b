use Rattle.std.specs.Prelude.{false, codes, List, [], ◌∷◌}
use Rattle.yard_model.specs.declared.event.Command.TheVariants as command
use Rattle.yard_model.specs.declared.event.Kind.TheVariants as kind
use Rattle.yard_model.specs.declared.charter.Order.TheVariants as order
use Rattle.yard_model.specs.Script.{Script}
use Rattle.yard_model.specs.Text.{Bytes}
use Rattle.worked_scripts.specs.Worked.{script_of}

-- A region that is awaited is terminated in the middle of a round.
abbrev pub script : Script
script = script_of (record { nodes = 3; shards = 10; producers = 3; buffer = 100; window = 50; snapshot = 100; keep = 2; remember = false; kind = kind.Account }) (
    (order.Up 1) ∷
    (order.Up 2) ∷
    (order.Up 3) ∷
    (order.Pump 60) ∷
    (order.Produce 2 3) ∷
    (order.Produce 3 3) ∷
    (order.Send 2 (codes "c") (command.Withdraw 8)) ∷
    (order.Deliver 19) ∷
    (order.Deliver 20) ∷
    (order.Deliver 21) ∷
    (order.Deliver 23) ∷
    (order.Deliver 24) ∷
    (order.Deliver 20) ∷
    (order.Deliver 19) ∷
    (order.Send 2 (codes "c1") (command.Deposit 5)) ∷
    (order.Deliver 29) ∷
    (order.Deliver 30) ∷
    (order.Deliver 31) ∷
    (order.Deliver 33) ∷
    (order.Deliver 34) ∷
    (order.Send 3 (codes "a") command.Create) ∷
    (order.Deliver 30) ∷
    (order.Deliver 30) ∷
    (order.Deliver 20) ∷
    (order.Deliver 30) ∷
    (order.Deliver 30) ∷
    (order.Deliver 29) ∷
    (order.Leave 2) ∷
    (order.Crash 2) ∷
    (order.Deliver 44) ∷
    (order.Up 2) ∷
    [])

abbrev pub printed : List Bytes
printed =
    codes "at 2" ∷
    codes "up 1.1" ∷
    codes "sent 1 1.1 1.1 view 1 1.1" ∷
    codes "at 3" ∷
    codes "up 2.1" ∷
    codes "sent 2 1.1 1.1 view 2 1.1,2.1" ∷
    codes "sent 3 2.1 2.1 view 2 1.1,2.1" ∷
    codes "at 4" ∷
    codes "up 3.1" ∷
    codes "sent 4 1.1 1.1 view 3 1.1,2.1,3.1" ∷
    codes "sent 5 2.1 2.1 view 3 1.1,2.1,3.1" ∷
    codes "sent 6 3.1 3.1 view 3 1.1,2.1,3.1" ∷
    codes "at 5" ∷
    codes "got 1" ∷
    codes "view 1.1 1" ∷
    codes "granted coordinator 1 1.1" ∷
    codes "sent 7 1.1 1.1 register" ∷
    codes "got 2" ∷
    codes "view 1.1 2" ∷
    codes "sent 8 1.1 1.1 register" ∷
    codes "got 3" ∷
    codes "view 2.1 2" ∷
    codes "sent 9 2.1 1.1 register" ∷
    codes "got 4" ∷
    codes "view 1.1 3" ∷
    codes "sent 10 1.1 1.1 register" ∷
    codes "got 5" ∷
    codes "view 2.1 3" ∷
    codes "sent 11 2.1 1.1 register" ∷
    codes "got 6" ∷
    codes "view 3.1 3" ∷
    codes "sent 12 3.1 1.1 register" ∷
    codes "got 7" ∷
    codes "registered 1.1" ∷
    codes "sent 13 1.1 1.1 registerack" ∷
    codes "got 8" ∷
    codes "sent 14 1.1 1.1 registerack" ∷
    codes "got 9" ∷
    codes "registered 2.1" ∷
    codes "sent 15 1.1 2.1 registerack" ∷
    codes "got 10" ∷
    codes "sent 16 1.1 1.1 registerack" ∷
    codes "got 11" ∷
    codes "sent 17 1.1 2.1 registerack" ∷
    codes "got 12" ∷
    codes "registered 3.1" ∷
    codes "sent 18 1.1 3.1 registerack" ∷
    codes "got 13" ∷
    codes "got 14" ∷
    codes "got 15" ∷
    codes "got 16" ∷
    codes "got 17" ∷
    codes "got 18" ∷
    codes "at 6" ∷
    codes "granted queue:2 1 3.1" ∷
    codes "at 7" ∷
    codes "granted queue:3 1 3.1" ∷
    codes "at 8" ∷
    codes "queued 2 c 1 withdraw 8" ∷
    codes "kept 3.1 2 c 1" ∷
    codes "sent 19 3.1 1.1 getshardhome 9" ∷
    codes "at 9" ∷
    codes "got 19" ∷
    codes "allocated 9 1.1" ∷
    codes "sent 20 1.1 1.1 hostshard 9 1/0" ∷
    codes "sent 21 1.1 3.1 shardhome 9 1.1 1/0" ∷
    codes "at 10" ∷
    codes "got 20" ∷
    codes "home 1.1 9 1.1" ∷
    codes "granted shard:9 1 1.1" ∷
    codes "sent 22 1.1 1.1 shardstarted 9" ∷
    codes "at 11" ∷
    codes "got 21" ∷
    codes "home 3.1 9 1.1" ∷
    codes "sent 23 3.1 1.1 sequenced 2 c 1 3.1 withdraw 8" ∷
    codes "at 12" ∷
    codes "got 23" ∷
    codes "start 1.1 c" ∷
    codes "sent 24 1.1 1.1 recovered c" ∷
    codes "stashed 1.1 2 c 1" ∷
    codes "at 13" ∷
    codes "got 24" ∷
    codes "active 1.1 c 0 none" ∷
    codes "wrote c 1 epoch 1 by 2:1 withdraw 8 / - / no 1" ∷
    codes "sent 25 1.1 3.1 ack 2 c 1" ∷
    codes "sent 26 1.1 3.1 request 2 c 1 51" ∷
    codes "at 14" ∷
    codes "got 20" ∷
    codes "sent 27 1.1 1.1 shardstarted 9" ∷
    codes "at 15" ∷
    codes "got 19" ∷
    codes "sent 28 1.1 3.1 shardhome 9 1.1 1/0" ∷
    codes "at 16" ∷
    codes "queued 2 c1 1 deposit 5" ∷
    codes "kept 3.1 2 c1 1" ∷
    codes "sent 29 3.1 1.1 getshardhome 8" ∷
    codes "at 17" ∷
    codes "got 29" ∷
    codes "allocated 8 2.1" ∷
    codes "sent 30 1.1 2.1 hostshard 8 1/0" ∷
    codes "sent 31 1.1 3.1 shardhome 8 2.1 1/0" ∷
    codes "at 18" ∷
    codes "got 30" ∷
    codes "home 2.1 8 2.1" ∷
    codes "granted shard:8 1 2.1" ∷
    codes "sent 32 2.1 1.1 shardstarted 8" ∷
    codes "at 19" ∷
    codes "got 31" ∷
    codes "home 3.1 8 2.1" ∷
    codes "sent 33 3.1 2.1 sequenced 2 c1 1 3.1 deposit 5" ∷
    codes "at 20" ∷
    codes "got 33" ∷
    codes "start 2.1 c1" ∷
    codes "sent 34 2.1 2.1 recovered c1" ∷
    codes "stashed 2.1 2 c1 1" ∷
    codes "at 21" ∷
    codes "got 34" ∷
    codes "active 2.1 c1 0 none" ∷
    codes "wrote c1 1 epoch 1 by 2:1 deposit 5 / - / no 1" ∷
    codes "sent 35 2.1 3.1 ack 2 c1 1" ∷
    codes "sent 36 2.1 3.1 request 2 c1 1 51" ∷
    codes "at 22" ∷
    codes "queued 3 a 1 create" ∷
    codes "kept 3.1 3 a 1" ∷
    codes "sent 37 3.1 1.1 getshardhome 7" ∷
    codes "at 23" ∷
    codes "got 30" ∷
    codes "sent 38 2.1 1.1 shardstarted 8" ∷
    codes "at 24" ∷
    codes "got 30" ∷
    codes "sent 39 2.1 1.1 shardstarted 8" ∷
    codes "at 25" ∷
    codes "got 20" ∷
    codes "sent 40 1.1 1.1 shardstarted 9" ∷
    codes "at 26" ∷
    codes "got 30" ∷
    codes "sent 41 2.1 1.1 shardstarted 8" ∷
    codes "at 27" ∷
    codes "got 30" ∷
    codes "sent 42 2.1 1.1 shardstarted 8" ∷
    codes "at 28" ∷
    codes "got 29" ∷
    codes "sent 43 1.1 3.1 shardhome 8 2.1 1/0" ∷
    codes "at 29" ∷
    codes "sent 44 2.1 1.1 gracefulshutdownreq" ∷
    codes "at 30" ∷
    codes "gone 2.1" ∷
    codes "freed shard:8 1 stopped" ∷
    codes "sent 45 1.1 1.1 view 4 1.1,3.1" ∷
    codes "sent 46 3.1 3.1 view 4 1.1,3.1" ∷
    codes "at 31" ∷
    codes "got 44" ∷
    codes "moving 8 1/1" ∷
    codes "sent 47 1.1 1.1 beginhandoff 8 1/1" ∷
    codes "sent 48 1.1 2.1 beginhandoff 8 1/1" ∷
    codes "sent 49 1.1 3.1 beginhandoff 8 1/1" ∷
    codes "at 32" ∷
    codes "up 2.2" ∷
    codes "sent 50 1.1 1.1 view 5 1.1,3.1,2.2" ∷
    codes "sent 51 3.1 3.1 view 5 1.1,3.1,2.2" ∷
    codes "sent 52 2.2 2.2 view 5 1.1,3.1,2.2" ∷
    codes "report" ∷
    codes "entity c1 shard 8 records 1 state none" ∷
    codes "record 1 epoch 1 by 2:1 deposit 5 / - / no 1" ∷
    codes "entity c shard 9 records 1 state none" ∷
    codes "record 1 epoch 1 by 2:1 withdraw 8 / - / no 1" ∷
    codes "queue 2 c queued 1 confirmed 0" ∷
    codes "queue 2 c1 queued 1 confirmed 0" ∷
    codes "queue 3 a queued 1 confirmed 0" ∷
    codes "end" ∷
    []
