use Rattle.std.specs.Prelude.{true, codes, List, [], ◌∷◌}
use Rattle.yard_model.specs.declared.event.Command.TheVariants as command
use Rattle.yard_model.specs.declared.event.Kind.TheVariants as kind
use Rattle.yard_model.specs.declared.charter.Order.TheVariants as order
use Rattle.yard_model.specs.Script.{Script}
use Rattle.yard_model.specs.Text.{Bytes}
use Rattle.worked_scripts.specs.Worked.{script_of}

-- An entity that passivates when its shard is handed off is forgotten all the same.
abbrev pub script : Script
script = script_of (record { nodes = 6; shards = 10; producers = 2; buffer = 100; window = 50; snapshot = 100; keep = 2; remember = true; kind = kind.Counter }) (
    (order.Up 1) ∷
    (order.Pump 200) ∷
    (order.Produce 1 1) ∷
    (order.Send 1 (codes "C") command.Read) ∷
    (order.Send 1 (codes "e_2") command.Read) ∷
    (order.Up 6) ∷
    (order.Pump 100) ∷
    (order.Rebalance 1) ∷
    (order.Send 1 (codes "e_2") command.Read) ∷
    (order.Pump 3) ∷
    (order.Passivate (codes "e_2")) ∷
    (order.Pump 60) ∷
    [])

abbrev pub printed : List Bytes
printed =
    codes "at 2" ∷
    codes "up 1.1" ∷
    codes "sent 1 1.1 1.1 view 1 1.1" ∷
    codes "at 3" ∷
    codes "got 1" ∷
    codes "view 1.1 1" ∷
    codes "granted coordinator 1 1.1" ∷
    codes "sent 2 1.1 1.1 register" ∷
    codes "got 2" ∷
    codes "registered 1.1" ∷
    codes "sent 3 1.1 1.1 registerack" ∷
    codes "got 3" ∷
    codes "at 4" ∷
    codes "granted queue:1 1 1.1" ∷
    codes "at 5" ∷
    codes "queued 1 C 1 read" ∷
    codes "kept 1.1 1 C 1" ∷
    codes "sent 4 1.1 1.1 getshardhome 7" ∷
    codes "at 6" ∷
    codes "queued 1 e_2 1 read" ∷
    codes "kept 1.1 1 e_2 1" ∷
    codes "sent 5 1.1 1.1 getshardhome 6" ∷
    codes "at 7" ∷
    codes "up 6.1" ∷
    codes "sent 6 1.1 1.1 view 2 1.1,6.1" ∷
    codes "sent 7 6.1 6.1 view 2 1.1,6.1" ∷
    codes "at 8" ∷
    codes "got 4" ∷
    codes "allocated 7 1.1" ∷
    codes "sent 8 1.1 1.1 hostshard 7 1/0" ∷
    codes "sent 9 1.1 1.1 shardhome 7 1.1 1/0" ∷
    codes "got 5" ∷
    codes "allocated 6 1.1" ∷
    codes "sent 10 1.1 1.1 hostshard 6 1/0" ∷
    codes "sent 11 1.1 1.1 shardhome 6 1.1 1/0" ∷
    codes "got 6" ∷
    codes "view 1.1 2" ∷
    codes "got 7" ∷
    codes "view 6.1 2" ∷
    codes "sent 12 6.1 1.1 register" ∷
    codes "got 8" ∷
    codes "home 1.1 7 1.1" ∷
    codes "granted shard:7 1 1.1" ∷
    codes "sent 13 1.1 1.1 shardstarted 7" ∷
    codes "start 1.1 C" ∷
    codes "sent 14 1.1 1.1 recovered C" ∷
    codes "stashed 1.1 1 C 1" ∷
    codes "got 9" ∷
    codes "got 10" ∷
    codes "home 1.1 6 1.1" ∷
    codes "granted shard:6 1 1.1" ∷
    codes "sent 15 1.1 1.1 shardstarted 6" ∷
    codes "start 1.1 e_2" ∷
    codes "sent 16 1.1 1.1 recovered e_2" ∷
    codes "stashed 1.1 1 e_2 1" ∷
    codes "got 11" ∷
    codes "got 12" ∷
    codes "registered 6.1" ∷
    codes "sent 17 1.1 6.1 registerack" ∷
    codes "got 13" ∷
    codes "got 14" ∷
    codes "active 1.1 C 0 0" ∷
    codes "remembered C" ∷
    codes "wrote C 1 epoch 1 by 1:1 read / - / ok 0" ∷
    codes "sent 18 1.1 1.1 ack 1 C 1" ∷
    codes "sent 19 1.1 1.1 request 1 C 1 51" ∷
    codes "got 15" ∷
    codes "got 16" ∷
    codes "active 1.1 e_2 0 0" ∷
    codes "remembered e_2" ∷
    codes "wrote e_2 1 epoch 1 by 1:1 read / - / ok 0" ∷
    codes "sent 20 1.1 1.1 ack 1 e_2 1" ∷
    codes "sent 21 1.1 1.1 request 1 e_2 1 51" ∷
    codes "got 17" ∷
    codes "got 18" ∷
    codes "confirmed 1 C 1" ∷
    codes "got 19" ∷
    codes "got 20" ∷
    codes "confirmed 1 e_2 1" ∷
    codes "got 21" ∷
    codes "at 9" ∷
    codes "moving 6 1/1" ∷
    codes "sent 22 1.1 1.1 beginhandoff 6 1/1" ∷
    codes "sent 23 1.1 6.1 beginhandoff 6 1/1" ∷
    codes "at 10" ∷
    codes "queued 1 e_2 2 read" ∷
    codes "wrote e_2 2 epoch 1 by 1:2 read / - / ok 0" ∷
    codes "sent 24 1.1 1.1 ack 1 e_2 2" ∷
    codes "at 11" ∷
    codes "got 22" ∷
    codes "forget 1.1 6" ∷
    codes "sent 25 1.1 1.1 beginhandoffack 6 1/1" ∷
    codes "got 23" ∷
    codes "sent 26 6.1 1.1 beginhandoffack 6 1/1" ∷
    codes "got 24" ∷
    codes "confirmed 1 e_2 2" ∷
    codes "at 12" ∷
    codes "sent 27 1.1 1.1 passivate e_2" ∷
    codes "at 13" ∷
    codes "got 25" ∷
    codes "got 26" ∷
    codes "sent 28 1.1 1.1 handoff 6 1/1" ∷
    codes "got 27" ∷
    codes "sent 29 1.1 1.1 stopentity e_2" ∷
    codes "got 28" ∷
    codes "sent 30 1.1 1.1 stopentity e_2" ∷
    codes "got 29" ∷
    codes "stop 1.1 e_2" ∷
    codes "forgotten e_2" ∷
    codes "freed shard:6 1 released" ∷
    codes "sent 31 1.1 1.1 shardstopped 6 1/1" ∷
    codes "got 30" ∷
    codes "got 31" ∷
    codes "deallocated 6" ∷
    codes "allocated 6 6.1" ∷
    codes "sent 32 1.1 6.1 hostshard 6 1/1" ∷
    codes "got 32" ∷
    codes "home 6.1 6 6.1" ∷
    codes "granted shard:6 2 6.1" ∷
    codes "sent 33 6.1 1.1 shardstarted 6" ∷
    codes "got 33" ∷
    codes "report" ∷
    codes "entity e_2 shard 6 records 2 state 0" ∷
    codes "record 1 epoch 1 by 1:1 read / - / ok 0" ∷
    codes "record 2 epoch 1 by 1:2 read / - / ok 0" ∷
    codes "entity C shard 7 records 1 state 0" ∷
    codes "record 1 epoch 1 by 1:1 read / - / ok 0" ∷
    codes "queue 1 C queued 1 confirmed 1" ∷
    codes "queue 1 e_2 queued 2 confirmed 2" ∷
    codes "end" ∷
    []
