use Rattle.std.specs.Prelude.{false, codes, List, [], ◌∷◌}
use Rattle.yard_model.specs.declared.event.Command.TheVariants as command
use Rattle.yard_model.specs.declared.event.Kind.TheVariants as kind
use Rattle.yard_model.specs.declared.charter.Order.TheVariants as order
use Rattle.yard_model.specs.Script.{Script}
use Rattle.yard_model.specs.Text.{Bytes}
use Rattle.worked_scripts.specs.Worked.{script_of}

-- A handoff that begins lets a region ask again for the home.
abbrev pub script : Script
script = script_of (record { nodes = 3; shards = 10; producers = 2; buffer = 100; window = 50; snapshot = 100; keep = 2; remember = false; kind = kind.Cart }) (
    (order.Up 1) ∷
    (order.Produce 1 1) ∷
    (order.Up 2) ∷
    (order.Up 3) ∷
    (order.Pump 100) ∷
    (order.Send 1 (codes "Aa") (command.RemoveItem 12)) ∷
    (order.Leave 1) ∷
    (order.Send 1 (codes "Aa") (command.AddItem (record { item = 7; quantity = 1000 }))) ∷
    (order.Send 1 (codes "x-1") command.Checkout) ∷
    (order.Pump 60) ∷
    (order.Leave 3) ∷
    (order.Pump 60) ∷
    (order.Send 1 (codes "Aa") (command.AddItem (record { item = 6; quantity = 2 }))) ∷
    [])

abbrev pub printed : List Bytes
printed =
    codes "at 2" ∷
    codes "up 1.1" ∷
    codes "sent 1 1.1 1.1 view 1 1.1" ∷
    codes "at 3" ∷
    codes "granted queue:1 1 1.1" ∷
    codes "at 4" ∷
    codes "up 2.1" ∷
    codes "sent 2 1.1 1.1 view 2 1.1,2.1" ∷
    codes "sent 3 2.1 2.1 view 2 1.1,2.1" ∷
    codes "at 5" ∷
    codes "up 3.1" ∷
    codes "sent 4 1.1 1.1 view 3 1.1,2.1,3.1" ∷
    codes "sent 5 2.1 2.1 view 3 1.1,2.1,3.1" ∷
    codes "sent 6 3.1 3.1 view 3 1.1,2.1,3.1" ∷
    codes "at 6" ∷
    codes "got 1" ∷
    codes "view 1.1 1" ∷
    codes "granted coordinator 1 1.1" ∷
    codes "sent 7 1.1 1.1 register" ∷
    codes "got 2" ∷
    codes "view 1.1 2" ∷
    codes "sent 8 1.1 1.1 register" ∷
    codes "got 3" ∷
    codes "view 2.1 2" ∷
    codes "sent 9 2.1 1.1 register" ∷
    codes "got 4" ∷
    codes "view 1.1 3" ∷
    codes "sent 10 1.1 1.1 register" ∷
    codes "got 5" ∷
    codes "view 2.1 3" ∷
    codes "sent 11 2.1 1.1 register" ∷
    codes "got 6" ∷
    codes "view 3.1 3" ∷
    codes "sent 12 3.1 1.1 register" ∷
    codes "got 7" ∷
    codes "registered 1.1" ∷
    codes "sent 13 1.1 1.1 registerack" ∷
    codes "got 8" ∷
    codes "sent 14 1.1 1.1 registerack" ∷
    codes "got 9" ∷
    codes "registered 2.1" ∷
    codes "sent 15 1.1 2.1 registerack" ∷
    codes "got 10" ∷
    codes "sent 16 1.1 1.1 registerack" ∷
    codes "got 11" ∷
    codes "sent 17 1.1 2.1 registerack" ∷
    codes "got 12" ∷
    codes "registered 3.1" ∷
    codes "sent 18 1.1 3.1 registerack" ∷
    codes "got 13" ∷
    codes "got 14" ∷
    codes "got 15" ∷
    codes "got 16" ∷
    codes "got 17" ∷
    codes "got 18" ∷
    codes "at 7" ∷
    codes "queued 1 Aa 1 remove 12" ∷
    codes "kept 1.1 1 Aa 1" ∷
    codes "sent 19 1.1 1.1 getshardhome 2" ∷
    codes "at 8" ∷
    codes "sent 20 1.1 1.1 gracefulshutdownreq" ∷
    codes "at 9" ∷
    codes "queued 1 Aa 2 add 7 1000" ∷
    codes "at 10" ∷
    codes "queued 1 x-1 1 checkout" ∷
    codes "kept 1.1 1 x-1 1" ∷
    codes "sent 21 1.1 1.1 getshardhome 4" ∷
    codes "at 11" ∷
    codes "got 19" ∷
    codes "allocated 2 1.1" ∷
    codes "sent 22 1.1 1.1 hostshard 2 1/0" ∷
    codes "sent 23 1.1 1.1 shardhome 2 1.1 1/0" ∷
    codes "got 20" ∷
    codes "moving 2 1/1" ∷
    codes "sent 24 1.1 1.1 beginhandoff 2 1/1" ∷
    codes "sent 25 1.1 2.1 beginhandoff 2 1/1" ∷
    codes "sent 26 1.1 3.1 beginhandoff 2 1/1" ∷
    codes "got 21" ∷
    codes "allocated 4 2.1" ∷
    codes "sent 27 1.1 2.1 hostshard 4 1/1" ∷
    codes "sent 28 1.1 1.1 shardhome 4 2.1 1/1" ∷
    codes "got 22" ∷
    codes "home 1.1 2 1.1" ∷
    codes "granted shard:2 1 1.1" ∷
    codes "sent 29 1.1 1.1 shardstarted 2" ∷
    codes "start 1.1 Aa" ∷
    codes "sent 30 1.1 1.1 recovered Aa" ∷
    codes "stashed 1.1 1 Aa 1" ∷
    codes "got 23" ∷
    codes "got 24" ∷
    codes "forget 1.1 2" ∷
    codes "sent 31 1.1 1.1 beginhandoffack 2 1/1" ∷
    codes "got 25" ∷
    codes "sent 32 2.1 1.1 beginhandoffack 2 1/1" ∷
    codes "got 26" ∷
    codes "sent 33 3.1 1.1 beginhandoffack 2 1/1" ∷
    codes "got 27" ∷
    codes "home 2.1 4 2.1" ∷
    codes "granted shard:4 1 2.1" ∷
    codes "sent 34 2.1 1.1 shardstarted 4" ∷
    codes "got 28" ∷
    codes "home 1.1 4 2.1" ∷
    codes "sent 35 1.1 2.1 sequenced 1 x-1 1 1.1 checkout" ∷
    codes "got 29" ∷
    codes "got 30" ∷
    codes "active 1.1 Aa 0 open -" ∷
    codes "wrote Aa 1 epoch 1 by 1:1 remove 12 / - / no 4" ∷
    codes "sent 36 1.1 1.1 ack 1 Aa 1" ∷
    codes "sent 37 1.1 1.1 request 1 Aa 1 51" ∷
    codes "got 31" ∷
    codes "got 32" ∷
    codes "got 33" ∷
    codes "sent 38 1.1 1.1 handoff 2 1/1" ∷
    codes "got 34" ∷
    codes "got 35" ∷
    codes "start 2.1 x-1" ∷
    codes "sent 39 2.1 2.1 recovered x-1" ∷
    codes "stashed 2.1 1 x-1 1" ∷
    codes "got 36" ∷
    codes "confirmed 1 Aa 1" ∷
    codes "kept 1.1 1 Aa 2" ∷
    codes "sent 40 1.1 1.1 getshardhome 2" ∷
    codes "got 37" ∷
    codes "got 38" ∷
    codes "sent 41 1.1 1.1 stopentity Aa" ∷
    codes "got 39" ∷
    codes "active 2.1 x-1 0 open -" ∷
    codes "wrote x-1 1 epoch 1 by 1:1 checkout / - / no 5" ∷
    codes "sent 42 2.1 1.1 ack 1 x-1 1" ∷
    codes "sent 43 2.1 1.1 request 1 x-1 1 51" ∷
    codes "got 40" ∷
    codes "got 41" ∷
    codes "stop 1.1 Aa" ∷
    codes "freed shard:2 1 released" ∷
    codes "sent 44 1.1 1.1 shardstopped 2 1/1" ∷
    codes "got 42" ∷
    codes "confirmed 1 x-1 1" ∷
    codes "got 43" ∷
    codes "got 44" ∷
    codes "deallocated 2" ∷
    codes "allocated 2 3.1" ∷
    codes "sent 45 1.1 3.1 hostshard 2 1/1" ∷
    codes "got 45" ∷
    codes "home 3.1 2 3.1" ∷
    codes "granted shard:2 2 3.1" ∷
    codes "sent 46 3.1 1.1 shardstarted 2" ∷
    codes "got 46" ∷
    codes "at 12" ∷
    codes "sent 47 3.1 1.1 gracefulshutdownreq" ∷
    codes "at 13" ∷
    codes "got 47" ∷
    codes "moving 2 1/2" ∷
    codes "sent 48 1.1 1.1 beginhandoff 2 1/2" ∷
    codes "sent 49 1.1 2.1 beginhandoff 2 1/2" ∷
    codes "sent 50 1.1 3.1 beginhandoff 2 1/2" ∷
    codes "got 48" ∷
    codes "sent 51 1.1 1.1 beginhandoffack 2 1/2" ∷
    codes "got 49" ∷
    codes "sent 52 2.1 1.1 beginhandoffack 2 1/2" ∷
    codes "got 50" ∷
    codes "forget 3.1 2" ∷
    codes "sent 53 3.1 1.1 beginhandoffack 2 1/2" ∷
    codes "got 51" ∷
    codes "got 52" ∷
    codes "got 53" ∷
    codes "sent 54 1.1 3.1 handoff 2 1/2" ∷
    codes "got 54" ∷
    codes "freed shard:2 2 released" ∷
    codes "sent 55 3.1 1.1 shardstopped 2 1/2" ∷
    codes "got 55" ∷
    codes "deallocated 2" ∷
    codes "allocated 2 2.1" ∷
    codes "sent 56 1.1 2.1 hostshard 2 1/2" ∷
    codes "got 56" ∷
    codes "home 2.1 2 2.1" ∷
    codes "granted shard:2 3 2.1" ∷
    codes "sent 57 2.1 1.1 shardstarted 2" ∷
    codes "got 57" ∷
    codes "at 14" ∷
    codes "queued 1 Aa 3 add 6 2" ∷
    codes "kept 1.1 1 Aa 3" ∷
    codes "sent 58 1.1 1.1 getshardhome 2" ∷
    codes "report" ∷
    codes "entity Aa shard 2 records 1 state open -" ∷
    codes "record 1 epoch 1 by 1:1 remove 12 / - / no 4" ∷
    codes "entity x-1 shard 4 records 1 state open -" ∷
    codes "record 1 epoch 1 by 1:1 checkout / - / no 5" ∷
    codes "queue 1 Aa queued 3 confirmed 1" ∷
    codes "queue 1 x-1 queued 1 confirmed 1" ∷
    codes "end" ∷
    []
