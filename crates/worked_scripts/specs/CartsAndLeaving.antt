use Rattle.std.specs.Prelude.{false, codes, List, [], ◌∷◌}
use Rattle.yard_model.specs.declared.event.Command.TheVariants as command
use Rattle.yard_model.specs.declared.event.Kind.TheVariants as kind
use Rattle.yard_model.specs.declared.charter.Order.TheVariants as order
use Rattle.yard_model.specs.Script.{Script}
use Rattle.yard_model.specs.Text.{Bytes}
use Rattle.worked_scripts.specs.Worked.{script_of}

-- Five carts of two producers over three nodes, of which one leaves.
abbrev pub script : Script
script = script_of (record { nodes = 3; shards = 30; producers = 2; buffer = 100; window = 50; snapshot = 100; keep = 2; remember = false; kind = kind.Cart }) (
    (order.Up 1) ∷
    (order.Up 2) ∷
    (order.Up 3) ∷
    (order.Pump 100) ∷
    (order.Produce 1 1) ∷
    (order.Produce 2 2) ∷
    (order.Send 1 (codes "cart-1") (command.AddItem (record { item = 101; quantity = 2 }))) ∷
    (order.Send 1 (codes "cart-2") (command.AddItem (record { item = 205; quantity = 1 }))) ∷
    (order.Send 2 (codes "cart-3") (command.AddItem (record { item = 7; quantity = 4 }))) ∷
    (order.Send 2 (codes "cart-4") (command.AddItem (record { item = 101; quantity = 1 }))) ∷
    (order.Send 1 (codes "cart-5") (command.AddItem (record { item = 33; quantity = 10 }))) ∷
    (order.Send 1 (codes "cart-1") (command.AddItem (record { item = 205; quantity = 1 }))) ∷
    (order.Pump 500) ∷
    (order.Leave 3) ∷
    (order.Pump 500) ∷
    (order.Send 1 (codes "cart-3") (command.AdjustItem (record { item = 7; quantity = 2 }))) ∷
    (order.Send 2 (codes "cart-4") (command.RemoveItem 999)) ∷
    (order.Send 1 (codes "cart-1") command.Checkout) ∷
    (order.Send 2 (codes "cart-3") command.Checkout) ∷
    (order.Pump 500) ∷
    (order.Settle) ∷
    [])

abbrev pub printed : List Bytes
printed =
    codes "at 2" ∷
    codes "up 1.1" ∷
    codes "sent 1 1.1 1.1 view 1 1.1" ∷
    codes "at 3" ∷
    codes "up 2.1" ∷
    codes "sent 2 1.1 1.1 view 2 1.1,2.1" ∷
    codes "sent 3 2.1 2.1 view 2 1.1,2.1" ∷
    codes "at 4" ∷
    codes "up 3.1" ∷
    codes "sent 4 1.1 1.1 view 3 1.1,2.1,3.1" ∷
    codes "sent 5 2.1 2.1 view 3 1.1,2.1,3.1" ∷
    codes "sent 6 3.1 3.1 view 3 1.1,2.1,3.1" ∷
    codes "at 5" ∷
    codes "got 1" ∷
    codes "view 1.1 1" ∷
    codes "granted coordinator 1 1.1" ∷
    codes "sent 7 1.1 1.1 register" ∷
    codes "got 2" ∷
    codes "view 1.1 2" ∷
    codes "sent 8 1.1 1.1 register" ∷
    codes "got 3" ∷
    codes "view 2.1 2" ∷
    codes "sent 9 2.1 1.1 register" ∷
    codes "got 4" ∷
    codes "view 1.1 3" ∷
    codes "sent 10 1.1 1.1 register" ∷
    codes "got 5" ∷
    codes "view 2.1 3" ∷
    codes "sent 11 2.1 1.1 register" ∷
    codes "got 6" ∷
    codes "view 3.1 3" ∷
    codes "sent 12 3.1 1.1 register" ∷
    codes "got 7" ∷
    codes "registered 1.1" ∷
    codes "sent 13 1.1 1.1 registerack" ∷
    codes "got 8" ∷
    codes "sent 14 1.1 1.1 registerack" ∷
    codes "got 9" ∷
    codes "registered 2.1" ∷
    codes "sent 15 1.1 2.1 registerack" ∷
    codes "got 10" ∷
    codes "sent 16 1.1 1.1 registerack" ∷
    codes "got 11" ∷
    codes "sent 17 1.1 2.1 registerack" ∷
    codes "got 12" ∷
    codes "registered 3.1" ∷
    codes "sent 18 1.1 3.1 registerack" ∷
    codes "got 13" ∷
    codes "got 14" ∷
    codes "got 15" ∷
    codes "got 16" ∷
    codes "got 17" ∷
    codes "got 18" ∷
    codes "at 6" ∷
    codes "granted queue:1 1 1.1" ∷
    codes "at 7" ∷
    codes "granted queue:2 1 2.1" ∷
    codes "at 8" ∷
    codes "queued 1 cart-1 1 add 101 2" ∷
    codes "kept 1.1 1 cart-1 1" ∷
    codes "sent 19 1.1 1.1 getshardhome 6" ∷
    codes "at 9" ∷
    codes "queued 1 cart-2 1 add 205 1" ∷
    codes "kept 1.1 1 cart-2 1" ∷
    codes "sent 20 1.1 1.1 getshardhome 5" ∷
    codes "at 10" ∷
    codes "queued 2 cart-3 1 add 7 4" ∷
    codes "kept 2.1 2 cart-3 1" ∷
    codes "sent 21 2.1 1.1 getshardhome 4" ∷
    codes "at 11" ∷
    codes "queued 2 cart-4 1 add 101 1" ∷
    codes "kept 2.1 2 cart-4 1" ∷
    codes "sent 22 2.1 1.1 getshardhome 3" ∷
    codes "at 12" ∷
    codes "queued 1 cart-5 1 add 33 10" ∷
    codes "kept 1.1 1 cart-5 1" ∷
    codes "sent 23 1.1 1.1 getshardhome 2" ∷
    codes "at 13" ∷
    codes "queued 1 cart-1 2 add 205 1" ∷
    codes "at 14" ∷
    codes "got 19" ∷
    codes "allocated 6 1.1" ∷
    codes "sent 24 1.1 1.1 hostshard 6 1/0" ∷
    codes "sent 25 1.1 1.1 shardhome 6 1.1 1/0" ∷
    codes "got 20" ∷
    codes "allocated 5 2.1" ∷
    codes "sent 26 1.1 2.1 hostshard 5 1/0" ∷
    codes "sent 27 1.1 1.1 shardhome 5 2.1 1/0" ∷
    codes "got 21" ∷
    codes "allocated 4 3.1" ∷
    codes "sent 28 1.1 3.1 hostshard 4 1/0" ∷
    codes "sent 29 1.1 2.1 shardhome 4 3.1 1/0" ∷
    codes "got 22" ∷
    codes "allocated 3 1.1" ∷
    codes "sent 30 1.1 1.1 hostshard 3 1/0" ∷
    codes "sent 31 1.1 2.1 shardhome 3 1.1 1/0" ∷
    codes "got 23" ∷
    codes "allocated 2 2.1" ∷
    codes "sent 32 1.1 2.1 hostshard 2 1/0" ∷
    codes "sent 33 1.1 1.1 shardhome 2 2.1 1/0" ∷
    codes "got 24" ∷
    codes "home 1.1 6 1.1" ∷
    codes "granted shard:6 1 1.1" ∷
    codes "sent 34 1.1 1.1 shardstarted 6" ∷
    codes "start 1.1 cart-1" ∷
    codes "sent 35 1.1 1.1 recovered cart-1" ∷
    codes "stashed 1.1 1 cart-1 1" ∷
    codes "got 25" ∷
    codes "got 26" ∷
    codes "home 2.1 5 2.1" ∷
    codes "granted shard:5 1 2.1" ∷
    codes "sent 36 2.1 1.1 shardstarted 5" ∷
    codes "got 27" ∷
    codes "home 1.1 5 2.1" ∷
    codes "sent 37 1.1 2.1 sequenced 1 cart-2 1 1.1 add 205 1" ∷
    codes "got 28" ∷
    codes "home 3.1 4 3.1" ∷
    codes "granted shard:4 1 3.1" ∷
    codes "sent 38 3.1 1.1 shardstarted 4" ∷
    codes "got 29" ∷
    codes "home 2.1 4 3.1" ∷
    codes "sent 39 2.1 3.1 sequenced 2 cart-3 1 2.1 add 7 4" ∷
    codes "got 30" ∷
    codes "home 1.1 3 1.1" ∷
    codes "granted shard:3 1 1.1" ∷
    codes "sent 40 1.1 1.1 shardstarted 3" ∷
    codes "got 31" ∷
    codes "home 2.1 3 1.1" ∷
    codes "sent 41 2.1 1.1 sequenced 2 cart-4 1 2.1 add 101 1" ∷
    codes "got 32" ∷
    codes "home 2.1 2 2.1" ∷
    codes "granted shard:2 1 2.1" ∷
    codes "sent 42 2.1 1.1 shardstarted 2" ∷
    codes "got 33" ∷
    codes "home 1.1 2 2.1" ∷
    codes "sent 43 1.1 2.1 sequenced 1 cart-5 1 1.1 add 33 10" ∷
    codes "got 34" ∷
    codes "got 35" ∷
    codes "active 1.1 cart-1 0 open -" ∷
    codes "wrote cart-1 1 epoch 1 by 1:1 add 101 2 / added 101 2 / ok 1" ∷
    codes "sent 44 1.1 1.1 ack 1 cart-1 1" ∷
    codes "sent 45 1.1 1.1 request 1 cart-1 1 51" ∷
    codes "got 36" ∷
    codes "got 37" ∷
    codes "start 2.1 cart-2" ∷
    codes "sent 46 2.1 2.1 recovered cart-2" ∷
    codes "stashed 2.1 1 cart-2 1" ∷
    codes "got 38" ∷
    codes "got 39" ∷
    codes "start 3.1 cart-3" ∷
    codes "sent 47 3.1 3.1 recovered cart-3" ∷
    codes "stashed 3.1 2 cart-3 1" ∷
    codes "got 40" ∷
    codes "got 41" ∷
    codes "start 1.1 cart-4" ∷
    codes "sent 48 1.1 1.1 recovered cart-4" ∷
    codes "stashed 1.1 2 cart-4 1" ∷
    codes "got 42" ∷
    codes "got 43" ∷
    codes "start 2.1 cart-5" ∷
    codes "sent 49 2.1 2.1 recovered cart-5" ∷
    codes "stashed 2.1 1 cart-5 1" ∷
    codes "got 44" ∷
    codes "confirmed 1 cart-1 1" ∷
    codes "wrote cart-1 2 epoch 1 by 1:2 add 205 1 / added 205 1 / ok 2" ∷
    codes "sent 50 1.1 1.1 ack 1 cart-1 2" ∷
    codes "got 45" ∷
    codes "got 46" ∷
    codes "active 2.1 cart-2 0 open -" ∷
    codes "wrote cart-2 1 epoch 1 by 1:1 add 205 1 / added 205 1 / ok 1" ∷
    codes "sent 51 2.1 1.1 ack 1 cart-2 1" ∷
    codes "sent 52 2.1 1.1 request 1 cart-2 1 51" ∷
    codes "got 47" ∷
    codes "active 3.1 cart-3 0 open -" ∷
    codes "wrote cart-3 1 epoch 1 by 2:1 add 7 4 / added 7 4 / ok 1" ∷
    codes "sent 53 3.1 2.1 ack 2 cart-3 1" ∷
    codes "sent 54 3.1 2.1 request 2 cart-3 1 51" ∷
    codes "got 48" ∷
    codes "active 1.1 cart-4 0 open -" ∷
    codes "wrote cart-4 1 epoch 1 by 2:1 add 101 1 / added 101 1 / ok 1" ∷
    codes "sent 55 1.1 2.1 ack 2 cart-4 1" ∷
    codes "sent 56 1.1 2.1 request 2 cart-4 1 51" ∷
    codes "got 49" ∷
    codes "active 2.1 cart-5 0 open -" ∷
    codes "wrote cart-5 1 epoch 1 by 1:1 add 33 10 / added 33 10 / ok 1" ∷
    codes "sent 57 2.1 1.1 ack 1 cart-5 1" ∷
    codes "sent 58 2.1 1.1 request 1 cart-5 1 51" ∷
    codes "got 50" ∷
    codes "confirmed 1 cart-1 2" ∷
    codes "got 51" ∷
    codes "confirmed 1 cart-2 1" ∷
    codes "got 52" ∷
    codes "got 53" ∷
    codes "confirmed 2 cart-3 1" ∷
    codes "got 54" ∷
    codes "got 55" ∷
    codes "confirmed 2 cart-4 1" ∷
    codes "got 56" ∷
    codes "got 57" ∷
    codes "confirmed 1 cart-5 1" ∷
    codes "got 58" ∷
    codes "at 15" ∷
    codes "sent 59 3.1 1.1 gracefulshutdownreq" ∷
    codes "at 16" ∷
    codes "got 59" ∷
    codes "moving 4 1/1" ∷
    codes "sent 60 1.1 1.1 beginhandoff 4 1/1" ∷
    codes "sent 61 1.1 2.1 beginhandoff 4 1/1" ∷
    codes "sent 62 1.1 3.1 beginhandoff 4 1/1" ∷
    codes "got 60" ∷
    codes "sent 63 1.1 1.1 beginhandoffack 4 1/1" ∷
    codes "got 61" ∷
    codes "forget 2.1 4" ∷
    codes "sent 64 2.1 1.1 beginhandoffack 4 1/1" ∷
    codes "got 62" ∷
    codes "forget 3.1 4" ∷
    codes "sent 65 3.1 1.1 beginhandoffack 4 1/1" ∷
    codes "got 63" ∷
    codes "got 64" ∷
    codes "got 65" ∷
    codes "sent 66 1.1 3.1 handoff 4 1/1" ∷
    codes "got 66" ∷
    codes "sent 67 3.1 3.1 stopentity cart-3" ∷
    codes "got 67" ∷
    codes "stop 3.1 cart-3" ∷
    codes "freed shard:4 1 released" ∷
    codes "sent 68 3.1 1.1 shardstopped 4 1/1" ∷
    codes "got 68" ∷
    codes "deallocated 4" ∷
    codes "allocated 4 1.1" ∷
    codes "sent 69 1.1 1.1 hostshard 4 1/1" ∷
    codes "got 69" ∷
    codes "home 1.1 4 1.1" ∷
    codes "granted shard:4 2 1.1" ∷
    codes "sent 70 1.1 1.1 shardstarted 4" ∷
    codes "got 70" ∷
    codes "at 17" ∷
    codes "queued 1 cart-3 1 adjust 7 2" ∷
    codes "start 1.1 cart-3" ∷
    codes "sent 71 1.1 1.1 recovered cart-3" ∷
    codes "stashed 1.1 1 cart-3 1" ∷
    codes "at 18" ∷
    codes "queued 2 cart-4 2 remove 999" ∷
    codes "sent 72 2.1 1.1 sequenced 2 cart-4 2 2.1 remove 999" ∷
    codes "at 19" ∷
    codes "queued 1 cart-1 3 checkout" ∷
    codes "wrote cart-1 3 epoch 1 by 1:3 checkout / checkedout / ok 2" ∷
    codes "sent 73 1.1 1.1 ack 1 cart-1 3" ∷
    codes "at 20" ∷
    codes "queued 2 cart-3 2 checkout" ∷
    codes "kept 2.1 2 cart-3 2" ∷
    codes "sent 74 2.1 1.1 getshardhome 4" ∷
    codes "at 21" ∷
    codes "got 71" ∷
    codes "active 1.1 cart-3 1 open 7:4" ∷
    codes "wrote cart-3 2 epoch 2 by 1:1 adjust 7 2 / adjusted 7 2 / ok 1" ∷
    codes "sent 75 1.1 1.1 ack 1 cart-3 1" ∷
    codes "sent 76 1.1 1.1 request 1 cart-3 1 51" ∷
    codes "got 72" ∷
    codes "wrote cart-4 2 epoch 1 by 2:2 remove 999 / - / no 4" ∷
    codes "sent 77 1.1 2.1 ack 2 cart-4 2" ∷
    codes "got 73" ∷
    codes "confirmed 1 cart-1 3" ∷
    codes "got 74" ∷
    codes "sent 78 1.1 2.1 shardhome 4 1.1 1/1" ∷
    codes "got 75" ∷
    codes "confirmed 1 cart-3 1" ∷
    codes "got 76" ∷
    codes "got 77" ∷
    codes "confirmed 2 cart-4 2" ∷
    codes "got 78" ∷
    codes "home 2.1 4 1.1" ∷
    codes "sent 79 2.1 1.1 sequenced 2 cart-3 2 2.1 checkout" ∷
    codes "got 79" ∷
    codes "wrote cart-3 3 epoch 2 by 2:2 checkout / checkedout / ok 1" ∷
    codes "sent 80 1.1 2.1 ack 2 cart-3 2" ∷
    codes "sent 81 1.1 2.1 request 2 cart-3 2 52" ∷
    codes "got 80" ∷
    codes "confirmed 2 cart-3 2" ∷
    codes "got 81" ∷
    codes "at 22" ∷
    codes "gone 1.1" ∷
    codes "freed shard:3 1 stopped" ∷
    codes "freed shard:4 2 stopped" ∷
    codes "freed shard:6 1 stopped" ∷
    codes "freed coordinator 1 stopped" ∷
    codes "freed queue:1 1 stopped" ∷
    codes "gone 2.1" ∷
    codes "freed shard:2 1 stopped" ∷
    codes "freed shard:5 1 stopped" ∷
    codes "freed queue:2 1 stopped" ∷
    codes "gone 3.1" ∷
    codes "up 1.2" ∷
    codes "sent 82 1.2 1.2 view 7 1.2" ∷
    codes "got 82" ∷
    codes "view 1.2 7" ∷
    codes "granted coordinator 2 1.2" ∷
    codes "terminated 1.1" ∷
    codes "terminated 2.1" ∷
    codes "terminated 3.1" ∷
    codes "sent 83 1.2 1.2 register" ∷
    codes "got 83" ∷
    codes "registered 1.2" ∷
    codes "sent 84 1.2 1.2 registerack" ∷
    codes "got 84" ∷
    codes "granted queue:1 2 1.2" ∷
    codes "granted queue:2 2 1.2" ∷
    codes "gone 1.2" ∷
    codes "freed coordinator 2 stopped" ∷
    codes "freed queue:1 2 stopped" ∷
    codes "freed queue:2 2 stopped" ∷
    codes "settled" ∷
    codes "report" ∷
    codes "entity cart-5 shard 2 records 1 state open 33:10" ∷
    codes "record 1 epoch 1 by 1:1 add 33 10 / added 33 10 / ok 1" ∷
    codes "entity cart-4 shard 3 records 2 state open 101:1" ∷
    codes "record 1 epoch 1 by 2:1 add 101 1 / added 101 1 / ok 1" ∷
    codes "record 2 epoch 1 by 2:2 remove 999 / - / no 4" ∷
    codes "entity cart-3 shard 4 records 3 state out 7:2" ∷
    codes "record 1 epoch 1 by 2:1 add 7 4 / added 7 4 / ok 1" ∷
    codes "record 2 epoch 2 by 1:1 adjust 7 2 / adjusted 7 2 / ok 1" ∷
    codes "record 3 epoch 2 by 2:2 checkout / checkedout / ok 1" ∷
    codes "entity cart-2 shard 5 records 1 state open 205:1" ∷
    codes "record 1 epoch 1 by 1:1 add 205 1 / added 205 1 / ok 1" ∷
    codes "entity cart-1 shard 6 records 3 state out 101:2,205:1" ∷
    codes "record 1 epoch 1 by 1:1 add 101 2 / added 101 2 / ok 1" ∷
    codes "record 2 epoch 1 by 1:2 add 205 1 / added 205 1 / ok 2" ∷
    codes "record 3 epoch 1 by 1:3 checkout / checkedout / ok 2" ∷
    codes "queue 1 cart-1 queued 3 confirmed 3" ∷
    codes "queue 1 cart-2 queued 1 confirmed 1" ∷
    codes "queue 1 cart-3 queued 1 confirmed 1" ∷
    codes "queue 1 cart-5 queued 1 confirmed 1" ∷
    codes "queue 2 cart-3 queued 2 confirmed 2" ∷
    codes "queue 2 cart-4 queued 2 confirmed 2" ∷
    codes "end" ∷
    []
