use Rattle.std.specs.Prelude.{false, codes, List, [], ◌∷◌}
use Rattle.yard_model.specs.declared.event.Command.TheVariants as command
use Rattle.yard_model.specs.declared.event.Kind.TheVariants as kind
use Rattle.yard_model.specs.declared.charter.Order.TheVariants as order
use Rattle.yard_model.specs.Script.{Script}
use Rattle.yard_model.specs.Text.{Bytes}
use Rattle.worked_scripts.specs.Worked.{script_of}

-- The stash of an entity that stops with its shard is dropped.
abbrev pub script : Script
script = script_of (record { nodes = 3; shards = 10; producers = 2; buffer = 100; window = 50; snapshot = 100; keep = 2; remember = false; kind = kind.Counter }) (
    (order.Up 1) ∷
    (order.Up 2) ∷
    (order.Up 3) ∷
    (order.Pump 60) ∷
    (order.Produce 1 2) ∷
    (order.Send 1 (codes "b") (command.Add 7)) ∷
    (order.Deliver 19) ∷
    (order.Deliver 20) ∷
    (order.Deliver 21) ∷
    (order.Deliver 23) ∷
    (order.Leave 1) ∷
    (order.Deliver 25) ∷
    (order.Deliver 26) ∷
    (order.Deliver 27) ∷
    (order.Deliver 28) ∷
    (order.Deliver 29) ∷
    (order.Deliver 30) ∷
    (order.Deliver 31) ∷
    (order.Deliver 32) ∷
    (order.Deliver 33) ∷
    [])

abbrev pub printed : List Bytes
printed =
    codes "at 2" ∷
    codes "up 1.1" ∷
    codes "sent 1 1.1 1.1 view 1 1.1" ∷
    codes "at 3" ∷
    codes "up 2.1" ∷
    codes "sent 2 1.1 1.1 view 2 1.1,2.1" ∷
    codes "sent 3 2.1 2.1 view 2 1.1,2.1" ∷
    codes "at 4" ∷
    codes "up 3.1" ∷
    codes "sent 4 1.1 1.1 view 3 1.1,2.1,3.1" ∷
    codes "sent 5 2.1 2.1 view 3 1.1,2.1,3.1" ∷
    codes "sent 6 3.1 3.1 view 3 1.1,2.1,3.1" ∷
    codes "at 5" ∷
    codes "got 1" ∷
    codes "view 1.1 1" ∷
    codes "granted coordinator 1 1.1" ∷
    codes "sent 7 1.1 1.1 register" ∷
    codes "got 2" ∷
    codes "view 1.1 2" ∷
    codes "sent 8 1.1 1.1 register" ∷
    codes "got 3" ∷
    codes "view 2.1 2" ∷
    codes "sent 9 2.1 1.1 register" ∷
    codes "got 4" ∷
    codes "view 1.1 3" ∷
    codes "sent 10 1.1 1.1 register" ∷
    codes "got 5" ∷
    codes "view 2.1 3" ∷
    codes "sent 11 2.1 1.1 register" ∷
    codes "got 6" ∷
    codes "view 3.1 3" ∷
    codes "sent 12 3.1 1.1 register" ∷
    codes "got 7" ∷
    codes "registered 1.1" ∷
    codes "sent 13 1.1 1.1 registerack" ∷
    codes "got 8" ∷
    codes "sent 14 1.1 1.1 registerack" ∷
    codes "got 9" ∷
    codes "registered 2.1" ∷
    codes "sent 15 1.1 2.1 registerack" ∷
    codes "got 10" ∷
    codes "sent 16 1.1 1.1 registerack" ∷
    codes "got 11" ∷
    codes "sent 17 1.1 2.1 registerack" ∷
    codes "got 12" ∷
    codes "registered 3.1" ∷
    codes "sent 18 1.1 3.1 registerack" ∷
    codes "got 13" ∷
    codes "got 14" ∷
    codes "got 15" ∷
    codes "got 16" ∷
    codes "got 17" ∷
    codes "got 18" ∷
    codes "at 6" ∷
    codes "granted queue:1 1 2.1" ∷
    codes "at 7" ∷
    codes "queued 1 b 1 add 7" ∷
    codes "kept 2.1 1 b 1" ∷
    codes "sent 19 2.1 1.1 getshardhome 8" ∷
    codes "at 8" ∷
    codes "got 19" ∷
    codes "allocated 8 1.1" ∷
    codes "sent 20 1.1 1.1 hostshard 8 1/0" ∷
    codes "sent 21 1.1 2.1 shardhome 8 1.1 1/0" ∷
    codes "at 9" ∷
    codes "got 20" ∷
    codes "home 1.1 8 1.1" ∷
    codes "granted shard:8 1 1.1" ∷
    codes "sent 22 1.1 1.1 shardstarted 8" ∷
    codes "at 10" ∷
    codes "got 21" ∷
    codes "home 2.1 8 1.1" ∷
    codes "sent 23 2.1 1.1 sequenced 1 b 1 2.1 add 7" ∷
    codes "at 11" ∷
    codes "got 23" ∷
    codes "start 1.1 b" ∷
    codes "sent 24 1.1 1.1 recovered b" ∷
    codes "stashed 1.1 1 b 1" ∷
    codes "at 12" ∷
    codes "sent 25 1.1 1.1 gracefulshutdownreq" ∷
    codes "at 13" ∷
    codes "got 25" ∷
    codes "moving 8 1/1" ∷
    codes "sent 26 1.1 1.1 beginhandoff 8 1/1" ∷
    codes "sent 27 1.1 2.1 beginhandoff 8 1/1" ∷
    codes "sent 28 1.1 3.1 beginhandoff 8 1/1" ∷
    codes "at 14" ∷
    codes "got 26" ∷
    codes "forget 1.1 8" ∷
    codes "sent 29 1.1 1.1 beginhandoffack 8 1/1" ∷
    codes "at 15" ∷
    codes "got 27" ∷
    codes "forget 2.1 8" ∷
    codes "sent 30 2.1 1.1 beginhandoffack 8 1/1" ∷
    codes "at 16" ∷
    codes "got 28" ∷
    codes "sent 31 3.1 1.1 beginhandoffack 8 1/1" ∷
    codes "at 17" ∷
    codes "got 29" ∷
    codes "at 18" ∷
    codes "got 30" ∷
    codes "at 19" ∷
    codes "got 31" ∷
    codes "sent 32 1.1 1.1 handoff 8 1/1" ∷
    codes "at 20" ∷
    codes "got 32" ∷
    codes "sent 33 1.1 1.1 stopentity b" ∷
    codes "at 21" ∷
    codes "got 33" ∷
    codes "stop 1.1 b" ∷
    codes "dropped 1.1 1 b 1" ∷
    codes "freed shard:8 1 released" ∷
    codes "sent 34 1.1 1.1 shardstopped 8 1/1" ∷
    codes "report" ∷
    codes "queue 1 b queued 1 confirmed 0" ∷
    codes "end" ∷
    []
