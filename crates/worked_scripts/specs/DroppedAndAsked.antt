use Rattle.std.specs.Prelude.{false, codes, List, [], ◌∷◌}
use Rattle.yard_model.specs.declared.event.Command.TheVariants as command
use Rattle.yard_model.specs.declared.event.Kind.TheVariants as kind
use Rattle.yard_model.specs.declared.charter.Order.TheVariants as order
use Rattle.yard_model.specs.Script.{Script}
use Rattle.yard_model.specs.Text.{Bytes}
use Rattle.worked_scripts.specs.Worked.{script_of}

-- A message that is dropped asks for its shard's home.
abbrev pub script : Script
script = script_of (record { nodes = 3; shards = 10; producers = 2; buffer = 1; window = 50; snapshot = 100; keep = 2; remember = false; kind = kind.Counter }) (
    (order.Up 1) ∷
    (order.Pump 9) ∷
    (order.Produce 1 1) ∷
    (order.Send 1 (codes "a") (command.Add 1)) ∷
    (order.Send 1 (codes "b") (command.Add 2)) ∷
    (order.Pump 20) ∷
    [])

abbrev pub printed : List Bytes
printed =
    codes "at 2" ∷
    codes "up 1.1" ∷
    codes "sent 1 1.1 1.1 view 1 1.1" ∷
    codes "at 3" ∷
    codes "got 1" ∷
    codes "view 1.1 1" ∷
    codes "granted coordinator 1 1.1" ∷
    codes "sent 2 1.1 1.1 register" ∷
    codes "got 2" ∷
    codes "registered 1.1" ∷
    codes "sent 3 1.1 1.1 registerack" ∷
    codes "got 3" ∷
    codes "at 4" ∷
    codes "granted queue:1 1 1.1" ∷
    codes "at 5" ∷
    codes "queued 1 a 1 add 1" ∷
    codes "kept 1.1 1 a 1" ∷
    codes "sent 4 1.1 1.1 getshardhome 7" ∷
    codes "at 6" ∷
    codes "queued 1 b 1 add 2" ∷
    codes "dropped 1.1 1 b 1" ∷
    codes "sent 5 1.1 1.1 getshardhome 8" ∷
    codes "at 7" ∷
    codes "got 4" ∷
    codes "allocated 7 1.1" ∷
    codes "sent 6 1.1 1.1 hostshard 7 1/0" ∷
    codes "sent 7 1.1 1.1 shardhome 7 1.1 1/0" ∷
    codes "got 5" ∷
    codes "allocated 8 1.1" ∷
    codes "sent 8 1.1 1.1 hostshard 8 1/0" ∷
    codes "sent 9 1.1 1.1 shardhome 8 1.1 1/0" ∷
    codes "got 6" ∷
    codes "home 1.1 7 1.1" ∷
    codes "granted shard:7 1 1.1" ∷
    codes "sent 10 1.1 1.1 shardstarted 7" ∷
    codes "start 1.1 a" ∷
    codes "sent 11 1.1 1.1 recovered a" ∷
    codes "stashed 1.1 1 a 1" ∷
    codes "got 7" ∷
    codes "got 8" ∷
    codes "home 1.1 8 1.1" ∷
    codes "granted shard:8 1 1.1" ∷
    codes "sent 12 1.1 1.1 shardstarted 8" ∷
    codes "got 9" ∷
    codes "got 10" ∷
    codes "got 11" ∷
    codes "active 1.1 a 0 0" ∷
    codes "wrote a 1 epoch 1 by 1:1 add 1 / added 1 / ok 1" ∷
    codes "sent 13 1.1 1.1 ack 1 a 1" ∷
    codes "sent 14 1.1 1.1 request 1 a 1 51" ∷
    codes "got 12" ∷
    codes "got 13" ∷
    codes "confirmed 1 a 1" ∷
    codes "got 14" ∷
    codes "report" ∷
    codes "entity a shard 7 records 1 state 1" ∷
    codes "record 1 epoch 1 by 1:1 add 1 / added 1 / ok 1" ∷
    codes "queue 1 a queued 1 confirmed 1" ∷
    codes "queue 1 b queued 1 confirmed 0" ∷
    codes "end" ∷
    []
