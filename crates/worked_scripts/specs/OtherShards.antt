use Rattle.std.specs.Prelude.{false, codes, List, [], ◌∷◌}
use Rattle.yard_model.specs.declared.event.Command.TheVariants as command
use Rattle.yard_model.specs.declared.event.Kind.TheVariants as kind
use Rattle.yard_model.specs.declared.charter.Order.TheVariants as order
use Rattle.yard_model.specs.Script.{Script}
use Rattle.yard_model.specs.Text.{Bytes}
use Rattle.worked_scripts.specs.Worked.{script_of}

-- While no node is up, the number of shards changes: the entity goes to another shard with its journal, and the epochs go on.
abbrev pub script : Script
script = script_of (record { nodes = 3; shards = 1; producers = 2; buffer = 100; window = 2; snapshot = 100; keep = 2; remember = false; kind = kind.Counter }) (
    (order.Up 1) ∷
    (order.Pump 9) ∷
    (order.Produce 1 1) ∷
    (order.Send 1 (codes "c1") (command.Add 5)) ∷
    (order.Pump 9) ∷
    (order.Crash 1) ∷
    (order.Reshard 10) ∷
    (order.Up 1) ∷
    (order.Pump 9) ∷
    (order.Produce 1 1) ∷
    (order.Send 1 (codes "c2") (command.Add 4)) ∷
    (order.Pump 9) ∷
    [])

abbrev pub printed : List Bytes
printed =
    codes "at 2" ∷
    codes "up 1.1" ∷
    codes "sent 1 1.1 1.1 view 1 1.1" ∷
    codes "at 3" ∷
    codes "got 1" ∷
    codes "view 1.1 1" ∷
    codes "granted coordinator 1 1.1" ∷
    codes "sent 2 1.1 1.1 register" ∷
    codes "got 2" ∷
    codes "registered 1.1" ∷
    codes "sent 3 1.1 1.1 registerack" ∷
    codes "got 3" ∷
    codes "at 4" ∷
    codes "granted queue:1 1 1.1" ∷
    codes "at 5" ∷
    codes "queued 1 c1 1 add 5" ∷
    codes "kept 1.1 1 c1 1" ∷
    codes "sent 4 1.1 1.1 getshardhome 0" ∷
    codes "at 6" ∷
    codes "got 4" ∷
    codes "allocated 0 1.1" ∷
    codes "sent 5 1.1 1.1 hostshard 0 1/0" ∷
    codes "sent 6 1.1 1.1 shardhome 0 1.1 1/0" ∷
    codes "got 5" ∷
    codes "home 1.1 0 1.1" ∷
    codes "granted shard:0 1 1.1" ∷
    codes "sent 7 1.1 1.1 shardstarted 0" ∷
    codes "start 1.1 c1" ∷
    codes "sent 8 1.1 1.1 recovered c1" ∷
    codes "stashed 1.1 1 c1 1" ∷
    codes "got 6" ∷
    codes "got 7" ∷
    codes "got 8" ∷
    codes "active 1.1 c1 0 0" ∷
    codes "wrote c1 1 epoch 1 by 1:1 add 5 / added 5 / ok 5" ∷
    codes "sent 9 1.1 1.1 ack 1 c1 1" ∷
    codes "sent 10 1.1 1.1 request 1 c1 1 3" ∷
    codes "got 9" ∷
    codes "confirmed 1 c1 1" ∷
    codes "got 10" ∷
    codes "at 7" ∷
    codes "gone 1.1" ∷
    codes "freed shard:0 1 stopped" ∷
    codes "freed coordinator 1 stopped" ∷
    codes "freed queue:1 1 stopped" ∷
    codes "at 8" ∷
    codes "reshard 10 1" ∷
    codes "at 9" ∷
    codes "up 1.2" ∷
    codes "sent 11 1.2 1.2 view 3 1.2" ∷
    codes "at 10" ∷
    codes "got 11" ∷
    codes "view 1.2 3" ∷
    codes "granted coordinator 2 1.2" ∷
    codes "terminated 1.1" ∷
    codes "sent 12 1.2 1.2 register" ∷
    codes "got 12" ∷
    codes "registered 1.2" ∷
    codes "sent 13 1.2 1.2 registerack" ∷
    codes "got 13" ∷
    codes "at 11" ∷
    codes "granted queue:1 2 1.2" ∷
    codes "at 12" ∷
    codes "queued 1 c2 1 add 4" ∷
    codes "kept 1.2 1 c2 1" ∷
    codes "sent 14 1.2 1.2 getshardhome 9" ∷
    codes "at 13" ∷
    codes "got 14" ∷
    codes "allocated 9 1.2" ∷
    codes "sent 15 1.2 1.2 hostshard 9 2/0" ∷
    codes "sent 16 1.2 1.2 shardhome 9 1.2 2/0" ∷
    codes "got 15" ∷
    codes "home 1.2 9 1.2" ∷
    codes "granted shard:9 2 1.2" ∷
    codes "sent 17 1.2 1.2 shardstarted 9" ∷
    codes "start 1.2 c2" ∷
    codes "sent 18 1.2 1.2 recovered c2" ∷
    codes "stashed 1.2 1 c2 1" ∷
    codes "got 16" ∷
    codes "got 17" ∷
    codes "got 18" ∷
    codes "active 1.2 c2 0 0" ∷
    codes "wrote c2 1 epoch 2 by 1:1 add 4 / added 4 / ok 4" ∷
    codes "sent 19 1.2 1.2 ack 1 c2 1" ∷
    codes "sent 20 1.2 1.2 request 1 c2 1 3" ∷
    codes "got 19" ∷
    codes "confirmed 1 c2 1" ∷
    codes "got 20" ∷
    codes "report" ∷
    codes "entity c1 shard 8 records 1 state 5" ∷
    codes "record 1 epoch 1 by 1:1 add 5 / added 5 / ok 5" ∷
    codes "entity c2 shard 9 records 1 state 4" ∷
    codes "record 1 epoch 2 by 1:1 add 4 / added 4 / ok 4" ∷
    codes "queue 1 c1 queued 1 confirmed 1" ∷
    codes "queue 1 c2 queued 1 confirmed 1" ∷
    codes "end" ∷
    []
