use Rattle.std.specs.Prelude.{false, codes, List, [], ◌∷◌}
use Rattle.yard_model.specs.declared.event.Command.TheVariants as command
use Rattle.yard_model.specs.declared.event.Kind.TheVariants as kind
use Rattle.yard_model.specs.declared.charter.Order.TheVariants as order
use Rattle.yard_model.specs.Script.{Script}
use Rattle.yard_model.specs.Text.{Bytes}
use Rattle.worked_scripts.specs.Worked.{script_of}

-- Nothing but a send that waits, and a settle.
abbrev pub script : Script
script = script_of (record { nodes = 3; shards = 1; producers = 1; buffer = 100; window = 2; snapshot = 100; keep = 2; remember = false; kind = kind.Counter }) (
    (order.Send 1 (codes "c1") (command.Add 5)) ∷
    (order.Settle) ∷
    [])

abbrev pub printed : List Bytes
printed =
    codes "at 2" ∷
    codes "waits 1 c1 add 5" ∷
    codes "at 3" ∷
    codes "up 1.1" ∷
    codes "sent 1 1.1 1.1 view 1 1.1" ∷
    codes "got 1" ∷
    codes "view 1.1 1" ∷
    codes "granted coordinator 1 1.1" ∷
    codes "sent 2 1.1 1.1 register" ∷
    codes "got 2" ∷
    codes "registered 1.1" ∷
    codes "sent 3 1.1 1.1 registerack" ∷
    codes "got 3" ∷
    codes "granted queue:1 1 1.1" ∷
    codes "queued 1 c1 1 add 5" ∷
    codes "kept 1.1 1 c1 1" ∷
    codes "sent 4 1.1 1.1 getshardhome 0" ∷
    codes "got 4" ∷
    codes "allocated 0 1.1" ∷
    codes "sent 5 1.1 1.1 hostshard 0 1/0" ∷
    codes "sent 6 1.1 1.1 shardhome 0 1.1 1/0" ∷
    codes "got 5" ∷
    codes "home 1.1 0 1.1" ∷
    codes "granted shard:0 1 1.1" ∷
    codes "sent 7 1.1 1.1 shardstarted 0" ∷
    codes "start 1.1 c1" ∷
    codes "sent 8 1.1 1.1 recovered c1" ∷
    codes "stashed 1.1 1 c1 1" ∷
    codes "got 6" ∷
    codes "got 7" ∷
    codes "got 8" ∷
    codes "active 1.1 c1 0 0" ∷
    codes "wrote c1 1 epoch 1 by 1:1 add 5 / added 5 / ok 5" ∷
    codes "sent 9 1.1 1.1 ack 1 c1 1" ∷
    codes "sent 10 1.1 1.1 request 1 c1 1 3" ∷
    codes "got 9" ∷
    codes "confirmed 1 c1 1" ∷
    codes "got 10" ∷
    codes "gone 1.1" ∷
    codes "freed shard:0 1 stopped" ∷
    codes "freed coordinator 1 stopped" ∷
    codes "freed queue:1 1 stopped" ∷
    codes "settled" ∷
    codes "report" ∷
    codes "entity c1 shard 0 records 1 state 5" ∷
    codes "record 1 epoch 1 by 1:1 add 5 / added 5 / ok 5" ∷
    codes "queue 1 c1 queued 1 confirmed 1" ∷
    codes "end" ∷
    []
