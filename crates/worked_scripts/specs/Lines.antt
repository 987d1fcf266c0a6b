-- Facts with their lines: each form of a fact, a slot, a packet, a command, an event, a reply and a state.
use Rattle.std.specs.Prelude.{ℕ, true, false, codes, List, [], ◌∷◌, map}
use Rattle.std.specs.List.{flat_map}
use Rattle.yard_model.specs.declared.event.Command.{Command}
use Rattle.yard_model.specs.declared.event.Command.TheVariants as command
use Rattle.yard_model.specs.declared.event.Event.{Event}
use Rattle.yard_model.specs.declared.event.Event.TheVariants as event
use Rattle.yard_model.specs.declared.event.Reply.{Reply}
use Rattle.yard_model.specs.declared.event.Reply.TheVariants as reply
use Rattle.yard_model.specs.declared.fact.Fact.{Fact}
use Rattle.yard_model.specs.declared.fact.Fact.TheVariants as fact
use Rattle.yard_model.specs.declared.incarnation.Cause.TheVariants as cause
use Rattle.yard_model.specs.declared.incarnation.Incarnation.{Incarnation}
use Rattle.yard_model.specs.declared.incarnation.Keep.TheVariants as keep
use Rattle.yard_model.specs.declared.incarnation.Slot.TheVariants as slot
use Rattle.yard_model.specs.declared.incarnation.Stamp.{Stamp}
use Rattle.yard_model.specs.declared.packet.Body.{Body}
use Rattle.yard_model.specs.declared.packet.Body.TheVariants as body
use Rattle.yard_model.specs.declared.packet.Message.{Message}
use Rattle.yard_model.specs.declared.state.CartItem.{CartItem}
use Rattle.yard_model.specs.declared.state.State.{State}
use Rattle.yard_model.specs.declared.state.State.TheVariants as state
use Rattle.yard_model.specs.Text.{Bytes, fact_line}

abbrev pub one : Incarnation
one = record { node = 1; number = 1 }

abbrev pub two : Incarnation
two = record { node = 2; number = 1 }

abbrev pub stamp : Stamp
stamp = record { epoch = 1; round = 2 }

abbrev pub item : CartItem
item = record { item = 7; quantity = 3 }

abbrev pub message : Message
message = record { producer = 1; entity = codes "c1"; number = 2; command = command.Add 5; origin = two }

-- what facts print
abbrev pub printed : List Fact → Bytes
printed facts = flat_map fact_line facts

abbrev pub facts_of_nodes : List Fact
facts_of_nodes =
    fact.At 2 ∷ fact.Nothing ∷ fact.WireFull ∷ fact.Settled ∷ fact.Up one ∷ fact.Gone one ∷ fact.View one 3 ∷ fact.Got 12
    ∷ fact.Granted slot.Coordinator 1 one ∷ fact.Granted (slot.Queue 1) 2 one
    ∷ fact.Freed (slot.Shard 0) 1 cause.Stopped ∷ fact.Freed (slot.Shard 0) 1 cause.Released ∷ fact.Held (slot.Shard 0) one 2
    ∷ fact.Reshard 10 1 ∷ fact.Upgrade 2 ∷ []

abbrev pub lines_of_nodes : List Bytes
lines_of_nodes =
    codes "at 2" ∷ codes "nothing" ∷ codes "wirefull" ∷ codes "settled" ∷ codes "up 1.1" ∷ codes "gone 1.1" ∷ codes "view 1.1 3" ∷ codes "got 12"
    ∷ codes "granted coordinator 1 1.1" ∷ codes "granted queue:1 2 1.1"
    ∷ codes "freed shard:0 1 stopped" ∷ codes "freed shard:0 1 released" ∷ codes "held shard:0 1.1 by 2"
    ∷ codes "reshard 10 1" ∷ codes "upgrade 2" ∷ []

abbrev pub facts_of_shards : List Fact
facts_of_shards =
    fact.Registered two ∷ fact.Terminated one ∷ fact.Allocated 0 one ∷ fact.Deallocated 0 ∷ fact.Moving 0 stamp ∷ fact.Home two 0 one ∷ fact.Forget two 0
    ∷ fact.Kept one message ∷ fact.Dropped one message ∷ fact.Stashed one message
    ∷ fact.Start one (codes "c1") ∷ fact.Stop one (codes "c1") ∷ fact.WriteFailed one (codes "c1")
    ∷ fact.Armed (codes "c1") keep.Kept ∷ fact.Armed (codes "c1") keep.Lost
    ∷ fact.Snapshot (codes "c1") 2 ∷ fact.Remembered (codes "c1") ∷ fact.Forgotten (codes "c1")
    ∷ fact.SentAsk 1 two ∷ fact.SentJob 3 two (codes "c1") ∷ fact.SentDone 5 two (codes "c1") ∷ fact.Given (codes "c1") two ∷ fact.Did two (codes "c1") ∷ []

abbrev pub lines_of_shards : List Bytes
lines_of_shards =
    codes "registered 2.1" ∷ codes "terminated 1.1" ∷ codes "allocated 0 1.1" ∷ codes "deallocated 0" ∷ codes "moving 0 1/2" ∷ codes "home 2.1 0 1.1" ∷ codes "forget 2.1 0"
    ∷ codes "kept 1.1 1 c1 2" ∷ codes "dropped 1.1 1 c1 2" ∷ codes "stashed 1.1 1 c1 2"
    ∷ codes "start 1.1 c1" ∷ codes "stop 1.1 c1" ∷ codes "writefailed 1.1 c1"
    ∷ codes "armed c1 kept" ∷ codes "armed c1 lost"
    ∷ codes "snapshot c1 2" ∷ codes "remembered c1" ∷ codes "forgotten c1"
    ∷ codes "sent 1 ask 2.1" ∷ codes "sent 3 job 2.1 c1" ∷ codes "sent 5 done 2.1 c1" ∷ codes "given c1 2.1" ∷ codes "did 2.1 c1" ∷ []

-- commands, as they wait, and one that is queued and confirmed
abbrev pub commands : List Command
commands =
    command.Read ∷ command.Create ∷ command.Deposit 4 ∷ command.Withdraw 4 ∷ command.DepositWithMemo 7 5 ∷ command.WithdrawWithMemo 7 5 ∷ command.Balance ∷ command.Close
    ∷ command.AddItem item ∷ command.RemoveItem 7 ∷ command.AdjustItem item ∷ command.Checkout ∷ []

abbrev pub facts_of_queues : List Fact
facts_of_queues = fact.Queued 1 (codes "c1") 1 (command.Add 5) ∷ fact.Confirmed 1 (codes "c1") 1 ∷ map (fact.Waits 1 (codes "c1")) commands

abbrev pub lines_of_queues : List Bytes
lines_of_queues =
    codes "queued 1 c1 1 add 5" ∷ codes "confirmed 1 c1 1"
    ∷ codes "waits 1 c1 read" ∷ codes "waits 1 c1 create" ∷ codes "waits 1 c1 deposit 4" ∷ codes "waits 1 c1 withdraw 4"
    ∷ codes "waits 1 c1 deposit 5 7" ∷ codes "waits 1 c1 withdraw 5 7" ∷ codes "waits 1 c1 balance" ∷ codes "waits 1 c1 close"
    ∷ codes "waits 1 c1 add 7 3" ∷ codes "waits 1 c1 remove 7" ∷ codes "waits 1 c1 adjust 7 3" ∷ codes "waits 1 c1 checkout" ∷ []

-- what packets say
abbrev pub bodies : List Body
bodies =
    body.View 2 (one ∷ two ∷ []) ∷ body.Register ∷ body.RegisterAck ∷ body.GetShardHome 0 ∷ body.ShardHome 0 one stamp ∷ body.HostShard 0 stamp ∷ body.ShardStarted 0
    ∷ body.BeginHandOff 0 stamp ∷ body.BeginHandOffAck 0 stamp ∷ body.HandOff 0 stamp ∷ body.ShardStopped 0 stamp ∷ body.GracefulShutdownReq
    ∷ body.StopEntity (codes "c1") ∷ body.Recovered (codes "c1") ∷ body.Passivate (codes "c1") ∷ body.Sequenced message
    ∷ body.Request 1 (codes "c1") 1 5 ∷ body.Resend 1 (codes "c1") 2 ∷ body.Ack 1 (codes "c1") 1 ∷ []

abbrev pub facts_of_packets : List Fact
facts_of_packets = map (λ b. fact.Sent 9 (record { from = one; to = two; body = b })) bodies

abbrev pub lines_of_packets : List Bytes
lines_of_packets =
    codes "sent 9 1.1 2.1 view 2 1.1,2.1" ∷ codes "sent 9 1.1 2.1 register" ∷ codes "sent 9 1.1 2.1 registerack" ∷ codes "sent 9 1.1 2.1 getshardhome 0"
    ∷ codes "sent 9 1.1 2.1 shardhome 0 1.1 1/2" ∷ codes "sent 9 1.1 2.1 hostshard 0 1/2" ∷ codes "sent 9 1.1 2.1 shardstarted 0"
    ∷ codes "sent 9 1.1 2.1 beginhandoff 0 1/2" ∷ codes "sent 9 1.1 2.1 beginhandoffack 0 1/2" ∷ codes "sent 9 1.1 2.1 handoff 0 1/2" ∷ codes "sent 9 1.1 2.1 shardstopped 0 1/2"
    ∷ codes "sent 9 1.1 2.1 gracefulshutdownreq" ∷ codes "sent 9 1.1 2.1 stopentity c1" ∷ codes "sent 9 1.1 2.1 recovered c1" ∷ codes "sent 9 1.1 2.1 passivate c1"
    ∷ codes "sent 9 1.1 2.1 sequenced 1 c1 2 2.1 add 5" ∷ codes "sent 9 1.1 2.1 request 1 c1 1 5" ∷ codes "sent 9 1.1 2.1 resend 1 c1 2" ∷ codes "sent 9 1.1 2.1 ack 1 c1 1" ∷ []

-- a record of c1 with these events
abbrev pub written : List Event → Reply → Fact
written events reply = fact.Wrote (codes "c1") (record { number = 3; epoch = 2; producer = 1; place = 4; command = command.Add 5; events = events; reply = reply })

abbrev pub facts_of_records : List Fact
facts_of_records =
    written [] (reply.Rejected 2) ∷ written (event.Added 5 ∷ []) (reply.Value 8) ∷ written (event.Created ∷ event.Deposited 4 ∷ []) (reply.Value 4)
    ∷ written (event.Withdrawn 4 ∷ event.AccountClosed ∷ []) (reply.Value 0) ∷ written (event.ItemAdded item ∷ event.ItemAdjusted item ∷ []) (reply.Value 1)
    ∷ written (event.ItemRemoved 7 ∷ event.CheckedOut ∷ []) (reply.Value 1) ∷ written (event.DepositedWithMemo 0 4 ∷ event.WithdrawnWithMemo 12 3 ∷ []) (reply.Value 1) ∷ []

abbrev pub lines_of_records : List Bytes
lines_of_records =
    codes "wrote c1 3 epoch 2 by 1:4 add 5 / - / no 2" ∷ codes "wrote c1 3 epoch 2 by 1:4 add 5 / added 5 / ok 8" ∷ codes "wrote c1 3 epoch 2 by 1:4 add 5 / created, deposited 4 / ok 4"
    ∷ codes "wrote c1 3 epoch 2 by 1:4 add 5 / withdrawn 4, closed / ok 0" ∷ codes "wrote c1 3 epoch 2 by 1:4 add 5 / added 7 3, adjusted 7 3 / ok 1"
    ∷ codes "wrote c1 3 epoch 2 by 1:4 add 5 / removed 7, checkedout / ok 1" ∷ codes "wrote c1 3 epoch 2 by 1:4 add 5 / deposited 4 memo 0, withdrawn 3 memo 12 / ok 1" ∷ []

abbrev pub states : List State
states =
    state.Counter 8 ∷ state.NoAccount ∷ state.Open 1000000000000000 0 ∷ state.Open 70 12 ∷ state.Closed
    ∷ state.Cart false [] ∷ state.Cart true (record { item = 2; quantity = 1 } ∷ item ∷ []) ∷ []

abbrev pub facts_of_states : List Fact
facts_of_states = map (fact.Active one (codes "c1") 3) states

abbrev pub lines_of_states : List Bytes
lines_of_states =
    codes "active 1.1 c1 3 8" ∷ codes "active 1.1 c1 3 none" ∷ codes "active 1.1 c1 3 open 1000000000000000" ∷ codes "active 1.1 c1 3 open 70 memo 12" ∷ codes "active 1.1 c1 3 closed"
    ∷ codes "active 1.1 c1 3 open -" ∷ codes "active 1.1 c1 3 out 2:1,7:3" ∷ []
