-- What is printed, as bytes: facts, reports and lists.
use Rattle.std.specs.Prelude.{ℕ, ◌==◌, List, [], ◌∷◌, ◌++◌, length, map, codes, decimal, if◌then◌else◌}
use Rattle.std.specs.List.{flat_map, join_with_byte}
use Rattle.yard_model.specs.declared.fact.Fact.{Fact}
use Rattle.yard_model.specs.declared.fact.Fact.TheVariants as fact
use Rattle.yard_model.specs.declared.packet.Body.{Body}
use Rattle.yard_model.specs.declared.packet.Body.TheVariants as body
use Rattle.yard_model.specs.declared.packet.Message.{Message}
use Rattle.yard_model.specs.declared.packet.Record.{Record}
use Rattle.yard_model.specs.declared.event.Command.{Command}
use Rattle.yard_model.specs.declared.event.Command.TheVariants as command
use Rattle.yard_model.specs.declared.event.Event.{Event}
use Rattle.yard_model.specs.declared.event.Event.TheVariants as event
use Rattle.yard_model.specs.declared.event.Reply.{Reply}
use Rattle.yard_model.specs.declared.event.Reply.TheVariants as reply
use Rattle.yard_model.specs.declared.state.State.{State}
use Rattle.yard_model.specs.declared.state.State.TheVariants as state
use Rattle.yard_model.specs.declared.state.CartItem.{CartItem}
use Rattle.yard_model.specs.declared.incarnation.Incarnation.{Incarnation}
use Rattle.yard_model.specs.declared.incarnation.Stamp.{Stamp}
use Rattle.yard_model.specs.declared.incarnation.Slot.{Slot}
use Rattle.yard_model.specs.declared.incarnation.Slot.TheVariants as slot
use Rattle.yard_model.specs.declared.incarnation.Cause.{Cause}
use Rattle.yard_model.specs.declared.incarnation.Cause.TheVariants as cause
use Rattle.yard_model.specs.declared.incarnation.Keep.{Keep}
use Rattle.yard_model.specs.declared.incarnation.Keep.TheVariants as keep
use Rattle.yard_model.specs.Script.{Setting}
use Rattle.yard_model.specs.Setting.{shards, producers, shard_of, names_of}
use Rattle.yard_model.specs.Behaviour.{folded}
use Rattle.yard_model.specs.SlotLists.{SlotLists, shard_list, queue_list}
use Rattle.yard_model.specs.SlotReads.{journal, queued, confirmed}

abbrev pub Bytes : Type 0
Bytes = List ℕ

-- words with a space between each two
abbrev pub words : List Bytes → Bytes
words ws = join_with_byte 32 ws

-- a line: its words, and LF
abbrev pub line : List Bytes → Bytes
line ws = words ws ++ 10 ∷ []

-- `node.number`
abbrev pub incarnation_text : Incarnation → Bytes
incarnation_text x = decimal x.node ++ 46 ∷ decimal x.number

-- `epoch/round`
abbrev pub stamp_text : Stamp → Bytes
stamp_text s = decimal s.epoch ++ 47 ∷ decimal s.round

abbrev pub slot_text : Slot → Bytes
slot_text (slot.Shard s) = codes "shard:" ++ decimal s
slot_text slot.Coordinator = codes "coordinator"
slot_text (slot.Queue p) = codes "queue:" ++ decimal p

abbrev pub command_text : Command → Bytes
command_text (command.Add k) = words (codes "add" ∷ decimal k ∷ [])
command_text command.Read = codes "read"
command_text command.Create = codes "create"
command_text (command.Deposit k) = words (codes "deposit" ∷ decimal k ∷ [])
command_text (command.Withdraw k) = words (codes "withdraw" ∷ decimal k ∷ [])
command_text (command.DepositWithMemo m k) = words (codes "deposit" ∷ decimal k ∷ decimal m ∷ [])
command_text (command.WithdrawWithMemo m k) = words (codes "withdraw" ∷ decimal k ∷ decimal m ∷ [])
command_text command.Balance = codes "balance"
command_text command.Close = codes "close"
command_text (command.AddItem x) = words (codes "add" ∷ decimal x.item ∷ decimal x.quantity ∷ [])
command_text (command.RemoveItem i) = words (codes "remove" ∷ decimal i ∷ [])
command_text (command.AdjustItem x) = words (codes "adjust" ∷ decimal x.item ∷ decimal x.quantity ∷ [])
command_text command.Checkout = codes "checkout"

abbrev pub event_text : Event → Bytes
event_text (event.Added k) = words (codes "added" ∷ decimal k ∷ [])
event_text event.Created = codes "created"
event_text (event.Deposited k) = words (codes "deposited" ∷ decimal k ∷ [])
event_text (event.Withdrawn k) = words (codes "withdrawn" ∷ decimal k ∷ [])
event_text (event.DepositedWithMemo m k) = words (codes "deposited" ∷ decimal k ∷ codes "memo" ∷ decimal m ∷ [])
event_text (event.WithdrawnWithMemo m k) = words (codes "withdrawn" ∷ decimal k ∷ codes "memo" ∷ decimal m ∷ [])
event_text event.AccountClosed = codes "closed"
event_text (event.ItemAdded x) = words (codes "added" ∷ decimal x.item ∷ decimal x.quantity ∷ [])
event_text (event.ItemRemoved i) = words (codes "removed" ∷ decimal i ∷ [])
event_text (event.ItemAdjusted x) = words (codes "adjusted" ∷ decimal x.item ∷ decimal x.quantity ∷ [])
event_text event.CheckedOut = codes "checkedout"

-- joined by `, `, or `-` where there are none
abbrev pub events_text : List Event → Bytes
events_text [] = codes "-"
events_text (e ∷ []) = event_text e
events_text (e ∷ f ∷ es) = event_text e ++ codes ", " ++ events_text (f ∷ es)

abbrev pub reply_text : Reply → Bytes
reply_text (reply.Value v) = words (codes "ok" ∷ decimal v ∷ [])
reply_text (reply.Rejected r) = words (codes "no" ∷ decimal r ∷ [])

abbrev pub item_text : CartItem → Bytes
item_text x = decimal x.item ++ 58 ∷ decimal x.quantity

-- `ITEM:QUANTITY` by rising item, joined by commas, or `-` where there are none
abbrev pub items_text : List CartItem → Bytes
items_text [] = codes "-"
items_text (x ∷ xs) = join_with_byte 44 (map item_text (x ∷ xs))

abbrev pub state_text : State → Bytes
state_text (state.Counter n) = decimal n
state_text state.NoAccount = codes "none"
state_text (state.Open b m) = words (codes "open" ∷ decimal b ∷ (if m == 0 then [] else codes "memo" ∷ decimal m ∷ []))
state_text state.Closed = codes "closed"
state_text (state.Cart out items) = words ((if out then codes "out" else codes "open") ∷ items_text items ∷ [])

-- what a packet prints behind its addressee
abbrev pub body_words : Body → List Bytes
body_words (body.View v ms) = codes "view" ∷ decimal v ∷ join_with_byte 44 (map incarnation_text ms) ∷ []
body_words body.Register = codes "register" ∷ []
body_words body.RegisterAck = codes "registerack" ∷ []
body_words (body.GetShardHome s) = codes "getshardhome" ∷ decimal s ∷ []
body_words (body.ShardHome s h st) = codes "shardhome" ∷ decimal s ∷ incarnation_text h ∷ stamp_text st ∷ []
body_words (body.HostShard s st) = codes "hostshard" ∷ decimal s ∷ stamp_text st ∷ []
body_words (body.ShardStarted s) = codes "shardstarted" ∷ decimal s ∷ []
body_words (body.BeginHandOff s st) = codes "beginhandoff" ∷ decimal s ∷ stamp_text st ∷ []
body_words (body.BeginHandOffAck s st) = codes "beginhandoffack" ∷ decimal s ∷ stamp_text st ∷ []
body_words (body.HandOff s st) = codes "handoff" ∷ decimal s ∷ stamp_text st ∷ []
body_words (body.ShardStopped s st) = codes "shardstopped" ∷ decimal s ∷ stamp_text st ∷ []
body_words body.GracefulShutdownReq = codes "gracefulshutdownreq" ∷ []
body_words (body.StopEntity e) = codes "stopentity" ∷ e ∷ []
body_words (body.Recovered e) = codes "recovered" ∷ e ∷ []
body_words (body.Passivate e) = codes "passivate" ∷ e ∷ []
body_words (body.Sequenced m) = codes "sequenced" ∷ decimal m.producer ∷ m.entity ∷ decimal m.number ∷ incarnation_text m.origin ∷ command_text m.command ∷ []
body_words (body.Request p e n u) = codes "request" ∷ decimal p ∷ e ∷ decimal n ∷ decimal u ∷ []
body_words (body.Resend p e n) = codes "resend" ∷ decimal p ∷ e ∷ decimal n ∷ []
body_words (body.Ack p e n) = codes "ack" ∷ decimal p ∷ e ∷ decimal n ∷ []

abbrev pub record_words : Record → List Bytes
record_words r = decimal r.number ∷ codes "epoch" ∷ decimal r.epoch ∷ codes "by" ∷ (decimal r.producer ++ 58 ∷ decimal r.place) ∷ command_text r.command
    ∷ codes "/" ∷ events_text r.events ∷ codes "/" ∷ reply_text r.reply ∷ []

abbrev pub cause_text : Cause → Bytes
cause_text cause.Released = codes "released"
cause_text cause.Stopped = codes "stopped"

abbrev pub keep_text : Keep → Bytes
keep_text keep.Kept = codes "kept"
keep_text keep.Lost = codes "lost"

-- of a message that is kept, dropped or stashed
abbrev pub message_words : Message → List Bytes
message_words m = decimal m.producer ∷ m.entity ∷ decimal m.number ∷ []

-- what a fact prints
abbrev pub fact_words : Fact → List Bytes
fact_words (fact.At n) = codes "at" ∷ decimal n ∷ []
fact_words fact.Nothing = codes "nothing" ∷ []
fact_words fact.WireFull = codes "wirefull" ∷ []
fact_words fact.Settled = codes "settled" ∷ []
fact_words (fact.Up x) = codes "up" ∷ incarnation_text x ∷ []
fact_words (fact.Gone x) = codes "gone" ∷ incarnation_text x ∷ []
fact_words (fact.View x v) = codes "view" ∷ incarnation_text x ∷ decimal v ∷ []
fact_words (fact.Sent k p) = codes "sent" ∷ decimal k ∷ incarnation_text p.from ∷ incarnation_text p.to ∷ body_words p.body
fact_words (fact.Got k) = codes "got" ∷ decimal k ∷ []
fact_words (fact.Granted s n x) = codes "granted" ∷ slot_text s ∷ decimal n ∷ incarnation_text x ∷ []
fact_words (fact.Freed s n why) = codes "freed" ∷ slot_text s ∷ decimal n ∷ cause_text why ∷ []
fact_words (fact.Held s x n) = codes "held" ∷ slot_text s ∷ incarnation_text x ∷ codes "by" ∷ decimal n ∷ []
fact_words (fact.Registered r) = codes "registered" ∷ incarnation_text r ∷ []
fact_words (fact.Terminated r) = codes "terminated" ∷ incarnation_text r ∷ []
fact_words (fact.Allocated s r) = codes "allocated" ∷ decimal s ∷ incarnation_text r ∷ []
fact_words (fact.Deallocated s) = codes "deallocated" ∷ decimal s ∷ []
fact_words (fact.Moving s st) = codes "moving" ∷ decimal s ∷ stamp_text st ∷ []
fact_words (fact.Home x s h) = codes "home" ∷ incarnation_text x ∷ decimal s ∷ incarnation_text h ∷ []
fact_words (fact.Forget x s) = codes "forget" ∷ incarnation_text x ∷ decimal s ∷ []
fact_words (fact.Kept x m) = codes "kept" ∷ incarnation_text x ∷ message_words m
fact_words (fact.Dropped x m) = codes "dropped" ∷ incarnation_text x ∷ message_words m
fact_words (fact.Stashed x m) = codes "stashed" ∷ incarnation_text x ∷ message_words m
fact_words (fact.Start x e) = codes "start" ∷ incarnation_text x ∷ e ∷ []
fact_words (fact.Active x e n st) = codes "active" ∷ incarnation_text x ∷ e ∷ decimal n ∷ state_text st ∷ []
fact_words (fact.Stop x e) = codes "stop" ∷ incarnation_text x ∷ e ∷ []
fact_words (fact.WriteFailed x e) = codes "writefailed" ∷ incarnation_text x ∷ e ∷ []
fact_words (fact.Armed e k) = codes "armed" ∷ e ∷ keep_text k ∷ []
fact_words (fact.Wrote e r) = codes "wrote" ∷ e ∷ record_words r
fact_words (fact.Snapshot e n) = codes "snapshot" ∷ e ∷ decimal n ∷ []
fact_words (fact.Remembered e) = codes "remembered" ∷ e ∷ []
fact_words (fact.Forgotten e) = codes "forgotten" ∷ e ∷ []
fact_words (fact.Waits p e k) = codes "waits" ∷ decimal p ∷ e ∷ command_text k ∷ []
fact_words (fact.Queued p e n k) = codes "queued" ∷ decimal p ∷ e ∷ decimal n ∷ command_text k ∷ []
fact_words (fact.Confirmed p e n) = codes "confirmed" ∷ decimal p ∷ e ∷ decimal n ∷ []
fact_words (fact.Reshard n k) = codes "reshard" ∷ decimal n ∷ decimal k ∷ []
fact_words (fact.Resharded s n k) = codes "reshard" ∷ decimal n ∷ decimal k ∷ []
fact_words (fact.Upgrade v) = codes "upgrade" ∷ decimal v ∷ []
fact_words (fact.SentAsk k x) = codes "sent" ∷ decimal k ∷ codes "ask" ∷ incarnation_text x ∷ []
fact_words (fact.SentJob k x e) = codes "sent" ∷ decimal k ∷ codes "job" ∷ incarnation_text x ∷ e ∷ []
fact_words (fact.SentDone k x e) = codes "sent" ∷ decimal k ∷ codes "done" ∷ incarnation_text x ∷ e ∷ []
fact_words (fact.Given e x) = codes "given" ∷ e ∷ incarnation_text x ∷ []
fact_words (fact.Did x e) = codes "did" ∷ incarnation_text x ∷ e ∷ []

abbrev pub fact_line : Fact → Bytes
fact_line f = line (fact_words f)

-- an entity with a record: its line, and one for each record
abbrev pub entity_lines : Setting → List ℕ → List Record → Bytes
entity_lines set e [] = []
entity_lines set e (r ∷ rs) =
    line (codes "entity" ∷ e ∷ codes "shard" ∷ decimal (shard_of set e) ∷ codes "records" ∷ decimal (length (r ∷ rs)) ∷ codes "state" ∷ state_text (folded set.config.kind (r ∷ rs)) ∷ [])
    ++ flat_map (λ x. line (codes "record" ∷ record_words x)) (r ∷ rs)

-- the entities by shard and name, where this tells the journal of each
abbrev pub entities_text : Setting → (List ℕ → List Record) → Bytes
entities_text set journal_of = flat_map (λ s. flat_map (λ e. entity_lines set e (journal_of e)) (names_of set s)) (shards set)

-- a pair with a queued command
abbrev pub queue_line : ℕ → List Fact → List ℕ → Bytes
queue_line p list e =
    if queued e list == 0 then []
    else line (codes "queue" ∷ decimal p ∷ e ∷ codes "queued" ∷ decimal (queued e list) ∷ codes "confirmed" ∷ decimal (confirmed e list) ∷ [])

-- the queues by producer and name
abbrev pub queues_text : Setting → SlotLists → Bytes
queues_text set lists = flat_map (λ p. flat_map (queue_line p (queue_list lists p)) set.names) (producers set)

-- Report: what the lists come to
abbrev pub report : Setting → SlotLists → Bytes
report set lists = line (codes "report" ∷ []) ++ entities_text set (λ e. journal e (shard_list lists (shard_of set e))) ++ queues_text set lists ++ line (codes "end" ∷ [])

-- of a slot with entries: `slot SLOT LENGTH` and the entries' lines
abbrev pub slot_lines : Slot → List Fact → Bytes
slot_lines s [] = []
slot_lines s (f ∷ fs) = line (codes "slot" ∷ slot_text s ∷ decimal (length (f ∷ fs)) ∷ []) ++ flat_map fact_line (f ∷ fs)

-- LiveText: the lists of all slots, and their report
abbrev pub lists_text : Setting → SlotLists → Bytes
lists_text set lists =
    flat_map (λ s. slot_lines (slot.Shard s) (shard_list lists s)) (shards set)
    ++ slot_lines slot.Coordinator lists.coordinator
    ++ flat_map (λ p. slot_lines (slot.Queue p) (queue_list lists p)) (producers set)
    ++ report set lists
