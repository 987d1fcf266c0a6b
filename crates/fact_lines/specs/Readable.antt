-- Which facts a line is read as: those of slots' lists, of entities' lives, of nodes that are gone, and of the script's
-- changes, with numbers that fit what keeps them.
use Rattle.std.specs.Prelude.{◌≡◌, ℕ, ◌≤◌, true, List, [], ◌∷◌, length}
use Rattle.yard_model.specs.declared.fact.Fact.{Fact}
use Rattle.yard_model.specs.declared.fact.Fact.TheVariants as fact
use Rattle.yard_model.specs.declared.incarnation.Incarnation.{Incarnation}
use Rattle.yard_model.specs.declared.incarnation.Slot.{Slot}
use Rattle.yard_model.specs.declared.incarnation.Slot.TheVariants as slot
use Rattle.yard_model.specs.declared.event.Command.{Command}
use Rattle.yard_model.specs.declared.event.Command.TheVariants as command
use Rattle.yard_model.specs.declared.event.Event.{Event}
use Rattle.yard_model.specs.declared.event.Event.TheVariants as event
use Rattle.yard_model.specs.declared.event.Reply.{Reply}
use Rattle.yard_model.specs.declared.event.Reply.TheVariants as reply
use Rattle.yard_model.specs.declared.packet.Record.{Record}
use Rattle.yard_model.specs.declared.state.CartItem.{CartItem}
use Rattle.fact_lines.specs.Reads.{byte, is_entity, long, short, wide}

abbrev pub FitsIncarnation : Incarnation → Type 0
FitsIncarnation x = (1 ≤ x.node) × (x.node ≤ 16) × (x.number ≤ long)

abbrev pub FitsProducer : ℕ → Type 0
FitsProducer p = (1 ≤ p) × (p ≤ 32)

abbrev pub FitsSlot : Slot → Type 0
FitsSlot (slot.Shard s) = s ≤ 127
FitsSlot slot.Coordinator = Unit {0}
FitsSlot (slot.Queue p) = FitsProducer p

abbrev pub FitsItem : CartItem → Type 0
FitsItem x = (x.item ≤ short) × (x.quantity ≤ short)

abbrev pub FitsCommand : Command → Type 0
FitsCommand (command.Add k) = k ≤ short
FitsCommand command.Read = Unit {0}
FitsCommand command.Create = Unit {0}
FitsCommand (command.Deposit k) = k ≤ long
FitsCommand (command.Withdraw k) = k ≤ long
FitsCommand (command.DepositWithMemo m k) = (m ≤ short) × (k ≤ long)
FitsCommand (command.WithdrawWithMemo m k) = (m ≤ short) × (k ≤ long)
FitsCommand command.Balance = Unit {0}
FitsCommand command.Close = Unit {0}
FitsCommand (command.AddItem x) = FitsItem x
FitsCommand (command.RemoveItem i) = i ≤ short
FitsCommand (command.AdjustItem x) = FitsItem x
FitsCommand command.Checkout = Unit {0}

abbrev pub FitsEvent : Event → Type 0
FitsEvent (event.Added k) = k ≤ short
FitsEvent event.Created = Unit {0}
FitsEvent (event.Deposited k) = k ≤ long
FitsEvent (event.Withdrawn k) = k ≤ long
FitsEvent (event.DepositedWithMemo m k) = (m ≤ short) × (k ≤ long)
FitsEvent (event.WithdrawnWithMemo m k) = (m ≤ short) × (k ≤ long)
FitsEvent event.AccountClosed = Unit {0}
FitsEvent (event.ItemAdded x) = FitsItem x
FitsEvent (event.ItemRemoved i) = i ≤ short
FitsEvent (event.ItemAdjusted x) = FitsItem x
FitsEvent event.CheckedOut = Unit {0}

abbrev pub FitEach : List Event → Type 0
FitEach [] = Unit {0}
FitEach (e ∷ es) = FitsEvent e × FitEach es

abbrev pub FitsReply : Reply → Type 0
FitsReply (reply.Value v) = v ≤ wide
FitsReply (reply.Rejected r) = r ≤ byte

pub record FitsRecord (r : Record) : Type 0 where
  pub number : r.number ≤ long
  pub epoch : r.epoch ≤ long
  pub producer : FitsProducer r.producer
  pub place : r.place ≤ long
  pub command : FitsCommand r.command
  pub few : length r.events ≤ 4
  pub events : FitEach r.events
  pub reply : FitsReply r.reply

-- an entity's name
abbrev pub IsEntity : List ℕ → Type 0
IsEntity e = is_entity e ≡ true

abbrev pub IsReadable : Fact → Type 0
IsReadable (fact.Granted s n x) = FitsSlot s × (n ≤ long) × FitsIncarnation x
IsReadable (fact.Freed s n why) = FitsSlot s × (n ≤ long)
IsReadable (fact.Registered x) = FitsIncarnation x
IsReadable (fact.Terminated x) = FitsIncarnation x
IsReadable (fact.Allocated s x) = (s ≤ 127) × FitsIncarnation x
IsReadable (fact.Deallocated s) = s ≤ 127
IsReadable (fact.Wrote e r) = IsEntity e × FitsRecord r
IsReadable (fact.Snapshot e n) = IsEntity e × (n ≤ long)
IsReadable (fact.Remembered e) = IsEntity e
IsReadable (fact.Forgotten e) = IsEntity e
IsReadable (fact.Queued p e n k) = FitsProducer p × IsEntity e × (n ≤ long) × FitsCommand k
IsReadable (fact.Confirmed p e n) = FitsProducer p × IsEntity e × (n ≤ long)
IsReadable (fact.Start x e) = FitsIncarnation x × IsEntity e
IsReadable (fact.Stop x e) = FitsIncarnation x × IsEntity e
IsReadable (fact.WriteFailed x e) = FitsIncarnation x × IsEntity e
IsReadable (fact.Gone x) = FitsIncarnation x
IsReadable (fact.Upgrade v) = v ≤ byte
IsReadable (fact.Reshard n k) = (n ≤ byte) × (k ≤ long)
IsReadable f = ⊥

abbrev pub AreReadable : List Fact → Type 0
AreReadable [] = Unit {0}
AreReadable (f ∷ fs) = IsReadable f × AreReadable fs
