-- Which facts are entries of slots, as a log keeps them: those that belong to a list of a slot, with numbers in range.
use Rattle.std.specs.Prelude.{ℕ, Bool, true, false, ◌&&◌, nat_le, length}
use Rattle.std.specs.List.{list_all}
use Rattle.yard_model.specs.Behaviour.{is_in, is_amount, is_memo, is_item_number, is_item, most}
use Rattle.yard_model.specs.Limits.{number_limit}
use Rattle.fact_lines.specs.Reads.{is_entity}
use Rattle.yard_model.specs.declared.fact.Fact.{Fact}
use Rattle.yard_model.specs.declared.fact.Fact.TheVariants as fact
use Rattle.yard_model.specs.declared.incarnation.Incarnation.{Incarnation}
use Rattle.yard_model.specs.declared.incarnation.Slot.{Slot}
use Rattle.yard_model.specs.declared.incarnation.Slot.TheVariants as slot
use Rattle.yard_model.specs.declared.event.Command.{Command}
use Rattle.yard_model.specs.declared.event.Command.TheVariants as command
use Rattle.yard_model.specs.declared.event.Event.{Event}
use Rattle.yard_model.specs.declared.event.Event.TheVariants as event
use Rattle.yard_model.specs.declared.event.Reply.{Reply}
use Rattle.yard_model.specs.declared.event.Reply.TheVariants as reply
use Rattle.yard_model.specs.declared.packet.Record.{Record}

-- a number of which nothing else is said
abbrev pub is_number : ℕ → Bool
is_number n = nat_le n number_limit

abbrev pub is_producer : ℕ → Bool
is_producer p = is_in 1 32 p

abbrev pub is_shard : ℕ → Bool
is_shard s = nat_le s 127

abbrev pub is_incarnation : Incarnation → Bool
is_incarnation x = is_in 1 16 x.node && is_number x.number

abbrev pub is_slot : Slot → Bool
is_slot (slot.Shard s) = is_shard s
is_slot slot.Coordinator = true
is_slot (slot.Queue p) = is_producer p

-- of any kind of entity
abbrev pub is_command : Command → Bool
is_command (command.Add k) = is_in 1 1000 k
is_command (command.Deposit k) = is_amount k
is_command (command.Withdraw k) = is_amount k
is_command (command.DepositWithMemo m k) = is_memo m && is_amount k
is_command (command.WithdrawWithMemo m k) = is_memo m && is_amount k
is_command (command.AddItem x) = is_item x
is_command (command.RemoveItem i) = is_item_number i
is_command (command.AdjustItem x) = is_item x
is_command command.Read = true
is_command command.Create = true
is_command command.Balance = true
is_command command.Close = true
is_command command.Checkout = true

-- one with a memo isn't kept
abbrev pub is_event : Event → Bool
is_event (event.Added k) = is_in 1 1000 k
is_event (event.Deposited k) = is_amount k
is_event (event.Withdrawn k) = is_amount k
is_event (event.DepositedWithMemo m k) = false
is_event (event.WithdrawnWithMemo m k) = false
is_event (event.ItemAdded x) = is_item x
is_event (event.ItemRemoved i) = is_item_number i
is_event (event.ItemAdjusted x) = is_item x
is_event event.Created = true
is_event event.AccountClosed = true
is_event event.CheckedOut = true

abbrev pub is_reply : Reply → Bool
is_reply (reply.Value v) = nat_le v most
is_reply (reply.Rejected r) = nat_le r 255

abbrev pub is_record : Record → Bool
is_record r = is_number r.number && is_number r.epoch && is_producer r.producer && is_number r.place && is_command r.command
    && nat_le (length r.events) 4 && list_all is_event r.events && is_reply r.reply

abbrev pub is_entry : Fact → Bool
is_entry (fact.Granted s n x) = is_slot s && is_number n && is_incarnation x
is_entry (fact.Freed s n why) = is_slot s && is_number n
is_entry (fact.Registered x) = is_incarnation x
is_entry (fact.Terminated x) = is_incarnation x
is_entry (fact.Allocated s x) = is_shard s && is_incarnation x
is_entry (fact.Deallocated s) = is_shard s
is_entry (fact.Wrote e r) = is_entity e && is_record r
is_entry (fact.Snapshot e n) = is_entity e && is_number n
is_entry (fact.Remembered e) = is_entity e
is_entry (fact.Forgotten e) = is_entity e
is_entry (fact.Queued p e n k) = is_producer p && is_entity e && is_number n && is_command k
is_entry (fact.Confirmed p e n) = is_producer p && is_entity e && is_number n
is_entry f = false
