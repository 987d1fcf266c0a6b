-- Entries: their lines are read, and a text has one reading.
use Rattle.std.proofs.Common.{◌≡◌, ◌≤◌, ℕ, sym, arith}
use Rattle.std.specs.Prelude.{true, ◌&&◌, nat_le, List, [], ◌∷◌, length}
use Rattle.std.specs.List.{list_all}
use Rattle.plain_laws.proofs.Booleans.{and_both, at_most, true_is_not_false}
use Rattle.yard_model.specs.declared.fact.Fact.TheVariants as fact
use Rattle.yard_model.specs.declared.incarnation.Incarnation.{Incarnation}
use Rattle.yard_model.specs.declared.incarnation.Slot.{Slot}
use Rattle.yard_model.specs.declared.incarnation.Slot.TheVariants as slot
use Rattle.yard_model.specs.declared.event.Command.{Command}
use Rattle.yard_model.specs.declared.event.Command.TheVariants as command
use Rattle.yard_model.specs.declared.event.Event.{Event}
use Rattle.yard_model.specs.declared.event.Event.TheVariants as event
use Rattle.yard_model.specs.declared.event.Reply.{Reply}
use Rattle.yard_model.specs.declared.event.Reply.TheVariants as reply
use Rattle.yard_model.specs.declared.packet.Record.{Record}
use Rattle.yard_model.specs.declared.state.CartItem.{CartItem}
use Rattle.yard_model.specs.Behaviour.{is_amount, is_in, is_item, is_item_number, is_memo, most}
use Rattle.fact_lines.specs.Entry.{is_command, is_event, is_incarnation, is_number, is_producer, is_record, is_reply, is_shard, is_slot}
use Rattle.fact_lines.specs.Laws.{EntriesAreReadable}
use Rattle.fact_lines.specs.Readable.{FitEach, FitsCommand, FitsEvent, FitsIncarnation, FitsItem, FitsRecord, FitsReply, FitsSlot}
use Rattle.fact_lines.specs.Reads.{is_entity, long, short}

number_fits : (n : ℕ) → is_number n ≡ true → n ≤ long
number_fits n h = omega (arith, at_most n 4000000000 h)

ranged : (a b n : ℕ) → is_in a b n ≡ true → (a ≤ n) × (n ≤ b)
ranged a b n h = let k = and_both (nat_le a n) (nat_le n b) h in (at_most a n k.0, at_most n b k.1)

up_to : (a b n top : ℕ) → b ≤ top → is_in a b n ≡ true → n ≤ top
up_to a b n top l h = omega (arith, (ranged a b n h).1, l)

incarnation_fits : (x : Incarnation) → is_incarnation x ≡ true → FitsIncarnation x
incarnation_fits x h =
    let k = and_both (is_in 1 16 x.node) (is_number x.number) h in
    let n = ranged 1 16 x.node k.0 in
    (n.0, n.1, number_fits x.number k.1)

slot_fits : (s : Slot) → is_slot s ≡ true → FitsSlot s
slot_fits (slot.Shard s) h = at_most s 127 h
slot_fits slot.Coordinator h = tt
slot_fits (slot.Queue p) h = ranged 1 32 p h

item_fits : (x : CartItem) → is_item x ≡ true → FitsItem x
item_fits x h =
    let k = and_both (is_item_number x.item) (is_in 1 1000 x.quantity) h in
    (up_to 1 9999 x.item short (omega arith) k.0, up_to 1 1000 x.quantity short (omega arith) k.1)

command_fits : (k : Command) → is_command k ≡ true → FitsCommand k
command_fits (command.Add k) h = up_to 1 1000 k short (omega arith) h
command_fits command.Read h = tt
command_fits command.Create h = tt
command_fits (command.Deposit k) h = up_to 1 1000000 k long (omega arith) h
command_fits (command.Withdraw k) h = up_to 1 1000000 k long (omega arith) h
command_fits (command.DepositWithMemo m k) h = let b = and_both (is_memo m) (is_amount k) h in (up_to 1 9999 m short (omega arith) b.0, up_to 1 1000000 k long (omega arith) b.1)
command_fits (command.WithdrawWithMemo m k) h = let b = and_both (is_memo m) (is_amount k) h in (up_to 1 9999 m short (omega arith) b.0, up_to 1 1000000 k long (omega arith) b.1)
command_fits command.Balance h = tt
command_fits command.Close h = tt
command_fits (command.AddItem x) h = item_fits x h
command_fits (command.RemoveItem i) h = up_to 1 9999 i short (omega arith) h
command_fits (command.AdjustItem x) h = item_fits x h
command_fits command.Checkout h = tt

event_fits : (e : Event) → is_event e ≡ true → FitsEvent e
event_fits (event.Added k) h = up_to 1 1000 k short (omega arith) h
event_fits event.Created h = tt
event_fits (event.Deposited k) h = up_to 1 1000000 k long (omega arith) h
event_fits (event.Withdrawn k) h = up_to 1 1000000 k long (omega arith) h
event_fits (event.DepositedWithMemo m k) h = absurd (true_is_not_false (sym h))
event_fits (event.WithdrawnWithMemo m k) h = absurd (true_is_not_false (sym h))
event_fits event.AccountClosed h = tt
event_fits (event.ItemAdded x) h = item_fits x h
event_fits (event.ItemRemoved i) h = up_to 1 9999 i short (omega arith) h
event_fits (event.ItemAdjusted x) h = item_fits x h
event_fits event.CheckedOut h = tt

each_fits : (es : List Event) → list_all is_event es ≡ true → FitEach es
each_fits [] h = tt
each_fits (e ∷ es) h = let k = and_both (is_event e) (list_all is_event es) h in (event_fits e k.0, each_fits es k.1)

reply_fits : (x : Reply) → is_reply x ≡ true → FitsReply x
reply_fits (reply.Value v) h = omega (arith, at_most v most h)
reply_fits (reply.Rejected r) h = at_most r 255 h

record_fits : (r : Record) → is_record r ≡ true → FitsRecord r
record_fits r h =
    let g = and_both (is_number r.number && is_number r.epoch && is_producer r.producer && is_number r.place && is_command r.command && nat_le (length r.events) 4 && list_all is_event r.events) (is_reply r.reply) h in
    let f = and_both (is_number r.number && is_number r.epoch && is_producer r.producer && is_number r.place && is_command r.command && nat_le (length r.events) 4) (list_all is_event r.events) g.0 in
    let e = and_both (is_number r.number && is_number r.epoch && is_producer r.producer && is_number r.place && is_command r.command) (nat_le (length r.events) 4) f.0 in
    let d = and_both (is_number r.number && is_number r.epoch && is_producer r.producer && is_number r.place) (is_command r.command) e.0 in
    let c = and_both (is_number r.number && is_number r.epoch && is_producer r.producer) (is_number r.place) d.0 in
    let b = and_both (is_number r.number && is_number r.epoch) (is_producer r.producer) c.0 in
    let a = and_both (is_number r.number) (is_number r.epoch) b.0 in
    record {
      number = number_fits r.number a.0;
      epoch = number_fits r.epoch a.1;
      producer = ranged 1 32 r.producer b.1;
      place = number_fits r.place c.1;
      command = command_fits r.command d.1;
      few = at_most (length r.events) 4 e.1;
      events = each_fits r.events f.1;
      reply = reply_fits r.reply g.1;
    }

pub entries_are_readable : EntriesAreReadable
entries_are_readable (fact.Granted s n x) h =
    let b = and_both (is_slot s && is_number n) (is_incarnation x) h in
    let a = and_both (is_slot s) (is_number n) b.0 in
    (slot_fits s a.0, number_fits n a.1, incarnation_fits x b.1)
entries_are_readable (fact.Freed s n why) h = let a = and_both (is_slot s) (is_number n) h in (slot_fits s a.0, number_fits n a.1)
entries_are_readable (fact.Registered x) h = incarnation_fits x h
entries_are_readable (fact.Terminated x) h = incarnation_fits x h
entries_are_readable (fact.Allocated s x) h = let a = and_both (is_shard s) (is_incarnation x) h in (at_most s 127 a.0, incarnation_fits x a.1)
entries_are_readable (fact.Deallocated s) h = at_most s 127 h
entries_are_readable (fact.Wrote e r) h = let a = and_both (is_entity e) (is_record r) h in (a.0, record_fits r a.1)
entries_are_readable (fact.Snapshot e n) h = let a = and_both (is_entity e) (is_number n) h in (a.0, number_fits n a.1)
entries_are_readable (fact.Remembered e) h = h
entries_are_readable (fact.Forgotten e) h = h
entries_are_readable (fact.Queued p e n k) h =
    let c = and_both (is_producer p && is_entity e && is_number n) (is_command k) h in
    let b = and_both (is_producer p && is_entity e) (is_number n) c.0 in
    let a = and_both (is_producer p) (is_entity e) b.0 in
    (ranged 1 32 p a.0, a.1, number_fits n b.1, command_fits k c.1)
entries_are_readable (fact.Confirmed p e n) h =
    let b = and_both (is_producer p && is_entity e) (is_number n) h in
    let a = and_both (is_producer p) (is_entity e) b.0 in
    (ranged 1 32 p a.0, a.1, number_fits n b.1)
entries_are_readable (fact.At n) h = absurd (true_is_not_false (sym h))
entries_are_readable fact.Nothing h = absurd (true_is_not_false (sym h))
entries_are_readable fact.WireFull h = absurd (true_is_not_false (sym h))
entries_are_readable fact.Settled h = absurd (true_is_not_false (sym h))
entries_are_readable (fact.Up x) h = absurd (true_is_not_false (sym h))
entries_are_readable (fact.Gone x) h = absurd (true_is_not_false (sym h))
entries_are_readable (fact.View x v) h = absurd (true_is_not_false (sym h))
entries_are_readable (fact.Sent n p) h = absurd (true_is_not_false (sym h))
entries_are_readable (fact.Got n) h = absurd (true_is_not_false (sym h))
entries_are_readable (fact.Held s x n) h = absurd (true_is_not_false (sym h))
entries_are_readable (fact.Moving s st) h = absurd (true_is_not_false (sym h))
entries_are_readable (fact.Home x s y) h = absurd (true_is_not_false (sym h))
entries_are_readable (fact.Forget x s) h = absurd (true_is_not_false (sym h))
entries_are_readable (fact.Kept x m) h = absurd (true_is_not_false (sym h))
entries_are_readable (fact.Dropped x m) h = absurd (true_is_not_false (sym h))
entries_are_readable (fact.Stashed x m) h = absurd (true_is_not_false (sym h))
entries_are_readable (fact.Start x e) h = absurd (true_is_not_false (sym h))
entries_are_readable (fact.Active x e n st) h = absurd (true_is_not_false (sym h))
entries_are_readable (fact.Stop x e) h = absurd (true_is_not_false (sym h))
entries_are_readable (fact.WriteFailed x e) h = absurd (true_is_not_false (sym h))
entries_are_readable (fact.Armed e w) h = absurd (true_is_not_false (sym h))
entries_are_readable (fact.Waits p e c) h = absurd (true_is_not_false (sym h))
entries_are_readable (fact.Reshard n m) h = absurd (true_is_not_false (sym h))
entries_are_readable (fact.Resharded s n m) h = absurd (true_is_not_false (sym h))
entries_are_readable (fact.Upgrade v) h = absurd (true_is_not_false (sym h))
entries_are_readable (fact.SentAsk n x) h = absurd (true_is_not_false (sym h))
entries_are_readable (fact.SentJob n x e) h = absurd (true_is_not_false (sym h))
entries_are_readable (fact.SentDone n x e) h = absurd (true_is_not_false (sym h))
entries_are_readable (fact.Given e x) h = absurd (true_is_not_false (sym h))
entries_are_readable (fact.Did x e) h = absurd (true_is_not_false (sym h))
