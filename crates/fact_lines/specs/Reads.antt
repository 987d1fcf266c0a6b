-- What the bytes of a line spell, read from the front. Each part is read as far as it goes, and then what is behind it;
-- that a whole line is the one that its fact prints is asked of it afterwards (line_at).
use Rattle.std.specs.Prelude.{ℕ, ◌+◌, ◌-◌, ◌*◌, Bool, false, ◌==◌, ◌&&◌, nat_lt, nat_le, List, [], ◌∷◌, ◌++◌, length, codes, Option, Some, None, if◌then◌else◌}
use Rattle.std.specs.List.{list_all}
use Rattle.yard_model.specs.declared.fact.Fact.{Fact}
use Rattle.yard_model.specs.declared.fact.Fact.TheVariants as fact
use Rattle.yard_model.specs.declared.incarnation.Incarnation.{Incarnation}
use Rattle.yard_model.specs.declared.incarnation.Slot.{Slot}
use Rattle.yard_model.specs.declared.incarnation.Slot.TheVariants as slot
use Rattle.yard_model.specs.declared.incarnation.Cause.{Cause}
use Rattle.yard_model.specs.declared.incarnation.Cause.TheVariants as cause
use Rattle.yard_model.specs.declared.event.Command.{Command}
use Rattle.yard_model.specs.declared.event.Command.TheVariants as command
use Rattle.yard_model.specs.declared.event.Event.{Event}
use Rattle.yard_model.specs.declared.event.Event.TheVariants as event
use Rattle.yard_model.specs.declared.event.Reply.{Reply}
use Rattle.yard_model.specs.declared.event.Reply.TheVariants as reply
use Rattle.yard_model.specs.declared.packet.Record.{Record}
use Rattle.yard_model.specs.declared.state.CartItem.{CartItem}
use Rattle.yard_model.specs.Behaviour.{is_in}
use Rattle.yard_model.specs.Name.{is_name_byte}
use Rattle.yard_model.specs.Text.{fact_line}
use Rattle.fact_lines.specs.declared.parts.Counted.{Counted}
use Rattle.fact_lines.specs.declared.parts.Numbers.{Numbers}
use Rattle.fact_lines.specs.declared.parts.Outcome.{Outcome}
use Rattle.fact_lines.specs.declared.parts.Pair.{Pair}

-- what was read, and the bytes behind it
abbrev pub Read : Type 0 → Type 0
Read A = Option (A × List ℕ)

abbrev pub and_then : {A B : Type 0} → Option A → (A → Option B) → Option B
and_then None f = None
and_then (Some x) f = f x

-- the first that was read
abbrev pub or_else : {A : Type 0} → Option A → Option A → Option A
or_else None y = y
or_else (Some x) y = Some x

abbrev pub is_digit : ℕ → Bool
is_digit b = nat_le 48 b && nat_le b 57

abbrev pub begins_digit : List ℕ → Bool
begins_digit [] = false
begins_digit (b ∷ bs) = is_digit b

-- the digits at the front, read on after n
abbrev pub digits_from : ℕ → List ℕ → ℕ × List ℕ
digits_from n [] = (n, [])
digits_from n (b ∷ bs) = if is_digit b then digits_from (n * 10 + (b - 48)) bs else (n, b ∷ bs)

-- a number up to `top`
abbrev pub number_at : ℕ → List ℕ → Read ℕ
number_at top line = if begins_digit line && nat_le (digits_from 0 line).0 top then Some (digits_from 0 line) else None

-- these bytes
abbrev pub text_at : List ℕ → List ℕ → Option (List ℕ)
text_at [] line = Some line
text_at (t ∷ ts) [] = None
text_at (t ∷ ts) (b ∷ bs) = if t == b then text_at ts bs else None

-- a number behind these bytes
abbrev pub numbered : List ℕ → ℕ → List ℕ → Read ℕ
numbered text top line = and_then (text_at text line) (number_at top)

-- what is there, and these bytes for it
abbrev pub named : {A : Type 0} → List ℕ → A → List ℕ → Read A
named text x line = and_then (text_at text line) (λ rest. Some (x, rest))

-- the greatest number of 8, 16 and 32 bits, and of 18 digits
abbrev pub byte : ℕ
byte = 255

abbrev pub short : ℕ
short = 65535

abbrev pub long : ℕ
long = 4294967295

abbrev pub wide : ℕ
wide = 999999999999999999

-- a number from 1 up to `top`
abbrev pub from_one : ℕ → List ℕ → Read ℕ
from_one top line = and_then (number_at top line) (λ n. if nat_lt 0 n.0 then Some n else None)

-- the bytes of a name at the front
abbrev pub name_from : List ℕ → List ℕ × List ℕ
name_from [] = ([], [])
name_from (b ∷ bs) = if is_name_byte b then (b ∷ (name_from bs).0, (name_from bs).1) else ([], b ∷ bs)

abbrev pub begins_name : List ℕ → Bool
begins_name [] = false
begins_name (b ∷ bs) = is_name_byte b

abbrev pub is_entity : List ℕ → Bool
is_entity e = is_in 1 32 (length e) && list_all is_name_byte e

abbrev pub entity_at : List ℕ → Read (List ℕ)
entity_at line = if is_entity (name_from line).0 then Some (name_from line) else None

-- `node.number`
abbrev pub incarnation_at : List ℕ → Read Incarnation
incarnation_at line = and_then (from_one 16 line) (λ n. and_then (numbered (codes ".") long n.1) (λ k. Some (record { node = n.0; number = k.0 }, k.1)))

abbrev pub shard_slot : List ℕ → Read Slot
shard_slot line = and_then (numbered (codes "shard:") 127 line) (λ s. Some (slot.Shard s.0, s.1))

abbrev pub queue_slot : List ℕ → Read Slot
queue_slot line = and_then (text_at (codes "queue:") line) (λ rest. and_then (from_one 32 rest) (λ p. Some (slot.Queue p.0, p.1)))

abbrev pub slot_at : List ℕ → Read Slot
slot_at line = or_else (shard_slot line) (or_else (queue_slot line) (named (codes "coordinator") slot.Coordinator line))

abbrev pub cause_at : List ℕ → Read Cause
cause_at line = or_else (named (codes "released") cause.Released line) (named (codes "stopped") cause.Stopped line)

-- a number behind these bytes, and one more behind those, where there is one
abbrev pub one_or_two : List ℕ → ℕ → List ℕ → List ℕ → Read Counted
one_or_two text top between line =
    and_then (numbered text top line) (λ a.
    or_else (and_then (numbered between short a.1) (λ b. Some (record { first = a.0; second = Some b.0 }, b.1)))
    (Some (record { first = a.0; second = None }, a.1)))

-- an item of a cart and its quantity, behind these bytes
abbrev pub item_behind : List ℕ → List ℕ → Read CartItem
item_behind text line =
    and_then (numbered text short line) (λ a. and_then (numbered (codes " ") short a.1) (λ b. Some (record { item = a.0; quantity = b.0 }, b.1)))

abbrev pub add_command : ℕ → Option ℕ → Command
add_command k None = command.Add k
add_command k (Some q) = command.AddItem (record { item = k; quantity = q })

abbrev pub deposit_command : ℕ → Option ℕ → Command
deposit_command k None = command.Deposit k
deposit_command k (Some m) = command.DepositWithMemo m k

abbrev pub withdraw_command : ℕ → Option ℕ → Command
withdraw_command k None = command.Withdraw k
withdraw_command k (Some m) = command.WithdrawWithMemo m k

-- a command that has one number or two
abbrev pub paid_command : List ℕ → Read Command
paid_command line =
    or_else (and_then (one_or_two (codes "add ") short (codes " ") line) (λ a. Some (add_command a.0.first a.0.second, a.1)))
    (or_else (and_then (one_or_two (codes "deposit ") long (codes " ") line) (λ a. Some (deposit_command a.0.first a.0.second, a.1)))
    (and_then (one_or_two (codes "withdraw ") long (codes " ") line) (λ a. Some (withdraw_command a.0.first a.0.second, a.1))))

abbrev pub item_command : List ℕ → Read Command
item_command line =
    or_else (and_then (numbered (codes "remove ") short line) (λ i. Some (command.RemoveItem i.0, i.1)))
    (and_then (item_behind (codes "adjust ") line) (λ x. Some (command.AdjustItem x.0, x.1)))

-- a command that has no number
abbrev pub bare_command : List ℕ → Read Command
bare_command line =
    or_else (named (codes "read") command.Read line)
    (or_else (named (codes "create") command.Create line)
    (or_else (named (codes "balance") command.Balance line)
    (or_else (named (codes "close") command.Close line)
    (named (codes "checkout") command.Checkout line))))

abbrev pub command_at : List ℕ → Read Command
command_at line = or_else (paid_command line) (or_else (item_command line) (bare_command line))

abbrev pub added_event : ℕ → Option ℕ → Event
added_event k None = event.Added k
added_event k (Some q) = event.ItemAdded (record { item = k; quantity = q })

abbrev pub deposited_event : ℕ → Option ℕ → Event
deposited_event k None = event.Deposited k
deposited_event k (Some m) = event.DepositedWithMemo m k

abbrev pub withdrawn_event : ℕ → Option ℕ → Event
withdrawn_event k None = event.Withdrawn k
withdrawn_event k (Some m) = event.WithdrawnWithMemo m k

abbrev pub paid_event : List ℕ → Read Event
paid_event line =
    or_else (and_then (one_or_two (codes "added ") short (codes " ") line) (λ a. Some (added_event a.0.first a.0.second, a.1)))
    (or_else (and_then (one_or_two (codes "deposited ") long (codes " memo ") line) (λ a. Some (deposited_event a.0.first a.0.second, a.1)))
    (and_then (one_or_two (codes "withdrawn ") long (codes " memo ") line) (λ a. Some (withdrawn_event a.0.first a.0.second, a.1))))

abbrev pub item_event : List ℕ → Read Event
item_event line =
    or_else (and_then (numbered (codes "removed ") short line) (λ i. Some (event.ItemRemoved i.0, i.1)))
    (and_then (item_behind (codes "adjusted ") line) (λ x. Some (event.ItemAdjusted x.0, x.1)))

abbrev pub bare_event : List ℕ → Read Event
bare_event line =
    or_else (named (codes "created") event.Created line)
    (or_else (named (codes "closed") event.AccountClosed line)
    (named (codes "checkedout") event.CheckedOut line))

abbrev pub event_at : List ℕ → Read Event
event_at line = or_else (paid_event line) (or_else (item_event line) (bare_event line))

abbrev pub event_after : List Event × List ℕ → Read Event → List Event × List ℕ
event_after done None = done
event_after done (Some e) = (done.0 ++ e.0 ∷ [], e.1)

-- one event more, where there is one
abbrev pub event_more : List Event × List ℕ → List Event × List ℕ
event_more done = event_after done (and_then (text_at (codes ", ") done.1) event_at)

-- at most four events
abbrev pub events_at : List ℕ → Read (List Event)
events_at line =
    or_else (named (codes "-") [] line)
    (and_then (event_at line) (λ e. Some (event_more (event_more (event_more (e.0 ∷ [], e.1))))))

abbrev pub reply_at : List ℕ → Read Reply
reply_at line =
    or_else (and_then (numbered (codes "ok ") wide line) (λ v. Some (reply.Value v.0, v.1)))
    (and_then (numbered (codes "no ") byte line) (λ r. Some (reply.Rejected r.0, r.1)))

-- a producer, an entity and a number
abbrev pub pair_at : List ℕ → Read Pair
pair_at line =
    and_then (from_one 32 line) (λ p.
    and_then (text_at (codes " ") p.1) (λ r.
    and_then (entity_at r) (λ e.
    and_then (numbered (codes " ") long e.1) (λ n.
    Some (record { producer = p.0; entity = e.0; number = n.0 }, n.1)))))

-- a record's number, its epoch, its producer and its place
abbrev pub numbers_at : List ℕ → Read Numbers
numbers_at line =
    and_then (number_at long line) (λ n.
    and_then (numbered (codes " epoch ") long n.1) (λ k.
    and_then (text_at (codes " by ") k.1) (λ r.
    and_then (from_one 32 r) (λ p.
    and_then (numbered (codes ":") long p.1) (λ q.
    Some (record { number = n.0; epoch = k.0; producer = p.0; place = q.0 }, q.1))))))

-- its command, its events and its reply
abbrev pub outcome_at : List ℕ → Read Outcome
outcome_at line =
    and_then (text_at (codes " ") line) (λ a.
    and_then (command_at a) (λ k.
    and_then (text_at (codes " / ") k.1) (λ b.
    and_then (events_at b) (λ es.
    and_then (text_at (codes " / ") es.1) (λ d.
    and_then (reply_at d) (λ r.
    Some (record { command = k.0; events = es.0; reply = r.0 }, r.1)))))))

abbrev pub record_of : Numbers → Outcome → Record
record_of n o = record { number = n.number; epoch = n.epoch; producer = n.producer; place = n.place; command = o.command; events = o.events; reply = o.reply }

-- an incarnation behind these bytes
abbrev pub who_behind : List ℕ → List ℕ → Read Incarnation
who_behind text line = and_then (text_at text line) incarnation_at

-- an entity behind these bytes
abbrev pub entity_behind : List ℕ → List ℕ → Read (List ℕ)
entity_behind text line = and_then (text_at text line) entity_at

-- an incarnation behind these bytes, and an entity of it
abbrev pub life_at : List ℕ → List ℕ → Option (Incarnation × List ℕ)
life_at text line = and_then (who_behind text line) (λ x. and_then (entity_behind (codes " ") x.1) (λ e. Some (x.0, e.0)))

abbrev pub slot_behind : List ℕ → List ℕ → Read Slot
slot_behind text line = and_then (text_at text line) slot_at

-- What fact a line tells, by its first word. What stands behind the fact isn't looked at.

abbrev pub granted_of : List ℕ → Option Fact
granted_of line =
    and_then (slot_behind (codes "granted ") line) (λ s.
    and_then (numbered (codes " ") long s.1) (λ n.
    and_then (who_behind (codes " ") n.1) (λ x. Some (fact.Granted s.0 n.0 x.0))))

abbrev pub freed_of : List ℕ → Option Fact
freed_of line =
    and_then (slot_behind (codes "freed ") line) (λ s.
    and_then (numbered (codes " ") long s.1) (λ n.
    and_then (text_at (codes " ") n.1) (λ r.
    and_then (cause_at r) (λ w. Some (fact.Freed s.0 n.0 w.0)))))

abbrev pub lease_fact : List ℕ → Option Fact
lease_fact line = or_else (granted_of line) (freed_of line)

abbrev pub allocated_of : List ℕ → Option Fact
allocated_of line = and_then (numbered (codes "allocated ") 127 line) (λ s. and_then (who_behind (codes " ") s.1) (λ x. Some (fact.Allocated s.0 x.0)))

abbrev pub coordinator_fact : List ℕ → Option Fact
coordinator_fact line =
    or_else (and_then (who_behind (codes "registered ") line) (λ x. Some (fact.Registered x.0)))
    (or_else (and_then (who_behind (codes "terminated ") line) (λ x. Some (fact.Terminated x.0)))
    (or_else (allocated_of line)
    (and_then (numbered (codes "deallocated ") 127 line) (λ s. Some (fact.Deallocated s.0)))))

abbrev pub wrote_of : List ℕ → Option Fact
wrote_of line =
    and_then (entity_behind (codes "wrote ") line) (λ e.
    and_then (text_at (codes " ") e.1) (λ r.
    and_then (numbers_at r) (λ n.
    and_then (outcome_at n.1) (λ o. Some (fact.Wrote e.0 (record_of n.0 o.0))))))

abbrev pub snapshot_of : List ℕ → Option Fact
snapshot_of line = and_then (entity_behind (codes "snapshot ") line) (λ e. and_then (numbered (codes " ") long e.1) (λ n. Some (fact.Snapshot e.0 n.0)))

abbrev pub entity_fact : List ℕ → Option Fact
entity_fact line =
    or_else (wrote_of line)
    (or_else (snapshot_of line)
    (or_else (and_then (entity_behind (codes "remembered ") line) (λ e. Some (fact.Remembered e.0)))
    (and_then (entity_behind (codes "forgotten ") line) (λ e. Some (fact.Forgotten e.0)))))

abbrev pub queued_of : List ℕ → Option Fact
queued_of line =
    and_then (text_at (codes "queued ") line) (λ a.
    and_then (pair_at a) (λ p.
    and_then (text_at (codes " ") p.1) (λ b.
    and_then (command_at b) (λ k. Some (fact.Queued p.0.producer p.0.entity p.0.number k.0)))))

abbrev pub confirmed_of : List ℕ → Option Fact
confirmed_of line = and_then (text_at (codes "confirmed ") line) (λ a. and_then (pair_at a) (λ p. Some (fact.Confirmed p.0.producer p.0.entity p.0.number)))

abbrev pub queue_fact : List ℕ → Option Fact
queue_fact line = or_else (queued_of line) (confirmed_of line)

abbrev pub node_fact : List ℕ → Option Fact
node_fact line =
    or_else (and_then (life_at (codes "start ") line) (λ x. Some (fact.Start x.0 x.1)))
    (or_else (and_then (life_at (codes "stop ") line) (λ x. Some (fact.Stop x.0 x.1)))
    (or_else (and_then (life_at (codes "writefailed ") line) (λ x. Some (fact.WriteFailed x.0 x.1)))
    (and_then (who_behind (codes "gone ") line) (λ x. Some (fact.Gone x.0)))))

abbrev pub script_fact : List ℕ → Option Fact
script_fact line =
    or_else (and_then (numbered (codes "upgrade ") byte line) (λ v. Some (fact.Upgrade v.0)))
    (and_then (numbered (codes "reshard ") byte line) (λ n. and_then (numbered (codes " ") long n.1) (λ k. Some (fact.Reshard n.0 k.0))))

-- the fact at the front
abbrev pub fact_at : List ℕ → Option Fact
fact_at line =
    or_else (entity_fact line) (or_else (queue_fact line) (or_else (lease_fact line) (or_else (coordinator_fact line)
    (or_else (node_fact line) (script_fact line)))))

-- the fact whose line stands at the front, and the bytes behind that line
abbrev pub line_at : List ℕ → Read Fact
line_at text = and_then (fact_at text) (λ f. and_then (text_at (fact_line f) text) (λ rest. Some (f, rest)))
