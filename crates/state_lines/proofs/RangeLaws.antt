-- What is read is in range.
use Rattle.std.proofs.Common.{◌≡◌, ◌≤◌, ℕ, suc, zero, ◌+◌, subst, refl, arith}
use Rattle.std.specs.Prelude.{Bool, true, false, ◌==◌, ◌&&◌, nat_lt, nat_le, List, [], ◌∷◌, ◌++◌, length, codes, Option, Some, None, if◌then◌else◌}
use Rattle.std.proofs.lemmas.List.{length-append}
use Rattle.plain_laws.proofs.Booleans.{at_most, below, same_number}
use Rattle.yard_model.specs.declared.fact.Fact.{Fact}
use Rattle.yard_model.specs.declared.fact.Fact.TheVariants as fact
use Rattle.yard_model.specs.declared.incarnation.Incarnation.{Incarnation}
use Rattle.yard_model.specs.declared.incarnation.Slot.TheVariants as slot
use Rattle.yard_model.specs.declared.event.Command.TheVariants as command
use Rattle.yard_model.specs.declared.event.Event.{Event}
use Rattle.yard_model.specs.declared.event.Event.TheVariants as event
use Rattle.yard_model.specs.declared.state.CartItem.{CartItem}
use Rattle.yard_model.specs.declared.state.State.{State}
use Rattle.yard_model.specs.declared.state.State.TheVariants as state
use Rattle.fact_lines.specs.Readable.{FitEach, FitsCommand, FitsEvent, FitsIncarnation, FitsItem, FitsProducer, FitsReply, FitsSlot, IsEntity, IsReadable}
use Rattle.fact_lines.specs.Reads as reads
use Rattle.fact_lines.specs.Reads.{Read, byte, long, short, wide}
use Rattle.state_lines.specs.States as states
use Rattle.state_lines.specs.States.{full}
use Rattle.state_lines.specs.Told.{FitItems, FitsState, IsTold}

-- the type of what a reader gives
abbrev type_of : {A : Type 0} → Read A → Type 0
type_of {A} o = A

abbrev Counted : Type 0
Counted = type_of (reads.one_or_two [] 0 [] [])

abbrev Numbers : Type 0
Numbers = type_of (reads.numbers_at [])

abbrev Outcome : Type 0
Outcome = type_of (reads.outcome_at [])

abbrev Pair : Type 0
Pair = type_of (reads.pair_at [])

-- what was read, if anything, is so
abbrev Gives : {A : Type 0} → (A → Type 0) → Option A → Type 0
Gives P None = Unit {0}
Gives P (Some x) = P x

-- what stands in front is so, whatever is behind it
abbrev Front : {A : Type 0} → (A → Type 0) → A × List ℕ → Type 0
Front P x = P x.0

abbrev Reads : {A : Type 0} → (A → Type 0) → Read A → Type 0
Reads P o = Gives (Front P) o

then_gives : {A B : Type 0} (P : A → Type 0) (Q : B → Type 0) (o : Option A) (f : A → Option B) → Gives P o → ((x : A) → P x → Gives Q (f x)) → Gives Q (reads.and_then o f)
then_gives P Q None f h k = tt
then_gives P Q (Some x) f h k = k x h

-- whatever was read first
behind_gives : {A B : Type 0} (Q : B → Type 0) (o : Option A) (f : A → Option B) → ((x : A) → Gives Q (f x)) → Gives Q (reads.and_then o f)
behind_gives Q None f k = tt
behind_gives Q (Some x) f k = k x

or_gives : {A : Type 0} (P : A → Type 0) (a b : Option A) → Gives P a → Gives P b → Gives P (reads.or_else a b)
or_gives P None b h k = k
or_gives P (Some x) b h k = h

named_gives : {A : Type 0} (P : A → Type 0) (text : List ℕ) (x : A) (line : List ℕ) → P x → Reads P (reads.named text x line)
named_gives P text x line h = behind_gives (Front P) (reads.text_at text line) (λ rest. Some (x, rest)) (λ rest. h)

number_in : (top : ℕ) (line : List ℕ) → Reads (λ n. n ≤ top) (reads.number_at top line)
number_in top line = by (reads.begins_digit line) (nat_le (reads.digits_from 0 line).0 top) refl
  where
    by : (a b : Bool) → nat_le (reads.digits_from 0 line).0 top ≡ b → Reads (λ n. n ≤ top) (if a && b then Some (reads.digits_from 0 line) else None)
    by true true e = at_most (reads.digits_from 0 line).0 top e
    by true false e = tt
    by false b e = tt

numbered_in : (text : List ℕ) (top : ℕ) (line : List ℕ) → Reads (λ n. n ≤ top) (reads.numbered text top line)
numbered_in text top line = behind_gives (Front (λ n. n ≤ top)) (reads.text_at text line) (reads.number_at top) (number_in top)

from_one_in : (top : ℕ) (line : List ℕ) → Reads (λ n. (1 ≤ n) × (n ≤ top)) (reads.from_one top line)
from_one_in top line =
    then_gives (Front (λ n. n ≤ top)) (Front (λ n. (1 ≤ n) × (n ≤ top))) (reads.number_at top line) (λ n. if nat_lt 0 n.0 then Some n else None) (number_in top line) (λ n h. by n h (nat_lt 0 n.0) refl)
  where
    by : (n : ℕ × List ℕ) → n.0 ≤ top → (b : Bool) → nat_lt 0 n.0 ≡ b → Reads (λ k. (1 ≤ k) × (k ≤ top)) (if b then Some n else None)
    by n h true e = (omega (arith, below 0 n.0 e), h)
    by n h false e = tt

entity_in : (line : List ℕ) → Reads IsEntity (reads.entity_at line)
entity_in line = by (reads.is_entity (reads.name_from line).0) refl
  where
    by : (b : Bool) → reads.is_entity (reads.name_from line).0 ≡ b → Reads IsEntity (if b then Some (reads.name_from line) else None)
    by true e = e
    by false e = tt

incarnation_in : (line : List ℕ) → Reads FitsIncarnation (reads.incarnation_at line)
incarnation_in line =
    then_gives (Front (λ n. (1 ≤ n) × (n ≤ 16))) (Front FitsIncarnation) (reads.from_one 16 line) _ (from_one_in 16 line)
    (λ n h. then_gives (Front (λ k. k ≤ long)) (Front FitsIncarnation) (reads.numbered (codes ".") long n.1) _ (numbered_in (codes ".") long n.1) (λ k j. (h.0, h.1, j)))

slot_in : (line : List ℕ) → Reads FitsSlot (reads.slot_at line)
slot_in line =
    or_gives (Front FitsSlot) (reads.shard_slot line) _
    (then_gives (Front (λ s. s ≤ 127)) (Front FitsSlot) (reads.numbered (codes "shard:") 127 line) _ (numbered_in (codes "shard:") 127 line) (λ s h. h))
    (or_gives (Front FitsSlot) (reads.queue_slot line) _
    (behind_gives (Front FitsSlot) (reads.text_at (codes "queue:") line) _ (λ rest. then_gives (Front FitsProducer) (Front FitsSlot) (reads.from_one 32 rest) _ (from_one_in 32 rest) (λ p h. h)))
    (named_gives FitsSlot (codes "coordinator") slot.Coordinator line tt))

-- a number, and one more where there is one
abbrev FitsCounted : ℕ → Counted → Type 0
FitsCounted top x = (x.first ≤ top) × Gives (λ n. n ≤ short) x.second

one_or_two_in : (text : List ℕ) (top : ℕ) (between line : List ℕ) → Reads (FitsCounted top) (reads.one_or_two text top between line)
one_or_two_in text top between line =
    then_gives (Front (λ n. n ≤ top)) (Front (FitsCounted top)) (reads.numbered text top line) _ (numbered_in text top line)
    (λ a h. or_gives (Front (FitsCounted top)) _ _
    (then_gives (Front (λ n. n ≤ short)) (Front (FitsCounted top)) (reads.numbered between short a.1) _ (numbered_in between short a.1) (λ b j. (h, j)))
    (h, tt))

item_in : (text line : List ℕ) → Reads FitsItem (reads.item_behind text line)
item_in text line =
    then_gives (Front (λ n. n ≤ short)) (Front FitsItem) (reads.numbered text short line) _ (numbered_in text short line)
    (λ a h. then_gives (Front (λ n. n ≤ short)) (Front FitsItem) (reads.numbered (codes " ") short a.1) _ (numbered_in (codes " ") short a.1) (λ b j. (h, j)))

-- Commands.

add_fits : (k : ℕ) (o : Option ℕ) → k ≤ short → Gives (λ n. n ≤ short) o → FitsCommand (reads.add_command k o)
add_fits k None h j = h
add_fits k (Some q) h j = (h, j)

deposit_fits : (k : ℕ) (o : Option ℕ) → k ≤ long → Gives (λ n. n ≤ short) o → FitsCommand (reads.deposit_command k o)
deposit_fits k None h j = h
deposit_fits k (Some m) h j = (j, h)

withdraw_fits : (k : ℕ) (o : Option ℕ) → k ≤ long → Gives (λ n. n ≤ short) o → FitsCommand (reads.withdraw_command k o)
withdraw_fits k None h j = h
withdraw_fits k (Some m) h j = (j, h)

paid_command_in : (line : List ℕ) → Reads FitsCommand (reads.paid_command line)
paid_command_in line =
    or_gives (Front FitsCommand) _ _
    (then_gives (Front (FitsCounted short)) (Front FitsCommand) (reads.one_or_two (codes "add ") short (codes " ") line) _ (one_or_two_in (codes "add ") short (codes " ") line) (λ a h. add_fits a.0.first a.0.second h.0 h.1))
    (or_gives (Front FitsCommand) _ _
    (then_gives (Front (FitsCounted long)) (Front FitsCommand) (reads.one_or_two (codes "deposit ") long (codes " ") line) _ (one_or_two_in (codes "deposit ") long (codes " ") line) (λ a h. deposit_fits a.0.first a.0.second h.0 h.1))
    (then_gives (Front (FitsCounted long)) (Front FitsCommand) (reads.one_or_two (codes "withdraw ") long (codes " ") line) _ (one_or_two_in (codes "withdraw ") long (codes " ") line) (λ a h. withdraw_fits a.0.first a.0.second h.0 h.1)))

item_command_in : (line : List ℕ) → Reads FitsCommand (reads.item_command line)
item_command_in line =
    or_gives (Front FitsCommand) _ _
    (then_gives (Front (λ n. n ≤ short)) (Front FitsCommand) (reads.numbered (codes "remove ") short line) _ (numbered_in (codes "remove ") short line) (λ i h. h))
    (then_gives (Front FitsItem) (Front FitsCommand) (reads.item_behind (codes "adjust ") line) _ (item_in (codes "adjust ") line) (λ x h. h))

bare_command_in : (line : List ℕ) → Reads FitsCommand (reads.bare_command line)
bare_command_in line =
    or_gives (Front FitsCommand) _ _ (named_gives FitsCommand (codes "read") command.Read line tt)
    (or_gives (Front FitsCommand) _ _ (named_gives FitsCommand (codes "create") command.Create line tt)
    (or_gives (Front FitsCommand) _ _ (named_gives FitsCommand (codes "balance") command.Balance line tt)
    (or_gives (Front FitsCommand) _ _ (named_gives FitsCommand (codes "close") command.Close line tt)
    (named_gives FitsCommand (codes "checkout") command.Checkout line tt))))

command_in : (line : List ℕ) → Reads FitsCommand (reads.command_at line)
command_in line = or_gives (Front FitsCommand) (reads.paid_command line) _ (paid_command_in line) (or_gives (Front FitsCommand) (reads.item_command line) _ (item_command_in line) (bare_command_in line))

-- Events.

added_fits : (k : ℕ) (o : Option ℕ) → k ≤ short → Gives (λ n. n ≤ short) o → FitsEvent (reads.added_event k o)
added_fits k None h j = h
added_fits k (Some q) h j = (h, j)

deposited_fits : (k : ℕ) (o : Option ℕ) → k ≤ long → Gives (λ n. n ≤ short) o → FitsEvent (reads.deposited_event k o)
deposited_fits k None h j = h
deposited_fits k (Some m) h j = (j, h)

withdrawn_fits : (k : ℕ) (o : Option ℕ) → k ≤ long → Gives (λ n. n ≤ short) o → FitsEvent (reads.withdrawn_event k o)
withdrawn_fits k None h j = h
withdrawn_fits k (Some m) h j = (j, h)

paid_event_in : (line : List ℕ) → Reads FitsEvent (reads.paid_event line)
paid_event_in line =
    or_gives (Front FitsEvent) _ _
    (then_gives (Front (FitsCounted short)) (Front FitsEvent) (reads.one_or_two (codes "added ") short (codes " ") line) _ (one_or_two_in (codes "added ") short (codes " ") line) (λ a h. added_fits a.0.first a.0.second h.0 h.1))
    (or_gives (Front FitsEvent) _ _
    (then_gives (Front (FitsCounted long)) (Front FitsEvent) (reads.one_or_two (codes "deposited ") long (codes " memo ") line) _ (one_or_two_in (codes "deposited ") long (codes " memo ") line) (λ a h. deposited_fits a.0.first a.0.second h.0 h.1))
    (then_gives (Front (FitsCounted long)) (Front FitsEvent) (reads.one_or_two (codes "withdrawn ") long (codes " memo ") line) _ (one_or_two_in (codes "withdrawn ") long (codes " memo ") line) (λ a h. withdrawn_fits a.0.first a.0.second h.0 h.1)))

item_event_in : (line : List ℕ) → Reads FitsEvent (reads.item_event line)
item_event_in line =
    or_gives (Front FitsEvent) _ _
    (then_gives (Front (λ n. n ≤ short)) (Front FitsEvent) (reads.numbered (codes "removed ") short line) _ (numbered_in (codes "removed ") short line) (λ i h. h))
    (then_gives (Front FitsItem) (Front FitsEvent) (reads.item_behind (codes "adjusted ") line) _ (item_in (codes "adjusted ") line) (λ x h. h))

bare_event_in : (line : List ℕ) → Reads FitsEvent (reads.bare_event line)
bare_event_in line =
    or_gives (Front FitsEvent) _ _ (named_gives FitsEvent (codes "created") event.Created line tt)
    (or_gives (Front FitsEvent) _ _ (named_gives FitsEvent (codes "closed") event.AccountClosed line tt)
    (named_gives FitsEvent (codes "checkedout") event.CheckedOut line tt))

event_in : (line : List ℕ) → Reads FitsEvent (reads.event_at line)
event_in line = or_gives (Front FitsEvent) (reads.paid_event line) _ (paid_event_in line) (or_gives (Front FitsEvent) (reads.item_event line) _ (item_event_in line) (bare_event_in line))

-- so many events, each in range
abbrev Few : ℕ → List Event → Type 0
Few n es = (length es ≤ n) × FitEach es

each_more : (es : List Event) (e : Event) → FitEach es → FitsEvent e → FitEach (es ++ e ∷ [])
each_more [] e h k = (k, tt)
each_more (x ∷ xs) e h k = (h.0, each_more xs e h.1 k)

one_more : (n : ℕ) (done : List Event × List ℕ) → Few n done.0 → Few (n + 1) (reads.event_more done).0
one_more n done h = by (reads.and_then (reads.text_at (codes ", ") done.1) reads.event_at) (behind_gives (Front FitsEvent) (reads.text_at (codes ", ") done.1) reads.event_at event_in)
  where
    by : (o : Read Event) → Reads FitsEvent o → Few (n + 1) (reads.event_after done o).0
    by None k = (omega (arith, h.0), h.1)
    by (Some e) k = (omega (arith, h.0, length-append done.0 (e.0 ∷ [])), each_more done.0 e.0 h.1 k)

events_in : (line : List ℕ) → Reads (Few 4) (reads.events_at line)
events_in line =
    or_gives (Front (Few 4)) _ _ (named_gives (Few 4) (codes "-") [] line (omega arith, tt))
    (then_gives (Front FitsEvent) (Front (Few 4)) (reads.event_at line) _ (event_in line)
    (λ e h. one_more 3 (reads.event_more (reads.event_more (e.0 ∷ [], e.1))) (one_more 2 (reads.event_more (e.0 ∷ [], e.1)) (one_more 1 (e.0 ∷ [], e.1) (omega arith, (h, tt))))))

reply_in : (line : List ℕ) → Reads FitsReply (reads.reply_at line)
reply_in line =
    or_gives (Front FitsReply) _ _
    (then_gives (Front (λ n. n ≤ wide)) (Front FitsReply) (reads.numbered (codes "ok ") wide line) _ (numbered_in (codes "ok ") wide line) (λ v h. h))
    (then_gives (Front (λ n. n ≤ byte)) (Front FitsReply) (reads.numbered (codes "no ") byte line) _ (numbered_in (codes "no ") byte line) (λ r h. h))

-- Parts of a line.

abbrev FitsPair : Pair → Type 0
FitsPair p = FitsProducer p.producer × IsEntity p.entity × (p.number ≤ long)

pair_in : (line : List ℕ) → Reads FitsPair (reads.pair_at line)
pair_in line =
    then_gives (Front FitsProducer) (Front FitsPair) (reads.from_one 32 line) _ (from_one_in 32 line)
    (λ p h. behind_gives (Front FitsPair) (reads.text_at (codes " ") p.1) _
    (λ r. then_gives (Front IsEntity) (Front FitsPair) (reads.entity_at r) _ (entity_in r)
    (λ e j. then_gives (Front (λ n. n ≤ long)) (Front FitsPair) (reads.numbered (codes " ") long e.1) _ (numbered_in (codes " ") long e.1)
    (λ n k. (h, j, k)))))

abbrev FitNumbers : Numbers → Type 0
FitNumbers n = (n.number ≤ long) × (n.epoch ≤ long) × FitsProducer n.producer × (n.place ≤ long)

numbers_in : (line : List ℕ) → Reads FitNumbers (reads.numbers_at line)
numbers_in line =
    then_gives (Front (λ n. n ≤ long)) (Front FitNumbers) (reads.number_at long line) _ (number_in long line)
    (λ n h. then_gives (Front (λ n. n ≤ long)) (Front FitNumbers) (reads.numbered (codes " epoch ") long n.1) _ (numbered_in (codes " epoch ") long n.1)
    (λ k i. behind_gives (Front FitNumbers) (reads.text_at (codes " by ") k.1) _
    (λ r. then_gives (Front FitsProducer) (Front FitNumbers) (reads.from_one 32 r) _ (from_one_in 32 r)
    (λ p j. then_gives (Front (λ n. n ≤ long)) (Front FitNumbers) (reads.numbered (codes ":") long p.1) _ (numbered_in (codes ":") long p.1)
    (λ q m. (h, i, j, m))))))

abbrev FitsOutcome : Outcome → Type 0
FitsOutcome o = FitsCommand o.command × Few 4 o.events × FitsReply o.reply

outcome_in : (line : List ℕ) → Reads FitsOutcome (reads.outcome_at line)
outcome_in line =
    behind_gives (Front FitsOutcome) (reads.text_at (codes " ") line) _
    (λ a. then_gives (Front FitsCommand) (Front FitsOutcome) (reads.command_at a) _ (command_in a)
    (λ k h. behind_gives (Front FitsOutcome) (reads.text_at (codes " / ") k.1) _
    (λ b. then_gives (Front (Few 4)) (Front FitsOutcome) (reads.events_at b) _ (events_in b)
    (λ es i. behind_gives (Front FitsOutcome) (reads.text_at (codes " / ") es.1) _
    (λ d. then_gives (Front FitsReply) (Front FitsOutcome) (reads.reply_at d) _ (reply_in d)
    (λ r j. (h, i, j)))))))

who_in : (text line : List ℕ) → Reads FitsIncarnation (reads.who_behind text line)
who_in text line = behind_gives (Front FitsIncarnation) (reads.text_at text line) reads.incarnation_at incarnation_in

name_in : (text line : List ℕ) → Reads IsEntity (reads.entity_behind text line)
name_in text line = behind_gives (Front IsEntity) (reads.text_at text line) reads.entity_at entity_in

abbrev Lives : Incarnation × List ℕ → Type 0
Lives x = FitsIncarnation x.0 × IsEntity x.1

life_in : (text line : List ℕ) → Gives Lives (reads.life_at text line)
life_in text line =
    then_gives (Front FitsIncarnation) Lives (reads.who_behind text line) _ (who_in text line)
    (λ x h. then_gives (Front IsEntity) Lives (reads.entity_behind (codes " ") x.1) _ (name_in (codes " ") x.1) (λ e j. (h, j)))

slot_behind_in : (text line : List ℕ) → Reads FitsSlot (reads.slot_behind text line)
slot_behind_in text line = behind_gives (Front FitsSlot) (reads.text_at text line) reads.slot_at slot_in

-- Facts.

granted_in : (line : List ℕ) → Gives IsReadable (reads.granted_of line)
granted_in line =
    then_gives (Front FitsSlot) IsReadable (reads.slot_behind (codes "granted ") line) _ (slot_behind_in (codes "granted ") line)
    (λ s h. then_gives (Front (λ n. n ≤ long)) IsReadable (reads.numbered (codes " ") long s.1) _ (numbered_in (codes " ") long s.1)
    (λ n i. then_gives (Front FitsIncarnation) IsReadable (reads.who_behind (codes " ") n.1) _ (who_in (codes " ") n.1) (λ x j. (h, i, j))))

freed_in : (line : List ℕ) → Gives IsReadable (reads.freed_of line)
freed_in line =
    then_gives (Front FitsSlot) IsReadable (reads.slot_behind (codes "freed ") line) _ (slot_behind_in (codes "freed ") line)
    (λ s h. then_gives (Front (λ n. n ≤ long)) IsReadable (reads.numbered (codes " ") long s.1) _ (numbered_in (codes " ") long s.1)
    (λ n i. behind_gives IsReadable (reads.text_at (codes " ") n.1) _ (λ r. behind_gives IsReadable (reads.cause_at r) _ (λ w. (h, i)))))

lease_in : (line : List ℕ) → Gives IsReadable (reads.lease_fact line)
lease_in line = or_gives IsReadable (reads.granted_of line) _ (granted_in line) (freed_in line)

allocated_in : (line : List ℕ) → Gives IsReadable (reads.allocated_of line)
allocated_in line =
    then_gives (Front (λ n. n ≤ 127)) IsReadable (reads.numbered (codes "allocated ") 127 line) _ (numbered_in (codes "allocated ") 127 line)
    (λ s h. then_gives (Front FitsIncarnation) IsReadable (reads.who_behind (codes " ") s.1) _ (who_in (codes " ") s.1) (λ x j. (h, j)))

coordinator_in : (line : List ℕ) → Gives IsReadable (reads.coordinator_fact line)
coordinator_in line =
    or_gives IsReadable _ _ (then_gives (Front FitsIncarnation) IsReadable (reads.who_behind (codes "registered ") line) _ (who_in (codes "registered ") line) (λ x h. h))
    (or_gives IsReadable _ _ (then_gives (Front FitsIncarnation) IsReadable (reads.who_behind (codes "terminated ") line) _ (who_in (codes "terminated ") line) (λ x h. h))
    (or_gives IsReadable (reads.allocated_of line) _ (allocated_in line)
    (then_gives (Front (λ n. n ≤ 127)) IsReadable (reads.numbered (codes "deallocated ") 127 line) _ (numbered_in (codes "deallocated ") 127 line) (λ s h. h))))

wrote_in : (line : List ℕ) → Gives IsReadable (reads.wrote_of line)
wrote_in line =
    then_gives (Front IsEntity) IsReadable (reads.entity_behind (codes "wrote ") line) _ (name_in (codes "wrote ") line)
    (λ e h. behind_gives IsReadable (reads.text_at (codes " ") e.1) _
    (λ r. then_gives (Front FitNumbers) IsReadable (reads.numbers_at r) _ (numbers_in r)
    (λ n i. then_gives (Front FitsOutcome) IsReadable (reads.outcome_at n.1) _ (outcome_in n.1)
    (λ o j. (
      h,
      record { number = i.0; epoch = i.1; producer = i.2; place = i.3; command = j.0; few = j.1.0; events = j.1.1; reply = j.2 },
    )))))

snapshot_in : (line : List ℕ) → Gives IsReadable (reads.snapshot_of line)
snapshot_in line =
    then_gives (Front IsEntity) IsReadable (reads.entity_behind (codes "snapshot ") line) _ (name_in (codes "snapshot ") line)
    (λ e h. then_gives (Front (λ n. n ≤ long)) IsReadable (reads.numbered (codes " ") long e.1) _ (numbered_in (codes " ") long e.1) (λ n j. (h, j)))

entity_fact_in : (line : List ℕ) → Gives IsReadable (reads.entity_fact line)
entity_fact_in line =
    or_gives IsReadable (reads.wrote_of line) _ (wrote_in line)
    (or_gives IsReadable (reads.snapshot_of line) _ (snapshot_in line)
    (or_gives IsReadable _ _ (then_gives (Front IsEntity) IsReadable (reads.entity_behind (codes "remembered ") line) _ (name_in (codes "remembered ") line) (λ e h. h))
    (then_gives (Front IsEntity) IsReadable (reads.entity_behind (codes "forgotten ") line) _ (name_in (codes "forgotten ") line) (λ e h. h))))

queued_in : (line : List ℕ) → Gives IsReadable (reads.queued_of line)
queued_in line =
    behind_gives IsReadable (reads.text_at (codes "queued ") line) _
    (λ a. then_gives (Front FitsPair) IsReadable (reads.pair_at a) _ (pair_in a)
    (λ p h. behind_gives IsReadable (reads.text_at (codes " ") p.1) _
    (λ b. then_gives (Front FitsCommand) IsReadable (reads.command_at b) _ (command_in b) (λ k j. (h.0, h.1, h.2, j)))))

confirmed_in : (line : List ℕ) → Gives IsReadable (reads.confirmed_of line)
confirmed_in line = behind_gives IsReadable (reads.text_at (codes "confirmed ") line) _ (λ a. then_gives (Front FitsPair) IsReadable (reads.pair_at a) _ (pair_in a) (λ p h. h))

queue_in : (line : List ℕ) → Gives IsReadable (reads.queue_fact line)
queue_in line = or_gives IsReadable (reads.queued_of line) _ (queued_in line) (confirmed_in line)

node_in : (line : List ℕ) → Gives IsReadable (reads.node_fact line)
node_in line =
    or_gives IsReadable _ _ (then_gives Lives IsReadable (reads.life_at (codes "start ") line) _ (life_in (codes "start ") line) (λ x h. h))
    (or_gives IsReadable _ _ (then_gives Lives IsReadable (reads.life_at (codes "stop ") line) _ (life_in (codes "stop ") line) (λ x h. h))
    (or_gives IsReadable _ _ (then_gives Lives IsReadable (reads.life_at (codes "writefailed ") line) _ (life_in (codes "writefailed ") line) (λ x h. h))
    (then_gives (Front FitsIncarnation) IsReadable (reads.who_behind (codes "gone ") line) _ (who_in (codes "gone ") line) (λ x h. h))))

script_in : (line : List ℕ) → Gives IsReadable (reads.script_fact line)
script_in line =
    or_gives IsReadable _ _ (then_gives (Front (λ n. n ≤ byte)) IsReadable (reads.numbered (codes "upgrade ") byte line) _ (numbered_in (codes "upgrade ") byte line) (λ v h. h))
    (then_gives (Front (λ n. n ≤ byte)) IsReadable (reads.numbered (codes "reshard ") byte line) _ (numbered_in (codes "reshard ") byte line)
    (λ n h. then_gives (Front (λ n. n ≤ long)) IsReadable (reads.numbered (codes " ") long n.1) _ (numbered_in (codes " ") long n.1) (λ k j. (h, j))))

fact_in : (line : List ℕ) → Gives IsReadable (reads.fact_at line)
fact_in line =
    or_gives IsReadable (reads.entity_fact line) _ (entity_fact_in line)
    (or_gives IsReadable (reads.queue_fact line) _ (queue_in line)
    (or_gives IsReadable (reads.lease_fact line) _ (lease_in line)
    (or_gives IsReadable (reads.coordinator_fact line) _ (coordinator_in line)
    (or_gives IsReadable (reads.node_fact line) _ (node_in line) (script_in line)))))

-- States, and facts with them.

item_at_in : (line : List ℕ) → Reads FitsItem (states.item_at line)
item_at_in line =
    then_gives (Front (λ n. n ≤ short)) (Front FitsItem) (reads.number_at short line) _ (number_in short line)
    (λ a h. then_gives (Front (λ n. n ≤ short)) (Front FitsItem) (reads.numbered (codes ":") short a.1) _ (numbered_in (codes ":") short a.1) (λ b j. (h, j)))

-- so many items, each in range
abbrev FewItems : ℕ → List CartItem → Type 0
FewItems n xs = (length xs ≤ n) × FitItems xs

items_more : (xs : List CartItem) (x : CartItem) → FitItems xs → FitsItem x → FitItems (xs ++ x ∷ [])
items_more [] x h k = (k, tt)
items_more (y ∷ ys) x h k = (h.0, items_more ys x h.1 k)

item_more_in : (n : ℕ) (done : List CartItem × List ℕ) → FewItems n done.0 → FewItems (n + 1) (states.item_more done).0
item_more_in n done h = by (reads.and_then (reads.text_at (codes ",") done.1) states.item_at) (behind_gives (Front FitsItem) (reads.text_at (codes ",") done.1) states.item_at item_at_in)
  where
    by : (o : Read CartItem) → Reads FitsItem o → FewItems (n + 1) (states.item_after done o).0
    by None k = (omega (arith, h.0), h.1)
    by (Some x) k = (omega (arith, h.0, length-append done.0 (x.0 ∷ [])), items_more done.0 x.0 h.1 k)

items_on_in : (k n : ℕ) (done : List CartItem × List ℕ) → FewItems n done.0 → FewItems (n + k) (states.items_on k done).0
items_on_in zero n done h = (omega (arith, h.0), h.1)
items_on_in (suc k) n done h = let r = items_on_in k (n + 1) (states.item_more done) (item_more_in n done h) in (omega (arith, r.0), r.1)

items_in : (line : List ℕ) → Reads (FewItems 16) (states.items_at line)
items_in line =
    or_gives (Front (FewItems 16)) _ _
    (then_gives (Front FitsItem) (Front (FewItems 16)) (states.item_at line) _ (item_at_in line) (λ x h. items_on_in 15 1 (x.0 ∷ [], x.1) (omega arith, (h, tt))))
    (named_gives (FewItems 16) (codes "-") [] line (omega arith, tt))

counter_in : (line : List ℕ) → Reads FitsState (states.counter_at line)
counter_in line = then_gives (Front (λ n. n ≤ full)) (Front FitsState) (reads.number_at full line) _ (number_in full line) (λ n h. h)

cart_in : (text : List ℕ) (out : Bool) (line : List ℕ) → Reads FitsState (states.cart_behind text out line)
cart_in text out line =
    behind_gives (Front FitsState) (reads.text_at text line) _
    (λ r. then_gives (Front (FewItems 16)) (Front FitsState) (states.items_at r) _ (items_in r) (λ xs h. h))

open_in : (line : List ℕ) → Reads FitsState (states.open_at line)
open_in line =
    then_gives (Front (λ n. n ≤ full)) (Front FitsState) (reads.numbered (codes "open ") full line) _ (numbered_in (codes "open ") full line)
    (λ b h. or_gives (Front FitsState) _ _
    (then_gives (Front (λ n. n ≤ short)) (Front FitsState) (reads.numbered (codes " memo ") short b.1) _ (numbered_in (codes " memo ") short b.1) (λ m j. (h, j)))
    (h, omega arith))

account_in : (line : List ℕ) → Reads FitsState (states.account_at line)
account_in line =
    or_gives (Front FitsState) (states.open_at line) _ (open_in line)
    (or_gives (Front FitsState) _ _ (named_gives FitsState (codes "none") state.NoAccount line tt) (named_gives FitsState (codes "closed") state.Closed line tt))

state_in : (line : List ℕ) → Reads FitsState (states.state_at line)
state_in line =
    or_gives (Front FitsState) (states.counter_at line) _ (counter_in line)
    (or_gives (Front FitsState) _ _ (cart_in (codes "open ") false line)
    (or_gives (Front FitsState) _ _ (cart_in (codes "out ") true line) (account_in line)))

abbrev FitsStanding : ℕ × State → Type 0
FitsStanding s = (s.0 ≤ long) × FitsState s.1

standing_in : (line : List ℕ) → Reads FitsStanding (states.standing_at line)
standing_in line =
    then_gives (Front (λ n. n ≤ long)) (Front FitsStanding) (reads.numbered (codes " ") long line) _ (numbered_in (codes " ") long line)
    (λ n h. behind_gives (Front FitsStanding) (reads.text_at (codes " ") n.1) _
    (λ r. then_gives (Front FitsState) (Front FitsStanding) (states.state_at r) _ (state_in r) (λ s j. (h, j))))

active_in : (line : List ℕ) → Gives IsTold (states.active_at line)
active_in line =
    then_gives (Front FitsIncarnation) IsTold (reads.who_behind (codes "active ") line) _ (who_in (codes "active ") line)
    (λ x h. then_gives (Front IsEntity) IsTold (reads.entity_behind (codes " ") x.1) _ (name_in (codes " ") x.1)
    (λ e i. then_gives (Front FitsStanding) IsTold (states.standing_at e.1) _ (standing_in e.1) (λ s j. (h, i, j.0, j.1))))

told_of : (f : Fact) → IsReadable f → Gives IsTold (states.upgraded f)
told_of (fact.Active x e m st) k = absurd k
told_of (fact.Upgrade v) k = by (v == 2) refl
  where
    by : (b : Bool) → (v == 2) ≡ b → Gives IsTold (if b then Some (fact.Upgrade v) else None)
    by true e = same_number v 2 e
    by false e = tt
told_of f k = k

told_in : (line : List ℕ) → Gives IsTold (states.told_at line)
told_in line = or_gives IsTold (states.active_at line) _ (active_in line) (by (reads.fact_at line) (fact_in line))
  where
    by : (o : Option Fact) → Gives IsReadable o → Gives IsTold (reads.and_then o states.upgraded)
    by None k = tt
    by (Some f) k = told_of f k

-- what is read is a fact that may be told
pub read_is_told : (line : List ℕ) (f : Fact) → states.told_at line ≡ Some f → IsTold f
read_is_told line f h = by (states.told_at line) h (told_in line)
  where
    same : (g : Fact) → Some g ≡ Some f → g ≡ f
    same g e = cc

    none_some : None ≡ Some f → ⊥
    none_some e = cc

    by : (o : Option Fact) → o ≡ Some f → Gives IsTold o → IsTold f
    by None e k = absurd (none_some e)
    by (Some g) e k = subst IsTold (same g e) k
