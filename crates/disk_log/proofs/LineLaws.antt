-- No entry's line is longer than what reading has at hand.
use Rattle.std.proofs.Common.{◌≡◌, ◌≤◌, ◌⊎◌, inl, inr, ℕ, ◌+◌, ◌-◌, ◌*◌, sym, ap, ◌∙◌, arith, length-append}
use Rattle.std.specs.Prelude.{true, nat_le, List, [], ◌∷◌, ◌++◌, length, take, codes, decimal}
use Rattle.std.specs.List.{list_all}
use Rattle.std.proofs.lemmas.Fmt.{length-decimal-le}
use Rattle.std.proofs.lemmas.List.{take-append-le, take-take, length-take}
use Rattle.std.proofs.Math.Seq.{take-append-add}
use Rattle.plain_laws.proofs.Booleans.{and_both, at_most}
use Rattle.yard_model.specs.Behaviour.{is_in}
use Rattle.yard_model.specs.Name.{is_name_byte}
use Rattle.yard_model.specs.declared.fact.Fact.{Fact}
use Rattle.yard_model.specs.declared.fact.Fact.TheVariants as fact
use Rattle.yard_model.specs.declared.incarnation.Incarnation.{Incarnation}
use Rattle.yard_model.specs.declared.incarnation.Slot.{Slot}
use Rattle.yard_model.specs.declared.incarnation.Slot.TheVariants as slot
use Rattle.yard_model.specs.declared.incarnation.Cause.{Cause}
use Rattle.yard_model.specs.declared.incarnation.Cause.TheVariants as cause
use Rattle.yard_model.specs.declared.event.Command.{Command}
use Rattle.yard_model.specs.declared.event.Command.TheVariants as command
use Rattle.yard_model.specs.declared.event.Event.{Event}
use Rattle.yard_model.specs.declared.event.Event.TheVariants as event
use Rattle.yard_model.specs.declared.event.Reply.{Reply}
use Rattle.yard_model.specs.declared.event.Reply.TheVariants as reply
use Rattle.yard_model.specs.declared.packet.Record.{Record}
use Rattle.yard_model.specs.Text.{cause_text, command_text, event_text, events_text, fact_line, fact_words, incarnation_text, record_words, reply_text, slot_text, words}
use Rattle.fact_lines.specs.Entry.{is_entry}
use Rattle.fact_lines.specs.Entries.{IsNoEntry}
use Rattle.fact_lines.specs.Readable.{FitEach, FitsCommand, FitsEvent, FitsIncarnation, FitsRecord, FitsReply, FitsSlot, IsReadable}
use Rattle.fact_lines.specs.Reads.{is_entity, wide}
use Rattle.fact_lines.proofs.EntryLaws.{entries_are_readable}

-- room for words with a space behind each
abbrev room : List (List ℕ) → ℕ
room [] = 0
room (w ∷ ws) = length w + (1 + room ws)

words_fit : (ws : List (List ℕ)) → length (words ws) ≤ room ws
words_fit [] = omega arith
words_fit (w ∷ []) = omega arith
words_fit (w ∷ v ∷ ws) = omega (arith, length-append w (32 ∷ words (v ∷ ws)), words_fit (v ∷ ws))

number : (n : ℕ) → n ≤ wide → length (decimal n) ≤ 18
number n h = length-decimal-le 18 n (omega arith) (omega (arith, h)) (omega (arith, h))

incarnation : (x : Incarnation) → FitsIncarnation x → length (incarnation_text x) ≤ 37
incarnation x h = omega (arith, length-append (decimal x.node) (46 ∷ decimal x.number), number x.node (omega (arith, h.1)), number x.number (omega (arith, h.2)))

slot_fits : (s : Slot) → FitsSlot s → length (slot_text s) ≤ 24
slot_fits (slot.Shard s) h = omega (arith, length-append (codes "shard:") (decimal s), number s (omega (arith, h)))
slot_fits slot.Coordinator h = omega arith
slot_fits (slot.Queue p) h = omega (arith, length-append (codes "queue:") (decimal p), number p (omega (arith, h.1)))

one_word : (w : List ℕ) (n : ℕ) → length w ≤ 9 → n ≤ wide → length (words (w ∷ decimal n ∷ [])) ≤ 60
one_word w n h k = omega (arith, words_fit (w ∷ decimal n ∷ []), number n k, h)

two_words : (w : List ℕ) (n m : ℕ) → length w ≤ 9 → n ≤ wide → m ≤ wide → length (words (w ∷ decimal n ∷ decimal m ∷ [])) ≤ 60
two_words w n m h k l = omega (arith, words_fit (w ∷ decimal n ∷ decimal m ∷ []), number n k, number m l, h)

memo_words : (w : List ℕ) (n m : ℕ) → length w ≤ 9 → n ≤ wide → m ≤ wide → length (words (w ∷ decimal n ∷ codes "memo" ∷ decimal m ∷ [])) ≤ 60
memo_words w n m h k l = omega (arith, words_fit (w ∷ decimal n ∷ codes "memo" ∷ decimal m ∷ []), number n k, number m l, h)

command_fits : (k : Command) → FitsCommand k → length (command_text k) ≤ 60
command_fits (command.Add k) h = one_word (codes "add") k (omega arith) (omega (arith, h))
command_fits command.Read h = omega arith
command_fits command.Create h = omega arith
command_fits (command.Deposit k) h = one_word (codes "deposit") k (omega arith) (omega (arith, h))
command_fits (command.Withdraw k) h = one_word (codes "withdraw") k (omega arith) (omega (arith, h))
command_fits (command.DepositWithMemo m k) h = two_words (codes "deposit") k m (omega arith) (omega (arith, h.1)) (omega (arith, h.0))
command_fits (command.WithdrawWithMemo m k) h = two_words (codes "withdraw") k m (omega arith) (omega (arith, h.1)) (omega (arith, h.0))
command_fits command.Balance h = omega arith
command_fits command.Close h = omega arith
command_fits (command.AddItem x) h = two_words (codes "add") x.item x.quantity (omega arith) (omega (arith, h.0)) (omega (arith, h.1))
command_fits (command.RemoveItem i) h = one_word (codes "remove") i (omega arith) (omega (arith, h))
command_fits (command.AdjustItem x) h = two_words (codes "adjust") x.item x.quantity (omega arith) (omega (arith, h.0)) (omega (arith, h.1))
command_fits command.Checkout h = omega arith

event_fits : (e : Event) → FitsEvent e → length (event_text e) ≤ 60
event_fits (event.Added k) h = one_word (codes "added") k (omega arith) (omega (arith, h))
event_fits event.Created h = omega arith
event_fits (event.Deposited k) h = one_word (codes "deposited") k (omega arith) (omega (arith, h))
event_fits (event.Withdrawn k) h = one_word (codes "withdrawn") k (omega arith) (omega (arith, h))
event_fits (event.DepositedWithMemo m k) h = memo_words (codes "deposited") k m (omega arith) (omega (arith, h.1)) (omega (arith, h.0))
event_fits (event.WithdrawnWithMemo m k) h = memo_words (codes "withdrawn") k m (omega arith) (omega (arith, h.1)) (omega (arith, h.0))
event_fits event.AccountClosed h = omega arith
event_fits (event.ItemAdded x) h = two_words (codes "added") x.item x.quantity (omega arith) (omega (arith, h.0)) (omega (arith, h.1))
event_fits (event.ItemRemoved i) h = one_word (codes "removed") i (omega arith) (omega (arith, h))
event_fits (event.ItemAdjusted x) h = two_words (codes "adjusted") x.item x.quantity (omega arith) (omega (arith, h.0)) (omega (arith, h.1))
event_fits event.CheckedOut h = omega arith

events_fit : (es : List Event) → FitEach es → length (events_text es) ≤ 1 + 62 * length es
events_fit [] h = omega arith
events_fit (e ∷ []) h = omega (arith, event_fits e h.0)
events_fit (e ∷ f ∷ es) h =
    let long : length (events_text (e ∷ f ∷ es)) ≡ length (event_text e ++ codes ", ") + length (events_text (f ∷ es)) = length-append (event_text e ++ codes ", ") (events_text (f ∷ es)) in
    omega (arith, long, length-append (event_text e) (codes ", "), event_fits e h.0, events_fit (f ∷ es) h.1)

reply_fits : (x : Reply) → FitsReply x → length (reply_text x) ≤ 60
reply_fits (reply.Value v) h = one_word (codes "ok") v (omega arith) h
reply_fits (reply.Rejected r) h = one_word (codes "no") r (omega arith) (omega (arith, h))

cause_fits : (w : Cause) → length (cause_text w) ≤ 8
cause_fits cause.Released = omega arith
cause_fits cause.Stopped = omega arith

entity_fits : (e : List ℕ) → is_entity e ≡ true → length e ≤ 32
entity_fits e h =
    let k = and_both (is_in 1 32 (length e)) (list_all is_name_byte e) h in
    at_most (length e) 32 (and_both (nat_le 1 (length e)) (nat_le (length e) 32) k.0).1

-- a line whose words have room
line_has : (ws : List (List ℕ)) → room ws ≤ 1023 → length (words ws ++ 10 ∷ []) ≤ 1024
line_has ws h = omega (arith, length-append (words ws) (10 ∷ []), words_fit ws, h)

record_fits : (r : Record) → FitsRecord r → room (record_words r) ≤ 640
record_fits r h =
    omega (
      arith,
      number r.number (omega (arith, h.number)),
      number r.epoch (omega (arith, h.epoch)),
      length-append (decimal r.producer) (58 ∷ decimal r.place),
      number r.producer (omega (arith, h.producer.1)),
      number r.place (omega (arith, h.place)),
      command_fits r.command h.command,
      events_fit r.events h.events,
      h.few,
      reply_fits r.reply h.reply,
    )

readable_fits : (f : Fact) → IsReadable f → length (fact_line f) ≤ 1024
readable_fits (fact.Granted s n x) h = line_has (fact_words (fact.Granted s n x)) (omega (arith, slot_fits s h.0, number n (omega (arith, h.1)), incarnation x h.2))
readable_fits (fact.Freed s n why) h = line_has (fact_words (fact.Freed s n why)) (omega (arith, slot_fits s h.0, number n (omega (arith, h.1)), cause_fits why))
readable_fits (fact.Registered x) h = line_has (fact_words (fact.Registered x)) (omega (arith, incarnation x h))
readable_fits (fact.Terminated x) h = line_has (fact_words (fact.Terminated x)) (omega (arith, incarnation x h))
readable_fits (fact.Allocated s x) h = line_has (fact_words (fact.Allocated s x)) (omega (arith, number s (omega (arith, h.0)), incarnation x h.1))
readable_fits (fact.Deallocated s) h = line_has (fact_words (fact.Deallocated s)) (omega (arith, number s (omega (arith, h))))
readable_fits (fact.Wrote e r) h = line_has (fact_words (fact.Wrote e r)) (omega (arith, entity_fits e h.0, record_fits r h.1))
readable_fits (fact.Snapshot e n) h = line_has (fact_words (fact.Snapshot e n)) (omega (arith, entity_fits e h.0, number n (omega (arith, h.1))))
readable_fits (fact.Remembered e) h = line_has (fact_words (fact.Remembered e)) (omega (arith, entity_fits e h))
readable_fits (fact.Forgotten e) h = line_has (fact_words (fact.Forgotten e)) (omega (arith, entity_fits e h))
readable_fits (fact.Queued p e n k) h =
    line_has (fact_words (fact.Queued p e n k)) (omega (arith, number p (omega (arith, h.0.1)), entity_fits e h.1, number n (omega (arith, h.2)), command_fits k h.3))
readable_fits (fact.Confirmed p e n) h = line_has (fact_words (fact.Confirmed p e n)) (omega (arith, number p (omega (arith, h.0.1)), entity_fits e h.1, number n (omega (arith, h.2))))
readable_fits (fact.Start x e) h = line_has (fact_words (fact.Start x e)) (omega (arith, incarnation x h.0, entity_fits e h.1))
readable_fits (fact.Stop x e) h = line_has (fact_words (fact.Stop x e)) (omega (arith, incarnation x h.0, entity_fits e h.1))
readable_fits (fact.WriteFailed x e) h = line_has (fact_words (fact.WriteFailed x e)) (omega (arith, incarnation x h.0, entity_fits e h.1))
readable_fits (fact.Gone x) h = line_has (fact_words (fact.Gone x)) (omega (arith, incarnation x h))
readable_fits (fact.Upgrade v) h = line_has (fact_words (fact.Upgrade v)) (omega (arith, number v (omega (arith, h))))
readable_fits (fact.Reshard n k) h = line_has (fact_words (fact.Reshard n k)) (omega (arith, number n (omega (arith, h.0)), number k (omega (arith, h.1))))
readable_fits (fact.At n) h = absurd h
readable_fits fact.Nothing h = absurd h
readable_fits fact.WireFull h = absurd h
readable_fits fact.Settled h = absurd h
readable_fits (fact.Up x) h = absurd h
readable_fits (fact.View x v) h = absurd h
readable_fits (fact.Sent n p) h = absurd h
readable_fits (fact.Got n) h = absurd h
readable_fits (fact.Held s x n) h = absurd h
readable_fits (fact.Moving s st) h = absurd h
readable_fits (fact.Home x s y) h = absurd h
readable_fits (fact.Forget x s) h = absurd h
readable_fits (fact.Kept x m) h = absurd h
readable_fits (fact.Dropped x m) h = absurd h
readable_fits (fact.Stashed x m) h = absurd h
readable_fits (fact.Active x e n st) h = absurd h
readable_fits (fact.Armed e w) h = absurd h
readable_fits (fact.Waits p e c) h = absurd h
readable_fits (fact.Resharded s n m) h = absurd h
readable_fits (fact.SentAsk n x) h = absurd h
readable_fits (fact.SentJob n x e) h = absurd h
readable_fits (fact.SentDone n x e) h = absurd h
readable_fits (fact.Given e x) h = absurd h
readable_fits (fact.Did x e) h = absurd h

pub line_fits : (f : Fact) → is_entry f ≡ true → length (fact_line f) ≤ 1024
line_fits f h = readable_fits f (entries_are_readable f h)

-- no entry's line begins a text where none begins what is at hand of it
pub no_entry_more : (front whole rest : List ℕ) (left have : ℕ) → whole ≡ front ++ rest → have ≤ length front → have ≤ left → (have ≡ left) ⊎ (1024 ≤ have)
    → IsNoEntry (take have front) → IsNoEntry (take left whole)
no_entry_more front whole rest left have is long le enough none f behind entry text =
    none f (take (have - length (fact_line f)) behind) entry (same ∙ (ap (take have) text ∙ (ap (λ k. take k (fact_line f ++ behind)) sum ∙ take-append-add (fact_line f) behind (have - length (fact_line f)))))
  where
    reach : length (fact_line f) ≤ left
    reach = omega (arith, ap length text, length-append (fact_line f) behind, length-take left whole)

    inside_of : (have ≡ left) ⊎ (1024 ≤ have) → length (fact_line f) ≤ have
    inside_of (inl e) = omega (arith, e, reach)
    inside_of (inr m) = omega (arith, m, line_fits f entry)

    inside : length (fact_line f) ≤ have
    inside = inside_of enough

    sum : have ≡ length (fact_line f) + (have - length (fact_line f))
    sum = omega (arith, inside)

    same : take have front ≡ take have (take left whole)
    same = sym (take-append-le have front rest long) ∙ (ap (take have) (sym is) ∙ sym (take-take have left whole le))
