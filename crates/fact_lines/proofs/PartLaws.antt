-- The parts of a line, as they are printed, are read.
use Rattle.std.proofs.Common.{◌≡◌, ◌≤◌, ℕ, suc, sym, ap, ◌∙◌, refl, arith}
use Rattle.std.specs.Prelude.{false, List, [], ◌∷◌, ◌++◌, length, codes, decimal, Option, Some, None}
use Rattle.std.proofs.lemmas.List.{append-nil, append_assoc}
use Rattle.plain_laws.proofs.Booleans.{is_below}
use Rattle.yard_model.specs.declared.incarnation.Incarnation.{Incarnation}
use Rattle.yard_model.specs.declared.incarnation.Slot.{Slot}
use Rattle.yard_model.specs.declared.incarnation.Slot.TheVariants as slot
use Rattle.yard_model.specs.declared.incarnation.Cause.{Cause}
use Rattle.yard_model.specs.declared.incarnation.Cause.TheVariants as cause
use Rattle.yard_model.specs.declared.event.Command.{Command}
use Rattle.yard_model.specs.declared.event.Command.TheVariants as command
use Rattle.yard_model.specs.declared.event.Event.{Event}
use Rattle.yard_model.specs.declared.event.Event.TheVariants as event
use Rattle.yard_model.specs.declared.event.Reply.{Reply}
use Rattle.yard_model.specs.declared.event.Reply.TheVariants as reply
use Rattle.yard_model.specs.Text.{cause_text, command_text, event_text, events_text, incarnation_text, reply_text, slot_text}
use Rattle.fact_lines.specs.Readable.{FitEach, FitsCommand, FitsEvent, FitsIncarnation, FitsReply, FitsSlot}
use Rattle.fact_lines.specs.Reads.{Read, and_then, begins_digit, byte, cause_at, command_at, event_after, event_at, event_more, events_at, from_one, incarnation_at, long, number_at, numbered, or_else, reply_at, short, slot_at, text_at, wide}
use Rattle.fact_lines.proofs.NumberLaws.{number_read}

pub from_one_read : (top n : ℕ) (rest : List ℕ) → 1 ≤ n → n ≤ top → top ≤ wide → begins_digit rest ≡ false → from_one top (decimal n ++ rest) ≡ Some (n, rest)
from_one_read top n rest one h t e = rw (number_read top n rest h (omega (arith, t)) e, is_below 0 n one) refl

pub long_read : (n : ℕ) (rest : List ℕ) → n ≤ long → begins_digit rest ≡ false → number_at long (decimal n ++ rest) ≡ Some (n, rest)
long_read n rest h e = number_read long n rest h (omega arith) e

pub short_read : (n : ℕ) (rest : List ℕ) → n ≤ short → begins_digit rest ≡ false → number_at short (decimal n ++ rest) ≡ Some (n, rest)
short_read n rest h e = number_read short n rest h (omega arith) e

pub incarnation_read : (x : Incarnation) (rest : List ℕ) → FitsIncarnation x → begins_digit rest ≡ false → incarnation_at (incarnation_text x ++ rest) ≡ Some (x, rest)
incarnation_read x rest k e =
    ap incarnation_at (append_assoc (decimal x.node) (46 ∷ decimal x.number) rest)
    ∙ rw (from_one_read 16 x.node (46 ∷ (decimal x.number ++ rest)) k.0 k.1 (omega arith) refl, long_read x.number rest k.2 e) refl

pub slot_read : (s : Slot) (rest : List ℕ) → FitsSlot s → begins_digit rest ≡ false → slot_at (slot_text s ++ rest) ≡ Some (s, rest)
slot_read (slot.Shard s) rest k e = rw (number_read 127 s rest k (omega arith) e) refl
slot_read slot.Coordinator rest k e = refl
slot_read (slot.Queue p) rest k e = rw (from_one_read 32 p rest k.0 k.1 (omega arith) e) refl

pub cause_read : (w : Cause) (rest : List ℕ) → cause_at (cause_text w ++ rest) ≡ Some (w, rest)
cause_read cause.Released rest = refl
cause_read cause.Stopped rest = refl

-- what may stand behind a command or an event
pub record Behind (rest : List ℕ) : Type 0 where
  pub digit : begins_digit rest ≡ false
  pub more : numbered (32 ∷ []) short rest ≡ None
  pub memo : numbered (codes " memo ") short rest ≡ None

pub nothing_behind : (rest : List ℕ) → Behind (10 ∷ rest)
nothing_behind rest = record { digit = refl; more = refl; memo = refl }

pub slash_behind : (rest : List ℕ) → Behind (32 ∷ 47 ∷ rest)
slash_behind rest = record { digit = refl; more = refl; memo = refl }

pub comma_behind : (rest : List ℕ) → Behind (44 ∷ rest)
comma_behind rest = record { digit = refl; more = refl; memo = refl }

pub command_read : (k : Command) (rest : List ℕ) → FitsCommand k → Behind rest → command_at (command_text k ++ rest) ≡ Some (k, rest)
command_read (command.Add k) rest h b = let e = short_read k rest h b.digit in let m = b.more in rw (e, m) refl
command_read command.Read rest h b = refl
command_read command.Create rest h b = refl
command_read (command.Deposit k) rest h b = let e = long_read k rest h b.digit in let m = b.more in rw (e, m) refl
command_read (command.Withdraw k) rest h b = let e = long_read k rest h b.digit in let m = b.more in rw (e, m) refl
command_read (command.DepositWithMemo m k) rest h b =
    rw (append_assoc (decimal k) (32 ∷ decimal m) rest, long_read k (32 ∷ (decimal m ++ rest)) h.1 refl, short_read m rest h.0 b.digit) refl
command_read (command.WithdrawWithMemo m k) rest h b =
    rw (append_assoc (decimal k) (32 ∷ decimal m) rest, long_read k (32 ∷ (decimal m ++ rest)) h.1 refl, short_read m rest h.0 b.digit) refl
command_read command.Balance rest h b = refl
command_read command.Close rest h b = refl
command_read (command.AddItem x) rest h b =
    rw (append_assoc (decimal x.item) (32 ∷ decimal x.quantity) rest, short_read x.item (32 ∷ (decimal x.quantity ++ rest)) h.0 refl, short_read x.quantity rest h.1 b.digit) refl
command_read (command.RemoveItem i) rest h b = let e = short_read i rest h b.digit in rw e refl
command_read (command.AdjustItem x) rest h b =
    rw (append_assoc (decimal x.item) (32 ∷ decimal x.quantity) rest, short_read x.item (32 ∷ (decimal x.quantity ++ rest)) h.0 refl, short_read x.quantity rest h.1 b.digit) refl
command_read command.Checkout rest h b = refl

pub event_read : (k : Event) (rest : List ℕ) → FitsEvent k → Behind rest → event_at (event_text k ++ rest) ≡ Some (k, rest)
event_read (event.Added k) rest h b = let e = short_read k rest h b.digit in let m = b.more in rw (e, m) refl
event_read event.Created rest h b = refl
event_read (event.Deposited k) rest h b = let e = long_read k rest h b.digit in let m = b.memo in rw (e, m) refl
event_read (event.Withdrawn k) rest h b = let e = long_read k rest h b.digit in let m = b.memo in rw (e, m) refl
event_read (event.DepositedWithMemo m k) rest h b =
    rw (append_assoc (decimal k) (codes " memo " ++ decimal m) rest, long_read k (codes " memo " ++ (decimal m ++ rest)) h.1 refl, short_read m rest h.0 b.digit) refl
event_read (event.WithdrawnWithMemo m k) rest h b =
    rw (append_assoc (decimal k) (codes " memo " ++ decimal m) rest, long_read k (codes " memo " ++ (decimal m ++ rest)) h.1 refl, short_read m rest h.0 b.digit) refl
event_read event.AccountClosed rest h b = refl
event_read (event.ItemAdded x) rest h b =
    rw (append_assoc (decimal x.item) (32 ∷ decimal x.quantity) rest, short_read x.item (32 ∷ (decimal x.quantity ++ rest)) h.0 refl, short_read x.quantity rest h.1 b.digit) refl
event_read (event.ItemRemoved i) rest h b = let e = short_read i rest h b.digit in rw e refl
event_read (event.ItemAdjusted x) rest h b =
    rw (append_assoc (decimal x.item) (32 ∷ decimal x.quantity) rest, short_read x.item (32 ∷ (decimal x.quantity ++ rest)) h.0 refl, short_read x.quantity rest h.1 b.digit) refl
event_read event.CheckedOut rest h b = refl

-- each event behind the first, with its comma
abbrev commas : List Event → List ℕ
commas [] = []
commas (e ∷ es) = 44 ∷ 32 ∷ (event_text e ++ commas es)

comma_first : (e : Event) (es : List Event) → events_text (e ∷ es) ≡ event_text e ++ commas es
comma_first e [] = sym (append-nil (event_text e))
comma_first e (f ∷ es) = append_assoc (event_text e) (44 ∷ 32 ∷ []) (events_text (f ∷ es)) ∙ ap (λ t. event_text e ++ (44 ∷ 32 ∷ t)) (comma_first f es)

-- what stands behind the events
abbrev tail : List Event → List ℕ → List ℕ
tail es r = commas es ++ (32 ∷ 47 ∷ r)

tail_behind : (es : List Event) (r : List ℕ) → Behind (tail es r)
tail_behind [] r = slash_behind r
tail_behind (e ∷ es) r = comma_behind (32 ∷ ((event_text e ++ commas es) ++ (32 ∷ 47 ∷ r)))

one_more : (done : List Event) (e : Event) (es : List Event) (r : List ℕ) → FitsEvent e → event_more (done, tail (e ∷ es) r) ≡ (done ++ e ∷ [], tail es r)
one_more done e es r k =
    ap (λ t. event_more (done, 44 ∷ 32 ∷ t)) (append_assoc (event_text e) (commas es) (32 ∷ 47 ∷ r))
    ∙ ap (λ (o : Read Event). event_after (done, 44 ∷ 32 ∷ (event_text e ++ tail es r)) o) (event_read e (tail es r) k (tail_behind es r))

three : (a : Event) (es : List Event) (r : List ℕ) → length es ≤ 3 → FitEach es → event_more (event_more (event_more (a ∷ [], tail es r))) ≡ (a ∷ es, 32 ∷ 47 ∷ r)
three a [] r l k = refl
three a (b ∷ []) r l k = ap (λ x. event_more (event_more x)) (one_more (a ∷ []) b [] r k.0)
three a (b ∷ c ∷ []) r l k = ap event_more (ap event_more (one_more (a ∷ []) b (c ∷ []) r k.0) ∙ one_more (a ∷ b ∷ []) c [] r k.1.0)
three a (b ∷ c ∷ d ∷ []) r l k =
    ap event_more (ap event_more (one_more (a ∷ []) b (c ∷ d ∷ []) r k.0) ∙ one_more (a ∷ b ∷ []) c (d ∷ []) r k.1.0) ∙ one_more (a ∷ b ∷ c ∷ []) d [] r k.1.1.0
three a (b ∷ c ∷ d ∷ e ∷ es) r l k = absurd (too_many (length es) l)
  where
    too_many : (n : ℕ) → suc (suc (suc (suc n))) ≤ 3 → ⊥
    too_many n h = omega (arith, h)

-- an event doesn't begin with a dash
no_dash : (e : Event) (rest : List ℕ) → text_at (45 ∷ []) (event_text e ++ rest) ≡ None
no_dash (event.Added k) rest = refl
no_dash event.Created rest = refl
no_dash (event.Deposited k) rest = refl
no_dash (event.Withdrawn k) rest = refl
no_dash (event.DepositedWithMemo m k) rest = refl
no_dash (event.WithdrawnWithMemo m k) rest = refl
no_dash event.AccountClosed rest = refl
no_dash (event.ItemAdded x) rest = refl
no_dash (event.ItemRemoved i) rest = refl
no_dash (event.ItemAdjusted x) rest = refl
no_dash event.CheckedOut rest = refl

pub events_read : (es : List Event) (r : List ℕ) → length es ≤ 4 → FitEach es → events_at (events_text es ++ (32 ∷ 47 ∷ r)) ≡ Some (es, 32 ∷ 47 ∷ r)
events_read [] r l k = refl
events_read (a ∷ es) r l k =
    ap (λ t. events_at (t ++ (32 ∷ 47 ∷ r))) (comma_first a es)
    ∙ (ap events_at (append_assoc (event_text a) (commas es) (32 ∷ 47 ∷ r))
    ∙ (ap (λ (o : Option (List ℕ)). or_else (and_then o (λ rest. Some (none, rest))) (and_then (event_at (event_text a ++ tail es r)) (λ e. Some (event_more (event_more (event_more (e.0 ∷ [], e.1))))))) (no_dash a (tail es r))
    ∙ (ap (λ (o : Read Event). and_then o (λ e. Some (event_more (event_more (event_more (e.0 ∷ [], e.1)))))) (event_read a (tail es r) k.0 (tail_behind es r))
    ∙ ap (λ x. Some x) (three a es r (omega (arith, l)) k.1))))
  where
    none : List Event
    none = []

pub reply_read : (x : Reply) (rest : List ℕ) → FitsReply x → begins_digit rest ≡ false → reply_at (reply_text x ++ rest) ≡ Some (x, rest)
reply_read (reply.Value v) rest h e = let n = number_read wide v rest h (omega arith) e in rw n refl
reply_read (reply.Rejected r) rest h e = let n = number_read byte r rest h (omega arith) e in rw n refl
