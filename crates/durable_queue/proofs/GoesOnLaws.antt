-- What is kept under a script that goes on.
use Rattle.std.proofs.Common.{◌≡◌, ◌<◌, ◌≤◌, ℕ, ◌+◌, sym, ap, subst, ◌∙◌, refl, arith, take, length-append, true≢false}
use Rattle.std.specs.Prelude.{Bool, true, false, ◌==◌, List, [], ◌∷◌, length, map, Option, Some, None}
use Rattle.std.specs.List.{list_any, slice_get}
use Rattle.std.specs.Option.{option_map_or}
use Rattle.std.proofs.lemmas.List.{take-append-le}
use Rattle.std.proofs.lemmas.List.Sums.{fold-append}
use Rattle.std.proofs.Math.Seq.{take-append_seam}
use Rattle.std.proofs.lemmas.Option.{slice_get_within}
use Rattle.yard_model.specs.declared.charter.Sending.{Sending}
use Rattle.yard_model.specs.declared.entry.QueueEntry.{QueueEntry}
use Rattle.yard_model.specs.declared.event.Command.{Command}
use Rattle.yard_model.specs.declared.fact.Fact.{Fact}
use Rattle.yard_model.specs.declared.fact.Fact.TheVariants as fact
use Rattle.yard_model.specs.declared.incarnation.Slot.TheVariants as slot
use Rattle.yard_model.specs.Behaviour.{is_in}
use Rattle.yard_model.specs.Entry.{queue_fact}
use Rattle.yard_model.specs.Equal.{is_sending}
use Rattle.yard_model.specs.Grown.{GoesOn}
use Rattle.yard_model.specs.Lawful.{own, is_leased, is_entry}
use Rattle.yard_model.specs.Script.{Script, is_name, names_in, sends}
use Rattle.yard_model.specs.SlotReads as reads
use Rattle.plain_laws.proofs.Booleans.{and_both}
use Rattle.yard_laws.proofs.Owned.{queue_to}
use Rattle.durable_queue.specs.Kept.{commands_to, AreFirst, AreMoved, AreNamed, AreOrdered, ArePlans, AreSized, IsKept}
use Rattle.durable_queue.proofs.NamedLaws.{sends_named}

-- No more are queued than are sent.

some_within : (is : Sending → Bool) (all : List Sending) (i : ℕ) → option_map_or is (slice_get all i) false ≡ true → i < length all
some_within is all i h = by (slice_get all i) refl h
  where
    by : (o : Option Sending) → slice_get all i ≡ o → option_map_or is o false ≡ true → i < length all
    by None e t = absurd (true≢false (sym t))
    by (Some x) e t = slice_get_within all i x e

within_more : (c : Script) (p : ℕ) (xs : List Fact) (f : Fact) → reads.queued_in_all xs ≤ length (sends c p) → is_entry c (slot.Queue p) xs f ≡ true → reads.queued_in_all_step (reads.queued_in_all xs) f ≤ length (sends c p)
within_more c p xs (fact.Queued q e n k) few may =
    let less : reads.queued_in_all xs < length (sends c p) = some_within (is_sending (record { entity = e; number = n; command = k })) (sends c p) (reads.queued_in_all xs)
    (and_both (q == p) (option_map_or (is_sending (record { entity = e; number = n; command = k })) (slice_get (sends c p) (reads.queued_in_all xs)) false) may).1 in
    omega (arith, less)
within_more c p xs f few may = few

pub queued_within : (c : Script) (p : ℕ) (xs : List Fact) → own c (slot.Queue p) xs ≡ true → reads.queued_in_all xs ≤ length (sends c p)
queued_within c p xs o =
    queue_to c p (λ l. reads.queued_in_all l ≤ length (sends c p)) (omega arith)
    (λ l f few may. subst (λ n. n ≤ length (sends c p)) (sym (fold-append reads.queued_in_all_step 0 l (f ∷ []))) (within_more c p l f few (and_both (is_leased l f) (is_entry c (slot.Queue p) l f) may).1)) xs o

first_on : (c d : Script) (p : ℕ) (xs : List Fact) → GoesOn c d → own c (slot.Queue p) xs ≡ true → AreFirst c p xs → AreFirst d p xs
first_on c d p xs g o first =
    let n : ℕ = reads.queued_in_all xs in
    let more : List Sending = (g.sends p).0 in
    let same : take n (sends d p) ≡ take n (sends c p) = ap (take n) (g.sends p).1 ∙ take-append-le n (sends c p) more (queued_within c p xs o) in record {
      each = λ e. first.each e ∙ ap (commands_to e) (sym same);
    }

-- What was planned.

-- the sends that were planned are the first of these
pub planned_front : (c d : Script) (p n : ℕ) → GoesOn c d → n ≡ length (sends c p) → take n (sends d p) ≡ sends c p
planned_front c d p n g is = ap₂ take is (g.sends p).1 ∙ take-append_seam (sends c p) (g.sends p).0
  where
    ap₂ : (f : ℕ → List Sending → List Sending) {a b : ℕ} {x y : List Sending} → a ≡ b → x ≡ y → f a x ≡ f b y
    ap₂ f {a} {b} {x} {y} e g = ap (λ k. f k x) e ∙ ap (f b) g

pub planned_within : (c d : Script) (p n : ℕ) → GoesOn c d → n ≡ length (sends c p) → n ≤ length (sends d p)
planned_within c d p n g is =
    let long : length (sends d p) ≡ length (sends c p) + length (g.sends p).0 = ap length (g.sends p).1 ∙ length-append (sends c p) (g.sends p).0 in
    omega (arith, is, long)

-- each of the names is one of the new script's
pub names_on : (c d : Script) (names : List (List ℕ)) → GoesOn c d → AreOrdered c names → (e : List ℕ) → list_any (is_name e) names ≡ true → list_any (is_name e) (names_in d.orders) ≡ true
names_on c d names g o e among = g.names e (ap (list_any (is_name e)) (sym o.are) ∙ among)

-- All that is kept.
pub kept_on : (c d : Script) (p : ℕ) (items : List QueueEntry) (names names' : List (List ℕ)) (commands commands' : List (List Command)) (sent sent' seen seen' : List ℕ) (sum last : ℕ) (held : Bool) (free capacity : ℕ) →
    IsKept c p items names commands sent seen sum last held free capacity → GoesOn c d → own d (slot.Queue p) (map (queue_fact p) items) ≡ true → AreOrdered d names' → AreSized names' commands' sent' seen' →
    ArePlans names' commands' (sends d p) → AreMoved 0 names names' sent sent' → AreMoved 0 names names' seen seen' → IsKept d p items names' commands' sent' seen' sum last held free capacity
kept_on c d p items names names' commands commands' sent sent' seen seen' sum last held free capacity k g o ordered sized plans queued confirmed = record {
  list = record { lawful = o; first = first_on c d p (map (queue_fact p) items) g k.list.lawful k.list.first };
  producer = ap (λ n. is_in 1 n p) g.producers ∙ k.producer;
  ordered = ordered;
  named = subst (λ (l : List (List ℕ)). AreNamed l (sends d p)) (sym ordered.are) (sends_named d p);
  sized = sized;
  plans = plans;
  queued = record { each = λ e. queued.each e ∙ k.queued.each e };
  confirmed = record { each = λ e. confirmed.each e ∙ k.confirmed.each e };
  sums = k.sums;
  small = k.small;
  room = k.room;
  few = k.few;
}
