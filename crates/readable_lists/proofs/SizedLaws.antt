-- Entries of bounded types make lists that are read off their text.
use Rattle.std.proofs.Common.{◌≡◌, ◌<◌, ℕ, suc, ◌^◌, sym, ◌∙◌, subst, arith}
use Rattle.std.specs.Prelude.{true, nat_le, List, [], ◌∷◌, length, map, slice_index_or}
use Rattle.std.proofs.lemmas.List.{length-map}
use Rattle.plain_laws.proofs.Booleans.{and_both, at_most, below}
use Rattle.yard_model.specs.declared.fact.Fact.{Fact}
use Rattle.yard_model.specs.declared.fact.Fact.TheVariants as fact
use Rattle.yard_model.specs.declared.event.Event.{Event}
use Rattle.yard_model.specs.declared.packet.Record.{Record}
use Rattle.yard_model.specs.declared.incarnation.Slot.{Slot}
use Rattle.yard_model.specs.declared.incarnation.Slot.TheVariants as slot
use Rattle.yard_model.specs.Lawful.{own}
use Rattle.yard_model.specs.Script.{Script}
use Rattle.yard_model.specs.SlotLists.{SlotLists, shard_list}
use Rattle.fact_lines.specs.Readable.{FitEach, FitsEvent, FitsRecord, FitsReply}
use Rattle.readable_lists.specs.Readable.{AreReadable, AreTold, IsReadableList, IsTold}
use Rattle.readable_lists.specs.Sized.{AreSized, unanswered, without_reply}
use Rattle.readable_lists.proofs.ReplyLaws.{AreAnswered, IsAnswered, SameDecision, answers_fit}

-- What is so of each entry is so of the list.

told_all : {E : Type 0} (s : Slot) (f : E → Fact) (xs : List E) (d : E) → ((k : ℕ) → k < length xs → IsTold s (f (slice_index_or xs k d))) → AreTold s (map f xs)
told_all s f [] d h = tt
told_all s f (x ∷ xs) d h = (h 0 (omega arith), told_all s f xs d (λ k l. h (suc k) (omega (arith, l))))

pub list_of : {E : Type 0} (s : Slot) (f : E → Fact) (xs : List E) (d : E) → length xs < 2 ^ 64 → ((k : ℕ) → k < length xs → IsTold s (f (slice_index_or xs k d))) → IsReadableList s (map f xs)
list_of s f xs d few h = record { fits = subst (λ n. n < 2 ^ 64) (sym (length-map xs f)) few; each = told_all s f xs d h }

sized_all : {E : Type 0} (s : Slot) (f : E → Fact) (xs : List E) (d : E) → ((k : ℕ) → k < length xs → IsTold s (without_reply (f (slice_index_or xs k d)))) → AreTold s (map without_reply (map f xs))
sized_all s f [] d h = tt
sized_all s f (x ∷ xs) d h = (h 0 (omega arith), sized_all s f xs d (λ k l. h (suc k) (omega (arith, l))))

pub sized_of : {E : Type 0} (s : Slot) (f : E → Fact) (xs : List E) (d : E) → length xs < 2 ^ 64 → ((k : ℕ) → k < length xs → IsTold s (without_reply (f (slice_index_or xs k d)))) → IsReadableList s (map without_reply (map f xs))
sized_of s f xs d few h = record { fits = subst (λ n. n < 2 ^ 64) (sym (length-map (map f xs) without_reply ∙ length-map xs f)) few; each = sized_all s f xs d h }

pub events_fit : (es : List Event) (d : Event) → ((k : ℕ) → k < length es → FitsEvent (slice_index_or es k d)) → FitEach es
events_fit [] d h = tt
events_fit (e ∷ es) d h = (h 0 (omega arith), events_fit es d (λ k l. h (suc k) (omega (arith, l))))

-- With the replies, all is read off the text.

record_fits : (r : Record) → FitsRecord (unanswered r) → FitsReply r.reply → FitsRecord r
record_fits r h a = record { number = h.number; epoch = h.epoch; producer = h.producer; place = h.place; command = h.command; few = h.few; events = h.events; reply = a }

told : (s : ℕ) (f : Fact) → IsTold (slot.Shard s) (without_reply f) → IsAnswered f → IsTold (slot.Shard s) f
told s (fact.Wrote e r) h a = (h.0, record_fits r h.1 a)
told s f h a = h

all_told : (s : ℕ) (fs : List Fact) → AreTold (slot.Shard s) (map without_reply fs) → AreAnswered fs → AreTold (slot.Shard s) fs
all_told s [] h a = tt
all_told s (f ∷ fs) h a = (told s f h.0 a.0, all_told s fs h.1 a.1)

shard_read : (c : Script) (s : ℕ) (list : List Fact) → SameDecision → own c (slot.Shard s) list ≡ true → IsReadableList (slot.Shard s) (map without_reply list) → IsReadableList (slot.Shard s) list
shard_read c s list decisions o h = record { fits = subst (λ n. n < 2 ^ 64) (length-map list without_reply) h.fits; each = all_told s list h.each (answers_fit c s list decisions o) }

pub lists_read : (c : Script) (lists : SlotLists) → SameDecision → ((s : ℕ) → own c (slot.Shard s) (shard_list lists s) ≡ true) → AreSized c lists → AreReadable c lists
lists_read c lists decisions own h (slot.Shard s) k = shard_read c s (shard_list lists s) decisions (own s) (h.shards s (below s c.config.shards k))
lists_read c lists decisions own h slot.Coordinator k = h.coordinator
lists_read c lists decisions own h (slot.Queue p) k =
    let b = and_both (nat_le 1 p) (nat_le p c.config.producers) k in
    h.queues p (at_most 1 p b.0) (at_most p c.config.producers b.1)
