-- Lists that go on with what is told; slots that are freed.
use Rattle.std.proofs.Common.{◌≡◌, ℕ, zero, suc, ◌-◌, List, [], ◌∷◌, ◌++◌, length, sym, ap, ◌∙◌, refl, true, true≢false}
use Rattle.std.specs.Prelude.{fold, Option, Some, None, slice_index_or, slice_set}
use Rattle.std.specs.List.{list_all}
use Rattle.std.proofs.lemmas.List.{append-nil, append_assoc}
use Rattle.std.proofs.lemmas.List.Sums.{fold-append}
use Rattle.yard_model.specs.declared.fact.Fact.{Fact}
use Rattle.yard_model.specs.declared.fact.Fact.TheVariants as fact
use Rattle.yard_model.specs.declared.incarnation.Slot.{Slot}
use Rattle.yard_model.specs.declared.incarnation.Slot.TheVariants as slot
use Rattle.yard_model.specs.Script.{Setting}
use Rattle.yard_model.specs.SlotLists.{SlotLists, shard_list, queue_list}
use Rattle.yard_model.specs.SlotReads.{journal, journal_step, queued, commands_step, confirmed, confirmed_step, queued_in_all, queued_in_all_step}
use Rattle.yard_model.specs.Trace.{lists_step, with_entry, slot_of}
use Rattle.plain_laws.proofs.Booleans.{and_both}
use Rattle.play_laws.proofs.Steps.{is_freed, AreFreed}
use Rattle.settle_laws.specs.Lonely.{IsFront, IsLonger}

front_none : (l : List Fact) → IsFront l l
front_none l = ([], sym (append-nil l))

front_both : (a b d : List Fact) → IsFront a b → IsFront b d → IsFront a d
front_both a b d f g = (f.0 ++ g.0, g.1 ∙ (ap (λ l. l ++ g.0) f.1 ∙ append_assoc a f.0 g.0))

pub longer_none : (l : SlotLists) → IsLonger l l
longer_none l = record { shards = λ s. front_none (shard_list l s); coordinator = front_none l.coordinator; queues = λ p. front_none (queue_list l p) }

pub longer_both : (a b d : SlotLists) → IsLonger a b → IsLonger b d → IsLonger a d
longer_both a b d f g = record {
  shards = λ s. front_both (shard_list a s) (shard_list b s) (shard_list d s) (f.shards s) (g.shards s);
  coordinator = front_both a.coordinator b.coordinator d.coordinator f.coordinator g.coordinator;
  queues = λ p. front_both (queue_list a p) (queue_list b p) (queue_list d p) (f.queues p) (g.queues p);
}

set_front : (f : Fact) (xs : List (List Fact)) (i j : ℕ) → IsFront (slice_index_or xs j []) (slice_index_or (slice_set xs i (slice_index_or xs i [] ++ f ∷ [])) j [])
set_front f [] i j = front_none []
set_front f (x ∷ xs) zero zero = (f ∷ [], refl)
set_front f (x ∷ xs) zero (suc j) = front_none (slice_index_or xs j [])
set_front f (x ∷ xs) (suc i) zero = front_none x
set_front f (x ∷ xs) (suc i) (suc j) = set_front f xs i j

entry_longer : (f : Fact) (l : SlotLists) (o : Option Slot) → IsLonger l (with_entry f l o)
entry_longer f l None = longer_none l
entry_longer f l (Some (slot.Shard t)) = record { shards = λ s. set_front f l.shards t s; coordinator = front_none l.coordinator; queues = λ p. front_none (queue_list l p) }
entry_longer f l (Some slot.Coordinator) = record { shards = λ s. front_none (shard_list l s); coordinator = (f ∷ [], refl); queues = λ p. front_none (queue_list l p) }
entry_longer f l (Some (slot.Queue q)) = record { shards = λ s. front_none (shard_list l s); coordinator = front_none l.coordinator; queues = λ p. set_front f l.queues (q - 1) (p - 1) }

pub facts_longer : (set : Setting) (fs : List Fact) (l : SlotLists) → IsLonger l (fold (lists_step set) l fs)
facts_longer set [] l = longer_none l
facts_longer set (f ∷ fs) l = longer_both l (lists_step set l f) (fold (lists_step set) (lists_step set l f) fs) (entry_longer f l (slot_of set f)) (facts_longer set fs (lists_step set l f))

-- Slots that are freed: what is queued, confirmed and recorded stays.

-- what is read is the same
pub record SameReads (a b : SlotLists) : Type 0 where
  pub queued_are : (p : ℕ) (e : List ℕ) → queued e (queue_list b p) ≡ queued e (queue_list a p)
  pub confirmed_are : (p : ℕ) (e : List ℕ) → confirmed e (queue_list b p) ≡ confirmed e (queue_list a p)
  pub in_all : (p : ℕ) → queued_in_all (queue_list b p) ≡ queued_in_all (queue_list a p)
  pub journals_are : (s : ℕ) (e : List ℕ) → journal e (shard_list b s) ≡ journal e (shard_list a s)

same_none : (a : SlotLists) → SameReads a a
same_none a = record { queued_are = λ p e. refl; confirmed_are = λ p e. refl; in_all = λ p. refl; journals_are = λ s e. refl }

pub word_set : {A : Type 0} (R : List Fact → A) (f : Fact) → ((l : List Fact) → R (l ++ f ∷ []) ≡ R l) → (xs : List (List Fact)) (i j : ℕ) → R (slice_index_or (slice_set xs i (slice_index_or xs i [] ++ f ∷ [])) j []) ≡ R (slice_index_or xs j [])
word_set R f h [] i j = refl
word_set R f h (x ∷ xs) zero zero = h x
word_set R f h (x ∷ xs) zero (suc j) = refl
word_set R f h (x ∷ xs) (suc i) zero = refl
word_set R f h (x ∷ xs) (suc i) (suc j) = word_set R f h xs i j

one_freed : (set : Setting) (l : SlotLists) (f : Fact) → is_freed f ≡ true → SameReads l (lists_step set l f)
one_freed set l (fact.Freed (slot.Shard t) n why) h = record { queued_are = λ p e. refl; confirmed_are = λ p e. refl; in_all = λ p. refl; journals_are = λ s e. word_set (journal e) (fact.Freed (slot.Shard t) n why) (λ x. fold-append (journal_step e) [] x (fact.Freed (slot.Shard t) n why ∷ [])) l.shards t s }
one_freed set l (fact.Freed slot.Coordinator n why) h = record { queued_are = λ p e. refl; confirmed_are = λ p e. refl; in_all = λ p. refl; journals_are = λ s e. refl }
one_freed set l (fact.Freed (slot.Queue q) n why) h = record {
  queued_are = λ p e. word_set (queued e) (fact.Freed (slot.Queue q) n why) (λ x. ap length (fold-append (commands_step e) [] x (fact.Freed (slot.Queue q) n why ∷ []))) l.queues (q - 1) (p - 1);
  confirmed_are = λ p e. word_set (confirmed e) (fact.Freed (slot.Queue q) n why) (λ x. fold-append (confirmed_step e) 0 x (fact.Freed (slot.Queue q) n why ∷ [])) l.queues (q - 1) (p - 1);
  in_all = λ p. word_set queued_in_all (fact.Freed (slot.Queue q) n why) (λ x. fold-append queued_in_all_step 0 x (fact.Freed (slot.Queue q) n why ∷ [])) l.queues (q - 1) (p - 1);
  journals_are = λ s e. refl;
}
one_freed set l f h = absurd (true≢false (sym h))

pub freed_same : (set : Setting) (fs : List Fact) (l : SlotLists) → AreFreed fs → SameReads l (fold (lists_step set) l fs)
freed_same set [] l h = same_none l
freed_same set (f ∷ fs) l h =
    let m : (is_freed f ≡ true) × AreFreed fs = and_both (is_freed f) (list_all is_freed fs) h in
    let a : SameReads l (lists_step set l f) = one_freed set l f m.0 in
    let b : SameReads (lists_step set l f) (fold (lists_step set) (lists_step set l f) fs) = freed_same set fs (lists_step set l f) m.1 in
    record { queued_are = λ p e. b.queued_are p e ∙ a.queued_are p e; confirmed_are = λ p e. b.confirmed_are p e ∙ a.confirmed_are p e; in_all = λ p. b.in_all p ∙ a.in_all p; journals_are = λ s e. b.journals_are s e ∙ a.journals_are s e }
