-- Entries that free slots say nothing that the report tells.
use Rattle.std.proofs.Common.{◌≡◌, ℕ, zero, suc, ◌-◌, ap, ◌∙◌, refl}
use Rattle.std.specs.Prelude.{Bool, true, false, ◌==◌, List, [], ◌∷◌, ◌++◌, length, fold, slice_index_or, slice_set, Some, if◌then◌else◌, codes, decimal}
use Rattle.std.specs.List.{flat_map}
use Rattle.std.proofs.lemmas.List.Sums.{fold-append}
use Rattle.yard_model.specs.declared.fact.Fact.{Fact}
use Rattle.yard_model.specs.declared.fact.Fact.TheVariants as fact
use Rattle.yard_model.specs.declared.incarnation.Cause.TheVariants as cause
use Rattle.yard_model.specs.declared.incarnation.Slot.{Slot}
use Rattle.yard_model.specs.declared.incarnation.Slot.TheVariants as slot
use Rattle.yard_model.specs.Lawful.{is_held}
use Rattle.yard_model.specs.Script.{Script, Setting, setting}
use Rattle.yard_model.specs.Setting.{shards, producers, shard_of, names_of}
use Rattle.yard_model.specs.SlotLists.{SlotLists, shard_list, queue_list}
use Rattle.yard_model.specs.SlotReads.{epoch, journal, journal_step, commands_step, queued, confirmed, confirmed_step}
use Rattle.yard_model.specs.Text.{Bytes, line, entity_lines, entities_text, queue_line, queues_text, report}
use Rattle.yard_model.specs.Trace.{list_at, lists_of, with_entry}
use Rattle.log_resume.specs.Restored.{entries, freed, restored, slots}

-- What one list says stays, where it doesn't read the entry.

set_reads : {X : Type 0} (g : List Fact → X) (f : Fact) → ((l : List Fact) → g (l ++ f ∷ []) ≡ g l) → (ls : List (List Fact)) (i j : ℕ)
    → g (slice_index_or (slice_set ls i (slice_index_or ls i [] ++ f ∷ [])) j []) ≡ g (slice_index_or ls j [])
set_reads g f h [] i j = refl
set_reads g f h (x ∷ xs) zero zero = h x
set_reads g f h (x ∷ xs) zero (suc j) = refl
set_reads g f h (x ∷ xs) (suc i) zero = refl
set_reads g f h (x ∷ xs) (suc i) (suc j) = set_reads g f h xs i j

shard_reads : {X : Type 0} (g : List Fact → X) (f : Fact) → ((l : List Fact) → g (l ++ f ∷ []) ≡ g l) → (old : SlotLists) (s : Slot) (t : ℕ) → g (shard_list (with_entry f old (Some s)) t) ≡ g (shard_list old t)
shard_reads g f h old (slot.Shard s) t = set_reads g f h old.shards s t
shard_reads g f h old slot.Coordinator t = refl
shard_reads g f h old (slot.Queue p) t = refl

queue_reads : {X : Type 0} (g : List Fact → X) (f : Fact) → ((l : List Fact) → g (l ++ f ∷ []) ≡ g l) → (old : SlotLists) (s : Slot) (p : ℕ) → g (queue_list (with_entry f old (Some s)) p) ≡ g (queue_list old p)
queue_reads g f h old (slot.Shard s) p = refl
queue_reads g f h old slot.Coordinator p = refl
queue_reads g f h old (slot.Queue q) p = set_reads g f h old.queues (q - 1) (p - 1)

-- what a report reads of two lists of all slots is the same
record ReadSame (old new : SlotLists) : Type 0 where
  pub journals : (e : List ℕ) (s : ℕ) → journal e (shard_list new s) ≡ journal e (shard_list old s)
  pub queues : (e : List ℕ) (p : ℕ) → queued e (queue_list new p) ≡ queued e (queue_list old p)
  pub counts : (e : List ℕ) (p : ℕ) → confirmed e (queue_list new p) ≡ confirmed e (queue_list old p)

freed_same : (lists : SlotLists) (s : Slot) → ReadSame lists (freed lists s)
freed_same lists s = by (is_held (list_at lists s))
  where
    f : Fact
    f = fact.Freed s (epoch (list_at lists s)) cause.Stopped

    by : (b : Bool) → ReadSame lists (if b then with_entry (fact.Freed s (epoch (list_at lists s)) cause.Stopped) lists (Some s) else lists)
    by true = record {
      journals = λ e t. shard_reads (journal e) f (λ l. fold-append (journal_step e) [] l (f ∷ [])) lists s t;
      queues = λ e p. queue_reads (queued e) f (λ l. ap length (fold-append (commands_step e) [] l (f ∷ []))) lists s p;
      counts = λ e p. queue_reads (confirmed e) f (λ l. fold-append (confirmed_step e) 0 l (f ∷ [])) lists s p;
    }
    by false = record { journals = λ e t. refl; queues = λ e p. refl; counts = λ e p. refl }

all_same : (xs : List Slot) (lists : SlotLists) → ReadSame lists (fold freed lists xs)
all_same [] lists = record { journals = λ e t. refl; queues = λ e p. refl; counts = λ e p. refl }
all_same (s ∷ xs) lists =
    let one = freed_same lists s in
    let others = all_same xs (freed lists s) in
    record {
      journals = λ e t. others.journals e t ∙ one.journals e t;
      queues = λ e p. others.queues e p ∙ one.queues e p;
      counts = λ e p. others.counts e p ∙ one.counts e p;
    }

-- The report.

flat_same : {X Y : Type 0} (f g : X → List Y) → ((x : X) → f x ≡ g x) → (xs : List X) → flat_map f xs ≡ flat_map g xs
flat_same f g h [] = refl
flat_same f g h (x ∷ xs) = ap (λ l. l ++ flat_map f xs) (h x) ∙ ap (λ l. g x ++ l) (flat_same f g h xs)

-- the line of a pair with these counts
abbrev pair_line : ℕ → List ℕ → ℕ → ℕ → Bytes
pair_line p e q n =
    if q == 0 then []
    else line (codes "queue" ∷ decimal p ∷ e ∷ codes "queued" ∷ decimal q ∷ codes "confirmed" ∷ decimal n ∷ [])

pair_same : (p : ℕ) (old new : List Fact) (e : List ℕ) → queued e new ≡ queued e old → confirmed e new ≡ confirmed e old → queue_line p new e ≡ queue_line p old e
pair_same p old new e q n = ap (λ k. pair_line p e k (confirmed e new)) q ∙ ap (pair_line p e (queued e old)) n

entities_same : (set : Setting) (old new : SlotLists) → ReadSame old new
    → entities_text set (λ e. journal e (shard_list new (shard_of set e))) ≡ entities_text set (λ e. journal e (shard_list old (shard_of set e)))
entities_same set old new same = flat_same _ _ (λ s. flat_same _ _ (λ e. ap (entity_lines set e) (same.journals e (shard_of set e))) (names_of set s)) (shards set)

queues_same : (set : Setting) (old new : SlotLists) → ReadSame old new → queues_text set new ≡ queues_text set old
queues_same set old new same = flat_same _ _ (λ p. flat_same _ _ (λ e. pair_same p (queue_list old p) (queue_list new p) e (same.queues e p) (same.counts e p)) set.names) (producers set)

report_same : (set : Setting) (old new : SlotLists) → ReadSame old new → report set new ≡ report set old
report_same set old new same =
    ap (λ a. line (codes "report" ∷ []) ++ a ++ queues_text set new ++ line (codes "end" ∷ [])) (entities_same set old new same)
    ∙ ap (λ a. line (codes "report" ∷ []) ++ entities_text set (λ e. journal e (shard_list old (shard_of set e))) ++ a ++ line (codes "end" ∷ [])) (queues_same set old new same)

-- the lists of a log, and what they come to, have the same report
pub restored_report : (c : Script) (log : List (List Fact)) → report (setting c) (restored c log) ≡ report (setting c) (lists_of (setting c) (entries log))
restored_report c log =
    let lists : SlotLists = lists_of (setting c) (entries log) in
    report_same (setting c) lists (fold freed lists (slots c)) (all_same (slots c) lists)

-- and the same journals
pub restored_journals : (c : Script) (log : List (List Fact)) (s : ℕ) (e : List ℕ) → journal e (shard_list (restored c log) s) ≡ journal e (shard_list (lists_of (setting c) (entries log)) s)
restored_journals c log s e = (all_same (slots c) (lists_of (setting c) (entries log))).journals e s
