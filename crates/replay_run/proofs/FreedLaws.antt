-- Entries that free a slot say nothing that the report tells.
use Rattle.std.proofs.Common.{◌≡◌, ℕ, zero, suc, ◌-◌, sym, ap, ◌∙◌, refl, subst}
use Rattle.std.specs.Prelude.{true, ◌==◌, List, [], ◌∷◌, ◌++◌, length, fold, slice_index_or, slice_set, Some, if◌then◌else◌, codes, decimal}
use Rattle.std.specs.List.{list_all, flat_map}
use Rattle.std.proofs.lemmas.List.Sums.{fold-append}
use Rattle.yard_model.specs.declared.fact.Fact.{Fact}
use Rattle.yard_model.specs.declared.fact.Fact.TheVariants as fact
use Rattle.yard_model.specs.declared.incarnation.Cause.{Cause}
use Rattle.yard_model.specs.declared.incarnation.Cause.TheVariants as cause
use Rattle.yard_model.specs.declared.incarnation.Slot.{Slot}
use Rattle.yard_model.specs.declared.incarnation.Slot.TheVariants as slot
use Rattle.yard_model.specs.Script.{Script, Setting, setting}
use Rattle.yard_model.specs.Setting.{shards, producers, shard_of, names_of}
use Rattle.yard_model.specs.SlotLists.{SlotLists, shard_list, queue_list}
use Rattle.yard_model.specs.SlotReads.{journal, journal_step, commands_step, queued, confirmed, confirmed_step}
use Rattle.yard_model.specs.Text.{Bytes, line, entity_lines, entities_text, queue_line, queues_text, report}
use Rattle.yard_model.specs.Trace.{with_entry, lists_step}
use Rattle.yard_model.specs.World.{Made, played, wire_limit}
use Rattle.shard_store.specs.Stores.{Shelves, lists_at}
use Rattle.trace_text.specs.Json.{entity_json, pair_json, entities_json, queues_json, whole_text, json_text}
use Rattle.world_sim.specs.Played.{AreFreed, Played, is_freed, made_at, made_by, made_of}
use Rattle.replay_run.specs.Replays.{IsDone}
use Rattle.plain_laws.proofs.Booleans.{true_is_not_false}

-- What one list says stays, where it doesn't read the entry.

set_reads : {X : Type 0} (g : List Fact → X) (f : Fact) → ((l : List Fact) → g (l ++ f ∷ []) ≡ g l) → (ls : List (List Fact)) (i j : ℕ)
    → g (slice_index_or (slice_set ls i (slice_index_or ls i [] ++ f ∷ [])) j []) ≡ g (slice_index_or ls j [])
set_reads g f h [] i j = refl
set_reads g f h (x ∷ xs) zero zero = h x
set_reads g f h (x ∷ xs) zero (suc j) = refl
set_reads g f h (x ∷ xs) (suc i) zero = refl
set_reads g f h (x ∷ xs) (suc i) (suc j) = set_reads g f h xs i j

-- what is read of a list is read past entries that free its slot
abbrev Passes : {X : Type 0} → (List Fact → X) → Type 0
Passes g = (l : List Fact) (s : Slot) (n : ℕ) (why : Cause) → g (l ++ fact.Freed s n why ∷ []) ≡ g l

shard_reads : {X : Type 0} (g : List Fact → X) (f : Fact) → ((l : List Fact) → g (l ++ f ∷ []) ≡ g l) → (old : SlotLists) (s : Slot) (t : ℕ) → g (shard_list (with_entry f old (Some s)) t) ≡ g (shard_list old t)
shard_reads g f h old (slot.Shard s) t = set_reads g f h old.shards s t
shard_reads g f h old slot.Coordinator t = refl
shard_reads g f h old (slot.Queue p) t = refl

queue_reads : {X : Type 0} (g : List Fact → X) (f : Fact) → ((l : List Fact) → g (l ++ f ∷ []) ≡ g l) → (old : SlotLists) (s : Slot) (p : ℕ) → g (queue_list (with_entry f old (Some s)) p) ≡ g (queue_list old p)
queue_reads g f h old (slot.Shard s) p = refl
queue_reads g f h old slot.Coordinator p = refl
queue_reads g f h old (slot.Queue q) p = set_reads g f h old.queues (q - 1) (p - 1)

shards_keep : {X : Type 0} (g : List Fact → X) → Passes g → (set : Setting) (old : SlotLists) (t : ℕ) (freed : List Fact) → list_all is_freed freed ≡ true
    → g (shard_list (fold (lists_step set) old freed) t) ≡ g (shard_list old t)
shards_keep g h set old t [] all = refl
shards_keep g h set old t (fact.Freed s n cause.Stopped ∷ fs) all =
    shards_keep g h set (lists_step set old (fact.Freed s n cause.Stopped)) t fs all ∙ shard_reads g (fact.Freed s n cause.Stopped) (λ l. h l s n cause.Stopped) old s t
shards_keep g h set old t (f ∷ fs) all = absurd (true_is_not_false (sym all))

queues_keep : {X : Type 0} (g : List Fact → X) → Passes g → (set : Setting) (old : SlotLists) (p : ℕ) (freed : List Fact) → list_all is_freed freed ≡ true
    → g (queue_list (fold (lists_step set) old freed) p) ≡ g (queue_list old p)
queues_keep g h set old p [] all = refl
queues_keep g h set old p (fact.Freed s n cause.Stopped ∷ fs) all =
    queues_keep g h set (lists_step set old (fact.Freed s n cause.Stopped)) p fs all ∙ queue_reads g (fact.Freed s n cause.Stopped) (λ l. h l s n cause.Stopped) old s p
queues_keep g h set old p (f ∷ fs) all = absurd (true_is_not_false (sym all))

journal_passes : (e : List ℕ) → Passes (journal e)
journal_passes e l s n why = fold-append (journal_step e) [] l (fact.Freed s n why ∷ [])

queued_passes : (e : List ℕ) → Passes (queued e)
queued_passes e l s n why = ap length (fold-append (commands_step e) [] l (fact.Freed s n why ∷ []))

confirmed_passes : (e : List ℕ) → Passes (confirmed e)
confirmed_passes e l s n why = fold-append (confirmed_step e) 0 l (fact.Freed s n why ∷ [])

-- The report.

flat_same : {X Y : Type 0} (f g : X → List Y) → ((x : X) → f x ≡ g x) → (xs : List X) → flat_map f xs ≡ flat_map g xs
flat_same f g h [] = refl
flat_same f g h (x ∷ xs) = ap (λ l. l ++ flat_map f xs) (h x) ∙ ap (λ l. g x ++ l) (flat_same f g h xs)

-- the line of a pair with these counts
abbrev pair_line : ℕ → List ℕ → ℕ → ℕ → Bytes
pair_line p e q n =
    if q == 0 then []
    else line (codes "queue" ∷ decimal p ∷ e ∷ codes "queued" ∷ decimal q ∷ codes "confirmed" ∷ decimal n ∷ [])

pair_same : (p : ℕ) (old new : List Fact) (e : List ℕ) → queued e new ≡ queued e old → confirmed e new ≡ confirmed e old → queue_line p new e ≡ queue_line p old e
pair_same p old new e q n = ap (λ k. pair_line p e k (confirmed e new)) q ∙ ap (pair_line p e (queued e old)) n

pair_json_same : (p : ℕ) (e : List ℕ) (old new : List Fact) → queued e new ≡ queued e old → confirmed e new ≡ confirmed e old
    → pair_json p e (queued e new) (confirmed e new) ≡ pair_json p e (queued e old) (confirmed e old)
pair_json_same p e old new q n = ap (λ k. pair_json p e k (confirmed e new)) q ∙ ap (pair_json p e (queued e old)) n

-- journals and counts are what a report reads
record ReadSame (old new : SlotLists) : Type 0 where
  pub journals : (e : List ℕ) (s : ℕ) → journal e (shard_list new s) ≡ journal e (shard_list old s)
  pub queues : (e : List ℕ) (p : ℕ) → queued e (queue_list new p) ≡ queued e (queue_list old p)
  pub counts : (e : List ℕ) (p : ℕ) → confirmed e (queue_list new p) ≡ confirmed e (queue_list old p)

entities_same : (set : Setting) (old new : SlotLists) → ReadSame old new
    → entities_text set (λ e. journal e (shard_list new (shard_of set e))) ≡ entities_text set (λ e. journal e (shard_list old (shard_of set e)))
entities_same set old new same = flat_same _ _ (λ s. flat_same _ _ (λ e. ap (entity_lines set e) (same.journals e (shard_of set e))) (names_of set s)) (shards set)

queues_same : (set : Setting) (old new : SlotLists) → ReadSame old new → queues_text set new ≡ queues_text set old
queues_same set old new same = flat_same _ _ (λ p. flat_same _ _ (λ e. pair_same p (queue_list old p) (queue_list new p) e (same.queues e p) (same.counts e p)) set.names) (producers set)

report_same : (set : Setting) (old new : SlotLists) → ReadSame old new → report set new ≡ report set old
report_same set old new same =
    ap (λ a. line (codes "report" ∷ []) ++ a ++ queues_text set new ++ line (codes "end" ∷ [])) (entities_same set old new same)
    ∙ ap (λ a. line (codes "report" ∷ []) ++ entities_text set (λ e. journal e (shard_list old (shard_of set e))) ++ a ++ line (codes "end" ∷ [])) (queues_same set old new same)

json_same : (set : Setting) (old new : SlotLists) → ReadSame old new → json_text set new ≡ json_text set old
json_same set old new same =
    let entities : entities_json set new ≡ entities_json set old = flat_same _ _ (λ s. flat_same _ _ (λ e. ap (entity_json set e) (same.journals e (shard_of set e))) (names_of set s)) (shards set) in
    let queues : queues_json set new ≡ queues_json set old = flat_same _ _ (λ p. flat_same _ _ (λ e. pair_json_same p e (queue_list old p) (queue_list new p) (same.queues e p) (same.counts e p)) set.names) (producers set) in
    ap (λ es. whole_text es (queues_json set new)) entities ∙ ap (whole_text (entities_json set old)) queues

-- Lists where every slot that was held is freed.

freed_same : (c : Script) (old new : SlotLists) → AreFreed c old new → ReadSame old new
freed_same c old new freed = record {
  journals = λ e s. ap (λ (l : SlotLists). journal e (shard_list l s)) freed.some_are.lists_are ∙ shards_keep (journal e) (journal_passes e) (setting c) old s freed.some_are.freed freed.some_are.all_freed;
  queues = λ e p. ap (λ (l : SlotLists). queued e (queue_list l p)) freed.some_are.lists_are ∙ queues_keep (queued e) (queued_passes e) (setting c) old p freed.some_are.freed freed.some_are.all_freed;
  counts = λ e p. ap (λ (l : SlotLists). confirmed e (queue_list l p)) freed.some_are.lists_are ∙ queues_keep (confirmed e) (confirmed_passes e) (setting c) old p freed.some_are.freed freed.some_are.all_freed;
}

-- they have the same report
pub freed_report : (c : Script) (old new : SlotLists) → AreFreed c old new → report (setting c) new ≡ report (setting c) old
freed_report c old new freed = report_same (setting c) old new (freed_same c old new freed)

-- and as JSON
pub freed_json : (c : Script) (old new : SlotLists) → AreFreed c old new → json_text (setting c) new ≡ json_text (setting c) old
freed_json c old new freed = json_same (setting c) old new (freed_same c old new freed)

-- the charter's setting is that of the world that is through
pub set_of : (c d : Script) (world : Played) → IsDone c world → setting d ≡ (made_at world).world.set → setting d ≡ (played c wire_limit).world.set
set_of c d world done is =
    is
    ∙ (ap (λ o. (made_by world.script o world.count).world.set) done.given_is
    ∙ (ap (λ (s : Script). (made_of s world.count).world.set) done.script_is ∙ ap (λ (m : Made). m.world.set) done.made_is))

-- the lists of the stores of a world that is through with its script, for the number of shards in force
pub freed_of : (c d : Script) (world : Played) (stores : Shelves) → IsDone c world → stores.script ≡ d
    → AreFreed d (made_at world).world.lists (lists_at d.config stores.places) → AreFreed d (played c wire_limit).world.lists (lists_at stores.script.config stores.places)
freed_of c d world stores done is freed =
    let none : AreFreed d (made_of world.script world.count).world.lists (lists_at d.config stores.places) = subst (λ o. AreFreed d (made_by world.script o world.count).world.lists (lists_at d.config stores.places)) done.given_is freed in
    let here : AreFreed d (made_of c world.count).world.lists (lists_at d.config stores.places) = subst (λ (s : Script). AreFreed d (made_of s world.count).world.lists (lists_at d.config stores.places)) done.script_is none in
    let whole : AreFreed d (played c wire_limit).world.lists (lists_at d.config stores.places) = subst (λ (m : Made). AreFreed d m.world.lists (lists_at d.config stores.places)) done.made_is here in
    subst (λ (s : Script). AreFreed d (played c wire_limit).world.lists (lists_at s.config stores.places)) (sym is) whole
