-- What is confirmed in a safe trace was written before, in whatever era.
use Rattle.std.proofs.Common.{◌≡◌, ◌≤◌, ℕ, ◌-◌, ◌<◌, sym, ap, ◌∙◌, refl, arith}
use Rattle.std.specs.Prelude.{Bool, true, false, ◌==◌, not, ◌&&◌, ◌||◌, List, [], ◌∷◌, ◌++◌, map, length, fold, Option, Some, None, if◌then◌else◌}
use Rattle.std.specs.List.{list_all, flat_map}
use Rattle.std.proofs.lemmas.List.{get_or-set_same}
use Rattle.std.proofs.lemmas.List.Folds.{list_all-append}
use Rattle.yard_model.specs.declared.fact.Fact.{Fact}
use Rattle.yard_model.specs.declared.fact.Fact.TheVariants as fact
use Rattle.yard_model.specs.declared.incarnation.Slot.{Slot}
use Rattle.yard_model.specs.declared.incarnation.Slot.TheVariants as slot
use Rattle.yard_model.specs.declared.packet.Record.{Record}
use Rattle.yard_model.specs.Era.{Era, base, entries_of, era_of, era_step, first_era, is_of_name, opening_of, reshaped, version_in}
use Rattle.yard_model.specs.Genuine.{is_producer}
use Rattle.yard_model.specs.Lawful.{has_place, is_recorded}
use Rattle.yard_model.specs.Safe.{is_safe_now, safe_from, shows}
use Rattle.yard_model.specs.Script.{Script, Setting, is_name, setting}
use Rattle.yard_model.specs.Setting.{set_shards, shard_of, shards, names_of}
use Rattle.yard_model.specs.SlotLists.{SlotLists, shard_list, queue_list}
use Rattle.yard_model.specs.SlotReads.{journal, journal_step}
use Rattle.yard_model.specs.Trace.{slot_of, with_entry, lists_step, no_lists, lists_of}
use Rattle.plain_laws.proofs.Booleans.{true_is_not_false, and_both, both, same_name, same_number, all_filter, all_get, all_set, all_replicate}
use Rattle.plain_laws.proofs.Lists.{all_each, all_each_of, all_join}
use Rattle.yard_laws.specs.Guarded.{Owns}
use Rattle.yard_laws.proofs.Owns.{lists_more, producer_above, producer_within}
use Rattle.yard_laws.proofs.Places.{place_more}
use Rattle.yard_laws.proofs.SafetyLaws.{IsKept, kept_of}
use Rattle.queued_laws.specs.Confirmed.{ConfirmedWasWritten, WasWritten}

-- A test that every fact of a trace passes is one that every entry of its lists passes, from era to era.

-- the facts by which an era begins pass
record IsLax (q : Fact → Bool) : Type 0 where
  resharded : (s n k : ℕ) → q (fact.Resharded s n k) ≡ true
  reshard : (n k : ℕ) → q (fact.Reshard n k) ≡ true
  upgrade : (v : ℕ) → q (fact.Upgrade v) ≡ true

record AllPass (q : Fact → Bool) (lists : SlotLists) : Type 0 where
  shards : list_all (list_all q) lists.shards ≡ true
  coordinator : list_all q lists.coordinator ≡ true
  queues : list_all (list_all q) lists.queues ≡ true

pass_more : (q : Fact → Bool) (xs : List Fact) (f : Fact) → list_all q xs ≡ true → q f ≡ true → list_all q (xs ++ f ∷ []) ≡ true
pass_more q xs f h k = all_join q xs (f ∷ []) h (both (q f) true k refl)

pass_with : (q : Fact → Bool) (f : Fact) (lists : SlotLists) (o : Option Slot) → q f ≡ true → AllPass q lists → AllPass q (with_entry f lists o)
pass_with q f lists None h k = k
pass_with q f lists (Some (slot.Shard s)) h k = record {
  shards = all_set (list_all q) lists.shards s (shard_list lists s ++ f ∷ []) k.shards (pass_more q (shard_list lists s) f (all_get (list_all q) lists.shards s [] k.shards refl) h);
  coordinator = k.coordinator;
  queues = k.queues;
}
pass_with q f lists (Some slot.Coordinator) h k = record { shards = k.shards; coordinator = pass_more q lists.coordinator f k.coordinator h; queues = k.queues }
pass_with q f lists (Some (slot.Queue p)) h k = record {
  shards = k.shards;
  coordinator = k.coordinator;
  queues = all_set (list_all q) lists.queues (p - 1) (queue_list lists p ++ f ∷ []) k.queues (pass_more q (queue_list lists p) f (all_get (list_all q) lists.queues (p - 1) [] k.queues refl) h);
}

pass_fold : (q : Fact → Bool) (set : Setting) (lists : SlotLists) (fs : List Fact) → list_all q fs ≡ true → AllPass q lists → AllPass q (fold (lists_step set) lists fs)
pass_fold q set lists [] h k = k
pass_fold q set lists (f ∷ fs) h k =
    let m : (q f ≡ true) × (list_all q fs ≡ true) = and_both (q f) (list_all q fs) h in
    pass_fold q set (lists_step set lists f) fs m.1 (pass_with q f lists (slot_of set f) m.0 k)

pass_lists : (q : Fact → Bool) (set : Setting) (trace : List Fact) → list_all q trace ≡ true → AllPass q (lists_of set trace)
pass_lists q set trace h =
    pass_fold q set (no_lists set) trace h
    (record { shards = all_replicate (list_all q) set.config.shards [] refl; coordinator = refl; queues = all_replicate (list_all q) set.config.producers [] refl })

all_mapped : {A B : Type 0} (p : B → Bool) (f : A → B) (xs : List A) → ((x : A) → p (f x) ≡ true) → list_all p (map f xs) ≡ true
all_mapped p f [] h = refl
all_mapped p f (x ∷ xs) h = both (p (f x)) (list_all p (map f xs)) (h x) (all_mapped p f xs h)

pass_base : (q : Fact → Bool) (set new : Setting) (lists : SlotLists) (s : ℕ) → AllPass q lists → list_all q (base set new lists s) ≡ true
pass_base q set new lists s k =
    all_each q (entries_of set lists) (names_of new s) (λ e. all_filter q (is_of_name e) (shard_list lists (shard_of set e)) (all_get (list_all q) lists.shards (shard_of set e) [] k.shards refl))

pass_reshaped : (q : Fact → Bool) (set : Setting) (n k : ℕ) (lists : SlotLists) → IsLax q → AllPass q lists → AllPass q (reshaped set n k lists)
pass_reshaped q set n k lists lax a = record {
  shards = all_mapped (list_all q) (λ s. base set (set_shards n set) lists s ++ fact.Resharded s n k ∷ []) (shards (set_shards n set)) (λ s. pass_more q (base set (set_shards n set) lists s) (fact.Resharded s n k) (pass_base q set (set_shards n set) lists s a) (lax.resharded s n k));
  coordinator = pass_more q lists.coordinator (fact.Reshard n k) a.coordinator (lax.reshard n k);
  queues = a.queues;
}

pass_opening : (q : Fact → Bool) (v : ℕ) (lists : SlotLists) → IsLax q → AllPass q lists → list_all q (opening_of v lists) ≡ true
pass_opening q v lists lax a =
    let shards : List Fact = flat_map (λ l. l) lists.shards in
    let queues : List Fact = flat_map (λ l. l) lists.queues in
    pass_more q ((shards ++ lists.coordinator) ++ queues) (fact.Upgrade v)
    (all_join q (shards ++ lists.coordinator) queues
    (all_join q shards lists.coordinator (all_each_of q (list_all q) (λ l. l) lists.shards a.shards (λ l h. h)) a.coordinator)
    (all_each_of q (list_all q) (λ l. l) lists.queues a.queues (λ l h. h))) (lax.upgrade v)

pass_step : (q : Fact → Bool) (era : Era) (f : Fact) → IsLax q → list_all q era.trace ≡ true → q f ≡ true → list_all q (era_step era f).trace ≡ true
pass_step q era (fact.Reshard n k) lax h g =
    pass_opening q (version_in era.trace) (reshaped (setting era.script) n k (lists_of (setting era.script) era.trace)) lax
    (pass_reshaped q (setting era.script) n k (lists_of (setting era.script) era.trace) lax (pass_lists q (setting era.script) era.trace h))
pass_step q era f lax h g = pass_more q era.trace f h g

pass_era : (q : Fact → Bool) (era : Era) (fs : List Fact) → IsLax q → list_all q era.trace ≡ true → list_all q fs ≡ true → list_all q (fold era_step era fs).trace ≡ true
pass_era q era [] lax h g = h
pass_era q era (f ∷ fs) lax h g =
    let m : (q f ≡ true) × (list_all q fs ≡ true) = and_both (q f) (list_all q fs) g in
    pass_era q (era_step era f) fs lax (pass_step q era f lax h m.0) m.1

-- The record that is looked for.

abbrev is_wanted : ℕ → ℕ → Record → Bool
is_wanted p n r = (r.producer == p) && (r.place == n)

-- it isn't this record
abbrev is_other : List ℕ → ℕ → ℕ → Fact → Bool
is_other e p n (fact.Wrote x r) = not (is_name x e && is_wanted p n r)
is_other e p n f = true

other_lax : (e : List ℕ) (p n : ℕ) → IsLax (is_other e p n)
other_lax e p n = record { resharded = λ s m k. refl; reshard = λ m k. refl; upgrade = λ v. refl }

none_step : (e : List ℕ) (p n : ℕ) (records : List Record) (f : Fact) → has_place p n records ≡ false → is_other e p n f ≡ true → has_place p n (journal_step e records f) ≡ false
none_step e p n records (fact.Wrote x r) h k = by (is_name x e) k
  where
    none : (a b : Bool) → a ≡ false → not b ≡ true → (a || (b || false)) ≡ false
    none true b i j = absurd (true_is_not_false i)
    none false true i j = absurd (true_is_not_false (sym j))
    none false false i j = refl

    by : (b : Bool) → not (b && is_wanted p n r) ≡ true → has_place p n (if b then records ++ r ∷ [] else records) ≡ false
    by true i = place_more p n records r ∙ none (has_place p n records) (is_wanted p n r) h i
    by false i = h
none_step e p n records f h k = h

none_placed : (e : List ℕ) (p n : ℕ) (records : List Record) (fs : List Fact) → has_place p n records ≡ false → list_all (is_other e p n) fs ≡ true → has_place p n (fold (journal_step e) records fs) ≡ false
none_placed e p n records [] h k = h
none_placed e p n records (f ∷ fs) h k =
    let m : (is_other e p n f ≡ true) × (list_all (is_other e p n) fs ≡ true) = and_both (is_other e p n f) (list_all (is_other e p n) fs) k in
    none_placed e p n (journal_step e records f) fs (none_step e p n records f h m.0) m.1

-- where some fact is that record, it stands there
found : (e : List ℕ) (p n : ℕ) (fs : List Fact) → list_all (is_other e p n) fs ≡ false → WasWritten fs e p n
found e p n [] h = absurd (true_is_not_false h)
found e p n (f ∷ fs) h = by (is_other e p n f) refl h (found e p n fs)
  where
    not_false : (b : Bool) → not b ≡ false → b ≡ true
    not_false true i = refl
    not_false false i = absurd (true_is_not_false i)

    here : (g : Fact) → is_other e p n g ≡ false → WasWritten (g ∷ fs) e p n
    here (fact.Wrote x r) i =
        let both_are : (is_name x e && is_wanted p n r) ≡ true = not_false (is_name x e && is_wanted p n r) i in
        let m : (is_name x e ≡ true) × (is_wanted p n r ≡ true) = and_both (is_name x e) (is_wanted p n r) both_are in
        let k : ((r.producer == p) ≡ true) × ((r.place == n) ≡ true) = and_both (r.producer == p) (r.place == n) m.1 in record {
          front = [];
          entry = r;
          back = fs;
          facts_are = ap (λ y. fact.Wrote y r ∷ fs) (same_name x e m.0);
          producer_is = same_number r.producer p k.0;
          place_is = same_number r.place n k.1;
        }
    here g i = absurd (true_is_not_false i)

    later : WasWritten fs e p n → WasWritten (f ∷ fs) e p n
    later w = record {
      front = f ∷ w.front;
      entry = w.entry;
      back = w.back;
      facts_are = ap (λ l. f ∷ l) w.facts_are;
      producer_is = w.producer_is;
      place_is = w.place_is;
    }

    by : (b : Bool) → is_other e p n f ≡ b → (b && list_all (is_other e p n) fs) ≡ false → (list_all (is_other e p n) fs ≡ false → WasWritten fs e p n) → WasWritten (f ∷ fs) e p n
    by true i j rest = later (rest j)
    by false i j rest = here f i

-- What a confirmation says.

queue_more : (c : Script) (lists : SlotLists) (f : Fact) (p : ℕ) → Owns c lists → is_producer c p ≡ true → queue_list (with_entry f lists (Some (slot.Queue p))) p ≡ queue_list lists p ++ f ∷ []
queue_more c lists f p k h =
    let above : 0 < p = producer_above c p h in
    let most : p ≤ c.config.producers = producer_within c p h in
    let inside : p - 1 < length lists.queues = omega (arith, above, most, k.queues) in
    get_or-set_same lists.queues (p - 1) (queue_list lists p ++ f ∷ []) [] inside

-- its record stands in the journal
recorded_there : (c : Script) (trace : List Fact) (p n : ℕ) (e : List ℕ) → is_producer c p ≡ true → IsKept c trace → IsKept c (trace ++ fact.Confirmed p e n ∷ [])
    → has_place p n (journal e (shard_list (lists_of (setting c) trace) (shard_of (setting c) e))) ≡ true
recorded_there c trace p n e h old new =
    let f : Fact = fact.Confirmed p e n in
    let lists : SlotLists = lists_of (setting c) trace in
    let after : SlotLists = lists_of (setting c) (trace ++ f ∷ []) in
    let s : ℕ = shard_of (setting c) e in
    let list : queue_list after p ≡ queue_list lists p ++ f ∷ [] = ap (λ l. queue_list l p) (lists_more c trace f) ∙ queue_more c lists f p old.owns h in
    let all : list_all (is_recorded c after) (queue_list after p) ≡ true = all_get (list_all (is_recorded c after)) after.queues (p - 1) [] new.there refl in
    let last : (list_all (is_recorded c after) (queue_list lists p) && (is_recorded c after f && true)) ≡ true =
    sym (list_all-append (is_recorded c after) (queue_list lists p) (f ∷ [])) ∙ (ap (list_all (is_recorded c after)) (sym list) ∙ all) in
    let there : is_recorded c after f ≡ true = (and_both (is_recorded c after f) true (and_both (list_all (is_recorded c after) (queue_list lists p)) (is_recorded c after f && true) last).1).0 in
    sym (ap (λ (l : SlotLists). has_place p n (journal e (shard_list l s))) (lists_more c trace f)) ∙ there

-- The whole trace.

record IsSafeAt (era : Era) (f : Fact) : Type 0 where
  before : is_safe_now era.script era.trace ≡ true
  shown : shows era.script era.trace f ≡ true
  after : is_safe_now (era_step era f).script (era_step era f).trace ≡ true

safe_here : (era : Era) (fs : List Fact) → safe_from era fs ≡ true → is_safe_now era.script era.trace ≡ true
safe_here era [] h = h
safe_here era (f ∷ fs) h =
    (and_both (is_safe_now era.script era.trace) (shows era.script era.trace f) (and_both (is_safe_now era.script era.trace && shows era.script era.trace f) (safe_from (era_step era f) fs) h).0).0

safe_at : (era : Era) (front back : List Fact) (f : Fact) → safe_from era (front ++ f ∷ back) ≡ true → IsSafeAt (fold era_step era front) f
safe_at era [] back f h =
    let m : ((is_safe_now era.script era.trace && shows era.script era.trace f) ≡ true) × (safe_from (era_step era f) back ≡ true) = and_both (is_safe_now era.script era.trace && shows era.script era.trace f) (safe_from (era_step era f) back) h in
    let k : (is_safe_now era.script era.trace ≡ true) × (shows era.script era.trace f ≡ true) = and_both (is_safe_now era.script era.trace) (shows era.script era.trace f) m.0 in
    record { before = k.0; shown = k.1; after = safe_here (era_step era f) back m.1 }
safe_at era (x ∷ xs) back f h =
    safe_at (era_step era x) xs back f (and_both (is_safe_now era.script era.trace && shows era.script era.trace x) (safe_from (era_step era x) (xs ++ f ∷ back)) h).1

pub confirmed_was_written : ConfirmedWasWritten
confirmed_was_written c front back e p n safe = by (list_all q front) refl
  where
    q : Fact → Bool
    q = is_other e p n

    era : Era
    era = era_of c front

    lists : SlotLists
    lists = lists_of (setting era.script) era.trace

    at : IsSafeAt era (fact.Confirmed p e n)
    at = safe_at (first_era c) front back (fact.Confirmed p e n) safe

    there : has_place p n (journal e (shard_list lists (shard_of (setting era.script) e))) ≡ true
    there = recorded_there era.script era.trace p n e at.shown (kept_of era.script era.trace at.before) (kept_of era.script (era.trace ++ fact.Confirmed p e n ∷ []) at.after)

    absent : list_all q front ≡ true → has_place p n (journal e (shard_list lists (shard_of (setting era.script) e))) ≡ false
    absent h =
        let pass : AllPass q lists = pass_lists q (setting era.script) era.trace (pass_era q (first_era c) front (other_lax e p n) refl h) in
        none_placed e p n [] (shard_list lists (shard_of (setting era.script) e)) refl (all_get (list_all q) lists.shards (shard_of (setting era.script) e) [] pass.shards refl)

    by : (b : Bool) → list_all q front ≡ b → WasWritten front e p n
    by true h = absurd (true_is_not_false (sym there ∙ absent h))
    by false h = found e p n front h
