-- The lists of stores that go over to another number of shards, and what is at hand of each name.
use Rattle.std.proofs.Common.{◌≡◌, ℕ, zero, suc, ◌+◌, ◌<◌, ◌≤◌, List, length, sym, ap, subst, ◌∙◌, refl, true, false, arith, length-append}
use Rattle.std.specs.Prelude.{Bool, [], ◌∷◌, ◌++◌, ◌==◌, ◌&&◌, nat_lt, cond, fold, filter, map, drop, max, slice_index_or, Option, None, is_some}
use Rattle.std.specs.List.{list_all, flat_map}
use Rattle.std.specs.List.Sorted.{IsStrictlySortedBy}
use Rattle.std.specs.Ordering.{nat_cmp}
use Rattle.std.specs.Cmp.Lexicographic.{slice_cmp}
use Rattle.std.proofs.lemmas.List.{get_or_append_left, get_or_at, get_or_default, map-append, append-nil, append_assoc, drop_all, drop_more}
use Rattle.std.proofs.lemmas.List.Sums.{fold-append, fold_push}
use Rattle.plain_laws.proofs.Booleans.{true_is_not_false, and_both, same_number, below, not_below, is_below, all_filter}
use Rattle.plain_laws.proofs.Names.{all_names}
use Rattle.yard_model.specs.declared.entry.ShardEntry.{ShardEntry}
use Rattle.yard_model.specs.declared.entry.ShardEntry.TheVariants as entry
use Rattle.yard_model.specs.declared.fact.Fact.{Fact}
use Rattle.yard_model.specs.declared.fact.Fact.TheVariants as fact
use Rattle.yard_model.specs.declared.incarnation.Incarnation.{Incarnation}
use Rattle.yard_model.specs.declared.incarnation.Slot.TheVariants as slot
use Rattle.yard_model.specs.Entry.{shard_fact}
use Rattle.yard_model.specs.Era.{is_of_name, entries_of, base}
use Rattle.yard_model.specs.Genuine.{is_brought}
use Rattle.yard_model.specs.Lawful.{own, is_held}
use Rattle.yard_model.specs.Script.{Script, Setting, setting, with_shards, names_in}
use Rattle.yard_model.specs.Setting.{shard_of, names_of, set_shards}
use Rattle.yard_model.specs.Shard.{shard}
use Rattle.yard_model.specs.SlotLists.{SlotLists, shard_list}
use Rattle.yard_model.specs.SlotReads.{epoch, holder_step, journal, journal_step, last_snapshot, snapshot_step, is_remembered, remembered_step}
use Rattle.entity_journal.specs.Journal.{Journaled}
use Rattle.entity_snapshot.specs.Kept.{Kept}
use Rattle.era_laws.proofs.ShapeLaws.{Reads, journal_reads, base_same, reshaped_list}
use Rattle.era_laws.proofs.ReshapeLaws.{snapshot_reads, remembered_reads, shard_begun}
use Rattle.shard_store.specs.Reshaped.{slot_lists, list_of, next_lists, MayGoOver, is_entry_of, AreEach, IsJournalIn, IsLatestOf, IsMarkOf, AreCarried}
use Rattle.shard_store.specs.Shelved.{no_journal, no_snapshots, name_at, IsLatest, IsShelf}
use Rattle.shard_store.specs.Stores.{Shelves}

-- Something of each place.

pub each_none : {A : Type 0} (d : A) (P : ℕ → A → Type 0) → AreEach d P [] 0
each_none d P = record { count = refl; each = λ i h. absurd (omega arith) }

pub each_more : {A : Type 0} (d : A) (P : ℕ → A → Type 0) (xs : List A) (n : ℕ) (x : A) → AreEach d P xs n → P n x → AreEach d P (xs ++ x ∷ []) (n + 1)
each_more {A} d P xs n x k new = record {
  count = length-append xs (x ∷ []) ∙ ap (λ i. i + 1) k.count;
  each = λ i h. by i h (nat_lt i n) refl;
}
  where
    by : (i : ℕ) → i < n + 1 → (b : Bool) → nat_lt i n ≡ b → P i (slice_index_or (xs ++ x ∷ []) i d)
    by i h true e =
        let less : i < n = below i n e in
        subst (P i) (sym (get_or_append_left xs (x ∷ []) d i (omega (arith, less, k.count)))) (k.each i less)
    by i h false e =
        let past : n ≤ i = not_below i n e in
        let here : n ≡ i = omega (arith, past, h) in
        subst (P i) (sym (get_or_at xs x [] d i (k.count ∙ here))) (subst (λ j. P j x) here new)

-- Names.

pub all_at : (p : List ℕ → Bool) (xs : List (List ℕ)) (i : ℕ) (x : List ℕ) → list_all p xs ≡ true → i < length xs → x ≡ slice_index_or xs i x → p x ≡ true
all_at p [] i x h within e = absurd (omega arith)
all_at p (y ∷ ys) zero x h within e = ap p e ∙ (and_both (p y) (list_all p ys) h).0
all_at p (y ∷ ys) (suc i) x h within e = all_at p ys i x (and_both (p y) (list_all p ys) h).1 (omega arith) e

pub named_at : (xs : List (List ℕ)) (i : ℕ) (x : List ℕ) → i < length xs → x ≡ slice_index_or xs i x → name_at xs i ≡ x
named_at xs i x within e = get_or_default xs i [] x within ∙ sym e

kept_all : (p : List ℕ → Bool) (xs : List (List ℕ)) → list_all p (filter p xs) ≡ true
kept_all p [] = refl
kept_all p (x ∷ xs) = by (p x) refl (kept_all p xs)
  where
    by : (b : Bool) → p x ≡ b → list_all p (filter p xs) ≡ true → list_all p (cond b (x ∷ filter p xs) (filter p xs)) ≡ true
    by true e rest = ap (λ t. t && list_all p (filter p xs)) e ∙ rest
    by false e rest = rest

-- the names of a shard are brought by the script
pub all_brought : (d c : Script) (n s : ℕ) (names : List (List ℕ)) → c ≡ with_shards n d → names ≡ names_of (setting c) s → list_all (is_brought d) names ≡ true
all_brought d c n s names same are =
    ap (list_all (is_brought d)) (are ∙ ap (λ y. names_of (setting y) s) same)
    ∙ all_filter (is_brought d) (λ e. shard n e == s) (names_in d.orders) (all_names (is_brought d) (names_in d.orders) (λ e h. h))

-- Entries of names.

pub facts_of_name : (e : List ℕ) (s t : ℕ) (xs : List ShardEntry) → map (shard_fact s) (filter (is_entry_of e) xs) ≡ filter (is_of_name e) (map (shard_fact t) xs)
facts_of_name e s t [] = refl
facts_of_name e s t (x ∷ xs) = by (is_entry_of e x) refl (facts_of_name e s t xs)
  where
    same_test : (x : ShardEntry) → is_of_name e (shard_fact t x) ≡ is_entry_of e x
    same_test (entry.Granted n w) = refl
    same_test (entry.Freed n why) = refl
    same_test (entry.Wrote y r) = refl
    same_test (entry.Snapshot y m) = refl
    same_test (entry.Remembered y) = refl
    same_test (entry.Forgotten y) = refl
    same_test (entry.Reshard n k) = refl

    same_fact : (x : ShardEntry) → is_entry_of e x ≡ true → shard_fact s x ≡ shard_fact t x
    same_fact (entry.Granted n w) h = absurd (true_is_not_false (sym h))
    same_fact (entry.Freed n why) h = absurd (true_is_not_false (sym h))
    same_fact (entry.Wrote y r) h = refl
    same_fact (entry.Snapshot y m) h = refl
    same_fact (entry.Remembered y) h = refl
    same_fact (entry.Forgotten y) h = refl
    same_fact (entry.Reshard n k) h = absurd (true_is_not_false (sym h))

    by : (b : Bool) → is_entry_of e x ≡ b → map (shard_fact s) (filter (is_entry_of e) xs) ≡ filter (is_of_name e) (map (shard_fact t) xs)
        → map (shard_fact s) (cond (is_entry_of e x) (x ∷ filter (is_entry_of e) xs) (filter (is_entry_of e) xs)) ≡ cond (is_of_name e (shard_fact t x)) (shard_fact t x ∷ filter (is_of_name e) (map (shard_fact t) xs)) (filter (is_of_name e) (map (shard_fact t) xs))
    by true h rest =
        ap (λ b. map (shard_fact s) (cond b (x ∷ filter (is_entry_of e) xs) (filter (is_entry_of e) xs))) h
        ∙ (ap (λ f. f ∷ map (shard_fact s) (filter (is_entry_of e) xs)) (same_fact x h)
        ∙ (ap (λ l. shard_fact t x ∷ l) rest
        ∙ sym (ap (λ b. cond b (shard_fact t x ∷ filter (is_of_name e) (map (shard_fact t) xs)) (filter (is_of_name e) (map (shard_fact t) xs))) (same_test x ∙ h))))
    by false h rest =
        ap (λ b. map (shard_fact s) (cond b (x ∷ filter (is_entry_of e) xs) (filter (is_entry_of e) xs))) h
        ∙ (rest ∙ sym (ap (λ b. cond b (shard_fact t x ∷ filter (is_of_name e) (map (shard_fact t) xs)) (filter (is_of_name e) (map (shard_fact t) xs))) (same_test x ∙ h)))

-- one name more
pub entries_more : (x : Shelves) (names : List (List ℕ)) (i t : ℕ) (e : List ℕ) (old new list : List ShardEntry) (facts : List Fact) (s : ℕ) → i < length names → e ≡ slice_index_or names i e → new ≡ old ++ filter (is_entry_of e) list
    → map (shard_fact t) list ≡ facts → facts ≡ list_of x e
    → map (shard_fact s) old ++ flat_map (entries_of (setting x.script) (slot_lists x)) (drop i names) ≡ flat_map (entries_of (setting x.script) (slot_lists x)) names
    → map (shard_fact s) new ++ flat_map (entries_of (setting x.script) (slot_lists x)) (drop (i + 1) names) ≡ flat_map (entries_of (setting x.script) (slot_lists x)) names
entries_more x names i t e old new list facts s within at_is grown are_facts is_list so_far =
    let f : List ℕ → List Fact = entries_of (setting x.script) (slot_lists x) in
    let here : map (shard_fact s) (filter (is_entry_of e) list) ≡ f e = facts_of_name e s t list ∙ ap (filter (is_of_name e)) (are_facts ∙ is_list) in
    let next : drop i names ≡ e ∷ drop (i + 1) names = drop_more names i e within ∙ ap (λ y. y ∷ drop (i + 1) names) (sym at_is) in
    ap (λ l. map (shard_fact s) l ++ flat_map f (drop (i + 1) names)) grown
    ∙ (ap (λ l. l ++ flat_map f (drop (i + 1) names)) (map-append (shard_fact s) old (filter (is_entry_of e) list) ∙ ap (λ l. map (shard_fact s) old ++ l) here)
    ∙ (append_assoc (map (shard_fact s) old) (f e) (flat_map f (drop (i + 1) names))
    ∙ (ap (λ l. map (shard_fact s) old ++ flat_map f l) (sym next) ∙ so_far)))

-- no name is left
pub entries_all : (x : Shelves) (names : List (List ℕ)) (i : ℕ) (list : List Fact) → length names ≤ i → list ++ flat_map (entries_of (setting x.script) (slot_lists x)) (drop i names) ≡ flat_map (entries_of (setting x.script) (slot_lists x)) names → list ≡ flat_map (entries_of (setting x.script) (slot_lists x)) names
entries_all x names i list past e =
    let f : List ℕ → List Fact = entries_of (setting x.script) (slot_lists x) in
    sym (append-nil list) ∙ (ap (λ l. list ++ flat_map f l) (sym (drop_all i names past)) ∙ e)

-- entries of names lease nothing
named_free : (e : List ℕ) (list : List Fact) (o : Option Incarnation) → fold holder_step o (filter (is_of_name e) list) ≡ o
named_free e [] o = refl
named_free e (f ∷ fs) o = by (is_of_name e f) refl (named_free e fs)
  where
    one : (f : Fact) (o : Option Incarnation) → is_of_name e f ≡ true → holder_step o f ≡ o
    one (fact.Granted s n x) o h = absurd (true_is_not_false (sym h))
    one (fact.Freed s n why) o h = absurd (true_is_not_false (sym h))
    one f o h = refl

    by : (b : Bool) → is_of_name e f ≡ b → ((o : Option Incarnation) → fold holder_step o (filter (is_of_name e) fs) ≡ o) → fold holder_step o (cond b (f ∷ filter (is_of_name e) fs) (filter (is_of_name e) fs)) ≡ o
    by true h rest = ap (λ p. fold holder_step p (filter (is_of_name e) fs)) (one f o h) ∙ rest o
    by false h rest = rest o

pub names_free : (set : Setting) (lists : SlotLists) (names : List (List ℕ)) (o : Option Incarnation) → fold holder_step o (flat_map (entries_of set lists) names) ≡ o
names_free set lists [] o = refl
names_free set lists (e ∷ es) o =
    fold-append holder_step o (entries_of set lists e) (flat_map (entries_of set lists) es)
    ∙ (ap (λ p. fold holder_step p (flat_map (entries_of set lists) es)) (named_free e (shard_list lists (shard_of set e)) o) ∙ names_free set lists es o)

pub entries_free : (x : Shelves) (names : List (List ℕ)) (list : List Fact) → list ≡ flat_map (entries_of (setting x.script) (slot_lists x)) names → is_held list ≡ false
entries_free x names list is = ap is_held is ∙ ap is_some (names_free (setting x.script) (slot_lists x) names None)

-- The list of a shard.

pub list_is_after : (x : Shelves) (c : Script) (k s n : ℕ) (names : List (List ℕ)) (list : List Fact) → MayGoOver x c k → s < c.config.shards → n ≡ c.config.shards → names ≡ names_of (setting c) s → list ≡ flat_map (entries_of (setting x.script) (slot_lists x)) names
    → list ++ fact.Resharded s n k ∷ [] ≡ shard_list (next_lists x c.config.shards k) s
list_is_after x c k s n names list over within count are is =
    ap (λ l. l ++ fact.Resharded s n k ∷ []) (is ∙ ap (flat_map (entries_of (setting x.script) (slot_lists x))) (are ∙ ap (λ y. names_of (setting y) s) over.script_is))
    ∙ (ap (λ m. base (setting x.script) (set_shards c.config.shards (setting x.script)) (slot_lists x) s ++ fact.Resharded s m k ∷ []) count
    ∙ sym (reshaped_list (setting x.script) c.config.shards k (slot_lists x) s within))

pub after_free : (x : Shelves) (n k s : ℕ) → s < n → is_held (shard_list (next_lists x n k) s) ≡ false
after_free x n k s within =
    let list : List Fact = base (setting x.script) (set_shards n (setting x.script)) (slot_lists x) s in
    ap is_held (reshaped_list (setting x.script) n k (slot_lists x) s within)
    ∙ ap is_some (fold_push holder_step None list (fact.Resharded s n k) ∙ names_free (setting x.script) (slot_lists x) (names_of (set_shards n (setting x.script)) s) None)

-- what is read of a brought name is what was
carried_same : {B : Type 0} (x : Shelves) (n k s : ℕ) (e : List ℕ) (g : B → Fact → B) → Reads e g → (z : B) → is_brought x.script e ≡ true → shard n e ≡ s → s < n → fold g z (shard_list (next_lists x n k) s) ≡ fold g z (list_of x e)
carried_same x n k s e g reads z brought of within =
    let list : ℕ → List Fact = λ t. base (setting x.script) (set_shards n (setting x.script)) (slot_lists x) t in
    ap (fold g z) (reshaped_list (setting x.script) n k (slot_lists x) s within)
    ∙ (fold_push g z (list s) (fact.Resharded s n k)
    ∙ (reads (fold g z (list s)) (fact.Resharded s n k) refl
    ∙ (ap (λ t. fold g z (list t)) (sym of) ∙ base_same x.script n (slot_lists x) e g reads z brought)))

of_this_shard : (x : Shelves) (n s : ℕ) (names : List (List ℕ)) → names ≡ names_of (setting (with_shards n x.script)) s → (i : ℕ) → i < length names → shard n (name_at names i) ≡ s
of_this_shard x n s names are i h =
    same_number (shard n (name_at names i)) s (all_at of_it names i (name_at names i) (ap (list_all of_it) are ∙ kept_all of_it (names_in x.script.orders)) h (get_or_default names i [] (name_at names i) h))
  where
    of_it : List ℕ → Bool
    of_it e = shard n e == s

brought_at : (x : Shelves) (n s : ℕ) (names : List (List ℕ)) → names ≡ names_of (setting (with_shards n x.script)) s → (i : ℕ) → i < length names → is_brought x.script (name_at names i) ≡ true
brought_at x n s names are i h = all_at (is_brought x.script) names i (name_at names i) (all_brought x.script (with_shards n x.script) n s names refl are) h (get_or_default names i [] (name_at names i) h)

journal_carried : (x : Shelves) (n k s : ℕ) (names : List (List ℕ)) (entries : List Fact) → s < n → names ≡ names_of (setting (with_shards n x.script)) s → entries ≡ shard_list (next_lists x n k) s
    → (i : ℕ) → i < length names → journal (name_at names i) entries ≡ journal (name_at names i) (list_of x (name_at names i))
journal_carried x n k s names entries within are is i h =
    let e : List ℕ = name_at names i in
    ap (journal e) is ∙ carried_same x n k s e (journal_step e) (journal_reads e) [] (brought_at x n s names are i h) (of_this_shard x n s names are i h) within

pub journals_carried : (x : Shelves) (c : Script) (k s : ℕ) (names : List (List ℕ)) (entries : List Fact) → MayGoOver x c k → s < c.config.shards → names ≡ names_of (setting c) s → entries ≡ shard_list (next_lists x c.config.shards k) s → AreCarried x names entries
journals_carried x c k s names entries over within are is = journal_carried x c.config.shards k s names entries within (are ∙ ap (λ y. names_of (setting y) s) over.script_is) is

-- The store of a shard.

shelf_by : (x : Shelves) (n k s : ℕ) (names : List (List ℕ)) (entries : List Fact) (journals : List Journaled) (snapshots : List Kept) (marks : List Bool) → ((t : ℕ) → epoch (shard_list (slot_lists x) t) ≤ k) → ((t : ℕ) → own x.script (slot.Shard t) (shard_list (slot_lists x) t) ≡ true)
    → s < n → names ≡ names_of (setting (with_shards n x.script)) s → IsStrictlySortedBy (slice_cmp nat_cmp) names → length names ≤ 1000 → entries ≡ shard_list (next_lists x n k) s
    → AreEach no_journal (IsJournalIn entries x.script.orders names) journals (length names) → AreEach no_snapshots (IsLatestOf x names) snapshots (length names) → AreEach false (IsMarkOf x names) marks (length names)
    → IsShelf (record { script = with_shards n x.script; shard = s; entries = entries; spare = 0 }) s names journals snapshots marks
shelf_by x n k s names entries journals snapshots marks low own_are within are sorted few is js ss ms = record {
  own_is = ap (own (with_shards n x.script) (slot.Shard s)) (is ∙ reshaped_list (setting x.script) n k (slot_lists x) s within) ∙ shard_begun x.script n s k (slot_lists x) own_are low;
  shard_is = is_below s n within;
  list_is = refl;
  names_are = are;
  few_names = few;
  sorted = sorted;
  kept_is = record {
    journals_there = js.count;
    snapshots_there = ss.count;
    marks_there = ms.count;
    journal_is = js.each;
    latest_is = λ i h. subst (λ rs. IsLatest x.script.config.kind rs (last_snapshot (name_at names i) entries) (slice_index_or snapshots i no_snapshots)) (sym (journal_is i h))
        (subst (λ m. IsLatest x.script.config.kind (journal (name_at names i) (list_of x (name_at names i))) m (slice_index_or snapshots i no_snapshots)) (sym (snapshot_is i h)) (ss.each i h));
    mark_is = λ i h. ms.each i h ∙ sym (mark_is i h);
  };
}
  where
    of_shard : (i : ℕ) → i < length names → shard n (name_at names i) ≡ s
    of_shard i h = of_this_shard x n s names are i h

    brought : (i : ℕ) → i < length names → is_brought x.script (name_at names i) ≡ true
    brought i h = brought_at x n s names are i h

    journal_is : (i : ℕ) → i < length names → journal (name_at names i) entries ≡ journal (name_at names i) (list_of x (name_at names i))
    journal_is i h = journal_carried x n k s names entries within are is i h

    snapshot_is : (i : ℕ) → i < length names → last_snapshot (name_at names i) entries ≡ last_snapshot (name_at names i) (list_of x (name_at names i))
    snapshot_is i h = let e : List ℕ = name_at names i in ap (last_snapshot e) is ∙ carried_same x n k s e (snapshot_step e) (snapshot_reads e) 0 (brought i h) (of_shard i h) within

    mark_is : (i : ℕ) → i < length names → is_remembered (name_at names i) entries ≡ is_remembered (name_at names i) (list_of x (name_at names i))
    mark_is i h = let e : List ℕ = name_at names i in ap (is_remembered e) is ∙ carried_same x n k s e (remembered_step e) (remembered_reads e) false (brought i h) (of_shard i h) within

pub shelf_begun : (x : Shelves) (c : Script) (k s ls spare : ℕ) (names : List (List ℕ)) (entries : List Fact) (journals : List Journaled) (snapshots : List Kept) (marks : List Bool) → MayGoOver x c k
    → s < c.config.shards → names ≡ names_of (setting c) s → IsStrictlySortedBy (slice_cmp nat_cmp) names → length names ≤ 1000 → ls ≡ s → spare ≡ 0 → entries ≡ shard_list (next_lists x c.config.shards k) s
    → AreEach no_journal (IsJournalIn entries x.script.orders names) journals (length names) → AreEach no_snapshots (IsLatestOf x names) snapshots (length names) → AreEach false (IsMarkOf x names) marks (length names)
    → IsShelf (record { script = c; shard = s; entries = entries; spare = spare }) ls names journals snapshots marks
shelf_begun x c k s ls spare names entries journals snapshots marks over within are sorted few same none is js ss ms =
    subst (λ (t : ℕ). IsShelf (record { script = c; shard = s; entries = entries; spare = spare }) t names journals snapshots marks) (sym same)
    (subst (λ (t : ℕ). IsShelf (record { script = c; shard = s; entries = entries; spare = t }) s names journals snapshots marks) (sym none)
    (subst (λ (y : Script). IsShelf (record { script = y; shard = s; entries = entries; spare = 0 }) s names journals snapshots marks) (sym over.script_is)
    (shelf_by x c.config.shards k s names entries journals snapshots marks over.low over.own_are within (are ∙ ap (λ y. names_of (setting y) s) over.script_is) sorted few is js ss ms)))

-- The greatest epoch.

most_from : (ls : List (List Fact)) (m : ℕ) → m ≤ fold (λ m l. max m (epoch l)) m ls
most_from [] m = omega arith
most_from (l ∷ ls) m = grown m (epoch l) (fold (λ m l. max m (epoch l)) (max m (epoch l)) ls) (most_from ls (max m (epoch l)))
  where
    grown : (a b d : ℕ) → max a b ≤ d → a ≤ d
    grown a b d h = grind arith

pub most_of : (ls : List (List Fact)) (m s : ℕ) → epoch (slice_index_or ls s []) ≤ fold (λ m l. max m (epoch l)) m ls
most_of [] m s = least (fold (λ m l. max m (epoch l)) m [])
  where
    least : (a : ℕ) → 0 ≤ a
    least a = omega arith
most_of (l ∷ ls) m zero = grown m (epoch l) (fold (λ m l. max m (epoch l)) (max m (epoch l)) ls) (most_from ls (max m (epoch l)))
  where
    grown : (a b d : ℕ) → max a b ≤ d → b ≤ d
    grown a b d h = grind arith
most_of (l ∷ ls) m (suc s) = most_of ls (max m (epoch l)) s
