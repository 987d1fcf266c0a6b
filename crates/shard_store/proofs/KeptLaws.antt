-- What is kept of the names, with one entry more in the list.
use Rattle.std.proofs.Common.{◌≡◌, ◌≢◌, ℕ, ◌+◌, ◌-◌, ◌<◌, ◌≤◌, List, length, sym, ap, subst, ◌∙◌, refl, true, false, arith, length-append}
use Rattle.std.specs.Prelude.{Bool, [], ◌∷◌, ◌++◌, ◌==◌, cond, take, drop, slice_get, slice_set, slice_index_or, replicate, Option, Some, None, MatchOption}
use Rattle.std.specs.List.Sorted.{IsStrictlySortedBy}
use Rattle.std.specs.Ordering.{nat_cmp}
use Rattle.std.specs.Cmp.Lexicographic.{slice_cmp}
use Rattle.std.proofs.lemmas.Bool.Decides.{nat_tests}
use Rattle.std.proofs.lemmas.List.Sums.{fold-append}
use Rattle.std.proofs.lemmas.Option.{slice_get-get_or}
use Rattle.std.proofs.Math.Seq.{get_or-append_seam}
use Rattle.std.proofs.lemmas.List.{get_or-set_same, get_or-set_other, length-set, get_or-replicate, length-replicate, take-append-le, drop-append-le}
use Rattle.yard_model.specs.declared.event.Kind.{Kind}
use Rattle.yard_model.specs.declared.fact.Fact.{Fact}
use Rattle.yard_model.specs.declared.fact.Fact.TheVariants as fact
use Rattle.yard_model.specs.declared.packet.Record.{Record}
use Rattle.yard_model.specs.Script.{Script, is_name}
use Rattle.yard_model.specs.SlotReads.{journal, journal_step, last_snapshot, snapshot_step, is_remembered, remembered_step}
use Rattle.entity_journal.specs.Journal.{Journaled}
use Rattle.entity_snapshot.specs.declared.snapshot.Snapshot.{Snapshot}
use Rattle.entity_snapshot.specs.Kept.{Kept, last_of}
use Rattle.shard_store.specs.Planned.{sent_to}
use Rattle.shard_store.specs.Reshaped.{AreEach, IsJournalIn}
use Rattle.shard_store.specs.Shelved.{no_journal, no_snapshots, name_at, IsJournal, IsSnapshot, IsLatest, AreKept, latest}
use Rattle.shard_store.proofs.DifferentLaws.{another_name, name_itself}
use Rattle.shard_store.proofs.PlacedLaws.{journal_still, journal_grows}

same : (n p : ℕ) → (n == p) ≡ true → n ≡ p
same n p e = grind (arith, nat_tests)

other : (n p : ℕ) → (n == p) ≡ false → n ≢ p
other n p e = grind (arith, nat_tests)

-- an entry that is no word on a name
pub record IsOfNone (f : Fact) : Type 0 where
  pub journal_is : (e : List ℕ) (old : List Record) → journal_step e old f ≡ old
  pub snapshot_is : (e : List ℕ) (old : ℕ) → snapshot_step e old f ≡ old
  pub mark_is : (e : List ℕ) (old : Bool) → remembered_step e old f ≡ old

pub journal_more : (e : List ℕ) (list : List Fact) (f : Fact) → journal e (list ++ f ∷ []) ≡ journal_step e (journal e list) f
journal_more e list f = fold-append (journal_step e) [] list (f ∷ [])

snapshot_more : (e : List ℕ) (list : List Fact) (f : Fact) → last_snapshot e (list ++ f ∷ []) ≡ snapshot_step e (last_snapshot e list) f
snapshot_more e list f = fold-append (snapshot_step e) 0 list (f ∷ [])

mark_more : (e : List ℕ) (list : List Fact) (f : Fact) → is_remembered e (list ++ f ∷ []) ≡ remembered_step e (is_remembered e list) f
mark_more e list f = fold-append (remembered_step e) false list (f ∷ [])

pub kept_none : (c : Script) (names : List (List ℕ)) (list : List Fact) (journals : List Journaled) (snapshots : List Kept) (marks : List Bool) (f : Fact) → IsOfNone f
    → AreKept c names list journals snapshots marks → AreKept c names (list ++ f ∷ []) journals snapshots marks
kept_none c names list journals snapshots marks f none k = record {
  journals_there = k.journals_there;
  snapshots_there = k.snapshots_there;
  marks_there = k.marks_there;
  journal_is = λ i within. journal_still (name_at names i) list f (sent_to (name_at names i) c.orders) (slice_index_or journals i no_journal) (same_journal i) (k.journal_is i within);
  latest_is = λ i within. subst (λ rs. IsLatest c.config.kind rs (last_snapshot (name_at names i) (list ++ f ∷ [])) (slice_index_or snapshots i no_snapshots)) (sym (same_journal i))
      (subst (λ m. IsLatest c.config.kind (journal (name_at names i) list) m (slice_index_or snapshots i no_snapshots)) (sym (snapshot_more (name_at names i) list f ∙ none.snapshot_is (name_at names i) (last_snapshot (name_at names i) list))) (k.latest_is i within));
  mark_is = λ i within. k.mark_is i within ∙ sym (mark_more (name_at names i) list f ∙ none.mark_is (name_at names i) (is_remembered (name_at names i) list));
}
  where
    same_journal : (i : ℕ) → journal (name_at names i) (list ++ f ∷ []) ≡ journal (name_at names i) list
    same_journal i = journal_more (name_at names i) list f ∙ none.journal_is (name_at names i) (journal (name_at names i) list)

-- a record more changes nothing of what the latest snapshot stands for
take_more : (m : ℕ) (records : List Record) (r : Record) → m ≤ length records → take m (records ++ r ∷ []) ≡ take m records
take_more m records r h = take-append-le m records (r ∷ []) h

snapshot_still : (kind : Kind) (records : List Record) (r : Record) (m : ℕ) (s : Snapshot) → IsSnapshot kind records m s → IsSnapshot kind (records ++ r ∷ []) m s
snapshot_still kind records r m s k =
    let long : length (records ++ r ∷ []) ≡ length records + 1 = length-append records (r ∷ []) in
    let same : take m (records ++ r ∷ []) ≡ take m records = take_more m records r k.within in
    record {
      at_is = k.at_is;
      some = k.some;
      within = omega (arith, k.within);
      state_is = rw same k.state_is;
      positions_are = λ p a b. rw same (k.positions_are p a b);
    }

latest_still : (kind : Kind) (records : List Record) (r : Record) (m : ℕ) (kept : Kept) → IsLatest kind records m kept → IsLatest kind (records ++ r ∷ []) m kept
latest_still kind records r m kept k = (k.0, at (latest kept) k.1)
  where
    at : (o : Option Snapshot) → MatchOption o (m ≡ 0) (IsSnapshot kind records m) → MatchOption o (m ≡ 0) (IsSnapshot kind (records ++ r ∷ []) m)
    at None e = e
    at (Some s) e = snapshot_still kind records r m s e

-- A record more.

pub journal_wrote : (x e : List ℕ) (list : List Fact) (r : Record) (b : Bool) → is_name x e ≡ b → journal e (list ++ fact.Wrote x r ∷ []) ≡ cond b (journal e list ++ r ∷ []) (journal e list)
journal_wrote x e list r b h = journal_more e list (fact.Wrote x r) ∙ ap (λ t. cond t (journal e list ++ r ∷ []) (journal e list)) h

pub kept_wrote : (c : Script) (names : List (List ℕ)) (list : List Fact) (journals : List Journaled) (snapshots : List Kept) (marks : List Bool) (x : List ℕ) (r : Record) (k : ℕ) (new : Journaled)
    → IsStrictlySortedBy (slice_cmp nat_cmp) names → k < length names → name_at names k ≡ x
    → new.items ≡ (slice_index_or journals k no_journal).items ++ r ∷ [] → new.places ≡ (slice_index_or journals k no_journal).places ++ length list ∷ [] → new.spare + 1 ≡ (slice_index_or journals k no_journal).spare
    → AreKept c names list journals snapshots marks → AreKept c names (list ++ fact.Wrote x r ∷ []) (slice_set journals k new) snapshots marks
kept_wrote c names list journals snapshots marks x r k new sorted inside it items places less kept = record {
  journals_there = length-set journals k new ∙ kept.journals_there;
  snapshots_there = kept.snapshots_there;
  marks_there = kept.marks_there;
  journal_is = λ i within. journal_at i within (i == k) refl;
  latest_is = λ i within. latest_at i within (i == k) refl;
  mark_is = λ i within. kept.mark_is i within ∙ sym (mark_more (name_at names i) list (fact.Wrote x r));
}
  where
    journal_at : (i : ℕ) → i < length names → (b : Bool) → (i == k) ≡ b → IsJournal (name_at names i) (list ++ fact.Wrote x r ∷ []) (sent_to (name_at names i) c.orders) (slice_index_or (slice_set journals k new) i no_journal)
    journal_at i within true e =
        let here : i ≡ k = same i k e in
        let at_x : name_at names i ≡ x = ap (name_at names) here ∙ it in
        let old : IsJournal x list (sent_to x c.orders) (slice_index_or journals k no_journal) = subst (λ n. IsJournal n list (sent_to n c.orders) (slice_index_or journals k no_journal)) it (kept.journal_is k inside) in
        let found : slice_index_or (slice_set journals k new) i no_journal ≡ new = ap (λ n. slice_index_or (slice_set journals k new) n no_journal) here ∙ get_or-set_same journals k new no_journal (omega (arith, kept.journals_there)) in
        subst (IsJournal (name_at names i) (list ++ fact.Wrote x r ∷ []) (sent_to (name_at names i) c.orders)) (sym found)
        (subst (λ n. IsJournal n (list ++ fact.Wrote x r ∷ []) (sent_to n c.orders) new) (sym at_x)
        (journal_grows x list r (sent_to x c.orders) (slice_index_or journals k no_journal) new (journal_wrote x x list r true (name_itself x)) items places less old))
    journal_at i within false e =
        let apart : is_name x (name_at names i) ≡ false = another_name names x k i sorted inside within it (other i k e) in
        subst (IsJournal (name_at names i) (list ++ fact.Wrote x r ∷ []) (sent_to (name_at names i) c.orders)) (sym (get_or-set_other journals k i new no_journal (other i k e)))
        (journal_still (name_at names i) list (fact.Wrote x r) (sent_to (name_at names i) c.orders) (slice_index_or journals i no_journal) (journal_wrote x (name_at names i) list r false apart) (kept.journal_is i within))

    latest_at : (i : ℕ) → i < length names → (b : Bool) → (i == k) ≡ b → IsLatest c.config.kind (journal (name_at names i) (list ++ fact.Wrote x r ∷ [])) (last_snapshot (name_at names i) (list ++ fact.Wrote x r ∷ [])) (slice_index_or snapshots i no_snapshots)
    latest_at i within true e =
        let named : is_name x (name_at names i) ≡ true = ap (is_name x) (ap (name_at names) (same i k e) ∙ it) ∙ name_itself x in
        subst (λ rs. IsLatest c.config.kind rs (last_snapshot (name_at names i) (list ++ fact.Wrote x r ∷ [])) (slice_index_or snapshots i no_snapshots)) (sym (journal_wrote x (name_at names i) list r true named))
        (subst (λ m. IsLatest c.config.kind (journal (name_at names i) list ++ r ∷ []) m (slice_index_or snapshots i no_snapshots)) (sym (snapshot_more (name_at names i) list (fact.Wrote x r)))
        (latest_still c.config.kind (journal (name_at names i) list) r (last_snapshot (name_at names i) list) (slice_index_or snapshots i no_snapshots) (kept.latest_is i within)))
    latest_at i within false e =
        let apart : is_name x (name_at names i) ≡ false = another_name names x k i sorted inside within it (other i k e) in
        subst (λ rs. IsLatest c.config.kind rs (last_snapshot (name_at names i) (list ++ fact.Wrote x r ∷ [])) (slice_index_or snapshots i no_snapshots)) (sym (journal_wrote x (name_at names i) list r false apart))
        (subst (λ m. IsLatest c.config.kind (journal (name_at names i) list) m (slice_index_or snapshots i no_snapshots)) (sym (snapshot_more (name_at names i) list (fact.Wrote x r))) (kept.latest_is i within))

-- A snapshot more.

last_is : {A : Type 0} (n : ℕ) (xs : List A) (x : A) → 0 < n → slice_get (last_of n (xs ++ x ∷ [])) (length (last_of n (xs ++ x ∷ [])) - 1) ≡ Some x
last_is n xs x some =
    let long : length (xs ++ x ∷ []) ≡ length xs + 1 = length-append xs (x ∷ []) in
    let d : ℕ = length (xs ++ x ∷ []) - n in
    let zs : List _ = drop d xs in
    let split : last_of n (xs ++ x ∷ []) ≡ zs ++ x ∷ [] = drop-append-le d xs (x ∷ []) (omega (arith, long)) in
    let size : length (zs ++ x ∷ []) ≡ length zs + 1 = length-append zs (x ∷ []) in
    let back : length (zs ++ x ∷ []) - 1 ≡ length zs = omega (arith, size) in
    ap (λ l. slice_get l (length l - 1)) split ∙ (ap (slice_get (zs ++ x ∷ [])) back ∙ (slice_get-get_or (zs ++ x ∷ []) (length zs) x (omega (arith, size)) ∙ ap Some (get_or-append_seam zs x [] x)))

snapshot_saved : (x e : List ℕ) (n : ℕ) (list : List Fact) (b : Bool) → is_name x e ≡ b → last_snapshot e (list ++ fact.Snapshot x n ∷ []) ≡ cond b n (last_snapshot e list)
snapshot_saved x e n list b h = snapshot_more e list (fact.Snapshot x n) ∙ ap (λ t. cond t n (last_snapshot e list)) h

pub kept_saved : (c : Script) (names : List (List ℕ)) (list : List Fact) (journals : List Journaled) (snapshots : List Kept) (marks : List Bool) (x : List ℕ) (n k : ℕ) (s : Snapshot) (new : Kept)
    → IsStrictlySortedBy (slice_cmp nat_cmp) names → k < length names → name_at names k ≡ x
    → new.snapshots ≡ last_of (slice_index_or snapshots k no_snapshots).keep ((slice_index_or snapshots k no_snapshots).snapshots ++ s ∷ []) → new.keep ≡ (slice_index_or snapshots k no_snapshots).keep
    → IsSnapshot c.config.kind (journal x list) n s
    → AreKept c names list journals snapshots marks → AreKept c names (list ++ fact.Snapshot x n ∷ []) journals (slice_set snapshots k new) marks
kept_saved c names list journals snapshots marks x n k s new sorted inside it saved keeps is kept = record {
  journals_there = kept.journals_there;
  snapshots_there = length-set snapshots k new ∙ kept.snapshots_there;
  marks_there = kept.marks_there;
  journal_is = λ i within. journal_still (name_at names i) list (fact.Snapshot x n) (sent_to (name_at names i) c.orders) (slice_index_or journals i no_journal) (journal_more (name_at names i) list (fact.Snapshot x n)) (kept.journal_is i within);
  latest_is = λ i within. subst (λ rs. IsLatest c.config.kind rs (last_snapshot (name_at names i) (list ++ fact.Snapshot x n ∷ [])) (slice_index_or (slice_set snapshots k new) i no_snapshots)) (sym (journal_more (name_at names i) list (fact.Snapshot x n))) (latest_at i within (i == k) refl);
  mark_is = λ i within. kept.mark_is i within ∙ sym (mark_more (name_at names i) list (fact.Snapshot x n));
}
  where
    latest_at : (i : ℕ) → i < length names → (b : Bool) → (i == k) ≡ b → IsLatest c.config.kind (journal (name_at names i) list) (last_snapshot (name_at names i) (list ++ fact.Snapshot x n ∷ [])) (slice_index_or (slice_set snapshots k new) i no_snapshots)
    latest_at i within true e =
        let here : i ≡ k = same i k e in
        let at_x : name_at names i ≡ x = ap (name_at names) here ∙ it in
        let named : is_name x (name_at names i) ≡ true = ap (is_name x) at_x ∙ name_itself x in
        let found : slice_index_or (slice_set snapshots k new) i no_snapshots ≡ new = ap (λ j. slice_index_or (slice_set snapshots k new) j no_snapshots) here ∙ get_or-set_same snapshots k new no_snapshots (omega (arith, kept.snapshots_there)) in
        let some : 0 < (slice_index_or snapshots k no_snapshots).keep = (kept.latest_is k inside).0 in
        let last : latest new ≡ Some s = ap (λ l. slice_get l (length l - 1)) saved ∙ last_is (slice_index_or snapshots k no_snapshots).keep (slice_index_or snapshots k no_snapshots).snapshots s some in
        subst (IsLatest c.config.kind (journal (name_at names i) list) (last_snapshot (name_at names i) (list ++ fact.Snapshot x n ∷ []))) (sym found)
        (subst (λ m. IsLatest c.config.kind (journal (name_at names i) list) m new) (sym (snapshot_saved x (name_at names i) n list true named))
        (subst (λ j. 0 < j) (sym keeps) some, subst (λ o. MatchOption o (n ≡ 0) (IsSnapshot c.config.kind (journal (name_at names i) list) n)) (sym last) (subst (λ e. IsSnapshot c.config.kind (journal e list) n s) (sym at_x) is)))
    latest_at i within false e =
        let apart : is_name x (name_at names i) ≡ false = another_name names x k i sorted inside within it (other i k e) in
        subst (IsLatest c.config.kind (journal (name_at names i) list) (last_snapshot (name_at names i) (list ++ fact.Snapshot x n ∷ []))) (sym (get_or-set_other snapshots k i new no_snapshots (other i k e)))
        (subst (λ m. IsLatest c.config.kind (journal (name_at names i) list) m (slice_index_or snapshots i no_snapshots)) (sym (snapshot_saved x (name_at names i) n list false apart)) (kept.latest_is i within))

-- A name that is remembered, or forgotten.

-- an entry that marks one name
pub record Marks (x : List ℕ) (mark : Bool) (f : Fact) : Type 0 where
  pub journal_is : (e : List ℕ) (old : List Record) → journal_step e old f ≡ old
  pub snapshot_is : (e : List ℕ) (old : ℕ) → snapshot_step e old f ≡ old
  pub mark_is : (e : List ℕ) (old : Bool) → remembered_step e old f ≡ cond (is_name x e) mark old

pub kept_marked : (c : Script) (names : List (List ℕ)) (list : List Fact) (journals : List Journaled) (snapshots : List Kept) (marks : List Bool) (x : List ℕ) (k : ℕ) (mark : Bool) (f : Fact)
    → IsStrictlySortedBy (slice_cmp nat_cmp) names → k < length names → name_at names k ≡ x → Marks x mark f
    → AreKept c names list journals snapshots marks → AreKept c names (list ++ f ∷ []) journals snapshots (slice_set marks k mark)
kept_marked c names list journals snapshots marks x k mark f sorted inside it is kept = record {
  journals_there = kept.journals_there;
  snapshots_there = kept.snapshots_there;
  marks_there = length-set marks k mark ∙ kept.marks_there;
  journal_is = λ i within. journal_still (name_at names i) list f (sent_to (name_at names i) c.orders) (slice_index_or journals i no_journal) (same_journal i) (kept.journal_is i within);
  latest_is = λ i within. subst (λ rs. IsLatest c.config.kind rs (last_snapshot (name_at names i) (list ++ f ∷ [])) (slice_index_or snapshots i no_snapshots)) (sym (same_journal i))
      (subst (λ m. IsLatest c.config.kind (journal (name_at names i) list) m (slice_index_or snapshots i no_snapshots)) (sym (snapshot_more (name_at names i) list f ∙ is.snapshot_is (name_at names i) (last_snapshot (name_at names i) list))) (kept.latest_is i within));
  mark_is = λ i within. mark_at i within (i == k) refl;
}
  where
    same_journal : (i : ℕ) → journal (name_at names i) (list ++ f ∷ []) ≡ journal (name_at names i) list
    same_journal i = journal_more (name_at names i) list f ∙ is.journal_is (name_at names i) (journal (name_at names i) list)

    marked : (i : ℕ) (b : Bool) → is_name x (name_at names i) ≡ b → is_remembered (name_at names i) (list ++ f ∷ []) ≡ cond b mark (is_remembered (name_at names i) list)
    marked i b h = mark_more (name_at names i) list f ∙ (is.mark_is (name_at names i) (is_remembered (name_at names i) list) ∙ ap (λ t. cond t mark (is_remembered (name_at names i) list)) h)

    mark_at : (i : ℕ) → i < length names → (b : Bool) → (i == k) ≡ b → slice_index_or (slice_set marks k mark) i false ≡ is_remembered (name_at names i) (list ++ f ∷ [])
    mark_at i within true e =
        let here : i ≡ k = same i k e in
        let named : is_name x (name_at names i) ≡ true = ap (is_name x) (ap (name_at names) here ∙ it) ∙ name_itself x in
        ap (λ n. slice_index_or (slice_set marks k mark) n false) here ∙ (get_or-set_same marks k mark false (omega (arith, kept.marks_there)) ∙ sym (marked i true named))
    mark_at i within false e =
        let apart : is_name x (name_at names i) ≡ false = another_name names x k i sorted inside within it (other i k e) in
        get_or-set_other marks k i mark false (other i k e) ∙ (kept.mark_is i within ∙ sym (marked i false apart))

-- Nothing yet.

pub kept_new : (c : Script) (names : List (List ℕ)) (journals : List Journaled) → 0 < c.config.keep → AreEach no_journal (IsJournalIn [] c.orders names) journals (length names)
    → AreKept c names [] journals (replicate (length names) (record { snapshots = []; keep = c.config.keep })) (replicate (length names) false)
kept_new c names journals some js = record {
  journals_there = js.count;
  snapshots_there = length-replicate (length names) _;
  marks_there = length-replicate (length names) false;
  journal_is = js.each;
  latest_is = λ i within. subst (IsLatest c.config.kind [] 0) (sym (get_or-replicate (length names) i (record { snapshots = []; keep = c.config.keep }) no_snapshots within)) (some, refl);
  mark_is = λ i within. get_or-replicate (length names) i false false within;
}
