-- A shard's store of more names, and one with more room.
use Rattle.std.proofs.Common.{◌≡◌, ◌≢◌, ℕ, zero, suc, ◌+◌, ◌-◌, ◌<◌, ◌≤◌, List, length, sym, ap, subst, ◌∙◌, refl, true, false, arith, length-append}
use Rattle.std.specs.Prelude.{Bool, [], ◌∷◌, ◌++◌, ◌==◌, ◌&&◌, ◌||◌, nat_lt, cond, fold, filter, take, drop, slice_index_or, if◌then◌else◌}
use Rattle.std.specs.List.{list_any, list_all, insert}
use Rattle.std.specs.List.Sorted.{IsStrictlySortedBy}
use Rattle.std.specs.Ordering.{nat_cmp, ordering_reverse}
use Rattle.std.specs.declared.cmp.Ordering.TheVariants.{Less, Greater}
use Rattle.std.specs.Cmp.Lexicographic.{slice_cmp, nat_list_cmp_total}
use Rattle.std.proofs.lemmas.Bool.Decides.{nat_tests}
use Rattle.std.proofs.lemmas.List.{drop_all, drop_more, take_all, take_more, append-nil, append_assoc, length-take-le, length-drop, get_or_default}
use Rattle.std.proofs.lemmas.List.Edits.{get_or-insert_at, get_or-insert_below, get_or-insert_above, length-insert, insert-append_right}
use Rattle.std.proofs.lemmas.List.Sums.{fold_push}
use Rattle.plain_laws.proofs.Booleans.{true_is_not_false, and_both, both, below, not_below, is_below, same_name}
use Rattle.yard_model.specs.declared.fact.Fact.{Fact}
use Rattle.yard_model.specs.declared.fact.Fact.TheVariants as fact
use Rattle.yard_model.specs.declared.incarnation.Slot.TheVariants as slot
use Rattle.yard_model.specs.Era.{is_of_name}
use Rattle.yard_model.specs.Genuine.{is_brought, is_producer}
use Rattle.yard_model.specs.Grown.{GoesOn}
use Rattle.yard_model.specs.Lawful.{own, is_of_shard, is_shard_entry, is_folded_after, is_merged_after}
use Rattle.yard_model.specs.Opening.{begins}
use Rattle.yard_model.specs.Script.{Script, is_name, setting, names_in}
use Rattle.yard_model.specs.Setting.{shard_of, names_of}
use Rattle.yard_model.specs.Shard.{shard}
use Rattle.yard_model.specs.SlotReads.{journal, journal_step, last_snapshot, snapshot_step, is_remembered, remembered_step}
use Rattle.yard_laws.proofs.Owned.{shard_to}
use Rattle.era_laws.proofs.ShapeLaws.{Reads, journal_reads}
use Rattle.era_laws.proofs.ReshapeLaws.{snapshot_reads, remembered_reads}
use Rattle.grow_laws.proofs.GrownLaws.{own_goes_on, slots_stay}
use Rattle.entity_journal.specs.Journal.{Journaled}
use Rattle.entity_snapshot.specs.Kept.{Kept}
use Rattle.shard_store.specs.Grown.{Kinds, AreKeptOf, AreOf, with_none, stands, kinds_next, had_next, IsUnheard, AreUnheard, Grows, AreAmong, HasRoom, AreRoomy, AreGrown}
use Rattle.shard_store.specs.Planned.{sent_to}
use Rattle.shard_store.specs.Shelf.{Shelf, slot_of}
use Rattle.shard_store.specs.Shelved.{no_journal, no_snapshots, name_at, IsJournal, IsLatest, ArePlaced, AreKept, IsShelf}
use Rattle.shard_store.proofs.DifferentLaws.{apart, name_itself, earlier}
use Rattle.shard_store.proofs.NamesLaws.{Place, place_of}
use Rattle.shard_store.proofs.ReshapeLaws.{all_at, all_brought}
use Rattle.shard_store.proofs.ShelfLaws.{among_names, keep_above}

-- Of a name that isn't of the shard its list tells nothing.

module _ (c : Script) (s : ℕ) (e : List ℕ) (other : is_of_shard c s e ≡ false) where
  differs : (x : List ℕ) → is_of_shard c s x ≡ true → is_name x e ≡ false
  differs x of = at (is_name x e) refl
    where
      at : (b : Bool) → is_name x e ≡ b → is_name x e ≡ false
      at true t = absurd (true_is_not_false (sym of ∙ (ap (is_of_shard c s) (same_name x e t) ∙ other)))
      at false t = t

  of_another : (list : List Fact) (f : Fact) → (begins f || is_shard_entry c s list f) ≡ true → is_of_name e f ≡ false
  of_another list (fact.Wrote x r) may =
      let a : _ × _ = and_both (is_of_shard c s x && is_producer c r.producer && is_folded_after c (journal x list) r) (is_merged_after c x (journal x list) r) may in
      let b : _ × _ = and_both (is_of_shard c s x && is_producer c r.producer) (is_folded_after c (journal x list) r) a.0 in
      differs x (and_both (is_of_shard c s x) (is_producer c r.producer) b.0).0
  of_another list (fact.Snapshot x m) may =
      let a : _ × _ = and_both (is_of_shard c s x && (m == length (journal x list))) (nat_lt (last_snapshot x list) m) may in
      differs x (and_both (is_of_shard c s x) (m == length (journal x list)) a.0).0
  of_another list (fact.Remembered x) may = differs x (and_both (is_of_shard c s x) _ may).0
  of_another list (fact.Forgotten x) may = differs x (and_both (is_of_shard c s x) _ may).0
  of_another list f may = refl

  nothing_read : {B : Type 0} (g : B → Fact → B) → Reads e g → (z : B) (list : List Fact) → own c (slot.Shard s) list ≡ true → fold g z list ≡ z
  nothing_read g reads z list o = shard_to c s (λ l. fold g z l ≡ z) refl (λ l f h may. fold_push g z l f ∙ (ap (λ y. g y f) h ∙ reads z f (of_another l f may))) list o

  unheard : (d : Script) (list : List Fact) → own c (slot.Shard s) list ≡ true → sent_to e d.orders ≡ 0 → IsUnheard d list e
  unheard d list o none = record {
    journal_is = nothing_read (journal_step e) (journal_reads e) [] list o;
    snapshot_is = nothing_read (snapshot_step e) (snapshot_reads e) 0 list o;
    mark_is = nothing_read (remembered_step e) (remembered_reads e) false list o;
    sends = none;
  }

-- One name more.

module _ {A : Type 0} (xs : List A) (at : ℕ) (y d : A) (fits : at ≤ length xs) where
  -- what is so of each of these, by its name, is so where one more stands among them
  each_with : (names : List (List ℕ)) (e : List ℕ) (Q : List ℕ → A → Type 0) → length xs ≡ length names → ((i : ℕ) → i < length names → Q (name_at names i) (slice_index_or xs i d)) → Q e y
      → (i : ℕ) → i < length (insert names at e) → Q (name_at (insert names at e) i) (slice_index_or (insert xs at y) i d)
  each_with names e Q long old new i h = by (nat_lt i at) refl (i == at) refl
    where
      few : at ≤ length names
      few = omega (arith, fits, long)

      count : length (insert names at e) ≡ length names + 1
      count = length-insert names at e few

      after : (j : ℕ) → i ≡ j + 1 → at ≤ j → Q (name_at (insert names at e) i) (slice_index_or (insert xs at y) i d)
      after j is past =
          let less : j < length names = omega (arith, h, count, is) in
          subst (λ k. Q (name_at (insert names at e) k) (slice_index_or (insert xs at y) k d)) (sym is)
          (subst (λ n. Q n (slice_index_or (insert xs at y) (j + 1) d)) (sym (get_or-insert_above names at e [] j past few))
          (subst (Q (name_at names j)) (sym (get_or-insert_above xs at y d j past fits)) (old j less)))

      by : (a : Bool) → nat_lt i at ≡ a → (b : Bool) → (i == at) ≡ b → Q (name_at (insert names at e) i) (slice_index_or (insert xs at y) i d)
      by true lt b eq =
          let less : i < at = below i at lt in
          subst (λ n. Q n (slice_index_or (insert xs at y) i d)) (sym (get_or-insert_below names at e [] i less few))
          (subst (Q (name_at names i)) (sym (get_or-insert_below xs at y d i less fits)) (old i (omega (arith, less, few))))
      by false lt true eq =
          let here : i ≡ at = grind (arith, nat_tests) in
          subst (λ k. Q (name_at (insert names at e) k) (slice_index_or (insert xs at y) k d)) (sym here)
          (subst (λ n. Q n (slice_index_or (insert xs at y) at d)) (sym (get_or-insert_at names at e [] few))
          (subst (Q e) (sym (get_or-insert_at xs at y d fits)) new))
      by false lt false eq =
          let past : at < i = grind (arith, nat_tests) in
          after (i - 1) (omega (arith, past)) (omega (arith, past))

no_journal_of : (e : List ℕ) (list : List Fact) (most : ℕ) → journal e list ≡ [] → most ≡ 0 → IsJournal e list most no_journal
no_journal_of e list most none few = record {
  records_are = sym none;
  places_are = record { as_many = refl; within = λ k h. absurd (omega arith); it = λ k r f h. absurd (omega arith) };
  room_is = omega (arith, few);
}

pub kept_more : (c : Script) (names : List (List ℕ)) (list : List Fact) (keep at : ℕ) (e : List ℕ) (k : Kinds) → at ≤ length names → 0 < keep → IsUnheard c list e → AreKeptOf c names list k → AreKeptOf c (insert names at e) list (with_none keep at k)
kept_more c names list keep at e k fits some u old =
    let count : length (insert names at e) ≡ length names + 1 = length-insert names at e fits in
    let js : at ≤ length k.journals = omega (arith, fits, old.journals_there) in
    let ss : at ≤ length k.snapshots = omega (arith, fits, old.snapshots_there) in
    let ms : at ≤ length k.marks = omega (arith, fits, old.marks_there) in
    let none : Kept = record { snapshots = []; keep = keep } in
    record {
      journals_there = length-insert k.journals at no_journal js ∙ (ap (λ n. n + 1) old.journals_there ∙ sym count);
      snapshots_there = length-insert k.snapshots at none ss ∙ (ap (λ n. n + 1) old.snapshots_there ∙ sym count);
      marks_there = length-insert k.marks at false ms ∙ (ap (λ n. n + 1) old.marks_there ∙ sym count);
      journal_is = each_with k.journals at no_journal no_journal js names e (λ n j. IsJournal n list (sent_to n c.orders) j) old.journals_there old.journal_is (no_journal_of e list (sent_to e c.orders) u.journal_is u.sends);
      latest_is = each_with k.snapshots at none no_snapshots ss names e (λ n s. IsLatest c.config.kind (journal n list) (last_snapshot n list) s) old.snapshots_there old.latest_is (some, u.snapshot_is);
      mark_is = each_with k.marks at false false ms names e (λ n m. m ≡ is_remembered n list) old.marks_there old.mark_is (sym u.mark_is);
    }

-- The old names and those of the next script, in order.

same_place : (xs : List (List ℕ)) (i j : ℕ) → IsStrictlySortedBy (slice_cmp nat_cmp) xs → i < length xs → j < length xs → name_at xs i ≡ name_at xs j → i ≡ j
same_place xs i j sorted a b same = by (i == j) refl
  where
    by : (t : Bool) → (i == j) ≡ t → i ≡ j
    by true t = grind (arith, nat_tests)
    by false t = let other : i ≢ j = grind (arith, nat_tests) in absurd (apart xs i j sorted a b other same)

not_both : (e f : List ℕ) → slice_cmp nat_cmp e f ≡ Less → slice_cmp nat_cmp f e ≡ Less → ⊥
not_both e f low high = less_is_not_greater (sym high ∙ (nat_list_cmp_total.antisymm f e ∙ ap ordering_reverse low))
  where
    less_is_not_greater : Less ≡ Greater → ⊥
    less_is_not_greater t = cc

-- the first of both are through: of the old ones so many, which stand before the place, and the others don't
pub record AreSplit (old names : List (List ℕ)) (had at : ℕ) : Type 0 where
  pub few : had ≤ length old
  pub behind : (j i : ℕ) → j < had → i < length names → name_at names i ≡ name_at old j → i < at
  pub ahead : (j i : ℕ) → had ≤ j → j < length old → i < length names → name_at names i ≡ name_at old j → at ≤ i

-- the names whose things are kept meanwhile
abbrev pub so_far : List (List ℕ) → List (List ℕ) → ℕ → ℕ → List (List ℕ)
so_far old names had at = take at names ++ drop had old

module _ (old names : List (List ℕ)) (old_sorted : IsStrictlySortedBy (slice_cmp nat_cmp) old) (sorted : IsStrictlySortedBy (slice_cmp nat_cmp) names) (among : AreAmong old names) where
  split_none : AreSplit old names 0 0
  split_none = record { few = omega arith; behind = λ j i h. absurd (omega arith); ahead = λ j i h l k e. omega arith }

  -- where an old one stands among these
  there : (j : ℕ) → j < length old → (i : ℕ) × (i < length names) × (name_at names i ≡ name_at old j)
  there j h = let p : Place names (name_at old j) = place_of names (name_at old j) (among.each j h) in (p.place, p.within, get_or_default names p.place [] (name_at old j) p.within ∙ p.it)

  module _ (had at : ℕ) (k : AreSplit old names had at) (within : at < length names) where
    abbrev e : List ℕ
    e = name_at names at

    it_stands : had < length old → name_at old had ≡ e → stands old had e ≡ true
    it_stands h same = both (nat_lt had (length old)) (is_name (name_at old had) e) (is_below had (length old) h) (ap (is_name (name_at old had)) (sym same) ∙ name_itself (name_at old had))

    -- where the next old one is another, this one is none of them
    other : stands old had e ≡ false → (j : ℕ) → had ≤ j → j < length old → name_at old j ≡ e → ⊥
    other apart_is j low high same = by (had == j) refl
      where
        less : had < length old
        less = omega (arith, low, high)

        next_is_other : name_at old had ≡ e → ⊥
        next_is_other t = true_is_not_false (sym (it_stands less t) ∙ apart_is)

        p : (i : ℕ) × (i < length names) × (name_at names i ≡ name_at old had)
        p = there had less

        at_place : (t : Bool) → (p.0 == at) ≡ t → had < j → ⊥
        at_place true t later = let here : p.0 ≡ at = grind (arith, nat_tests) in next_is_other (sym p.2 ∙ ap (name_at names) here)
        at_place false t later =
            let past : at ≤ p.0 = k.ahead had p.0 (omega arith) less p.1 p.2 in
            let beyond : at < p.0 = grind (arith, nat_tests, past) in
            let low_is : slice_cmp nat_cmp e (name_at old had) ≡ Less = subst (λ n. slice_cmp nat_cmp e n ≡ Less) p.2 (earlier names at p.0 sorted beyond p.1) in
            let high_is : slice_cmp nat_cmp (name_at old had) e ≡ Less = subst (λ n. slice_cmp nat_cmp (name_at old had) n ≡ Less) same (earlier old had j old_sorted later high) in
            not_both e (name_at old had) low_is high_is

        by : (t : Bool) → (had == j) ≡ t → ⊥
        by true t = let here : had ≡ j = grind (arith, nat_tests) in next_is_other (ap (name_at old) here ∙ same)
        by false t = let later : had < j = grind (arith, nat_tests, low) in at_place (p.0 == at) refl later

    absent : stands old had e ≡ false → list_any (is_name e) old ≡ false
    absent apart_is = by (list_any (is_name e) old) refl
      where
        at_place : (j : ℕ) → j < length old → name_at old j ≡ e → (t : Bool) → nat_lt j had ≡ t → ⊥
        at_place j h same true t = let low : at < at = k.behind j at (below j had t) within (sym same) in absurd (omega (arith, low))
        at_place j h same false t = other apart_is j (not_below j had t) h same

        by : (b : Bool) → list_any (is_name e) old ≡ b → list_any (is_name e) old ≡ false
        by true t = let p : Place old e = place_of old e t in absurd (at_place p.place p.within (get_or_default old p.place [] e p.within ∙ p.it) (nat_lt p.place had) refl)
        by false t = t

    split_next : (b : Bool) → stands old had e ≡ b → AreSplit old names (had_next b had) (at + 1)
    split_next true yes_is = record {
      few = omega (arith, less);
      behind = λ j i h l same. behind_at j i h l same (nat_lt j had) refl;
      ahead = λ j i h l m same. let past : at ≤ i = k.ahead j i (omega (arith, h)) l m same in ahead_at j i h l m same past (i == at) refl;
    }
      where
        s : (nat_lt had (length old) ≡ true) × (is_name (name_at old had) e ≡ true)
        s = and_both (nat_lt had (length old)) (is_name (name_at old had) e) yes_is

        less : had < length old
        less = below had (length old) s.0

        it : name_at old had ≡ e
        it = same_name (name_at old had) e s.1

        behind_at : (j i : ℕ) → j < had + 1 → i < length names → name_at names i ≡ name_at old j → (t : Bool) → nat_lt j had ≡ t → i < at + 1
        behind_at j i h l same true t = let low : i < at = k.behind j i (below j had t) l same in omega (arith, low)
        behind_at j i h l same false t =
            let here : j ≡ had = omega (arith, h, not_below j had t) in
            let there : i ≡ at = same_place names i at sorted l within (same ∙ (ap (name_at old) here ∙ it)) in
            omega (arith, there)

        ahead_at : (j i : ℕ) → had + 1 ≤ j → j < length old → i < length names → name_at names i ≡ name_at old j → at ≤ i → (t : Bool) → (i == at) ≡ t → at + 1 ≤ i
        ahead_at j i h l m same past true t =
            let here : i ≡ at = grind (arith, nat_tests) in
            let twice : j ≡ had = same_place old j had old_sorted l less (sym same ∙ (ap (name_at names) here ∙ sym it)) in
            absurd (omega (arith, h, twice))
        ahead_at j i h l m same past false t = grind (arith, nat_tests, past)
    split_next false apart_is = record {
      few = k.few;
      behind = λ j i h l same. let low : i < at = k.behind j i h l same in omega (arith, low);
      ahead = λ j i h l m same. let past : at ≤ i = k.ahead j i h l m same in ahead_at j i h l m same past (i == at) refl;
    }
      where
        ahead_at : (j i : ℕ) → had ≤ j → j < length old → i < length names → name_at names i ≡ name_at old j → at ≤ i → (t : Bool) → (i == at) ≡ t → at + 1 ≤ i
        ahead_at j i h l m same past true t = let here : i ≡ at = grind (arith, nat_tests) in absurd (other apart_is j h l (sym same ∙ ap (name_at names) here))
        ahead_at j i h l m same past false t = grind (arith, nat_tests, past)

    -- the names meanwhile
    abbrev one_more : Bool → List (List ℕ)
    one_more b = if b then so_far old names had at else insert (so_far old names had at) at e

    names_next : (b : Bool) → stands old had e ≡ b → so_far old names (had_next b had) (at + 1) ≡ one_more b
    names_next true yes_is =
        let s : _ × _ = and_both (nat_lt had (length old)) (is_name (name_at old had) e) yes_is in
        let it : name_at old had ≡ e = same_name (name_at old had) e s.1 in
        ap (λ l. l ++ drop (had + 1) old) (take_more names at [] within)
        ∙ (append_assoc (take at names) (e ∷ []) (drop (had + 1) old)
        ∙ ap (λ l. take at names ++ l) (ap (λ n. n ∷ drop (had + 1) old) (sym it) ∙ sym (drop_more old had [] (below had (length old) s.0))))
    names_next false apart_is =
        let none : at - at ≡ 0 = omega arith in
        ap (λ l. l ++ drop had old) (take_more names at [] within)
        ∙ (append_assoc (take at names) (e ∷ []) (drop had old)
        ∙ sym (insert-append_right (take at names) (drop had old) at at e (length-take-le at names (omega (arith, within))) (omega arith) ∙ ap (λ n. take at names ++ insert (drop had old) n e) none))

    long_far : at ≤ length (so_far old names had at)
    long_far =
        let long : length (so_far old names had at) ≡ length (take at names) + length (drop had old) = length-append (take at names) (drop had old) in
        let front : length (take at names) ≡ at = length-take-le at names (omega (arith, within)) in
        omega (arith, long, front)

  -- all are through
  names_end : (had at : ℕ) → AreSplit old names had at → length names ≤ at → so_far old names had at ≡ names
  names_end had at k past =
      ap (λ l. l ++ drop had old) (take_all at names past) ∙ (ap (λ l. names ++ l) (drop_all had old (by (nat_lt had (length old)) refl)) ∙ append-nil names)
    where
      by : (t : Bool) → nat_lt had (length old) ≡ t → length old ≤ had
      by true t =
          let less : had < length old = below had (length old) t in
          let p : (i : ℕ) × (i < length names) × (name_at names i ≡ name_at old had) = there had less in
          let far : at ≤ p.0 = k.ahead had p.0 (omega arith) less p.1 p.2 in
          absurd (omega (arith, past, far, p.1))
      by false t = not_below had (length old) t

-- What is kept of the names meanwhile.

pub record IsGrowing (old names : List (List ℕ)) (first now : Kinds) (had at : ℕ) : Type 0 where
  pub split : AreSplit old names had at
  pub long : AreOf (so_far old names had at) now
  pub grows : Grows old (so_far old names had at) first now

of_more : (names : List (List ℕ)) (keep at : ℕ) (e : List ℕ) (k : Kinds) → at ≤ length names → AreOf names k → AreOf (insert names at e) (with_none keep at k)
of_more names keep at e k fits old =
    let count : length (insert names at e) ≡ length names + 1 = length-insert names at e fits in
    record {
      journals = length-insert k.journals at no_journal (omega (arith, fits, old.journals)) ∙ (ap (λ n. n + 1) old.journals ∙ sym count);
      snapshots = length-insert k.snapshots at (record { snapshots = []; keep = keep }) (omega (arith, fits, old.snapshots)) ∙ (ap (λ n. n + 1) old.snapshots ∙ sym count);
      marks = length-insert k.marks at false (omega (arith, fits, old.marks)) ∙ (ap (λ n. n + 1) old.marks ∙ sym count);
    }

module _ (old names : List (List ℕ)) (old_sorted : IsStrictlySortedBy (slice_cmp nat_cmp) old) (sorted : IsStrictlySortedBy (slice_cmp nat_cmp) names) (among : AreAmong old names) where
  pub growing_none : (first : Kinds) → AreOf old first → IsGrowing old names first first 0 0
  growing_none first long = record { split = split_none old names old_sorted sorted among; long = long; grows = record { kept = λ c list k u. k } }

  pub growing_next : (first now next : Kinds) (keep had at : ℕ) (e : List ℕ) → 0 < keep → at < length names → name_at names at ≡ e → next ≡ kinds_next (stands old had e) keep at now
      → IsGrowing old names first now had at → IsGrowing old names first next (had_next (stands old had e) had) (at + 1)
  growing_next first now next keep had at e some within is next_is k =
      subst (λ n. next ≡ kinds_next (stands old had n) keep at now → IsGrowing old names first next (had_next (stands old had n) had) (at + 1)) is
      (λ made. subst (λ l. IsGrowing old names first l (had_next (stands old had (name_at names at)) had) (at + 1)) (sym made) (by (stands old had (name_at names at)) refl)) next_is
    where
      by : (b : Bool) → stands old had (name_at names at) ≡ b → IsGrowing old names first (kinds_next b keep at now) (had_next b had) (at + 1)
      by true t =
          let same : so_far old names (had + 1) (at + 1) ≡ so_far old names had at = names_next old names old_sorted sorted among had at k.split within true t in
          record {
            split = split_next old names old_sorted sorted among had at k.split within true t;
            long = subst (λ l. AreOf l now) (sym same) k.long;
            grows = subst (λ l. Grows old l first now) (sym same) k.grows;
          }
      by false t =
          let n : List ℕ = name_at names at in
          let far : List (List ℕ) = so_far old names had at in
          let same : so_far old names had (at + 1) ≡ insert far at n = names_next old names old_sorted sorted among had at k.split within false t in
          let fits : at ≤ length far = long_far old names old_sorted sorted among had at k.split within in
          record {
            split = split_next old names old_sorted sorted among had at k.split within false t;
            long = subst (λ l. AreOf l (with_none keep at now)) (sym same) (of_more far keep at n now fits k.long);
            grows = subst (λ l. Grows old l first (with_none keep at now)) (sym same)
                (record { kept = λ c list kept u. kept_more c far list keep at n now fits some (u n (absent old names old_sorted sorted among had at k.split within t)) (k.grows.kept c list kept u) });
          }

  -- there are places enough
  pub growing_fits : (first now : Kinds) (had at : ℕ) → at < length names → IsGrowing old names first now had at → (at ≤ length now.journals) × (at ≤ length now.snapshots) × (at ≤ length now.marks)
  growing_fits first now had at within k =
      let fits : at ≤ length (so_far old names had at) = long_far old names old_sorted sorted among had at k.split within in
      (omega (arith, fits, k.long.journals), omega (arith, fits, k.long.snapshots), omega (arith, fits, k.long.marks))

  pub growing_end : (first now : Kinds) (had at : ℕ) → length names ≤ at → IsGrowing old names first now had at → AreOf names now × Grows old names first now
  growing_end first now had at past k =
      let all : so_far old names had at ≡ names = names_end old names old_sorted sorted among had at k.split past in
      (subst (λ l. AreOf l now) all k.long, subst (λ l. Grows old l first now) all k.grows)

-- The store.

-- what is picked is so
picked_is : (p : List ℕ → Bool) (xs : List (List ℕ)) → list_all p (filter p xs) ≡ true
picked_is p [] = refl
picked_is p (x ∷ xs) = by (p x) refl (picked_is p xs)
  where
    by : (b : Bool) → p x ≡ b → list_all p (filter p xs) ≡ true → list_all p (cond b (x ∷ filter p xs) (filter p xs)) ≡ true
    by true t rest = ap (λ b. b && list_all p (filter p xs)) t ∙ rest
    by false t rest = rest

-- the names of a shard are among those of the next script
pub names_go_on : (c d : Script) (s : ℕ) (old names : List (List ℕ)) → GoesOn c d → old ≡ names_of (setting c) s → names ≡ names_of (setting d) s → AreAmong old names
names_go_on c d s old names g are_old are = record {
  each = λ k h.
      let e : List ℕ = name_at old k in
      let brought : is_brought c e ≡ true = all_at (is_brought c) old k e (all_brought c c c.config.shards s old refl are_old) h (get_or_default old k [] e h) in
      let home : (shard_of (setting c) e == s) ≡ true = all_at (λ n. shard_of (setting c) n == s) old k e (ap (list_all (λ n. shard_of (setting c) n == s)) are_old ∙ picked_is (λ n. shard_of (setting c) n == s) (names_in c.orders)) h (get_or_default old k [] e h) in
      let there : is_of_shard d s e ≡ true = both (is_brought d e) (shard_of (setting d) e == s) (g.names e brought) (ap (λ n. shard n e == s) g.shards ∙ home) in
      among_names (record { script = d; shard = s; entries = []; spare = 0 }) names e are there;
}

pub shelf_grown : (s : Shelf) (d : Script) {ls : ℕ} {names new_names : List (List ℕ)} (old new : Kinds)
    → IsShelf s ls names old.journals old.snapshots old.marks → GoesOn s.script d → new_names ≡ names_of (setting d) s.shard → length new_names ≤ 1000 → IsStrictlySortedBy (slice_cmp nat_cmp) new_names
    → AreGrown d names new_names old new
    → IsShelf (record { script = d; shard = s.shard; entries = s.entries; spare = s.spare }) ls new_names new.journals new.snapshots new.marks
shelf_grown s d {ls} {names} {new_names} old new k g are few sorted grown = record {
  own_is = own_goes_on s.script d (slot_of s) s.entries g k.own_is;
  shard_is = slots_stay s.script d (slot_of s) g ∙ k.shard_is;
  list_is = k.list_is;
  names_are = are;
  few_names = few;
  sorted = sorted;
  kept_is = record {
    journals_there = grown.roomy.long ∙ between.journals_there;
    snapshots_there = between.snapshots_there;
    marks_there = between.marks_there;
    journal_is = λ i h. roomy_at i (between.journal_is i h) (grown.roomy.done i h);
    latest_is = λ i h. subst (λ t. IsLatest t (journal (name_at new_names i) s.entries) (last_snapshot (name_at new_names i) s.entries) (slice_index_or new.snapshots i no_snapshots)) (sym g.kind) (between.latest_is i h);
    mark_is = between.mark_is;
  };
}
  where
    no_orders : Script
    no_orders = record { config = s.script.config; orders = [] }

    bare_kept : AreKeptOf no_orders names s.entries old
    bare_kept = record {
      journals_there = k.kept_is.journals_there;
      snapshots_there = k.kept_is.snapshots_there;
      marks_there = k.kept_is.marks_there;
      journal_is = λ i h. let j : IsJournal _ _ _ _ = k.kept_is.journal_is i h in record { records_are = j.records_are; places_are = j.places_are; room_is = omega arith };
      latest_is = k.kept_is.latest_is;
      mark_is = k.kept_is.mark_is;
    }

    not_of : (e : List ℕ) → list_any (is_name e) names ≡ false → (b : Bool) → is_of_shard s.script s.shard e ≡ b → is_of_shard s.script s.shard e ≡ false
    not_of e none true t = absurd (true_is_not_false (sym (among_names s names e k.names_are t) ∙ none))
    not_of e none false t = t

    nothing : AreUnheard no_orders s.entries names
    nothing e none = unheard s.script s.shard e (not_of e none (is_of_shard s.script s.shard e) refl) no_orders s.entries k.own_is refl

    between : AreKept no_orders new_names s.entries grown.between new.snapshots new.marks
    between = grown.grows.kept no_orders s.entries bare_kept nothing

    roomy_at : (i : ℕ) → IsJournal (name_at new_names i) s.entries 0 (slice_index_or grown.between i no_journal)
        → HasRoom (sent_to (name_at new_names i) d.orders) (slice_index_or grown.between i no_journal) (slice_index_or new.journals i no_journal) → IsJournal (name_at new_names i) s.entries (sent_to (name_at new_names i) d.orders) (slice_index_or new.journals i no_journal)
    roomy_at i j r = record {
      records_are = r.items ∙ j.records_are;
      places_are = record {
        as_many = ap length r.places ∙ (j.places_are.as_many ∙ sym (ap length r.items));
        within = λ n h. subst (λ (l : List ℕ). slice_index_or l n 0 < length s.entries) (sym r.places) (j.places_are.within n (subst (λ l. n < length l) r.items h));
        it = λ n x f h. ap (λ (l : List ℕ). slice_index_or s.entries (slice_index_or l n 0) f) r.places ∙ (j.places_are.it n x f (subst (λ l. n < length l) r.items h) ∙ ap (λ l. fact.Wrote (name_at new_names i) (slice_index_or l n x)) (sym r.items));
      };
      room_is = let room : _ ≤ _ = r.room in let same : length (slice_index_or new.journals i no_journal).items ≡ length (journal (name_at new_names i) s.entries) = ap length (r.items ∙ j.records_are) in omega (arith, room, same);
    }
