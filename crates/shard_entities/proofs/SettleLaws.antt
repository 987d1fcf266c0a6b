-- A shard that starts or is let go leaves the others' entities as they stand.
use Rattle.std.proofs.Common.{◌≡◌, ℕ, ◌+◌, ◌<◌, ◌≤◌, List, [], ◌∷◌, length, sym, ap, subst, ◌∙◌, refl, true, false, arith, drop, true≢false, get_or-set_same, get_or-set_other}
use Rattle.std.specs.Prelude.{Bool, zero, suc, ◌==◌, not, cond, filter, fold, Option, None, Some, slice_set, slice_index_or, nat_lt}
use Rattle.std.specs.List.Sorted.{IsStrictlySortedBy}
use Rattle.std.specs.Ordering.{nat_cmp}
use Rattle.std.specs.Cmp.Lexicographic.{slice_cmp}
use Rattle.std.proofs.lemmas.Bool.Decides.{nat_tests}
use Rattle.std.proofs.lemmas.List.{drop_more}
use Rattle.yard_model.specs.declared.fact.Fact.TheVariants as fact
use Rattle.yard_model.specs.declared.incarnation.Cause.{Cause}
use Rattle.yard_model.specs.declared.incarnation.Incarnation.{Incarnation}
use Rattle.yard_model.specs.declared.incarnation.Slot.TheVariants as slot
use Rattle.yard_model.specs.declared.input.Phase.{Phase}
use Rattle.yard_model.specs.declared.input.Phase.TheVariants as phase
use Rattle.yard_model.specs.Entities.{Cell, Hosted, cell, new_cell, new_entities, hosted, entities_of, is_phase, is_in_phase}
use Rattle.yard_model.specs.Move.{told}
use Rattle.yard_model.specs.Script.{Script, Setting, setting}
use Rattle.yard_model.specs.Setting.{shard_of, names_of, place}
use Rattle.yard_model.specs.Words.{at}
use Rattle.plain_laws.proofs.Booleans.{get_replicate, same_number, other_number}
use Rattle.shard_store.specs.Shelf.{Shelf}
use Rattle.shard_store.specs.Shelved.{name_at, IsNamed}
use Rattle.shard_entities.specs.Delivered.{Stands}
use Rattle.shard_entities.specs.Lodged.{Lodged, moved, hosting, cleared, without, cells_cleared}
use Rattle.shard_entities.specs.Settled.{IsSettled, IsQuiet}
use Rattle.shard_entities.proofs.NameLaws.{picked_place}
use Rattle.name_index.proofs.NameLaws.{placed}

-- It starts.

pub hosting_settled : (v : Lodged) (s : ℕ) (x : Shelf) → IsSettled v → IsSettled (hosting v s x)
hosting_settled v s x settled i within = at_shard (shard_of v.state.set (name_at v.state.set.names i) == s) refl (settled i within)
  where
    new : Hosted
    new = record { entries = x.entries; stopping = None }

    at_shard : (b : Bool) → (shard_of v.state.set (name_at v.state.set.names i) == s) ≡ b → IsQuiet (hosted v.state (shard_of v.state.set (name_at v.state.set.names i))) (slice_index_or v.state.cells i (new_cell v.state.set))
        → IsQuiet (at (slice_set v.state.hosted s (Some (record { entries = x.entries; stopping = None }))) (shard_of v.state.set (name_at v.state.set.names i))) (slice_index_or v.state.cells i (new_cell v.state.set))
    at_shard true e old = rw (same_number (shard_of v.state.set (name_at v.state.set.names i)) s e) record { at_home = λ none. home none; gone = old.gone; clear = old.clear }
      where
        home : at (slice_set v.state.hosted s (Some (record { entries = x.entries; stopping = None }))) s ≡ None → (slice_index_or v.state.cells i (new_cell v.state.set)).phase ≡ phase.Absent
        home none = by_length (nat_lt s (length v.state.hosted)) refl
          where
            lt_of : (a b : ℕ) → nat_lt a b ≡ true → a < b
            lt_of a b e = grind (arith, nat_tests)

            le_of : (a b : ℕ) → nat_lt a b ≡ false → b ≤ a
            le_of a b e = grind (arith, nat_tests)

            some_not_none : {h : Hosted} → Some h ≡ None → ⊥
            some_not_none a = cc

            by_length : (b : Bool) → nat_lt s (length v.state.hosted) ≡ b → (slice_index_or v.state.cells i (new_cell v.state.set)).phase ≡ phase.Absent
            by_length true lt = absurd (some_not_none (sym (get_or-set_same v.state.hosted s (Some (record { entries = x.entries; stopping = None })) None (lt_of s (length v.state.hosted) lt)) ∙ none))
            by_length false lt = old.at_home (ap (at v.state.hosted) (same_number (shard_of v.state.set (name_at v.state.set.names i)) s e) ∙ outside v.state.hosted s (le_of s (length v.state.hosted) lt))
              where
                outside : (xs : List (Option Hosted)) (n : ℕ) → length xs ≤ n → at xs n ≡ None
                outside [] n h = refl
                outside (y ∷ ys) zero h = absurd (omega (arith, h))
                outside (y ∷ ys) (suc n) h = outside ys n (omega (arith, h))
    at_shard false e old = subst (λ o. IsQuiet o (slice_index_or v.state.cells i (new_cell v.state.set))) (sym (get_or-set_other v.state.hosted s (shard_of v.state.set (name_at v.state.set.names i)) (Some (record { entries = x.entries; stopping = None })) None (other_number (shard_of v.state.set (name_at v.state.set.names i)) s e))) old

-- It is let go.

not_true : (b : Bool) → not b ≡ false → b ≡ true
not_true true h = refl
not_true false h = absurd (true≢false h)

absent_is : (q : Phase) → is_phase phase.Absent q ≡ true → q ≡ phase.Absent
absent_is phase.Absent h = refl
absent_is phase.Loading h = cc
absent_is phase.Active h = cc
absent_is phase.Stopping h = cc

none_picked : (p q : List ℕ → Bool) (xs : List (List ℕ)) (i : ℕ) → filter p (filter q xs) ≡ [] → i < length xs → q (name_at xs i) ≡ true → p (name_at xs i) ≡ false
none_picked p q [] i none within it = absurd (omega (arith, within))
none_picked p q (x ∷ xs) zero none within it = by_test (p x) refl
  where
    kept : filter p (x ∷ filter q xs) ≡ []
    kept = ap (λ b. filter p (cond b (x ∷ filter q xs) (filter q xs))) (sym it) ∙ none

    not_empty : {l : List (List ℕ)} → x ∷ l ≡ [] → ⊥
    not_empty e = cc

    by_test : (b : Bool) → p x ≡ b → p x ≡ false
    by_test true e = absurd (not_empty (ap (λ b. cond b (x ∷ filter p (filter q xs)) (filter p (filter q xs))) (sym e) ∙ kept))
    by_test false e = e
none_picked p q (x ∷ xs) (suc i) none within it = none_picked p q xs i (by_test (q x) none) (omega (arith, within)) it
  where
    not_empty : {l : List (List ℕ)} → x ∷ l ≡ [] → ⊥
    not_empty e = cc

    left : (b : Bool) → cond b (x ∷ filter p (filter q xs)) (filter p (filter q xs)) ≡ [] → filter p (filter q xs) ≡ []
    left true e = absurd (not_empty e)
    left false e = e

    by_test : (b : Bool) → filter p (cond b (x ∷ filter q xs) (filter q xs)) ≡ [] → filter p (filter q xs) ≡ []
    by_test true e = left (p x) e
    by_test false e = e

-- where a name stands is its place
place_at : {v : Lodged} (i : ℕ) → Stands v → i < length v.state.set.names → place v.state.set (name_at v.state.set.names i) ≡ i
place_at {v} i s within = sym (placed v.state.set.names (name_at v.state.set.names i) i (subst (λ (x : Setting). IsStrictlySortedBy (slice_cmp nat_cmp) x.names) (sym s.set_is) s.sorted) within refl)

pub freed_settled : {v w : Lodged} (s n : ℕ) (why : Cause) → Stands v → IsSettled v → entities_of v.state s ≡ [] → w ≡ moved v (told (fact.Freed (slot.Shard s) n why) ∷ []) → IsSettled w
freed_settled {v} {w} s n why st settled left step = subst IsSettled (sym step) (λ i within. at_shard i within (shard_of v.state.set (name_at v.state.set.names i) == s) refl (settled i within))
  where
    at_shard : (i : ℕ) → i < length v.state.set.names → (b : Bool) → (shard_of v.state.set (name_at v.state.set.names i) == s) ≡ b → IsQuiet (hosted v.state (shard_of v.state.set (name_at v.state.set.names i))) (slice_index_or v.state.cells i (new_cell v.state.set))
        → IsQuiet (at (slice_set v.state.hosted s None) (shard_of v.state.set (name_at v.state.set.names i))) (slice_index_or v.state.cells i (new_cell v.state.set))
    at_shard i within true e old = record { at_home = λ none. gone; gone = old.gone; clear = old.clear }
      where
        absent : is_in_phase phase.Absent v.state (name_at v.state.set.names i) ≡ true
        absent = not_true (is_in_phase phase.Absent v.state (name_at v.state.set.names i)) (none_picked (λ e. not (is_in_phase phase.Absent v.state e)) (λ e. shard_of v.state.set e == s) v.state.set.names i left within e)

        gone : (slice_index_or v.state.cells i (new_cell v.state.set)).phase ≡ phase.Absent
        gone = subst (λ k. (slice_index_or v.state.cells k (new_cell v.state.set)).phase ≡ phase.Absent) (place_at i st within) (absent_is (cell v.state (name_at v.state.set.names i)).phase absent)
    at_shard i within false e old = subst (λ o. IsQuiet o (slice_index_or v.state.cells i (new_cell v.state.set))) (sym (get_or-set_other v.state.hosted s (shard_of v.state.set (name_at v.state.set.names i)) None None (other_number (shard_of v.state.set (name_at v.state.set.names i)) s e))) old

-- No entity of it is left.

new_quiet : (set : Setting) (o : Option Hosted) → IsQuiet o (new_cell set)
new_quiet set o = record { at_home = λ none. refl; gone = λ gone. refl; clear = λ active. refl }

-- of a node that comes up
pub new_settled : (c : Script) (version : ℕ) (who : Incarnation) (rooms : List ℕ) → IsSettled (record { script = c; state = new_entities (setting c) version who; rooms = rooms })
new_settled c version who rooms = λ i within. subst (IsQuiet (hosted (new_entities (setting c) version who) (shard_of (setting c) (name_at (setting c).names i)))) (sym (get_replicate (length (setting c).names) i (new_cell (setting c)))) (new_quiet (setting c) (hosted (new_entities (setting c) version who) (shard_of (setting c) (name_at (setting c).names i))))

cleared_keeps : (P : Cell → Type 0) (set : Setting) → P (new_cell set) → (es : List (List ℕ)) (cells : List Cell) (i : ℕ) → P (slice_index_or cells i (new_cell set)) → P (slice_index_or (fold (cells_cleared set) cells es) i (new_cell set))
cleared_keeps P set new [] cells i old = old
cleared_keeps P set new (e ∷ es) cells i old = cleared_keeps P set new es (slice_set cells (place set e) (new_cell set)) i (by_place (i == place set e) refl)
  where
    by_place : (b : Bool) → (i == place set e) ≡ b → P (slice_index_or (slice_set cells (place set e) (new_cell set)) i (new_cell set))
    by_place true it = subst P (sym (ap (λ k. slice_index_or (slice_set cells (place set e) (new_cell set)) k (new_cell set)) (same_number i (place set e) it) ∙ set_default cells (place set e))) new
      where
        set_default : (xs : List Cell) (n : ℕ) → slice_index_or (slice_set xs n (new_cell set)) n (new_cell set) ≡ new_cell set
        set_default [] n = refl
        set_default (x ∷ xs) zero = refl
        set_default (x ∷ xs) (suc n) = set_default xs n
    by_place false it = subst P (sym (get_or-set_other cells (place set e) i (new_cell set) (new_cell set) (other_number i (place set e) it))) old

cleared_at : (P : Cell → Type 0) (set : Setting) → P (new_cell set) → (es : List (List ℕ)) (cells : List Cell) (k i : ℕ) → k < length es → place set (name_at es k) ≡ i → P (slice_index_or (fold (cells_cleared set) cells es) i (new_cell set))
cleared_at P set new [] cells k i within it = absurd (omega (arith, within))
cleared_at P set new (e ∷ es) cells zero i within it =
    cleared_keeps P set new es (slice_set cells (place set e) (new_cell set)) i (subst (λ n. P (slice_index_or (slice_set cells (place set e) (new_cell set)) n (new_cell set))) it (subst P (sym (set_default cells (place set e))) new))
  where
    set_default : (xs : List Cell) (n : ℕ) → slice_index_or (slice_set xs n (new_cell set)) n (new_cell set) ≡ new_cell set
    set_default [] n = refl
    set_default (x ∷ xs) zero = refl
    set_default (x ∷ xs) (suc n) = set_default xs n
cleared_at P set new (e ∷ es) cells (suc k) i within it = cleared_at P set new es (slice_set cells (place set e) (new_cell set)) k i (omega (arith, within)) it

pub without_settled : {v w : Lodged} (s : ℕ) → Stands v → IsSettled v → w ≡ without v s → IsSettled w
without_settled {v} {w} s st settled step = subst IsSettled (sym step) (λ i within. at_shard i within (shard_of v.state.set (name_at v.state.set.names i) == s) refl)
  where
    cells : List Cell
    cells = fold (cells_cleared v.state.set) v.state.cells (names_of v.state.set s)

    at_shard : (i : ℕ) → i < length v.state.set.names → (b : Bool) → (shard_of v.state.set (name_at v.state.set.names i) == s) ≡ b
        → IsQuiet (at (slice_set v.state.hosted s None) (shard_of v.state.set (name_at v.state.set.names i))) (slice_index_or (fold (cells_cleared v.state.set) v.state.cells (names_of v.state.set s)) i (new_cell v.state.set))
    at_shard i within true e =
        let named : IsNamed (names_of v.state.set s) _ (name_at v.state.set.names i) = picked_place (λ e. shard_of v.state.set e == s) v.state.set.names i within e in
        cleared_at (IsQuiet (at (slice_set v.state.hosted s None) (shard_of v.state.set (name_at v.state.set.names i)))) v.state.set (new_quiet v.state.set _) (names_of v.state.set s) v.state.cells _ i named.within (ap (place v.state.set) named.it ∙ place_at i st within)
    at_shard i within false e =
        cleared_keeps (IsQuiet (at (slice_set v.state.hosted s None) (shard_of v.state.set (name_at v.state.set.names i)))) v.state.set (new_quiet v.state.set _) (names_of v.state.set s) v.state.cells i
        (subst (λ o. IsQuiet o (slice_index_or v.state.cells i (new_cell v.state.set))) (sym (get_or-set_other v.state.hosted s (shard_of v.state.set (name_at v.state.set.names i)) None None (other_number (shard_of v.state.set (name_at v.state.set.names i)) s e))) (settled i within))

-- one name more is cleared
pub cleared_next : (now next first : Lodged) (xs : List (List ℕ)) (k : ℕ) (e : List ℕ) → k < length xs → e ≡ name_at xs k → next ≡ cleared now (e ∷ []) → cleared now (drop k xs) ≡ cleared first xs → cleared next (drop (k + 1) xs) ≡ cleared first xs
cleared_next now next first xs k e within name step way =
    ap (λ v. cleared v (drop (k + 1) xs)) step ∙ (sym (ap (cleared now) (drop_more xs k [] within ∙ ap (λ y. y ∷ drop (k + 1) xs) (sym name))) ∙ way)

pub cleared_each : (now first : Lodged) {next : Lodged} (s : ℕ) {k n : ℕ} {e : List ℕ} → now.script ≡ first.script → k < n → n ≡ length (names_of (setting first.script) s) → e ≡ name_at (names_of (setting now.script) s) k → next ≡ cleared now (e ∷ [])
    → cleared now (drop k (names_of (setting first.script) s)) ≡ cleared first (names_of (setting first.script) s) → cleared next (drop (k + 1) (names_of (setting first.script) s)) ≡ cleared first (names_of (setting first.script) s)
cleared_each now first {next} s {k} {n} {e} same below count name step way =
    cleared_next now next first (names_of (setting first.script) s) k e (subst (λ m. k < m) count below) (name ∙ ap (λ (x : Script). name_at (names_of (setting x) s) k) same) step way

pub taken_without : {v w x : Lodged} (s : ℕ) (why : Cause) → Stands v → w ≡ moved v (told (fact.Freed (slot.Shard s) 0 why) ∷ []) → x ≡ cleared w (names_of (setting w.script) s) → x ≡ without v s
taken_without {v} {w} {x} s why st step rest =
    rest ∙ (ap (λ y. cleared y (names_of (setting y.script) s)) step ∙ ap (λ (y : Setting). cleared (moved v (told (fact.Freed (slot.Shard s) 0 why) ∷ [])) (names_of y s)) (sym st.set_is))

pub shard_left_of : (v : Lodged) (why : Cause) {w : Lodged} (s : ℕ) → w ≡ moved v (told (fact.Freed (slot.Shard s) 0 why) ∷ []) → s < v.script.config.shards → s < w.script.config.shards
shard_left_of v why {w} s step lt = subst (λ (x : Script). s < x.config.shards) (sym (ap (λ (y : Lodged). y.script) step)) lt
