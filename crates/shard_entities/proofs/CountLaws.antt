-- How many entities of each shard exist.
use Rattle.std.proofs.Common.{◌≡◌, ◌≢◌, ℕ, ◌+◌, ◌-◌, ◌<◌, ◌≤◌, List, [], ◌∷◌, length, map, sym, ap, subst, ◌∙◌, refl, true, false, arith, true≢false, get_or-set_same, get_or-set_other}
use Rattle.std.specs.Prelude.{Bool, zero, suc, ◌==◌, not, cond, filter, replicate, Option, IfSome, IfNone, Some, None, slice_set, slice_index_or, if◌then◌else◌}
use Rattle.std.specs.Option.{option_map}
use Rattle.std.specs.List.Sorted.{IsStrictlySortedBy}
use Rattle.std.specs.Ordering.{nat_cmp}
use Rattle.std.specs.Cmp.Lexicographic.{slice_cmp}
use Rattle.std.proofs.lemmas.Bool.Decides.{nat_tests}
use Rattle.std.proofs.lemmas.List.{map-set, length-set, length-map, length-replicate, get_or_default}
use Rattle.std.proofs.lemmas.List.Kept.{IsStrictlySortedBy-filter}
use Rattle.std.proofs.lemmas.List.Sums.{passes_at_first}
use Rattle.yard_model.specs.declared.charter.Config.{Config}
use Rattle.yard_model.specs.declared.fact.Fact.TheVariants as fact
use Rattle.yard_model.specs.declared.incarnation.Incarnation.{Incarnation}
use Rattle.yard_model.specs.declared.input.Phase.{Phase}
use Rattle.yard_model.specs.declared.input.Phase.TheVariants as phase
use Rattle.yard_model.specs.declared.packet.Body.TheVariants as body
use Rattle.yard_model.specs.declared.packet.Message.{Message}
use Rattle.yard_model.specs.Entities.{Cell, cell_in, new_cell, is_phase, is_in_phase, phase_step, entities_of, is_running_in}
use Rattle.yard_model.specs.Move.{told, post}
use Rattle.yard_model.specs.Script.{Script, IsScript, Setting, setting, is_name, is_version}
use Rattle.yard_model.specs.Setting.{shard_of, names_of, place}
use Rattle.yard_model.specs.ShardSet.{has}
use Rattle.yard_model.specs.Words.{is_empty}
use Rattle.plain_laws.proofs.Booleans.{same_name, get_replicate, same_number, other_number}
use Rattle.plain_laws.proofs.Names.{name_itself}
use Rattle.shard_store.specs.Shelved.{name_at}
use Rattle.entity_cells.specs.Celled.{Celled, celled, celled_after}
use Rattle.shard_entities.specs.Placed.{IsPlace}
use Rattle.shard_entities.specs.declared.place.Place.{Place}
use Rattle.shard_entities.specs.declared.hosting.Hosting.{Hosting}
use Rattle.shard_entities.specs.Lodged.{Lodged, lodged, IsLodged, IsKept, IsCell, IsHosting, AreCounted, cell_of, new_celled, host_of, hosted_of}
use Rattle.shard_entities.proofs.DropLaws.{new_stands}
use Rattle.shard_entities.proofs.LodgedLaws.{placed, cell_at}
use Rattle.name_index.proofs.NameLaws.{another_name}
use Rattle.shard_entities.proofs.PlacesLaws.{new_cells}
use Rattle.shard_entities.proofs.PlannedLaws.{picked_few}

abbrev bit : Bool → ℕ
bit true = 1
bit false = 0

-- What passes two tests of a list.

-- the tests agree at each place but one
one_apart : (f g : List ℕ → Bool) (xs : List (List ℕ)) (i : ℕ) → i < length xs → ((j : ℕ) → j < length xs → j ≢ i → g (name_at xs j) ≡ f (name_at xs j))
    → length (filter g xs) + bit (f (name_at xs i)) ≡ length (filter f xs) + bit (g (name_at xs i))
one_apart f g [] i within same = absurd (omega arith)
one_apart f g (x ∷ xs) zero within same = here (f x) (g x) (alike f g xs (λ j below. same (suc j) (omega (arith, below)) (not_zero j)))
  where
    not_zero : (j : ℕ) → suc j ≢ 0
    not_zero j e = omega (arith, e)

    alike : (f g : List ℕ → Bool) (xs : List (List ℕ)) → ((j : ℕ) → j < length xs → g (name_at xs j) ≡ f (name_at xs j)) → length (filter g xs) ≡ length (filter f xs)
    alike f g [] same = refl
    alike f g (x ∷ xs) same = ap (λ b. length (cond b (x ∷ filter g xs) (filter g xs))) (same zero (omega arith)) ∙ step (f x) (alike f g xs (λ j below. same (suc j) (omega (arith, below))))
      where
        step : (b : Bool) → length (filter g xs) ≡ length (filter f xs) → length (cond b (x ∷ filter g xs) (filter g xs)) ≡ length (cond b (x ∷ filter f xs) (filter f xs))
        step true h = omega (arith, h)
        step false h = h

    here : (a b : Bool) → length (filter g xs) ≡ length (filter f xs) → length (cond b (x ∷ filter g xs) (filter g xs)) + bit a ≡ length (cond a (x ∷ filter f xs) (filter f xs)) + bit b
    here true true h = omega (arith, h)
    here true false h = omega (arith, h)
    here false true h = omega (arith, h)
    here false false h = omega (arith, h)
one_apart f g (x ∷ xs) (suc i) within same =
    ap (λ b. length (cond b (x ∷ filter g xs) (filter g xs)) + bit (f (name_at xs i))) (same zero (omega arith) not_suc)
    ∙ later (f x) (one_apart f g xs i (omega (arith, within)) (λ j below other. same (suc j) (omega (arith, below)) (λ e. other (omega (arith, e)))))
  where
    not_suc : 0 ≢ suc i
    not_suc e = omega (arith, e)

    later : (b : Bool) → length (filter g xs) + bit (f (name_at xs i)) ≡ length (filter f xs) + bit (g (name_at xs i))
        → length (cond b (x ∷ filter g xs) (filter g xs)) + bit (f (name_at xs i)) ≡ length (cond b (x ∷ filter f xs) (filter f xs)) + bit (g (name_at xs i))
    later true h = omega (arith, h)
    later false h = h

-- the tests agree where another is passed
picked_alike : (pick f g : List ℕ → Bool) (xs : List (List ℕ)) → ((e : List ℕ) → pick e ≡ true → g e ≡ f e) → filter g (filter pick xs) ≡ filter f (filter pick xs)
picked_alike pick f g [] same = refl
picked_alike pick f g (x ∷ xs) same = by (pick x) refl (picked_alike pick f g xs same)
  where
    by : (b : Bool) → pick x ≡ b → filter g (filter pick xs) ≡ filter f (filter pick xs) → filter g (cond b (x ∷ filter pick xs) (filter pick xs)) ≡ filter f (cond b (x ∷ filter pick xs) (filter pick xs))
    by true e rest = ap (λ b. cond b (x ∷ filter g (filter pick xs)) (filter g (filter pick xs))) (same x e) ∙ ap (λ l. cond (f x) (x ∷ l) l) rest
    by false e rest = rest

-- Whether an entity exists, where the cell at one place is another.

abbrev is_there : Setting → List Cell → List ℕ → Bool
is_there set cells e = not (is_phase phase.Absent (cell_in set cells e).phase)

abbrev how_many : Setting → List Cell → ℕ → ℕ
how_many set cells s = length (filter (λ e. is_there set cells e) (names_of set s))

pub other_place : {c : Script} {p : Place} → IsPlace c p → (e : List ℕ) → (e ≡ p.entity → ⊥) → place (setting c) e ≢ p.at
other_place {c} {p} is e other same =
    let within : place (setting c) e < length (setting c).names = subst (λ n. n < length (setting c).names) (sym same) is.here.within in
    other (same_name e (name_at (setting c).names (place (setting c) e)) (passes_at_first (is_name e) (setting c).names [] within) ∙ (ap (name_at (setting c).names) same ∙ is.here.it))

there_other : {c : Script} {p : Place} (cells : List Cell) (now : Cell) → IsPlace c p → (e : List ℕ) → (e ≡ p.entity → ⊥) → is_there (setting c) (slice_set cells p.at now) e ≡ is_there (setting c) cells e
there_other {c} {p} cells now is e other = ap (λ (x : Cell). not (is_phase phase.Absent x.phase)) (get_or-set_other cells p.at (place (setting c) e) now (new_cell (setting c)) (other_place is e other))

there_now : {c : Script} {p : Place} (cells : List Cell) (now : Cell) → IsPlace c p → p.at < length cells → is_there (setting c) (slice_set cells p.at now) p.entity ≡ not (is_phase phase.Absent now.phase)
there_now {c} {p} cells now is within =
    ap (λ n. not (is_phase phase.Absent (slice_index_or (slice_set cells p.at now) n (new_cell (setting c))).phase)) (sym is.at_is)
    ∙ ap (λ (x : Cell). not (is_phase phase.Absent x.phase)) (get_or-set_same cells p.at now (new_cell (setting c)) within)

-- How many exist, where the cell at one place is another.

other_count : {c : Script} {p : Place} (cells : List Cell) (now : Cell) → IsPlace c p → (s : ℕ) → s ≢ p.shard → how_many (setting c) (slice_set cells p.at now) s ≡ how_many (setting c) cells s
other_count {c} {p} cells now is s apart =
    ap length (picked_alike (λ e. shard_of (setting c) e == s) (is_there (setting c) cells) (is_there (setting c) (slice_set cells p.at now)) (setting c).names
    (λ e here. there_other cells now is e (λ same. apart (sym (same_number (shard_of (setting c) e) s here) ∙ (ap (shard_of (setting c)) same ∙ sym is.shard_is)))))

own_count : {c : Script} {p : Place} (cells : List Cell) (now : Cell) → IsPlace c p → IsStrictlySortedBy (slice_cmp nat_cmp) (setting c).names → p.at < length cells
    → how_many (setting c) (slice_set cells p.at now) p.shard + bit (is_there (setting c) cells p.entity) ≡ how_many (setting c) cells p.shard + bit (not (is_phase phase.Absent now.phase))
own_count {c} {p} cells now is sorted within =
    subst (λ b. how_many (setting c) (slice_set cells p.at now) p.shard + bit (is_there (setting c) cells p.entity) ≡ how_many (setting c) cells p.shard + bit b) (there_now cells now is within)
    (subst (λ e. how_many (setting c) (slice_set cells p.at now) p.shard + bit (is_there (setting c) cells e) ≡ how_many (setting c) cells p.shard + bit (is_there (setting c) (slice_set cells p.at now) e)) is.there.it
    (one_apart (is_there (setting c) cells) (is_there (setting c) (slice_set cells p.at now)) (names_of (setting c) p.shard) p.inner is.there.within
    (λ j below other. there_other cells now is (name_at (names_of (setting c) p.shard) j) (another j below other))))
  where
    not_itself : (e f : List ℕ) → is_name e f ≡ false → f ≡ e → ⊥
    not_itself e f differ same = true≢false (sym (name_itself e) ∙ (ap (is_name e) (sym same) ∙ differ))

    another : (j : ℕ) → j < length (names_of (setting c) p.shard) → j ≢ p.inner → name_at (names_of (setting c) p.shard) j ≡ p.entity → ⊥
    another j below other = not_itself p.entity (name_at (names_of (setting c) p.shard) j)
        (another_name (names_of (setting c) p.shard) p.entity p.inner j (IsStrictlySortedBy-filter (slice_cmp nat_cmp) (λ e. shard_of (setting c) e == p.shard) (setting c).names sorted) is.there.within below is.there.it other)

counted_put : {c : Script} {p : Place} {cells : List Cell} {existing : List ℕ} (now : Cell) (n : ℕ) → AreCounted (setting c) cells existing → IsPlace c p → IsStrictlySortedBy (slice_cmp nat_cmp) (setting c).names → p.at < length cells
    → n + bit (is_there (setting c) cells p.entity) ≡ slice_index_or existing p.shard 0 + bit (not (is_phase phase.Absent now.phase)) → AreCounted (setting c) (slice_set cells p.at now) (slice_set existing p.shard n)
counted_put {c} {p} {cells} {existing} now n k is sorted within step = record {
  there = length-set existing p.shard n ∙ k.there;
  each = λ s below. at_shard s below (s == p.shard) refl;
}
  where
    inside : p.shard < length existing
    inside = subst (λ m. p.shard < m) (sym k.there) is.shard_in

    at_own : n ≡ how_many (setting c) (slice_set cells p.at now) p.shard
    at_own =
        let old : slice_index_or existing p.shard 0 ≡ how_many (setting c) cells p.shard = k.each p.shard is.shard_in in
        let new : how_many (setting c) (slice_set cells p.at now) p.shard + bit (is_there (setting c) cells p.entity) ≡ how_many (setting c) cells p.shard + bit (not (is_phase phase.Absent now.phase)) = own_count cells now is sorted within in
        omega (arith, step, old, new)

    at_shard : (s : ℕ) → s < (setting c).config.shards → (b : Bool) → (s == p.shard) ≡ b → slice_index_or (slice_set existing p.shard n) s 0 ≡ how_many (setting c) (slice_set cells p.at now) s
    at_shard s below true e = rw (same_number s p.shard e) (get_or-set_same existing p.shard n 0 inside ∙ at_own)
    at_shard s below false e = get_or-set_other existing p.shard s n 0 (other_number s p.shard e) ∙ (k.each s below ∙ sym (other_count cells now is s (other_number s p.shard e)))

counted_same : {c : Script} {p : Place} {cells : List Cell} {existing : List ℕ} (now : Cell) → AreCounted (setting c) cells existing → IsPlace c p → IsStrictlySortedBy (slice_cmp nat_cmp) (setting c).names → p.at < length cells
    → not (is_phase phase.Absent now.phase) ≡ is_there (setting c) cells p.entity → AreCounted (setting c) (slice_set cells p.at now) existing
counted_same {c} {p} {cells} {existing} now k is sorted within same = record {
  there = k.there;
  each = λ s below. at_shard s below (s == p.shard) refl;
}
  where
    at_own : how_many (setting c) cells p.shard ≡ how_many (setting c) (slice_set cells p.at now) p.shard
    at_own =
        let new : how_many (setting c) (slice_set cells p.at now) p.shard + bit (is_there (setting c) cells p.entity) ≡ how_many (setting c) cells p.shard + bit (not (is_phase phase.Absent now.phase)) = own_count cells now is sorted within in
        let bits : bit (not (is_phase phase.Absent now.phase)) ≡ bit (is_there (setting c) cells p.entity) = ap bit same in
        omega (arith, new, bits)

    at_shard : (s : ℕ) → s < (setting c).config.shards → (b : Bool) → (s == p.shard) ≡ b → slice_index_or existing s 0 ≡ how_many (setting c) (slice_set cells p.at now) s
    at_shard s below true e =
        let it : s ≡ p.shard = same_number s p.shard e in
        k.each s below ∙ (ap (how_many (setting c) cells) it ∙ (at_own ∙ sym (ap (how_many (setting c) (slice_set cells p.at now)) it)))
    at_shard s below false e = k.each s below ∙ sym (other_count cells now is s (other_number s p.shard e))

-- What is kept, where the cell at a place is another.

abbrev pub gone : Celled → Bool
gone x = is_phase phase.Absent x.cell.phase

pub cells_within : {c : Script} {version : ℕ} {who : Incarnation} {config : Config} {places : Script} {cells : List Celled} {items : List (Option Hosting)} {running : ℕ} {p : Place} → IsLodged c version who config places cells items running → IsPlace c p → p.at < length (map cell_of cells)
cells_within {c} {version} {who} {config} {places} {cells} {items} {running} {p} t is = subst (λ n. p.at < n) (sym (length-map cells cell_of ∙ t.there)) is.here.within

-- the entity exists if it did
pub stays : (now : Celled) {c : Script} {version : ℕ} {who : Incarnation} {config : Config} {places : Script} {cells : List Celled} {items new_items : List (Option Hosting)} {running new_running : ℕ} {existing : List ℕ} {v : Lodged} {p : Place} {was : Celled}
    → IsKept c version who config places cells items running existing → lodged c version who items cells ≡ v → IsPlace v.script p → was ≡ slice_index_or cells p.at was → gone now ≡ gone was
    → IsLodged c version who config places (slice_set cells p.at now) new_items new_running → IsKept c version who config places (slice_set cells p.at now) new_items new_running existing
stays now {c} {version} {who} {config} {places} {cells} {items} {new_items} {running} {new_running} {existing} {v} {p} {was} k seen is read same t = record {
  lodged = t;
  counted =
      let here : IsPlace c p = placed k.lodged seen is in
      let old : is_there (setting c) (map cell_of cells) p.entity ≡ not (gone was) = subst (λ (v : Lodged). not (is_in_phase phase.Absent v.state p.entity) ≡ not (gone was)) (sym seen) (ap (λ (x : Cell). not (is_phase phase.Absent x.phase)) (cell_at k.lodged seen is read)) in
      subst (λ l. AreCounted (setting c) l existing) (sym (map-set cell_of cells p.at now))
      (counted_same now.cell k.counted here k.lodged.sorted (cells_within k.lodged here) (ap not same ∙ sym old));
}

-- the count of its shard
record IsCount (c : Script) (cells : List Cell) (existing : List ℕ) (p : Place) (o : ℕ) : Type 0 where
  here : IsPlace c p
  old_is : slice_index_or existing p.shard 0 ≡ o
  count_is : o ≡ how_many (setting c) cells p.shard

count_at : {c : Script} {version : ℕ} {who : Incarnation} {config : Config} {places : Script} {cells : List Celled} {items : List (Option Hosting)} {running : ℕ} {existing : List ℕ} {v : Lodged} {p : Place} {i o : ℕ}
    → IsKept c version who config places cells items running existing → lodged c version who items cells ≡ v → IsPlace v.script p → i ≡ p.shard → o ≡ slice_index_or existing i o → IsCount c (map cell_of cells) existing p o
count_at {c} {version} {who} {config} {places} {cells} {items} {running} {existing} {v} {p} {i} {o} k seen is at read =
    let here : IsPlace c p = placed k.lodged seen is in
    let inside : p.shard < length existing = subst (λ m. p.shard < m) (sym k.counted.there) here.shard_in in
    let old : slice_index_or existing p.shard 0 ≡ o = get_or_default existing p.shard 0 o inside ∙ (ap (λ n. slice_index_or existing n o) (sym at) ∙ sym read) in
    record { here = here; old_is = old; count_is = sym old ∙ k.counted.each p.shard here.shard_in }

recounted : (now : Celled) (n : ℕ) {c : Script} {version : ℕ} {who : Incarnation} {config : Config} {places : Script} {cells : List Celled} {items : List (Option Hosting)} {running : ℕ} {existing : List ℕ} {v : Lodged} {p : Place} {b : Bool} {i o : ℕ}
    → IsKept c version who config places cells items running existing → lodged c version who items cells ≡ v → IsPlace v.script p → b ≡ not (is_in_phase phase.Absent v.state p.entity) → i ≡ p.shard → o ≡ slice_index_or existing i o
    → n + bit b ≡ o + bit (not (gone now)) → IsLodged c version who config places (slice_set cells p.at now) items running → IsKept c version who config places (slice_set cells p.at now) items running (slice_set existing i n)
recounted now n {c} {version} {who} {config} {places} {cells} {items} {running} {existing} {v} {p} {b} {i} {o} k seen is was at read step t = record {
  lodged = t;
  counted =
      let its : IsCount c (map cell_of cells) existing p o = count_at k seen is at read in
      let there : b ≡ is_there (setting c) (map cell_of cells) p.entity = subst (λ (v : Lodged). b ≡ not (is_in_phase phase.Absent v.state p.entity)) (sym seen) was in
      subst (λ l. AreCounted (setting c) l (slice_set existing i n)) (sym (map-set cell_of cells p.at now))
      (subst (λ m. AreCounted (setting c) (slice_set (map cell_of cells) p.at now.cell) (slice_set existing m n)) (sym at)
      (counted_put now.cell n k.counted its.here k.lodged.sorted (cells_within k.lodged its.here)
      (subst (λ x. n + bit x ≡ slice_index_or existing p.shard 0 + bit (not (gone now))) there (subst (λ m. n + bit b ≡ m + bit (not (gone now))) (sym its.old_is) step))));
}

-- it exists
pub comes : (now : Celled) {c : Script} {version : ℕ} {who : Incarnation} {config : Config} {places : Script} {cells : List Celled} {items : List (Option Hosting)} {running : ℕ} {existing : List ℕ} {v : Lodged} {p : Place} {b : Bool} {i o n : ℕ}
    → IsKept c version who config places cells items running existing → lodged c version who items cells ≡ v → IsPlace v.script p → gone now ≡ false → b ≡ not (is_in_phase phase.Absent v.state p.entity) → i ≡ p.shard → o ≡ slice_index_or existing i o
    → n ≡ (if b then o else o + 1) → IsLodged c version who config places (slice_set cells p.at now) items running → IsKept c version who config places (slice_set cells p.at now) items running (slice_set existing i n)
comes now {c} {version} {who} {config} {places} {cells} {items} {running} {existing} {v} {p} {b} {i} {o} {n} k seen is here was at read step t =
    recounted now n k seen is was at read (subst (λ x. n + bit b ≡ o + bit (not x)) (sym here) (by b step)) t
  where
    by : (b : Bool) → n ≡ (if b then o else o + 1) → n + bit b ≡ o + 1
    by true e = omega (arith, e)
    by false e = omega (arith, e)

-- there is room to count one more
pub count_fits : {c : Script} {version : ℕ} {who : Incarnation} {config : Config} {places : Script} {cells : List Celled} {items : List (Option Hosting)} {running : ℕ} {existing : List ℕ} {v : Lodged} {p : Place} {i o : ℕ}
    → IsKept c version who config places cells items running existing → lodged c version who items cells ≡ v → IsPlace v.script p → i ≡ p.shard → o ≡ slice_index_or existing i o → o < 4294967295
count_fits {c} {version} {who} {config} {places} {cells} {items} {running} {existing} {v} {p} {i} {o} k seen is at read =
    let count : o ≡ how_many (setting c) (map cell_of cells) p.shard = (count_at k seen is at read).count_is in
    let some : how_many (setting c) (map cell_of cells) p.shard ≤ length (names_of (setting c) p.shard) = picked_few (λ e. is_there (setting c) (map cell_of cells) e) (names_of (setting c) p.shard) in
    let few : length (names_of (setting c) p.shard) ≤ length (setting c).names = picked_few (λ e. shard_of (setting c) e == p.shard) (setting c).names in
    let most : length (setting c).names ≤ 1000 = k.lodged.script_is.names in
    omega (arith, count, some, few, most)

-- one that exists is counted
pub count_some : {c : Script} {version : ℕ} {who : Incarnation} {config : Config} {places : Script} {cells : List Celled} {items : List (Option Hosting)} {running : ℕ} {existing : List ℕ} {v : Lodged} {p : Place} {b : Bool} {i o : ℕ}
    → IsKept c version who config places cells items running existing → lodged c version who items cells ≡ v → IsPlace v.script p → b ≡ not (is_in_phase phase.Absent v.state p.entity) → i ≡ p.shard → o ≡ slice_index_or existing i o → b ≡ true → 0 < o
count_some {c} {version} {who} {config} {places} {cells} {items} {running} {existing} {v} {p} {b} {i} {o} k seen is was at read there =
    let its : IsCount c (map cell_of cells) existing p o = count_at k seen is at read in
    let here : is_there (setting c) (map cell_of cells) p.entity ≡ true = sym (subst (λ (v : Lodged). b ≡ not (is_in_phase phase.Absent v.state p.entity)) (sym seen) was) ∙ there in
    let without : how_many (setting c) (slice_set (map cell_of cells) p.at (new_cell (setting c))) p.shard + bit (is_there (setting c) (map cell_of cells) p.entity) ≡ how_many (setting c) (map cell_of cells) p.shard + 0 = own_count (map cell_of cells) (new_cell (setting c)) its.here k.lodged.sorted (cells_within k.lodged its.here) in
    let one : bit (is_there (setting c) (map cell_of cells) p.entity) ≡ 1 = ap bit here in
    let count : o ≡ how_many (setting c) (map cell_of cells) p.shard = its.count_is in
    omega (arith, without, one, count)

-- it doesn't exist
pub goes : (now : Celled) {c : Script} {version : ℕ} {who : Incarnation} {config : Config} {places : Script} {cells : List Celled} {items : List (Option Hosting)} {running : ℕ} {existing : List ℕ} {v : Lodged} {p : Place} {b : Bool} {i o n : ℕ}
    → IsKept c version who config places cells items running existing → lodged c version who items cells ≡ v → IsPlace v.script p → gone now ≡ true → b ≡ not (is_in_phase phase.Absent v.state p.entity) → i ≡ p.shard → o ≡ slice_index_or existing i o
    → n ≡ (if b then o - 1 else o) → IsLodged c version who config places (slice_set cells p.at now) items running → IsKept c version who config places (slice_set cells p.at now) items running (slice_set existing i n)
goes now {c} {version} {who} {config} {places} {cells} {items} {running} {existing} {v} {p} {b} {i} {o} {n} k seen is here was at read step t =
    recounted now n k seen is was at read (subst (λ x. n + bit b ≡ o + bit (not x)) (sym here) (by b step (count_some k seen is was at read))) t
  where
    by : (b : Bool) → n ≡ (if b then o - 1 else o) → (b ≡ true → 0 < o) → n + bit b ≡ o + 0
    by true e some = let least : 0 < o = some refl in omega (arith, e, least)
    by false e some = omega (arith, e)

-- Moves that leave whether the entity exists.

pub request_leaves : (x y : Incarnation) (p : ℕ) (e : List ℕ) (n u : ℕ) (was : Celled) {now : Celled} → now ≡ celled_after was (post x y (body.Request p e n u)) → gone now ≡ gone was
request_leaves x y p e n u was {now} step = ap gone step ∙ by was.cell.phase
  where
    by : (q : Phase) → is_phase phase.Absent (phase_step q (post x y (body.Request p e n u))) ≡ is_phase phase.Absent q
    by phase.Absent = refl
    by phase.Loading = refl
    by phase.Active = refl
    by phase.Stopping = refl

pub stop_leaves : (x y : Incarnation) (e : List ℕ) (was : Celled) {now : Celled} → now ≡ celled_after was (post x y (body.StopEntity e)) → gone now ≡ gone was
stop_leaves x y e was {now} step = ap gone step ∙ by was.cell.phase
  where
    by : (q : Phase) → is_phase phase.Absent (phase_step q (post x y (body.StopEntity e))) ≡ is_phase phase.Absent q
    by phase.Absent = refl
    by phase.Loading = refl
    by phase.Active = refl
    by phase.Stopping = refl

pub drop_leaves : (who : Incarnation) (r : Option Message) (was now : Celled) → IfSome r (λ m. (x : Incarnation) → now ≡ celled_after was (told (fact.Dropped x m))) → IfNone r (now ≡ was) → gone now ≡ gone was
drop_leaves who None was now step none = ap gone none
drop_leaves who (Some m) was now step none = ap gone (step who)

-- Nothing exists yet.

none_pass : (f : List ℕ → Bool) → ((e : List ℕ) → f e ≡ false) → (xs : List (List ℕ)) → length (filter f xs) ≡ 0
none_pass f none [] = refl
none_pass f none (x ∷ xs) = ap (λ b. length (cond b (x ∷ filter f xs) (filter f xs))) (none x) ∙ none_pass f none xs

counted_new : (c : Script) (cells : List Celled) (existing : List ℕ) → cells ≡ replicate (length (setting c).names) (celled c.config.producers c.config.window) → existing ≡ replicate c.config.shards 0 → AreCounted (setting c) (map cell_of cells) existing
counted_new c cells existing fresh none = record {
  there = ap length none ∙ length-replicate {A = ℕ} c.config.shards 0;
  each = λ s below. (ap (λ l. slice_index_or l s 0) none ∙ get_replicate c.config.shards s 0) ∙ sym (none_pass (is_there (setting c) (map cell_of cells)) absent (names_of (setting c) s));
}
  where
    absent : (e : List ℕ) → is_there (setting c) (map cell_of cells) e ≡ false
    absent e = ap (λ (x : Cell). not (is_phase phase.Absent x.phase))
        (ap (λ l. slice_index_or l (place (setting c) e) (new_cell (setting c))) (ap (map cell_of) fresh ∙ new_cells (length (setting c).names) (celled c.config.producers c.config.window))
        ∙ get_replicate (length (setting c).names) (place (setting c) e) (new_cell (setting c)))

-- what is kept as a node comes up
pub kept_new : (script c : Script) (version : ℕ) (who : Incarnation) (config : Config) (places : Script) (cells : List Celled) (items : List (Option Hosting)) (running : ℕ) (existing : List ℕ) → script ≡ c → IsScript c → is_version c version ≡ true → config ≡ c.config → places ≡ c
    → IsStrictlySortedBy (slice_cmp nat_cmp) (setting c).names → cells ≡ replicate (length (setting c).names) (celled c.config.producers c.config.window) → items ≡ replicate c.config.shards None → ((s : ℕ) → has running s ≡ false) → existing ≡ replicate c.config.shards 0
    → IsKept script version who config places cells items running existing
kept_new script c version who config places cells items running existing same ok admitted config_is places_are sorted fresh unhosted idle none = subst (λ x. IsKept x version who config places cells items running existing) (sym same) record {
  lodged = record {
    script_is = ok;
    admitted = admitted;
    config_is = config_is;
    places_are = places_are;
    sorted = sorted;
    there = ap length fresh ∙ length-replicate {A = Celled} (length (setting c).names) (new_celled c);
    shards_there = ap length unhosted ∙ length-replicate {A = Option Hosting} c.config.shards None;
    each = λ j within. subst (IsCell c (name_at (setting c).names j) (host_of c items (name_at (setting c).names j))) (sym (ap (λ l. slice_index_or l j (new_celled c)) fresh ∙ get_replicate (length (setting c).names) j (new_celled c))) (new_stands c (name_at (setting c).names j) (host_of c items (name_at (setting c).names j)));
    hosts = λ s. subst (λ o. IfSome o (IsHosting c who s)) (sym (none_there s)) tt;
    runs = λ s below. idle s ∙ sym (ap (λ (o : Option Hosting). is_running_in (option_map hosted_of o)) (none_there s));
  };
  counted = counted_new c cells existing fresh none;
}
  where
    none_there : (s : ℕ) → slice_index_or items s None ≡ None
    none_there s = ap (λ l. slice_index_or l s None) unhosted ∙ get_replicate {X = Option Hosting} c.config.shards s None

-- What is read.

is_zero : (n : ℕ) → n ≡ 0 → (n == 0) ≡ true
is_zero n e = grind (arith, nat_tests)

is_more : (n k : ℕ) → n ≡ suc k → (n == 0) ≡ false
is_more n k e = grind (arith, nat_tests)

no_more : (n : ℕ) (xs : List (List ℕ)) → n ≡ length xs → (n == 0) ≡ is_empty xs
no_more n [] count = is_zero n count
no_more n (x ∷ xs) count = is_more n (length xs) count

pub none_exist : {c : Script} {version : ℕ} {who : Incarnation} {config : Config} {places : Script} {cells : List Celled} {items : List (Option Hosting)} {running : ℕ} {existing : List ℕ} {v : Lodged} {s i o : ℕ}
    → IsKept c version who config places cells items running existing → lodged c version who items cells ≡ v → s < v.script.config.shards → i ≡ s → o ≡ slice_index_or existing i o → (o == 0) ≡ is_empty (entities_of v.state s)
none_exist {c} {version} {who} {config} {places} {cells} {items} {running} {existing} {v} {s} {i} {o} k seen below at read =
    let lt : s < c.config.shards = subst (λ (x : Script). s < x.config.shards) (ap (λ (v : Lodged). v.script) (sym seen)) below in
    let inside : s < length existing = subst (λ m. s < m) (sym k.counted.there) lt in
    let count : o ≡ slice_index_or existing s 0 = read ∙ (ap (λ n. slice_index_or existing n o) at ∙ sym (get_or_default existing s 0 o inside)) in
    subst (λ (v : Lodged). (o == 0) ≡ is_empty (entities_of v.state s)) seen (no_more o (entities_of (lodged c version who items cells).state s) (count ∙ k.counted.each s lt))
