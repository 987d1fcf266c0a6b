-- Which entities recover or stop, as one of them goes on; and what a tick passes over.
use Rattle.std.proofs.Common.{◌≡◌, ◌≢◌, ℕ, ◌+◌, ◌<◌, ◌≤◌, List, [], ◌++◌, ◌-◌, length, map, drop, replicate, sym, ap, subst, ◌∙◌, refl, true, false, arith, true≢false, get_or-set_same, get_or-set_other}
use Rattle.std.specs.Prelude.{Bool, zero, suc, ◌==◌, Option, None, Some, IfSome, IfNone, slice_set, slice_index_or}
use Rattle.std.specs.List.{flat_map}
use Rattle.std.specs.List.Sorted.{IsStrictlySortedBy}
use Rattle.std.specs.Ordering.{nat_cmp}
use Rattle.std.specs.Cmp.Lexicographic.{slice_cmp}
use Rattle.std.proofs.lemmas.List.{map-set}
use Rattle.std.proofs.lemmas.List.Kept.{IsStrictlySortedBy-filter}
use Rattle.std.proofs.Math.ListN.{drop_of_length-le}
use Rattle.yard_model.specs.declared.charter.Config.{Config}
use Rattle.yard_model.specs.declared.fact.Fact.TheVariants as fact
use Rattle.yard_model.specs.declared.incarnation.Incarnation.{Incarnation}
use Rattle.yard_model.specs.declared.input.Phase.{Phase}
use Rattle.yard_model.specs.declared.input.Phase.TheVariants as phase
use Rattle.yard_model.specs.declared.packet.Body.TheVariants as body
use Rattle.yard_model.specs.declared.packet.Message.{Message}
use Rattle.yard_model.specs.Entities.{Entities, Cell, cell, cell_in, new_cell, phase_step, remind_by, tick_entities}
use Rattle.yard_model.specs.declared.out.Item.{Item}
use Rattle.yard_model.specs.Move.{Move, told, post}
use Rattle.yard_model.specs.Spared.{Spared}
use Rattle.yard_model.specs.Script.{Script, setting, is_name}
use Rattle.yard_model.specs.Setting.{shard_of, names_of, place}
use Rattle.yard_model.specs.Words.{numbers}
use Rattle.plain_laws.proofs.Booleans.{get_replicate, same_number, other_number}
use Rattle.plain_laws.proofs.Names.{name_itself}
use Rattle.place_set.specs.Places.{Places, is_in}
use Rattle.shard_store.specs.Shelved.{name_at}
use Rattle.entity_cells.specs.Celled.{Celled, celled, celled_after}
use Rattle.shard_entities.specs.Placed.{IsPlace, start_of}
use Rattle.shard_entities.specs.declared.place.Place.{Place}
use Rattle.shard_entities.specs.declared.hosting.Hosting.{Hosting}
use Rattle.shard_entities.specs.Lodged.{Lodged, lodged, given, IsLodged, cell_of}
use Rattle.shard_entities.specs.Restless.{is_restless, AreRestless, AreFresh, IsNoted}
use Rattle.shard_entities.proofs.CountLaws.{other_place, cells_within}
use Rattle.shard_entities.proofs.HostLaws.{shard_below}
use Rattle.shard_entities.proofs.LodgedLaws.{placed, cell_at}
use Rattle.name_index.proofs.NameLaws.{another_name}
use Rattle.shard_entities.proofs.OrderLaws.{apart_shards, apart_places, ends_before, picked_passes, shard_few}
use Rattle.shard_entities.proofs.PlacesLaws.{new_cells}
use Rattle.shard_entities.proofs.TickLaws.{of_names, of_shard, names_next, room_next}

abbrev pub rests : Celled → Bool
rests x = is_restless x.cell.phase

-- The set of a node that comes up.

pub restless_new : (c script : Script) (cells : List Celled) (marked : Places) → script ≡ c → cells ≡ replicate (length (setting c).names) (celled c.config.producers c.config.window) → AreFresh (setting c) c.config.shards marked → AreRestless (setting script) (map cell_of cells) marked
restless_new c script cells marked same fresh k = subst (λ x. AreRestless (setting x) (map cell_of cells) marked) (sym same) record {
  bound = k.bound;
  each = λ s i lt inside. k.none (start_of (setting c) s + i) ∙ sym (absent (name_at (names_of (setting c) s) i));
}
  where
    absent : (e : List ℕ) → is_restless (cell_in (setting c) (map cell_of cells) e).phase ≡ false
    absent e = ap (λ (x : Cell). is_restless x.phase)
        (ap (λ l. slice_index_or l (place (setting c) e) (new_cell (setting c))) (ap (map cell_of) fresh ∙ new_cells (length (setting c).names) (celled c.config.producers c.config.window))
        ∙ get_replicate (length (setting c).names) (place (setting c) e) (new_cell (setting c)))

-- The cell at a place is another.

not_itself : (e f : List ℕ) → is_name e f ≡ false → f ≡ e → ⊥
not_itself e f differ same = true≢false (sym (name_itself e) ∙ (ap (is_name e) (sym same) ∙ differ))

restless_put : {c : Script} {p : Place} {cells : List Cell} {old new : Places} (now : Cell) → AreRestless (setting c) cells old → IsPlace c p → IsStrictlySortedBy (slice_cmp nat_cmp) (setting c).names → p.at < length cells
    → IsNoted (setting c) old new p.shard p.inner (is_restless now.phase) → AreRestless (setting c) (slice_set cells p.at now) new
restless_put {c} {p} {cells} {old} {new} now k is sorted within n = record {
  bound = n.bound ∙ k.bound;
  each = λ s i lt inside. each_at s i lt inside (s == p.shard) refl (i == p.inner) refl;
}
  where
    other_cell : (e : List ℕ) → (e ≡ p.entity → ⊥) → is_restless (cell_in (setting c) (slice_set cells p.at now) e).phase ≡ is_restless (cell_in (setting c) cells e).phase
    other_cell e other = ap (λ (x : Cell). is_restless x.phase) (get_or-set_other cells p.at (place (setting c) e) now (new_cell (setting c)) (other_place is e other))

    own_cell : is_restless (cell_in (setting c) (slice_set cells p.at now) (name_at (names_of (setting c) p.shard) p.inner)).phase ≡ is_restless now.phase
    own_cell = ap (λ e. is_restless (cell_in (setting c) (slice_set cells p.at now) e).phase) is.there.it
        ∙ (ap (λ m. is_restless (slice_index_or (slice_set cells p.at now) m (new_cell (setting c))).phase) (sym is.at_is)
        ∙ ap (λ (x : Cell). is_restless x.phase) (get_or-set_same cells p.at now (new_cell (setting c)) within))

    another : (j : ℕ) → j < length (names_of (setting c) p.shard) → j ≢ p.inner → name_at (names_of (setting c) p.shard) j ≡ p.entity → ⊥
    another j below other = not_itself p.entity (name_at (names_of (setting c) p.shard) j)
        (another_name (names_of (setting c) p.shard) p.entity p.inner j (IsStrictlySortedBy-filter (slice_cmp nat_cmp) (λ e. shard_of (setting c) e == p.shard) (setting c).names sorted) is.there.within below is.there.it other)

    elsewhere : (s i : ℕ) → i < length (names_of (setting c) s) → s ≢ p.shard → name_at (names_of (setting c) s) i ≡ p.entity → ⊥
    elsewhere s i inside apart same = apart (sym (same_number (shard_of (setting c) (name_at (names_of (setting c) s) i)) s (picked_passes (λ e. shard_of (setting c) e == s) (setting c).names i inside)) ∙ (ap (shard_of (setting c)) same ∙ sym is.shard_is))

    each_at : (s i : ℕ) → s < c.config.shards → i < length (names_of (setting c) s) → (a : Bool) → (s == p.shard) ≡ a → (b : Bool) → (i == p.inner) ≡ b
        → is_in new (start_of (setting c) s + i) ≡ is_restless (cell_in (setting c) (slice_set cells p.at now) (name_at (names_of (setting c) s) i)).phase
    each_at s i lt inside false e b f =
        n.others (start_of (setting c) s + i) (apart_shards (setting c) s p.shard i p.inner (other_number s p.shard e) inside is.there.within) ∙ (k.each s i lt inside ∙ sym (other_cell (name_at (names_of (setting c) s) i) (elsewhere s i inside (other_number s p.shard e))))
    each_at s i lt inside true e true f =
        ap (λ m. is_in new (start_of (setting c) m + i)) (same_number s p.shard e) ∙ (ap (λ j. is_in new (start_of (setting c) p.shard + j)) (same_number i p.inner f) ∙ (n.it ∙ (sym own_cell
        ∙ (ap (λ j. is_restless (cell_in (setting c) (slice_set cells p.at now) (name_at (names_of (setting c) p.shard) j)).phase) (sym (same_number i p.inner f))
        ∙ ap (λ m. is_restless (cell_in (setting c) (slice_set cells p.at now) (name_at (names_of (setting c) m) i)).phase) (sym (same_number s p.shard e))))))
    each_at s i lt inside true e false f =
        let here : i < length (names_of (setting c) p.shard) = subst (λ m. i < length (names_of (setting c) m)) (same_number s p.shard e) inside in
        ap (λ m. is_in new (start_of (setting c) m + i)) (same_number s p.shard e) ∙ (n.others (start_of (setting c) p.shard + i) (apart_places (setting c) p.shard i p.inner (other_number i p.inner f)) ∙ (k.each p.shard i is.shard_in here
        ∙ (sym (other_cell (name_at (names_of (setting c) p.shard) i) (another i here (other_number i p.inner f)))
        ∙ ap (λ m. is_restless (cell_in (setting c) (slice_set cells p.at now) (name_at (names_of (setting c) m) i)).phase) (sym (same_number s p.shard e)))))

-- it goes on to another phase
pub goes_on : (now : Celled) {b : Bool} {c : Script} {version : ℕ} {who : Incarnation} {config : Config} {places : Script} {cells : List Celled} {items : List (Option Hosting)} {running : ℕ} {v : Lodged} {p : Place} {old new : Places}
    → IsLodged c version who config places cells items running → lodged c version who items cells ≡ v → IsPlace v.script p → rests now ≡ b → IsNoted (setting places) old new p.shard p.inner b
    → AreRestless (setting c) (map cell_of cells) old → AreRestless (setting c) (map cell_of (slice_set cells p.at now)) new
goes_on now {b} {c} {version} {who} {config} {places} {cells} {items} {running} {v} {p} {old} {new} t seen is phase_is step k =
    let here : IsPlace c p = placed t seen is in
    subst (λ l. AreRestless (setting c) l new) (sym (map-set cell_of cells p.at now))
    (restless_put now.cell k here t.sorted (cells_within t here) (subst (λ x. IsNoted (setting x) old new p.shard p.inner (is_restless now.cell.phase)) t.places_are (subst (IsNoted (setting places) old new p.shard p.inner) (sym phase_is) step)))

-- it stays in its phase, or in one like it
pub rests_on : (now : Celled) {c : Script} {version : ℕ} {who : Incarnation} {config : Config} {places : Script} {cells : List Celled} {items : List (Option Hosting)} {running : ℕ} {v : Lodged} {p : Place} {was : Celled} {marked : Places}
    → IsLodged c version who config places cells items running → lodged c version who items cells ≡ v → IsPlace v.script p → was ≡ slice_index_or cells p.at was → rests now ≡ rests was
    → AreRestless (setting c) (map cell_of cells) marked → AreRestless (setting c) (map cell_of (slice_set cells p.at now)) marked
rests_on now {c} {version} {who} {config} {places} {cells} {items} {running} {v} {p} {was} {marked} t seen is read same k =
    let here : IsPlace c p = placed t seen is in
    let old : is_restless (cell_in (setting c) (map cell_of cells) p.entity).phase ≡ rests was = subst (λ (v : Lodged). is_restless (cell v.state p.entity).phase ≡ rests was) (sym seen) (ap (λ (x : Cell). is_restless x.phase) (cell_at t seen is read)) in
    let own : is_in marked (start_of (setting c) p.shard + p.inner) ≡ rests now = k.each p.shard p.inner here.shard_in here.there.within ∙ (ap (λ e. is_restless (cell_in (setting c) (map cell_of cells) e).phase) here.there.it ∙ (old ∙ sym same)) in
    let step : IsNoted (setting c) marked marked p.shard p.inner (rests now) = record { bound = refl; it = own; others = λ i other. refl } in
    goes_on now t seen is refl (subst (λ x. IsNoted (setting x) marked marked p.shard p.inner (rests now)) (sym t.places_are) step) k

-- the cell that was put
pub put_read : (cells : List Celled) (i : ℕ) {now o : Celled} → i < length cells → o ≡ slice_index_or (slice_set cells i now) i o → o ≡ now
put_read cells i {now} {o} inside read = read ∙ get_or-set_same cells i now o inside

-- the place is one of the names' that are kept, and there is room for all of them
pub place_there : {c : Script} {version : ℕ} {who : Incarnation} {config : Config} {places : Script} {cells : List Celled} {items : List (Option Hosting)} {running : ℕ} {v : Lodged} {p : Place}
    → IsLodged c version who config places cells items running → lodged c version who items cells ≡ v → IsPlace v.script p → IsPlace places p
place_there {c} {version} {who} {config} {places} {cells} {items} {running} {v} {p} t seen is = subst (λ x. IsPlace x p) (sym t.places_are) (placed t seen is)

pub all_there : {c : Script} {version : ℕ} {who : Incarnation} {config : Config} {places : Script} {cells : List Celled} {items : List (Option Hosting)} {running : ℕ} {marked : Places}
    → IsLodged c version who config places cells items running → AreRestless (setting c) (map cell_of cells) marked → marked.bound ≡ start_of (setting places) places.config.shards
all_there {c} {version} {who} {config} {places} {cells} {items} {running} {marked} t k = k.bound ∙ ap (λ (x : Script). start_of (setting x) x.config.shards) (sym t.places_are)

-- Moves that leave whether it recovers or stops.

pub request_rests : (x y : Incarnation) (p : ℕ) (e : List ℕ) (n u : ℕ) (was : Celled) {now : Celled} → now ≡ celled_after was (post x y (body.Request p e n u)) → rests now ≡ rests was
request_rests x y p e n u was {now} step = ap rests step ∙ by was.cell.phase
  where
    by : (q : Phase) → is_restless (phase_step q (post x y (body.Request p e n u))) ≡ is_restless q
    by phase.Absent = refl
    by phase.Loading = refl
    by phase.Active = refl
    by phase.Stopping = refl

pub drop_rests : (who : Incarnation) (r : Option Message) (was now : Celled) → IfSome r (λ m. (x : Incarnation) → now ≡ celled_after was (told (fact.Dropped x m))) → IfNone r (now ≡ was) → rests now ≡ rests was
drop_rests who None was now step none = ap rests none
drop_rests who (Some m) was now step none = ap rests (step who)

-- What is passed over.

silent : (e : List ℕ) (st : Entities) (q : Phase) → is_restless q ≡ false → remind_by e st q ≡ []
silent e st phase.Absent rest = refl
silent e st phase.Loading rest = absurd (true≢false rest)
silent e st phase.Active rest = refl
silent e st phase.Stopping rest = absurd (true≢false rest)

-- no entity from a place to another recovers or stops
abbrev pub AreSilent : Entities → List (List ℕ) → ℕ → ℕ → Type 0
AreSilent st xs i j = (k : ℕ) → i ≤ k → k < j → is_restless (cell st (name_at xs k)).phase ≡ false

passed_by : (st : Entities) (xs : List (List ℕ)) (n i j : ℕ) → j ≡ i + n → j ≤ length xs → AreSilent st xs i j → of_names st (drop i xs) ≡ of_names st (drop j xs)
passed_by st xs zero i j far most rest = let same : i ≡ j = omega (arith, far) in ap (λ m. of_names st (drop m xs)) same
passed_by st xs (suc n) i j far most rest =
    names_next st xs i (name_at xs i) (omega (arith, far, most)) refl
    ∙ (ap (λ l. l ++ of_names st (drop (i + 1) xs)) (silent (name_at xs i) st (cell st (name_at xs i)).phase (rest i (omega arith) (omega (arith, far))))
    ∙ passed_by st xs n (i + 1) j (omega (arith, far)) most (λ k up low. rest k (omega (arith, up)) low))

pub names_passed : (st : Entities) (xs : List (List ℕ)) (i j : ℕ) → i ≤ j → j ≤ length xs → AreSilent st xs i j → of_names st (drop i xs) ≡ of_names st (drop j xs)
names_passed st xs i j up most rest = passed_by st xs (j - i) i j (omega (arith, up)) most rest

pub names_end : (st : Entities) (xs : List (List ℕ)) (i : ℕ) → length xs ≤ i → of_names st (drop i xs) ≡ []
names_end st xs i most = ap (of_names st) (drop_of_length-le xs most)

-- What is told by a tick, one restless entity after another.

-- no more is told where none is left
pub remind_done : (st : Entities) (xs : List (List ℕ)) (i j : ℕ) (out : Spared Item) {whole : Spared Item} → given out (of_names st (drop i xs)) ≡ whole → i ≤ j → j ≤ length xs → AreSilent st xs i j → length xs ≤ j → out ≡ whole
remind_done st xs i j out {whole} way up most rest end = ap (given out) (sym (names_passed st xs i j up most rest ∙ names_end st xs j end)) ∙ way

-- the set, as it is read
pub next_fits : {c : Script} {version : ℕ} {who : Incarnation} {config : Config} {places : Script} {cells : List Celled} {items : List (Option Hosting)} {running : ℕ} {v : Lodged} {marked : Places} {s start n : ℕ}
    → IsLodged c version who config places cells items running → AreRestless (setting c) (map cell_of cells) marked → lodged c version who items cells ≡ v → s < v.script.config.shards → start ≡ start_of (setting places) s → n ≤ length (names_of v.state.set s) → start + n ≤ marked.bound
next_fits {c} {version} {who} {config} {places} {cells} {items} {running} {v} {marked} {s} {start} {n} t k seen lt begins most =
    let below : s < c.config.shards = shard_below cells items seen lt in
    let few : n ≤ length (names_of (setting c) s) = subst (λ (v : Lodged). n ≤ length (names_of v.state.set s)) (sym seen) most in
    let far : start_of (setting c) s + length (names_of (setting c) s) ≤ start_of (setting c) c.config.shards = ends_before (setting c) s c.config.shards below in
    let first : start ≡ start_of (setting c) s = begins ∙ ap (λ (x : Script). start_of (setting x) s) t.places_are in
    let bound : marked.bound ≡ start_of (setting c) c.config.shards = k.bound in
    omega (arith, few, far, first, bound)

pub names_few : {c : Script} {version : ℕ} {who : Incarnation} {config : Config} {places : Script} {cells : List Celled} {items : List (Option Hosting)} {running : ℕ} {v : Lodged} (s : ℕ) {n : ℕ}
    → IsLodged c version who config places cells items running → lodged c version who items cells ≡ v → n ≤ length (names_of v.state.set s) → n ≤ 1000
names_few {c} {version} {who} {config} {places} {cells} {items} {running} {v} s {n} t seen most =
    let few : length (names_of (setting c) s) ≤ 1000 = shard_few c s t.script_is in
    let its : n ≤ length (names_of (setting c) s) = subst (λ (v : Lodged). n ≤ length (names_of v.state.set s)) (sym seen) most in
    omega (arith, few, its)

pub next_silent : {c : Script} {version : ℕ} {who : Incarnation} {config : Config} {places : Script} {cells : List Celled} {items : List (Option Hosting)} {running : ℕ} {v : Lodged} {marked : Places} {s start from last next : ℕ}
    → IsLodged c version who config places cells items running → AreRestless (setting c) (map cell_of cells) marked → lodged c version who items cells ≡ v → s < v.script.config.shards → start ≡ start_of (setting places) s → ((k : ℕ) → start + from ≤ k → k < next → is_in marked k ≡ false) → start + last ≤ next → last ≤ length (names_of v.state.set s)
    → AreSilent v.state (names_of v.state.set s) from last
next_silent {c} {version} {who} {config} {places} {cells} {items} {running} {v} {marked} {s} {start} {from} {last} {next} t k seen lt begins none before most = λ j up low.
    let below : s < c.config.shards = shard_below cells items seen lt in
    let first : start ≡ start_of (setting c) s = begins ∙ ap (λ (x : Script). start_of (setting x) s) t.places_are in
    let few : last ≤ length (names_of (setting c) s) = subst (λ (v : Lodged). last ≤ length (names_of v.state.set s)) (sym seen) most in
    let inside : j < length (names_of (setting c) s) = omega (arith, low, few) in
    let here : is_in marked (start_of (setting c) s + j) ≡ false = none (start_of (setting c) s + j) (omega (arith, up, first)) (omega (arith, low, before, first)) in
    subst (λ (v : Lodged). is_restless (cell v.state (name_at (names_of v.state.set s) j)).phase ≡ false) seen
    (sym (k.each s j below inside) ∙ here)

pub first_room : (l a b : List Move) (spare : ℕ) → l ≡ a ++ b → length l ≤ spare → length a ≤ spare
first_room l a b spare cut room = let both : length a + length b ≤ spare = room_next l a b spare cut room in omega (arith, both)

-- Where no place is in the set, no shard is told anything.

shards_silent : (st : Entities) (n s : ℕ) → ((j : ℕ) → s ≤ j → j < s + n → of_shard st j ≡ []) → flat_map (of_shard st) (numbers s n) ≡ []
shards_silent st zero s none = refl
shards_silent st (suc n) s none =
    ap (λ l. l ++ flat_map (of_shard st) (numbers (s + 1) n)) (none s (omega arith) (omega arith))
    ∙ shards_silent st n (s + 1) (λ j up low. none j (omega (arith, up)) (omega (arith, low)))

pub tick_silent : {c : Script} {version : ℕ} {who : Incarnation} {config : Config} {places : Script} {cells : List Celled} {items : List (Option Hosting)} {running : ℕ} {v : Lodged} {marked : Places} {total next : ℕ}
    → IsLodged c version who config places cells items running → AreRestless (setting c) (map cell_of cells) marked → lodged c version who items cells ≡ v → total ≡ start_of (setting places) places.config.shards → ((k : ℕ) → 0 ≤ k → k < next → is_in marked k ≡ false) → total ≤ next
    → tick_entities v.state ≡ []
tick_silent {c} {version} {who} {config} {places} {cells} {items} {running} {v} {marked} {total} {next} t k seen all none most =
    subst (λ (v : Lodged). tick_entities v.state ≡ []) seen (shards_silent st c.config.shards 0 (λ s up low. one s (omega (arith, low))))
  where
    st : Entities
    st = (lodged c version who items cells).state

    whole : total ≡ start_of (setting c) c.config.shards
    whole = all ∙ ap (λ (x : Script). start_of (setting x) x.config.shards) t.places_are

    one : (s : ℕ) → s < c.config.shards → of_shard st s ≡ []
    one s below =
        let far : start_of (setting c) s + length (names_of (setting c) s) ≤ start_of (setting c) c.config.shards = ends_before (setting c) s c.config.shards below in
        names_passed st (names_of (setting c) s) 0 (length (names_of (setting c) s)) (omega arith) (omega arith)
        (λ j up low. sym (k.each s j below low) ∙ none (start_of (setting c) s + j) (omega arith) (omega (arith, low, far, whole, most)))
        ∙ names_end st (names_of (setting c) s) (length (names_of (setting c) s)) (omega arith)
