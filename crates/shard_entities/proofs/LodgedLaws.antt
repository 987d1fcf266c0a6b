-- What a move makes of a node's entities, and that they stand after it.
use Rattle.std.proofs.Common.{◌≡◌, ◌≢◌, ℕ, ◌-◌, ◌<◌, ◌≤◌, List, [], ◌∷◌, length, map, sym, ap, subst, ◌∙◌, refl, true, false, arith, get_or-set_same, get_or-set_other}
use Rattle.std.specs.Prelude.{Bool, ◌==◌, ◌&&◌, Option, None, Some, IfSome, slice_set, slice_index_or}
use Rattle.std.specs.Option.{option_map}
use Rattle.std.specs.List.{list_all}
use Rattle.std.proofs.lemmas.Bool.Decides.{nat_tests}
use Rattle.std.proofs.lemmas.List.{map-set, length-set, get_or-map, get_or_default, length-replicate}
use Rattle.yard_model.specs.declared.charter.Config.{Config}
use Rattle.yard_model.specs.declared.incarnation.Incarnation.{Incarnation}
use Rattle.yard_model.specs.declared.input.Phase.{Phase}
use Rattle.yard_model.specs.declared.input.Phase.TheVariants as phase
use Rattle.yard_model.specs.declared.packet.Message.{Message}
use Rattle.yard_model.specs.declared.state.State.{State}
use Rattle.yard_model.specs.Behaviour.{folded, is_in, is_valid}
use Rattle.yard_model.specs.SlotReads.{journal}
use Rattle.yard_model.specs.Entities.{entries, entries_in, Hosted, Cell, cell, cell_in, cell_after, new_cell, entity_of, hosted_step, phase_step, stash_step, reach_step, entities_after, cells_by, cells_step}
use Rattle.yard_model.specs.declared.fact.Fact.TheVariants as fact
use Rattle.yard_model.specs.Move.{Move, told}
use Rattle.std.proofs.lemmas.List.Folds.{list_all-append}
use Rattle.yard_model.specs.Script.{Script, IsScript, Setting, setting}
use Rattle.yard_model.specs.Setting.{place}
use Rattle.yard_model.specs.Words.{at}
use Rattle.consumer_ctl.specs.Held.{Held}
use Rattle.plain_laws.proofs.Booleans.{and_both, both, same_number, other_number}
use Rattle.entity_cells.proofs.Keeping.{Keeps}
use Rattle.shard_store.specs.Shelved.{name_at}
use Rattle.entity_cells.specs.Celled.{Celled, celled, celled_after, celled_at}
use Rattle.shard_entities.specs.Placed.{IsPlace}
use Rattle.shard_entities.specs.declared.place.Place.{Place}
use Rattle.shard_entities.specs.declared.hosting.Hosting.{Hosting}
use Rattle.shard_entities.specs.Lodged.{Lodged, lodged, moved, rooms_step, IsLodged, IsCell, IsFolded, is_for, host_of, cell_of, new_celled, hosted_of, room_of}

-- The cell at a place.

-- a place of the script that contracts see is one of the script that is kept
pub placed : {c : Script} {version : ℕ} {who : Incarnation} {config : Config} {places : Script} {cells : List Celled} {items : List (Option Hosting)} {running : ℕ} {v : Lodged} {p : Place} → IsLodged c version who config places cells items running → lodged c version who items cells ≡ v → IsPlace v.script p → IsPlace c p
placed {c} {version} {who} {config} {places} {cells} {items} {running} {v} {p} t seen is = subst (λ (v : Lodged). IsPlace v.script p) (sym seen) is

pub within : {c : Script} {version : ℕ} {who : Incarnation} {config : Config} {places : Script} {cells : List Celled} {items : List (Option Hosting)} {running : ℕ} {v : Lodged} {p : Place} → IsLodged c version who config places cells items running → lodged c version who items cells ≡ v → IsPlace v.script p → p.at < length cells
within {c} {version} {who} {config} {places} {cells} {items} {running} {v} {p} t seen is = subst (λ n. p.at < n) (sym t.there) (placed t seen is).here.within

-- the cell at a place is that of its entity
pub cell_at : {c : Script} {version : ℕ} {who : Incarnation} {config : Config} {places : Script} {cells : List Celled} {items : List (Option Hosting)} {running : ℕ} {v : Lodged} {p : Place} {was : Celled}
    → IsLodged c version who config places cells items running → lodged c version who items cells ≡ v → IsPlace v.script p → was ≡ slice_index_or cells p.at was → cell v.state p.entity ≡ was.cell
cell_at {c} {version} {who} {config} {places} {cells} {items} {running} {v} {p} {was} t seen is read =
    let here : IsPlace c p = placed t seen is in
    subst (λ (v : Lodged). cell v.state p.entity ≡ was.cell) seen
    (ap (λ n. slice_index_or (map cell_of cells) n (new_cell (setting c))) (sym here.at_is)
    ∙ (get_or-map cell_of cells p.at was (new_cell (setting c)) (within t seen is) ∙ ap cell_of (sym read)))

-- and it stands
pub cell_is : {c : Script} {version : ℕ} {who : Incarnation} {config : Config} {places : Script} {cells : List Celled} {items : List (Option Hosting)} {running : ℕ} {v : Lodged} {p : Place} {was : Celled}
    → IsLodged c version who config places cells items running → lodged c version who items cells ≡ v → IsPlace v.script p → was ≡ slice_index_or cells p.at was → IsCell c p.entity (at items p.shard) was
cell_is {c} {version} {who} {config} {places} {cells} {items} {running} {v} {p} {was} t seen is read =
    let here : IsPlace c p = placed t seen is in
    let kept : slice_index_or cells p.at (new_celled c) ≡ was = get_or_default cells p.at (new_celled c) was (within t seen is) ∙ sym read in
    subst (λ s. IsCell c p.entity (at items s) was) (sym here.shard_is)
    (subst (λ e. IsCell c e (host_of c items e) was) here.here.it (subst (IsCell c (name_at (setting c).names p.at) (host_of c items (name_at (setting c).names p.at))) kept (t.each p.at here.here.within)))

-- what is read at a place is there, whatever would be read past the end
pub cell_read : {c : Script} {version : ℕ} {who : Incarnation} {config : Config} {places : Script} {cells : List Celled} {items : List (Option Hosting)} {running : ℕ} {v : Lodged} {p : Place} → IsLodged c version who config places cells items running → lodged c version who items cells ≡ v → IsPlace v.script p → celled_at cells p.at ≡ slice_index_or cells p.at (celled_at cells p.at)
cell_read {c} {version} {who} {config} {places} {cells} {items} {running} {v} {p} t seen is = get_or_default cells p.at (celled 0 0) (celled_at cells p.at) (within t seen is)

pub window_is : {c : Script} {version : ℕ} {who : Incarnation} {config : Config} {places : Script} {cells : List Celled} {items : List (Option Hosting)} {running : ℕ} {v : Lodged} {p : Place} → IsLodged c version who config places cells items running → lodged c version who items cells ≡ v → IsPlace v.script p → (celled_at cells p.at).window ≡ v.script.config.window
window_is {c} {version} {who} {config} {places} {cells} {items} {running} {v} {p} t seen is = (cell_is t seen is (cell_read t seen is)).window_is ∙ ap (λ (v : Lodged). v.script.config.window) seen

-- a script has producers
producers_some : (c : Script) → IsScript c → 0 < c.config.producers
producers_some c k =
    let a : _ × _ = and_both _ (is_in 1 10 c.config.keep) k.config in
    let b : _ × _ = and_both _ (is_in 1 10000 c.config.snapshot) a.0 in
    let d : _ × _ = and_both _ (is_in 1 64 c.config.window) b.0 in
    let e : _ × _ = and_both _ (is_in 1 1000 c.config.buffer) d.0 in
    at_least c.config.producers (and_both _ (is_in 1 32 c.config.producers) e.0).1
  where
    at_least : (n : ℕ) → is_in 1 32 n ≡ true → 0 < n
    at_least n h = grind (arith, nat_tests)

pub reach_inside : (q : ℕ) {c : Script} {version : ℕ} {who : Incarnation} {config : Config} {places : Script} {cells : List Celled} {items : List (Option Hosting)} {running : ℕ} {v : Lodged} {p : Place} → IsLodged c version who config places cells items running → lodged c version who items cells ≡ v → IsPlace v.script p → q ≤ v.script.config.producers → q - 1 < length (celled_at cells p.at).cell.reach
reach_inside q {c} {version} {who} {config} {places} {cells} {items} {running} {v} {p} t seen is most =
    let there : length (celled_at cells p.at).cell.reach ≡ c.config.producers = (cell_is t seen is (cell_read t seen is)).reach_there in
    let same : c.config.producers ≡ v.script.config.producers = ap (λ (v : Lodged). v.script.config.producers) seen in
    let some : 0 < c.config.producers = producers_some c t.script_is in
    omega (arith, there, same, most, some)

pub stash_inside : {c : Script} {version : ℕ} {who : Incarnation} {config : Config} {places : Script} {cells : List Celled} {items : List (Option Hosting)} {running : ℕ} {v : Lodged} {p : Place} → IsLodged c version who config places cells items running → lodged c version who items cells ≡ v → IsPlace v.script p → length (cell v.state p.entity).stash < v.script.config.window → length (celled_at cells p.at).cell.stash < (celled_at cells p.at).window
stash_inside {c} {version} {who} {config} {places} {cells} {items} {running} {v} {p} t seen is some =
    subst (λ n. length (celled_at cells p.at).cell.stash < n) (sym (window_is t seen is)) (subst (λ (x : Cell). length x.stash < v.script.config.window) (cell_at t seen is (cell_read t seen is)) some)

abbrev held : List Message → ℕ → Held
held messages window = record { messages = messages; window = window }

pub pending_is : {c : Script} {version : ℕ} {who : Incarnation} {config : Config} {places : Script} {cells : List Celled} {items : List (Option Hosting)} {running : ℕ} {v : Lodged} {p : Place} → IsLodged c version who config places cells items running → lodged c version who items cells ≡ v → IsPlace v.script p → held (celled_at cells p.at).cell.stash (celled_at cells p.at).window ≡ held (cell v.state p.entity).stash v.script.config.window
pending_is {c} {version} {who} {config} {places} {cells} {items} {running} {v} {p} t seen is = ap (λ n. held (celled_at cells p.at).cell.stash n) (window_is t seen is) ∙ ap (λ (x : Cell). held x.stash v.script.config.window) (sym (cell_at t seen is (cell_read t seen is)))

abbrev StandsAt : Script → List (Option Hosting) → ℕ → Celled → Type 0
StandsAt c items j x = IsCell c (name_at (setting c).names j) (host_of c items (name_at (setting c).names j)) x

-- another cell stands there
pub cell_put : {c : Script} {version : ℕ} {who : Incarnation} {config : Config} {places : Script} {cells : List Celled} {items : List (Option Hosting)} {running : ℕ} {v : Lodged} {p : Place} {now : Celled}
    → IsLodged c version who config places cells items running → lodged c version who items cells ≡ v → IsPlace v.script p → IsCell c p.entity (at items p.shard) now → IsLodged c version who config places (slice_set cells p.at now) items running
cell_put {c} {version} {who} {config} {places} {cells} {items} {running} {v} {p} {now} t seen is new = record {
  script_is = t.script_is;
  admitted = t.admitted;
  config_is = t.config_is;
  places_are = t.places_are;
  sorted = t.sorted;
  there = length-set cells p.at now ∙ t.there;
  shards_there = t.shards_there;
  each = λ j inside. at_place j inside (j == p.at) refl;
  hosts = t.hosts;
  runs = t.runs;
}
  where
    here : IsPlace c p
    here = placed t seen is

    new_at : StandsAt c items p.at now
    new_at = subst (λ e. IsCell c e (host_of c items e) now) (sym here.here.it) (subst (λ s. IsCell c p.entity (at items s) now) here.shard_is new)

    at_place : (j : ℕ) → j < length (setting c).names → (b : Bool) → (j == p.at) ≡ b → StandsAt c items j (slice_index_or (slice_set cells p.at now) j (new_celled c))
    at_place j inside true e = rw (same_number j p.at e) (rw (get_or-set_same cells p.at now (new_celled c) (within t seen is)) new_at)
    at_place j inside false e = rw (get_or-set_other cells p.at j now (new_celled c) (other_number j p.at e)) (t.each j inside)

-- a move that is of one entity, and of no shard
pub record IsOf (e : List ℕ) (m : Move) : Type 0 where
  pub of_is : entity_of m ≡ Some e
  pub hosted_is : (set : Setting) (old : List (Option Hosted)) → hosted_step set old m ≡ old
  pub rooms_is : (set : Setting) (old : List ℕ) → rooms_step set old m ≡ old

-- the cell of its entity changes as the move says, and nothing else
pub cell_moved : {c : Script} {version : ℕ} {who : Incarnation} {config : Config} {places : Script} {cells : List Celled} {items : List (Option Hosting)} {running : ℕ} {v : Lodged} {p : Place} {was now : Celled} {m : Move} → IsOf p.entity m
    → IsLodged c version who config places cells items running → lodged c version who items cells ≡ v → IsPlace v.script p → was ≡ slice_index_or cells p.at was → now ≡ celled_after was m
    → lodged c version who items (slice_set cells p.at now) ≡ moved v (m ∷ [])
cell_moved {c} {version} {who} {config} {places} {cells} {items} {running} {v} {p} {was} {now} {m} of t seen is read step =
    let here : IsPlace c p = placed t seen is in
    let old : cell_in (setting c) (map cell_of cells) p.entity ≡ was.cell = subst (λ (v : Lodged). cell v.state p.entity ≡ was.cell) (sym seen) (cell_at t seen is read) in
    subst (λ (v : Lodged). lodged c version who items (slice_set cells p.at now) ≡ moved v (m ∷ [])) seen
    (ap (λ l. record { script = c; state = record { who = who; set = setting c; version = version; hosted = map (option_map hosted_of) items; cells = l }; rooms = map room_of items })
    (map-set cell_of cells p.at now ∙ (ap (λ n. slice_set (map cell_of cells) n now.cell) here.at_is
    ∙ ap (λ x. slice_set (map cell_of cells) (place (setting c) p.entity) x) (ap cell_of step ∙ ap (λ x. cell_after x m) (sym old))))
    ∙ (ap (λ o. record { script = c; state = record { who = who; set = setting c; version = version; hosted = map (option_map hosted_of) items; cells = cells_by (setting c) (map cell_of cells) m o }; rooms = map room_of items }) (sym of.of_is)
    ∙ (ap (λ h. record { script = c; state = record { who = who; set = setting c; version = version; hosted = h; cells = cells_step (setting c) (map cell_of cells) m }; rooms = map room_of items }) (sym (of.hosted_is (setting c) (map (option_map hosted_of) items)))
    ∙ ap (λ r. record { script = c; state = entities_after (lodged c version who items cells).state m; rooms = r }) (sym (of.rooms_is (setting c) (map room_of items))))))

pub cell_kept : {c : Script} {e : List ℕ} {o : Option Hosting} {was now : Celled} {m : Move} → Keeps m → now ≡ celled_after was m → IsCell c e o was → IsCell c e o now
cell_kept {c} {e} {o} {was} {now} {m} k step old = subst (IsCell c e o) (sym step) record {
  window_is = old.window_is;
  reach_there = k.reach_is was.cell.reach ∙ old.reach_there;
  stash_is = ap (list_all (is_for c e)) (k.stash_is was.cell.phase was.cell.stash) ∙ old.stash_is;
  clear = λ active. k.stash_is was.cell.phase was.cell.stash ∙ old.clear (k.phase_is was.cell.phase active);
  folds = λ active. subst (λ (x : Celled). IfSome o (IsFolded c e x)) refl (folds_same o (old.folds (k.phase_is was.cell.phase active)));
}
  where
    folds_same : (o : Option Hosting) → IfSome o (IsFolded c e was) → IfSome o (IsFolded c e (celled_after was m))
    folds_same None f = f
    folds_same (Some h) f = record { state_is = f.state_is; valid = f.valid }

pub stands : {c : Script} {version : ℕ} {who : Incarnation} {config : Config} {places : Script} {cells : List Celled} {items : List (Option Hosting)} {running : ℕ} {v : Lodged} {p : Place} {was now : Celled} {m : Move} → Keeps m
    → IsLodged c version who config places cells items running → lodged c version who items cells ≡ v → IsPlace v.script p → was ≡ slice_index_or cells p.at was → now ≡ celled_after was m
    → IsLodged c version who config places (slice_set cells p.at now) items running
stands k t seen is read step = cell_put t seen is (cell_kept k step (cell_is t seen is read))

and_true : (a : Bool) → a ≡ true → (a && true) ≡ true
and_true a h = ap (λ b. b && true) h

-- a message more is stashed, while no command is at work
pub stashed_cell : (x : Incarnation) (m : Message) {c : Script} {version : ℕ} {who : Incarnation} {config : Config} {places : Script} {cells : List Celled} {items : List (Option Hosting)} {running : ℕ} {v : Lodged} {p : Place} {was now : Celled}
    → IsLodged c version who config places cells items running → lodged c version who items cells ≡ v → IsPlace v.script p → was ≡ slice_index_or cells p.at was → now ≡ celled_after was (told (fact.Stashed x m))
    → is_for v.script p.entity m ≡ true → ((cell v.state p.entity).phase ≡ phase.Active → ⊥) → IsCell c p.entity (at items p.shard) now
stashed_cell x m {c} {version} {who} {config} {places} {cells} {items} {running} {v} {p} {was} {now} t seen is read step for idle =
    let old : IsCell c p.entity (at items p.shard) was = cell_is t seen is read in
    let not_active : was.cell.phase ≡ phase.Active → ⊥ = λ active. idle (ap (λ (x : Cell). x.phase) (cell_at t seen is read) ∙ active) in
    subst (IsCell c p.entity (at items p.shard)) (sym step) record {
      window_is = old.window_is;
      reach_there = old.reach_there;
      stash_is = list_all-append (is_for c p.entity) was.cell.stash (m ∷ []) ∙ both (list_all (is_for c p.entity) was.cell.stash) _ old.stash_is (and_true (is_for c p.entity m) (subst (λ (s : Script). is_for s p.entity m ≡ true) (ap (λ (v : Lodged). v.script) (sym seen)) for));
      clear = λ active. absurd (not_active active);
      folds = λ active. absurd (not_active active);
    }

-- it takes commands, at the state that its journal leads to, and its stash is taken out
pub active_cell : (x : Incarnation) (e : List ℕ) (n : ℕ) (st : State) {c : Script} {version : ℕ} {who : Incarnation} {config : Config} {places : Script} {cells : List Celled} {items : List (Option Hosting)} {running : ℕ} {v : Lodged} {p : Place} {was now : Celled}
    → IsLodged c version who config places cells items running → lodged c version who items cells ≡ v → IsPlace v.script p → was ≡ slice_index_or cells p.at was
    → now ≡ record { cell = cell_after was.cell (told (fact.Active x e n st)); state = st; window = was.window }
    → st ≡ folded v.script.config.kind (journal p.entity (entries v.state p.entity)) → is_valid v.script.config.kind st ≡ true → IsCell c p.entity (at items p.shard) now
active_cell x e n st {c} {version} {who} {config} {places} {cells} {items} {running} {v} {p} {was} {now} t seen is read step leads valid =
    let old : IsCell c p.entity (at items p.shard) was = cell_is t seen is read in
    let here : IsPlace c p = placed t seen is in
    let inside : p.shard < length items = subst (λ n. p.shard < n) (sym t.shards_there) here.shard_in in
    let list : entries v.state p.entity ≡ entries_in (option_map hosted_of (at items p.shard)) =
    subst (λ (v : Lodged). entries v.state p.entity ≡ entries_in (option_map hosted_of (at items p.shard))) seen
    (ap (λ n. entries_in (at (map (option_map hosted_of) items) n)) (sym here.shard_is) ∙ ap entries_in (get_or-map (option_map hosted_of) items p.shard None None inside)) in
    let script : v.script ≡ c = ap (λ (v : Lodged). v.script) (sym seen) in
    subst (IsCell c p.entity (at items p.shard)) (sym step) record {
      window_is = old.window_is;
      reach_there = length-replicate (length was.cell.reach) 0 ∙ old.reach_there;
      stash_is = refl;
      clear = λ active. refl;
      folds = λ active. folds_at (at items p.shard) (subst (λ (s : Script). st ≡ folded s.config.kind (journal p.entity (entries_in (option_map hosted_of (at items p.shard))))) script (subst (λ l. st ≡ folded v.script.config.kind (journal p.entity l)) list leads)) (subst (λ (s : Script). is_valid s.config.kind st ≡ true) script valid);
    }
  where
    folds_at : (o : Option Hosting) → st ≡ folded c.config.kind (journal p.entity (entries_in (option_map hosted_of o))) → is_valid c.config.kind st ≡ true → IfSome o (IsFolded c p.entity (record { cell = cell_after was.cell (told (fact.Active x e n st)); state = st; window = was.window }))
    folds_at None leads valid = tt
    folds_at (Some h) leads valid = record { state_is = leads; valid = valid }

-- its value, whatever the state behind it
pub cell_moved_to : (st : State) {m : Move} {c : Script} {version : ℕ} {who : Incarnation} {config : Config} {places : Script} {cells : List Celled} {items : List (Option Hosting)} {running : ℕ} {v : Lodged} {p : Place} {was now : Celled} → IsOf p.entity m
    → IsLodged c version who config places cells items running → lodged c version who items cells ≡ v → IsPlace v.script p → was ≡ slice_index_or cells p.at was → now ≡ record { cell = cell_after was.cell m; state = st; window = was.window }
    → lodged c version who items (slice_set cells p.at now) ≡ moved v (m ∷ [])
cell_moved_to st {m} {c} {version} {who} {config} {places} {cells} {items} {running} {v} {p} {was} {now} of t seen is read step =
    ap (λ l. record { script = c; state = record { who = who; set = setting c; version = version; hosted = map (option_map hosted_of) items; cells = l }; rooms = map room_of items })
    (map-set cell_of cells p.at now ∙ (ap (slice_set (map cell_of cells) p.at) (ap cell_of step) ∙ sym (map-set cell_of cells p.at (celled_after was m))))
    ∙ cell_moved of t seen is read refl
