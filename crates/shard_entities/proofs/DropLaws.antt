-- What is stashed is dropped, and a cell is cleared.
use Rattle.std.proofs.Common.{◌≡◌, ℕ, List, [], ◌∷◌, length, map, sym, ap, subst, ◌∙◌, refl, true}
use Rattle.std.specs.Prelude.{Bool, ◌&&◌, ◌↔◌, Option, None, Some, IfSome, IfNone, IsNone, drop, take, slice_set, slice_index_or}
use Rattle.std.specs.Option.{option_map}
use Rattle.std.specs.List.{list_all}
use Rattle.std.proofs.lemmas.List.{map-set, length-replicate, set-get_or}
use Rattle.std.proofs.Math.Seq.{map-set_same}
use Rattle.yard_model.specs.declared.charter.Config.{Config}
use Rattle.yard_model.specs.declared.fact.Fact.TheVariants as fact
use Rattle.yard_model.specs.declared.incarnation.Incarnation.{Incarnation}
use Rattle.yard_model.specs.declared.input.Phase.{Phase}
use Rattle.yard_model.specs.declared.input.Phase.TheVariants as phase
use Rattle.yard_model.specs.declared.packet.Message.{Message}
use Rattle.yard_model.specs.Entities.{Cell, cell, cell_after, new_cell, stash_step}
use Rattle.yard_model.specs.Genuine.{is_genuine, is_producer}
use Rattle.yard_model.specs.Move.{told}
use Rattle.yard_model.specs.Script.{Script, setting, is_name}
use Rattle.yard_model.specs.Setting.{place}
use Rattle.yard_model.specs.Words.{at}
use Rattle.plain_laws.proofs.Booleans.{and_both, same_name}
use Rattle.entity_cells.specs.Celled.{Celled, celled, celled_after}
use Rattle.shard_entities.specs.Placed.{IsPlace}
use Rattle.shard_entities.specs.declared.place.Place.{Place}
use Rattle.shard_entities.specs.declared.hosting.Hosting.{Hosting}
use Rattle.shard_entities.specs.Lodged.{Lodged, lodged, moved, cleared, IsLodged, IsCell, is_for, cell_of, hosted_of, room_of}
use Rattle.shard_entities.proofs.LodgedLaws.{placed, cell_at, cell_is, cell_put, cell_moved}
use Rattle.shard_entities.proofs.MoveLaws.{of_dropped}

absent_not_active : {q : Phase} → q ≡ phase.Absent → q ≡ phase.Active → ⊥
absent_not_active a b = cc

all_later : (p : Message → Bool) (l : List Message) → list_all p l ≡ true → list_all p (drop 1 l) ≡ true
all_later p [] h = refl
all_later p (x ∷ xs) h = (and_both (p x) (list_all p xs) h).1

-- the cell without the oldest, while the entity doesn't exist
dropped_cell : (who : Incarnation) (m : Message) {c : Script} {e : List ℕ} {o : Option Hosting} {was : Celled} → was.cell.phase ≡ phase.Absent → IsCell c e o was → IsCell c e o (celled_after was (told (fact.Dropped who m)))
dropped_cell who m {c} {e} {o} {was} gone k = record {
  window_is = k.window_is;
  reach_there = k.reach_there;
  stash_is = ap (λ q. list_all (is_for c e) (stash_step q was.cell.stash (told (fact.Dropped who m)))) gone ∙ all_later (is_for c e) was.cell.stash k.stash_is;
  clear = λ active. absurd (absent_not_active gone active);
  folds = λ active. absurd (absent_not_active gone active);
}

-- a message is dropped of an entity that exists: nothing changes
kept_stash : (q : Phase) (l : List Message) (who : Incarnation) (m : Message) → (q ≡ phase.Absent → ⊥) → stash_step q l (told (fact.Dropped who m)) ≡ l
kept_stash phase.Absent l who m there = absurd (there refl)
kept_stash phase.Loading l who m there = refl
kept_stash phase.Active l who m there = refl
kept_stash phase.Stopping l who m there = refl

kept_cell : (x : Cell) (who : Incarnation) (m : Message) → (x.phase ≡ phase.Absent → ⊥) → cell_after x (told (fact.Dropped who m)) ≡ x
kept_cell x who m there = ap (λ (l : List Message). record { phase = x.phase; passivating = x.passivating; stash = l; armed = x.armed; reach = x.reach }) (kept_stash x.phase x.stash who m there)

pub dropped_stays : (v : Lodged) (m : Message) {e : List ℕ} → m.entity ≡ e → ((cell v.state e).phase ≡ phase.Absent → ⊥) → v ≡ moved v (told (fact.Dropped v.state.who m) ∷ [])
dropped_stays v m {e} same there =
    let it : (cell v.state m.entity).phase ≡ phase.Absent → ⊥ = subst (λ n. (cell v.state n).phase ≡ phase.Absent → ⊥) (sym same) there in
    ap (λ (l : List Cell). record { script = v.script; state = record { who = v.state.who; set = v.state.set; version = v.state.version; hosted = v.state.hosted; cells = l }; rooms = v.rooms })
    (sym (ap (λ (x : Cell). slice_set v.state.cells (place v.state.set m.entity) x) (kept_cell (cell v.state m.entity) v.state.who m it) ∙ set-get_or v.state.cells (place v.state.set m.entity) (new_cell v.state.set)))

pub dropped_stands : (r : Option Message) (now : Celled) {c : Script} {version : ℕ} {who : Incarnation} {config : Config} {places : Script} {cells : List Celled} {items : List (Option Hosting)} {running : ℕ} {v : Lodged} {p : Place} {was : Celled}
    → IsLodged c version who config places cells items running → lodged c version who items cells ≡ v → IsPlace v.script p → was ≡ slice_index_or cells p.at was → (cell v.state p.entity).phase ≡ phase.Absent
    → IfSome r (λ m. (x : Incarnation) → now ≡ celled_after was (told (fact.Dropped x m))) → IfNone r (now ≡ was) → IsLodged c version who config places (slice_set cells p.at now) items running
dropped_stands (Some m) now {c} {version} {who} {config} {places} {cells} {items} {running} {v} {p} {was} t seen is read gone step none =
    cell_put t seen is (subst (IsCell c p.entity (at items p.shard)) (sym (step who)) (dropped_cell who m (sym (ap (λ (x : Cell). x.phase) (cell_at t seen is read)) ∙ gone) (cell_is t seen is read)))
dropped_stands None now {c} {version} {who} {config} {places} {cells} {items} {running} {v} {p} {was} t seen is read gone step none =
    cell_put t seen is (subst (IsCell c p.entity (at items p.shard)) (sym none) (cell_is t seen is read))

pub dropped_moved : (r : Option Message) (now : Celled) {c : Script} {version : ℕ} {who : Incarnation} {config : Config} {places : Script} {cells : List Celled} {items : List (Option Hosting)} {running : ℕ} {v : Lodged} {p : Place} {was : Celled}
    → IsLodged c version who config places cells items running → lodged c version who items cells ≡ v → IsPlace v.script p → was ≡ slice_index_or cells p.at was
    → IsNone r ↔ (was.cell.stash ≡ []) → IfSome r (λ m. was.cell.stash ≡ m ∷ drop 1 was.cell.stash) → IfSome r (λ m. (x : Incarnation) → now ≡ celled_after was (told (fact.Dropped x m))) → IfNone r (now ≡ was)
    → lodged c version who items (slice_set cells p.at now) ≡ moved v (map (λ m. told (fact.Dropped v.state.who m)) (take 1 (cell v.state p.entity).stash))
dropped_moved (Some m) now {c} {version} {who} {config} {places} {cells} {items} {running} {v} {p} {was} t seen is read empty oldest step none =
    let own : list_all (is_for c p.entity) (m ∷ drop 1 was.cell.stash) ≡ true = subst (λ l. list_all (is_for c p.entity) l ≡ true) oldest (cell_is t seen is read).stash_is in
    let name : is_name m.entity p.entity ≡ true = (and_both (is_genuine c m && is_producer c m.producer) (is_name m.entity p.entity) (and_both (is_for c p.entity m) _ own).0).1 in
    let stash : (cell v.state p.entity).stash ≡ m ∷ drop 1 was.cell.stash = ap (λ (x : Cell). x.stash) (cell_at t seen is read) ∙ oldest in
    cell_moved (of_dropped v.state.who (same_name m.entity p.entity name)) t seen is read (step v.state.who)
    ∙ ap (λ (l : List Message). moved v (map (λ m. told (fact.Dropped v.state.who m)) (take 1 l))) (sym stash)
dropped_moved None now {c} {version} {who} {config} {places} {cells} {items} {running} {v} {p} {was} t seen is read empty oldest step none =
    let stash : (cell v.state p.entity).stash ≡ [] = ap (λ (x : Cell). x.stash) (cell_at t seen is read) ∙ empty.0 refl in
    ap (λ l. record { script = c; state = record { who = who; set = setting c; version = version; hosted = map (option_map hosted_of) items; cells = l }; rooms = map room_of items }) (map-set_same cell_of cells p.at now was (ap cell_of none ∙ ap cell_of read))
    ∙ (seen ∙ ap (λ (l : List Message). moved v (map (λ m. told (fact.Dropped v.state.who m)) (take 1 l))) (sym stash))

-- A cell of which nothing is known.

new_is : {c : Script} {e : List ℕ} {o : Option Hosting} {was now : Celled} → IsCell c e o was → now ≡ celled (length was.cell.reach) was.window → now ≡ celled c.config.producers c.config.window
new_is {c} {e} {o} {was} {now} k step = step ∙ (ap (λ n. celled n was.window) k.reach_there ∙ ap (celled c.config.producers) k.window_is)

pub new_stands : (c : Script) (e : List ℕ) (o : Option Hosting) → IsCell c e o (celled c.config.producers c.config.window)
new_stands c e o = record { window_is = refl; reach_there = length-replicate c.config.producers 0; stash_is = refl; clear = λ active. refl; folds = λ active. absurd (absent_not_active refl active) }

pub cleared_stands : {c : Script} {version : ℕ} {who : Incarnation} {config : Config} {places : Script} {cells : List Celled} {items : List (Option Hosting)} {running : ℕ} {v : Lodged} {p : Place} {was now : Celled}
    → IsLodged c version who config places cells items running → lodged c version who items cells ≡ v → IsPlace v.script p → was ≡ slice_index_or cells p.at was → now ≡ celled (length was.cell.reach) was.window → IsLodged c version who config places (slice_set cells p.at now) items running
cleared_stands {c} {version} {who} {config} {places} {cells} {items} {running} {v} {p} {was} {now} t seen is read step = cell_put t seen is (subst (IsCell c p.entity (at items p.shard)) (sym (new_is (cell_is t seen is read) step)) (new_stands c p.entity (at items p.shard)))

pub cleared_moved : {c : Script} {version : ℕ} {who : Incarnation} {config : Config} {places : Script} {cells : List Celled} {items : List (Option Hosting)} {running : ℕ} {v : Lodged} {p : Place} {was now : Celled}
    → IsLodged c version who config places cells items running → lodged c version who items cells ≡ v → IsPlace v.script p → was ≡ slice_index_or cells p.at was → now ≡ celled (length was.cell.reach) was.window → lodged c version who items (slice_set cells p.at now) ≡ cleared v (p.entity ∷ [])
cleared_moved {c} {version} {who} {config} {places} {cells} {items} {running} {v} {p} {was} {now} t seen is read step =
    let here : IsPlace c p = placed t seen is in
    subst (λ (v : Lodged). lodged c version who items (slice_set cells p.at now) ≡ cleared v (p.entity ∷ [])) seen
    (ap (λ l. record { script = c; state = record { who = who; set = setting c; version = version; hosted = map (option_map hosted_of) items; cells = l }; rooms = map room_of items })
    (map-set cell_of cells p.at now ∙ (ap (λ x. slice_set (map cell_of cells) p.at x) (ap cell_of (new_is (cell_is t seen is read) step)) ∙ ap (λ n. slice_set (map cell_of cells) n (new_cell (setting c))) here.at_is)))

-- what is stashed is for the entity
pub stash_own : {c : Script} {version : ℕ} {who : Incarnation} {config : Config} {places : Script} {cells : List Celled} {items : List (Option Hosting)} {running : ℕ} {v : Lodged} {p : Place} {was : Celled}
    → IsLodged c version who config places cells items running → lodged c version who items cells ≡ v → IsPlace v.script p → was ≡ slice_index_or cells p.at was → list_all (is_for v.script p.entity) (cell v.state p.entity).stash ≡ true
stash_own {c} {version} {who} {config} {places} {cells} {items} {running} {v} {p} {was} t seen is read =
    subst (λ (s : Script). list_all (is_for s p.entity) (cell v.state p.entity).stash ≡ true) (ap (λ (v : Lodged). v.script) seen)
    (ap (λ (x : Cell). list_all (is_for c p.entity) x.stash) (cell_at t seen is read) ∙ (cell_is t seen is read).stash_is)
