-- A shard changes: it is hosted, it stops, or its store gets room.
use Rattle.std.proofs.Common.{◌≡◌, ◌≢◌, ℕ, ◌<◌, ◌≤◌, List, [], ◌∷◌, length, map, sym, ap, subst, ◌∙◌, refl, true, false, arith, get_or-set_same, get_or-set_other}
use Rattle.std.specs.Prelude.{Bool, zero, suc, ◌==◌, ◌+◌, not, is_none, nat_lt, Option, None, Some, IfSome, slice_set, slice_index_or}
use Rattle.std.specs.Option.{option_map}
use Rattle.std.proofs.lemmas.Bool.Decides.{nat_tests}
use Rattle.std.proofs.lemmas.List.{map-set, length-set, length-map, get_or-map, get_or_default}
use Rattle.std.proofs.Math.Seq.{map-set_same}
use Rattle.yard_model.specs.declared.charter.Config.{Config}
use Rattle.yard_model.specs.declared.incarnation.Incarnation.{Incarnation}
use Rattle.yard_model.specs.declared.input.Phase.TheVariants as phase
use Rattle.yard_model.specs.Entities.{Cell, Hosted, hosted, is_running_in, hosted_step, new_cell}
use Rattle.yard_model.specs.Move.{handed_off}
use Rattle.yard_model.specs.Script.{Script, setting}
use Rattle.yard_model.specs.Setting.{shard_of}
use Rattle.yard_model.specs.ShardSet.{has}
use Rattle.yard_model.specs.SlotReads.{holder}
use Rattle.yard_model.specs.Words.{at}
use Rattle.shard_store.specs.Shelved.{name_at}
use Rattle.entity_cells.specs.Celled.{Celled}
use Rattle.shard_entities.specs.Settled.{IsSettled, IsQuiet}
use Rattle.shard_entities.specs.Roomy.{AreReserved, IsReserved, AreMore, with_room}
use Rattle.shard_entities.specs.Written.{ended}
use Rattle.shard_entities.specs.declared.hosting.Ending.{Ending}
use Rattle.shard_entities.specs.declared.hosting.Hosting.{Hosting}
use Rattle.shard_entities.specs.Lodged.{Lodged, lodged, moved, hosting, IsLodged, IsCell, IsHosting, host_of, cell_of, new_celled, hosted_of, room_of, stopping_of}
use Rattle.plain_laws.proofs.Booleans.{same_number, other_number}
use Rattle.shard_entities.proofs.TakenLaws.{shards_most, shard_read}

-- another hosting stands there
pub shard_put : {c : Script} {version : ℕ} {who : Incarnation} {config : Config} {places : Script} {cells : List Celled} {items : List (Option Hosting)} {running new_running : ℕ} (s : ℕ) (new : Option Hosting) → IsLodged c version who config places cells items running → s < c.config.shards
    → ((j : ℕ) → j < length (setting c).names → shard_of (setting c) (name_at (setting c).names j) ≡ s → IsCell c (name_at (setting c).names j) (at items s) (slice_index_or cells j (new_celled c)) → IsCell c (name_at (setting c).names j) new (slice_index_or cells j (new_celled c)))
    → IfSome new (IsHosting c who s) → has new_running s ≡ is_running_in (option_map hosted_of new) → ((t : ℕ) → t < 128 → t ≢ s → has new_running t ≡ has running t)
    → IsLodged c version who config places cells (slice_set items s new) new_running
shard_put {c} {version} {who} {config} {places} {cells} {items} {running} {new_running} s new k lt goes its runs others = record {
  script_is = k.script_is;
  admitted = k.admitted;
  config_is = k.config_is;
  places_are = k.places_are;
  sorted = k.sorted;
  there = k.there;
  shards_there = length-set items s new ∙ k.shards_there;
  each = λ j within. cell_at_shard j within (shard_of (setting c) (name_at (setting c).names j) == s) refl (k.each j within);
  hosts = λ t. host_at_shard t (t == s) refl;
  runs = λ t below. runs_at t below (t == s) refl;
}
  where
    inside : s < length items
    inside = subst (λ n. s < n) (sym k.shards_there) lt

    here : at (slice_set items s new) s ≡ new
    here = get_or-set_same items s new None inside

    there_still : (t : ℕ) → (t == s) ≡ false → at (slice_set items s new) t ≡ at items t
    there_still t e = get_or-set_other items s t new None (other_number t s e)

    cell_at_shard : (j : ℕ) → j < length (setting c).names → (b : Bool) → (shard_of (setting c) (name_at (setting c).names j) == s) ≡ b → IsCell c (name_at (setting c).names j) (host_of c items (name_at (setting c).names j)) (slice_index_or cells j (new_celled c))
        → IsCell c (name_at (setting c).names j) (host_of c (slice_set items s new) (name_at (setting c).names j)) (slice_index_or cells j (new_celled c))
    cell_at_shard j within true e old =
        let it : shard_of (setting c) (name_at (setting c).names j) ≡ s = same_number (shard_of (setting c) (name_at (setting c).names j)) s e in
        subst (λ x. IsCell c (name_at (setting c).names j) x (slice_index_or cells j (new_celled c))) (sym (ap (at (slice_set items s new)) it ∙ here))
        (goes j within it (subst (λ t. IsCell c (name_at (setting c).names j) (at items t) (slice_index_or cells j (new_celled c))) it old))
    cell_at_shard j within false e old = subst (λ x. IsCell c (name_at (setting c).names j) x (slice_index_or cells j (new_celled c))) (sym (there_still (shard_of (setting c) (name_at (setting c).names j)) e)) old

    host_at_shard : (t : ℕ) (b : Bool) → (t == s) ≡ b → IfSome (at (slice_set items s new) t) (IsHosting c who t)
    host_at_shard t true e = rw (same_number t s e) (subst (λ x. IfSome x (IsHosting c who s)) (sym here) its)
    host_at_shard t false e = subst (λ x. IfSome x (IsHosting c who t)) (sym (there_still t e)) (k.hosts t)

    runs_at : (t : ℕ) → t < c.config.shards → (b : Bool) → (t == s) ≡ b → has new_running t ≡ is_running_in (option_map hosted_of (at (slice_set items s new) t))
    runs_at t below true e = rw (same_number t s e) (runs ∙ ap (λ x. is_running_in (option_map hosted_of x)) (sym here))
    runs_at t below false e =
        let most : c.config.shards ≤ 128 = shards_most c k.script_is in
        others t (omega (arith, below, most)) (other_number t s e) ∙ (k.runs t below ∙ ap (λ x. is_running_in (option_map hosted_of x)) (sym (there_still t e)))

pub shard_below : {c : Script} {version : ℕ} {who : Incarnation} (cells : List Celled) (items : List (Option Hosting)) {v : Lodged} {s : ℕ} → lodged c version who items cells ≡ v → s < v.script.config.shards → s < c.config.shards
shard_below {c} {version} {who} cells items {v} {s} seen lt = subst (λ (x : Script). s < x.config.shards) (ap (λ (v : Lodged). v.script) (sym seen)) lt

-- It stops.

cell_ended : (x : Ending) (c : Script) (e : List ℕ) (y : Celled) (o : Option Hosting) → IsCell c e o y → IsCell c e (option_map (ended x) o) y
cell_ended x c e y None k = k
cell_ended x c e y (Some h) k = record { window_is = k.window_is; reach_there = k.reach_there; stash_is = k.stash_is; clear = k.clear; folds = λ active. record { state_is = (k.folds active).state_is; valid = (k.folds active).valid } }

host_ended : (x : Ending) (c : Script) (who : Incarnation) (s : ℕ) (o : Option Hosting) → IfSome o (IsHosting c who s) → IfSome (option_map (ended x) o) (IsHosting c who s)
host_ended x c who s None k = k
host_ended x c who s (Some h) k = record { script_is = k.script_is; shard_is = k.shard_is; leased = k.leased }

ended_runs : (x : Ending) (o : Option Hosting) → is_running_in (option_map hosted_of (option_map (ended x) o)) ≡ false
ended_runs x None = refl
ended_runs x (Some h) = refl

pub ended_stands : (x : Ending) {c : Script} {version : ℕ} {who : Incarnation} {config : Config} {places : Script} {cells : List Celled} {items : List (Option Hosting)} {running new_running : ℕ} {v : Lodged} {s i : ℕ} {o new : Option Hosting}
    → IsLodged c version who config places cells items running → lodged c version who items cells ≡ v → s < v.script.config.shards → i ≡ s → o ≡ slice_index_or items i o → new ≡ option_map (ended x) o
    → has new_running s ≡ false → ((t : ℕ) → t < 128 → t ≢ s → has new_running t ≡ has running t) → IsLodged c version who config places cells (slice_set items i new) new_running
ended_stands x {c} {version} {who} {config} {places} {cells} {items} {running} {new_running} {v} {s} {i} {o} {new} k seen lt same read step out others =
    let was : at items s ≡ o = (shard_read k seen lt same read).1 in
    subst (λ n. IsLodged c version who config places cells (slice_set items n new) new_running) (sym same)
    (shard_put s new k (shard_below cells items seen lt)
    (λ j within it old. subst (λ y. IsCell c (name_at (setting c).names j) y (slice_index_or cells j (new_celled c))) (sym step) (cell_ended x c (name_at (setting c).names j) (slice_index_or cells j (new_celled c)) o (subst (λ y. IsCell c (name_at (setting c).names j) y (slice_index_or cells j (new_celled c))) was old)))
    (subst (λ y. IfSome y (IsHosting c who s)) (sym step) (host_ended x c who s o (subst (λ y. IfSome y (IsHosting c who s)) was (k.hosts s))))
    (out ∙ sym (ap (λ y. is_running_in (option_map hosted_of y)) step ∙ ended_runs x o)) others)

abbrev stopping_with : Ending → Hosted → Hosted
stopping_with x h = record { entries = h.entries; stopping = Some (stopping_of x) }

both_ended : (x : Ending) (o : Option Hosting) → option_map hosted_of (option_map (ended x) o) ≡ option_map (stopping_with x) (option_map hosted_of o)
both_ended x None = refl
both_ended x (Some h) = refl

room_ended : (x : Ending) (o : Option Hosting) → room_of (option_map (ended x) o) ≡ room_of o
room_ended x None = refl
room_ended x (Some h) = refl

pub ended_moved : (x : Ending) {c : Script} {version : ℕ} {who : Incarnation} {config : Config} {places : Script} {cells : List Celled} {items : List (Option Hosting)} {running : ℕ} {v : Lodged} {s i : ℕ} {o new : Option Hosting}
    → IsLodged c version who config places cells items running → lodged c version who items cells ≡ v → s < v.script.config.shards → i ≡ s → o ≡ slice_index_or items i o → new ≡ option_map (ended x) o
    → lodged c version who (slice_set items i new) cells ≡ moved v (handed_off s x.stamp x.to ∷ [])
ended_moved x {c} {version} {who} {config} {places} {cells} {items} {running} {v} {s} {i} {o} {new} k seen lt same read step =
    subst (λ (v : Lodged). lodged c version who (slice_set items i new) cells ≡ moved v (handed_off s x.stamp x.to ∷ [])) seen
    (ap (λ h. value h (map room_of (slice_set items i new))) hosts ∙ ap (λ r. value (hosted_step (setting c) (map (option_map hosted_of) items) (handed_off s x.stamp x.to)) r) rooms)
  where
    value : List (Option Hosted) → List ℕ → Lodged
    value h r = record { script = c; state = record { who = who; set = setting c; version = version; hosted = h; cells = map cell_of cells }; rooms = r }

    here : (s < length items) × (at items s ≡ o)
    here = shard_read k seen lt same read

    hosts : map (option_map hosted_of) (slice_set items i new) ≡ hosted_step (setting c) (map (option_map hosted_of) items) (handed_off s x.stamp x.to)
    hosts = map-set (option_map hosted_of) items i new
        ∙ (ap (λ y. slice_set (map (option_map hosted_of) items) i y) (ap (option_map hosted_of) step ∙ (both_ended x o ∙ ap (option_map (stopping_with x)) (sym (get_or-map (option_map hosted_of) items s None None here.0 ∙ ap (option_map hosted_of) here.1))))
        ∙ ap (λ n. slice_set (map (option_map hosted_of) items) n (option_map (stopping_with x) (at (map (option_map hosted_of) items) s))) same)

    rooms : map room_of (slice_set items i new) ≡ map room_of items
    rooms = map-set_same room_of items i new o ((ap room_of step ∙ room_ended x o) ∙ ap room_of read)

-- It is hosted.

cell_hosted : (h : Hosting) (c : Script) (e : List ℕ) (y : Celled) (o : Option Hosting) → (y.cell.phase ≡ phase.Active → ⊥) → IsCell c e o y → IsCell c e (Some h) y
cell_hosted h c e y o idle k = record { window_is = k.window_is; reach_there = k.reach_there; stash_is = k.stash_is; clear = k.clear; folds = λ active. absurd (idle active) }

absent_is_idle : (x : Cell) → x.phase ≡ phase.Absent → x.phase ≡ phase.Active → ⊥
absent_is_idle x a b = cc

-- the cell of a name, as it is seen
pub cell_seen : {c : Script} {version : ℕ} {who : Incarnation} {config : Config} {places : Script} {cells : List Celled} {items : List (Option Hosting)} {running : ℕ} {v : Lodged} → IsLodged c version who config places cells items running → lodged c version who items cells ≡ v → (j : ℕ) → j < length (setting c).names
    → slice_index_or v.state.cells j (new_cell v.state.set) ≡ (slice_index_or cells j (new_celled c)).cell
cell_seen {c} {version} {who} {config} {places} {cells} {items} {running} {v} k seen j within =
    subst (λ (v : Lodged). slice_index_or v.state.cells j (new_cell v.state.set) ≡ (slice_index_or cells j (new_celled c)).cell) seen
    (get_or-map cell_of cells j (new_celled c) (new_cell (setting c)) (subst (λ n. j < n) (sym k.there) within))

pub hosted_stands : {c : Script} {version : ℕ} {who : Incarnation} {config : Config} {places : Script} {cells : List Celled} {items : List (Option Hosting)} {running new_running : ℕ} {v : Lodged} {s i : ℕ} (h : Hosting)
    → IsLodged c version who config places cells items running → lodged c version who items cells ≡ v → s < v.script.config.shards → i ≡ s → hosted v.state s ≡ None → IsSettled v
    → h.store.script ≡ v.script → h.store.shard ≡ s → holder h.store.entries ≡ Some v.state.who → h.stopping ≡ None
    → has new_running s ≡ true → ((t : ℕ) → t < 128 → t ≢ s → has new_running t ≡ has running t) → IsLodged c version who config places cells (slice_set items i (Some h)) new_running
hosted_stands {c} {version} {who} {config} {places} {cells} {items} {running} {new_running} {v} {s} {i} h k seen lt same none settled script shard leased runs on others =
    subst (λ n. IsLodged c version who config places cells (slice_set items n (Some h)) new_running) (sym same)
    (shard_put s (Some h) k (shard_below cells items seen lt)
    (λ j within it old. cell_hosted h c (name_at (setting c).names j) (slice_index_or cells j (new_celled c)) (at items s) (idle j within it) old)
    (record { script_is = script ∙ ap (λ (v : Lodged). v.script) (sym seen); shard_is = shard; leased = leased ∙ ap (λ (v : Lodged). Some v.state.who) (sym seen) })
    (on ∙ sym (ap (λ (x : Option Ending). is_none (option_map stopping_of x)) runs)) others)
  where
    idle : (j : ℕ) → j < length (setting c).names → shard_of (setting c) (name_at (setting c).names j) ≡ s → (slice_index_or cells j (new_celled c)).cell.phase ≡ phase.Active → ⊥
    idle j within it =
        let quiet : IsQuiet (hosted (lodged c version who items cells).state (shard_of (setting c) (name_at (setting c).names j))) (slice_index_or (map cell_of cells) j (new_cell (setting c))) = subst IsSettled (sym seen) settled j within in
        let not_here : hosted (lodged c version who items cells).state (shard_of (setting c) (name_at (setting c).names j)) ≡ None = ap (hosted (lodged c version who items cells).state) it ∙ subst (λ (v : Lodged). hosted v.state s ≡ None) (sym seen) none in
        let gone : (slice_index_or cells j (new_celled c)).cell.phase ≡ phase.Absent = ap (λ (x : Cell). x.phase) (sym (get_or-map cell_of cells j (new_celled c) (new_cell (setting c)) (subst (λ n. j < n) (sym k.there) within))) ∙ quiet.at_home not_here in
        absent_is_idle (slice_index_or cells j (new_celled c)).cell gone

pub hosted_moved : {c : Script} {version : ℕ} {who : Incarnation} {config : Config} {places : Script} {cells : List Celled} {items : List (Option Hosting)} {running : ℕ} {v : Lodged} {s i : ℕ} (h : Hosting)
    → IsLodged c version who config places cells items running → lodged c version who items cells ≡ v → i ≡ s → h.stopping ≡ None → lodged c version who (slice_set items i (Some h)) cells ≡ hosting v s h.store
hosted_moved {c} {version} {who} {config} {places} {cells} {items} {running} {v} {s} {i} h k seen same runs =
    subst (λ (v : Lodged). lodged c version who (slice_set items i (Some h)) cells ≡ hosting v s h.store) seen
    (ap (λ l. value l (map room_of (slice_set items i (Some h)))) (map-set (option_map hosted_of) items i (Some h) ∙ (ap (λ n. slice_set (map (option_map hosted_of) items) n (Some (hosted_of h))) same ∙ ap (λ x. slice_set (map (option_map hosted_of) items) s (Some (record { entries = h.store.entries; stopping = option_map stopping_of x }))) runs))
    ∙ ap (λ r. value (slice_set (map (option_map hosted_of) items) s (Some (record { entries = h.store.entries; stopping = None }))) r) (map-set room_of items i (Some h) ∙ ap (λ n. slice_set (map room_of items) n h.store.spare) same))
  where
    value : List (Option Hosted) → List ℕ → Lodged
    value h r = record { script = c; state = record { who = who; set = setting c; version = version; hosted = h; cells = map cell_of cells }; rooms = r }

-- Each store gets room.

cell_roomy : (n : ℕ) (c : Script) (e : List ℕ) (y : Celled) (o : Option Hosting) → IsCell c e o y → IsCell c e (option_map (with_room n) o) y
cell_roomy n c e y None k = k
cell_roomy n c e y (Some h) k = record { window_is = k.window_is; reach_there = k.reach_there; stash_is = k.stash_is; clear = k.clear; folds = λ active. record { state_is = (k.folds active).state_is; valid = (k.folds active).valid } }

host_roomy : (n : ℕ) (c : Script) (who : Incarnation) (s : ℕ) (o : Option Hosting) → IfSome o (IsHosting c who s) → IfSome (option_map (with_room n) o) (IsHosting c who s)
host_roomy n c who s None k = k
host_roomy n c who s (Some h) k = record { script_is = k.script_is; shard_is = k.shard_is; leased = k.leased }

hosted_roomy : (n : ℕ) (o : Option Hosting) → option_map hosted_of (option_map (with_room n) o) ≡ option_map hosted_of o
hosted_roomy n None = refl
hosted_roomy n (Some h) = refl

pub reserved_stands : {c : Script} {version : ℕ} {who : Incarnation} {config : Config} {places : Script} {cells : List Celled} {items new : List (Option Hosting)} {running : ℕ} → IsLodged c version who config places cells items running → AreReserved items new → IsLodged c version who config places cells new running
reserved_stands {c} {version} {who} {config} {places} {cells} {items} {new} {running} k r = record {
  script_is = k.script_is;
  admitted = k.admitted;
  config_is = k.config_is;
  places_are = k.places_are;
  sorted = k.sorted;
  there = k.there;
  shards_there = r.there ∙ k.shards_there;
  each = λ j within. subst (λ x. IsCell c (name_at (setting c).names j) x (slice_index_or cells j (new_celled c))) (sym (r.each (shard_of (setting c) (name_at (setting c).names j))).same) (cell_roomy _ c (name_at (setting c).names j) (slice_index_or cells j (new_celled c)) (at items (shard_of (setting c) (name_at (setting c).names j))) (k.each j within));
  hosts = λ t. subst (λ x. IfSome x (IsHosting c who t)) (sym (r.each t).same) (host_roomy _ c who t (at items t) (k.hosts t));
  runs = λ t below. k.runs t below ∙ sym (ap (λ x. is_running_in (option_map hosted_of x)) (r.each t).same ∙ ap is_running_in (hosted_roomy _ (at items t)));
}

same_hosted : (items new : List (Option Hosting)) → length new ≡ length items → ((s : ℕ) → IsReserved (at items s) (at new s)) → map (option_map hosted_of) new ≡ map (option_map hosted_of) items
same_hosted [] [] long each = refl
same_hosted [] (y ∷ ys) long each = absurd (omega (arith, long))
same_hosted (x ∷ xs) [] long each = absurd (omega (arith, long))
same_hosted (x ∷ xs) (y ∷ ys) long each =
    ap (λ h. h ∷ map (option_map hosted_of) ys) (ap (option_map hosted_of) (each zero).same ∙ hosted_roomy _ x)
    ∙ ap (λ l. option_map hosted_of x ∷ l) (same_hosted xs ys (omega (arith, long)) (λ s. each (suc s)))

pub reserved_seen : {c : Script} {version : ℕ} {who : Incarnation} (cells : List Celled) {items new : List (Option Hosting)} {v : Lodged} → lodged c version who items cells ≡ v → AreReserved items new → lodged c version who new cells ≡ record { script = v.script; state = v.state; rooms = (lodged c version who new cells).rooms }
reserved_seen {c} {version} {who} cells {items} {new} {v} seen r =
    subst (λ (v : Lodged). lodged c version who new cells ≡ record { script = v.script; state = v.state; rooms = (lodged c version who new cells).rooms }) seen
    (ap (λ h. record { script = c; state = record { who = who; set = setting c; version = version; hosted = h; cells = map cell_of cells }; rooms = map room_of new }) (same_hosted items new r.there r.each))

room_at : (items : List (Option Hosting)) (s : ℕ) → slice_index_or (map room_of items) s 0 ≡ room_of (at items s)
room_at [] s = refl
room_at (x ∷ xs) zero = refl
room_at (x ∷ xs) (suc s) = room_at xs s

pub reserved_more : {c : Script} {version : ℕ} {who : Incarnation} (cells : List Celled) {items new : List (Option Hosting)} {v : Lodged} → lodged c version who items cells ≡ v → AreReserved items new → AreMore v.rooms (lodged c version who new cells).rooms
reserved_more {c} {version} {who} cells {items} {new} {v} seen r = subst (λ (v : Lodged). AreMore v.rooms (map room_of new)) seen record {
  there = length-map new room_of ∙ (r.there ∙ sym (length-map items room_of));
  each = λ s. rw (room_at items s) (rw (room_at new s) (r.each s).more);
}

pub at_seen : (items : List (Option Hosting)) (s : ℕ) → at (map (option_map hosted_of) items) s ≡ option_map hosted_of (at items s)
at_seen [] s = refl
at_seen (x ∷ xs) zero = refl
at_seen (x ∷ xs) (suc s) = at_seen xs s

-- a shard that is seen as hosted is
pub hosted_there : {c : Script} {version : ℕ} {who : Incarnation} (cells : List Celled) (items : List (Option Hosting)) {v : Lodged} (s : ℕ) → lodged c version who items cells ≡ v → (hosted v.state s ≡ None → ⊥) → at items s ≡ None → ⊥
hosted_there {c} {version} {who} cells items {v} s seen there none = there (subst (λ (v : Lodged). hosted v.state s ≡ None) seen (at_seen items s ∙ ap (option_map hosted_of) none))

pub room_seen : (items : List (Option Hosting)) (s n : ℕ) → n ≤ room_of (at items s) → n ≤ slice_index_or (map room_of items) s 0
room_seen items s n most = subst (λ x. n ≤ x) (sym (room_at items s)) most

-- Which are hosted.

-- of the first k shards, those that are hosted
pub record HasThese (items : List (Option Hosting)) (k set : ℕ) : Type 0 where
  pub below : (t : ℕ) → t < k → has set t ≡ not (is_none (at items t))
  pub above : (t : ℕ) → k ≤ t → has set t ≡ false

pub has_none : (items : List (Option Hosting)) (set : ℕ) → ((t : ℕ) → has set t ≡ false) → HasThese items 0 set
has_none items set none = record { below = λ t lt. absurd (omega (arith, lt)); above = λ t most. none t }

lt_of : (a b : ℕ) → nat_lt a b ≡ true → a < b
lt_of a b e = grind (arith, nat_tests)

le_of : (a b : ℕ) → nat_lt a b ≡ false → b ≤ a
le_of a b e = grind (arith, nat_tests)

pub has_it : (items : List (Option Hosting)) (k set new : ℕ) → HasThese items k set → is_none (at items k) ≡ false → has new k ≡ true → ((t : ℕ) → t ≢ k → has new t ≡ has set t) → HasThese items (k + 1) new
has_it items k set new old here it others = record {
  below = λ t lt. at_place t lt (t == k) refl;
  above = λ t most. others t (λ same. above_not k t most same) ∙ old.above t (omega (arith, most));
}
  where
    above_not : (k t : ℕ) → k + 1 ≤ t → t ≡ k → ⊥
    above_not k t most same = omega (arith, most, same)

    at_place : (t : ℕ) → t < k + 1 → (b : Bool) → (t == k) ≡ b → has new t ≡ not (is_none (at items t))
    at_place t lt true e = rw (same_number t k e) (it ∙ sym (ap not here))
    at_place t lt false e = others t (other_number t k e) ∙ old.below t (smaller (other_number t k e) lt)
      where
        smaller : t ≢ k → t < k + 1 → t < k
        smaller other lt = at_test (nat_lt t k) refl
          where
            at_test : (b : Bool) → nat_lt t k ≡ b → t < k
            at_test true e = lt_of t k e
            at_test false e = absurd (other (let up : k ≤ t = le_of t k e in omega (arith, up, lt)))

pub has_not : (items : List (Option Hosting)) (k set : ℕ) → HasThese items k set → is_none (at items k) ≡ true → HasThese items (k + 1) set
has_not items k set old here = record {
  below = λ t lt. at_place t lt (t == k) refl;
  above = λ t most. old.above t (omega (arith, most));
}
  where
    at_place : (t : ℕ) → t < k + 1 → (b : Bool) → (t == k) ≡ b → has set t ≡ not (is_none (at items t))
    at_place t lt true e = rw (same_number t k e) (old.above k (omega arith) ∙ sym (ap not here))
    at_place t lt false e = old.below t (smaller (other_number t k e) lt)
      where
        smaller : t ≢ k → t < k + 1 → t < k
        smaller other lt = at_test (nat_lt t k) refl
          where
            at_test : (b : Bool) → nat_lt t k ≡ b → t < k
            at_test true e = lt_of t k e
            at_test false e = absurd (other (let up : k ≤ t = le_of t k e in omega (arith, up, lt)))

-- Room, shard by shard.

same_reserved : (o : Option Hosting) → IsReserved o o
same_reserved None = record { same = refl; more = omega arith }
same_reserved (Some h) = record { same = refl; more = omega arith }

pub reserved_none : (items : List (Option Hosting)) → AreReserved items items
reserved_none items = record { there = refl; each = λ s. same_reserved (at items s) }

then_reserved : (a b d : Option Hosting) → IsReserved a b → IsReserved b d → IsReserved a d
then_reserved None b d x y = record { same = y.same ∙ ap (option_map (with_room (room_of d))) x.same; more = let first : 0 ≤ room_of b = x.more in omega arith }
then_reserved (Some h) b d x y = record { same = y.same ∙ ap (option_map (with_room (room_of d))) x.same; more = let first : h.store.spare ≤ room_of b = x.more in let next : room_of b ≤ room_of d = y.more in omega (arith, first, next) }

pub reserved_next : (first items : List (Option Hosting)) (i : ℕ) (o new : Option Hosting) → AreReserved first items → i < length items → o ≡ slice_index_or items i o → IsReserved o new → AreReserved first (slice_set items i new)
reserved_next first items i o new k inside read step = record {
  there = length-set items i new ∙ k.there;
  each = λ s. at_shard s (s == i) refl;
}
  where
    at_shard : (s : ℕ) (b : Bool) → (s == i) ≡ b → IsReserved (at first s) (at (slice_set items i new) s)
    at_shard s true e =
        rw (same_number s i e) (subst (IsReserved (at first i)) (sym (get_or-set_same items i new None inside)) (then_reserved (at first i) o new (subst (IsReserved (at first i)) (get_or_default items i None o inside ∙ sym read) (k.each i)) step))
    at_shard s false e = subst (IsReserved (at first s)) (sym (get_or-set_other items i s new None (other_number s i e))) (k.each s)

pub then_are_reserved : {first between last : List (Option Hosting)} → AreReserved first between → AreReserved between last → AreReserved first last
then_are_reserved {first} {between} {last} a b = record {
  there = b.there ∙ a.there;
  each = λ s. then_reserved (at first s) (at between s) (at last s) (a.each s) (b.each s);
}
