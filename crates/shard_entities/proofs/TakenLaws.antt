-- A shard is taken out, and its store is lent.
use Rattle.std.proofs.Common.{◌≡◌, ◌≢◌, ℕ, ◌<◌, ◌≤◌, List, [], ◌∷◌, length, map, sym, ap, subst, ◌∙◌, refl, true, false, arith, get_or-set_same, get_or-set_other}
use Rattle.std.specs.Prelude.{Bool, ◌==◌, Option, None, Some, IfSome, slice_set, slice_index_or}
use Rattle.std.specs.Option.{option_map}
use Rattle.std.proofs.lemmas.Bool.Decides.{nat_tests}
use Rattle.std.proofs.lemmas.List.{map-set, length-set, get_or-map, get_or_default}
use Rattle.yard_model.specs.declared.charter.Config.{Config}
use Rattle.yard_model.specs.declared.fact.Fact.TheVariants as fact
use Rattle.yard_model.specs.declared.incarnation.Cause.{Cause}
use Rattle.yard_model.specs.declared.incarnation.Incarnation.{Incarnation}
use Rattle.yard_model.specs.declared.incarnation.Slot.TheVariants as slot
use Rattle.yard_model.specs.Behaviour.{is_in}
use Rattle.yard_model.specs.Entities.{hosted, entries_in, is_running_in, is_running}
use Rattle.yard_model.specs.Move.{told}
use Rattle.yard_model.specs.Script.{Script, IsScript, setting}
use Rattle.yard_model.specs.Setting.{shard_of}
use Rattle.yard_model.specs.ShardSet.{has}
use Rattle.yard_model.specs.Words.{at}
use Rattle.plain_laws.proofs.Booleans.{and_both, same_number, other_number}
use Rattle.shard_store.specs.Shelved.{name_at}
use Rattle.entity_cells.specs.Celled.{Celled}
use Rattle.shard_entities.specs.declared.hosting.Hosting.{Hosting}
use Rattle.shard_entities.specs.Lodged.{Lodged, lodged, moved, IsLodged, IsCell, IsHosting, IsStore, host_of, cell_of, new_celled, hosted_of, room_of}

pub shards_most : (c : Script) → IsScript c → c.config.shards ≤ 128
shards_most c k =
    let a : _ × _ = and_both _ (is_in 1 10 c.config.keep) k.config in
    let b : _ × _ = and_both _ (is_in 1 10000 c.config.snapshot) a.0 in
    let d : _ × _ = and_both _ (is_in 1 64 c.config.window) b.0 in
    let e : _ × _ = and_both _ (is_in 1 1000 c.config.buffer) d.0 in
    let f : _ × _ = and_both _ (is_in 1 32 c.config.producers) e.0 in
    at_most c.config.shards (and_both (is_in 1 16 c.config.nodes) (is_in 1 128 c.config.shards) f.0).1
  where
    at_most : (n : ℕ) → is_in 1 128 n ≡ true → n ≤ 128
    at_most n h = grind (arith, nat_tests)

-- the shard that is read
pub shard_read : {c : Script} {version : ℕ} {who : Incarnation} {config : Config} {places : Script} {cells : List Celled} {items : List (Option Hosting)} {running : ℕ} {v : Lodged} {s i : ℕ} {o : Option Hosting}
    → IsLodged c version who config places cells items running → lodged c version who items cells ≡ v → s < v.script.config.shards → i ≡ s → o ≡ slice_index_or items i o → (s < length items) × (at items s ≡ o)
shard_read {c} {version} {who} {config} {places} {cells} {items} {running} {v} {s} {i} {o} t seen lt same read =
    let inside : s < length items = subst (λ n. s < n) (sym t.shards_there) (subst (λ (x : Script). s < x.config.shards) (ap (λ (v : Lodged). v.script) (sym seen)) lt) in
    (inside, get_or_default items s None o inside ∙ (ap (λ n. slice_index_or items n o) (sym same) ∙ sym read))

pub none_at : {c : Script} {version : ℕ} {who : Incarnation} {config : Config} {places : Script} {cells : List Celled} {items : List (Option Hosting)} {running : ℕ} {v : Lodged} {s i : ℕ} {o : Option Hosting}
    → IsLodged c version who config places cells items running → lodged c version who items cells ≡ v → s < v.script.config.shards → i ≡ s → o ≡ slice_index_or items i o → o ≡ None → hosted v.state s ≡ None
none_at {c} {version} {who} {config} {places} {cells} {items} {running} {v} {s} {i} {o} t seen lt same read none =
    let here : _ × _ = shard_read t seen lt same read in
    subst (λ (v : Lodged). hosted v.state s ≡ None) seen (get_or-map (option_map hosted_of) items s None None here.0 ∙ ap (option_map hosted_of) (here.1 ∙ none))

pub store_at : {c : Script} {version : ℕ} {who : Incarnation} {config : Config} {places : Script} {cells : List Celled} {items : List (Option Hosting)} {running : ℕ} {v : Lodged} {s i : ℕ} {o : Option Hosting} (h : Hosting)
    → IsLodged c version who config places cells items running → lodged c version who items cells ≡ v → s < v.script.config.shards → i ≡ s → o ≡ slice_index_or items i o → o ≡ Some h → IsStore v s h.store
store_at {c} {version} {who} {config} {places} {cells} {items} {running} {v} {s} {i} {o} h t seen lt same read some =
    let here : _ × _ = shard_read t seen lt same read in
    let its : IsHosting c who s h = subst (λ x. IfSome x (IsHosting c who s)) (here.1 ∙ some) (t.hosts s) in
    subst (λ (v : Lodged). IsStore v s h.store) seen record {
      script_is = its.script_is;
      shard_is = its.shard_is;
      entries_are = sym (ap entries_in (get_or-map (option_map hosted_of) items s None None here.0 ∙ ap (option_map hosted_of) (here.1 ∙ some)));
      room_is = sym (get_or-map room_of items s None 0 here.0 ∙ ap room_of (here.1 ∙ some));
      leased = its.leased;
    }

-- without it they stand
pub taken_stands : {c : Script} {version : ℕ} {who : Incarnation} {config : Config} {places : Script} {cells : List Celled} {items : List (Option Hosting)} {running new : ℕ} {v : Lodged} {s i : ℕ} {o : Option Hosting}
    → IsLodged c version who config places cells items running → lodged c version who items cells ≡ v → s < v.script.config.shards → i ≡ s → o ≡ None → has new s ≡ false → ((t : ℕ) → t < 128 → t ≢ s → has new t ≡ has running t)
    → IsLodged c version who config places cells (slice_set items i o) new
taken_stands {c} {version} {who} {config} {places} {cells} {items} {running} {new} {v} {s} {i} {o} k seen lt same none out others = record {
  script_is = k.script_is;
  admitted = k.admitted;
  config_is = k.config_is;
  places_are = k.places_are;
  sorted = k.sorted;
  there = k.there;
  shards_there = length-set items i o ∙ k.shards_there;
  each = λ j within. cell_at_shard j (shard_of (setting c) (name_at (setting c).names j) == i) refl (k.each j within);
  hosts = λ t. host_at_shard t (t == i) refl;
  runs = λ t below. runs_at t below (t == i) refl;
}
  where
    inside : i < length items
    inside = subst (λ n. n < length items) (sym same) (subst (λ n. s < n) (sym k.shards_there) (subst (λ (x : Script). s < x.config.shards) (ap (λ (v : Lodged). v.script) (sym seen)) lt))

    here : (t : ℕ) → (t == i) ≡ true → at (slice_set items i o) t ≡ None
    here t e = ap (at (slice_set items i o)) (same_number t i e) ∙ (get_or-set_same items i o None inside ∙ none)

    there_still : (t : ℕ) → (t == i) ≡ false → at (slice_set items i o) t ≡ at items t
    there_still t e = get_or-set_other items i t o None (other_number t i e)

    cell_at_shard : (j : ℕ) (b : Bool) → (shard_of (setting c) (name_at (setting c).names j) == i) ≡ b → IsCell c (name_at (setting c).names j) (host_of c items (name_at (setting c).names j)) (slice_index_or cells j (new_celled c))
        → IsCell c (name_at (setting c).names j) (host_of c (slice_set items i o) (name_at (setting c).names j)) (slice_index_or cells j (new_celled c))
    cell_at_shard j true e old = subst (λ x. IsCell c (name_at (setting c).names j) x (slice_index_or cells j (new_celled c))) (sym (here (shard_of (setting c) (name_at (setting c).names j)) e)) (record { window_is = old.window_is; reach_there = old.reach_there; stash_is = old.stash_is; clear = old.clear; folds = λ active. tt })
    cell_at_shard j false e old = subst (λ x. IsCell c (name_at (setting c).names j) x (slice_index_or cells j (new_celled c))) (sym (there_still (shard_of (setting c) (name_at (setting c).names j)) e)) old

    host_at_shard : (t : ℕ) (b : Bool) → (t == i) ≡ b → IfSome (at (slice_set items i o) t) (IsHosting c who t)
    host_at_shard t true e = subst (λ x. IfSome x (IsHosting c who t)) (sym (here t e)) tt
    host_at_shard t false e = subst (λ x. IfSome x (IsHosting c who t)) (sym (there_still t e)) (k.hosts t)

    runs_at : (t : ℕ) → t < c.config.shards → (b : Bool) → (t == i) ≡ b → has new t ≡ is_running_in (option_map hosted_of (at (slice_set items i o) t))
    runs_at t below true e = ap (has new) (same_number t i e ∙ same) ∙ (out ∙ ap (λ x. is_running_in (option_map hosted_of x)) (sym (here t e)))
    runs_at t below false e =
        let most : c.config.shards ≤ 128 = shards_most c k.script_is in
        let other : t ≢ s = λ it. other_number t i e (it ∙ sym same) in
        others t (omega (arith, below, most)) other ∙ (k.runs t below ∙ ap (λ x. is_running_in (option_map hosted_of x)) (sym (there_still t e)))

-- the value without it, as after an entry that frees it
pub taken_moved : (n : ℕ) (why : Cause) {c : Script} {version : ℕ} {who : Incarnation} {config : Config} {places : Script} {cells : List Celled} {items : List (Option Hosting)} {running : ℕ} {v : Lodged} {s i : ℕ} {o : Option Hosting}
    → IsLodged c version who config places cells items running → lodged c version who items cells ≡ v → i ≡ s → o ≡ None → lodged c version who (slice_set items i o) cells ≡ moved v (told (fact.Freed (slot.Shard s) n why) ∷ [])
taken_moved n why {c} {version} {who} {config} {places} {cells} {items} {running} {v} {s} {i} {o} k seen same none =
    subst (λ (v : Lodged). lodged c version who (slice_set items i o) cells ≡ moved v (told (fact.Freed (slot.Shard s) n why) ∷ [])) seen
    (ap (λ x. lodged c version who (slice_set items i x) cells) none
    ∙ (ap (λ h. record { script = c; state = record { who = who; set = setting c; version = version; hosted = h; cells = map cell_of cells }; rooms = map room_of (slice_set items i None) }) (map-set (option_map hosted_of) items i None ∙ ap (λ m. slice_set (map (option_map hosted_of) items) m None) same)
    ∙ ap (λ r. record { script = c; state = record { who = who; set = setting c; version = version; hosted = slice_set (map (option_map hosted_of) items) s None; cells = map cell_of cells }; rooms = r }) (map-set room_of items i None ∙ ap (λ m. slice_set (map room_of items) m 0) same)))

pub running_are : {c : Script} {version : ℕ} {who : Incarnation} {config : Config} {places : Script} {cells : List Celled} {items : List (Option Hosting)} {running : ℕ} {v : Lodged} → IsLodged c version who config places cells items running → lodged c version who items cells ≡ v
    → (s : ℕ) → s < v.script.config.shards → has running s ≡ is_running v.state s
running_are {c} {version} {who} {config} {places} {cells} {items} {running} {v} k seen s lt =
    let below : s < c.config.shards = subst (λ (x : Script). s < x.config.shards) (ap (λ (v : Lodged). v.script) (sym seen)) lt in
    let inside : s < length items = subst (λ n. s < n) (sym k.shards_there) below in
    subst (λ (v : Lodged). has running s ≡ is_running v.state s) seen (k.runs s below ∙ ap is_running_in (sym (get_or-map (option_map hosted_of) items s None None inside)))
