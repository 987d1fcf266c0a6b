-- An entry is written to the list of a hosted shard.
use Rattle.std.proofs.Common.{◌≡◌, ◌≢◌, ℕ, ◌-◌, ◌<◌, List, [], ◌∷◌, ◌++◌, length, map, sym, ap, subst, ◌∙◌, refl, true, false, get_or-set_same, get_or-set_other}
use Rattle.std.specs.Prelude.{Bool, ◌==◌, fold, Option, None, Some, IfSome, slice_set, slice_index_or}
use Rattle.std.specs.Option.{option_map}
use Rattle.std.proofs.lemmas.List.{map-set, length-set, get_or-map, get_or_default}
use Rattle.std.proofs.lemmas.List.Sums.{fold-append}
use Rattle.std.proofs.Math.Seq.{map-set_same}
use Rattle.yard_model.specs.declared.charter.Config.{Config}
use Rattle.yard_model.specs.declared.event.Event.{Event}
use Rattle.yard_model.specs.declared.fact.Fact.{Fact}
use Rattle.yard_model.specs.declared.fact.Fact.TheVariants as fact
use Rattle.yard_model.specs.declared.incarnation.Incarnation.{Incarnation}
use Rattle.yard_model.specs.declared.input.Phase.TheVariants as phase
use Rattle.yard_model.specs.declared.packet.Record.{Record}
use Rattle.yard_model.specs.declared.state.State.{State}
use Rattle.yard_model.specs.Behaviour.{folded, is_valid, empty_state, apply, after_record, are_applicable}
use Rattle.yard_model.specs.Entities.{Hosted, Cell, cell, entries, entries_in, hosted, is_running_in, entity_of, hosted_step, cells_by}
use Rattle.yard_model.specs.Genuine.{is_brought}
use Rattle.yard_model.specs.Lawful.{is_of_shard}
use Rattle.yard_model.specs.Move.{told}
use Rattle.yard_model.specs.Script.{Script, Setting, setting, is_name}
use Rattle.yard_model.specs.Setting.{shard_of}
use Rattle.yard_model.specs.ShardSet.{has}
use Rattle.yard_model.specs.SlotReads.{holder, holder_step, journal, journal_step}
use Rattle.yard_model.specs.Words.{at}
use Rattle.plain_laws.proofs.Booleans.{both, number_itself, same_number, other_number}
use Rattle.plain_laws.proofs.Names.{name_itself}
use Rattle.behaviour_core.specs.Laws.{valid_after_all}
use Rattle.shard_store.specs.Shelf.{Shelf}
use Rattle.shard_store.specs.Shelved.{name_at}
use Rattle.entity_cells.specs.Celled.{Celled}
use Rattle.shard_entities.specs.Placed.{IsPlace}
use Rattle.shard_entities.specs.Written.{WithStore, entered}
use Rattle.shard_entities.specs.declared.place.Place.{Place}
use Rattle.shard_entities.specs.declared.hosting.Hosting.{Hosting}
use Rattle.shard_entities.specs.Lodged.{Lodged, lodged, moved, less, rooms_step, IsLodged, IsCell, IsHosting, host_of, cell_of, new_celled, hosted_of, room_of}
use Rattle.name_index.proofs.NameLaws.{another_name}
use Rattle.shard_entities.proofs.LodgedLaws.{placed, within, cell_at, cell_is}

abbrev pub entered_hosted : Fact → Hosted → Hosted
entered_hosted f h = record { entries = h.entries ++ f ∷ []; stopping = h.stopping }

-- an entry of this name: one more in its shard's list, which takes one of its room; it says nothing of the lease, nor of what others recorded
pub record IsEntry (e : List ℕ) (f : Fact) : Type 0 where
  pub none : entity_of (told f) ≡ None
  pub hosted_is : (set : Setting) (old : List (Option Hosted)) → hosted_step set old (told f) ≡ slice_set old (shard_of set e) (option_map (entered_hosted f) (at old (shard_of set e)))
  pub rooms_is : (set : Setting) (old : List ℕ) → rooms_step set old (told f) ≡ less (shard_of set e) old
  pub holder_is : (o : Option Incarnation) → holder_step o f ≡ o
  pub others_are : (n : List ℕ) (old : List Record) → is_name e n ≡ false → journal_step n old f ≡ old

pub entry_wrote : (e : List ℕ) (r : Record) → IsEntry e (fact.Wrote e r)
entry_wrote e r = record { none = refl; hosted_is = λ set old. refl; rooms_is = λ set old. refl; holder_is = λ o. refl; others_are = λ n old other. rw other refl }

pub entry_snapshot : (e : List ℕ) (m : ℕ) → IsEntry e (fact.Snapshot e m)
entry_snapshot e m = record { none = refl; hosted_is = λ set old. refl; rooms_is = λ set old. refl; holder_is = λ o. refl; others_are = λ n old other. refl }

pub entry_remembered : (e : List ℕ) → IsEntry e (fact.Remembered e)
entry_remembered e = record { none = refl; hosted_is = λ set old. refl; rooms_is = λ set old. refl; holder_is = λ o. refl; others_are = λ n old other. refl }

pub entry_forgotten : (e : List ℕ) → IsEntry e (fact.Forgotten e)
entry_forgotten e = record { none = refl; hosted_is = λ set old. refl; rooms_is = λ set old. refl; holder_is = λ o. refl; others_are = λ n old other. refl }

journal_more : (e : List ℕ) (list : List Fact) (f : Fact) → journal e (list ++ f ∷ []) ≡ journal_step e (journal e list) f
journal_more e list f = fold-append (journal_step e) [] list (f ∷ [])

-- the cells are as before, but for this one
pub record IsPut (c : Script) (cells : List Celled) (i : ℕ) (now : Celled) (new : List Celled) : Type 0 where
  pub there : length new ≡ length cells
  pub here : slice_index_or new i (new_celled c) ≡ now
  pub others : (j : ℕ) → j ≢ i → slice_index_or new j (new_celled c) ≡ slice_index_or cells j (new_celled c)

pub put_set : (c : Script) (cells : List Celled) (i : ℕ) (now : Celled) → i < length cells → IsPut c cells i now (slice_set cells i now)
put_set c cells i now lt = record { there = length-set cells i now; here = get_or-set_same cells i now (new_celled c) lt; others = λ j other. get_or-set_other cells i j now (new_celled c) other }

pub put_same : (c : Script) (cells : List Celled) (i : ℕ) (was : Celled) → i < length cells → was ≡ slice_index_or cells i was → IsPut c cells i was cells
put_same c cells i was lt read = record { there = refl; here = get_or_default cells i (new_celled c) was lt ∙ sym read; others = λ j other. refl }

-- the shard at a place
pub host_at : {c : Script} {version : ℕ} {who : Incarnation} {config : Config} {places : Script} {cells : List Celled} {items : List (Option Hosting)} {running : ℕ} {v : Lodged} {p : Place} {i : ℕ} {o : Option Hosting}
    → IsLodged c version who config places cells items running → lodged c version who items cells ≡ v → IsPlace v.script p → i ≡ p.shard → o ≡ slice_index_or items i o → at items p.shard ≡ o
host_at {c} {version} {who} {config} {places} {cells} {items} {running} {v} {p} {i} {o} t seen is same read =
    let here : IsPlace c p = placed t seen is in
    get_or_default items p.shard None o (subst (λ n. p.shard < n) (sym t.shards_there) here.shard_in) ∙ (ap (λ n. slice_index_or items n o) (sym same) ∙ sym read)

pub entry_stands : {c : Script} {version : ℕ} {who : Incarnation} {config : Config} {places : Script} {cells new_cells : List Celled} {items : List (Option Hosting)} {running : ℕ} {v : Lodged} {p : Place} {now : Celled} {i : ℕ} {o new : Option Hosting} {f : Fact} → IsEntry p.entity f
    → IsLodged c version who config places cells items running → lodged c version who items cells ≡ v → IsPlace v.script p → IsPut c cells p.at now new_cells → i ≡ p.shard → o ≡ slice_index_or items i o → new ≡ option_map (entered f) o
    → IsCell c p.entity (option_map (entered f) o) now → IsLodged c version who config places new_cells (slice_set items i new) running
entry_stands {c} {version} {who} {config} {places} {cells} {new_cells} {items} {running} {v} {p} {now} {i} {o} {new} {f} entry t seen is put same read step stands = record {
  script_is = t.script_is;
  admitted = t.admitted;
  config_is = t.config_is;
  places_are = t.places_are;
  sorted = t.sorted;
  there = put.there ∙ t.there;
  shards_there = length-set items i new ∙ t.shards_there;
  each = λ j inside. each_at j inside (j == p.at) refl;
  hosts = λ s. hosts_at s (s == i) refl;
  runs = λ s inside. runs_at s inside (s == i) refl;
}
  where
    here : IsPlace c p
    here = placed t seen is

    host : at items i ≡ o
    host = subst (λ n. at items n ≡ o) (sym same) (host_at t seen is same read)

    inside : i < length items
    inside = subst (λ n. i < n) (sym t.shards_there) (subst (λ n. n < c.config.shards) (sym same) here.shard_in)

    set_here : at (slice_set items i new) i ≡ new
    set_here = get_or-set_same items i new None inside

    set_other : (s : ℕ) → s ≢ i → at (slice_set items i new) s ≡ at items s
    set_other s other = get_or-set_other items i s new None other

    -- another name of this shard
    goes_on : (n : List ℕ) (x : Celled) (a : Option Hosting) → is_name p.entity n ≡ false → IsCell c n a x → IsCell c n (option_map (entered f) a) x
    goes_on n x None other k = record { window_is = k.window_is; reach_there = k.reach_there; stash_is = k.stash_is; clear = k.clear; folds = k.folds }
    goes_on n x (Some h) other k = record {
      window_is = k.window_is;
      reach_there = k.reach_there;
      stash_is = k.stash_is;
      clear = k.clear;
      folds = λ active. record {
        state_is = (k.folds active).state_is ∙ ap (folded c.config.kind) (sym (journal_more n h.store.entries f ∙ entry.others_are n (journal n h.store.entries) other));
        valid = (k.folds active).valid;
      };
    }

    each_at : (j : ℕ) → j < length (setting c).names → (b : Bool) → (j == p.at) ≡ b → IsCell c (name_at (setting c).names j) (host_of c (slice_set items i new) (name_at (setting c).names j)) (slice_index_or new_cells j (new_celled c))
    each_at j within_names true e =
        rw (same_number j p.at e) (rw put.here (rw here.here.it (subst (λ s. IsCell c p.entity (at (slice_set items i new) s) now) (same ∙ here.shard_is) (subst (λ x. IsCell c p.entity x now) (sym (set_here ∙ step)) stands))))
    each_at j within_names false e =
        rw (put.others j (other_number j p.at e))
        (other_at (shard_of (setting c) (name_at (setting c).names j) == i) refl)
      where
        other_at : (b : Bool) → (shard_of (setting c) (name_at (setting c).names j) == i) ≡ b → IsCell c (name_at (setting c).names j) (host_of c (slice_set items i new) (name_at (setting c).names j)) (slice_index_or cells j (new_celled c))
        other_at true at_it =
            let shard_is : shard_of (setting c) (name_at (setting c).names j) ≡ i = same_number (shard_of (setting c) (name_at (setting c).names j)) i at_it in
            let different : is_name p.entity (name_at (setting c).names j) ≡ false = another_name (setting c).names p.entity p.at j t.sorted here.here.within within_names here.here.it (other_number j p.at e) in
            let old : IsCell c (name_at (setting c).names j) o (slice_index_or cells j (new_celled c)) = subst (λ x. IsCell c (name_at (setting c).names j) x (slice_index_or cells j (new_celled c))) (ap (at items) shard_is ∙ host) (t.each j within_names) in
            subst (λ x. IsCell c (name_at (setting c).names j) x (slice_index_or cells j (new_celled c))) (sym (ap (at (slice_set items i new)) shard_is ∙ (set_here ∙ step))) (goes_on (name_at (setting c).names j) (slice_index_or cells j (new_celled c)) o different old)
        other_at false at_it =
            subst (λ x. IsCell c (name_at (setting c).names j) x (slice_index_or cells j (new_celled c))) (sym (set_other (shard_of (setting c) (name_at (setting c).names j)) (other_number (shard_of (setting c) (name_at (setting c).names j)) i at_it))) (t.each j within_names)

    host_goes_on : (s : ℕ) (a : Option Hosting) → IfSome a (IsHosting c who s) → IfSome (option_map (entered f) a) (IsHosting c who s)
    host_goes_on s None k = k
    host_goes_on s (Some h) k = record { script_is = k.script_is; shard_is = k.shard_is; leased = fold-append holder_step None h.store.entries (f ∷ []) ∙ (entry.holder_is (holder h.store.entries) ∙ k.leased) }

    hosts_at : (s : ℕ) (b : Bool) → (s == i) ≡ b → IfSome (at (slice_set items i new) s) (IsHosting c who s)
    hosts_at s true e = rw (same_number s i e) (subst (λ x. IfSome x (IsHosting c who i)) (sym (set_here ∙ step)) (host_goes_on i o (subst (λ x. IfSome x (IsHosting c who i)) host (t.hosts i))))
    hosts_at s false e = subst (λ x. IfSome x (IsHosting c who s)) (sym (set_other s (other_number s i e))) (t.hosts s)

    running_same : (a : Option Hosting) → is_running_in (option_map hosted_of (option_map (entered f) a)) ≡ is_running_in (option_map hosted_of a)
    running_same None = refl
    running_same (Some h) = refl

    runs_at : (s : ℕ) → s < c.config.shards → (b : Bool) → (s == i) ≡ b → has running s ≡ is_running_in (option_map hosted_of (at (slice_set items i new) s))
    runs_at s lt true e =
        let there : s ≡ i = same_number s i e in
        t.runs s lt ∙ (ap (λ x. is_running_in (option_map hosted_of x)) (ap (at items) there ∙ host) ∙ (sym (running_same o) ∙ ap (λ x. is_running_in (option_map hosted_of x)) (sym (ap (at (slice_set items i new)) there ∙ (set_here ∙ step)))))
    runs_at s lt false e = t.runs s lt ∙ ap (λ x. is_running_in (option_map hosted_of x)) (sym (set_other s (other_number s i e)))

-- the list of the shard of an entity
pub entries_at : {c : Script} {version : ℕ} {who : Incarnation} {config : Config} {places : Script} {cells : List Celled} {items : List (Option Hosting)} {running : ℕ} {v : Lodged} {p : Place} {i : ℕ} {o : Option Hosting}
    → IsLodged c version who config places cells items running → lodged c version who items cells ≡ v → IsPlace v.script p → i ≡ p.shard → o ≡ slice_index_or items i o → entries v.state p.entity ≡ entries_in (option_map hosted_of o)
entries_at {c} {version} {who} {config} {places} {cells} {items} {running} {v} {p} {i} {o} t seen is same read =
    let here : IsPlace c p = placed t seen is in
    let inside : p.shard < length items = subst (λ n. p.shard < n) (sym t.shards_there) here.shard_in in
    subst (λ (v : Lodged). entries v.state p.entity ≡ entries_in (option_map hosted_of o)) seen
    (ap (λ n. entries_in (at (map (option_map hosted_of) items) n)) (sym here.shard_is)
    ∙ (ap entries_in (get_or-map (option_map hosted_of) items p.shard None None inside) ∙ ap (λ x. entries_in (option_map hosted_of x)) (host_at t seen is same read)))

-- the cell of the entity itself, after an entry that is no record
pub own_goes_on : (f : Fact) {c : Script} {e : List ℕ} {o : Option Hosting} {x : Celled} → ((old : List Record) → journal_step e old f ≡ old) → IsCell c e o x → IsCell c e (option_map (entered f) o) x
own_goes_on f {c} {e} {o = None} {x} same k = record { window_is = k.window_is; reach_there = k.reach_there; stash_is = k.stash_is; clear = k.clear; folds = k.folds }
own_goes_on f {c} {e} {o = Some h} {x} same k = record {
  window_is = k.window_is;
  reach_there = k.reach_there;
  stash_is = k.stash_is;
  clear = k.clear;
  folds = λ active. record { state_is = (k.folds active).state_is ∙ ap (folded c.config.kind) (sym (journal_more e h.store.entries f ∙ same (journal e h.store.entries))); valid = (k.folds active).valid };
}

-- and after a record, with the state that it leads to
pub wrote_cell : (r : Record) {c : Script} {version : ℕ} {who : Incarnation} {config : Config} {places : Script} {cells : List Celled} {items : List (Option Hosting)} {running : ℕ} {v : Lodged} {p : Place} {i : ℕ} {o : Option Hosting} {was now : Celled} {st : State}
    → IsLodged c version who config places cells items running → lodged c version who items cells ≡ v → IsPlace v.script p → was ≡ slice_index_or cells p.at was → i ≡ p.shard → o ≡ slice_index_or items i o → now ≡ record { cell = was.cell; state = st; window = was.window }
    → st ≡ folded v.script.config.kind (journal p.entity (entries v.state p.entity) ++ r ∷ []) → is_valid v.script.config.kind st ≡ true → IsCell c p.entity (option_map (entered (fact.Wrote p.entity r)) o) now
wrote_cell r {c} {version} {who} {config} {places} {cells} {items} {running} {v} {p} {i} {o} {was} {now} {st} t seen is cell_read same read set leads valid =
    subst (IsCell c p.entity (option_map (entered (fact.Wrote p.entity r)) o)) (sym set)
    (at_host o (cell_is t seen is cell_read)
    (subst (λ l. st ≡ folded c.config.kind (journal p.entity l ++ r ∷ [])) (entries_at t seen is same read) (subst (λ (s : Script). st ≡ folded s.config.kind (journal p.entity (entries v.state p.entity) ++ r ∷ [])) (ap (λ (v : Lodged). v.script) (sym seen)) leads))
    (subst (λ (s : Script). is_valid s.config.kind st ≡ true) (ap (λ (v : Lodged). v.script) (sym seen)) valid))
  where
    at_host : (a : Option Hosting) → IsCell c p.entity (at items p.shard) was → st ≡ folded c.config.kind (journal p.entity (entries_in (option_map hosted_of a)) ++ r ∷ []) → is_valid c.config.kind st ≡ true
        → IsCell c p.entity (option_map (entered (fact.Wrote p.entity r)) a) (record { cell = was.cell; state = st; window = was.window })
    at_host None k leads valid = record { window_is = k.window_is; reach_there = k.reach_there; stash_is = k.stash_is; clear = k.clear; folds = λ active. tt }
    at_host (Some h) k leads valid = record {
      window_is = k.window_is;
      reach_there = k.reach_there;
      stash_is = k.stash_is;
      clear = k.clear;
      folds = λ active. record { state_is = leads ∙ ap (folded c.config.kind) (sym (journal_more p.entity h.store.entries (fact.Wrote p.entity r) ∙ own (journal p.entity h.store.entries))); valid = valid };
    }
      where
        own : (old : List Record) → journal_step p.entity old (fact.Wrote p.entity r) ≡ old ++ r ∷ []
        own old = rw (name_itself p.entity) refl

-- where it is hosted, there is one
store_there : {c : Script} {version : ℕ} {who : Incarnation} {config : Config} {places : Script} {cells : List Celled} {items : List (Option Hosting)} {running : ℕ} {v : Lodged} {p : Place} {i : ℕ} {o : Option Hosting}
    → IsLodged c version who config places cells items running → lodged c version who items cells ≡ v → IsPlace v.script p → i ≡ p.shard → o ≡ slice_index_or items i o → (hosted v.state p.shard ≡ None → ⊥) → o ≡ None → ⊥
store_there {c} {version} {who} {config} {places} {cells} {items} {running} {v} {p} {i} {o} t seen is same read there none =
    let inside : p.shard < length items = subst (λ n. p.shard < n) (sym t.shards_there) (placed t seen is).shard_in in
    there (subst (λ (v : Lodged). hosted v.state p.shard ≡ None) seen (get_or-map (option_map hosted_of) items p.shard None None inside ∙ ap (option_map hosted_of) (host_at t seen is same read ∙ none)))

-- what the state of one that takes commands is
pub record IsLed (v : Lodged) (p : Place) (st : State) : Type 0 where
  pub state_is : st ≡ folded v.script.config.kind (journal p.entity (entries v.state p.entity))
  pub valid : is_valid v.script.config.kind st ≡ true

pub state_led : {c : Script} {version : ℕ} {who : Incarnation} {config : Config} {places : Script} {cells : List Celled} {items : List (Option Hosting)} {running : ℕ} {v : Lodged} {p : Place} {was : Celled}
    → IsLodged c version who config places cells items running → lodged c version who items cells ≡ v → IsPlace v.script p → was ≡ slice_index_or cells p.at was → (hosted v.state p.shard ≡ None → ⊥) → (cell v.state p.entity).phase ≡ phase.Active → IsLed v p was.state
state_led {c} {version} {who} {config} {places} {cells} {items} {running} {v} {p} {was} t seen is cell_read there active =
    by (at items p.shard) (entries_at t seen is refl read) (store_there t seen is refl read there) (cell_is t seen is cell_read)
  where
    read : at items p.shard ≡ slice_index_or items p.shard (at items p.shard)
    read = get_or_default items p.shard None (at items p.shard) (subst (λ n. p.shard < n) (sym t.shards_there) (placed t seen is).shard_in)

    takes : was.cell.phase ≡ phase.Active
    takes = ap (λ (x : Cell). x.phase) (sym (cell_at t seen is cell_read)) ∙ active

    script : c ≡ v.script
    script = ap (λ (v : Lodged). v.script) seen

    by : (a : Option Hosting) → entries v.state p.entity ≡ entries_in (option_map hosted_of a) → (a ≡ None → ⊥) → IsCell c p.entity a was → IsLed v p was.state
    by None list some k = absurd (some refl)
    by (Some h) list some k = record {
      state_is = (k.folds takes).state_is ∙ (ap (λ l. folded c.config.kind (journal p.entity l)) (sym list) ∙ ap (λ (s : Script). folded s.config.kind (journal p.entity (entries v.state p.entity))) script);
      valid = subst (λ (s : Script). is_valid s.config.kind was.state ≡ true) script (k.folds takes).valid;
    }

-- and after a record whose events apply
pub record IsNextLed (v : Lodged) (p : Place) (r : Record) (st : State) : Type 0 where
  pub state_is : st ≡ folded v.script.config.kind (journal p.entity (entries v.state p.entity) ++ r ∷ [])
  pub valid : is_valid v.script.config.kind st ≡ true

pub applied_led : (r : Record) {v : Lodged} {p : Place} {st : State} {es : List Event} → IsLed v p st → es ≡ r.events → are_applicable (folded v.script.config.kind (journal p.entity (entries v.state p.entity))) r.events ≡ true → IsNextLed v p r (fold apply st es)
applied_led r {v} {p} {st} {es} led same applies =
    subst (λ l. IsNextLed v p r (fold apply st l)) (sym same) record {
      state_is = ap (λ (s : State). fold apply s r.events) led.state_is ∙ sym (fold-append after_record (empty_state v.script.config.kind) (journal p.entity (entries v.state p.entity)) (r ∷ []));
      valid = valid_after_all v.script.config.kind st r.events led.valid (subst (λ (s : State). are_applicable s r.events ≡ true) (sym led.state_is) applies);
    }

-- the value with an entry more
pub entry_moved : (new_cells : List Celled) {c : Script} {version : ℕ} {who : Incarnation} {config : Config} {places : Script} {cells : List Celled} {items : List (Option Hosting)} {running : ℕ} {v : Lodged} {p : Place} {i : ℕ} {o new : Option Hosting} {f : Fact} → IsEntry p.entity f
    → IsLodged c version who config places cells items running → lodged c version who items cells ≡ v → IsPlace v.script p → map cell_of new_cells ≡ map cell_of cells → i ≡ p.shard → o ≡ slice_index_or items i o → new ≡ option_map (entered f) o
    → lodged c version who (slice_set items i new) new_cells ≡ moved v (told f ∷ [])
entry_moved new_cells {c} {version} {who} {config} {places} {cells} {items} {running} {v} {p} {i} {o} {new} {f} entry t seen is same_cells same read step =
    subst (λ (v : Lodged). lodged c version who (slice_set items i new) new_cells ≡ moved v (told f ∷ [])) seen
    (ap (λ l. value (map (option_map hosted_of) (slice_set items i new)) l (map room_of (slice_set items i new))) same_cells
    ∙ (ap (λ h. value h (map cell_of cells) (map room_of (slice_set items i new))) hosts
    ∙ (ap (λ r. value (hosted_step (setting c) (map (option_map hosted_of) items) (told f)) (map cell_of cells) r) rooms
    ∙ ap (λ x. value (hosted_step (setting c) (map (option_map hosted_of) items) (told f)) (cells_by (setting c) (map cell_of cells) (told f) x) (rooms_step (setting c) (map room_of items) (told f))) (sym entry.none))))
  where
    here : IsPlace c p
    here = placed t seen is

    place_is : i ≡ shard_of (setting c) p.entity
    place_is = same ∙ here.shard_is

    host : at items i ≡ o
    host = subst (λ n. at items n ≡ o) (sym same) (host_at t seen is same read)

    inside : i < length items
    inside = subst (λ n. i < n) (sym t.shards_there) (subst (λ n. n < c.config.shards) (sym same) here.shard_in)

    value : List (Option Hosted) → List Cell → List ℕ → Lodged
    value h l r = record { script = c; state = record { who = who; set = setting c; version = version; hosted = h; cells = l }; rooms = r }

    both_are : (a : Option Hosting) → option_map hosted_of (option_map (entered f) a) ≡ option_map (entered_hosted f) (option_map hosted_of a)
    both_are None = refl
    both_are (Some h) = refl

    room_less : (a : Option Hosting) → room_of (option_map (entered f) a) ≡ room_of a - 1
    room_less None = refl
    room_less (Some h) = refl

    hosts : map (option_map hosted_of) (slice_set items i new) ≡ hosted_step (setting c) (map (option_map hosted_of) items) (told f)
    hosts = map-set (option_map hosted_of) items i new
        ∙ (ap (λ x. slice_set (map (option_map hosted_of) items) i x) (ap (option_map hosted_of) step ∙ (both_are o ∙ ap (option_map (entered_hosted f)) (sym (get_or-map (option_map hosted_of) items i None None inside ∙ ap (option_map hosted_of) host))))
        ∙ (ap (λ n. slice_set (map (option_map hosted_of) items) n (option_map (entered_hosted f) (at (map (option_map hosted_of) items) n))) place_is ∙ sym (entry.hosted_is (setting c) (map (option_map hosted_of) items))))

    rooms : map room_of (slice_set items i new) ≡ rooms_step (setting c) (map room_of items) (told f)
    rooms = map-set room_of items i new
        ∙ (ap (λ x. slice_set (map room_of items) i x) (ap room_of step ∙ (room_less o ∙ ap (λ n. n - 1) (sym (get_or-map room_of items i None 0 inside ∙ ap room_of host))))
        ∙ (ap (λ n. less n (map room_of items)) place_is ∙ sym (entry.rooms_is (setting c) (map room_of items))))

-- another state behind a cell changes nothing of the cells
pub same_cells : (cells : List Celled) (i : ℕ) {was now : Celled} {st : State} → was ≡ slice_index_or cells i was → now ≡ record { cell = was.cell; state = st; window = was.window } → map cell_of (slice_set cells i now) ≡ map cell_of cells
same_cells cells i {was} {now} {st} read set = map-set_same cell_of cells i now was (ap cell_of set ∙ ap cell_of read)

-- the cell at a place, where its shard is hosted so
pub own_cell : {c : Script} {version : ℕ} {who : Incarnation} {config : Config} {places : Script} {cells : List Celled} {items : List (Option Hosting)} {running : ℕ} {v : Lodged} {p : Place} {i : ℕ} {o : Option Hosting} {was : Celled}
    → IsLodged c version who config places cells items running → lodged c version who items cells ≡ v → IsPlace v.script p → was ≡ slice_index_or cells p.at was → i ≡ p.shard → o ≡ slice_index_or items i o → IsCell c p.entity o was
own_cell {c} {version} {who} {config} {places} {cells} {items} {running} {v} {p} {i} {o} {was} t seen is cell_read same read = subst (λ x. IsCell c p.entity x was) (host_at t seen is same read) (cell_is t seen is cell_read)

-- an entry that is no record, where no cell changes
pub entry_only : {c : Script} {version : ℕ} {who : Incarnation} {config : Config} {places : Script} {cells : List Celled} {items : List (Option Hosting)} {running : ℕ} {v : Lodged} {p : Place} {i : ℕ} {o new : Option Hosting} {f : Fact} → IsEntry p.entity f → ((old : List Record) → journal_step p.entity old f ≡ old)
    → IsLodged c version who config places cells items running → lodged c version who items cells ≡ v → IsPlace v.script p → i ≡ p.shard → o ≡ slice_index_or items i o → new ≡ option_map (entered f) o
    → IsLodged c version who config places cells (slice_set items i new) running
entry_only {c} {version} {who} {config} {places} {cells} {items} {running} {v} {p} {i} {o} {new} {f} entry none t seen is same read step =
    let inside : p.at < length cells = within t seen is in
    let was : Celled = slice_index_or cells p.at (new_celled c) in
    let cell_read : was ≡ slice_index_or cells p.at was = get_or_default cells p.at (new_celled c) was inside in
    entry_stands entry t seen is (put_same c cells p.at was inside cell_read) same read step (own_goes_on f none (own_cell t seen is cell_read same read))

-- What a snapshot asks of the store of the shard at a place.

-- the name is one of its shard
pub store_names : {c : Script} {version : ℕ} {who : Incarnation} {config : Config} {places : Script} {cells : List Celled} {items : List (Option Hosting)} {running : ℕ} {v : Lodged} {p : Place} {i : ℕ} {o : Option Hosting}
    → IsLodged c version who config places cells items running → lodged c version who items cells ≡ v → IsPlace v.script p → i ≡ p.shard → o ≡ slice_index_or items i o → (hosted v.state p.shard ≡ None → ⊥) → WithStore o (λ (s : Shelf). is_of_shard s.script s.shard p.entity ≡ true)
store_names {c} {version} {who} {config} {places} {cells} {items} {running} {v} {p} {i} {o} t seen is same read there = by o (host_at t seen is same read) (store_there t seen is same read there)
  where
    here : IsPlace c p
    here = placed t seen is

    by : (a : Option Hosting) → at items p.shard ≡ a → (a ≡ None → ⊥) → WithStore a (λ (s : Shelf). is_of_shard s.script s.shard p.entity ≡ true)
    by None it some = absurd (some refl)
    by (Some h) it some =
        let k : IsHosting c who p.shard h = subst (λ x. IfSome x (IsHosting c who p.shard)) it (t.hosts p.shard) in
        both (is_brought h.store.script p.entity) (shard_of (setting h.store.script) p.entity == h.store.shard)
        (ap (λ (x : Script). is_brought x p.entity) k.script_is ∙ here.brought)
        (number_itself (shard_of (setting h.store.script) p.entity) h.store.shard (ap (λ (x : Script). shard_of (setting x) p.entity) k.script_is ∙ (sym here.shard_is ∙ sym k.shard_is)))

-- the state of one that takes commands is what its journal leads to
pub store_leads : {c : Script} {version : ℕ} {who : Incarnation} {config : Config} {places : Script} {cells : List Celled} {items : List (Option Hosting)} {running : ℕ} {v : Lodged} {p : Place} {i : ℕ} {o : Option Hosting} {was : Celled} {st : State}
    → IsLodged c version who config places cells items running → lodged c version who items cells ≡ v → IsPlace v.script p → was ≡ slice_index_or cells p.at was → i ≡ p.shard → o ≡ slice_index_or items i o → (hosted v.state p.shard ≡ None → ⊥) → (cell v.state p.entity).phase ≡ phase.Active → st ≡ was.state
    → WithStore o (λ (s : Shelf). st ≡ folded s.script.config.kind (journal p.entity s.entries))
store_leads {c} {version} {who} {config} {places} {cells} {items} {running} {v} {p} {i} {o} {was} {st} t seen is cell_read same read there active state_is = by o (host_at t seen is same read) (store_there t seen is same read there) (own_cell t seen is cell_read same read)
  where
    takes : was.cell.phase ≡ phase.Active
    takes = ap (λ (x : Cell). x.phase) (sym (cell_at t seen is cell_read)) ∙ active

    by : (a : Option Hosting) → at items p.shard ≡ a → (a ≡ None → ⊥) → IsCell c p.entity a was → WithStore a (λ (s : Shelf). st ≡ folded s.script.config.kind (journal p.entity s.entries))
    by None it some k = absurd (some refl)
    by (Some h) it some k =
        let hosts : IsHosting c who p.shard h = subst (λ x. IfSome x (IsHosting c who p.shard)) it (t.hosts p.shard) in
        state_is ∙ ((k.folds takes).state_is ∙ ap (λ (x : Script). folded x.config.kind (journal p.entity h.store.entries)) (sym hosts.script_is))
