-- What is kept after an entry was tested, whatever came of it.
use Rattle.std.proofs.Common.{◌≡◌, ◌<◌, ℕ, List, [], ◌∷◌, ◌++◌, length, sym, subst, ap, ap₂, ◌∙◌, refl, true, false, true≢false, arith}
use Rattle.std.specs.Prelude.{Bool, ◌==◌, ◌&&◌, IsTrue, Option, Some, None, Result, Ok, Err, IfOk, OnErr, slice_index_or, slice_set, if◌then◌else◌}
use Rattle.std.specs.List.{list_all, list_any}
use Rattle.yard_model.specs.declared.fact.Fact.{Fact}
use Rattle.yard_model.specs.declared.fact.Fact.TheVariants as fact
use Rattle.yard_model.specs.declared.incarnation.Slot.{Slot}
use Rattle.yard_model.specs.declared.incarnation.Slot.TheVariants as slot
use Rattle.yard_model.specs.declared.packet.Record.{Record}
use Rattle.yard_model.specs.declared.state.State.{State}
use Rattle.yard_model.specs.Behaviour.{after_record, are_applicable, empty_state, folded, is_of_kind, is_valid}
use Rattle.yard_model.specs.Genuine.{is_planned, is_producer, is_slot_of}
use Rattle.yard_model.specs.Lawful.{is_decided, is_folded_after, is_leased, is_merged_after, is_of_shard, is_shard_entry, may_follow}
use Rattle.yard_model.specs.Script.{IsScript, Script, Setting, names_in, setting, versions}
use Rattle.yard_model.specs.Setting.{shard_of}
use Rattle.yard_model.specs.SlotReads.{journal, journal_step}
use Rattle.yard_model.specs.Trace.{slot_of}
use Rattle.plain_laws.proofs.Booleans.{and_both}
use Rattle.shard_store.specs.declared.store.Store.{Store}
use Rattle.shard_store.specs.Stores.{AreHomes, Shelves, entries_at, lists_at}
use Rattle.entry_slots.specs.Entered.{AllLists, Enters, EntersPlaces, IsMarkOf, StayPlaces}
use Rattle.entry_slots.specs.Kept.{AreStates, ArePlanned, IsKept, IsPlaced, PlanOf, is_answer_in}
use Rattle.entry_slots.proofs.PlacesLaws.{lists_stay}
use Rattle.entry_slots.proofs.PlannedLaws.{SameCommand, SameDecision, planned_of_kind}
use Rattle.entry_slots.proofs.StateLaws.{answers_apply, enters_seen, seen, states_after, states_stay, states_wrote}

-- before it
pub record Was (c : Script) (v : AllLists) (up : Bool) (names : List (List ℕ)) (stores : Shelves) (plans : List PlanOf) (states : List State) (s : Slot) (f : Fact) : Type 0 where
  pub kept : IsKept c up names stores plans states
  pub view : seen c stores.places ≡ v
  pub homes : AreHomes stores.script stores.places
  pub there : is_slot_of c s ≡ true
  pub of : slot_of (setting v.script) f ≡ Some s

homes_of : (c : Script) (v : AllLists) (up : Bool) (names : List (List ℕ)) (stores : Shelves) (plans : List PlanOf) (states : List State) (s : Slot) (f : Fact) → Was c v up names stores plans states s f → AreHomes c stores.places
homes_of c v up names stores plans states s f w = subst (λ d. AreHomes d stores.places) w.kept.script_is w.homes

of_slot : (c : Script) (v : AllLists) (up : Bool) (names : List (List ℕ)) (stores : Shelves) (plans : List PlanOf) (states : List State) (s : Slot) (f : Fact) → Was c v up names stores plans states s f → slot_of (setting c) f ≡ Some s
of_slot c v up names stores plans states s f w = ap (λ (x : AllLists). slot_of (setting x.script) f) w.view ∙ w.of

pub kept_with : (c : Script) (up : Bool) (names : List (List ℕ)) (stores new : Shelves) (plans : List PlanOf) (states now : List State) → IsKept c up names stores plans states → new.script ≡ stores.script → AreStates c new.places now → IsKept c up names new plans now
kept_with c up names stores new plans states now k script a = record {
  script_is = script ∙ k.script_is;
  names_are = k.names_are;
  upgrades_are = k.upgrades_are;
  plans_are = k.plans_are;
  states_are = a;
}

pub kept_stays : (c : Script) (v : AllLists) (up : Bool) (names : List (List ℕ)) (stores new : Shelves) (plans : List PlanOf) (states : List State) (s : Slot) (f : Fact) → Was c v up names stores plans states s f → new.script ≡ stores.script → StayPlaces c s stores.places new.places → IsKept c up names new plans states
kept_stays c v up names stores new plans states s f w script st =
    kept_with c up names stores new plans states states w.kept script
    (states_stay c s stores.places new.places states (homes_of c v up names stores plans states s f w) w.there st w.kept.states_are)

pub kept_after : {E : Type 0} (r : Result Bool E) (c : Script) (v : AllLists) (up : Bool) (names : List (List ℕ)) (stores new : Shelves) (plans : List PlanOf) (states : List State) (s : Slot) (f : Fact) → Was c v up names stores plans states s f
    → ((e : List ℕ) (rs : List Record) → journal_step e rs f ≡ rs) → new.script ≡ stores.script → IfOk r (λ done. EntersPlaces c s stores.places f done new.places) → OnErr r (StayPlaces c s stores.places new.places) → IsKept c up names new plans states
kept_after (Ok done) c v up names stores new plans states s f w same script en st =
    kept_with c up names stores new plans states states w.kept script
    (states_after c s stores.places new.places f done states (homes_of c v up names stores plans states s f w) w.there (of_slot c v up names stores plans states s f w) en same w.kept.states_are)
kept_after (Err e) c v up names stores new plans states s f w same script en st = kept_stays c v up names stores new plans states s f w script st

pub enters_one : (c : Script) (v : AllLists) (up : Bool) (names : List (List ℕ)) (stores new : Shelves) (plans : List PlanOf) (states : List State) (s : Slot) (f : Fact) (done : Bool) → Was c v up names stores plans states s f → EntersPlaces c s stores.places f done new.places → Enters v f done (seen c new.places)
enters_one c v up names stores new plans states s f done w en =
    subst (λ (x : AllLists). Enters x f done (seen c new.places)) w.view
    (enters_seen c s stores.places new.places f done (homes_of c v up names stores plans states s f w) w.there (of_slot c v up names stores plans states s f w) en)

pub stays_one : (c : Script) (v : AllLists) (up : Bool) (names : List (List ℕ)) (stores new : Shelves) (plans : List PlanOf) (states : List State) (s : Slot) (f : Fact) → Was c v up names stores plans states s f → StayPlaces c s stores.places new.places → seen c new.places ≡ v
stays_one c v up names stores new plans states s f w st =
    ap (λ l. record { script = c; lists = l }) (lists_stay c s stores.places new.places (homes_of c v up names stores plans states s f w) w.there st) ∙ w.view

pub enters_after : {E : Type 0} (r : Result Bool E) (c : Script) (v : AllLists) (up : Bool) (names : List (List ℕ)) (stores new : Shelves) (plans : List PlanOf) (states : List State) (s : Slot) (f : Fact) → Was c v up names stores plans states s f
    → IfOk r (λ done. EntersPlaces c s stores.places f done new.places) → IfOk r (λ done. Enters v f done (seen c new.places))
enters_after (Ok done) c v up names stores new plans states s f w en = enters_one c v up names stores new plans states s f done w en
enters_after (Err e) c v up names stores new plans states s f w en = tt

pub stays_after : {E : Type 0} (r : Result Bool E) (c : Script) (v : AllLists) (up : Bool) (names : List (List ℕ)) (stores new : Shelves) (plans : List PlanOf) (states : List State) (s : Slot) (f : Fact) → Was c v up names stores plans states s f
    → OnErr r (StayPlaces c s stores.places new.places) → OnErr r (seen c new.places ≡ v)
stays_after (Ok done) c v up names stores new plans states s f w st = tt
stays_after (Err e) c v up names stores new plans states s f w st = stays_one c v up names stores new plans states s f w st

pub on_err : {T E : Type 0} (r : Result T E) (P : Type 0) → P → OnErr r P
on_err (Ok x) P h = tt
on_err (Err e) P h = h

-- the slot of a mark
pub mark_slot : (set : Setting) (e : List ℕ) (f : Fact) → IsMarkOf e f → slot_of set f ≡ Some (slot.Shard (shard_of set e))
mark_slot set e (fact.Snapshot x m) h = ap (λ n. Some (slot.Shard (shard_of set n))) h
mark_slot set e (fact.Remembered x) h = ap (λ n. Some (slot.Shard (shard_of set n))) h
mark_slot set e (fact.Forgotten x) h = ap (λ n. Some (slot.Shard (shard_of set n))) h
mark_slot set e f h = absurd h

-- A record.

pub command_kind : (c : Script) (plans : List PlanOf) (e : List ℕ) (r : Record) (b : Bool) → SameCommand → IsScript c → ArePlanned c plans → ((x : Script) → ArePlanned x plans → b ≡ (is_producer x r.producer && is_planned x r.producer e r.place r.command)) → b ≡ true
    → is_of_kind c.config.kind r.command ≡ true
command_kind c plans e r b rules ok k ans h =
    planned_of_kind c r.producer e r.place r.command rules ok (and_both (is_producer c r.producer) (is_planned c r.producer e r.place r.command) (sym (ans c k) ∙ h)).1

-- what stands under a record that may follow is decided so
pub decided_so : (c : Script) (s : ℕ) (list : List Fact) (e : List ℕ) (r : Record) → may_follow c (slot.Shard s) list (fact.Wrote e r) ≡ true → list_any (λ v. is_answer_in v (folded c.config.kind (journal e list)) r) (versions c) ≡ true
decided_so c s list e r h =
    let f : Fact = fact.Wrote e r in
    let before : List Record = journal e list in
    let entry = (and_both (is_leased list f) (is_shard_entry c s list f) h).1 in
    let a = and_both (is_of_shard c s e && is_producer c r.producer && is_folded_after c before r) (is_merged_after c e before r) entry in
    let b = and_both (is_of_shard c s e && is_producer c r.producer) (is_folded_after c before r) a.0 in
    (and_both _ (list_any (λ v. is_decided v c before r) (versions c)) b.1).1

pub events_apply : (c : Script) (s : ℕ) (old new : List (Option Store)) (states : List State) (e : List ℕ) (r : Record) (k : ℕ) (done : Bool) → SameDecision → is_of_kind c.config.kind r.command ≡ true → AreStates c old states → IsPlaced (names_in c.orders) k e → s ≡ shard_of (setting c) e
    → EntersPlaces c (slot.Shard s) old (fact.Wrote e r) done new → done ≡ true → are_applicable (slice_index_or states k (empty_state c.config.kind)) r.events ≡ true
events_apply c s old new states e r k done rules own a p is en so =
    let state : slice_index_or states k (empty_state c.config.kind) ≡ folded c.config.kind (journal e (entries_at old s)) =
    ap (λ i. slice_index_or states i (empty_state c.config.kind)) p.place ∙ (a.each e p.named ∙ ap (λ n. folded c.config.kind (journal e (entries_at old n))) (sym is)) in
    subst (λ st. are_applicable st r.events ≡ true) (sym state)
    (answers_apply c (versions c) (folded c.config.kind (journal e (entries_at old s))) r rules own (decided_so c s (entries_at old s) e r (sym en.entered.answer ∙ so)))

pub kept_wrote : (c : Script) (v : AllLists) (up : Bool) (names : List (List ℕ)) (stores new : Shelves) (plans : List PlanOf) (states now : List State) (s : Slot) (e : List ℕ) (r : Record) (k : ℕ) (done : Bool) → Was c v up names stores plans states s (fact.Wrote e r)
    → new.script ≡ stores.script → EntersPlaces c s stores.places (fact.Wrote e r) done new.places → IsPlaced names k e
    → now ≡ (if done then slice_set states k (after_record (slice_index_or states k (empty_state c.config.kind)) r) else states) → list_all (is_valid c.config.kind) now ≡ true → IsKept c up names new plans now
kept_wrote c v up names stores new plans states now s e r k done w script en p is valid =
    kept_with c up names stores new plans states now w.kept script
    (states_wrote c s stores.places new.places e r done states now k (homes_of c v up names stores plans states s (fact.Wrote e r) w) w.there (of_slot c v up names stores plans states s (fact.Wrote e r) w) en
    (subst (λ l. IsPlaced l k e) w.kept.names_are p) w.kept.states_are is valid)
