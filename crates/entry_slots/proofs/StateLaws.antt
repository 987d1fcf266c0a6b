-- What is kept of each name after an entry was tested; and what the lists are then.
use Rattle.std.proofs.Common.{length-append, ◌≡◌, ◌<◌, ◌≤◌, ℕ, ◌+◌, List, [], ◌∷◌, ◌++◌, length, map, sym, subst, ap, ap₂, ◌∙◌, refl, true, false, true≢false, arith}
use Rattle.std.specs.Prelude.{Bool, ◌==◌, ◌&&◌, ◌||◌, not, ◌↔◌, nat_lt, fold, IsTrue, Option, Some, None, replicate, slice_index_or, slice_set, if◌then◌else◌}
use Rattle.std.specs.List.{list_all, list_any}
use Rattle.std.proofs.lemmas.List.{get_or_append_left, get_or_at, length-set, length-replicate}
use Rattle.std.proofs.lemmas.List.Sums.{fold-append}
use Rattle.yard_model.specs.declared.event.Decision.{Decision}
use Rattle.yard_model.specs.declared.event.Kind.{Kind}
use Rattle.yard_model.specs.declared.fact.Fact.{Fact}
use Rattle.yard_model.specs.declared.fact.Fact.TheVariants as fact
use Rattle.yard_model.specs.declared.incarnation.Slot.{Slot}
use Rattle.yard_model.specs.declared.incarnation.Slot.TheVariants as slot
use Rattle.yard_model.specs.declared.packet.Record.{Record}
use Rattle.yard_model.specs.declared.state.State.{State}
use Rattle.yard_model.specs.Behaviour.{after_record, are_applicable, decide, empty_state, folded, is_of_kind, is_valid}
use Rattle.yard_model.specs.Genuine.{is_brought, is_planned, is_producer, is_shard, is_slot_of}
use Rattle.yard_model.specs.Lawful.{is_decided, is_entry, is_folded_after, is_held, is_leased, is_merged_after, is_of_shard, is_shard_entry, may_follow, own}
use Rattle.yard_model.specs.Script.{IsScript, Script, is_name, names_in, setting, versions}
use Rattle.yard_model.specs.Setting.{shard_of}
use Rattle.yard_model.specs.SlotReads.{is_remembered, journal, journal_step, last_snapshot, position}
use Rattle.yard_model.specs.Trace.{list_at, lists_step, slot_of, with_entry}
use Rattle.yard_model.specs.Opening.{begins}
use Rattle.yard_laws.proofs.Owned.{shard_to}
use Rattle.plain_laws.proofs.Booleans.{all_replicate, and_both, below, both, all_set, get_replicate, not_below, number_itself, same_name}
use Rattle.plain_laws.proofs.Lists.{some_is}
use Rattle.plain_laws.proofs.Read.{journal_more}
use Rattle.behaviour_core.specs.Laws.{decided_events_apply, empty_is_valid}
use Rattle.durable_queue.specs.Kept.{kept_of, place_of}
use Rattle.durable_queue.proofs.PlaceLaws.{kept_put}
use Rattle.shard_store.specs.declared.store.Store.{Store}
use Rattle.shard_store.specs.Stores.{AreHomes, Shelves, entries_at, lists_at}
use Rattle.shard_store.specs.Stores as stores
use Rattle.entry_slots.proofs.PlannedLaws.{SameDecision}
use Rattle.entry_slots.specs.Entered.{AllLists, Enters, EntersPlaces, IsMarkOf, StayPlaces, is_of_no_entity, may_enter}
use Rattle.entry_slots.specs.Kept.{ArePlanned, AreSoFar, AreStates, IsKept, IsPlaced, PlanOf, goes_over, is_answer_in, state_of}
use Rattle.entry_slots.proofs.PlacesLaws.{entries_after, entries_stay, list_there, lists_after, lists_stay}

abbrev pub seen : Script → List (Option Store) → AllLists
seen c places = record { script = c; lists = lists_at c.config places }

-- Journals.

-- an entry of another shard's list is no record of this name
step_else : (c : Script) (s : Slot) (e : List ℕ) (old : List Record) (f : Fact) → slot_of (setting c) f ≡ Some s → (shard_of (setting c) e == stores.place_of c.config s) ≡ false → journal_step e old f ≡ old
step_else c s e old (fact.Wrote x r) of other = by (is_name x e) refl
  where
    by : (b : Bool) → is_name x e ≡ b → (if b then old ++ r ∷ [] else old) ≡ old
    by false t = refl
    by true t =
        let it : slot.Shard (shard_of (setting c) x) ≡ s = some_is (slot.Shard (shard_of (setting c) x)) s of in
        let here : shard_of (setting c) e ≡ stores.place_of c.config s = ap (shard_of (setting c)) (sym (same_name x e t)) ∙ ap (stores.place_of c.config) it in
        absurd (true≢false (sym (number_itself (shard_of (setting c) e) (stores.place_of c.config s) here) ∙ other))
step_else c s e old f of other = refl

journal_after : (c : Script) (s : Slot) (old new : List (Option Store)) (f : Fact) (done : Bool) (e : List ℕ) → AreHomes c old → is_slot_of c s ≡ true → slot_of (setting c) f ≡ Some s → EntersPlaces c s old f done new
    → journal e (entries_at new (shard_of (setting c) e)) ≡ (if done then journal_step e (journal e (entries_at old (shard_of (setting c) e))) f else journal e (entries_at old (shard_of (setting c) e)))
journal_after c s old new f done e homes h of k =
    let j : ℕ = shard_of (setting c) e in
    ap (journal e) (entries_after c s old new f done j homes h k) ∙ by done (j == stores.place_of c.config s) refl
  where
    list : List Fact
    list = entries_at old (shard_of (setting c) e)

    by : (b v : Bool) → (shard_of (setting c) e == stores.place_of c.config s) ≡ v → journal e (if b && v then list ++ f ∷ [] else list) ≡ (if b then journal_step e (journal e list) f else journal e list)
    by true true t = journal_more e list f
    by true false t = sym (step_else c s e (journal e list) f of t)
    by false v t = refl

-- States.

-- after what is no record
pub states_after : (c : Script) (s : Slot) (old new : List (Option Store)) (f : Fact) (done : Bool) (states : List State) → AreHomes c old → is_slot_of c s ≡ true → slot_of (setting c) f ≡ Some s → EntersPlaces c s old f done new
    → ((e : List ℕ) (rs : List Record) → journal_step e rs f ≡ rs) → AreStates c old states → AreStates c new states
states_after c s old new f done states homes h of k same a = record {
  sized = a.sized;
  valid = a.valid;
  each = λ e named. a.each e named ∙ ap (folded c.config.kind) (sym (journal_after c s old new f done e homes h of k ∙ by done e));
}
  where
    by : (b : Bool) (e : List ℕ) → (if b then journal_step e (journal e (entries_at old (shard_of (setting c) e))) f else journal e (entries_at old (shard_of (setting c) e))) ≡ journal e (entries_at old (shard_of (setting c) e))
    by true e = same e (journal e (entries_at old (shard_of (setting c) e)))
    by false e = refl

pub states_stay : (c : Script) (s : Slot) (old new : List (Option Store)) (states : List State) → AreHomes c old → is_slot_of c s ≡ true → StayPlaces c s old new → AreStates c old states → AreStates c new states
states_stay c s old new states homes h k a = record {
  sized = a.sized;
  valid = a.valid;
  each = λ e named. a.each e named ∙ ap (λ l. folded c.config.kind (journal e l)) (sym (entries_stay c s old new (shard_of (setting c) e) homes h k));
}

pub no_entity_step : (f : Fact) → is_of_no_entity f ≡ true → (e : List ℕ) (rs : List Record) → journal_step e rs f ≡ rs
no_entity_step (fact.Wrote x r) h e rs = absurd (true≢false (sym h))
no_entity_step f h e rs = refl

pub mark_step : (x : List ℕ) (f : Fact) → IsMarkOf x f → (e : List ℕ) (rs : List Record) → journal_step e rs f ≡ rs
mark_step x (fact.Wrote y r) h e rs = absurd h
mark_step x f h e rs = refl

-- after a record
pub states_wrote : (c : Script) (s : Slot) (old new : List (Option Store)) (x : List ℕ) (r : Record) (done : Bool) (states now : List State) (k : ℕ) → AreHomes c old → is_slot_of c s ≡ true → slot_of (setting c) (fact.Wrote x r) ≡ Some s
    → EntersPlaces c s old (fact.Wrote x r) done new → IsPlaced (names_in c.orders) k x → AreStates c old states
    → now ≡ (if done then slice_set states k (after_record (slice_index_or states k (empty_state c.config.kind)) r) else states) → list_all (is_valid c.config.kind) now ≡ true → AreStates c new now
states_wrote c s old new x r done states now k homes h of en p a is valid = record {
  sized = sized_by done is;
  valid = valid;
  each = λ e named. by done is e named ∙ ap (folded c.config.kind) (sym (journal_after c s old new (fact.Wrote x r) done e homes h of en));
}
  where
    names : List (List ℕ)
    names = names_in c.orders

    d : State
    d = empty_state c.config.kind

    v : State
    v = after_record (slice_index_or states k d) r

    sized_by : (b : Bool) → now ≡ (if b then slice_set states k v else states) → length now ≡ length names
    sized_by true is = ap length is ∙ (length-set states k v ∙ a.sized)
    sized_by false is = ap length is ∙ a.sized

    old_journal : List ℕ → List Record
    old_journal e = journal e (entries_at old (shard_of (setting c) e))

    at_k : v ≡ after_record (kept_of names states d x) r
    at_k = ap (λ i. after_record (slice_index_or states i d) r) p.place

    put : (e : List ℕ) → list_any (is_name e) names ≡ true → (b : Bool) → is_name x e ≡ b → (if b then v else kept_of names states d e) ≡ folded c.config.kind (if b then old_journal e ++ r ∷ [] else old_journal e)
    put e named true t =
        at_k ∙ (ap (λ n. after_record (kept_of names states d n) r) (same_name x e t)
        ∙ (ap (λ st. after_record st r) (a.each e named) ∙ sym (fold-append after_record d (old_journal e) (r ∷ []))))
    put e named false t = a.each e named

    by : (b : Bool) → now ≡ (if b then slice_set states k v else states) → (e : List ℕ) → list_any (is_name e) names ≡ true → kept_of names now d e ≡ folded c.config.kind (if b then journal_step e (old_journal e) (fact.Wrote x r) else old_journal e)
    by true is e named =
        ap (λ l. kept_of names l d e) (is ∙ ap (λ i. slice_set states i v) p.place) ∙ (kept_put names states d v x e a.sized p.named ∙ put e named (is_name x e) refl)
    by false is e named = ap (λ l. kept_of names l d e) is ∙ a.each e named

-- What contracts see.

pub enters_seen : (c : Script) (s : Slot) (old new : List (Option Store)) (f : Fact) (done : Bool) → AreHomes c old → is_slot_of c s ≡ true → slot_of (setting c) f ≡ Some s → EntersPlaces c s old f done new → Enters (seen c old) f done (seen c new)
enters_seen c s old new f done homes h of k = record {
  answer = k.entered.answer ∙ (ap (λ l. may_follow c s l f) (sym (list_there c old s h)) ∙ (sym (ap (λ b. b && may_follow c s (list_at (lists_at c.config old) s) f) h) ∙ ap (may_enter c (lists_at c.config old) f) (sym of)));
  script = refl;
  lists = lists_after c s old new f done homes h of k;
}

-- a refusal leaves all as it is
refused : (c : Script) (places : List (Option Store)) (f : Fact) → may_enter c (lists_at c.config places) f (slot_of (setting c) f) ≡ false → Enters (seen c places) f false (seen c places)
refused c places f h = record { answer = sym h; script = refl; lists = refl }

pub refused_slot : (c : Script) (places : List (Option Store)) (f : Fact) (s : Slot) → slot_of (setting c) f ≡ Some s → is_slot_of c s ≡ false → Enters (seen c places) f false (seen c places)
refused_slot c places f s of h = refused c places f (ap (may_enter c (lists_at c.config places) f) of ∙ ap (λ b. b && may_follow c s (list_at (lists_at c.config places) s) f) h)

no_test : (a : Bool) → (a && false) ≡ false
no_test true = refl
no_test false = refl

-- an entry of a shard's list that is no entry there
no_entry : (c : Script) (places : List (Option Store)) (f : Fact) (s : ℕ) → slot_of (setting c) f ≡ Some (slot.Shard s) → is_shard_entry c s (list_at (lists_at c.config places) (slot.Shard s)) f ≡ false → Enters (seen c places) f false (seen c places)
no_entry c places f s of h =
    let list : List Fact = list_at (lists_at c.config places) (slot.Shard s) in
    refused c places f
    (ap (may_enter c (lists_at c.config places) f) of
    ∙ (ap (λ b. is_shard c s && (is_leased list f && b)) h
    ∙ (ap (λ b. is_shard c s && b) (no_test (is_leased list f)) ∙ no_test (is_shard c s))))

not_of_shard : (c : Script) (s : ℕ) (e : List ℕ) → list_any (is_name e) (names_in c.orders) ≡ false → is_of_shard c s e ≡ false
not_of_shard c s e h = ap (λ b. b && (shard_of (setting c) e == s)) h

pub refused_mark : (c : Script) (places : List (Option Store)) (e : List ℕ) (f : Fact) → IsMarkOf e f → list_any (is_name e) (names_in c.orders) ≡ false → Enters (seen c places) f false (seen c places)
refused_mark c places e (fact.Snapshot x m) is h =
    let s : ℕ = shard_of (setting c) x in
    let list : List Fact = list_at (lists_at c.config places) (slot.Shard s) in
    no_entry c places (fact.Snapshot x m) s refl (ap (λ b. b && (m == length (journal x list)) && nat_lt (last_snapshot x list) m) (not_of_shard c s x (ap (λ n. list_any (is_name n) (names_in c.orders)) is ∙ h)))
refused_mark c places e (fact.Remembered x) is h =
    let s : ℕ = shard_of (setting c) x in
    let list : List Fact = list_at (lists_at c.config places) (slot.Shard s) in
    no_entry c places (fact.Remembered x) s refl (ap (λ b. b && not (is_remembered x list)) (not_of_shard c s x (ap (λ n. list_any (is_name n) (names_in c.orders)) is ∙ h)))
refused_mark c places e (fact.Forgotten x) is h =
    let s : ℕ = shard_of (setting c) x in
    let list : List Fact = list_at (lists_at c.config places) (slot.Shard s) in
    no_entry c places (fact.Forgotten x) s refl (ap (λ b. b && is_remembered x list) (not_of_shard c s x (ap (λ n. list_any (is_name n) (names_in c.orders)) is ∙ h)))
refused_mark c places e f is h = absurd is

pub refused_name : (c : Script) (places : List (Option Store)) (e : List ℕ) (r : Record) → list_any (is_name e) (names_in c.orders) ≡ false → Enters (seen c places) (fact.Wrote e r) false (seen c places)
refused_name c places e r h =
    let s : ℕ = shard_of (setting c) e in
    let before : List Record = journal e (list_at (lists_at c.config places) (slot.Shard s)) in
    no_entry c places (fact.Wrote e r) s refl (ap (λ b. b && is_producer c r.producer && is_folded_after c before r && is_merged_after c e before r) (not_of_shard c s e h))

pub refused_command : (c : Script) (places : List (Option Store)) (e : List ℕ) (r : Record) → (is_producer c r.producer && is_planned c r.producer e r.place r.command) ≡ false → Enters (seen c places) (fact.Wrote e r) false (seen c places)
refused_command c places e r h =
    let s : ℕ = shard_of (setting c) e in
    let before : List Record = journal e (list_at (lists_at c.config places) (slot.Shard s)) in
    no_entry c places (fact.Wrote e r) s refl (by (is_of_shard c s e) (is_producer c r.producer) (is_folded_after c before r) (r.place == position r.producer before + 1) (is_planned c r.producer e r.place r.command) h)
  where
    by : (a p f n k : Bool) → (p && k) ≡ false → (a && p && f && (n && k)) ≡ false
    by a true f n k h = ap (λ b. a && true && f && (n && b)) h ∙ (ap (λ b. a && true && f && b) (no_test n) ∙ no_test (a && true && f))
    by true false f n k h = refl
    by false false f n k h = refl

-- The events of a record that may follow are applicable.

some_in : {A : Type 0} (p : A → Bool) (xs : List A) → list_any p xs ≡ true → (x : A) × (p x ≡ true)
some_in p [] h = absurd (true≢false (sym h))
some_in p (x ∷ xs) h = elim (p x) as (λ b. p x ≡ b → (b || list_any p xs) ≡ true → (y : _) × (p y ≡ true)) [
  | true ↦ λ t g. (x, t)
  | false ↦ λ t g. some_in p xs g
] refl h

pub answers_apply : (c : Script) (vs : List ℕ) (st : State) (r : Record) → SameDecision → is_of_kind c.config.kind r.command ≡ true → list_any (λ v. is_answer_in v st r) vs ≡ true → are_applicable st r.events ≡ true
answers_apply c vs st r decisions own any =
    let some : (v : ℕ) × (is_answer_in v st r ≡ true) = some_in (λ v. is_answer_in v st r) vs any in
    let decided : decide some.0 st r.command ≡ record { events = r.events; reply = r.reply } = (decisions (decide some.0 st r.command) (record { events = r.events; reply = r.reply })).0 some.1 in
    ap (λ (d : Decision). are_applicable st d.events) (sym decided) ∙ decided_events_apply some.0 c.config.kind st r.command own

-- A change of the number of shards follows nothing.
pub refused_reshard : (c : Script) (places : List (Option Store)) (n k : ℕ) → Enters (seen c places) (fact.Reshard n k) false (seen c places)
refused_reshard c places n k = refused c places (fact.Reshard n k) (no_test (is_held (lists_at c.config places).coordinator))

pub refused_resharded : (c : Script) (places : List (Option Store)) (s n k : ℕ) → Enters (seen c places) (fact.Resharded s n k) false (seen c places)
refused_resharded c places s n k =
    refused c places (fact.Resharded s n k) (ap (λ b. is_shard c s && b) (no_test (is_held (list_at (lists_at c.config places) (slot.Shard s)))) ∙ no_test (is_shard c s))

-- A fact that belongs to no list.
pub enters_none : (c : Script) (places : List (Option Store)) (f : Fact) → slot_of (setting c) f ≡ None → Enters (seen c places) f true (seen c places)
enters_none c places f h = record {
  answer = sym (ap (may_enter c (lists_at c.config places) f) h);
  script = refl;
  lists = sym (ap (with_entry f (lists_at c.config places)) h);
}

-- A name that the script doesn't bring has no records.

abbrev has_none : List ℕ → List Fact → Type 0
has_none e list = journal e list ≡ []

none_more : (c : Script) (s : ℕ) (e : List ℕ) (list : List Fact) (f : Fact) → is_brought c e ≡ false → has_none e list → (begins f || is_shard_entry c s list f) ≡ true → journal_step e (journal e list) f ≡ []
none_more c s e list (fact.Wrote x r) unbrought none entry = by (is_name x e) refl
  where
    by : (b : Bool) → is_name x e ≡ b → (if b then journal e list ++ r ∷ [] else journal e list) ≡ []
    by false t = none
    by true t =
        let parts = and_both (is_of_shard c s x && is_producer c r.producer && is_folded_after c (journal x list) r) (is_merged_after c x (journal x list) r) entry in
        let first = and_both (is_of_shard c s x && is_producer c r.producer) (is_folded_after c (journal x list) r) parts.0 in
        let of_shard = and_both (is_of_shard c s x) (is_producer c r.producer) first.0 in
        let brought = and_both (is_brought c x) (shard_of (setting c) x == s) of_shard.0 in
        absurd (true≢false (sym brought.0 ∙ (ap (is_brought c) (same_name x e t) ∙ unbrought)))
none_more c s e list f unbrought none entry = none

pub no_records : (c : Script) (s : ℕ) (e : List ℕ) (list : List Fact) → own c (slot.Shard s) list ≡ true → is_brought c e ≡ false → journal e list ≡ []
no_records c s e list own unbrought = shard_to c s (has_none e) refl (λ before f none entry. journal_more e before f ∙ none_more c s e before f unbrought none entry) list own

-- one state more that is valid
pub states_valid : (k : Kind) (states : List State) (i : ℕ) (v : State) → list_all (is_valid k) states ≡ true → is_valid k v ≡ true → list_all (is_valid k) (slice_set states i v) ≡ true
states_valid k states i v all one = all_set (is_valid k) states i v all one

-- one plan more
pub planned_more : (c : Script) (n : ℕ) (plans : List PlanOf) (x : PlanOf) → AreSoFar c n plans → x ≡ record { script = c; producer = n + 1 } → AreSoFar c (n + 1) (plans ++ x ∷ [])
planned_more c n plans x a is = record {
  sized = length-append plans (x ∷ []) ∙ ap (λ i. i + 1) a.sized;
  each = λ i d h. by i d h (nat_lt i n) refl;
}
  where
    by : (i : ℕ) (d : PlanOf) → i < n + 1 → (b : Bool) → nat_lt i n ≡ b → slice_index_or (plans ++ x ∷ []) i d ≡ record { script = c; producer = i + 1 }
    by i d h true t = let inside : i < n = below i n t in get_or_append_left plans (x ∷ []) d i (subst (λ m. i < m) (sym a.sized) inside) ∙ a.each i d inside
    by i d h false t =
        let past : n ≤ i = not_below i n t in
        let here : n ≡ i = omega (arith, past, h) in
        get_or_at plans x [] d i (a.sized ∙ here) ∙ (is ∙ ap (λ m. record { script = c; producer = m + 1 }) here)

pub planned_none : (c : Script) (plans : List PlanOf) → plans ≡ [] → AreSoFar c 0 plans
planned_none c plans is = record { sized = ap length is; each = λ i d h. absurd (omega (arith, h)) }

pub planned_all : (c : Script) (n : ℕ) (plans : List PlanOf) → n ≡ c.config.producers → AreSoFar c n plans → ArePlanned c plans
planned_all c n plans is a = record { sized = a.sized ∙ is; each = λ i d h. a.each i d (subst (λ m. i < m) a.sized h) }

-- before the first entry
pub kept_new : (c d : Script) (up : Bool) (names : List (List ℕ)) (new : Shelves) (plans : List PlanOf) (states : List State) → d ≡ c → up ≡ goes_over c → names ≡ names_in c.orders → new.script ≡ c → ((k : ℕ) → entries_at new.places k ≡ []) → ArePlanned c plans
    → states ≡ replicate (length names) (empty_state c.config.kind) → IsKept d up names new plans states
kept_new c d up names new plans states same up_is names_are script none plans_are is = subst (λ x. IsKept x up names new plans states) (sym same) (record {
  script_is = script;
  names_are = names_are;
  upgrades_are = up_is;
  plans_are = plans_are;
  states_are = record {
    sized = ap length is ∙ (length-replicate (length names) (empty_state c.config.kind) ∙ ap length names_are);
    valid = ap (list_all (is_valid c.config.kind)) is ∙ all_replicate (is_valid c.config.kind) (length names) (empty_state c.config.kind) (empty_is_valid c.config.kind);
    each = λ e named. ap (λ l. kept_of (names_in c.orders) l (empty_state c.config.kind) e) is ∙ (get_replicate (length names) (place_of (names_in c.orders) e) (empty_state c.config.kind) ∙ sym (ap (λ l. folded c.config.kind (journal e l)) (none (shard_of (setting c) e))));
  };
})
