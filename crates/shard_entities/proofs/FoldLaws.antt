-- A recovery: in a list that is lawful by itself each journal leads to a state, from its beginning or from a snapshot on. (As in the proofs of the top call.)
use Rattle.std.proofs.Common.{◌≡◌, ℕ, ◌+◌, ◌<◌, ◌≤◌, sym, ap, ◌∙◌, refl, subst, drop, true≢false}
use Rattle.std.specs.List.{list_any}
use Rattle.yard_laws.proofs.Owned.{shard_to}
use Rattle.std.specs.Prelude.{Bool, true, false, zero, suc, ◌==◌, ◌&&◌, ◌||◌, List, [], ◌∷◌, ◌++◌, length, fold, take, slice_index_or, if◌then◌else◌}
use Rattle.std.proofs.lemmas.List.{drop_all, drop_more}
use Rattle.std.proofs.lemmas.List.Sums.{fold-append}
use Rattle.std.proofs.Math.Bool.{and-true, and_assoc}
use Rattle.yard_model.specs.declared.event.Decision.{Decision}
use Rattle.yard_model.specs.declared.event.Kind.{Kind}
use Rattle.yard_model.specs.declared.fact.Fact.{Fact}
use Rattle.yard_model.specs.declared.fact.Fact.TheVariants as fact
use Rattle.yard_model.specs.declared.incarnation.Slot.TheVariants as slot
use Rattle.yard_model.specs.declared.packet.Record.{Record}
use Rattle.yard_model.specs.declared.state.State.{State}
use Rattle.yard_model.specs.Behaviour.{decide, folded, empty_state, are_applicable, apply, after_record, is_of_kind, is_valid}
use Rattle.yard_model.specs.Genuine.{is_producer}
use Rattle.yard_model.specs.Lawful.{own, is_shard_entry, is_of_shard, is_decided, is_folded_after, is_merged_after}
use Rattle.yard_model.specs.Opening.{begins}
use Rattle.yard_model.specs.Script.{Script, IsScript, is_name, versions}
use Rattle.yard_model.specs.SlotReads.{journal, journal_step, position}
use Rattle.plain_laws.proofs.Booleans.{and_both, both, same_name}
use Rattle.behaviour_core.specs.Laws.{decided_events_apply, valid_after_all, empty_is_valid}
use Rattle.entity_snapshot.specs.declared.snapshot.Snapshot.{Snapshot}
use Rattle.shard_store.specs.Shelved.{IsSnapshot}
use Rattle.shard_entities.specs.Foldable.{are_foldable}
use Rattle.shard_entities.proofs.DeliverLaws.{SameDecision}
use Rattle.shard_entities.proofs.PlannedLaws.{SameCommand, planned_of_kind}

foldable_more : (st : State) (rs : List Record) (r : Record) → are_foldable st (rs ++ r ∷ []) ≡ (are_foldable st rs && are_applicable (fold after_record st rs) r.events)
foldable_more st [] r = and-true (are_applicable st r.events)
foldable_more st (x ∷ xs) r =
    ap (λ b. are_applicable st x.events && b) (foldable_more (after_record st x) xs r)
    ∙ sym (and_assoc (are_applicable st x.events) (are_foldable (after_record st x) xs) (are_applicable (fold after_record (after_record st x) xs) r.events))

-- A record that is folded and merged after these.

some_in : {A : Type 0} (p : A → Bool) (xs : List A) → list_any p xs ≡ true → (x : A) × (p x ≡ true)
some_in p [] h = absurd (true≢false (sym h))
some_in p (x ∷ xs) h = elim (p x) as (λ b. p x ≡ b → (b || list_any p xs) ≡ true → (y : _) × (p y ≡ true)) [
  | true ↦ λ t g. (x, t)
  | false ↦ λ t g. some_in p xs g
] refl h

record_applies : (c : Script) (e : List ℕ) (before : List Record) (r : Record) → SameCommand → SameDecision → IsScript c → is_folded_after c before r ≡ true → is_merged_after c e before r ≡ true
    → are_applicable (folded c.config.kind before) r.events ≡ true
record_applies c e before r commands decisions ok folds merges =
    let st : State = folded c.config.kind before in
    let some : (v : ℕ) × (is_decided v c before r ≡ true) = some_in (λ v. is_decided v c before r) (versions c) (and_both (r.number == length before + 1) _ folds).1 in
    let decided : decide some.0 st r.command ≡ record { events = r.events; reply = r.reply } = (decisions (decide some.0 st r.command) (record { events = r.events; reply = r.reply })).0 some.1 in
    let own : is_of_kind c.config.kind r.command ≡ true = planned_of_kind c r.producer e r.place r.command commands ok (and_both (r.place == position r.producer before + 1) _ merges).1 in
    ap (λ (d : Decision). are_applicable st d.events) (sym decided) ∙ decided_events_apply some.0 c.config.kind st r.command own

abbrev folds : Script → List ℕ → List Fact → Type 0
folds c e list = are_foldable (empty_state c.config.kind) (journal e list) ≡ true

journal_next : (e : List ℕ) (list : List Fact) (f : Fact) → journal e (list ++ f ∷ []) ≡ journal_step e (journal e list) f
journal_next e list f = fold-append (journal_step e) [] list (f ∷ [])

entry_folds : (c : Script) (s : ℕ) (e : List ℕ) (list : List Fact) (f : Fact) → SameCommand → SameDecision → IsScript c → (begins f || is_shard_entry c s list f) ≡ true → folds c e list
    → are_foldable (empty_state c.config.kind) (journal_step e (journal e list) f) ≡ true
entry_folds c s e list (fact.Wrote x r) commands decisions ok entry so_far = elim (is_name x e) as (λ v. is_name x e ≡ v → are_foldable (empty_state c.config.kind) (if v then journal e list ++ r ∷ [] else journal e list) ≡ true) [
  | true ↦ λ t.
      let same : x ≡ e = same_name x e t in
      let parts : (is_of_shard c s x && is_producer c r.producer && is_folded_after c (journal x list) r ≡ true) × (is_merged_after c x (journal x list) r ≡ true) =
      and_both (is_of_shard c s x && is_producer c r.producer && is_folded_after c (journal x list) r) (is_merged_after c x (journal x list) r) entry in
      let folded_is : is_folded_after c (journal x list) r ≡ true = (and_both (is_of_shard c s x && is_producer c r.producer) (is_folded_after c (journal x list) r) parts.0).1 in
      let applies : are_applicable (folded c.config.kind (journal x list)) r.events ≡ true = record_applies c x (journal x list) r commands decisions ok folded_is parts.1 in
      foldable_more (empty_state c.config.kind) (journal e list) r
      ∙ both (are_foldable (empty_state c.config.kind) (journal e list)) _ so_far (subst (λ n. are_applicable (folded c.config.kind (journal n list)) r.events ≡ true) same applies)
  | false ↦ λ t. so_far
] refl
entry_folds c s e list f commands decisions ok entry so_far = so_far

-- the journal of a name, in a list that is lawful by itself
pub own_folds : (c : Script) (s : ℕ) (e : List ℕ) (list : List Fact) → SameCommand → SameDecision → IsScript c → own c (slot.Shard s) list ≡ true → are_foldable (empty_state c.config.kind) (journal e list) ≡ true
own_folds c s e list commands decisions ok lawful = shard_to c s (folds c e) refl (λ before f so_far entry. subst (λ l. are_foldable (empty_state c.config.kind) l ≡ true) (sym (journal_next e before f)) (entry_folds c s e before f commands decisions ok entry so_far)) list lawful

-- From a state on.

-- a recovery that goes on after the first m records
pub record GoesOn (k : Kind) (st : State) (rs : List Record) (m : ℕ) : Type 0 where
  pub valid : is_valid k (fold after_record st (take m rs)) ≡ true
  pub may : are_foldable (fold after_record st (take m rs)) (drop m rs) ≡ true
  pub value : fold after_record (fold after_record st (take m rs)) (drop m rs) ≡ fold after_record st rs

pub goes_on : (k : Kind) (st : State) (rs : List Record) (m : ℕ) → is_valid k st ≡ true → are_foldable st rs ≡ true → GoesOn k st rs m
goes_on k st rs zero valid may = record { valid = valid; may = may; value = refl }
goes_on k st [] (suc m) valid may = record { valid = valid; may = may; value = refl }
goes_on k st (r ∷ rs) (suc m) valid may =
    let parts : (are_applicable st r.events ≡ true) × (are_foldable (after_record st r) rs ≡ true) = and_both (are_applicable st r.events) (are_foldable (after_record st r) rs) may in
    let rest : GoesOn k (after_record st r) rs m = goes_on k (after_record st r) rs m (valid_after_all k st r.events valid parts.0) parts.1 in
    record { valid = rest.valid; may = rest.may; value = rest.value }

pub replay_may : (st : State) (records : List Record) (i : ℕ) (d : Record) → i < length records → are_foldable st (drop i records) ≡ true → are_applicable st (slice_index_or records i d).events ≡ true
replay_may st records i d h may = (and_both (are_applicable st (slice_index_or records i d).events) _ (subst (λ l. are_foldable st l ≡ true) (drop_more records i d h) may)).0

-- What the store tells.

-- from its latest snapshot
pub from_snapshot : (c : Script) (s : ℕ) (e : List ℕ) (list : List Fact) (m : ℕ) (x : Snapshot) → SameCommand → SameDecision → IsScript c → own c (slot.Shard s) list ≡ true → IsSnapshot c.config.kind (journal e list) m x
    → (is_valid c.config.kind x.state ≡ true) × (are_foldable x.state (drop x.at (journal e list)) ≡ true) × (fold after_record x.state (drop x.at (journal e list)) ≡ folded c.config.kind (journal e list))
from_snapshot c s e list m x commands decisions ok lawful saved =
    let on : GoesOn c.config.kind (empty_state c.config.kind) (journal e list) m = goes_on c.config.kind (empty_state c.config.kind) (journal e list) m (empty_is_valid c.config.kind) (own_folds c s e list commands decisions ok lawful) in (
      subst (λ y. is_valid c.config.kind y ≡ true) (sym saved.state_is) on.valid,
      subst (λ n. are_foldable x.state (drop n (journal e list)) ≡ true) (sym saved.at_is) (subst (λ y. are_foldable y (drop m (journal e list)) ≡ true) (sym saved.state_is) on.may),
      subst (λ n. fold after_record x.state (drop n (journal e list)) ≡ folded c.config.kind (journal e list)) (sym saved.at_is) (subst (λ y. fold after_record y (drop m (journal e list)) ≡ folded c.config.kind (journal e list)) (sym saved.state_is) on.value),
    )

pub replay_may_read : (st : State) (records : List Record) (i : ℕ) (r : Record) → i < length records → r ≡ slice_index_or records i r → are_foldable st (drop i records) ≡ true → are_applicable st r.events ≡ true
replay_may_read st records i r h read may = ap (λ (x : Record). are_applicable st x.events) read ∙ replay_may st records i r h may

-- one record more
pub replay_to : (st new whole : State) (records : List Record) (i : ℕ) (r : Record) → i < length records → r ≡ slice_index_or records i r → are_foldable st (drop i records) ≡ true → fold after_record st (drop i records) ≡ whole → new ≡ fold apply st r.events
    → (are_foldable new (drop (i + 1) records) ≡ true) × (fold after_record new (drop (i + 1) records) ≡ whole)
replay_to st new whole records i r h read may value step =
    let more : drop i records ≡ r ∷ drop (i + 1) records = drop_more records i r h ∙ ap (λ (x : Record). x ∷ drop (i + 1) records) (sym read) in
    let parts : (are_applicable st r.events ≡ true) × (are_foldable (after_record st r) (drop (i + 1) records) ≡ true) = and_both (are_applicable st r.events) _ (subst (λ l. are_foldable st l ≡ true) more may) in (
      subst (λ s. are_foldable s (drop (i + 1) records) ≡ true) (sym step) parts.1,
      ap (λ s. fold after_record s (drop (i + 1) records)) step ∙ (sym (ap (fold after_record st) more) ∙ value),
    )

-- and none
pub replay_done : (st whole : State) (records : List Record) (i : ℕ) → length records ≤ i → fold after_record st (drop i records) ≡ whole → st ≡ whole
replay_done st whole records i past value = sym (ap (fold after_record st) (drop_all i records past)) ∙ value

-- from a state on, with these records
pub record Leads (k : Kind) (st : State) (rest : List Record) (whole : State) : Type 0 where
  pub valid : is_valid k st ≡ true
  pub may : are_foldable st rest ≡ true
  pub value : fold after_record st rest ≡ whole

pub store_goes_on : (s : ℕ) (e : List ℕ) (list : List Fact) {c : Script} {k : Kind} {m : ℕ} {records rest : List Record} {x : Snapshot} → SameCommand → SameDecision → IsScript c → k ≡ c.config.kind → own c (slot.Shard s) list ≡ true → records ≡ journal e list → IsSnapshot c.config.kind (journal e list) m x → rest ≡ drop x.at records
    → Leads k x.state rest (folded c.config.kind (journal e list))
store_goes_on s e list {c} {k} {m} {records} {rest} {x} commands decisions ok kind_is lawful journal_is saved tail =
    let all : _ = from_snapshot c s e list m x commands decisions ok lawful saved in
    let rest_is : rest ≡ drop x.at (journal e list) = tail ∙ ap (drop x.at) journal_is in
    record { valid = subst (λ k. is_valid k x.state ≡ true) (sym kind_is) all.0; may = subst (λ l. are_foldable x.state l ≡ true) (sym rest_is) all.1; value = ap (fold after_record x.state) rest_is ∙ all.2 }

pub store_begins : (s : ℕ) (e : List ℕ) (list : List Fact) {c : Script} {k : Kind} {records rest : List Record} {st : State} → SameCommand → SameDecision → IsScript c → k ≡ c.config.kind → own c (slot.Shard s) list ≡ true → records ≡ journal e list → st ≡ empty_state k → rest ≡ drop 0 records
    → Leads k st rest (folded c.config.kind (journal e list))
store_begins s e list {c} {k} {records} {rest} {st} commands decisions ok kind_is lawful journal_is empty tail =
    let rest_is : rest ≡ journal e list = tail ∙ journal_is in
    let st_is : st ≡ empty_state c.config.kind = empty ∙ ap empty_state kind_is in
    record { valid = subst (λ y. is_valid k y ≡ true) (sym empty) (empty_is_valid k); may = subst (λ l. are_foldable st l ≡ true) (sym rest_is) (subst (λ y. are_foldable y (journal e list) ≡ true) (sym st_is) (own_folds c s e list commands decisions ok lawful)); value = ap (fold after_record st) rest_is ∙ ap (λ y. fold after_record y (journal e list)) st_is }
