-- What entities write may follow.
use Rattle.std.proofs.Common.{◌≡◌, ◌<◌, ◌≤◌, ℕ, ◌+◌, sym, ap, ◌∙◌, refl, subst, arith, length-append}
use Rattle.std.specs.Prelude.{Bool, true, false, ◌==◌, ◌&&◌, not, nat_lt, ◌↔◌, List, [], ◌∷◌, ◌++◌, length, is_some, if◌then◌else◌, IsTrue, ◌||◌}
use Rattle.std.proofs.lemmas.List.Sums.{fold-append}
use Rattle.std.specs.List.{list_any}
use Rattle.yard_model.specs.declared.fact.Fact.{Fact}
use Rattle.yard_model.specs.declared.fact.Fact.TheVariants as fact
use Rattle.yard_model.specs.declared.event.Decision.{Decision}
use Rattle.yard_model.specs.declared.packet.Message.{Message}
use Rattle.yard_model.specs.declared.packet.Record.{Record}
use Rattle.yard_model.specs.declared.state.State.{State}
use Rattle.yard_model.specs.declared.incarnation.Slot.{Slot}
use Rattle.yard_model.specs.declared.incarnation.Slot.TheVariants as slot
use Rattle.yard_model.specs.declared.incarnation.Cause.TheVariants as cause
use Rattle.yard_model.specs.Script.{Script, setting, is_name, versions}
use Rattle.yard_model.specs.Setting.{shard_of}
use Rattle.yard_model.specs.Equal.{is_decision, is_state, is_slot}
use Rattle.yard_model.specs.Genuine.{is_brought, is_producer, is_planned}
use Rattle.yard_model.specs.Behaviour.{decide, folded}
use Rattle.yard_model.specs.Lawful.{own, is_held, may_follow, is_of_shard, is_folded_after, is_merged_after, is_shard_entry, is_decided}
use Rattle.yard_model.specs.SlotReads.{epoch, journal, journal_step, position, last_snapshot, snapshot_step, is_remembered}
use Rattle.yard_model.specs.Entities.{Entities, entries, record_of}
use Rattle.yard_model.proofs.FollowLaws.{own_more}
use Rattle.plain_laws.proofs.Booleans.{and_both, both, same_number, number_itself, same_name, is_below, true_is_not_false, right_of}
use Rattle.plain_laws.proofs.Read.{journal_more}
use Rattle.plain_laws.proofs.Names.{name_itself}
use Rattle.yard_laws.specs.Entries.{slot_for, IsHosted, NextFollows, EntitiesFollow}
use Rattle.yard_laws.proofs.Owned.{shard_to}
use Rattle.yard_model.specs.Opening.{begins}
use Rattle.yard_laws.proofs.Live.{holder_more}

-- No snapshot is above the journal.

snapshot_more : (e : List ℕ) (list : List Fact) (f : Fact) → last_snapshot e (list ++ f ∷ []) ≡ snapshot_step e (last_snapshot e list) f
snapshot_more e list f = fold-append (snapshot_step e) 0 list (f ∷ [])

record_more : (records : List Record) (r : Record) → length (records ++ r ∷ []) ≡ length records + 1
record_more records r = length-append records (r ∷ [])

below_step : (c : Script) (k : ℕ) (e : List ℕ) (list : List Fact) (f : Fact) → last_snapshot e list ≤ length (journal e list) → (begins f || is_shard_entry c k list f) ≡ true
    → snapshot_step e (last_snapshot e list) f ≤ length (journal_step e (journal e list) f)
below_step c k e list (fact.Wrote x r) h may = step (is_name x e)
  where
    longer : length (journal e list ++ r ∷ []) ≡ length (journal e list) + 1
    longer = record_more (journal e list) r

    step : (b : Bool) → last_snapshot e list ≤ length (if b then journal e list ++ r ∷ [] else journal e list)
    step true = omega (arith, longer)
    step false = h
below_step c k e list (fact.Snapshot x m) h may = step (is_name x e) refl
  where
    entry : (is_of_shard c k x && (m == length (journal x list)) && nat_lt (last_snapshot x list) m) ≡ true
    entry = may

    is : m ≡ length (journal x list)
    is = same_number m (length (journal x list)) (and_both (is_of_shard c k x) (m == length (journal x list)) (and_both (is_of_shard c k x && (m == length (journal x list))) (nat_lt (last_snapshot x list) m) entry).0).1

    step : (b : Bool) → is_name x e ≡ b → (if b then m else last_snapshot e list) ≤ length (journal e list)
    step true t = let it : m ≡ length (journal e list) = is ∙ ap (λ y. length (journal y list)) (same_name x e t) in omega arith
    step false t = h
below_step c k e list f h may = h

snapshot_below : (c : Script) (k : ℕ) (e : List ℕ) (list : List Fact) → own c (slot.Shard k) list ≡ true → last_snapshot e list ≤ length (journal e list)
snapshot_below c k e list o =
    shard_to c k (λ l. last_snapshot e l ≤ length (journal e l)) (omega arith)
    (λ l f h may. subst (λ n. n ≤ length (journal e (l ++ f ∷ []))) (sym (snapshot_more e l f)) (subst (λ rs. snapshot_step e (last_snapshot e l) f ≤ length rs) (sym (journal_more e l f)) (below_step c k e l f h may)))
    list o

-- Records.

of_shard : (c : Script) (e : List ℕ) → is_brought c e ≡ true → is_of_shard c (shard_of (setting c) e) e ≡ true
of_shard c e h = both (is_brought c e) (shard_of (setting c) e == shard_of (setting c) e) h (number_itself (shard_of (setting c) e) (shard_of (setting c) e) refl)

-- what a test says of a version that is among these
any_is : (p : ℕ → Bool) (v : ℕ) (vs : List ℕ) → list_any (λ w. w == v) vs ≡ true → p v ≡ true → list_any p vs ≡ true
any_is p v [] h e = absurd (true_is_not_false (sym h))
any_is p v (w ∷ ws) h e = at (w == v) refl (λ t. any_is p v ws t e)
  where
    at : (b : Bool) → (w == v) ≡ b → (list_any (λ w. w == v) ws ≡ true → list_any p ws ≡ true) → (p w || list_any p ws) ≡ true
    at true t rest = ap (λ b. b || list_any p ws) (ap p (same_number w v t) ∙ e)
    at false t rest = right_of (p w) (list_any p ws) (rest (sym (ap (λ b. b || list_any (λ w. w == v) ws) t) ∙ h))

-- the record that a message gives is decided in the version of the node's behaviour
pub record_decided : (c : Script) (st : Entities) (m : Message) → ((a b : Decision) → IsTrue (is_decision a b) ↔ (a ≡ b)) → IsHosted c st m.entity
    → is_decided st.version c (journal m.entity (entries st m.entity)) (record_of m st (journal m.entity (entries st m.entity))) ≡ true
record_decided c st m same k =
    let records : List Record = journal m.entity (entries st m.entity) in
    let d : Decision = decide st.version (folded st.set.config.kind records) m.command in
    subst (λ set. is_decision (decide st.version (folded set.config.kind records) m.command) d ≡ true) k.set_is ((same d d).1 refl)

record_follows : (c : Script) (st : Entities) (m : Message) → ((a b : Decision) → IsTrue (is_decision a b) ↔ (a ≡ b)) → IsHosted c st m.entity → is_producer c m.producer ≡ true → is_planned c m.producer m.entity m.number m.command ≡ true
    → m.number ≡ position m.producer (journal m.entity (entries st m.entity)) + 1
    → may_follow c (slot_for c m.entity) (entries st m.entity) (fact.Wrote m.entity (record_of m st (journal m.entity (entries st m.entity)))) ≡ true
record_follows c st m same k producer planned next =
    let e : List ℕ = m.entity in
    let list : List Fact = entries st e in
    let records : List Record = journal e list in
    let r : Record = record_of m st records in
    let is_folded : is_folded_after c records r ≡ true =
    both (length records + 1 == length records + 1) (list_any (λ v. is_decided v c records r) (versions c)) (number_itself (length records + 1) (length records + 1) refl)
    (any_is (λ v. is_decided v c records r) st.version (versions c) k.version_is (record_decided c st m same k)) in
    let is_merged : is_merged_after c e records r ≡ true = both (m.number == position m.producer records + 1) (is_planned c m.producer e m.number m.command) (number_itself m.number (position m.producer records + 1) next) planned in
    both (is_held list && (epoch list == epoch list)) (is_of_shard c (shard_of (setting c) e) e && is_producer c m.producer && is_folded_after c records r && is_merged_after c e records r)
    (both (is_held list) (epoch list == epoch list) k.held_is (number_itself (epoch list) (epoch list) refl))
    (both (is_of_shard c (shard_of (setting c) e) e && is_producer c m.producer && is_folded_after c records r) (is_merged_after c e records r)
    (both (is_of_shard c (shard_of (setting c) e) e && is_producer c m.producer) (is_folded_after c records r)
    (both (is_of_shard c (shard_of (setting c) e) e) (is_producer c m.producer) (of_shard c e k.brought_is) producer) is_folded) is_merged)

pub next_follows : ((a b : Decision) → IsTrue (is_decision a b) ↔ (a ≡ b)) → NextFollows
next_follows same c st m k producer planned next =
    let e : List ℕ = m.entity in
    let s : ℕ = shard_of (setting c) e in
    let list : List Fact = entries st e in
    let records : List Record = journal e list in
    let r : Record = record_of m st records in
    let f : Fact = fact.Wrote e r in
    let n : ℕ = length records + 1 in
    let now : own c (slot.Shard s) (list ++ f ∷ []) ≡ true = own_more c (slot.Shard s) list f k.own_is (record_follows c st m same k producer planned next) in
    let grown : journal e (list ++ f ∷ []) ≡ records ++ r ∷ [] = journal_more e list f ∙ ap (λ b. if b then records ++ r ∷ [] else records) (name_itself e) in
    let long : n ≡ length (journal e (list ++ f ∷ [])) = sym (ap length grown ∙ record_more records r) in
    let last : last_snapshot e (list ++ f ∷ []) ≡ last_snapshot e list = snapshot_more e list f in
    let low : last_snapshot e list ≤ length records = snapshot_below c s e list k.own_is in
    let rises : last_snapshot e (list ++ f ∷ []) < n = subst (λ i. i < n) (sym last) (omega (arith, low)) in
    let still : is_held (list ++ f ∷ []) ≡ true = ap (λ o. is_some o) (holder_more list f) ∙ k.held_is in
    record {
      written = now;
      decided = record_decided c st m same k;
      saved = own_more c (slot.Shard s) (list ++ f ∷ []) (fact.Snapshot e n) now
          (both (is_held (list ++ f ∷ [])) (is_of_shard c s e && (n == length (journal e (list ++ f ∷ []))) && nat_lt (last_snapshot e (list ++ f ∷ [])) n) still
          (both (is_of_shard c s e && (n == length (journal e (list ++ f ∷ [])))) (nat_lt (last_snapshot e (list ++ f ∷ [])) n)
          (both (is_of_shard c s e) (n == length (journal e (list ++ f ∷ []))) (of_shard c e k.brought_is) (number_itself n (length (journal e (list ++ f ∷ []))) long))
          (is_below (last_snapshot e (list ++ f ∷ [])) n rises)));
    }

pub entities_follow : ((a b : State) → IsTrue (is_state a b) ↔ (a ≡ b)) → ((a b : Slot) → IsTrue (is_slot a b) ↔ (a ≡ b)) → EntitiesFollow
entities_follow same_state same_slot c st e k =
    let s : Slot = slot_for c e in
    let list : List Fact = entries st e in
    let records : List Record = journal e list in
    record {
      remembered = λ t. own_more c s list (fact.Remembered e) k.own_is
          (both (is_held list) (is_of_shard c (shard_of (setting c) e) e && not (is_remembered e list)) k.held_is (both (is_of_shard c (shard_of (setting c) e) e) (not (is_remembered e list)) (of_shard c e k.brought_is) (ap not t)));
      forgotten = λ t. own_more c s list (fact.Forgotten e) k.own_is
          (both (is_held list) (is_of_shard c (shard_of (setting c) e) e && is_remembered e list) k.held_is (both (is_of_shard c (shard_of (setting c) e) e) (is_remembered e list) (of_shard c e k.brought_is) t));
      freed = own_more c s list (fact.Freed s (epoch list) cause.Released) k.own_is
          (both (is_held list && (epoch list == epoch list)) (is_slot s s) (both (is_held list) (epoch list == epoch list) k.held_is (number_itself (epoch list) (epoch list) refl)) ((same_slot s s).1 refl));
      active = both (length records == length records) (is_state (folded st.set.config.kind records) (folded c.config.kind records)) (number_itself (length records) (length records) refl)
          ((same_state (folded st.set.config.kind records) (folded c.config.kind records)).1 (ap (λ set. folded set.config.kind records) k.set_is));
    }
