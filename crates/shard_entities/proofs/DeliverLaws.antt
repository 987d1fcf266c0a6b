-- What a delivery rests on: that a message's record may come next, and what stands after it is written.
use Rattle.std.proofs.Common.{◌≡◌, ℕ, ◌+◌, ◌<◌, ◌≤◌, List, [], ◌∷◌, ◌++◌, length, length-append, sym, ap, subst, ◌∙◌, refl, true, false, arith, get_or-set_same}
use Rattle.std.specs.Prelude.{Bool, is_some, ◌==◌, ◌&&◌, ◌||◌, ◌↔◌, Option, None, Some, IfSome, IsTrue}
use Rattle.std.specs.Option.{option_map}
use Rattle.std.specs.List.{list_any}
use Rattle.std.specs.List.Sorted.{IsStrictlySortedBy}
use Rattle.std.specs.Ordering.{nat_cmp}
use Rattle.std.specs.Cmp.Lexicographic.{slice_cmp}
use Rattle.std.proofs.lemmas.List.{length-map}
use Rattle.std.proofs.lemmas.List.Sums.{fold-append}
use Rattle.yard_model.specs.declared.charter.Config.{Config}
use Rattle.yard_model.specs.declared.event.Decision.{Decision}
use Rattle.yard_model.specs.declared.fact.Fact.{Fact}
use Rattle.yard_model.specs.declared.fact.Fact.TheVariants as fact
use Rattle.yard_model.specs.declared.incarnation.Incarnation.{Incarnation}
use Rattle.yard_model.specs.declared.incarnation.Slot.TheVariants as slot
use Rattle.yard_model.specs.declared.packet.Message.{Message}
use Rattle.yard_model.specs.declared.packet.Record.{Record}
use Rattle.yard_model.specs.Behaviour.{decide, folded, are_applicable, is_of_kind}
use Rattle.yard_model.specs.Entities.{Hosted, hosted, entries, entries_in, record_of}
use Rattle.yard_model.specs.Equal.{is_decision}
use Rattle.yard_model.specs.Genuine.{is_planned, is_producer, is_brought, is_genuine, is_node}
use Rattle.yard_model.specs.Lawful.{may_follow, is_held, is_of_shard, is_decided, is_folded_after, is_merged_after}
use Rattle.yard_model.specs.Move.{Move, told}
use Rattle.yard_model.specs.Script.{Script, IsScript, setting, is_name, is_version, versions}
use Rattle.yard_model.specs.Setting.{shard_of}
use Rattle.yard_model.specs.SlotReads.{epoch, journal, journal_step, position, last_snapshot, snapshot_step}
use Rattle.yard_model.specs.Words.{at}
use Rattle.plain_laws.proofs.Booleans.{left_of, right_of, same_number, both, and_both, number_itself}
use Rattle.plain_laws.proofs.Names.{name_itself}
use Rattle.behaviour_core.specs.Laws.{decided_events_apply}
use Rattle.entity_cells.specs.Celled.{Celled}
use Rattle.shard_entities.specs.Delivered.{Stands, IsDelivery, IsNext}
use Rattle.shard_entities.specs.Lodged.{Lodged, IsLodged, IsHosting, lodged, moved, hosted_of, room_of, cell_of, is_for}
use Rattle.shard_entities.specs.Placed.{IsPlace}
use Rattle.shard_entities.specs.declared.hosting.Hosting.{Hosting}
use Rattle.shard_entities.specs.declared.place.Place.{Place}
use Rattle.shard_entities.proofs.EntryLaws.{entered_hosted}
use Rattle.shard_entities.proofs.HostLaws.{at_seen}
use Rattle.shard_entities.proofs.PlannedLaws.{SameCommand, planned_of_kind, planned_few}
use Rattle.shard_entities.proofs.WayLaws.{script_moved}

abbrev pub SameDecision : Type 0
SameDecision = (a b : Decision) → IsTrue (is_decision a b) ↔ (a ≡ b)

-- of a message for an entity
pub for_planned : (c : Script) (e : List ℕ) (m : Message) → is_for c e m ≡ true → (is_planned c m.producer m.entity m.number m.command ≡ true) × (is_producer c m.producer ≡ true)
for_planned c e m h =
    let a : _ × _ = and_both (is_genuine c m && is_producer c m.producer) (is_name m.entity e) h in
    let b : _ × _ = and_both (is_genuine c m) (is_producer c m.producer) a.0 in
    ((and_both (is_planned c m.producer m.entity m.number m.command) (is_node c m.origin) b.0).0, b.1)

pub command_is : {v : Lodged} {p : Place} {m : Message} → SameCommand → Stands v → IsDelivery v p m → is_of_kind v.script.config.kind m.command ≡ true
command_is {v} {p} {m} same s d = planned_of_kind v.script m.producer m.entity m.number m.command same s.script_is (for_planned v.script p.entity m d.for_it).0

pub number_few : {v : Lodged} {p : Place} {m : Message} → Stands v → IsDelivery v p m → m.number ≤ 3000000
number_few {v} {p} {m} s d = planned_few v.script m.producer m.entity m.number m.command s.script_is (for_planned v.script p.entity m d.for_it).0

-- the list of a hosted shard is held
pub leased_is : {c : Script} {version : ℕ} {who : Incarnation} {config : Config} {places : Script} {cells : List Celled} {items : List (Option Hosting)} {running : ℕ} {v : Lodged} → IsLodged c version who config places cells items running → lodged c version who items cells ≡ v
    → (s : ℕ) → (hosted v.state s ≡ None → ⊥) → is_held (entries_in (hosted v.state s)) ≡ true
leased_is {c} {version} {who} {config} {places} {cells} {items} {running} {v} t seen s there = held (at items s) refl (t.hosts s)
  where
    here : hosted v.state s ≡ option_map hosted_of (at items s)
    here = subst (λ (v : Lodged). hosted v.state s ≡ option_map hosted_of (at items s)) seen (at_seen items s)

    held : (o : Option Hosting) → at items s ≡ o → IfSome o (IsHosting c who s) → is_held (entries_in (hosted v.state s)) ≡ true
    held None is k = absurd (there (here ∙ ap (option_map hosted_of) is))
    held (Some h) is k = ap (λ x. is_held (entries_in x)) (here ∙ ap (option_map hosted_of) is) ∙ ap is_some k.leased

-- what is so of a version that is admitted is so of some
admits : (q : ℕ → Bool) (v : ℕ) (ws : List ℕ) → list_any (λ w. w == v) ws ≡ true → q v ≡ true → list_any q ws ≡ true
admits q v [] h so = h
admits q v (w ∷ ws) h so = elim (w == v) as (λ b. (w == v) ≡ b → (b || list_any (λ x. x == v) ws) ≡ true → (q w || list_any q ws) ≡ true) [
  | true ↦ λ t g. left_of (q w) (list_any q ws) (ap q (same_number w v t) ∙ so)
  | false ↦ λ t g. right_of (q w) (list_any q ws) (admits q v ws g so)
] refl h

-- the record of the next message may come next
pub next_is : {v : Lodged} {p : Place} {m : Message} → SameCommand → SameDecision → Stands v → IsDelivery v p m → m.number ≡ position m.producer (journal p.entity (entries v.state p.entity)) + 1
    → last_snapshot p.entity (entries v.state p.entity) ≤ length (journal p.entity (entries v.state p.entity))
    → IsNext v p m (record_of m v.state (journal m.entity (entries v.state m.entity)))
next_is {v} {p} {m} commands decisions s d next last = record {
  may = subst (λ e. may_follow v.script (slot.Shard p.shard) (entries v.state e) (fact.Wrote e r) ≡ true) d.entity_is follows;
  applies = subst (λ e. are_applicable (folded v.script.config.kind (journal e (entries v.state e))) r.events ≡ true) d.entity_is applies;
  number_is = subst (λ e. r.number ≡ length (journal e (entries v.state e)) + 1) d.entity_is refl;
  last = let long : length records ≡ length (journal p.entity (entries v.state p.entity)) = ap (λ e. length (journal e (entries v.state e))) d.entity_is in omega (arith, last, long);
  few = number_few s d;
}
  where
    list : List Fact
    list = entries v.state m.entity

    records : List Record
    records = journal m.entity list

    r : Record
    r = record_of m v.state records

    kind_is : v.state.set.config.kind ≡ v.script.config.kind
    kind_is = ap (λ x. x.config.kind) s.set_is

    planned : (is_planned v.script m.producer m.entity m.number m.command ≡ true) × (is_producer v.script m.producer ≡ true)
    planned = for_planned v.script p.entity m d.for_it

    here : IsPlace v.script p
    here = d.place_is

    held : is_held list ≡ true
    held = subst (λ e. is_held (entries v.state e) ≡ true) (sym d.entity_is) (subst (λ (x : ℕ). is_held (entries_in (hosted v.state x)) ≡ true) (here.shard_is ∙ ap (λ x. shard_of x p.entity) (sym s.set_is)) (s.leased p.shard d.there.hosted_is))

    of_shard : is_of_shard v.script p.shard m.entity ≡ true
    of_shard = subst (λ e. is_of_shard v.script p.shard e ≡ true) (sym d.entity_is) (both (is_brought v.script p.entity) (shard_of (setting v.script) p.entity == p.shard) here.brought (number_itself (shard_of (setting v.script) p.entity) p.shard (sym here.shard_is)))

    decided : is_decided v.state.version v.script records r ≡ true
    decided = subst (λ k. is_decision (decide v.state.version (folded k records) m.command) (record { events = r.events; reply = r.reply }) ≡ true) kind_is ((decisions (decide v.state.version (folded v.state.set.config.kind records) m.command) (record { events = r.events; reply = r.reply })).1 refl)

    folds : is_folded_after v.script records r ≡ true
    folds = both (length records + 1 == length records + 1) (list_any (λ w. is_decided w v.script records r) (versions v.script)) (number_itself (length records + 1) (length records + 1) refl) (admits (λ w. is_decided w v.script records r) v.state.version (versions v.script) s.admitted decided)

    next_here : m.number ≡ position m.producer records + 1
    next_here = subst (λ e. m.number ≡ position m.producer (journal e (entries v.state e)) + 1) (sym d.entity_is) next

    merges : is_merged_after v.script m.entity records r ≡ true
    merges = both (m.number == position m.producer records + 1) (is_planned v.script m.producer m.entity m.number m.command) (number_itself m.number (position m.producer records + 1) next_here) planned.0

    follows : may_follow v.script (slot.Shard p.shard) list (fact.Wrote m.entity r) ≡ true
    follows =
        both (is_held list && (epoch list == epoch list)) (is_of_shard v.script p.shard m.entity && is_producer v.script m.producer && is_folded_after v.script records r && is_merged_after v.script m.entity records r)
        (both (is_held list) (epoch list == epoch list) held (number_itself (epoch list) (epoch list) refl))
        (both (is_of_shard v.script p.shard m.entity && is_producer v.script m.producer && is_folded_after v.script records r) (is_merged_after v.script m.entity records r)
        (both (is_of_shard v.script p.shard m.entity && is_producer v.script m.producer) (is_folded_after v.script records r)
        (both (is_of_shard v.script p.shard m.entity) (is_producer v.script m.producer) of_shard planned.1) folds) merges)

    applies : are_applicable (folded v.script.config.kind records) r.events ≡ true
    applies = subst (λ k. are_applicable (folded v.script.config.kind records) (decide v.state.version (folded k records) m.command).events ≡ true) (sym kind_is)
        (decided_events_apply v.state.version v.script.config.kind (folded v.script.config.kind records) m.command (command_is commands s d))

-- After a record is written.

pub place_stays : (v : Lodged) (ms : List Move) {w : Lodged} {p : Place} → w ≡ moved v ms → IsPlace v.script p → IsPlace w.script p
place_stays v ms {w} {p} step is = subst (λ c. IsPlace c p) (sym (ap (λ (x : Lodged). x.script) step ∙ script_moved v ms)) is

-- its list has it
pub list_grown : {v w : Lodged} {p : Place} (r : Record) → Stands v → IsPlace v.script p → (hosted v.state p.shard ≡ None → ⊥) → w ≡ moved v (told (fact.Wrote p.entity r) ∷ []) → entries w.state p.entity ≡ entries v.state p.entity ++ fact.Wrote p.entity r ∷ []
list_grown {v} {w} {p} r s is there step =
    ap (λ (x : Lodged). entries x.state p.entity) step
    ∙ (ap entries_in (get_or-set_same v.state.hosted shard (option_map (entered_hosted f) (at v.state.hosted shard)) None inside) ∙ grown (at v.state.hosted shard) (subst (λ n. hosted v.state n ≡ None → ⊥) place_is there))
  where
    f : Fact
    f = fact.Wrote p.entity r

    shard : ℕ
    shard = shard_of v.state.set p.entity

    place_is : p.shard ≡ shard
    place_is = is.shard_is ∙ ap (λ x. shard_of x p.entity) (sym s.set_is)

    inside : shard < length v.state.hosted
    inside = subst (λ n. n < length v.state.hosted) place_is (subst (λ n. p.shard < n) (sym s.shards_there) is.shard_in)

    grown : (o : Option Hosted) → (o ≡ None → ⊥) → entries_in (option_map (entered_hosted f) o) ≡ entries_in o ++ f ∷ []
    grown None none = absurd (none refl)
    grown (Some h) none = refl

pub number_grown : {v w : Lodged} {p : Place} (r : Record) → Stands v → IsPlace v.script p → (hosted v.state p.shard ≡ None → ⊥) → w ≡ moved v (told (fact.Wrote p.entity r) ∷ []) → r.number ≡ length (journal p.entity (entries v.state p.entity)) + 1
    → r.number ≡ length (journal p.entity (entries w.state p.entity))
number_grown {v} {w} {p} r s is there step number =
    number ∙ (sym (length-append (journal p.entity (entries v.state p.entity)) (r ∷ [])) ∙ ap length (sym (ap (journal p.entity) (list_grown r s is there step) ∙ (fold-append (journal_step p.entity) [] (entries v.state p.entity) (fact.Wrote p.entity r ∷ []) ∙ own))))
  where
    own : journal_step p.entity (journal p.entity (entries v.state p.entity)) (fact.Wrote p.entity r) ≡ journal p.entity (entries v.state p.entity) ++ r ∷ []
    own = rw (name_itself p.entity) refl

pub last_stays : {v w : Lodged} {p : Place} (r : Record) → Stands v → IsPlace v.script p → (hosted v.state p.shard ≡ None → ⊥) → w ≡ moved v (told (fact.Wrote p.entity r) ∷ []) → last_snapshot p.entity (entries v.state p.entity) < r.number
    → last_snapshot p.entity (entries w.state p.entity) < r.number
last_stays {v} {w} {p} r s is there step below =
    subst (λ n. n < r.number) (sym (ap (last_snapshot p.entity) (list_grown r s is there step) ∙ fold-append (snapshot_step p.entity) 0 (entries v.state p.entity) (fact.Wrote p.entity r ∷ []))) below

-- What stands of any entities.
pub stands_of : {c : Script} {version : ℕ} {who : Incarnation} {config : Config} {places : Script} {cells : List Celled} {items : List (Option Hosting)} {running : ℕ} {v : Lodged} → IsLodged c version who config places cells items running → lodged c version who items cells ≡ v → Stands v
stands_of {c} {version} {who} {config} {places} {cells} {items} {running} {v} t seen = record {
  script_is = subst (λ (v : Lodged). IsScript v.script) seen t.script_is;
  set_is = subst (λ (v : Lodged). v.state.set ≡ setting v.script) seen refl;
  admitted = subst (λ (v : Lodged). is_version v.script v.state.version ≡ true) seen t.admitted;
  sorted = subst (λ (v : Lodged). IsStrictlySortedBy (slice_cmp nat_cmp) (setting v.script).names) seen t.sorted;
  there = subst (λ (v : Lodged). length v.state.cells ≡ length (setting v.script).names) seen (length-map cells cell_of ∙ t.there);
  shards_there = subst (λ (v : Lodged). length v.state.hosted ≡ v.script.config.shards) seen (length-map items (option_map hosted_of) ∙ t.shards_there);
  rooms_there = subst (λ (v : Lodged). length v.rooms ≡ v.script.config.shards) seen (length-map items room_of ∙ t.shards_there);
  leased = leased_is t seen;
}
