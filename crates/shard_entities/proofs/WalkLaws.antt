-- What moves of one entity leave: the other cells, the shards that are hosted, and most of the room.
use Rattle.std.proofs.Common.{◌≡◌, ◌≢◌, ℕ, ◌+◌, ◌-◌, ◌<◌, ◌≤◌, List, [], ◌∷◌, ◌++◌, length, length-append, sym, ap, subst, ◌∙◌, refl, true, false, arith, get_or-set_same, get_or-set_other}
use Rattle.std.specs.Prelude.{Bool, ◌==◌, ◌%◌, ◌/◌, nat_lt, nat_le, Option, None, Some, slice_set, slice_index_or, if◌then◌else◌}
use Rattle.std.specs.Option.{option_map}
use Rattle.std.proofs.lemmas.List.{length-set}
use Rattle.yard_model.specs.declared.fact.Fact.{Fact}
use Rattle.yard_model.specs.declared.fact.Fact.TheVariants as fact
use Rattle.yard_model.specs.declared.incarnation.Incarnation.{Incarnation}
use Rattle.yard_model.specs.declared.incarnation.Keep.{Keep}
use Rattle.yard_model.specs.declared.incarnation.Keep.TheVariants as keep
use Rattle.yard_model.specs.declared.input.Phase.{Phase}
use Rattle.yard_model.specs.declared.input.Phase.TheVariants as phase
use Rattle.yard_model.specs.declared.packet.Body.TheVariants as body
use Rattle.yard_model.specs.declared.packet.Message.{Message}
use Rattle.yard_model.specs.declared.packet.Record.{Record}
use Rattle.yard_model.specs.Entities.{Cell, Hosted, cell, cell_after, new_cell, entity_of, hosted, hosted_step, cells_by, entries, deliver, deliver_by, deliver_at, write, record_of, ask_more, stash_message, start_entity, phase_step, stash_step, is_phase, is_in_phase, arm, passivate}
use Rattle.yard_model.specs.Move.{Move, told, post, passivates}
use Rattle.yard_model.specs.Script.{Setting}
use Rattle.yard_model.specs.Setting.{place, shard_of}
use Rattle.yard_model.specs.SlotReads.{journal, position}
use Rattle.yard_model.specs.Words.{at}
use Rattle.shard_store.specs.Shelved.{name_at}
use Rattle.shard_entities.specs.Delivered.{Stands}
use Rattle.shard_entities.specs.Lodged.{Lodged, moved, lodged_after, less, rooms_step, HasRoom}
use Rattle.shard_entities.specs.Placed.{IsPlace}
use Rattle.shard_entities.specs.Roomy.{Takes}
use Rattle.shard_entities.specs.Settled.{IsQuiet, IsSettled, IsSettledBut}
use Rattle.shard_entities.specs.declared.place.Place.{Place}
use Rattle.shard_entities.proofs.LodgedLaws.{IsOf}
use Rattle.plain_laws.proofs.Booleans.{same_number, other_number}
use Rattle.shard_entities.proofs.EntryLaws.{IsEntry, entered_hosted, entry_wrote, entry_snapshot}
use Rattle.shard_entities.proofs.MoveLaws.{of_start, of_failed, of_request, of_stashed, of_dropped, of_stop_posted, of_arm, of_passivates}

-- the place is one of this value
pub record IsOn (p : Place) (v : Lodged) : Type 0 where
  pub at_is : place v.state.set p.entity ≡ p.at
  pub name_is : name_at v.state.set.names p.at ≡ p.entity
  pub inside : p.at < length v.state.cells
  pub shard_is : shard_of v.state.set p.entity ≡ p.shard
  pub shard_in : p.shard < length v.state.hosted
  pub room_in : p.shard < length v.rooms

pub on_of : {v : Lodged} {p : Place} → Stands v → IsPlace v.script p → IsOn p v
on_of {v} {p} s is = record {
  at_is = ap (λ x. place x p.entity) s.set_is ∙ sym is.at_is;
  name_is = ap (λ (x : Setting). name_at x.names p.at) s.set_is ∙ is.here.it;
  inside = subst (λ n. p.at < n) (sym s.there) is.here.within;
  shard_is = ap (λ x. shard_of x p.entity) s.set_is ∙ sym is.shard_is;
  shard_in = subst (λ n. p.shard < n) (sym s.shards_there) is.shard_in;
  room_in = subst (λ n. p.shard < n) (sym s.rooms_there) is.shard_in;
}

-- it is a name's
pub named_within : {v : Lodged} {p : Place} → Stands v → IsPlace v.script p → p.at < length v.state.set.names
named_within {v} {p} s is = subst (λ (x : Setting). p.at < length x.names) (sym s.set_is) is.here.within

-- from one value to another, by moves of the entity at a place, which take at most n of its shard's room
pub record Walk (p : Place) (v w : Lodged) (n : ℕ) : Type 0 where
  pub script_is : w.script ≡ v.script
  pub set_is : w.state.set ≡ v.state.set
  pub on : IsOn p w
  pub others : (j : ℕ) → j ≢ p.at → slice_index_or w.state.cells j (new_cell v.state.set) ≡ slice_index_or v.state.cells j (new_cell v.state.set)
  pub hosted_are : (t : ℕ) → hosted w.state t ≡ None → hosted v.state t ≡ None
  pub room_is : slice_index_or v.rooms p.shard 0 ≤ slice_index_or w.rooms p.shard 0 + n
  pub rooms_are : (t : ℕ) → t ≢ p.shard → slice_index_or w.rooms t 0 ≡ slice_index_or v.rooms t 0

pub stay : {p : Place} {v : Lodged} → IsOn p v → Walk p v v 0
stay on = record { script_is = refl; set_is = refl; on = on; others = λ j other. refl; hosted_are = λ t none. none; room_is = omega arith; rooms_are = λ t other. refl }

pub then_walk : {p : Place} {v w x : Lodged} {a b n : ℕ} → Walk p v w a → Walk p w x b → a + b ≤ n → Walk p v x n
then_walk {p} {v} {w} {x} {a} {b} {n} one two most = record {
  script_is = two.script_is ∙ one.script_is;
  set_is = two.set_is ∙ one.set_is;
  on = two.on;
  others = λ j other. subst (λ (s : Setting). slice_index_or x.state.cells j (new_cell s) ≡ slice_index_or w.state.cells j (new_cell s)) one.set_is (two.others j other) ∙ one.others j other;
  hosted_are = λ t none. one.hosted_are t (two.hosted_are t none);
  room_is = let first : slice_index_or v.rooms p.shard 0 ≤ slice_index_or w.rooms p.shard 0 + a = one.room_is in let next : slice_index_or w.rooms p.shard 0 ≤ slice_index_or x.rooms p.shard 0 + b = two.room_is in omega (arith, first, next, most);
  rooms_are = λ t other. two.rooms_are t other ∙ one.rooms_are t other;
}

pub walk_to : {p : Place} {v w x : Lodged} {n : ℕ} → x ≡ w → Walk p v w n → Walk p v x n
walk_to {p} {v} {w} {x} {n} same walk = subst (λ y. Walk p v y n) (sym same) walk

-- a move that is of no entity and of no shard
pub record IsSilent (m : Move) : Type 0 where
  pub none : entity_of m ≡ None
  pub hosted_is : (set : Setting) (old : List (Option Hosted)) → hosted_step set old m ≡ old
  pub rooms_is : (set : Setting) (old : List ℕ) → rooms_step set old m ≡ old

same_value : (v : Lodged) (m : Move) (h : List (Option Hosted)) (cells : List Cell) (r : List ℕ) → hosted_step v.state.set v.state.hosted m ≡ h → cells_by v.state.set v.state.cells m (entity_of m) ≡ cells → rooms_step v.state.set v.rooms m ≡ r
    → lodged_after v m ≡ record { script = v.script; state = record { who = v.state.who; set = v.state.set; version = v.state.version; hosted = h; cells = cells }; rooms = r }
same_value v m h cells r a b d =
    ap (λ x. record { script = v.script; state = record { who = v.state.who; set = v.state.set; version = v.state.version; hosted = x; cells = cells_by v.state.set v.state.cells m (entity_of m) }; rooms = rooms_step v.state.set v.rooms m }) a
    ∙ (ap (λ x. record { script = v.script; state = record { who = v.state.who; set = v.state.set; version = v.state.version; hosted = h; cells = x }; rooms = rooms_step v.state.set v.rooms m }) b
    ∙ ap (λ x. record { script = v.script; state = record { who = v.state.who; set = v.state.set; version = v.state.version; hosted = h; cells = cells }; rooms = x }) d)

pub silent_same : (v : Lodged) {m : Move} → IsSilent m → lodged_after v m ≡ v
silent_same v {m} k = same_value v m v.state.hosted v.state.cells v.rooms (k.hosted_is v.state.set v.state.hosted) (ap (cells_by v.state.set v.state.cells m) k.none) (k.rooms_is v.state.set v.rooms)

pub walk_silent : {p : Place} {v : Lodged} {m : Move} → IsSilent m → IsOn p v → Walk p v (lodged_after v m) 0
walk_silent {p} {v} {m} k on = walk_to (silent_same v k) (stay on)

pub cell_silent : (e : List ℕ) (v : Lodged) {m : Move} → IsSilent m → cell (lodged_after v m).state e ≡ cell v.state e
cell_silent e v {m} k = ap (λ (x : Lodged). cell x.state e) (silent_same v k)

-- a move of the entity
pub one_is : (p : Place) (v : Lodged) {m : Move} → IsOf p.entity m → lodged_after v m ≡ record { script = v.script; state = record { who = v.state.who; set = v.state.set; version = v.state.version; hosted = v.state.hosted; cells = slice_set v.state.cells (place v.state.set p.entity) (cell_after (cell v.state p.entity) m) }; rooms = v.rooms }
one_is p v {m} k = same_value v m v.state.hosted (slice_set v.state.cells (place v.state.set p.entity) (cell_after (cell v.state p.entity) m)) v.rooms (k.hosted_is v.state.set v.state.hosted) (ap (cells_by v.state.set v.state.cells m) k.of_is) (k.rooms_is v.state.set v.rooms)

pub walk_one : {p : Place} {v : Lodged} {m : Move} → IsOf p.entity m → IsOn p v → Walk p v (lodged_after v m) 0
walk_one {p} {v} {m} k on = walk_to (one_is p v k) record {
  script_is = refl;
  set_is = refl;
  on = record { at_is = on.at_is; name_is = on.name_is; inside = subst (λ n. p.at < n) (sym (length-set v.state.cells (place v.state.set p.entity) (cell_after (cell v.state p.entity) m))) on.inside; shard_is = on.shard_is; shard_in = on.shard_in; room_in = on.room_in };
  others = λ j other. get_or-set_other v.state.cells (place v.state.set p.entity) j (cell_after (cell v.state p.entity) m) (new_cell v.state.set) (λ same. other (same ∙ on.at_is));
  hosted_are = λ t none. none;
  room_is = omega arith;
  rooms_are = λ t other. refl;
}

pub cell_one : {p : Place} {v : Lodged} {m : Move} → IsOf p.entity m → IsOn p v → cell (lodged_after v m).state p.entity ≡ cell_after (cell v.state p.entity) m
cell_one {p} {v} {m} k on = ap (λ (x : Lodged). cell x.state p.entity) (one_is p v k) ∙ get_or-set_same v.state.cells (place v.state.set p.entity) (cell_after (cell v.state p.entity) m) (new_cell v.state.set) (subst (λ n. n < length v.state.cells) (sym on.at_is) on.inside)

-- an entry of the entity
pub entry_is : (p : Place) (v : Lodged) {f : Fact} → IsEntry p.entity f → lodged_after v (told f) ≡ record { script = v.script; state = record { who = v.state.who; set = v.state.set; version = v.state.version; hosted = slice_set v.state.hosted (shard_of v.state.set p.entity) (option_map (entered_hosted f) (at v.state.hosted (shard_of v.state.set p.entity))); cells = v.state.cells }; rooms = less (shard_of v.state.set p.entity) v.rooms }
entry_is p v {f} k = same_value v (told f) (slice_set v.state.hosted (shard_of v.state.set p.entity) (option_map (entered_hosted f) (at v.state.hosted (shard_of v.state.set p.entity)))) v.state.cells (less (shard_of v.state.set p.entity) v.rooms) (k.hosted_is v.state.set v.state.hosted) (ap (cells_by v.state.set v.state.cells (told f)) k.none) (k.rooms_is v.state.set v.rooms)

pub walk_entry : {p : Place} {v : Lodged} {f : Fact} → IsEntry p.entity f → IsOn p v → Walk p v (lodged_after v (told f)) 1
walk_entry {p} {v} {f} k on = walk_to (entry_is p v k) record {
  script_is = refl;
  set_is = refl;
  on = record { at_is = on.at_is; name_is = on.name_is; inside = on.inside; shard_is = on.shard_is; shard_in = subst (λ n. p.shard < n) (sym (length-set v.state.hosted s (option_map (entered_hosted f) (at v.state.hosted s)))) on.shard_in; room_in = subst (λ n. p.shard < n) (sym (length-set v.rooms s (slice_index_or v.rooms s 0 - 1))) on.room_in };
  others = λ j other. refl;
  hosted_are = λ t none. hosted_at t (t == s) refl none;
  room_is = let now : slice_index_or (less s v.rooms) p.shard 0 ≡ slice_index_or v.rooms p.shard 0 - 1 = ap (λ n. slice_index_or (less s v.rooms) n 0) (sym on.shard_is) ∙ (get_or-set_same v.rooms s (slice_index_or v.rooms s 0 - 1) 0 (subst (λ n. n < length v.rooms) (sym on.shard_is) on.room_in) ∙ ap (λ n. slice_index_or v.rooms n 0 - 1) on.shard_is) in omega (arith, now);
  rooms_are = λ t other. get_or-set_other v.rooms s t (slice_index_or v.rooms s 0 - 1) 0 (λ same. other (same ∙ on.shard_is));
}
  where
    s : ℕ
    s = shard_of v.state.set p.entity

    none_before : (o : Option Hosted) → option_map (entered_hosted f) o ≡ None → o ≡ None
    none_before None none = refl
    none_before (Some h) none = cc

    hosted_at : (t : ℕ) (b : Bool) → (t == s) ≡ b → at (slice_set v.state.hosted s (option_map (entered_hosted f) (at v.state.hosted s))) t ≡ None → at v.state.hosted t ≡ None
    hosted_at t true e none =
        let it : t ≡ s = same_number t s e in
        ap (at v.state.hosted) it ∙ none_before (at v.state.hosted s) (sym (get_or-set_same v.state.hosted s (option_map (entered_hosted f) (at v.state.hosted s)) None (subst (λ n. n < length v.state.hosted) (sym on.shard_is) on.shard_in)) ∙ (ap (at (slice_set v.state.hosted s (option_map (entered_hosted f) (at v.state.hosted s)))) (sym it) ∙ none))
    hosted_at t false e none = sym (get_or-set_other v.state.hosted s t (option_map (entered_hosted f) (at v.state.hosted s)) None (other_number t s e)) ∙ none

pub cell_entry : (p : Place) (v : Lodged) {f : Fact} → IsEntry p.entity f → cell (lodged_after v (told f)).state p.entity ≡ cell v.state p.entity
cell_entry p v {f} k = ap (λ (x : Lodged). cell x.state p.entity) (entry_is p v k)

-- What stands after a walk.

pub but_settled : (v : Lodged) (i : ℕ) → IsSettled v → IsSettledBut i v
but_settled v i settled j within other = settled j within

pub quiet_at : {v : Lodged} {p : Place} → IsOn p v → p.at < length v.state.set.names → IsSettled v → IsQuiet (hosted v.state p.shard) (cell v.state p.entity)
quiet_at {v} {p} on within settled =
    subst (λ n. IsQuiet (hosted v.state p.shard) (slice_index_or v.state.cells n (new_cell v.state.set))) (sym on.at_is)
    (subst (λ t. IsQuiet (hosted v.state t) (slice_index_or v.state.cells p.at (new_cell v.state.set))) (ap (shard_of v.state.set) on.name_is ∙ on.shard_is) (settled p.at within))

pub but_after : {v w : Lodged} {p : Place} {n : ℕ} → IsSettledBut p.at v → Walk p v w n → IsSettledBut p.at w
but_after {v} {w} {p} {n} settled walk i within other =
    let old : IsQuiet (hosted v.state (shard_of v.state.set (name_at v.state.set.names i))) (slice_index_or v.state.cells i (new_cell v.state.set)) = settled i (subst (λ (s : Setting). i < length s.names) walk.set_is within) other in
    subst (λ (s : Setting). IsQuiet (hosted w.state (shard_of s (name_at s.names i))) (slice_index_or w.state.cells i (new_cell s))) (sym walk.set_is)
    (subst (IsQuiet (hosted w.state (shard_of v.state.set (name_at v.state.set.names i)))) (sym (walk.others i other))
    (record { at_home = λ none. old.at_home (walk.hosted_are (shard_of v.state.set (name_at v.state.set.names i)) none); gone = old.gone; clear = old.clear }))

pub settled_after : {v w : Lodged} {p : Place} {n : ℕ} → IsSettledBut p.at v → Walk p v w n → IsQuiet (hosted w.state p.shard) (cell w.state p.entity) → IsSettled w
settled_after {v} {w} {p} {n} settled walk quiet i within = at_place (i == p.at) refl
  where
    at_place : (b : Bool) → (i == p.at) ≡ b → IsQuiet (hosted w.state (shard_of w.state.set (name_at w.state.set.names i))) (slice_index_or w.state.cells i (new_cell w.state.set))
    at_place true e =
        rw (same_number i p.at e) (subst (λ t. IsQuiet (hosted w.state t) (slice_index_or w.state.cells p.at (new_cell w.state.set))) (sym (ap (shard_of w.state.set) walk.on.name_is ∙ walk.on.shard_is)) (subst (λ n. IsQuiet (hosted w.state p.shard) (slice_index_or w.state.cells n (new_cell w.state.set))) walk.on.at_is quiet))
    at_place false e = but_after settled walk i within (other_number i p.at e)

pub room_left : {v w : Lodged} {p : Place} {n a b : ℕ} → Walk p v w n → HasRoom v p.shard a → b + n ≤ a → HasRoom w p.shard b
room_left {v} {w} {p} {n} {a} {b} walk room most = record {
  hosted_is = λ none. room.hosted_is (walk.hosted_are p.shard none);
  room = let first : slice_index_or v.rooms p.shard 0 ≤ slice_index_or w.rooms p.shard 0 + n = walk.room_is in let enough : a < slice_index_or v.rooms p.shard 0 = room.room in omega (arith, first, enough, most);
}

-- Delivery.

pub record Delivers (p : Place) (v w : Lodged) (ms : List Move) : Type 0 where
  pub walk : Walk p v w 2
  pub waits : ((cell v.state p.entity).phase ≡ phase.Active → ⊥) → Walk p v w 0  -- one that doesn't take commands writes nothing
  pub quiet : IsQuiet (hosted w.state p.shard) (cell w.state p.entity)
  pub few : length ms ≤ 4

silent_recovered : (x y : Incarnation) (e : List ℕ) → IsSilent (post x y (body.Recovered e))
silent_recovered x y e = record { none = refl; hosted_is = λ set old. refl; rooms_is = λ set old. refl }

silent_ack : (x y : Incarnation) (q : ℕ) (e : List ℕ) (n : ℕ) → IsSilent (post x y (body.Ack q e n))
silent_ack x y q e n = record { none = refl; hosted_is = λ set old. refl; rooms_is = λ set old. refl }

silent_resend : (x y : Incarnation) (q : ℕ) (e : List ℕ) (n : ℕ) → IsSilent (post x y (body.Resend q e n))
silent_resend x y q e n = record { none = refl; hosted_is = λ set old. refl; rooms_is = λ set old. refl }

-- a walk, and the cell that it leads to
pub record Reach (p : Place) (v w : Lodged) (n : ℕ) (x : Cell) : Type 0 where
  pub walk : Walk p v w n
  pub cell_is : cell w.state p.entity ≡ x

pub reach_here : {p : Place} {v : Lodged} → IsOn p v → Reach p v v 0 (cell v.state p.entity)
reach_here on = record { walk = stay on; cell_is = refl }

pub reach_one : {p : Place} {v w : Lodged} {n : ℕ} {x : Cell} (m : Move) → IsOf p.entity m → Reach p v w n x → Reach p v (lodged_after w m) n (cell_after x m)
reach_one {p} {v} {w} {n} {x} m of r = record { walk = then_walk r.walk (walk_one of r.walk.on) (omega arith); cell_is = cell_one of r.walk.on ∙ ap (λ y. cell_after y m) r.cell_is }

pub reach_silent : {p : Place} {v w : Lodged} {n : ℕ} {x : Cell} (m : Move) → IsSilent m → Reach p v w n x → Reach p v (lodged_after w m) n x
reach_silent {p} {v} {w} {n} {x} m silent r = record { walk = then_walk r.walk (walk_silent silent r.walk.on) (omega arith); cell_is = cell_silent p.entity w silent ∙ r.cell_is }

pub reach_entry : {p : Place} {v w : Lodged} {n : ℕ} {x : Cell} (f : Fact) → IsEntry p.entity f → Reach p v w n x → Reach p v (lodged_after w (told f)) (n + 1) x
reach_entry {p} {v} {w} {n} {x} f entry r = record { walk = then_walk r.walk (walk_entry entry r.walk.on) (omega arith); cell_is = cell_entry p w entry ∙ r.cell_is }

-- a quiet cell at the end
pub quiet_reached : {p : Place} {v w : Lodged} {n : ℕ} {x : Cell} → Reach p v w n x → (hosted v.state p.shard ≡ None → ⊥) → (x.phase ≡ phase.Absent → x.stash ≡ []) → (x.phase ≡ phase.Active → x.stash ≡ []) → IsQuiet (hosted w.state p.shard) (cell w.state p.entity)
quiet_reached {p} {v} {w} {n} {x} r there gone clear = subst (IsQuiet (hosted w.state p.shard)) (sym r.cell_is) record { at_home = λ none. absurd (there (r.walk.hosted_are p.shard none)); gone = gone; clear = clear }

delivered : {p : Place} {v w : Lodged} {n : ℕ} {x : Cell} (ms : List Move) → Reach p v w n x → (((cell v.state p.entity).phase ≡ phase.Active → ⊥) → n ≡ 0) → n ≤ 2 → (hosted v.state p.shard ≡ None → ⊥) → (x.phase ≡ phase.Absent → x.stash ≡ []) → (x.phase ≡ phase.Active → x.stash ≡ []) → length ms ≤ 4 → Delivers p v w ms
delivered {p} {v} {w} {n} {x} ms r none most there gone clear few = record { walk = then_walk r.walk (stay r.walk.on) (omega (arith, most)); waits = λ idle. subst (Walk p v w) (none idle) r.walk; quiet = quiet_reached r there gone clear; few = few }

pub not_absent : {q : Phase} → q ≡ phase.Loading → q ≡ phase.Absent → ⊥
not_absent a b = cc

not_active : {q : Phase} → q ≡ phase.Loading → q ≡ phase.Active → ⊥
not_active a b = cc

pub stops_not_absent : {q : Phase} → q ≡ phase.Stopping → q ≡ phase.Absent → ⊥
stops_not_absent a b = cc

stops_not_active : {q : Phase} → q ≡ phase.Stopping → q ≡ phase.Active → ⊥
stops_not_active a b = cc

module _ {v : Lodged} {p : Place} (m : Message) (on : IsOn p v) (same : m.entity ≡ p.entity) (there : hosted v.state p.shard ≡ None → ⊥) (quiet : IsQuiet (hosted v.state p.shard) (cell v.state p.entity)) where
  starts : IsOf p.entity (told (fact.Start v.state.who m.entity))
  starts = subst (λ e. IsOf e (told (fact.Start v.state.who m.entity))) same (of_start v.state.who m.entity)

  fails : IsOf p.entity (told (fact.WriteFailed v.state.who m.entity))
  fails = subst (λ e. IsOf e (told (fact.WriteFailed v.state.who m.entity))) same (of_failed v.state.who m.entity)

  writes : (r : Record) → IsEntry p.entity (fact.Wrote m.entity r)
  writes r = subst (λ e. IsEntry e (fact.Wrote m.entity r)) same (entry_wrote m.entity r)

  saves : (n : ℕ) → IsEntry p.entity (fact.Snapshot m.entity n)
  saves n = subst (λ e. IsEntry e (fact.Snapshot m.entity n)) same (entry_snapshot m.entity n)

  first_delivered : Delivers p v (moved v (deliver_by m v.state phase.Absent)) (deliver_by m v.state phase.Absent)
  first_delivered = delivered (deliver_by m v.state phase.Absent)
      (reach_one (told (fact.Stashed v.state.who m)) (of_stashed v.state.who same) (reach_silent (post v.state.who v.state.who (body.Recovered m.entity)) (silent_recovered v.state.who v.state.who m.entity) (reach_one (told (fact.Start v.state.who m.entity)) starts (reach_here on))))
      (λ idle. refl) (omega arith) there (λ gone. absurd (not_absent refl gone)) (λ active. absurd (not_active refl active)) (omega arith)

  waiting_delivered : ((cell v.state p.entity).phase ≡ phase.Absent → ⊥) → ((cell v.state p.entity).phase ≡ phase.Active → ⊥) → Delivers p v (moved v (stash_message m v.state)) (stash_message m v.state)
  waiting_delivered here idle = by_room (nat_lt (length (cell v.state m.entity).stash) v.state.set.config.window)
    where
      by_room : (b : Bool) → Delivers p v (moved v (if b then told (fact.Stashed v.state.who m) ∷ [] else told (fact.Dropped v.state.who m) ∷ [])) (if b then told (fact.Stashed v.state.who m) ∷ [] else told (fact.Dropped v.state.who m) ∷ [])
      by_room true = delivered (told (fact.Stashed v.state.who m) ∷ []) (reach_one (told (fact.Stashed v.state.who m)) (of_stashed v.state.who same) (reach_here on)) (λ idle. refl) (omega arith) there (λ gone. absurd (here gone)) (λ active. absurd (idle active)) (omega arith)
      by_room false = delivered (told (fact.Dropped v.state.who m) ∷ []) (reach_one (told (fact.Dropped v.state.who m)) (of_dropped v.state.who same) (reach_here on)) (λ idle. refl) (omega arith) there (λ gone. absurd (here gone)) (λ active. absurd (idle active)) (omega arith)

  active_delivered : (cell v.state p.entity).phase ≡ phase.Active → (pos : ℕ) (records : List Record) → Delivers p v (moved v (deliver_at m pos records v.state)) (deliver_at m pos records v.state)
  active_delivered active pos records = by_old (nat_le m.number pos)
    where
      empty : (cell v.state p.entity).stash ≡ []
      empty = quiet.clear active

      r : Record
      r = record_of m v.state records

      ack : ℕ → Move
      ack n = post v.state.who m.origin (body.Ack m.producer m.entity n)

      by_ask : (ms : List Move) {w : Lodged} {n : ℕ} → Reach p v w n (cell v.state p.entity) → n ≤ 2 → length ms ≤ 3 → (k u : ℕ) (b : Bool) → Delivers p v (moved w (if b then post v.state.who m.origin (body.Request m.producer m.entity k u) ∷ [] else [])) (ms ++ (if b then post v.state.who m.origin (body.Request m.producer m.entity k u) ∷ [] else []))
      by_ask ms reach most few k u true =
          delivered (ms ++ post v.state.who m.origin (body.Request m.producer m.entity k u) ∷ []) (reach_one (post v.state.who m.origin (body.Request m.producer m.entity k u)) (of_request v.state.who m.origin m.producer k u same) reach) (λ idle. absurd (idle active)) most there (λ gone. empty) (λ active. empty) (let long : _ = length-append ms (post v.state.who m.origin (body.Request m.producer m.entity k u) ∷ []) in omega (arith, long, few))
      by_ask ms reach most few k u false = delivered (ms ++ []) reach (λ idle. absurd (idle active)) most there (λ gone. empty) (λ active. empty) (let long : _ = length-append ms [] in omega (arith, long, few))

      by_saved : (b : Bool) → Delivers p v (moved v (told (fact.Wrote m.entity r) ∷ (if b then told (fact.Snapshot m.entity r.number) ∷ [] else []) ++ ack (pos + 1) ∷ ask_more m (pos + 1) v.state)) (told (fact.Wrote m.entity r) ∷ (if b then told (fact.Snapshot m.entity r.number) ∷ [] else []) ++ ack (pos + 1) ∷ ask_more m (pos + 1) v.state)
      by_saved true =
          by_ask (told (fact.Wrote m.entity r) ∷ told (fact.Snapshot m.entity r.number) ∷ ack (pos + 1) ∷ [])
          (reach_silent (ack (pos + 1)) (silent_ack v.state.who m.origin m.producer m.entity (pos + 1)) (reach_entry (fact.Snapshot m.entity r.number) (saves r.number) (reach_entry (fact.Wrote m.entity r) (writes r) (reach_here on))))
          (omega arith) (omega arith) (pos + 1) (pos + 1 + v.state.set.config.window) (nat_le (slice_index_or (cell v.state m.entity).reach (m.producer - 1) 0) (pos + 1 + v.state.set.config.window / 2))
      by_saved false =
          by_ask (told (fact.Wrote m.entity r) ∷ ack (pos + 1) ∷ [])
          (reach_silent (ack (pos + 1)) (silent_ack v.state.who m.origin m.producer m.entity (pos + 1)) (reach_entry (fact.Wrote m.entity r) (writes r) (reach_here on)))
          (omega arith) (omega arith) (pos + 1) (pos + 1 + v.state.set.config.window) (nat_le (slice_index_or (cell v.state m.entity).reach (m.producer - 1) 0) (pos + 1 + v.state.set.config.window / 2))

      by_arm : (o : Option Keep) → Delivers p v (moved v (write m r (pos + 1) v.state o)) (write m r (pos + 1) v.state o)
      by_arm (Some keep.Lost) = delivered (told (fact.WriteFailed v.state.who m.entity) ∷ []) (reach_one (told (fact.WriteFailed v.state.who m.entity)) fails (reach_here on)) (λ idle. absurd (idle active)) (omega arith) there (λ gone. empty) (λ active. empty) (omega arith)
      by_arm (Some keep.Kept) = delivered (told (fact.Wrote m.entity r) ∷ told (fact.WriteFailed v.state.who m.entity) ∷ []) (reach_one (told (fact.WriteFailed v.state.who m.entity)) fails (reach_entry (fact.Wrote m.entity r) (writes r) (reach_here on))) (λ idle. absurd (idle active)) (omega arith) there (λ gone. empty) (λ active. empty) (omega arith)
      by_arm None = by_saved (r.number % v.state.set.config.snapshot == 0)

      by_gap : (b : Bool) → Delivers p v (moved v (if b then post v.state.who m.origin (body.Resend m.producer m.entity (pos + 1)) ∷ [] else write m r (pos + 1) v.state (cell v.state m.entity).armed)) (if b then post v.state.who m.origin (body.Resend m.producer m.entity (pos + 1)) ∷ [] else write m r (pos + 1) v.state (cell v.state m.entity).armed)
      by_gap true = delivered (post v.state.who m.origin (body.Resend m.producer m.entity (pos + 1)) ∷ []) (reach_silent (post v.state.who m.origin (body.Resend m.producer m.entity (pos + 1))) (silent_resend v.state.who m.origin m.producer m.entity (pos + 1)) (reach_here on)) (λ idle. absurd (idle active)) (omega arith) there (λ gone. empty) (λ active. empty) (omega arith)
      by_gap false = by_arm (cell v.state m.entity).armed

      by_old : (b : Bool) → Delivers p v (moved v (if b then ack pos ∷ [] else if nat_lt (pos + 1) m.number then post v.state.who m.origin (body.Resend m.producer m.entity (pos + 1)) ∷ [] else write m r (pos + 1) v.state (cell v.state m.entity).armed)) (if b then ack pos ∷ [] else if nat_lt (pos + 1) m.number then post v.state.who m.origin (body.Resend m.producer m.entity (pos + 1)) ∷ [] else write m r (pos + 1) v.state (cell v.state m.entity).armed)
      by_old true = delivered (ack pos ∷ []) (reach_silent (ack pos) (silent_ack v.state.who m.origin m.producer m.entity pos) (reach_here on)) (λ idle. absurd (idle active)) (omega arith) there (λ gone. empty) (λ active. empty) (omega arith)
      by_old false = by_gap (nat_lt (pos + 1) m.number)

  pub deliver_goes : Delivers p v (moved v (deliver m v.state)) (deliver m v.state)
  deliver_goes = by_phase (cell v.state m.entity).phase (ap (λ e. (cell v.state e).phase) (sym same))
    where
      by_phase : (q : Phase) → (cell v.state p.entity).phase ≡ q → Delivers p v (moved v (deliver_by m v.state q)) (deliver_by m v.state q)
      by_phase phase.Absent is = first_delivered
      by_phase phase.Loading is = waiting_delivered (not_absent is) (not_active is)
      by_phase phase.Active is = active_delivered is (position m.producer (journal m.entity (entries v.state m.entity))) (journal m.entity (entries v.state m.entity))
      by_phase phase.Stopping is = waiting_delivered (stops_not_absent is) (stops_not_active is)

-- What a call takes of the room.

pub takes_here : (v : Lodged) (s n : ℕ) → Takes v v s n
takes_here v s n = record { room_is = omega arith; others_are = λ t other. refl; hosted_are = λ t none. none }

pub takes_of : {p : Place} {v w : Lodged} {n : ℕ} → Walk p v w n → Takes v w p.shard n
takes_of walk = record { room_is = walk.room_is; others_are = walk.rooms_are; hosted_are = walk.hosted_are }

pub then_takes : {v w x : Lodged} {s a b n : ℕ} → Takes v w s a → Takes w x s b → a + b ≤ n → Takes v x s n
then_takes {v} {w} {x} {s} {a} {b} {n} one two most = record {
  room_is = let first : slice_index_or v.rooms s 0 ≤ slice_index_or w.rooms s 0 + a = one.room_is in let next : slice_index_or w.rooms s 0 ≤ slice_index_or x.rooms s 0 + b = two.room_is in omega (arith, first, next, most);
  others_are = λ t other. two.others_are t other ∙ one.others_are t other;
  hosted_are = λ t none. one.hosted_are t (two.hosted_are t none);
}

pub deliver_takes : {p : Place} {v w : Lodged} {ms : List Move} → Delivers p v w ms → Takes v w p.shard (if is_in_phase phase.Active v.state p.entity then 2 else 0)
deliver_takes {p} {v} {w} {ms} d = by_phase (cell v.state p.entity).phase refl
  where
    by_phase : (q : Phase) → (cell v.state p.entity).phase ≡ q → Takes v w p.shard (if is_phase phase.Active q then 2 else 0)
    by_phase phase.Absent is = takes_of (d.waits (λ active. absent_not_active is active))
      where
        absent_not_active : {q : Phase} → q ≡ phase.Absent → q ≡ phase.Active → ⊥
        absent_not_active a b = cc
    by_phase phase.Loading is = takes_of (d.waits (λ active. not_active is active))
    by_phase phase.Active is = takes_of d.walk
    by_phase phase.Stopping is = takes_of (d.waits (λ active. stops_not_active is active))

-- Where the hosted shards stay.

pub record IsSame (v w : Lodged) : Type 0 where
  pub script_is : w.script ≡ v.script
  pub who_is : w.state.who ≡ v.state.who
  pub set_is : w.state.set ≡ v.state.set
  pub hosted_is : w.state.hosted ≡ v.state.hosted
  pub rooms_is : w.rooms ≡ v.rooms

pub same_here : (v : Lodged) → IsSame v v
same_here v = record { script_is = refl; who_is = refl; set_is = refl; hosted_is = refl; rooms_is = refl }

pub then_same : {v w x : Lodged} → IsSame v w → IsSame w x → IsSame v x
then_same a b = record { script_is = b.script_is ∙ a.script_is; who_is = b.who_is ∙ a.who_is; set_is = b.set_is ∙ a.set_is; hosted_is = b.hosted_is ∙ a.hosted_is; rooms_is = b.rooms_is ∙ a.rooms_is }

pub same_one : {e : List ℕ} (v : Lodged) (m : Move) → IsOf e m → IsSame v (lodged_after v m)
same_one v m of = record { script_is = refl; who_is = refl; set_is = refl; hosted_is = of.hosted_is v.state.set v.state.hosted; rooms_is = of.rooms_is v.state.set v.rooms }

pub same_silent : (v : Lodged) (m : Move) → IsSilent m → IsSame v (lodged_after v m)
same_silent v m silent = record { script_is = refl; who_is = refl; set_is = refl; hosted_is = silent.hosted_is v.state.set v.state.hosted; rooms_is = silent.rooms_is v.state.set v.rooms }

-- A move that leaves phase and stash.

pub kept_settled : {v : Lodged} {p : Place} (m : Move) → IsOf p.entity m → ((q : Phase) → phase_step q m ≡ q) → ((q : Phase) (l : List Message) → stash_step q l m ≡ l) → IsOn p v → p.at < length v.state.set.names → IsSettled v → IsSettled (lodged_after v m)
kept_settled {v} {p} m of phases stashes on within settled =
    let r : Reach p v (lodged_after v m) 0 (cell_after (cell v.state p.entity) m) = reach_one m of (reach_here on) in
    let old : IsQuiet (hosted v.state p.shard) (cell v.state p.entity) = quiet_at on within settled in
    settled_after (but_settled v p.at settled) r.walk (subst (IsQuiet (hosted (lodged_after v m).state p.shard)) (sym r.cell_is) record {
      at_home = λ none. phases (cell v.state p.entity).phase ∙ old.at_home (r.walk.hosted_are p.shard none);
      gone = λ gone. stashes (cell v.state p.entity).phase (cell v.state p.entity).stash ∙ old.gone (sym (phases (cell v.state p.entity).phase) ∙ gone);
      clear = λ active. stashes (cell v.state p.entity).phase (cell v.state p.entity).stash ∙ old.clear (sym (phases (cell v.state p.entity).phase) ∙ active);
    })

pub armed_settled : {v w : Lodged} {p : Place} (k : Keep) → Stands v → IsPlace v.script p → IsSettled v → w ≡ moved v (arm p.entity k v.state) → IsSettled w
armed_settled {v} {w} {p} k s is settled step = subst IsSettled (sym step) (by_test (is_in_phase phase.Active v.state p.entity))
  where
    by_test : (b : Bool) → IsSettled (moved v (if b then told (fact.Armed p.entity k) ∷ [] else []))
    by_test true = kept_settled (told (fact.Armed p.entity k)) (of_arm p.entity k) (λ q. refl) (λ q l. refl) (on_of s is) (named_within s is) settled
    by_test false = settled

-- An entity starts, of a shard that is hosted.

pub starts_reach : {v : Lodged} {p : Place} → IsOn p v → Reach p v (moved v (start_entity p.entity v.state)) 0 (cell_after (cell v.state p.entity) (told (fact.Start v.state.who p.entity)))
starts_reach {v} {p} on = reach_silent (post v.state.who v.state.who (body.Recovered p.entity)) (silent_recovered v.state.who v.state.who p.entity) (reach_one (told (fact.Start v.state.who p.entity)) (of_start v.state.who p.entity) (reach_here on))

pub starts_settled : {v w : Lodged} {p : Place} → IsOn p v → IsSettledBut p.at v → (hosted v.state p.shard ≡ None → ⊥) → w ≡ moved v (start_entity p.entity v.state) → IsSettled w
starts_settled {v} {w} {p} on settled there step = subst IsSettled (sym step) (settled_after settled (starts_reach on).walk (quiet_reached (starts_reach on) there (λ gone. absurd (not_absent refl gone)) (λ active. absurd (not_active refl active))))

pub starts_same : {v w : Lodged} (e : List ℕ) → w ≡ moved v (start_entity e v.state) → IsSame v w
starts_same {v} {w} e step = subst (IsSame v) (sym step) (then_same (same_one v (told (fact.Start v.state.who e)) (of_start v.state.who e)) (same_silent (lodged_after v (told (fact.Start v.state.who e))) (post v.state.who v.state.who (body.Recovered e)) (silent_recovered v.state.who v.state.who e)))

-- An entity that exists is told to stop.

abbrev pub SamePhases : Lodged → Lodged → Type 0
SamePhases v w = (j : ℕ) → is_phase phase.Absent (slice_index_or w.state.cells j (new_cell v.state.set)).phase ≡ is_phase phase.Absent (slice_index_or v.state.cells j (new_cell v.state.set)).phase

abbrev pub stop_of : Lodged → List ℕ → Move
stop_of v e = post v.state.who v.state.who (body.StopEntity e)

absent_stays : (x : Cell) (m n : Incarnation) (e : List ℕ) → is_phase phase.Absent (cell_after x (post m n (body.StopEntity e))).phase ≡ is_phase phase.Absent x.phase
absent_stays x m n e = by_phase x.phase
  where
    by_phase : (q : Phase) → is_phase phase.Absent (phase_step q (post m n (body.StopEntity e))) ≡ is_phase phase.Absent q
    by_phase phase.Absent = refl
    by_phase phase.Loading = refl
    by_phase phase.Active = refl
    by_phase phase.Stopping = refl

pub stops_reach : {v : Lodged} {p : Place} → IsOn p v → Reach p v (lodged_after v (stop_of v p.entity)) 0 (cell_after (cell v.state p.entity) (stop_of v p.entity))
stops_reach {v} {p} on = reach_one (stop_of v p.entity) (of_stop_posted v.state.who v.state.who p.entity) (reach_here on)

pub stops_settled : {v w : Lodged} {p : Place} → IsOn p v → IsQuiet (hosted v.state p.shard) (cell v.state p.entity) → IsSettledBut p.at v → w ≡ moved v (stop_of v p.entity ∷ []) → IsSettled w
stops_settled {v} {w} {p} on quiet settled step = subst IsSettled (sym step) (settled_after settled (stops_reach on).walk (subst (IsQuiet (hosted (lodged_after v (stop_of v p.entity)).state p.shard)) (sym (stops_reach on).cell_is) (by_phase (cell v.state p.entity) (cell v.state p.entity).phase refl quiet)))
  where
    home : hosted (lodged_after v (stop_of v p.entity)).state p.shard ≡ None → hosted v.state p.shard ≡ None
    home none = (stops_reach on).walk.hosted_are p.shard none

    by_phase : (x : Cell) (q : Phase) → x.phase ≡ q → IsQuiet (hosted v.state p.shard) x → IsQuiet (hosted (lodged_after v (stop_of v p.entity)).state p.shard) (cell_after x (stop_of v p.entity))
    by_phase x phase.Absent is k = record { at_home = λ none. ap (λ q. phase_step q (stop_of v p.entity)) is; gone = λ absent. k.gone is; clear = λ active. k.gone is }
    by_phase x phase.Loading is k = record { at_home = λ none. absurd (not_absent is (k.at_home (home none))); gone = λ absent. absurd (stops_not_absent (ap (λ q. phase_step q (stop_of v p.entity)) is) absent); clear = λ active. absurd (stops_not_active (ap (λ q. phase_step q (stop_of v p.entity)) is) active) }
    by_phase x phase.Active is k = record { at_home = λ none. absurd (active_not_absent is (k.at_home (home none))); gone = λ absent. absurd (stops_not_absent (ap (λ q. phase_step q (stop_of v p.entity)) is) absent); clear = λ active. absurd (stops_not_active (ap (λ q. phase_step q (stop_of v p.entity)) is) active) }
      where
        active_not_absent : {q : Phase} → q ≡ phase.Active → q ≡ phase.Absent → ⊥
        active_not_absent a b = cc
    by_phase x phase.Stopping is k = record { at_home = λ none. absurd (stops_not_absent is (k.at_home (home none))); gone = λ absent. absurd (stops_not_absent (ap (λ q. phase_step q (stop_of v p.entity)) is) absent); clear = λ active. absurd (stops_not_active (ap (λ q. phase_step q (stop_of v p.entity)) is) active) }

pub stops_same : {v w : Lodged} (e : List ℕ) → w ≡ moved v (stop_of v e ∷ []) → IsSame v w
stops_same {v} {w} e step = subst (IsSame v) (sym step) (same_one v (stop_of v e) (of_stop_posted v.state.who v.state.who e))

pub stops_phases : {v w : Lodged} {p : Place} → IsOn p v → w ≡ moved v (stop_of v p.entity ∷ []) → SamePhases v w
stops_phases {v} {w} {p} on step = subst (SamePhases v) (sym step) (λ j. at_place j (j == p.at) refl)
  where
    at_place : (j : ℕ) (b : Bool) → (j == p.at) ≡ b → is_phase phase.Absent (slice_index_or (lodged_after v (stop_of v p.entity)).state.cells j (new_cell v.state.set)).phase ≡ is_phase phase.Absent (slice_index_or v.state.cells j (new_cell v.state.set)).phase
    at_place j true e =
        let it : place v.state.set p.entity ≡ j = on.at_is ∙ sym (same_number j p.at e) in
        subst (λ n. is_phase phase.Absent (slice_index_or (lodged_after v (stop_of v p.entity)).state.cells n (new_cell v.state.set)).phase ≡ is_phase phase.Absent (slice_index_or v.state.cells n (new_cell v.state.set)).phase) it
        (ap (λ (x : Cell). is_phase phase.Absent x.phase) (stops_reach on).cell_is ∙ absent_stays (cell v.state p.entity) v.state.who v.state.who p.entity)
    at_place j false e = ap (λ (x : Cell). is_phase phase.Absent x.phase) ((stops_reach on).walk.others j (other_number j p.at e))

pub then_phases : {v w : Lodged} (x : Lodged) → IsSame v w → SamePhases v w → SamePhases w x → SamePhases v x
then_phases {v} {w} x same a b j = subst (λ (s : Setting). is_phase phase.Absent (slice_index_or x.state.cells j (new_cell s)).phase ≡ is_phase phase.Absent (slice_index_or w.state.cells j (new_cell s)).phase) same.set_is (b j) ∙ a j

-- the entity at a place exists as before
pub exists_same : {v w : Lodged} (e : List ℕ) → IsSame v w → SamePhases v w → is_in_phase phase.Absent w.state e ≡ is_in_phase phase.Absent v.state e
exists_same {v} {w} e same phases =
    ap (λ (s : Setting). is_phase phase.Absent (slice_index_or w.state.cells (place s e) (new_cell s)).phase) same.set_is ∙ phases (place v.state.set e)

-- An entity passivates.

pub passivated_settled : {v w : Lodged} {p : Place} → Stands v → IsPlace v.script p → IsSettled v → w ≡ moved v (passivate p.entity v.state) → IsSettled w
passivated_settled {v} {w} {p} s is settled step = subst IsSettled (sym step) (by_test (is_in_phase phase.Active v.state p.entity))
  where
    first : Lodged
    first = lodged_after v (passivates p.entity)

    r : Reach p v (lodged_after v (passivates p.entity)) 0 (cell_after (cell v.state p.entity) (passivates p.entity))
    r = reach_one (passivates p.entity) (of_passivates p.entity) (reach_here (on_of s is))

    then_settled : IsSettled (lodged_after v (passivates p.entity))
    then_settled = kept_settled (passivates p.entity) (of_passivates p.entity) (λ q. refl) (λ q l. refl) (on_of s is) (named_within s is) settled

    by_test : (b : Bool) → IsSettled (moved v (if b then passivates p.entity ∷ post v.state.who v.state.who (body.StopEntity p.entity) ∷ [] else []))
    by_test true = stops_settled r.walk.on (quiet_at r.walk.on (named_within s is) then_settled) (but_settled (lodged_after v (passivates p.entity)) p.at then_settled) refl
    by_test false = settled

-- The laws of a place in one: what a delivery needs and leaves.

pub delivers : {v w : Lodged} {p : Place} (m : Message) → Stands v → IsPlace v.script p → m.entity ≡ p.entity → (hosted v.state p.shard ≡ None → ⊥) → IsSettled v → w ≡ moved v (deliver m v.state) → Delivers p v w (deliver m v.state)
delivers {v} {w} {p} m s is same there settled step = subst (λ x. Delivers p v x (deliver m v.state)) (sym step) (deliver_goes m (on_of s is) same there (quiet_at (on_of s is) (named_within s is) settled))

pub delivered_settled : {v w : Lodged} {p : Place} (m : Message) → Stands v → IsPlace v.script p → m.entity ≡ p.entity → (hosted v.state p.shard ≡ None → ⊥) → IsSettled v → w ≡ moved v (deliver m v.state) → IsSettled w
delivered_settled {v} {w} {p} m s is same there settled step = let d : Delivers p v w (deliver m v.state) = delivers m s is same there settled step in settled_after (but_settled v p.at settled) d.walk d.quiet
