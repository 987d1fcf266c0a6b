-- The loops' steps, and rules in turn.
use Rattle.std.proofs.Common.{◌≡◌, ℕ, ◌+◌, ◌-◌, ◌<◌, ◌≤◌, List, [], ◌∷◌, ◌++◌, length, map, sym, ap, subst, ◌∙◌, refl, true, false, arith, drop, get_or-set_same, get_or-set_other}
use Rattle.std.specs.Prelude.{Bool, ◌*◌, ◌==◌, zero, suc, ◌&&◌, ◌||◌, not, filter, fold, take, Option, None, Some, MatchOption, slice_set, slice_index_or, if◌then◌else◌, nat_lt}
use Rattle.std.specs.Option.{option_map, option_and_then}
use Rattle.std.specs.List.{flat_map, list_any, list_all}
use Rattle.std.proofs.lemmas.Bool.Decides.{nat_tests}
use Rattle.std.proofs.lemmas.List.{length-map}
use Rattle.std.proofs.lemmas.List.Sums.{fold-append}
use Rattle.consumer_ctl.specs.Held.{Held}
use Rattle.yard_model.specs.declared.fact.Fact.TheVariants as fact
use Rattle.yard_model.specs.declared.incarnation.Incarnation.{Incarnation}
use Rattle.yard_model.specs.declared.incarnation.Stamp.{Stamp}
use Rattle.yard_model.specs.declared.input.Phase.TheVariants as phase
use Rattle.yard_model.specs.declared.out.Item.{Item}
use Rattle.yard_model.specs.declared.packet.Body.TheVariants as body
use Rattle.yard_model.specs.declared.packet.Message.{Message}
use Rattle.yard_model.specs.declared.state.State.{State}
use Rattle.yard_model.specs.Entities.{Entities, Cell, Hosted, cell, hosted, entries, entries_in, entities_after, entities_of, is_in_phase, start_entity, remind_by, deliver, drop_stash, free_if_left, activate, forget_passivated, stash_step, cell_after, after_stop, stop, hand_off, is_phase, is_running}
use Rattle.yard_model.specs.Genuine.{is_genuine, is_producer}
use Rattle.yard_model.specs.Move.{Move, told, post, handed_off}
use Rattle.yard_model.specs.Script.{Script, Setting, setting, is_name}
use Rattle.yard_model.specs.Setting.{shard_of, names_of}
use Rattle.yard_model.specs.SlotReads.{is_remembered, journal}
use Rattle.yard_model.specs.Behaviour.{folded}
use Rattle.yard_model.specs.Spared.{Spared}
use Rattle.yard_model.specs.Turns.{in_turn, for_each}
use Rattle.yard_model.specs.Words.{at, numbers}
use Rattle.shard_store.specs.Shelf.{Shelf}
use Rattle.shard_store.specs.Shelved.{name_at}
use Rattle.shard_entities.specs.Delivered.{Stands}
use Rattle.yard_model.specs.ShardSet.{has}
use Rattle.yard_model.specs.declared.charter.Config.{Config}
use Rattle.plain_laws.proofs.Booleans.{and_both, same_name, same_number, other_number}
use Rattle.entity_cells.specs.Celled.{Celled}
use Rattle.shard_entities.specs.declared.hosting.Hosting.{Hosting}
use Rattle.shard_entities.proofs.DeliverLaws.{stands_of}
use Rattle.shard_entities.proofs.TakenLaws.{running_are}
use Rattle.shard_entities.specs.Lodged.{Lodged, lodged, IsLodged, hosting, moved, lodged_after, given, given_step, HasRoom, RoomIfHosted, IsStore, is_for}
use Rattle.shard_entities.specs.Placed.{IsPlace}
use Rattle.shard_entities.specs.Roomy.{Takes}
use Rattle.shard_entities.specs.Settled.{IsSettled, IsSettledBut, IsIdle, IsStopped, frees}
use Rattle.shard_entities.specs.declared.handoff.Stopped.{Stopped}
use Rattle.shard_entities.specs.declared.place.Place.{Place}
use Rattle.shard_entities.proofs.EntryLaws.{entered_hosted, entry_remembered, entry_forgotten}
use Rattle.shard_entities.proofs.MoveLaws.{of_active, of_stop, of_dropped}
use Rattle.shard_entities.proofs.PlannedLaws.{picked_few}
use Rattle.shard_entities.proofs.TickLaws.{of_shard, of_names, names_next, shards_next, room_next}
use Rattle.shard_entities.proofs.WayLaws.{IsOnTheWay, way_goes, state_moved, script_moved, version_moved, spare_left, picked_next, all_dropped}
use Rattle.shard_entities.proofs.WalkLaws.{IsOn, on_of, named_within, Walk, then_walk, stay, walk_entry, cell_entry, Reach, reach_here, reach_one, reach_entry, quiet_at, quiet_reached, settled_after, but_settled, IsSame, same_here, then_same, starts_same, stops_same, SamePhases, stops_phases, then_phases, exists_same, Delivers, delivers, stop_of, not_absent, stops_not_absent, takes_here, takes_of, then_takes}

-- where a name of a shard stands, as the loop's value and its first one see it
at_first : (P : Setting → Type 0) {first now : Lodged} → Stands now → IsSame first now → P (setting now.script) → P first.state.set
at_first P {first} {now} s same h = subst P (sym s.set_is ∙ same.set_is) h

-- Starting.

pub remembered_same : {v w : Lodged} (e : List ℕ) → IsSame v w → is_remembered e (entries w.state e) ≡ is_remembered e (entries v.state e)
remembered_same {v} {w} e same = ap (λ (s : Setting). is_remembered e (entries_in (at w.state.hosted (shard_of s e)))) same.set_is ∙ ap (λ (h : List (Option Hosted)). is_remembered e (entries_in (at h (shard_of v.state.set e)))) same.hosted_is

if_start : (v : Lodged) (e : List ℕ) (b : Bool) → IsSame v (moved v (if b then start_entity e v.state else []))
if_start v e true = starts_same {v = v} {w = moved v (start_entity e v.state)} e refl
if_start v e false = same_here v

pub start_same : {v w x : Lodged} (e : List ℕ) (b : Bool) → IsSame v w → x ≡ moved w (if b then start_entity e w.state else []) → IsSame v x
start_same {v} {w} {x} e b same step = then_same same (subst (IsSame w) (sym step) (if_start w e b))

few_starts : (w : ℕ) (st : Entities) (e : List ℕ) (b : Bool) → length (if b then start_entity e st else []) ≤ 2
few_starts w st e true = omega arith
few_starts w st e false = omega arith

pub start_next : {first now next : Lodged} {first_out out next_out : Spared Item} (s : ℕ) {k n : ℕ} {e : List ℕ} → Stands now → IsSame first now → k < n → n ≡ length (names_of (setting first.script) s) → e ≡ name_at (names_of (setting now.script) s) k
    → next ≡ moved now (if is_remembered e (entries now.state e) then start_entity e now.state else []) → next_out ≡ given out (if is_remembered e (entries now.state e) then start_entity e now.state else [])
    → IsOnTheWay now out (flat_map (λ e. start_entity e first.state) (filter (λ e. is_remembered e (entries first.state e)) (drop k (names_of first.state.set s)))) first first_out (flat_map (λ e. start_entity e first.state) (filter (λ e. is_remembered e (entries first.state e)) (names_of first.state.set s)))
    → IsOnTheWay next next_out (flat_map (λ e. start_entity e first.state) (filter (λ e. is_remembered e (entries first.state e)) (drop (k + 1) (names_of first.state.set s)))) first first_out (flat_map (λ e. start_entity e first.state) (filter (λ e. is_remembered e (entries first.state e)) (names_of first.state.set s)))
start_next {first} {now} {next} {first_out} {out} {next_out} s {k} {n} {e} st same below count name step said way =
    way_goes now next first out next_out first_out (if is_remembered e (entries first.state e) then start_entity e first.state else []) _ _ _
    (picked_next (λ e. start_entity e first.state) (λ e. is_remembered e (entries first.state e)) (names_of first.state.set s) k e (is_remembered e (entries first.state e)) within name_is refl)
    (step ∙ ap (moved now) moves) (said ∙ ap (given out) moves) way
  where
    within : k < length (names_of first.state.set s)
    within = at_first (λ x. k < length (names_of x s)) st same (subst (λ (c : Script). k < length (names_of (setting c) s)) (sym same.script_is) (subst (λ m. k < m) count below))

    name_is : e ≡ name_at (names_of first.state.set s) k
    name_is = at_first (λ x. e ≡ name_at (names_of x s) k) st same name

    moves : (if is_remembered e (entries now.state e) then start_entity e now.state else []) ≡ (if is_remembered e (entries first.state e) then start_entity e first.state else [])
    moves = ap (λ b. if b then start_entity e now.state else []) (remembered_same e same) ∙ ap (λ (w : Incarnation). if is_remembered e (entries first.state e) then told (fact.Start w e) ∷ post w w (body.Recovered e) ∷ [] else []) same.who_is

pub start_room : (out : Spared Item) {next_out : Spared Item} (st : Entities) (e : List ℕ) (b : Bool) (k n m : ℕ) → next_out ≡ given out (if b then start_entity e st else []) → k < m → m ≡ n → 2 * (n - k) ≤ out.spare → 2 * (n - (k + 1)) ≤ next_out.spare
start_room out {next_out} st e b k n m said below same room =
    let left : out.spare ≤ (given out (if b then start_entity e st else [])).spare + length (if b then start_entity e st else []) = spare_left out (if b then start_entity e st else []) in
    let few : length (if b then start_entity e st else []) ≤ 2 = few_starts 0 st e b in
    let is : next_out.spare ≡ (given out (if b then start_entity e st else [])).spare = ap (λ (o : Spared Item). o.spare) said in
    omega (arith, left, few, is, below, same, room)

-- Stopping.

if_stop_same : (v : Lodged) (e : List ℕ) (b : Bool) → IsSame v (moved v (if b then stop_of v e ∷ [] else []))
if_stop_same v e true = stops_same {v = v} {w = moved v (stop_of v e ∷ [])} e refl
if_stop_same v e false = same_here v

if_stop_phases : {v : Lodged} {p : Place} → IsOn p v → (b : Bool) → SamePhases v (moved v (if b then stop_of v p.entity ∷ [] else []))
if_stop_phases {v} {p} on true = stops_phases {v = v} {w = moved v (stop_of v p.entity ∷ [])} on refl
if_stop_phases {v} {p} on false = λ j. refl

pub stop_same : {v w x : Lodged} (e : List ℕ) (b : Bool) → IsSame v w → x ≡ moved w (if b then stop_of w e ∷ [] else []) → IsSame v x
stop_same {v} {w} {x} e b same step = then_same same (subst (IsSame w) (sym step) (if_stop_same w e b))

pub stop_phases : {v w x : Lodged} {p : Place} (b : Bool) → Stands w → IsPlace w.script p → IsSame v w → SamePhases v w → x ≡ moved w (if b then stop_of w p.entity ∷ [] else []) → SamePhases v x
stop_phases {v} {w} {x} {p} b s is same phases step = then_phases x same phases (subst (SamePhases w) (sym step) (if_stop_phases (on_of s is) b))

pub stop_next : {first now next : Lodged} {first_out out next_out : Spared Item} (s : ℕ) {k n : ℕ} {e : List ℕ} → Stands now → IsSame first now → SamePhases first now → k < n → n ≡ length (names_of (setting first.script) s) → e ≡ name_at (names_of (setting now.script) s) k
    → next ≡ moved now (if not (is_in_phase phase.Absent now.state e) then stop_of now e ∷ [] else []) → next_out ≡ given out (if not (is_in_phase phase.Absent now.state e) then stop_of now e ∷ [] else [])
    → IsOnTheWay now out (flat_map (λ e. stop_of first e ∷ []) (filter (λ e. not (is_in_phase phase.Absent first.state e)) (drop k (names_of first.state.set s)))) first first_out (flat_map (λ e. stop_of first e ∷ []) (entities_of first.state s))
    → IsOnTheWay next next_out (flat_map (λ e. stop_of first e ∷ []) (filter (λ e. not (is_in_phase phase.Absent first.state e)) (drop (k + 1) (names_of first.state.set s)))) first first_out (flat_map (λ e. stop_of first e ∷ []) (entities_of first.state s))
stop_next {first} {now} {next} {first_out} {out} {next_out} s {k} {n} {e} st same phases below count name step said way =
    way_goes now next first out next_out first_out (if not (is_in_phase phase.Absent first.state e) then stop_of first e ∷ [] else []) _ _ _
    (picked_next (λ e. stop_of first e ∷ []) (λ e. not (is_in_phase phase.Absent first.state e)) (names_of first.state.set s) k e (not (is_in_phase phase.Absent first.state e)) within name_is refl)
    (step ∙ ap (moved now) moves) (said ∙ ap (given out) moves) way
  where
    within : k < length (names_of first.state.set s)
    within = at_first (λ x. k < length (names_of x s)) st same (subst (λ (c : Script). k < length (names_of (setting c) s)) (sym same.script_is) (subst (λ m. k < m) count below))

    name_is : e ≡ name_at (names_of first.state.set s) k
    name_is = at_first (λ x. e ≡ name_at (names_of x s) k) st same name

    moves : (if not (is_in_phase phase.Absent now.state e) then stop_of now e ∷ [] else []) ≡ (if not (is_in_phase phase.Absent first.state e) then stop_of first e ∷ [] else [])
    moves = ap (λ b. if not b then stop_of now e ∷ [] else []) (exists_same e same phases) ∙ ap (λ (w : Incarnation). if not (is_in_phase phase.Absent first.state e) then post w w (body.StopEntity e) ∷ [] else []) same.who_is

pub stop_room : (out : Spared Item) {next_out : Spared Item} (v : Lodged) (e : List ℕ) (b : Bool) (k n m : ℕ) → next_out ≡ given out (if b then stop_of v e ∷ [] else []) → k < m → m ≡ n → n - k ≤ out.spare → n - (k + 1) ≤ next_out.spare
stop_room out {next_out} v e b k n m said below same room =
    let left : out.spare ≤ (given out (if b then stop_of v e ∷ [] else [])).spare + length (if b then stop_of v e ∷ [] else []) = spare_left out (if b then stop_of v e ∷ [] else []) in
    let few : length (if b then stop_of v e ∷ [] else []) ≤ 1 = by_test b in
    let is : next_out.spare ≡ (given out (if b then stop_of v e ∷ [] else [])).spare = ap (λ (o : Spared Item). o.spare) said in
    omega (arith, left, few, is, below, same, room)
  where
    by_test : (b : Bool) → length (if b then stop_of v e ∷ [] else []) ≤ 1
    by_test true = omega arith
    by_test false = omega arith

-- the number of names, as the first value sees it
pub count_first : {v : Lodged} (s : ℕ) {n : ℕ} → Stands v → n ≡ length (names_of (setting v.script) s) → n ≡ length (names_of v.state.set s)
count_first {v} s {n} st count = count ∙ ap (λ (x : Setting). length (names_of x s)) (sym st.set_is)

-- The tick.

pub remind_cut : {v : Lodged} (s : ℕ) {k n : ℕ} {e : List ℕ} → Stands v → k < n → n ≡ length (names_of (setting v.script) s) → e ≡ name_at (names_of (setting v.script) s) k
    → of_names v.state (drop k (names_of v.state.set s)) ≡ remind_by e v.state (cell v.state e).phase ++ of_names v.state (drop (k + 1) (names_of v.state.set s))
remind_cut {v} s {k} {n} {e} st below count name =
    names_next v.state (names_of v.state.set s) k e (subst (λ (x : Setting). k < length (names_of x s)) (sym st.set_is) (subst (λ m. k < m) count below)) (name ∙ ap (λ (x : Setting). name_at (names_of x s) k) (sym st.set_is))

pub room_goes : (l a b : List Move) (out next_out : Spared Item) → l ≡ a ++ b → next_out ≡ given out a → length l ≤ out.spare → length b ≤ next_out.spare
room_goes l a b out next_out cut told room =
    let both : length a + length b ≤ out.spare = room_next l a b out.spare cut room in
    let left : out.spare ≤ (given out a).spare + length a = spare_left out a in
    let is : next_out.spare ≡ (given out a).spare = ap (λ (o : Spared Item). o.spare) told in
    omega (arith, both, left, is)

pub tick_cut : {v : Lodged} {s n t : ℕ} → Stands v → s < n → n ≡ v.script.config.shards → t ≡ s
    → flat_map (of_shard v.state) (numbers s (v.state.set.config.shards - s)) ≡ of_shard v.state t ++ flat_map (of_shard v.state) (numbers (s + 1) (v.state.set.config.shards - (s + 1)))
tick_cut {v} {s} {n} {t} st below shards same =
    shards_next v.state s v.state.set.config.shards (subst (λ (x : Setting). s < x.config.shards) (sym st.set_is) (subst (λ m. s < m) shards below))
    ∙ ap (λ m. of_shard v.state m ++ flat_map (of_shard v.state) (numbers (s + 1) (v.state.set.config.shards - (s + 1)))) (sym same)

-- What is pending is delivered.

pub record Delivering (p : Place) (first : Lodged) (first_out : Spared Item) (whole : Held) (now : Lodged) (out : Spared Item) (pending : Held) (n : ℕ) : Type 0 where
  pub way : IsOnTheWay now out (for_each entities_after deliver pending.messages now.state) first first_out (for_each entities_after deliver whole.messages first.state)
  pub script_is : now.script ≡ first.script
  pub version_is : now.state.version ≡ first.state.version
  pub for_it : list_all (is_for now.script p.entity) pending.messages ≡ true
  pub there : hosted now.state p.shard ≡ None → ⊥
  pub space : 2 * length pending.messages ≤ slice_index_or now.rooms p.shard 0
  pub settled : IsSettled now
  pub room : 4 * length pending.messages ≤ out.spare
  pub window_is : pending.window ≡ whole.window
  pub count : length pending.messages + n ≡ length whole.messages
  pub takes : Takes first now p.shard (2 * n)

pub first_for : (c : Script) (e : List ℕ) {m : Message} {l rest : List Message} → list_all (is_for c e) l ≡ true → l ≡ m ∷ rest → is_for c e m ≡ true
first_for c e {m} {l} {rest} all is = (and_both (is_for c e m) (list_all (is_for c e) rest) (subst (λ x. list_all (is_for c e) x ≡ true) is all)).0

pub for_entity : (c : Script) (e : List ℕ) (m : Message) → is_for c e m ≡ true → m.entity ≡ e
for_entity c e m for = same_name m.entity e (and_both (is_genuine c m && is_producer c m.producer) (is_name m.entity e) for).1

pub deliver_room : {p : Place} {first now : Lodged} {first_out out : Spared Item} {whole pending : Held} {n : ℕ} {m : Message} {rest : List Message} → Delivering p first first_out whole now out pending n → pending.messages ≡ m ∷ rest → HasRoom now p.shard 1
deliver_room {p} {first} {now} {first_out} {out} {whole} {pending} {n} {m} {rest} d is = record {
  hosted_is = d.there;
  room = let long : length pending.messages ≡ suc (length rest) = ap length is in let space : 2 * length pending.messages ≤ slice_index_or now.rooms p.shard 0 = d.space in omega (arith, long, space);
}

pub deliver_spare : {p : Place} {first now : Lodged} {first_out out : Spared Item} {whole pending : Held} {n : ℕ} {m : Message} {rest : List Message} → Delivering p first first_out whole now out pending n → pending.messages ≡ m ∷ rest → 4 ≤ out.spare
deliver_spare {p} {first} {now} {first_out} {out} {whole} {pending} {n} {m} {rest} d is = let long : length pending.messages ≡ suc (length rest) = ap length is in let room : 4 * length pending.messages ≤ out.spare = d.room in omega (arith, long, room)

pub deliver_next : {p : Place} {first now next : Lodged} {first_out out next_out : Spared Item} {whole pending rest : Held} {n : ℕ} (m : Message) → Delivering p first first_out whole now out pending n → Stands now → IsPlace now.script p → pending.messages ≡ m ∷ rest.messages → rest.window ≡ pending.window
    → next ≡ moved now (deliver m now.state) → next_out ≡ given out (deliver m now.state) → IsSettled next → Delivering p first first_out whole next next_out rest (n + 1)
deliver_next {p} {first} {now} {next} {first_out} {out} {next_out} {whole} {pending} {rest} {n} m d s is cut window step said settled = record {
  way = way_goes now next first out next_out first_out (deliver m now.state) (for_each entities_after deliver rest.messages next.state) (for_each entities_after deliver pending.messages now.state) (for_each entities_after deliver whole.messages first.state)
      (ap (λ l. for_each entities_after deliver l now.state) cut ∙ ap (λ st. deliver m now.state ++ for_each entities_after deliver rest.messages st) (sym (ap (λ (v : Lodged). v.state) step ∙ state_moved now (deliver m now.state)))) step said d.way;
  script_is = same_script ∙ d.script_is;
  version_is = ap (λ (v : Lodged). v.state.version) step ∙ (version_moved now (deliver m now.state) ∙ d.version_is);
  for_it = subst (λ (c : Script). list_all (is_for c p.entity) rest.messages ≡ true) (sym same_script) (and_both (is_for now.script p.entity m) (list_all (is_for now.script p.entity) rest.messages) (subst (λ l. list_all (is_for now.script p.entity) l ≡ true) cut d.for_it)).1;
  there = λ none. d.there (goes.walk.hosted_are p.shard none);
  space = let least : slice_index_or now.rooms p.shard 0 ≤ slice_index_or next.rooms p.shard 0 + 2 = goes.walk.room_is in let old : 2 * length pending.messages ≤ slice_index_or now.rooms p.shard 0 = d.space in omega (arith, long, least, old);
  settled = settled;
  room = let left : out.spare ≤ (given out (deliver m now.state)).spare + length (deliver m now.state) = spare_left out (deliver m now.state) in let few : length (deliver m now.state) ≤ 4 = goes.few in let spare_is : next_out.spare ≡ (given out (deliver m now.state)).spare = ap (λ (o : Spared Item). o.spare) said in let old : 4 * length pending.messages ≤ out.spare = d.room in omega (arith, long, left, few, spare_is, old);
  window_is = window ∙ d.window_is;
  count = let old : length pending.messages + n ≡ length whole.messages = d.count in omega (arith, long, old);
  takes = then_takes d.takes (takes_of goes.walk) (omega arith);
}
  where
    long : length pending.messages ≡ suc (length rest.messages)
    long = ap length cut

    same_script : next.script ≡ now.script
    same_script = ap (λ (v : Lodged). v.script) step ∙ script_moved now (deliver m now.state)

    goes : Delivers p now next (deliver m now.state)
    goes = delivers m s is (for_entity now.script p.entity m (first_for now.script p.entity d.for_it cut)) d.there d.settled step

-- An entity takes commands from now on.

pub record Activated (p : Place) (v w : Lodged) (ms : List Move) : Type 0 where
  pub walk : Walk p v w 1
  pub settled : IsSettled w
  pub few : length ms ≤ 2

pub activated : {v w : Lodged} {p : Place} → Stands v → IsPlace v.script p → (hosted v.state p.shard ≡ None → ⊥) → IsSettled v → w ≡ moved v (activate p.entity v.state) → Activated p v w (activate p.entity v.state)
activated {v} {w} {p} s is there settled step = subst (λ x. Activated p v x (activate p.entity v.state)) (sym step) (by_test (length (journal p.entity (entries v.state p.entity))) (folded v.state.set.config.kind (journal p.entity (entries v.state p.entity))) (v.state.set.config.remember && not (is_remembered p.entity (entries v.state p.entity))))
  where
    finish : (m : Move) (w : Lodged) (ms : List Move) {n : ℕ} → Reach p v w n (cell_after (cell v.state p.entity) m) → n ≤ 1 → length ms ≤ 2 → (cell_after (cell v.state p.entity) m).stash ≡ [] → Activated p v w ms
    finish m w ms r most few empty = record { walk = then_walk r.walk (stay r.walk.on) (omega (arith, most)); settled = settled_after (but_settled v p.at settled) r.walk (quiet_reached r there (λ gone. empty) (λ active. empty)); few = few }

    by_test : (n : ℕ) (st : State) (b : Bool) → Activated p v (moved v (told (fact.Active v.state.who p.entity n st) ∷ (if b then told (fact.Remembered p.entity) ∷ [] else []))) (told (fact.Active v.state.who p.entity n st) ∷ (if b then told (fact.Remembered p.entity) ∷ [] else []))
    by_test n st true = finish (told (fact.Active v.state.who p.entity n st)) (moved v (told (fact.Active v.state.who p.entity n st) ∷ told (fact.Remembered p.entity) ∷ [])) (told (fact.Active v.state.who p.entity n st) ∷ told (fact.Remembered p.entity) ∷ []) (reach_entry (fact.Remembered p.entity) (entry_remembered p.entity) (reach_one (told (fact.Active v.state.who p.entity n st)) (of_active v.state.who p.entity n st) (reach_here (on_of s is)))) (omega arith) (omega arith) refl
    by_test n st false = finish (told (fact.Active v.state.who p.entity n st)) (moved v (told (fact.Active v.state.who p.entity n st) ∷ [])) (told (fact.Active v.state.who p.entity n st) ∷ []) (reach_one (told (fact.Active v.state.who p.entity n st)) (of_active v.state.who p.entity n st) (reach_here (on_of s is))) (omega arith) (omega arith) refl

-- What was stashed is dropped.

pub record Dropping (p : Place) (first : Lodged) (first_out : Spared Item) (now : Lodged) (out : Spared Item) (n : ℕ) : Type 0 where
  pub way : IsOnTheWay now out (drop_stash p.entity now.state) first first_out (drop_stash p.entity first.state)
  pub walk : Walk p first now 0
  pub gone : (cell now.state p.entity).phase ≡ phase.Absent
  pub for_it : list_all (is_for first.script p.entity) (cell now.state p.entity).stash ≡ true
  pub who_is : now.state.who ≡ first.state.who
  pub count : length (cell now.state p.entity).stash + n ≡ length (cell first.state p.entity).stash
  pub room : length (cell now.state p.entity).stash ≤ out.spare

pub dropping_first : {p : Place} {v : Lodged} {out : Spared Item} → IsOn p v → (cell v.state p.entity).phase ≡ phase.Absent → list_all (is_for v.script p.entity) (cell v.state p.entity).stash ≡ true → length (cell v.state p.entity).stash ≤ out.spare → Dropping p v out v out 0
dropping_first {p} {v} {out} on gone for room = record { way = record { state_is = refl; out_is = refl }; walk = stay on; gone = gone; for_it = for; who_is = refl; count = omega arith; room = room }

pub dropping_next : {p : Place} {first now next : Lodged} {first_out out next_out : Spared Item} {n : ℕ} → Dropping p first first_out now out n → n < length (cell first.state p.entity).stash
    → next ≡ moved now (map (λ m. told (fact.Dropped now.state.who m)) (take 1 (cell now.state p.entity).stash)) → next_out ≡ given out (map (λ m. told (fact.Dropped now.state.who m)) (take 1 (cell now.state p.entity).stash)) → Dropping p first first_out next next_out (n + 1)
dropping_next {p} {first} {now} {next} {first_out} {out} {next_out} {n} d below step told_is = by_stash (cell now.state p.entity).stash refl
  where
    by_stash : (l : List Message) → (cell now.state p.entity).stash ≡ l → Dropping p first first_out next next_out (n + 1)
    by_stash [] is = let none : length (cell now.state p.entity).stash ≡ 0 = ap length is in let count : length (cell now.state p.entity).stash + n ≡ length (cell first.state p.entity).stash = d.count in absurd (omega (arith, none, count, below))
    by_stash (m ∷ rest) is = record {
      way = way_goes now next first out next_out first_out (told (fact.Dropped now.state.who m) ∷ []) (drop_stash p.entity next.state) (drop_stash p.entity now.state) (drop_stash p.entity first.state) cut step_one told_one d.way;
      walk = then_walk d.walk (subst (λ x. Walk p now x 0) (sym step_one) reach.walk) (omega arith);
      gone = ap (λ (x : Cell). x.phase) cell_next ∙ d.gone;
      for_it = subst (λ l. list_all (is_for first.script p.entity) l ≡ true) (sym stash_next) (and_both (is_for first.script p.entity m) (list_all (is_for first.script p.entity) rest) own).1;
      who_is = ap (λ (v : Lodged). v.state.who) step_one ∙ d.who_is;
      count = let count : length (cell now.state p.entity).stash + n ≡ length (cell first.state p.entity).stash = d.count in let long : length (cell now.state p.entity).stash ≡ suc (length rest) = ap length is in let next_long : length (cell next.state p.entity).stash ≡ length rest = ap length stash_next in omega (arith, count, long, next_long);
      room = let room : length (cell now.state p.entity).stash ≤ out.spare = d.room in let long : length (cell now.state p.entity).stash ≡ suc (length rest) = ap length is in let next_long : length (cell next.state p.entity).stash ≡ length rest = ap length stash_next in let spare : next_out.spare ≡ out.spare - 1 = ap (λ (o : Spared Item). o.spare) told_one in omega (arith, room, long, next_long, spare);
    }
      where
        own : list_all (is_for first.script p.entity) (m ∷ rest) ≡ true
        own = subst (λ l. list_all (is_for first.script p.entity) l ≡ true) is d.for_it

        same : m.entity ≡ p.entity
        same = for_entity first.script p.entity m (and_both (is_for first.script p.entity m) (list_all (is_for first.script p.entity) rest) own).0

        step_one : next ≡ moved now (told (fact.Dropped now.state.who m) ∷ [])
        step_one = step ∙ ap (λ (l : List Message). moved now (map (λ m. told (fact.Dropped now.state.who m)) (take 1 l))) is

        told_one : next_out ≡ given out (told (fact.Dropped now.state.who m) ∷ [])
        told_one = told_is ∙ ap (λ (l : List Message). given out (map (λ m. told (fact.Dropped now.state.who m)) (take 1 l))) is

        reach : Reach p now (lodged_after now (told (fact.Dropped now.state.who m))) 0 (cell_after (cell now.state p.entity) (told (fact.Dropped now.state.who m)))
        reach = reach_one (told (fact.Dropped now.state.who m)) (of_dropped now.state.who same) (reach_here d.walk.on)

        cell_next : cell next.state p.entity ≡ cell_after (cell now.state p.entity) (told (fact.Dropped now.state.who m))
        cell_next = ap (λ (v : Lodged). cell v.state p.entity) step_one ∙ reach.cell_is

        stash_next : (cell next.state p.entity).stash ≡ rest
        stash_next = ap (λ (x : Cell). x.stash) cell_next ∙ (ap (λ q. stash_step q (cell now.state p.entity).stash (told (fact.Dropped now.state.who m))) d.gone ∙ ap (λ (l : List Message). drop 1 l) is)

        who_next : next.state.who ≡ now.state.who
        who_next = ap (λ (v : Lodged). v.state.who) step_one

        cut : drop_stash p.entity now.state ≡ told (fact.Dropped now.state.who m) ∷ [] ++ drop_stash p.entity next.state
        cut = ap (λ (l : List Message). map (λ m. told (fact.Dropped now.state.who m)) l) is ∙ ap (λ l. told (fact.Dropped now.state.who m) ∷ l) (ap (λ (w : Incarnation). map (λ m. told (fact.Dropped w m)) rest) (sym who_next) ∙ ap (λ (l : List Message). map (λ m. told (fact.Dropped next.state.who m)) l) (sym stash_next))

no_length : {A : Type 0} (l : List A) → length l ≡ 0 → l ≡ []
no_length [] e = refl
no_length (x ∷ xs) e = absurd (omega (arith, e))

-- an entity that doesn't exist, with nothing stashed
pub idle_settled : {v w : Lodged} {p : Place} {n : ℕ} → IsSettledBut p.at v → Walk p v w n → (cell w.state p.entity).phase ≡ phase.Absent → length (cell w.state p.entity).stash ≡ 0 → IsSettled w
idle_settled {v} {w} {p} {n} settled walk gone none = settled_after settled walk record { at_home = λ no_host. gone; gone = λ absent. no_length (cell w.state p.entity).stash none; clear = λ active. no_length (cell w.state p.entity).stash none }

pub dropping_settled : {p : Place} {first now : Lodged} {first_out out : Spared Item} {n m : ℕ} → Dropping p first first_out now out n → m ≤ n → m ≡ length (cell first.state p.entity).stash → IsSettledBut p.at first → IsSettled now
dropping_settled {p} {first} {now} {first_out} {out} {n} {m} d end all settled = idle_settled settled d.walk d.gone (let count : length (cell now.state p.entity).stash + n ≡ length (cell first.state p.entity).stash = d.count in omega (arith, count, end, all))

pub dropping_done : {p : Place} {first now : Lodged} {first_out out : Spared Item} {n m : ℕ} → Dropping p first first_out now out n → m ≤ n → m ≡ length (cell first.state p.entity).stash → drop_stash p.entity now.state ≡ []
dropping_done {p} {first} {now} {first_out} {out} {n} {m} d end all = ap (λ (l : List Message). map (λ m. told (fact.Dropped now.state.who m)) l) (no_length (cell now.state p.entity).stash (let count : length (cell now.state p.entity).stash + n ≡ length (cell first.state p.entity).stash = d.count in omega (arith, count, end, all)))

pub way_state : {now first : Lodged} {out first_out : Spared Item} {left all : List Move} → IsOnTheWay now out left first first_out all → left ≡ [] → now ≡ moved first all
way_state {now} {first} {out} {first_out} {left} {all} w none = sym (ap (moved now) none) ∙ w.state_is

pub way_out : {now first : Lodged} {out first_out : Spared Item} {left all : List Move} → IsOnTheWay now out left first first_out all → left ≡ [] → out ≡ given first_out all
way_out {now} {first} {out} {first_out} {left} {all} w none = sym (ap (given out) none) ∙ w.out_is

-- Rules in turn.

pub turn_state : (v : Lodged) {mid w : Lodged} (p q : Entities → List Move) → mid ≡ moved v (p v.state) → w ≡ moved mid (q mid.state) → w ≡ moved v (in_turn entities_after p q v.state)
turn_state v {mid} {w} p q one two =
    two ∙ (ap (λ (x : Lodged). moved x (q x.state)) one ∙ (ap (λ st. moved (moved v (p v.state)) (q st)) (state_moved v (p v.state)) ∙ sym (fold-append lodged_after v (p v.state) (q (fold entities_after v.state (p v.state))))))

pub turn_out : (v : Lodged) (out : Spared Item) {mid : Lodged} {mid_out new_out : Spared Item} (p q : Entities → List Move) → mid ≡ moved v (p v.state) → mid_out ≡ given out (p v.state) → new_out ≡ given mid_out (q mid.state) → new_out ≡ given out (in_turn entities_after p q v.state)
turn_out v out {mid} {mid_out} {new_out} p q one first two =
    two ∙ (ap (λ o. given o (q mid.state)) first ∙ (ap (λ st. given (given out (p v.state)) (q st)) (ap (λ (x : Lodged). x.state) one ∙ state_moved v (p v.state)) ∙ sym (fold-append given_step out (p v.state) (q (fold entities_after v.state (p v.state))))))

any_append : (f : Move → Bool) (xs ys : List Move) → list_any f xs ≡ false → list_any f (xs ++ ys) ≡ list_any f ys
any_append f [] ys none = refl
any_append f (x ∷ xs) ys none = by_test (f x) none (λ e. any_append f xs ys e)
  where
    by_test : (b : Bool) → (b || list_any f xs) ≡ false → (list_any f xs ≡ false → list_any f (xs ++ ys) ≡ list_any f ys) → (b || list_any f (xs ++ ys)) ≡ list_any f ys
    by_test true e rest = cc
    by_test false e rest = rest e

pub turn_frees : (v : Lodged) {mid : Lodged} (p q : Entities → List Move) → mid ≡ moved v (p v.state) → list_any frees (p v.state) ≡ false → list_any frees (in_turn entities_after p q v.state) ≡ list_any frees (q mid.state)
turn_frees v {mid} p q one none = any_append frees (p v.state) (q (fold entities_after v.state (p v.state))) none ∙ ap (λ st. list_any frees (q st)) (sym (ap (λ (x : Lodged). x.state) one ∙ state_moved v (p v.state)))

pub drops_free_none : (w : Incarnation) (l : List Message) → list_any frees (map (λ m. told (fact.Dropped w m)) l) ≡ false
drops_free_none w [] = refl
drops_free_none w (m ∷ ms) = drops_free_none w ms

-- What is answered of a shard that is let go.

store_same : {v w : Lodged} {s : ℕ} {x : Shelf} → v.script ≡ w.script → v.state.who ≡ w.state.who → entries_in (hosted v.state s) ≡ entries_in (hosted w.state s) → slice_index_or v.rooms s 0 ≡ slice_index_or w.rooms s 0 → IsStore w s x → IsStore v s x
store_same a b d e k = record { script_is = k.script_is ∙ sym a; shard_is = k.shard_is; entries_are = k.entries_are ∙ sym d; room_is = k.room_is ∙ sym e; leased = k.leased ∙ ap (λ (w : Incarnation). Some w) (sym b) }

pub stopped_same : {v w : Lodged} {s : ℕ} {x : Stopped} → IsSame v w → IsStopped w w s x → IsStopped v v s x
stopped_same {v} {w} {s} {x} same k = record {
  shard_is = k.shard_is;
  store_is = store_same (sym same.script_is) (sym same.who_is) (ap (λ (h : List (Option Hosted)). entries_in (at h s)) (sym same.hosted_is)) (ap (λ (r : List ℕ). slice_index_or r s 0) (sym same.rooms_is)) k.store_is;
  kept_is = ap (λ (h : List (Option Hosted)). option_and_then (λ x. x.stopping) (at h s)) (sym same.hosted_is) ∙ k.kept_is;
}

pub match_map : {A : Type 0} {N M : Type 0} {P Q : A → Type 0} (o : Option A) → (N → M) → ((x : A) → P x → Q x) → MatchOption o N P → MatchOption o M Q
match_map None f g h = f h
match_map (Some x) f g h = g x h

drops_same : (v : Lodged) (w : Incarnation) (l : List Message) → IsSame v (moved v (map (λ m. told (fact.Dropped w m)) l))
drops_same v w [] = same_here v
drops_same v w (m ∷ ms) = then_same record { script_is = refl; who_is = refl; set_is = refl; hosted_is = refl; rooms_is = refl } (drops_same (lodged_after v (told (fact.Dropped w m))) w ms)

pub drop_same : {v w : Lodged} (e : List ℕ) → w ≡ moved v (drop_stash e v.state) → IsSame v w
drop_same {v} {w} e step = subst (IsSame v) (sym step) (drops_same v v.state.who (cell v.state e).stash)

abbrev pub handed : Stamp → Incarnation → Hosted → Hosted
handed stamp to h = record { entries = h.entries; stopping = Some (record { stamp = stamp; to = to }) }

-- Its end is told.

pub record Ended (p : Place) (v w : Lodged) : Type 0 where
  pub walk : Walk p v w 1
  pub stopping_is : option_and_then (λ (h : Hosted). h.stopping) (hosted w.state p.shard) ≡ option_and_then (λ (h : Hosted). h.stopping) (hosted v.state p.shard)
  pub gone : (cell w.state p.entity).phase ≡ phase.Absent
  pub stash_is : (cell w.state p.entity).stash ≡ (cell v.state p.entity).stash

pub tell_ended : {v w : Lodged} {p : Place} → IsOn p v → w ≡ moved v (told (fact.Stop v.state.who p.entity) ∷ forget_passivated p.entity v.state) → Ended p v w
tell_ended {v} {w} {p} on step = subst (Ended p v) (sym step) (by_test ((cell v.state p.entity).passivating && is_remembered p.entity (entries v.state p.entity)))
  where
    stop : Reach p v (lodged_after v (told (fact.Stop v.state.who p.entity))) 0 (cell_after (cell v.state p.entity) (told (fact.Stop v.state.who p.entity)))
    stop = reach_one (told (fact.Stop v.state.who p.entity)) (of_stop v.state.who p.entity) (reach_here on)

    by_test : (b : Bool) → Ended p v (moved v (told (fact.Stop v.state.who p.entity) ∷ (if b then told (fact.Forgotten p.entity) ∷ [] else [])))
    by_test true =
        let r : Reach p v (moved v (told (fact.Stop v.state.who p.entity) ∷ told (fact.Forgotten p.entity) ∷ [])) 1 (cell_after (cell v.state p.entity) (told (fact.Stop v.state.who p.entity))) =
        record { walk = then_walk stop.walk (walk_entry (entry_forgotten p.entity) stop.walk.on) (omega arith); cell_is = cell_entry p (lodged_after v (told (fact.Stop v.state.who p.entity))) (entry_forgotten p.entity) ∙ stop.cell_is } in
        record { walk = r.walk; stopping_is = kept; gone = ap (λ (x : Cell). x.phase) r.cell_is; stash_is = ap (λ (x : Cell). x.stash) r.cell_is }
      where
        s : ℕ
        s = shard_of v.state.set p.entity

        entered_keeps : (o : Option Hosted) → option_and_then (λ (h : Hosted). h.stopping) (option_map (entered_hosted (fact.Forgotten p.entity)) o) ≡ option_and_then (λ (h : Hosted). h.stopping) o
        entered_keeps None = refl
        entered_keeps (Some h) = refl

        kept : option_and_then (λ (h : Hosted). h.stopping) (hosted (moved v (told (fact.Stop v.state.who p.entity) ∷ told (fact.Forgotten p.entity) ∷ [])).state p.shard) ≡ option_and_then (λ (h : Hosted). h.stopping) (hosted v.state p.shard)
        kept = subst (λ n. option_and_then (λ (h : Hosted). h.stopping) (hosted (moved v (told (fact.Stop v.state.who p.entity) ∷ told (fact.Forgotten p.entity) ∷ [])).state n) ≡ option_and_then (λ (h : Hosted). h.stopping) (hosted v.state n)) on.shard_is
            (ap (λ o. option_and_then (λ (h : Hosted). h.stopping) o) (get_or-set_same v.state.hosted (shard_of v.state.set p.entity) (option_map (entered_hosted (fact.Forgotten p.entity)) (at v.state.hosted (shard_of v.state.set p.entity))) None (subst (λ n. n < length v.state.hosted) (sym on.shard_is) on.shard_in)) ∙ entered_keeps (at v.state.hosted (shard_of v.state.set p.entity)))
    by_test false = record { walk = then_walk stop.walk (stay stop.walk.on) (omega arith); stopping_is = refl; gone = ap (λ (x : Cell). x.phase) stop.cell_is; stash_is = ap (λ (x : Cell). x.stash) stop.cell_is }

-- A shard that is handed off.

pub stops_all_same : (v : Lodged) (a b : Incarnation) (es : List (List ℕ)) → IsSame v (moved v (map (λ e. post a b (body.StopEntity e)) es))
stops_all_same v a b [] = same_here v
stops_all_same v a b (e ∷ es) = then_same record { script_is = refl; who_is = refl; set_is = refl; hosted_is = refl; rooms_is = refl } (stops_all_same (lodged_after v (post a b (body.StopEntity e))) a b es)

pub each_stopped : (v : Lodged) {mid w : Lodged} (s : ℕ) (stamp : Stamp) (to : Incarnation) → mid ≡ moved v (handed_off s stamp to ∷ []) → w ≡ moved mid (map (λ e. post mid.state.who mid.state.who (body.StopEntity e)) (entities_of mid.state s))
    → w ≡ moved v (handed_off s stamp to ∷ map (λ e. post v.state.who v.state.who (body.StopEntity e)) (entities_of v.state s))
each_stopped v {mid} {w} s stamp to one two = two ∙ ap (λ (x : Lodged). moved x (map (λ e. post x.state.who x.state.who (body.StopEntity e)) (entities_of x.state s))) one

pub each_told : (v : Lodged) (out : Spared Item) {mid : Lodged} {new_out : Spared Item} (s : ℕ) (stamp : Stamp) (to : Incarnation) → mid ≡ moved v (handed_off s stamp to ∷ []) → new_out ≡ given out (map (λ e. post mid.state.who mid.state.who (body.StopEntity e)) (entities_of mid.state s))
    → new_out ≡ given out (handed_off s stamp to ∷ map (λ e. post v.state.who v.state.who (body.StopEntity e)) (entities_of v.state s))
each_told v out {mid} {new_out} s stamp to one two = two ∙ ap (λ (x : Lodged). given out (map (λ e. post x.state.who x.state.who (body.StopEntity e)) (entities_of x.state s))) one

posts_free_none : (a b : Incarnation) (es : List (List ℕ)) → list_any frees (map (λ e. post a b (body.StopEntity e)) es) ≡ false
posts_free_none a b [] = refl
posts_free_none a b (e ∷ es) = posts_free_none a b es

pub handed_frees_none : (v : Lodged) (s : ℕ) (stamp : Stamp) (to : Incarnation) → list_any frees (handed_off s stamp to ∷ map (λ e. post v.state.who v.state.who (body.StopEntity e)) (entities_of v.state s)) ≡ false
handed_frees_none v s stamp to = posts_free_none v.state.who v.state.who (entities_of v.state s)

pub handed_store : {v w : Lodged} {x : Shelf} (s : ℕ) (stamp : Stamp) (to : Incarnation) → Stands v → s < v.script.config.shards → w ≡ moved v (handed_off s stamp to ∷ map (λ e. post v.state.who v.state.who (body.StopEntity e)) (entities_of v.state s)) → IsStore w s x → IsStore v s x
handed_store {v} {w} {x} s stamp to st lt step k =
    let same : IsSame (lodged_after v (handed_off s stamp to)) w = subst (IsSame (lodged_after v (handed_off s stamp to))) (sym step) (stops_all_same (lodged_after v (handed_off s stamp to)) v.state.who v.state.who (entities_of v.state s)) in
    store_same (sym same.script_is) (sym same.who_is) (sym (ap (λ (h : List (Option Hosted)). entries_in (at h s)) same.hosted_is ∙ here)) (ap (λ (r : List ℕ). slice_index_or r s 0) (sym same.rooms_is)) k
  where
    kept : (o : Option Hosted) → entries_in (option_map (handed stamp to) o) ≡ entries_in o
    kept None = refl
    kept (Some h) = refl

    here : entries_in (at (slice_set v.state.hosted s (option_map (handed stamp to) (at v.state.hosted s))) s) ≡ entries_in (at v.state.hosted s)
    here = ap entries_in (get_or-set_same v.state.hosted s (option_map (handed stamp to) (at v.state.hosted s)) None (subst (λ n. s < n) (sym st.shards_there) lt)) ∙ kept (at v.state.hosted s)

-- Between calls.

pub stays_idle : {v w : Lodged} {pending : Held} (ms : List Move) → IsIdle v pending → IsSettled w → w ≡ moved v ms → IsIdle w pending
stays_idle {v} {w} {pending} ms k settled step = record { settled = settled; window_is = k.window_is ∙ ap (λ (c : Script). c.config.window) (sym (ap (λ (x : Lodged). x.script) step ∙ script_moved v ms)); empty = k.empty }

pub started_idle : {v w : Lodged} {pending : Held} (s : ℕ) (x : Shelf) (ms : List Move) → IsIdle v pending → IsSettled w → w ≡ moved (hosting v s x) ms → IsIdle w pending
started_idle {v} {w} {pending} s x ms k settled step = record { settled = settled; window_is = k.window_is ∙ ap (λ (c : Script). c.config.window) (sym (ap (λ (y : Lodged). y.script) step ∙ script_moved (hosting v s x) ms)); empty = k.empty }

-- What the loops' first values and ends say.

pub count_there : {first now : Lodged} (s : ℕ) {n : ℕ} → Stands now → IsSame first now → n ≡ length (names_of (setting first.script) s) → n ≡ length (names_of first.state.set s)
count_there {first} {now} s {n} st same count = at_first (λ x. n ≡ length (names_of x s)) st same (subst (λ (c : Script). n ≡ length (names_of (setting c) s)) (sym same.script_is) count)

pub home_there : {first now : Lodged} {s t : ℕ} → IsSame first now → t ≡ s → (hosted first.state s ≡ None → ⊥) → hosted now.state t ≡ None → ⊥
home_there {first} {now} {s} {t} same it there none = there (sym (ap (λ (h : List (Option Hosted)). at h s) same.hosted_is) ∙ (ap (hosted now.state) (sym it) ∙ none))

pub delivering_first : {p : Place} {v : Lodged} {out : Spared Item} {pending : Held} → list_all (is_for v.script p.entity) pending.messages ≡ true → (hosted v.state p.shard ≡ None → ⊥) → 2 * length pending.messages ≤ slice_index_or v.rooms p.shard 0 → IsSettled v → 4 * length pending.messages ≤ out.spare → Delivering p v out pending v out pending 0
delivering_first {p} {v} {out} {pending} for there space settled room = record { way = record { state_is = refl; out_is = refl }; script_is = refl; version_is = refl; for_it = for; there = there; space = space; settled = settled; room = room; window_is = refl; count = omega arith; takes = takes_here v p.shard (2 * 0) }

pub delivering_some : {p : Place} {first now : Lodged} {first_out out : Spared Item} {whole pending : Held} {n m : ℕ} → Delivering p first first_out whole now out pending n → n < m → m ≡ length whole.messages → pending.messages ≡ [] → ⊥
delivering_some {p} {first} {now} {first_out} {out} {whole} {pending} {n} {m} d below all none = let zero_long : length pending.messages ≡ 0 = ap length none in let count : length pending.messages + n ≡ length whole.messages = d.count in omega (arith, below, all, zero_long, count)

delivering_none : {p : Place} {first now : Lodged} {first_out out : Spared Item} {whole pending : Held} {n m : ℕ} → Delivering p first first_out whole now out pending n → m ≤ n → m ≡ length whole.messages → pending.messages ≡ []
delivering_none {p} {first} {now} {first_out} {out} {whole} {pending} {n} {m} d end all = no_length pending.messages (let count : length pending.messages + n ≡ length whole.messages = d.count in omega (arith, end, all, count))

pub delivering_state : {p : Place} {first now : Lodged} {first_out out : Spared Item} {whole pending : Held} {n m : ℕ} → Delivering p first first_out whole now out pending n → m ≤ n → m ≡ length whole.messages → now ≡ moved first (for_each entities_after deliver whole.messages first.state)
delivering_state {p} {first} {now} d end all = way_state d.way (ap (λ l. for_each entities_after deliver l now.state) (delivering_none d end all))

pub delivering_out : {p : Place} {first now : Lodged} {first_out out : Spared Item} {whole pending : Held} {n m : ℕ} → Delivering p first first_out whole now out pending n → m ≤ n → m ≡ length whole.messages → out ≡ given first_out (for_each entities_after deliver whole.messages first.state)
delivering_out {p} {first} {now} d end all = way_out d.way (ap (λ l. for_each entities_after deliver l now.state) (delivering_none d end all))

pub delivering_pending : {p : Place} {first now : Lodged} {first_out out : Spared Item} {whole pending : Held} {n m : ℕ} → Delivering p first first_out whole now out pending n → m ≤ n → m ≡ length whole.messages → pending ≡ record { messages = []; window = whole.window }
delivering_pending {p} {first} {now} {first_out} {out} {whole} {pending} {n} {m} d end all = ap (λ l. record { messages = l; window = pending.window }) (delivering_none d end all) ∙ ap (λ n. record { messages = []; window = n }) d.window_is

pub delivering_takes : {p : Place} {first now : Lodged} {first_out out : Spared Item} {whole pending : Held} {n m : ℕ} → Delivering p first first_out whole now out pending n → m ≤ n → m ≡ length whole.messages → Takes first now p.shard (2 * length whole.messages)
delivering_takes {p} {first} {now} {first_out} {out} {whole} {pending} {n} {m} d end all =
    let count : length pending.messages + n ≡ length whole.messages = d.count in
    then_takes d.takes (takes_here now p.shard 0) (omega (arith, count, end, all))

pub pending_for : (v : Lodged) (p : Place) {w : Lodged} {pending : Held} {n : ℕ} → w ≡ moved v (activate p.entity v.state) → pending ≡ record { messages = (cell v.state p.entity).stash; window = n } → list_all (is_for v.script p.entity) (cell v.state p.entity).stash ≡ true → list_all (is_for w.script p.entity) pending.messages ≡ true
pending_for v p {w} {pending} {n} step is own =
    subst (λ (c : Script). list_all (is_for c p.entity) pending.messages ≡ true) (sym (ap (λ (x : Lodged). x.script) step ∙ script_moved v (activate p.entity v.state)))
    (subst (λ l. list_all (is_for v.script p.entity) l ≡ true) (sym (ap (λ (h : Held). h.messages) is)) own)

pub pending_space : {v w : Lodged} {p : Place} {ms : List Move} {pending : Held} {n k : ℕ} → Activated p v w ms → pending ≡ record { messages = (cell v.state p.entity).stash; window = n } → k ≡ length (cell v.state p.entity).stash → k ≤ v.script.config.window → HasRoom v p.shard (2 * v.script.config.window) → 2 * length pending.messages ≤ slice_index_or w.rooms p.shard 0
pending_space {v} {w} {p} {ms} {pending} {n} {k} a is count few room =
    let long : length pending.messages ≡ length (cell v.state p.entity).stash = ap (λ (h : Held). length h.messages) is in
    let least : slice_index_or v.rooms p.shard 0 ≤ slice_index_or w.rooms p.shard 0 + 1 = a.walk.room_is in
    let old : 2 * v.script.config.window < slice_index_or v.rooms p.shard 0 = room.room in
    omega (arith, long, count, few, least, old)

pub pending_room : (out : Spared Item) {v w : Lodged} {p : Place} {pending : Held} {new_out : Spared Item} {n k : ℕ} → Activated p v w (activate p.entity v.state) → pending ≡ record { messages = (cell v.state p.entity).stash; window = n } → new_out ≡ given out (activate p.entity v.state) → k ≡ length (cell v.state p.entity).stash → k ≤ v.script.config.window → 2 + 4 * v.script.config.window ≤ out.spare
    → 4 * length pending.messages ≤ new_out.spare
pending_room out {v} {w} {p} {pending} {new_out} {n} {k} a is told_is count few room =
    let long : length pending.messages ≡ length (cell v.state p.entity).stash = ap (λ (h : Held). length h.messages) is in
    let left : out.spare ≤ (given out (activate p.entity v.state)).spare + length (activate p.entity v.state) = spare_left out (activate p.entity v.state) in
    let spare : new_out.spare ≡ (given out (activate p.entity v.state)).spare = ap (λ (o : Spared Item). o.spare) told_is in
    let most : length (activate p.entity v.state) ≤ 2 = a.few in
    omega (arith, long, left, spare, most, count, few, room)

pub shard_left : {v w : Lodged} {p : Place} → IsSame v w → IsPlace v.script p → p.shard < w.script.config.shards
shard_left {v} {w} {p} same is = subst (λ (c : Script). p.shard < c.config.shards) (sym same.script_is) is.shard_in

pub drop_room : (v : Lodged) (out : Spared Item) (e : List ℕ) {new_out : Spared Item} {k : ℕ} → new_out ≡ given out (drop_stash e v.state) → k ≡ length (cell v.state e).stash → k ≤ v.script.config.window → 2 + v.script.config.window ≤ out.spare → 2 ≤ new_out.spare
drop_room v out e {new_out} {k} told_is count few room =
    let long : length (drop_stash e v.state) ≡ length (cell v.state e).stash = length-map (cell v.state e).stash (λ m. told (fact.Dropped v.state.who m)) in
    let left : out.spare ≤ (given out (drop_stash e v.state)).spare + length (drop_stash e v.state) = spare_left out (drop_stash e v.state) in
    let spare : new_out.spare ≡ (given out (drop_stash e v.state)).spare = ap (λ (o : Spared Item). o.spare) told_is in
    omega (arith, long, left, spare, count, few, room)

pub turn_stopped : {v mid : Lodged} (r : Option Stopped) (p : Place) → IsOn p v → mid ≡ moved v (drop_stash p.entity v.state) → MatchOption r (list_any frees (free_if_left p.shard mid.state) ≡ false) (IsStopped mid mid p.shard)
    → MatchOption r (list_any frees (in_turn entities_after (drop_stash p.entity) (free_if_left (shard_of v.state.set p.entity)) v.state) ≡ false) (IsStopped v v p.shard)
turn_stopped {v} {mid} r p on step answer =
    match_map r
    (λ none. turn_frees v (drop_stash p.entity) (free_if_left (shard_of v.state.set p.entity)) step (drops_free_none v.state.who (cell v.state p.entity).stash) ∙ (ap (λ s. list_any frees (free_if_left s mid.state)) on.shard_is ∙ none))
    (λ x k. stopped_same (drop_same p.entity step) k) answer

pub start_frees_none : (e : List ℕ) (st : Entities) (b : Bool) → list_any frees (if b then [] else start_entity e st) ≡ false
start_frees_none e st true = refl
start_frees_none e st false = refl

forget_frees_none : (w : Incarnation) (e : List ℕ) (b : Bool) → list_any frees (told (fact.Stop w e) ∷ (if b then told (fact.Forgotten e) ∷ [] else [])) ≡ false
forget_frees_none w e true = refl
forget_frees_none w e false = refl

pub stop_answers : {v mid : Lodged} (r : Option Stopped) (p : Place) → IsOn p v → (cell v.state p.entity).phase ≡ phase.Stopping → mid ≡ moved v (told (fact.Stop v.state.who p.entity) ∷ forget_passivated p.entity v.state) → MatchOption r (list_any frees (after_stop p.entity mid.state) ≡ false) (IsStopped mid mid p.shard)
    → MatchOption r (list_any frees (stop p.entity v.state) ≡ false) (IsStopped v (moved v (told (fact.Stop v.state.who p.entity) ∷ forget_passivated p.entity v.state)) p.shard)
stop_answers {v} {mid} r p on is step answer =
    match_map r
    (λ none. ap (λ q. list_any frees (if is_phase phase.Stopping q then in_turn entities_after (λ st. told (fact.Stop st.who p.entity) ∷ forget_passivated p.entity st) (after_stop p.entity) v.state else [])) is
    ∙ (turn_frees v (λ st. told (fact.Stop st.who p.entity) ∷ forget_passivated p.entity st) (after_stop p.entity) step (forget_frees_none v.state.who p.entity ((cell v.state p.entity).passivating && is_remembered p.entity (entries v.state p.entity))) ∙ none))
    (λ x k. record { shard_is = k.shard_is; store_is = subst (λ y. IsStore y p.shard x.store) step k.store_is; kept_is = sym (tell_ended on step).stopping_is ∙ k.kept_is }) answer

hosted_handed : (v : Lodged) (s : ℕ) (stamp : Stamp) (to : Incarnation) (t : ℕ) → hosted (lodged_after v (handed_off s stamp to)).state t ≡ None → hosted v.state t ≡ None
hosted_handed v s stamp to t none = at_shard (t == s) refl
  where
    new : Option Hosted
    new = option_map (handed stamp to) (at v.state.hosted s)

    outside : (xs : List (Option Hosted)) (n : ℕ) → length xs ≤ n → at xs n ≡ None
    outside [] n h = refl
    outside (y ∷ ys) zero h = absurd (omega (arith, h))
    outside (y ∷ ys) (suc n) h = outside ys n (omega (arith, h))

    lt_of : (a b : ℕ) → nat_lt a b ≡ true → a < b
    lt_of a b e = grind (arith, nat_tests)

    le_of : (a b : ℕ) → nat_lt a b ≡ false → b ≤ a
    le_of a b e = grind (arith, nat_tests)

    back : (o : Option Hosted) → option_map (handed stamp to) o ≡ None → o ≡ None
    back None e = refl
    back (Some h) e = cc

    by_length : (b : Bool) → nat_lt s (length v.state.hosted) ≡ b → at (slice_set v.state.hosted s (option_map (handed stamp to) (at v.state.hosted s))) s ≡ None → at v.state.hosted s ≡ None
    by_length true lt e = back (at v.state.hosted s) (sym (get_or-set_same v.state.hosted s (option_map (handed stamp to) (at v.state.hosted s)) None (lt_of s (length v.state.hosted) lt)) ∙ e)
    by_length false lt e = outside v.state.hosted s (le_of s (length v.state.hosted) lt)

    at_shard : (b : Bool) → (t == s) ≡ b → hosted v.state t ≡ None
    at_shard true e = ap (at v.state.hosted) (same_number t s e) ∙ by_length (nat_lt s (length v.state.hosted)) refl (ap (at (slice_set v.state.hosted s (option_map (handed stamp to) (at v.state.hosted s)))) (sym (same_number t s e)) ∙ none)
    at_shard false e = sym (get_or-set_other v.state.hosted s t (option_map (handed stamp to) (at v.state.hosted s)) None (other_number t s e)) ∙ none

pub handed_settled : (v : Lodged) {w : Lodged} (s : ℕ) (stamp : Stamp) (to : Incarnation) → IsSettled v → w ≡ moved v (handed_off s stamp to ∷ []) → IsSettled w
handed_settled v {w} s stamp to settled step = subst IsSettled (sym step) (λ i within. record { at_home = λ none. (settled i within).at_home (hosted_handed v s stamp to (shard_of v.state.set (name_at v.state.set.names i)) none); gone = (settled i within).gone; clear = (settled i within).clear })

pub handed_there : {v w : Lodged} (s : ℕ) (stamp : Stamp) (to : Incarnation) → Stands v → s < v.script.config.shards → (hosted v.state s ≡ None → ⊥) → w ≡ moved v (handed_off s stamp to ∷ []) → hosted w.state s ≡ None → ⊥
handed_there {v} {w} s stamp to st lt there step none = there (hosted_handed v s stamp to s (subst (λ (y : Lodged). hosted y.state s ≡ None) step none))

pub handed_shard : (v : Lodged) (ms : List Move) {w : Lodged} (s : ℕ) (stamp : Stamp) (to : Incarnation) → w ≡ moved v ms → s < v.script.config.shards → s < w.script.config.shards
handed_shard v ms {w} s stamp to step lt = subst (λ (c : Script). s < c.config.shards) (sym (ap (λ (x : Lodged). x.script) step ∙ script_moved v ms)) lt

pub handed_room : (v : Lodged) (stamp : Stamp) (to : Incarnation) (out : Spared Item) {mid : Lodged} (s : ℕ) {new_out : Spared Item} → mid ≡ moved v (handed_off s stamp to ∷ []) → new_out ≡ given out (map (λ e. post mid.state.who mid.state.who (body.StopEntity e)) (entities_of mid.state s)) → 2 + length (names_of v.state.set s) ≤ out.spare → 2 ≤ new_out.spare
handed_room v stamp to out {mid} s {new_out} step told_is room =
    let long : length (map (λ e. post mid.state.who mid.state.who (body.StopEntity e)) (entities_of mid.state s)) ≡ length (entities_of mid.state s) = length-map (entities_of mid.state s) (λ e. post mid.state.who mid.state.who (body.StopEntity e)) in
    let few : length (entities_of mid.state s) ≤ length (names_of mid.state.set s) = picked_few (λ e. not (is_in_phase phase.Absent mid.state e)) (names_of mid.state.set s) in
    let names : length (names_of mid.state.set s) ≡ length (names_of v.state.set s) = ap (λ (x : Lodged). length (names_of x.state.set s)) step in
    let left : out.spare ≤ (given out (map (λ e. post mid.state.who mid.state.who (body.StopEntity e)) (entities_of mid.state s))).spare + length (map (λ e. post mid.state.who mid.state.who (body.StopEntity e)) (entities_of mid.state s)) = spare_left out (map (λ e. post mid.state.who mid.state.who (body.StopEntity e)) (entities_of mid.state s)) in
    let spare : new_out.spare ≡ (given out (map (λ e. post mid.state.who mid.state.who (body.StopEntity e)) (entities_of mid.state s))).spare = ap (λ (o : Spared Item). o.spare) told_is in
    omega (arith, long, few, names, left, spare, room)

pub handed_answers : {v mid : Lodged} (r : Option Stopped) (s : ℕ) (stamp : Stamp) (to : Incarnation) → Stands v → s < v.script.config.shards → mid ≡ moved v (handed_off s stamp to ∷ map (λ e. post v.state.who v.state.who (body.StopEntity e)) (entities_of v.state s))
    → MatchOption r (list_any frees (free_if_left s mid.state) ≡ false) (IsStopped mid mid s) → {o : Option Shelf} → o ≡ option_map (λ x. x.store) r → MatchOption o (list_any frees (hand_off s stamp to v.state) ≡ false) (IsStore v s)
handed_answers {v} {mid} r s stamp to st lt step answer {o} is = subst (λ o. MatchOption o (list_any frees (hand_off s stamp to v.state) ≡ false) (IsStore v s)) (sym is) (by_answer r answer)
  where
    by_answer : (r : Option Stopped) → MatchOption r (list_any frees (free_if_left s mid.state) ≡ false) (IsStopped mid mid s) → MatchOption (option_map (λ x. x.store) r) (list_any frees (hand_off s stamp to v.state) ≡ false) (IsStore v s)
    by_answer None none = turn_frees v (λ st. handed_off s stamp to ∷ map (λ e. post st.who st.who (body.StopEntity e)) (entities_of st s)) (free_if_left s) step (handed_frees_none v s stamp to) ∙ none
    by_answer (Some x) k = handed_store s stamp to st lt step k.store_is

-- an entity that exists is of a hosted shard, which has room
pub room_there : {v : Lodged} {p : Place} {s n : ℕ} → Stands v → IsPlace v.script p → IsSettled v → s ≡ p.shard → RoomIfHosted v s n → ((cell v.state p.entity).phase ≡ phase.Absent → ⊥) → HasRoom v p.shard n
room_there {v} {p} {s} {n} st is settled same room there =
    let home : hosted v.state p.shard ≡ None → ⊥ = λ none. there ((quiet_at (on_of st is) (named_within st is) settled).at_home none) in
    record { hosted_is = home; room = subst (λ t. RoomIfHosted v t n) same room home }

pub loading_there : (x : Cell) → x.phase ≡ phase.Loading → x.phase ≡ phase.Absent → ⊥
loading_there x a b = not_absent a b

pub stopping_there : (x : Cell) → x.phase ≡ phase.Stopping → x.phase ≡ phase.Absent → ⊥
stopping_there x a b = stops_not_absent a b

-- Whether its shard runs.

pub runs_at_place : {c : Script} {version : ℕ} {who : Incarnation} {config : Config} {places : Script} {cells : List Celled} {items : List (Option Hosting)} {running : ℕ} {v : Lodged} {p : Place} → IsLodged c version who config places cells items running → lodged c version who items cells ≡ v → IsPlace v.script p
    → has running p.shard ≡ is_running v.state (shard_of v.state.set p.entity)
runs_at_place {c} {version} {who} {config} {places} {cells} {items} {running} {v} {p} k seen is = running_are k seen p.shard is.shard_in ∙ ap (is_running v.state) (sym (on_of (stands_of k seen) is).shard_is)

pub names_end : (set : Setting) (s : ℕ) {k n : ℕ} → n ≡ length (names_of set s) → n ≤ k → drop k (names_of set s) ≡ []
names_end set s {k} {n} count end = all_dropped (names_of set s) k (omega (arith, count, end))
