-- The steps of a tick, one after another, and Start of shards again.
use Rattle.std.proofs.Common.{◌≡◌, ℕ, zero, suc, ◌+◌, ◌-◌, ◌*◌, ◌≤◌, ◌<◌, List, [], ◌∷◌, ◌++◌, length, map, sym, ap, subst, ◌∙◌, refl, append-nil, append_assoc, true, false, true≢false, arith}
use Rattle.std.specs.Prelude.{Bool, ◌&&◌, ◌||◌, ◌==◌, not, IfSome, nat_lt, fold, sum_by, Option, Some, None, is_none, slice_index_or, slice_set, if◌then◌else◌}
use Rattle.std.specs.Option.{option_map}
use Rattle.std.specs.List.{list_all, flat_map}
use Rattle.std.proofs.lemmas.List.{set-get_or}
use Rattle.std.proofs.lemmas.List.Sums.{fold-append}
use Rattle.yard_model.specs.declared.fact.Fact.{Fact}
use Rattle.yard_model.specs.declared.fact.Fact.TheVariants as fact
use Rattle.yard_model.specs.declared.incarnation.Incarnation.{Incarnation}
use Rattle.yard_model.specs.declared.incarnation.Slot.{Slot}
use Rattle.yard_model.specs.declared.incarnation.Slot.TheVariants as slot
use Rattle.yard_model.specs.declared.input.Phase.{Phase}
use Rattle.yard_model.specs.declared.input.Phase.TheVariants as phase
use Rattle.yard_model.specs.declared.out.Item.{Item}
use Rattle.yard_model.specs.declared.out.Item.TheVariants as item
use Rattle.yard_model.specs.declared.packet.Body.TheVariants as body
use Rattle.yard_model.specs.declared.packet.Message.{Message}
use Rattle.yard_model.specs.Coordinator.{Coordinator, terminate_lost, tick_coordinator}
use Rattle.yard_model.specs.Entities as entities
use Rattle.yard_model.specs.Entities.{Entities, Hosted, hosted, is_hosted, Cell, new_cell, is_phase, is_in_phase, entities_after, cell_after, tick_entities, start_remembered, entities_of, remind_by, cell}
use Rattle.yard_model.specs.Genuine.{is_shard}
use Rattle.yard_model.specs.Move.{Move, made, told, post, released}
use Rattle.yard_model.specs.Node.{Node, Act, Rule, by_region, by_entities, by_producer, by_coordinator, after, of_coordinator, of_entities, of_region, is_running, acquire, acquire_by, all_in_turn, lead, start, release, route, start_again}
use Rattle.yard_model.specs.Region.{Region, is_home, is_routable, kept_of, oldest, route_away, tick_region}
use Rattle.yard_model.specs.Script.{Script, IsScript, Setting, setting}
use Rattle.yard_model.specs.Setting.{shard_of, shards, names_of, place}
use Rattle.yard_model.specs.SlotLists.{SlotLists, shard_list}
use Rattle.yard_model.specs.SlotReads.{holder}
use Rattle.yard_model.specs.Spared.{Spared}
use Rattle.yard_model.specs.Turns.{in_turn, for_each}
use Rattle.yard_model.specs.Words.{is_at, numbers}
use Rattle.yard_laws.proofs.FreeLaws.{region_is_free}
use Rattle.yard_laws.proofs.PartsLaws.{entities_alone}
use Rattle.plain_laws.proofs.Booleans.{and_both, both, below, is_below, same_number, number_itself}
use Rattle.plain_laws.proofs.Lists.{all_join, all_if, all_some, all_each}
use Rattle.actor_laws.specs.EntitiesStand.{EntityRules}
use Rattle.actor_laws.specs.Hands.{held_list}
use Rattle.node_laws.specs.NodeFound.{AreLawful}
use Rattle.node_laws.specs.NodeStands.{IsSoundNode}
use Rattle.node_laws.proofs.NodeCoordinator.{tick_node}
use Rattle.node_laws.proofs.NodeLeases.{lead_node}
use Rattle.node_laws.proofs.NodePackets.{TurnLaws}
use Rattle.node_laws.proofs.NodeRoutes.{tick_region_node, tick_entities_node}
use Rattle.node_laws.proofs.NodeTicks.{again_node}
use Rattle.coordinator_actor.specs.Held.{Held}
use Rattle.producer_ctl.specs.Producing.{Producing}
use Rattle.shard_entities.specs.Lodged.{Lodged, lodged_after, moved, given}
use Rattle.shard_lease.specs.Meaning.{Meaning}
use Rattle.node_core.specs.Again.{TickLaws, Stepped, StartedAgain, AsksShards, starts_again, start_room, is_shard_under, tick_members, tick_shards}
use Rattle.node_core.specs.Found.{none, asks, either}
use Rattle.node_core.specs.Gave.{Moment, moment, Gave, asks_lead}
use Rattle.node_core.specs.Leased.{Rests}
use Rattle.node_core.specs.Releasing.{HasReleaseRoom, kept_all}
use Rattle.node_core.specs.Standing.{Standing, standing_of, node_of}
use Rattle.node_core.specs.Started.{asks_again, AgainLeaves}
use Rattle.node_core.specs.Still.{is_still_move, is_of_shards, is_held_of}
use Rattle.node_core.specs.Went.{Went, rooms_after}
use Rattle.node_core.proofs.BesideLaws.{frees, frees_none, none_mapped, acts_keep}
use Rattle.node_core.proofs.FoundLaws.{alike_itself}
use Rattle.node_core.proofs.GaveLaws.{Keeps, gave_both, gave_nothing, gave_same, gave_then}
use Rattle.node_core.proofs.GiveLaws.{region_gave, entities_gave, office_gave}
use Rattle.node_core.proofs.PacketLaws.{frees_nothing}
use Rattle.node_core.proofs.ReleaseLaws.{IsCalmer, is_delivering, phase_delivers, all_ending, active_before, rooms_beside, ending_in, ending_none, room_stays}
use Rattle.room_laws.proofs.EntitiesRoom.{names_left, names_next}
use Rattle.room_laws.proofs.Limits.{few_names_in, few_shards_in}
use Rattle.node_core.proofs.StartLaws.{start_delivers}
use Rattle.node_core.proofs.StepLaws.{entities_went}
use Rattle.node_core.proofs.StillEntities.{tick_still}
use Rattle.node_core.proofs.StillOffice.{office_tick_still}
use Rattle.node_core.proofs.TurnLaws.{lists_lawful}

-- One more at the end of a list.

pub each_more : {S M X : Type 0} (f : S → M → S) (p : X → S → List M) (xs : List X) (x : X) (st : S) → for_each f p (xs ++ x ∷ []) st ≡ for_each f p xs st ++ p x (fold f st (for_each f p xs st))
each_more f p [] x st = append-nil (p x st)
each_more f p (y ∷ ys) x st =
    ap (λ l. p y st ++ l) (each_more f p ys x (fold f st (p y st)))
    ∙ (sym (append_assoc (p y st) (for_each f p ys (fold f st (p y st))) (p x (fold f (fold f st (p y st)) (for_each f p ys (fold f st (p y st))))))
    ∙ ap (λ s. (p y st ++ for_each f p ys (fold f st (p y st))) ++ p x s) (sym (fold-append f st (p y st) (for_each f p ys (fold f st (p y st))))))

pub numbers_more : (a n : ℕ) → numbers a (suc n) ≡ numbers a n ++ (a + n) ∷ []
numbers_more a zero = let e : a ≡ a + 0 = omega arith in ap (λ k. k ∷ []) e
numbers_more a (suc n) = let e : (a + 1) + n ≡ a + suc n = omega arith in ap (λ l. a ∷ l) (numbers_more (a + 1) n ∙ ap (λ k. numbers (a + 1) n ++ k ∷ []) e)

-- The laws of a turn.

pub laws_of : TickLaws → TurnLaws
laws_of k = record {
  routes = record { region = k.region; entities = k.entities; message = k.message };
  starts = k.starts;
  begins = k.begins;
  produces = k.produces;
  sends = k.sends;
  granted = k.granted;
}

-- leases that vouch for everything
pub vouches_all : List ℕ → ℕ → ℕ → Bool
vouches_all e p n = true

-- A step leads from a node that stands to one that stands, whatever lawful lists it found.
pub gave_sound : (c : Script) (asked : Slot → Bool) (acts : SlotLists → List Act) (old new : Moment) → IsSoundNode c old.node → ((lists : SlotLists) → AreLawful c lists → IsSoundNode c (fold after old.node (acts lists)))
    → Gave c asked acts old new → IsSoundNode c new.node
gave_sound c asked acts old new sound keeps g =
    subst (IsSoundNode c) (ap (fold after old.node) (g.found.same g.found.lists (alike_itself c asked old.node g.found.lists)) ∙ sym g.node_is)
    (keeps g.found.lists (lists_lawful c old.node g.found.lists sound g.found.hands_are g.found.else_are))

-- Steps in turn.

keeps_shards : (c : Script) (two : Slot → Bool) (old new : Moment) → AsksShards two → ((s : ℕ) → hosted new.node.entities s ≡ None → hosted old.node.entities s ≡ None) → Keeps c two old new
keeps_shards c two old new asks keeps (slot.Shard s) v asked free = ap (option_map (λ h. h.entries)) (keeps s (none_mapped (λ h. h.entries) (hosted new.node.entities s) free))
keeps_shards c two old new asks keeps slot.Coordinator v asked free = absurd (true≢false (sym (asks slot.Coordinator asked)))
keeps_shards c two old new asks keeps (slot.Queue p) v asked free = absurd (true≢false (sym (asks (slot.Queue p) asked)))

joined : {v w x : Standing} {one two : Slot → Bool} {p q : SlotLists → List Act} {m0 m1 m2 : Meaning} {before late last : Spared Item} (a b : ℕ) (asked : Slot → Bool) (acts : SlotLists → List Act)
    → Stepped a one p v w m0 m1 before late → Stepped b two q w x m1 m2 late last → Gave v.script asked acts (moment m0 v.state before.items) (moment m2 x.state last.items) → Stepped (a + b) asked acts v x m0 m2 before last
joined {v} {w} {x} a b asked acts f g gave = record {
  script_is = g.script_is ∙ f.script_is;
  gave = gave;
  stands = subst (λ (c : Script). IsSoundNode c x.state) f.script_is g.stands;
  hosted_are = λ s h. f.hosted_are s (g.hosted_are s h);
  room = let first = f.room in let second = g.room in omega (arith, first, second);
  rooms = λ t k room. g.rooms t k (f.rooms t k room);
}

-- the second asks for nothing
pub stepped_then : {v w x : Standing} {m0 m1 m2 : Meaning} {before late last : Spared Item} (a b : ℕ) (one : Slot → Bool) (p : SlotLists → List Act) (q : SlotLists → Rule)
    → Stepped a one p v w m0 m1 before late → Stepped b none (λ lists. q lists w.state) w x m1 m2 late last → Stepped (a + b) one (λ lists. p lists ++ q lists (fold after v.state (p lists))) v x m0 m2 before last
stepped_then {v} {w} {x} {m0} {m1} {m2} {before} {late} {last} a b one p q f g =
    joined a b one (λ lists. p lists ++ q lists (fold after v.state (p lists))) f g
    (gave_then v.script one p q (moment m0 v.state before.items) (moment m1 w.state late.items) (moment m2 x.state last.items) f.gave
    (subst (λ (c : Script). Gave c none (λ lists. q lists w.state) (moment m1 w.state late.items) (moment m2 x.state last.items)) f.script_is g.gave))

-- the second asks for shards alone, and the first for none of them
pub stepped_both : {v w x : Standing} {m0 m1 m2 : Meaning} {before late last : Spared Item} (a b : ℕ) (one two : Slot → Bool) (p : SlotLists → List Act) (q : SlotLists → Rule) → ((s : Slot) → one s ≡ true → two s ≡ false) → AsksShards two
    → Stepped a one p v w m0 m1 before late → Stepped b two (λ lists. q lists w.state) w x m1 m2 late last → Stepped (a + b) (either one two) (λ lists. p lists ++ q lists (fold after v.state (p lists))) v x m0 m2 before last
stepped_both {v} {w} {x} {m0} {m1} {m2} {before} {late} {last} a b one two p q apart shards_alone f g =
    joined a b (either one two) (λ lists. p lists ++ q lists (fold after v.state (p lists))) f g
    (gave_both v.script one two p q (moment m0 v.state before.items) (moment m1 w.state late.items) (moment m2 x.state last.items) apart
    (keeps_shards v.script two (moment m0 v.state before.items) (moment m1 w.state late.items) shards_alone f.hosted_are) f.gave
    (subst (λ (c : Script). Gave c two (λ lists. q lists w.state) (moment m1 w.state late.items) (moment m2 x.state last.items)) f.script_is g.gave))

-- Acts beside the entities.

abbrev is_beside : Act → Bool
is_beside (by_entities m) = false
is_beside a = true

beside_entities : (st : Node) (acts : List Act) → list_all is_beside acts ≡ true → (fold after st acts).entities ≡ st.entities
beside_entities st [] h = refl
beside_entities st (by_entities m ∷ acts) h = absurd (true≢false (sym h))
beside_entities st (by_region m ∷ acts) h = beside_entities (after st (by_region m)) acts h
beside_entities st (by_producer p m ∷ acts) h = beside_entities (after st (by_producer p m)) acts h
beside_entities st (by_coordinator m ∷ acts) h = beside_entities (after st (by_coordinator m)) acts h

beside_rooms : (set : Setting) (rooms : List ℕ) (acts : List Act) → list_all is_beside acts ≡ true → fold (rooms_after set) rooms acts ≡ rooms
beside_rooms set rooms [] h = refl
beside_rooms set rooms (by_entities m ∷ acts) h = absurd (true≢false (sym h))
beside_rooms set rooms (by_region m ∷ acts) h = beside_rooms set rooms acts h
beside_rooms set rooms (by_producer p m ∷ acts) h = beside_rooms set rooms acts h
beside_rooms set rooms (by_coordinator m ∷ acts) h = beside_rooms set rooms acts h

region_beside : (ms : List Move) → list_all is_beside (map by_region ms) ≡ true
region_beside [] = refl
region_beside (m ∷ ms) = region_beside ms

office_beside : (ms : List Move) → list_all is_beside (map by_coordinator ms) ≡ true
office_beside [] = refl
office_beside (m ∷ ms) = office_beside ms

office_rule_beside : (p : Coordinator → List Move) (st : Node) → list_all is_beside (of_coordinator p st) ≡ true
office_rule_beside p st = all_some is_beside (λ k. map by_coordinator (p k)) st.coordinator (λ k. office_beside (p k))

lead_beside : (lists : SlotLists) (st : Node) → list_all is_beside (lead lists st) ≡ true
lead_beside lists st =
    let takes : List Act = if is_at st.who (oldest st.region) && is_none st.coordinator then map by_coordinator (acquire slot.Coordinator st.who lists.coordinator) else [] in
    let mid : Node = fold after st takes in
    all_join is_beside takes (of_coordinator (terminate_lost mid.region.view) mid)
    (all_if is_beside (is_at st.who (oldest st.region) && is_none st.coordinator) (map by_coordinator (acquire slot.Coordinator st.who lists.coordinator)) [] (office_beside (acquire slot.Coordinator st.who lists.coordinator)) refl)
    (office_rule_beside (terminate_lost mid.region.view) mid)

-- the same shards are hosted, with the same room, and the same entities take commands
pub same_room : {v w : Standing} (t k : ℕ) → w.script ≡ v.script → IsSoundNode v.script v.state → IsSoundNode v.script w.state → w.state.entities ≡ v.state.entities → w.rooms ≡ v.rooms → HasReleaseRoom k v t → HasReleaseRoom k w t
same_room {v} {w} t k script is stands same rooms room =
    room_stays k (record {
      script_is = script;
      set_is = stands.set_is ∙ sym is.set_is;
      ending_is = ap (λ (e : Entities). ending_in (hosted e t)) same;
      active = λ e h. subst (λ (x : Entities). is_in_phase phase.Active x e ≡ true) same h;
    }) (ap (λ rs. slice_index_or rs t 0) rooms) room

-- such a step that asks for nothing
beside_stepped : {v w : Standing} {before late : Spared Item} (n : ℕ) (m : Meaning) (acts : List Act) → list_all is_beside acts ≡ true → IsSoundNode v.script v.state → IsSoundNode v.script (fold after v.state acts)
    → Went v w before late acts → Gave v.script none (λ lists. acts) (moment m v.state before.items) (moment m w.state late.items) → before.spare ≤ late.spare + n → Stepped n none (λ lists. acts) v w m m before late
beside_stepped {v} {w} {before} {late} n m acts beside is stands went gave room =
    let same : w.state.entities ≡ v.state.entities = ap (λ (x : Node). x.entities) went.node_is ∙ beside_entities v.state acts beside in
    let sound : IsSoundNode v.script w.state = subst (IsSoundNode v.script) (sym went.node_is) stands in
    record {
      script_is = went.script_is;
      gave = gave;
      stands = sound;
      hosted_are = λ s h. subst (λ (x : Entities). hosted x s ≡ None) same h;
      room = room;
      rooms = λ t k wide. same_room t k went.script_is is sound same (went.rooms_are ∙ beside_rooms (setting v.script) v.rooms acts beside) wide;
    }

-- Lead, the coordinator's part, the region's part.

pub lead_stepped : {v w : Standing} {before late : Spared Item} (old new : Meaning) → TickLaws → IsSoundNode v.script v.state → w.script ≡ v.script
    → Gave v.script (asks_lead v.state) (λ lists. lead lists v.state) (moment old v.state before.items) (moment new w.state late.items) → before.spare ≤ late.spare + 2065 → w.rooms ≡ v.rooms
    → Stepped 2065 (asks_lead v.state) (λ lists. lead lists v.state) v w old new before late
lead_stepped {v} {w} {before} {late} old new laws is script g room rooms =
    let told_is : lead g.found.lists v.state ≡ g.told = g.found.same g.found.lists (alike_itself v.script (asks_lead v.state) v.state g.found.lists) in
    let same : w.state.entities ≡ v.state.entities = ap (λ (x : Node). x.entities) g.node_is ∙ beside_entities v.state g.told (subst (λ acts. list_all is_beside acts ≡ true) told_is (lead_beside g.found.lists v.state)) in
    let sound : IsSoundNode v.script w.state = gave_sound v.script (asks_lead v.state) (λ lists. lead lists v.state) (moment old v.state before.items) (moment new w.state late.items) is
    (λ lists lawful. (lead_node v.script vouches_all lists v.state laws.begins is lawful.coordinator).stands) g in
    record {
      script_is = script;
      gave = g;
      stands = sound;
      hosted_are = λ s h. subst (λ (x : Entities). hosted x s ≡ None) same h;
      room = room;
      rooms = λ t k wide. same_room t k script is sound same rooms wide;
    }

office_stepped : {v w : Standing} {before late : Spared Item} (m : Meaning) → IsSoundNode v.script v.state → Rests m v.script v.state → Went v w before late (of_coordinator tick_coordinator v.state) → before.spare ≤ late.spare + 2304
    → Stepped 2304 none (λ lists. of_coordinator tick_coordinator v.state) v w m m before late
office_stepped {v} {w} {before} {late} m is rests went room =
    beside_stepped 2304 m (of_coordinator tick_coordinator v.state) (office_rule_beside tick_coordinator v.state) is (tick_node v.script vouches_all v.state is).stands went
    (office_gave m v w tick_coordinator before late is.entities.set_is (by v.state.coordinator) rests went) room
  where
    by : (o : Option Coordinator) → IfSome o (λ k. list_all (is_still_move m v.script (asks slot.Coordinator)) (tick_coordinator k) ≡ true)
    by None = tt
    by (Some k) = office_tick_still v.script m k

region_stepped : {v w : Standing} {before late : Spared Item} (m : Meaning) → TickLaws → IsScript v.script → IsSoundNode v.script v.state → Rests m v.script v.state → Went v w before late (of_region tick_region v.state) → before.spare ≤ late.spare + 130
    → Stepped 130 none (λ lists. of_region tick_region v.state) v w m m before late
region_stepped {v} {w} {before} {late} m laws script is rests went room =
    beside_stepped 130 m (of_region tick_region v.state) (region_beside (tick_region v.state.region)) is (tick_region_node v.script vouches_all v.state laws.region script is).stands went
    (region_gave m v w (tick_region v.state.region) before late is.entities.set_is ((region_is_free v.state.region).ticked) rests went) room

-- all three, in turn
pub members_stepped : {v w x y : Standing} {before one two late : Spared Item} (old new : Meaning) → TickLaws → IsScript v.script → IsSoundNode v.script v.state
    → Stepped 2065 (asks_lead v.state) (λ lists. lead lists v.state) v w old new before one → Went w x one two (of_coordinator tick_coordinator w.state) → one.spare ≤ two.spare + 2304
    → Went x y two late (of_region tick_region x.state) → two.spare ≤ late.spare + 130 → Stepped 4499 (asks_lead v.state) (λ lists. tick_members lists v.state) v y old new before late
members_stepped {v} {w} {x} {y} {before} {one} {two} {late} old new laws script is first second second_room third third_room =
    stepped_then 2065 2434 (asks_lead v.state) (λ lists. lead lists v.state) (λ lists. in_turn after (of_coordinator tick_coordinator) (of_region tick_region)) first
    (stepped_then 2304 130 none (λ lists. of_coordinator tick_coordinator w.state) (λ lists. of_region tick_region) mid
    (region_stepped new laws (subst IsScript (sym x_is) script) (subst (λ (c : Script). IsSoundNode c x.state) (sym mid.script_is) mid.stands) (subst (λ (c : Script). Rests new c x.state) (sym mid.script_is) mid.gave.rests) third third_room))
  where
    sound : IsSoundNode w.script w.state
    sound = subst (λ (c : Script). IsSoundNode c w.state) (sym first.script_is) first.stands

    mid : Stepped 2304 none (λ lists. of_coordinator tick_coordinator w.state) w x new new one two
    mid = office_stepped new sound (subst (λ (c : Script). Rests new c w.state) (sym first.script_is) first.gave.rests) second second_room

    x_is : x.script ≡ v.script
    x_is = mid.script_is ∙ first.script_is

-- The entities' part.

reminds_deliver : (set : Setting) (k : ℕ) (st : Entities) → list_all (is_delivering set k) (tick_entities st) ≡ true
reminds_deliver set k st = all_each (is_delivering set k) (λ s. flat_map (λ e. remind_by e st (cell st e).phase) (entities_of st s)) (shards st.set)
    (λ s. all_each (is_delivering set k) (λ e. remind_by e st (cell st e).phase) (entities_of st s) (λ e. by e (cell st e).phase))
  where
    by : (e : List ℕ) (p : Phase) → list_all (is_delivering set k) (remind_by e st p) ≡ true
    by e phase.Absent = refl
    by e phase.Loading = refl
    by e phase.Active = refl
    by e phase.Stopping = refl

-- it leaves the entities as they are
moved_each : {X : Type 0} (v : Lodged) (f : X → List Move) → ((x : X) → moved v (f x) ≡ v) → (xs : List X) → moved v (flat_map f xs) ≡ v
moved_each v f h [] = refl
moved_each v f h (x ∷ xs) = fold-append lodged_after v (f x) (flat_map f xs) ∙ (ap (λ w. moved w (flat_map f xs)) (h x) ∙ moved_each v f h xs)

stopping_stays : (who : Incarnation) (e : List ℕ) (c : Cell) → c.phase ≡ phase.Stopping → cell_after c (post who who (body.StopEntity e)) ≡ c
stopping_stays who e c is = by c.phase is
  where
    by : (p : Phase) → p ≡ phase.Stopping → cell_after (record c { phase = p }) (post who who (body.StopEntity e)) ≡ record c { phase = p }
    by phase.Absent h = refl
    by phase.Loading h = absurd (true≢false (sym (ap (is_phase phase.Stopping) h)))
    by phase.Active h = absurd (true≢false (sym (ap (is_phase phase.Stopping) h)))
    by phase.Stopping h = refl

reminded : (v : Lodged) (e : List ℕ) (p : Phase) → (cell v.state e).phase ≡ p → moved v (remind_by e v.state p) ≡ v
reminded v e phase.Absent is = refl
reminded v e phase.Loading is = refl
reminded v e phase.Active is = refl
reminded v e phase.Stopping is =
    ap (λ cells. record { script = v.script; state = record v.state { cells = cells }; rooms = v.rooms })
    (ap (slice_set v.state.cells (place v.state.set e)) (stopping_stays v.state.who e (cell v.state e) is) ∙ set-get_or v.state.cells (place v.state.set e) (new_cell v.state.set))

reminds_stay : (v : Lodged) → moved v (tick_entities v.state) ≡ v
reminds_stay v = moved_each v (λ s. flat_map (λ e. remind_by e v.state (cell v.state e).phase) (entities_of v.state s))
    (λ s. moved_each v (λ e. remind_by e v.state (cell v.state e).phase) (λ e. reminded v e (cell v.state e).phase refl) (entities_of v.state s)) (shards v.state.set)

pub reminds_went : (c : Script) (r : Region) (e : Lodged) (ps : Producing) (k : Option Held) (before late : Spared Item) → e.state.set ≡ setting c → late ≡ given before (tick_entities e.state)
    → Went (standing_of c r e ps k) (standing_of c r e ps k) before late (of_entities tick_entities (node_of c r e ps k))
reminds_went c r e ps k before late set_is told = entities_went c r e e ps k (tick_entities e.state) before late set_is (sym (reminds_stay e)) told

entities_now : {v w : Standing} {before late : Spared Item} → Went v w before late (of_entities tick_entities v.state) → w.state ≡ record v.state { entities = fold entities_after v.state.entities (tick_entities v.state.entities) }
entities_now {v} went = went.node_is ∙ entities_alone v.state (tick_entities v.state.entities)

pub reminded_room : {v w : Standing} {before late : Spared Item} (t k : ℕ) → Went v w before late (of_entities tick_entities v.state) → HasReleaseRoom k v t → HasReleaseRoom k w t
reminded_room {v} {w} t k went room =
    let ms : List Move = tick_entities v.state.entities in
    let goes : w.state ≡ record v.state { entities = fold entities_after v.state.entities ms } = entities_now went in
    room_stays k (record {
      script_is = went.script_is;
      set_is = ap (λ (x : Node). x.set) goes;
      ending_is = ap (λ (x : Node). ending_in (hosted x.entities t)) goes ∙ all_ending v.state.set 0 v.state.entities ms t (reminds_deliver v.state.set 0 v.state.entities);
      active = λ e h. active_before v.state.set 0 v.state.entities ms e (reminds_deliver v.state.set 0 v.state.entities) (subst (λ (x : Node). is_in_phase phase.Active x.entities e ≡ true) goes h);
    })
    (ap (λ rs. slice_index_or rs t 0) went.rooms_are ∙ rooms_beside (setting v.script) (suc t) t v.rooms ms (λ same. omega (arith, same)) (reminds_deliver (setting v.script) (suc t) v.state.entities)) room

entities_stepped : {v w : Standing} {before late : Spared Item} (m : Meaning) → TickLaws → IsSoundNode v.script v.state → Rests m v.script v.state → Went v w before late (of_entities tick_entities v.state) → before.spare ≤ late.spare + 1000
    → ((t k : ℕ) → HasReleaseRoom k v t → HasReleaseRoom k w t) → Stepped 1000 none (λ lists. of_entities tick_entities v.state) v w m m before late
entities_stepped {v} {w} {before} {late} m laws is rests went room rooms =
    let ms : List Move = tick_entities v.state.entities in
    record {
      script_is = went.script_is;
      gave = entities_gave m v w ms before late is.entities.set_is (tick_still v.script m (is_held_of v.script v.state is_of_shards) v.state.entities) rests went;
      stands = subst (IsSoundNode v.script) (sym went.node_is) (tick_entities_node v.script vouches_all v.state (rules laws v.script v.state is) is).stands;
      hosted_are = λ s h. ending_none (hosted v.state.entities s) (hosted w.state.entities s)
          (sym (ap (λ (x : Node). ending_in (hosted x.entities s)) (entities_now went) ∙ all_ending v.state.set 0 v.state.entities ms s (reminds_deliver v.state.set 0 v.state.entities))) h;
      room = room;
      rooms = rooms;
    }
  where
    rules : TickLaws → (c : Script) (st : Node) → IsSoundNode c st → EntityRules c st.entities
    rules laws c st is = laws.entities c st.entities is.entities

-- Start again frees no shard.

abbrev frees_no : ℕ → Act → Bool
frees_no t a = not (frees (slot.Shard t) a)

delivering_frees : (set : Setting) (k t : ℕ) (m : Move) → is_delivering set k m ≡ true → frees_no t (by_entities m) ≡ true
delivering_frees set k t (made (item.Fact (fact.Freed (slot.Shard s) n why))) h = absurd (true≢false (sym h))
delivering_frees set k t (made (item.Fact (fact.Freed slot.Coordinator n why))) h = refl
delivering_frees set k t (made (item.Fact (fact.Freed (slot.Queue p) n why))) h = refl
delivering_frees set k t m h = refl

deliveries_free : (set : Setting) (k t : ℕ) (ms : List Move) → list_all (is_delivering set k) ms ≡ true → list_all (frees_no t) (map by_entities ms) ≡ true
deliveries_free set k t [] h = refl
deliveries_free set k t (m ∷ ms) h =
    let n : (is_delivering set k m ≡ true) × (list_all (is_delivering set k) ms ≡ true) = and_both (is_delivering set k m) (list_all (is_delivering set k) ms) h in
    both (frees_no t (by_entities m)) (list_all (frees_no t) (map by_entities ms)) (delivering_frees set k t m n.0) (deliveries_free set k t ms n.1)

route_frees : (t : ℕ) (m : Message) (st : Node) → list_all (frees_no t) (route m st) ≡ true
route_frees t m st =
    let s : ℕ = shard_of st.set m.entity in
    all_if (frees_no t) (is_home st.region s && is_running st s) (of_entities (entities.deliver m) st) (of_region (route_away m) st)
    (deliveries_free st.set s t (entities.deliver m st.entities) (phase_delivers st.set s m st.entities (cell st.entities m.entity).phase (number_itself s s refl)))
    (frees_nothing (slot.Shard t) (route_away m st.region))

released_frees : (t s : ℕ) (ms : List Message) (st : Node) → list_all (frees_no t) (for_each after (λ m. in_turn after (λ st. by_region (released s) ∷ []) (route m)) ms st) ≡ true
released_frees t s [] st = refl
released_frees t s (m ∷ ms) st =
    let mid : Node = after st (by_region (released s)) in
    all_join (frees_no t) (by_region (released s) ∷ route m mid) (for_each after (λ m. in_turn after (λ st. by_region (released s) ∷ []) (route m)) ms (fold after st (by_region (released s) ∷ route m mid)))
    (route_frees t m mid) (released_frees t s ms (fold after st (by_region (released s) ∷ route m mid)))

release_frees : (t s : ℕ) (st : Node) → list_all (frees_no t) (release s st) ≡ true
release_frees t s st = all_if (frees_no t) (is_routable st.region s (is_running st s)) (for_each after (λ m. in_turn after (λ st. by_region (released s) ∷ []) (route m)) (kept_of st.region.kept s) st) []
    (released_frees t s (kept_of st.region.kept s) st) refl

acquire_frees : (t s : ℕ) (who : Incarnation) (list : List Fact) (o : Option Incarnation) → list_all (frees_no t) (map by_entities (acquire_by (slot.Shard s) who list o)) ≡ true
acquire_frees t s who list None = refl
acquire_frees t s who list (Some x) = refl

start_frees : (t s : ℕ) (lists : SlotLists) (st : Node) → list_all (frees_no t) (start lists s st) ≡ true
start_frees t s lists st =
    let asked : List Act = map by_entities (acquire (slot.Shard s) st.who (shard_list lists s)) in
    let mid : Node = fold after st asked in
    all_if (frees_no t) (is_hosted st.entities s) [] (in_turn after (λ st. map by_entities (acquire (slot.Shard s) st.who (shard_list lists s))) (of_entities (start_remembered s)) st) refl
    (all_join (frees_no t) asked (map by_entities (start_remembered s mid.entities)) (acquire_frees t s st.who (shard_list lists s) (holder (shard_list lists s)))
    (deliveries_free st.set 0 t (start_remembered s mid.entities) (start_delivers st.set 0 s mid.entities)))

again_frees : (t s : ℕ) (lists : SlotLists) (st : Node) → list_all (frees_no t) (start_again lists s st) ≡ true
again_frees t s lists st =
    let mid : Node = fold after st (start lists s st) in
    all_if (frees_no t) (is_home st.region s && not (is_hosted st.entities s)) (all_in_turn (start lists s ∷ release s ∷ []) st) []
    (all_join (frees_no t) (start lists s st) (release s mid ++ []) (start_frees t s lists st) (all_join (frees_no t) (release s mid) [] (release_frees t s mid) refl)) refl

-- The shards, one after another.

starts_more : (n : ℕ) (lists : SlotLists) (st : Node) → starts_again (n + 1) lists st ≡ starts_again n lists st ++ start_again lists n (fold after st (starts_again n lists st))
starts_more n lists st =
    let e : n + 1 ≡ suc n = omega arith in
    let d : 0 + n ≡ n = omega arith in
    ap (λ k. starts_again k lists st) e
    ∙ (ap (λ ns. for_each after (start_again lists) ns st) (numbers_more 0 n ∙ ap (λ k. numbers 0 n ++ k ∷ []) d)
    ∙ each_more after (start_again lists) (numbers 0 n) n st)

again_shards : (n : ℕ) (st : Node) → AsksShards (asks_again n st)
again_shards n st (slot.Shard s) h = refl
again_shards n st slot.Coordinator h = absurd (true≢false (sym (and_both (is_home st.region n && not (is_hosted st.entities n)) false h).1))
again_shards n st (slot.Queue p) h = absurd (true≢false (sym (and_both (is_home st.region n && not (is_hosted st.entities n)) false h).1))

again_apart : (n : ℕ) (st : Node) (s : Slot) → is_shard_under n s ≡ true → asks_again n st s ≡ false
again_apart n st slot.Coordinator h = absurd (true≢false (sym h))
again_apart n st (slot.Queue p) h = absurd (true≢false (sym h))
again_apart n st (slot.Shard s) h = by (n == s) refl
  where
    ends : (b : Bool) → (b && false) ≡ false
    ends true = refl
    ends false = refl

    by : (b : Bool) → (n == s) ≡ b → (is_home st.region n && not (is_hosted st.entities n) && (n == s)) ≡ false
    by true e = let less : s < n = below s n h in absurd (let same : n ≡ s = same_number n s e in omega (arith, less, same))
    by false e = ap (λ b. is_home st.region n && not (is_hosted st.entities n) && b) e ∙ ends (is_home st.region n && not (is_hosted st.entities n))

again_under : (n : ℕ) (st : Node) (s : Slot) → asks_again n st s ≡ true → is_shard_under (n + 1) s ≡ true
again_under n st slot.Coordinator h = absurd (true≢false (sym (and_both (is_home st.region n && not (is_hosted st.entities n)) false h).1))
again_under n st (slot.Queue p) h = absurd (true≢false (sym (and_both (is_home st.region n && not (is_hosted st.entities n)) false h).1))
again_under n st (slot.Shard s) h = let same : n ≡ s = same_number n s (and_both (is_home st.region n && not (is_hosted st.entities n)) (n == s) h).1 in let less : s < n + 1 = omega (arith, same) in is_below s (n + 1) less

under_more : (n : ℕ) (s : Slot) → is_shard_under n s ≡ true → is_shard_under (n + 1) s ≡ true
under_more n slot.Coordinator h = absurd (true≢false (sym h))
under_more n (slot.Queue p) h = absurd (true≢false (sym h))
under_more n (slot.Shard s) h = let less : s < n = below s n h in let more : s < n + 1 = omega (arith, less) in is_below s (n + 1) more

pub started_first : {v : Standing} {m : Meaning} (before : Spared Item) → IsSoundNode v.script v.state → Rests m v.script v.state → StartedAgain 0 v v m m before before
started_first {v} {m} before is rests = record {
  asked = none;
  asks_under = λ s h. absurd (true≢false (sym h));
  script_is = refl;
  gave = gave_nothing v.script (moment m v.state before.items) rests;
  stands = is;
  hosted_are = λ s h. h;
  room = omega arith;
  rooms = λ t k room. room;
}

pub started_next : {v w x : Standing} {m0 m1 m2 : Meaning} {before late last : Spared Item} (n : ℕ) → TickLaws → IsScript v.script → is_shard v.script n ≡ true → n < v.script.config.shards → StartedAgain n v w m0 m1 before late
    → x.script ≡ w.script → Gave w.script (asks_again n w.state) (λ lists. start_again lists n w.state) (moment m1 w.state late.items) (moment m2 x.state last.items) → AgainLeaves n w x late last
    → StartedAgain (n + 1) v x m0 m2 before last
started_next {v} {w} {x} {m0} {m1} {m2} {before} {late} {last} n laws script shard within r script_is g leaves = record {
  asked = either r.asked two;
  asks_under = λ s h. under s (r.asked s) refl h;
  script_is = script_is ∙ r.script_is;
  gave = gave_same v.script (either r.asked two) (λ lists. starts_again n lists v.state ++ start_again lists n (fold after v.state (starts_again n lists v.state))) (λ lists. starts_again (n + 1) lists v.state) old new (λ lists. sym (starts_more n lists v.state))
      (gave_both v.script r.asked two (λ lists. starts_again n lists v.state) (λ lists. start_again lists n) old mid new (λ s h. again_apart n w.state s (r.asks_under s h))
      (keeps_shards v.script two old mid (again_shards n w.state) r.hosted_are) r.gave here);
  stands = stands;
  hosted_are = λ s h. r.hosted_are s (none_mapped (λ y. y.entries) (hosted w.state.entities s)
      (acts_keep w.state here.told (slot.Shard s) (ap (list_all (frees_no s)) (sym told_is) ∙ again_frees s n here.found.lists w.state)
      (ap (held_list (slot.Shard s)) (sym here.node_is) ∙ ap (option_map (λ y. y.entries)) h)));
  room =
      let spent = r.room in
      let more = leaves.room in
      let next : length (names_of w.state.set n) + length (flat_map (λ s. names_of w.state.set s) (numbers (n + 1) (w.state.set.config.shards - (n + 1)))) ≡ length (flat_map (λ s. names_of w.state.set s) (numbers n (w.state.set.config.shards - n))) = names_next w.state.set n w.state.set.config.shards inside in
      let same : length (flat_map (λ s. names_of x.state.set s) (numbers (n + 1) (x.state.set.config.shards - (n + 1)))) ≡ length (flat_map (λ s. names_of w.state.set s) (numbers (n + 1) (w.state.set.config.shards - (n + 1)))) = ap (λ (z : Setting). length (flat_map (λ s. names_of z s) (numbers (n + 1) (z.config.shards - (n + 1))))) set_is in
      let count : x.state.set.config.shards ≡ w.state.set.config.shards = ap (λ (z : Setting). z.config.shards) set_is in
      omega (arith, spent, more, next, same, count, inside);
  rooms = λ t k room. leaves.rooms t k (r.rooms t k room);
}
  where
    two : Slot → Bool
    two = asks_again n w.state

    old : Moment
    old = moment m0 v.state before.items

    mid : Moment
    mid = moment m1 w.state late.items

    new : Moment
    new = moment m2 x.state last.items

    here : Gave v.script (asks_again n w.state) (λ lists. start_again lists n w.state) (moment m1 w.state late.items) (moment m2 x.state last.items)
    here = subst (λ (c : Script). Gave c (asks_again n w.state) (λ lists. start_again lists n w.state) (moment m1 w.state late.items) (moment m2 x.state last.items)) r.script_is g

    told_is : start_again here.found.lists n w.state ≡ here.told
    told_is = here.found.same here.found.lists (alike_itself v.script (asks_again n w.state) w.state here.found.lists)

    stands : IsSoundNode v.script x.state
    stands = gave_sound v.script (asks_again n w.state) (λ lists. start_again lists n w.state) (moment m1 w.state late.items) (moment m2 x.state last.items) r.stands
        (λ lists lawful. (again_node v.script vouches_all lists n w.state (laws_of laws) script r.stands lawful shard).stands) here

    set_is : x.state.set ≡ w.state.set
    set_is = stands.set_is ∙ sym r.stands.set_is

    inside : n < w.state.set.config.shards
    inside = subst (λ (z : Setting). n < z.config.shards) (sym r.stands.set_is) within

    under : (s : Slot) (b : Bool) → r.asked s ≡ b → (r.asked s || asks_again n w.state s) ≡ true → is_shard_under (n + 1) s ≡ true
    under s true e h = under_more n s (r.asks_under s e)
    under s false e h = again_under n w.state s (ap (λ b. b || asks_again n w.state s) (sym e) ∙ h)

-- there is room for the next one
pub started_room : {v w : Standing} {m0 m1 : Meaning} {before late : Spared Item} (n : ℕ) → n < v.script.config.shards → StartedAgain n v w m0 m1 before late → start_room 0 v.state ≤ before.spare → 1 + 2 * length (names_of w.state.set n) + 4 * kept_all w ≤ late.spare
started_room {v} {w} n within r room =
    let inside : n < w.state.set.config.shards = subst (λ (z : Setting). n < z.config.shards) (sym r.stands.set_is) within in
    let spent = r.room in
    let next : length (names_of w.state.set n) + length (flat_map (λ s. names_of w.state.set s) (numbers (n + 1) (w.state.set.config.shards - (n + 1)))) ≡ length (flat_map (λ s. names_of w.state.set s) (numbers n (w.state.set.config.shards - n))) = names_next w.state.set n w.state.set.config.shards inside in
    omega (arith, spent, room, next, inside)

-- how many items all of them give at most
pub start_few : (v : Standing) → IsScript v.script → IsSoundNode v.script v.state → kept_all v ≤ v.script.config.buffer → start_room 0 v.state ≤ 2128 + 4 * v.script.config.buffer
start_few v script is kept =
    let count = few_shards_in v.script v.state.set script is.set_is in
    let few = few_names_in v.script v.state.set script is.set_is in
    let left = names_left v.state.set 0 (v.state.set.config.shards - 0) in
    omega (arith, count, few, left, kept)

-- Start again of each shard, and then the entities' part.

under_shards : (n : ℕ) (s : Slot) → is_shard_under n s ≡ true → is_of_shards s ≡ true
under_shards n (slot.Shard s) h = refl
under_shards n slot.Coordinator h = absurd (true≢false (sym h))
under_shards n (slot.Queue p) h = absurd (true≢false (sym h))

pub shards_stepped : {v w x : Standing} {m0 m1 : Meaning} {before late last : Spared Item} (n : ℕ) → n ≡ v.script.config.shards → TickLaws → StartedAgain n v w m0 m1 before late → Went w x late last (of_entities tick_entities w.state) → late.spare ≤ last.spare + 1000
    → ((t k : ℕ) → HasReleaseRoom k w t → HasReleaseRoom k x t) → (asked : (Slot → Bool)) × (AsksShards asked × Stepped (start_room 0 v.state + 1000) asked (λ lists. tick_shards v.script lists v.state) v x m0 m1 before last)
shards_stepped {v} {w} {x} {m0} {m1} {before} {late} {last} n all laws r went room rooms = (
  r.asked,
  (
    (λ s h. under_shards n s (r.asks_under s h)),
    stepped_then (start_room 0 v.state) 1000 r.asked (λ lists. starts_again v.script.config.shards lists v.state) (λ lists. of_entities tick_entities) started
        (entities_stepped m1 laws (subst (λ (c : Script). IsSoundNode c w.state) (sym r.script_is) r.stands) (subst (λ (c : Script). Rests m1 c w.state) (sym r.script_is) r.gave.rests) went room rooms),
  ),
)
  where
    started : Stepped (start_room 0 v.state) r.asked (λ lists. starts_again v.script.config.shards lists v.state) v w m0 m1 before late
    started = record {
      script_is = r.script_is;
      gave = subst (λ k. Gave v.script r.asked (λ lists. starts_again k lists v.state) (moment m0 v.state before.items) (moment m1 w.state late.items)) all r.gave;
      stands = r.stands;
      hosted_are = r.hosted_are;
      room = let spent = r.room in omega (arith, spent);
      rooms = r.rooms;
    }
