-- What the steps of one actor make of the node; and what a step that asks for nothing gives.
use Rattle.std.proofs.Common.{◌≡◌, ℕ, ◌+◌, ◌-◌, List, [], ◌∷◌, ◌++◌, length, map, sym, ap, subst, ◌∙◌, refl, append-nil, append_assoc, true, false, arith}
use Rattle.std.specs.Prelude.{Bool, fold, Option, Some, None, if◌then◌else◌}
use Rattle.std.specs.Option.{option_map}
use Rattle.std.specs.List.{list_all, flat_map}
use Rattle.std.proofs.lemmas.List.{length-append}
use Rattle.yard_model.specs.declared.incarnation.Incarnation.{Incarnation}
use Rattle.yard_model.specs.declared.input.Phase.TheVariants as phase
use Rattle.yard_model.specs.declared.out.Item.{Item}
use Rattle.yard_model.specs.declared.packet.Body.TheVariants as body
use Rattle.yard_model.specs.Coordinator.{Coordinator, coordinator_after}
use Rattle.yard_model.specs.Entities.{Entities, entities_after, is_in_phase, ask_to_passivate}
use Rattle.yard_model.specs.Move.{Move, made, post, item_of}
use Rattle.yard_model.specs.Node.{Node, Act, by_region, by_entities, by_producer, by_coordinator, of_coordinator, after, items_of}
use Rattle.yard_model.specs.Producer.{Producer}
use Rattle.yard_model.specs.Region.{Region, region_after}
use Rattle.yard_model.specs.Script.{Script, Setting, setting}
use Rattle.yard_model.specs.Spared.{Spared}
use Rattle.yard_model.specs.Turns.{where_some}
use Rattle.yard_laws.proofs.PartsLaws.{region_alone, region_items, entities_alone, entities_items, coordinator_items}
use Rattle.coordinator_actor.specs.Held.{Held}
use Rattle.shard_entities.specs.Lodged.{Lodged, lodged_after, moved, given, given_step}
use Rattle.shard_lease.specs.Meaning.{Meaning}
use Rattle.producer_ctl.specs.Producing.{Producing}
use Rattle.node_core.specs.Found.{none}
use Rattle.node_core.specs.Gave.{Gave, moment}
use Rattle.node_core.specs.Leased.{Rests}
use Rattle.node_core.specs.Standing.{Standing, standing_of, node_of}
use Rattle.node_core.specs.Still.{is_still}
use Rattle.node_core.specs.Went.{Went, CoordinatorWent, rooms_after, queues_after, entries_of_office}
use Rattle.node_core.proofs.StillLaws.{still_gave}

-- The region.

region_who : (r : Region) (ms : List Move) → (fold region_after r ms).who ≡ r.who
region_who r [] = refl
region_who r (m ∷ ms) = region_who (region_after r m) ms

pub region_rooms : (set : Setting) (rooms : List ℕ) (ms : List Move) → rooms ≡ fold (rooms_after set) rooms (map by_region ms)
region_rooms set rooms [] = refl
region_rooms set rooms (m ∷ ms) = region_rooms set rooms ms

region_queues : (queues : List ℕ) (ms : List Move) → queues ≡ fold queues_after queues (map by_region ms)
region_queues queues [] = refl
region_queues queues (m ∷ ms) = region_queues queues ms

less_of : (a b n : ℕ) → a + n ≡ b → a ≡ b - n
less_of a b n h = omega (arith, h)

node_same : (c : Script) (r s : Region) (e : Lodged) (p : Producing) (k : Option Held) → s.who ≡ r.who → node_of c s e p k ≡ record (node_of c r e p k) { region = s }
node_same c r s e p k w = ap (λ (x : Incarnation). record (node_of c (record r { who = x }) e p k) { region = s }) w

pub region_went : (c : Script) (r now : Region) (e : Lodged) (p : Producing) (k : Option Held) (ms : List Move) (before late : Spared Item)
    → now ≡ fold region_after r ms → late.items ≡ before.items ++ flat_map item_of ms → late.spare + length (flat_map item_of ms) ≡ before.spare
    → Went (standing_of c r e p k) (standing_of c now e p k) before late (map by_region ms)
region_went c r now e p k ms before late goes items spare = record {
  script_is = refl;
  node_is = ap (λ (s : Region). node_of c s e p k) goes ∙ (node_same c r (fold region_after r ms) e p k (region_who r ms) ∙ sym (region_alone (node_of c r e p k) ms));
  items_are = items ∙ ap (λ is. before.items ++ is) (sym (region_items ms));
  spare_is = less_of late.spare before.spare (length (flat_map item_of ms)) spare ∙ ap (λ is. before.spare - length is) (sym (region_items ms));
  rooms_are = region_rooms (setting c) e.rooms ms;
  queues_are = region_queues p.rooms ms;
  office_is = refl;
}

-- The entities.

pub moved_state : (v : Lodged) (ms : List Move) → (moved v ms).state ≡ fold entities_after v.state ms
moved_state v [] = refl
moved_state v (m ∷ ms) = moved_state (lodged_after v m) ms

moved_script : (v : Lodged) (ms : List Move) → (moved v ms).script ≡ v.script
moved_script v [] = refl
moved_script v (m ∷ ms) = moved_script (lodged_after v m) ms

moved_rooms : (v : Lodged) (ms : List Move) → (moved v ms).rooms ≡ fold (rooms_after v.state.set) v.rooms (map by_entities ms)
moved_rooms v [] = refl
moved_rooms v (m ∷ ms) = moved_rooms (lodged_after v m) ms

entities_queues : (queues : List ℕ) (ms : List Move) → queues ≡ fold queues_after queues (map by_entities ms)
entities_queues queues [] = refl
entities_queues queues (m ∷ ms) = entities_queues queues ms

pub moved_who : (v : Lodged) (ms : List Move) → (moved v ms).state.who ≡ v.state.who
moved_who v [] = refl
moved_who v (m ∷ ms) = moved_who (lodged_after v m) ms

pub moved_set : (v : Lodged) (ms : List Move) → (moved v ms).state.set ≡ v.state.set
moved_set v [] = refl
moved_set v (m ∷ ms) = moved_set (lodged_after v m) ms

pub moved_version : (v : Lodged) (ms : List Move) → (moved v ms).state.version ≡ v.state.version
moved_version v [] = refl
moved_version v (m ∷ ms) = moved_version (lodged_after v m) ms

pub moved_of : (v : Lodged) (ms : List Move) → (moved v ms).script ≡ v.script
moved_of v ms = moved_script v ms

one_given : (old : Spared Item) (m : Move) → (given_step old m).items ≡ old.items ++ item_of m
one_given old (made i) = refl
one_given old m = sym (append-nil old.items)

given_items : (old : Spared Item) (ms : List Move) → (given old ms).items ≡ old.items ++ flat_map item_of ms
given_items old [] = sym (append-nil old.items)
given_items old (m ∷ ms) = given_items (given_step old m) ms ∙ (ap (λ is. is ++ flat_map item_of ms) (one_given old m) ∙ append_assoc old.items (item_of m) (flat_map item_of ms))

one_less : (old : Spared Item) (m : Move) → (given_step old m).spare ≡ old.spare - length (item_of m)
one_less old (made i) = refl
one_less old m = omega arith

pub given_spare : (old : Spared Item) (ms : List Move) → (given old ms).spare ≡ old.spare - length (flat_map item_of ms)
given_spare old [] = omega arith
given_spare old (m ∷ ms) =
    let first : (given_step old m).spare ≡ old.spare - length (item_of m) = one_less old m in
    let rest : (given (given_step old m) ms).spare ≡ (given_step old m).spare - length (flat_map item_of ms) = given_spare (given_step old m) ms in
    let all : length (item_of m ++ flat_map item_of ms) ≡ length (item_of m) + length (flat_map item_of ms) = length-append (item_of m) (flat_map item_of ms) in
    omega (arith, first, rest, all)

pub entities_went : (c : Script) (r : Region) (e now : Lodged) (p : Producing) (k : Option Held) (ms : List Move) (before late : Spared Item)
    → e.state.set ≡ setting c → now ≡ moved e ms → late ≡ given before ms → Went (standing_of c r e p k) (standing_of c r now p k) before late (map by_entities ms)
entities_went c r e now p k ms before late set_is goes told = record {
  script_is = refl;
  node_is = ap (λ (x : Entities). record (node_of c r e p k) { entities = x }) (ap (λ (v : Lodged). v.state) goes ∙ moved_state e ms) ∙ sym (entities_alone (node_of c r e p k) ms);
  items_are = ap (λ (x : Spared Item). x.items) told ∙ (given_items before ms ∙ ap (λ is. before.items ++ is) (sym (entities_items ms)));
  spare_is = ap (λ (x : Spared Item). x.spare) told ∙ (given_spare before ms ∙ ap (λ is. before.spare - length is) (sym (entities_items ms)));
  rooms_are = ap (λ (v : Lodged). v.rooms) goes ∙ (moved_rooms e ms ∙ ap (λ set. fold (rooms_after set) e.rooms (map by_entities ms)) set_is);
  queues_are = entities_queues p.rooms ms;
  office_is = refl;
}

-- what is asked of an entity changes none
asks_stay : (v : Lodged) (e : List ℕ) → v ≡ moved v (ask_to_passivate e v.state)
asks_stay v e = by (is_in_phase phase.Active v.state e)
  where
    by : (b : Bool) → v ≡ moved v (if b then post v.state.who v.state.who (body.Passivate e) ∷ [] else [])
    by true = refl
    by false = refl

pub asks_went : (c : Script) (r : Region) (e : Lodged) (p : Producing) (k : Option Held) (name : List ℕ) (before late : Spared Item)
    → e.state.set ≡ setting c → late ≡ given before (ask_to_passivate name e.state) → Went (standing_of c r e p k) (standing_of c r e p k) before late (map by_entities (ask_to_passivate name e.state))
asks_went c r e p k name before late set_is told = entities_went c r e e p k (ask_to_passivate name e.state) before late set_is (asks_stay e name) told

-- The coordinator.

office_rooms : (set : Setting) (rooms : List ℕ) (ms : List Move) → rooms ≡ fold (rooms_after set) rooms (map by_coordinator ms)
office_rooms set rooms [] = refl
office_rooms set rooms (m ∷ ms) = office_rooms set rooms ms

office_queues : (queues : List ℕ) (ms : List Move) → queues ≡ fold queues_after queues (map by_coordinator ms)
office_queues queues [] = refl
office_queues queues (m ∷ ms) = office_queues queues ms

-- its moves, where there is one
ruled : (p : Coordinator → List Move) (o : Option Coordinator) → items_of (where_some (λ k. map by_coordinator (p k)) o) ≡ flat_map item_of (where_some p o)
ruled p None = refl
ruled p (Some k) = coordinator_items (p k)

ruled_rooms : (set : Setting) (rooms : List ℕ) (p : Coordinator → List Move) (o : Option Coordinator) → rooms ≡ fold (rooms_after set) rooms (where_some (λ k. map by_coordinator (p k)) o)
ruled_rooms set rooms p None = refl
ruled_rooms set rooms p (Some k) = office_rooms set rooms (p k)

ruled_queues : (queues : List ℕ) (p : Coordinator → List Move) (o : Option Coordinator) → queues ≡ fold queues_after queues (where_some (λ k. map by_coordinator (p k)) o)
ruled_queues queues p None = refl
ruled_queues queues p (Some k) = office_queues queues (p k)

-- so the rooms stay
pub office_rooms_same : (v w : Standing) (before late : Spared Item) (p : Coordinator → List Move) → Went v w before late (of_coordinator p v.state) → w.rooms ≡ v.rooms
office_rooms_same v w before late p went = went.rooms_are ∙ sym (ruled_rooms (setting v.script) v.rooms p v.state.coordinator)

-- moves of the region leave the coordinator and its store
pub region_leaves : (v w : Standing) (before late : Spared Item) (ms : List Move) → Went v w before late (map by_region ms) → (w.state.coordinator ≡ v.state.coordinator) × (w.spare ≡ v.spare)
region_leaves v w before late ms went = (same, spare)
  where
    same : w.state.coordinator ≡ v.state.coordinator
    same = ap (λ (n : Node). n.coordinator) (went.node_is ∙ region_alone v.state ms)

    spare : w.spare ≡ v.spare
    spare =
        let all : w.spare + length (entries_of_office w.state.coordinator) ≡ v.spare + length (entries_of_office v.state.coordinator) = went.office_is in
        let entries : length (entries_of_office w.state.coordinator) ≡ length (entries_of_office v.state.coordinator) = ap (λ o. length (entries_of_office o)) same in
        omega (arith, all, entries)

-- none of its moves takes a store
abbrev pub TakesNone : (Coordinator → List Move) → Type 0
TakesNone p = (st : Node) (k : Coordinator) → fold after (record st { coordinator = Some k }) (map by_coordinator (p k)) ≡ record st { coordinator = Some (fold coordinator_after k (p k)) }

ruled_node : (st : Node) (p : Coordinator → List Move) (o : Option Coordinator) → TakesNone p → record st { coordinator = option_map (λ k. fold coordinator_after k (p k)) o } ≡ fold after (record st { coordinator = o }) (where_some (λ k. map by_coordinator (p k)) o)
ruled_node st p None takes = refl
ruled_node st p (Some k) takes = sym (takes st k)

mapped_twice : (p : Coordinator → List Move) (o : Option Held) → option_map (λ (k : Held). fold coordinator_after k.state (p k.state)) o ≡ option_map (λ k. fold coordinator_after k (p k)) (option_map (λ (k : Held). k.state) o)
mapped_twice p None = refl
mapped_twice p (Some k) = refl

pub coordinator_went : (c : Script) (r : Region) (e : Lodged) (ps : Producing) (p : Coordinator → List Move) (k now : Option Held) (before late : Spared Item)
    → TakesNone p → CoordinatorWent p k now before late → Went (standing_of c r e ps k) (standing_of c r e ps now) before late (of_coordinator p (node_of c r e ps k))
coordinator_went c r e ps p k now before late takes w = record {
  script_is = refl;
  node_is = ap (λ (o : Option Coordinator). record (node_of c r e ps None) { coordinator = o }) (w.state_is ∙ mapped_twice p k) ∙ ruled_node (node_of c r e ps None) p (option_map (λ k. k.state) k) takes;
  items_are = w.items_are ∙ ap (λ is. before.items ++ is) (sym (ruled p (option_map (λ k. k.state) k)));
  spare_is = w.spare_is ∙ ap (λ is. before.spare - length is) (sym (ruled p (option_map (λ k. k.state) k)));
  rooms_are = ruled_rooms (setting c) e.rooms p (option_map (λ k. k.state) k);
  queues_are = ruled_queues ps.rooms p (option_map (λ k. k.state) k);
  office_is = w.office_is;
}

pub coordinator_did : (p : Coordinator → List Move) (k now : Held) (before late : Spared Item) → now.state ≡ fold coordinator_after k.state (p k.state) → late.items ≡ before.items ++ flat_map item_of (p k.state)
    → late.spare + length (flat_map item_of (p k.state)) ≡ before.spare → length now.state.entries + now.spare ≡ length k.state.entries + k.spare → now.script ≡ k.script → now.state.who ≡ k.state.who → now.state.set ≡ k.state.set
    → CoordinatorWent p (Some k) (Some now) before late
coordinator_did p k now before late goes items spare entries script who set = record {
  state_is = ap (λ x. Some x) goes;
  items_are = items;
  spare_is = less_of late.spare before.spare (length (flat_map item_of (p k.state))) spare;
  office_is = omega (arith, entries);
  stays_of = λ c x of. record { script_is = script ∙ of.script_is; who_is = who ∙ of.who_is; set_is = set ∙ of.set_is };
}

pub coordinator_absent : (p : Coordinator → List Move) (o : Option Held) (before : Spared Item) → o ≡ None → CoordinatorWent p o o before before
coordinator_absent p o before e = subst (λ (x : Option Held). CoordinatorWent p x x before before) (sym e) (record {
  state_is = refl;
  items_are = sym (append-nil before.items);
  spare_is = omega arith;
  office_is = refl;
  stays_of = λ c x of. of;
})

-- An act that is an item and changes nothing else.

pub item_went : (v : Standing) (a : Act) (i : Item) (before late : Spared Item) → v.state ≡ after v.state a → items_of (a ∷ []) ≡ i ∷ [] → v.rooms ≡ rooms_after (setting v.script) v.rooms a → v.queues ≡ queues_after v.queues a
    → late.items ≡ before.items ++ i ∷ [] → late.spare + 1 ≡ before.spare → Went v v before late (a ∷ [])
item_went v a i before late same item rooms queues items spare = record {
  script_is = refl;
  node_is = same;
  items_are = items ∙ ap (λ is. before.items ++ is) (sym item);
  spare_is = less_of late.spare before.spare 1 spare ∙ ap (λ is. before.spare - length is) (sym item);
  rooms_are = rooms;
  queues_are = queues;
  office_is = refl;
}

-- One after another.

pub went_nothing : (v : Standing) (before : Spared Item) → Went v v before before []
went_nothing v before = record {
  script_is = refl;
  node_is = refl;
  items_are = sym (append-nil before.items);
  spare_is = omega arith;
  rooms_are = refl;
  queues_are = refl;
  office_is = refl;
}

-- What such a step gives, where by its acts no slot changes hands.

pub went_gave : (m : Meaning) (v w : Standing) (acts : List Act) (before late : Spared Item) → v.state.entities.set ≡ setting v.script → list_all (is_still v.script m v.state) acts ≡ true
    → Rests m v.script v.state → Went v w before late acts → Gave v.script none (λ lists. acts) (moment m v.state before.items) (moment m w.state late.items)
went_gave m v w acts before late set_is still rests went = still_gave v.script m v.state w.state acts before.items late.items set_is still rests went.node_is went.items_are

-- no act changes the setting of the entities
set_along : (st : Node) (acts : List Act) → (fold after st acts).entities.set ≡ st.entities.set
set_along st [] = refl
set_along st (by_region m ∷ acts) = set_along (after st (by_region m)) acts
set_along st (by_entities m ∷ acts) = set_along (after st (by_entities m)) acts
set_along st (by_producer p m ∷ acts) = set_along (after st (by_producer p m)) acts
set_along st (by_coordinator m ∷ acts) = set_along (after st (by_coordinator m)) acts

pub set_stays : (c : Script) (st one two : Node) (xs ys : List Act) → st.entities.set ≡ setting c → one ≡ fold after st xs → two ≡ fold after one ys → two.entities.set ≡ setting c
set_stays c st one two xs ys set first second = ap (λ (n : Node). n.entities.set) second ∙ (set_along one ys ∙ (ap (λ (n : Node). n.entities.set) first ∙ (set_along st xs ∙ set)))
