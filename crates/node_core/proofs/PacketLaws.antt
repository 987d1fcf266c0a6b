-- What each packet gives, out of what its steps give.
use Rattle.std.proofs.Common.{◌≡◌, ℕ, ◌≤◌, arith, List, [], ◌∷◌, ◌++◌, map, sym, ap, subst, ◌∙◌, refl, append-nil, true, false, true≢false}
use Rattle.std.specs.Prelude.{Bool, ◌&&◌, fold, nat_le, not, Option, Some, None, IfSome, if◌then◌else◌}
use Rattle.std.specs.Option.{option_map}
use Rattle.std.specs.List.{list_all, list_any}
use Rattle.std.proofs.lemmas.Bool.Decides.{nat_tests}
use Rattle.yard_model.specs.declared.incarnation.Incarnation.{Incarnation}
use Rattle.yard_model.specs.declared.incarnation.Keep.{Keep}
use Rattle.yard_model.specs.declared.incarnation.Slot.{Slot}
use Rattle.yard_model.specs.declared.incarnation.Stamp.{Stamp}
use Rattle.yard_model.specs.declared.incarnation.Slot.TheVariants as slot
use Rattle.yard_model.specs.declared.input.Phase.{Phase}
use Rattle.yard_model.specs.declared.input.Phase.TheVariants as phase
use Rattle.yard_model.specs.declared.out.Item.{Item}
use Rattle.yard_model.specs.declared.packet.Body.{Body}
use Rattle.yard_model.specs.declared.packet.Body.TheVariants as body
use Rattle.yard_model.specs.declared.packet.Message.{Message}
use Rattle.yard_model.specs.declared.packet.Packet.{Packet}
use Rattle.yard_model.specs.Coordinator as coordinator
use Rattle.yard_model.specs.Coordinator.{Coordinator}
use Rattle.yard_model.specs.Entities as entities
use Rattle.yard_model.specs.Genuine.{is_brought, is_genuine_body, is_genuine_packet, is_node}
use Rattle.yard_model.specs.Move.{Move, post}
use Rattle.yard_model.specs.Node.{Node, Act, Rule, by_region, by_coordinator, of_coordinator, of_entities, after, all_in_turn, of_region, acquire, hand_off, lead, packet, route}
use Rattle.yard_model.specs.Producer.{Producer}
use Rattle.yard_model.specs.Region as region
use Rattle.yard_model.specs.Region.{Region, take_view, takes_home, takes_host, learn, register, route_away, is_home, takes_hand_off}
use Rattle.yard_model.specs.Script.{Script, IsScript, setting}
use Rattle.yard_model.specs.Setting.{shard_of}
use Rattle.yard_model.specs.SlotLists.{SlotLists}
use Rattle.yard_model.specs.Spared.{Spared}
use Rattle.yard_model.specs.Turns.{for_each}
use Rattle.yard_laws.specs.Free.{is_free_move}
use Rattle.plain_laws.proofs.Booleans.{of_not, and_both}
use Rattle.yard_laws.proofs.FreeLaws.{region_is_free}
use Rattle.actor_laws.specs.RegionStands.{ShardsAreThere}
use Rattle.actor_laws.proofs.EntitiesStops.{running_hosted}
use Rattle.node_laws.specs.NodeStands.{IsViewed, IsSoundNode}
use Rattle.coordinator_actor.specs.Held.{Held}
use Rattle.region_actor.specs.Handled.{handled, routed}
use Rattle.shard_entities.specs.Lodged.{Lodged}
use Rattle.shard_entities.specs.Settled.{frees}
use Rattle.shard_lease.specs.Meaning.{Meaning}
use Rattle.producer_ctl.specs.Producing.{Producing}
use Rattle.node_core.specs.Standing.{Standing, node_of, AreSeen}
use Rattle.node_core.specs.Leased.{Rests, IsHandOf, is_for_coordinator, is_newer, is_view}
use Rattle.node_core.specs.Found.{none, asks}
use Rattle.node_core.specs.Gave.{Moment, moment, Gave, take_lead, is_to_lead, office, asks_lead, is_local}
use Rattle.node_core.specs.Still.{is_still_move, is_of_shards, is_held_of}
use Rattle.node_core.specs.Went.{Went}
use Rattle.node_core.proofs.BesideLaws.{frees_none, gave_keeps}
use Rattle.node_core.proofs.GaveLaws.{gave_nothing, gave_same, gave_asked, gave_then, gave_first}
use Rattle.node_core.proofs.GiveLaws.{region_gave, entities_gave, office_gave, hosted_may}
use Rattle.node_core.proofs.StillEntities.{deliver_within, recovered_within, asks_still, arm_still, passivate_still, stashed_for, stop_first, stop_within}
use Rattle.node_core.proofs.StillOffice.{coordinate_still, lost_still, rebalance_still, regions_within}

-- The region's part of a packet.

free_choice : (b : Bool) (ms : List Move) → list_all is_free_move ms ≡ true → list_all is_free_move (if b then ms else []) ≡ true
free_choice true ms h = h
free_choice false ms h = refl

free_else : (b : Bool) (ms : List Move) → list_all is_free_move ms ≡ true → list_all is_free_move (if b then [] else ms) ≡ true
free_else true ms h = refl
free_else false ms h = h

pub handled_free : (from : Incarnation) (b : Body) (r : Region) → list_all is_free_move (handled from b r) ≡ true
handled_free from (body.View v xs) r = free_else (nat_le v r.version) (take_view v xs r) ((region_is_free r).viewed v xs)
handled_free from body.RegisterAck r = (region_is_free r).registered from
handled_free from (body.ShardHome s h stamp) r = free_choice (takes_home s h stamp r) (learn s h stamp r) ((region_is_free r).learnt s h stamp)
handled_free from (body.HostShard s stamp) r = free_choice (takes_host s stamp r) (learn s r.who stamp r) ((region_is_free r).learnt s r.who stamp)
handled_free from (body.BeginHandOff s stamp) r = (region_is_free r).handed s stamp from
handled_free from b r = refl

-- which frees nothing
pub frees_nothing : (s : Slot) (ms : List Move) → frees_none s (map by_region ms) ≡ true
frees_nothing s [] = refl
frees_nothing s (m ∷ ms) = frees_nothing s ms

-- Lead.

asks_is : (b d : Bool) → b ≡ true → d ≡ (b && d)
asks_is true d e = refl
asks_is false d e = absurd (true≢false (sym e))

asks_not : (b d : Bool) → b ≡ false → false ≡ (b && d)
asks_not false d e = refl
asks_not true d e = absurd (true≢false e)

not_asked : (b : Bool) (acts : List Act) → b ≡ false → [] ≡ (if b then acts else [])
not_asked false acts e = refl
not_asked true acts e = absurd (true≢false e)

pub asked_gave : (c : Script) (old new : Moment) → is_to_lead old.node ≡ true → Gave c office (λ lists. take_lead lists old.node) old new → Gave c (asks_lead old.node) (λ lists. take_lead lists old.node) old new
asked_gave c old new e g = gave_asked c office (asks_lead old.node) (λ lists. take_lead lists old.node) old new (λ s. asks_is (is_to_lead old.node) (office s) e) g

-- where it isn't the oldest, or is the coordinator, it asks for nothing
pub not_asked_gave : (c : Script) (now : Moment) → is_to_lead now.node ≡ false → Rests now.meaning c now.node → Gave c (asks_lead now.node) (λ lists. take_lead lists now.node) now now
not_asked_gave c now e rests =
    gave_asked c none (asks_lead now.node) (λ lists. take_lead lists now.node) now now (λ s. asks_not (is_to_lead now.node) (office s) e)
    (gave_same c none (λ lists. []) (λ lists. take_lead lists now.node) now now (λ lists. not_asked (is_to_lead now.node) (map by_coordinator (acquire slot.Coordinator now.node.who lists.coordinator)) e)
    (gave_nothing c now rests))

pub lead_gave : (c : Script) (old mid new : Moment)
    → Gave c (asks_lead old.node) (λ lists. take_lead lists old.node) old mid
    → Gave c none (λ lists. of_coordinator (coordinator.terminate_lost mid.node.region.view) mid.node) mid new
    → Gave c (asks_lead old.node) (λ lists. lead lists old.node) old new
lead_gave c old mid new f g = gave_then c (asks_lead old.node) (λ lists. take_lead lists old.node) (λ lists st. of_coordinator (coordinator.terminate_lost st.region.view) st) old mid new f g

-- Views.

choice : (b : Bool) (acts : List Act) → b ≡ true → [] ≡ (if b then [] else acts)
choice true acts e = refl
choice false acts e = absurd (true≢false (sym e))

other_choice : (b : Bool) (acts : List Act) → b ≡ false → acts ≡ (if b then [] else acts)
other_choice false acts e = refl
other_choice true acts e = absurd (true≢false e)

pub le_is : (a b : ℕ) → a ≤ b → nat_le a b ≡ true
le_is a b h = grind (arith, nat_tests)

abbrev view_acts : SlotLists → ℕ → List Incarnation → Node → List Act
view_acts lists v xs st = all_in_turn (of_region (take_view v xs) ∷ lead lists ∷ of_region register ∷ []) st

-- a view that isn't newer
pub old_view_gave : (c : Script) (from : Incarnation) (v : ℕ) (xs : List Incarnation) (now : Moment) → nat_le v now.node.region.version ≡ true → Rests now.meaning c now.node
    → Gave c none (λ lists. packet lists from (body.View v xs) now.node) now now
old_view_gave c from v xs now older rests = gave_same c none (λ lists. []) (λ lists. packet lists from (body.View v xs) now.node) now now
    (λ lists. choice (nat_le v now.node.region.version) (view_acts lists v xs now.node) older) (gave_nothing c now rests)

-- so of any packet that is a view, where it isn't newer
pub old_packet_gave : (c : Script) (from : Incarnation) (b : Body) (now : Moment) → is_view b ≡ true → is_newer b now.node.region.version ≡ false → Rests now.meaning c now.node → Gave c none (λ lists. packet lists from b now.node) now now
old_packet_gave c from (body.View v xs) now view older rests = old_view_gave c from v xs now (of_not_false (nat_le v now.node.region.version) older) rests
  where
    of_not_false : (b : Bool) → not b ≡ false → b ≡ true
    of_not_false true h = refl
    of_not_false false h = absurd (true≢false h)
old_packet_gave c from b now view older rests = absurd (true≢false (sym view))

pub leaves_free : (r : Region) → list_all is_free_move (region.leave r) ≡ true
leaves_free r = (region_is_free r).leaves

pub registers_free : (r : Region) → list_all is_free_move (register r) ≡ true
registers_free r = (region_is_free r).registers

handled_is : (from : Incarnation) (v : ℕ) (xs : List Incarnation) (r : Region) → nat_le v r.version ≡ false → handled from (body.View v xs) r ≡ take_view v xs r
handled_is from v xs r older = sym (other (nat_le v r.version) older)
  where
    other : (b : Bool) → b ≡ false → take_view v xs r ≡ (if b then [] else take_view v xs r)
    other false e = refl
    other true e = absurd (true≢false e)

-- a newer one
pub view_gave : (c : Script) (from : Incarnation) (b : Body) (old heard led new : Moment) → is_newer b old.node.region.version ≡ true
    → Gave c none (λ lists. of_region (handled from b) old.node) old heard
    → Gave c (asks_lead heard.node) (λ lists. lead lists heard.node) heard led
    → Gave c none (λ lists. of_region register led.node) led new
    → Gave c (asks_lead heard.node) (λ lists. packet lists from b old.node) old new
view_gave c from (body.View v xs) old heard led new newer first second last =
    gave_same c asked (λ lists. of_region (handled from b) old.node ++ rest lists (fold after old.node (of_region (handled from b) old.node))) (λ lists. packet lists from b old.node) old new same
    (gave_first c asked (λ lists. of_region (handled from b) old.node) rest old heard new (gave_keeps c none asked (λ lists. of_region (handled from b) old.node) old heard first (λ lists s a. frees_nothing s (handled from b old.node.region))) first
    (gave_then c asked (λ lists. lead lists heard.node) (λ lists st. of_region register st) heard led new second last))
  where
    b : Body
    b = body.View v xs

    asked : Slot → Bool
    asked = asks_lead heard.node

    rest : SlotLists → Rule
    rest lists st = lead lists st ++ of_region register (fold after st (lead lists st))

    older : nat_le v old.node.region.version ≡ false
    older = of_not (nat_le v old.node.region.version) newer

    same : (lists : SlotLists) → of_region (handled from b) old.node ++ rest lists (fold after old.node (of_region (handled from b) old.node)) ≡ packet lists from b old.node
    same lists =
        let moves : List Act = of_region (take_view v xs) old.node in
        let mid : Node = fold after old.node moves in
        ap (λ ms. map by_region ms ++ (lead lists (fold after old.node (map by_region ms)) ++ of_region register (fold after (fold after old.node (map by_region ms)) (lead lists (fold after old.node (map by_region ms)))))) (handled_is from v xs old.node.region older)
        ∙ (ap (λ acts. moves ++ (lead lists mid ++ acts)) (sym (append-nil (of_region register (fold after mid (lead lists mid)))))
        ∙ other_choice (nat_le v old.node.region.version) (view_acts lists v xs old.node) older)
view_gave c from b old heard led new newer first second last = absurd (true≢false (sym newer))

-- where every registered region is in the view
pub seen_of : (c : Script) (r : Region) (e : Lodged) (ps : Producing) (k : Option Held) → IsViewed (node_of c r e ps k) → AreSeen r.view k
seen_of c r e ps None h = tt
seen_of c r e ps (Some k) h = h

-- A message that is routed.

route_choice : (b : Bool) (xs ys : List Act) → b ≡ true → xs ≡ (if b then xs else ys)
route_choice true xs ys e = refl
route_choice false xs ys e = absurd (true≢false (sym e))

route_else : (b : Bool) (xs ys : List Act) → b ≡ false → ys ≡ (if b then xs else ys)
route_else false xs ys e = refl
route_else true xs ys e = absurd (true≢false e)

pub route_here : (m : Message) (st : Node) → is_local m st ≡ true → of_entities (entities.deliver m) st ≡ route m st
route_here m st e = route_choice (is_local m st) (of_entities (entities.deliver m) st) (of_region (route_away m) st) e

pub route_there : (m : Message) (st : Node) → is_local m st ≡ false → of_region (route_away m) st ≡ route m st
route_there m st e = route_else (is_local m st) (of_entities (entities.deliver m) st) (of_region (route_away m) st) e

-- the region's part of a message that isn't for here
pub away_is : (m : Message) (b : Bool) (r : Region) → (is_home r (shard_of r.set m.entity) && b) ≡ false → routed m b r ≡ route_away m r
away_is m b r e = ap (λ v. if v then [] else route_away m r) e

-- where it is delivered its shard is hosted
local_hosted : (m : Message) (st : Node) → is_local m st ≡ true → entities.is_hosted st.entities (shard_of st.set m.entity) ≡ true
local_hosted m st e = running_hosted (entities.hosted st.entities (shard_of st.set m.entity)) (and_both (is_home st.region (shard_of st.set m.entity)) (entities.is_running st.entities (shard_of st.set m.entity)) e).1

-- What an entity's rules write, they write of its shard, which is hosted where the entity exists.

module _ (c : Script) (m : Meaning) (st : Node) (there : ShardsAreThere) (script : IsScript c) (sound : IsSoundNode c st) where
  shard_may : (e : List ℕ) → entities.is_hosted st.entities (shard_of (setting c) e) ≡ true → is_held_of c st is_of_shards (slot.Shard (shard_of (setting c) e)) ≡ true
  shard_may e hosted = hosted_may c st (shard_of (setting c) e) (there c e script) hosted

  pub home_of : (e : List ℕ) → is_brought c e ≡ true → entities.is_in_phase phase.Absent st.entities e ≡ false → is_held_of c st is_of_shards (slot.Shard (shard_of (setting c) e)) ≡ true
  home_of e brought exists = shard_may e (subst (λ s. entities.is_hosted st.entities (shard_of s e) ≡ true) sound.entities.set_is (sound.entities.at_home e brought exists))

  -- by whether the entity exists
  by_absent : (e : List ℕ) (ms : List Move) → is_brought c e ≡ true → ((entities.cell st.entities e).phase ≡ phase.Absent → ms ≡ [])
      → (is_held_of c st is_of_shards (slot.Shard (shard_of (setting c) e)) ≡ true → list_all (is_still_move m c (is_held_of c st is_of_shards)) ms ≡ true) → list_all (is_still_move m c (is_held_of c st is_of_shards)) ms ≡ true
  by_absent e ms brought none still = by (entities.cell st.entities e).phase refl
    where
      by : (p : Phase) → (entities.cell st.entities e).phase ≡ p → list_all (is_still_move m c (is_held_of c st is_of_shards)) ms ≡ true
      by phase.Absent d = ap (list_all (is_still_move m c (is_held_of c st is_of_shards))) (none d)
      by phase.Loading d = still (home_of e brought (ap (λ p. entities.is_phase phase.Absent p) d))
      by phase.Active d = still (home_of e brought (ap (λ p. entities.is_phase phase.Absent p) d))
      by phase.Stopping d = still (home_of e brought (ap (λ p. entities.is_phase phase.Absent p) d))

  pub recovers : (e : List ℕ) → is_brought c e ≡ true → list_all (is_still_move m c (is_held_of c st is_of_shards)) (entities.recovered e st.entities) ≡ true
  recovers e brought = by_absent e (entities.recovered e st.entities) brought
      (λ d. ap (λ p. if entities.is_phase phase.Loading p then entities.activate e st.entities ++ for_each entities.entities_after entities.deliver (entities.cell st.entities e).stash (fold entities.entities_after st.entities (entities.activate e st.entities)) else []) d)
      (λ own. recovered_within c m (is_held_of c st is_of_shards) e st.entities own (stashed_for c e st.entities sound.entities brought))

  pub stops : (e : List ℕ) → is_brought c e ≡ true → list_any frees (entities.stop e st.entities) ≡ false → list_all (is_still_move m c (is_held_of c st is_of_shards)) (entities.stop e st.entities) ≡ true
  stops e brought none = by_absent e (entities.stop e st.entities) brought
      (λ d. ap (λ p. if entities.is_phase phase.Stopping p then stop_first e st.entities ++ entities.after_stop e (fold entities.entities_after st.entities (stop_first e st.entities)) else []) d)
      (λ own. stop_within c m (is_held_of c st is_of_shards) e st.entities own none)

  pub delivers : (x : Message) → is_local x st ≡ true → list_all (is_still_move m c (is_held_of c st is_of_shards)) (entities.deliver x st.entities) ≡ true
  delivers x here = deliver_within c m (is_held_of c st is_of_shards) x st.entities
      (shard_may x.entity (subst (λ s. entities.is_hosted st.entities (shard_of s x.entity) ≡ true) sound.set_is (local_hosted x st here)))

pub recovered_gave : (m : Meaning) (v w : Standing) (e : List ℕ) (before late : Spared Item) → ShardsAreThere → IsScript v.script → IsSoundNode v.script v.state → is_brought v.script e ≡ true → Rests m v.script v.state
    → Went v w before late (of_entities (entities.recovered e) v.state) → Gave v.script none (λ lists. of_entities (entities.recovered e) v.state) (moment m v.state before.items) (moment m w.state late.items)
recovered_gave m v w e before late there script sound brought rests went = entities_gave m v w (entities.recovered e v.state.entities) before late sound.entities.set_is (recovers v.script m v.state there script sound e brought) rests went

pub passivated_gave : (m : Meaning) (v w : Standing) (e : List ℕ) (before late : Spared Item) → IsSoundNode v.script v.state → Rests m v.script v.state
    → Went v w before late (of_entities (entities.passivate e) v.state) → Gave v.script none (λ lists. of_entities (entities.passivate e) v.state) (moment m v.state before.items) (moment m w.state late.items)
passivated_gave m v w e before late sound rests went = entities_gave m v w (entities.passivate e v.state.entities) before late sound.entities.set_is (passivate_still v.script m (is_held_of v.script v.state is_of_shards) e v.state.entities) rests went

-- what an order asks of an entity
pub ask_gave : (m : Meaning) (v w : Standing) (e : List ℕ) (before late : Spared Item) → IsSoundNode v.script v.state → Rests m v.script v.state
    → Went v w before late (of_entities (entities.ask_to_passivate e) v.state) → Gave v.script none (λ lists. of_entities (entities.ask_to_passivate e) v.state) (moment m v.state before.items) (moment m w.state late.items)
ask_gave m v w e before late sound rests went = entities_gave m v w (entities.ask_to_passivate e v.state.entities) before late sound.entities.set_is (asks_still v.script m (is_held_of v.script v.state is_of_shards) e v.state.entities) rests went

pub armed_gave : (m : Meaning) (v w : Standing) (e : List ℕ) (k : Keep) (before late : Spared Item) → IsSoundNode v.script v.state → Rests m v.script v.state
    → Went v w before late (of_entities (entities.arm e k) v.state) → Gave v.script none (λ lists. of_entities (entities.arm e k) v.state) (moment m v.state before.items) (moment m w.state late.items)
armed_gave m v w e k before late sound rests went = entities_gave m v w (entities.arm e k v.state.entities) before late sound.entities.set_is (arm_still v.script m (is_held_of v.script v.state is_of_shards) e k v.state.entities) rests went

pub routed_gave : (m : Meaning) (v w : Standing) (x : Message) (before late : Spared Item) → ShardsAreThere → IsScript v.script → IsSoundNode v.script v.state → Rests m v.script v.state
    → Went v w before late (route x v.state) → Gave v.script none (λ lists. route x v.state) (moment m v.state before.items) (moment m w.state late.items)
routed_gave m v w x before late there script sound rests went = by (is_local x v.state) refl
  where
    by : (b : Bool) → is_local x v.state ≡ b → Gave v.script none (λ lists. route x v.state) (moment m v.state before.items) (moment m w.state late.items)
    by true e = subst (λ acts. Gave v.script none (λ lists. acts) (moment m v.state before.items) (moment m w.state late.items)) (route_here x v.state e)
        (entities_gave m v w (entities.deliver x v.state.entities) before late sound.entities.set_is (delivers v.script m v.state there script sound x e) rests (subst (Went v w before late) (sym (route_here x v.state e)) went))
    by false e = subst (λ acts. Gave v.script none (λ lists. acts) (moment m v.state before.items) (moment m w.state late.items)) (route_there x v.state e)
        (region_gave m v w (route_away x v.state.region) before late sound.entities.set_is ((region_is_free v.state.region).routed x) rests (subst (Went v w before late) (sym (route_there x v.state e)) went))

-- The coordinator's part of a packet.

office_within : (c : Script) (m : Meaning) (st : Node) (from : Incarnation) (b : Body) (view : List Incarnation) → m.within from.number ≡ true → Rests m c st → (o : Option Coordinator) → st.coordinator ≡ o
    → IfSome o (λ k. list_all (is_still_move m c (asks slot.Coordinator)) (coordinator.coordinate from b view k) ≡ true)
office_within c m st from b view within rests None e = tt
office_within c m st from b view within rests (Some k) e =
    let hand : IsHandOf m slot.Coordinator k.entries = subst (λ o. IfSome (option_map (λ (k : Coordinator). k.entries) o) (IsHandOf m slot.Coordinator)) e (rests.lists_are slot.Coordinator refl) in
    coordinate_still c m from b view k within (regions_within m k.entries hand.taken)

pub coordinated_gave : (m : Meaning) (v w : Standing) (from : Incarnation) (b : Body) (before late : Spared Item) → IsSoundNode v.script v.state → m.within from.number ≡ true → Rests m v.script v.state
    → Went v w before late (of_coordinator (coordinator.coordinate from b v.state.region.view) v.state)
    → Gave v.script none (λ lists. of_coordinator (coordinator.coordinate from b v.state.region.view) v.state) (moment m v.state before.items) (moment m w.state late.items)
coordinated_gave m v w from b before late sound within rests went =
    office_gave m v w (coordinator.coordinate from b v.state.region.view) before late sound.entities.set_is (office_within v.script m v.state from b v.state.region.view within rests v.state.coordinator refl) rests went

pub lost_gave : (m : Meaning) (v w : Standing) (before late : Spared Item) → v.state.entities.set ≡ setting v.script → Rests m v.script v.state
    → Went v w before late (of_coordinator (coordinator.terminate_lost v.state.region.view) v.state)
    → Gave v.script none (λ lists. of_coordinator (coordinator.terminate_lost v.state.region.view) v.state) (moment m v.state before.items) (moment m w.state late.items)
lost_gave m v w before late set_is rests went =
    office_gave m v w (coordinator.terminate_lost v.state.region.view) before late set_is (by v.state.coordinator refl) rests went
  where
    by : (o : Option Coordinator) → v.state.coordinator ≡ o → IfSome o (λ k. list_all (is_still_move m v.script (asks slot.Coordinator)) (coordinator.terminate_lost v.state.region.view k) ≡ true)
    by None e = tt
    by (Some k) e =
        let hand : IsHandOf m slot.Coordinator k.entries = subst (λ o. IfSome (option_map (λ (k : Coordinator). k.entries) o) (IsHandOf m slot.Coordinator)) e (rests.lists_are slot.Coordinator refl) in
        lost_still v.script m v.state.region.view k (regions_within m k.entries hand.taken)

pub rebalanced_gave : (m : Meaning) (v w : Standing) (limit : ℕ) (before late : Spared Item) → IsSoundNode v.script v.state → Rests m v.script v.state
    → Went v w before late (of_coordinator (coordinator.rebalance limit) v.state)
    → Gave v.script none (λ lists. of_coordinator (coordinator.rebalance limit) v.state) (moment m v.state before.items) (moment m w.state late.items)
rebalanced_gave m v w limit before late sound rests went = office_gave m v w (coordinator.rebalance limit) before late sound.entities.set_is (by v.state.coordinator) rests went
  where
    by : (o : Option Coordinator) → IfSome o (λ k. list_all (is_still_move m v.script (asks slot.Coordinator)) (coordinator.rebalance limit k) ≡ true)
    by None = tt
    by (Some k) = rebalance_still v.script m limit k

pub office_packet : (c : Script) (m : Meaning) (v w : Standing) (from : Incarnation) (b : Body) (before late : Spared Item) → v.script ≡ c → is_for_coordinator b ≡ true
    → Gave c none (λ lists. of_coordinator (coordinator.coordinate from b v.state.region.view) v.state) (moment m v.state before.items) (moment m w.state late.items)
    → Gave c none (λ lists. packet lists from b v.state) (moment m v.state before.items) (moment m w.state late.items)
office_packet c m v w from body.Register before late same h gave = gave
office_packet c m v w from (body.GetShardHome s) before late same h gave = gave
office_packet c m v w from (body.ShardStarted s) before late same h gave = gave
office_packet c m v w from (body.BeginHandOffAck s stamp) before late same h gave = gave
office_packet c m v w from (body.ShardStopped s stamp) before late same h gave = gave
office_packet c m v w from body.GracefulShutdownReq before late same h gave = gave
office_packet c m v w from b before late same h gave = absurd (true≢false (sym h))

-- of a packet about an entity
pub brought_of : (c : Script) (e : List ℕ) (p : Packet) → p.body ≡ body.Recovered e → is_genuine_packet c p ≡ true → is_brought c e ≡ true
brought_of c e p is h = (and_both (is_node c p.from && is_node c p.to) (is_brought c e) (ap (λ b. is_node c p.from && is_node c p.to && is_genuine_body c b) (sym is) ∙ h)).1

-- of any genuine packet
pub genuine_of : (c : Script) (p : Packet) (b : Body) → p.body ≡ b → is_genuine_packet c p ≡ true → is_genuine_body c b ≡ true
genuine_of c p b is h = (and_both (is_node c p.from && is_node c p.to) (is_genuine_body c b) (ap (λ x. is_node c p.from && is_node c p.to && is_genuine_body c x) (sym is) ∙ h)).1

-- HandOff.

if_true : (b : Bool) (xs ys : List Act) → b ≡ true → xs ≡ (if b then xs else ys)
if_true true xs ys e = refl
if_true false xs ys e = absurd (true≢false (sym e))

if_false : (b : Bool) (xs ys : List Act) → b ≡ false → ys ≡ (if b then xs else ys)
if_false false xs ys e = refl
if_false true xs ys e = absurd (true≢false e)

abbrev stopped_post : ℕ → Stamp → Incarnation → Node → List Act
stopped_post s stamp from st = by_region (post st.who from (body.ShardStopped s stamp)) ∷ []

pub hand_off_hosted : (s : ℕ) (stamp : Stamp) (from : Incarnation) (st : Node) → takes_hand_off s stamp st.region ≡ true → entities.is_hosted st.entities s ≡ true → of_entities (entities.hand_off s stamp from) st ≡ hand_off s stamp from st
hand_off_hosted s stamp from st taken hosted =
    if_true (entities.is_hosted st.entities s) (of_entities (entities.hand_off s stamp from) st) (stopped_post s stamp from st) hosted
    ∙ if_true (takes_hand_off s stamp st.region) (if entities.is_hosted st.entities s then of_entities (entities.hand_off s stamp from) st else stopped_post s stamp from st) [] taken

pub hand_off_elsewhere : (s : ℕ) (stamp : Stamp) (from : Incarnation) (st : Node) → takes_hand_off s stamp st.region ≡ true → entities.is_hosted st.entities s ≡ false → stopped_post s stamp from st ≡ hand_off s stamp from st
hand_off_elsewhere s stamp from st taken hosted =
    if_false (entities.is_hosted st.entities s) (of_entities (entities.hand_off s stamp from) st) (stopped_post s stamp from st) hosted
    ∙ if_true (takes_hand_off s stamp st.region) (if entities.is_hosted st.entities s then of_entities (entities.hand_off s stamp from) st else stopped_post s stamp from st) [] taken

pub hand_off_refused : (s : ℕ) (stamp : Stamp) (from : Incarnation) (st : Node) → takes_hand_off s stamp st.region ≡ false → [] ≡ hand_off s stamp from st
hand_off_refused s stamp from st refused = if_false (takes_hand_off s stamp st.region) (if entities.is_hosted st.entities s then of_entities (entities.hand_off s stamp from) st else stopped_post s stamp from st) [] refused
