-- Numbers that aren't confirmed, routed again with a tick: how many they are, what each takes, and that no slot changes hands by them.
use Rattle.std.proofs.Common.{◌≡◌, ℕ, zero, suc, ◌+◌, ◌-◌, ◌*◌, ◌≤◌, ◌<◌, List, [], ◌∷◌, ◌++◌, length, map, sym, ap, ap₂, subst, ◌∙◌, refl, append-nil, append_assoc, length-append, true, false, true≢false, arith}
use Rattle.std.specs.Prelude.{Bool, ◌&&◌, ◌==◌, nat_lt, nat_le, cond, min, filter, take, drop, fold, Option, Some, None, slice_index_or, if◌then◌else◌}
use Rattle.std.specs.Option.{option_map, option_map_or}
use Rattle.std.specs.List.{list_all, list_any, flat_map}
use Rattle.std.proofs.Math.Nat.{le-min}
use Rattle.std.proofs.Math.Seq.{map-set_same, take-suc}
use Rattle.std.proofs.lemmas.Grind.{flat_map-append}
use Rattle.std.proofs.lemmas.List.{take-append-drop, take_all}
use Rattle.std.proofs.lemmas.List.Elements.{filter-append}
use Rattle.std.proofs.lemmas.List.Filters.{length-filter_more}
use Rattle.std.proofs.lemmas.List.Sums.{fold-append}
use Rattle.yard_model.specs.declared.fact.Fact.{Fact}
use Rattle.yard_model.specs.declared.incarnation.Slot.{Slot}
use Rattle.yard_model.specs.declared.incarnation.Slot.TheVariants as slot
use Rattle.yard_model.specs.declared.out.Item.{Item}
use Rattle.yard_model.specs.declared.packet.Message.{Message}
use Rattle.yard_model.specs.Coordinator.{tick_coordinator}
use Rattle.yard_model.specs.Entities as entities
use Rattle.yard_model.specs.Entities.{tick_entities}
use Rattle.yard_model.specs.Genuine.{is_producer}
use Rattle.yard_model.specs.Move.{Move, pushed}
use Rattle.yard_model.specs.Node.{Node, Act, Rule, by_region, by_entities, by_producer, by_coordinator, after, items_of, of_coordinator, of_entities, of_region, of_producer, is_running, all_in_turn, lead, route, route_numbers, start_again, send_again, tick}
use Rattle.yard_model.specs.Producer.{Producer, producer_after, message_of, to_repeat}
use Rattle.yard_model.specs.Region.{Region, is_home, route_away, tick_region}
use Rattle.yard_model.specs.Script.{Script, IsScript, Setting, setting, pairs_in, is_pair}
use Rattle.yard_model.specs.Setting.{shard_of, shards, producers, names_of}
use Rattle.yard_model.specs.SlotLists.{SlotLists}
use Rattle.yard_model.specs.SlotReads.{queued, confirmed}
use Rattle.yard_model.specs.Spared.{Spared}
use Rattle.yard_model.specs.Turns.{in_turn, for_each, where_some}
use Rattle.yard_model.specs.Words.{at, numbers}
use Rattle.plain_laws.proofs.Booleans.{and_both, both, below, is_below, within, same_number, number_itself}
use Rattle.plain_laws.proofs.Lists.{all_join, all_if}
use Rattle.actor_laws.specs.ProducerStands.{is_sent_well}
use Rattle.actor_laws.specs.RegionStands.{ShardsAreThere}
use Rattle.node_laws.specs.NodeStands.{IsSoundNode, IsProducerAt}
use Rattle.node_laws.proofs.NodePackets.{TurnLaws, producer_node}
use Rattle.node_laws.proofs.NodeProducers.{repeat_node}
use Rattle.node_laws.proofs.NodeTicks.{sends_again, names_again}
use Rattle.producer_ctl.specs.Paired.{IsNext, name_at}
use Rattle.producer_ctl.specs.Produced.{repeating, waits_to}
use Rattle.producer_ctl.specs.Producing.{Producing, waits}
use Rattle.producer_ctl.specs.Routed.{calls_of}
use Rattle.producer_ctl.proofs.NodeLaws.{repeat_calls}
use Rattle.producer_ctl.proofs.TableLaws.{next_same}
use Rattle.coordinator_actor.specs.Held.{Held}
use Rattle.shard_entities.specs.Lodged.{Lodged}
use Rattle.shard_entities.specs.Roomy.{room_wanted}
use Rattle.shard_lease.specs.Meaning.{Meaning}
use Rattle.node_core.specs.Again.{TickLaws, Stepped, NamesSent, ProducersSent, AsksShards, queues, repeats, repeated, repeated_at, starts_again, tick_members, tick_shards}
use Rattle.node_core.specs.Found.{none, asks, either}
use Rattle.node_core.specs.Gave.{Moment, moment, Gave, asks_lead, is_to_lead, office}
use Rattle.node_core.specs.Leased.{Rests}
use Rattle.node_core.specs.Releasing.{HasReleaseRoom}
use Rattle.node_core.specs.Standing.{Standing, IsReady, node_of}
use Rattle.node_core.specs.Still.{is_still, is_of_shards}
use Rattle.node_core.specs.Went.{Went, rooms_after}
use Rattle.node_core.proofs.AgainLaws.{each_more, numbers_more, laws_of, vouches_all, same_room, stepped_both}
use Rattle.node_core.proofs.GaveLaws.{gave_same, gave_then}
use Rattle.node_core.proofs.ReleaseLaws.{went_both, routed_room}
use Rattle.room_laws.proofs.PairRoom.{pairs_left, queued_pair, fewer_pass}
use Rattle.room_laws.proofs.Limits.{few_pairs, few_producers}
use Rattle.node_core.proofs.StartLaws.{fewer_room, away_room, active_hosted}
use Rattle.node_core.proofs.StepLaws.{went_nothing, went_gave}
use Rattle.node_core.proofs.StillRoutes.{IsCalm, each_still, still_both, numbers_still}

-- The queues stay as they are.

-- an act that enters nothing in a queue
abbrev is_unqueued : Act → Bool
is_unqueued (by_producer p (pushed e n)) = true
is_unqueued (by_producer p m) = false
is_unqueued a = true

pushed_same : (e : List ℕ) (n : ℕ) (o : Option Producer) → option_map (λ (k : Producer). k.entries) (option_map (λ k. producer_after k (pushed e n)) o) ≡ option_map (λ (k : Producer). k.entries) o
pushed_same e n None = refl
pushed_same e n (Some k) = refl

one_unqueued : (st : Node) (a : Act) → is_unqueued a ≡ true → queues (after st a) ≡ queues st
one_unqueued st (by_region m) h = refl
one_unqueued st (by_entities m) h = refl
one_unqueued st (by_coordinator m) h = refl
one_unqueued st (by_producer p (pushed e n)) h = map-set_same (option_map (λ (k : Producer). k.entries)) st.producers (p - 1) (option_map (λ k. producer_after k (pushed e n)) (at st.producers (p - 1))) None (pushed_same e n (at st.producers (p - 1)))
one_unqueued st (by_producer p m) h = absurd (true≢false (sym h))

all_unqueued : (st : Node) (acts : List Act) → list_all is_unqueued acts ≡ true → queues (fold after st acts) ≡ queues st
all_unqueued st [] h = refl
all_unqueued st (a ∷ acts) h =
    let n : (is_unqueued a ≡ true) × (list_all is_unqueued acts ≡ true) = and_both (is_unqueued a) (list_all is_unqueued acts) h in
    all_unqueued (after st a) acts n.1 ∙ one_unqueued st a n.0

map_unqueued : (by : Move → Act) → ((m : Move) → is_unqueued (by m) ≡ true) → (ms : List Move) → list_all is_unqueued (map by ms) ≡ true
map_unqueued by h [] = refl
map_unqueued by h (m ∷ ms) = both (is_unqueued (by m)) (list_all is_unqueued (map by ms)) (h m) (map_unqueued by h ms)

marks_unqueued : (p : ℕ) (e ns : List ℕ) → list_all is_unqueued (map (by_producer p) (map (pushed e) ns)) ≡ true
marks_unqueued p e [] = refl
marks_unqueued p e (n ∷ ns) = marks_unqueued p e ns

routes_unqueued : (f : ℕ → Message) (ns : List ℕ) (st : Node) → list_all is_unqueued (for_each after (λ n. route (f n)) ns st) ≡ true
routes_unqueued f [] st = refl
routes_unqueued f (n ∷ ns) st =
    let m : Message = f n in
    let s : ℕ = shard_of st.set m.entity in
    all_join is_unqueued (route m st) (for_each after (λ n. route (f n)) ns (fold after st (route m st)))
    (all_if is_unqueued (is_home st.region s && is_running st s) (of_entities (entities.deliver m) st) (of_region (route_away m) st) (map_unqueued by_entities (λ x. refl) (entities.deliver m st.entities)) (map_unqueued by_region (λ x. refl) (route_away m st.region)))
    (routes_unqueued f ns (fold after st (route m st)))

-- A pair.

queue_at : (ks : List (Option Producer)) (i : ℕ) → at (map (option_map (λ k. k.entries)) ks) i ≡ option_map (λ (k : Producer). k.entries) (at ks i)
queue_at [] i = refl
queue_at (k ∷ ks) zero = refl
queue_at (k ∷ ks) (suc i) = queue_at ks i

-- it is the producer whose command waits
pub next_repeated : (c : Script) (r : Region) (e : Lodged) (ps : Producing) (k : Option Held) (p first i : ℕ) → ps.script ≡ c → IsNext (λ j. waits p (name_at (setting ps.script).names j) ps) first (length (setting ps.script).names) i
    → IsNext (λ j. repeats (queues (node_of c r e ps k)) p (name_at (setting c).names j)) first (length (setting c).names) i
next_repeated c r e ps k p first i script_is is =
    next_same (λ j. waits p (name_at (setting c).names j) ps) (λ j. repeats (queues (node_of c r e ps k)) p (name_at (setting c).names j)) first (length (setting c).names) i
    (λ j inside. ap (λ o. option_map_or (λ list. nat_lt (confirmed (name_at (setting c).names j) list) (queued (name_at (setting c).names j) list)) o false) (queue_at ps.producers (p - 1)) ∙ one (name_at (setting c).names j) (at ps.producers (p - 1)))
    (subst (λ (s : Script). IsNext (λ j. waits p (name_at (setting s).names j) ps) first (length (setting s).names) i) script_is is)
  where
    one : (e : List ℕ) (o : Option Producer) → option_map_or (λ list. nat_lt (confirmed e list) (queued e list)) (option_map (λ (k : Producer). k.entries) o) false ≡ option_map_or (waits_to e) o false
    one e None = refl
    one e (Some k) = refl

-- what a producer gives of one pair, by whether it repeats a number
abbrev again_with : ℕ → List ℕ → Node → Producer → Bool → List Act
again_with p e st k b =
    let ns : List ℕ = if b then (confirmed e k.entries + 1) ∷ [] else [] in
    map (by_producer p) (map (pushed e) ns) ++ for_each after (λ n. route (message_of e (fold producer_after k (map (pushed e) ns)) n)) ns (fold after st (map (by_producer p) (map (pushed e) ns)))

again_none : (p : ℕ) (e : List ℕ) (st : Node) (o : Option Producer) → option_map_or (λ list. nat_lt (confirmed e list) (queued e list)) (option_map (λ (k : Producer). k.entries) o) false ≡ false → calls_of p (repeating e) st o ≡ []
again_none p e st None h = refl
again_none p e st (Some k) h = ap (again_with p e st k) h

not_repeated : (p : ℕ) (e : List ℕ) (st : Node) → repeats (queues st) p e ≡ false → send_again p e st ≡ []
not_repeated p e st h = repeat_calls p e st ∙ again_none p e st (at st.producers (p - 1)) (ap (λ o. option_map_or (λ list. nat_lt (confirmed e list) (queued e list)) o false) (sym (queue_at st.producers (p - 1))) ∙ h)

again_few : (p : ℕ) (e : List ℕ) (st : Node) (o : Option Producer) → length (items_of (calls_of p (repeating e) st o)) ≤ 4
again_few p e st None = omega arith
again_few p e st (Some k) = by (nat_lt (confirmed e k.entries) (queued e k.entries))
  where
    by : (b : Bool) → length (items_of (again_with p e st k b)) ≤ 4
    by false = omega arith
    by true =
        let n : ℕ = confirmed e k.entries + 1 in
        let m : Message = message_of e (producer_after k (pushed e n)) n in
        let mid : Node = after st (by_producer p (pushed e n)) in
        subst (λ acts. length (items_of acts) ≤ 4) (sym (append-nil (route m mid))) (routed_room m mid)

again_room : (p : ℕ) (e : List ℕ) (st : Node) → length (items_of (send_again p e st)) ≤ 4 * cond (repeats (queues st) p e) 1 0
again_room p e st = by (repeats (queues st) p e) refl
  where
    by : (b : Bool) → repeats (queues st) p e ≡ b → length (items_of (send_again p e st)) ≤ 4 * cond b 1 0
    by true h = subst (λ acts. length (items_of acts) ≤ 4) (sym (repeat_calls p e st)) (again_few p e st (at st.producers (p - 1)))
    by false h = subst (λ acts. length (items_of acts) ≤ 0) (sym (not_repeated p e st h)) (omega arith)

again_unqueued : (p : ℕ) (e : List ℕ) (st : Node) → list_all is_unqueued (send_again p e st) ≡ true
again_unqueued p e st = ap (list_all is_unqueued) (repeat_calls p e st) ∙ by (at st.producers (p - 1))
  where
    by : (o : Option Producer) → list_all is_unqueued (calls_of p (repeating e) st o) ≡ true
    by None = refl
    by (Some k) =
        let ns : List ℕ = to_repeat e k in
        let marks : List Act = map (by_producer p) (map (pushed e) ns) in
        all_join is_unqueued marks (for_each after (λ n. route (message_of e (fold producer_after k (map (pushed e) ns)) n)) ns (fold after st marks)) (marks_unqueued p e ns)
        (routes_unqueued (λ n. message_of e (fold producer_after k (map (pushed e) ns)) n) ns (fold after st marks))

-- The names of a producer.

pub names_first : {v : Standing} (p : ℕ) (before : Spared Item) → IsSoundNode v.script v.state → NamesSent p [] v v before before
names_first {v} p before is = record {
  went = went_nothing v before;
  stands = is;
  lists_are = refl;
  room = omega arith;
  rooms = λ t n room. fewer_room (2 + (n + 2 * 0)) (2 + n) (omega arith) room;
}

fewer : {X : Type 0} (q : X → Bool) (i : ℕ) (xs : List X) → length (filter q (take i xs)) ≤ length (filter q xs)
fewer q i xs =
    let all : length (filter q (take i xs)) + length (filter q (drop i xs)) ≡ length (filter q xs) =
    sym (length-append (filter q (take i xs)) (filter q (drop i xs))) ∙ (ap length (sym (filter-append q (take i xs) (drop i xs))) ∙ ap (λ l. length (filter q l)) (take-append-drop i xs)) in
    omega (arith, all)

-- there is room for the next pair
pub names_room : {v w : Standing} {before late : Spared Item} (p i : ℕ) → NamesSent p (take i v.state.set.names) v w before late
    → ((t : ℕ) → HasReleaseRoom (4 + 2 * length (repeated_at (queues v.state) v.state.set t v.state.set.names p)) v t) → 4 + 4 * length (repeated (queues v.state) v.state.set.names p) ≤ before.spare
    → (4 ≤ late.spare) × ((t : ℕ) → HasReleaseRoom 4 w t)
names_room {v} {w} {before} {late} p i r rooms room = (
  (let spent = r.room in let few = fewer (repeats (queues v.state) p) i v.state.set.names in omega (arith, spent, room, few)),
  λ t. let few = fewer (λ e. repeats (queues v.state) p e && (shard_of v.state.set e == t)) i v.state.set.names in
      r.rooms t 2 (fewer_room (4 + 2 * length (repeated_at (queues v.state) v.state.set t v.state.set.names p)) (2 + (2 + 2 * length (repeated_at (queues v.state) v.state.set t (take i v.state.set.names) p))) (omega (arith, few)) (rooms t)),
)

pub names_next : {v w x : Standing} {before late last : Spared Item} (p i : ℕ) → TickLaws → IsScript v.script → IsSoundNode v.script v.state → 0 < p → i < length v.state.set.names → NamesSent p (take i v.state.set.names) v w before late
    → Went w x late last (send_again p (slice_index_or w.state.set.names i []) w.state)
    → ((t n : ℕ) → HasReleaseRoom (2 + (n + (if t == shard_of w.state.set (slice_index_or w.state.set.names i []) then 2 else 0))) w t → HasReleaseRoom (2 + n) x t)
    → NamesSent p (take (i + 1) v.state.set.names) v x before last
names_next {v} {w} {x} {before} {late} {last} p i laws script is above inside r went_w rooms_w = record {
  went = subst (Went v x before last) told_are (went_both (for_each after (send_again p) (take i names) v.state) (send_again p e w.state) r.went went);
  stands = stands;
  lists_are = ap queues went.node_is ∙ (all_unqueued w.state (send_again p e w.state) (again_unqueued p e w.state) ∙ r.lists_are);
  room =
      let spent = r.room in
      let less : last.spare ≡ late.spare - length (items_of (send_again p e w.state)) = went.spare_is in
      let few : length (items_of (send_again p e w.state)) ≤ 4 * cond (repeats lists p e) 1 0 = subst (λ l. length (items_of (send_again p e w.state)) ≤ 4 * cond (repeats l p e) 1 0) r.lists_are (again_room p e w.state) in
      let more = length-filter_more (repeats lists p) names i [] inside in
      omega (arith, spent, less, few, more);
  rooms = λ t n room. by t n room (repeats lists p e) refl;
}
  where
    names : List (List ℕ)
    names = v.state.set.names

    e : List ℕ
    e = slice_index_or v.state.set.names i []

    lists : List (Option (List Fact))
    lists = queues v.state

    set_is : w.state.set ≡ v.state.set
    set_is = r.stands.set_is ∙ sym is.set_is

    name_is : slice_index_or w.state.set.names i [] ≡ e
    name_is = ap (λ (z : Setting). slice_index_or z.names i []) set_is

    went : Went w x late last (send_again p e w.state)
    went = subst (λ y. Went w x late last (send_again p y w.state)) name_is went_w

    told_are : for_each after (send_again p) (take i names) v.state ++ send_again p e w.state ≡ for_each after (send_again p) (take (i + 1) names) v.state
    told_are =
        let next : suc i ≡ i + 1 = omega arith in
        ap (λ st. for_each after (send_again p) (take i names) v.state ++ send_again p e st) r.went.node_is
        ∙ (sym (each_more after (send_again p) (take i names) e v.state)
        ∙ ap (λ es. for_each after (send_again p) es v.state) (sym (take-suc names i [] inside) ∙ ap (λ k. take k names) next))

    kept : IsSoundNode v.script (fold after w.state (send_again p e w.state))
    kept = (sends_again v.script vouches_all p e w.state (laws_of laws) script r.stands above).stands

    stands : IsSoundNode v.script x.state
    stands = subst (IsSoundNode v.script) (sym went.node_is) kept

    -- nothing was routed
    idle : (t n : ℕ) → send_again p e w.state ≡ [] → HasReleaseRoom n w t → HasReleaseRoom n x t
    idle t n none room =
        let same : x.state ≡ w.state = went.node_is ∙ ap (fold after w.state) none in
        same_room t n went.script_is (subst (λ (c : Script). IsSoundNode c w.state) (sym r.went.script_is) r.stands) (subst (λ (c : Script). IsSoundNode c x.state) (sym r.went.script_is) stands) (ap (λ (y : Node). y.entities) same)
        (went.rooms_are ∙ ap (fold (rooms_after (setting w.script)) w.rooms) none) room

    by : (t n : ℕ) → HasReleaseRoom (2 + (n + 2 * length (repeated_at lists v.state.set t (take (i + 1) names) p))) v t → (b : Bool) → repeats lists p e ≡ b → HasReleaseRoom (2 + n) x t
    by t n room false h =
        idle t (2 + n) (not_repeated p e w.state (ap (λ l. repeats l p e) r.lists_are ∙ h))
        (r.rooms t n (fewer_room (2 + (n + 2 * length (repeated_at lists v.state.set t (take (i + 1) names) p))) (2 + (n + 2 * length (repeated_at lists v.state.set t (take i names) p)))
        (let more = length-filter_more (λ y. repeats lists p y && (shard_of v.state.set y == t)) names i [] inside in omega (arith, more)) room))
    by t n room true h =
        rooms_w t n (subst (λ k. HasReleaseRoom (2 + (n + (if t == k then 2 else 0))) w t) (sym (ap₂ (λ (z : Setting) y. shard_of z y) set_is name_is))
        (r.rooms t (n + (if t == shard_of v.state.set e then 2 else 0)) (fewer_room (2 + (n + 2 * length (repeated_at lists v.state.set t (take (i + 1) names) p))) (2 + ((n + (if t == shard_of v.state.set e then 2 else 0)) + 2 * length (repeated_at lists v.state.set t (take i names) p)))
        (let more = length-filter_more (λ y. repeats lists p y && (shard_of v.state.set y == t)) names i [] inside in let one = one_at (t == shard_of v.state.set e) refl in omega (arith, more, one)) room)))
      where
        one_at : (b : Bool) → (t == shard_of v.state.set e) ≡ b → (if t == shard_of v.state.set e then 2 else 0) ≤ 2 * cond (repeats lists p e && (shard_of v.state.set e == t)) 1 0
        one_at true d =
            let same : (repeats lists p e && (shard_of v.state.set e == t)) ≡ true = both (repeats lists p e) (shard_of v.state.set e == t) h (number_itself (shard_of v.state.set e) t (sym (same_number t (shard_of v.state.set e) d))) in
            subst (λ b. (if t == shard_of v.state.set e then 2 else 0) ≤ 2 * cond b 1 0) (sym same) (subst (λ b. (if b then 2 else 0) ≤ 2) (sym d) (omega arith))
        one_at false d = subst (λ b. (if b then 2 else 0) ≤ 2 * cond (repeats lists p e && (shard_of v.state.set e == t)) 1 0) (sym d) (omega arith)

-- a name to which no number is repeated changes nothing
name_passed : {v w : Standing} {before late : Spared Item} (p i : ℕ) → TickLaws → IsScript v.script → IsSoundNode v.script v.state → 0 < p → i < length v.state.set.names → NamesSent p (take i v.state.set.names) v w before late
    → repeats (queues w.state) p (name_at w.state.set.names i) ≡ false → NamesSent p (take (i + 1) v.state.set.names) v w before late
name_passed {v} {w} {before} {late} p i laws script is above inside r idle =
    names_next p i laws script is above inside r
    (subst (Went w w late late) (sym (not_repeated p (name_at w.state.set.names i) w.state idle)) (went_nothing w late))
    (λ t n room. fewer_room (2 + (n + (if t == shard_of w.state.set (name_at w.state.set.names i) then 2 else 0))) (2 + n) (omega arith) room)

names_passed : {v w : Standing} {before late : Spared Item} (p i d : ℕ) → TickLaws → IsScript v.script → IsSoundNode v.script v.state → 0 < p → i + d ≤ length v.state.set.names → NamesSent p (take i v.state.set.names) v w before late
    → ((k : ℕ) → i ≤ k → k < i + d → repeats (queues w.state) p (name_at w.state.set.names k) ≡ false) → NamesSent p (take (i + d) v.state.set.names) v w before late
names_passed {v} {w} {before} {late} p i zero laws script is above within r idle = let same : i ≡ i + 0 = omega arith in subst (λ n. NamesSent p (take n v.state.set.names) v w before late) same r
names_passed {v} {w} {before} {late} p i (suc d) laws script is above within r idle =
    let same : (i + 1) + d ≡ i + suc d = omega arith in
    subst (λ n. NamesSent p (take n v.state.set.names) v w before late) same
    (names_passed p (i + 1) d laws script is above (omega (arith, within)) (name_passed p i laws script is above (omega (arith, within)) r (idle i (omega arith) (omega arith)))
    (λ k low high. idle k (omega (arith, low)) (omega (arith, high))))

-- up to the next name to which one is
pub names_reach : {v w : Standing} {before late : Spared Item} (p i j : ℕ) → TickLaws → IsScript v.script → IsSoundNode v.script v.state → 0 < p → NamesSent p (take i v.state.set.names) v w before late
    → IsNext (λ k. repeats (queues w.state) p (name_at w.state.set.names k)) i (length w.state.set.names) j → (j ≤ length v.state.set.names) × NamesSent p (take j v.state.set.names) v w before late
names_reach {v} {w} {before} {late} p i j laws script is above r next = (
  within,
  subst (λ n. NamesSent p (take n v.state.set.names) v w before late) there
      (names_passed p i (j - i) laws script is above (subst (λ n. n ≤ length v.state.set.names) (sym there) within) r (λ k low high. next.passed k low (subst (λ n. k < n) there high))),
)
  where
    set_is : w.state.set ≡ v.state.set
    set_is = r.stands.set_is ∙ sym is.set_is

    within : j ≤ length v.state.set.names
    within = subst (λ (z : Setting). j ≤ length z.names) set_is next.within

    there : i + (j - i) ≡ j
    there = let low = next.from_first in omega (arith, low)

-- the names stay, and so the place is within them
pub names_within : {v w : Standing} {before late : Spared Item} {es : List (List ℕ)} (p n : ℕ) → IsSoundNode v.script v.state → NamesSent p es v w before late → n ≤ length v.state.set.names → n ≤ length w.state.set.names
names_within {v} {w} p n is r within = subst (λ (z : Setting). n ≤ length z.names) (sym (r.stands.set_is ∙ sym is.set_is)) within

-- past the last name
pub names_over : {v w : Standing} {before late : Spared Item} (p i : ℕ) → NamesSent p (take i v.state.set.names) v w before late → length v.state.set.names ≤ i → NamesSent p v.state.set.names v w before late
names_over {v} {w} {before} {late} p i r over = subst (λ es. NamesSent p es v w before late) (take_all i v.state.set.names over) r

-- The producers, one after another.

pub producers_first : {v : Standing} (before : Spared Item) → IsSoundNode v.script v.state → ProducersSent 0 v v before before
producers_first {v} before is = record {
  went = went_nothing v before;
  stands = is;
  lists_are = refl;
  room = omega arith;
  rooms = λ t k room. fewer_room (2 + (k + 2 * 0)) (2 + k) (omega arith) room;
}

-- how many one producer more repeats
each_count : (f : ℕ → List (List ℕ)) (n : ℕ) → length (flat_map f (numbers 1 (n + 1))) ≡ length (flat_map f (numbers 1 n)) + length (f (n + 1))
each_count f n =
    let e : n + 1 ≡ suc n = omega arith in
    let d : 1 + n ≡ n + 1 = omega arith in
    ap (λ k. length (flat_map f (numbers 1 k))) e
    ∙ (ap (λ ns. length (flat_map f ns)) (numbers_more 1 n ∙ ap (λ k. numbers 1 n ++ k ∷ []) d)
    ∙ (ap length (flat_map-append f (numbers 1 n) ((n + 1) ∷ []))
    ∙ (length-append (flat_map f (numbers 1 n)) (f (n + 1) ++ []) ∙ ap (λ l. length (flat_map f (numbers 1 n)) + length l) (append-nil (f (n + 1))))))

pub producers_next : {v w x : Standing} {before late last : Spared Item} (n : ℕ) → IsSoundNode v.script v.state → ProducersSent n v w before late → NamesSent (n + 1) w.state.set.names w x late last → ProducersSent (n + 1) v x before last
producers_next {v} {w} {x} {before} {late} {last} n is r s = record {
  went = subst (Went v x before last) told_are (went_both (for_each after (λ p. for_each after (send_again p) names) (numbers 1 n) v.state) (for_each after (send_again (n + 1)) w.state.set.names w.state) r.went s.went);
  stands = subst (λ (c : Script). IsSoundNode c x.state) r.went.script_is s.stands;
  lists_are = s.lists_are ∙ r.lists_are;
  room =
      let first = r.room in
      let second = s.room in
      let same : length (repeated (queues w.state) w.state.set.names (n + 1)) ≡ length (repeated lists names (n + 1)) = ap₂ (λ l (z : Setting). length (repeated l z.names (n + 1))) r.lists_are set_is in
      let more = each_count (repeated lists names) n in
      omega (arith, first, second, same, more);
  rooms = λ t k room.
      let own : ℕ = length (repeated_at (queues w.state) w.state.set t w.state.set.names (n + 1)) in
      let same : own ≡ length (repeated_at lists v.state.set t names (n + 1)) = ap₂ (λ l (z : Setting). length (repeated_at l z t z.names (n + 1))) r.lists_are set_is in
      let more = each_count (repeated_at lists v.state.set t names) n in
      s.rooms t k (r.rooms t (k + 2 * own) (fewer_room (2 + (k + 2 * length (flat_map (repeated_at lists v.state.set t names) (numbers 1 (n + 1))))) (2 + ((k + 2 * own) + 2 * length (flat_map (repeated_at lists v.state.set t names) (numbers 1 n)))) (omega (arith, same, more)) room));
}
  where
    names : List (List ℕ)
    names = v.state.set.names

    lists : List (Option (List Fact))
    lists = queues v.state

    set_is : w.state.set ≡ v.state.set
    set_is = r.stands.set_is ∙ sym is.set_is

    told_are : for_each after (λ p. for_each after (send_again p) names) (numbers 1 n) v.state ++ for_each after (send_again (n + 1)) w.state.set.names w.state ≡ for_each after (λ p. for_each after (send_again p) names) (numbers 1 (n + 1)) v.state
    told_are =
        let next : suc n ≡ n + 1 = omega arith in
        let d : 1 + n ≡ n + 1 = omega arith in
        ap₂ (λ (z : Setting) st. for_each after (λ p. for_each after (send_again p) names) (numbers 1 n) v.state ++ for_each after (send_again (n + 1)) z.names st) set_is r.went.node_is
        ∙ (sym (each_more after (λ p. for_each after (send_again p) names) (numbers 1 n) (n + 1) v.state)
        ∙ ap (λ ps. for_each after (λ p. for_each after (send_again p) names) ps v.state) (ap (λ k. numbers 1 n ++ k ∷ []) (sym d) ∙ (sym (numbers_more 1 n) ∙ ap (numbers 1) next)))

-- the next producer is one of the script
pub producer_there : (c : Script) (n : ℕ) → n < c.config.producers → is_producer c (n + 1) ≡ true
producer_there c n less = both (nat_le 1 (n + 1)) (nat_le (n + 1) c.config.producers) (within 1 (n + 1) (omega arith)) (within (n + 1) c.config.producers (omega (arith, less)))

-- How many there are.

repeats_pair : TickLaws → (c : Script) (st : Node) → IsSoundNode c st → (p : ℕ) (e : List ℕ) → 1 ≤ p → repeats (queues st) p e ≡ true → list_any (is_pair p e) (pairs_in c.orders) ≡ true
repeats_pair laws c st is p e above h = by (at st.producers (p - 1)) refl (ap (λ o. option_map_or (λ list. nat_lt (confirmed e list) (queued e list)) o false) (sym (queue_at st.producers (p - 1))) ∙ h)
  where
    by : (o : Option Producer) → at st.producers (p - 1) ≡ o → option_map_or (λ list. nat_lt (confirmed e list) (queued e list)) (option_map (λ (k : Producer). k.entries) o) false ≡ true → list_any (is_pair p e) (pairs_in c.orders) ≡ true
    by None d k = absurd (true≢false (sym k))
    by (Some k) d some =
        let its : IsProducerAt c st.who p k = is.producers p k (omega (arith, above)) d in
        let less : confirmed e k.entries < queued e k.entries = below (confirmed e k.entries) (queued e k.entries) some in
        ap (λ q. list_any (is_pair q e) (pairs_in c.orders)) (sym its.number_is) ∙ queued_pair laws.sends c k its.stands e (omega (arith, less))

all_few : TickLaws → (c : Script) (st : Node) → IsSoundNode c st → (n : ℕ) → length (flat_map (repeated (queues st) st.set.names) (numbers 1 n)) ≤ length (pairs_in c.orders)
all_few laws c st is n = subst (λ (z : Setting). length (flat_map (repeated (queues st) z.names) (numbers 1 n)) ≤ length (pairs_in c.orders)) (sym is.set_is) (pairs_left c (repeats (queues st)) 1 n (repeats_pair laws c st is))

at_few : TickLaws → (c : Script) (st : Node) → IsSoundNode c st → (t n : ℕ) → length (flat_map (repeated_at (queues st) st.set t st.set.names) (numbers 1 n)) ≤ length (pairs_in c.orders)
at_few laws c st is t n = subst (λ (z : Setting). length (flat_map (repeated_at (queues st) z t z.names) (numbers 1 n)) ≤ length (pairs_in c.orders)) (sym is.set_is)
    (pairs_left c (λ p e. repeats (queues st) p e && (shard_of (setting c) e == t)) 1 n (λ p e above h. repeats_pair laws c st is p e above (and_both (repeats (queues st) p e) (shard_of (setting c) e == t) h).0))

each_few : (f : ℕ → List (List ℕ)) (m a n k : ℕ) → n ≤ k → ((p : ℕ) → length (f p) ≤ m) → length (flat_map f (numbers a n)) ≤ k * m
each_few f m a zero k less h = omega arith
each_few f m a (suc n) zero less h = absurd (omega (arith, less))
each_few f m a (suc n) (suc k) less h =
    let one = h a in
    let rest = each_few f m (a + 1) n k (omega (arith, less)) h in
    let all : length (f a ++ flat_map f (numbers (a + 1) n)) ≡ length (f a) + length (flat_map f (numbers (a + 1) n)) = length-append (f a) (flat_map f (numbers (a + 1) n)) in
    let e : suc k * m ≡ m + k * m = omega arith in
    omega (arith, one, rest, all, e)

named_few : (lists : List (Option (List Fact))) (set : Setting) (t n : ℕ) → n ≤ set.config.producers → length (flat_map (repeated_at lists set t set.names) (numbers 1 n)) ≤ set.config.producers * length (names_of set t)
named_few lists set t n less = each_few (repeated_at lists set t set.names) (length (names_of set t)) 1 n set.config.producers less
    (λ p. fewer_pass (λ e. repeats lists p e && (shard_of set e == t)) (λ e. shard_of set e == t) (λ e h. (and_both (repeats lists p e) (shard_of set e == t) h).1) set.names)

-- there is room for all of a shard
wanted : TickLaws → (c : Script) (st : Node) → IsScript c → IsSoundNode c st → (t n : ℕ) → n ≤ c.config.producers → 4 + 2 * length (flat_map (repeated_at (queues st) st.set t st.set.names) (numbers 1 n)) ≤ room_wanted c t
wanted laws c st script is t n less =
    let count : ℕ = length (flat_map (repeated_at (queues st) st.set t st.set.names) (numbers 1 n)) in
    let few : count ≤ 4000 = let one = at_few laws c st is t n in let two = few_pairs c script in omega (arith, one, two) in
    let named : count ≤ c.config.producers * length (names_of (setting c) t) = subst (λ (z : Setting). length (flat_map (repeated_at (queues st) z t z.names) (numbers 1 n)) ≤ c.config.producers * length (names_of (setting c) t)) (sym is.set_is) (named_few (queues st) (setting c) t n less) in
    let both_few : count ≤ min (c.config.producers * length (names_of (setting c) t)) 4000 = le-min named few in
    omega (arith, both_few)

-- there is room for the next producer
pub producers_room : {v w : Standing} {before late : Spared Item} (n : ℕ) → TickLaws → IsScript v.script → IsSoundNode v.script v.state → n < v.script.config.producers → ProducersSent n v w before late
    → ((t : ℕ) → HasReleaseRoom (room_wanted v.script t) v t) → 4 + 4 * length (pairs_in v.script.orders) ≤ before.spare
    → ((t : ℕ) → HasReleaseRoom (4 + 2 * length (repeated_at (queues w.state) w.state.set t w.state.set.names (n + 1))) w t) × (4 + 4 * length (repeated (queues w.state) w.state.set.names (n + 1)) ≤ late.spare)
producers_room {v} {w} {before} {late} n laws script is within r rooms room = (
  (λ t.
      let own : ℕ = length (repeated_at (queues w.state) w.state.set t w.state.set.names (n + 1)) in
      let same : own ≡ length (repeated_at lists v.state.set t names (n + 1)) = ap₂ (λ l (z : Setting). length (repeated_at l z t z.names (n + 1))) r.lists_are set_is in
      let more = each_count (repeated_at lists v.state.set t names) n in
      let few = wanted laws v.script v.state script is t (n + 1) (omega (arith, within)) in
      fewer_room (2 + (2 + 2 * own)) (4 + 2 * own) (omega arith)
      (r.rooms t (2 + 2 * own) (fewer_room (room_wanted v.script t) (2 + ((2 + 2 * own) + 2 * length (flat_map (repeated_at lists v.state.set t names) (numbers 1 n)))) (omega (arith, same, more, few)) (rooms t)))),
  (let spent = r.room in
      let same : length (repeated (queues w.state) w.state.set.names (n + 1)) ≡ length (repeated lists names (n + 1)) = ap₂ (λ l (z : Setting). length (repeated l z.names (n + 1))) r.lists_are set_is in
      let more = each_count (repeated lists names) n in
      let few = all_few laws v.script v.state is (n + 1) in
      omega (arith, spent, room, same, more, few)),
)
  where
    names : List (List ℕ)
    names = v.state.set.names

    lists : List (Option (List Fact))
    lists = queues v.state

    set_is : w.state.set ≡ v.state.set
    set_is = r.stands.set_is ∙ sym is.set_is

-- between two inputs there is room for all, of any shard
pub ready_all : {v : Standing} {spare : ℕ} → IsSoundNode v.script v.state → IsReady v spare → (t : ℕ) → HasReleaseRoom (room_wanted v.script t) v t
ready_all {v} {spare} is ready t = record {
  some = λ there. let wide = ready.rooms t there in omega (arith, wide);
  active = λ e named its active. ready.rooms t (active_hosted e is named its active);
}

-- By none of them a slot changes hands.

pair_still : (c : Script) (m : Meaning) (p : ℕ) (e : List ℕ) (st : Node) → TickLaws → IsScript c → IsSoundNode c st → 0 < p → list_all (is_still c m st) (send_again p e st) ≡ true
pair_still c m p e st laws script is above =
    let marks : List Act = of_producer p (λ k. map (pushed e) (to_repeat e k)) st in
    let mid : Node = fold after st marks in
    let stands : IsSoundNode c mid = (producer_node c vouches_all st p (λ k. map (pushed e) (to_repeat e k)) is (λ k g. repeat_node c vouches_all st p k e is above g)).stands in
    still_both c m st marks (route_numbers p e (to_repeat e) mid ++ []) is.entities.set_is (marks_still (at st.producers (p - 1)))
    (all_join (is_still c m mid) (route_numbers p e (to_repeat e) mid) [] (numbers_still c m p e (to_repeat e) mid (laws_of laws).routes laws.there script stands (λ k g. well k stands g)) refl)
  where
    each_mark : (ns : List ℕ) → list_all (is_still c m st) (map (by_producer p) (map (pushed e) ns)) ≡ true
    each_mark [] = refl
    each_mark (n ∷ ns) = each_mark ns

    marks_still : (o : Option Producer) → list_all (is_still c m st) (where_some (λ k. map (by_producer p) (map (pushed e) (to_repeat e k))) o) ≡ true
    marks_still None = refl
    marks_still (Some k) = each_mark (to_repeat e k)

    well : {mid : Node} (k : Producer) → IsSoundNode c mid → at mid.producers (p - 1) ≡ Some k → list_all (is_sent_well c e k) (to_repeat e k) ≡ true
    well {mid} k stands g = (laws.sends c k (stands.producers p k above g).stands).repeated_well e

pairs_calm : (c : Script) (m : Meaning) (p : ℕ) (es : List (List ℕ)) → TickLaws → IsScript c → 0 < p → IsCalm c m (λ p. for_each after (send_again p) es) p
pairs_calm c m p es laws script above st is = (
  each_still c m (send_again p) (λ e. true) (λ e good st is. (pair_still c m p e st laws script is above, (sends_again c vouches_all p e st (laws_of laws) script is above).stands)) es (all_true es) st is,
  (names_again c vouches_all p es st (laws_of laws) script is above).stands,
)
  where
    all_true : (es : List (List ℕ)) → list_all (λ e. true) es ≡ true
    all_true [] = refl
    all_true (e ∷ es) = all_true es

above_zero : (a n : ℕ) → 0 < a → list_all (λ p. nat_lt 0 p) (numbers a n) ≡ true
above_zero a zero h = refl
above_zero a (suc n) h = both (nat_lt 0 a) (list_all (λ p. nat_lt 0 p) (numbers (a + 1) n)) (is_below 0 a h) (above_zero (a + 1) n (omega (arith, h)))

producers_still : (c : Script) (m : Meaning) (es : List (List ℕ)) (n : ℕ) (st : Node) → TickLaws → IsScript c → IsSoundNode c st → list_all (is_still c m st) (for_each after (λ p. for_each after (send_again p) es) (numbers 1 n) st) ≡ true
producers_still c m es n st laws script is = each_still c m (λ p. for_each after (send_again p) es) (λ p. nat_lt 0 p) (λ p good. pairs_calm c m p es laws script (below 0 p good)) (numbers 1 n) (above_zero 1 n (omega arith)) st is

pub producers_gave : {v w : Standing} {before late : Spared Item} (n : ℕ) (m : Meaning) → TickLaws → IsScript v.script → IsSoundNode v.script v.state → Rests m v.script v.state → ProducersSent n v w before late
    → Gave v.script none (λ lists. for_each after (λ p. for_each after (send_again p) v.state.set.names) (numbers 1 n) v.state) (moment m v.state before.items) (moment m w.state late.items)
producers_gave {v} {w} {before} {late} n m laws script is rests r = went_gave m v w (for_each after (λ p. for_each after (send_again p) v.state.set.names) (numbers 1 n) v.state) before late is.entities.set_is
    (producers_still v.script m v.state.set.names n v.state laws script is) rests r.went

-- A tick, whole.

turns_assoc : {S M : Type 0} (f : S → M → S) (p q r : S → List M) (st : S) → in_turn f (in_turn f p q) r st ≡ in_turn f p (in_turn f q r) st
turns_assoc f p q r st =
    append_assoc (p st) (q (fold f st (p st))) (r (fold f st (p st ++ q (fold f st (p st)))))
    ∙ ap (λ s. p st ++ (q (fold f st (p st)) ++ r s)) (fold-append f st (p st) (q (fold f st (p st))))

-- of this setting
abbrev pairs_of : Setting → Rule
pairs_of set = for_each after (λ p. for_each after (send_again p) set.names) (producers set)

abbrev tick_of : Setting → SlotLists → Rule
tick_of set lists = all_in_turn (lead lists ∷ of_coordinator tick_coordinator ∷ of_region tick_region ∷ for_each after (start_again lists) (shards set) ∷ of_entities tick_entities ∷ pairs_of set ∷ [])

tick_is : (c : Script) (lists : SlotLists) (st : Node) → in_turn after (in_turn after (tick_members lists) (tick_shards c lists)) (pairs_of (setting c)) st ≡ tick_of (setting c) lists st
tick_is c lists st =
    let office : Rule = of_coordinator tick_coordinator in
    let asks_region : Rule = of_region tick_region in
    let begins : Rule = starts_again c.config.shards lists in
    let reminds : Rule = of_entities tick_entities in
    let sends : Rule = pairs_of (setting c) in
    let rest : Rule = in_turn after (tick_shards c lists) sends in
    let one : Node = fold after st (lead lists st) in
    let two : Node = fold after one (office one) in
    let three : Node = fold after two (asks_region two) in
    let four : Node = fold after three (begins three) in
    let five : Node = fold after four (reminds four) in
    turns_assoc after (tick_members lists) (tick_shards c lists) sends st
    ∙ (turns_assoc after (lead lists) (in_turn after office asks_region) rest st
    ∙ ap (λ acts. lead lists st ++ acts) (turns_assoc after office asks_region rest one
    ∙ ap (λ acts. office one ++ (asks_region two ++ acts)) (turns_assoc after begins reminds sends three
    ∙ ap (λ acts. begins three ++ (reminds four ++ acts)) (sym (append-nil (sends five))))))

lead_apart : (st : Node) (asked : Slot → Bool) → AsksShards asked → (s : Slot) → asks_lead st s ≡ true → asked s ≡ false
lead_apart st asked alone (slot.Shard t) h = absurd (true≢false (sym (and_both (is_to_lead st) false h).1))
lead_apart st asked alone (slot.Queue p) h = absurd (true≢false (sym (and_both (is_to_lead st) false h).1))
lead_apart st asked alone slot.Coordinator h = by (asked slot.Coordinator) refl
  where
    by : (b : Bool) → asked slot.Coordinator ≡ b → asked slot.Coordinator ≡ false
    by true e = absurd (true≢false (sym (alone slot.Coordinator e)))
    by false e = e

pub tick_gave : {v w x y : Standing} {m0 m1 m2 : Meaning} {before one two late : Spared Item} (k : ℕ) → TickLaws → IsScript v.script → IsSoundNode v.script v.state
    → Stepped 4499 (asks_lead v.state) (λ lists. tick_members lists v.state) v w m0 m1 before one
    → ((asked : (Slot → Bool)) × (AsksShards asked × Stepped k asked (λ lists. tick_shards w.script lists w.state) w x m1 m2 one two))
    → ProducersSent x.script.config.producers x y two late
    → (asked : (Slot → Bool)) × Gave v.script asked (λ lists. tick lists v.state) (moment m0 v.state before.items) (moment m2 y.state late.items)
tick_gave {v} {w} {x} {y} {m0} {m1} {m2} {before} {one} {two} {late} k laws script is first (asked, (alone, second)) third = (
  both_asked,
  gave_same v.script both_asked (λ lists. acts lists ++ pairs_of (setting v.script) (fold after v.state (acts lists))) (λ lists. tick lists v.state) (moment m0 v.state before.items) (moment m2 y.state late.items)
      (λ lists. tick_is v.script lists v.state ∙ ap (λ set. tick_of set lists v.state) (sym is.set_is))
      (gave_then v.script both_asked acts (λ lists. pairs_of (setting v.script)) (moment m0 v.state before.items) (moment m2 x.state two.items) (moment m2 y.state late.items) mid.gave last),
)
  where
    both_asked : Slot → Bool
    both_asked = either (asks_lead v.state) asked

    acts : SlotLists → List Act
    acts lists = in_turn after (tick_members lists) (tick_shards v.script lists) v.state

    mid : Stepped (4499 + k) (either (asks_lead v.state) asked) (λ lists. in_turn after (tick_members lists) (tick_shards v.script lists) v.state) v x m0 m2 before two
    mid = stepped_both 4499 k (asks_lead v.state) asked (λ lists. tick_members lists v.state) (λ lists. tick_shards v.script lists) (lead_apart v.state asked alone) alone first
        (subst (λ (c : Script). Stepped k asked (λ lists. tick_shards c lists w.state) w x m1 m2 one two) first.script_is second)

    same : for_each after (λ p. for_each after (send_again p) x.state.set.names) (numbers 1 x.script.config.producers) x.state ≡ pairs_of (setting v.script) x.state
    same = ap₂ (λ (z : Setting) (c : Script). for_each after (λ p. for_each after (send_again p) z.names) (numbers 1 c.config.producers) x.state) mid.stands.set_is mid.script_is

    last : Gave v.script none (λ lists. pairs_of (setting v.script) x.state) (moment m2 x.state two.items) (moment m2 y.state late.items)
    last = subst (λ acts. Gave v.script none (λ lists. acts) (moment m2 x.state two.items) (moment m2 y.state late.items)) same
        (subst (λ (c : Script). Gave c none (λ lists. for_each after (λ p. for_each after (send_again p) x.state.set.names) (numbers 1 x.script.config.producers) x.state) (moment m2 x.state two.items) (moment m2 y.state late.items)) mid.script_is
        (producers_gave x.script.config.producers m2 laws (subst IsScript (sym mid.script_is) script) (subst (λ (c : Script). IsSoundNode c x.state) (sym mid.script_is) mid.stands) (subst (λ (c : Script). Rests m2 c x.state) (sym mid.script_is) mid.gave.rests) third))
