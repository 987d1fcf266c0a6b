-- Rules of the region, the entities and the shards leave the producers as they are.
use Rattle.std.proofs.Common.{◌≡◌, ℕ, List, [], ◌∷◌, ◌++◌, map, sym, ap, ◌∙◌, refl, true, false, true≢false}
use Rattle.std.specs.Prelude.{Bool, ◌&&◌, not, fold, Option, if◌then◌else◌}
use Rattle.std.specs.List.{list_all}
use Rattle.yard_model.specs.declared.packet.Body.TheVariants as body
use Rattle.yard_model.specs.declared.packet.Message.{Message}
use Rattle.yard_model.specs.declared.incarnation.Incarnation.{Incarnation}
use Rattle.yard_model.specs.declared.incarnation.Slot.TheVariants as slot
use Rattle.yard_model.specs.declared.incarnation.Stamp.{Stamp}
use Rattle.yard_model.specs.Entities as entities
use Rattle.yard_model.specs.Move.{Move, released, post}
use Rattle.yard_model.specs.Node.{Node, Act, by_region, by_entities, by_producer, by_coordinator, after, items_of, of_region, of_entities, is_running, route, release, acquire, start, start_again, shard_home, host_shard, hand_off}
use Rattle.yard_model.specs.Producer.{Producer}
use Rattle.yard_model.specs.Queries.{Known}
use Rattle.yard_model.specs.Region as region
use Rattle.yard_model.specs.Setting.{shard_of}
use Rattle.yard_model.specs.SlotLists.{SlotLists, shard_list}
use Rattle.yard_model.specs.Turns.{in_turn, for_each}
use Rattle.plain_laws.proofs.Booleans.{and_both}
use Rattle.plain_laws.proofs.Lists.{all_join, all_if}
use Rattle.query_laws.specs.Shown.{shown}
use Rattle.query_laws.proofs.ShowBase.{AreShownFrom, with_producers}

abbrev pub is_apart : Act → Bool
is_apart (by_producer p m) = false
is_apart a = true

one_apart : (st : Node) (a : Act) → is_apart a ≡ true → (after st a).producers ≡ st.producers
one_apart st (by_region m) h = refl
one_apart st (by_entities m) h = refl
one_apart st (by_producer p m) h = absurd (true≢false (sym h))
one_apart st (by_coordinator m) h = refl

pub producers_stay : (st : Node) (acts : List Act) → list_all is_apart acts ≡ true → (fold after st acts).producers ≡ st.producers
producers_stay st [] h = refl
producers_stay st (a ∷ acts) h =
    let n : (is_apart a ≡ true) × (list_all is_apart acts ≡ true) = and_both (is_apart a) (list_all is_apart acts) h in
    producers_stay (after st a) acts n.1 ∙ one_apart st a n.0

-- what is shown whatever the producers have been shown, is shown with the node's own
pub own_shown : (k : Known) (now st : Node) (acts : List Act) → ((ps : List (Option Producer)) → shown k (with_producers ps now) (items_of acts) ≡ with_producers ps (fold after st acts)) → now.producers ≡ st.producers → list_all is_apart acts ≡ true → AreShownFrom k now st acts
own_shown k now st acts f same h =
    let later : Node = fold after st acts in
    ap (λ ps. shown k (with_producers ps now) (items_of acts)) (same ∙ sym (producers_stay st acts h)) ∙ f later.producers

pub region_apart : (ms : List Move) → list_all is_apart (map by_region ms) ≡ true
region_apart [] = refl
region_apart (m ∷ ms) = region_apart ms

pub entities_apart : (ms : List Move) → list_all is_apart (map by_entities ms) ≡ true
entities_apart [] = refl
entities_apart (m ∷ ms) = entities_apart ms

pub coordinator_apart : (ms : List Move) → list_all is_apart (map by_coordinator ms) ≡ true
coordinator_apart [] = refl
coordinator_apart (m ∷ ms) = coordinator_apart ms

pub route_apart : (m : Message) (st : Node) → list_all is_apart (route m st) ≡ true
route_apart m st =
    let s : ℕ = shard_of st.set m.entity in
    all_if is_apart (region.is_home st.region s && is_running st s) (of_entities (entities.deliver m) st) (of_region (region.route_away m) st) (entities_apart (entities.deliver m st.entities)) (region_apart (region.route_away m st.region))

releases_apart : (s : ℕ) (ms : List Message) (st : Node) → list_all is_apart (for_each after (λ m. in_turn after (λ st. by_region (released s) ∷ []) (route m)) ms st) ≡ true
releases_apart s [] st = refl
releases_apart s (m ∷ ms) st =
    let mid : Node = after st (by_region (released s)) in
    all_join is_apart (route m mid) (for_each after (λ m. in_turn after (λ st. by_region (released s) ∷ []) (route m)) ms (fold after mid (route m mid))) (route_apart m mid) (releases_apart s ms (fold after mid (route m mid)))

pub release_apart : (s : ℕ) (st : Node) → list_all is_apart (release s st) ≡ true
release_apart s st = all_if is_apart (region.is_routable st.region s (is_running st s)) (for_each after (λ m. in_turn after (λ st. by_region (released s) ∷ []) (route m)) (region.kept_of st.region.kept s) st) []
    (releases_apart s (region.kept_of st.region.kept s) st) refl

pub start_apart : (lists : SlotLists) (s : ℕ) (st : Node) → list_all is_apart (start lists s st) ≡ true
start_apart lists s st =
    let asks : List Move = acquire (slot.Shard s) st.who (shard_list lists s) in
    let mid : Node = fold after st (map by_entities asks) in
    all_if is_apart (entities.is_hosted st.entities s) [] (map by_entities asks ++ of_entities (entities.start_remembered s) mid) refl
    (all_join is_apart (map by_entities asks) (of_entities (entities.start_remembered s) mid) (entities_apart asks) (entities_apart (entities.start_remembered s mid.entities)))

-- and at the end the kept messages are released
last_apart : (s : ℕ) (st : Node) → list_all is_apart (release s st ++ []) ≡ true
last_apart s st = all_join is_apart (release s st) [] (release_apart s st) refl

pub again_apart : (lists : SlotLists) (s : ℕ) (st : Node) → list_all is_apart (start_again lists s st) ≡ true
again_apart lists s st =
    let mid : Node = fold after st (start lists s st) in
    all_if is_apart (region.is_home st.region s && not (entities.is_hosted st.entities s)) (start lists s st ++ (release s mid ++ [])) []
    (all_join is_apart (start lists s st) (release s mid ++ []) (start_apart lists s st) (last_apart s mid)) refl

pub agains_apart : (lists : SlotLists) (ss : List ℕ) (st : Node) → list_all is_apart (for_each after (start_again lists) ss st) ≡ true
agains_apart lists [] st = refl
agains_apart lists (s ∷ ss) st =
    let acts : List Act = start_again lists s st in
    all_join is_apart acts (for_each after (start_again lists) ss (fold after st acts)) (again_apart lists s st) (agains_apart lists ss (fold after st acts))

pub shard_home_apart : (lists : SlotLists) (s : ℕ) (h : Incarnation) (stamp : Stamp) (st : Node) → list_all is_apart (shard_home lists s h stamp st) ≡ true
shard_home_apart lists s h stamp st =
    let first : List Act = of_region (region.learn s h stamp) st in
    let mid : Node = fold after st first in
    let begin : List Act = if region.is_home mid.region s then start lists s mid else [] in
    let later : Node = fold after mid begin in
    all_if is_apart (region.takes_home s h stamp st.region) (first ++ (begin ++ (release s later ++ []))) []
    (all_join is_apart first (begin ++ (release s later ++ [])) (region_apart (region.learn s h stamp st.region))
    (all_join is_apart begin (release s later ++ []) (all_if is_apart (region.is_home mid.region s) (start lists s mid) [] (start_apart lists s mid) refl) (last_apart s later))) refl

pub host_shard_apart : (lists : SlotLists) (s : ℕ) (stamp : Stamp) (from : Incarnation) (st : Node) → list_all is_apart (host_shard lists s stamp from st) ≡ true
host_shard_apart lists s stamp from st =
    let first : List Act = of_region (region.learn s st.who stamp) st in
    let mid : Node = fold after st first in
    let begin : List Act = start lists s mid in
    let later : Node = fold after mid begin in
    let answers : List Act = of_region (λ r. post r.who from (body.ShardStarted s) ∷ []) later in
    let last : Node = fold after later answers in
    all_if is_apart (region.takes_host s stamp st.region) (first ++ (begin ++ (answers ++ (release s last ++ [])))) []
    (all_join is_apart first (begin ++ (answers ++ (release s last ++ []))) (region_apart (region.learn s st.who stamp st.region))
    (all_join is_apart begin (answers ++ (release s last ++ [])) (start_apart lists s mid) (all_join is_apart answers (release s last ++ []) refl (last_apart s last)))) refl

pub hand_off_apart : (s : ℕ) (stamp : Stamp) (from : Incarnation) (st : Node) → list_all is_apart (hand_off s stamp from st) ≡ true
hand_off_apart s stamp from st =
    let stops : List Act = if entities.is_hosted st.entities s then of_entities (entities.hand_off s stamp from) st else by_region (post st.who from (body.ShardStopped s stamp)) ∷ [] in
    all_if is_apart (region.takes_hand_off s stamp st.region) stops []
    (all_if is_apart (entities.is_hosted st.entities s) (of_entities (entities.hand_off s stamp from) st) (by_region (post st.who from (body.ShardStopped s stamp)) ∷ []) (entities_apart (entities.hand_off s stamp from st.entities)) refl) refl
