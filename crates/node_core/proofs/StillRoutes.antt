-- Messages that are routed one after another: no slot changes hands by any of them, so they are still where the first is.
use Rattle.std.proofs.Common.{◌≡◌, ℕ, ◌-◌, List, [], ◌∷◌, ◌++◌, sym, subst, ◌∙◌, refl, true, false}
use Rattle.std.specs.Prelude.{Bool, ◌==◌, fold, Option, Some, None, if◌then◌else◌}
use Rattle.std.specs.List.{list_all}
use Rattle.yard_model.specs.declared.out.Item.{Item}
use Rattle.yard_model.specs.declared.packet.Message.{Message}
use Rattle.yard_model.specs.Entities as entities
use Rattle.yard_model.specs.Genuine.{is_genuine}
use Rattle.yard_model.specs.Move.{released}
use Rattle.yard_model.specs.Node.{Node, Act, by_region, by_entities, after, is_running, route, release, route_numbers}
use Rattle.yard_model.specs.Producer.{Producer, message_of}
use Rattle.yard_model.specs.Region.{is_routable, kept_of, route_away}
use Rattle.yard_model.specs.Script.{Script, IsScript, setting}
use Rattle.yard_model.specs.Setting.{shard_of}
use Rattle.yard_model.specs.Spared.{Spared}
use Rattle.yard_model.specs.Turns.{in_turn, for_each, where_some}
use Rattle.yard_model.specs.Words.{at}
use Rattle.plain_laws.proofs.Booleans.{and_both, both}
use Rattle.plain_laws.proofs.Lists.{all_join}
use Rattle.yard_laws.proofs.FreeLaws.{region_is_free}
use Rattle.actor_laws.specs.ProducerStands.{is_sent_well}
use Rattle.actor_laws.specs.RegionStands.{ShardsAreThere, is_kept_well}
use Rattle.node_laws.specs.NodeStands.{IsSoundNode}
use Rattle.node_laws.proofs.NodeMessages.{RouteLaws, routed_node, released_node}
use Rattle.node_laws.proofs.NodeKeeps.{NodeKeeps}
use Rattle.node_laws.proofs.NodeParts.{node_both}
use Rattle.shard_lease.specs.Meaning.{Meaning}
use Rattle.node_core.specs.Found.{none}
use Rattle.node_core.specs.Gave.{Gave, moment, is_local}
use Rattle.node_core.specs.Leased.{Rests}
use Rattle.node_core.specs.Standing.{Standing}
use Rattle.node_core.specs.Still.{is_of_shards, is_held_of, is_still}
use Rattle.node_core.specs.Went.{Went}
use Rattle.node_core.proofs.GiveLaws.{map_still, free_still}
use Rattle.node_core.proofs.PacketLaws.{delivers, route_here, route_there}
use Rattle.node_core.proofs.StepLaws.{went_gave}
use Rattle.node_core.proofs.StillLaws.{set_after, still_after, stills_after}

-- Acts after others.

step_before : (c : Script) (m : Meaning) (st : Node) (a : Act) (ys : List Act) → st.entities.set ≡ setting c → is_still c m st a ≡ true → list_all (is_still c m (after st a)) ys ≡ true → list_all (is_still c m st) ys ≡ true
step_before c m st a [] set h k = refl
step_before c m st a (y ∷ ys) set h k =
    let parts : (is_still c m (after st a) y ≡ true) × (list_all (is_still c m (after st a)) ys ≡ true) = and_both (is_still c m (after st a) y) (list_all (is_still c m (after st a)) ys) k in
    both (is_still c m st y) (list_all (is_still c m st) ys) (sym (still_after c m st a y set h) ∙ parts.0) (step_before c m st a ys set h parts.1)

-- acts that are still after still acts are still where these are
pub still_before : (c : Script) (m : Meaning) (st : Node) (xs ys : List Act) → st.entities.set ≡ setting c → list_all (is_still c m st) xs ≡ true → list_all (is_still c m (fold after st xs)) ys ≡ true → list_all (is_still c m st) ys ≡ true
still_before c m st [] ys set h k = k
still_before c m st (x ∷ xs) ys set h k =
    let parts : (is_still c m st x ≡ true) × (list_all (is_still c m st) xs ≡ true) = and_both (is_still c m st x) (list_all (is_still c m st) xs) h in
    step_before c m st x ys set parts.0 (still_before c m (after st x) xs ys (set_after c st x set) (stills_after c m st x xs set parts.0 parts.1) k)

pub still_both : (c : Script) (m : Meaning) (st : Node) (xs ys : List Act) → st.entities.set ≡ setting c → list_all (is_still c m st) xs ≡ true → list_all (is_still c m (fold after st xs)) ys ≡ true → list_all (is_still c m st) (xs ++ ys) ≡ true
still_both c m st xs ys set h k = all_join (is_still c m st) xs ys h (still_before c m st xs ys set h k)

-- a rule for each, that is still and keeps the node sound
abbrev pub IsCalm : {A : Type 0} → Script → Meaning → (A → Node → List Act) → A → Type 0
IsCalm c m f x = (st : Node) → IsSoundNode c st → (list_all (is_still c m st) (f x st) ≡ true) × IsSoundNode c (fold after st (f x st))

pub each_still : {A : Type 0} (c : Script) (m : Meaning) (f : A → Node → List Act) (good : A → Bool) → ((x : A) → good x ≡ true → IsCalm c m f x) → (xs : List A) → list_all good xs ≡ true → (st : Node) → IsSoundNode c st
    → list_all (is_still c m st) (for_each after f xs st) ≡ true
each_still c m f good calm [] h st sound = refl
each_still c m f good calm (x ∷ xs) h st sound =
    let parts : (good x ≡ true) × (list_all good xs ≡ true) = and_both (good x) (list_all good xs) h in
    let first : (list_all (is_still c m st) (f x st) ≡ true) × IsSoundNode c (fold after st (f x st)) = calm x parts.0 st sound in
    still_both c m st (f x st) (for_each after f xs (fold after st (f x st))) sound.entities.set_is first.0 (each_still c m f good calm xs parts.1 (fold after st (f x st)) first.1)

-- A message.

pub routed_still : (c : Script) (m : Meaning) (st : Node) (x : Message) → ShardsAreThere → IsScript c → IsSoundNode c st → list_all (is_still c m st) (route x st) ≡ true
routed_still c m st x there script sound = by (is_local x st) refl
  where
    by : (b : Bool) → is_local x st ≡ b → list_all (is_still c m st) (route x st) ≡ true
    by true e = subst (λ acts. list_all (is_still c m st) acts ≡ true) (route_here x st e) (map_still c m st by_entities (is_held_of c st is_of_shards) (λ y. refl) (entities.deliver x st.entities) (delivers c m st there script sound x e))
    by false e = subst (λ acts. list_all (is_still c m st) acts ≡ true) (route_there x st e) (free_still c m st (route_away x st.region) ((region_is_free st.region).routed x))

pub routed_calm : (c : Script) (m : Meaning) (x : Message) → RouteLaws → ShardsAreThere → IsScript c → is_genuine c x ≡ true → IsCalm c m route x
routed_calm c m x laws there script good st sound = (routed_still c m st x there script sound, (routed_node c m.vouches st x laws script sound good).stands)

-- The numbers of a producer.

pub numbers_still : (c : Script) (m : Meaning) (p : ℕ) (e : List ℕ) (f : Producer → List ℕ) (st : Node) → RouteLaws → ShardsAreThere → IsScript c → IsSoundNode c st
    → ((k : Producer) → at st.producers (p - 1) ≡ Some k → list_all (is_sent_well c e k) (f k) ≡ true) → list_all (is_still c m st) (route_numbers p e f st) ≡ true
numbers_still c m p e f st laws there script sound good = by (at st.producers (p - 1)) refl
  where
    calm : (k : Producer) (n : ℕ) → is_sent_well c e k n ≡ true → IsCalm c m (λ n. route (message_of e k n)) n
    calm k n well = routed_calm c m (message_of e k n) laws there script well

    by : (o : Option Producer) → at st.producers (p - 1) ≡ o → list_all (is_still c m st) (where_some (λ k. for_each after (λ n. route (message_of e k n)) (f k) st) o) ≡ true
    by None h = refl
    by (Some k) h = each_still c m (λ n. route (message_of e k n)) (is_sent_well c e k) (calm k) (f k) (good k h) st sound

-- Release.

abbrev pub release_of : ℕ → Message → Node → List Act
release_of s x = in_turn after (λ st. by_region (released s) ∷ []) (route x)

released_calm : (c : Script) (m : Meaning) (s : ℕ) (x : Message) → RouteLaws → ShardsAreThere → IsScript c → is_genuine c x ≡ true → IsCalm c m (release_of s) x
released_calm c m s x laws there script good st sound =
    let takes : List Act = by_region (released s) ∷ [] in
    let first : NodeKeeps c m.vouches st takes = released_node c m.vouches s st laws script sound in
    let mid : Node = after st (by_region (released s)) in
    let last : NodeKeeps c m.vouches mid (route x mid) = routed_node c m.vouches mid x laws script first.stands good in
    (still_both c m st takes (route x mid) sound.entities.set_is refl (routed_still c m mid x there script first.stands), (node_both c m.vouches st takes (route x mid) first last).stands)

pub release_still : (c : Script) (m : Meaning) (s : ℕ) (st : Node) → RouteLaws → ShardsAreThere → IsScript c → IsSoundNode c st → list_all (is_still c m st) (release s st) ≡ true
release_still c m s st laws there script sound = by (is_routable st.region s (is_running st s))
  where
    calm : (x : Message) → is_kept_well c st.region.set s x ≡ true → IsCalm c m (release_of s) x
    calm x well = released_calm c m s x laws there script (and_both (is_genuine c x) (shard_of st.region.set x.entity == s) well).0

    by : (b : Bool) → list_all (is_still c m st) (if b then for_each after (release_of s) (kept_of st.region.kept s) st else []) ≡ true
    by true = each_still c m (release_of s) (is_kept_well c st.region.set s) calm (kept_of st.region.kept s) (sound.region.kept_are s) st sound
    by false = refl

pub released_gave : (m : Meaning) (v w : Standing) (s : ℕ) (before late : Spared Item) → RouteLaws → ShardsAreThere → IsScript v.script → IsSoundNode v.script v.state → Rests m v.script v.state
    → Went v w before late (release s v.state) → Gave v.script none (λ lists. release s v.state) (moment m v.state before.items) (moment m w.state late.items)
released_gave m v w s before late laws there script sound rests went = went_gave m v w (release s v.state) before late sound.entities.set_is (release_still v.script m s v.state laws there script sound) rests went
