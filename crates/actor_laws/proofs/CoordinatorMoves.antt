-- The moves of a coordinator: which are allowed where they stand, and what those keep.
use Rattle.std.proofs.Common.{◌≡◌, sym, ap, ◌∙◌, refl}
use Rattle.std.specs.Prelude.{Bool, true, false, ◌==◌, ◌&&◌, not, cond, List, [], ◌∷◌, ◌++◌, map, filter, fold, Option, Some, None, is_some, is_none, if◌then◌else◌}
use Rattle.std.specs.List.{list_all, flat_map}
use Rattle.std.proofs.lemmas.List.Sums.{fold-append}
use Rattle.yard_model.specs.declared.fact.Fact.{Fact}
use Rattle.yard_model.specs.declared.fact.Fact.TheVariants as fact
use Rattle.yard_model.specs.declared.out.Item.TheVariants as item
use Rattle.yard_model.specs.declared.incarnation.Incarnation.{Incarnation}
use Rattle.yard_model.specs.declared.incarnation.Slot.TheVariants as slot
use Rattle.yard_model.specs.Script.{Script}
use Rattle.yard_model.specs.Genuine.{is_node, is_shard}
use Rattle.yard_model.specs.Lawful.{own, may_follow}
use Rattle.yard_model.specs.SlotReads.{holder, regions, allocation, allocation_step}
use Rattle.yard_model.specs.Words.{is_same, is_at, is_among, is_stamp}
use Rattle.yard_model.specs.Move.{Move, made, quits, started, acknowledged, item_of}
use Rattle.yard_model.specs.Coordinator.{Coordinator, Moving, coordinator_after, coordinator_step, quitting_step, moving_step, not_awaited, stamp_of}
use Rattle.yard_model.proofs.FollowLaws.{own_more}
use Rattle.plain_laws.proofs.Booleans.{true_is_not_false, and_both, both, of_not, same_number, number_itself, all_map, all_filter}
use Rattle.plain_laws.proofs.Members.{same_is, itself_is}
use Rattle.plain_laws.proofs.Lists.{all_join}
use Rattle.yard_laws.specs.Free.{is_free_move}
use Rattle.yard_laws.proofs.Live.{holder_more}
use Rattle.yard_laws.proofs.LostLaws.{free_keeps, entries_after}
use Rattle.actor_laws.specs.Owes.{facts_in, is_own_post}
use Rattle.actor_laws.specs.Moves.{is_own_move, facts_of}
use Rattle.actor_laws.specs.CoordinatorStands.{is_owned, is_sound_moving, IsGoodCoordinator, is_coordinator_fact, entered, KeepsCoordinator}
use Rattle.actor_laws.proofs.EntitiesMoves.{facts_append}
use Rattle.actor_laws.proofs.CoordinatorReads.{allocation_more, allocated_of, regions_are_nodes}

-- Lists that are picked from and mapped.

pub all_of_map : {X Y : Type 0} (p : Y → Bool) (f : X → Y) (xs : List X) → list_all (λ x. p (f x)) xs ≡ true → list_all p (map f xs) ≡ true
all_of_map p f [] e = refl
all_of_map p f (x ∷ xs) e =
    let m : (p (f x) ≡ true) × (list_all (λ x. p (f x)) xs ≡ true) = and_both (p (f x)) (list_all (λ x. p (f x)) xs) e in
    both (p (f x)) (list_all p (map f xs)) m.0 (all_of_map p f xs m.1)

pub all_picked : {X : Type 0} (p q pick : X → Bool) → ((x : X) → p x ≡ true → pick x ≡ true → q x ≡ true) → (xs : List X) → list_all p xs ≡ true → list_all q (filter pick xs) ≡ true
all_picked p q pick h [] e = refl
all_picked {X} p q pick h (x ∷ xs) e = step (pick x) refl (all_picked p q pick h xs (and_both (p x) (list_all p xs) e).1)
  where
    step : (b : Bool) → pick x ≡ b → list_all q (filter pick xs) ≡ true → list_all q (cond b (x ∷ filter pick xs) (filter pick xs)) ≡ true
    step true t rest = both (q x) (list_all q (filter pick xs)) (h x (and_both (p x) (list_all p xs) e).0 t) rest
    step false t rest = rest

-- Moves where they stand.

-- a coordinator with this list may move so: an entry may follow, a shard that moves has a home, and what is posted is its own
abbrev pub is_allowed : Script → Incarnation → List Fact → Move → Bool
is_allowed c who list (made (item.Fact (fact.Registered r))) = may_follow c slot.Coordinator list (fact.Registered r)
is_allowed c who list (made (item.Fact (fact.Terminated r))) = may_follow c slot.Coordinator list (fact.Terminated r)
is_allowed c who list (made (item.Fact (fact.Allocated s r))) = may_follow c slot.Coordinator list (fact.Allocated s r)
is_allowed c who list (made (item.Fact (fact.Deallocated s))) = may_follow c slot.Coordinator list (fact.Deallocated s)
is_allowed c who list (made (item.Fact (fact.Moving s stamp))) = is_shard c s && is_some (allocation s list)
is_allowed c who list (made (item.Fact fact.Nothing)) = true
is_allowed c who list (made (item.Post p)) = is_own_post c who (item.Post p)
is_allowed c who list (quits r) = is_node c r
is_allowed c who list (started s) = true
is_allowed c who list (acknowledged s r) = true
is_allowed c who list m = false

-- each is allowed where those before it count
abbrev pub goes : Script → Incarnation → List Fact → List Move → Bool
goes c who list [] = true
goes c who list (m ∷ ms) = is_allowed c who list m && goes c who (coordinator_step list m) ms

pub goes_join : (c : Script) (who : Incarnation) (list : List Fact) (xs ys : List Move) → goes c who list xs ≡ true → goes c who (fold coordinator_step list xs) ys ≡ true → goes c who list (xs ++ ys) ≡ true
goes_join c who list [] ys e f = f
goes_join c who list (m ∷ ms) ys e f =
    let n : (is_allowed c who list m ≡ true) × (goes c who (coordinator_step list m) ms ≡ true) = and_both (is_allowed c who list m) (goes c who (coordinator_step list m) ms) e in
    both (is_allowed c who list m) (goes c who (coordinator_step list m) (ms ++ ys)) n.0 (goes_join c who (coordinator_step list m) ms ys n.1 f)

-- Moves that enter nothing.

-- it is allowed, and leaves the list
abbrev pub is_quiet : Script → Incarnation → List Fact → Move → Bool
is_quiet c who list m = is_free_move m && is_allowed c who list m

pub quiet_keeps : (c : Script) (who : Incarnation) (list : List Fact) (ms : List Move) → list_all (is_quiet c who list) ms ≡ true → fold coordinator_step list ms ≡ list
quiet_keeps c who list [] e = refl
quiet_keeps c who list (m ∷ ms) e =
    let n : (is_quiet c who list m ≡ true) × (list_all (is_quiet c who list) ms ≡ true) = and_both (is_quiet c who list m) (list_all (is_quiet c who list) ms) e in
    ap (λ l. fold coordinator_step l ms) (free_keeps list m (and_both (is_free_move m) (is_allowed c who list m) n.0).0) ∙ quiet_keeps c who list ms n.1

pub quiet_goes : (c : Script) (who : Incarnation) (list : List Fact) (ms : List Move) → list_all (is_quiet c who list) ms ≡ true → goes c who list ms ≡ true
quiet_goes c who list [] e = refl
quiet_goes c who list (m ∷ ms) e =
    let n : (is_quiet c who list m ≡ true) × (list_all (is_quiet c who list) ms ≡ true) = and_both (is_quiet c who list m) (list_all (is_quiet c who list) ms) e in
    let k : (is_free_move m ≡ true) × (is_allowed c who list m ≡ true) = and_both (is_free_move m) (is_allowed c who list m) n.0 in
    both (is_allowed c who list m) (goes c who (coordinator_step list m) ms) k.1 (ap (λ l. goes c who l ms) (free_keeps list m k.0) ∙ quiet_goes c who list ms n.1)

-- What one move keeps.

own_one : (c : Script) (who : Incarnation) (list : List Fact) (m : Move) → own c slot.Coordinator list ≡ true → is_allowed c who list m ≡ true → own c slot.Coordinator (coordinator_step list m) ≡ true
own_one c who list (made (item.Fact (fact.Registered r))) o h = own_more c slot.Coordinator list (fact.Registered r) o h
own_one c who list (made (item.Fact (fact.Terminated r))) o h = own_more c slot.Coordinator list (fact.Terminated r) o h
own_one c who list (made (item.Fact (fact.Allocated s r))) o h = own_more c slot.Coordinator list (fact.Allocated s r) o h
own_one c who list (made (item.Fact (fact.Deallocated s))) o h = own_more c slot.Coordinator list (fact.Deallocated s) o h
own_one c who list m o h = o

held_one : (list : List Fact) (m : Move) → holder (coordinator_step list m) ≡ holder list
held_one list (made (item.Fact (fact.Registered r))) = holder_more list (fact.Registered r)
held_one list (made (item.Fact (fact.Terminated r))) = holder_more list (fact.Terminated r)
held_one list (made (item.Fact (fact.Allocated s r))) = holder_more list (fact.Allocated s r)
held_one list (made (item.Fact (fact.Deallocated s))) = holder_more list (fact.Deallocated s)
held_one list m = refl

quitting_one : (c : Script) (who : Incarnation) (list : List Fact) (old : List Incarnation) (m : Move) → list_all (is_node c) old ≡ true → is_allowed c who list m ≡ true → list_all (is_node c) (quitting_step old m) ≡ true
quitting_one c who list old (quits r) e h = step (is_among r old)
  where
    step : (b : Bool) → list_all (is_node c) (if b then old else old ++ r ∷ []) ≡ true
    step true = e
    step false = all_join (is_node c) old (r ∷ []) e (both (is_node c r) true h refl)
quitting_one c who list old m e h = e

-- Shards that move.

-- what the test of a shard that moves says
pub record SoundMoving (c : Script) (list : List Fact) (x : Moving) : Type 0 where
  pub shard_is : is_shard c x.shard ≡ true
  pub owner_is : is_owned x.owner (allocation x.shard list) ≡ true
  pub awaited_are : list_all (is_node c) x.awaited ≡ true

pub moving_of : (c : Script) (list : List Fact) (x : Moving) → is_sound_moving c list x ≡ true → SoundMoving c list x
moving_of c list x e =
    let m : ((is_shard c x.shard && is_owned x.owner (allocation x.shard list)) ≡ true) × (list_all (is_node c) x.awaited ≡ true) = and_both (is_shard c x.shard && is_owned x.owner (allocation x.shard list)) (list_all (is_node c) x.awaited) e in
    let n : (is_shard c x.shard ≡ true) × (is_owned x.owner (allocation x.shard list) ≡ true) = and_both (is_shard c x.shard) (is_owned x.owner (allocation x.shard list)) m.0 in
    record { shard_is = n.0; owner_is = n.1; awaited_are = m.1 }

sound_by : (c : Script) (list : List Fact) (x : Moving) → is_shard c x.shard ≡ true → is_owned x.owner (allocation x.shard list) ≡ true → list_all (is_node c) x.awaited ≡ true → is_sound_moving c list x ≡ true
sound_by c list x e f g = both (is_shard c x.shard && is_owned x.owner (allocation x.shard list)) (list_all (is_node c) x.awaited) (both (is_shard c x.shard) (is_owned x.owner (allocation x.shard list)) e f) g

-- an entry more that leaves its home
still_moving : (c : Script) (list : List Fact) (f : Fact) (x : Moving) → is_owned x.owner (allocation_step x.shard (allocation x.shard list) f) ≡ true → is_sound_moving c list x ≡ true → is_sound_moving c (list ++ f ∷ []) x ≡ true
still_moving c list f x owned e =
    let k : SoundMoving c list x = moving_of c list x e in
    sound_by c (list ++ f ∷ []) x k.shard_is (ap (is_owned x.owner) (allocation_more x.shard list f) ∙ owned) k.awaited_are

fewer_awaited : (c : Script) (list : List Fact) (r : Incarnation) (x : Moving) → is_sound_moving c list x ≡ true → is_sound_moving c list (not_awaited r x) ≡ true
fewer_awaited c list r x e =
    let k : SoundMoving c list x = moving_of c list x e in
    sound_by c list (not_awaited r x) k.shard_is k.owner_is (all_filter (is_node c) (λ y. not (is_same r y)) x.awaited k.awaited_are)

-- whose owner isn't terminated
owned_on : (r : Incarnation) (owner home : Option Incarnation) → is_at r owner ≡ false → is_owned owner home ≡ true → is_owned owner (if is_at r home then None else home) ≡ true
owned_on r None home e h = absurd (true_is_not_false (sym h))
owned_on r (Some x) None e h = h
owned_on r (Some x) (Some y) e h = ap (λ (b : Bool). is_owned (Some x) (if b then None else Some y)) (sym (ap (is_same r) (same_is x y h)) ∙ e) ∙ h

-- the owner of a shard that moves is its home
pub owner_home : (owner home : Option Incarnation) → is_owned owner home ≡ true → owner ≡ home
owner_home None home e = absurd (true_is_not_false (sym e))
owner_home (Some x) None e = absurd (true_is_not_false (sym e))
owner_home (Some x) (Some y) e = ap (λ z. Some z) (same_is x y e)

-- an owned shard has a home
pub owned_some : (owner home : Option Incarnation) → is_owned owner home ≡ true → is_some home ≡ true
owned_some None home e = absurd (true_is_not_false (sym e))
owned_some (Some x) None e = absurd (true_is_not_false (sym e))
owned_some (Some x) (Some y) e = refl

some_none : (o : Option Incarnation) → is_some o ≡ true → is_none o ≡ true → true ≡ false
some_none None e f = sym e
some_none (Some x) e f = sym f

-- a home is its own owner
pub home_owned : (o : Option Incarnation) → is_some o ≡ true → is_owned o o ≡ true
home_owned None e = absurd (true_is_not_false (sym e))
home_owned (Some x) e = itself_is x x refl

moving_one : (c : Script) (st : Coordinator) (m : Move) → own c slot.Coordinator st.entries ≡ true → list_all (is_sound_moving c st.entries) st.moving ≡ true → is_allowed c st.who st.entries m ≡ true
    → list_all (is_sound_moving c (coordinator_step st.entries m)) (moving_step st m) ≡ true
moving_one c st (made (item.Fact (fact.Registered r))) o e h =
    all_map (is_sound_moving c st.entries) (is_sound_moving c (st.entries ++ fact.Registered r ∷ [])) (λ x f. let k : SoundMoving c st.entries x = moving_of c st.entries x f in still_moving c st.entries (fact.Registered r) x k.owner_is f) st.moving e
moving_one c st (made (item.Fact (fact.Terminated r))) o e h =
    let list : List Fact = st.entries ++ fact.Terminated r ∷ [] in
    all_of_map (is_sound_moving c list) (not_awaited r) (filter (λ (x : Moving). not (is_at r x.owner)) st.moving)
    (all_picked (is_sound_moving c st.entries) (λ x. is_sound_moving c list (not_awaited r x)) (λ x. not (is_at r x.owner))
    (λ x f pick. let k : SoundMoving c st.entries x = moving_of c st.entries x f in
    fewer_awaited c list r x (still_moving c st.entries (fact.Terminated r) x (owned_on r x.owner (allocation x.shard st.entries) (of_not (is_at r x.owner) pick) k.owner_is) f)) st.moving e)
moving_one c st (made (item.Fact (fact.Allocated s r))) o e h =
    all_map (is_sound_moving c st.entries) (is_sound_moving c (st.entries ++ fact.Allocated s r ∷ [])) (λ x f. still_moving c st.entries (fact.Allocated s r) x (other x (moving_of c st.entries x f) (s == x.shard) refl) f) st.moving e
  where
    other : (x : Moving) → SoundMoving c st.entries x → (b : Bool) → (s == x.shard) ≡ b → is_owned x.owner (if b then Some r else allocation x.shard st.entries) ≡ true
    other x k true t =
        let there : is_some (allocation s st.entries) ≡ true = ap (λ i. is_some (allocation i st.entries)) (same_number s x.shard t) ∙ owned_some x.owner (allocation x.shard st.entries) k.owner_is in
        absurd (true_is_not_false (some_none (allocation s st.entries) there (allocated_of c st.entries s r h).1))
    other x k false t = k.owner_is
moving_one c st (made (item.Fact (fact.Deallocated s))) o e h =
    all_picked (is_sound_moving c st.entries) (is_sound_moving c (st.entries ++ fact.Deallocated s ∷ [])) (λ x. not (x.shard == s))
    (λ x f pick. still_moving c st.entries (fact.Deallocated s) x (other x (moving_of c st.entries x f) (of_not (x.shard == s) pick) (s == x.shard) refl) f) st.moving e
  where
    other : (x : Moving) → SoundMoving c st.entries x → (x.shard == s) ≡ false → (b : Bool) → (s == x.shard) ≡ b → is_owned x.owner (if b then None else allocation x.shard st.entries) ≡ true
    other x k differs true t = absurd (true_is_not_false (sym (number_itself x.shard s (sym (same_number s x.shard t))) ∙ differs))
    other x k differs false t = k.owner_is
moving_one c st (made (item.Fact (fact.Moving s stamp))) o e h =
    let m : (is_shard c s ≡ true) × (is_some (allocation s st.entries) ≡ true) = and_both (is_shard c s) (is_some (allocation s st.entries)) h in
    let new : Moving = record { shard = s; owner = allocation s st.entries; awaited = regions st.entries } in
    all_join (is_sound_moving c st.entries) (if is_stamp stamp (stamp_of st.entries st.begun) then st.moving else []) (new ∷ []) (kept (is_stamp stamp (stamp_of st.entries st.begun)))
    (both (is_sound_moving c st.entries new) true (sound_by c st.entries new m.0 (home_owned (allocation s st.entries) m.1) (regions_are_nodes c st.entries o)) refl)
  where
    kept : (b : Bool) → list_all (is_sound_moving c st.entries) (if b then st.moving else []) ≡ true
    kept true = e
    kept false = refl
moving_one c st (acknowledged s r) o e h =
    all_of_map (is_sound_moving c st.entries) (λ (x : Moving). if x.shard == s then not_awaited r x else x) st.moving
    (all_map (is_sound_moving c st.entries) (λ x. is_sound_moving c st.entries (if x.shard == s then not_awaited r x else x)) (λ x f. step x f (x.shard == s)) st.moving e)
  where
    step : (x : Moving) → is_sound_moving c st.entries x ≡ true → (b : Bool) → is_sound_moving c st.entries (if b then not_awaited r x else x) ≡ true
    step x f true = fewer_awaited c st.entries r x f
    step x f false = f
moving_one c st m o e h = e

one_sound : (c : Script) (st : Coordinator) (m : Move) → IsGoodCoordinator c st → is_allowed c st.who st.entries m ≡ true → IsGoodCoordinator c (coordinator_after st m)
one_sound c st m k h = record {
  who_is = k.who_is;
  set_is = k.set_is;
  own_is = own_one c st.who st.entries m k.own_is h;
  held_is = held_one st.entries m ∙ k.held_is;
  moving_is = moving_one c st m k.own_is k.moving_is h;
  quitting_is = quitting_one c st.who st.entries st.quitting m k.quitting_is h;
}

-- All moves.

pub all_sound : (c : Script) (st : Coordinator) (ms : List Move) → IsGoodCoordinator c st → goes c st.who st.entries ms ≡ true → IsGoodCoordinator c (fold coordinator_after st ms)
all_sound c st [] k h = k
all_sound c st (m ∷ ms) k h =
    let n : (is_allowed c st.who st.entries m ≡ true) × (goes c st.who (coordinator_step st.entries m) ms ≡ true) = and_both (is_allowed c st.who st.entries m) (goes c st.who (coordinator_step st.entries m) ms) h in
    all_sound c (coordinator_after st m) ms (one_sound c st m k n.0) n.1

one_own : (c : Script) (who : Incarnation) (list : List Fact) (m : Move) → is_allowed c who list m ≡ true → is_own_move c who m ≡ true
one_own c who list (made (item.Fact f)) h = refl
one_own c who list (made (item.Post p)) h = both (is_own_post c who (item.Post p)) true h refl
one_own c who list m h = refl

all_own : (c : Script) (who : Incarnation) (list : List Fact) (ms : List Move) → goes c who list ms ≡ true → list_all (is_own_move c who) ms ≡ true
all_own c who list [] h = refl
all_own c who list (m ∷ ms) h =
    let n : (is_allowed c who list m ≡ true) × (goes c who (coordinator_step list m) ms ≡ true) = and_both (is_allowed c who list m) (goes c who (coordinator_step list m) ms) h in
    both (is_own_move c who m) (list_all (is_own_move c who) ms) (one_own c who list m n.0) (all_own c who (coordinator_step list m) ms n.1)

one_fact : (c : Script) (who : Incarnation) (list : List Fact) (m : Move) → is_allowed c who list m ≡ true → list_all is_coordinator_fact (facts_in (item_of m)) ≡ true
one_fact c who list (made (item.Fact (fact.Registered r))) h = refl
one_fact c who list (made (item.Fact (fact.Terminated r))) h = refl
one_fact c who list (made (item.Fact (fact.Allocated s r))) h = refl
one_fact c who list (made (item.Fact (fact.Deallocated s))) h = refl
one_fact c who list (made (item.Fact (fact.Moving s stamp))) h = refl
one_fact c who list (made (item.Fact fact.Nothing)) h = refl
one_fact c who list (made (item.Fact f)) h = absurd (true_is_not_false (sym h))
one_fact c who list (made (item.Post p)) h = refl
one_fact c who list m h = refl

all_facts : (c : Script) (who : Incarnation) (list : List Fact) (ms : List Move) → goes c who list ms ≡ true → list_all is_coordinator_fact (facts_of ms) ≡ true
all_facts c who list [] h = refl
all_facts c who list (m ∷ ms) h =
    let n : (is_allowed c who list m ≡ true) × (goes c who (coordinator_step list m) ms ≡ true) = and_both (is_allowed c who list m) (goes c who (coordinator_step list m) ms) h in
    ap (list_all is_coordinator_fact) (facts_append (item_of m) (flat_map item_of ms))
    ∙ all_join is_coordinator_fact (facts_in (item_of m)) (facts_of ms) (one_fact c who list m n.0) (all_facts c who (coordinator_step list m) ms n.1)

one_entered : (list : List Fact) (m : Move) → coordinator_step list m ≡ fold entered list (facts_in (item_of m))
one_entered list (made (item.Fact (fact.Registered r))) = refl
one_entered list (made (item.Fact (fact.Terminated r))) = refl
one_entered list (made (item.Fact (fact.Allocated s r))) = refl
one_entered list (made (item.Fact (fact.Deallocated s))) = refl
one_entered list m = refl

all_entered : (list : List Fact) (ms : List Move) → fold coordinator_step list ms ≡ fold entered list (facts_of ms)
all_entered list [] = refl
all_entered list (m ∷ ms) =
    all_entered (coordinator_step list m) ms
    ∙ (ap (λ l. fold entered l (facts_of ms)) (one_entered list m) ∙ (sym (fold-append entered list (facts_in (item_of m)) (facts_of ms)) ∙ ap (fold entered list) (sym (facts_append (item_of m) (flat_map item_of ms)))))

-- moves that are allowed where they stand keep what stands
pub goes_keeps : (c : Script) (st : Coordinator) (ms : List Move) → IsGoodCoordinator c st → goes c st.who st.entries ms ≡ true → KeepsCoordinator c st ms
goes_keeps c st ms k h = record {
  sound = all_sound c st ms k h;
  posts_are = all_own c st.who st.entries ms h;
  facts_are = all_facts c st.who st.entries ms h;
  list_is = entries_after st ms ∙ all_entered st.entries ms;
}
