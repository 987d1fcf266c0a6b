-- The coordinator terminates regions that are lost, and allocates anew a shard that has stopped.
use Rattle.std.proofs.Common.{◌≡◌, ℕ, sym, ap, ◌∙◌, refl}
use Rattle.std.specs.Prelude.{Bool, true, false, ◌&&◌, not, cond, List, [], ◌∷◌, ◌++◌, filter, fold, None, is_some, is_none, if◌then◌else◌, ◌||◌}
use Rattle.std.specs.List.{list_all, list_any, flat_map}
use Rattle.std.proofs.lemmas.List.Sums.{fold-append}
use Rattle.yard_model.specs.declared.fact.Fact.{Fact}
use Rattle.yard_model.specs.declared.fact.Fact.TheVariants as fact
use Rattle.yard_model.specs.declared.out.Item.TheVariants as item
use Rattle.yard_model.specs.declared.incarnation.Incarnation.{Incarnation}
use Rattle.yard_model.specs.declared.incarnation.Slot.TheVariants as slot
use Rattle.yard_model.specs.Script.{Script, with_shards}
use Rattle.yard_model.specs.Words.{is_same, is_at, is_among, is_empty}
use Rattle.yard_model.specs.Genuine.{is_node, is_shard}
use Rattle.yard_model.specs.Lawful.{own, is_held, is_coordinator_entry}
use Rattle.yard_model.specs.SlotReads.{regions, regions_step, allocation, allocation_step}
use Rattle.yard_model.specs.Turns.{for_each}
use Rattle.yard_model.specs.Move.{Move, made, told}
use Rattle.yard_model.specs.Coordinator as coordinator
use Rattle.yard_model.specs.Coordinator.{Coordinator, Moving, coordinator_after, coordinator_step}
use Rattle.yard_model.proofs.FollowLaws.{own_more}
use Rattle.plain_laws.proofs.Booleans.{true_is_not_false, and_both, both, of_not, number_itself}
use Rattle.plain_laws.proofs.Members.{each_among, differ, differ_push, differ_filter, left_among}
use Rattle.plain_laws.proofs.Read.{regions_more}
use Rattle.yard_laws.specs.Free.{is_free_move}
use Rattle.yard_laws.specs.Homes.{IsCoordinatorHeld, KeepsHomes, CoordinatorKeepsList}
use Rattle.yard_laws.proofs.Owned.{coordinator_to}
use Rattle.yard_model.specs.Opening.{begins}
use Rattle.yard_laws.proofs.Live.{holder_more}
use Rattle.yard_laws.proofs.FreeLaws.{AreFree, either, of_each}
use Rattle.yard_laws.proofs.HomeLaws.{last_free, tell_free, coordinator_keeps_homes}

-- Regions are registered once.

differ_step : (c : Script) (list : List Fact) (f : Fact) → differ (regions list) ≡ true → (begins f || is_coordinator_entry c list f) ≡ true → differ (regions_step (regions list) f) ≡ true
differ_step c list (fact.Registered r) e may =
    let entry : (is_node c r && not (is_among r (regions list)) && _) ≡ true = may in
    let new : not (is_among r (regions list)) ≡ true = (and_both (is_node c r) (not (is_among r (regions list))) (and_both (is_node c r && not (is_among r (regions list))) _ entry).0).1 in
    differ_push (regions list) r e (of_not (is_among r (regions list)) new)
differ_step c list (fact.Terminated r) e may = differ_filter (λ y. not (is_same r y)) (regions list) e
differ_step c list f e may = e

pub regions_differ : (c : Script) (list : List Fact) → own c slot.Coordinator list ≡ true → differ (regions list) ≡ true
regions_differ c list o = coordinator_to c (λ l. differ (regions l) ≡ true) refl (λ n l f e may. ap differ (regions_more l f) ∙ differ_step (with_shards n c) l f e may) list o

-- Free moves leave the list.

pub free_keeps : (list : List Fact) (m : Move) → is_free_move m ≡ true → coordinator_step list m ≡ list
free_keeps list (made (item.Fact (fact.Registered r))) e = absurd (true_is_not_false (sym e))
free_keeps list (made (item.Fact (fact.Terminated r))) e = absurd (true_is_not_false (sym e))
free_keeps list (made (item.Fact (fact.Allocated s r))) e = absurd (true_is_not_false (sym e))
free_keeps list (made (item.Fact (fact.Deallocated s))) e = absurd (true_is_not_false (sym e))
free_keeps list m e = refl

all_keep : (list : List Fact) (ms : List Move) → AreFree ms → fold coordinator_step list ms ≡ list
all_keep list [] e = refl
all_keep list (m ∷ ms) e =
    let both_free : (is_free_move m ≡ true) × (list_all is_free_move ms ≡ true) = and_both (is_free_move m) (list_all is_free_move ms) e in
    ap (λ l. fold coordinator_step l ms) (free_keeps list m both_free.0) ∙ all_keep list ms both_free.1

pub entries_after : (st : Coordinator) (ms : List Move) → (fold coordinator_after st ms).entries ≡ fold coordinator_step st.entries ms
entries_after st [] = refl
entries_after st (m ∷ ms) = entries_after (coordinator_after st m) ms

-- Regions that are lost.

rest_free : (r : Incarnation) (st : Coordinator) → AreFree (flat_map (λ (x : Moving). if is_at r x.owner then [] else coordinator.hand_off_if_last r st x) st.moving)
rest_free r st = of_each (λ (x : Moving). if is_at r x.owner then [] else coordinator.hand_off_if_last r st x) st.moving (λ x. either (is_at r x.owner) [] (coordinator.hand_off_if_last r st x) refl (last_free r st x))

terminated_entries : (r : Incarnation) (st : Coordinator) → fold coordinator_step st.entries (coordinator.terminate r st) ≡ st.entries ++ fact.Terminated r ∷ []
terminated_entries r st = all_keep (st.entries ++ fact.Terminated r ∷ []) (flat_map (λ (x : Moving). if is_at r x.owner then [] else coordinator.hand_off_if_last r st x) st.moving) (rest_free r st)

terminates_each : (c : Script) (st : Coordinator) (rs : List Incarnation) → own c slot.Coordinator st.entries ≡ true → is_held st.entries ≡ true → list_all (λ x. is_among x (regions st.entries)) rs ≡ true → differ rs ≡ true
    → own c slot.Coordinator (fold coordinator_step st.entries (for_each coordinator_after coordinator.terminate rs st)) ≡ true
terminates_each c st [] o h there apart = o
terminates_each c st (r ∷ rs) o h there apart =
    let list : List Fact = st.entries ++ fact.Terminated r ∷ [] in
    let m : (is_among r (regions st.entries) ≡ true) × (list_all (λ x. is_among x (regions st.entries)) rs ≡ true) = and_both (is_among r (regions st.entries)) (list_all (λ x. is_among x (regions st.entries)) rs) there in
    let d : (not (is_among r rs) ≡ true) × (differ rs ≡ true) = and_both (not (is_among r rs)) (differ rs) apart in
    let ms : List Move = coordinator.terminate r st in
    let later : Coordinator = fold coordinator_after st ms in
    let is : later.entries ≡ list = entries_after st ms ∙ terminated_entries r st in
    let now : own c slot.Coordinator list ≡ true = own_more c slot.Coordinator st.entries (fact.Terminated r) o (both (is_held st.entries) (is_among r (regions st.entries)) h m.0) in
    let still : is_held list ≡ true = ap is_some (holder_more st.entries (fact.Terminated r)) ∙ h in
    let left : list_all (λ x. is_among x (regions list)) rs ≡ true = ap (λ g. list_all (λ x. is_among x g) rs) (regions_more st.entries (fact.Terminated r)) ∙ left_among r (regions st.entries) rs m.1 (of_not (is_among r rs) d.0) in
    let more : List Move = for_each coordinator_after coordinator.terminate rs later in
    ap (own c slot.Coordinator) (fold-append coordinator_step st.entries ms more ∙ ap (λ l. fold coordinator_step l more) (sym (entries_after st ms)))
    ∙ terminates_each c later rs (ap (own c slot.Coordinator) is ∙ now) (ap is_held is ∙ still) (ap (λ l. list_all (λ x. is_among x (regions l)) rs) is ∙ left) d.1

filter_among : (p : Incarnation → Bool) (q : Incarnation → Bool) (xs : List Incarnation) → list_all q xs ≡ true → list_all q (filter p xs) ≡ true
filter_among p q [] e = refl
filter_among p q (x ∷ xs) e = step (p x) (filter_among p q xs (and_both (q x) (list_all q xs) e).1)
  where
    step : (b : Bool) → list_all q (filter p xs) ≡ true → list_all q (cond b (x ∷ filter p xs) (filter p xs)) ≡ true
    step true h = both (q x) (list_all q (filter p xs)) (and_both (q x) (list_all q xs) e).0 h
    step false h = h

-- A shard that has stopped.

stopped : (c : Script) (st : Coordinator) (s : ℕ) → IsCoordinatorHeld c st → is_shard c s ≡ true → is_some (allocation s st.entries) ≡ true
    → own c slot.Coordinator (fold coordinator_step (st.entries ++ fact.Deallocated s ∷ []) (coordinator.allocate s (coordinator_after st (told (fact.Deallocated s))))) ≡ true
stopped c st s k shard there =
    let f : Fact = fact.Deallocated s in
    let list : List Fact = st.entries ++ f ∷ [] in
    let now : own c slot.Coordinator list ≡ true = own_more c slot.Coordinator st.entries f k.own_is (both (is_held st.entries) (is_shard c s && is_some (allocation s st.entries)) k.held_is (both (is_shard c s) (is_some (allocation s st.entries)) shard there)) in
    let still : is_held list ≡ true = ap is_some (holder_more st.entries f) ∙ k.held_is in
    let none : is_none (allocation s list) ≡ true = ap is_none (fold-append (allocation_step s) None st.entries (f ∷ []) ∙ ap (λ b. if b then None else allocation s st.entries) (number_itself s s refl)) in
    let held : IsCoordinatorHeld c (coordinator_after st (told f)) = record { own_is = now; held_is = still } in
    let keeps : KeepsHomes c (coordinator_after st (told f)) = coordinator_keeps_homes c (coordinator_after st (told f)) held in
    keeps.allocates s shard none

own_if : (c : Script) (b : Bool) (list : List Fact) (ms : List Move) → own c slot.Coordinator list ≡ true → own c slot.Coordinator (fold coordinator_step list ms) ≡ true → own c slot.Coordinator (fold coordinator_step list (if b then ms else [])) ≡ true
own_if c true list ms o e = e
own_if c false list ms o e = o

-- A home that is asked for.

got : (c : Script) (st : Coordinator) (from : Incarnation) (s : ℕ) → IsCoordinatorHeld c st → is_shard c s ≡ true → (ms : List Move) → own c slot.Coordinator (fold coordinator_step st.entries ms) ≡ true
    → own c slot.Coordinator (fold coordinator_step st.entries (ms ++ coordinator.tell_home from s (fold coordinator_after st ms))) ≡ true
got c st from s k shard ms o =
    let later : Coordinator = fold coordinator_after st ms in
    let tells : List Move = coordinator.tell_home from s later in
    ap (own c slot.Coordinator) (fold-append coordinator_step st.entries ms tells ∙ all_keep (fold coordinator_step st.entries ms) tells (tell_free from s later)) ∙ o

allocates_if : (c : Script) (st : Coordinator) (s : ℕ) → IsCoordinatorHeld c st → is_shard c s ≡ true → (b : Bool) → is_none (allocation s st.entries) ≡ b
    → own c slot.Coordinator (fold coordinator_step st.entries (if b then coordinator.allocate s st else [])) ≡ true
allocates_if c st s k shard true e = let keeps : KeepsHomes c st = coordinator_keeps_homes c st k in keeps.allocates s shard e
allocates_if c st s k shard false e = k.own_is

pub coordinator_keeps_list : CoordinatorKeepsList
coordinator_keeps_list c st k = record {
  terminates = λ view. terminates_each c st (filter (λ r. not (is_among r view)) (regions st.entries)) k.own_is k.held_is
      (filter_among (λ r. not (is_among r view)) (λ x. is_among x (regions st.entries)) (regions st.entries) (each_among (regions st.entries)))
      (differ_filter (λ r. not (is_among r view)) (regions st.entries) (regions_differ c st.entries k.own_is));
  stops = λ from s stamp shard there.
      own_if c (list_any (λ (x : Moving). is_empty x.awaited && is_at from x.owner) (coordinator.moving_at s stamp st)) st.entries (told (fact.Deallocated s) ∷ coordinator.allocate s (coordinator_after st (told (fact.Deallocated s)))) k.own_is (stopped c st s k shard there);
  gets = λ from s shard.
      let first : List Move = if is_none (allocation s st.entries) then coordinator.allocate s st else [] in
      own_if c (is_among from (coordinator.registered st) && not (coordinator.is_moving st s)) st.entries (first ++ coordinator.tell_home from s (fold coordinator_after st first)) k.own_is
      (got c st from s k shard first (allocates_if c st s k shard (is_none (allocation s st.entries)) refl));
}
