-- What a hosted shard's hand off, and the stop of an entity, give: where the shard is let go, it goes back with its lease.
use Rattle.std.proofs.Common.{◌≡◌, ◌≢◌, ℕ, zero, suc, ◌+◌, ◌≤◌, arith, List, [], ◌∷◌, ◌++◌, map, sym, ap, subst, ◌∙◌, refl, append_assoc, true, false}
use Rattle.std.specs.Prelude.{Bool, ◌&&◌, fold, Option, Some, None, is_some, IfSome, MatchOption, slice_index_or, if◌then◌else◌}
use Rattle.std.specs.Option.{option_map}
use Rattle.std.specs.List.{list_all, list_any}
use Rattle.std.proofs.lemmas.List.{map-append}
use Rattle.std.proofs.lemmas.List.Sums.{fold-append}
use Rattle.yard_model.specs.declared.fact.Fact.{Fact}
use Rattle.yard_model.specs.declared.fact.Fact.TheVariants as fact
use Rattle.yard_model.specs.declared.incarnation.Cause.TheVariants as cause
use Rattle.yard_model.specs.declared.incarnation.Incarnation.{Incarnation}
use Rattle.yard_model.specs.declared.incarnation.Slot.{Slot}
use Rattle.yard_model.specs.declared.incarnation.Slot.TheVariants as slot
use Rattle.yard_model.specs.declared.incarnation.Stamp.{Stamp}
use Rattle.yard_model.specs.declared.input.Phase.{Phase}
use Rattle.yard_model.specs.declared.input.Phase.TheVariants as phase
use Rattle.yard_model.specs.declared.out.Item.{Item}
use Rattle.yard_model.specs.declared.out.Item.TheVariants as item
use Rattle.yard_model.specs.declared.packet.Body.{Body}
use Rattle.yard_model.specs.declared.packet.Body.TheVariants as body
use Rattle.yard_model.specs.Entities as entities
use Rattle.yard_model.specs.Entities.{Entities, Hosted, entities_after, hosted, entries, entries_in, cell, drop_stash, hand_off, stop}
use Rattle.yard_model.specs.Genuine.{is_brought, is_node, is_slot_of}
use Rattle.yard_model.specs.Move.{Move, told, post}
use Rattle.yard_model.specs.Node.{Node, Act, by_entities, after, items_of, of_entities}
use Rattle.yard_model.specs.Producer.{Producer}
use Rattle.yard_model.specs.Region.{Region}
use Rattle.yard_model.specs.Script.{Script, IsScript, setting}
use Rattle.yard_model.specs.Setting.{shard_of}
use Rattle.yard_model.specs.SlotReads.{holder, epoch, is_remembered}
use Rattle.yard_model.specs.Spared.{Spared}
use Rattle.yard_model.specs.Words.{at}
use Rattle.yard_laws.proofs.PartsLaws.{entities_alone}
use Rattle.plain_laws.proofs.Booleans.{true_is_not_false, and_both, both}
use Rattle.plain_laws.proofs.Lists.{placed_beside, all_join}
use Rattle.actor_laws.specs.Hands.{held_list}
use Rattle.actor_laws.specs.RegionStands.{ShardsAreThere}
use Rattle.node_laws.specs.NodeStands.{IsSoundNode}
use Rattle.coordinator_actor.specs.Held.{Held}
use Rattle.shard_entities.specs.declared.handoff.Stopped.{Stopped}
use Rattle.shard_entities.specs.Lodged.{Lodged, IsStore, less, moved, given}
use Rattle.shard_entities.specs.Settled as settled
use Rattle.shard_entities.specs.Settled.{frees}
use Rattle.shard_store.specs.Shelf.{Shelf}
use Rattle.shard_lease.specs.Meaning.{Meaning, Stays}
use Rattle.producer_ctl.specs.Producing.{Producing}
use Rattle.node_core.specs.Found.{none}
use Rattle.node_core.specs.Gave.{Gave, moment}
use Rattle.node_core.specs.Leased.{Rests, IsFreed, MayGiveBack, GaveBack}
use Rattle.node_core.specs.Standing.{node_of, standing_of}
use Rattle.node_core.specs.Still.{is_still_move, is_of_shards, is_held_of}
use Rattle.node_core.specs.Went.{Went}
use Rattle.node_core.proofs.GaveLaws.{gave_same, gave_then, items_append}
use Rattle.node_core.proofs.GiveLaws.{map_still, entities_gave}
use Rattle.node_core.proofs.LetGoLaws.{Frees, freed_gave}
use Rattle.node_core.proofs.PacketLaws.{home_of, stops}
use Rattle.node_core.proofs.PartLaws.{IsOfHosted, held_is, none_there, store_hosted, holds_it, hand_of, leased_of, may_give_back}
use Rattle.node_core.proofs.StillEntities.{drop_leaves, drop_still, forgotten_within, handed_still, hand_off_entries, hand_off_stays, hand_first, stop_first}
use Rattle.node_core.proofs.StepLaws.{entities_went, moved_of, moved_state}
use Rattle.node_core.proofs.StillLaws.{still_gave, held_all, adds_all, grown}

-- the list of a hosted shard that is leased
pub of_entries : (st : Entities) (s : ℕ) (l : List Fact) (who : Incarnation) → entries_in (hosted st s) ≡ l → holder l ≡ Some who → IsOfHosted st s l
of_entries st s l who e leased = by (hosted st s) refl
  where
    by : (o : Option Hosted) → hosted st s ≡ o → IsOfHosted st s l
    by None h = absurd (true_is_not_false (sym (ap is_some (sym (ap holder (sym e ∙ ap entries_in h)) ∙ leased))))
    by (Some x) h = record { host = x; hosted_is = h; entries_are = sym (ap entries_in h) ∙ e }

-- the shard is freed by a move of the entities
frees_shard : (c : Script) (st : Node) (s n : ℕ) → Frees c (slot.Shard s) st (after st (by_entities (told (fact.Freed (slot.Shard s) n cause.Released))))
frees_shard c st s n = record {
  who_is = refl;
  held_is = ap (option_map (λ (x : Hosted). x.entries)) (none_there st.entities.hosted s);
  else_is = others;
}
  where
    others : (t : Slot) → is_slot_of c t ≡ true → t ≢ slot.Shard s → held_list t (after st (by_entities (told (fact.Freed (slot.Shard s) n cause.Released)))) ≡ held_list t st
    others (slot.Shard t) valid other = ap (option_map (λ (x : Hosted). x.entries)) (placed_beside st.entities.hosted s t None (λ same. other (ap (λ n. slot.Shard n) same)))
    others slot.Coordinator valid other = refl
    others (slot.Queue p) valid other = refl

module _ (c : Script) (old new : Meaning) (st to : Node) (s : ℕ) (list : List Fact) (x : Incarnation) (b : Body) (before : List Move) (all : List Move) (items late : List Item)
    (set_is : st.entities.set ≡ setting c) (here : is_slot_of c (slot.Shard s) ≡ true)
    (still : list_all (is_still_move old c (is_held_of c st is_of_shards)) before ≡ true) (rests : Rests old c st) (stays : Stays old new)
    (held : IsOfHosted (fold entities_after st.entities before) s list)
    (freed : IsFreed old st.who (slot.Shard s) (list ++ fact.Freed (slot.Shard s) (epoch list) cause.Released ∷ []) new)
    (all_is : all ≡ before ++ told (fact.Freed (slot.Shard s) (epoch list) cause.Released) ∷ post st.who x b ∷ [])
    (goes : to ≡ fold after st (map by_entities all)) (told_is : late ≡ items ++ items_of (map by_entities all)) where
  first : List Act
  first = map by_entities before

  gone : List Act
  gone = by_entities (told (fact.Freed (slot.Shard s) (epoch list) cause.Released)) ∷ []

  last : List Act
  last = by_entities (post st.who x b) ∷ []

  mid : Node
  mid = fold after st first

  next : Node
  next = fold after mid gone

  end : Node
  end = fold after next last

  all_acts : first ++ (gone ++ last) ≡ map by_entities all
  unfolding first gone last
  all_acts = sym (ap (map by_entities) all_is ∙ map-append by_entities before (told (fact.Freed (slot.Shard s) (epoch list) cause.Released) ∷ post st.who x b ∷ []))

  mid_entities : mid.entities ≡ fold entities_after st.entities before
  unfolding mid first
  mid_entities = ap (λ (n : Node). n.entities) (entities_alone st before)

  mid_who : mid.who ≡ st.who
  unfolding mid first
  mid_who = ap (λ (n : Node). n.who) (entities_alone st before)

  one : Gave c none (λ lists. first) (moment old st items) (moment old mid (items ++ items_of first))
  unfolding mid first
  one = still_gave c old st mid first items (items ++ items_of first) set_is (map_still c old st by_entities (is_held_of c st is_of_shards) (λ y. refl) before still) rests refl refl

  held_mid : held_list (slot.Shard s) mid ≡ Some list
  held_mid = held_is mid s list (subst (λ (e : Entities). IsOfHosted e s list) (sym mid_entities) held)

  two : Gave c none (λ lists. gone) (moment old mid (items ++ items_of first)) (moment new next ((items ++ items_of first) ++ item.Fact (fact.Freed (slot.Shard s) (epoch list) cause.Released) ∷ []))
  unfolding next gone
  two = freed_gave c (slot.Shard s) cause.Released by_entities old new mid next list (items ++ items_of first) here held_mid (λ m. refl) one.rests stays
      (subst (λ w. IsFreed old w (slot.Shard s) (list ++ fact.Freed (slot.Shard s) (epoch list) cause.Released ∷ []) new) (sym mid_who) freed) (frees_shard c mid s (epoch list)) refl

  next_set : next.entities.set ≡ setting c
  unfolding next gone
  next_set = ap (λ (e : Entities). e.set) mid_entities ∙ (moved_set st.entities before ∙ set_is)
    where
      moved_set : (e : Entities) (ms : List Move) → (fold entities_after e ms).set ≡ e.set
      moved_set e [] = refl
      moved_set e (m ∷ ms) = moved_set (entities_after e m) ms

  three : Gave c none (λ lists. last) (moment new next ((items ++ items_of first) ++ item.Fact (fact.Freed (slot.Shard s) (epoch list) cause.Released) ∷ [])) (moment new end (((items ++ items_of first) ++ item.Fact (fact.Freed (slot.Shard s) (epoch list) cause.Released) ∷ []) ++ items_of last))
  unfolding end last
  three = still_gave c new next end last ((items ++ items_of first) ++ item.Fact (fact.Freed (slot.Shard s) (epoch list) cause.Released) ∷ []) (((items ++ items_of first) ++ item.Fact (fact.Freed (slot.Shard s) (epoch list) cause.Released) ∷ []) ++ items_of last) next_set refl two.rests refl refl

  end_is : end ≡ to
  unfolding end next mid
  end_is = sym (goes ∙ (ap (fold after st) (sym all_acts) ∙ (fold-append after st first (gone ++ last) ∙ fold-append after (fold after st first) gone last)))

  late_is : ((items ++ items_of first) ++ item.Fact (fact.Freed (slot.Shard s) (epoch list) cause.Released) ∷ []) ++ items_of last ≡ late
  unfolding gone
  late_is = append_assoc (items ++ items_of first) (items_of gone) (items_of last)
      ∙ (append_assoc items (items_of first) (items_of gone ++ items_of last)
      ∙ (ap (λ is. items ++ (items_of first ++ is)) (sym (items_append gone last)) ∙ (ap (λ is. items ++ is) (sym (items_append first (gone ++ last))) ∙ (ap (λ acts. items ++ items_of acts) all_acts ∙ sym told_is))))

  pub let_go_gives : Gave c none (λ lists. map by_entities all) (moment old st items) (moment new to late)
  let_go_gives = gave_same c none (λ lists. first ++ (gone ++ last)) (λ lists. map by_entities all) (moment old st items) (moment new to late) (λ lists. all_acts)
      (subst (λ is. Gave c none (λ lists. first ++ (gone ++ last)) (moment old st items) (moment new to is)) late_is
      (subst (λ (n : Node). Gave c none (λ lists. first ++ (gone ++ last)) (moment old st items) (moment new n (((items ++ items_of first) ++ item.Fact (fact.Freed (slot.Shard s) (epoch list) cause.Released) ∷ []) ++ items_of last))) end_is
      (gave_then c none (λ lists. first) (λ lists z. gone ++ last) (moment old st items) (moment old mid (items ++ items_of first)) (moment new end (((items ++ items_of first) ++ item.Fact (fact.Freed (slot.Shard s) (epoch list) cause.Released) ∷ []) ++ items_of last)) one
      (gave_then c none (λ lists. gone) (λ lists z. last) (moment old mid (items ++ items_of first)) (moment new next ((items ++ items_of first) ++ item.Fact (fact.Freed (slot.Shard s) (epoch list) cause.Released) ∷ [])) (moment new end (((items ++ items_of first) ++ item.Fact (fact.Freed (slot.Shard s) (epoch list) cause.Released) ∷ []) ++ items_of last)) two three))))

-- The list of the shard that is let go.

-- by a hand off
pub handed_list : (st : Entities) (s : ℕ) (stamp : Stamp) (from who : Incarnation) (l : List Fact) → l ≡ entries_in (hosted st s) → holder l ≡ Some who → IsOfHosted (fold entities_after st (hand_first s stamp from st)) s l
handed_list st s stamp from who l e leased = of_entries (fold entities_after st (hand_first s stamp from st)) s l who (hand_off_entries s stamp from st ∙ sym e) leased

-- by a stop
pub stopped_list : (st : Entities) (e : List ℕ) (s : ℕ) (who : Incarnation) (l : List Fact) → l ≡ entries_in (hosted (fold entities_after st (stop_first e st)) s) → holder l ≡ Some who
    → IsOfHosted (fold entities_after st (stop_first e st ++ drop_stash e st)) s l
stopped_list st e s who l same leased = of_entries (fold entities_after st (stop_first e st ++ drop_stash e st)) s l who
    (ap (λ (h : List (Option Hosted)). entries_in (at h s)) (ap (λ (z : Entities). z.hosted) (fold-append entities_after st (stop_first e st) (drop_stash e st)) ∙ drop_leaves st.who (cell st e).stash (fold entities_after st (stop_first e st))) ∙ sym same) leased

-- the moves before are still

pub stopping_still : (c : Script) (m : Meaning) (st : Node) (e : List ℕ) → ShardsAreThere → IsScript c → IsSoundNode c st → is_brought c e ≡ true → list_any frees (entities.stop e st.entities) ≡ true
    → list_all (is_still_move m c (is_held_of c st is_of_shards)) (stop_first e st.entities ++ drop_stash e st.entities) ≡ true
stopping_still c m st e there script sound brought frees_it = by (cell st.entities e).phase refl
  where
    all : entities.is_in_phase phase.Absent st.entities e ≡ false → list_all (is_still_move m c (is_held_of c st is_of_shards)) (stop_first e st.entities ++ drop_stash e st.entities) ≡ true
    all exists = all_join (is_still_move m c (is_held_of c st is_of_shards)) (stop_first e st.entities) (drop_stash e st.entities)
        (forgotten_within c m (is_held_of c st is_of_shards) e st.entities (home_of c m st there script sound e brought exists))
        (drop_still c m (is_held_of c st is_of_shards) e st.entities)

    by : (p : Phase) → (cell st.entities e).phase ≡ p → list_all (is_still_move m c (is_held_of c st is_of_shards)) (stop_first e st.entities ++ drop_stash e st.entities) ≡ true
    by phase.Absent d = absurd (true_is_not_false (sym frees_it ∙ ap (λ p. list_any frees (if entities.is_phase phase.Stopping p then stop_first e st.entities ++ entities.after_stop e (fold entities_after st.entities (stop_first e st.entities)) else [])) d))
    by phase.Loading d = all (ap (λ p. entities.is_phase phase.Absent p) d)
    by phase.Active d = all (ap (λ p. entities.is_phase phase.Absent p) d)
    by phase.Stopping d = all (ap (λ p. entities.is_phase phase.Absent p) d)

all_first : {A : Type 0} (p : A → Bool) (xs ys : List A) → list_all p (xs ++ ys) ≡ true → list_all p xs ≡ true
all_first p [] ys h = refl
all_first p (x ∷ xs) ys h =
    let parts : (p x ≡ true) × (list_all p (xs ++ ys) ≡ true) = and_both (p x) (list_all p (xs ++ ys)) h in
    both (p x) (list_all p xs) parts.0 (all_first p xs ys parts.1)

-- the first moves of a stop take at most one of the room
less_least : (xs : List ℕ) (t s : ℕ) → slice_index_or xs s 0 ≤ slice_index_or (less t xs) s 0 + 1
less_least [] t s = omega arith
less_least (x ∷ xs) zero zero = omega arith
less_least (x ∷ xs) zero (suc s) = omega arith
less_least (x ∷ xs) (suc t) zero = omega arith
less_least (x ∷ xs) (suc t) (suc s) = less_least xs t s

stop_rooms : (e : Lodged) (entity : List ℕ) (s : ℕ) → slice_index_or e.rooms s 0 ≤ slice_index_or (moved e (stop_first entity e.state)).rooms s 0 + 1
stop_rooms e entity s = by ((cell e.state entity).passivating && is_remembered entity (entries e.state entity))
  where
    by : (b : Bool) → slice_index_or e.rooms s 0 ≤ slice_index_or (moved e (told (fact.Stop e.state.who entity) ∷ (if b then told (fact.Forgotten entity) ∷ [] else []))).rooms s 0 + 1
    by true = less_least e.rooms (shard_of e.state.set entity) s
    by false = omega arith

-- A hand off, whole.

pub back_of_hand_off : (c : Script) (m : Meaning) (r : Region) (e : Lodged) (ps : Producing) (k : Option Held) (s : ℕ) (A : Type 0) → is_node c r.who ≡ true → is_slot_of c (slot.Shard s) ≡ true → e.script ≡ c → e.state.who ≡ r.who
    → ((hosted e.state s ≡ None → ⊥) → 101 ≤ slice_index_or e.rooms s 0) → Rests m c (node_of c r e ps k) → (o : Option Shelf) → MatchOption o A (IsStore e s) → IfSome o (MayGiveBack m r.who s)
back_of_hand_off c m r e ps k s A who here script same room rests None is = tt
back_of_hand_off c m r e ps k s A who here script same room rests (Some x) is =
    let st : Node = node_of c r e ps k in
    let host : IsOfHosted e.state s x.entries = store_hosted e s x is in
    let held : held_list (slot.Shard s) st ≡ Some x.entries = held_is st s x.entries host in
    may_give_back c m st s x who here (is.script_is ∙ script) is.shard_is (leased_of c m st (slot.Shard s) x.entries here held rests)
    (subst (λ n. 101 ≤ n) (sym is.room_is) (room (λ none. true_is_not_false (sym (ap is_some (sym none ∙ host.hosted_is))))))
    rests (holds_it c m st (slot.Shard s) x.entries here held rests) (hand_of c m st (slot.Shard s) x.entries here held rests)

pub handed_gave : (c : Script) (old new : Meaning) (r : Region) (e now : Lodged) (ps : Producing) (k : Option Held) (s : ℕ) (stamp : Stamp) (to : Incarnation) (before late : Spared Item)
    → e.state.set ≡ setting c → e.state.who ≡ r.who → is_slot_of c (slot.Shard s) ≡ true → Rests old c (node_of c r e ps k)
    → now ≡ moved e (hand_off s stamp to e.state) → late ≡ given before (hand_off s stamp to e.state)
    → (o : Option Shelf) → MatchOption o (list_any frees (hand_off s stamp to e.state) ≡ false) (IsStore e s)
    → IfSome o (λ x. settled.IsFreed (hand_first s stamp to e.state) (hand_off s stamp to e.state) e.state.who (record { shard = s; store = x; stamp = stamp; to = to }))
    → MatchOption o (new ≡ old) (λ x. GaveBack old r.who s x.entries new)
    → Gave c none (λ lists. of_entities (hand_off s stamp to) (node_of c r e ps k)) (moment old (node_of c r e ps k) before.items) (moment new (node_of c r now ps k) late.items)
handed_gave c old new r e now ps k s stamp to before late set_is who here rests goes tells None is freed back =
    subst (λ (m : Meaning). Gave c none (λ lists. of_entities (hand_off s stamp to) (node_of c r e ps k)) (moment old (node_of c r e ps k) before.items) (moment m (node_of c r now ps k) late.items)) (sym back)
    (entities_gave old (standing_of c r e ps k) (standing_of c r now ps k) (hand_off s stamp to e.state) before late set_is
    (hand_off_stays c old (is_held_of c (node_of c r e ps k) is_of_shards) s stamp to e.state is) rests
    (entities_went c r e now ps k (hand_off s stamp to e.state) before late set_is goes tells))
handed_gave c old new r e now ps k s stamp to before late set_is who here rests goes tells (Some x) is freed back =
    let st : Node = node_of c r e ps k in
    let went : Went (standing_of c r e ps k) (standing_of c r now ps k) before late (map by_entities (hand_off s stamp to e.state)) = entities_went c r e now ps k (hand_off s stamp to e.state) before late set_is goes tells in
    let_go_gives c old new st (node_of c r now ps k) s x.entries to (body.ShardStopped s stamp) (hand_first s stamp to e.state) (hand_off s stamp to e.state) before.items late.items set_is here
    (handed_still c old (is_held_of c st is_of_shards) s stamp to e.state) rests back.stays
    (handed_list e.state s stamp to e.state.who x.entries is.entries_are is.leased) back.freed
    (freed.moves_are ∙ ap (λ w. hand_first s stamp to e.state ++ told (fact.Freed (slot.Shard s) (epoch x.entries) cause.Released) ∷ post w to (body.ShardStopped s stamp) ∷ []) who)
    went.node_is went.items_are

-- A stop, whole.

-- what is let go was hosted, with this list
stop_host : (e : Lodged) (entity : List ℕ) (s : ℕ) (x : Shelf) → IsStore (moved e (stop_first entity e.state)) s x → IsOfHosted (fold entities_after e.state (stop_first entity e.state)) s x.entries
stop_host e entity s x is = subst (λ (z : Entities). IsOfHosted z s x.entries) (moved_state e (stop_first entity e.state)) (store_hosted (moved e (stop_first entity e.state)) s x is)

pub stopped_gave : (c : Script) (old new : Meaning) (r : Region) (e now : Lodged) (ps : Producing) (k : Option Held) (entity : List ℕ) (before late : Spared Item)
    → ShardsAreThere → IsScript c → IsSoundNode c (node_of c r e ps k) → is_brought c entity ≡ true → e.state.set ≡ setting c → e.state.who ≡ r.who → Rests old c (node_of c r e ps k)
    → now ≡ moved e (stop entity e.state) → late ≡ given before (stop entity e.state)
    → (o : Option Stopped) → MatchOption o (list_any frees (stop entity e.state) ≡ false) (settled.IsStopped e (moved e (stop_first entity e.state)) (shard_of (setting c) entity))
    → IfSome o (settled.IsFreed (stop_first entity e.state ++ drop_stash entity e.state) (stop entity e.state) e.state.who)
    → MatchOption o (new ≡ old) (λ x. GaveBack old r.who x.shard x.store.entries new)
    → Gave c none (λ lists. of_entities (stop entity) (node_of c r e ps k)) (moment old (node_of c r e ps k) before.items) (moment new (node_of c r now ps k) late.items)
stopped_gave c old new r e now ps k entity before late there script sound brought set_is who rests goes tells None is freed back =
    subst (λ (m : Meaning). Gave c none (λ lists. of_entities (stop entity) (node_of c r e ps k)) (moment old (node_of c r e ps k) before.items) (moment m (node_of c r now ps k) late.items)) (sym back)
    (entities_gave old (standing_of c r e ps k) (standing_of c r now ps k) (stop entity e.state) before late set_is
    (stops c old (node_of c r e ps k) there script sound entity brought is) rests
    (entities_went c r e now ps k (stop entity e.state) before late set_is goes tells))
stopped_gave c old new r e now ps k entity before late there script sound brought set_is who rests goes tells (Some x) is freed back =
    let st : Node = node_of c r e ps k in
    let s : ℕ = shard_of (setting c) entity in
    let went : Went (standing_of c r e ps k) (standing_of c r now ps k) before late (map by_entities (stop entity e.state)) = entities_went c r e now ps k (stop entity e.state) before late set_is goes tells in
    let entries_are : x.store.entries ≡ entries_in (hosted (fold entities_after e.state (stop_first entity e.state)) s) = is.store_is.entries_are ∙ ap (λ (z : Entities). entries_in (hosted z s)) (moved_state e (stop_first entity e.state)) in
    let_go_gives c old new st (node_of c r now ps k) s x.store.entries x.to (body.ShardStopped x.shard x.stamp) (stop_first entity e.state ++ drop_stash entity e.state) (stop entity e.state) before.items late.items set_is (there c entity script)
    (stopping_still c old st entity there script sound brought freed.frees_is) rests back.stays
    (stopped_list e.state entity s (moved e (stop_first entity e.state)).state.who x.store.entries entries_are is.store_is.leased)
    (subst (λ n. IsFreed old r.who (slot.Shard n) (x.store.entries ++ fact.Freed (slot.Shard n) (epoch x.store.entries) cause.Released ∷ []) new) is.shard_is back.freed)
    (freed.moves_are
    ∙ (ap (λ w. (stop_first entity e.state ++ drop_stash entity e.state) ++ told (fact.Freed (slot.Shard x.shard) (epoch x.store.entries) cause.Released) ∷ post w x.to (body.ShardStopped x.shard x.stamp) ∷ []) who
    ∙ ap (λ n. (stop_first entity e.state ++ drop_stash entity e.state) ++ told (fact.Freed (slot.Shard n) (epoch x.store.entries) cause.Released) ∷ post r.who x.to (body.ShardStopped x.shard x.stamp) ∷ []) is.shard_is))
    went.node_is went.items_are

-- the first moves of a stop write at most an entry, of its shard
pub back_of_stop : (c : Script) (m : Meaning) (r : Region) (e : Lodged) (ps : Producing) (k : Option Held) (entity : List ℕ) (A : Type 0)
    → ShardsAreThere → IsScript c → IsSoundNode c (node_of c r e ps k) → is_brought c entity ≡ true → e.script ≡ c → e.state.set ≡ setting c → e.state.who ≡ r.who
    → ((hosted e.state (shard_of (setting c) entity) ≡ None → ⊥) → 102 ≤ slice_index_or e.rooms (shard_of (setting c) entity) 0) → Rests m c (node_of c r e ps k)
    → (o : Option Stopped) → MatchOption o A (settled.IsStopped e (moved e (stop_first entity e.state)) (shard_of (setting c) entity))
    → IfSome o (settled.IsFreed (stop_first entity e.state ++ drop_stash entity e.state) (stop entity e.state) e.state.who)
    → IfSome o (λ x. MayGiveBack m r.who x.shard x.store)
back_of_stop c m r e ps k entity A there script sound brought same set_is who room rests None is freed = tt
back_of_stop c m r e ps k entity A there script sound brought same set_is who room rests (Some x) is freed =
    subst (λ n. MayGiveBack m r.who n x.store) (sym is.shard_is)
    (subst (λ w. MayGiveBack m w s x.store) mid_who
    (may_give_back c m mid s x.store (subst (λ w. is_node c w ≡ true) (sym mid_who) sound.who_is) (there c entity script) (is.store_is.script_is ∙ (moved_of e first ∙ same)) is.store_is.shard_is
    (leased_of c m mid (slot.Shard s) x.store.entries (there c entity script) held gave.rests) roomy gave.rests
    (holds_it c m mid (slot.Shard s) x.store.entries (there c entity script) held gave.rests) (hand_of c m mid (slot.Shard s) x.store.entries (there c entity script) held gave.rests)))
  where
    s : ℕ
    s = shard_of (setting c) entity

    first : List Move
    first = stop_first entity e.state

    st : Node
    st = node_of c r e ps k

    mid : Node
    mid = fold after st (map by_entities first)

    mid_who : mid.who ≡ r.who
    mid_who = ap (λ (n : Node). n.who) (entities_alone st first)

    still : list_all (is_still_move m c (is_held_of c st is_of_shards)) first ≡ true
    still = all_first (is_still_move m c (is_held_of c st is_of_shards)) first (drop_stash entity e.state) (stopping_still c m st entity there script sound brought freed.frees_is)

    gave : Gave c none (λ lists. map by_entities first) (moment m st []) (moment m mid ([] ++ items_of (map by_entities first)))
    gave = still_gave c m st mid (map by_entities first) [] ([] ++ items_of (map by_entities first)) set_is (map_still c m st by_entities (is_held_of c st is_of_shards) (λ y. refl) first still) rests refl refl

    host : IsOfHosted mid.entities s x.store.entries
    host = subst (λ (z : Entities). IsOfHosted z s x.store.entries) (sym (ap (λ (n : Node). n.entities) (entities_alone st first))) (stop_host e entity s x.store is.store_is)

    held : held_list (slot.Shard s) mid ≡ Some x.store.entries
    held = held_is mid s x.store.entries host

    -- it was hosted before
    before : hosted e.state s ≡ None → ⊥
    before none = true_is_not_false (sym (ap is_some (sym (held_none st s first set_is still none (there c entity script)) ∙ held)))
      where
        held_none : (z : Node) (n : ℕ) (ms : List Move) → z.entities.set ≡ setting c → list_all (is_still_move m c (is_held_of c z is_of_shards)) ms ≡ true → hosted z.entities n ≡ None → is_slot_of c (slot.Shard n) ≡ true → held_list (slot.Shard n) (fold after z (map by_entities ms)) ≡ None
        held_none z n ms zs h none here = held_all c m z (map by_entities ms) (slot.Shard n) zs here (map_still c m z by_entities (is_held_of c z is_of_shards) (λ y. refl) ms h)
            ∙ ap (λ o. grown (adds_all c (slot.Shard n) (map by_entities ms)) (option_map (λ (y : Hosted). y.entries) o)) none

    roomy : 101 ≤ x.store.spare
    roomy = subst (λ n. 101 ≤ n) (sym is.store_is.room_is) (let wide : 102 ≤ slice_index_or e.rooms s 0 = room before in let least : slice_index_or e.rooms s 0 ≤ slice_index_or (moved e first).rooms s 0 + 1 = stop_rooms e entity s in omega (arith, wide, least))
