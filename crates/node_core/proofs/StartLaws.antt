-- What Start of a shard gives.
use Rattle.std.proofs.Common.{◌≡◌, ◌≢◌, ℕ, suc, ◌+◌, ◌*◌, ◌-◌, ◌<◌, ◌≤◌, List, [], ◌∷◌, ◌++◌, length, map, sym, ap, subst, ◌∙◌, refl, true, false, true≢false, arith}
use Rattle.std.specs.Prelude.{Bool, ◌&&◌, ◌==◌, not, filter, fold, Option, Some, None, is_none, slice_index_or, slice_set, if◌then◌else◌}
use Rattle.std.specs.List.{flat_map, list_all}
use Rattle.std.specs.Option.{option_map}
use Rattle.std.proofs.lemmas.List.{get_or-set_same, get_or-set_other}
use Rattle.std.proofs.lemmas.List.Sums.{fold-append}
use Rattle.yard_model.specs.declared.fact.Fact.TheVariants as fact
use Rattle.yard_model.specs.declared.incarnation.Incarnation.{Incarnation}
use Rattle.yard_model.specs.declared.incarnation.Slot.{Slot}
use Rattle.yard_model.specs.declared.incarnation.Slot.TheVariants as slot
use Rattle.yard_model.specs.declared.input.Phase.{Phase}
use Rattle.yard_model.specs.declared.input.Phase.TheVariants as phase
use Rattle.yard_model.specs.declared.out.Item.{Item}
use Rattle.yard_model.specs.declared.out.Item.TheVariants as item
use Rattle.yard_model.specs.Entities as entities
use Rattle.yard_model.specs.Entities.{Entities, Hosted, cell, hosted, is_hosted, is_phase, is_in_phase, entities_after, entries, entries_in, start_remembered}
use Rattle.yard_model.specs.Genuine.{is_brought, is_node, is_slot_of}
use Rattle.yard_model.specs.Lawful.{own}
use Rattle.yard_model.specs.declared.event.Kind.{Kind}
use Rattle.yard_model.specs.Move.{made, told}
use Rattle.yard_model.specs.Node as rules
use Rattle.yard_model.specs.Node.{Node, Act, Rule, by_entities, after, acquire, items_of, of_entities}
use Rattle.yard_model.specs.Script.{Script, Setting, setting}
use Rattle.yard_model.specs.Setting.{shard_of, names_of}
use Rattle.yard_model.specs.SlotLists.{shard_list}
use Rattle.yard_model.specs.SlotReads.{holder, holder_step, epoch, is_remembered}
use Rattle.yard_model.specs.Spared.{Spared}
use Rattle.yard_laws.proofs.PartsLaws.{entities_alone, entities_items}
use Rattle.plain_laws.proofs.Booleans.{both, number_itself, other_number, same_number}
use Rattle.plain_laws.proofs.Lists.{all_each, all_if}
use Rattle.actor_laws.specs.Hands.{held_list}
use Rattle.node_laws.specs.NodeStands.{IsSoundNode}
use Rattle.coordinator_actor.specs.Held.{Held}
use Rattle.region_actor.specs.Made.{Made}
use Rattle.shard_entities.specs.Lodged.{Lodged, given, hosting}
use Rattle.shard_lease.specs.declared.leases.Acquire.{Acquire}
use Rattle.shard_lease.specs.declared.leases.Acquire.TheVariants as acquired
use Rattle.shard_lease.specs.Meaning.{Acquired, Meaning, Stays, Apart, Still, Hands, Refuses}
use Rattle.shard_store.specs.declared.store.Store.TheVariants as store
use Rattle.shard_store.specs.Shelf.{Shelf}
use Rattle.producer_ctl.specs.Producing.{Producing}
use Rattle.node_core.specs.Found.{none, asks}
use Rattle.node_core.specs.Gave.{Gave, moment}
use Rattle.node_core.specs.Leased.{Rests}
use Rattle.node_core.specs.Releasing.{HasReleaseRoom}
use Rattle.node_core.specs.Standing.{Standing, AreParts, IsReady}
use Rattle.node_core.specs.Started.{asks_start, take_shard, with_store, TookShard, Hosts, IsShardGrant, StartLeaves}
use Rattle.node_core.specs.Still.{is_of_shards, is_held_of}
use Rattle.node_core.proofs.AskLaws.{granted_gave, refused_gave}
use Rattle.node_core.proofs.GaveLaws.{gave_asked, gave_nothing, gave_same, gave_then}
use Rattle.node_core.proofs.GiveLaws.{entities_gave}
use Rattle.node_core.proofs.ReleaseLaws.{is_delivering, ending_in, all_ending, active_before, rooms_beside, room_stays}
use Rattle.room_laws.proofs.EntitiesRoom.{start_remembered_room}
use Rattle.node_core.proofs.StillEntities.{remembered_still}

-- A shard that is granted.

shard_granted : (c : Script) (old new : Meaning) (v : Standing) (s : ℕ) (x : Shelf) (before : List Item) → is_slot_of c (slot.Shard s) ≡ true → s < length v.state.entities.hosted → hosted v.state.entities s ≡ None
    → Rests old c v.state → Stays old new → Hands old v.state.who (slot.Shard s) (store.Shard x) new → Apart v.state.who.node (slot.Shard s) old new
    → Gave c (asks (slot.Shard s)) (λ lists. map by_entities (acquire (slot.Shard s) v.state.who (shard_list lists s))) (moment old v.state before)
    (moment new (with_store s x v).state (before ++ item.Fact (fact.Granted (slot.Shard s) (epoch x.entries) v.state.who) ∷ []))
shard_granted c old new v s x before here inside free rests stays h apart =
    granted_gave c (slot.Shard s) by_entities old new v.state (with_store s x v).state (store.Shard x) before here (ap (option_map (λ (h : Hosted). h.entries)) free) (λ m. refl) rests stays h apart (λ n. refl)
    (record { held_is = ap (option_map (λ (h : Hosted). h.entries)) (get_or-set_same v.state.entities.hosted s (Some (record { entries = x.entries; stopping = None })) None inside); else_is = others })
  where
    others : (t : Slot) → is_slot_of c t ≡ true → t ≢ slot.Shard s → held_list t (with_store s x v).state ≡ held_list t v.state
    others (slot.Shard t) valid other = ap (option_map (λ (h : Hosted). h.entries)) (get_or-set_other v.state.entities.hosted s t (Some (record { entries = x.entries; stopping = None })) None (λ same. other (ap (λ i. slot.Shard i) same)))
    others slot.Coordinator valid other = refl
    others (slot.Queue p) valid other = refl

-- A shard that another node holds.

shard_refused : (c : Script) (old new : Meaning) (st : Node) (s node : ℕ) (before : List Item) → is_slot_of c (slot.Shard s) ≡ true → hosted st.entities s ≡ None
    → Rests old c st → Stays old new → Refuses old st.who (slot.Shard s) node → Still old new
    → Gave c (asks (slot.Shard s)) (λ lists. map by_entities (acquire (slot.Shard s) st.who (shard_list lists s))) (moment old st before)
    (moment new st (before ++ item.Fact (fact.Held (slot.Shard s) st.who node) ∷ []))
shard_refused c old new st s node before here free rests stays h still =
    refused_gave c (slot.Shard s) by_entities old new st node before here (ap (option_map (λ (h : Hosted). h.entries)) free) (λ m. refl) lawful rests stays h still refl
  where
    lawful : own c (slot.Shard s) (fact.Granted (slot.Shard s) 1 (record { node = node; number = 1 }) ∷ []) ≡ true
    lawful = both ((s == s) && is_node c (record { node = node; number = 1 })) true (both (s == s) (is_node c (record { node = node; number = 1 })) (number_itself s s refl) (subst (λ d. is_node d (record { node = node; number = 1 }) ≡ true) rests.script_is h.node_is)) refl

-- of a shard that isn't hosted no entity is remembered
none_passes : (q r : List ℕ → Bool) → ((x : List ℕ) → q x ≡ true → r x ≡ false) → (xs : List (List ℕ)) → filter r (filter q xs) ≡ []
none_passes q r h [] = refl
none_passes q r h (x ∷ xs) = by (q x) refl (none_passes q r h xs)
  where
    by : (b : Bool) → q x ≡ b → filter r (filter q xs) ≡ [] → filter r (if b then x ∷ filter q xs else filter q xs) ≡ []
    by true k rest = ap (λ b. if b then x ∷ filter r (filter q xs) else filter r (filter q xs)) (h x k) ∙ rest
    by false k rest = rest

none_starts : (st : Entities) (s : ℕ) → hosted st s ≡ None → start_remembered s st ≡ []
none_starts st s away = by st.set.config.remember
  where
    r : List ℕ → Bool
    r e = is_remembered e (entries st e)

    none_is : filter r (names_of st.set s) ≡ []
    none_is = none_passes (λ e. shard_of st.set e == s) r (λ e of. ap (λ n. is_remembered e (entries_in (hosted st n))) (same_number (shard_of st.set e) s of) ∙ ap (λ o. is_remembered e (entries_in o)) away) st.set.names

    by : (b : Bool) → (if b then flat_map (λ e. entities.start_entity e st) (filter r (names_of st.set s)) else []) ≡ []
    by true = ap (λ es. flat_map (λ e. entities.start_entity e st) es) none_is
    by false = refl

-- What becomes of an answer.

pub took_shard_gave : (old new : Meaning) (v w : Standing) (s : ℕ) (answer : Acquire) (before late : Spared Item) → v.state.entities.set ≡ setting v.script → is_slot_of v.script (slot.Shard s) ≡ true → s < length v.state.entities.hosted
    → hosted v.state.entities s ≡ None → Rests old v.script v.state → Stays old new → Acquired old v.state.who (slot.Shard s) answer new → TookShard s answer v w before late
    → Gave v.script (asks (slot.Shard s)) (λ lists. take_shard lists s v.state) (moment old v.state before.items) (moment new w.state late.items)
took_shard_gave old new v w s (acquired.Granted (store.Shard x)) before late set_is here inside free rests stays a t =
    let mid : Standing = with_store s x v in
    let granted : Gave v.script (asks (slot.Shard s)) (λ lists. map by_entities (acquire (slot.Shard s) v.state.who (shard_list lists s))) (moment old v.state before.items) (moment new mid.state (before.items ++ item.Fact (fact.Granted (slot.Shard s) (epoch x.entries) v.state.who) ∷ []))
    = shard_granted v.script old new v s x before.items here inside free rests stays a.0 a.1 in
    gave_then v.script (asks (slot.Shard s)) (λ lists. map by_entities (acquire (slot.Shard s) v.state.who (shard_list lists s))) (λ lists. of_entities (start_remembered s)) (moment old v.state before.items)
    (moment new mid.state (before.items ++ item.Fact (fact.Granted (slot.Shard s) (epoch x.entries) v.state.who) ∷ [])) (moment new w.state late.items) granted
    (entities_gave new mid w (start_remembered s mid.state.entities) (given before (told (fact.Granted (slot.Shard s) (epoch x.entries) v.state.who) ∷ [])) late set_is
    (remembered_still mid.script new (is_held_of mid.script mid.state is_of_shards) s mid.state.entities) granted.rests t)
took_shard_gave old new v w s (acquired.Granted (store.Coordinator x)) before late set_is here inside free rests stays a t = absurd t
took_shard_gave old new v w s (acquired.Granted (store.Queue x)) before late set_is here inside free rests stays a t = absurd t
took_shard_gave old new v w s (acquired.Held h) before late set_is here inside free rests stays a t =
    let refused : Gave v.script (asks (slot.Shard s)) (λ lists. map by_entities (acquire (slot.Shard s) v.state.who (shard_list lists s))) (moment old v.state before.items) (moment new v.state (before.items ++ item.Fact (fact.Held (slot.Shard s) v.state.who h) ∷ []))
    = shard_refused v.script old new v.state s h before.items here free rests stays a.0 a.1 in
    subst (λ (x : Standing). Gave v.script (asks (slot.Shard s)) (λ lists. take_shard lists s v.state) (moment old v.state before.items) (moment new x.state late.items)) (sym t.0)
    (subst (λ (x : Spared Item). Gave v.script (asks (slot.Shard s)) (λ lists. take_shard lists s v.state) (moment old v.state before.items) (moment new v.state x.items)) (sym t.1)
    (gave_then v.script (asks (slot.Shard s)) (λ lists. map by_entities (acquire (slot.Shard s) v.state.who (shard_list lists s))) (λ lists. of_entities (start_remembered s)) (moment old v.state before.items)
    (moment new v.state (before.items ++ item.Fact (fact.Held (slot.Shard s) v.state.who h) ∷ [])) (moment new v.state (before.items ++ item.Fact (fact.Held (slot.Shard s) v.state.who h) ∷ [])) refused
    (gave_same v.script none (λ lists. []) (λ lists. of_entities (start_remembered s) v.state) (moment new v.state (before.items ++ item.Fact (fact.Held (slot.Shard s) v.state.who h) ∷ [])) (moment new v.state (before.items ++ item.Fact (fact.Held (slot.Shard s) v.state.who h) ∷ []))
    (λ lists. ap (map by_entities) (sym (none_starts v.state.entities s free))) (gave_nothing v.script (moment new v.state (before.items ++ item.Fact (fact.Held (slot.Shard s) v.state.who h) ∷ [])) refused.rests))))

-- a store that is handed out is of the shard, and leased
pub shard_granted_is : (c : Script) (old new : Meaning) (who : Incarnation) (s : ℕ) (answer : Acquire) → old.script ≡ c → Acquired old who (slot.Shard s) answer new → IsShardGrant c who s answer
shard_granted_is c old new who s (acquired.Granted (store.Shard x)) same a = record {
  script_is = a.0.script_is ∙ same;
  shard_is = shard_same x.shard s a.0.slot_is;
  spare_is = a.0.spare_is;
  leased = ap holder a.0.list_is ∙ fold-append holder_step None a.0.before (fact.Granted (slot.Shard s) (epoch a.0.before + 1) who ∷ []);
}
  where
    shard_same : (i j : ℕ) → slot.Shard i ≡ slot.Shard j → i ≡ j
    shard_same i j e = cc
shard_granted_is c old new who s (acquired.Granted (store.Coordinator x)) same a = absurd (office_is_no_shard s a.0.slot_is)
  where
    office_is_no_shard : (i : ℕ) → slot.Coordinator ≡ slot.Shard i → ⊥
    office_is_no_shard i e = cc
shard_granted_is c old new who s (acquired.Granted (store.Queue x)) same a = absurd (queue_is_no_shard x.producer s a.0.slot_is)
  where
    queue_is_no_shard : (p i : ℕ) → slot.Queue p ≡ slot.Shard i → ⊥
    queue_is_no_shard p i e = cc
shard_granted_is c old new who s (acquired.Held h) same a = tt

-- Start, whole.

pub start_taken : (c : Script) (s : ℕ) (old new : Meaning) (v w : Node) (before late : List Item) → is_hosted v.entities s ≡ false → Gave c (asks (slot.Shard s)) (λ lists. take_shard lists s v) (moment old v before) (moment new w late)
    → Gave c (asks_start s v) (λ lists. rules.start lists s v) (moment old v before) (moment new w late)
start_taken c s old new v w before late away g =
    gave_asked c (asks (slot.Shard s)) (asks_start s v) (λ lists. rules.start lists s v) (moment old v before) (moment new w late) (λ t. ap (λ b. not b && asks (slot.Shard s) t) (sym away))
    (gave_same c (asks (slot.Shard s)) (λ lists. take_shard lists s v) (λ lists. rules.start lists s v) (moment old v before) (moment new w late) (λ lists. ap (λ b. if b then [] else take_shard lists s v) (sym away)) g)

pub start_there : (c : Script) (s : ℕ) (m : Meaning) (v : Node) (items : List Item) → is_hosted v.entities s ≡ true → Rests m c v → Gave c (asks_start s v) (λ lists. rules.start lists s v) (moment m v items) (moment m v items)
start_there c s m v items there rests =
    gave_asked c none (asks_start s v) (λ lists. rules.start lists s v) (moment m v items) (moment m v items) (λ t. ap (λ b. not b && asks (slot.Shard s) t) (sym there))
    (gave_same c none (λ lists. []) (λ lists. rules.start lists s v) (moment m v items) (moment m v items) (λ lists. ap (λ b. if b then [] else take_shard lists s v) (sym there)) (gave_nothing c (moment m v items) rests))

-- Parts.

pub parts_hosting : {c : Script} {kind : Kind} {version : ℕ} {region : Made} {e : Lodged} {queues : Producing} {office : Option Held} (s : ℕ) (x : Shelf) → AreParts c kind version region e queues office → AreParts c kind version region (hosting e s x) queues office
parts_hosting s x p = record {
  script_is = p.script_is;
  kind_is = p.kind_is;
  who_is = p.who_is;
  region_script = p.region_script;
  region_set = p.region_set;
  entities_script = p.entities_script;
  entities_who = p.entities_who;
  entities_set = p.entities_set;
  entities_version = p.entities_version;
  queues_script = p.queues_script;
  queues_who = p.queues_who;
  queues_there = p.queues_there;
  coordinator = p.coordinator;
}

pub spared_is : (x before : Spared Item) (i : Item) → x.items ≡ before.items ++ i ∷ [] → x.spare + 1 ≡ before.spare → x ≡ given before (made i ∷ [])
spared_is x before i items spare =
    let less : x.spare ≡ before.spare - 1 = omega (arith, spare) in
    ap (λ is. record { items = is; spare = x.spare }) items ∙ ap (λ n. record { items = before.items ++ i ∷ []; spare = n }) less

-- What Start leaves.

absent_not_active : (p : Phase) → is_phase phase.Active p ≡ true → is_phase phase.Absent p ≡ false
absent_not_active phase.Absent h = absurd (true≢false (sym h))
absent_not_active phase.Loading h = refl
absent_not_active phase.Active h = refl
absent_not_active phase.Stopping h = refl

-- the shard of an entity that takes commands is hosted
pub active_hosted : {c : Script} {st : Node} {s : ℕ} (e : List ℕ) → IsSoundNode c st → is_brought c e ≡ true → shard_of st.set e ≡ s → is_in_phase phase.Active st.entities e ≡ true → hosted st.entities s ≡ None → ⊥
active_hosted {c} {st} {s} e sound brought its active away =
    let set_is : st.entities.set ≡ st.set = sound.entities.set_is ∙ sym sound.set_is in
    let there : is_hosted st.entities s ≡ true = subst (λ t. is_hosted st.entities t ≡ true) (ap (λ (z : Setting). shard_of z e) set_is ∙ its) (sound.entities.at_home e brought (absent_not_active (cell st.entities e).phase active)) in
    true≢false (sym there ∙ ap (λ (o : Option Hosted). not (is_none o)) away)

pub away_room : {v : Standing} (s n : ℕ) → IsSoundNode v.script v.state → hosted v.state.entities s ≡ None → HasReleaseRoom n v s
away_room s n sound away = record { some = λ there. absurd (there away); active = λ e named its active. absurd (active_hosted e sound named its active away) }

pub fewer_room : {v : Standing} {s : ℕ} (n k : ℕ) → k ≤ n → HasReleaseRoom n v s → HasReleaseRoom k v s
fewer_room n k few room = record { some = room.some; active = λ e named its active. let wide = room.active e named its active in omega (arith, wide, few) }

-- between two inputs there is room to release all that is kept, of any shard
pub ready_room : {v : Standing} {spare : ℕ} (s : ℕ) → IsSoundNode v.script v.state → IsReady v spare → HasReleaseRoom (2 + 2 * v.script.config.buffer) v s
ready_room {v} {spare} s sound ready = record {
  some = λ there. let wide = ready.rooms s there in omega (arith, wide);
  active = λ e named its active. let wide = ready.rooms s (active_hosted e sound named its active) in omega (arith, wide);
}

pub start_delivers : (set : Setting) (k s : ℕ) (st : Entities) → list_all (is_delivering set k) (start_remembered s st) ≡ true
start_delivers set k s st =
    let es : List (List ℕ) = filter (λ e. is_remembered e (entries st e)) (names_of st.set s) in
    all_if (is_delivering set k) st.set.config.remember (flat_map (λ e. entities.start_entity e st) es) [] (all_each (is_delivering set k) (λ e. entities.start_entity e st) es (λ e. refl)) refl

hosts_leaves : {v w : Standing} {before late : Spared Item} (s : ℕ) (x : Shelf) → IsSoundNode v.script v.state → s < length v.rooms → hosted v.state.entities s ≡ None → 2 ≤ x.spare → Hosts s x v w before late → StartLeaves s v w before late
hosts_leaves {v} {w} {before} {late} s x sound inside away wide went = record {
  region_is = ap (λ (n : Node). n.region) goes;
  rooms = λ t n room. by t n room (t == s) refl;
  room =
      let given_one : (given before (told (fact.Granted (slot.Shard s) (epoch x.entries) v.state.who) ∷ [])).spare ≡ before.spare - 1 = refl in
      let less : late.spare ≡ (given before (told (fact.Granted (slot.Shard s) (epoch x.entries) v.state.who) ∷ [])).spare - length (items_of (of_entities (start_remembered s) (with_store s x v).state)) = went.spare_is in
      let few : length (items_of (of_entities (start_remembered s) (with_store s x v).state)) ≤ 2 * length (names_of v.state.entities.set s) = subst (λ is. length is ≤ 2 * length (names_of v.state.entities.set s)) (sym (entities_items (start_remembered s (with_store s x v).state.entities))) (start_remembered_room s (with_store s x v).state.entities) in
      let same : length (names_of v.state.entities.set s) ≡ length (names_of v.state.set s) = ap (λ (z : Setting). length (names_of z s)) (sound.entities.set_is ∙ sym sound.set_is) in
      omega (arith, given_one, less, few, same);
}
  where
    goes : w.state ≡ record (with_store s x v).state { entities = fold entities_after (with_store s x v).state.entities (start_remembered s (with_store s x v).state.entities) }
    goes = went.node_is ∙ entities_alone (with_store s x v).state (start_remembered s (with_store s x v).state.entities)

    was_active : (e : List ℕ) → is_in_phase phase.Active w.state.entities e ≡ true → is_in_phase phase.Active v.state.entities e ≡ true
    was_active e k = active_before v.state.set s (with_store s x v).state.entities (start_remembered s (with_store s x v).state.entities) e (start_delivers v.state.set s s (with_store s x v).state.entities)
        (subst (λ (n : Node). is_in_phase phase.Active n.entities e ≡ true) goes k)

    room_at : (k t : ℕ) → t ≢ k → slice_index_or w.rooms t 0 ≡ slice_index_or (slice_set v.rooms s x.spare) t 0
    room_at k t other = ap (λ rs. slice_index_or rs t 0) went.rooms_are
        ∙ rooms_beside (setting v.script) k t (slice_set v.rooms s x.spare) (start_remembered s (with_store s x v).state.entities) other (start_delivers (setting v.script) k s (with_store s x v).state.entities)

    by : (t n : ℕ) → HasReleaseRoom n v t → (b : Bool) → (t == s) ≡ b → HasReleaseRoom n w t
    by t n room true e =
        let here : t ≡ s = same_number t s e in
        let room_is : slice_index_or w.rooms t 0 ≡ x.spare = room_at (suc t) t (λ same. omega (arith, same)) ∙ (ap (λ i. slice_index_or (slice_set v.rooms s x.spare) i 0) here ∙ get_or-set_same v.rooms s x.spare 0 inside) in
        record {
          some = λ there. omega (arith, wide, room_is);
          active = λ y named its active. absurd (active_hosted y sound (subst (λ (c : Script). is_brought c y ≡ true) went.script_is named)
              (subst (λ (z : Setting). shard_of z y ≡ s) (ap (λ (n : Node). n.set) goes) (its ∙ here)) (was_active y active) away);
        }
    by t n room false e =
        let other : t ≢ s = other_number t s e in
        room_stays n (record {
          script_is = went.script_is;
          set_is = ap (λ (z : Node). z.set) goes;
          ending_is = ap (λ (z : Node). ending_in (hosted z.entities t)) goes
              ∙ (all_ending v.state.set s (with_store s x v).state.entities (start_remembered s (with_store s x v).state.entities) t (start_delivers v.state.set s s (with_store s x v).state.entities)
              ∙ ap ending_in (get_or-set_other v.state.entities.hosted s t (Some (record { entries = x.entries; stopping = None })) None other));
          active = was_active;
        }) (room_at s t other ∙ get_or-set_other v.rooms s t x.spare 0 other) room

pub start_leaves_all : {v : Standing} {before : Spared Item} (s : ℕ) → StartLeaves s v v before before
start_leaves_all s = record { region_is = refl; rooms = λ t n room. room; room = omega arith }

pub took_leaves : {v w : Standing} {before late : Spared Item} (s : ℕ) (answer : Acquire) → IsSoundNode v.script v.state → s < length v.rooms → hosted v.state.entities s ≡ None → IsShardGrant v.script v.state.who s answer
    → TookShard s answer v w before late → StartLeaves s v w before late
took_leaves s (acquired.Granted (store.Shard x)) sound inside away grant t = hosts_leaves s x sound inside away (let wide = grant.spare_is in omega (arith, wide)) t
took_leaves s (acquired.Granted (store.Coordinator x)) sound inside away grant t = absurd t
took_leaves s (acquired.Granted (store.Queue x)) sound inside away grant t = absurd t
took_leaves {v} {w} {before} {late} s (acquired.Held h) sound inside away grant t =
    subst (λ (x : Standing). StartLeaves s v x before late) (sym t.0)
    (subst (λ (x : Spared Item). StartLeaves s v v before x) (sym t.1) (record { region_is = refl; rooms = λ k n room. room; room = let one : (given before (told (fact.Held (slot.Shard s) v.state.who h) ∷ [])).spare ≡ before.spare - 1 = refl in omega (arith, one) }))
