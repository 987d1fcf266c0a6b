-- What a node tells leaves what every other node has in hand.
use Rattle.yard_model.specs.Era.{upgrade_step, version_in}
use Rattle.yard_laws.proofs.SafetyLaws.{guarded_is_own}
use Rattle.yard_laws.proofs.Guarding.{guarded_more}
use Rattle.std.proofs.Common.{◌≡◌, ℕ, ◌-◌, List, [], ◌∷◌, ◌++◌, sym, ap, subst, ◌∙◌, refl, true, false, true≢false}
use Rattle.std.specs.Prelude.{Bool, ◌||◌, ◌==◌, not, ◌+◌, slice_index_or, is_some, Option, Some, None, IfSome, false}
use Rattle.std.specs.List.{list_all}
use Rattle.std.proofs.lemmas.List.{append-nil, append_assoc, get_or-set_other}
use Rattle.std.proofs.lemmas.List.Sums.{fold-append}
use Rattle.yard_model.specs.declared.fact.Fact.{Fact}
use Rattle.yard_model.specs.declared.fact.Fact.TheVariants as fact
use Rattle.yard_model.specs.declared.incarnation.Incarnation.{Incarnation}
use Rattle.yard_model.specs.declared.incarnation.Slot.{Slot}
use Rattle.yard_model.specs.declared.incarnation.Slot.TheVariants as slot
use Rattle.yard_model.specs.Coordinator.{Coordinator}
use Rattle.yard_model.specs.Genuine.{is_slot_of}
use Rattle.yard_model.specs.Lawful.{is_held, is_leased, is_entry, may_follow}
use Rattle.yard_model.specs.Node.{Node}
use Rattle.yard_model.specs.Guards.{own_guard, guard, cross_guard, guarded, opens}
use Rattle.yard_model.specs.Script.{Script, Setting, setting}
use Rattle.yard_model.specs.SlotLists.{SlotLists, shard_list, queue_list}
use Rattle.yard_model.specs.SlotReads.{holder, epoch}
use Rattle.yard_model.specs.Trace.{slot_of, list_at, with_entry, lists_step, no_lists, lists_of}
use Rattle.yard_model.specs.Words.{is_same, is_at}
use Rattle.yard_laws.specs.Guarded.{Owns}
use Rattle.yard_laws.specs.Local.{starter}
use Rattle.plain_laws.proofs.Booleans.{true_is_not_false, and_both, both, of_not, all_map}
use Rattle.yard_laws.proofs.LocalLaws.{others_live_on}
use Rattle.actor_laws.specs.Owes.{Hand, hand_after, guard_in_hand, guarded_in_hand}
use Rattle.plain_laws.proofs.Members.{same_is, itself_is}
use Rattle.plain_laws.proofs.Lists.{by_place}
use Rattle.actor_laws.specs.CoordinatorStands.{IsGoodCoordinator}
use Rattle.actor_laws.specs.EntitiesStand.{IsEntities, IsHeldShard}
use Rattle.actor_laws.specs.Held.{slot_told, is_grant, is_slot_held, held_in_hand}
use Rattle.node_laws.specs.NodeStands.{is_own_fact, IsProducerAt, IsCoordinatorAt, IsSoundNode}
use Rattle.node_laws.specs.Traces.{IsHandOf, GoesOn, HasInHand, OthersHold}
use Rattle.node_laws.proofs.TraceLaws.{vouched_on, hand_is_guarded}

-- A slot that another holds.

-- what is granted isn't held
grant_free : (list : List Fact) (f : Fact) → is_grant f ≡ true → is_leased list f ≡ true → is_held list ≡ false
grant_free list (fact.Granted s n x) g h = of_not (is_held list) (and_both (not (is_held list)) (n == epoch list + 1) h).0
grant_free list f g h = absurd (true_is_not_false (sym g))

not_theirs : (c : Script) (trace : List Fact) (who y : Incarnation) (h : Hand) (f : Fact) (s : Slot) → h.lists ≡ lists_of (setting c) trace → own_guard c trace f (Some s) ≡ true → (is_grant f || is_slot_held who h (Some s)) ≡ true
    → holder (list_at (lists_of (setting c) trace) s) ≡ Some y → is_same y who ≡ false → ⊥
not_theirs c trace who y h f s same owns holds held other = by (is_grant f) refl
  where
    list : List Fact
    list = list_at (lists_of (setting c) trace) s

    follows : may_follow c s list f ≡ true
    follows = (and_both (is_slot_of c s) (may_follow c s list f) owns).1

    by : (b : Bool) → is_grant f ≡ b → ⊥
    by true g = true≢false (sym (ap is_some held) ∙ grant_free list f g (and_both (is_leased list f) (is_entry c s list f) follows).0)
    by false g = true≢false (sym (itself_is y who (sym (same_is who y (sym (ap (is_at who) held) ∙ (ap (λ (l : SlotLists). is_at who (holder (list_at l s))) (sym same) ∙ (sym (ap (λ b. b || is_slot_held who h (Some s)) g) ∙ holds)))))) ∙ other)

-- so its list stays
record Stays (c : Script) (trace : List Fact) (y : Incarnation) (lists : SlotLists) : Type 0 where
  shards_stay : (s : ℕ) → holder (shard_list (lists_of (setting c) trace) s) ≡ Some y → shard_list lists s ≡ shard_list (lists_of (setting c) trace) s
  office_stays : holder (lists_of (setting c) trace).coordinator ≡ Some y → lists.coordinator ≡ (lists_of (setting c) trace).coordinator
  queues_stay : (p : ℕ) → holder (queue_list (lists_of (setting c) trace) p) ≡ Some y → queue_list lists p ≡ queue_list (lists_of (setting c) trace) p

one_stays : (c : Script) (trace : List Fact) (who y : Incarnation) (h : Hand) (f : Fact) → h.lists ≡ lists_of (setting c) trace → is_same y who ≡ false → (o : Option Slot) → own_guard c trace f o ≡ true → (is_grant f || is_slot_held who h o) ≡ true
    → Stays c trace y (with_entry f (lists_of (setting c) trace) o)
one_stays c trace who y h f same other None owns holds = record { shards_stay = λ s k. refl; office_stays = λ k. refl; queues_stay = λ p k. refl }
one_stays c trace who y h f same other (Some (slot.Shard t)) owns holds = record {
  shards_stay = λ s k. by_place (shard_list (with_entry f (lists_of (setting c) trace) (Some (slot.Shard t))) s ≡ shard_list (lists_of (setting c) trace) s) s t
      (λ e. absurd (not_theirs c trace who y h f (slot.Shard t) same owns holds (subst (λ n. holder (shard_list (lists_of (setting c) trace) n) ≡ Some y) e k) other))
      (λ ne. get_or-set_other (lists_of (setting c) trace).shards t s (shard_list (lists_of (setting c) trace) t ++ f ∷ []) [] ne);
  office_stays = λ k. refl;
  queues_stay = λ p k. refl;
}
one_stays c trace who y h f same other (Some slot.Coordinator) owns holds = record {
  shards_stay = λ s k. refl;
  office_stays = λ k. absurd (not_theirs c trace who y h f slot.Coordinator same owns holds k other);
  queues_stay = λ p k. refl;
}
one_stays c trace who y h f same other (Some (slot.Queue q)) owns holds = record {
  shards_stay = λ s k. refl;
  office_stays = λ k. refl;
  queues_stay = λ p k. by_place (queue_list (with_entry f (lists_of (setting c) trace) (Some (slot.Queue q))) p ≡ queue_list (lists_of (setting c) trace) p) (p - 1) (q - 1)
      (λ e. absurd (not_theirs c trace who y h f (slot.Queue q) same owns holds (ap (λ n. holder (slice_index_or (lists_of (setting c) trace).queues n [])) (sym e) ∙ k) other))
      (λ ne. get_or-set_other (lists_of (setting c) trace).queues (q - 1) (p - 1) (queue_list (lists_of (setting c) trace) q ++ f ∷ []) [] ne);
}

-- One fact.

-- it starts and stops nothing elsewhere
starter_is : (y who : Incarnation) (f : Fact) → is_own_fact who f ≡ true → is_same y who ≡ false → is_at y (starter f) ≡ false
starter_is y who (fact.Start x e) own other = ap (is_same y) (same_is x who own) ∙ other
starter_is y who (fact.Stop x e) own other = ap (is_same y) (same_is x who own) ∙ other
starter_is y who (fact.WriteFailed x e) own other = ap (is_same y) (same_is x who own) ∙ other
starter_is y who (fact.Gone x) own other = absurd (true_is_not_false (sym own))
starter_is y who f own other = refl

-- the lists of the longer trace
pub longer : (c : Script) (trace : List Fact) (f : Fact) → lists_of (setting c) (trace ++ f ∷ []) ≡ with_entry f (lists_of (setting c) trace) (slot_of (setting c) f)
longer c trace f = fold-append (lists_step (setting c)) (no_lists (setting c)) trace (f ∷ [])

-- a guarded fact leaves the version, and so does one of a node's own
guard_version : (c : Script) (trace : List Fact) (f : Fact) → guard c trace f ≡ true → upgrade_step (version_in trace) f ≡ version_in trace
guard_version c trace (fact.Upgrade v) g = absurd (true_is_not_false (sym g))
guard_version c trace f g = refl

pub own_opens : (who : Incarnation) (f : Fact) → is_own_fact who f ≡ true → opens f ≡ false
own_opens who (fact.Upgrade v) own = absurd (true_is_not_false (sym own))
own_opens who f own = refl

pub all_own_open : (who : Incarnation) (fs : List Fact) → list_all (is_own_fact who) fs ≡ true → list_all (λ f. not (opens f)) fs ≡ true
all_own_open who fs own = all_map (is_own_fact who) (λ f. not (opens f)) (λ f k. ap not (own_opens who f k)) fs own

pub one_held : (c : Script) (trace : List Fact) (who : Incarnation) (h : Hand) (f : Fact) (st : Node) (g : Hand) → guarded c (trace ++ f ∷ []) ≡ true → guard c trace f ≡ true → IsHandOf c trace who h
    → is_at st.who (starter f) ≡ false → (is_grant f || is_slot_held who h (slot_of (setting c) f)) ≡ true → IsSoundNode c st → is_same st.who who ≡ false → HasInHand c trace st g
    → HasInHand c (trace ++ f ∷ []) st (record { lists = lists_of (setting c) (trace ++ f ∷ []); live = g.live; version = g.version })
one_held c trace who h f st g after_it guards i starts holds is other has = record {
  of_trace = record {
    lists_are = refl;
    version_is = has.of_trace.version_is ∙ sym (fold-append upgrade_step 1 trace (f ∷ []) ∙ guard_version c trace f guards);
    live_are = λ e. has.of_trace.live_are e ∙ sym (others_live_on e trace f st.who starts);
  };
  holds = record {
    entities = record {
      there = owned.shards;
      lists_are = λ s x e. let k : IsHeldShard c st.entities.who s x = hosts.hosted_are s x e in
          let was : shard_list (lists_of (setting c) trace) s ≡ x.entries = ap (λ (l : SlotLists). shard_list l s) (sym has.of_trace.lists_are) ∙ has.holds.entities.lists_are s x e in
          stays.shards_stay s (ap holder was ∙ (k.held_is ∙ ap Some is.entities_who)) ∙ was;
      version_is = has.holds.entities.version_is;
      live_are = has.holds.entities.live_are;
    };
    queues_there = owned.queues;
    producers = λ p k above e. let x : IsProducerAt c st.who p k = is.producers p k above e in
        let was : queue_list (lists_of (setting c) trace) p ≡ k.entries = ap (λ (l : SlotLists). queue_list l p) (sym has.of_trace.lists_are) ∙ has.holds.producers p k above e in
        stays.queues_stay p (ap holder was ∙ (x.stands.held_is ∙ ap Some x.who_is)) ∙ was;
    coordinator = leads st.coordinator is.coordinator has.holds.coordinator;
  };
}
  where
    owned : Owns c (lists_of (setting c) (trace ++ f ∷ []))
    owned = guarded_is_own c (trace ++ f ∷ []) after_it

    hosts : IsEntities c st.entities
    hosts = is.entities

    stays : Stays c trace st.who (lists_of (setting c) (trace ++ f ∷ []))
    stays = subst (Stays c trace st.who) (sym (longer c trace f)) (one_stays c trace who st.who h f i.lists_are other (slot_of (setting c) f) (and_both (own_guard c trace f (slot_of (setting c) f)) (cross_guard c trace f) guards).0 holds)

    leads : (o : Option Coordinator) → IfSome o (IsCoordinatorAt c st.who) → IfSome o (λ k. g.lists.coordinator ≡ k.entries) → IfSome o (λ k. (lists_of (setting c) (trace ++ f ∷ [])).coordinator ≡ k.entries)
    leads None x e = tt
    leads (Some k) x e =
        let sound : IsGoodCoordinator c k = x.sound in
        let was : (lists_of (setting c) trace).coordinator ≡ k.entries = ap (λ (l : SlotLists). l.coordinator) (sym has.of_trace.lists_are) ∙ e in
        stays.office_stays (ap holder was ∙ (sound.held_is ∙ ap Some x.who_is)) ∙ was

-- All of them.

-- so is the slot of an entry held
entry_held : (set : Setting) (who : Incarnation) (h : Hand) (f : Fact) → (is_grant f || is_slot_held who h (slot_told set f)) ≡ true → (is_grant f || is_slot_held who h (slot_of set f)) ≡ true
entry_held set who h (fact.Moving s stamp) k = refl
entry_held set who h f k = k

pub others_hold : OthersHold
others_hold c trace who vouches h [] st g safe v i guards own holds is other has = subst (λ t. HasInHand c t st (record { lists = lists_of (setting c) t; live = g.live; version = g.version })) (sym (append-nil trace))
    (subst (λ l. HasInHand c trace st (record { lists = l; live = g.live; version = g.version })) has.of_trace.lists_are has)
others_hold c trace who vouches h (f ∷ fs) st g safe v i guards own holds is other has =
    let m : (guard_in_hand c vouches who h f ≡ true) × (guarded_in_hand c vouches who (hand_after c h f) fs ≡ true) = and_both (guard_in_hand c vouches who h f) (guarded_in_hand c vouches who (hand_after c h f) fs) guards in
    let o : (is_own_fact who f ≡ true) × (list_all (is_own_fact who) fs ≡ true) = and_both (is_own_fact who f) (list_all (is_own_fact who) fs) own in
    let k : ((is_grant f || is_slot_held who h (slot_told (setting c) f)) ≡ true) × (held_in_hand c who (hand_after c h f) fs ≡ true) = and_both (is_grant f || is_slot_held who h (slot_told (setting c) f)) (held_in_hand c who (hand_after c h f) fs) holds in
    let one : GoesOn c trace who h (f ∷ []) = hand_is_guarded c trace who vouches h (f ∷ []) safe v i (both (guard_in_hand c vouches who h f) true m.0 refl) (both (is_own_fact who f) true o.0 refl) in
    let guard_is : guard c trace f ≡ true = (and_both (guarded c trace) (guard c trace f) (sym (guarded_more c trace f (own_opens who f o.0)) ∙ one.guarded_are)).1 in
    let new : Hand = record { lists = lists_of (setting c) (trace ++ f ∷ []); live = g.live; version = g.version } in
    let kept : HasInHand c (trace ++ f ∷ []) st new = one_held c trace who h f st g one.guarded_are guard_is i (starter_is st.who who f o.0 other) (entry_held (setting c) who h f k.0) is other has in
    subst (λ t. HasInHand c t st (record { lists = lists_of (setting c) t; live = g.live; version = g.version })) (append_assoc trace (f ∷ []) fs)
    (others_hold c (trace ++ f ∷ []) who vouches (hand_after c h f) fs st new one.guarded_are (vouched_on c trace f vouches v) one.in_hand m.1 o.1 k.1 is other kept)
