-- The crash of a node.
use Rattle.std.proofs.Common.{◌≡◌, ℕ, zero, suc, ◌+◌, ◌-◌, ◌<◌, ◌≤◌, List, [], ◌∷◌, ◌++◌, sym, ap, subst, ◌∙◌, refl, true, arith}
use Rattle.std.specs.Prelude.{Bool, ◌&&◌, ◌==◌, not, fold, slice_index_or, Option, Some, None, is_some, IfSome}
use Rattle.std.specs.List.{list_all, flat_map}
use Rattle.std.proofs.lemmas.List.{get_or-set_other}
use Rattle.std.proofs.lemmas.List.Sums.{fold-append}
use Rattle.yard_model.specs.declared.fact.Fact.{Fact}
use Rattle.yard_model.specs.declared.fact.Fact.TheVariants as fact
use Rattle.yard_model.specs.declared.incarnation.Cause.TheVariants as cause
use Rattle.yard_model.specs.declared.incarnation.Incarnation.{Incarnation}
use Rattle.yard_model.specs.declared.incarnation.Slot.TheVariants as slot
use Rattle.yard_model.specs.Coordinator.{Coordinator}
use Rattle.yard_model.specs.Entities.{Hosted, hosted}
use Rattle.yard_model.specs.Genuine.{is_shard, is_producer}
use Rattle.yard_model.specs.Lawful.{is_held, is_leased, is_entry, may_follow}
use Rattle.yard_model.specs.Node.{Node, freed_stopped}
use Rattle.yard_model.specs.Producer.{Producer}
use Rattle.yard_model.specs.Script.{Script, Setting, setting}
use Rattle.yard_model.specs.Setting.{shards, producers, names_of}
use Rattle.yard_model.specs.SlotLists.{shard_list, queue_list}
use Rattle.yard_model.specs.SlotReads.{holder, epoch}
use Rattle.yard_model.specs.Turns.{where_some}
use Rattle.yard_model.specs.Words.{is_at, at, numbers}
use Rattle.plain_laws.proofs.Booleans.{both, number_itself, is_below}
use Rattle.actor_laws.specs.Owes.{Hand, has_name, hand_after, lives_in_hand, guard_in_hand, guarded_in_hand}
use Rattle.plain_laws.proofs.Members.{itself_is}
use Rattle.plain_laws.proofs.Lists.{all_join, all_some, all_each}
use Rattle.actor_laws.specs.CoordinatorStands.{IsGoodCoordinator}
use Rattle.actor_laws.specs.EntitiesStand.{IsEntities, IsHeldShard, InHand}
use Rattle.actor_laws.specs.ProducerStands.{ProducerKeeps, Rules}
use Rattle.node_laws.specs.NodeStands.{is_own_fact, IsProducerAt, IsCoordinatorAt, IsSoundNode}
use Rattle.actor_laws.specs.Held.{held_in_hand}
use Rattle.node_laws.specs.NodeTurns.{CrashStands, CrashIs}
use Rattle.actor_laws.proofs.EntitiesMoves.{guarded_both, held_both}

-- a slot that is held may be freed
freed_follows : (list : List Fact) (who : Incarnation) → holder list ≡ Some who → (is_held list && (epoch list == epoch list)) ≡ true
freed_follows list who held = both (is_held list) (epoch list == epoch list) (ap is_some held) (number_itself (epoch list) (epoch list) refl)

-- Shards, rising.

-- what the node frees of one of them
abbrev shard_freed : Node → ℕ → List Fact
shard_freed st s = where_some (λ (x : Hosted). freed_stopped (slot.Shard s) x.entries) (hosted st.entities s)

-- what is in hand while shards are freed: those from a on as the node has them, and the others' lists as they were
record Freeing (st : Node) (a : ℕ) (was h : Hand) : Type 0 where
  live_is : h.live ≡ []
  shards_left : (s : ℕ) (x : Hosted) → a ≤ s → hosted st.entities s ≡ Some x → shard_list h.lists s ≡ x.entries
  coordinator_is : h.lists.coordinator ≡ was.lists.coordinator
  queues_are : h.lists.queues ≡ was.lists.queues

none_live : (live : List (List ℕ)) → live ≡ [] → (es : List (List ℕ)) → list_all (λ e. not (has_name e live)) es ≡ true
none_live live none [] = refl
none_live live none (e ∷ es) = both (not (has_name e live)) (list_all (λ e. not (has_name e live)) es) (ap (λ l. not (has_name e l)) none) (none_live live none es)

-- one of them
record OneFreed (c : Script) (v : List ℕ → ℕ → ℕ → Bool) (st : Node) (a : ℕ) (was h : Hand) (fs : List Fact) : Type 0 where
  guarded_are : guarded_in_hand c v st.who h fs ≡ true
  held_are : held_in_hand c st.who h fs ≡ true
  freeing : Freeing st (a + 1) was (fold (hand_after c) h fs)

one_shard : (c : Script) (v : List ℕ → ℕ → ℕ → Bool) (st : Node) (a : ℕ) (was h : Hand) → IsSoundNode c st → is_shard c a ≡ true → Freeing st a was h → (o : Option Hosted) → hosted st.entities a ≡ o
    → OneFreed c v st a was h (where_some (λ (x : Hosted). freed_stopped (slot.Shard a) x.entries) o)
one_shard c v st a was h is shard f None here = record {
  guarded_are = refl;
  held_are = refl;
  freeing = record { live_is = f.live_is; shards_left = λ s x above e. f.shards_left s x (omega (arith, above)) e; coordinator_is = f.coordinator_is; queues_are = f.queues_are };
}
one_shard c v st a was h is shard f (Some x) here =
    let e : IsEntities c st.entities = is.entities in
    let held : IsHeldShard c st.entities.who a x = e.hosted_are a x here in
    let same : shard_list h.lists a ≡ x.entries = f.shards_left a x (omega (arith)) here in
    let holds : holder x.entries ≡ Some st.who = held.held_is ∙ ap Some is.entities_who in
    let it : Fact = fact.Freed (slot.Shard a) (epoch x.entries) cause.Stopped in
    record {
      guarded_are = both (guard_in_hand c v st.who h it) true
          (both (is_shard c a && may_follow c (slot.Shard a) (shard_list h.lists a) it) (lives_in_hand c v st.who h it)
          (both (is_shard c a) (may_follow c (slot.Shard a) (shard_list h.lists a) it) shard (ap (λ l. may_follow c (slot.Shard a) l it) same
          ∙ both (is_leased x.entries it) (is_entry c (slot.Shard a) x.entries it) (freed_follows x.entries st.who holds) (number_itself a a refl)))
          (both (is_at st.who (holder (shard_list h.lists a))) (list_all (λ e. not (has_name e h.live)) (names_of (setting c) a))
          (ap (λ l. is_at st.who (holder l)) same ∙ (ap (is_at st.who) holds ∙ itself_is st.who st.who refl)) (none_live h.live f.live_is (names_of (setting c) a)))) refl;
      held_are = both (is_at st.who (holder (shard_list h.lists a))) true (ap (λ l. is_at st.who (holder l)) same ∙ (ap (is_at st.who) holds ∙ itself_is st.who st.who refl)) refl;
      freeing = record {
        live_is = f.live_is;
        shards_left = λ s y above k. get_or-set_other h.lists.shards a s (shard_list h.lists a ++ it ∷ []) [] (λ g. omega (arith, above, g)) ∙ f.shards_left s y (omega (arith, above)) k;
        coordinator_is = f.coordinator_is;
        queues_are = f.queues_are;
      };
    }

record AllFreed (c : Script) (v : List ℕ → ℕ → ℕ → Bool) (st : Node) (was h : Hand) (fs : List Fact) : Type 0 where
  guarded_are : guarded_in_hand c v st.who h fs ≡ true
  held_are : held_in_hand c st.who h fs ≡ true
  coordinator_is : (fold (hand_after c) h fs).lists.coordinator ≡ was.lists.coordinator
  queues_are : (fold (hand_after c) h fs).lists.queues ≡ was.lists.queues

all_shards : (c : Script) (v : List ℕ → ℕ → ℕ → Bool) (st : Node) (a n : ℕ) (was h : Hand) → IsSoundNode c st → a + n ≤ c.config.shards → Freeing st a was h → AllFreed c v st was h (flat_map (shard_freed st) (numbers a n))
all_shards c v st a zero was h is below f = record { guarded_are = refl; held_are = refl; coordinator_is = f.coordinator_is; queues_are = f.queues_are }
all_shards c v st a (suc n) was h is below f =
    let fs : List Fact = shard_freed st a in
    let rest : List Fact = flat_map (shard_freed st) (numbers (a + 1) n) in
    let one : OneFreed c v st a was h fs = one_shard c v st a was h is (is_below a c.config.shards (omega (arith, below))) f (hosted st.entities a) refl in
    let others : AllFreed c v st was (fold (hand_after c) h fs) rest = all_shards c v st (a + 1) n was (fold (hand_after c) h fs) is (omega (arith, below)) one.freeing in
    record {
      guarded_are = guarded_both c v st.who h fs rest one.guarded_are others.guarded_are;
      held_are = held_both c st.who h fs rest one.held_are others.held_are;
      coordinator_is = ap (λ (x : Hand). x.lists.coordinator) (fold-append (hand_after c) h fs rest) ∙ others.coordinator_is;
      queues_are = ap (λ (x : Hand). x.lists.queues) (fold-append (hand_after c) h fs rest) ∙ others.queues_are;
    }

-- The coordinator.

coordinator_freed : (c : Script) (v : List ℕ → ℕ → ℕ → Bool) (st : Node) (h : Hand) (o : Option Coordinator) → IfSome o (IsCoordinatorAt c st.who) → IfSome o (λ k. h.lists.coordinator ≡ k.entries)
    → guarded_in_hand c v st.who h (where_some (λ (k : Coordinator). freed_stopped slot.Coordinator k.entries) o) ≡ true
coordinator_freed c v st h None s i = refl
coordinator_freed c v st h (Some k) s i =
    let sound : IsGoodCoordinator c k = s.sound in
    let it : Fact = fact.Freed slot.Coordinator (epoch k.entries) cause.Stopped in
    both (guard_in_hand c v st.who h it) true
    (both (may_follow c slot.Coordinator h.lists.coordinator it) true (ap (λ l. may_follow c slot.Coordinator l it) i
    ∙ both (is_leased k.entries it) (is_entry c slot.Coordinator k.entries it) (freed_follows k.entries k.who sound.held_is) refl) refl) refl

coordinator_held : (c : Script) (st : Node) (h : Hand) (o : Option Coordinator) → IfSome o (IsCoordinatorAt c st.who) → IfSome o (λ k. h.lists.coordinator ≡ k.entries)
    → held_in_hand c st.who h (where_some (λ (k : Coordinator). freed_stopped slot.Coordinator k.entries) o) ≡ true
coordinator_held c st h None s i = refl
coordinator_held c st h (Some k) s i =
    let sound : IsGoodCoordinator c k = s.sound in
    both (is_at st.who (holder h.lists.coordinator)) true (ap (λ l. is_at st.who (holder l)) i ∙ (ap (is_at st.who) (sound.held_is ∙ ap Some s.who_is) ∙ itself_is st.who st.who refl)) refl

coordinator_queues : (c : Script) (h : Hand) (o : Option Coordinator) → (fold (hand_after c) h (where_some (λ (k : Coordinator). freed_stopped slot.Coordinator k.entries) o)).lists.queues ≡ h.lists.queues
coordinator_queues c h None = refl
coordinator_queues c h (Some k) = refl

-- Queues, rising.

abbrev queue_freed : Node → ℕ → List Fact
queue_freed st p = where_some (λ (k : Producer). freed_stopped (slot.Queue p) k.entries) (at st.producers (p - 1))

abbrev QueuesLeft : Node → ℕ → Hand → Type 0
QueuesLeft st a h = (p : ℕ) (k : Producer) → a ≤ p → at st.producers (p - 1) ≡ Some k → queue_list h.lists p ≡ k.entries

record QueueFreed (c : Script) (v : List ℕ → ℕ → ℕ → Bool) (st : Node) (a : ℕ) (h : Hand) (fs : List Fact) : Type 0 where
  guarded_are : guarded_in_hand c v st.who h fs ≡ true
  held_are : held_in_hand c st.who h fs ≡ true
  left : QueuesLeft st (a + 1) (fold (hand_after c) h fs)

record QueuesFreed (c : Script) (v : List ℕ → ℕ → ℕ → Bool) (st : Node) (h : Hand) (fs : List Fact) : Type 0 where
  guarded_are : guarded_in_hand c v st.who h fs ≡ true
  held_are : held_in_hand c st.who h fs ≡ true

one_queue : ProducerKeeps → (c : Script) (v : List ℕ → ℕ → ℕ → Bool) (st : Node) (a : ℕ) (h : Hand) → IsSoundNode c st → 0 < a → QueuesLeft st a h → (o : Option Producer) → at st.producers (a - 1) ≡ o
    → QueueFreed c v st a h (where_some (λ (k : Producer). freed_stopped (slot.Queue a) k.entries) o)
one_queue keeps c v st a h is above f None here = record { guarded_are = refl; held_are = refl; left = λ p k over e. f p k (omega (arith, over)) e }
one_queue keeps c v st a h is above f (Some k) here =
    let x : IsProducerAt c st.who a k = is.producers a k above here in
    let r : Rules c k = keeps c k x.stands in
    let same : queue_list h.lists a ≡ k.entries = f a k (omega (arith)) here in
    let it : Fact = fact.Freed (slot.Queue a) (epoch k.entries) cause.Stopped in
    record {
      guarded_are = both (guard_in_hand c v st.who h it) true
          (both (is_producer c a && may_follow c (slot.Queue a) (queue_list h.lists a) it) true
          (both (is_producer c a) (may_follow c (slot.Queue a) (queue_list h.lists a) it) (subst (λ n. is_producer c n ≡ true) x.number_is x.stands.number_is)
          (ap (λ l. may_follow c (slot.Queue a) l it) same ∙ subst (λ n. may_follow c (slot.Queue n) k.entries (fact.Freed (slot.Queue n) (epoch k.entries) cause.Stopped) ≡ true) x.number_is (r.freed_follows cause.Stopped))) refl) refl;
      held_are = both (is_at st.who (holder (queue_list h.lists a))) true (ap (λ l. is_at st.who (holder l)) same ∙ (ap (is_at st.who) (x.stands.held_is ∙ ap Some x.who_is) ∙ itself_is st.who st.who refl)) refl;
      left = λ p y over e. get_or-set_other h.lists.queues (a - 1) (p - 1) (queue_list h.lists a ++ it ∷ []) [] (λ g. omega (arith, above, over, g)) ∙ f p y (omega (arith, over)) e;
    }

all_queues : ProducerKeeps → (c : Script) (v : List ℕ → ℕ → ℕ → Bool) (st : Node) (a n : ℕ) (h : Hand) → IsSoundNode c st → 0 < a → QueuesLeft st a h → QueuesFreed c v st h (flat_map (queue_freed st) (numbers a n))
all_queues keeps c v st a zero h is above f = record { guarded_are = refl; held_are = refl }
all_queues keeps c v st a (suc n) h is above f =
    let fs : List Fact = queue_freed st a in
    let one : QueueFreed c v st a h fs = one_queue keeps c v st a h is above f (at st.producers (a - 1)) refl in
    let rest : List Fact = flat_map (queue_freed st) (numbers (a + 1) n) in
    let others : QueuesFreed c v st (fold (hand_after c) h fs) rest = all_queues keeps c v st (a + 1) n (fold (hand_after c) h fs) is (omega (arith, above)) one.left in
    record { guarded_are = guarded_both c v st.who h fs rest one.guarded_are others.guarded_are; held_are = held_both c st.who h fs rest one.held_are others.held_are }

-- All of them.

pub crash_stands : ProducerKeeps → CrashStands
crash_stands keeps c v st h is i =
    let gone : Hand = record { lists = h.lists; live = []; version = h.version } in
    let set : Setting = setting c in
    let shards_freed : List Fact = flat_map (shard_freed st) (shards set) in
    let office : List Fact = where_some (λ (k : Coordinator). freed_stopped slot.Coordinator k.entries) st.coordinator in
    let queues_freed : List Fact = flat_map (queue_freed st) (producers set) in
    let e : InHand c h st.entities = i.entities in
    let one : AllFreed c v st h gone shards_freed = all_shards c v st 0 c.config.shards h gone is (omega (arith)) (record { live_is = refl; shards_left = λ s x over k. e.lists_are s x k; coordinator_is = refl; queues_are = refl }) in
    let mid : Hand = fold (hand_after c) gone shards_freed in
    let later : Hand = fold (hand_after c) mid office in
    let in_office : IfSome st.coordinator (λ k. mid.lists.coordinator ≡ k.entries) = subst (λ l. IfSome st.coordinator (λ k. l ≡ k.entries)) (sym one.coordinator_is) i.coordinator in
    let two : guarded_in_hand c v st.who mid office ≡ true = coordinator_freed c v st mid st.coordinator is.coordinator in_office in
    let three : QueuesFreed c v st later queues_freed = all_queues keeps c v st 1 c.config.producers later is (omega (arith))
    (λ p k over at_p. ap (λ l. slice_index_or l (p - 1) []) (coordinator_queues c mid st.coordinator ∙ one.queues_are) ∙ i.producers p k (omega (arith, over)) at_p) in
    let last : fold (hand_after c) gone (shards_freed ++ office) ≡ later = fold-append (hand_after c) gone shards_freed office in
    subst (λ (set : Setting). let fs : List Fact = (flat_map (shard_freed st) (shards set) ++ office) ++ flat_map (queue_freed st) (producers set) in CrashIs c v st gone fs) (sym is.set_is)
    (record {
      guarded_are = guarded_both c v st.who gone (shards_freed ++ office) queues_freed (guarded_both c v st.who gone shards_freed office one.guarded_are two) (subst (λ x. guarded_in_hand c v st.who x queues_freed ≡ true) (sym last) three.guarded_are);
      held_are = held_both c st.who gone (shards_freed ++ office) queues_freed (held_both c st.who gone shards_freed office one.held_are (coordinator_held c st mid st.coordinator is.coordinator in_office)) (subst (λ x. held_in_hand c st.who x queues_freed ≡ true) (sym last) three.held_are);
      own_are = all_join (is_own_fact st.who) (shards_freed ++ office) queues_freed
          (all_join (is_own_fact st.who) shards_freed office (all_each (is_own_fact st.who) (shard_freed st) (shards set) (λ s. all_some (is_own_fact st.who) (λ (x : Hosted). freed_stopped (slot.Shard s) x.entries) (hosted st.entities s) (λ x. refl)))
          (all_some (is_own_fact st.who) (λ (k : Coordinator). freed_stopped slot.Coordinator k.entries) st.coordinator (λ k. refl)))
          (all_each (is_own_fact st.who) (queue_freed st) (producers set) (λ p. all_some (is_own_fact st.who) (λ (k : Producer). freed_stopped (slot.Queue p) k.entries) (at st.producers (p - 1)) (λ k. refl)));
    })
