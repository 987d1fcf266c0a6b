-- The producers of a node: what each of their moves keeps and tells.
use Rattle.std.proofs.Common.{◌≡◌, ℕ, ◌<◌, ◌≤◌, ◌-◌, ◌+◌, List, [], ◌∷◌, ◌++◌, length, sym, ap, subst, ◌∙◌, refl, true, false, true≢false, arith}
use Rattle.std.specs.Prelude.{Bool, ◌||◌, ◌&&◌, nat_lt, nat_le, map, max, fold, Option, Some, None, IfSome, slice_set, slice_index_or, if◌then◌else◌}
use Rattle.std.specs.List.{list_all}
use Rattle.std.proofs.lemmas.Bool.Decides.{nat_tests}
use Rattle.std.proofs.lemmas.List.{get_or-set_same, get_or-set_other, length-set}
use Rattle.yard_model.specs.declared.charter.Sending.{Sending}
use Rattle.yard_model.specs.declared.fact.Fact.{Fact}
use Rattle.yard_model.specs.declared.fact.Fact.TheVariants as fact
use Rattle.yard_model.specs.declared.out.Item.TheVariants as item
use Rattle.yard_model.specs.declared.incarnation.Cause.TheVariants as cause
use Rattle.yard_model.specs.declared.incarnation.Incarnation.{Incarnation}
use Rattle.yard_model.specs.declared.incarnation.Slot.TheVariants as slot
use Rattle.yard_model.specs.Genuine.{is_producer}
use Rattle.yard_model.specs.Lawful.{own, may_follow}
use Rattle.yard_model.specs.Move.{Move, made, took, demanded, pushed, told, item_of}
use Rattle.yard_model.specs.Node.{Node, Act, by_producer, producer_by, move_of, after, items_of, acquire_by, acquire}
use Rattle.yard_model.specs.Producer as producer
use Rattle.yard_model.specs.Producer.{Producer, producer_after, new_producer}
use Rattle.yard_model.specs.Script.{Script, Setting, setting, sends}
use Rattle.yard_model.specs.Setting.{place}
use Rattle.yard_model.specs.SlotLists.{queue_list}
use Rattle.yard_model.specs.SlotReads.{holder, epoch, queued, confirmed}
use Rattle.yard_model.specs.Trace.{slot_of, with_entry}
use Rattle.yard_model.specs.Words.{at, is_at, is_same}
use Rattle.plain_laws.proofs.Booleans.{and_both, both, at_most, right_of}
use Rattle.actor_laws.specs.Owes.{Hand, has_name, live_after, hand_after, follows_in_hand, lives_in_hand, guard_in_hand, guarded_in_hand, facts_in, is_own_post}
use Rattle.plain_laws.proofs.Members.{itself_is}
use Rattle.plain_laws.proofs.Lists.{none_is_not_some, some_is, inside, by_place, placed_at, placed_beside}
use Rattle.actor_laws.specs.Held.{slot_told, is_grant, is_slot_held, held_in_hand}
use Rattle.actor_laws.proofs.EntitiesMoves.{entry_told}
use Rattle.node_laws.specs.NodeStands.{is_own_fact, IsProducerAt, IsSoundNode, NodeInHand}
use Rattle.node_laws.proofs.NodeKeeps.{NodeKeeps}
use Rattle.actor_laws.specs.ProducerStands.{IsProducer, Rules, IsGranted, ProducerKeeps, ProducerIsGranted}
use Rattle.node_laws.specs.NodeFound.{NodeKeepsIf}
use Rattle.node_laws.proofs.NodeParts.{node_none}

-- A producer at its place.

-- the node with this at the place of producer p
abbrev pub put : Node → ℕ → Option Producer → Node
put st p o = record st { producers = slice_set st.producers (p - 1) o }

-- a move after which the producer is there, where it was
abbrev pub is_producing : Move → Bool
is_producing (took s list) = false
is_producing (made (item.Fact (fact.Freed s n why))) = false
is_producing m = true

by_is : (set : Setting) (who : Incarnation) (p : ℕ) (o : Option Producer) (k : Producer) (m : Move) → is_producing m ≡ true → o ≡ Some k → producer_by set who p o m ≡ Some (producer_after k m)
by_is set who p o k (took s list) produces found = absurd (true≢false (sym produces))
by_is set who p o k (made (item.Fact (fact.Freed s n why))) produces found = absurd (true≢false (sym produces))
by_is set who p o k m produces found = ap (λ x. producer_by set who p x m) found

-- one move of a producer
pub producer_move : (st : Node) (p : ℕ) (k : Producer) (m : Move) → at st.producers (p - 1) ≡ Some k → is_producing m ≡ true → fold after st (by_producer p m ∷ []) ≡ put st p (Some (producer_after k m))
producer_move st p k m found produces = ap (put st p) (by_is st.set st.who p (at st.producers (p - 1)) k m produces found)

same_place : (p q : ℕ) → 0 < p → 0 < q → q - 1 ≡ p - 1 → q ≡ p
same_place p q hp hq e = omega (arith, e)

-- a producer that stands at its place, or none
stands_put : (c : Script) (st : Node) (p : ℕ) (o : Option Producer) → IsSoundNode c st → 0 < p → p - 1 < length st.producers → ((j : Producer) → o ≡ Some j → IsProducerAt c st.who p j) → IsSoundNode c (put st p o)
stands_put c st p o is above less here = record {
  who_is = is.who_is;
  set_is = is.set_is;
  region = is.region;
  region_who = is.region_who;
  different = is.different;
  entities = is.entities;
  entities_who = is.entities_who;
  producers_full = length-set st.producers (p - 1) o ∙ is.producers_full;
  producers = λ q j up e. by_place (IsProducerAt c st.who q j) (q - 1) (p - 1)
      (λ same. subst (λ n. IsProducerAt c st.who n j) (sym (same_place p q above up same))
      (here j (sym (placed_at st.producers (p - 1) o less) ∙ (ap (at (slice_set st.producers (p - 1) o)) (sym same) ∙ e))))
      (λ other. is.producers q j up (sym (placed_beside st.producers (p - 1) (q - 1) o other) ∙ e));
  coordinator = is.coordinator;
}

-- what is in hand: the same beside queue p, and of queue p the list of what is put there
along_put : (c : Script) (h g : Hand) (st : Node) (p : ℕ) (o : Option Producer) → NodeInHand c h st → p - 1 < length st.producers
    → g.version ≡ h.version → g.live ≡ h.live → g.lists.shards ≡ h.lists.shards → g.lists.coordinator ≡ h.lists.coordinator → length g.lists.queues ≡ length h.lists.queues
    → ((q : ℕ) → (q - 1 ≡ p - 1 → ⊥) → queue_list g.lists q ≡ queue_list h.lists q)
    → ((j : Producer) → o ≡ Some j → queue_list g.lists p ≡ j.entries)
    → NodeInHand c g (put st p o)
along_put c h g st p o i less version live shards leads there beside here = record {
  entities = record {
    there = ap length shards ∙ i.entities.there;
    lists_are = λ s x e. ap (λ l. slice_index_or l s []) shards ∙ i.entities.lists_are s x e;
    version_is = version ∙ i.entities.version_is;
    live_are = λ e he. ap (λ l. has_name e l) live ∙ i.entities.live_are e he;
  };
  queues_there = there ∙ i.queues_there;
  producers = λ q j up e. by_place (queue_list g.lists q ≡ j.entries) (q - 1) (p - 1)
      (λ same. ap (λ n. slice_index_or g.lists.queues n []) same
      ∙ here j (sym (placed_at st.producers (p - 1) o less) ∙ (ap (at (slice_set st.producers (p - 1) o)) (sym same) ∙ e)))
      (λ other. beside q other ∙ i.producers q j up (sym (placed_beside st.producers (p - 1) (q - 1) o other) ∙ e));
  coordinator = subst (λ l. IfSome st.coordinator (λ k. l ≡ k.entries)) (sym leads) i.coordinator;
}

-- Silent moves.

abbrev pub is_silent : Move → Bool
is_silent (demanded e u) = true
is_silent (pushed e n) = true
is_silent m = false

silent_at : (c : Script) (who : Incarnation) (p : ℕ) (k : Producer) (m : Move) → is_silent m ≡ true → IsProducerAt c who p k → IsProducerAt c who p (producer_after k m)
silent_at c who p k (demanded e u) s a = record {
  stands = record {
    who_is = a.stands.who_is;
    set_is = a.stands.set_is;
    number_is = a.stands.number_is;
    own_is = a.stands.own_is;
    held_is = a.stands.held_is;
    pairs_full = length-set k.pairs (place k.set e) (record { demand = max (producer.progress k e).demand u; sent = (producer.progress k e).sent }) ∙ a.stands.pairs_full;
  };
  who_is = a.who_is;
  number_is = a.number_is;
}
silent_at c who p k (pushed e n) s a = record {
  stands = record {
    who_is = a.stands.who_is;
    set_is = a.stands.set_is;
    number_is = a.stands.number_is;
    own_is = a.stands.own_is;
    held_is = a.stands.held_is;
    pairs_full = length-set k.pairs (place k.set e) (record { demand = (producer.progress k e).demand; sent = max (producer.progress k e).sent n }) ∙ a.stands.pairs_full;
  };
  who_is = a.who_is;
  number_is = a.number_is;
}
silent_at c who p k m s a = absurd (true≢false (sym s))

silent_entries : (k : Producer) (m : Move) → is_silent m ≡ true → (producer_after k m).entries ≡ k.entries
silent_entries k (demanded e u) s = refl
silent_entries k (pushed e n) s = refl
silent_entries k m s = absurd (true≢false (sym s))

silent_items : (m : Move) → is_silent m ≡ true → item_of m ≡ []
silent_items (demanded e u) s = refl
silent_items (pushed e n) s = refl
silent_items m s = absurd (true≢false (sym s))

silent_produces : (m : Move) → is_silent m ≡ true → is_producing m ≡ true
silent_produces (demanded e u) s = refl
silent_produces (pushed e n) s = refl
silent_produces m s = absurd (true≢false (sym s))

-- an act that tells and posts nothing, before others
still_then : (c : Script) (v : List ℕ → ℕ → ℕ → Bool) (st : Node) (a : Act) (acts : List Act) → item_of (move_of a) ≡ [] → ((h : Hand) → NodeInHand c h st → NodeInHand c h (after st a)) → NodeKeeps c v (after st a) acts → NodeKeeps c v st (a ∷ acts)
still_then c v st a acts none along rest = record {
  stands = rest.stands;
  posts_are = ap (list_all (is_own_post c st.who)) items ∙ rest.posts_are;
  own_are = ap (λ is. list_all (is_own_fact st.who) (facts_in is)) items ∙ rest.own_are;
  held_are = λ h i. ap (λ is. held_in_hand c st.who h (facts_in is)) items ∙ rest.held_are h (along h i);
  guarded_are = λ h i. ap (λ is. guarded_in_hand c v st.who h (facts_in is)) items ∙ rest.guarded_are h (along h i);
  goes_along = λ h i. subst (λ is. NodeInHand c (fold (hand_after c) h (facts_in is)) (fold after st (a ∷ acts))) (sym items) (rest.goes_along h (along h i));
}
  where
    items : items_of (a ∷ acts) ≡ items_of acts
    items = ap (λ is. is ++ items_of acts) none

-- the list of a producer that the node has stays in hand where its list is the same
along_still : (c : Script) (h : Hand) (st : Node) (p : ℕ) (k j : Producer) → NodeInHand c h st → 0 < p → at st.producers (p - 1) ≡ Some k → j.entries ≡ k.entries → NodeInHand c h (put st p (Some j))
along_still c h st p k j i above found same = along_put c h h st p (Some j) i (inside st.producers (p - 1) k found) refl refl refl refl refl (λ q other. refl)
    (λ l e. i.producers p k above found ∙ (sym same ∙ ap (λ (x : Producer). x.entries) (some_is j l e)))

pub producer_silent : (c : Script) (v : List ℕ → ℕ → ℕ → Bool) (st : Node) (p : ℕ) (k : Producer) (ms : List Move) → IsSoundNode c st → 0 < p → at st.producers (p - 1) ≡ Some k → list_all is_silent ms ≡ true → NodeKeeps c v st (map (by_producer p) ms)
producer_silent c v st p k [] is above found s = node_none c v st is
producer_silent c v st p k (m ∷ ms) is above found s =
    let t : (is_silent m ≡ true) × (list_all is_silent ms ≡ true) = and_both (is_silent m) (list_all is_silent ms) s in
    let new : Producer = producer_after k m in
    let less : p - 1 < length st.producers = inside st.producers (p - 1) k found in
    let moved : after st (by_producer p m) ≡ put st p (Some new) = producer_move st p k m found (silent_produces m t.0) in
    let next : IsSoundNode c (put st p (Some new)) = stands_put c st p (Some new) is above less
    (λ j e. subst (IsProducerAt c st.who p) (some_is new j e) (silent_at c st.who p k m t.0 (is.producers p k above found))) in
    let rest : NodeKeeps c v (put st p (Some new)) (map (by_producer p) ms) = producer_silent c v (put st p (Some new)) p new ms next above (placed_at st.producers (p - 1) (Some new) less) t.1 in
    still_then c v st (by_producer p m) (map (by_producer p) ms) (silent_items m t.0)
    (λ h i. subst (NodeInHand c h) (sym moved) (along_still c h st p k new i above found (silent_entries k m t.0)))
    (subst (λ x. NodeKeeps c v x (map (by_producer p) ms)) (sym moved) rest)

-- the silent rules
pub push_node : (c : Script) (v : List ℕ → ℕ → ℕ → Bool) (st : Node) (p : ℕ) (k : Producer) (e : List ℕ) → IsSoundNode c st → 0 < p → at st.producers (p - 1) ≡ Some k → NodeKeeps c v st (map (by_producer p) (producer.push_marks e k))
push_node c v st p k e is above found = producer_silent c v st p k (producer.push_marks e k) is above found refl

pub demand_node : (c : Script) (v : List ℕ → ℕ → ℕ → Bool) (st : Node) (p : ℕ) (k : Producer) (e : List ℕ) (u : ℕ) → IsSoundNode c st → 0 < p → at st.producers (p - 1) ≡ Some k → NodeKeeps c v st (map (by_producer p) (demanded e u ∷ []))
demand_node c v st p k e u is above found = producer_silent c v st p k (demanded e u ∷ []) is above found refl

pushes_silent : (e ns : List ℕ) → list_all is_silent (map (pushed e) ns) ≡ true
pushes_silent e [] = refl
pushes_silent e (n ∷ ns) = pushes_silent e ns

pub repeat_node : (c : Script) (v : List ℕ → ℕ → ℕ → Bool) (st : Node) (p : ℕ) (k : Producer) (e : List ℕ) → IsSoundNode c st → 0 < p → at st.producers (p - 1) ≡ Some k → NodeKeeps c v st (map (by_producer p) (map (pushed e) (producer.to_repeat e k)))
repeat_node c v st p k e is above found = producer_silent c v st p k (map (pushed e) (producer.to_repeat e k)) is above found (pushes_silent e (producer.to_repeat e k))

-- Entries of a queue.

entry_guarded : (c : Script) (v : List ℕ → ℕ → ℕ → Bool) (who : Incarnation) (p : ℕ) (list : List Fact) (f : Fact) (h : Hand) → is_producer c p ≡ true → slot_of (setting c) f ≡ Some (slot.Queue p) → may_follow c (slot.Queue p) list f ≡ true
    → queue_list h.lists p ≡ list → lives_in_hand c v who h f ≡ true → guard_in_hand c v who h f ≡ true
entry_guarded c v who p list f h number of follows found lives = both (follows_in_hand c h.lists f (slot_of (setting c) f)) (lives_in_hand c v who h f)
    (ap (follows_in_hand c h.lists f) of ∙ both (is_producer c p) (may_follow c (slot.Queue p) (queue_list h.lists p) f) number (ap (λ l. may_follow c (slot.Queue p) l f) found ∙ follows)) lives

-- an entry of queue p goes to the end of its list in hand
along_entry : (c : Script) (h : Hand) (st : Node) (p : ℕ) (list : List Fact) (f : Fact) (o : Option Producer) → IsSoundNode c st → NodeInHand c h st → p - 1 < length st.producers
    → slot_of (setting c) f ≡ Some (slot.Queue p) → ((live : List (List ℕ)) → live_after live f ≡ live) → queue_list h.lists p ≡ list
    → ((j : Producer) → o ≡ Some j → j.entries ≡ list ++ f ∷ [])
    → NodeInHand c (hand_after c h f) (put st p o)
along_entry c h st p list f o is i less of live found here =
    subst (λ l. NodeInHand c (record { lists = l; live = live_after h.live f; version = h.version }) (put st p o)) (sym (ap (with_entry f h.lists) of))
    (subst (λ l. NodeInHand c (record { lists = with_entry f h.lists (Some (slot.Queue p)); live = l; version = h.version }) (put st p o)) (sym (live h.live))
    (along_put c h (record { lists = with_entry f h.lists (Some (slot.Queue p)); live = h.live; version = h.version }) st p o i less refl refl refl refl
    (length-set h.lists.queues (p - 1) now)
    (λ q other. get_or-set_other h.lists.queues (p - 1) (q - 1) now [] other)
    (λ j e. get_or-set_same h.lists.queues (p - 1) now [] below ∙ (ap (λ l. l ++ f ∷ []) found ∙ sym (here j e)))))
  where
    now : List Fact
    now = queue_list h.lists p ++ f ∷ []

    below : p - 1 < length h.lists.queues
    below = subst (λ n. p - 1 < n) (is.producers_full ∙ sym i.queues_there) less

-- the list of queue p after an entry, of the producer that is there after it
record IsEntered (c : Script) (who : Incarnation) (p : ℕ) (list : List Fact) (j : Producer) : Type 0 where
  at_is : IsProducerAt c who p j
  entries_are : j.entries ≡ list

-- an entry of the queue of a producer that is there
entry_node : (c : Script) (v : List ℕ → ℕ → ℕ → Bool) (st : Node) (p : ℕ) (k : Producer) (f : Fact) (o : Option Producer) → IsSoundNode c st → 0 < p → at st.producers (p - 1) ≡ Some k
    → slot_of (setting c) f ≡ Some (slot.Queue p) → ((live : List (List ℕ)) → live_after live f ≡ live)
    → may_follow c (slot.Queue p) k.entries f ≡ true
    → ((h : Hand) → lives_in_hand c v st.who h f ≡ true) → is_own_fact st.who f ≡ true
    → producer_by st.set st.who p (Some k) (told f) ≡ o
    → ((j : Producer) → o ≡ Some j → IsEntered c st.who p (k.entries ++ f ∷ []) j)
    → NodeKeeps c v st (by_producer p (told f) ∷ [])
entry_node c v st p k f o is above found of live follows lives its by here = record {
  stands = subst (IsSoundNode c) (sym moved) (stands_put c st p o is above less (λ j e. (here j e).at_is));
  posts_are = refl;
  own_are = both (is_own_fact st.who f) true its refl;
  held_are = λ h i. both (is_grant f || is_slot_held st.who h (slot_told (setting c) f)) true (right_of (is_grant f) (is_slot_held st.who h (slot_told (setting c) f))
      (ap (is_slot_held st.who h) (entry_told (setting c) f (slot.Queue p) of) ∙ (ap (λ l. is_at st.who (holder l)) (i.producers p k above found) ∙ (ap (is_at st.who) (a.stands.held_is ∙ ap Some a.who_is) ∙ itself_is st.who st.who refl)))) refl;
  guarded_are = λ h i. both (guard_in_hand c v st.who h f) true (entry_guarded c v st.who p k.entries f h number of follows (i.producers p k above found) (lives h)) refl;
  goes_along = λ h i. subst (NodeInHand c (hand_after c h f)) (sym moved) (along_entry c h st p k.entries f o is i less of live (i.producers p k above found) (λ j e. (here j e).entries_are));
}
  where
    less : p - 1 < length st.producers
    less = inside st.producers (p - 1) k found

    moved : after st (by_producer p (told f)) ≡ put st p o
    moved = ap (λ x. put st p (producer_by st.set st.who p x (told f))) found ∙ ap (put st p) by

    a : IsProducerAt c st.who p k
    a = is.producers p k above found

    number : is_producer c p ≡ true
    number = subst (λ n. is_producer c n ≡ true) a.number_is a.stands.number_is

pub queue_node : ProducerKeeps → (c : Script) (v : List ℕ → ℕ → ℕ → Bool) (st : Node) (p : ℕ) (k : Producer) (x : Sending) → IsSoundNode c st → 0 < p → at st.producers (p - 1) ≡ Some k
    → producer.next_sending (sends c p) k ≡ Some x → NodeKeeps c v st (map (by_producer p) (producer.queue x k))
queue_node keeps c v st p k x is above found next =
    entry_node c v st p k f (Some new) is above found (ap (λ n. Some (slot.Queue n)) a.number_is) (λ live. refl)
    (subst (λ n. may_follow c (slot.Queue n) k.entries f ≡ true) a.number_is (r.queued_follows x own_next)) (λ h. refl) refl refl
    (λ j e. subst (IsEntered c st.who p (k.entries ++ f ∷ [])) (some_is new j e)
    (record { at_is = record { stands = (r.queues x own_next).stands; who_is = a.who_is; number_is = a.number_is }; entries_are = refl }))
  where
    f : Fact
    f = fact.Queued k.number x.entity x.number x.command

    new : Producer
    new = producer_after k (told f)

    a : IsProducerAt c st.who p k
    a = is.producers p k above found

    r : Rules c k
    r = keeps c k a.stands

    own_next : producer.next_sending (sends c k.number) k ≡ Some x
    own_next = subst (λ n. producer.next_sending (sends c n) k ≡ Some x) (sym a.number_is) next

pub confirm_node : ProducerKeeps → (c : Script) (v : List ℕ → ℕ → ℕ → Bool) (st : Node) (p : ℕ) (k : Producer) (e : List ℕ) (n : ℕ) → IsSoundNode c st → 0 < p → at st.producers (p - 1) ≡ Some k
    → n ≤ queued e k.entries → v e p n ≡ true → NodeKeeps c v st (map (by_producer p) (producer.confirm e n k))
confirm_node keeps c v st p k e n is above found there vouched = by (nat_lt (confirmed e k.entries) n) refl
  where
    f : Fact
    f = fact.Confirmed k.number e n

    new : Producer
    new = producer_after k (told f)

    a : IsProducerAt c st.who p k
    a = is.producers p k above found

    r : Rules c k
    r = keeps c k a.stands

    rises : nat_lt (confirmed e k.entries) n ≡ true → confirmed e k.entries < n
    rises h = grind (arith, nat_tests)

    by : (b : Bool) → nat_lt (confirmed e k.entries) n ≡ b → NodeKeeps c v st (map (by_producer p) (if b then told f ∷ [] else []))
    by false above_it = node_none c v st is
    by true above_it =
        entry_node c v st p k f (Some new) is above found (ap (λ m. Some (slot.Queue m)) a.number_is) (λ live. refl)
        (subst (λ m. may_follow c (slot.Queue m) k.entries f ≡ true) a.number_is (r.confirmed_follows e n (rises above_it) there))
        (λ h. ap (λ m. v e m n) a.number_is ∙ vouched) refl refl
        (λ j g. subst (IsEntered c st.who p (k.entries ++ f ∷ [])) (some_is new j g)
        (record {
          at_is = record {
            stands = subst (λ b. IsProducer c (fold producer_after k (if b then told f ∷ [] else []))) above_it (r.confirms e n there).stands;
            who_is = a.who_is;
            number_is = a.number_is;
          };
          entries_are = refl;
        }))

pub give_back_node : ProducerKeeps → (c : Script) (v : List ℕ → ℕ → ℕ → Bool) (st : Node) (p : ℕ) (k : Producer) → IsSoundNode c st → 0 < p → at st.producers (p - 1) ≡ Some k
    → NodeKeeps c v st (map (by_producer p) (producer.give_back k))
give_back_node keeps c v st p k is above found =
    entry_node c v st p k f None is above found (ap (λ n. Some (slot.Queue n)) a.number_is) (λ live. refl)
    (subst (λ n. may_follow c (slot.Queue n) k.entries f ≡ true) a.number_is (r.freed_follows cause.Released)) (λ h. refl) refl refl
    (λ j e. absurd (none_is_not_some j e))
  where
    a : IsProducerAt c st.who p k
    a = is.producers p k above found

    f : Fact
    f = fact.Freed (slot.Queue k.number) (epoch k.entries) cause.Released

    r : Rules c k
    r = keeps c k a.stands

-- Taking a queue.

held_node : (c : Script) (v : List ℕ → ℕ → ℕ → Bool) (st : Node) (p : ℕ) (list : List Fact) (x : Incarnation) → IsSoundNode c st → 0 < p → p - 1 < length st.producers → at st.producers (p - 1) ≡ None
    → NodeKeepsIf (λ h. queue_list h.lists p ≡ list) c v st (map (by_producer p) (acquire_by (slot.Queue p) st.who list (Some x)))
held_node c v st p list x is above less free = record {
  stands = subst (IsSoundNode c) (sym moved) (stands_put c st p None is above less (λ j e. absurd (none_is_not_some j e)));
  posts_are = refl;
  own_are = both (is_same st.who st.who) true (itself_is st.who st.who refl) refl;
  held_are = λ h i found. refl;
  guarded_are = λ h i found. refl;
  goes_along = λ h i found. subst (NodeInHand c h) (sym moved) (along_put c h h st p None i less refl refl refl refl refl (λ q other. refl) (λ j e. absurd (none_is_not_some j e)));
}
  where
    moved : after st (by_producer p (told (fact.Held (slot.Queue p) st.who x.node))) ≡ put st p None
    moved = ap (λ o. put st p (producer_by st.set st.who p o (told (fact.Held (slot.Queue p) st.who x.node)))) free

granted_node : (c : Script) (v : List ℕ → ℕ → ℕ → Bool) (st : Node) (p : ℕ) (list : List Fact) → IsSoundNode c st → 0 < p → p - 1 < length st.producers → at st.producers (p - 1) ≡ None → is_producer c p ≡ true → IsGranted c st.who p list
    → NodeKeepsIf (λ h. queue_list h.lists p ≡ list) c v st (map (by_producer p) (acquire_by (slot.Queue p) st.who list None))
granted_node c v st p list is above less free number g = record {
  stands = subst (IsSoundNode c) (sym taken) (stands_put c mid p (Some new) mid_stands above mid_less
      (λ j e. subst (IsProducerAt c st.who p) (some_is new j e) (record { stands = g.stands; who_is = refl; number_is = refl })));
  posts_are = refl;
  own_are = both (is_same st.who st.who) true (itself_is st.who st.who refl) refl;
  held_are = λ h i found. refl;
  guarded_are = λ h i found. both (guard_in_hand c v st.who h f) true (entry_guarded c v st.who p list f h number refl g.follows found refl) refl;
  goes_along = λ h i found. subst (NodeInHand c (hand_after c h f)) (sym taken)
      (along_put c (hand_after c h f) (hand_after c h f) mid p (Some new)
      (along_entry c h st p list f None is i less refl (λ live. refl) found (λ j e. absurd (none_is_not_some j e)))
      mid_less refl refl refl refl refl (λ q other. refl)
      (λ j e. get_or-set_same h.lists.queues (p - 1) (queue_list h.lists p ++ f ∷ []) [] (below h i) ∙ (ap (λ l. l ++ f ∷ []) found ∙ ap (λ (k : Producer). k.entries) (some_is new j e))));
}
  where
    f : Fact
    f = fact.Granted (slot.Queue p) (epoch list + 1) st.who

    new : Producer
    new = new_producer (setting c) st.who p (list ++ f ∷ [])

    mid : Node
    mid = put st p None

    mid_stands : IsSoundNode c mid
    mid_stands = stands_put c st p None is above less (λ j e. absurd (none_is_not_some j e))

    mid_less : p - 1 < length mid.producers
    mid_less = subst (λ n. p - 1 < n) (sym (length-set st.producers (p - 1) None)) less

    taken : after (after st (by_producer p (told f))) (by_producer p (took (slot.Queue p) (list ++ f ∷ []))) ≡ put mid p (Some new)
    taken = ap (λ o. put (put st p (producer_by st.set st.who p o (told f))) p (Some (new_producer st.set st.who p (list ++ f ∷ [])))) free
        ∙ ap (λ set. put mid p (Some (new_producer set st.who p (list ++ f ∷ [])))) is.set_is

    below : (h : Hand) → NodeInHand c h st → p - 1 < length h.lists.queues
    below h i = subst (λ n. p - 1 < n) (is.producers_full ∙ sym i.queues_there) less

-- a producer's number is above zero, and has its place
pub above_zero : (p n : ℕ) → (nat_le 1 p && nat_le p n) ≡ true → (0 < p) × (p - 1 < n)
above_zero p n e =
    let m : (nat_le 1 p ≡ true) × (nat_le p n ≡ true) = and_both (nat_le 1 p) (nat_le p n) e in
    let low : 1 ≤ p = at_most 1 p m.0 in
    let high : p ≤ n = at_most p n m.1 in
    (omega (arith, low), omega (arith, low, high))

-- the acts that take a queue, where the node doesn't have its producer
pub produce_node : ProducerIsGranted → (c : Script) (v : List ℕ → ℕ → ℕ → Bool) (st : Node) (p : ℕ) (list : List Fact) → IsSoundNode c st → is_producer c p ≡ true → at st.producers (p - 1) ≡ None → own c (slot.Queue p) list ≡ true
    → NodeKeepsIf (λ h. queue_list h.lists p ≡ list) c v st (map (by_producer p) (acquire (slot.Queue p) st.who list))
produce_node granted c v st p list is number free lawful = by (holder list) refl
  where
    bounds : (0 < p) × (p - 1 < c.config.producers)
    bounds = above_zero p c.config.producers number

    less : p - 1 < length st.producers
    less = subst (λ n. p - 1 < n) (sym is.producers_full) bounds.1

    by : (o : Option Incarnation) → holder list ≡ o → NodeKeepsIf (λ h. queue_list h.lists p ≡ list) c v st (map (by_producer p) (acquire_by (slot.Queue p) st.who list o))
    by None none = granted_node c v st p list is bounds.0 less free number (granted c st.who p list is.who_is number lawful none)
    by (Some x) some = held_node c v st p list x is bounds.0 less free
