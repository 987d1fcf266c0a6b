-- Node 1 takes each queue, and queues the sends that wait, as the world tells it.
use Rattle.std.specs.Prelude.{slice_set}
use Rattle.std.proofs.Common.{ap₂, ◌≡◌, ◌<◌, ◌≤◌, ℕ, zero, suc, ◌+◌, ◌-◌, ◌*◌, List, [], ◌∷◌, ◌++◌, length, map, sym, ap, subst, ◌∙◌, refl, true, false, true≢false, arith}
use Rattle.std.specs.Prelude.{Bool, ◌==◌, ◌&&◌, ◌||◌, not, nat_le, nat_lt, fold, take, sum_by, Option, Some, None, is_none, is_some, slice_index_or, if◌then◌else◌}
use Rattle.std.specs.List.{list_all, slice_get}
use Rattle.std.specs.Option.{option_map}
use Rattle.plain_laws.proofs.Names.{name_itself}
use Rattle.actor_laws.proofs.EntitiesCells.{place_below}
use Rattle.std.proofs.lemmas.List.{get_or-set_same, get_or-set_other, length-set}
use Rattle.std.proofs.lemmas.List.Sums.{fold-append, sum_by-cons}
use Rattle.yard_model.specs.declared.charter.Sending.{Sending}
use Rattle.yard_model.specs.declared.fact.Fact.{Fact}
use Rattle.yard_model.specs.declared.fact.Fact.TheVariants as fact
use Rattle.yard_model.specs.declared.incarnation.Incarnation.{Incarnation}
use Rattle.yard_model.specs.declared.incarnation.Slot.TheVariants as slot
use Rattle.yard_model.specs.declared.input.Input.TheVariants as input
use Rattle.yard_model.specs.declared.out.Item.{Item}
use Rattle.yard_model.specs.declared.out.Item.TheVariants as item
use Rattle.yard_model.specs.Genuine.{is_producer}
use Rattle.yard_model.specs.Lawful.{own, lawful, confirmed_there, is_recorded}
use Rattle.yard_model.specs.Move.{told}
use Rattle.yard_model.specs.Node.{Node, Act, by_producer, after, items_of, turn, push, send_by, acquire_by, produce}
use Rattle.yard_model.specs.Producer as producer
use Rattle.yard_model.specs.Producer.{Producer, new_producer}
use Rattle.yard_model.specs.Safe.{one_live}
use Rattle.yard_model.specs.Script.{Script, Setting, setting, is_name, count_to, sends}
use Rattle.yard_model.specs.Setting.{shard_of, place}
use Rattle.yard_model.specs.SlotLists.{SlotLists, shard_list, queue_list}
use Rattle.yard_model.specs.SlotReads.{holder, holder_step, epoch, journal, position, queued, confirmed, queued_in_all, queued_in_all_step}
use Rattle.yard_model.specs.Trace.{lists_step, with_entry, lists_of}
use Rattle.yard_model.specs.Turns.{where_some}
use Rattle.yard_model.specs.Words.{at, numbers}
use Rattle.yard_model.specs.World as world
use Rattle.yard_model.specs.World.{World, Made, Step, give, handle, node_at, queue_holder, is_of_node, ordered_of, send_waiting, send_all_waiting, then_step, in_order, tell, nothing}
use Rattle.std.proofs.lemmas.Bool.Decides.{nat_tests}
use Rattle.plain_laws.proofs.Booleans.{and_both, both, same_number}
use Rattle.plain_laws.proofs.Lists.{some_is, placed_at, placed_beside, by_place, all_join}
use Rattle.yard_laws.proofs.Owns.{producer_above, producer_within}
use Rattle.yard_laws.proofs.SafetyLaws.{guarded_is_safe_now}
use Rattle.actor_laws.specs.Hands.{held_list}
use Rattle.actor_laws.specs.Owes.{facts_in}
use Rattle.actor_laws.proofs.EntitiesMoves.{some_of}
use Rattle.node_laws.specs.Cluster.{IsHeldBy, IsMember}
use Rattle.node_laws.proofs.NodePackets.{sends_are}
use Rattle.play_laws.proofs.Handled.{lawful_lists}
use Rattle.settle_laws.specs.Alone.{Base, Alone, node_with, queued_by, producer_at, IsThere, Each, Stands, none_later}
use Rattle.settle_laws.specs.Lonely.{Known, IsLonely, deliveries_in, Outcome}
use Rattle.settle_laws.specs.Produced.{Leads, outs_in, MayProduce}
use Rattle.settle_laws.specs.Steps.{out_by, outs_at, all_outs}
use Rattle.settle_laws.proofs.Again.{sum_same}
use Rattle.settle_laws.proofs.Beside.{is_beside, is_beside_item, is_beside_act, push_acts, items_beside}
use Rattle.settle_laws.proofs.Counts.{QueueReads, queue_reads, journal_reads, confirmed_reads, count_next, count_more, as_many, get_some, sum_counts}
use Rattle.settle_laws.proofs.One.{Rests, queue_is, recorded_is, comes_leads, comes_also, comes_none, then_comes}
use Rattle.settle_laws.proofs.Produce.{Queues, send_leads, produce_leads, queued_granted, confirmed_granted}
use Rattle.settle_laws.proofs.Producers.{with_producer}
use Rattle.settle_laws.proofs.Records.{le_itself, le_then}
use Rattle.settle_laws.proofs.Sent.{sent_at}

-- What is known of the lists.

pub known_queue : (c : Script) (w : World) → Known c w → (p : ℕ) → is_producer c p ≡ true → own c (slot.Queue p) (queue_list w.lists p) ≡ true
known_queue c w k p is = ap (λ l. own c (slot.Queue p) (queue_list l p)) k.lists_are ∙ (lawful_lists c k.trace k.cluster.guarded_are).queues p is

pub known_lawful : (c : Script) (w : World) → Known c w → lawful c w.lists ≡ true
known_lawful c w k = ap (lawful c) k.lists_are ∙ (and_both (list_all (one_live c k.trace) (setting c).names) (lawful c (lists_of (setting c) k.trace)) (guarded_is_safe_now c k.trace k.cluster.guarded_are)).1

pub queues_long : (c : Script) (w : World) → Known c w → length w.lists.queues ≡ c.config.producers
queues_long c w k = same_number (length w.lists.queues) c.config.producers (queues_there (length w.lists.shards == c.config.shards) (length w.lists.queues == c.config.producers) _ _ _ _ (known_lawful c w k))
  where
    queues_there : (a b d e f g : Bool) → (a && b && d && e && f && g) ≡ true → b ≡ true
    queues_there a b d e f g h = (and_both a b (and_both (a && b) d (and_both (a && b && d) e (and_both (a && b && d && e) f (and_both (a && b && d && e && f) g h).0).0).0).0).1

-- The lists of other queues.

one_beside : (set : Setting) (lists : SlotLists) (f : Fact) → is_beside f ≡ true → (lists_step set lists f).queues ≡ lists.queues
one_beside set lists (fact.Queued p e n k) h = absurd (true≢false (sym h))
one_beside set lists (fact.Confirmed p e n) h = absurd (true≢false (sym h))
one_beside set lists (fact.Granted (slot.Queue p) n x) h = absurd (true≢false (sym h))
one_beside set lists (fact.Granted (slot.Shard s) n x) h = refl
one_beside set lists (fact.Granted slot.Coordinator n x) h = refl
one_beside set lists (fact.Freed (slot.Queue p) n why) h = absurd (true≢false (sym h))
one_beside set lists (fact.Freed (slot.Shard s) n why) h = refl
one_beside set lists (fact.Freed slot.Coordinator n why) h = refl
one_beside set lists f h = refl

all_beside : (set : Setting) (is : List Item) (lists : SlotLists) → list_all is_beside_item is ≡ true → (fold (lists_step set) lists (facts_in is)).queues ≡ lists.queues
all_beside set [] lists h = refl
all_beside set (item.Fact f ∷ is) lists h =
    let m : (is_beside f ≡ true) × (list_all is_beside_item is ≡ true) = and_both (is_beside f) (list_all is_beside_item is) h in
    all_beside set is (lists_step set lists f) m.1 ∙ one_beside set lists f m.0
all_beside set (item.Post p ∷ is) lists h = all_beside set is lists (and_both true (list_all is_beside_item is) h).1

-- a send is an entry of its own queue
pub send_queues : (set : Setting) (lists : SlotLists) (st : Node) (p : ℕ) (j : Producer) (x : Sending) → at st.producers (p - 1) ≡ Some j
    → (fold (lists_step set) lists (facts_in (items_of (send_by p (Some x) st)))).queues ≡ slice_set lists.queues (j.number - 1) (queue_list lists j.number ++ fact.Queued j.number x.entity x.number x.command ∷ [])
send_queues set lists st p j x found =
    ap (λ acts. (fold (lists_step set) lists (facts_in (items_of acts))).queues) (ap (λ o. where_some (λ k. map (by_producer p) (producer.queue x k)) o ++ (push p x.entity (fold after st (where_some (λ k. map (by_producer p) (producer.queue x k)) o)) ++ [])) found)
    ∙ all_beside set (items_of rest) (lists_step set lists queued_one) (items_beside rest (all_join is_beside_act (push p x.entity next) [] (push_acts p x.entity next) refl))
  where
    queued_one : Fact
    queued_one = fact.Queued j.number x.entity x.number x.command

    next : Node
    next = fold after st (by_producer p (told queued_one) ∷ [])

    rest : List Act
    rest = push p x.entity next ++ []

send_beside : (set : Setting) (lists : SlotLists) (st : Node) (p r : ℕ) (j : Producer) (x : Sending) → at st.producers (p - 1) ≡ Some j → j.number ≡ p → (r - 1 ≡ p - 1 → ⊥)
    → queue_list (fold (lists_step set) lists (facts_in (items_of (send_by p (Some x) st)))) r ≡ queue_list lists r
send_beside set lists st p r j x found number other = ap (λ l. slice_index_or l (r - 1) []) (send_queues set lists st p j x found)
    ∙ get_or-set_other lists.queues (j.number - 1) (r - 1) (queue_list lists j.number ++ fact.Queued j.number x.entity x.number x.command ∷ []) [] (λ same. other (same ∙ ap (λ n. n - 1) number))

-- Sends.

pub record Sent (b : Base) (w : World) (z : Alone) (p n : ℕ) (to : Alone) (v : World) : Type 0 where
  pub full_is : length to.producers ≡ length z.producers
  pub beside_are : (r : ℕ) → (r - 1 ≡ p - 1 → ⊥) → producer_at to.producers r ≡ producer_at z.producers r
  pub held_is : is_none (producer_at to.producers p) ≡ false
  pub all_queued : (f : List ℕ) → queued_by f (producer_at to.producers p) ≡ b.made p f
  pub outs_on : outs_at to p b.set.names ≤ outs_at z p b.set.names + n
  pub lists_beside : (r : ℕ) → (r - 1 ≡ p - 1 → ⊥) → queue_list v.lists r ≡ queue_list w.lists r

-- as many of a producer's sends are made as were ordered
abbrev pub IsMade : Script → Base → ℕ → ℕ → Type 0
IsMade c b p o = (f : List ℕ) → b.made p f ≡ count_to f (take o (sends c p))

-- what is queued, by the queue's list
pub queued_reads : Rests → (c : Script) (b : Base) (from done : ℕ) (w : World) (z : Alone) → IsLonely c b from done w z → (p : ℕ) → is_producer c p ≡ true → is_none (producer_at z.producers p) ≡ false
    → (f : List ℕ) → queued_by f (producer_at z.producers p) ≡ count_to f (take (queued_in_all (queue_list w.lists p)) (sends c p))
queued_reads laws c b from done w z l p is some f =
    let j : (j : Producer) × (producer_at z.producers p ≡ Some j) = some_of (producer_at z.producers p) (ap not some) in
    ap (queued_by f) j.1 ∙ (ap (queued f) (sym (queue_is c w (node_with b z) l.known l.is_by.is_up p j.0 (producer_above c p is) j.1)) ∙ (queue_reads laws.sendings c p (queue_list w.lists p) (known_queue c w l.known p is)).first_are f)

send_once : Rests → (c : Script) (b : Base) (from done p o k : ℕ) (w : World) (z : Alone) → IsLonely c b from done w z → Stands b none_later z → is_producer c p ≡ true → IsMade c b p o → o ≤ length (sends c p) → is_none (producer_at z.producers p) ≡ false
    → queued_in_all (queue_list w.lists p) + suc k ≡ o
    → (x : Sending) → slice_get (sends c p) (queued_in_all (queue_list w.lists p)) ≡ Some x
    → Outcome c b from done w z 6 (λ to v. Queues b z p x to × ((queued_in_all (queue_list v.lists p) + k ≡ o) × ((r : ℕ) → (r - 1 ≡ p - 1 → ⊥) → queue_list v.lists r ≡ queue_list w.lists r))) (give (input.Send p) (node_at w 1) w)
send_once laws c b from done p o k w z l s is made enough some count x get =
    subst (λ n. Outcome c b from done w z 6 also (give (input.Send p) n w)) (sym l.is_by.is_up)
    (comes_leads laws c b from done w z 6 (Queues b z p x) also (input.Send p) l is refl (subst (Leads b 6 (Queues b z p x) z) (sym acts_are) leads)
    (λ to v lonely h lists. (h, (next to v lonely h, (λ r other. ap (λ y. queue_list y r) lists ∙ (ap (λ acts. queue_list (fold (lists_step w.set) w.lists (facts_in (items_of acts))) r) acts_are ∙ send_beside w.set w.lists (node_with b z) p r j.0 x j.1 (s.producing p j.0 above j.1).2 other))))))
  where
    also : Alone → World → Type 0
    also to v = Queues b z p x to × ((queued_in_all (queue_list v.lists p) + k ≡ o) × ((r : ℕ) → (r - 1 ≡ p - 1 → ⊥) → queue_list v.lists r ≡ queue_list w.lists r))

    above : 0 < p
    above = producer_above c p is

    q : ℕ
    q = queued_in_all (queue_list w.lists p)

    j : (j : Producer) × (producer_at z.producers p ≡ Some j)
    j = some_of (producer_at z.producers p) (ap not some)

    entries_are : queue_list w.lists p ≡ j.0.entries
    entries_are = queue_is c w (node_with b z) l.known l.is_by.is_up p j.0 above j.1

    queued_are : (f : List ℕ) → queued_by f (producer_at z.producers p) ≡ count_to f (take q (sends c p))
    queued_are = queued_reads laws c b from done w z l p is some

    next_is : producer.next_sending (slice_index_or w.sends (p - 1) []) j.0 ≡ Some x
    next_is = ap₂ (λ xs n. slice_get xs (queued_in_all n)) (ap (λ xs. slice_index_or xs (p - 1) []) l.known.sends_are ∙ sends_are c p is) (sym entries_are) ∙ get

    acts_are : turn w.sends w.lists (input.Send p) (node_with b z) ≡ send_by p (Some x) (node_with b z)
    acts_are = ap (where_some (λ k. send_by p (producer.next_sending (slice_index_or w.sends (p - 1) []) k) (node_with b z))) j.1 ∙ ap (λ n. send_by p n (node_with b z)) next_is

    there : IsThere b x.entity
    there = subst (λ (n : Setting). place b.set x.entity < length n.names) (sym l.base_is) (place_below c b.set x.entity l.base_is (sent_at c p q x l.known.script_is get).name_is)

    room : queued x.entity j.0.entries + 1 ≤ b.made p x.entity
    room = rooms (queued x.entity j.0.entries) (count_to x.entity (take q (sends c p))) (count_to x.entity (take (suc q) (sends c p))) (count_to x.entity (take o (sends c p))) (b.made p x.entity)
        (sym (ap (queued_by x.entity) j.1) ∙ queued_are x.entity) (count_next x.entity (sends c p) q x get ∙ ap (λ t. if t then suc (count_to x.entity (take q (sends c p))) else count_to x.entity (take q (sends c p))) (name_itself x.entity))
        (count_more x.entity (sends c p) (suc q) o (most q k o count)) (made x.entity)
      where
        most : (q k o : ℕ) → q + suc k ≡ o → suc q ≤ o
        most q k o e = omega (arith, e)

        rooms : (a n m t d : ℕ) → a ≡ n → m ≡ suc n → m ≤ t → d ≡ t → a + 1 ≤ d
        rooms a n m t d e g h i = omega (arith, e, g, h, i)

    leads : Leads b 6 (Queues b z p x) z (send_by p (Some x) (node_with b z))
    leads = send_leads b z p j.0 x s above j.1 there room

    next : (to : Alone) (v : World) → IsLonely c b from done v to → Queues b z p x to → queued_in_all (queue_list v.lists p) + k ≡ o
    next to v lonely h = moved q (queued_in_all (queue_list v.lists p)) k o count
        (as_many (sends c p) (queued_in_all (queue_list v.lists p)) (suc q) (queue_reads laws.sendings c p (queue_list v.lists p) (known_queue c v lonely.known p is)).within (inside q k o (length (sends c p)) count enough)
        (λ f. sym (queued_reads laws c b from done v to lonely p is h.held_is f) ∙ (h.queued_is f ∙ (ap (λ n. if is_name x.entity f then n + 1 else n) (queued_are f) ∙ (one (is_name x.entity f) (count_to f (take q (sends c p))) ∙ sym (count_next f (sends c p) q x get))))))
      where
        moved : (q r k o : ℕ) → q + suc k ≡ o → r ≡ suc q → r + k ≡ o
        moved q r k o e g = omega (arith, e, g)

        inside : (q k o n : ℕ) → q + suc k ≡ o → o ≤ n → suc q ≤ n
        inside q k o n e h = omega (arith, e, h)

        one : (t : Bool) (m : ℕ) → (if t then m + 1 else m) ≡ (if t then suc m else m)
        one true m = omega arith
        one false m = refl

pub sends_go : Rests → (c : Script) (b : Base) (from p o k done : ℕ) (w : World) (z : Alone) → IsLonely c b from done w z → Stands b none_later z → is_producer c p ≡ true → IsMade c b p o → o ≤ length (sends c p) → is_none (producer_at z.producers p) ≡ false
    → queued_in_all (queue_list w.lists p) + k ≡ o → Outcome c b from done w z (6 * k) (Sent b w z p k) (send_waiting p 1 k w)
sends_go laws c b from p o zero done w z l s is made enough some count = comes_also c b from done w z 0 (6 * 0) (Sent b w z p 0) (Sent b w z p 0) (tell [] w) (omega arith) (λ x. x.also_is)
    (comes_none c b from done w z (Sent b w z p 0) l s (record {
      full_is = refl;
      beside_are = λ r other. refl;
      held_is = some;
      all_queued = λ f. queued_reads laws c b from done w z l p is some f ∙ (ap (λ n. count_to f (take n (sends c p))) (plus_none (queued_in_all (queue_list w.lists p)) o count) ∙ sym (made f));
      outs_on = up (outs_at z p b.set.names);
      lists_beside = λ r other. refl;
    }))
  where
    plus_none : (q o : ℕ) → q + 0 ≡ o → q ≡ o
    plus_none q o e = omega (arith, e)

    up : (n : ℕ) → n ≤ n + 0
    up n = omega arith
sends_go laws c b from p o (suc k) done w z l s is made enough some count =
    comes_also c b from done w z (6 + 6 * k) (6 * suc k) (Sent b w z p (suc k)) (Sent b w z p (suc k)) (send_waiting p 1 (suc k) w) (times k) (λ x. x.also_is)
    (then_comes c b from done w z 6 (6 * k) _ (Sent b w z p (suc k)) m (send_waiting p 1 k) (send_once laws c b from done p o k w z l s is made enough some count x.0 x.1)
    (λ y. comes_also c b from (done + deliveries_in m.facts) m.world y.to (6 * k) (6 * k) (Sent b m.world y.to p k) (Sent b w z p (suc k)) (send_waiting p 1 k m.world) (le_itself (6 * k))
    (λ t. record {
      full_is = t.also_is.full_is ∙ y.also_is.0.full_is;
      beside_are = λ r other. t.also_is.beside_are r other ∙ y.also_is.0.beside_are r other;
      held_is = t.also_is.held_is;
      all_queued = t.also_is.all_queued;
      outs_on = sums (outs_at z p b.set.names) (outs_at y.to p b.set.names) (outs_at t.to p b.set.names) k y.also_is.0.outs_on t.also_is.outs_on;
      lists_beside = λ r other. t.also_is.lists_beside r other ∙ y.also_is.1.1 r other;
    })
    (sends_go laws c b from p o k (done + deliveries_in m.facts) m.world y.to y.lonely y.stands is made enough y.also_is.0.held_is y.also_is.1.0)))
  where
    m : Made
    m = give (input.Send p) (node_at w 1) w

    x : (x : Sending) × (slice_get (sends c p) (queued_in_all (queue_list w.lists p)) ≡ Some x)
    x = get_some (sends c p) (queued_in_all (queue_list w.lists p)) (inside (queued_in_all (queue_list w.lists p)) k o (length (sends c p)) count enough)
      where
        inside : (q k o n : ℕ) → q + suc k ≡ o → o ≤ n → q < n
        inside q k o n e h = omega (arith, e, h)

    times : (k : ℕ) → 6 + 6 * k ≤ 6 * suc k
    times k = omega arith

    sums : (x y w n : ℕ) → y ≤ x + 1 → w ≤ y + n → w ≤ x + suc n
    sums x y w n h k = omega (arith, h, k)

-- One queue.

-- what of it there is at its turn: nobody holds it, no more is queued than ordered, and so much is outstanding
pub record Waits (c : Script) (b : Base) (w : World) (z : Alone) (p o out : ℕ) : Type 0 where
  pub none : producer_at z.producers p ≡ None
  pub ordered_is : ordered_of w p ≡ o
  pub made : IsMade c b p o
  pub enough : o ≤ length (sends c p)
  pub queued_ordered : queued_in_all (queue_list w.lists p) ≤ o
  pub outstanding : o ≤ sum_by (λ e. confirmed e (queue_list w.lists p)) b.set.names + out

pub record Taken (b : Base) (w : World) (z : Alone) (p out : ℕ) (to : Alone) (v : World) : Type 0 where
  pub full_is : length to.producers ≡ length z.producers
  pub beside_are : (r : ℕ) → (r - 1 ≡ p - 1 → ⊥) → producer_at to.producers r ≡ producer_at z.producers r
  pub held_is : is_none (producer_at to.producers p) ≡ false
  pub all_queued : (f : List ℕ) → queued_by f (producer_at to.producers p) ≡ b.made p f
  pub outs_on : outs_at to p b.set.names ≤ out
  pub lists_beside : (r : ℕ) → (r - 1 ≡ p - 1 → ⊥) → queue_list v.lists r ≡ queue_list w.lists r

-- who holds a slot is the node
free_queue : (c : Script) (b : Base) (from done : ℕ) (w : World) (z : Alone) → IsLonely c b from done w z → (p : ℕ) → is_producer c p ≡ true → producer_at z.producers p ≡ None → holder (queue_list w.lists p) ≡ None
free_queue c b from done w z l p is none = by (holder (queue_list w.lists p)) refl
  where
    by : (o : Option Incarnation) → holder (queue_list w.lists p) ≡ o → holder (queue_list w.lists p) ≡ None
    by None e = e
    by (Some x) e =
        let h : IsHeldBy w.nodes (slot.Queue p) x = l.known.cluster.held (slot.Queue p) x is (ap (λ y. holder (queue_list y p)) (sym l.known.lists_are) ∙ e) in
        absurd (only h.place h.st h.here h.held)
      where
        only : (k : ℕ) (st : Node) → at w.nodes k ≡ Some st → is_some (held_list (slot.Queue p) st) ≡ true → ⊥
        only k st here held = true≢false (sym held ∙ ap (λ o. is_some (option_map (λ (j : Producer). j.entries) o)) (ap (λ (n : Node). at n.producers (p - 1)) (sym same) ∙ none))
          where
            same : node_with b z ≡ st
            same = some_is (node_with b z) st (sym l.is_by.is_up ∙ (ap (at w.nodes) (sym (l.is_by.others k st here)) ∙ here))

-- Summed.

sum_apart : (f g h : List ℕ → ℕ) (names : List (List ℕ)) → ((e : List ℕ) → g e ≤ f e) → ((e : List ℕ) → h e ≤ f e - g e) → sum_by h names + sum_by g names ≤ sum_by f names
sum_apart f g h [] less is = le_itself 0
sum_apart f g h (e ∷ es) less is = subst (λ n. n + sum_by g (e ∷ es) ≤ sum_by f (e ∷ es)) (sym (sum_by-cons h e es)) (subst (λ n. h e + sum_by h es + n ≤ sum_by f (e ∷ es)) (sym (sum_by-cons g e es)) (subst (λ n. h e + sum_by h es + (g e + sum_by g es) ≤ n) (sym (sum_by-cons f e es)) (sums (f e) (g e) (h e) (sum_by f es) (sum_by g es) (sum_by h es) (less e) (is e) (sum_apart f g h es less is))))
  where
    sums : (a b d x y w : ℕ) → b ≤ a → d ≤ a - b → w + y ≤ x → d + w + (b + y) ≤ a + x
    sums a b d x y w h k j = omega (arith, h, k, j)

take_length : {A : Type 0} (n : ℕ) (xs : List A) → length (take n xs) ≤ n
take_length zero xs = le_itself 0
take_length (suc n) [] = least (suc n)
  where
    least : (n : ℕ) → 0 ≤ n
    least n = omega arith
take_length (suc n) (x ∷ xs) = up (length (take n xs)) n (take_length n xs)
  where
    up : (a b : ℕ) → a ≤ b → suc a ≤ suc b
    up a b h = omega (arith, h)

all_listed : (q : Fact → Bool) (ls : List (List Fact)) (i : ℕ) → list_all (list_all q) ls ≡ true → list_all q (slice_index_or ls i []) ≡ true
all_listed q [] i h = refl
all_listed q (l ∷ ls) zero h = (and_both (list_all q l) (list_all (list_all q) ls) h).0
all_listed q (l ∷ ls) (suc i) h = all_listed q ls i (and_both (list_all q l) (list_all (list_all q) ls) h).1

-- it takes the queue
pub may_produce : Rests → (c : Script) (b : Base) (from done : ℕ) (w : World) (z : Alone) (p o out : ℕ) → IsLonely c b from done w z → Stands b none_later z → is_producer c p ≡ true → Waits c b w z p o out → MayProduce b z p (queue_list w.lists p)
may_produce laws c b from done w z p o out l s is t = record {
  above = producer_above c p is;
  inside = inside_of p c.config.producers (length z.producers) (producer_above c p is) (producer_within c p is) me.sound.producers_full;
  none = t.none;
  free = free_queue c b from done w z l p is t.none;
  confirmed_recorded = λ f. subst (λ n. confirmed f (queue_list w.lists p) ≤ n) (sym (recorded_is c b w z l.known l.is_by.is_up l.agrees p f ∙ ap (λ x. position p (journal f (shard_list w.lists (shard_of x f)))) l.base_is))
      (confirmed_reads c p w.lists f (journal_reads c (shard_of (setting c) f) f (shard_list w.lists (shard_of (setting c) f)) (shards_own f)) (queue_list w.lists p) (known_queue c w l.known p is) (all_listed (is_recorded c w.lists) w.lists.queues (p - 1) recorded_are));
  confirmed_queued = reads.confirmed_queued;
  queued_made = λ f. counts (queued f (queue_list w.lists p)) _ _ (b.made p f) (reads.first_are f) (count_more f (sends c p) (queued_in_all (queue_list w.lists p)) o t.queued_ordered) (t.made f);
}
  where
    me : IsMember c l.known.trace 0 (node_with b z)
    me = l.known.cluster.members 0 (node_with b z) l.is_by.is_up

    reads : QueueReads c p (queue_list w.lists p)
    reads = queue_reads laws.sendings c p (queue_list w.lists p) (known_queue c w l.known p is)

    inside_of : (p n m : ℕ) → 0 < p → p ≤ n → m ≡ n → p - 1 < m
    inside_of p n m h k e = omega (arith, h, k, e)

    counts : (a m n d : ℕ) → a ≡ m → m ≤ n → d ≡ n → a ≤ d
    counts a m n d e h g = omega (arith, e, h, g)

    shards_own : (f : List ℕ) → own c (slot.Shard (shard_of (setting c) f)) (shard_list w.lists (shard_of (setting c) f)) ≡ true
    shards_own f = ap (λ y. own c (slot.Shard (shard_of (setting c) f)) (shard_list y (shard_of (setting c) f))) l.known.lists_are ∙ (lawful_lists c l.known.trace l.known.cluster.guarded_are).shards (shard_of (setting c) f) (is_less (shard_of (setting c) f) c.config.shards (subst (λ (x : Setting). shard_of x f < x.config.shards) l.base_is (s.base_is.sharded f)))
      where
        is_less : (x y : ℕ) → x < y → nat_lt x y ≡ true
        is_less x y h = grind (arith, h)

    recorded_are : confirmed_there c w.lists ≡ true
    recorded_are = (and_both _ (confirmed_there c w.lists) (known_lawful c w l.known)).1

abbrev pub granted : Base → World → ℕ → List Fact
granted b w p = queue_list w.lists p ++ fact.Granted (slot.Queue p) (epoch (queue_list w.lists p) + 1) b.who ∷ []

abbrev pub TakesQueue : Base → World → Alone → ℕ → Alone → World → Type 0
TakesQueue b w z p to v = (to ≡ with_producer z p (new_producer b.set b.who p (granted b w p))) × (queue_list v.lists p ≡ granted b w p) × ((r : ℕ) → (r - 1 ≡ p - 1 → ⊥) → queue_list v.lists r ≡ queue_list w.lists r)

take_queue : Rests → (c : Script) (b : Base) (from done : ℕ) (w : World) (z : Alone) (p o out : ℕ) → IsLonely c b from done w z → Stands b none_later z → is_producer c p ≡ true → Waits c b w z p o out
    → Outcome c b from done w z (6 * outs_in b.set.names (queue_list w.lists p)) (TakesQueue b w z p) (give (input.Produce p) (node_at w 1) w)
take_queue laws c b from done w z p o out l s is t =
    subst (λ n. Outcome c b from done w z (6 * outs_in b.set.names (queue_list w.lists p)) (TakesQueue b w z p) (give (input.Produce p) n w)) (sym l.is_by.is_up)
    (comes_leads laws c b from done w z (6 * outs_in b.set.names (queue_list w.lists p)) (λ to. to ≡ with_producer z p (new_producer b.set b.who p (granted b w p))) (TakesQueue b w z p) (input.Produce p) l is refl (produce_leads b z w.lists p s m)
    (λ to v lonely h lists. (h, ap (λ y. queue_list y p) (lists ∙ entry) ∙ get_or-set_same w.lists.queues (p - 1) (granted b w p) [] inside_is, (λ r other. ap (λ y. queue_list y r) (lists ∙ entry) ∙ get_or-set_other w.lists.queues (p - 1) (r - 1) (granted b w p) [] other))))
  where
    m : MayProduce b z p (queue_list w.lists p)
    m = may_produce laws c b from done w z p o out l s is t

    grant : Fact
    grant = fact.Granted (slot.Queue p) (epoch (queue_list w.lists p) + 1) b.who

    entry : fold (lists_step w.set) w.lists (facts_in (items_of (produce w.lists p (node_with b z)))) ≡ with_entry grant w.lists (Some (slot.Queue p))
    entry = ap (λ n. fold (lists_step w.set) w.lists (facts_in (items_of (if is_none n then map (by_producer p) (acquire_by (slot.Queue p) b.who (queue_list w.lists p) (holder (queue_list w.lists p))) else [])))) t.none
        ∙ ap (λ h. fold (lists_step w.set) w.lists (facts_in (items_of (map (by_producer p) (acquire_by (slot.Queue p) b.who (queue_list w.lists p) h))))) m.free

    inside_is : p - 1 < length w.lists.queues
    inside_is = inside_of p c.config.producers (length w.lists.queues) (producer_above c p is) (producer_within c p is) (queues_long c w l.known)
      where
        inside_of : (p n m : ℕ) → 0 < p → p ≤ n → m ≡ n → p - 1 < m
        inside_of p n m h k e = omega (arith, h, k, e)

pub takes : Rests → (c : Script) (b : Base) (from done : ℕ) (w : World) (z : Alone) (p o out : ℕ) → IsLonely c b from done w z → Stands b none_later z → is_producer c p ≡ true → Waits c b w z p o out → Outcome c b from done w z (6 * out) (Taken b w z p out) (world.produce p 1 w)
takes laws c b from done w z p o out l s is t =
    subst (Outcome c b from done w z (6 * out) (Taken b w z p out)) (sym steps_are)
    (comes_also c b from done w z (6 * ins + 6 * (o - q)) (6 * out) (Taken b w z p out) (Taken b w z p out) (then_step m (send_all_waiting p 1)) (times ins (o - q) out few) (λ x. x.also_is)
    (then_comes c b from done w z (6 * ins) (6 * (o - q)) (TakesQueue b w z p) (Taken b w z p out) m (send_all_waiting p 1) (take_queue laws c b from done w z p o out l s is t) (λ x.
    let v : World = m.world in
    let held : is_none (producer_at x.to.producers p) ≡ false = ap (λ (y : Alone). is_none (producer_at y.producers p)) x.also_is.0 ∙ ap is_none (placed_at z.producers (p - 1) (Some new) may.inside) in
    let in_all : queued_in_all (queue_list v.lists p) ≡ q = ap queued_in_all x.also_is.1 ∙ fold-append queued_in_all_step 0 list (grant ∷ []) in
    let still : ordered_of v p ≡ o = ap (λ l. slice_index_or l (p - 1) 0) x.ordered_is ∙ t.ordered_is in
    subst (Outcome c b from (done + deliveries_in m.facts) v x.to (6 * (o - q)) (Taken b w z p out)) (sym (sends_are_all v (ap holder x.also_is.1 ∙ fold-append holder_step None list (grant ∷ [])) ∙ ap (λ n. send_waiting p 1 n v) (ap₂ (λ a b. a - b) still in_all)))
    (comes_also c b from (done + deliveries_in m.facts) v x.to (6 * (o - q)) (6 * (o - q)) (Sent b v x.to p (o - q)) (Taken b w z p out) (send_waiting p 1 (o - q) v) (le_itself (6 * (o - q)))
    (λ y. record {
      full_is = y.also_is.full_is ∙ (ap (λ (a : Alone). length a.producers) x.also_is.0 ∙ length-set z.producers (p - 1) (Some new));
      beside_are = λ r other. y.also_is.beside_are r other ∙ (ap (λ (a : Alone). producer_at a.producers r) x.also_is.0 ∙ placed_beside z.producers (p - 1) (r - 1) (Some new) other);
      held_is = y.also_is.held_is;
      all_queued = y.also_is.all_queued;
      outs_on = three (outs_at y.to p b.set.names) (outs_at x.to p b.set.names) ins (o - q) out y.also_is.outs_on
          (sum_same (λ e. queued e list - confirmed e list) (λ e. out_by e (producer_at x.to.producers p)) b.set.names (λ e. of_equal (ap (λ (a : Alone). out_by e (producer_at a.producers p)) x.also_is.0 ∙ (ap (out_by e) (placed_at z.producers (p - 1) (Some new) may.inside) ∙ ap₂ (λ a b. a - b) (queued_granted (slot.Queue p) (epoch list + 1) b.who list e) (confirmed_granted (slot.Queue p) (epoch list + 1) b.who list e))))) few;
      lists_beside = λ r other. y.also_is.lists_beside r other ∙ x.also_is.2 r other;
    })
    (sends_go laws c b from p o (o - q) (done + deliveries_in m.facts) v x.to x.lonely x.stands is t.made t.enough held (ap (λ n. n + (o - q)) in_all ∙ whole q o t.queued_ordered))))))
  where
    m : Made
    m = give (input.Produce p) (node_at w 1) w

    list : List Fact
    list = queue_list w.lists p

    grant : Fact
    grant = fact.Granted (slot.Queue p) (epoch list + 1) b.who

    new : Producer
    new = new_producer b.set b.who p (list ++ grant ∷ [])

    q : ℕ
    q = queued_in_all list

    ins : ℕ
    ins = outs_in b.set.names list

    may : MayProduce b z p list
    may = may_produce laws c b from done w z p o out l s is t

    reads : QueueReads c p list
    reads = queue_reads laws.sendings c p list (known_queue c w l.known p is)

    of_equal : {a d : ℕ} → a ≡ d → a ≤ d
    of_equal {a = a} {d = d} e = omega (arith, e)

    whole : (q o : ℕ) → q ≤ o → q + (o - q) ≡ o
    whole q o h = omega (arith, h)

    three : (x y i k n : ℕ) → x ≤ y + k → y ≤ i → i + k ≤ n → x ≤ n
    three x y i k n h g f = omega (arith, h, g, f)

    times : (i k n : ℕ) → i + k ≤ n → 6 * i + 6 * k ≤ 6 * n
    times i k n h = omega (arith, h)

    few : ins + (o - q) ≤ out
    few = sums ins (sum_by (λ e. confirmed e list) b.set.names) (sum_by (λ e. queued e list) b.set.names) (length (take q (sends c p))) q o out
        (sum_apart (λ e. queued e list) (λ e. confirmed e list) (λ e. queued e list - confirmed e list) b.set.names reads.confirmed_queued (λ e. le_itself (queued e list - confirmed e list)))
        (le_then (sum_by (λ e. queued e list) b.set.names) (sum_by (λ e. count_to e (take q (sends c p))) b.set.names) (length (take q (sends c p))) (sum_same (λ e. count_to e (take q (sends c p))) (λ e. queued e list) b.set.names (λ e. of_equal (reads.first_are e))) (sum_counts b.set.names s.base_is.differ (take q (sends c p))))
        (take_length q (sends c p)) t.queued_ordered t.outstanding
      where
        sums : (i f u n q o out : ℕ) → i + f ≤ u → u ≤ n → n ≤ q → q ≤ o → o ≤ f + out → i + (o - q) ≤ out
        sums i f u n q o out a d g h k = omega (arith, a, d, g, h, k)

    sends_are_all : (v : World) → holder (queue_list v.lists p) ≡ Some b.who → send_all_waiting p 1 v ≡ send_waiting p 1 (ordered_of v p - queued_in_all (queue_list v.lists p)) v
    sends_are_all v e = ap (λ h. if is_of_node 1 h then send_waiting p 1 (ordered_of v p - queued_in_all (queue_list v.lists p)) v else tell [] v) e ∙ ap (λ n. if n == 1 then send_waiting p 1 (ordered_of v p - queued_in_all (queue_list v.lists p)) v else tell [] v) l.is_by.node_is

    steps_are : world.produce p 1 w ≡ then_step m (send_all_waiting p 1)
    steps_are = ap (λ n. if is_none n || is_of_node 1 (queue_holder w p) then nothing w else then_step m (send_all_waiting p 1)) l.is_by.is_up
        ∙ ap (λ h. if is_of_node 1 h then nothing w else then_step m (send_all_waiting p 1)) may.free

-- All queues.

pub record TakenAll (b : Base) (z : Alone) (a n total : ℕ) (to : Alone) (v : World) : Type 0 where
  pub full_is : length to.producers ≡ length z.producers
  pub beside_are : (r : ℕ) → 0 < r → (a ≤ r → a + n ≤ r) → producer_at to.producers r ≡ producer_at z.producers r
  pub held_are : Each (λ p. (0 < p) × (is_none (producer_at to.producers p) ≡ false)) (numbers a n)
  pub all_queued : (p : ℕ) (f : List ℕ) → a ≤ p → p < a + n → queued_by f (producer_at to.producers p) ≡ b.made p f
  pub outs_on : all_outs b to (numbers a n) ≤ total

pub takes_all : Rests → (c : Script) (b : Base) (from : ℕ) (o out : ℕ → ℕ) (n a done : ℕ) (w : World) (z : Alone) → IsLonely c b from done w z → Stands b none_later z → 0 < a → a + n ≤ c.config.producers + 1
    → ((p : ℕ) → a ≤ p → p < a + n → Waits c b w z p (o p) (out p))
    → Outcome c b from done w z (6 * sum_by out (numbers a n)) (TakenAll b z a n (sum_by out (numbers a n))) (in_order (map (λ p. world.produce p 1) (numbers a n)) w)
takes_all laws c b from o out zero a done w z l s above room waits = comes_also c b from done w z 0 (6 * 0) (TakenAll b z a 0 0) (TakenAll b z a 0 0) (tell [] w) (omega arith) (λ x. x.also_is)
    (comes_none c b from done w z (TakenAll b z a 0 0) l s (record { full_is = refl; beside_are = λ r h k. refl; held_are = tt; all_queued = λ p f h k. absurd (empty a p h k); outs_on = le_itself 0 }))
  where
    empty : (a r : ℕ) → a ≤ r → r < a + 0 → ⊥
    empty a r h k = omega (arith, h, k)
takes_all laws c b from o out (suc n) a done w z l s above room waits =
    comes_also c b from done w z (6 * out a + 6 * sum_by out (numbers (a + 1) n)) (6 * sum_by out (a ∷ numbers (a + 1) n)) (TakenAll b z a (suc n) (sum_by out (a ∷ numbers (a + 1) n))) (TakenAll b z a (suc n) (sum_by out (a ∷ numbers (a + 1) n))) (in_order (map (λ p. world.produce p 1) (a ∷ numbers (a + 1) n)) w)
    (times (out a) (sum_by out (numbers (a + 1) n)) (sum_by out (a ∷ numbers (a + 1) n)) (sum_by-cons out a (numbers (a + 1) n))) (λ x. x.also_is)
    (then_comes c b from done w z (6 * out a) (6 * sum_by out (numbers (a + 1) n)) (Taken b w z a (out a)) (TakenAll b z a (suc n) (sum_by out (a ∷ numbers (a + 1) n))) m (in_order (map (λ p. world.produce p 1) (numbers (a + 1) n)))
    (takes laws c b from done w z a (o a) (out a) l s is_a (waits a (le_itself a) (in_range a n)))
    (λ x. comes_also c b from (done + deliveries_in m.facts) m.world x.to (6 * sum_by out (numbers (a + 1) n)) (6 * sum_by out (numbers (a + 1) n)) (TakenAll b x.to (a + 1) n (sum_by out (numbers (a + 1) n))) (TakenAll b z a (suc n) (sum_by out (a ∷ numbers (a + 1) n))) (in_order (map (λ p. world.produce p 1) (numbers (a + 1) n)) m.world) (le_itself (6 * sum_by out (numbers (a + 1) n)))
    (λ y. joins x.to y.to m.world _ x.also_is y.also_is)
    (takes_all laws c b from o out n (a + 1) (done + deliveries_in m.facts) m.world x.to x.lonely x.stands (positive a) (shift_room a n c.config.producers room)
    (λ p h k. let t : Waits c b w z p (o p) (out p) = waits p (down a p h) (unshift a n p k) in
    let other : p - 1 ≡ a - 1 → ⊥ = apart a p above h in
    record {
      none = x.also_is.beside_are p other ∙ t.none;
      ordered_is = ap (λ l. slice_index_or l (p - 1) 0) x.ordered_is ∙ t.ordered_is;
      made = t.made;
      enough = t.enough;
      queued_ordered = subst (λ l. queued_in_all l ≤ o p) (sym (x.also_is.lists_beside p other)) t.queued_ordered;
      outstanding = subst (λ l. o p ≤ sum_by (λ e. confirmed e l) b.set.names + out p) (sym (x.also_is.lists_beside p other)) t.outstanding;
    }))))
  where
    m : Made
    m = world.produce a 1 w

    is_a : is_producer c a ≡ true
    is_a = in_range_of a n c.config.producers above room
      where
        in_range_of : (a n m : ℕ) → 0 < a → a + suc n ≤ m + 1 → (nat_le 1 a && nat_le a m) ≡ true
        in_range_of a n m h k = both (nat_le 1 a) (nat_le a m) (low a h) (high a n m k)
          where
            low : (a : ℕ) → 0 < a → nat_le 1 a ≡ true
            low a h = grind (arith, nat_tests, h)

            high : (a n m : ℕ) → a + suc n ≤ m + 1 → nat_le a m ≡ true
            high a n m h = of_less a m (omega (arith, h))
              where
                of_less : (a m : ℕ) → a ≤ m → nat_le a m ≡ true
                of_less a m h = grind (arith, nat_tests, h)

    in_range : (a n : ℕ) → a < a + suc n
    in_range a n = omega arith

    positive : (a : ℕ) → 0 < a + 1
    positive a = omega arith

    shift_room : (a n m : ℕ) → a + suc n ≤ m + 1 → a + 1 + n ≤ m + 1
    shift_room a n m h = omega (arith, h)

    down : (a r : ℕ) → a + 1 ≤ r → a ≤ r
    down a r h = omega (arith, h)

    unshift : (a n p : ℕ) → p < a + 1 + n → p < a + suc n
    unshift a n p h = omega (arith, h)

    apart : (a p : ℕ) → 0 < a → a + 1 ≤ p → p - 1 ≡ a - 1 → ⊥
    apart a p h k e = omega (arith, h, k, e)

    times : (x y t : ℕ) → t ≡ x + y → 6 * x + 6 * y ≤ 6 * t
    times x y t e = omega (arith, e)

    joins : (mid to : Alone) (v1 v : World) → Taken b w z a (out a) mid v1 → TakenAll b mid (a + 1) n (sum_by out (numbers (a + 1) n)) to v → TakenAll b z a (suc n) (sum_by out (a ∷ numbers (a + 1) n)) to v
    joins mid to v1 v x y = record {
      full_is = y.full_is ∙ x.full_is;
      beside_are = λ r h k. y.beside_are r h (λ j. shift a n r (k (down a r j))) ∙ x.beside_are r (λ e. same_place r h k e);
      held_are = ((above, ap is_none first ∙ x.held_is), y.held_are);
      all_queued = λ p f h k. by_place (queued_by f (producer_at to.producers p) ≡ b.made p f) p a
          (λ same. subst (λ n. queued_by f (producer_at to.producers n) ≡ b.made n f) (sym same) (ap (queued_by f) first ∙ x.all_queued f))
          (λ other. y.all_queued p f (later a p h other) (shift_less a n p k));
      outs_on = sums (all_outs b to (a ∷ numbers (a + 1) n)) (outs_at to a b.set.names) (all_outs b to (numbers (a + 1) n)) (outs_at mid a b.set.names) (out a) (sum_by out (numbers (a + 1) n)) (sum_by out (a ∷ numbers (a + 1) n))
          (sum_by-cons (λ p. outs_at to p b.set.names) a (numbers (a + 1) n)) (sum_same (λ e. out_by e (producer_at mid.producers a)) (λ e. out_by e (producer_at to.producers a)) b.set.names (λ e. of_equal (ap (out_by e) first))) x.outs_on y.outs_on (sum_by-cons out a (numbers (a + 1) n));
    }
      where
        of_equal : {a d : ℕ} → a ≡ d → a ≤ d
        of_equal {a = a} {d = d} e = omega (arith, e)

        first : producer_at to.producers a ≡ producer_at mid.producers a
        first = y.beside_are a above (λ j. absurd (never a j))
          where
            never : (a : ℕ) → a + 1 ≤ a → ⊥
            never a h = omega (arith, h)

        shift : (a n r : ℕ) → a + suc n ≤ r → a + 1 + n ≤ r
        shift a n r h = omega (arith, h)

        later : (a p : ℕ) → a ≤ p → (p ≡ a → ⊥) → a + 1 ≤ p
        later a p h k = omega (arith, h, k)

        shift_less : (a n p : ℕ) → p < a + suc n → p < a + 1 + n
        shift_less a n p h = omega (arith, h)

        same_place : (r : ℕ) → 0 < r → (a ≤ r → a + suc n ≤ r) → r - 1 ≡ a - 1 → ⊥
        same_place r h k e = let same : a ≤ r = least a r above h e in past a n r (equal a r above h e) (k same)
          where
            least : (a r : ℕ) → 0 < a → 0 < r → r - 1 ≡ a - 1 → a ≤ r
            least a r h k e = omega (arith, h, k, e)

            equal : (a r : ℕ) → 0 < a → 0 < r → r - 1 ≡ a - 1 → r ≡ a
            equal a r h k e = omega (arith, h, k, e)

            past : (a n r : ℕ) → r ≡ a → a + suc n ≤ r → ⊥
            past a n r e h = omega (arith, e, h)

        sums : (t x y d o u v : ℕ) → t ≡ x + y → x ≤ d → d ≤ o → y ≤ u → v ≡ o + u → t ≤ v
        sums t x y d o u v e h k j g = omega (arith, e, h, k, j, g)
