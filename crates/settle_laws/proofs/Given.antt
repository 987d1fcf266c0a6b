-- Given lists: a settling of them hands over nothing that confirms until every queue is taken.
use Rattle.std.proofs.Common.{◌≡◌, ◌<◌, ◌≤◌, ◌⊎◌, inl, inr, ℕ, zero, suc, ◌+◌, ◌-◌, ◌*◌, List, [], ◌∷◌, length, map, sym, ap, subst, ◌∙◌, refl, true, false, true≢false, arith}
use Rattle.std.specs.Prelude.{Bool, ◌||◌, ◌&&◌, sum_by, filter, fold, take, Some, None, is_none, slice_index_or}
use Rattle.std.specs.List.{list_any, slice_get}
use Rattle.yard_model.specs.declared.charter.Sending.{Sending}
use Rattle.yard_model.specs.declared.incarnation.Slot.TheVariants as slot
use Rattle.yard_model.specs.declared.input.Input.TheVariants as input
use Rattle.yard_model.specs.declared.packet.Body.TheVariants as body
use Rattle.yard_model.specs.declared.packet.Packet.{Packet}
use Rattle.yard_model.specs.declared.incarnation.Incarnation.{Incarnation}
use Rattle.yard_model.specs.Genuine.{is_node, is_producer}
use Rattle.yard_model.specs.Lawful.{own}
use Rattle.yard_model.specs.Node.{Node, after, new_node, items_of, packet, turn}
use Rattle.yard_model.specs.Script.{Script, IsScript, setting, is_name, count_to, plan, sends}
use Rattle.yard_model.specs.Setting.{shard_of}
use Rattle.yard_model.specs.SlotLists.{shard_list, queue_list}
use Rattle.yard_model.specs.SlotReads.{journal, position, queued, queued_in_all, confirmed}
use Rattle.yard_model.specs.Trace.{lists_step}
use Rattle.yard_model.specs.Words.{numbers}
use Rattle.yard_model.specs.World as world
use Rattle.yard_model.specs.World.{World, Made, world_after, handle, deliver, drain, come_up, go_down, in_order, ordered_of, settle_bound, given_world, tell}
use Rattle.yard_model.specs.declared.fact.Fact.TheVariants as fact
use Rattle.plain_laws.proofs.Booleans.{get_replicate}
use Rattle.plain_laws.proofs.Lists.{some_is}
use Rattle.plain_laws.proofs.Names.{name_itself}
use Rattle.yard_laws.proofs.Owns.{producer_above, producer_within}
use Rattle.actor_laws.specs.Owes.{facts_in}
use Rattle.node_laws.specs.NodeTurns.{MayTake}
use Rattle.node_laws.specs.Traces.{recorded}
use Rattle.play_laws.proofs.Handled.{lawful_lists}
use Rattle.play_laws.proofs.Orders.{first_node}
use Rattle.play_laws.specs.Confirming.{is_confirming, MayDeliver, MayNext, MayDrain, MayTakeAll, MayBegin, MayComeUp}
use Rattle.play_laws.specs.Sound.{AreQueued}
use Rattle.settle_laws.specs.Alone.{Base, node_with, wire_after, producer_at}
use Rattle.settle_laws.specs.Begun.{beginning, own_packet, Begins}
use Rattle.settle_laws.specs.Inputs.{posts_in}
use Rattle.settle_laws.specs.Lonely.{ArePosted, IsBy, Known, IsFull, Outcome}
use Rattle.settle_laws.specs.Settles.{GivenMaySettle}
use Rattle.settle_laws.proofs.Begin.{node_begins}
use Rattle.settle_laws.proofs.Beginning.{IsEmpty, Early, Goes, ComesUp, IsBegun, base_of, waits_one, own_may, can_begin, comes_up, drain_begins}
use Rattle.settle_laws.proofs.Counts.{JournalReads, journal_reads, queue_reads}
use Rattle.settle_laws.proofs.Lonely.{got_by, handed, deliver_is, none_waits}
use Rattle.settle_laws.proofs.One.{Rests, HandsOn, input_goes}
use Rattle.settle_laws.proofs.Producing.{Waits, TakenAll, takes_all, known_queue, queued_reads}
use Rattle.settle_laws.proofs.Sent.{sent_to, is_to}
use Rattle.settle_laws.proofs.Tops.{Opens, each_at, downs_none, given_empty, given_is_ordered, given_sends}
use Rattle.settle_laws.proofs.Whole.{IsOrdered, out_of, producer_in, three_less}

-- The first drain.

-- the only packet that waits confirms nothing
may_only : (c : Script) (w : World) (k : ℕ) (p : Packet) → slice_get w.wire (k - 1) ≡ Some p → is_confirming p.body ≡ false → MayDeliver c w k
may_only c w zero p got quiet = tt
may_only c w (suc i) p got quiet = λ q e past h.
    let same : q ≡ p = some_is q p (sym e ∙ (ap (slice_get w.wire) (sym (one i)) ∙ got)) in
    absurd (true≢false (sym h ∙ (ap (λ (x : Packet). is_confirming x.body) same ∙ quiet)))
  where
    one : (i : ℕ) → suc i - 1 ≡ i
    one i = omega arith

-- one delivery of it, and then the rest of a drain
next_may : Rests → (c : Script) (who : Incarnation) (from done n : ℕ) (w : World) (st to : Node) (p : Packet) (wire : List Packet) (l : IsBy who from done w st (p ∷ [])) (kn : Known c w) → p.to ≡ who → is_confirming p.body ≡ false
    → MayTake c (recorded c kn.trace) st (input.Packet p) → fold after st (turn w.sends w.lists (input.Packet p) st) ≡ to → fold wire_after [] (turn w.sends w.lists (input.Packet p) st) ≡ wire
    → ((v : World) → IsBy who from (done + 1) v to wire → Known c v → v.lists ≡ fold (lists_step w.set) w.lists (facts_in (items_of (turn w.sends w.lists (input.Packet p) st))) → MayDrain c from n v)
    → MayDrain c from (suc n) w
next_may laws c who from done n w st to p wire l kn own quiet may node_is wire_is rest =
    subst (MayNext c w (MayDrain c from n)) (sym (l.waiting_is ∙ first.1)) (may_only c w first.0 p posts.1 quiet, on)
  where
    first : (k : ℕ) × (l.waiting ≡ k ∷ [])
    first = waits_one w.wire l.waiting p l.posted

    posts : ArePosted w.wire (first.0 ∷ []) (p ∷ [])
    posts = subst (λ ns. ArePosted w.wire ns (p ∷ [])) first.1 l.posted

    w1 : World
    w1 = world_after w (fact.Got first.0)

    by1 : IsBy who from (done + 1) w1 st []
    by1 = got_by who from done w st first.0 [] p [] l first.1

    known1 : Known c w1
    known1 = record { trace = kn.trace; script_is = kn.script_is; set_is = kn.set_is; sends_are = kn.sends_are; lists_are = kn.lists_are; cluster = kn.cluster }

    h : Made
    h = handle (input.Packet p) st w1

    is : deliver first.0 w ≡ handed w first.0 p st
    is = deliver_is who from done w st first.0 [] p [] l first.1 own

    on : (deliver first.0 w).world.full ≡ false → MayDrain c from n (deliver first.0 w).world
    on full = subst (λ (x : Made). MayDrain c from n x.world) (sym is) (by (input_goes laws c who from (done + 1) w1 st [] (input.Packet p) by1 known1 may refl))
      where
        going : h.world.full ≡ false
        going = sym (ap (λ (x : Made). x.world.full) is) ∙ full

        by : IsFull w.limit (from + (done + 1)) (0 + length (posts_in (items_of (turn w.sends w.lists (input.Packet p) st)))) h ⊎ HandsOn c who from (done + 1) w1 st (turn w.sends w.lists (input.Packet p) st) [] h → MayDrain c from n h.world
        by (inl f) = absurd (true≢false (sym f.full ∙ going))
        by (inr x) = rest h.world (subst (λ ws. IsBy who from (done + 1) h.world to ws) wire_is (subst (λ s. IsBy who from (done + 1) h.world s (fold wire_after [] (turn w.sends w.lists (input.Packet p) st))) node_is x.is_by)) x.known x.lists_are

none_may : (c : Script) (who : Incarnation) (from done n : ℕ) (w : World) (st : Node) → IsBy who from done w st [] → MayDrain c from n w
none_may c who from done zero w st l = tt
none_may c who from done (suc n) w st l = subst (MayNext c w (MayDrain c from n)) (sym (l.waiting_is ∙ none_waits w.wire l.waiting l.posted)) tt

first_may : Rests → (c : Script) (w w2 : World) (from n : ℕ) (e : IsEmpty c w) → let b : Base = base_of c w in IsBy b.who from 0 w2 (new_node b.set b.behaviour b.who) (own_packet b (body.View b.version (b.who ∷ [])) ∷ []) → Known c w2 → w2.lists ≡ w.lists
    → MayDrain c from n w2
first_may laws c w w2 from n e l kn lists_are = view_may n
  where
    b : Base
    b = base_of c w

    x : Begins b
    x = node_begins c b (can_begin laws c w e)

    node_is : is_node c b.who ≡ true
    node_is = first_node c e.known.script_is

    ack_may : (n : ℕ) (v : World) → IsBy b.who from 2 v x.registered (own_packet b body.RegisterAck ∷ []) → Known c v → MayDrain c from n v
    ack_may zero v l2 k2 = tt
    ack_may (suc n) v l2 k2 = next_may laws c b.who from 2 n v x.registered (node_with b (beginning b)) (own_packet b body.RegisterAck) [] l2 k2 refl refl
        (own_may c k2.trace v x.registered b body.RegisterAck node_is refl tt) x.ack_is x.ack_posts (λ v3 l3 k3 lists3. none_may c b.who from 3 n v3 (node_with b (beginning b)) l3)

    register_may : (n : ℕ) (v : World) → IsBy b.who from 1 v x.viewed (own_packet b body.Register ∷ []) → Known c v → MayDrain c from n v
    register_may zero v l1 k1 = tt
    register_may (suc n) v l1 k1 = next_may laws c b.who from 1 n v x.viewed x.registered (own_packet b body.Register) (own_packet b body.RegisterAck ∷ []) l1 k1 refl refl
        (own_may c k1.trace v x.viewed b body.Register node_is refl tt) x.register_is x.register_posts (λ v2 l2 k2 lists2. ack_may n v2 l2 k2)

    view_may : (n : ℕ) → MayDrain c from n w2
    view_may zero = tt
    view_may (suc n) = next_may laws c b.who from 0 n w2 (new_node b.set b.behaviour b.who) x.viewed (own_packet b (body.View b.version (b.who ∷ []))) (own_packet b body.Register ∷ []) l kn refl refl
        (own_may c kn.trace w2 (new_node b.set b.behaviour b.who) b (body.View b.version (b.who ∷ [])) node_is (ap (λ t. t && true) node_is) refl)
        (ap (λ y. fold after (new_node b.set b.behaviour b.who) (packet y b.who (body.View b.version (b.who ∷ [])) (new_node b.set b.behaviour b.who))) lists_are ∙ x.view_is)
        (ap (λ y. fold wire_after [] (packet y b.who (body.View b.version (b.who ∷ [])) (new_node b.set b.behaviour b.who))) lists_are ∙ x.view_posts)
        (λ v1 l1 k1 lists1. register_may n v1 l1 k1)

-- Every queue is taken.

-- who isn't a producer of the script sends nothing
none_sent : (c : Script) (p : ℕ) → IsScript c → is_producer c p ≡ false → sends c p ≡ []
none_sent c p script other = by (sends c p) refl
  where
    by : (xs : List Sending) → sends c p ≡ xs → sends c p ≡ []
    by [] e = e
    by (x ∷ xs) e = absurd (true≢false (sym (sent_to c p x.entity script (ap (list_any (is_to x.entity)) e ∙ first (is_to x.entity x) (list_any (is_to x.entity) xs) (name_itself x.entity))).producer_is ∙ other))
      where
        first : (a b : Bool) → a ≡ true → (a || b) ≡ true
        first true b h = refl
        first false b h = absurd (true≢false (sym h))

planned_is : (c : Script) (p : ℕ) (e : List ℕ) → length (plan c p e) ≡ count_to e (sends c p)
planned_is c p e = mapped (filter (λ (x : Sending). is_name x.entity e) (sends c p))
  where
    mapped : (xs : List Sending) → length (map (λ (x : Sending). x.command) xs) ≡ length xs
    mapped [] = refl
    mapped (x ∷ xs) = ap suc (mapped xs)

takes_may : Rests → (c : Script) (w w3 : World) (from : ℕ) (e : IsEmpty c w) → IsOrdered c w → ((p : ℕ) → 0 < p → take (ordered_of w p) (sends c p) ≡ sends c p) → IsBegun c (base_of c w) from w3 → MayTakeAll c w3
takes_may laws c w w3 from e o all begun full = by (takes_all laws c b from (ordered_of w) (out_of c w) n 1 3 w3 (beginning b) begun.0 begins.stands (omega arith) (swap n) waits)
  where
    b : Base
    b = base_of c w

    n : ℕ
    n = c.config.producers

    taking : Made
    taking = in_order (map (λ p. world.produce p 1) (numbers 1 n)) w3

    begins : Begins b
    begins = node_begins c b (can_begin laws c w e)

    swap : (n : ℕ) → 1 + n ≤ n + 1
    swap n = omega arith

    waits : (p : ℕ) → 1 ≤ p → p < 1 + n → Waits c b w3 (beginning b) p (ordered_of w p) (out_of c w p)
    waits p low high = record {
      none = get_replicate n (p - 1) None;
      ordered_is = ap (λ ls. slice_index_or ls (p - 1) 0) begun.0.ordered_is;
      made = λ f. refl;
      enough = o.ordered_sent p is;
      queued_ordered = subst (λ l. queued_in_all l ≤ ordered_of w p) (sym list) (o.queued_ordered p is);
      outstanding = subst (λ l. ordered_of w p ≤ sum_by (λ f. confirmed f l) (setting c).names + out_of c w p) (sym list) (most (ordered_of w p) (sum_by (λ f. confirmed f (queue_list w.lists p)) (setting c).names));
    }
      where
        is : is_producer c p ≡ true
        is = producer_in c p low high

        list : queue_list w3.lists p ≡ queue_list w.lists p
        list = ap (λ ls. slice_index_or ls (p - 1) []) begun.1

        most : (o s : ℕ) → o ≤ s + (o - s)
        most o s = omega arith

    by : Outcome c b from 3 w3 (beginning b) (6 * sum_by (out_of c w) (numbers 1 n)) (TakenAll b (beginning b) 1 n (sum_by (out_of c w) (numbers 1 n))) taking → AreQueued c taking.world.lists
    by (inl f) = absurd (true≢false (sym f.full ∙ full))
    by (inr x) = λ p f. pair p f (is_producer c p) refl
      where
        v : World
        v = taking.world

        reads : (f : List ℕ) → JournalReads c f (journal f (shard_list v.lists (shard_of (setting c) f)))
        reads f = journal_reads c (shard_of (setting c) f) f (shard_list v.lists (shard_of (setting c) f)) (ap (λ l. own c (slot.Shard (shard_of (setting c) f)) (shard_list l (shard_of (setting c) f))) x.lonely.known.lists_are
            ∙ (lawful_lists c x.lonely.known.trace x.lonely.known.cluster.guarded_are).shards (shard_of (setting c) f) (laws.there c f x.lonely.known.script_is))

        held : (p : ℕ) → 1 ≤ p → p < 1 + n → is_none (producer_at x.to.producers p) ≡ false
        held p low high = (each_at (λ q. (0 < q) × (is_none (producer_at x.to.producers q) ≡ false)) n 1 p low high x.also_is.held_are).1

        pair : (p : ℕ) (f : List ℕ) (t : Bool) → is_producer c p ≡ t → position p (journal f (shard_list v.lists (shard_of (setting c) f))) ≤ queued f (queue_list v.lists p)
        pair p f true is = subst (λ m. position p (journal f (shard_list v.lists (shard_of (setting c) f))) ≤ m) (planned_is c p f ∙ sym queued_is) ((reads f).planned p)
          where
            above : 0 < p
            above = producer_above c p is

            low : (p : ℕ) → 0 < p → 1 ≤ p
            low p h = omega (arith, h)

            high : (p n : ℕ) → p ≤ n → p < 1 + n
            high p n h = omega (arith, h)

            queued_is : queued f (queue_list v.lists p) ≡ count_to f (sends c p)
            queued_is = (queue_reads laws.sendings c p (queue_list v.lists p) (known_queue c v x.lonely.known p is)).first_are f
                ∙ (sym (queued_reads laws c b from _ v x.to x.lonely p is (held p (low p above) (high p n (producer_within c p is))) f)
                ∙ (x.also_is.all_queued p f (low p above) (high p n (producer_within c p is)) ∙ ap (count_to f) (all p above)))
        pair p f false other = none (position p (journal f (shard_list v.lists (shard_of (setting c) f)))) (length (plan c p f)) (queued f (queue_list v.lists p)) ((reads f).planned p) (planned_is c p f ∙ ap (count_to f) (none_sent c p x.lonely.known.script_is other))
          where
            none : (a b d : ℕ) → a ≤ b → b ≡ 0 → a ≤ d
            none a b d h e = omega (arith, h, e)

-- The whole.

pub given_may_settle : Rests → Opens → GivenMaySettle
given_may_settle laws opens c version lists script admits is_lawful free =
    subst (MayComeUp c from bound) (sym (ap (λ (m : Made). m.world) (downs_none (numbers 1 c.config.nodes) w (λ k. get_replicate c.config.nodes k None) refl)))
    (λ full. by full (comes_up laws c w empty))
  where
    w : World
    w = given_world c version lists

    from : ℕ
    from = length w.wire

    bound : ℕ
    bound = settle_bound w

    empty : IsEmpty c w
    empty = given_empty laws opens c version lists script admits is_lawful free

    three : (k : ℕ) × (bound ≡ suc (suc (suc k)))
    three = three_less bound (enough _)
      where
        enough : (n : ℕ) → 3 ≤ 40 * (n + 1)
        enough n = omega arith

    v : World
    v = (come_up 1 w).world

    by : v.full ≡ false → IsFull w.limit from 1 (come_up 1 w) ⊎ Early (ComesUp c w) w 0 (come_up 1 w) → MayBegin c from bound v
    by full (inl f) = absurd (true≢false (sym f.full ∙ full))
    by full (inr y) = (first_may laws c w v from bound empty y.so_far.is_by y.so_far.known y.so_far.lists_are, subst (λ n. (drain from n v).world.full ≡ false → MayTakeAll c (drain from n v).world) (sym three.1) (λ f. next f (drain_begins laws c w v from three.0 empty y.so_far.is_by y.so_far.known y.so_far.lists_are y.ordered_is)))
      where
        next : (drain from (suc (suc (suc three.0))) v).world.full ≡ false → Goes (IsBegun c (base_of c w) from) v (from + 0) 3 3 (drain from (suc (suc (suc three.0))) v) → MayTakeAll c (drain from (suc (suc (suc three.0))) v).world
        next f (inl g) = absurd (true≢false (sym g.full ∙ f))
        next f (inr t) = takes_may laws c w (drain from (suc (suc (suc three.0))) v).world from empty (given_is_ordered laws opens c version lists script admits is_lawful free) (λ p above. given_sends c version lists p script above) t.so_far
