-- In a world where no node is up node 1 comes up, and its three first deliveries make it the coordinator, and the only region.
use Rattle.std.proofs.Common.{ap₂, ◌≡◌, ◌<◌, ◌≤◌, ◌⊎◌, inl, inr, ℕ, zero, suc, ◌+◌, List, [], ◌∷◌, ◌++◌, length, map, sym, ap, subst, ◌∙◌, refl, true, false, arith, length-append}
use Rattle.std.specs.Prelude.{Bool, ◌==◌, ◌&&◌, nat_lt, nat_le, filter, fold, take, Option, Some, None, slice_index_or, slice_set, if◌then◌else◌}
use Rattle.std.specs.List.{list_any}
use Rattle.std.proofs.lemmas.List.Elements.{filter-append}
use Rattle.std.proofs.lemmas.Bool.Decides.{nat_tests}
use Rattle.yard_model.specs.declared.fact.Fact.{Fact}
use Rattle.yard_model.specs.declared.fact.Fact.TheVariants as fact
use Rattle.yard_model.specs.declared.incarnation.Incarnation.{Incarnation}
use Rattle.yard_model.specs.declared.incarnation.Slot.{Slot}
use Rattle.yard_model.specs.declared.incarnation.Slot.TheVariants as slot
use Rattle.yard_model.specs.declared.input.Input.TheVariants as input
use Rattle.yard_model.specs.declared.out.Item.TheVariants as item
use Rattle.yard_model.specs.declared.packet.Body.{Body}
use Rattle.yard_model.specs.declared.packet.Body.TheVariants as body
use Rattle.yard_model.specs.declared.packet.Packet.{Packet}
use Rattle.yard_model.specs.Era.{version_in}
use Rattle.yard_model.specs.Genuine.{is_node, is_slot_of, is_genuine_body}
use Rattle.yard_model.specs.Lawful.{own}
use Rattle.yard_model.specs.Node.{Node, Act, after, new_node, items_of, packet, turn}
use Rattle.yard_model.specs.Safe.{live_at}
use Rattle.yard_model.specs.Script.{Script, setting, is_version, count_to, sends}
use Rattle.yard_model.specs.Setting.{shard_of}
use Rattle.yard_model.specs.SlotLists.{SlotLists, shard_list}
use Rattle.yard_model.specs.SlotReads.{holder, epoch, journal, position}
use Rattle.yard_model.specs.Trace.{lists_step, list_at}
use Rattle.yard_model.specs.Words.{at, is_among}
use Rattle.yard_model.specs.World.{World, Made, world_after, input_facts, handle, deliver, drain, views, come_up, ordered_of, then_step, tell}
use Rattle.plain_laws.proofs.Booleans.{and_both, below, not_below, same_number}
use Rattle.plain_laws.proofs.Lists.{placed_at, placed_beside, by_place}
use Rattle.actor_laws.specs.Owes.{facts_in}
use Rattle.actor_laws.proofs.NameLaws.{names_differ}
use Rattle.node_laws.specs.Cluster.{IsCluster, IsHeldBy}
use Rattle.node_laws.specs.NodeTurns.{MayTake, Promised}
use Rattle.node_laws.specs.Traces.{recorded}
use Rattle.play_laws.proofs.Handled.{lawful_lists}
use Rattle.play_laws.proofs.Orders.{first_node}
use Rattle.settle_laws.specs.Alone.{Base, node_with, wire_after}
use Rattle.settle_laws.specs.Begun.{CanBegin, beginning, own_packet, Begins}
use Rattle.settle_laws.specs.Inputs.{posts_in}
use Rattle.settle_laws.specs.Lonely.{ArePosted, IsBy, Known, IsLonely, deliveries_in, is_settled_fact, IsLonger, IsFull}
use Rattle.settle_laws.proofs.Begin.{node_begins}
use Rattle.settle_laws.proofs.Longer.{longer_none, longer_both, facts_longer}
use Rattle.settle_laws.proofs.Lonely.{got_by, handed, deliver_is, posted_next, new_stay, none_waits}
use Rattle.settle_laws.proofs.One.{Rests, HandsOn, input_goes, then_stops, then_goes, none_both, deliveries_both}
use Rattle.settle_laws.proofs.Producing.{known_lawful}
use Rattle.settle_laws.proofs.Told.{same_posts}

-- A world in which no node is up.

pub record IsEmpty (c : Script) (w : World) : Type 0 where
  pub known : Known c w
  pub behaviour_is : w.behaviour ≡ version_in known.trace
  pub admitted : is_version c w.behaviour ≡ true
  pub none_up : (k : ℕ) (st : Node) → at w.nodes k ≡ Some st → ⊥
  pub nodes_there : length w.nodes ≡ c.config.nodes
  pub members_are : w.members ≡ []
  pub not_full : w.full ≡ false
  pub past_is : w.past ≤ length w.wire
  pub fresh_is : filter (nat_lt (length w.wire)) w.fresh ≡ []
  -- nothing is live at the next incarnation of node 1
  pub quiet : (e : List ℕ) → is_among (record { node = 1; number = slice_index_or w.ups 0 0 + 1 }) (live_at e known.trace) ≡ false
  pub recorded_made : (p : ℕ) (e : List ℕ) → 0 < p → position p (journal e (shard_list w.lists (shard_of (setting c) e))) ≤ count_to e (take (ordered_of w p) (sends c p))

-- Steps that come so far, or fill the wire.

pub record Early (P : World → Type 0) (w : World) (n : ℕ) (m : Made) : Type 0 where
  pub so_far : P m.world
  pub counted : deliveries_in m.facts ≡ n
  pub unsettled : list_any is_settled_fact m.facts ≡ false
  pub limit_is : m.world.limit ≡ w.limit
  pub ordered_is : m.world.ordered ≡ w.ordered
  pub longer : IsLonger w.lists m.world.lists

abbrev pub Goes : (World → Type 0) → World → ℕ → ℕ → ℕ → Made → Type 0
Goes P w before most n m = IsFull w.limit before most m ⊎ Early P w n m

pub waits_one : (wire : List Packet) (ks : List ℕ) (p : Packet) → ArePosted wire ks (p ∷ []) → (k : ℕ) × (ks ≡ k ∷ [])
waits_one wire [] p h = absurd h
waits_one wire (k ∷ []) p h = (k, refl)
waits_one wire (k ∷ j ∷ js) p h = absurd h.2

-- one delivery of the only packet that waits, and then the rest of a drain
drain_next : Rests → (P : World → Type 0) (c : Script) (who : Incarnation) (from done most n k : ℕ) (w : World) (st to : Node) (p : Packet) (wire : List Packet) (l : IsBy who from done w st (p ∷ [])) (kn : Known c w) → p.to ≡ who → MayTake c (recorded c kn.trace) st (input.Packet p)
    → fold after st (turn w.sends w.lists (input.Packet p) st) ≡ to → fold wire_after [] (turn w.sends w.lists (input.Packet p) st) ≡ wire → length wire ≤ most
    → ((v : World) → IsBy who from (done + 1) v to wire → Known c v → v.lists ≡ fold (lists_step w.set) w.lists (facts_in (items_of (turn w.sends w.lists (input.Packet p) st))) → v.limit ≡ w.limit → v.ordered ≡ w.ordered → Goes P v (from + (done + 1)) most n (drain from k v))
    → Goes P w (from + done) (suc most) (suc n) (drain from (suc k) w)
drain_next laws P c who from done most n k w st to p wire l kn own may node_is wire_is short rest =
    subst (λ ns. Goes P w (from + done) (suc most) (suc n) (elim ns as (λ x. Made) [ [] ↦ tell [] w | k1 ∷ ks ↦ then_step (deliver k1 w) (drain from k) ])) (sym (l.waiting_is ∙ first.1))
    (subst (λ m. Goes P w (from + done) (suc most) (suc n) (then_step m (drain from k))) (sym (deliver_is who from done w st first.0 [] p [] l first.1 own)) (by (input_goes laws c who from (done + 1) w1 st [] (input.Packet p) by1 known1 may refl)))
  where
    first : (k : ℕ) × (l.waiting ≡ k ∷ [])
    first = waits_one w.wire l.waiting p l.posted

    w1 : World
    w1 = world_after w (fact.Got first.0)

    by1 : IsBy who from (done + 1) w1 st []
    by1 = got_by who from done w st first.0 [] p [] l first.1

    known1 : Known c w1
    known1 = record { trace = kn.trace; script_is = kn.script_is; set_is = kn.set_is; sends_are = kn.sends_are; lists_are = kn.lists_are; cluster = kn.cluster }

    acts : List Act
    acts = turn w.sends w.lists (input.Packet p) st

    h : Made
    h = handle (input.Packet p) st w1

    m : Made
    m = handed w first.0 p st

    posts_are : length (posts_in (items_of acts)) ≡ length wire
    posts_are = ap length (sym (same_posts acts []) ∙ wire_is)

    by : IsFull w.limit (from + (done + 1)) (0 + length (posts_in (items_of acts))) h ⊎ HandsOn c who from (done + 1) w1 st acts [] h → Goes P w (from + done) (suc most) (suc n) (then_step m (drain from k))
    by (inl f) = inl (subst (IsFull w.limit (from + done) (suc most)) (sym (then_stops m (drain from k) f.full)) (record {
      full = f.full;
      counted = up (deliveries_in h.facts) (length (posts_in (items_of acts))) (length wire) most f.counted posts_are short;
      unsettled = f.unsettled;
      over = past w.limit from done (length (posts_in (items_of acts))) (length wire) most f.over posts_are short;
    }))
      where
        up : (d a b n : ℕ) → d ≤ 0 + a → a ≡ b → b ≤ n → suc d ≤ suc n
        up d a b n h e g = omega (arith, h, e, g)

        past : (m f d a b n : ℕ) → m < f + (d + 1) + (0 + a) → a ≡ b → b ≤ n → m < f + d + suc n
        past m f d a b n h e g = omega (arith, h, e, g)
    by (inr x) = then_by (rest h.world (subst (λ ws. IsBy who from (done + 1) h.world to ws) wire_is (subst (λ s. IsBy who from (done + 1) h.world s (fold wire_after [] acts)) node_is x.is_by)) x.known x.lists_are x.limit_is x.ordered_is)
      where
        then_by : Goes P h.world (from + (done + 1)) most n (drain from k h.world) → Goes P w (from + done) (suc most) (suc n) (then_step m (drain from k))
        then_by (inl f) = inl (subst (IsFull w.limit (from + done) (suc most)) (sym (then_goes m (drain from k) x.is_by.not_full)) (record {
          full = f.full;
          counted = up (deliveries_in (h.facts ++ (drain from k h.world).facts)) (deliveries_in h.facts) (deliveries_in (drain from k h.world).facts) most (deliveries_both h.facts (drain from k h.world).facts) x.none_got f.counted;
          unsettled = none_both is_settled_fact h.facts (drain from k h.world).facts x.unsettled f.unsettled;
          over = past w.limit h.world.limit from done most x.limit_is f.over;
        }))
          where
            up : (t d e n : ℕ) → t ≡ d + e → d ≡ 0 → e ≤ n → suc t ≤ suc n
            up t d e n g h k = omega (arith, g, h, k)

            past : (m v f d n : ℕ) → v ≡ m → v < f + (d + 1) + n → m < f + d + suc n
            past m v f d n e h = omega (arith, e, h)
        then_by (inr y) = inr (subst (Early P w (suc n)) (sym (then_goes m (drain from k) x.is_by.not_full)) (record {
          so_far = y.so_far;
          counted = ap suc (deliveries_both h.facts (drain from k h.world).facts ∙ ap₂ (λ a b. a + b) x.none_got y.counted ∙ zero_plus n);
          unsettled = none_both is_settled_fact h.facts (drain from k h.world).facts x.unsettled y.unsettled;
          limit_is = y.limit_is ∙ x.limit_is;
          ordered_is = y.ordered_is ∙ x.ordered_is;
          longer = longer_both w.lists h.world.lists (drain from k h.world).world.lists (subst (IsLonger w.lists) (sym x.lists_are) (facts_longer w.set (facts_in (items_of acts)) w.lists)) y.longer;
        }))
          where
            zero_plus : (n : ℕ) → 0 + n ≡ n
            zero_plus n = omega arith

-- nothing waits any more
drain_none : (P : World → Type 0) (who : Incarnation) (from done k : ℕ) (w : World) (st : Node) → IsBy who from done w st [] → P w → Goes P w (from + done) 0 0 (drain from k w)
drain_none P who from done zero w st l h = inr (record { so_far = h; counted = refl; unsettled = refl; limit_is = refl; ordered_is = refl; longer = longer_none w.lists })
drain_none P who from done (suc k) w st l h = subst (λ ns. Goes P w (from + done) 0 0 (elim ns as (λ x. Made) [ [] ↦ tell [] w | k1 ∷ ks ↦ then_step (deliver k1 w) (drain from k) ])) (sym (l.waiting_is ∙ none_waits w.wire l.waiting l.posted))
    (inr (record { so_far = h; counted = refl; unsettled = refl; limit_is = refl; ordered_is = refl; longer = longer_none w.lists }))

-- The base.

abbrev pub next_one : World → Incarnation
next_one w = record { node = 1; number = slice_index_or w.ups 0 0 + 1 }

abbrev pub base_of : Script → World → Base
base_of c w = record {
  who = next_one w;
  set = setting c;
  behaviour = w.behaviour;
  lists = w.lists;
  version = w.version + 1;
  lease = epoch w.lists.coordinator + 1;
  ordered = w.ordered;
  made = λ p e. count_to e (take (ordered_of w p) (sends c p));
}

nobody : (c : Script) (w : World) (k : IsEmpty c w) (s : Slot) → is_slot_of c s ≡ true → holder (list_at w.lists s) ≡ None
nobody c w k s there = by (holder (list_at w.lists s)) refl
  where
    by : (o : Option Incarnation) → holder (list_at w.lists s) ≡ o → holder (list_at w.lists s) ≡ None
    by None e = e
    by (Some x) e = let h : IsHeldBy w.nodes s x = k.known.cluster.held s x there (ap (λ l. holder (list_at l s)) (sym k.known.lists_are) ∙ e) in absurd (k.none_up h.place h.st h.here)

shards_long : (c : Script) (w : World) → Known c w → length w.lists.shards ≡ c.config.shards
shards_long c w k = same_number (length w.lists.shards) c.config.shards (shards_there (length w.lists.shards == c.config.shards) (length w.lists.queues == c.config.producers) _ _ _ _ (known_lawful c w k))
  where
    shards_there : (a b d e f g : Bool) → (a && b && d && e && f && g) ≡ true → a ≡ true
    shards_there a b d e f g h = (and_both a b (and_both (a && b) d (and_both (a && b && d) e (and_both (a && b && d && e) f (and_both (a && b && d && e && f) g h).0).0).0).0).0

free_shard : (c : Script) (w : World) (k : IsEmpty c w) (s : ℕ) → holder (shard_list w.lists s) ≡ None
free_shard c w k s = by (nat_lt s c.config.shards) refl
  where
    outside : (ls : List (List Fact)) (i : ℕ) → length ls ≤ i → slice_index_or ls i [] ≡ []
    outside [] i h = refl
    outside (l ∷ ls) zero h = absurd (none (length ls) h)
      where
        none : (n : ℕ) → suc n ≤ 0 → ⊥
        none n h = omega (arith, h)
    outside (l ∷ ls) (suc i) h = outside ls i (less (length ls) i h)
      where
        less : (n i : ℕ) → suc n ≤ suc i → n ≤ i
        less n i h = omega (arith, h)

    by : (t : Bool) → nat_lt s c.config.shards ≡ t → holder (shard_list w.lists s) ≡ None
    by true e = nobody c w k (slot.Shard s) e
    by false e = ap holder (outside w.lists.shards s (subst (λ n. n ≤ s) (sym (shards_long c w k.known)) (not_below s c.config.shards e)))

pub can_begin : Rests → (c : Script) (w : World) → IsEmpty c w → CanBegin c (base_of c w)
can_begin laws c w k = record {
  base_is = record { sharded = λ e. below (shard_of (setting c) e) c.config.shards (laws.there c e k.known.script_is); differ = names_differ c.orders };
  versioned = positive w.version;
  lawful = ap (λ l. own c slot.Coordinator l.coordinator) k.known.lists_are ∙ (lawful_lists c k.known.trace k.known.cluster.guarded_are).coordinator;
  led = nobody c w k slot.Coordinator refl;
  lease_is = refl;
  free = free_shard c w k;
  recorded_made = k.recorded_made;
}
  where
    positive : (n : ℕ) → 0 < n + 1
    positive n = omega arith

-- The first drain.

abbrev pub IsBegun : Script → Base → ℕ → World → Type 0
IsBegun c b from v = IsLonely c b from 3 v (beginning b) × (v.lists.queues ≡ b.lists.queues)

pub own_may : (c : Script) (trace : List Fact) (w : World) (st : Node) (b : Base) (x : Body) → is_node c b.who ≡ true → is_genuine_body c x ≡ true → Promised (recorded c trace) st x → MayTake c (recorded c trace) st (input.Packet (own_packet b x))
own_may c trace w st b x node genuine promised = record { from_is = node; genuine = genuine; promised = promised }

pub drain_begins : Rests → (c : Script) (w w2 : World) (from k : ℕ) (e : IsEmpty c w) → let b : Base = base_of c w in IsBy b.who from 0 w2 (new_node b.set b.behaviour b.who) (own_packet b (body.View b.version (b.who ∷ [])) ∷ []) → Known c w2 → w2.lists ≡ w.lists → w2.ordered ≡ w.ordered
    → Goes (IsBegun c b from) w2 (from + 0) 3 3 (drain from (suc (suc (suc k))) w2)
drain_begins laws c w w2 from k e l kn lists_are ordered_is =
    drain_next laws (IsBegun c b from) c b.who from 0 2 2 (suc (suc k)) w2 (new_node b.set b.behaviour b.who) x.viewed (own_packet b (body.View b.version (b.who ∷ []))) (own_packet b body.Register ∷ []) l kn refl
    (own_may c kn.trace w2 (new_node b.set b.behaviour b.who) b (body.View b.version (b.who ∷ [])) node_is (ap (λ t. t && true) node_is) refl)
    (ap (λ y. fold after (new_node b.set b.behaviour b.who) (packet y b.who (body.View b.version (b.who ∷ [])) (new_node b.set b.behaviour b.who))) lists_are ∙ x.view_is)
    (ap (λ y. fold wire_after [] (packet y b.who (body.View b.version (b.who ∷ [])) (new_node b.set b.behaviour b.who))) lists_are ∙ x.view_posts) (omega arith)
    (λ v1 l1 k1 lists1 limit1 ordered1. drain_next laws (IsBegun c b from) c b.who from 1 1 1 (suc k) v1 x.viewed x.registered (own_packet b body.Register) (own_packet b body.RegisterAck ∷ []) l1 k1 refl
    (own_may c k1.trace v1 x.viewed b body.Register node_is refl tt) x.register_is x.register_posts (omega arith)
    (λ v2 l2 k2 lists2 limit2 ordered2. drain_next laws (IsBegun c b from) c b.who from 2 0 0 k v2 x.registered (node_with b (beginning b)) (own_packet b body.RegisterAck) [] l2 k2 refl
    (own_may c k2.trace v2 x.registered b body.RegisterAck node_is refl tt) x.ack_is x.ack_posts (omega arith)
    (λ v3 l3 k3 lists3 limit3 ordered3. drain_none (IsBegun c b from) b.who from 3 k v3 (node_with b (beginning b)) l3 (
      (record {
        is_by = l3;
        base_is = refl;
        ordered_is = ordered3 ∙ (ordered2 ∙ (ordered1 ∙ ordered_is));
        known = k3;
        genuine = refl;
        agrees = λ s none. ap (λ ls. slice_index_or ls s []) (shards_same v1 v2 v3 lists1 lists2 lists3);
      }),
      queues_same v1 v2 v3 lists1 lists2 lists3,
    ))))
  where
    b : Base
    b = base_of c w

    x : Begins b
    x = node_begins c b (can_begin laws c w e)

    node_is : is_node c b.who ≡ true
    node_is = first_node c e.known.script_is

    shards_same : (v1 v2 v3 : World) → v1.lists ≡ fold (lists_step w2.set) w2.lists (facts_in (items_of (packet w2.lists b.who (body.View b.version (b.who ∷ [])) (new_node b.set b.behaviour b.who))))
        → v2.lists ≡ fold (lists_step v1.set) v1.lists (facts_in (items_of (packet v1.lists b.who body.Register x.viewed))) → v3.lists ≡ v2.lists → v3.lists.shards ≡ w.lists.shards
    shards_same v1 v2 v3 one two three = ap (λ (y : SlotLists). y.shards) (three ∙ two) ∙ (x.register_stays v1.set v1.lists
        ∙ (ap (λ (y : SlotLists). y.shards) one ∙ (ap (λ y. (fold (lists_step w2.set) w2.lists (facts_in (items_of (packet y b.who (body.View b.version (b.who ∷ [])) (new_node b.set b.behaviour b.who))))).shards) lists_are
        ∙ (x.view_stays w2.set w2.lists ∙ ap (λ (y : SlotLists). y.shards) lists_are))))

    queues_same : (v1 v2 v3 : World) → v1.lists ≡ fold (lists_step w2.set) w2.lists (facts_in (items_of (packet w2.lists b.who (body.View b.version (b.who ∷ [])) (new_node b.set b.behaviour b.who))))
        → v2.lists ≡ fold (lists_step v1.set) v1.lists (facts_in (items_of (packet v1.lists b.who body.Register x.viewed))) → v3.lists ≡ v2.lists → v3.lists.queues ≡ w.lists.queues
    queues_same v1 v2 v3 one two three = ap (λ (y : SlotLists). y.queues) (three ∙ two) ∙ (x.register_leaves v1.set v1.lists
        ∙ (ap (λ (y : SlotLists). y.queues) one ∙ (ap (λ y. (fold (lists_step w2.set) w2.lists (facts_in (items_of (packet y b.who (body.View b.version (b.who ∷ [])) (new_node b.set b.behaviour b.who))))).queues) lists_are
        ∙ (x.view_leaves w2.set w2.lists ∙ ap (λ (y : SlotLists). y.queues) lists_are))))

-- Node 1 comes up.

pub record ComesUp (c : Script) (w v : World) : Type 0 where
  pub is_by : IsBy (next_one w) (length w.wire) 0 v (new_node (setting c) w.behaviour (next_one w)) (own_packet (base_of c w) (body.View (w.version + 1) (next_one w ∷ [])) ∷ [])
  pub known : Known c v
  pub lists_are : v.lists ≡ w.lists

pub comes_up : Rests → (c : Script) (w : World) → IsEmpty c w → Goes (ComesUp c w) w (length w.wire) 1 0 (come_up 1 w)
comes_up laws c w e = subst (Goes (ComesUp c w) w (length w.wire) 1 0) (sym (then_goes (tell (fact.Up x ∷ []) w) views e.not_full)) (subst (λ ms. Goes (ComesUp c w) w (length w.wire) 1 0 (record { facts = fact.Up x ∷ input_facts w1 (map (λ y. item.Post (view ms y)) ms); world = fold world_after w1 (input_facts w1 (map (λ y. item.Post (view ms y)) ms)) })) (sym members1) (by (nat_lt w.limit (length w.wire + 1)) refl))
  where
    x : Incarnation
    x = next_one w

    w1 : World
    w1 = world_after w (fact.Up x)

    view : List Incarnation → Incarnation → Packet
    view ms y = record { from = y; to = y; body = body.View (w.version + 1) ms }

    p : Packet
    p = view (x ∷ []) x

    members1 : w1.members ≡ x ∷ []
    members1 = ap (λ ms. ms ++ x ∷ []) e.members_are

    facts_of : Bool → Bool → List Fact
    facts_of fits full = ((if fits then fact.Sent (length w.wire + 1) p ∷ [] else []) ++ []) ++ (if full then fact.WireFull ∷ [] else [])

    fits : nat_lt w.limit (length w.wire + 1) ≡ false → nat_lt (length w.wire) w.limit ≡ true
    fits h = room w.limit (length w.wire) (not_below w.limit (length w.wire + 1) h)
      where
        room : (m n : ℕ) → n + 1 ≤ m → nat_lt n m ≡ true
        room m n h = grind (arith, h)

    v : World
    v = world_after w1 (fact.Sent (length w.wire + 1) p)

    st : Node
    st = new_node (setting c) w.behaviour x

    less : 0 < length w.nodes
    less = there c.config.nodes (length w.nodes) (and_both (nat_le 1 1) (nat_le 1 c.config.nodes) (first_node c e.known.script_is)).1 e.nodes_there
      where
        there : (n m : ℕ) → nat_le 1 n ≡ true → m ≡ n → 0 < m
        there n m h g = above m (subst (λ k. nat_le 1 k ≡ true) (sym g) h)
          where
            above : (m : ℕ) → nat_le 1 m ≡ true → 0 < m
            above m h = grind (arith, nat_tests, h)

    none_first : at w.nodes 0 ≡ None
    none_first = by_first (at w.nodes 0) refl
      where
        by_first : (o : Option Node) → at w.nodes 0 ≡ o → at w.nodes 0 ≡ None
        by_first None g = g
        by_first (Some y) g = absurd (e.none_up 0 y g)

    nodes_is : v.nodes ≡ slice_set w.nodes 0 (Some st)
    nodes_is = ap (λ y. slice_set w.nodes 0 (Some (new_node y w.behaviour x))) e.known.set_is

    comes : ComesUp c w v
    comes = record {
      is_by = record {
        node_is = refl;
        is_up = ap (λ ns. at ns 0) nodes_is ∙ placed_at w.nodes 0 (Some st) less;
        others = λ k other g. by_place (k ≡ 0) k 0 (λ same. same) (λ ne. absurd (e.none_up k other (sym (placed_beside w.nodes 0 k (Some st) ne) ∙ (ap (λ ns. at ns k) (sym nodes_is) ∙ g))));
        who_is = refl;
        members_are = members1;
        not_full = e.not_full;
        past_is = e.past_is;
        wire_is = length-append w.wire (p ∷ []) ∙ none (length w.wire);
        waiting = (length w.wire + 1) ∷ [];
        waiting_is = filter-append (nat_lt (length w.wire)) w.fresh ((length w.wire + 1) ∷ []) ∙ (ap (λ l. l ++ filter (nat_lt (length w.wire)) ((length w.wire + 1) ∷ [])) e.fresh_is ∙ new_stay (length w.wire) (length w.wire + 1) 1 (next (length w.wire)));
        rising = (next (length w.wire), tt);
        posted = posted_next (p ∷ []) w.wire;
      };
      known = record {
        trace = e.known.trace;
        script_is = e.known.script_is;
        set_is = e.known.set_is;
        sends_are = e.known.sends_are;
        lists_are = e.known.lists_are;
        cluster = subst (IsCluster c e.known.trace) (sym (nodes_is ∙ ap (λ n. slice_set w.nodes 0 (Some (new_node (setting c) n x))) e.behaviour_is))
            (laws.gains c e.known.trace w.nodes 0 x (first_node c e.known.script_is) refl less none_first e.quiet (ap (is_version c) (sym e.behaviour_is) ∙ e.admitted) e.known.cluster);
      };
      lists_are = refl;
    }
      where
        none : (n : ℕ) → n + 1 ≡ n + 0 + 1
        none n = omega arith

        next : (n : ℕ) → n < n + 1
        next n = omega arith

    by : (t : Bool) → nat_lt w.limit (length w.wire + 1) ≡ t → Goes (ComesUp c w) w (length w.wire) 1 0 (record { facts = fact.Up x ∷ facts_of (nat_lt (length w.wire) w.limit) (nat_lt w.limit (length w.wire + 1)); world = fold world_after w1 (facts_of (nat_lt (length w.wire) w.limit) (nat_lt w.limit (length w.wire + 1))) })
    by true h = subst (λ t. Goes (ComesUp c w) w (length w.wire) 1 0 (record { facts = fact.Up x ∷ facts_of (nat_lt (length w.wire) w.limit) t; world = fold world_after w1 (facts_of (nat_lt (length w.wire) w.limit) t) })) (sym h) (full (nat_lt (length w.wire) w.limit))
      where
        over_is : w.limit < length w.wire + 1
        over_is = below w.limit (length w.wire + 1) h

        full : (s : Bool) → Goes (ComesUp c w) w (length w.wire) 1 0 (record { facts = fact.Up x ∷ facts_of s true; world = fold world_after w1 (facts_of s true) })
        full true = inl (record { full = refl; counted = omega arith; unsettled = refl; over = over_is })
        full false = inl (record { full = refl; counted = omega arith; unsettled = refl; over = over_is })
    by false h = subst (λ t. Goes (ComesUp c w) w (length w.wire) 1 0 (record { facts = fact.Up x ∷ facts_of (nat_lt (length w.wire) w.limit) t; world = fold world_after w1 (facts_of (nat_lt (length w.wire) w.limit) t) })) (sym h)
        (subst (λ s. Goes (ComesUp c w) w (length w.wire) 1 0 (record { facts = fact.Up x ∷ facts_of s false; world = fold world_after w1 (facts_of s false) })) (sym (fits h)) (inr (record { so_far = comes; counted = refl; unsettled = refl; limit_is = refl; ordered_is = refl; longer = longer_none w.lists })))
