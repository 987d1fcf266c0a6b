-- An input at a node that is up by itself, as the world tells it: either the wire is full then, or the node goes on.
use Rattle.std.proofs.Common.{ap₂, ◌≡◌, ◌<◌, ◌≤◌, ◌⊎◌, inl, inr, ℕ, ◌+◌, ◌-◌, List, [], ◌∷◌, ◌++◌, length, sym, ap, subst, ◌∙◌, refl, true, false, true≢false, arith, length-append}
use Rattle.std.specs.Prelude.{Bool, ◌&&◌, ◌||◌, nat_lt, nat_le, filter, fold, Option, Some, None, is_none, slice_set, if◌then◌else◌}
use Rattle.std.specs.List.{list_all, list_any}
use Rattle.std.proofs.lemmas.List.Elements.{filter-append}
use Rattle.std.proofs.lemmas.List.Folds.{list_any-append}
use Rattle.std.proofs.lemmas.List.Sums.{fold-append}
use Rattle.yard_model.specs.declared.fact.Fact.{Fact}
use Rattle.yard_model.specs.declared.fact.Fact.TheVariants as fact
use Rattle.yard_model.specs.declared.input.Input.{Input}
use Rattle.yard_model.specs.declared.input.Input.TheVariants as input
use Rattle.yard_model.specs.declared.incarnation.Incarnation.{Incarnation}
use Rattle.yard_model.specs.declared.out.Item.{Item}
use Rattle.yard_model.specs.declared.out.Item.TheVariants as item
use Rattle.yard_model.specs.declared.packet.Body.{Body}
use Rattle.yard_model.specs.declared.packet.Body.TheVariants as body
use Rattle.yard_model.specs.declared.packet.Packet.{Packet}
use Rattle.yard_model.specs.Entities.{Hosted}
use Rattle.yard_model.specs.Genuine.{is_node, is_genuine_body, is_genuine_packet}
use Rattle.yard_model.specs.Node.{Node, Act, after, items_of, turn}
use Rattle.yard_model.specs.Producer.{Producer}
use Rattle.yard_model.specs.Script.{Script, setting}
use Rattle.yard_model.specs.Setting.{shard_of}
use Rattle.yard_model.specs.SlotLists.{shard_list, queue_list}
use Rattle.yard_model.specs.SlotReads.{journal, position, queued}
use Rattle.yard_model.specs.Trace.{lists_step, lists_of}
use Rattle.yard_model.specs.Words.{at, numbers, is_same}
use Rattle.yard_model.specs.World.{World, Made, Step, tell, then_step, world_after, handle, input_facts, numbered, count_posts, all_sends}
use Rattle.plain_laws.proofs.Booleans.{and_both, not_below, below}
use Rattle.plain_laws.proofs.Lists.{inside, placed_at, placed_beside, by_place, all_join}
use Rattle.actor_laws.specs.RegionStands.{ShardsAreThere}
use Rattle.actor_laws.specs.Owes.{facts_in, is_own_post}
use Rattle.node_laws.specs.Cluster.{IsMember, IsCluster, ClusterTurns, ClusterGains, ClusterLoses}
use Rattle.node_laws.specs.NodeTurns.{MayTake, MayConfirm, Promised}
use Rattle.node_laws.specs.Traces.{recorded, RecordedStays, TurnIsGuarded, TurnGoesOn}
use Rattle.node_laws.proofs.NodeParts.{who_stays}
use Rattle.play_laws.specs.TurnItems.{is_turn_fact, is_turn_item}
use Rattle.play_laws.proofs.Handled.{lists_on}
use Rattle.play_laws.proofs.Tells.{turn_tells, is_no_fail}
use Rattle.settle_laws.specs.Alone as alone
use Rattle.settle_laws.specs.Alone.{Base, Alone, node_with, wire_after, is_entered, producer_at, queued_by, list_in, IsOwn, IsPosted, AreBounded, Stands, none_later, load}
use Rattle.settle_laws.specs.Inputs.{posts_in, HandedOn}
use Rattle.settle_laws.specs.Lonely.{ArePosted, IsBy, Known, IsLonely, is_got, deliveries_in, is_settled_fact, IsLonger, IsFull, Comes, Outcome}
use Rattle.settle_laws.specs.Produced.{Leads}
use Rattle.settle_laws.specs.Steps.{AllQueued, Agrees}
use Rattle.settle_laws.proofs.Agree.{lists_agree}
use Rattle.settle_laws.proofs.Counts.{SendingsSame}
use Rattle.settle_laws.proofs.Longer.{longer_none, longer_both, facts_longer}
use Rattle.settle_laws.proofs.Loads.{count_is, load_least}
use Rattle.settle_laws.proofs.Lonely.{posted_join, rising_join, new_stay}
use Rattle.settle_laws.proofs.Told.{inputs_hand_on, same_posts}

-- what is known of nodes by themselves, and of all together
pub record Rests : Type 0 where
  pub turns : ClusterTurns
  pub guards : TurnIsGuarded
  pub stays : RecordedStays
  pub sendings : SendingsSame
  pub gains : ClusterGains
  pub loses : ClusterLoses
  pub there : ShardsAreThere

-- Facts that an input doesn't tell.

none_numbered : (q : Fact → Bool) → ((f : Fact) → is_turn_fact f ≡ true → q f ≡ false) → ((k : ℕ) (p : Packet) → q (fact.Sent k p) ≡ false) → (limit k : ℕ) (is : List Item) → list_all is_turn_item is ≡ true → list_any q (numbered limit k is) ≡ false
none_numbered q none sent limit k [] tells = refl
none_numbered q none sent limit k (item.Fact f ∷ is) tells =
    let m : (is_turn_fact f ≡ true) × (list_all is_turn_item is ≡ true) = and_both (is_turn_fact f) (list_all is_turn_item is) tells in
    ap (λ t. t || list_any q (numbered limit k is)) (none f m.0) ∙ none_numbered q none sent limit k is m.1
none_numbered q none sent limit k (item.Post p ∷ is) tells = by (nat_lt k limit) (none_numbered q none sent limit (k + 1) is (and_both (is_turn_item (item.Post p)) (list_all is_turn_item is) tells).1)
  where
    by : (t : Bool) → list_any q (numbered limit (k + 1) is) ≡ false → list_any q ((if t then fact.Sent (k + 1) p ∷ [] else []) ++ numbered limit (k + 1) is) ≡ false
    by true h = ap (λ t. t || list_any q (numbered limit (k + 1) is)) (sent (k + 1) p) ∙ h
    by false h = h

pub none_both : (q : Fact → Bool) (xs ys : List Fact) → list_any q xs ≡ false → list_any q ys ≡ false → list_any q (xs ++ ys) ≡ false
none_both q xs ys f g = list_any-append q xs ys ∙ (ap (λ t. t || list_any q ys) f ∙ g)

none_input : (q : Fact → Bool) → ((f : Fact) → is_turn_fact f ≡ true → q f ≡ false) → ((k : ℕ) (p : Packet) → q (fact.Sent k p) ≡ false) → q fact.WireFull ≡ false → (w : World) (is : List Item) → list_all is_turn_item is ≡ true → list_any q (input_facts w is) ≡ false
none_input q none sent full w is tells = none_both q (numbered w.limit (length w.wire) is) _ (none_numbered q none sent w.limit (length w.wire) is tells) (by (nat_lt w.limit (fold count_posts (length w.wire) is)))
  where
    by : (t : Bool) → list_any q (if t then fact.WireFull ∷ [] else []) ≡ false
    by true = ap (λ t. t || false) full
    by false = refl

pub none_counted : (q : Fact → Bool) (fs : List Fact) → list_any q fs ≡ false → length (filter q fs) ≡ 0
none_counted q [] h = refl
none_counted q (f ∷ fs) h = by (q f) h (none_counted q fs)
  where
    by : (t : Bool) → (t || list_any q fs) ≡ false → (list_any q fs ≡ false → length (filter q fs) ≡ 0) → length (if t then f ∷ filter q fs else filter q fs) ≡ 0
    by true h rest = absurd (true≢false h)
    by false h rest = rest h

no_got : (f : Fact) → is_turn_fact f ≡ true → is_got f ≡ false
no_got (fact.Got k) h = absurd (true≢false (sym h))
no_got f h = refl

no_settled : (f : Fact) → is_turn_fact f ≡ true → is_settled_fact f ≡ false
no_settled fact.Settled h = absurd (true≢false (sym h))
no_settled f h = refl

pub deliveries_both : (xs ys : List Fact) → deliveries_in (xs ++ ys) ≡ deliveries_in xs + deliveries_in ys
deliveries_both xs ys = ap length (filter-append is_got xs ys) ∙ length-append (filter is_got xs) (filter is_got ys)

-- What is known goes on.

posts_genuine : (c : Script) (who : Incarnation) (is : List Item) → list_all (is_own_post c who) is ≡ true → list_all (is_genuine_packet c) (posts_in is) ≡ true
posts_genuine c who [] h = refl
posts_genuine c who (item.Fact f ∷ is) h = posts_genuine c who is h
posts_genuine c who (item.Post p ∷ is) h =
    let m : (is_own_post c who (item.Post p) ≡ true) × (list_all (is_own_post c who) is ≡ true) = and_both (is_own_post c who (item.Post p)) (list_all (is_own_post c who) is) h in
    all_join (is_genuine_packet c) (p ∷ []) (posts_in is) (ap (λ t. t && true) (and_both (is_same p.from who) (is_genuine_packet c p) m.0).1) (posts_genuine c who is m.1)

pub record KnownOn (c : Script) (acts : List Act) (v : World) : Type 0 where
  pub known : Known c v
  pub genuine : list_all (is_genuine_packet c) (posts_in (items_of acts)) ≡ true

known_on : Rests → (c : Script) (w v : World) (st : Node) (i : Input) (k : Known c w) → at w.nodes 0 ≡ Some st → MayTake c (recorded c k.trace) st i → HandedOn w st (turn w.sends w.lists i st) v → KnownOn c (turn w.sends w.lists i st) v
known_on laws c w v st i k up may h = record {
  known = record {
    trace = k.trace ++ fs;
    script_is = k.script_is;
    set_is = h.set_is ∙ k.set_is;
    sends_are = h.sends_are ∙ k.sends_are;
    lists_are = h.lists_are ∙ (ap₂ (λ x l. fold (lists_step x) l fs) k.set_is k.lists_are ∙ lists_on c k.trace fs);
    cluster = subst (IsCluster c (k.trace ++ fs)) (sym nodes_is) (subst (λ l. IsCluster c (k.trace ++ facts_in (items_of l)) (slice_set w.nodes 0 (Some (fold after st l)))) (sym acts_are) (laws.turns c k.trace w.nodes 0 st i k.script_is k.cluster up may));
  };
  genuine = subst (λ l. list_all (is_genuine_packet c) (posts_in (items_of l)) ≡ true) (sym acts_are) (posts_genuine c st.who (items_of (turn (all_sends c) (lists_of (setting c) k.trace) i st)) go.posts_are);
}
  where
    fs : List Fact
    fs = facts_in (items_of (turn w.sends w.lists i st))

    acts_are : turn w.sends w.lists i st ≡ turn (all_sends c) (lists_of (setting c) k.trace) i st
    acts_are = ap₂ (λ x l. turn x l i st) k.sends_are k.lists_are

    me : IsMember c k.trace 0 st
    me = k.cluster.members 0 st up

    go : TurnGoesOn c k.trace (recorded c k.trace) me.hand st (turn (all_sends c) (lists_of (setting c) k.trace) i st)
    go = laws.guards c k.trace (recorded c k.trace) me.hand st i k.script_is me.sound me.viewed may k.cluster.guarded_are (laws.stays c k.trace) me.has.of_trace me.has.holds

    place : (fold after st (turn w.sends w.lists i st)).who.node - 1 ≡ 0
    place = ap (λ (x : Incarnation). x.node - 1) (who_stays st (turn w.sends w.lists i st)) ∙ ap (λ n. n - 1) me.node_is

    nodes_is : v.nodes ≡ slice_set w.nodes 0 (Some (fold after st (turn w.sends w.lists i st)))
    nodes_is = h.nodes_are ∙ ap (λ n. slice_set w.nodes n (Some (fold after st (turn w.sends w.lists i st)))) place

-- An input.

pub record HandsOn (c : Script) (who : Incarnation) (from done : ℕ) (w : World) (st : Node) (acts : List Act) (wire : List Packet) (m : Made) : Type 0 where
  pub is_by : IsBy who from done m.world (fold after st acts) (fold wire_after wire acts)
  pub known : Known c m.world
  pub genuine : list_all (is_genuine_packet c) (posts_in (items_of acts)) ≡ true
  pub limit_is : m.world.limit ≡ w.limit
  pub ordered_is : m.world.ordered ≡ w.ordered
  pub lists_are : m.world.lists ≡ fold (lists_step w.set) w.lists (facts_in (items_of acts))
  pub none_got : deliveries_in m.facts ≡ 0
  pub unsettled : list_any is_settled_fact m.facts ≡ false

-- a post past the limit fills the wire
pub fills : (w : World) (is : List Item) → nat_lt w.limit (fold count_posts (length w.wire) is) ≡ true → (fold world_after w (input_facts w is)).full ≡ true
fills w is e = ap (λ (v : World). v.full) (fold-append world_after w (numbered w.limit (length w.wire) is) _) ∙ ap (λ t. (fold world_after (fold world_after w (numbered w.limit (length w.wire) is)) (if t then fact.WireFull ∷ [] else [])).full) e

pub input_goes : Rests → (c : Script) (who : Incarnation) (from done : ℕ) (w : World) (st : Node) (wire : List Packet) (i : Input) → IsBy who from done w st wire → (k : Known c w) → MayTake c (recorded c k.trace) st i → is_no_fail i ≡ true
    → IsFull w.limit (from + done) (length wire + length (posts_in (items_of (turn w.sends w.lists i st)))) (handle i st w) ⊎ HandsOn c who from done w st (turn w.sends w.lists i st) wire (handle i st w)
input_goes laws c who from done w st wire i l k may fails = by (nat_lt w.limit (fold count_posts (length w.wire) (items_of acts))) refl
  where
    acts : List Act
    acts = turn w.sends w.lists i st

    more : List Packet
    more = posts_in (items_of acts)

    tells : list_all is_turn_item (items_of acts) ≡ true
    tells = turn_tells w.sends w.lists i st fails

    none_got : deliveries_in (input_facts w (items_of acts)) ≡ 0
    none_got = none_counted is_got (input_facts w (items_of acts)) (none_input is_got no_got (λ k p. refl) refl w (items_of acts) tells)

    unsettled : list_any is_settled_fact (input_facts w (items_of acts)) ≡ false
    unsettled = none_input is_settled_fact no_settled (λ k p. refl) refl w (items_of acts) tells

    posted : fold count_posts (length w.wire) (items_of acts) ≡ from + done + length wire + length more
    posted = count_is (items_of acts) (length w.wire) ∙ ap (λ n. n + length more) l.wire_is

    least : (d n : ℕ) → d ≡ 0 → d ≤ n
    least d n e = omega (arith, e)

    overs : (x m f d a b : ℕ) → x < m → m ≡ f + d + a + b → x < f + d + (a + b)
    overs x m f d a b h e = omega (arith, h, e)

    by : (t : Bool) → nat_lt w.limit (fold count_posts (length w.wire) (items_of acts)) ≡ t → IsFull w.limit (from + done) (length wire + length more) (handle i st w) ⊎ HandsOn c who from done w st acts wire (handle i st w)
    by true e = inl (record {
      full = fills w (items_of acts) e;
      counted = least _ (length wire + length more) none_got;
      unsettled = unsettled;
      over = overs w.limit _ from done (length wire) (length more) (below w.limit (fold count_posts (length w.wire) (items_of acts)) e) posted;
    })
    by false e = inr (record {
      is_by = record {
        node_is = l.node_is;
        is_up = ap (λ ns. at ns 0) h.nodes_are ∙ (ap (λ n. at (slice_set w.nodes n (Some now)) 0) place ∙ placed_at w.nodes 0 (Some now) (inside w.nodes 0 st l.is_up));
        others = λ j other e. by_place (j ≡ 0) j 0 (λ same. same) (λ ne. l.others j other (sym (placed_beside w.nodes 0 j (Some now) ne) ∙ (ap (λ n. at (slice_set w.nodes n (Some now)) j) (sym place) ∙ (ap (λ ns. at ns j) (sym h.nodes_are) ∙ e))));
        who_is = who_stays st acts ∙ l.who_is;
        members_are = h.members_are ∙ l.members_are;
        not_full = h.full_is ∙ l.not_full;
        past_is = subst (λ n. n ≤ from) (sym h.past_is) l.past_is;
        wire_is = ap length h.wire_is ∙ (length-append w.wire more ∙ (ap (λ n. n + length more) l.wire_is ∙ (joined (from + done) (length wire) (length more) ∙ ap (λ n. from + done + n) (sym (ap length (same_posts acts wire) ∙ length-append wire more)))));
        waiting = l.waiting ++ numbers (length w.wire + 1) (length more);
        waiting_is = ap (filter (nat_lt from)) h.fresh_is ∙ (filter-append (nat_lt from) w.fresh (numbers (length w.wire + 1) (length more)) ∙ ap₂ (λ x y. x ++ y) l.waiting_is (new_stay from (length w.wire + 1) (length more) past));
        rising = rising_join w.wire (length more) from l.waiting wire l.posted begun l.rising;
        posted = subst (λ ws. ArePosted ws (l.waiting ++ numbers (length w.wire + 1) (length more)) (fold wire_after wire acts)) (sym h.wire_is) (subst (ArePosted (w.wire ++ more) (l.waiting ++ numbers (length w.wire + 1) (length more))) (sym (same_posts acts wire)) (posted_join w.wire more l.waiting wire l.posted));
      };
      known = next.known;
      genuine = next.genuine;
      limit_is = h.limit_is;
      ordered_is = h.ordered_is;
      lists_are = h.lists_are;
      none_got = none_got;
      unsettled = unsettled;
    })
      where
        now : Node
        now = fold after st acts

        h : HandedOn w st acts (handle i st w).world
        h = inputs_hand_on w st i tells (not_below w.limit (fold count_posts (length w.wire) (items_of acts)) e)

        next : KnownOn c acts (handle i st w).world
        next = known_on laws c w (handle i st w).world st i k l.is_up may h

        place : now.who.node - 1 ≡ 0
        place = ap (λ (x : Incarnation). x.node - 1) (who_stays st acts ∙ l.who_is) ∙ ap (λ n. n - 1) l.node_is

        joined : (f a b : ℕ) → f + a + b ≡ f + (a + b)
        joined f a b = omega arith

        begun : from ≤ length w.wire
        begun = begins from done (length wire) (length w.wire) l.wire_is
          where
            begins : (f d a n : ℕ) → n ≡ f + d + a → f ≤ n
            begins f d a n e = omega (arith, e)

        past : from < length w.wire + 1
        past = passes from (length w.wire) begun
          where
            passes : (f n : ℕ) → f ≤ n → f < n + 1
            passes f n h = omega (arith, h)

-- What a node by itself may take.

-- the lists of the world are those that the node reads
pub recorded_is : (c : Script) (b : Base) (w : World) (z : Alone) (k : Known c w) → at w.nodes 0 ≡ Some (node_with b z) → Agrees b z w.lists → (p : ℕ) (e : List ℕ) → alone.recorded b z.hosted p e ≡ position p (journal e (shard_list w.lists (shard_of b.set e)))
recorded_is c b w z k up agrees p e = ap (λ l. position p (journal e l)) (by (at z.hosted (shard_of b.set e)) refl)
  where
    me : IsMember c k.trace 0 (node_with b z)
    me = k.cluster.members 0 (node_with b z) up

    by : (o : Option Hosted) → at z.hosted (shard_of b.set e) ≡ o → list_in (shard_list b.lists (shard_of b.set e)) (at z.hosted (shard_of b.set e)) ≡ shard_list w.lists (shard_of b.set e)
    by None is = ap (list_in (shard_list b.lists (shard_of b.set e))) is ∙ sym (agrees (shard_of b.set e) (ap is_none is))
    by (Some x) is = ap (list_in (shard_list b.lists (shard_of b.set e))) is ∙ sym (ap (λ l. shard_list l (shard_of b.set e)) (k.lists_are ∙ sym me.has.of_trace.lists_are) ∙ me.has.holds.entities.lists_are (shard_of b.set e) x is)

pub queue_is : (c : Script) (w : World) (st : Node) (k : Known c w) → at w.nodes 0 ≡ Some st → (p : ℕ) (j : Producer) → 0 < p → at st.producers (p - 1) ≡ Some j → queue_list w.lists p ≡ j.entries
queue_is c w st k up p j above is =
    let me : IsMember c k.trace 0 st = k.cluster.members 0 st up in
    ap (λ l. queue_list l p) (k.lists_are ∙ sym me.has.of_trace.lists_are) ∙ me.has.holds.producers p j above is

may_confirm : (c : Script) (b : Base) (w : World) (z : Alone) (k : Known c w) → b.set ≡ setting c → at w.nodes 0 ≡ Some (node_with b z) → Agrees b z w.lists → Stands b none_later z → AllQueued b z → (p : ℕ) (e : List ℕ) (n : ℕ) → 0 < p → n ≤ alone.recorded b z.hosted p e → MayConfirm (recorded c k.trace) (node_with b z) p e n
may_confirm c b w z k base up agrees s all p e n above less j is = (
  most n (alone.recorded b z.hosted p e) (b.made p e) (queued e j.entries) less (s.bounded p e above).3 (sym (all p e above) ∙ ap (queued_by e) is),
  at_most n _ (subst (λ m. n ≤ m) (recorded_is c b w z k up agrees p e ∙ ap₂ (λ x l. position p (journal e (shard_list l (shard_of x e)))) base k.lists_are) less),
)
  where
    most : (a r m q : ℕ) → a ≤ r → r ≤ m → m ≡ q → a ≤ q
    most a r m q h g e = omega (arith, h, g, e)

    at_most : (a r : ℕ) → a ≤ r → nat_le a r ≡ true
    at_most a r h = grind (arith, h)

promised : (c : Script) (b : Base) (w : World) (z : Alone) (k : Known c w) → b.set ≡ setting c → at w.nodes 0 ≡ Some (node_with b z) → Agrees b z w.lists → Stands b none_later z → AllQueued b z → (x : Body) → IsPosted b z.hosted z.cells x → Promised (recorded c k.trace) (node_with b z) x
promised c b w z k base up agrees s all (body.View v xs) own = absurd own
promised c b w z k base up agrees s all (body.Ack p e n) own = may_confirm c b w z k base up agrees s all p e n own.0 own.3
promised c b w z k base up agrees s all (body.Request p e n u) own = may_confirm c b w z k base up agrees s all p e n own.0 own.3
promised c b w z k base up agrees s all x own = tt

pub may_packet : (c : Script) (b : Base) (w : World) (z : Alone) (k : Known c w) → b.set ≡ setting c → at w.nodes 0 ≡ Some (node_with b z) → Agrees b z w.lists → Stands b none_later z → AllQueued b z → (p : Packet) → is_genuine_packet c p ≡ true → IsOwn b z.hosted z.cells p
    → MayTake c (recorded c k.trace) (node_with b z) (input.Packet p)
may_packet c b w z k base up agrees s all p genuine own =
    let m : ((is_node c p.from && is_node c p.to) ≡ true) × (is_genuine_body c p.body ≡ true) = and_both (is_node c p.from && is_node c p.to) (is_genuine_body c p.body) genuine in
    record { from_is = (and_both (is_node c p.from) (is_node c p.to) m.0).0; genuine = m.1; promised = promised c b w z k base up agrees s all p.body own.2 }

-- An input of a node by itself.

pub record Raw (c : Script) (b : Base) (from done : ℕ) (w : World) (acts : List Act) (to : Alone) (m : Made) : Type 0 where
  pub lonely : IsLonely c b from done m.world to
  pub limit_is : m.world.limit ≡ w.limit
  pub ordered_is : m.world.ordered ≡ w.ordered
  pub lists_are : m.world.lists ≡ fold (lists_step w.set) w.lists (facts_in (items_of acts))
  pub none_got : deliveries_in m.facts ≡ 0
  pub unsettled : list_any is_settled_fact m.facts ≡ false

pub raw_input : Rests → (c : Script) (b : Base) (from done : ℕ) (w : World) (z to : Alone) (i : Input) (l : IsLonely c b from done w z) → MayTake c (recorded c l.known.trace) (node_with b z) i → is_no_fail i ≡ true
    → fold after (node_with b z) (turn w.sends w.lists i (node_with b z)) ≡ node_with b to → fold wire_after z.wire (turn w.sends w.lists i (node_with b z)) ≡ to.wire
    → ((s : ℕ) → is_none (at z.hosted s) ≡ false → is_none (at to.hosted s) ≡ false) → list_all (is_entered b to.hosted) (turn w.sends w.lists i (node_with b z)) ≡ true
    → IsFull w.limit (from + done) (length to.wire) (handle i (node_with b z) w) ⊎ Raw c b from done w (turn w.sends w.lists i (node_with b z)) to (handle i (node_with b z) w)
raw_input laws c b from done w z to i l may fails node_is wire_is hosts entered = by (input_goes laws c b.who from done w (node_with b z) z.wire i l.is_by l.known may fails)
  where
    acts : List Act
    acts = turn w.sends w.lists i (node_with b z)

    m : Made
    m = handle i (node_with b z) w

    joined : to.wire ≡ z.wire ++ posts_in (items_of acts)
    joined = sym wire_is ∙ same_posts acts z.wire

    by : IsFull w.limit (from + done) (length z.wire + length (posts_in (items_of acts))) m ⊎ HandsOn c b.who from done w (node_with b z) acts z.wire m → IsFull w.limit (from + done) (length to.wire) m ⊎ Raw c b from done w acts to m
    by (inl f) = inl (subst (λ n. IsFull w.limit (from + done) n m) (sym (ap length joined ∙ length-append z.wire (posts_in (items_of acts)))) f)
    by (inr h) = inr (record {
      lonely = record {
        is_by = subst (λ n. IsBy b.who from done m.world n to.wire) node_is (subst (IsBy b.who from done m.world (fold after (node_with b z) acts)) wire_is h.is_by);
        base_is = l.base_is;
        ordered_is = h.ordered_is ∙ l.ordered_is;
        known = h.known;
        genuine = subst (λ x. list_all (is_genuine_packet c) x ≡ true) (sym joined) (all_join (is_genuine_packet c) z.wire (posts_in (items_of acts)) l.genuine h.genuine);
        agrees = subst (Agrees b to) (sym (h.lists_are ∙ ap (λ x. fold (lists_step x) w.lists (facts_in (items_of acts))) (l.known.set_is ∙ sym l.base_is))) (lists_agree b z to w.lists acts l.agrees hosts entered);
      };
      limit_is = h.limit_is;
      ordered_is = h.ordered_is;
      lists_are = h.lists_are;
      none_got = h.none_got;
      unsettled = h.unsettled;
    })

-- acts that lead somewhere at a cost
pub comes_leads : Rests → (c : Script) (b : Base) (from done : ℕ) (w : World) (z : Alone) (cost : ℕ) (known : Alone → Type 0) (also : Alone → World → Type 0) (i : Input) (l : IsLonely c b from done w z) → MayTake c (recorded c l.known.trace) (node_with b z) i → is_no_fail i ≡ true
    → Leads b cost known z (turn w.sends w.lists i (node_with b z)) → ((to : Alone) (v : World) → IsLonely c b from done v to → known to → v.lists ≡ fold (lists_step w.set) w.lists (facts_in (items_of (turn w.sends w.lists i (node_with b z)))) → also to v)
    → Outcome c b from done w z cost also (handle i (node_with b z) w)
comes_leads laws c b from done w z cost known also i l may fails g then_also = by (raw_input laws c b from done w z g.to i l may fails g.node_is g.wire_is g.hosts_on g.entered)
  where
    m : Made
    m = handle i (node_with b z) w

    by : IsFull w.limit (from + done) (length g.to.wire) m ⊎ Raw c b from done w (turn w.sends w.lists i (node_with b z)) g.to m → Outcome c b from done w z cost also m
    by (inl f) = inl (record { full = f.full; counted = less (deliveries_in m.facts) (length g.to.wire) (load b g.to) (load b z + cost) f.counted (load_least b g.to) g.costs; unsettled = f.unsettled; over = past w.limit (from + done) (length g.to.wire) (load b g.to) (load b z + cost) f.over (load_least b g.to) g.costs })
      where
        less : (d a x y : ℕ) → d ≤ a → a ≤ x → x ≤ y → d ≤ y
        less d a x y h k j = omega (arith, h, k, j)

        past : (m f a x y : ℕ) → m < f + a → a ≤ x → x ≤ y → m < f + y
        past m f a x y h k j = omega (arith, h, k, j)
    by (inr r) = inr (record {
      to = g.to;
      lonely = subst (λ n. IsLonely c b from n m.world g.to) (still done (deliveries_in m.facts) r.none_got) r.lonely;
      stands = g.stands;
      counted = none (deliveries_in m.facts) (load b g.to) (load b z + cost) r.none_got g.costs;
      unsettled = r.unsettled;
      limit_is = r.limit_is;
      ordered_is = r.ordered_is;
      longer = subst (IsLonger w.lists) (sym r.lists_are) (facts_longer w.set (facts_in (items_of (turn w.sends w.lists i (node_with b z)))) w.lists);
      also_is = then_also g.to m.world r.lonely g.also_is r.lists_are;
    })
      where
        still : (d n : ℕ) → n ≡ 0 → d ≡ d + n
        still d n e = omega (arith, e)

        none : (d x y : ℕ) → d ≡ 0 → x ≤ y → d + x ≤ y
        none d x y e h = omega (arith, e, h)

-- Steps in turn.

pub then_stops : (m : Made) (q : Step) → m.world.full ≡ true → then_step m q ≡ m
then_stops m q e = ap (λ t. elim t as (λ b. Made) [ true ↦ m | false ↦ let n : Made = q m.world in record { facts = m.facts ++ n.facts; world = n.world } ]) e

abbrev pub joined : Made → Step → Made
joined m q = record { facts = m.facts ++ (q m.world).facts; world = (q m.world).world }

pub then_goes : (m : Made) (q : Step) → m.world.full ≡ false → then_step m q ≡ joined m q
then_goes m q e = ap (λ t. elim t as (λ b. Made) [ true ↦ m | false ↦ let n : Made = q m.world in record { facts = m.facts ++ n.facts; world = n.world } ]) e

pub then_comes : (c : Script) (b : Base) (from done : ℕ) (w : World) (z : Alone) (cost more : ℕ) (also then_also : Alone → World → Type 0) (m : Made) (q : Step) → Outcome c b from done w z cost also m
    → ((x : Comes c b from done w z cost also m) → Outcome c b from (done + deliveries_in m.facts) m.world x.to more then_also (q m.world)) → Outcome c b from done w z (cost + more) then_also (then_step m q)
then_comes c b from done w z cost more also then_also m q (inl f) rest = inl (subst (IsFull w.limit (from + done) (load b z + (cost + more))) (sym (then_stops m q f.full))
    (record { full = f.full; counted = less (deliveries_in m.facts) (load b z) cost more f.counted; unsettled = f.unsettled; over = past w.limit (from + done) (load b z) cost more f.over }))
  where
    less : (d x a n : ℕ) → d ≤ x + a → d ≤ x + (a + n)
    less d x a n h = omega (arith, h)

    past : (m f x a n : ℕ) → m < f + (x + a) → m < f + (x + (a + n))
    past m f x a n h = omega (arith, h)
then_comes c b from done w z cost more also then_also m q (inr x) rest = by (rest x)
  where
    n : Made
    n = q m.world

    counts : deliveries_in (m.facts ++ n.facts) ≡ deliveries_in m.facts + deliveries_in n.facts
    counts = deliveries_both m.facts n.facts

    less : (d x y a n e t : ℕ) → t ≡ d + e → d + y ≤ x + a → e ≤ y + n → t ≤ x + (a + n)
    less d x y a n e t g h k = omega (arith, g, h, k)

    past : (m v f done d x y a n : ℕ) → v ≡ m → v < f + (done + d) + (y + n) → d + y ≤ x + a → m < f + done + (x + (a + n))
    past m v f done d x y a n g h k = omega (arith, g, h, k)

    both : (d x y v a n e t : ℕ) → t ≡ d + e → d + y ≤ x + a → e + v ≤ y + n → t + v ≤ x + (a + n)
    both d x y v a n e t g h k = omega (arith, g, h, k)

    then_at : (k d e t : ℕ) → t ≡ d + e → k + d + e ≡ k + t
    then_at k d e t g = omega (arith, g)

    by : Outcome c b from (done + deliveries_in m.facts) m.world x.to more then_also n → Outcome c b from done w z (cost + more) then_also (then_step m q)
    by (inl f) = inl (subst (IsFull w.limit (from + done) (load b z + (cost + more))) (sym (then_goes m q x.lonely.is_by.not_full)) (record {
      full = f.full;
      counted = less (deliveries_in m.facts) (load b z) (load b x.to) cost more (deliveries_in n.facts) (deliveries_in (m.facts ++ n.facts)) counts x.counted f.counted;
      unsettled = none_both is_settled_fact m.facts n.facts x.unsettled f.unsettled;
      over = past w.limit m.world.limit from done (deliveries_in m.facts) (load b z) (load b x.to) cost more x.limit_is f.over x.counted;
    }))
    by (inr y) = inr (subst (Comes c b from done w z (cost + more) then_also) (sym (then_goes m q x.lonely.is_by.not_full)) (record {
      to = y.to;
      lonely = subst (λ k. IsLonely c b from k n.world y.to) (then_at done (deliveries_in m.facts) (deliveries_in n.facts) (deliveries_in (m.facts ++ n.facts)) counts) y.lonely;
      stands = y.stands;
      counted = both (deliveries_in m.facts) (load b z) (load b x.to) (load b y.to) cost more (deliveries_in n.facts) (deliveries_in (m.facts ++ n.facts)) counts x.counted y.counted;
      unsettled = none_both is_settled_fact m.facts n.facts x.unsettled y.unsettled;
      limit_is = y.limit_is ∙ x.limit_is;
      ordered_is = y.ordered_is ∙ x.ordered_is;
      longer = longer_both w.lists m.world.lists n.world.lists x.longer y.longer;
      also_is = y.also_is;
    }))

-- a cost may be greater, and more may be said
pub comes_also : (c : Script) (b : Base) (from done : ℕ) (w : World) (z : Alone) (cost more : ℕ) (also then_also : Alone → World → Type 0) (m : Made) → cost ≤ more → ((x : Comes c b from done w z cost also m) → then_also x.to m.world)
    → Outcome c b from done w z cost also m → Outcome c b from done w z more then_also m
comes_also c b from done w z cost more also then_also m less f (inl g) = inl (record { full = g.full; counted = up (deliveries_in m.facts) (load b z) cost more g.counted less; unsettled = g.unsettled; over = past w.limit (from + done) (load b z) cost more g.over less })
  where
    up : (d x a n : ℕ) → d ≤ x + a → a ≤ n → d ≤ x + n
    up d x a n h k = omega (arith, h, k)

    past : (m f x a n : ℕ) → m < f + (x + a) → a ≤ n → m < f + (x + n)
    past m f x a n h k = omega (arith, h, k)
comes_also c b from done w z cost more also then_also m less f (inr x) = inr (record { to = x.to; lonely = x.lonely; stands = x.stands; counted = up (deliveries_in m.facts + load b x.to) (load b z) cost more x.counted less; unsettled = x.unsettled; limit_is = x.limit_is; ordered_is = x.ordered_is; longer = x.longer; also_is = f x })
  where
    up : (d x a n : ℕ) → d ≤ x + a → a ≤ n → d ≤ x + n
    up d x a n h k = omega (arith, h, k)

-- nothing happens
pub comes_none : (c : Script) (b : Base) (from done : ℕ) (w : World) (z : Alone) (also : Alone → World → Type 0) → IsLonely c b from done w z → Stands b none_later z → also z w → Outcome c b from done w z 0 also (tell [] w)
comes_none c b from done w z also l s h = inr (record { to = z; lonely = subst (λ n. IsLonely c b from n w z) (still done) l; stands = s; counted = same (load b z); unsettled = refl; limit_is = refl; ordered_is = refl; longer = longer_none w.lists; also_is = h })
  where
    still : (n : ℕ) → n ≡ n + 0
    still n = omega arith

    same : (n : ℕ) → 0 + n ≤ n + 0
    same n = omega arith
