-- A packet is delivered: whatever it is, what stands of the node alone is kept, and its load falls.
use Rattle.std.proofs.Common.{◌≡◌, ◌≢◌, ◌<◌, ◌≤◌, ◌⊎◌, inl, inr, ℕ, ◌+◌, List, [], ◌∷◌, ◌++◌, length, map, sym, ap, subst, ◌∙◌, refl, true, false, true≢false, arith}
use Rattle.std.specs.Prelude.{Bool, ◌==◌, ◌||◌, ◌&&◌, not, fold, Option, Some, None, is_none, slice_index_or, slice_set, if◌then◌else◌}
use Rattle.std.specs.List.{list_any}
use Rattle.std.proofs.lemmas.List.Sums.{sum_by_push}
use Rattle.yard_model.specs.declared.fact.Fact.{Fact}
use Rattle.yard_model.specs.declared.fact.Fact.TheVariants as fact
use Rattle.yard_model.specs.declared.packet.Body.{Body}
use Rattle.yard_model.specs.declared.packet.Body.TheVariants as body
use Rattle.yard_model.specs.declared.packet.Packet.{Packet}
use Rattle.yard_model.specs.declared.incarnation.Incarnation.{Incarnation}
use Rattle.yard_model.specs.declared.input.Phase.TheVariants as phase
use Rattle.yard_model.specs.Entities.{cell_in, is_phase}
use Rattle.yard_model.specs.Move.{Move, told, post}
use Rattle.yard_model.specs.Node.{Node, Act, after}
use Rattle.yard_model.specs.Script.{is_name}
use Rattle.yard_model.specs.SlotLists.{shard_list}
use Rattle.yard_model.specs.Words.{at}
use Rattle.plain_laws.proofs.Booleans.{both, same_name, same_number, number_itself}
use Rattle.plain_laws.proofs.Lists.{by_place}
use Rattle.plain_laws.proofs.Names.{name_itself}
use Rattle.actor_laws.proofs.EntitiesMoves.{by_name}
use Rattle.settle_laws.specs.Alone.{Base, Alone, node_with, wire_after, is_home_at, recorded, confirmed_by, queued_by, sent_by, producer_at, is_active, Each, IsPosted, IsOwn, is_asking, is_recovering, is_requesting, is_acking, IsFast, Stands, weight, cells_load, wire_load, lefts, kept_load, total, load, More, Goes}
use Rattle.settle_laws.proofs.Records.{le_itself, le_then}
use Rattle.settle_laws.proofs.Tools.{each_last, any_kept, any_last, none_last, IsPaced, paced_more, goes_none, goes_also}
use Rattle.settle_laws.proofs.Deliver.{with_post, wire_sums, post_goes}
use Rattle.yard_model.specs.Words.{is_at, is_same}
use Rattle.yard_model.specs.Region as region
use Rattle.yard_model.specs.Region.{Region, kept_of, home}
use Rattle.yard_model.specs.Node.{by_region}
use Rattle.plain_laws.proofs.Members.{itself_is}
use Rattle.settle_laws.specs.Alone.{region_at}
use Rattle.yard_model.specs.Move.{demanded, pushed}
use Rattle.std.specs.List.{fold}
use Rattle.std.proofs.lemmas.List.Sums.{fold-append, sum_by-cons}
use Rattle.plain_laws.proofs.Lists.{inside, placed_at, placed_beside}
use Rattle.settle_laws.specs.Alone.{none_later}
use Rattle.yard_model.specs.Node.{Rule}
use Rattle.yard_model.specs.Turns.{in_turn, where_some}
use Rattle.settle_laws.proofs.Tools.{goes_turn}
use Rattle.yard_model.specs.Region.{no_stamp}
use Rattle.settle_laws.specs.Alone.{stamp_at}
use Rattle.settle_laws.proofs.Push.{goes_saved}
use Rattle.settle_laws.proofs.Queues.{goes_end}
use Rattle.std.specs.Prelude.{filter}
use Rattle.std.proofs.lemmas.List.{append_assoc}
use Rattle.yard_model.specs.SlotLists.{SlotLists}
use Rattle.yard_model.specs.SlotReads.{epoch}
use Rattle.yard_model.specs.Move.{took, marked, released}
use Rattle.yard_model.specs.Node.{release, start, of_region}
use Rattle.settle_laws.proofs.Recover.{Steady, zero_more}
use Rattle.yard_model.specs.Node.{all_in_turn, host_shard, shard_home}
use Rattle.settle_laws.proofs.Deliver.{post_goes}
use Rattle.settle_laws.proofs.Starts.{release_goes}
use Rattle.yard_model.specs.Node.{Rule, by_coordinator, packet}
use Rattle.yard_model.specs.Coordinator as coordinator
use Rattle.yard_model.specs.Coordinator.{Coordinator, Share, coordinator_after}
use Rattle.yard_model.specs.SlotReads.{regions, allocation, epoch_step}
use Rattle.yard_model.specs.Words.{is_among}
use Rattle.std.proofs.lemmas.List.Sums.{sum_by-cons}
use Rattle.plain_laws.proofs.Read.{regions_more}
use Rattle.actor_laws.proofs.CoordinatorReads.{allocation_more}
use Rattle.yard_model.specs.Move.{made}
use Rattle.yard_model.specs.Node.{move_of}
use Rattle.yard_model.specs.declared.out.Item.TheVariants as item
use Rattle.settle_laws.specs.Alone.{IsThird, asks_by, coordinator_at, wire_by}
use Rattle.settle_laws.specs.Steps.{AllQueued, Taken, Agrees}
use Rattle.settle_laws.proofs.Homes.{Learned, learn_start_goes, learn_acts, home_set}
use Rattle.settle_laws.proofs.Queues.{Answered, ack_goes, request_turn_goes}
use Rattle.settle_laws.proofs.Recover.{Recovers, recovered_goes}

-- A rule and a second, before the others.

pub goes_pair : (b : Base) (later1 later2 : ℕ → List ℕ → Type 0) (m n : ℕ) (also1 also2 : Alone → Type 0) (z : Alone) (p1 p2 q : Rule) → Goes b later1 m also1 z (in_turn after p1 p2 (node_with b z))
    → ((to : Alone) → Stands b later1 to → More b z to → also1 to → Goes b later2 n also2 to (q (node_with b to)))
    → Goes b later2 (m + n) also2 z (p1 (node_with b z) ++ (p2 (fold after (node_with b z) (p1 (node_with b z))) ++ q (fold after (fold after (node_with b z) (p1 (node_with b z))) (p2 (fold after (node_with b z) (p1 (node_with b z)))))))
goes_pair b later1 later2 m n also1 also2 z p1 p2 q g h =
    subst (Goes b later2 (m + n) also2 z) (append_assoc xs ys (q (fold after st (xs ++ ys))) ∙ ap (λ s. xs ++ (ys ++ q s)) (fold-append after st xs ys))
    (goes_turn b later1 later2 m n also1 also2 z (in_turn after p1 p2) q g h)
  where
    st : Node
    st = node_with b z

    xs : List Act
    xs = p1 st

    ys : List Act
    ys = p2 (fold after st xs)

-- HostShard.

pub host_shard_goes : (b : Base) (z : Alone) (lists : SlotLists) (s : ℕ) (from : Incarnation) → Stands b none_later z → s < b.set.config.shards → from ≡ b.who → (is_none (at z.hosted s) ≡ true → shard_list lists s ≡ shard_list b.lists s)
    → Goes b none_later 1 (Learned b z s) z (host_shard lists s (stamp_at b) from (node_with b z))
host_shard_goes b z lists s from i less by_who agree = subst (λ t. Goes b none_later 1 (Learned b z s) z (if not t then all_in_turn rules st else [])) (sym (i.marks s))
    (goes_pair b none_later none_later 0 1 (Learned b z s) (Learned b z s) z (of_region (region.learn s b.who (stamp_at b))) (start lists s) (all_in_turn (tells ∷ release s ∷ [])) (learn_start_goes b none_later z lists s i less agree)
    (λ mid t more l. goes_turn b none_later none_later 1 0 (λ to. to ≡ with_post mid (packet_of mid)) (Learned b z s) mid tells (all_in_turn (release s ∷ []))
    (post_goes b none_later (λ to. to ≡ with_post mid (packet_of mid)) mid (packet_of mid) (by_region (post b.who from (body.ShardStarted s))) t (refl, by_who, tt) (λ q f. refl) refl refl refl refl)
    (λ mid2 t2 more2 same. goes_end b none_later 0 (Learned b z s) mid2 (release s (node_with b mid2)) (goes_also b none_later 0 0 (Steady mid2) (Learned b z s) mid2 _ (le_itself 0)
    (λ to u more3 x. learned_on mid mid2 to l same more3 x)
    (release_goes b none_later mid2 s t2 less)))))
  where
    st : Node
    st = node_with b z

    tells : Rule
    tells = of_region (λ r. post r.who from (body.ShardStarted s) ∷ [])

    rules : List Rule
    rules = of_region (region.learn s b.who (stamp_at b)) ∷ start lists s ∷ tells ∷ release s ∷ []

    packet_of : Alone → Packet
    packet_of mid = record { from = b.who; to = from; body = body.ShardStarted s }

    learned_on : (mid mid2 to : Alone) → Learned b z s mid → mid2 ≡ with_post mid (packet_of mid) → More b mid2 to → Steady mid2 to → Learned b z s to
    learned_on mid mid2 to l same more x = record {
      home_is = ap (λ h. is_home_at b h s) homes ∙ l.home_is;
      producers_are = x.producers_are ∙ (ap (λ (y : Alone). y.producers) same ∙ l.producers_are);
      asked_on = λ t h. on t (l.asked_on t h);
    }
      where
        homes : to.homes ≡ mid.homes
        homes = x.homes_are ∙ ap (λ (y : Alone). y.homes) same

        asked : to.asked ≡ mid.asked
        asked = x.asked_are ∙ ap (λ (y : Alone). y.asked) same

        on : (t : ℕ) → (is_home_at b mid.homes t ≡ true) ⊎ (slice_index_or mid.asked t false ≡ true) → (is_home_at b to.homes t ≡ true) ⊎ (slice_index_or to.asked t false ≡ true)
        on t (inl h) = inl (ap (λ l. is_home_at b l t) homes ∙ h)
        on t (inr h) = inr (ap (λ l. slice_index_or l t false) asked ∙ h)

-- ShardHome.

pub learn_home : (b : Base) (z : Alone) (s : ℕ) → Stands b none_later z → s < b.set.config.shards → region.is_home (fold after (node_with b z) (of_region (region.learn s b.who (stamp_at b)) (node_with b z))).region s ≡ true
learn_home b z s i less = by (is_home_at b z.homes s) refl
  where
    by : (t : Bool) → is_home_at b z.homes s ≡ t → region.is_home (fold after (node_with b z) (learn_acts b s (is_home_at b z.homes s))).region s ≡ true
    by true e = ap (λ t. region.is_home (fold after (node_with b z) (learn_acts b s t)).region s) e ∙ e
    by false e = ap (λ t. region.is_home (fold after (node_with b z) (learn_acts b s t)).region s) e ∙ home_set b none_later z s i less

pub shard_home_goes : (b : Base) (z : Alone) (lists : SlotLists) (s : ℕ) → Stands b none_later z → s < b.set.config.shards → (is_none (at z.hosted s) ≡ true → shard_list lists s ≡ shard_list b.lists s)
    → Goes b none_later 0 (Learned b z s) z (shard_home lists s b.who (stamp_at b) (node_with b z))
shard_home_goes b z lists s i less agree = subst (λ t. Goes b none_later 0 (Learned b z s) z (if t then all_in_turn rules st else [])) (sym takes)
    (subst (λ t. Goes b none_later 0 (Learned b z s) z (learns ++ ((if t then start lists s mid1 else []) ++ all_in_turn (release s ∷ []) (fold after mid1 (if t then start lists s mid1 else []))))) (sym (learn_home b z s i less))
    (goes_pair b none_later none_later 0 0 (Learned b z s) (Learned b z s) z (of_region (region.learn s b.who (stamp_at b))) (start lists s) (all_in_turn (release s ∷ [])) (learn_start_goes b none_later z lists s i less agree)
    (λ mid t more l. goes_end b none_later 0 (Learned b z s) mid (release s (node_with b mid)) (goes_also b none_later 0 0 (Steady mid) (Learned b z s) mid _ (le_itself 0)
    (λ to u more2 x. learned_on mid to l x)
    (release_goes b none_later mid s t less)))))
  where
    st : Node
    st = node_with b z

    learns : List Act
    learns = of_region (region.learn s b.who (stamp_at b)) st

    mid1 : Node
    mid1 = fold after st learns

    rules : List Rule
    rules = of_region (region.learn s b.who (stamp_at b)) ∷ (λ st. if region.is_home st.region s then start lists s st else []) ∷ release s ∷ []

    takes : region.takes_home s b.who (stamp_at b) (region_at b z) ≡ true
    takes = both _ _ (ap not (i.marks s)) (or_left (is_same b.who b.who) (itself_is b.who b.who refl))
      where
        or_left : (t : Bool) → t ≡ true → (t || false) ≡ true
        or_left true h = refl
        or_left false h = h

    learned_on : (mid to : Alone) → Learned b z s mid → Steady mid to → Learned b z s to
    learned_on mid to l x = record {
      home_is = ap (λ h. is_home_at b h s) x.homes_are ∙ l.home_is;
      producers_are = x.producers_are ∙ l.producers_are;
      asked_on = λ t h. on t (l.asked_on t h);
    }
      where
        on : (t : ℕ) → (is_home_at b mid.homes t ≡ true) ⊎ (slice_index_or mid.asked t false ≡ true) → (is_home_at b to.homes t ≡ true) ⊎ (slice_index_or to.asked t false ≡ true)
        on t (inl h) = inl (ap (λ l. is_home_at b l t) x.homes_are ∙ h)
        on t (inr h) = inr (ap (λ l. slice_index_or l t false) x.asked_are ∙ h)

-- GetShardHome.

-- it tells the home of s
abbrev pub tells_by : ℕ → Body → Bool
tells_by s (body.ShardHome t h stamp) = t == s
tells_by s x = false

abbrev pub is_telling : ℕ → Packet → Bool
is_telling s p = tells_by s p.body

pub record Told (b : Base) (z : Alone) (s : ℕ) (to : Alone) : Type 0 where
  pub homes_are : to.homes ≡ z.homes
  pub producers_are : to.producers ≡ z.producers
  pub asked_are : to.asked ≡ z.asked
  pub told_is : list_any (is_telling s) to.wire ≡ true

pub stamp_is : (b : Base) (entries : List Fact) → epoch entries ≡ b.lease → coordinator.stamp_of entries 0 ≡ stamp_at b
stamp_is b entries e = ap (λ n. record { epoch = n; round = 0 }) e

pub tell_goes : (b : Base) (z : Alone) (s : ℕ) (h : Incarnation) → Stands b none_later z → s < b.set.config.shards → h ≡ b.who
    → Goes b none_later 1 (Told b z s) z (by_coordinator (post b.who b.who (body.ShardHome s h (coordinator.stamp_of z.entries 0))) ∷ [])
tell_goes b z s h i less is = post_goes b none_later (Told b z s) z packet (by_coordinator (post b.who b.who (body.ShardHome s h (coordinator.stamp_of z.entries 0)))) i (refl, refl, (less, is, stamp_is b z.entries i.lease_is)) (λ q f. refl) refl refl
    (record { homes_are = refl; producers_are = refl; asked_are = refl; told_is = any_last (is_telling s) z.wire packet (number_itself s s refl) }) refl
  where
    packet : Packet
    packet = record { from = b.who; to = b.who; body = body.ShardHome s h (coordinator.stamp_of z.entries 0) }

pub allocates : (b : Base) (z : Alone) (s : ℕ) → Stands b none_later z → coordinator.allocate s (coordinator_at b z) ≡ told (fact.Allocated s b.who) ∷ post b.who b.who (body.HostShard s (coordinator.stamp_of z.entries 0)) ∷ []
allocates b z s i = ap (λ rs. where_some (λ (x : Share). told (fact.Allocated s x.region) ∷ post b.who x.region (body.HostShard s (coordinator.stamp_of z.entries 0)) ∷ [])
    (coordinator.smallest (map (λ r. record { region = r; rest = coordinator.homes_at (coordinator_at b z) r; count = length (coordinator.homes_at (coordinator_at b z) r) }) (filter (λ r. not (is_among r [])) rs)))) i.regions_are

pub allocate_goes : (b : Base) (z : Alone) (s : ℕ) → Stands b none_later z → s < b.set.config.shards
    → Goes b none_later 2 (λ to. to ≡ record z { entries = z.entries ++ fact.Allocated s b.who ∷ []; started = slice_set z.started s false; wire = z.wire ++ record { from = b.who; to = b.who; body = body.HostShard s (coordinator.stamp_of z.entries 0) } ∷ [] }) z
    (by_coordinator (told (fact.Allocated s b.who)) ∷ by_coordinator (post b.who b.who (body.HostShard s (coordinator.stamp_of z.entries 0))) ∷ [])
allocate_goes b z s i less = record {
  to = to;
  node_is = refl;
  wire_is = refl;
  stands = record {
    base_is = i.base_is;
    homes_there = i.homes_there;
    asked_there = i.asked_there;
    kept_there = i.kept_there;
    hosted_there = i.hosted_there;
    cells_there = i.cells_there;
    homes = i.homes;
    marks = i.marks;
    running = i.running;
    free = i.free;
    hosts = i.hosts;
    regions_are = regions_more z.entries (fact.Allocated s b.who) ∙ i.regions_are;
    lease_is = fold-append epoch_step 0 z.entries (fact.Allocated s b.who ∷ []) ∙ i.lease_is;
    allocated = λ t x e. own t x (s == t) (sym (allocation_more t z.entries (fact.Allocated s b.who)) ∙ e);
    asking = λ t h. wired t (i.asking t h);
    settled = i.settled;
    live = i.live;
    loading = λ f h. any_kept (is_recovering f) z.wire packet (i.loading f h);
    kept = i.kept;
    stashed = i.stashed;
    posted = each_last (IsOwn b z.hosted z.cells) z.wire packet i.posted (refl, refl, (less, stamp_is b z.entries i.lease_is));
    producing = i.producing;
    bounded = i.bounded;
    paced = λ q f above. paced_more b ⊥ z.hosted z.hosted z.cells z.cells z.producers z.wire to.wire q f (λ h. h) (le_itself (recorded b z.hosted q f)) (λ h. none_last (is_requesting q f) z.wire packet h refl) (i.paced q f above);
  };
  costs = wire_sums (lefts b z.producers) (cells_load z.cells) (kept_load z.kept) (wire_load z.wire) (wire_load to.wire) 2 (sum_by_push (λ (p : Packet). weight p.body) z.wire packet);
  entered = refl;
  more = record {
    homes_on = λ t h. h;
    live_on = λ e h. h;
    active_on = λ e h. h;
    recorded_on = λ q f. le_itself (recorded b z.hosted q f);
    confirmed_on = λ q f. le_itself (confirmed_by f (producer_at z.producers q));
    queued_on = λ q f. refl;
    holds_on = λ q h. h;
    posted_on = λ q h. any_kept q z.wire packet h;
    hosts_on = λ t h. h;
    answered = λ q f. inl refl;
  };
  also_is = refl;
}
  where
    packet : Packet
    packet = record { from = b.who; to = b.who; body = body.HostShard s (coordinator.stamp_of z.entries 0) }

    to : Alone
    to = record z { entries = z.entries ++ fact.Allocated s b.who ∷ []; started = slice_set z.started s false; wire = z.wire ++ packet ∷ [] }

    own : (t : ℕ) (x : Incarnation) (q : Bool) → (if q then Some b.who else allocation t z.entries) ≡ Some x → x ≡ b.who
    own t x true e = sym (Rattle.plain_laws.proofs.Lists.some_is b.who x e)
    own t x false e = i.allocated t x e

    wired : (t : ℕ) → (is_home_at b z.homes t ≡ true) ⊎ (list_any (is_asking t) z.wire ≡ true) → (is_home_at b z.homes t ≡ true) ⊎ (list_any (is_asking t) to.wire ≡ true)
    wired t (inl h) = inl h
    wired t (inr h) = inr (any_kept (is_asking t) z.wire packet h)

pub get_home_goes : (b : Base) (z : Alone) (s : ℕ) → Stands b none_later z → s < b.set.config.shards → Goes b none_later 3 (Told b z s) z (map by_coordinator (coordinator.get_home b.who s (coordinator_at b z)))
get_home_goes b z s i less = subst (λ t. Goes b none_later 3 (Told b z s) z (map by_coordinator (if t then turn else []))) (sym registered) (by (allocation s z.entries) refl)
  where
    k : Coordinator
    k = coordinator_at b z

    turn : List Move
    turn = in_turn coordinator_after (λ st. if is_none (coordinator.home_of st s) then coordinator.allocate s st else []) (coordinator.tell_home b.who s) k

    registered : (is_among b.who (regions z.entries) && true) ≡ true
    registered = both _ true (ap (is_among b.who) i.regions_are ∙ or_left (is_same b.who b.who) (itself_is b.who b.who refl)) refl
      where
        or_left : (t : Bool) → t ≡ true → (t || false) ≡ true
        or_left true h = refl
        or_left false h = h

    by : (o : Option Incarnation) → allocation s z.entries ≡ o → Goes b none_later 3 (Told b z s) z (map by_coordinator turn)
    by (Some h) e = subst (λ o. Goes b none_later 3 (Told b z s) z (map by_coordinator ((if is_none o then coordinator.allocate s k else []) ++ coordinator.tell_home b.who s (fold coordinator_after k (if is_none o then coordinator.allocate s k else []))))) (sym e)
        (subst (λ o. Goes b none_later 3 (Told b z s) z (map by_coordinator (where_some (λ h. post b.who b.who (body.ShardHome s h (coordinator.stamp_of z.entries 0)) ∷ []) o))) (sym e)
        (goes_also b none_later 1 3 (Told b z s) (Told b z s) z _ (omega arith) (λ to t more x. x) (tell_goes b z s h i less (i.allocated s h e))))
    by None e = subst (λ o. Goes b none_later 3 (Told b z s) z (map by_coordinator ((if is_none o then coordinator.allocate s k else []) ++ coordinator.tell_home b.who s (fold coordinator_after k (if is_none o then coordinator.allocate s k else []))))) (sym e)
        (subst (λ ms. Goes b none_later 3 (Told b z s) z (map by_coordinator (ms ++ coordinator.tell_home b.who s (fold coordinator_after k ms)))) (sym (allocates b z s i))
        (subst (λ o. Goes b none_later 3 (Told b z s) z (by_coordinator (told (fact.Allocated s b.who)) ∷ by_coordinator (post b.who b.who (body.HostShard s (coordinator.stamp_of z.entries 0)))
        ∷ map by_coordinator (where_some (λ h. post b.who b.who (body.ShardHome s h (coordinator.stamp_of now.entries 0)) ∷ []) o))) (sym (allocation_more s z.entries (fact.Allocated s b.who)))
        (subst (λ t. Goes b none_later 3 (Told b z s) z (by_coordinator (told (fact.Allocated s b.who)) ∷ by_coordinator (post b.who b.who (body.HostShard s (coordinator.stamp_of z.entries 0)))
        ∷ map by_coordinator (where_some (λ h. post b.who b.who (body.ShardHome s h (coordinator.stamp_of now.entries 0)) ∷ []) (if t then Some b.who else allocation s z.entries)))) (sym (number_itself s s refl))
        (goes_saved b none_later 1 3 (Told b z s) z now two _ (g.node_is ∙ ap (node_with b) g.also_is) (g.wire_is ∙ ap (λ (x : Alone). x.wire) g.also_is) (subst (More b z) g.also_is g.more) (sums (load b now) (load b z) (subst (λ x. load b x ≤ load b z + 2) g.also_is g.costs)) refl
        (goes_also b none_later 1 1 (Told b now s) (Told b z s) now _ (le_itself 1) (λ to t more x. record { homes_are = x.homes_are; producers_are = x.producers_are; asked_are = x.asked_are; told_is = x.told_is })
        (tell_goes b now s b.who (subst (Stands b none_later) g.also_is g.stands) less refl))))))
      where
        two : List Act
        two = by_coordinator (told (fact.Allocated s b.who)) ∷ by_coordinator (post b.who b.who (body.HostShard s (coordinator.stamp_of z.entries 0))) ∷ []

        now : Alone
        now = record z { entries = z.entries ++ fact.Allocated s b.who ∷ []; started = slice_set z.started s false; wire = z.wire ++ record { from = b.who; to = b.who; body = body.HostShard s (coordinator.stamp_of z.entries 0) } ∷ [] }

        g : Goes b none_later 2 (λ to. to ≡ now) z two
        g = allocate_goes b z s i less

        sums : (x y : ℕ) → x ≤ y + 2 → x + 1 ≤ y + 3
        sums x y h = omega (arith, h)

-- A packet is taken from the front of the wire.

pub front_by : (p : Packet) (w : List Packet) (m : Move) → wire_by (p ∷ w) m ≡ p ∷ wire_by w m
front_by p w (made (item.Post x)) = refl
front_by p w m = refl

pub wire_front : (p : Packet) (w : List Packet) (acts : List Act) → fold wire_after (p ∷ w) acts ≡ p ∷ fold wire_after w acts
wire_front p w [] = refl
wire_front p w (a ∷ acts) = ap (λ l. fold wire_after l acts) (front_by p w (move_of a)) ∙ wire_front p (wire_after w a) acts

abbrev pub without_first : Alone → List Packet → Alone
without_first z w = record z { wire = w }

pub first_stands : (b : Base) (later : ℕ → List ℕ → Type 0) (z : Alone) (p : Packet) (w : List Packet) → Stands b later z → z.wire ≡ p ∷ w
    → ((s : ℕ) → slice_index_or z.asked s false ≡ true → (is_home_at b z.homes s ≡ true) ⊎ (list_any (is_asking s) w ≡ true))
    → ((e : List ℕ) → is_phase phase.Loading (cell_in b.set z.cells e).phase ≡ true → list_any (is_recovering e) w ≡ true) → Stands b later (without_first z w)
first_stands b later z p w s is asking loading = record {
  base_is = s.base_is;
  homes_there = s.homes_there;
  asked_there = s.asked_there;
  kept_there = s.kept_there;
  hosted_there = s.hosted_there;
  cells_there = s.cells_there;
  homes = s.homes;
  marks = s.marks;
  running = s.running;
  free = s.free;
  hosts = s.hosts;
  regions_are = s.regions_are;
  lease_is = s.lease_is;
  allocated = s.allocated;
  asking = asking;
  settled = s.settled;
  live = s.live;
  loading = loading;
  kept = s.kept;
  stashed = s.stashed;
  posted = (subst (Each (IsOwn b z.hosted z.cells)) is s.posted).1;
  producing = s.producing;
  bounded = s.bounded;
  paced = λ q f above. paced_more b (later q f) z.hosted z.hosted z.cells z.cells z.producers z.wire w q f (λ h. h) (le_itself (recorded b z.hosted q f)) (λ h. rest (is_requesting q f p) (list_any (is_requesting q f) w) (ap (list_any (is_requesting q f)) (sym is) ∙ h)) (s.paced q f above);
}
  where
    rest : (x y : Bool) → (x || y) ≡ false → y ≡ false
    rest true y h = absurd (true≢false h)
    rest false y h = h

-- where the packet isn't this one, another is
pub still_there : (q : Packet → Bool) (z : Alone) (p : Packet) (w : List Packet) → z.wire ≡ p ∷ w → q p ≡ false → list_any q z.wire ≡ true → list_any q w ≡ true
still_there q z p w is other h = by (q p) (list_any q w) other (ap (list_any q) (sym is) ∙ h)
  where
    by : (x y : Bool) → x ≡ false → (x || y) ≡ true → y ≡ true
    by true y k h = absurd (true≢false k)
    by false y k h = h

-- all is confirmed, or more is recorded, and the packet isn't the acknowledgement of it
abbrev pub Advances : Base → Alone → Packet → ℕ → List ℕ → Type 0
Advances b to p q f = (queued_by f (producer_at to.producers q) ≤ confirmed_by f (producer_at to.producers q)) ⊎ ((confirmed_by f (producer_at to.producers q) < recorded b to.hosted q f) × (is_acking q f (recorded b to.hosted q f) p ≡ false))

-- where nothing is confirmed
pub still_advances : (b : Base) (z to : Alone) (p : Packet) (q : ℕ) (f : List ℕ) → More b z to → confirmed_by f (producer_at to.producers q) ≡ confirmed_by f (producer_at z.producers q) → is_acking q f (recorded b to.hosted q f) p ≡ false → confirmed_by f (producer_at z.producers q) < recorded b z.hosted q f → Advances b to p q f
still_advances b z to p q f more same quiet h = inr (less (confirmed_by f (producer_at to.producers q)) (confirmed_by f (producer_at z.producers q)) (recorded b z.hosted q f) (recorded b to.hosted q f) same h (more.recorded_on q f), quiet)
  where
    less : (c d x y : ℕ) → c ≡ d → d < x → x ≤ y → c < y
    less c d x y e h k = omega (arith, e, h, k)

pub taken : (b : Base) (cost : ℕ) (also : Alone → Type 0) (z : Alone) (p : Packet) (w : List Packet) (acts : List Act) (g : Goes b none_later cost also z acts) → z.wire ≡ p ∷ w → cost + 1 ≤ weight p.body
    → ((to : Alone) → Stands b none_later to → More b z to → also to → to.wire ≡ p ∷ fold wire_after w acts → (s : ℕ) → slice_index_or to.asked s false ≡ true → (is_home_at b to.homes s ≡ true) ⊎ (list_any (is_asking s) (fold wire_after w acts) ≡ true))
    → ((to : Alone) → Stands b none_later to → More b z to → also to → to.wire ≡ p ∷ fold wire_after w acts → (e : List ℕ) → is_phase phase.Loading (cell_in b.set to.cells e).phase ≡ true → list_any (is_recovering e) (fold wire_after w acts) ≡ true)
    → ((to : Alone) → also to → (s : ℕ) → slice_index_or z.asked s false ≡ true → (is_home_at b to.homes s ≡ true) ⊎ (slice_index_or to.asked s false ≡ true))
    → ((to : Alone) → More b z to → also to → (q : ℕ) (f : List ℕ) → 0 < q → confirmed_by f (producer_at z.producers q) < recorded b z.hosted q f → Advances b to p q f)
    → Taken b z p w acts
taken b cost also z p w acts g is less asking loading stage third = record {
  to = without_first g.to rest;
  node_is = g.node_is;
  wire_is = refl;
  stands = first_stands b none_later g.to p rest g.stands there (asking g.to g.stands g.more g.also_is there) (loading g.to g.stands g.more g.also_is there);
  falls = sums (lefts b g.to.producers) (cells_load g.to.cells) (kept_load g.to.kept) (wire_load g.to.wire) (wire_load rest) (weight p.body) (load b z) cost (ap wire_load there ∙ sum_by-cons (λ (p : Packet). weight p.body) p rest) g.costs less;
  entered = g.entered;
  more = subst (λ l. More b z (record g.to { wire = l })) there g.more;
  asked_on = stage g.to g.also_is;
  third_on = λ q f above. thirds q f above;
}
  where
    rest : List Packet
    rest = fold wire_after w acts

    there : g.to.wire ≡ p ∷ rest
    there = sym g.wire_is ∙ (ap (λ l. fold wire_after l acts) is ∙ wire_front p w acts)

    thirds : (q : ℕ) (f : List ℕ) → 0 < q → IsThird b z q f → IsThird b (without_first g.to rest) q f
    thirds q f above (inl h) = inl (subst (λ n. n ≤ confirmed_by f (producer_at g.to.producers q)) (sym (g.more.queued_on q f)) (le_then (queued_by f (producer_at z.producers q)) (confirmed_by f (producer_at z.producers q)) (confirmed_by f (producer_at g.to.producers q)) h (g.more.confirmed_on q f)))
    thirds q f above (inr h) = by (third g.to g.more g.also_is q f above h.0) (g.more.answered q f)
      where
        by : Advances b g.to p q f → (recorded b g.to.hosted q f ≡ recorded b z.hosted q f) ⊎ (list_any (is_acking q f (recorded b g.to.hosted q f)) g.to.wire ≡ true) → IsThird b (without_first g.to rest) q f
        by (inl k) a = inl k
        by (inr k) (inl a) = inr (k.0, still_there (is_acking q f (recorded b g.to.hosted q f)) g.to p rest there k.1 (subst (λ n. list_any (is_acking q f n) g.to.wire ≡ true) (sym a) (g.more.posted_on (is_acking q f (recorded b z.hosted q f)) h.1)))
        by (inr k) (inr a) = inr (k.0, still_there (is_acking q f (recorded b g.to.hosted q f)) g.to p rest there k.1 a)

    sums : (l v k w w' p x n : ℕ) → w ≡ p + w' → total l v k w ≤ x + n → n + 1 ≤ p → total l v k w' + 1 ≤ x
    sums l v k w w' p x n e h m = omega (arith, e, h, m)

-- Any packet.

-- what stands of who asks and who loads, where the packet does neither
pub quiet_asking : (b : Base) (to : Alone) (p : Packet) (w : List Packet) → Stands b none_later to → to.wire ≡ p ∷ w → ((s : ℕ) → is_asking s p ≡ false) → (s : ℕ) → slice_index_or to.asked s false ≡ true → (is_home_at b to.homes s ≡ true) ⊎ (list_any (is_asking s) w ≡ true)
quiet_asking b to p w i is quiet s h = by (i.asking s h)
  where
    by : (is_home_at b to.homes s ≡ true) ⊎ (list_any (is_asking s) to.wire ≡ true) → (is_home_at b to.homes s ≡ true) ⊎ (list_any (is_asking s) w ≡ true)
    by (inl k) = inl k
    by (inr k) = inr (still_there (is_asking s) to p w is (quiet s) k)

pub quiet_loading : (b : Base) (to : Alone) (p : Packet) (w : List Packet) → Stands b none_later to → to.wire ≡ p ∷ w → ((e : List ℕ) → is_recovering e p ≡ false) → (e : List ℕ) → is_phase phase.Loading (cell_in b.set to.cells e).phase ≡ true → list_any (is_recovering e) w ≡ true
quiet_loading b to p w i is quiet e h = still_there (is_recovering e) to p w is (quiet e) (i.loading e h)

pub telling_asks : (s : ℕ) (w : List Packet) → list_any (is_telling s) w ≡ true → list_any (is_asking s) w ≡ true
telling_asks s [] h = h
telling_asks s (p ∷ w) h = by (tells_by s p.body) (asks_by s p.body) (one p.body) h (telling_asks s w)
  where
    one : (x : Body) → tells_by s x ≡ true → asks_by s x ≡ true
    one (body.ShardHome t h stamp) k = k
    one x k = absurd (true≢false (sym k))

    by : (x y : Bool) → (x ≡ true → y ≡ true) → (x || list_any (is_telling s) w) ≡ true → (list_any (is_telling s) w ≡ true → list_any (is_asking s) w ≡ true) → (y || list_any (is_asking s) w) ≡ true
    by true y f h g = ap (λ t. t || list_any (is_asking s) w) (f refl)
    by false true f h g = refl
    by false false f h g = g h

-- a pair that is answered goes on, and the others stay
pub answer_advances : (b : Base) (z to : Alone) (x : Packet) (p : ℕ) (e : List ℕ) (n q : ℕ) (f : List ℕ) → Stands b none_later z → 0 < p → is_active b z.cells e ≡ true → More b z to → Answered b z p e n to → 0 < q
    → (confirmed_by f (producer_at to.producers q) < recorded b to.hosted q f → is_acking q f (recorded b to.hosted q f) x ≡ false) → confirmed_by f (producer_at z.producers q) < recorded b z.hosted q f → Advances b to x q f
answer_advances b z to x p e n q f i above active more a is quiet m = by (a.others_are q f is)
  where
    sent : IsPaced b ⊥ z.hosted z.cells z.producers z.wire p e → confirmed_by e (producer_at z.producers p) < recorded b z.hosted p e → sent_by e (producer_at z.producers p) ≤ recorded b z.hosted p e
    sent (inl calm) l = small (sent_by e (producer_at z.producers p)) (confirmed_by e (producer_at z.producers p)) (recorded b z.hosted p e) calm.1 l
      where
        small : (t c x : ℕ) → t ≤ c + 1 → c < x → t ≤ x
        small t c x h k = omega (arith, h, k)
    sent (inr fast) l = of fast.1
      where
        of : (sent_by e (producer_at z.producers p) ≤ recorded b z.hosted p e) ⊎ ⊥ → sent_by e (producer_at z.producers p) ≤ recorded b z.hosted p e
        of (inl k) = k
        of (inr k) = absurd k

    own : confirmed_by e (producer_at z.producers p) < recorded b z.hosted p e → (queued_by e (producer_at to.producers p) ≤ confirmed_by e (producer_at to.producers p)) ⊎ (confirmed_by e (producer_at to.producers p) < recorded b to.hosted p e)
    own l = a.advances active (sent (i.paced p e above) l)

    with_quiet : (queued_by f (producer_at to.producers q) ≤ confirmed_by f (producer_at to.producers q)) ⊎ (confirmed_by f (producer_at to.producers q) < recorded b to.hosted q f) → Advances b to x q f
    with_quiet (inl k) = inl k
    with_quiet (inr k) = inr (k, quiet k)

    by : ((q ≡ p) × (f ≡ e)) ⊎ (confirmed_by f (producer_at to.producers q) ≡ confirmed_by f (producer_at z.producers q)) → Advances b to x q f
    by (inr same) = with_quiet (inr (less (confirmed_by f (producer_at to.producers q)) (confirmed_by f (producer_at z.producers q)) (recorded b z.hosted q f) (recorded b to.hosted q f) same m (more.recorded_on q f)))
      where
        less : (c d x y : ℕ) → c ≡ d → d < x → x ≤ y → c < y
        less c d x y e h k = omega (arith, e, h, k)
    by (inl same) = with_quiet (subst (λ r. (queued_by f (producer_at to.producers r) ≤ confirmed_by f (producer_at to.producers r)) ⊎ (confirmed_by f (producer_at to.producers r) < recorded b to.hosted r f)) (sym same.0)
        (subst (λ g. (queued_by g (producer_at to.producers p) ≤ confirmed_by g (producer_at to.producers p)) ⊎ (confirmed_by g (producer_at to.producers p) < recorded b to.hosted p g)) (sym same.1)
        (own (subst (λ r. confirmed_by e (producer_at z.producers r) < recorded b z.hosted r e) same.0 (subst (λ g. confirmed_by g (producer_at z.producers q) < recorded b z.hosted q g) same.1 m)))))

-- an Ack confirms no more than is confirmed after it
pub ack_quiet : (b : Base) (to : Alone) (from by_who : Incarnation) (p : ℕ) (e : List ℕ) (n q : ℕ) (f : List ℕ) → {z : Alone} → Answered b z p e n to → confirmed_by f (producer_at to.producers q) < recorded b to.hosted q f → is_acking q f (recorded b to.hosted q f) (record { from = from; to = by_who; body = body.Ack p e n }) ≡ false
ack_quiet b to from by_who p e n q f a less = by (p == q) (is_name e f) (n == recorded b to.hosted q f) (λ same named. differ n (recorded b to.hosted q f)
    (λ k. ends n (confirmed_by f (producer_at to.producers q)) (recorded b to.hosted q f) (subst (λ r. n ≤ confirmed_by f (producer_at to.producers r)) (same_number p q same) (subst (λ g. n ≤ confirmed_by g (producer_at to.producers p)) (same_name e f named) a.reaches)) less k))
  where
    differ : (m k : ℕ) → m ≢ k → (m == k) ≡ false
    differ m k h = grind (arith, h)

    ends : (n c x : ℕ) → n ≤ c → c < x → n ≡ x → ⊥
    ends n c x h k e = omega (arith, h, k, e)

    by : (x y w : Bool) → (x ≡ true → y ≡ true → w ≡ false) → (x && y && w) ≡ false
    by true true w h = h refl refl
    by true false w h = refl
    by false y w h = refl

pub body_taken : (b : Base) (z : Alone) (lists : SlotLists) (from to : Incarnation) (x : Body) (w : List Packet) → Stands b none_later z → AllQueued b z → Agrees b z lists → z.wire ≡ record { from = from; to = to; body = x } ∷ w → from ≡ b.who
    → IsPosted b z.hosted z.cells x → Taken b z (record { from = from; to = to; body = x }) w (packet lists from x (node_with b z))
body_taken b z lists from to (body.GetShardHome s) w i all agree is by_who h =
    subst (λ f. Taken b z (record { from = from; to = to; body = body.GetShardHome s }) w (map by_coordinator (coordinator.get_home f s (coordinator_at b z)))) (sym by_who)
    (taken b 3 (Told b z s) z _ w _ (get_home_goes b z s i h) is (le_itself 4)
    (λ now t more x there r k. asks now t x there r k (t.asking r k))
    (λ now t more x there. quiet_loading b now _ _ t there (λ e. refl))
    (λ now x r k. inr (ap (λ l. slice_index_or l r false) x.asked_are ∙ k))
    (λ now more x q f above. still_advances b z now (record { from = from; to = to; body = body.GetShardHome s }) q f more (ap (λ l. confirmed_by f (producer_at l q)) x.producers_are) refl))
  where
    p : Packet
    p = record { from = from; to = to; body = body.GetShardHome s }

    asks : (now : Alone) → Stands b none_later now → Told b z s now → {rest : List Packet} → now.wire ≡ p ∷ rest → (r : ℕ) → slice_index_or now.asked r false ≡ true → (is_home_at b now.homes r ≡ true) ⊎ (list_any (is_asking r) now.wire ≡ true) → (is_home_at b now.homes r ≡ true) ⊎ (list_any (is_asking r) rest ≡ true)
    asks now t x {rest = rest} there r k (inl home) = inl home
    asks now t x {rest = rest} there r k (inr asked) = inr (by_place (list_any (is_asking r) rest ≡ true) r s
        (λ same. subst (λ q. list_any (is_asking q) rest ≡ true) (sym same) (telling_asks s rest (still_there (is_telling s) now p rest there refl x.told_is)))
        (λ other. still_there (is_asking r) now p rest there (differ s r (λ e. other (sym e))) asked))
      where
        differ : (m n : ℕ) → m ≢ n → (m == n) ≡ false
        differ m n h = grind (arith, h)
body_taken b z lists from to (body.HostShard s stamp) w i all agree is by_who h =
    subst (λ x. Taken b z (record { from = from; to = to; body = body.HostShard s stamp }) w (host_shard lists s x from (node_with b z))) (sym h.1)
    (taken b 1 (Learned b z s) z _ w _ (host_shard_goes b z lists s from i h.0 by_who (agree s)) is (le_itself 2)
    (λ now t more x there. quiet_asking b now _ _ t there (λ r. refl))
    (λ now t more x there. quiet_loading b now _ _ t there (λ e. refl))
    (λ now x. x.asked_on)
    (λ now more x q f above. still_advances b z now (record { from = from; to = to; body = body.HostShard s stamp }) q f more (ap (λ l. confirmed_by f (producer_at l q)) x.producers_are) refl))
body_taken b z lists from to (body.ShardHome s who stamp) w i all agree is by_who h =
    subst (λ x. Taken b z (record { from = from; to = to; body = body.ShardHome s who stamp }) w (shard_home lists s who x (node_with b z))) (sym h.2)
    (subst (λ y. Taken b z (record { from = from; to = to; body = body.ShardHome s who stamp }) w (shard_home lists s y (stamp_at b) (node_with b z))) (sym h.1)
    (taken b 0 (Learned b z s) z _ w _ (shard_home_goes b z lists s i h.0 (agree s)) is (le_itself 1)
    (λ now t more x there r k. asks now t x there r k (t.asking r k))
    (λ now t more x there. quiet_loading b now _ _ t there (λ e. refl))
    (λ now x. x.asked_on)
    (λ now more x q f above. still_advances b z now (record { from = from; to = to; body = body.ShardHome s who stamp }) q f more (ap (λ l. confirmed_by f (producer_at l q)) x.producers_are) refl)))
  where
    p : Packet
    p = record { from = from; to = to; body = body.ShardHome s who stamp }

    asks : (now : Alone) → Stands b none_later now → Learned b z s now → {rest : List Packet} → now.wire ≡ p ∷ rest → (r : ℕ) → slice_index_or now.asked r false ≡ true → (is_home_at b now.homes r ≡ true) ⊎ (list_any (is_asking r) now.wire ≡ true) → (is_home_at b now.homes r ≡ true) ⊎ (list_any (is_asking r) rest ≡ true)
    asks now t x {rest = rest} there r k (inl home) = inl home
    asks now t x {rest = rest} there r k (inr asked) = by_place _ r s
        (λ same. inl (subst (λ q. is_home_at b now.homes q ≡ true) (sym same) x.home_is))
        (λ other. inr (still_there (is_asking r) now p rest there (differ s r (λ e. other (sym e))) asked))
      where
        differ : (m n : ℕ) → m ≢ n → (m == n) ≡ false
        differ m n h = grind (arith, h)
body_taken b z lists from to (body.ShardStarted s) w i all agree is by_who h = taken b 0 (λ now. (now.asked ≡ z.asked) × (now.producers ≡ z.producers)) z _ w _ (started_goes (is_at from (allocation s z.entries))) is (le_itself 1)
    (λ now t more x there. quiet_asking b now _ _ t there (λ r. refl))
    (λ now t more x there. quiet_loading b now _ _ t there (λ e. refl))
    (λ now x r k. inr (ap (λ l. slice_index_or l r false) x.0 ∙ k))
    (λ now more x q f above. still_advances b z now (record { from = from; to = to; body = body.ShardStarted s }) q f more (ap (λ l. confirmed_by f (producer_at l q)) x.1) refl)
  where
    started_goes : (t : Bool) → Goes b none_later 0 (λ now. (now.asked ≡ z.asked) × (now.producers ≡ z.producers)) z (map by_coordinator (if t then Rattle.yard_model.specs.Move.started s ∷ [] else []))
    started_goes false = goes_none b none_later (λ now. (now.asked ≡ z.asked) × (now.producers ≡ z.producers)) z i (refl, refl)
    started_goes true = record {
      to = record z { started = slice_set z.started s true };
      node_is = refl;
      wire_is = refl;
      stands = record { base_is = i.base_is; homes_there = i.homes_there; asked_there = i.asked_there; kept_there = i.kept_there; hosted_there = i.hosted_there; cells_there = i.cells_there; homes = i.homes; marks = i.marks; running = i.running; free = i.free; hosts = i.hosts; regions_are = i.regions_are; lease_is = i.lease_is; allocated = i.allocated; asking = i.asking; settled = i.settled; live = i.live; loading = i.loading; kept = i.kept; stashed = i.stashed; posted = i.posted; producing = i.producing; bounded = i.bounded; paced = i.paced };
      costs = zero_more (load b z);
      entered = refl;
      more = record { homes_on = λ t h. h; live_on = λ e h. h; active_on = λ e h. h; recorded_on = λ q f. le_itself (recorded b z.hosted q f); confirmed_on = λ q f. le_itself (confirmed_by f (producer_at z.producers q)); queued_on = λ q f. refl; holds_on = λ q h. h; posted_on = λ q h. h; hosts_on = λ t h. h; answered = λ q f. inl refl };
      also_is = (refl, refl);
    }
body_taken b z lists from to (body.Recovered e) w i all agree is by_who h = taken b 0 (Recovers b z e) z _ w _ (recovered_goes b none_later z e i h) is (le_itself 1)
    (λ now t more x there. quiet_asking b now _ _ t there (λ r. refl))
    (λ now t more x there f k. by_name _ e f (λ same. absurd (true≢false (sym k ∙ ap (λ g. is_phase phase.Loading (cell_in b.set now.cells g).phase) (sym same) ∙ x.loaded))) (λ other. still_there (is_recovering f) now _ _ there other (t.loading f k)))
    (λ now x r k. inr (ap (λ l. slice_index_or l r false) x.asked_are ∙ k))
    (λ now more x q f above. still_advances b z now (record { from = from; to = to; body = body.Recovered e }) q f more (ap (λ l. confirmed_by f (producer_at l q)) x.producers_are) refl)
body_taken b z lists from to (body.Ack p e n) w i all agree is by_who h = taken b 0 (Answered b z p e n) z _ w _ (ack_goes b z p e n i all h.0 h.1 h.3) is (le_itself 1)
    (λ now t more x there. quiet_asking b now _ _ t there (λ r. refl))
    (λ now t more x there. quiet_loading b now _ _ t there (λ f. refl))
    (λ now x r k. inr (x.asked_on r k))
    (λ now more x q f above m. answer_advances b z now (record { from = from; to = to; body = body.Ack p e n }) p e n q f i h.0 h.2 more x above (λ l. ack_quiet b now from to p e n q f x l) m)
body_taken b z lists from to (body.Request p e n u) w i all agree is by_who h = taken b 0 (Answered b z p e n) z _ w _ (request_turn_goes b z p e n u i all h.0 h.1 h.3 (fast (i.paced p e h.0))) is (le_itself 1)
    (λ now t more x there. quiet_asking b now _ _ t there (λ r. refl))
    (λ now t more x there. quiet_loading b now _ _ t there (λ f. refl))
    (λ now x r k. inr (x.asked_on r k))
    (λ now more x q f above m. answer_advances b z now (record { from = from; to = to; body = body.Request p e n u }) p e n q f i h.0 h.2 more x above (λ l. refl) m)
  where
    own : is_requesting p e (record { from = from; to = to; body = body.Request p e n u }) ≡ true
    own = both (p == p) (is_name e e) (number_itself p p refl) (name_itself e)

    fast : IsPaced b ⊥ z.hosted z.cells z.producers z.wire p e → IsFast b ⊥ z.hosted z.cells z.producers p e
    fast (inl calm) = absurd (true≢false (sym (ap (λ t. t || list_any (is_requesting p e) w) own) ∙ (ap (list_any (is_requesting p e)) (sym is) ∙ calm.2)))
    fast (inr k) = k
body_taken b z lists from to x w i all agree is by_who h = absurd h

-- so each delivery keeps what stands, and lowers the load
pub packet_taken : (b : Base) (z : Alone) (lists : SlotLists) (p : Packet) (w : List Packet) → Stands b none_later z → AllQueued b z → Agrees b z lists → z.wire ≡ p ∷ w → Taken b z p w (packet lists p.from p.body (node_with b z))
packet_taken b z lists p w i all agree is = body_taken b z lists p.from p.to p.body w i all agree is own.0 own.2
  where
    own : IsOwn b z.hosted z.cells p
    own = (subst (Each (IsOwn b z.hosted z.cells)) is i.posted).0
