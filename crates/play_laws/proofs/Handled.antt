-- An input at a node of a sound world.
use Rattle.actor_laws.specs.RegionStands.{ShardsAreThere}
use Rattle.era_laws.specs.Reshapes.{ReshapedIsLawful, ReshapedKeepsJournals}
use Rattle.era_laws.specs.Openings.{OpeningGivesLists, OpeningIsQuiet, EraOpens}
use Rattle.node_laws.proofs.TraceOthers.{all_own_open}
use Rattle.yard_model.specs.Era.{upgrade_step, version_in}
use Rattle.std.proofs.Common.{◌≡◌, ◌<◌, ◌≤◌, ◌⊎◌, inl, inr, ℕ, ◌+◌, ◌-◌, List, [], ◌∷◌, ◌++◌, length, sym, ap, ap₂, subst, ◌∙◌, refl, true, false, true≢false, arith}
use Rattle.std.specs.Prelude.{Bool, not, fold, Some, slice_index_or, slice_set, if◌then◌else◌}
use Rattle.std.specs.List.{list_all}
use Rattle.std.proofs.lemmas.List.{length-set}
use Rattle.std.proofs.lemmas.List.Sums.{fold-append}
use Rattle.yard_model.specs.declared.fact.Fact.{Fact}
use Rattle.yard_model.specs.declared.fact.Fact.TheVariants as fact
use Rattle.yard_model.specs.declared.input.Input.{Input}
use Rattle.yard_model.specs.declared.incarnation.Incarnation.{Incarnation}
use Rattle.yard_model.specs.Entities.{cell}
use Rattle.yard_model.specs.Members.{are_of_different_nodes}
use Rattle.yard_model.specs.Node.{Node, Act, after, items_of, turn}
use Rattle.yard_model.specs.Region.{kept_of}
use Rattle.yard_model.specs.Safe.{live_step, live_at}
use Rattle.yard_model.specs.Guards.{guarded}
use Rattle.yard_model.specs.Script.{Script, setting, is_name, is_version}
use Rattle.yard_model.specs.SlotLists.{SlotLists, shard_list, queue_list}
use Rattle.yard_model.specs.Trace.{no_lists, lists_step, lists_of}
use Rattle.yard_model.specs.Words.{is_same, is_among, without, at}
use Rattle.yard_model.specs.World.{World, Made, world_after, all_sends, input_facts, with_node, handle}
use Rattle.plain_laws.proofs.Booleans.{and_both, all_map}
use Rattle.plain_laws.proofs.Members.{same_is, by_last, among_kept}
use Rattle.plain_laws.proofs.Lists.{some_is, inside, placed_at, placed_beside, by_place}
use Rattle.yard_laws.specs.Guarded.{Owns}
use Rattle.yard_laws.proofs.Owns.{producer_above}
use Rattle.yard_laws.proofs.SafetyLaws.{guarded_is_own}
use Rattle.actor_laws.specs.Owes.{Hand, facts_in, hand_after}
use Rattle.node_laws.specs.Members.{IsThere}
use Rattle.node_laws.specs.Carried.{is_queued_in, Carries, IsBrought, CarriesOn, TurnCarries}
use Rattle.node_laws.specs.Cluster.{IsMember, IsCluster, ClusterTurns, ClusterLoses, ClusterHears, ClusterGains, ClusterBegins, ClusterUpgrades, ClusterIsSafe}
use Rattle.node_laws.specs.NodeFound.{Finds, AreLawful}
use Rattle.node_laws.specs.NodeStands.{is_own_fact}
use Rattle.node_laws.specs.NodeTurns.{MayTake}
use Rattle.node_laws.specs.Traces.{recorded, RecordedStays, TurnGoesOn, TurnIsGuarded}
use Rattle.play_laws.specs.Sound.{SoundIf, AreNumbered, AreQueued}
use Rattle.play_laws.proofs.Queued.{all_queued_on}
use Rattle.play_laws.proofs.Same.{IsSameTrace, input_same, cluster_same}
use Rattle.play_laws.proofs.Tells.{turn_still}
use Rattle.play_laws.proofs.Turned.{AreWell, WentOn, went_input}
use Rattle.node_laws.proofs.NodeParts.{who_stays}

-- what is known of nodes by themselves, and of all together
pub record Laws : Type 0 where
  pub turns : ClusterTurns
  pub guards : TurnIsGuarded
  pub stays : RecordedStays
  pub carries : TurnCarries
  pub loses : ClusterLoses
  pub hears : ClusterHears
  pub gains : ClusterGains
  pub begins : ClusterBegins
  pub upgrades : ClusterUpgrades
  pub safes : ClusterIsSafe
  pub opening_gives : OpeningGivesLists
  pub opening_quiet : OpeningIsQuiet
  pub opens : EraOpens
  pub reshaped_lawful : ReshapedIsLawful
  pub reshaped_keeps : ReshapedKeepsJournals
  pub there : ShardsAreThere

-- Who is live.

-- facts of one incarnation make live at it alone
one_live : (who x : Incarnation) (e : List ℕ) (live : List Incarnation) (f : Fact) → is_own_fact who f ≡ true → is_among x (live_step e live f) ≡ true → (is_among x live ≡ true) ⊎ (x ≡ who)
one_live who x e live (fact.Start y g) own h = by (is_name g e) h
  where
    by : (b : Bool) → is_among x (if b then without y live ++ y ∷ [] else live) ≡ true → (is_among x live ≡ true) ⊎ (x ≡ who)
    by true k = by_last ((is_among x live ≡ true) ⊎ (x ≡ who)) x y (without y live) k (λ m. inl (among_kept (λ z. not (is_same y z)) x live m)) (λ same. inr (same ∙ same_is y who own))
    by false k = inl k
one_live who x e live (fact.Stop y g) own h = by (is_name g e) h
  where
    by : (b : Bool) → is_among x (if b then without y live else live) ≡ true → (is_among x live ≡ true) ⊎ (x ≡ who)
    by true k = inl (among_kept (λ z. not (is_same y z)) x live k)
    by false k = inl k
one_live who x e live (fact.WriteFailed y g) own h = by (is_name g e) h
  where
    by : (b : Bool) → is_among x (if b then without y live else live) ≡ true → (is_among x live ≡ true) ⊎ (x ≡ who)
    by true k = inl (among_kept (λ z. not (is_same y z)) x live k)
    by false k = inl k
one_live who x e live (fact.Gone y) own h = absurd (true≢false (sym own))
one_live who x e live f own h = inl h

all_live : (who x : Incarnation) (e : List ℕ) (fs : List Fact) (live : List Incarnation) → list_all (is_own_fact who) fs ≡ true → is_among x (fold (live_step e) live fs) ≡ true → (is_among x live ≡ true) ⊎ (x ≡ who)
all_live who x e [] live own h = inl h
all_live who x e (f ∷ fs) live own h = by (all_live who x e fs (live_step e live f) m.1 h)
  where
    m : (is_own_fact who f ≡ true) × (list_all (is_own_fact who) fs ≡ true)
    m = and_both (is_own_fact who f) (list_all (is_own_fact who) fs) own

    by : (is_among x (live_step e live f) ≡ true) ⊎ (x ≡ who) → (is_among x live ≡ true) ⊎ (x ≡ who)
    by (inl before) = one_live who x e live f m.0 before
    by (inr same) = inr same

pub numbered_on : (who : Incarnation) (ups : List ℕ) (t fs : List Fact) → list_all (is_own_fact who) fs ≡ true → who.number ≤ slice_index_or ups (who.node - 1) 0 → AreNumbered ups t → AreNumbered ups (t ++ fs)
numbered_on who ups t fs own given n e x h = by (all_live who x e fs (live_at e t) own (ap (is_among x) (sym (fold-append (live_step e) [] t fs)) ∙ h))
  where
    by : (is_among x (live_at e t) ≡ true) ⊎ (x ≡ who) → x.number ≤ slice_index_or ups (x.node - 1) 0
    by (inl before) = n e x before
    by (inr same) = subst (λ (y : Incarnation). y.number ≤ slice_index_or ups (y.node - 1) 0) (sym same) given

-- a node's own facts leave the version
pub version_own : (who : Incarnation) (t fs : List Fact) → list_all (is_own_fact who) fs ≡ true → version_in (t ++ fs) ≡ version_in t
version_own who t fs own = fold-append upgrade_step 1 t fs ∙ all (version_in t) fs own
  where
    one : (v : ℕ) (f : Fact) → is_own_fact who f ≡ true → upgrade_step v f ≡ v
    one v (fact.Upgrade w) h = absurd (true≢false (sym h))
    one v f h = refl

    all : (v : ℕ) (fs : List Fact) → list_all (is_own_fact who) fs ≡ true → fold upgrade_step v fs ≡ v
    all v [] h = refl
    all v (f ∷ fs) h =
        let m : (is_own_fact who f ≡ true) × (list_all (is_own_fact who) fs ≡ true) = and_both (is_own_fact who f) (list_all (is_own_fact who) fs) h in
        ap (λ x. fold upgrade_step x fs) (one v f m.0) ∙ all v fs m.1

-- What nodes carry.

pub carries_on : (c : Script) (lists : SlotLists) (fs : List Fact) (st : Node) → Carries lists st → Carries (fold (lists_step (setting c)) lists fs) st
carries_on c lists fs st h = record {
  kept = λ s. all_map (is_queued_in lists) (is_queued_in (fold (lists_step (setting c)) lists fs)) (all_queued_on (setting c) fs lists) (kept_of st.region.kept s) (h.kept s);
  stashed = λ e. all_map (is_queued_in lists) (is_queued_in (fold (lists_step (setting c)) lists fs)) (all_queued_on (setting c) fs lists) (cell st.entities e).stash (h.stashed e);
}

hand_lists : (c : Script) (h : Hand) (fs : List Fact) → (fold (hand_after c) h fs).lists ≡ fold (lists_step (setting c)) h.lists fs
hand_lists c h [] = refl
hand_lists c h (f ∷ fs) = hand_lists c (hand_after c h f) fs

pub lists_on : (c : Script) (t fs : List Fact) → fold (lists_step (setting c)) (lists_of (setting c) t) fs ≡ lists_of (setting c) (t ++ fs)
lists_on c t fs = sym (fold-append (lists_step (setting c)) (no_lists (setting c)) t fs)

-- The leases.

pub lawful_lists : (c : Script) (trace : List Fact) → guarded c trace ≡ true → AreLawful c (lists_of (setting c) trace)
lawful_lists c trace g =
    let o : Owns c (lists_of (setting c) trace) = guarded_is_own c trace g in
    record { coordinator = o.coordinator; shards = λ s k. o.shard s; queues = λ p k. o.queue p (producer_above c p k) }

-- A turn.

abbrev Turned : Type 0 → Script → List Fact → World → Node → List Act → Type 0
Turned T c trace w st acts = let fs : List Fact = input_facts w (items_of acts) in SoundIf T c (trace ++ fs) (with_node (fold after st acts) (fold world_after w fs))

turned : {T : Type 0} → Laws → (c : Script) (trace : List Fact) (w : World) (k : ℕ) (st : Node) (i : Input) → at w.nodes k ≡ Some st → MayTake c (recorded c trace) st i → IsBrought c w.lists i → SoundIf T c trace w
    → Turned T c trace w st (turn (all_sends c) (lists_of (setting c) trace) i st)
turned {T = T} laws c trace w k st i here may brought s = record {
  script_is = s.script_is;
  set_is = went.set_is ∙ s.set_is;
  behaviour_is = went.version_is ∙ (s.behaviour_is ∙ sym (same.version_are ∙ version_own st.who trace pure go.own_are));
  admitted = ap (is_version c) went.version_is ∙ s.admitted;
  sends_are = went.sends_are ∙ s.sends_are;
  nodes_there = length-set v.nodes (now.who.node - 1) (Some now) ∙ (ap length went.nodes_are ∙ s.nodes_there);
  ups_there = ap length went.ups_are ∙ s.ups_there;
  lists_are = went.lists_are ∙ sym same.lists_are;
  cluster = cluster_same c (trace ++ fs) (trace ++ pure) (slice_set v.nodes (now.who.node - 1) (Some now)) same (subst (IsCluster c (trace ++ pure)) (sym nodes_is) next);
  members_are = λ x m.
      let t : IsThere w x = s.members_are x (ap (is_among x) (sym went.members_are) ∙ m) in
      by_place (IsThere (with_node now v) x) (x.node - 1) k
      (λ at_k.
      let it : st ≡ t.node = some_is st t.node (sym here ∙ (ap (at w.nodes) (sym at_k) ∙ t.is_up)) in
      record { node = now; is_up = ap (λ l. at l (x.node - 1)) nodes_is ∙ (ap (at (slice_set w.nodes k (Some now))) at_k ∙ placed_at w.nodes k (Some now) less); who_is = stays ∙ (ap (λ (y : Node). y.who) it ∙ t.who_is) })
      (λ other. record { node = t.node; is_up = ap (λ l. at l (x.node - 1)) nodes_is ∙ (placed_beside w.nodes k (x.node - 1) (Some now) other ∙ t.is_up); who_is = t.who_is });
  members_different = subst (λ l. are_of_different_nodes l ≡ true) (sym went.members_are) s.members_different;
  are_members = λ j y e. subst (λ l. is_among y.who l ≡ true) (sym went.members_are) (placed_all (λ j y. is_among y.who w.members ≡ true) j y (ap (λ l. at l j) (sym nodes_is) ∙ e) (ap (λ x. is_among x w.members) stays ∙ s.are_members k st here) (s.are_members j y));
  given_are = λ j y e. subst (λ l. y.who.number ≤ slice_index_or l (y.who.node - 1) 0) (sym went.ups_are) (placed_all (λ j y. y.who.number ≤ slice_index_or w.ups (y.who.node - 1) 0) j y (ap (λ l. at l j) (sym nodes_is) ∙ e) (subst (λ (x : Incarnation). x.number ≤ slice_index_or w.ups (x.node - 1) 0) (sym stays) (s.given_are k st here)) (s.given_are j y));
  numbered_are = λ e x m. subst (λ l. x.number ≤ slice_index_or l (x.node - 1) 0) (sym went.ups_are)
      (numbered_on st.who w.ups trace pure go.own_are (s.given_are k st here) s.numbered_are e x (ap (is_among x) (sym (same.live_are e)) ∙ m));
  queued_are = λ t. subst (AreQueued c) (sym went.lists_are) (went.queued_are t);
  carries = λ j y e. subst (λ l. Carries l y) (sym went.lists_are) (placed_all (λ j y. Carries (lists_of (setting c) (trace ++ pure)) y) j y (ap (λ l. at l j) (sym nodes_is) ∙ e)
      (subst (λ l. Carries l now) (hand_lists c me.hand pure ∙ (ap (λ l. fold (lists_step (setting c)) l pure) me.has.of_trace.lists_are ∙ lists_on c trace pure)) on.carries)
      (λ f. subst (λ l. Carries l y) (lists_on c trace pure) (carries_on c (lists_of (setting c) trace) pure y (subst (λ l. Carries l y) s.lists_are (s.carries j y f)))));
  wire_is = subst (λ n. AreWell c v.lists n v.wire) (sym went.past_is) (subst (λ l. AreWell c l w.past v.wire) (sym went.lists_are) went.wire_is);
}
  where
    lists : SlotLists
    lists = lists_of (setting c) trace

    acts : List Act
    acts = turn (all_sends c) lists i st

    now : Node
    now = fold after st acts

    fs : List Fact
    fs = input_facts w (items_of acts)

    pure : List Fact
    pure = facts_in (items_of acts)

    v : World
    v = fold world_after w fs

    me : IsMember c trace k st
    me = s.cluster.members k st here

    g : guarded c trace ≡ true
    g = s.cluster.guarded_are

    next : IsCluster c (trace ++ pure) (slice_set w.nodes k (Some now))
    next = laws.turns c trace w.nodes k st i s.script_is s.cluster here may

    go : TurnGoesOn c trace (recorded c trace) me.hand st acts
    go = laws.guards c trace (recorded c trace) me.hand st i s.script_is me.sound me.viewed may g (laws.stays c trace) me.has.of_trace me.has.holds

    finds : Finds lists st me.hand
    finds = record {
      office = λ none. ap (λ (l : SlotLists). l.coordinator) me.has.of_trace.lists_are;
      shards = λ n none. ap (λ l. shard_list l n) me.has.of_trace.lists_are;
      queues = λ p none. ap (λ l. queue_list l p) me.has.of_trace.lists_are;
    }

    in_hand : w.lists ≡ me.hand.lists
    in_hand = s.lists_are ∙ sym me.has.of_trace.lists_are

    on : CarriesOn c me.hand st acts
    on = laws.carries c (recorded c trace) lists st i me.hand s.script_is me.sound me.viewed (lawful_lists c trace g) may me.has.holds finds
        (subst (λ l. Carries l st) in_hand (s.carries k st here)) (subst (λ l. IsBrought c l i) in_hand brought)

    went : WentOn T c w (lists_of (setting c) (trace ++ pure)) v
    went = went_input c st.who (items_of acts) trace me.hand w me.has.of_trace.lists_are s.set_is s.lists_are next.guarded_are go.posts_are
        (turn_still (all_sends c) lists i st) on.carried_are
        (λ t. subst (AreQueued c) s.lists_are (s.queued_are t)) (subst (λ l. AreWell c l w.past w.wire) s.lists_are s.wire_is)

    same : IsSameTrace c (trace ++ fs) (trace ++ pure)
    same = input_same c w (items_of acts) trace trace (all_own_open st.who pure go.own_are) (record { guarded_are = refl; lists_are = refl; live_are = λ e. refl; version_are = refl })

    stays : now.who ≡ st.who
    stays = who_stays st acts

    place : now.who.node - 1 ≡ k
    place = back (now.who.node) k (ap (λ (x : Incarnation). x.node) stays ∙ me.node_is)
      where
        back : (a b : ℕ) → a ≡ b + 1 → a - 1 ≡ b
        back a b e = omega (arith, e)

    less : k < length w.nodes
    less = inside w.nodes k st here

    nodes_is : slice_set v.nodes (now.who.node - 1) (Some now) ≡ slice_set w.nodes k (Some now)
    nodes_is = ap₂ (λ l n. slice_set l n (Some now)) went.nodes_are place

    placed_all : (P : ℕ → Node → Type 0) (j : ℕ) (y : Node) → at (slice_set w.nodes k (Some now)) j ≡ Some y → P k now → (at w.nodes j ≡ Some y → P j y) → P j y
    placed_all P j y e new old = by_place (P j y) j k
        (λ at_k. subst (λ n. P n y) (sym at_k) (subst (P k) (some_is now y (sym (placed_at w.nodes k (Some now) less) ∙ (ap (at (slice_set w.nodes k (Some now))) (sym at_k) ∙ e))) new))
        (λ other. old (sym (placed_beside w.nodes k j (Some now) other) ∙ e))

pub handle_goes : {T : Type 0} → Laws → (c : Script) (trace : List Fact) (w : World) (k : ℕ) (st : Node) (i : Input) → at w.nodes k ≡ Some st → MayTake c (recorded c trace) st i → IsBrought c w.lists i → SoundIf T c trace w
    → let m : Made = handle i st w in SoundIf T c (trace ++ m.facts) m.world
handle_goes {T = T} laws c trace w k st i here may brought s =
    subst (Turned T c trace w st) (ap₂ (λ x l. turn x l i st) (sym s.sends_are) (sym s.lists_are)) (turned laws c trace w k st i here may brought s)
