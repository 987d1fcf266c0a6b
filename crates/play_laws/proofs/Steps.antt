-- Steps of the world that are no input: facts that all hear, packets that are posted, nodes that come up and go down.
use Rattle.yard_model.specs.Era.{upgrade_step, version_in}
use Rattle.std.proofs.Common.{◌≡◌, ◌<◌, ◌≤◌, ℕ, ◌+◌, ◌-◌, List, [], ◌∷◌, ◌++◌, length, map, sym, ap, subst, ◌∙◌, refl, true, false, true≢false, arith}
use Rattle.std.specs.Prelude.{Bool, ◌&&◌, nat_le, nat_lt, not, fold, Option, Some, None, is_none, slice_index_or, slice_set, if◌then◌else◌}
use Rattle.std.specs.List.{list_all, flat_map}
use Rattle.std.proofs.lemmas.List.{append-nil, append_assoc, length-set, get_or-set_same, get_or-set_other}
use Rattle.std.proofs.lemmas.List.Sums.{fold-append}
use Rattle.yard_model.specs.declared.fact.Fact.{Fact}
use Rattle.yard_model.specs.declared.fact.Fact.TheVariants as fact
use Rattle.yard_model.specs.declared.out.Item.{Item}
use Rattle.yard_model.specs.declared.out.Item.TheVariants as item
use Rattle.yard_model.specs.declared.packet.Body.TheVariants as body
use Rattle.yard_model.specs.declared.packet.Packet.{Packet}
use Rattle.yard_model.specs.declared.charter.Order.{Order}
use Rattle.yard_model.specs.declared.charter.Order.TheVariants as order
use Rattle.yard_model.specs.declared.incarnation.Incarnation.{Incarnation}
use Rattle.yard_model.specs.declared.incarnation.Slot.TheVariants as slot
use Rattle.yard_model.specs.Behaviour.{is_in}
use Rattle.yard_model.specs.Entities as entities
use Rattle.yard_model.specs.Entities.{new_cell}
use Rattle.yard_model.specs.Genuine.{is_node}
use Rattle.yard_model.specs.Members.{has_node, are_of_different_nodes}
use Rattle.yard_model.specs.Node.{Node, new_node, freed_stopped, crash}
use Rattle.yard_model.specs.Safe.{live_step, live_at}
use Rattle.yard_model.specs.Guards.{guarded}
use Rattle.yard_model.specs.Script.{Script, setting, is_version}
use Rattle.yard_model.specs.Setting.{shards, producers, place}
use Rattle.yard_model.specs.SlotLists.{SlotLists}
use Rattle.yard_model.specs.Trace.{lists_step, lists_of}
use Rattle.yard_model.specs.Turns.{where_some}
use Rattle.yard_model.specs.Words.{is_same, is_among, without, at}
use Rattle.yard_model.specs.World as world
use Rattle.yard_model.specs.World.{World, Made, Step, world_after, tell, then_step, numbered, count_posts, node_at, with_order}
use Rattle.plain_laws.proofs.Booleans.{and_both, both, at_most, get_replicate, all_map}
use Rattle.plain_laws.proofs.Members.{same_is, all_among, among_front, last_among, by_last, different_last, node_of_some, among_kept, gone_from, different_filter, among_fewer}
use Rattle.plain_laws.proofs.Lists.{none_is_not_some, some_is, inside, placed_at, placed_beside, by_place, none_of}
use Rattle.yard_laws.proofs.FreeLaws.{free_leaves_lists, free_leaves_live, free_leaves_version}
use Rattle.yard_laws.proofs.Owns.{lists_more}
use Rattle.yard_laws.specs.Free.{is_free}
use Rattle.actor_laws.specs.Owes.{Hand, facts_in, hand_after, is_own_post}
use Rattle.node_laws.specs.Members.{IsThere}
use Rattle.node_laws.specs.Carried.{is_queued_in, Carries, is_carried_fact, carried_in_hand}
use Rattle.node_laws.specs.Cluster.{IsMember, IsCluster}
use Rattle.node_laws.specs.NodeStands.{is_own_fact}
use Rattle.play_laws.specs.Sound.{SoundIf, IsWell, AreNumbered, AreQueued}
use Rattle.play_laws.proofs.Handled.{Laws, numbered_on, carries_on, lists_on, version_own}
use Rattle.play_laws.proofs.Turned.{is_still, members_still, ups_still, nodes_still, wire_still, AreWell, well_more, WentOn, went_items, set_still, version_still, past_still, lists_still}

-- what is made leads from a sound world to a sound one, and its facts go on with the trace; what is recorded stays queued, if it was
abbrev pub LeadsIf : Type 0 → Script → World → Made → Type 0
LeadsIf T c w m = (trace : List Fact) → SoundIf T c trace w → SoundIf T c (trace ++ m.facts) m.world

abbrev pub Leads : Script → World → Made → Type 0
Leads c w m = LeadsIf (Unit {0}) c w m

-- Steps in turn.

pub none_leads : {T : Type 0} → (c : Script) (w : World) → LeadsIf T c w (tell [] w)
none_leads {T = T} c w trace s = subst (λ t. SoundIf T c t w) (sym (append-nil trace)) s

pub then_leads : {T : Type 0} → (c : Script) (w : World) (m : Made) (q : Step) → LeadsIf T c w m → (m.world.full ≡ false → LeadsIf T c m.world (q m.world)) → LeadsIf T c w (then_step m q)
then_leads {T = T} c w m q f g = step m.world.full refl
  where
    step : (b : Bool) → m.world.full ≡ b → LeadsIf T c w (elim b as (λ b. Made) [ true ↦ m | false ↦ let n : Made = q m.world in record { facts = m.facts ++ n.facts; world = n.world } ])
    step true e = f
    step false e = λ trace s. subst (λ t. SoundIf T c t (q m.world).world) (append_assoc trace m.facts (q m.world).facts) (g e (trace ++ m.facts) (f trace s))

pub if_leads : {T : Type 0} → (c : Script) (w : World) (b : Bool) (m n : Made) → (b ≡ true → LeadsIf T c w m) → (b ≡ false → LeadsIf T c w n) → LeadsIf T c w (if b then m else n)
if_leads c w true m n f g = f refl
if_leads c w false m n f g = g refl

tell_more : {T : Type 0} → (c : Script) (w : World) (f : Fact) (fs : List Fact) → LeadsIf T c w (tell (f ∷ []) w) → LeadsIf T c (world_after w f) (tell fs (world_after w f)) → LeadsIf T c w (tell (f ∷ fs) w)
tell_more {T = T} c w f fs one rest trace s = subst (λ t. SoundIf T c t (fold world_after (world_after w f) fs)) (append_assoc trace (f ∷ []) fs) (rest (trace ++ f ∷ []) (one trace s))

tell_both : {T : Type 0} → (c : Script) (w : World) (fs gs : List Fact) → LeadsIf T c w (tell fs w) → LeadsIf T c (fold world_after w fs) (tell gs (fold world_after w fs)) → LeadsIf T c w (tell (fs ++ gs) w)
tell_both {T = T} c w fs gs f g trace s =
    subst (SoundIf T c (trace ++ (fs ++ gs))) (sym (fold-append world_after w fs gs))
    (subst (λ t. SoundIf T c t (fold world_after (fold world_after w fs) gs)) (append_assoc trace fs gs) (g (trace ++ fs) (f trace s)))

-- Facts that all hear.

pub lists_next : {T : Type 0} → (c : Script) (trace : List Fact) (w : World) (f : Fact) → SoundIf T c trace w → lists_step w.set w.lists f ≡ lists_of (setting c) (trace ++ f ∷ [])
lists_next c trace w f s = ap (λ x. lists_step x w.lists f) s.set_is ∙ (ap (λ l. lists_step (setting c) l f) s.lists_are ∙ sym (lists_more c trace f))

-- a fact of no slot, that tells nothing of nodes and packets
pub heard : {T : Type 0} → Laws → (c : Script) (w : World) (f : Fact) → is_free f ≡ true → is_still f ≡ true → LeadsIf T c w (tell (f ∷ []) w)
heard laws c w f free still trace s = record {
  script_is = s.script_is;
  set_is = set_still w.set f still ∙ s.set_is;
  behaviour_is = version_still w.behaviour f still ∙ (s.behaviour_is ∙ sym (free_leaves_version trace f free));
  admitted = ap (is_version c) (version_still w.behaviour f still) ∙ s.admitted;
  sends_are = s.sends_are;
  nodes_there = ap length nodes ∙ s.nodes_there;
  ups_there = ap length ups ∙ s.ups_there;
  lists_are = lists_still w.set w.lists f still ∙ lists_next c trace w f s;
  cluster = subst (IsCluster c (trace ++ f ∷ [])) (sym nodes) (laws.hears c trace w.nodes (f ∷ []) (both (is_free f) true free refl) s.cluster);
  members_are = λ x m.
      let t : IsThere w x = s.members_are x (ap (is_among x) (sym members) ∙ m) in
      record { node = t.node; is_up = ap (λ l. at l (x.node - 1)) nodes ∙ t.is_up; who_is = t.who_is };
  members_different = ap are_of_different_nodes members ∙ s.members_different;
  are_members = λ k st e. ap (is_among st.who) members ∙ s.are_members k st (ap (λ l. at l k) (sym nodes) ∙ e);
  given_are = λ k st e. subst (λ l. st.who.number ≤ slice_index_or l (st.who.node - 1) 0) (sym ups) (s.given_are k st (ap (λ l. at l k) (sym nodes) ∙ e));
  numbered_are = λ e x m. subst (λ l. x.number ≤ slice_index_or l (x.node - 1) 0) (sym ups) (s.numbered_are e x (ap (is_among x) (sym (free_leaves_live e trace f free)) ∙ m));
  queued_are = λ t. subst (AreQueued c) (sym lists) (s.queued_are t);
  carries = λ k st e. subst (λ l. Carries l st) (sym lists) (s.carries k st (ap (λ l. at l k) (sym nodes) ∙ e));
  wire_is = subst (λ n. AreWell c (world_after w f).lists n (world_after w f).wire) (sym (past_still w.wire w.past f still))
      (subst (λ l. AreWell c l w.past (world_after w f).wire) (sym lists) (subst (AreWell c w.lists w.past) (sym (wire_still w.wire f still)) s.wire_is));
}
  where
    nodes : (world_after w f).nodes ≡ w.nodes
    nodes = nodes_still w.set w.behaviour w.nodes f still

    ups : (world_after w f).ups ≡ w.ups
    ups = ups_still w.ups f still

    members : (world_after w f).members ≡ w.members
    members = members_still w.members f still

    lists : (world_after w f).lists ≡ w.lists
    lists = lists_still w.set w.lists f still ∙ lists_next c trace w f s ∙ (free_leaves_lists c trace f free ∙ sym s.lists_are)

pub nothing_leads : {T : Type 0} → Laws → (c : Script) (w : World) → LeadsIf T c w (world.nothing w)
nothing_leads laws c w = heard laws c w fact.Nothing refl refl

-- what the orders set is none of this
pub ordered_sound : {T : Type 0} → (c : Script) (trace : List Fact) (o : Option Order) (w : World) → SoundIf T c trace w → SoundIf T c trace (with_order o w)
ordered_sound c trace (Some (order.Send p e k)) w s = record {
  script_is = s.script_is;
  set_is = s.set_is;
  behaviour_is = s.behaviour_is;
  admitted = s.admitted;
  sends_are = s.sends_are;
  nodes_there = s.nodes_there;
  ups_there = s.ups_there;
  lists_are = s.lists_are;
  cluster = s.cluster;
  members_are = λ x m. let t : IsThere w x = s.members_are x m in record { node = t.node; is_up = t.is_up; who_is = t.who_is };
  members_different = s.members_different;
  are_members = s.are_members;
  given_are = s.given_are;
  numbered_are = s.numbered_are;
  queued_are = s.queued_are;
  carries = s.carries;
  wire_is = s.wire_is;
}
ordered_sound c trace None w s = s
ordered_sound c trace (Some o) w s = s

-- Views.

-- a packet is posted that promises what it says
sent : {T : Type 0} → Laws → (c : Script) (w : World) (n : ℕ) (p : Packet) → ((trace : List Fact) → SoundIf T c trace w → IsWell c w.lists p) → LeadsIf T c w (tell (fact.Sent n p ∷ []) w)
sent laws c w n p well trace s = record {
  script_is = s.script_is;
  set_is = s.set_is;
  behaviour_is = s.behaviour_is ∙ sym (free_leaves_version trace (fact.Sent n p) refl);
  admitted = s.admitted;
  sends_are = s.sends_are;
  nodes_there = s.nodes_there;
  ups_there = s.ups_there;
  lists_are = lists_next c trace w (fact.Sent n p) s;
  cluster = laws.hears c trace w.nodes (fact.Sent n p ∷ []) refl s.cluster;
  members_are = λ x m. let t : IsThere w x = s.members_are x m in record { node = t.node; is_up = t.is_up; who_is = t.who_is };
  members_different = s.members_different;
  are_members = s.are_members;
  given_are = s.given_are;
  numbered_are = λ e x m. s.numbered_are e x (ap (is_among x) (sym (free_leaves_live e trace (fact.Sent n p) refl)) ∙ m);
  queued_are = s.queued_are;
  carries = s.carries;
  wire_is = well_more c w.lists w.past w.wire p (well trace s) s.wire_is;
}

abbrev view_to : ℕ → List Incarnation → Incarnation → Packet
view_to v xs x = record { from = x; to = x; body = body.View v xs }

-- it is one of the script's nodes that are up
members_nodes : {T : Type 0} → (c : Script) (trace : List Fact) (w : World) → SoundIf T c trace w → list_all (is_node c) w.members ≡ true
members_nodes c trace w s = all_among (is_node c) w.members (λ x m.
    let t : IsThere w x = s.members_are x m in
    let u : IsMember c trace (x.node - 1) t.node = s.cluster.members (x.node - 1) t.node t.is_up in
    ap (is_node c) (sym t.who_is) ∙ u.sound.who_is)

posts_lead : {T : Type 0} → Laws → (c : Script) (limit v : ℕ) (xs ys : List Incarnation) (n : ℕ) (w : World) → list_all (is_node c) xs ≡ true → are_of_different_nodes xs ≡ true → list_all (is_node c) ys ≡ true
    → LeadsIf T c w (tell (numbered limit n (map (λ x. item.Post (view_to v xs x)) ys)) w)
posts_lead laws c limit v xs [] n w nodes different there = none_leads c w
posts_lead {T = T} laws c limit v xs (y ∷ ys) n w nodes different there = by (nat_lt n limit) (λ u. posts_lead laws c limit v xs ys (n + 1) u nodes different m.1)
  where
    m : (is_node c y ≡ true) × (list_all (is_node c) ys ≡ true)
    m = and_both (is_node c y) (list_all (is_node c) ys) there

    p : Packet
    p = view_to v xs y

    more : List Fact
    more = numbered limit (n + 1) (map (λ x. item.Post (view_to v xs x)) ys)

    by : (b : Bool) → ((u : World) → LeadsIf T c u (tell more u)) → LeadsIf T c w (tell ((if b then fact.Sent (n + 1) p ∷ [] else []) ++ more) w)
    by true rest = tell_more c w (fact.Sent (n + 1) p) more
        (sent laws c w (n + 1) p (λ trace s. record { genuine = both (is_node c y && is_node c y) (list_all (is_node c) xs) (both (is_node c y) (is_node c y) m.0 m.0) nodes; different = different; carried = refl })) (rest (world_after w (fact.Sent (n + 1) p)))
    by false rest = rest w

pub views_lead : {T : Type 0} → Laws → (c : Script) (w : World) → LeadsIf T c w (world.views w)
views_lead {T = T} laws c w trace s =
    let nodes : list_all (is_node c) w.members ≡ true = members_nodes c trace w s in
    tell_both c w fs (full b) (posts_lead laws c w.limit w.version w.members w.members (length w.wire) w nodes s.members_different nodes) (last b) trace s
  where
    is : List Item
    is = map (λ x. item.Post (view_to w.version w.members x)) w.members

    fs : List Fact
    fs = numbered w.limit (length w.wire) is

    b : Bool
    b = nat_lt w.limit (fold count_posts (length w.wire) is)

    full : Bool → List Fact
    full b = if b then fact.WireFull ∷ [] else []

    last : (b : Bool) → LeadsIf T c (fold world_after w fs) (tell (full b) (fold world_after w fs))
    last true = heard laws c (fold world_after w fs) fact.WireFull refl refl
    last false = none_leads c (fold world_after w fs)

-- A node that comes up.

-- a greater number in its place
raised : (ups : List ℕ) (i j n m : ℕ) → i < length ups → slice_index_or ups i 0 ≤ n → m ≤ slice_index_or ups j 0 → m ≤ slice_index_or (slice_set ups i n) j 0
raised ups i j n m less up h = by_place (m ≤ slice_index_or (slice_set ups i n) j 0) j i
    (λ same. subst (λ l. m ≤ l) (sym (ap (λ k. slice_index_or (slice_set ups i n) k 0) same ∙ get_or-set_same ups i n 0 less)) (most m (slice_index_or ups i 0) n (subst (λ k. m ≤ slice_index_or ups k 0) same h) up))
    (λ other. subst (λ l. m ≤ l) (sym (get_or-set_other ups i j n 0 other)) h)
  where
    most : (a b d : ℕ) → a ≤ b → b ≤ d → a ≤ d
    most a b d e f = omega (arith, e, f)

new_carries : (c : Script) (lists : SlotLists) (version : ℕ) (x : Incarnation) → Carries lists (new_node (setting c) version x)
new_carries c lists version x = record {
  kept = λ s. ap (list_all (is_queued_in lists)) (get_replicate c.config.shards s []);
  stashed = λ e. ap (λ (l : entities.Cell). list_all (is_queued_in lists) l.stash) (get_replicate (length (setting c).names) (place (setting c) e) (new_cell (setting c)));
}

pub up_leads : {T : Type 0} → Laws → (c : Script) (w : World) (n : ℕ) → is_in 1 c.config.nodes n ≡ true → at w.nodes (n - 1) ≡ None → let x : Incarnation = record { node = n; number = slice_index_or w.ups (n - 1) 0 + 1 } in LeadsIf T c w (tell (fact.Up x ∷ []) w)
up_leads laws c w n node empty trace s = record {
  script_is = s.script_is;
  set_is = s.set_is;
  behaviour_is = s.behaviour_is ∙ sym (free_leaves_version trace (fact.Up x) refl);
  admitted = s.admitted;
  sends_are = s.sends_are;
  nodes_there = length-set w.nodes (n - 1) (Some (new_node w.set w.behaviour x)) ∙ s.nodes_there;
  ups_there = length-set w.ups (n - 1) x.number ∙ s.ups_there;
  lists_are = lists_next c trace w (fact.Up x) s;
  cluster = laws.hears c trace v.nodes (fact.Up x ∷ []) refl (subst (λ y. IsCluster c trace (slice_set w.nodes (n - 1) (Some (new_node y w.behaviour x)))) (sym s.set_is) (subst (λ v. IsCluster c trace (slice_set w.nodes (n - 1) (Some (new_node (setting c) v x)))) (sym s.behaviour_is)
      (laws.gains c trace w.nodes (n - 1) x node before less empty fresh (ap (is_version c) (sym s.behaviour_is) ∙ s.admitted) s.cluster)));
  members_are = λ y m. by_last (IsThere v y) y x w.members m (λ f. stays y (s.members_are y f))
      (λ same. record { node = new_node w.set w.behaviour x; is_up = ap (λ (z : Incarnation). at v.nodes (z.node - 1)) same ∙ placed_at w.nodes (n - 1) (Some (new_node w.set w.behaviour x)) less; who_is = sym same });
  members_different = different_last w.members x s.members_different (no_member (has_node n w.members) refl);
  are_members = λ k st e. by_place (is_among st.who (w.members ++ x ∷ []) ≡ true) k (n - 1)
      (λ same.
      let it : new_node w.set w.behaviour x ≡ st = some_is (new_node w.set w.behaviour x) st (sym (placed_at w.nodes (n - 1) (Some (new_node w.set w.behaviour x)) less) ∙ (ap (at v.nodes) (sym same) ∙ e)) in
      subst (λ (y : Node). is_among y.who (w.members ++ x ∷ []) ≡ true) it (last_among x w.members))
      (λ other. among_front st.who x w.members (s.are_members k st (sym (placed_beside w.nodes (n - 1) k (Some (new_node w.set w.behaviour x)) other) ∙ e)));
  given_are = λ k st e. by_place (st.who.number ≤ slice_index_or v.ups (st.who.node - 1) 0) k (n - 1)
      (λ same.
      let it : new_node w.set w.behaviour x ≡ st = some_is (new_node w.set w.behaviour x) st (sym (placed_at w.nodes (n - 1) (Some (new_node w.set w.behaviour x)) less) ∙ (ap (at v.nodes) (sym same) ∙ e)) in
      subst (λ (y : Node). y.who.number ≤ slice_index_or v.ups (y.who.node - 1) 0) it (subst (λ l. x.number ≤ l) (sym (get_or-set_same w.ups (n - 1) x.number 0 inside_ups)) (itself x.number)))
      (λ other. raised w.ups (n - 1) (st.who.node - 1) x.number st.who.number inside_ups one_more (s.given_are k st (sym (placed_beside w.nodes (n - 1) k (Some (new_node w.set w.behaviour x)) other) ∙ e)));
  numbered_are = λ e y m. raised w.ups (n - 1) (y.node - 1) x.number y.number inside_ups one_more (s.numbered_are e y (ap (is_among y) (sym (free_leaves_live e trace (fact.Up x) refl)) ∙ m));
  queued_are = s.queued_are;
  carries = λ k st e. by_place (Carries w.lists st) k (n - 1)
      (λ same. subst (Carries w.lists) (some_is (new_node w.set w.behaviour x) st (sym (placed_at w.nodes (n - 1) (Some (new_node w.set w.behaviour x)) less) ∙ (ap (at v.nodes) (sym same) ∙ e))) (subst (λ y. Carries w.lists (new_node y w.behaviour x)) (sym s.set_is) (new_carries c w.lists w.behaviour x)))
      (λ other. s.carries k st (sym (placed_beside w.nodes (n - 1) k (Some (new_node w.set w.behaviour x)) other) ∙ e));
  wire_is = s.wire_is;
}
  where
    x : Incarnation
    x = record { node = n; number = slice_index_or w.ups (n - 1) 0 + 1 }

    v : World
    v = world_after w (fact.Up x)

    low : 1 ≤ n
    low = at_most 1 n (and_both (nat_le 1 n) (nat_le n c.config.nodes) node).0

    high : n ≤ c.config.nodes
    high = at_most n c.config.nodes (and_both (nat_le 1 n) (nat_le n c.config.nodes) node).1

    within : (a b d : ℕ) → 1 ≤ a → a ≤ b → d ≡ b → a - 1 < d
    within a b d e f g = omega (arith, e, f, g)

    less : n - 1 < length w.nodes
    less = within n c.config.nodes (length w.nodes) low high s.nodes_there

    inside_ups : n - 1 < length w.ups
    inside_ups = within n c.config.nodes (length w.ups) low high s.ups_there

    before : n ≡ (n - 1) + 1
    before = at_one n low
      where
        at_one : (a : ℕ) → 1 ≤ a → a ≡ (a - 1) + 1
        at_one a e = omega (arith, e)

    itself : (a : ℕ) → a ≤ a
    itself a = omega (arith)

    one_more : slice_index_or w.ups (n - 1) 0 ≤ x.number
    one_more = up (slice_index_or w.ups (n - 1) 0)
      where
        up : (a : ℕ) → a ≤ a + 1
        up a = omega (arith)

    fresh : (e : List ℕ) → is_among x (live_at e trace) ≡ false
    fresh e = by (is_among x (live_at e trace)) refl
      where
        past : (a : ℕ) → a + 1 ≤ a → ⊥
        past a h = omega (arith, h)

        by : (b : Bool) → is_among x (live_at e trace) ≡ b → is_among x (live_at e trace) ≡ false
        by false h = h
        by true h = absurd (past (slice_index_or w.ups (n - 1) 0) (s.numbered_are e x h))

    stays : (y : Incarnation) → IsThere w y → IsThere v y
    stays y t = record {
      node = t.node;
      is_up = placed_beside w.nodes (n - 1) (y.node - 1) (Some (new_node w.set w.behaviour x)) (λ same. none_is_not_some t.node (sym empty ∙ (ap (at w.nodes) (sym same) ∙ t.is_up))) ∙ t.is_up;
      who_is = t.who_is;
    }

    no_member : (b : Bool) → has_node n w.members ≡ b → has_node n w.members ≡ false
    no_member false e = e
    no_member true e = absurd (node_of_some n w.members e (λ y m same.
        let t : IsThere w y = s.members_are y m in
        none_is_not_some t.node (sym empty ∙ (ap (λ i. at w.nodes (i - 1)) (sym same) ∙ t.is_up))))

pub come_up_leads : {T : Type 0} → Laws → (c : Script) (w : World) (n : ℕ) → is_in 1 c.config.nodes n ≡ true → at w.nodes (n - 1) ≡ None → LeadsIf T c w (world.come_up n w)
come_up_leads laws c w n node empty =
    let x : Incarnation = record { node = n; number = slice_index_or w.ups (n - 1) 0 + 1 } in
    let m : Made = tell (fact.Up x ∷ []) w in
    then_leads c w m world.views (up_leads laws c w n node empty) (λ e. views_lead laws c m.world)

-- A node that goes down.

abbrev pub is_freed : Fact → Bool
is_freed (fact.Freed s n why) = true
is_freed f = false

freed_own : (who : Incarnation) (f : Fact) → is_freed f ≡ true → is_own_fact who f ≡ true
freed_own who (fact.Freed s n why) h = refl
freed_own who f h = absurd (true≢false (sym h))

pub freed_still : (f : Fact) → is_freed f ≡ true → is_still f ≡ true
freed_still (fact.Freed s n why) h = refl
freed_still f h = absurd (true≢false (sym h))

abbrev pub AreFreed : List Fact → Type 0
AreFreed fs = list_all is_freed fs ≡ true

freed_both : (xs ys : List Fact) → AreFreed xs → AreFreed ys → AreFreed (xs ++ ys)
freed_both [] ys f g = g
freed_both (x ∷ xs) ys f g = let m : (is_freed x ≡ true) × AreFreed xs = and_both (is_freed x) (list_all is_freed xs) f in both (is_freed x) (list_all is_freed (xs ++ ys)) m.0 (freed_both xs ys m.1 g)

freed_each : {X : Type 0} (p : X → List Fact) (xs : List X) → ((x : X) → AreFreed (p x)) → AreFreed (flat_map p xs)
freed_each p [] h = refl
freed_each p (x ∷ xs) h = freed_both (p x) (flat_map p xs) (h x) (freed_each p xs h)

freed_some : {X : Type 0} (p : X → List Fact) (o : Option X) → ((x : X) → AreFreed (p x)) → AreFreed (where_some p o)
freed_some p None h = refl
freed_some p (Some x) h = h x

-- a crash tells nothing but that slots are freed
pub crash_frees : (st : Node) → AreFreed (crash st)
crash_frees st =
    let a : List Fact = flat_map (λ s. where_some (λ h. freed_stopped (slot.Shard s) h.entries) (entities.hosted st.entities s)) (shards st.set) in
    let b : List Fact = where_some (λ k. freed_stopped slot.Coordinator k.entries) st.coordinator in
    let d : List Fact = flat_map (λ p. where_some (λ k. freed_stopped (slot.Queue p) k.entries) (at st.producers (p - 1))) (producers st.set) in
    freed_both (a ++ b) d
    (freed_both a b (freed_each (λ s. where_some (λ h. freed_stopped (slot.Shard s) h.entries) (entities.hosted st.entities s)) (shards st.set) (λ s. freed_some (λ h. freed_stopped (slot.Shard s) h.entries) (entities.hosted st.entities s) (λ h. refl)))
    (freed_some (λ k. freed_stopped slot.Coordinator k.entries) st.coordinator (λ k. refl)))
    (freed_each (λ p. where_some (λ k. freed_stopped (slot.Queue p) k.entries) (at st.producers (p - 1))) (producers st.set) (λ p. freed_some (λ k. freed_stopped (slot.Queue p) k.entries) (at st.producers (p - 1)) (λ k. refl)))

-- facts as items
facts_are : (fs : List Fact) → facts_in (map item.Fact fs) ≡ fs
facts_are [] = refl
facts_are (f ∷ fs) = ap (λ l. f ∷ l) (facts_are fs)

numbered_is : (limit k : ℕ) (fs : List Fact) → numbered limit k (map item.Fact fs) ≡ fs
numbered_is limit k [] = refl
numbered_is limit k (f ∷ fs) = ap (λ l. f ∷ l) (numbered_is limit k fs)

own_facts : (c : Script) (who : Incarnation) (fs : List Fact) → list_all (is_own_post c who) (map item.Fact fs) ≡ true
own_facts c who [] = refl
own_facts c who (f ∷ fs) = own_facts c who fs

freed_carried : (c : Script) (h : Hand) (fs : List Fact) → AreFreed fs → carried_in_hand c h (map item.Fact fs) ≡ true
freed_carried c h [] all = refl
freed_carried c h (f ∷ fs) all =
    let m : (is_freed f ≡ true) × AreFreed fs = and_both (is_freed f) (list_all is_freed fs) all in
    both (is_carried_fact h.lists f) (carried_in_hand c (hand_after c h f) (map item.Fact fs)) (one f m.0) (freed_carried c (hand_after c h f) fs m.1)
  where
    one : (f : Fact) → is_freed f ≡ true → is_carried_fact h.lists f ≡ true
    one (fact.Freed s n why) e = refl
    one f e = absurd (true≢false (sym e))

-- the words after slots are freed
freed_went : {T : Type 0} → (c : Script) (who : Incarnation) (fs u : List Fact) (w : World) → AreFreed fs → w.set ≡ setting c → w.lists ≡ lists_of (setting c) u → guarded c (u ++ fs) ≡ true
    → (T → AreQueued c (lists_of (setting c) u)) → AreWell c (lists_of (setting c) u) w.past w.wire → WentOn T c w (lists_of (setting c) (u ++ fs)) (fold world_after w fs)
freed_went {T = T} c who fs u w freed set_is lists_are g q wire =
    subst (λ xs. WentOn T c w (lists_of (setting c) (u ++ xs)) (fold world_after w fs)) (facts_are fs)
    (subst (λ xs. WentOn T c w (lists_of (setting c) (u ++ facts_in is)) (fold world_after w xs)) (numbered_is 0 0 fs)
    (went_items c who 0 0 is u h w refl set_is lists_are (ap (λ xs. guarded c (u ++ xs)) (facts_are fs) ∙ g) (own_facts c who fs)
    (ap (list_all is_still) (facts_are fs) ∙ all_map is_freed is_still freed_still fs freed) (freed_carried c h fs freed) q wire))
  where
    is : List Item
    is = map item.Fact fs

    h : Hand
    h = record { lists = lists_of (setting c) u; live = []; version = 1 }

down_leads : {T : Type 0} → Laws → (c : Script) (w : World) (k : ℕ) (st : Node) → at w.nodes k ≡ Some st → LeadsIf T c w (tell (fact.Gone st.who ∷ crash st) w)
down_leads {T = T} laws c w k st here trace s = record {
  script_is = s.script_is;
  set_is = went.set_is ∙ s.set_is;
  behaviour_is = went.version_is ∙ (s.behaviour_is ∙ sym (ap version_in (sym joined) ∙ (version_own st.who first fs (all_map is_freed (is_own_fact st.who) (freed_own st.who) fs (crash_frees st)) ∙ fold-append upgrade_step 1 trace (gone ∷ []))));
  admitted = ap (is_version c) went.version_is ∙ s.admitted;
  sends_are = went.sends_are ∙ s.sends_are;
  nodes_there = ap length nodes ∙ (length-set w.nodes k None ∙ s.nodes_there);
  ups_there = ap length went.ups_are ∙ s.ups_there;
  lists_are = went.lists_are ∙ ap (lists_of (setting c)) joined;
  cluster = subst (IsCluster c (trace ++ (gone ∷ fs))) (sym nodes) next;
  members_are = λ x m.
      let there : is_among x (without st.who w.members) ≡ true = ap (is_among x) (sym went.members_are) ∙ m in
      let t : IsThere w x = s.members_are x (among_kept (λ z. not (is_same st.who z)) x w.members there) in
      record { node = t.node; is_up = ap (λ l. at l (x.node - 1)) nodes ∙ (placed_beside w.nodes k (x.node - 1) None (apart x t there) ∙ t.is_up); who_is = t.who_is };
  members_different = ap are_of_different_nodes went.members_are ∙ different_filter (λ z. not (is_same st.who z)) w.members s.members_different;
  are_members = λ j y e. ap (is_among y.who) went.members_are ∙ (among_fewer y.who st.who w.members (not_same j y e (is_same y.who st.who) refl) ∙ s.are_members j y (old j y e));
  given_are = λ j y e. subst (λ l. y.who.number ≤ slice_index_or l (y.who.node - 1) 0) (sym went.ups_are) (s.given_are j y (old j y e));
  numbered_are = λ e x m. subst (λ l. x.number ≤ slice_index_or l (x.node - 1) 0) (sym went.ups_are)
      (numbered_on st.who w.ups first fs (all_map is_freed (is_own_fact st.who) (freed_own st.who) fs (crash_frees st)) (s.given_are k st here) gone_numbered e x (ap (λ t. is_among x (live_at e t)) joined ∙ m));
  queued_are = λ t. subst (AreQueued c) (sym went.lists_are) (went.queued_are t);
  carries = λ j y e. subst (λ l. Carries l y) (lists_on c first fs ∙ sym went.lists_are) (carries_on c (lists_of (setting c) first) fs y (subst (λ l. Carries l y) (s.lists_are ∙ sym first_lists) (s.carries j y (old j y e))));
  wire_is = subst (λ n. AreWell c v.lists n v.wire) (sym went.past_is) (subst (λ l. AreWell c l w.past v.wire) (sym went.lists_are) went.wire_is);
}
  where
    gone : Fact
    gone = fact.Gone st.who

    fs : List Fact
    fs = crash st

    first : List Fact
    first = trace ++ gone ∷ []

    v1 : World
    v1 = world_after w gone

    v : World
    v = fold world_after v1 fs

    joined : first ++ fs ≡ trace ++ (gone ∷ fs)
    joined = append_assoc trace (gone ∷ []) fs

    next : IsCluster c (trace ++ (gone ∷ fs)) (slice_set w.nodes k None)
    next = laws.loses c trace w.nodes k st s.cluster here

    first_lists : lists_of (setting c) first ≡ lists_of (setting c) trace
    first_lists = lists_more c trace gone

    went : WentOn T c v1 (lists_of (setting c) (first ++ fs)) v
    went = freed_went c st.who fs first v1 (crash_frees st) s.set_is (s.lists_are ∙ sym first_lists) (ap (guarded c) joined ∙ next.guarded_are)
        (λ t. subst (AreQueued c) (s.lists_are ∙ sym first_lists) (s.queued_are t)) (subst (λ l. AreWell c l w.past w.wire) (s.lists_are ∙ sym first_lists) s.wire_is)

    me : IsMember c trace k st
    me = s.cluster.members k st here

    place : st.who.node - 1 ≡ k
    place = back (st.who.node) k me.node_is
      where
        back : (a b : ℕ) → a ≡ b + 1 → a - 1 ≡ b
        back a b e = omega (arith, e)

    nodes : v.nodes ≡ slice_set w.nodes k None
    nodes = went.nodes_are ∙ ap (λ n. slice_set w.nodes n None) place

    less : k < length w.nodes
    less = inside w.nodes k st here

    old : (j : ℕ) (y : Node) → at v.nodes j ≡ Some y → at w.nodes j ≡ Some y
    old j y e = by_place (at w.nodes j ≡ Some y) j k
        (λ same. absurd (none_is_not_some y (sym (placed_at w.nodes k None less) ∙ (ap (at (slice_set w.nodes k None)) (sym same) ∙ (ap (λ l. at l j) (sym nodes) ∙ e)))))
        (λ other. sym (placed_beside w.nodes k j None other) ∙ (ap (λ l. at l j) (sym nodes) ∙ e))

    not_same : (j : ℕ) (y : Node) → at v.nodes j ≡ Some y → (b : Bool) → is_same y.who st.who ≡ b → is_same y.who st.who ≡ false
    not_same j y e false h = h
    not_same j y e true h =
        let you : IsMember c trace j y = s.cluster.members j y (old j y e) in
        let at_k : j ≡ k = one_less j k (sym you.node_is ∙ (ap (λ (x : Incarnation). x.node) (same_is y.who st.who h) ∙ me.node_is)) in
        absurd (none_is_not_some y (sym (placed_at w.nodes k None less) ∙ (ap (at (slice_set w.nodes k None)) (sym at_k) ∙ (ap (λ l. at l j) (sym nodes) ∙ e))))
      where
        one_less : (a b : ℕ) → a + 1 ≡ b + 1 → a ≡ b
        one_less a b e = omega (arith, e)

    apart : (x : Incarnation) → IsThere w x → is_among x (without st.who w.members) ≡ true → x.node - 1 ≡ k → ⊥
    apart x t there same =
        let it : st ≡ t.node = some_is st t.node (sym here ∙ (ap (at w.nodes) (sym same) ∙ t.is_up)) in
        let who : st.who ≡ x = ap (λ (z : Node). z.who) it ∙ t.who_is in
        true≢false (sym there ∙ (ap (λ z. is_among z (without st.who w.members)) (sym who) ∙ gone_from st.who w.members))

    gone_numbered : AreNumbered w.ups first
    gone_numbered e x m = s.numbered_are e x (among_kept (λ z. not (is_same st.who z)) x (live_at e trace) (ap (is_among x) (sym (fold-append (live_step e) [] trace (gone ∷ []))) ∙ m))

pub go_down_leads : {T : Type 0} → Laws → (c : Script) (w : World) (n : ℕ) → LeadsIf T c w (world.go_down n w)
go_down_leads {T = T} laws c w n = by (node_at w n) refl
  where
    by : (o : Option Node) → at w.nodes (n - 1) ≡ o → LeadsIf T c w (world.go_down_by o w)
    by None e = none_leads c w
    by (Some st) e = down_leads laws c w (n - 1) st e

pub up_order_leads : {T : Type 0} → Laws → (c : Script) (w : World) (n : ℕ) → is_in 1 c.config.nodes n ≡ true → LeadsIf T c w (world.up n w)
up_order_leads laws c w n node = if_leads c w (is_none (node_at w n)) (world.come_up n w) (world.nothing w) (λ e. come_up_leads laws c w n node (none_of (node_at w n) e)) (λ e. nothing_leads laws c w)

pub crash_order_leads : {T : Type 0} → Laws → (c : Script) (w : World) (n : ℕ) → LeadsIf T c w (world.crash_node n w)
crash_order_leads laws c w n =
    let m : Made = world.go_down n w in
    if_leads c w (is_none (node_at w n)) (world.nothing w) (then_step m world.views) (λ e. nothing_leads laws c w) (λ e. then_leads c w m world.views (go_down_leads laws c w n) (λ e. views_lead laws c m.world))
