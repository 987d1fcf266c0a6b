-- The queries after the steps of the world that are no input, and after deliveries.
use Rattle.std.proofs.Common.{◌≡◌, ◌<◌, ◌≤◌, ℕ, zero, suc, ◌+◌, ◌-◌, List, [], ◌∷◌, ◌++◌, length, map, sym, ap, subst, ◌∙◌, refl, true, false, true≢false, arith}
use Rattle.std.specs.Prelude.{Bool, ◌&&◌, nat_lt, filter, fold, Option, Some, None, slice_index_or, slice_set, if◌then◌else◌}
use Rattle.std.specs.List.{list_all, slice_get}
use Rattle.std.specs.Option.{option_map}
use Rattle.std.proofs.lemmas.Bool.Decides.{nat_tests}
use Rattle.std.proofs.lemmas.List.Sums.{fold-append}
use Rattle.yard_model.specs.declared.fact.Fact.{Fact}
use Rattle.yard_model.specs.declared.fact.Fact.TheVariants as fact
use Rattle.yard_model.specs.declared.out.Item.{Item}
use Rattle.yard_model.specs.declared.out.Item.TheVariants as item
use Rattle.yard_model.specs.declared.input.Input.TheVariants as input
use Rattle.yard_model.specs.declared.packet.Body.{Body}
use Rattle.yard_model.specs.declared.packet.Body.TheVariants as body
use Rattle.yard_model.specs.declared.packet.Packet.{Packet}
use Rattle.yard_model.specs.declared.charter.Line.{Line}
use Rattle.yard_model.specs.declared.incarnation.Incarnation.{Incarnation}
use Rattle.yard_model.specs.Entities.{new_cell}
use Rattle.yard_model.specs.Move.{told}
use Rattle.yard_model.specs.Node.{Node, Act, new_node, after, crash}
use Rattle.yard_model.specs.Queries.{Known, know, actor, posted, show, show_item, show_got}
use Rattle.yard_model.specs.Script.{Script, Setting, setting}
use Rattle.yard_model.specs.Setting.{place}
use Rattle.yard_model.specs.SlotReads.{holder}
use Rattle.yard_model.specs.Trace.{list_at, lists_step}
use Rattle.yard_model.specs.Turns.{where_some}
use Rattle.yard_model.specs.Words.{at, is_at, is_same, is_among}
use Rattle.yard_model.specs.World as world
use Rattle.yard_model.specs.World.{World, Made, Step, world_after, tell, then_step, numbered, count_posts, handle, give, node_at}
use Rattle.plain_laws.proofs.Booleans.{and_both, get_replicate}
use Rattle.actor_laws.specs.Owes.{Hand, hand_after}
use Rattle.node_laws.specs.Members.{IsThere}
use Rattle.plain_laws.proofs.Members.{same_is}
use Rattle.plain_laws.proofs.Lists.{none_is_not_some, some_is, inside, placed_at, placed_beside, by_place}
use Rattle.node_laws.specs.Cluster.{IsMember}
use Rattle.actor_laws.specs.Held.{held_in_hand}
use Rattle.node_laws.specs.NodeTurns.{CrashIs, CrashStands}
use Rattle.play_laws.specs.Sound.{Sound, IsWell}
use Rattle.play_laws.proofs.Orders.{well_may, nodes_freed, deliver_leads}
use Rattle.play_laws.proofs.Steps.{Leads, heard, is_freed, AreFreed, crash_frees}
use Rattle.query_laws.specs.Shown.{opened, IsTold, IsTidy}
use Rattle.query_laws.proofs.Along.{without_nodes, IsViewOf, Along, plain, along_shown, know_other}
use Rattle.query_laws.proofs.KnownItems.{at_is}
use Rattle.query_laws.proofs.KnownTurn.{Shows, Fits, handle_known}
use Rattle.query_laws.proofs.ShowBase.{same_some}
use Rattle.query_laws.proofs.Steps.{Agree, IsKnown, agree_still, still_known, nobody_acts, up_known, gone_known, views_known, posted_is, posted_before}

-- what is made is known, where the wire isn't full after it; and what is so of the queries' other words stays so
abbrev pub Knows : (Known → Type 0) → Script → List Line → World → Made → Type 0
Knows P c orders w m = (trace : List Fact) → Sound c trace w → (k : Known) → Fits orders k w → P k → m.world.full ≡ false → Fits orders (fold know k m.facts) m.world × P (fold know k m.facts)

-- whatever the packet that was got last, and where there is none
abbrev pub Any : Known → Type 0
Any k = Unit {0}

abbrev pub NoPacket : Known → Type 0
NoPacket k = k.packet ≡ None

pub none_knows : (P : Known → Type 0) (c : Script) (orders : List Line) (w : World) → Knows P c orders w (tell [] w)
none_knows P c orders w trace s k fit p full = (fit, p)

pub then_knows : (P : Known → Type 0) (c : Script) (orders : List Line) (w : World) (m : Made) (q : Step) → Leads c w m → Knows P c orders w m → (m.world.full ≡ false → Knows P c orders m.world (q m.world)) → Knows P c orders w (then_step m q)
then_knows P c orders w m q leads f g = step m.world.full refl
  where
    step : (b : Bool) → m.world.full ≡ b → Knows P c orders w (elim b as (λ b. Made) [ true ↦ m | false ↦ let n : Made = q m.world in record { facts = m.facts ++ n.facts; world = n.world } ])
    step true e = f
    step false e = λ trace s k fit p full.
        let one : Fits orders (fold know k m.facts) m.world × P (fold know k m.facts) = f trace s k fit p e in
        subst (λ j. Fits orders j (q m.world).world × P j) (sym (fold-append know k m.facts (q m.world).facts)) (g e (trace ++ m.facts) (leads trace s) (fold know k m.facts) one.0 one.1 full)

pub if_knows : (P : Known → Type 0) (c : Script) (orders : List Line) (w : World) (b : Bool) (m n : Made) → (b ≡ true → Knows P c orders w m) → (b ≡ false → Knows P c orders w n) → Knows P c orders w (if b then m else n)
if_knows P c orders w true m n f g = f refl
if_knows P c orders w false m n f g = g refl

-- a step by which no node changes
pub by_known : (c : Script) (orders : List Line) (w : World) (m : Made) → IsKnown orders w m → m.world.nodes ≡ w.nodes → Knows Any c orders w m
by_known c orders w m known nodes trace s k fit p full = (record { agree = known k fit.agree; tidy = λ j st e. fit.tidy j st (ap (λ l. at l j) (sym nodes) ∙ e) }, tt)

-- Facts by which nobody acts.

pub nothing_knows : (P : Known → Type 0) → ((k : Known) → P k → P (know k fact.Nothing)) → (c : Script) (orders : List Line) (w : World) → Knows P c orders w (world.nothing w)
nothing_knows P on c orders w trace s k fit p full = (
  record {
    agree = agree_still orders k w fact.Nothing fit.agree (nobody_acts k fact.Nothing refl) refl (record { count = fit.agree.knows.count; now = fit.agree.knows.now; posted = fit.agree.knows.posted });
    tidy = fit.tidy;
  },
  on k p,
)

-- Views.

posts_nodes : (limit : ℕ) (xs : List Packet) (n : ℕ) (w : World) → (fold world_after w (numbered limit n (map item.Post xs))).nodes ≡ w.nodes
posts_nodes limit [] n w = refl
posts_nodes limit (p ∷ xs) n w = by (nat_lt n limit) (λ v. posts_nodes limit xs (n + 1) v)
  where
    more : List Fact
    more = numbered limit (n + 1) (map item.Post xs)

    by : (b : Bool) → ((v : World) → (fold world_after v more).nodes ≡ v.nodes) → (fold world_after w ((if b then fact.Sent (n + 1) p ∷ [] else []) ++ more)).nodes ≡ w.nodes
    by true rest = rest (world_after w (fact.Sent (n + 1) p))
    by false rest = rest w

map_twice : {A B C : Type 0} (f : A → B) (g : B → C) (xs : List A) → map g (map f xs) ≡ map (λ x. g (f x)) xs
map_twice f g [] = refl
map_twice f g (x ∷ xs) = ap (λ l. g (f x) ∷ l) (map_twice f g xs)

pub views_nodes : (w : World) → (world.views w).world.nodes ≡ w.nodes
views_nodes w =
    ap (λ (v : World). v.nodes) (fold-append world_after w fs (full b)) ∙ (last b (fold world_after w fs)
    ∙ (ap (λ is. (fold world_after w (numbered w.limit (length w.wire) is)).nodes) (sym (map_twice view_to item.Post w.members)) ∙ posts_nodes w.limit (map view_to w.members) (length w.wire) w))
  where
    view_to : Incarnation → Packet
    view_to x = record { from = x; to = x; body = body.View w.version w.members }

    is : List Item
    is = map (λ x. item.Post (view_to x)) w.members

    fs : List Fact
    fs = numbered w.limit (length w.wire) is

    b : Bool
    b = nat_lt w.limit (fold count_posts (length w.wire) is)

    full : Bool → List Fact
    full b = if b then fact.WireFull ∷ [] else []

    last : (b : Bool) (v : World) → (fold world_after v (full b)).nodes ≡ v.nodes
    last true v = refl
    last false v = refl

pub views_knows : (c : Script) (orders : List Line) (w : World) → Knows Any c orders w (world.views w)
views_knows c orders w = by_known c orders w (world.views w) (views_known orders w) (views_nodes w)

-- A node that comes up.

new_tidy : (set : Setting) (version : ℕ) (x : Incarnation) → IsTidy (new_node set version x)
new_tidy set version x = record {
  routed = λ s h. get_replicate set.config.shards s [];
  started = λ e h. ap (λ l. l.stash) (get_replicate (length set.names) (place set e) (new_cell set));
}

up_knows : (c : Script) (orders : List Line) (w : World) (x : Incarnation) → Knows Any c orders w (tell (fact.Up x ∷ []) w)
up_knows c orders w x trace s k fit p full = (record { agree = up_known orders w x k fit.agree; tidy = tidy }, tt)
  where
    tidy : (j : ℕ) (st : Node) → at (slice_set w.nodes (x.node - 1) (Some (new_node w.set w.behaviour x))) j ≡ Some st → IsTidy st
    tidy j st e = by_place (IsTidy st) j (x.node - 1)
        (λ same. here (nat_lt (x.node - 1) (length w.nodes)) refl same)
        (λ other. fit.tidy j st (sym (placed_beside w.nodes (x.node - 1) j (Some (new_node w.set w.behaviour x)) other) ∙ e))
      where
        here : (b : Bool) → nat_lt (x.node - 1) (length w.nodes) ≡ b → j ≡ x.node - 1 → IsTidy st
        here b h same = one_of w.nodes (x.node - 1) j same e (λ old. fit.tidy j st old)
          where
            one_of : (xs : List (Option Node)) (i j : ℕ) → j ≡ i → at (slice_set xs i (Some (new_node w.set w.behaviour x))) j ≡ Some st → (at xs j ≡ Some st → IsTidy st) → IsTidy st
            one_of xs i j same e old = by_index xs i (subst (λ n. at (slice_set xs i (Some (new_node w.set w.behaviour x))) n ≡ Some st) same e)
              where
                by_index : (xs : List (Option Node)) (i : ℕ) → at (slice_set xs i (Some (new_node w.set w.behaviour x))) i ≡ Some st → IsTidy st
                by_index [] i g = absurd (none_is_not_some st g)
                by_index (y ∷ ys) zero g = subst IsTidy (some_is (new_node w.set w.behaviour x) st g) (new_tidy w.set w.behaviour x)
                by_index (y ∷ ys) (suc i) g = by_index ys i g

pub come_up_knows : Shows → (c : Script) (orders : List Line) (w : World) (n : ℕ) → let x : Incarnation = record { node = n; number = slice_index_or w.ups (n - 1) 0 + 1 } in Leads c w (tell (fact.Up x ∷ []) w) → Knows Any c orders w (world.come_up n w)
come_up_knows shows c orders w n leads =
    let x : Incarnation = record { node = n; number = slice_index_or w.ups (n - 1) 0 + 1 } in
    let m : Made = tell (fact.Up x ∷ []) w in
    then_knows Any c orders w m world.views leads (up_knows c orders w x) (λ e. views_knows c orders m.world)

-- A node that goes down.

freed_known : (c : Script) (orders : List Line) (who : Incarnation) (fs : List Fact) (h : Hand) (k : Known) (w : World) → AreFreed fs → held_in_hand c who h fs ≡ true → k.world.lists ≡ h.lists → k.world.set ≡ setting c
    → ((j : ℕ) (y : Node) → at w.nodes j ≡ Some y → is_same y.who who ≡ false) → Agree orders k w → Agree orders (fold know k fs) (fold world_after w fs)
freed_known c orders who [] h k w freed held lists set others a = a
freed_known c orders who (f ∷ fs) h k w freed held lists set others a =
    let m : (is_freed f ≡ true) × AreFreed fs = and_both (is_freed f) (list_all is_freed fs) freed in
    one f m.0 held (λ g j v e l t o b. freed_known c orders who fs g j v m.1 e l t o b)
  where
    one : (f : Fact) → is_freed f ≡ true → held_in_hand c who h (f ∷ fs) ≡ true
        → ((g : Hand) (j : Known) (v : World) → held_in_hand c who g fs ≡ true → j.world.lists ≡ g.lists → j.world.set ≡ setting c → ((i : ℕ) (y : Node) → at v.nodes i ≡ Some y → is_same y.who who ≡ false) → Agree orders j v → Agree orders (fold know j fs) (fold world_after v fs))
        → Agree orders (fold know k (f ∷ fs)) (fold world_after w (f ∷ fs))
    one (fact.Freed s n why) e g rest =
        let f : Fact = fact.Freed s n why in
        let m : (is_at who (holder (list_at h.lists s)) ≡ true) × (held_in_hand c who (hand_after c h f) fs ≡ true) = and_both (is_at who (holder (list_at h.lists s))) (held_in_hand c who (hand_after c h f) fs) g in
        let acts : actor k f ≡ Some who = ap (λ l. holder (list_at l s)) lists ∙ at_is who (holder (list_at h.lists s)) m.0 in
        rest (hand_after c h f) (know k f) (world_after w f) m.1 (ap (λ t. lists_step t k.world.lists f) set ∙ ap (λ l. lists_step (setting c) l f) lists) set others
        (agree_still orders k w f a (still_known k f (λ j y t. know_other k f who y acts (others j y (ap (λ (v : World). at v.nodes j) (sym a.world_is) ∙ t)))) refl
        (record { count = a.knows.count; now = a.knows.now; posted = a.knows.posted }))
    one f e g rest = absurd (true≢false (sym e))

down_nodes : (w : World) (st : Node) → (tell (fact.Gone st.who ∷ crash st) w).world.nodes ≡ slice_set w.nodes (st.who.node - 1) None
down_nodes w st = nodes_freed (crash st) (world_after w (fact.Gone st.who)) (crash_frees st)

down_knows : CrashStands → (c : Script) (orders : List Line) (w : World) (i : ℕ) (st : Node) → at w.nodes i ≡ Some st → Knows Any c orders w (tell (fact.Gone st.who ∷ crash st) w)
down_knows crashes c orders w i st here trace s k fit p full = (
  record {
    agree = freed_known c orders st.who (crash st) left (know k gone) v (crash_frees st) frees.held_are
        (ap (λ (u : World). u.lists) first.world_is ∙ (s.lists_are ∙ sym me.has.of_trace.lists_are)) (ap (λ (u : World). u.set) first.world_is ∙ s.set_is) others first;
    tidy = λ j y e. fit.tidy j y (before j y (ap (λ l. at l j) (sym (down_nodes w st)) ∙ e));
  },
  tt,
)
  where
    gone : Fact
    gone = fact.Gone st.who

    v : World
    v = world_after w gone

    me : IsMember c trace i st
    me = s.cluster.members i st here

    nobody : List ℕ → ℕ → ℕ → Bool
    nobody e p n = false

    left : Hand
    left = record { lists = me.hand.lists; live = []; version = me.hand.version }

    frees : CrashIs c nobody st left (crash st)
    frees = crashes c nobody st me.hand me.sound me.has.holds

    first : Agree orders (know k gone) v
    first = gone_known orders w st.who k fit.agree

    place : st.who.node - 1 ≡ i
    place = back st.who.node i me.node_is
      where
        back : (a b : ℕ) → a ≡ b + 1 → a - 1 ≡ b
        back a b e = omega (arith, e)

    less : st.who.node - 1 < length w.nodes
    less = subst (λ n. n < length w.nodes) (sym place) (inside w.nodes i st here)

    apart : (j : ℕ) (y : Node) → at (slice_set w.nodes (st.who.node - 1) None) j ≡ Some y → (j ≡ st.who.node - 1 → ⊥)
    apart j y e same = none_is_not_some y (sym (placed_at w.nodes (st.who.node - 1) None less) ∙ (ap (at (slice_set w.nodes (st.who.node - 1) None)) (sym same) ∙ e))

    before : (j : ℕ) (y : Node) → at (slice_set w.nodes (st.who.node - 1) None) j ≡ Some y → at w.nodes j ≡ Some y
    before j y e = sym (placed_beside w.nodes (st.who.node - 1) j None (apart j y e)) ∙ e

    others : (j : ℕ) (y : Node) → at v.nodes j ≡ Some y → is_same y.who st.who ≡ false
    others j y e = by (is_same y.who st.who) refl
      where
        one_less : (a b n m : ℕ) → n ≡ a + 1 → m ≡ b + 1 → n ≡ m → a ≡ b
        one_less a b n m f g h = omega (arith, f, g, h)

        by : (b : Bool) → is_same y.who st.who ≡ b → is_same y.who st.who ≡ false
        by false h = h
        by true h =
            let you : IsMember c trace j y = s.cluster.members j y (before j y e) in
            absurd (apart j y e (one_less j i y.who.node st.who.node you.node_is me.node_is (ap (λ (x : Incarnation). x.node) (same_is y.who st.who h)) ∙ sym place))

pub go_down_knows : CrashStands → (c : Script) (orders : List Line) (w : World) (n : ℕ) → Knows Any c orders w (world.go_down n w)
go_down_knows crashes c orders w n = by (node_at w n) refl
  where
    by : (o : Option Node) → at w.nodes (n - 1) ≡ o → Knows Any c orders w (world.go_down_by o w)
    by None e = none_knows Any c orders w
    by (Some st) e = down_knows crashes c orders w (n - 1) st e

-- Deliveries.

-- before the facts of an input at this node, as it was shown so far
pub along_start : (c : Script) (orders : List Line) (trace : List Fact) (w : World) (i : ℕ) (st : Node) (k : Known) → Agree orders k w → at w.nodes i ≡ Some st → Sound c trace w → Along orders k.views st.who i k w st
along_start c orders trace w i st k a here s =
    let me : IsMember c trace i st = s.cluster.members i st here in
    record {
      orders_are = a.orders_are;
      views_are = refl;
      rest_is = ap without_nodes a.world_is;
      size = ap (λ (v : World). length v.nodes) a.world_is;
      mine = ap (λ (v : World). at v.nodes i) a.world_is ∙ here;
      others = λ j ne. ap (λ (v : World). at v.nodes j) a.world_is;
      who_is = refl;
      place = me.node_is;
      placed = λ j x h. let you : IsMember c trace j x = s.cluster.members j x h in you.node_is;
      knows = a.knows;
    }

-- what a packet that is got shows of its addressee
got_opened : (k : Known) (st : Node) (n : ℕ) (p : Packet) → posted k.world n ≡ Some p → fold after st (show k (fact.Got n) st) ≡ opened (input.Packet p) st
got_opened k st n p e =
    ap (λ o. fold after st (first ++ where_some (λ (q : Packet). show_got q.from q.body (fold after st first)) o)) e
    ∙ (fold-append after st first (show_got p.from p.body (fold after st first)) ∙ ap (λ s. fold after s (show_got p.from p.body s)) idle)
  where
    first : List Act
    first = show_item (fact.Got n) st

    idle : fold after st first ≡ st
    idle = ap (λ o. record st { coordinator = o }) (same_some (told (fact.Got n)) st.coordinator (λ x. refl))

got_nobody : (c : Script) (orders : List Line) (trace : List Fact) (w : World) (j : ℕ) (p : Packet) (k : Known) → Agree orders k w → posted k.world (suc j) ≡ Some p → is_among p.to w.members ≡ false → Sound c trace w
    → Agree orders (know k (fact.Got (suc j))) (world_after w (fact.Got (suc j)))
got_nobody c orders trace w j p k a there nobody s =
    let f : Fact = fact.Got (suc j) in
    let acts : actor k f ≡ Some p.to = ap (option_map (λ (q : Packet). q.to)) there in
    agree_still orders k w f a (still_known k f (λ i y h. know_other k f p.to y acts (other i y (ap (λ (v : World). at v.nodes i) (sym a.world_is) ∙ h) (is_same y.who p.to) refl))) refl
    (record { count = a.knows.count; now = a.knows.now; posted = a.knows.posted })
  where
    other : (i : ℕ) (y : Node) → at w.nodes i ≡ Some y → (b : Bool) → is_same y.who p.to ≡ b → is_same y.who p.to ≡ false
    other i y h false e = e
    other i y h true e = absurd (true≢false (sym (s.are_members i y h) ∙ (ap (λ x. is_among x w.members) (same_is y.who p.to e) ∙ nobody)))

-- a packet from before the number of shards last changed
got_before : (orders : List Line) (w : World) (j : ℕ) (k : Known) → Agree orders k w → nat_lt w.past (suc j) ≡ false → Agree orders (know k (fact.Got (suc j))) (world_after w (fact.Got (suc j)))
got_before orders w j k a before =
    let f : Fact = fact.Got (suc j) in
    agree_still orders k w f a (nobody_acts k f (ap (option_map (λ (q : Packet). q.to)) (posted_before orders k w j a before))) refl (record { count = a.knows.count; now = a.knows.now; posted = a.knows.posted })

told_view : (views : List (List Incarnation)) (p : Packet) → IsViewOf views p.body → IsTold views (input.Packet p)
told_view views p h = by p.body h
  where
    by : (b : Body) → IsViewOf views b → IsTold views (input.Packet (record p { body = b }))
    by (body.View v xs) h = h.1
    by b h = tt

-- a packet that is got, at its addressee
over_known : Shows → (c : Script) (orders : List Line) (trace : List Fact) (w : World) (j : ℕ) (p : Packet) (k : Known) → Fits orders k w → slice_get w.wire j ≡ Some p → Sound c trace w
    → let got : Fact = fact.Got (suc j) in let m : Made = world.hand_over (suc j) p (world_after w got) in m.world.full ≡ false → Fits orders (fold know (know k got) m.facts) m.world
over_known shows c orders trace w j p k fit e s = by (nat_lt w.past (suc j)) refl
  where
    got : Fact
    got = fact.Got (suc j)

    v : World
    v = world_after w got

    after_got : Sound c (trace ++ got ∷ []) v
    after_got = heard shows.laws c w got refl refl trace s

    IsOver : Made → Type 0
    IsOver m = m.world.full ≡ false → Fits orders (fold know (know k got) m.facts) m.world

    under : (a j : ℕ) → nat_lt a (suc j) ≡ true → a ≤ j
    under a j h = grind (arith, nat_tests)

    at_node : nat_lt w.past (suc j) ≡ true → (st : Node) → at w.nodes (p.to.node - 1) ≡ Some st → st.who ≡ p.to → IsOver (handle (input.Packet p) st v)
    at_node since st up who full =
        let i : ℕ = p.to.node - 1 in
        let there : posted k.world (suc j) ≡ Some p = posted_is orders k w j p fit.agree since e in
        let well : IsWell c w.lists p = s.wire_is j p (under w.past j since) e in
        let a : Along orders k.views st.who i (know k got) v (opened (input.Packet p) st) =
        subst (Along orders k.views st.who i (know k got) v) (got_opened k st (suc j) p there)
        (along_shown orders k.views st.who i k w st got (plain k got (λ u. refl) (λ x n o. refl) (λ u o. refl)) (along_start c orders trace w i st k fit.agree up s)
        (ap (option_map (λ (q : Packet). q.to)) there ∙ ap Some (sym who)) (record { count = fit.agree.knows.count; now = fit.agree.knows.now; posted = fit.agree.knows.posted })) in
        (handle_known shows c orders k.views (trace ++ got ∷ []) v i st (input.Packet p) (know k got) up
        (well_may c v p (record { genuine = well.genuine; different = well.different; carried = well.carried }) (λ e. after_got.queued_are tt) (trace ++ got ∷ []) after_got st i up) after_got fit.tidy refl a there
        (told_view k.views p (fit.agree.knows.posted j p e)) full).0

    here : nat_lt w.past (suc j) ≡ true → (b : Bool) → is_among p.to w.members ≡ b → IsOver (if b then give (input.Packet p) (node_at v p.to.node) v else tell [] v)
    here since false h = λ full. record { agree = got_nobody c orders trace w j p k fit.agree (posted_is orders k w j p fit.agree since e) h s; tidy = fit.tidy }
    here since true h =
        let t : IsThere w p.to = s.members_are p.to h in
        subst (λ o. IsOver (give (input.Packet p) o v)) (sym t.is_up) (at_node since t.node t.is_up t.who_is)

    by : (b : Bool) → nat_lt w.past (suc j) ≡ b → IsOver (if b && is_among p.to w.members then give (input.Packet p) (node_at v p.to.node) v else tell [] v)
    by true since = here since (is_among p.to w.members) refl
    by false before = λ full. record { agree = got_before orders w j k fit.agree before; tidy = fit.tidy }

-- one step and then another, where the wire isn't full after the first
pub then_is : (m : Made) (q : Step) → m.world.full ≡ false → then_step m q ≡ record { facts = m.facts ++ (q m.world).facts; world = (q m.world).world }
then_is m q e = step m.world.full e
  where
    step : (b : Bool) → b ≡ false → elim b as (λ b. Made) [ true ↦ m | false ↦ let n : Made = q m.world in record { facts = m.facts ++ n.facts; world = n.world } ] ≡ record { facts = m.facts ++ (q m.world).facts; world = (q m.world).world }
    step false e = refl
    step true e = absurd (true≢false e)

deliver_by_knows : Shows → (c : Script) (orders : List Line) (w : World) (j : ℕ) (o : Option Packet) → slice_get w.wire j ≡ o → w.full ≡ false → Knows Any c orders w (world.deliver_by (suc j) o w)
deliver_by_knows shows c orders w j None e going = nothing_knows Any (λ k p. tt) c orders w
deliver_by_knows shows c orders w j (Some p) e going =
    let m : Made = tell (fact.Got (suc j) ∷ []) w in
    subst (Knows Any c orders w) (sym (then_is m (world.hand_over (suc j) p) going)) (λ trace s k fit any full. (over_known shows c orders trace w j p k fit e s full, tt))

pub deliver_knows : Shows → (c : Script) (orders : List Line) (w : World) (n : ℕ) → w.full ≡ false → Knows Any c orders w (world.deliver n w)
deliver_knows shows c orders w zero going = nothing_knows Any (λ k p. tt) c orders w
deliver_knows shows c orders w (suc j) going = deliver_by_knows shows c orders w j (slice_get w.wire j) refl going

more_known : Shows → (c : Script) (orders : List Line) (w : World) (q : Step) → ((v : World) → v.full ≡ false → Knows Any c orders v (q v)) → w.full ≡ false → (ks : List ℕ) → Knows Any c orders w (elim ks as (λ x. Made) [ [] ↦ tell [] w | k ∷ ks ↦ then_step (world.deliver k w) q ])
more_known shows c orders w q h going [] = none_knows Any c orders w
more_known shows c orders w q h going (k ∷ ks) = then_knows Any c orders w (world.deliver k w) q (deliver_leads shows.laws c w k) (deliver_knows shows c orders w k going) (λ e. h (world.deliver k w).world e)

pub drain_knows : Shows → (c : Script) (orders : List Line) (from n : ℕ) (w : World) → w.full ≡ false → Knows Any c orders w (world.drain from n w)
drain_knows shows c orders from zero w going = none_knows Any c orders w
drain_knows shows c orders from (suc n) w going = more_known shows c orders w (world.drain from n) (λ v e. drain_knows shows c orders from n v e) going (filter (nat_lt from) w.fresh)
