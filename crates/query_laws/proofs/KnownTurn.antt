-- The queries after one input at a node.
use Rattle.std.proofs.Common.{◌≡◌, ℕ, ◌+◌, ◌-◌, List, [], ◌∷◌, ◌++◌, length, sym, ap, ap₂, subst, ◌∙◌, refl, true, false, true≢false, arith}
use Rattle.std.specs.Prelude.{Bool, nat_lt, fold, Some, slice_set, if◌then◌else◌}
use Rattle.std.specs.List.{list_all}
use Rattle.std.proofs.lemmas.List.{append-nil}
use Rattle.std.proofs.lemmas.List.Sums.{fold-append}
use Rattle.yard_model.specs.declared.fact.Fact.{Fact}
use Rattle.yard_model.specs.declared.fact.Fact.TheVariants as fact
use Rattle.yard_model.specs.declared.out.Item.{Item}
use Rattle.yard_model.specs.declared.out.Item.TheVariants as item
use Rattle.yard_model.specs.declared.input.Input.{Input}
use Rattle.yard_model.specs.declared.charter.Line.{Line}
use Rattle.yard_model.specs.declared.incarnation.Incarnation.{Incarnation}
use Rattle.yard_model.specs.Node.{Node, Act, after, items_of, turn}
use Rattle.yard_model.specs.Queries.{Known, know}
use Rattle.yard_model.specs.Script.{Script, setting}
use Rattle.yard_model.specs.Trace.{lists_of}
use Rattle.yard_model.specs.Words.{at}
use Rattle.yard_model.specs.World.{World, Made, world_after, all_sends, numbered, count_posts, input_facts, with_node, handle}
use Rattle.plain_laws.proofs.Booleans.{and_both, not_below}
use Rattle.plain_laws.proofs.Lists.{some_is, inside, placed_at, placed_beside, by_place}
use Rattle.actor_laws.specs.Owes.{facts_in}
use Rattle.node_laws.specs.Cluster.{IsMember}
use Rattle.node_laws.specs.NodeTurns.{MayTake}
use Rattle.node_laws.specs.Traces.{recorded, TurnGoesOn}
use Rattle.play_laws.specs.Sound.{Sound}
use Rattle.play_laws.proofs.Handled.{Laws}
use Rattle.play_laws.proofs.Tells.{is_no_fail, turn_still, turn_tells}
use Rattle.play_laws.proofs.Turned.{is_still, nodes_still}
use Rattle.play_laws.specs.TurnItems.{is_turn_fact, is_turn_item}
use Rattle.query_laws.specs.Shown.{shown, opened, packet_of, IsTold, IsTidy, IsShown, TurnShown}
use Rattle.query_laws.proofs.Along.{Along}
use Rattle.node_laws.proofs.NodeParts.{who_stays}
use Rattle.query_laws.proofs.KnownItems.{along_items, packet_turn}
use Rattle.query_laws.proofs.Steps.{Agree, along_last}

-- what is known of nodes by themselves, of all together, and of what items show
pub record Shows : Type 0 where
  pub laws : Laws
  pub shown : TurnShown

abbrev pub AreTidy : World → Type 0
AreTidy w = (j : ℕ) (st : Node) → at w.nodes j ≡ Some st → IsTidy st

-- the queries know this world, which is between two inputs
pub record Fits (orders : List Line) (k : Known) (w : World) : Type 0 where
  pub agree : Agree orders k w
  pub tidy : AreTidy w

-- What the facts of an input leave.

-- of the packet that was got last
packet_on : (limit : ℕ) (is : List Item) (n : ℕ) (k : Known) → list_all is_turn_item is ≡ true → (fold know k (numbered limit n is)).packet ≡ k.packet
packet_on limit [] n k turn = refl
packet_on limit (item.Fact f ∷ is) n k turn =
    let t : (is_turn_fact f ≡ true) × (list_all is_turn_item is ≡ true) = and_both (is_turn_fact f) (list_all is_turn_item is) turn in
    packet_on limit is n (know k f) t.1 ∙ packet_turn k.world k.packet f t.0
packet_on limit (item.Post p ∷ is) n k turn = by (nat_lt n limit) (λ j. packet_on limit is (n + 1) j (and_both (is_turn_item (item.Post p)) (list_all is_turn_item is) turn).1)
  where
    more : List Fact
    more = numbered limit (n + 1) is

    by : (b : Bool) → ((j : Known) → (fold know j more).packet ≡ j.packet) → (fold know k ((if b then fact.Sent (n + 1) p ∷ [] else []) ++ more)).packet ≡ k.packet
    by true rest = rest (know k (fact.Sent (n + 1) p))
    by false rest = rest k

pub nodes_on : (limit : ℕ) (is : List Item) (n : ℕ) (w : World) → list_all is_still (facts_in is) ≡ true → (fold world_after w (numbered limit n is)).nodes ≡ w.nodes
nodes_on limit [] n w still = refl
nodes_on limit (item.Fact f ∷ is) n w still =
    let t : (is_still f ≡ true) × (list_all is_still (facts_in is) ≡ true) = and_both (is_still f) (list_all is_still (facts_in is)) still in
    nodes_on limit is n (world_after w f) t.1 ∙ nodes_still w.set w.behaviour w.nodes f t.0
nodes_on limit (item.Post p ∷ is) n w still = by (nat_lt n limit) (λ v. nodes_on limit is (n + 1) v still)
  where
    more : List Fact
    more = numbered limit (n + 1) is

    by : (b : Bool) → ((v : World) → (fold world_after v more).nodes ≡ v.nodes) → (fold world_after w ((if b then fact.Sent (n + 1) p ∷ [] else []) ++ more)).nodes ≡ w.nodes
    by true rest = rest (world_after w (fact.Sent (n + 1) p))
    by false rest = rest w

-- Where the wire isn't full.

full_ends : (w : World) (fs : List Fact) → (fold world_after w (fs ++ fact.WireFull ∷ [])).full ≡ true
full_ends w fs = ap (λ (v : World). v.full) (fold-append world_after w fs (fact.WireFull ∷ []))

pub not_full : (w : World) (is : List Item) → (fold world_after w (input_facts w is)).full ≡ false → nat_lt w.limit (fold count_posts (length w.wire) is) ≡ false
not_full w is e = by (nat_lt w.limit (fold count_posts (length w.wire) is)) refl
  where
    fs : List Fact
    fs = numbered w.limit (length w.wire) is

    by : (b : Bool) → nat_lt w.limit (fold count_posts (length w.wire) is) ≡ b → nat_lt w.limit (fold count_posts (length w.wire) is) ≡ false
    by false h = h
    by true h = absurd (true≢false (sym (full_ends w fs) ∙ (ap (λ b. (fold world_after w (fs ++ (if b then fact.WireFull ∷ [] else []))).full) (sym h) ∙ e)))

pub all_numbered : (w : World) (is : List Item) → nat_lt w.limit (fold count_posts (length w.wire) is) ≡ false → input_facts w is ≡ numbered w.limit (length w.wire) is
all_numbered w is e = ap (λ b. numbered w.limit (length w.wire) is ++ (if b then fact.WireFull ∷ [] else [])) e ∙ append-nil (numbered w.limit (length w.wire) is)

-- A turn.

pub tidy_with : (w v : World) (i : ℕ) (st now : Node) → at w.nodes i ≡ Some st → v.nodes ≡ slice_set w.nodes i (Some now) → AreTidy w → IsTidy now → AreTidy v
tidy_with w v i st now here nodes all one j y e = by_place (IsTidy y) j i
    (λ same. subst IsTidy (some_is now y (sym (placed_at w.nodes i (Some now) (inside w.nodes i st here)) ∙ (ap (at (slice_set w.nodes i (Some now))) (sym same) ∙ (ap (λ l. at l j) (sym nodes) ∙ e)))) one)
    (λ other. all j y (sym (placed_beside w.nodes i j (Some now) other) ∙ (ap (λ l. at l j) (sym nodes) ∙ e)))

abbrev IsHandled : List Line → Known → World → Node → List Act → Type 0
IsHandled orders k w st acts = let fs : List Fact = input_facts w (items_of acts) in (fold world_after w fs).full ≡ false → Fits orders (fold know k fs) (with_node (fold after st acts) (fold world_after w fs)) × ((fold know k fs).packet ≡ k.packet)

turn_known : Shows → (c : Script) (orders : List Line) (views : List (List Incarnation)) (trace : List Fact) (w : World) (i : ℕ) (st : Node) (given : Input) (k : Known) → at w.nodes i ≡ Some st → MayTake c (recorded c trace) st given → Sound c trace w → AreTidy w → is_no_fail given ≡ true
    → Along orders views st.who i k w (opened given st) → k.packet ≡ packet_of given → IsTold k.views given
    → IsHandled orders k w st (turn (all_sends c) (lists_of (setting c) trace) given st)
turn_known shows c orders views trace w i st given k here may s tidy no_fail a packet told_is full = (
  record {
    agree = subst (λ fs. Agree orders (fold know k fs) (with_node now (fold world_after w fs))) (sym all_of)
        (along_last orders views st.who i (fold know k fs) (fold world_after w fs) now (subst (Along orders views st.who i (fold know k fs) (fold world_after w fs)) lead.shown_is along));
    tidy = subst (λ fs. AreTidy (with_node now (fold world_after w fs))) (sym all_of) (tidy_with w (with_node now (fold world_after w fs)) i st now here nodes tidy lead.tidy);
  },
  subst (λ fs. (fold know k fs).packet ≡ k.packet) (sym all_of) (packet_on w.limit is (length w.wire) k turns),
)
  where
    acts : List Act
    acts = turn (all_sends c) (lists_of (setting c) trace) given st

    now : Node
    now = fold after st acts

    is : List Item
    is = items_of acts

    fs : List Fact
    fs = numbered w.limit (length w.wire) is

    past : nat_lt w.limit (fold count_posts (length w.wire) is) ≡ false
    past = not_full w is full

    all_of : input_facts w is ≡ fs
    all_of = all_numbered w is past

    me : IsMember c trace i st
    me = s.cluster.members i st here

    set_is : k.world.set ≡ setting c
    set_is = ap (λ (v : World). v.set) a.rest_is ∙ s.set_is

    lists_are : k.world.lists ≡ me.hand.lists
    lists_are = ap (λ (v : World). v.lists) a.rest_is ∙ (s.lists_are ∙ sym me.has.of_trace.lists_are)

    lead : IsShown k given st acts
    lead = subst (λ l. IsShown k given st (turn (all_sends c) l given st)) me.has.of_trace.lists_are
        (shows.shown c (recorded c trace) k st given me.hand s.script_is me.sound me.viewed (tidy i st here) me.has.holds may set_is lists_are packet told_is)

    go : TurnGoesOn c trace (recorded c trace) me.hand st acts
    go = shows.laws.guards c trace (recorded c trace) me.hand st given s.script_is me.sound me.viewed may s.cluster.guarded_are (shows.laws.stays c trace) me.has.of_trace me.has.holds

    turns : list_all is_turn_item is ≡ true
    turns = turn_tells (all_sends c) (lists_of (setting c) trace) given st no_fail

    along : Along orders views st.who i (fold know k fs) (fold world_after w fs) (shown k (opened given st) is)
    along = along_items c orders views st.who i w.limit is (length w.wire) k w (opened given st) me.hand set_is lists_are turns go.posts_are go.own_are go.held_are (not_below w.limit (fold count_posts (length w.wire) is) past) a

    nodes : (with_node now (fold world_after w fs)).nodes ≡ slice_set w.nodes i (Some now)
    nodes = ap₂ (λ l n. slice_set l n (Some now)) (nodes_on w.limit is (length w.wire) w (turn_still (all_sends c) (lists_of (setting c) trace) given st)) (back now.who.node i (ap (λ (x : Incarnation). x.node) (who_stays st acts) ∙ me.node_is))
      where
        back : (a b : ℕ) → a ≡ b + 1 → a - 1 ≡ b
        back a b e = omega (arith, e)

pub handle_known : Shows → (c : Script) (orders : List Line) (views : List (List Incarnation)) (trace : List Fact) (w : World) (i : ℕ) (st : Node) (given : Input) (k : Known) → at w.nodes i ≡ Some st → MayTake c (recorded c trace) st given → Sound c trace w → AreTidy w → is_no_fail given ≡ true
    → Along orders views st.who i k w (opened given st) → k.packet ≡ packet_of given → IsTold k.views given
    → let m : Made = handle given st w in m.world.full ≡ false → Fits orders (fold know k m.facts) m.world × ((fold know k m.facts).packet ≡ k.packet)
handle_known shows c orders views trace w i st given k here may s tidy no_fail a packet told_is =
    subst (IsHandled orders k w st) (ap₂ (λ x l. turn x l given st) (sym s.sends_are) (sym s.lists_are)) (turn_known shows c orders views trace w i st given k here may s tidy no_fail a packet told_is)
