-- The queries after the orders of a script, but for the settling.
use Rattle.std.proofs.Common.{◌≡◌, ℕ, zero, suc, ◌+◌, ◌-◌, List, [], ◌∷◌, ◌++◌, map, sym, ap, subst, ◌∙◌, refl, true, false, true≢false, arith}
use Rattle.std.specs.Prelude.{Bool, ◌==◌, ◌||◌, not, find, fold, take, Option, Some, None, is_none, slice_set, if◌then◌else◌}
use Rattle.std.specs.List.{list_any}
use Rattle.std.specs.Option.{option_map, option_and_then}
use Rattle.std.proofs.lemmas.List.{append_assoc}
use Rattle.std.proofs.lemmas.List.Sums.{fold-append}
use Rattle.yard_model.specs.declared.fact.Fact.{Fact}
use Rattle.yard_model.specs.declared.fact.Fact.TheVariants as fact
use Rattle.yard_model.specs.declared.out.Item.TheVariants as item
use Rattle.yard_model.specs.declared.input.Input.{Input}
use Rattle.yard_model.specs.declared.input.Input.TheVariants as input
use Rattle.yard_model.specs.declared.event.Command.{Command}
use Rattle.yard_model.specs.declared.charter.Line.{Line}
use Rattle.yard_model.specs.declared.charter.Order.{Order}
use Rattle.yard_model.specs.declared.charter.Order.TheVariants as order
use Rattle.yard_model.specs.declared.incarnation.Incarnation.{Incarnation}
use Rattle.yard_model.specs.declared.incarnation.Keep.{Keep}
use Rattle.yard_model.specs.Follow.{each_follows}
use Rattle.yard_model.specs.Genuine.{is_producer, is_brought}
use Rattle.yard_model.specs.Move.{told}
use Rattle.yard_model.specs.Node.{Node, Act, after, by_entities, items_of}
use Rattle.yard_model.specs.Queries.{Known, know, actor, order_at, told_by, show, show_item, show_order}
use Rattle.yard_model.specs.Script.{Script}
use Rattle.yard_model.specs.SlotLists.{queue_list}
use Rattle.yard_model.specs.SlotReads.{queued_in_all}
use Rattle.yard_model.specs.Words.{at}
use Rattle.yard_model.specs.World as world
use Rattle.yard_model.specs.World.{World, Made, Step, world_after, tell, then_step, input_facts, with_node, handle, give_or, give, node_at, queue_holder, is_of_node, ordered_of, is_active_at, active_node, with_order, play_line}
use Rattle.plain_laws.proofs.Booleans.{and_both, number_itself, of_not}
use Rattle.node_laws.specs.Cluster.{IsMember}
use Rattle.node_laws.specs.Traces.{recorded}
use Rattle.play_laws.specs.Sound.{Sound}
use Rattle.play_laws.proofs.Handled.{Laws}
use Rattle.play_laws.proofs.Orders.{IsPlaced, Place, May, at_place, active_placed, active_is, give_leads}
use Rattle.play_laws.proofs.Tells.{is_no_fail}
use Rattle.play_laws.proofs.Steps.{heard, ordered_sound}
use Rattle.query_laws.specs.Shown.{opened, packet_of, IsTold, IsShown}
use Rattle.query_laws.proofs.Along.{KnowsViews, Along, plain, along_shown}
use Rattle.query_laws.proofs.KnownSteps.{Knows, Any, NoPacket, none_knows, then_knows, if_knows, nothing_knows, along_start, then_is}
use Rattle.query_laws.proofs.KnownTurn.{Shows, Fits, handle_known, tidy_with, not_full, all_numbered}
use Rattle.query_laws.proofs.ShowBase.{same_some}
use Rattle.query_laws.proofs.Steps.{Agree, agree_still, nobody_acts, along_last}

-- Inputs that no fact opens.

pub give_or_knows : Shows → (c : Script) (orders : List Line) (w : World) (i : Input) (o : Option Node) (q : Step) → IsPlaced w.nodes o → May c w i → is_no_fail i ≡ true → ((st : Node) → opened i st ≡ st) → packet_of i ≡ None → ((views : List (List Incarnation)) → IsTold views i)
    → Knows NoPacket c orders w (q w) → Knows NoPacket c orders w (give_or i o q w)
give_or_knows shows c orders w i None q placed may no_fail same packet told_is rest = rest
give_or_knows shows c orders w i (Some st) q placed may no_fail same packet told_is rest = λ trace s k fit p full.
    let at_k : Place w.nodes st = placed st refl in
    let done : Fits orders (fold know k (handle i st w).facts) (handle i st w).world × ((fold know k (handle i st w).facts).packet ≡ k.packet) =
    handle_known shows c orders k.views trace w at_k.place st i k at_k.here (may trace s st at_k.place at_k.here) s fit.tidy no_fail
    (subst (Along orders k.views st.who at_k.place k w) (sym (same st)) (along_start c orders trace w at_k.place st k fit.agree at_k.here s)) (p ∙ sym packet) (told_is k.views) full in
    (done.0, done.1 ∙ p)

give_knows : Shows → (c : Script) (orders : List Line) (w : World) (i : Input) (o : Option Node) → IsPlaced w.nodes o → May c w i → is_no_fail i ≡ true → ((st : Node) → opened i st ≡ st) → packet_of i ≡ None → ((views : List (List Incarnation)) → IsTold views i)
    → Knows NoPacket c orders w (give i o w)
give_knows shows c orders w i o placed may no_fail same packet told_is = give_or_knows shows c orders w i o (tell []) placed may no_fail same packet told_is (none_knows NoPacket c orders w)

pub silent_knows : (c : Script) (orders : List Line) (w : World) → Knows NoPacket c orders w (world.nothing w)
silent_knows c orders w = nothing_knows NoPacket (λ k p. p) c orders w

-- a node's acts are known
abbrev AreKnown : List Line → Known → World → Node → List Act → Type 0
AreKnown orders k w st acts = let fs : List Fact = input_facts w (items_of acts) in (fold world_after w fs).full ≡ false → Fits orders (fold know k fs) (with_node (fold after st acts) (fold world_after w fs)) × ((fold know k fs).packet ≡ None)

-- a write of an entity is to fail
pub fail_knows : Shows → (c : Script) (orders : List Line) (w : World) (e : List ℕ) (a : Keep) → is_brought c e ≡ true → Knows NoPacket c orders w (give_or (input.FailWrite e a) (active_node e w) world.nothing w)
fail_knows shows c orders w e a named = by (active_node e w) refl
  where
    armed : Fact
    armed = fact.Armed e a

    back : (a b : ℕ) → a ≡ b + 1 → a - 1 ≡ b
    back a b e = omega (arith, e)

    by : (o : Option Node) → active_node e w ≡ o → Knows NoPacket c orders w (give_or (input.FailWrite e a) o world.nothing w)
    by None none = silent_knows c orders w
    by (Some st) active = λ trace s k fit p full.
        let at_k : Place w.nodes st = active_placed e w st active in
        let me : IsMember c trace at_k.place st = s.cluster.members at_k.place st at_k.here in
        let now : Node = fold after st (by_entities (told armed) ∷ []) in
        let is : is_active_at e (Some st) ≡ true = active_is e w st active in
        let lead : IsShown k (input.FailWrite e a) st (by_entities (told armed) ∷ []) = subst (λ (b : Bool). IsShown k (input.FailWrite e a) st (map by_entities (if b then told armed ∷ [] else []))) is
        (shows.shown c (recorded c trace) k st (input.FailWrite e a) me.hand s.script_is me.sound me.viewed (fit.tidy at_k.place st at_k.here) me.has.holds named
        (ap (λ (v : World). v.set) fit.agree.world_is ∙ s.set_is) (ap (λ (v : World). v.lists) fit.agree.world_is ∙ (s.lists_are ∙ sym me.has.of_trace.lists_are)) p tt) in
        let mine : actor k armed ≡ Some st.who = ap (λ v. option_map (λ (st : Node). st.who) (active_node e v)) fit.agree.world_is ∙ ap (option_map (λ (st : Node). st.who)) active in
        let along : Along orders k.views st.who at_k.place (know k armed) (world_after w armed) now =
        subst (Along orders k.views st.who at_k.place (know k armed) (world_after w armed)) lead.shown_is
        (along_shown orders k.views st.who at_k.place k w st armed (plain k armed (λ v. refl) (λ x n o. refl) (λ v o. refl)) (along_start c orders trace w at_k.place st k fit.agree at_k.here s) mine
        (record { count = fit.agree.knows.count; now = fit.agree.knows.now; posted = fit.agree.knows.posted })) in
        let known : AreKnown orders k w st (by_entities (told armed) ∷ []) = λ full.
        let all_of : input_facts w (item.Fact armed ∷ []) ≡ armed ∷ [] = all_numbered w (item.Fact armed ∷ []) (not_full w (item.Fact armed ∷ []) full) in (
          subst (λ fs. Fits orders (fold know k fs) (with_node now (fold world_after w fs))) (sym all_of) (record {
            agree = along_last orders k.views st.who at_k.place (know k armed) (world_after w armed) now along;
            tidy = tidy_with w (with_node now (world_after w armed)) at_k.place st now at_k.here (ap (λ n. slice_set w.nodes n (Some now)) (back st.who.node at_k.place me.node_is)) fit.tidy lead.tidy;
          }),
          subst (λ fs. (fold know k fs).packet ≡ None) (sym all_of) p,
        ) in
        subst (λ (b : Bool). AreKnown orders k w st (map by_entities (if b then told armed ∷ [] else []))) (sym is) known full

-- Producing and sending.

send_waiting_knows : Shows → (c : Script) (orders : List Line) (p n k : ℕ) (w : World) → is_producer c p ≡ true → Knows NoPacket c orders w (world.send_waiting p n k w)
send_waiting_knows shows c orders p n zero w producer = none_knows NoPacket c orders w
send_waiting_knows shows c orders p n (suc k) w producer =
    let m : Made = give (input.Send p) (node_at w n) w in
    then_knows NoPacket c orders w m (world.send_waiting p n k) (give_leads shows.laws c w (input.Send p) (node_at w n) (at_place w n) (λ trace s st j e. producer) tt)
    (give_knows shows c orders w (input.Send p) (node_at w n) (at_place w n) (λ trace s st j e. producer) refl (λ st. refl) refl (λ views. tt)) (λ e. send_waiting_knows shows c orders p n k m.world producer)

send_all_knows : Shows → (c : Script) (orders : List Line) (p n : ℕ) (w : World) → is_producer c p ≡ true → Knows NoPacket c orders w (world.send_all_waiting p n w)
send_all_knows shows c orders p n w producer =
    let k : ℕ = ordered_of w p - queued_in_all (queue_list w.lists p) in
    if_knows NoPacket c orders w (is_of_node n (queue_holder w p)) (world.send_waiting p n k w) (tell [] w) (λ e. send_waiting_knows shows c orders p n k w producer) (λ e. none_knows NoPacket c orders w)

pub produce_knows : Shows → (c : Script) (orders : List Line) (p n : ℕ) (w : World) → is_producer c p ≡ true → Knows NoPacket c orders w (world.produce p n w)
produce_knows shows c orders p n w producer =
    let m : Made = give (input.Produce p) (node_at w n) w in
    if_knows NoPacket c orders w (is_none (node_at w n) || is_of_node n (queue_holder w p)) (world.nothing w) (then_step m (world.send_all_waiting p n)) (λ e. silent_knows c orders w)
    (λ e. then_knows NoPacket c orders w m (world.send_all_waiting p n) (give_leads shows.laws c w (input.Produce p) (node_at w n) (at_place w n) (λ trace s st j f. producer) tt)
    (give_knows shows c orders w (input.Produce p) (node_at w n) (at_place w n) (λ trace s st j f. producer) refl (λ st. refl) refl (λ views. tt)) (λ f. send_all_knows shows c orders p n m.world producer))

pub waits_knows : (c : Script) (orders : List Line) (w : World) (p : ℕ) (e : List ℕ) (d : Command) → Knows NoPacket c orders w (tell (fact.Waits p e d ∷ []) w)
waits_knows c orders w p e d trace s k fit none full = (
  record {
    agree = agree_still orders k w (fact.Waits p e d) fit.agree (nobody_acts k (fact.Waits p e d) refl) refl (record { count = fit.agree.knows.count; now = fit.agree.knows.now; posted = fit.agree.knows.posted });
    tidy = fit.tidy;
  },
  none,
)

-- Lines.

-- the queries find this order at the line's number
abbrev pub AllListed : List Line → List Line → Type 0
AllListed orders [] = Unit {0}
AllListed orders (l ∷ ls) = (order_at orders l.number ≡ Some l.order) × AllListed orders ls

abbrev is_numbered_after : List Line → Line → Bool
is_numbered_after before l = not (list_any (λ (m : Line). m.number == l.number) before)

listed_at : (before ls : List Line) (l : Line) → list_any (λ (m : Line). m.number == l.number) before ≡ false → order_at (before ++ (l ∷ ls)) l.number ≡ Some l.order
listed_at [] ls l none = by (l.number == l.number) (itself l.number)
  where
    itself : (n : ℕ) → (n == n) ≡ true
    itself n = number_itself n n refl

    by : (b : Bool) → b ≡ true → option_map (λ (m : Line). m.order) (if b then Some l else find (λ (m : Line). m.number == l.number) ls) ≡ Some l.order
    by true e = refl
    by false e = absurd (true≢false (sym e))
listed_at (m ∷ ms) ls l none = by (m.number == l.number) none (λ e. listed_at ms ls l e)
  where
    by : (b : Bool) → (b || list_any (λ (m : Line). m.number == l.number) ms) ≡ false → (list_any (λ (m : Line). m.number == l.number) ms ≡ false → order_at (ms ++ (l ∷ ls)) l.number ≡ Some l.order)
        → option_map (λ (x : Line). x.order) (if b then Some m else find (λ (x : Line). x.number == l.number) (ms ++ (l ∷ ls))) ≡ Some l.order
    by true e rest = absurd (true≢false e)
    by false e rest = rest e

pub all_listed : (before ls : List Line) → each_follows is_numbered_after before ls ≡ true → AllListed (before ++ ls) ls
all_listed before [] h = tt
all_listed before (l ∷ ls) h =
    let m : (is_numbered_after before l ≡ true) × (each_follows is_numbered_after (before ++ l ∷ []) ls ≡ true) = and_both (is_numbered_after before l) (each_follows is_numbered_after (before ++ l ∷ []) ls) h in
    (listed_at before ls l (of_not (list_any (λ (x : Line). x.number == l.number) before) m.0), subst (λ all. AllListed all ls) (append_assoc before (l ∷ []) ls) (all_listed (before ++ l ∷ []) ls m.1))

pub listed_take : (orders : List Line) (n : ℕ) (ls : List Line) → AllListed orders ls → AllListed orders (take n ls)
listed_take orders zero ls h = tt
listed_take orders (suc n) [] h = tt
listed_take orders (suc n) (l ∷ ls) h = (h.0, listed_take orders n ls h.1)

-- what an order shows of the node that it tells to leave, or gives a tick
line_opened : (k : Known) (st : Node) (n : ℕ) (o : Order) → order_at k.orders n ≡ Some o → fold after st (show k (fact.At n) st) ≡ fold after st (show_order (Some o) st)
line_opened k st n o e =
    ap (λ x. fold after st (first ++ show_order x (fold after st first))) e
    ∙ (fold-append after st first (show_order (Some o) (fold after st first)) ∙ ap (λ s. fold after s (show_order (Some o) s)) idle)
  where
    first : List Act
    first = show_item (fact.At n) st

    idle : fold after st first ≡ st
    idle = ap (λ o. record st { coordinator = o }) (same_some (told (fact.At n)) st.coordinator (λ x. refl))

pub ordered_views : (views : List (List Incarnation)) (w : World) (n : ℕ) (o : Order) → KnowsViews views w → KnowsViews views (world_after (with_order (Some o) w) (fact.At n))
ordered_views views w n (order.Send p e d) k = record { count = k.count; now = k.now; posted = k.posted }
ordered_views views w n o k = record { count = k.count; now = k.now; posted = k.posted }

pub ordered_nodes : (w : World) (o : Order) → (with_order (Some o) w).nodes ≡ w.nodes
ordered_nodes w (order.Send p e d) = refl
ordered_nodes w o = refl

ordered_full : (w : World) (o : Order) → (with_order (Some o) w).full ≡ w.full
ordered_full w (order.Send p e d) = refl
ordered_full w o = refl

-- an order that opens nothing of a node
line_agrees : (orders : List Line) (w : World) (l : Line) (k : Known) → order_at orders l.number ≡ Some l.order → option_and_then (told_by w) (Some l.order) ≡ None → Agree orders k w
    → Agree orders (know k (fact.At l.number)) (world_after (with_order (Some l.order) w) (fact.At l.number))
line_agrees orders w l k e none a =
    let f : Fact = fact.At l.number in
    let there : order_at k.orders l.number ≡ Some l.order = ap (λ os. order_at os l.number) a.orders_are ∙ e in
    let nobody : actor k f ≡ None = ap (option_and_then (told_by k.world)) there ∙ (ap (λ v. option_and_then (told_by v) (Some l.order)) a.world_is ∙ none) in
    record {
      orders_are = a.orders_are;
      world_is = ap (λ v. world_after (with_order (order_at k.orders l.number) v) f) (nobody_acts k f nobody ∙ a.world_is) ∙ ap (λ o. world_after (with_order o w) f) there;
      knows = ordered_views k.views w l.number l.order a.knows;
    }

-- an order to a node that isn't there, or any but `leave` and `tick`
pub line_knows : (P : Known → Type 0) (c : Script) (orders : List Line) (w : World) (l : Line) → ((k : Known) → NoPacket k → P k) → Laws → order_at orders l.number ≡ Some l.order → option_and_then (told_by w) (Some l.order) ≡ None → w.full ≡ false
    → let v : World = world_after (with_order (Some l.order) w) (fact.At l.number) in Knows P c orders v (world.play l.order v) → Knows Any c orders w (play_line l w)
line_knows P c orders w l first laws e none going rest trace s k fit any =
    let u : World = with_order (Some l.order) w in
    let m : Made = tell (fact.At l.number ∷ []) u in
    subst (λ (x : Made). x.world.full ≡ false → Fits orders (fold know k x.facts) x.world × Unit {0}) (sym (then_is m (world.play l.order) (ordered_full w l.order ∙ going)))
    (λ full.
    let agree : Agree orders (know k (fact.At l.number)) m.world = line_agrees orders w l k e none fit.agree in
    let after_line : Sound c (trace ++ fact.At l.number ∷ []) m.world = heard laws c u (fact.At l.number) refl refl trace (ordered_sound c trace (Some l.order) w s) in
    let done : Fits orders (fold know (know k (fact.At l.number)) (world.play l.order m.world).facts) (world.play l.order m.world).world × P (fold know (know k (fact.At l.number)) (world.play l.order m.world).facts) =
    rest (trace ++ fact.At l.number ∷ []) after_line (know k (fact.At l.number))
    (record { agree = agree; tidy = λ j st h. fit.tidy j st (ap (λ x. at x j) (sym (ordered_nodes w l.order)) ∙ h) }) (first (know k (fact.At l.number)) refl) full in
    (done.0, tt))

-- an order that gives a node an input and shows something of it
pub given_line : Shows → (c : Script) (orders : List Line) (w : World) (l : Line) (n : ℕ) (i : Input) → order_at orders l.number ≡ Some l.order → ((v : World) → with_order (Some l.order) v ≡ v) → ((v : World) → told_by v l.order ≡ option_map (λ (st : Node). st.who) (node_at v n))
    → ((v : World) → world.play l.order v ≡ give_or i (node_at v n) world.nothing v) → ((st : Node) → opened i st ≡ fold after st (show_order (Some l.order) st)) → packet_of i ≡ None → ((views : List (List Incarnation)) → IsTold views i) → is_no_fail i ≡ true
    → ((v : World) → May c v i) → w.full ≡ false → Knows Any c orders w (play_line l w)
given_line shows c orders w l n i e still tells plays opens packet told_is no_fail may going = by (node_at w n) refl
  where
    f : Fact
    f = fact.At l.number

    v : World
    v = world_after w f

    by : (o : Option Node) → node_at w n ≡ o → Knows Any c orders w (play_line l w)
    by None none =
        line_knows NoPacket c orders w l (λ k p. p) shows.laws e (tells w ∙ ap (option_map (λ (st : Node). st.who)) none) going
        (subst (λ (u : World). Knows NoPacket c orders (world_after u f) (world.play l.order (world_after u f))) (sym (still w))
        (subst (Knows NoPacket c orders v) (sym (plays v ∙ ap (λ o. give_or i o world.nothing v) none)) (silent_knows c orders v)))
    by (Some st) up = λ trace s k fit any.
        let after_line : Sound c (trace ++ f ∷ []) v = heard shows.laws c w f refl refl trace s in
        let there : order_at k.orders l.number ≡ Some l.order = ap (λ os. order_at os l.number) fit.agree.orders_are ∙ e in
        let mine : actor k f ≡ Some st.who = ap (option_and_then (told_by k.world)) there ∙ (ap (λ x. told_by x l.order) fit.agree.world_is ∙ (tells w ∙ ap (option_map (λ (st : Node). st.who)) up)) in
        let a : Along orders k.views st.who (n - 1) (know k f) v (opened i st) =
        subst (Along orders k.views st.who (n - 1) (know k f) v) (line_opened k st l.number l.order there ∙ sym (opens st))
        (along_shown orders k.views st.who (n - 1) k w st f (plain k f (λ x. ap (λ o. with_order o x) there ∙ still x) (λ x n o. refl) (λ x o. refl)) (along_start c orders trace w (n - 1) st k fit.agree up s) mine
        (record { count = fit.agree.knows.count; now = fit.agree.knows.now; posted = fit.agree.knows.posted })) in
        let done : let m : Made = handle i st v in m.world.full ≡ false → Fits orders (fold know (know k f) m.facts) m.world × ((fold know (know k f) m.facts).packet ≡ (know k f).packet) =
        handle_known shows c orders k.views (trace ++ f ∷ []) v (n - 1) st i (know k f) up (may v (trace ++ f ∷ []) after_line st (n - 1) up) after_line fit.tidy no_fail a (sym packet) (told_is k.views) in
        let played : world.play l.order v ≡ handle i st v = plays v ∙ ap (λ o. give_or i o world.nothing v) up in
        subst (λ (x : Made). x.world.full ≡ false → Fits orders (fold know k x.facts) x.world × Unit {0}) (sym (ap (λ (u : World). then_step (tell (f ∷ []) u) (world.play l.order)) (still w) ∙ then_is (tell (f ∷ []) w) (world.play l.order) going))
        (subst (λ (x : Made). x.world.full ≡ false → Fits orders (fold know (know k f) x.facts) x.world × Unit {0}) (sym played) (λ full. ((done full).0, tt)))
