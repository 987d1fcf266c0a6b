-- Inputs, deliveries, orders and scripts: each leads from a sound world to a sound one.
use Rattle.play_laws.specs.Played.{is_named}
use Rattle.std.proofs.Common.{◌≡◌, ◌≤◌, ℕ, zero, suc, ◌+◌, ◌-◌, List, [], ◌∷◌, ◌++◌, length, map, sym, ap, subst, ◌∙◌, refl, true, false, true≢false, arith, ◌<◌}
use Rattle.std.specs.Prelude.{Bool, ◌==◌, ◌&&◌, ◌||◌, nat_le, nat_lt, filter, fold, Option, Some, None, is_none, slice_set, if◌then◌else◌}
use Rattle.std.specs.List.{list_all, list_any, slice_get}
use Rattle.std.specs.Option.{option_map_or}
use Rattle.std.proofs.lemmas.Bool.Decides.{nat_tests}
use Rattle.yard_model.specs.declared.fact.Fact.{Fact}
use Rattle.yard_model.specs.declared.fact.Fact.TheVariants as fact
use Rattle.yard_model.specs.declared.input.Input.{Input}
use Rattle.yard_model.specs.declared.input.Input.TheVariants as input
use Rattle.yard_model.specs.declared.packet.Body.{Body}
use Rattle.yard_model.specs.declared.packet.Body.TheVariants as body
use Rattle.yard_model.specs.declared.packet.Packet.{Packet}
use Rattle.yard_model.specs.declared.charter.Line.{Line}
use Rattle.yard_model.specs.declared.charter.Order.{Order}
use Rattle.yard_model.specs.declared.charter.Order.TheVariants as order
use Rattle.yard_model.specs.declared.charter.Config.{Config}
use Rattle.yard_model.specs.declared.incarnation.Incarnation.{Incarnation}
use Rattle.yard_model.specs.Behaviour.{is_in, is_of_kind}
use Rattle.yard_model.specs.Genuine.{is_node, is_producer, is_brought, is_genuine_body}
use Rattle.yard_model.specs.Node.{Node, crash}
use Rattle.yard_model.specs.Script.{Script, IsScript, setting, is_name, brought, with_brought, with_name_of, is_order}
use Rattle.yard_model.specs.Setting.{shard_of, producers}
use Rattle.yard_model.specs.SlotLists.{SlotLists, shard_list, queue_list}
use Rattle.yard_model.specs.SlotReads.{holder, journal, position, queued, queued_in_all}
use Rattle.yard_model.specs.Words.{numbers, is_among, is_empty, at}
use Rattle.yard_model.specs.World as world
use Rattle.yard_model.specs.World.{World, Made, Step, world_after, tell, then_step, in_order, give_or, give, node_at, node_of, queue_holder, is_of_node, ordered_of, is_active_at, active_node, settle_bound, is_left}
use Rattle.plain_laws.proofs.Booleans.{and_both, both, at_most, below}
use Rattle.plain_laws.proofs.Lists.{none_is_not_some}
use Rattle.yard_laws.proofs.Owns.{producer_above}
use Rattle.node_laws.specs.Members.{is_different_body}
use Rattle.actor_laws.proofs.MessageLaws.{insert_stays, insert_there}
use Rattle.node_laws.specs.Carried.{is_carried_body, IsBrought}
use Rattle.node_laws.specs.Cluster.{IsMember}
use Rattle.node_laws.specs.NodeTurns.{MayConfirm, Promised, MayTake}
use Rattle.node_laws.specs.Traces.{recorded}
use Rattle.play_laws.specs.Confirming.{is_confirming, MayHand, MayDeliver, MayNext, MayDrain}
use Rattle.play_laws.specs.Sound.{SoundIf, AreQueued, IsWell}
use Rattle.play_laws.proofs.Handled.{Laws, handle_goes}
use Rattle.play_laws.proofs.Steps.{LeadsIf, Leads, none_leads, then_leads, if_leads, heard, nothing_leads, come_up_leads, go_down_leads, up_order_leads, crash_order_leads, is_freed, AreFreed, freed_still, crash_frees}
use Rattle.play_laws.proofs.Turned.{nodes_still}

-- A node that is up stands at some place.

pub record Place (nodes : List (Option Node)) (st : Node) : Type 0 where
  pub place : ℕ
  pub here : at nodes place ≡ Some st

abbrev pub IsPlaced : List (Option Node) → Option Node → Type 0
IsPlaced nodes o = (st : Node) → o ≡ Some st → Place nodes st

pub at_place : (w : World) (n : ℕ) → IsPlaced w.nodes (node_at w n)
at_place w n st e = record { place = n - 1; here = e }

pub of_placed : (w : World) (o : Option Incarnation) → IsPlaced w.nodes (node_of w o)
of_placed w None st e = absurd (none_is_not_some st e)
of_placed w (Some x) st e = at_place w x.node st e

fold_placed : (e : List ℕ) (nodes ys : List (Option Node)) → ((j : ℕ) (st : Node) → at ys j ≡ Some st → Place nodes st) → (found : Option Node) → IsPlaced nodes found
    → IsPlaced nodes (fold (λ found o. if is_active_at e o then o else found) found ys)
fold_placed e nodes [] all found h = h
fold_placed e nodes (o ∷ ys) all found h = fold_placed e nodes ys (λ j st k. all (suc j) st k) (if is_active_at e o then o else found) (by (is_active_at e o))
  where
    by : (b : Bool) → IsPlaced nodes (if b then o else found)
    by true = λ st k. all 0 st k
    by false = h

pub active_placed : (e : List ℕ) (w : World) → IsPlaced w.nodes (active_node e w)
active_placed e w = fold_placed e w.nodes w.nodes (λ j st k. record { place = j; here = k }) None (λ st k. absurd (none_is_not_some st k))

fold_active : (e : List ℕ) (ys : List (Option Node)) (found : Option Node) → ((st : Node) → found ≡ Some st → is_active_at e (Some st) ≡ true)
    → (st : Node) → fold (λ found o. if is_active_at e o then o else found) found ys ≡ Some st → is_active_at e (Some st) ≡ true
fold_active e [] found h = h
fold_active e (o ∷ ys) found h = fold_active e ys (if is_active_at e o then o else found) (by (is_active_at e o) refl)
  where
    by : (b : Bool) → is_active_at e o ≡ b → (st : Node) → (if b then o else found) ≡ Some st → is_active_at e (Some st) ≡ true
    by true is = λ st k. subst (λ y. is_active_at e y ≡ true) k is
    by false is = h

-- it is active there
pub active_is : (e : List ℕ) (w : World) (st : Node) → active_node e w ≡ Some st → is_active_at e (Some st) ≡ true
active_is e w = fold_active e w.nodes None (λ st k. absurd (none_is_not_some st k))

-- Inputs.

-- what the input promises, after any trace that leads to this world
abbrev pub MayIf : Type 0 → Script → World → Input → Type 0
MayIf T c w i = (trace : List Fact) → SoundIf T c trace w → (st : Node) (k : ℕ) → at w.nodes k ≡ Some st → MayTake c (recorded c trace) st i

abbrev pub May : Script → World → Input → Type 0
May c w i = MayIf (Unit {0}) c w i

pub give_or_leads : {T : Type 0} → Laws → (c : Script) (w : World) (i : Input) (o : Option Node) (q : Step) → IsPlaced w.nodes o → MayIf T c w i → IsBrought c w.lists i → LeadsIf T c w (q w) → LeadsIf T c w (give_or i o q w)
give_or_leads laws c w i None q placed may told rest = rest
give_or_leads laws c w i (Some st) q placed may told rest = λ trace s. let p : Place w.nodes st = placed st refl in handle_goes laws c trace w p.place st i p.here (may trace s st p.place p.here) told s

pub give_leads : {T : Type 0} → Laws → (c : Script) (w : World) (i : Input) (o : Option Node) → IsPlaced w.nodes o → MayIf T c w i → IsBrought c w.lists i → LeadsIf T c w (give i o w)
give_leads laws c w i o placed may told = give_or_leads laws c w i o (tell []) placed may told (none_leads c w)

-- Deliveries.

-- what a packet confirms is recorded, and so it is queued
may_confirm : {T : Type 0} → (c : Script) (trace : List Fact) (w : World) (k : ℕ) (st : Node) (p : ℕ) (e : List ℕ) (n : ℕ) → SoundIf T c trace w → AreQueued c w.lists → at w.nodes k ≡ Some st → is_producer c p ≡ true
    → nat_le n (position p (journal e (shard_list w.lists (shard_of (setting c) e)))) ≡ true → MayConfirm (recorded c trace) st p e n
may_confirm c trace w k st p e n s all here producer there j at_p =
    let me : IsMember c trace k st = s.cluster.members k st here in
    let in_hand : queue_list w.lists p ≡ j.entries = ap (λ l. queue_list l p) (s.lists_are ∙ sym me.has.of_trace.lists_are) ∙ me.has.holds.producers p j (producer_above c p producer) at_p in
    let least : n ≤ position p (journal e (shard_list w.lists (shard_of (setting c) e))) = at_most n (position p (journal e (shard_list w.lists (shard_of (setting c) e)))) there in (
      subst (λ l. n ≤ queued e l) in_hand (most n (position p (journal e (shard_list w.lists (shard_of (setting c) e)))) (queued e (queue_list w.lists p)) least (all p e)),
      ap (λ (l : SlotLists). nat_le n (position p (journal e (shard_list l (shard_of (setting c) e))))) (sym s.lists_are) ∙ there,
    )
  where
    most : (a b d : ℕ) → a ≤ b → b ≤ d → a ≤ d
    most a b d f g = omega (arith, f, g)

promised : {T : Type 0} → (c : Script) (trace : List Fact) (w : World) (k : ℕ) (st : Node) (b : Body) → SoundIf T c trace w → (is_confirming b ≡ true → AreQueued c w.lists) → at w.nodes k ≡ Some st → is_genuine_body c b ≡ true → is_different_body b ≡ true
    → is_carried_body c w.lists b ≡ true → Promised (recorded c trace) st b
promised c trace w k st (body.View v xs) s all here genuine different carried = different
promised c trace w k st (body.Request p e n u) s all here genuine different carried =
    may_confirm c trace w k st p e n s (all refl) here (and_both (is_producer c p) (is_brought c e) (and_both (is_producer c p && is_brought c e) (u == n + c.config.window) genuine).0).0 carried
promised c trace w k st (body.Ack p e n) s all here genuine different carried = may_confirm c trace w k st p e n s (all refl) here (and_both (is_producer c p) (is_brought c e) genuine).0 carried
promised c trace w k st b s all here genuine different carried = tt

pub well_may : {T : Type 0} → (c : Script) (w : World) (p : Packet) → IsWell c w.lists p → MayHand c w.lists p → MayIf T c w (input.Packet p)
well_may c w p well all trace s st k here =
    let m : ((is_node c p.from && is_node c p.to) ≡ true) × (is_genuine_body c p.body ≡ true) = and_both (is_node c p.from && is_node c p.to) (is_genuine_body c p.body) well.genuine in
    record { from_is = (and_both (is_node c p.from) (is_node c p.to) m.0).0; genuine = m.1; promised = promised c trace w k st p.body s all here m.1 well.different well.carried }

over_leads_if : {T : Type 0} → Laws → (c : Script) (w : World) (k : ℕ) (p : Packet) → (w.past < k → IsWell c w.lists p) → (w.past < k → MayHand c w.lists p) → LeadsIf T c w (world.hand_over k p w)
over_leads_if laws c w k p well all = if_leads c w (nat_lt w.past k && is_among p.to w.members) (give (input.Packet p) (node_at w p.to.node) w) (tell [] w)
    (λ e.
    let past : w.past < k = below w.past k (and_both (nat_lt w.past k) (is_among p.to w.members) e).0 in
    let one : IsWell c w.lists p = well past in
    give_leads laws c w (input.Packet p) (node_at w p.to.node) (at_place w p.to.node) (well_may c w p one (all past)) one.carried) (λ e. none_leads c w)

deliver_by_leads_if : {T : Type 0} → Laws → (c : Script) (w : World) (i : ℕ) (o : Option Packet) → slice_get w.wire i ≡ o → MayDeliver c w (suc i) → LeadsIf T c w (world.deliver_by (suc i) o w)
deliver_by_leads_if laws c w i None e all = nothing_leads laws c w
deliver_by_leads_if laws c w i (Some p) e all = λ trace s.
    let got : Fact = fact.Got (suc i) in
    let v : World = world_after w got in
    then_leads c w (tell (got ∷ []) w) (world.hand_over (suc i) p) (heard laws c w got refl refl)
    (λ f. over_leads_if laws c v (suc i) p (λ past. let well : IsWell c w.lists p = s.wire_is i p (before w.past i past) e in record { genuine = well.genuine; different = well.different; carried = well.carried }) (λ past h. all p e past h)) trace s
  where
    before : (a b : ℕ) → a < suc b → a ≤ b
    before a b h = omega (arith, h)

pub deliver_leads_if : {T : Type 0} → Laws → (c : Script) (w : World) (i : ℕ) → MayDeliver c w i → LeadsIf T c w (world.deliver i w)
deliver_leads_if laws c w zero all = nothing_leads laws c w
deliver_leads_if laws c w (suc i) all = deliver_by_leads_if laws c w i (slice_get w.wire i) refl all

more_lead_if : {T : Type 0} → Laws → (c : Script) (w : World) (q : Step) (P : World → Type 0) → ((v : World) → P v → LeadsIf T c v (q v)) → (ks : List ℕ) → MayNext c w P ks → LeadsIf T c w (elim ks as (λ x. Made) [ [] ↦ tell [] w | k ∷ ks ↦ then_step (world.deliver k w) q ])
more_lead_if laws c w q P h [] all = none_leads c w
more_lead_if laws c w q P h (k ∷ ks) all = then_leads c w (world.deliver k w) q (deliver_leads_if laws c w k all.0) (λ e. h (world.deliver k w).world (all.1 e))

pub drain_leads_if : {T : Type 0} → Laws → (c : Script) (from n : ℕ) (w : World) → MayDrain c from n w → LeadsIf T c w (world.drain from n w)
drain_leads_if laws c from zero w all = none_leads c w
drain_leads_if laws c from (suc n) w all = more_lead_if laws c w (world.drain from n) (MayDrain c from n) (drain_leads_if laws c from n) (filter (nat_lt from) w.fresh) all

-- where all that is recorded is queued, each may be delivered
pub may_deliver : (c : Script) (w : World) (i : ℕ) → AreQueued c w.lists → MayDeliver c w i
may_deliver c w zero q = tt
may_deliver c w (suc i) q = λ p e past h. q

pub deliver_leads : Laws → (c : Script) (w : World) (i : ℕ) → Leads c w (world.deliver i w)
deliver_leads laws c w i = λ trace s. deliver_leads_if laws c w i (may_deliver c w i (s.queued_are tt)) trace s

more_lead : Laws → (c : Script) (w : World) (q : Step) → ((v : World) → Leads c v (q v)) → (ks : List ℕ) → Leads c w (elim ks as (λ x. Made) [ [] ↦ tell [] w | k ∷ ks ↦ then_step (world.deliver k w) q ])
more_lead laws c w q h [] = none_leads c w
more_lead laws c w q h (k ∷ ks) = then_leads c w (world.deliver k w) q (deliver_leads laws c w k) (λ e. h (world.deliver k w).world)

pub drain_leads : Laws → (c : Script) (from n : ℕ) (w : World) → Leads c w (world.drain from n w)
drain_leads laws c from zero w = none_leads c w
drain_leads laws c from (suc n) w = more_lead laws c w (world.drain from n) (drain_leads laws c from n) (filter (nat_lt from) w.fresh)

-- Producing and sending.

pub send_waiting_leads : {T : Type 0} → Laws → (c : Script) (p n k : ℕ) (w : World) → is_producer c p ≡ true → LeadsIf T c w (world.send_waiting p n k w)
send_waiting_leads laws c p n zero w producer = none_leads c w
send_waiting_leads laws c p n (suc k) w producer =
    let m : Made = give (input.Send p) (node_at w n) w in
    then_leads c w m (world.send_waiting p n k) (give_leads laws c w (input.Send p) (node_at w n) (at_place w n) (λ trace s st j e. producer) tt) (λ e. send_waiting_leads laws c p n k m.world producer)

send_all_leads : {T : Type 0} → Laws → (c : Script) (p n : ℕ) (w : World) → is_producer c p ≡ true → LeadsIf T c w (world.send_all_waiting p n w)
send_all_leads laws c p n w producer =
    let k : ℕ = ordered_of w p - queued_in_all (queue_list w.lists p) in
    if_leads c w (is_of_node n (queue_holder w p)) (world.send_waiting p n k w) (tell [] w) (λ e. send_waiting_leads laws c p n k w producer) (λ e. none_leads c w)

pub produce_leads : {T : Type 0} → Laws → (c : Script) (p n : ℕ) (w : World) → is_producer c p ≡ true → LeadsIf T c w (world.produce p n w)
produce_leads laws c p n w producer =
    let m : Made = give (input.Produce p) (node_at w n) w in
    if_leads c w (is_none (node_at w n) || is_of_node n (queue_holder w p)) (world.nothing w) (then_step m (world.send_all_waiting p n)) (λ e. nothing_leads laws c w)
    (λ e. then_leads c w m (world.send_all_waiting p n) (give_leads laws c w (input.Produce p) (node_at w n) (at_place w n) (λ trace s st j f. producer) tt) (λ f. send_all_leads laws c p n m.world producer))

-- Settling.

-- each step of the list leads
abbrev pub AllLeadIf : Type 0 → Script → List Step → Type 0
AllLeadIf T c [] = Unit {0}
AllLeadIf T c (q ∷ qs) = ((w : World) → LeadsIf T c w (q w)) × AllLeadIf T c qs

abbrev pub AllLead : Script → List Step → Type 0
AllLead c qs = AllLeadIf (Unit {0}) c qs

pub all_lead : {T : Type 0} → (c : Script) (qs : List Step) (w : World) → AllLeadIf T c qs → LeadsIf T c w (in_order qs w)
all_lead c [] w h = none_leads c w
all_lead c (q ∷ qs) w h = then_leads c w (q w) (in_order qs) (h.0 w) (λ e. all_lead c qs (q w).world h.1)

pub downs_lead_if : (T : Type 0) → Laws → (c : Script) (ns : List ℕ) → AllLeadIf T c (map world.go_down ns)
downs_lead_if T laws c [] = tt
downs_lead_if T laws c (n ∷ ns) = ((λ w. go_down_leads laws c w n), downs_lead_if T laws c ns)

pub produces_lead_if : (T : Type 0) → Laws → (c : Script) (n : ℕ) (ps : List ℕ) → list_all (is_producer c) ps ≡ true → AllLeadIf T c (map (λ p. world.produce p n) ps)
produces_lead_if T laws c n [] all = tt
produces_lead_if T laws c n (p ∷ ps) all =
    let m : (is_producer c p ≡ true) × (list_all (is_producer c) ps ≡ true) = and_both (is_producer c p) (list_all (is_producer c) ps) all in
    ((λ w. produce_leads laws c p n w m.0), produces_lead_if T laws c n ps m.1)

pub downs_lead : Laws → (c : Script) (ns : List ℕ) → AllLead c (map world.go_down ns)
downs_lead laws c ns = downs_lead_if (Unit {0}) laws c ns

pub produces_lead : Laws → (c : Script) (n : ℕ) (ps : List ℕ) → list_all (is_producer c) ps ≡ true → AllLead c (map (λ p. world.produce p n) ps)
produces_lead laws c n ps all = produces_lead_if (Unit {0}) laws c n ps all

pub ticks_lead : Laws → (c : Script) (from bound n : ℕ) (w : World) → Leads c w (world.tick_while_left from bound n w)
ticks_lead laws c from bound zero w = none_leads c w
ticks_lead laws c from bound (suc n) w = by (list_any (is_left w) (producers w.set)) (λ v. ticks_lead laws c from bound n v)
  where
    m : Made
    m = then_step (give input.Tick (node_at w 1) w) (world.drain from bound)

    by : (b : Bool) → ((v : World) → Leads c v (world.tick_while_left from bound n v)) → Leads c w (elim b as (λ b. Made) [ false ↦ tell [] w | true ↦ then_step m (world.tick_while_left from bound n) ])
    by false rest = none_leads c w
    by true rest = then_leads c w m (world.tick_while_left from bound n)
        (then_leads c w (give input.Tick (node_at w 1) w) (world.drain from bound) (give_leads laws c w input.Tick (node_at w 1) (at_place w 1) (λ trace s st j f. tt) tt) (λ e. drain_leads laws c from bound (give input.Tick (node_at w 1) w).world))
        (λ e. rest m.world)

-- a place that is empty stays so
pub none_set : (xs : List (Option Node)) (i j : ℕ) → at xs j ≡ None → at (slice_set xs i None) j ≡ None
none_set [] i j e = e
none_set (x ∷ xs) zero zero e = refl
none_set (x ∷ xs) zero (suc j) e = e
none_set (x ∷ xs) (suc i) zero e = e
none_set (x ∷ xs) (suc i) (suc j) e = none_set xs i j e

none_there : (xs : List (Option Node)) (i : ℕ) → at (slice_set xs i None) i ≡ None
none_there [] i = refl
none_there (x ∷ xs) zero = refl
none_there (x ∷ xs) (suc i) = none_there xs i

pub nodes_freed : (fs : List Fact) (w : World) → AreFreed fs → (fold world_after w fs).nodes ≡ w.nodes
nodes_freed [] w h = refl
nodes_freed (f ∷ fs) w h =
    let m : (is_freed f ≡ true) × AreFreed fs = and_both (is_freed f) (list_all is_freed fs) h in
    nodes_freed fs (world_after w f) m.1 ∙ nodes_still w.set w.behaviour w.nodes f (freed_still f m.0)

pub down_stays : (n j : ℕ) (w : World) → at w.nodes j ≡ None → at (world.go_down n w).world.nodes j ≡ None
down_stays n j w e = by (node_at w n)
  where
    by : (o : Option Node) → at (world.go_down_by o w).world.nodes j ≡ None
    by None = e
    by (Some st) = ap (λ l. at l j) (nodes_freed (crash st) (world_after w (fact.Gone st.who)) (crash_frees st)) ∙ none_set w.nodes (st.who.node - 1) j e

pub downs_stay : (ns : List ℕ) (j : ℕ) (w : World) → at w.nodes j ≡ None → at (in_order (map world.go_down ns) w).world.nodes j ≡ None
downs_stay [] j w e = e
downs_stay (n ∷ ns) j w e = by m.world.full (down_stays n j w e) (λ h. downs_stay ns j m.world h)
  where
    m : Made
    m = world.go_down n w

    by : (b : Bool) → at m.world.nodes j ≡ None → (at m.world.nodes j ≡ None → at (in_order (map world.go_down ns) m.world).world.nodes j ≡ None)
        → at (elim b as (λ b. Made) [ true ↦ m | false ↦ let x : Made = in_order (map world.go_down ns) m.world in record { facts = m.facts ++ x.facts; world = x.world } ]).world.nodes j ≡ None
    by true here rest = here
    by false here rest = rest here

pub down_empties : (n : ℕ) (w : World) → ((k : ℕ) (st : Node) → at w.nodes k ≡ Some st → st.who.node ≡ k + 1) → at (world.go_down n w).world.nodes (n - 1) ≡ None
down_empties n w placed = by (node_at w n) refl
  where
    back : (a b : ℕ) → a ≡ b + 1 → a - 1 ≡ b
    back a b e = omega (arith, e)

    by : (o : Option Node) → at w.nodes (n - 1) ≡ o → at (world.go_down_by o w).world.nodes (n - 1) ≡ None
    by None e = e
    by (Some st) e = ap (λ l. at l (n - 1)) (nodes_freed (crash st) (world_after w (fact.Gone st.who)) (crash_frees st))
        ∙ subst (λ i. at (slice_set w.nodes i None) (n - 1) ≡ None) (sym (back st.who.node (n - 1) (placed (n - 1) st e))) (none_there w.nodes (n - 1))

pub downs_empty : (nodes : ℕ) (w : World) → 1 ≤ nodes → ((k : ℕ) (st : Node) → at w.nodes k ≡ Some st → st.who.node ≡ k + 1) → at (in_order (map world.go_down (numbers 1 nodes)) w).world.nodes 0 ≡ None
downs_empty zero w low placed = absurd (none low)
  where
    none : 1 ≤ 0 → ⊥
    none h = omega (arith, h)
downs_empty (suc n) w low placed = by m.world.full (down_empties 1 w placed)
  where
    m : Made
    m = world.go_down 1 w

    by : (b : Bool) → at m.world.nodes 0 ≡ None
        → at (elim b as (λ b. Made) [ true ↦ m | false ↦ let x : Made = in_order (map world.go_down (numbers 2 n)) m.world in record { facts = m.facts ++ x.facts; world = x.world } ]).world.nodes 0 ≡ None
    by true here = here
    by false here = downs_stay (numbers 2 n) 0 m.world here

-- the producers of a script are its own
pub producers_are : (c : Script) → list_all (is_producer c) (producers (setting c)) ≡ true
producers_are c = all_in c.config.producers c.config.producers 1 (itself c.config.producers) (one 1)
  where
    itself : (n : ℕ) → 1 + n ≤ n + 1
    itself n = omega (arith)

    one : (n : ℕ) → n ≤ n
    one n = omega (arith)

    all_in : (m n a : ℕ) → a + n ≤ m + 1 → 1 ≤ a → list_all (is_in 1 m) (numbers a n) ≡ true
    all_in m zero a less low = refl
    all_in m (suc n) a less low = both (is_in 1 m a) (list_all (is_in 1 m) (numbers (a + 1) n)) (both (nat_le 1 a) (nat_le a m) (is_at_most 1 a low) (is_at_most a m (under a n m less))) (all_in m n (a + 1) (next a n m less) (later a low))
      where
        is_at_most : (x y : ℕ) → x ≤ y → nat_le x y ≡ true
        is_at_most x y h = grind (arith, nat_tests)

        under : (a n m : ℕ) → a + suc n ≤ m + 1 → a ≤ m
        under a n m h = omega (arith, h)

        next : (a n m : ℕ) → a + suc n ≤ m + 1 → (a + 1) + n ≤ m + 1
        next a n m h = omega (arith, h)

        later : (a : ℕ) → 1 ≤ a → 1 ≤ a + 1
        later a h = omega (arith, h)

pub first_node : (c : Script) → IsScript c → is_in 1 c.config.nodes 1 ≡ true
first_node c script = (and_both (nat_le 1 c.config.nodes) (nat_le c.config.nodes 16) nodes).0
  where
    k : Config
    k = c.config

    one : (is_in 1 16 k.nodes && is_in 1 128 k.shards && is_in 1 32 k.producers && is_in 1 1000 k.buffer && is_in 1 64 k.window && is_in 1 10000 k.snapshot) ≡ true
    one = (and_both (is_in 1 16 k.nodes && is_in 1 128 k.shards && is_in 1 32 k.producers && is_in 1 1000 k.buffer && is_in 1 64 k.window && is_in 1 10000 k.snapshot) (is_in 1 10 k.keep) script.config).0

    two : (is_in 1 16 k.nodes && is_in 1 128 k.shards && is_in 1 32 k.producers && is_in 1 1000 k.buffer) ≡ true
    two = (and_both (is_in 1 16 k.nodes && is_in 1 128 k.shards && is_in 1 32 k.producers && is_in 1 1000 k.buffer) (is_in 1 64 k.window) (and_both (is_in 1 16 k.nodes && is_in 1 128 k.shards && is_in 1 32 k.producers && is_in 1 1000 k.buffer && is_in 1 64 k.window) (is_in 1 10000 k.snapshot) one).0).0

    nodes : is_in 1 16 k.nodes ≡ true
    nodes = (and_both (is_in 1 16 k.nodes) (is_in 1 128 k.shards) (and_both (is_in 1 16 k.nodes && is_in 1 128 k.shards) (is_in 1 32 k.producers) (and_both (is_in 1 16 k.nodes && is_in 1 128 k.shards && is_in 1 32 k.producers) (is_in 1 1000 k.buffer) two).0).0).0

pub end_leads : {T : Type 0} → Laws → (c : Script) (from : ℕ) (w : World) → LeadsIf T c w (world.settle_end from w)
end_leads laws c from w =
    let qs : List Step = world.go_down 1 ∷ tell (fact.Settled ∷ []) ∷ [] in
    if_leads c w (world.is_unsettled from w) (tell [] w) (in_order qs w) (λ e. none_leads c w) (λ e. all_lead c qs w ((λ v. go_down_leads laws c v 1), ((λ v. heard laws c v fact.Settled refl refl), tt)))

settle_leads : Laws → (c : Script) (w : World) → Leads c w (world.settle w)
settle_leads laws c w trace s =
    then_leads c w m (in_order (world.come_up 1 ∷ rest)) (all_lead c (map world.go_down (numbers 1 w.set.config.nodes)) w (downs_lead laws c (numbers 1 w.set.config.nodes)))
    (λ e. then_leads c m.world (world.come_up 1 m.world) (in_order rest) (come_up_leads laws c m.world 1 (first_node c s.script_is) empty)
    (λ f. all_lead c rest (world.come_up 1 m.world).world (
      drain_leads laws c from bound,
      (
        (λ v. all_lead c (map (λ p. world.produce p 1) (producers w.set)) v (produces_lead laws c 1 (producers w.set) (ap (λ x. list_all (is_producer c) (producers x)) s.set_is ∙ producers_are c))),
        (drain_leads laws c from bound, (ticks_lead laws c from bound bound, (end_leads laws c from, tt))),
      ),
    ))) trace s
  where
    from : ℕ
    from = length w.wire

    bound : ℕ
    bound = settle_bound w

    m : Made
    m = in_order (map world.go_down (numbers 1 w.set.config.nodes)) w

    rest : List Step
    rest = world.drain from bound ∷ in_order (map (λ p. world.produce p 1) (producers w.set)) ∷ world.drain from bound ∷ world.tick_while_left from bound bound ∷ world.settle_end from ∷ []

    empty : at m.world.nodes 0 ≡ None
    empty = downs_empty w.set.config.nodes w (subst (λ (x : _). 1 ≤ x.config.nodes) (sym s.set_is) (at_most 1 c.config.nodes (and_both (nat_le 1 1) (nat_le 1 c.config.nodes) (first_node c s.script_is)).1))
        (λ k st e. let me : IsMember c trace k st = s.cluster.members k st e in me.node_is)

-- Orders.

-- an order that leaves the number of shards and the version
abbrev pub is_steady : Order → Bool
is_steady (order.Reshard n) = false
is_steady order.Upgrade = false
is_steady o = true

pub play_leads : Laws → (c : Script) (o : Order) (w : World) → is_steady o ≡ true → is_order c.config o ≡ true → is_named c o ≡ true → Leads c w (world.play o w)
play_leads laws c (order.Up n) w steady fits named = up_order_leads laws c w n fits
play_leads laws c (order.Crash n) w steady fits named = crash_order_leads laws c w n
play_leads laws c (order.Leave n) w steady fits named = give_or_leads laws c w input.Leave (node_at w n) world.nothing (at_place w n) (λ trace s st k e. tt) tt (nothing_leads laws c w)
play_leads laws c (order.Tick n) w steady fits named = give_or_leads laws c w input.Tick (node_at w n) world.nothing (at_place w n) (λ trace s st k e. tt) tt (nothing_leads laws c w)
play_leads laws c (order.Produce p n) w steady fits named = produce_leads laws c p n w (and_both (is_producer c p) (is_in 1 c.config.nodes n) fits).0
play_leads laws c (order.Rest p) w steady fits named = give_or_leads laws c w (input.Rest p) (node_of w (queue_holder w p)) world.nothing (of_placed w (queue_holder w p)) (λ trace s st k e. fits) tt (nothing_leads laws c w)
play_leads laws c (order.Send p e k) w steady fits named =
    give_or_leads laws c w (input.Send p) (node_of w (queue_holder w p)) (tell (fact.Waits p e k ∷ [])) (of_placed w (queue_holder w p)) (λ trace s st j f. (and_both (is_producer c p) (is_of_kind c.config.kind k) fits).0) tt (heard laws c w (fact.Waits p e k) refl refl)
play_leads laws c (order.Passivate e) w steady fits named = give_or_leads laws c w (input.Passivate e) (active_node e w) world.nothing (active_placed e w) (λ trace s st k f. named) tt (nothing_leads laws c w)
play_leads laws c (order.FailWrite e k) w steady fits named = give_or_leads laws c w (input.FailWrite e k) (active_node e w) world.nothing (active_placed e w) (λ trace s st j f. named) tt (nothing_leads laws c w)
play_leads laws c (order.Deliver k) w steady fits named = deliver_leads laws c w k
play_leads laws c (order.Pump n) w steady fits named = if_leads c w (is_empty w.fresh) (world.nothing w) (world.drain 0 n w) (λ e. nothing_leads laws c w) (λ e. drain_leads laws c 0 n w)
play_leads laws c (order.Rebalance n) w steady fits named =
    give_or_leads laws c w (input.Rebalance n) (node_of w (holder w.lists.coordinator)) world.nothing (of_placed w (holder w.lists.coordinator)) (λ trace s st k e. tt) tt (nothing_leads laws c w)
play_leads laws c order.Settle w steady fits named = settle_leads laws c w
play_leads laws c (order.Reshard n) w steady fits named = absurd (true≢false (sym steady))
play_leads laws c order.Upgrade w steady fits named = absurd (true≢false (sym steady))
play_leads laws c (order.Ping p) w steady fits named = nothing_leads laws c w

-- Scripts.

named_stays : (e : List ℕ) (ls : List Line) (names : List (List ℕ)) → list_any (is_name e) names ≡ true → list_any (is_name e) (fold with_name_of names ls) ≡ true
named_stays e [] names h = h
named_stays e (l ∷ ls) names h = named_stays e ls (with_name_of names l) (by (brought l.order))
  where
    by : (o : Option (List ℕ)) → list_any (is_name e) (with_brought names o) ≡ true
    by None = h
    by (Some x) = insert_stays e x names h

pub names_are : (all : List (List ℕ)) (ls : List Line) (names : List (List ℕ)) → fold with_name_of names ls ≡ all → list_all (λ (l : Line). option_map_or (λ e. list_any (is_name e) all) (brought l.order) true) ls ≡ true
names_are all [] names h = refl
names_are all (l ∷ ls) names h = both (option_map_or (λ e. list_any (is_name e) all) (brought l.order) true) (list_all (λ (l : Line). option_map_or (λ e. list_any (is_name e) all) (brought l.order) true) ls)
    (by (brought l.order) refl) (names_are all ls (with_name_of names l) h)
  where
    by : (o : Option (List ℕ)) → brought l.order ≡ o → option_map_or (λ e. list_any (is_name e) all) o true ≡ true
    by None e = refl
    by (Some x) e = subst (λ a. list_any (is_name x) a ≡ true) h (named_stays x ls (with_name_of names l) (subst (λ o. list_any (is_name x) (with_brought names o) ≡ true) (sym e) (insert_there x names)))
