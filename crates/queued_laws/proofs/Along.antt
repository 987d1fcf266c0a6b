-- Steps along which what is recorded was queued before; and the inputs.
use Rattle.std.proofs.Common.{◌≡◌, ℕ, ◌+◌, List, [], ◌∷◌, ◌++◌, length, sym, ap, ap₂, subst, ◌∙◌, refl, true, false}
use Rattle.std.specs.Prelude.{Bool, ◌&&◌, not, nat_lt, fold, Some, if◌then◌else◌}
use Rattle.std.specs.List.{list_all}
use Rattle.std.proofs.lemmas.List.{append_assoc}
use Rattle.yard_model.specs.declared.fact.Fact.{Fact}
use Rattle.yard_model.specs.declared.fact.Fact.TheVariants as fact
use Rattle.yard_model.specs.declared.input.Input.{Input}
use Rattle.yard_model.specs.declared.out.Item.{Item}
use Rattle.yard_model.specs.declared.out.Item.TheVariants as item
use Rattle.yard_model.specs.Guards.{guarded}
use Rattle.yard_model.specs.Node.{Node, Act, items_of, turn}
use Rattle.yard_model.specs.Script.{Script, setting}
use Rattle.yard_model.specs.SlotLists.{SlotLists, shard_list, queue_list}
use Rattle.yard_model.specs.Trace.{lists_step, lists_of}
use Rattle.yard_model.specs.Words.{at}
use Rattle.yard_model.specs.World.{World, Made, Step, all_sends, count_posts, handle, input_facts, numbered, then_step}
use Rattle.plain_laws.proofs.Booleans.{and_both, both}
use Rattle.actor_laws.specs.Owes.{Hand, facts_in, hand_after}
use Rattle.node_laws.specs.Carried.{is_carried_body, is_carried_fact, is_view, carried_in_hand, Carries, CarriesOn, IsBrought}
use Rattle.node_laws.specs.Cluster.{IsMember}
use Rattle.node_laws.specs.NodeFound.{Finds}
use Rattle.node_laws.specs.NodeTurns.{MayTake}
use Rattle.node_laws.specs.Traces.{recorded}
use Rattle.play_laws.specs.Sound.{Sound}
use Rattle.play_laws.proofs.Handled.{Laws, handle_goes, lawful_lists, lists_on}
use Rattle.play_laws.proofs.Steps.{Leads}
use Rattle.play_laws.proofs.Tells.{turn_still}
use Rattle.play_laws.proofs.Turned.{is_still}
use Rattle.queued_laws.proofs.Quiet.{AreQuiet, are_queued, is_shown, quiet_queued}

-- what is made leads from a sound world to a sound one, and what its facts record was queued before
abbrev pub Keeps : Script → World → Made → Type 0
Keeps c w m = (trace : List Fact) → Sound c trace w → Sound c (trace ++ m.facts) m.world × (are_queued c (lists_of (setting c) trace) m.facts ≡ true)

pub quiet_keeps : (c : Script) (w : World) (m : Made) → Leads c w m → AreQuiet m.facts → Keeps c w m
quiet_keeps c w m lead quiet trace s = (lead trace s, quiet_queued c (lists_of (setting c) trace) m.facts quiet)

pub join : (c : Script) (lists : SlotLists) (fs gs : List Fact) → are_queued c lists fs ≡ true → are_queued c (fold (lists_step (setting c)) lists fs) gs ≡ true → are_queued c lists (fs ++ gs) ≡ true
join c lists [] gs h k = k
join c lists (f ∷ fs) gs h k =
    let m : (is_shown lists f ≡ true) × (are_queued c (lists_step (setting c) lists f) fs ≡ true) = and_both (is_shown lists f) (are_queued c (lists_step (setting c) lists f) fs) h in
    both (is_shown lists f) (are_queued c (lists_step (setting c) lists f) (fs ++ gs)) m.0 (join c (lists_step (setting c) lists f) fs gs m.1 k)

pub then_keeps : (c : Script) (w : World) (m : Made) (q : Step) → Keeps c w m → (m.world.full ≡ false → Keeps c m.world (q m.world)) → Keeps c w (then_step m q)
then_keeps c w m q f g = step m.world.full refl
  where
    step : (b : Bool) → m.world.full ≡ b → Keeps c w (elim b as (λ b. Made) [ true ↦ m | false ↦ let n : Made = q m.world in record { facts = m.facts ++ n.facts; world = n.world } ])
    step true e = f
    step false e = λ trace s.
        let one : Sound c (trace ++ m.facts) m.world × (are_queued c (lists_of (setting c) trace) m.facts ≡ true) = f trace s in
        let two : Sound c ((trace ++ m.facts) ++ (q m.world).facts) (q m.world).world × (are_queued c (lists_of (setting c) (trace ++ m.facts)) (q m.world).facts ≡ true) = g e (trace ++ m.facts) one.0 in (
          subst (λ t. Sound c t (q m.world).world) (append_assoc trace m.facts (q m.world).facts) two.0,
          join c (lists_of (setting c) trace) m.facts (q m.world).facts one.1 (subst (λ l. are_queued c l (q m.world).facts ≡ true) (sym (lists_on c trace m.facts)) two.1),
        )

pub if_keeps : (c : Script) (w : World) (b : Bool) (m n : Made) → (b ≡ true → Keeps c w m) → (b ≡ false → Keeps c w n) → Keeps c w (if b then m else n)
if_keeps c w true m n f g = f refl
if_keeps c w false m n f g = g refl

-- A turn.

shown : (lists : SlotLists) (f : Fact) → is_carried_fact lists f ≡ true → is_still f ≡ true → is_shown lists f ≡ true
shown lists (fact.Reshard n k) h s = s
shown lists (fact.Wrote e r) h s = h
shown lists f h s = refl

items_queued : (c : Script) (limit k : ℕ) (is : List Item) (h : Hand) → carried_in_hand c h is ≡ true → list_all is_still (facts_in is) ≡ true → are_queued c h.lists (numbered limit k is) ≡ true
items_queued c limit k [] h e t = refl
items_queued c limit k (item.Post p ∷ is) h e t = by (nat_lt k limit) (items_queued c limit (k + 1) is h m.1 t)
  where
    m : ((not (is_view p.body) && is_carried_body c h.lists p.body) ≡ true) × (carried_in_hand c h is ≡ true)
    m = and_both (not (is_view p.body) && is_carried_body c h.lists p.body) (carried_in_hand c h is) e

    by : (b : Bool) → are_queued c h.lists (numbered limit (k + 1) is) ≡ true → are_queued c h.lists ((if b then fact.Sent (k + 1) p ∷ [] else []) ++ numbered limit (k + 1) is) ≡ true
    by true r = r
    by false r = r
items_queued c limit k (item.Fact f ∷ is) h e t =
    let m : (is_carried_fact h.lists f ≡ true) × (carried_in_hand c (hand_after c h f) is ≡ true) = and_both (is_carried_fact h.lists f) (carried_in_hand c (hand_after c h f) is) e in
    let n : (is_still f ≡ true) × (list_all is_still (facts_in is) ≡ true) = and_both (is_still f) (list_all is_still (facts_in is)) t in
    both (is_shown h.lists f) (are_queued c (lists_step (setting c) h.lists f) (numbered limit k is)) (shown h.lists f m.0 n.0) (items_queued c limit k is (hand_after c h f) m.1 n.1)

input_queued : (c : Script) (w : World) (is : List Item) (h : Hand) → carried_in_hand c h is ≡ true → list_all is_still (facts_in is) ≡ true → are_queued c h.lists (input_facts w is) ≡ true
input_queued c w is h e t =
    join c h.lists (numbered w.limit (length w.wire) is) (if nat_lt w.limit (fold count_posts (length w.wire) is) then fact.WireFull ∷ [] else []) (items_queued c w.limit (length w.wire) is h e t)
    (full (fold (lists_step (setting c)) h.lists (numbered w.limit (length w.wire) is)) (nat_lt w.limit (fold count_posts (length w.wire) is)))
  where
    full : (lists : SlotLists) (b : Bool) → are_queued c lists (if b then fact.WireFull ∷ [] else []) ≡ true
    full lists true = refl
    full lists false = refl

pub handle_keeps : Laws → (c : Script) (trace : List Fact) (w : World) (k : ℕ) (st : Node) (i : Input) → at w.nodes k ≡ Some st → MayTake c (recorded c trace) st i → IsBrought c w.lists i → Sound c trace w
    → let m : Made = handle i st w in Sound c (trace ++ m.facts) m.world × (are_queued c (lists_of (setting c) trace) m.facts ≡ true)
handle_keeps laws c trace w k st i here may brought s = (
  handle_goes laws c trace w k st i here may brought s,
  subst (λ (acts : List Act). are_queued c lists (input_facts w (items_of acts)) ≡ true) (ap₂ (λ x l. turn x l i st) (sym s.sends_are) (sym s.lists_are))
      (subst (λ l. are_queued c l (input_facts w (items_of acts)) ≡ true) me.has.of_trace.lists_are (input_queued c w (items_of acts) me.hand on.carried_are (turn_still (all_sends c) lists i st))),
)
  where
    lists : SlotLists
    lists = lists_of (setting c) trace

    acts : List Act
    acts = turn (all_sends c) lists i st

    me : IsMember c trace k st
    me = s.cluster.members k st here

    g : guarded c trace ≡ true
    g = s.cluster.guarded_are

    finds : Finds lists st me.hand
    finds = record {
      office = λ none. ap (λ (l : SlotLists). l.coordinator) me.has.of_trace.lists_are;
      shards = λ n none. ap (λ l. shard_list l n) me.has.of_trace.lists_are;
      queues = λ p none. ap (λ l. queue_list l p) me.has.of_trace.lists_are;
    }

    in_hand : w.lists ≡ me.hand.lists
    in_hand = s.lists_are ∙ sym me.has.of_trace.lists_are

    on : CarriesOn c me.hand st acts
    on = laws.carries c (recorded c trace) lists st i me.hand s.script_is me.sound me.viewed (lawful_lists c trace g) may me.has.holds finds
        (subst (λ l. Carries l st) in_hand (s.carries k st here)) (subst (λ l. IsBrought c l i) in_hand brought)
