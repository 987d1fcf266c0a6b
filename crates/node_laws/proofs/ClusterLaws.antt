-- A turn of one node of a cluster leaves a cluster.
use Rattle.yard_model.specs.Era.{upgrade_step}
use Rattle.yard_laws.proofs.Guarding.{guarded_next}
use Rattle.std.proofs.Common.{◌≡◌, ℕ, ◌+◌, List, [], ◌∷◌, ◌++◌, sym, ap, subst, ◌∙◌, refl, true, false, true≢false, arith}
use Rattle.std.specs.Prelude.{Bool, fold, None, Some, slice_set}
use Rattle.std.proofs.lemmas.List.{append_assoc}
use Rattle.std.proofs.lemmas.List.Sums.{fold-append}
use Rattle.yard_model.specs.declared.fact.Fact.{Fact}
use Rattle.yard_model.specs.declared.fact.Fact.TheVariants as fact
use Rattle.yard_model.specs.declared.incarnation.Incarnation.{Incarnation}
use Rattle.yard_model.specs.declared.incarnation.Slot.{Slot}
use Rattle.yard_model.specs.Node.{Node, Act, after, items_of, turn, crash}
use Rattle.yard_model.specs.Genuine.{is_slot_of}
use Rattle.yard_model.specs.Script.{setting}
use Rattle.yard_model.specs.SlotLists.{SlotLists}
use Rattle.yard_model.specs.SlotReads.{holder}
use Rattle.yard_model.specs.Trace.{list_at, lists_step, lists_of}
use Rattle.yard_model.specs.Safe.{live_step, live_at}
use Rattle.yard_model.specs.Guards.{guarded}
use Rattle.yard_model.specs.Words.{is_same, is_at, is_among, at}
use Rattle.yard_model.specs.World.{all_sends}
use Rattle.actor_laws.specs.Owes.{Hand, facts_in, hand_after}
use Rattle.plain_laws.proofs.Members.{same_is, itself_is, gone_from}
use Rattle.plain_laws.proofs.Lists.{none_is_not_some, inside, some_is, by_place, placed_at, placed_beside}
use Rattle.node_laws.specs.NodeHolds.{HoldsAll, TurnHolds, CrashFrees}
use Rattle.node_laws.specs.NodeTurns.{CrashStands, CrashIs}
use Rattle.node_laws.specs.Traces.{recorded, RecordedStays, IsHandOf, AreVouched, HasInHand, GoesOn, HandIsGuarded, TurnGoesOn, TurnIsGuarded, OthersHold}
use Rattle.node_laws.specs.Cluster.{IsMember, IsHeldBy, ClusterTurns, ClusterLoses}
use Rattle.node_laws.proofs.ClusterHolds.{held_before, lists_more, member_holds, held_beside}
use Rattle.node_laws.proofs.Holding.{lists_in_hand}
use Rattle.node_laws.proofs.NodeParts.{who_stays}
use Rattle.node_laws.proofs.TraceOthers.{one_held, longer}

-- nodes at different places are different incarnations
not_same : (x y : Incarnation) (j k : ℕ) → x.node ≡ j + 1 → y.node ≡ k + 1 → (j ≡ k → ⊥) → is_same x y ≡ false
not_same x y j k at_j at_k other = by (is_same x y) refl
  where
    by : (b : Bool) → is_same x y ≡ b → is_same x y ≡ false
    by false e = e
    by true e = absurd (other (one_less j k (sym at_j ∙ (ap (λ (z : Incarnation). z.node) (same_is x y e) ∙ at_k))))
      where
        one_less : (a b : ℕ) → a + 1 ≡ b + 1 → a ≡ b
        one_less a b e = omega (arith, e)

pub cluster_turns : TurnIsGuarded → TurnHolds → OthersHold → RecordedStays → ClusterTurns
cluster_turns turns holds others stays c trace nodes k st i script is here may =
    let me : IsMember c trace k st = is.members k st here in
    let acts : List Act = turn (all_sends c) (lists_of (setting c) trace) i st in
    let fs : List Fact = facts_in (items_of acts) in
    let t : TurnGoesOn c trace (recorded c trace) me.hand st acts = turns c trace (recorded c trace) me.hand st i script me.sound me.viewed may is.guarded_are (stays c trace) me.has.of_trace me.has.holds in
    let now : Node = fold after st acts in
    record {
      guarded_are = t.goes_on.guarded_are;
      members = λ j y e. by_place (IsMember c (trace ++ fs) j y) j k
          (λ same. subst (λ n. IsMember c (trace ++ fs) n y) (sym same) (subst (IsMember c (trace ++ fs) k) (some_is now y (sym (placed_at nodes k (Some now) (inside nodes k st here)) ∙ (ap (at (slice_set nodes k (Some now))) (sym same) ∙ e)))
          (record {
            node_is = ap (λ (x : Incarnation). x.node) (who_stays st acts) ∙ me.node_is;
            sound = t.stands;
            viewed = t.viewed;
            hand = fold (hand_after c) me.hand fs;
            has = record { of_trace = subst (λ w. IsHandOf c (trace ++ fs) w (fold (hand_after c) me.hand fs)) (sym (who_stays st acts)) t.goes_on.in_hand; holds = t.holds };
          })))
          (λ other. beside j y other (is.members j y (sym (placed_beside nodes k j (Some now) other) ∙ e)));
      held = λ s x slot e. held_on s x slot (is_same x st.who) refl e;
    }
  where
    -- by the node itself, or by another as before
    held_on : (s : Slot) (x : Incarnation) → is_slot_of c s ≡ true → (b : Bool) → is_same x st.who ≡ b → let acts : List Act = turn (all_sends c) (lists_of (setting c) trace) i st in
        holder (list_at (lists_of (setting c) (trace ++ facts_in (items_of acts))) s) ≡ Some x → IsHeldBy (slice_set nodes k (Some (fold after st acts))) s x
    held_on s x slot true mine e =
        let me : IsMember c trace k st = is.members k st here in
        let acts : List Act = turn (all_sends c) (lists_of (setting c) trace) i st in
        let fs : List Fact = facts_in (items_of acts) in
        let now : Node = fold after st acts in
        let t : TurnGoesOn c trace (recorded c trace) me.hand st acts = turns c trace (recorded c trace) me.hand st i script me.sound me.viewed may is.guarded_are (stays c trace) me.has.of_trace me.has.holds in
        let later : HoldsAll c (lists_of (setting c) (trace ++ fs)) now = subst (λ l. HoldsAll c l now) t.goes_on.in_hand.lists_are
        (holds c (all_sends c) (lists_of (setting c) trace) st i me.hand me.sound (subst (λ l. HoldsAll c l st) (sym me.has.of_trace.lists_are) (member_holds c trace nodes k st is here))) in
        let who_is : now.who ≡ x = who_stays st acts ∙ sym (same_is x st.who mine) in
        record { place = k; st = now; here = placed_at nodes k (Some now) (inside nodes k st here); who_is = who_is; held = later s slot (ap (is_at now.who) e ∙ itself_is now.who x who_is) }
    held_on s x slot false other e =
        let me : IsMember c trace k st = is.members k st here in
        let acts : List Act = turn (all_sends c) (lists_of (setting c) trace) i st in
        let fs : List Fact = facts_in (items_of acts) in
        let t : TurnGoesOn c trace (recorded c trace) me.hand st acts = turns c trace (recorded c trace) me.hand st i script me.sound me.viewed may is.guarded_are (stays c trace) me.has.of_trace me.has.holds in
        held_beside nodes k st (Some (fold after st acts)) s x here other
        (is.held s x slot (held_before (setting c) (lists_of (setting c) trace) st.who x s fs t.own_are other (ap (λ (l : SlotLists). holder (list_at l s)) (sym (lists_more c trace fs)) ∙ e)))

    beside : (j : ℕ) (y : Node) → (j ≡ k → ⊥) → IsMember c trace j y → let acts : List Act = turn (all_sends c) (lists_of (setting c) trace) i st in IsMember c (trace ++ facts_in (items_of acts)) j y
    beside j y other it =
        let me : IsMember c trace k st = is.members k st here in
        let acts : List Act = turn (all_sends c) (lists_of (setting c) trace) i st in
        let fs : List Fact = facts_in (items_of acts) in
        let t : TurnGoesOn c trace (recorded c trace) me.hand st acts = turns c trace (recorded c trace) me.hand st i script me.sound me.viewed may is.guarded_are (stays c trace) me.has.of_trace me.has.holds in
        record {
          node_is = it.node_is;
          sound = it.sound;
          viewed = it.viewed;
          hand = record { lists = lists_of (setting c) (trace ++ fs); live = it.hand.live; version = it.hand.version };
          has = others c trace st.who (recorded c trace) me.hand fs y it.hand is.guarded_are (stays c trace) me.has.of_trace t.in_hand t.own_are t.held_are it.sound (not_same y.who st.who j k it.node_is me.node_is other) it.has;
        }

-- The crash.

pub cluster_loses : CrashStands → CrashFrees → HandIsGuarded → OthersHold → ClusterLoses
cluster_loses crashes leaves hands others c trace nodes k st is here = record {
  guarded_are = ap (guarded c) (sym joined) ∙ rest.guarded_are;
  members = λ j y e. by_place (IsMember c (trace ++ (gone ∷ fs)) j y) j k
      (λ same. absurd (none_is_not_some y (sym (placed_at nodes k None (inside nodes k st here)) ∙ (ap (at (slice_set nodes k None)) (sym same) ∙ e))))
      (λ other. beside j y other (is.members j y (sym (placed_beside nodes k j None other) ∙ e)));
  held = λ s x slot e. held_on s x slot (is_same x st.who) refl (ap (λ (l : SlotLists). holder (list_at l s)) (sym (lists_more c trace (gone ∷ fs))) ∙ e);
}
  where
    me : IsMember c trace k st
    me = is.members k st here

    gone : Fact
    gone = fact.Gone st.who

    fs : List Fact
    fs = crash st

    nobody : List ℕ → ℕ → ℕ → Bool
    nobody e p n = false

    first : List Fact
    first = trace ++ gone ∷ []

    first_guarded : guarded c first ≡ true
    first_guarded = guarded_next c trace gone is.guarded_are refl

    left : Hand
    left = record { lists = me.hand.lists; live = []; version = me.hand.version }

    left_is : IsHandOf c first st.who left
    left_is = record {
      lists_are = me.has.of_trace.lists_are ∙ sym (longer c trace gone);
      version_is = me.has.of_trace.version_is ∙ sym (fold-append upgrade_step 1 trace (gone ∷ []));
      live_are = λ e. sym (ap (is_among st.who) (fold-append (live_step e) [] trace (gone ∷ [])) ∙ gone_from st.who (live_at e trace));
    }

    vouched : AreVouched c first nobody
    vouched more w e p n y = absurd (true≢false (sym y))

    frees : CrashIs c nobody st left fs
    frees = crashes c nobody st me.hand me.sound me.has.holds

    rest : GoesOn c first st.who left fs
    rest = hands c first st.who nobody left fs first_guarded vouched left_is frees.guarded_are frees.own_are

    joined : first ++ fs ≡ trace ++ (gone ∷ fs)
    joined = append_assoc trace (gone ∷ []) fs

    lists : SlotLists
    lists = lists_of (setting c) trace

    -- it holds nothing any more, and another as before
    held_on : (s : Slot) (x : Incarnation) → is_slot_of c s ≡ true → (b : Bool) → is_same x st.who ≡ b → holder (list_at (fold (lists_step (setting c)) lists fs) s) ≡ Some x → IsHeldBy (slice_set nodes k None) s x
    held_on s x slot true mine e =
        let freed : is_at st.who (holder (list_at (fold (hand_after c) (record { lists = lists; live = []; version = me.hand.version }) fs).lists s)) ≡ false =
        leaves c st (record { lists = lists; live = []; version = me.hand.version }) me.sound (member_holds c trace nodes k st is here) s slot in
        let still : is_at st.who (holder (list_at (fold (lists_step (setting c)) lists fs) s)) ≡ true = ap (is_at st.who) e ∙ itself_is st.who x (sym (same_is x st.who mine)) in
        absurd (true≢false (sym still ∙ (ap (λ (l : SlotLists). is_at st.who (holder (list_at l s))) (sym (lists_in_hand c (record { lists = lists; live = []; version = me.hand.version }) fs)) ∙ freed)))
    held_on s x slot false other e = held_beside nodes k st None s x here other (is.held s x slot (held_before (setting c) lists st.who x s fs frees.own_are other e))

    beside : (j : ℕ) (y : Node) → (j ≡ k → ⊥) → IsMember c trace j y → IsMember c (trace ++ (gone ∷ fs)) j y
    beside j y other it = record {
      node_is = it.node_is;
      sound = it.sound;
      viewed = it.viewed;
      hand = record { lists = lists_of (setting c) (trace ++ (gone ∷ fs)); live = it.hand.live; version = it.hand.version };
      has = subst (λ t. HasInHand c t y (record { lists = lists_of (setting c) t; live = it.hand.live; version = it.hand.version })) joined
          (others c first st.who nobody left fs y (record { lists = lists_of (setting c) first; live = it.hand.live; version = it.hand.version }) first_guarded vouched left_is frees.guarded_are frees.own_are frees.held_are it.sound apart
          (one_held c trace st.who me.hand gone y it.hand first_guarded refl me.has.of_trace apart refl it.sound apart it.has));
    }
      where
        apart : is_same y.who st.who ≡ false
        apart = not_same y.who st.who j k it.node_is me.node_is other
