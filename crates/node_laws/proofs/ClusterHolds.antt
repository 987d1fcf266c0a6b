-- Who holds a slot in a cluster is up: as one of its nodes goes on, comes up or is gone.
use Rattle.std.proofs.Common.{◌≡◌, ℕ, ◌+◌, List, [], ◌∷◌, ◌++◌, sym, ap, subst, ◌∙◌, refl, true, false, true≢false, arith}
use Rattle.std.specs.Prelude.{fold, Option, None, Some, is_some, slice_set}
use Rattle.std.specs.List.{list_all}
use Rattle.std.proofs.lemmas.List.Sums.{fold-append}
use Rattle.yard_model.specs.declared.fact.Fact.{Fact}
use Rattle.yard_model.specs.declared.fact.Fact.TheVariants as fact
use Rattle.yard_model.specs.declared.incarnation.Incarnation.{Incarnation}
use Rattle.yard_model.specs.declared.incarnation.Slot.{Slot}
use Rattle.yard_model.specs.Node.{Node}
use Rattle.yard_model.specs.Script.{Script, Setting, setting}
use Rattle.yard_model.specs.SlotLists.{SlotLists}
use Rattle.yard_model.specs.SlotReads.{holder, holder_step}
use Rattle.yard_model.specs.Trace.{slot_of, list_at, lists_step, no_lists, lists_of}
use Rattle.yard_model.specs.Words.{is_same, is_at, at}
use Rattle.plain_laws.proofs.Booleans.{and_both}
use Rattle.plain_laws.proofs.Lists.{none_is_not_some, some_is, placed_beside}
use Rattle.plain_laws.proofs.Members.{same_is, itself_is}
use Rattle.actor_laws.specs.Hands.{held_list}
use Rattle.node_laws.specs.Cluster.{IsMember, IsHeldBy, IsCluster}
use Rattle.node_laws.specs.NodeHolds.{HoldsAll}
use Rattle.node_laws.specs.NodeStands.{is_own_fact}
use Rattle.node_laws.proofs.Holding.{entered_at}

-- A node's facts give a slot to nobody else.

one_held_before : (set : Setting) (lists : SlotLists) (who y : Incarnation) (s : Slot) (f : Fact) → is_own_fact who f ≡ true → is_same y who ≡ false → holder (list_at (lists_step set lists f) s) ≡ Some y → holder (list_at lists s) ≡ Some y
one_held_before set lists who y s f own other =
    entered_at (λ l. holder l ≡ Some y → holder (list_at lists s) ≡ Some y) lists f (slot_of set f) s (λ e. e) (λ e. by f own (sym (fold-append holder_step None (list_at lists s) (f ∷ [])) ∙ e))
  where
    by : (f : Fact) → is_own_fact who f ≡ true → holder_step (holder (list_at lists s)) f ≡ Some y → holder (list_at lists s) ≡ Some y
    by (fact.Granted t n x) own e = absurd (true≢false (sym (subst (λ z. is_same z who ≡ true) (some_is x y e) own) ∙ other))
    by (fact.Freed t n why) own e = absurd (none_is_not_some y e)
    by f own e = e

pub held_before : (set : Setting) (lists : SlotLists) (who y : Incarnation) (s : Slot) (fs : List Fact) → list_all (is_own_fact who) fs ≡ true → is_same y who ≡ false → holder (list_at (fold (lists_step set) lists fs) s) ≡ Some y → holder (list_at lists s) ≡ Some y
held_before set lists who y s [] own other e = e
held_before set lists who y s (f ∷ fs) own other e =
    let m : (is_own_fact who f ≡ true) × (list_all (is_own_fact who) fs ≡ true) = and_both (is_own_fact who f) (list_all (is_own_fact who) fs) own in
    one_held_before set lists who y s f m.0 other (held_before set (lists_step set lists f) who y s fs m.1 other e)

-- the lists after more facts
pub lists_more : (c : Script) (trace fs : List Fact) → lists_of (setting c) (trace ++ fs) ≡ fold (lists_step (setting c)) (lists_of (setting c) trace) fs
lists_more c trace fs = fold-append (lists_step (setting c)) (no_lists (setting c)) trace fs

-- Places.

-- an incarnation is at one place
same_place : (x y : Incarnation) (j k : ℕ) → x.node ≡ j + 1 → y.node ≡ k + 1 → x ≡ y → j ≡ k
same_place x y j k at_j at_k same = let e : j + 1 ≡ k + 1 = sym at_j ∙ (ap (λ (z : Incarnation). z.node) same ∙ at_k) in omega (arith, e)

-- what a node of a cluster holds it has in hand
pub member_holds : (c : Script) (trace : List Fact) (nodes : List (Option Node)) (k : ℕ) (st : Node) → IsCluster c trace nodes → at nodes k ≡ Some st → HoldsAll c (lists_of (setting c) trace) st
member_holds c trace nodes k st is here s i e = by (holder (list_at (lists_of (setting c) trace) s)) refl e
  where
    by : (o : Option Incarnation) → holder (list_at (lists_of (setting c) trace) s) ≡ o → is_at st.who o ≡ true → is_some (held_list s st) ≡ true
    by None h e = absurd (true≢false (sym e))
    by (Some x) h e =
        let t : IsHeldBy nodes s x = is.held s x i h in
        let there : IsMember c trace t.place t.st = is.members t.place t.st t.here in
        let me : IsMember c trace k st = is.members k st here in
        let place : t.place ≡ k = same_place t.st.who st.who t.place k there.node_is me.node_is (t.who_is ∙ sym (same_is st.who x e)) in
        subst (λ n. is_some (held_list s n) ≡ true) (some_is t.st st (sym t.here ∙ (ap (at nodes) place ∙ here))) t.held

-- what goes on at a place leaves a slot that another incarnation holds
pub held_beside : (nodes : List (Option Node)) (k : ℕ) (st : Node) (v : Option Node) (s : Slot) (x : Incarnation) → at nodes k ≡ Some st → is_same x st.who ≡ false → IsHeldBy nodes s x → IsHeldBy (slice_set nodes k v) s x
held_beside nodes k st v s x here other t = record {
  place = t.place;
  st = t.st;
  here = placed_beside nodes k t.place v (λ same. true≢false (sym (itself_is x st.who (sym t.who_is ∙ ap (λ (n : Node). n.who) (some_is t.st st (sym t.here ∙ (ap (at nodes) same ∙ here))))) ∙ other)) ∙ t.here;
  who_is = t.who_is;
  held = t.held;
}

-- and what comes up at a free place leaves each
pub held_with : (nodes : List (Option Node)) (k : ℕ) (v : Option Node) (s : Slot) (x : Incarnation) → at nodes k ≡ None → IsHeldBy nodes s x → IsHeldBy (slice_set nodes k v) s x
held_with nodes k v s x free t = record {
  place = t.place;
  st = t.st;
  here = placed_beside nodes k t.place v (λ same. none_is_not_some t.st (sym free ∙ (ap (at nodes) (sym same) ∙ t.here))) ∙ t.here;
  who_is = t.who_is;
  held = t.held;
}
