-- What an input gives of a node that stands, out of what its steps gave.
use Rattle.std.proofs.Common.{◌≡◌, ◌-◌, ◌<◌, ◌≤◌, List, sym, ap, subst, ◌∙◌, refl, true, arith}
use Rattle.std.specs.Prelude.{Bool, nat_le, fold, Option, Some, None, IfSome}
use Rattle.std.specs.Option.{option_map}
use Rattle.yard_model.specs.declared.fact.Fact.{Fact}
use Rattle.yard_model.specs.declared.incarnation.Slot.{Slot}
use Rattle.yard_model.specs.declared.incarnation.Slot.TheVariants as slot
use Rattle.yard_model.specs.declared.input.Input.{Input}
use Rattle.yard_model.specs.declared.out.Item.{Item}
use Rattle.yard_model.specs.Coordinator.{Coordinator}
use Rattle.yard_model.specs.Entities.{Hosted}
use Rattle.yard_model.specs.Genuine.{is_slot_of}
use Rattle.yard_model.specs.Lawful.{own}
use Rattle.yard_model.specs.Node.{Node, after, turn}
use Rattle.yard_model.specs.Producer.{Producer}
use Rattle.yard_model.specs.Script.{Script, IsScript}
use Rattle.yard_model.specs.SlotLists.{SlotLists}
use Rattle.yard_model.specs.Trace.{list_at}
use Rattle.yard_model.specs.Words.{at}
use Rattle.yard_model.specs.World.{all_sends}
use Rattle.plain_laws.proofs.Booleans.{and_both, at_most}
use Rattle.actor_laws.specs.Hands.{held_list, AreInHand}
use Rattle.actor_laws.specs.Owes.{AreElseLawful}
use Rattle.node_laws.specs.NodeFound.{Finds, NodeKeepsIf, AreLawful}
use Rattle.node_laws.specs.NodeStands.{IsSoundNode, IsViewed, IsProducerAt, IsCoordinatorAt}
use Rattle.node_laws.specs.NodeTurns.{MayTake, TurnStands, TurnViewed}
use Rattle.shard_lease.specs.Meaning.{Meaning}
use Rattle.node_core.specs.Standing.{Standing}
use Rattle.node_core.specs.Gave.{Moment, moment, Gave}
use Rattle.node_core.specs.Turned.{Turned}
use Rattle.node_core.proofs.FoundLaws.{alike_itself}

none_is_not_some : {A : Type 0} (x : A) → None ≡ Some x → ⊥
none_is_not_some x e = cc

some_same : {A : Type 0} (x y : A) → Some x ≡ Some y → x ≡ y
some_same x y e = cc

-- the list of a slot that a node holds is lawful by itself
pub held_own : (c : Script) (st : Node) (s : Slot) (list : List Fact) → IsSoundNode c st → is_slot_of c s ≡ true → held_list s st ≡ Some list → own c s list ≡ true
held_own c st (slot.Shard s) list sound v e = by (at st.entities.hosted s) refl e
  where
    by : (o : Option Hosted) → at st.entities.hosted s ≡ o → option_map (λ h. h.entries) o ≡ Some list → own c (slot.Shard s) list ≡ true
    by None there same = absurd (none_is_not_some list same)
    by (Some h) there same = subst (λ l. own c (slot.Shard s) l ≡ true) (some_same h.entries list same) (sound.entities.hosted_are s h there).own_is
held_own c st slot.Coordinator list sound v e = by st.coordinator sound.coordinator e
  where
    by : (o : Option Coordinator) → IfSome o (IsCoordinatorAt c st.who) → option_map (λ k. k.entries) o ≡ Some list → own c slot.Coordinator list ≡ true
    by None h same = absurd (none_is_not_some list same)
    by (Some k) h same = subst (λ l. own c slot.Coordinator l ≡ true) (some_same k.entries list same) h.sound.own_is
held_own c st (slot.Queue p) list sound v e = by (at st.producers (p - 1)) refl e
  where
    above : 0 < p
    above = let some : 1 ≤ p = at_most 1 p (and_both (nat_le 1 p) (nat_le p c.config.producers) v).0 in omega arith

    by : (o : Option Producer) → at st.producers (p - 1) ≡ o → option_map (λ k. k.entries) o ≡ Some list → own c (slot.Queue p) list ≡ true
    by None there same = absurd (none_is_not_some list same)
    by (Some k) there same =
        let is : IsProducerAt c st.who p k = sound.producers p k above there in
        subst (λ n. own c (slot.Queue n) list ≡ true) is.number_is (subst (λ l. own c (slot.Queue k.number) l ≡ true) (some_same k.entries list same) is.stands.own_is)

-- so lists are lawful of which the node has its own in hand, and the others are
pub lists_lawful : (c : Script) (st : Node) (lists : SlotLists) → IsSoundNode c st → AreInHand c lists st → AreElseLawful c lists st → AreLawful c lists
lists_lawful c st lists sound hands elses = record {
  coordinator = each slot.Coordinator refl;
  shards = λ s v. each (slot.Shard s) v;
  queues = λ p v. each (slot.Queue p) v;
}
  where
    each : (s : Slot) → is_slot_of c s ≡ true → own c s (list_at lists s) ≡ true
    each s v = by (held_list s st) refl
      where
        by : (o : Option (List Fact)) → held_list s st ≡ o → own c s (list_at lists s) ≡ true
        by None e = elses s v e
        by (Some list) e =
            let same : list_at lists s ≡ list = subst (λ o. IfSome o (λ l. list_at lists s ≡ l)) e (hands s v) in
            ap (own c s) same ∙ held_own c st s list sound v e

pub turned_of : (c : Script) (asked : Slot → Bool) (i : Input) (old new : Moment) → TurnStands → IsScript c → IsSoundNode c old.node → IsViewed old.node → MayTake c old.meaning.vouches old.node i
    → Gave c asked (λ lists. turn (all_sends c) lists i old.node) old new → Turned c (λ lists. turn (all_sends c) lists i old.node) old new
turned_of c asked i old new stands script sound viewed may g = record {
  told = g.told;
  items_are = g.items_are;
  node_is = g.node_is;
  acts_are = λ lists full t h. g.found.same lists (g.alike lists full t h);
  tells = g.tells;
  in_hand = g.in_hand;
  lists = g.found.lists;
  found = record { there = g.found.there; hands_are = g.found.hands_are; lawful = lists_lawful c old.node g.found.lists sound g.found.hands_are g.found.else_are; others_are = g.found.others_are };
  found_acts = g.found.same g.found.lists (alike_itself c asked old.node g.found.lists);
  keeps = λ lists lawful e. subst (NodeKeepsIf (Finds lists old.node) c old.meaning.vouches old.node) e (stands c old.meaning.vouches lists old.node i script sound viewed lawful may);
  rests = g.rests;
  stays = g.stays;
  others = g.others;
}

-- and it stands then

pub turned_sound : (c : Script) (i : Input) (old new : Moment) → Turned c (λ lists. turn (all_sends c) lists i old.node) old new → IsSoundNode c new.node
turned_sound c i old new t = subst (IsSoundNode c) (sym t.node_is) (t.keeps t.lists t.found.lawful t.found_acts).stands

pub turned_viewed : (c : Script) (i : Input) (old new : Moment) → TurnViewed → IsViewed old.node → Turned c (λ lists. turn (all_sends c) lists i old.node) old new → IsViewed new.node
turned_viewed c i old new keeps viewed t = subst IsViewed (ap (fold after old.node) t.found_acts ∙ sym t.node_is) (keeps (all_sends c) t.lists old.node i viewed)

-- An input, as the actors of the node handled it.

pub input_turned : (v w : Standing) (d : Script) (i : Input) (old new : Meaning) (before items : List Item) (to : Node)
    → v ≡ w → d ≡ w.script → IsScript d → TurnStands → IsSoundNode v.script v.state × IsViewed v.state → MayTake w.script old.vouches w.state i
    → ((asked : (Slot → Bool)) × Gave v.script asked (λ lists. turn (all_sends v.script) lists i v.state) (moment old v.state before) (moment new to items))
    → Turned w.script (λ lists. turn (all_sends w.script) lists i w.state) (moment old w.state before) (moment new to items)
input_turned v w d i old new before items to same charter script stands sound may g =
    turned_of w.script here.0 i (moment old w.state before) (moment new to items) stands (subst IsScript charter script) standing.0 standing.1 may here.1
  where
    here : (asked : (Slot → Bool)) × Gave w.script asked (λ lists. turn (all_sends w.script) lists i w.state) (moment old w.state before) (moment new to items)
    here = subst (λ (x : Standing). (asked : (Slot → Bool)) × Gave x.script asked (λ lists. turn (all_sends x.script) lists i x.state) (moment old x.state before) (moment new to items)) same g

    standing : IsSoundNode w.script w.state × IsViewed w.state
    standing = subst (λ (x : Standing). IsSoundNode x.script x.state × IsViewed x.state) same sound
