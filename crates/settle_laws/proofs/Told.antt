-- An input at a node, as the world tells it.
use Rattle.std.proofs.Common.{ap₂, ◌≡◌, ◌≤◌, ℕ, ◌+◌, ◌-◌, List, [], ◌∷◌, ◌++◌, length, sym, ap, subst, ◌∙◌, refl, true, false, true≢false, arith}
use Rattle.std.specs.Prelude.{Bool, nat_lt, fold, Some, slice_set, if◌then◌else◌}
use Rattle.std.specs.List.{list_all}
use Rattle.std.proofs.lemmas.List.{append-nil, append_assoc}
use Rattle.yard_model.specs.declared.fact.Fact.{Fact}
use Rattle.yard_model.specs.declared.fact.Fact.TheVariants as fact
use Rattle.yard_model.specs.declared.out.Item.{Item}
use Rattle.yard_model.specs.declared.out.Item.TheVariants as item
use Rattle.yard_model.specs.declared.packet.Packet.{Packet}
use Rattle.yard_model.specs.Move.{Move, made, item_of}
use Rattle.yard_model.specs.Node.{Act, after, items_of, turn, move_of}
use Rattle.yard_model.specs.Trace.{lists_step}
use Rattle.yard_model.specs.Words.{numbers}
use Rattle.yard_model.specs.World.{World, world_after, fresh_step, full_step, numbered, count_posts}
use Rattle.plain_laws.proofs.Booleans.{and_both}
use Rattle.actor_laws.specs.Owes.{facts_in}
use Rattle.play_laws.specs.TurnItems.{is_turn_fact, is_turn_item}
use Rattle.play_laws.proofs.Turned.{is_still, members_still, ups_still, nodes_still, set_still, version_still, past_still, lists_still, wire_still}
use Rattle.play_laws.proofs.Tells.{turn_is_still}
use Rattle.settle_laws.specs.Alone.{wire_after, wire_by}
use Rattle.settle_laws.specs.Inputs.{posts_in, HandedOn, InputsHandOn}

-- Facts of a turn change lists alone.

pub fresh_turn : (old : List ℕ) (f : Fact) → is_turn_fact f ≡ true → fresh_step old f ≡ old
fresh_turn old (fact.Sent k p) h = absurd (true≢false (sym h))
fresh_turn old (fact.Got k) h = absurd (true≢false (sym h))
fresh_turn old f h = refl

pub full_turn : (old : Bool) (f : Fact) → is_turn_fact f ≡ true → full_step old f ≡ old
full_turn old fact.WireFull h = absurd (true≢false (sym h))
full_turn old f h = refl

pub count_more : (is : List Item) (k : ℕ) → k ≤ fold count_posts k is
count_more [] k = omega arith
count_more (item.Fact f ∷ is) k = count_more is k
count_more (item.Post p ∷ is) k = let h : k + 1 ≤ fold count_posts (k + 1) is = count_more is (k + 1) in omega (arith, h)

-- Along the items of an input.

pub record Along (w : World) (k : ℕ) (is : List Item) (v : World) : Type 0 where
  pub set_is : v.set ≡ w.set
  pub behaviour_is : v.behaviour ≡ w.behaviour
  pub sends_are : v.sends ≡ w.sends
  pub limit_is : v.limit ≡ w.limit
  pub ordered_is : v.ordered ≡ w.ordered
  pub members_are : v.members ≡ w.members
  pub ups_are : v.ups ≡ w.ups
  pub past_is : v.past ≡ w.past
  pub full_is : v.full ≡ w.full
  pub wire_is : v.wire ≡ w.wire ++ posts_in is
  pub fresh_is : v.fresh ≡ w.fresh ++ numbers (k + 1) (length (posts_in is))
  pub lists_are : v.lists ≡ fold (lists_step w.set) w.lists (facts_in is)
  pub nodes_are : v.nodes ≡ w.nodes

pub along_items : (limit k : ℕ) (is : List Item) (w : World) → list_all is_turn_item is ≡ true → fold count_posts k is ≤ limit → Along w k is (fold world_after w (numbered limit k is))
along_items limit k [] w turn_is room = record { set_is = refl; behaviour_is = refl; past_is = refl; sends_are = refl; limit_is = refl; ordered_is = refl; members_are = refl; ups_are = refl; full_is = refl; wire_is = sym (append-nil w.wire); fresh_is = sym (append-nil w.fresh); lists_are = refl; nodes_are = refl }
along_items limit k (item.Fact f ∷ is) w turn_is room =
    let m : (is_turn_fact f ≡ true) × (list_all is_turn_item is ≡ true) = and_both (is_turn_fact f) (list_all is_turn_item is) turn_is in
    let r : Along (world_after w f) k is (fold world_after (world_after w f) (numbered limit k is)) = along_items limit k is (world_after w f) m.1 room in
    let still : is_still f ≡ true = turn_is_still f m.0 in
    record {
      set_is = r.set_is ∙ set_still w.set f still;
      behaviour_is = r.behaviour_is ∙ version_still w.behaviour f still;
      sends_are = r.sends_are;
      limit_is = r.limit_is;
      ordered_is = r.ordered_is;
      members_are = r.members_are ∙ members_still w.members f still;
      ups_are = r.ups_are ∙ ups_still w.ups f still;
      past_is = r.past_is ∙ past_still w.wire w.past f still;
      full_is = r.full_is ∙ full_turn w.full f m.0;
      wire_is = r.wire_is ∙ ap (λ l. l ++ posts_in is) (wire_still w.wire f still);
      fresh_is = r.fresh_is ∙ ap (λ l. l ++ numbers (k + 1) (length (posts_in is))) (fresh_turn w.fresh f m.0);
      lists_are = r.lists_are ∙ ap₂ (λ x l. fold (lists_step x) l (facts_in is)) (set_still w.set f still) (lists_still w.set w.lists f still);
      nodes_are = r.nodes_are ∙ nodes_still w.set w.behaviour w.nodes f still;
    }
along_items limit k (item.Post p ∷ is) w turn_is room =
    let m : (is_turn_item (item.Post p) ≡ true) × (list_all is_turn_item is ≡ true) = and_both (is_turn_item (item.Post p)) (list_all is_turn_item is) turn_is in
    let r : Along (world_after w (fact.Sent (k + 1) p)) (k + 1) is (fold world_after (world_after w (fact.Sent (k + 1) p)) (numbered limit (k + 1) is)) = along_items limit (k + 1) is (world_after w (fact.Sent (k + 1) p)) m.1 room in
    subst (λ t. Along w k (item.Post p ∷ is) (fold world_after w ((if t then fact.Sent (k + 1) p ∷ [] else []) ++ numbered limit (k + 1) is))) (sym (less k limit (count_more is (k + 1)) room))
    (record {
      set_is = r.set_is;
      behaviour_is = r.behaviour_is;
      sends_are = r.sends_are;
      limit_is = r.limit_is;
      ordered_is = r.ordered_is;
      members_are = r.members_are;
      ups_are = r.ups_are;
      past_is = r.past_is;
      full_is = r.full_is;
      wire_is = r.wire_is ∙ append_assoc w.wire (p ∷ []) (posts_in is);
      fresh_is = r.fresh_is ∙ append_assoc w.fresh ((k + 1) ∷ []) (numbers (k + 1 + 1) (length (posts_in is)));
      lists_are = r.lists_are;
      nodes_are = r.nodes_are;
    })
  where
    less : (k limit : ℕ) → {c : ℕ} → k + 1 ≤ c → c ≤ limit → nat_lt k limit ≡ true
    less k limit {c = c} h g = grind (arith, h, g)

pub inputs_hand_on : InputsHandOn
inputs_hand_on w st i turn_is room =
    subst (λ t. HandedOn w st acts (record (fold world_after w (numbered w.limit (length w.wire) (items_of acts) ++ (if t then fact.WireFull ∷ [] else []))) { nodes = slice_set (fold world_after w (numbered w.limit (length w.wire) (items_of acts) ++ (if t then fact.WireFull ∷ [] else []))).nodes ((fold after st acts).who.node - 1) (Some (fold after st acts)) })) (sym (fits (fold count_posts (length w.wire) (items_of acts)) w.limit room))
    (subst (λ fs. HandedOn w st acts (record (fold world_after w fs) { nodes = slice_set (fold world_after w fs).nodes ((fold after st acts).who.node - 1) (Some (fold after st acts)) })) (sym (append-nil (numbered w.limit (length w.wire) (items_of acts))))
    (record {
      set_is = r.set_is;
      behaviour_is = r.behaviour_is;
      sends_are = r.sends_are;
      limit_is = r.limit_is;
      ordered_is = r.ordered_is;
      members_are = r.members_are;
      ups_are = r.ups_are;
      past_is = r.past_is;
      full_is = r.full_is;
      wire_is = r.wire_is;
      fresh_is = r.fresh_is;
      lists_are = r.lists_are;
      nodes_are = ap (λ l. slice_set l ((fold after st acts).who.node - 1) (Some (fold after st acts))) r.nodes_are;
    }))
  where
    acts : List Act
    acts = turn w.sends w.lists i st

    r : Along w (length w.wire) (items_of acts) (fold world_after w (numbered w.limit (length w.wire) (items_of acts)))
    r = along_items w.limit (length w.wire) (items_of acts) w turn_is room

    fits : (c limit : ℕ) → c ≤ limit → nat_lt limit c ≡ false
    fits c limit h = grind (arith, h)

-- The wire of the node's own run grows by the same packets.
pub same_posts : (acts : List Act) (wire : List Packet) → fold wire_after wire acts ≡ wire ++ posts_in (items_of acts)
same_posts [] wire = sym (append-nil wire)
same_posts (a ∷ acts) wire = by (move_of a) (same_posts acts)
  where
    by : (m : Move) → ((w : List Packet) → fold wire_after w acts ≡ w ++ posts_in (items_of acts)) → fold wire_after (wire_by wire m) acts ≡ wire ++ posts_in (item_of m ++ items_of acts)
    by (made (item.Fact f)) rest = rest wire
    by (made (item.Post p)) rest = rest (wire ++ p ∷ []) ∙ append_assoc wire (p ∷ []) (posts_in (items_of acts))
    by m rest = rest wire
