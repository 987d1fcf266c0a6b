-- What the items of a rule show of the node: one rule and then another.
use Rattle.std.proofs.Common.{◌≡◌, List, [], ◌∷◌, ◌++◌, sym, ap, ◌∙◌, refl}
use Rattle.std.specs.Prelude.{fold, Option, Some, None}
use Rattle.std.specs.Option.{option_map}
use Rattle.std.proofs.lemmas.Grind.{flat_map-append}
use Rattle.std.proofs.lemmas.List.Sums.{fold-append}
use Rattle.yard_model.specs.declared.out.Item.{Item}
use Rattle.yard_model.specs.declared.out.Item.TheVariants as item
use Rattle.yard_model.specs.declared.packet.Packet.{Packet}
use Rattle.yard_model.specs.Move.{Move, item_of}
use Rattle.yard_model.specs.Coordinator.{Coordinator, coordinator_after}
use Rattle.yard_model.specs.Node.{Node, Act, move_of, after, items_of}
use Rattle.yard_model.specs.Producer.{Producer}
use Rattle.yard_model.specs.Queries.{Known, show}
use Rattle.yard_model.specs.Script.{Script, setting}
use Rattle.yard_model.specs.Trace.{lists_step}
use Rattle.actor_laws.specs.Owes.{Hand, facts_in, hand_after}
use Rattle.query_laws.specs.Shown.{fact_of, known_after, shown}

-- the queries know the lists that the node has in hand, and this packet
pub record Knows (c : Script) (k : Known) (h : Hand) (o : Option Packet) : Type 0 where
  pub set_is : k.world.set ≡ setting c
  pub lists_are : k.world.lists ≡ h.lists
  pub packet_is : k.packet ≡ o

-- what is known after items
abbrev pub known_on : Known → List Item → Known
known_on k is = fold known_after k is

pub knows_on : (c : Script) (k : Known) (h : Hand) (o : Option Packet) (is : List Item) → Knows c k h o → Knows c (known_on k is) (fold (hand_after c) h (facts_in is)) o
knows_on c k h o [] n = n
knows_on c k h o (item.Post p ∷ is) n = knows_on c (known_after k (item.Post p)) h o is (record { set_is = n.set_is; lists_are = n.lists_are; packet_is = n.packet_is })
knows_on c k h o (item.Fact f ∷ is) n = knows_on c (known_after k (item.Fact f)) (hand_after c h f) o is (record {
  set_is = n.set_is;
  lists_are = ap (λ s. lists_step s k.world.lists f) n.set_is ∙ ap (λ l. lists_step (setting c) l f) n.lists_are;
  packet_is = n.packet_is;
})

pub shown_append : (k : Known) (st : Node) (xs ys : List Item) → shown k st (xs ++ ys) ≡ shown (known_on k xs) (shown k st xs) ys
shown_append k st [] ys = refl
shown_append k st (x ∷ xs) ys = shown_append (known_after k x) (fold after st (show k (fact_of x) st)) xs ys

-- the items of these acts show of the node what the acts do to it
abbrev pub AreShown : Known → Node → List Act → Type 0
AreShown k st acts = shown k st (items_of acts) ≡ fold after st acts

-- from a node that was shown more than its acts have done so far
abbrev pub AreShownFrom : Known → Node → Node → List Act → Type 0
AreShownFrom k now st acts = shown k now (items_of acts) ≡ fold after st acts

-- Acts of the region, the entities and the coordinator leave the producers as they are; a tick, a Request and an Ack show what was sent before their acts say so, so the producers may be ahead meanwhile.

abbrev pub with_producers : List (Option Producer) → Node → Node
with_producers ps st = record st { producers = ps }

-- whatever the producers have been shown, the items of these acts show of the rest what the acts do to it
abbrev pub AreShownBeside : Known → Node → List Act → Type 0
AreShownBeside k st acts = (ps : List (Option Producer)) → shown k (with_producers ps st) (items_of acts) ≡ with_producers ps (fold after st acts)

pub beside_both : (k : Known) (st : Node) (xs ys : List Act) → AreShownBeside k st xs → AreShownBeside (known_on k (items_of xs)) (fold after st xs) ys → AreShownBeside k st (xs ++ ys)
beside_both k st xs ys f g ps =
    ap (shown k (with_producers ps st)) (flat_map-append (λ a. item_of (move_of a)) xs ys)
    ∙ (shown_append k (with_producers ps st) (items_of xs) (items_of ys)
    ∙ (ap (λ n. shown (known_on k (items_of xs)) n (items_of ys)) (f ps) ∙ (g ps ∙ ap (with_producers ps) (sym (fold-append after st xs ys)))))

-- a coordinator that a move leaves as it is
pub same_some : (m : Move) (o : Option Coordinator) → ((k : Coordinator) → coordinator_after k m ≡ k) → option_map (λ k. coordinator_after k m) o ≡ o
same_some m None h = refl
same_some m (Some k) h = ap Some (h k)
