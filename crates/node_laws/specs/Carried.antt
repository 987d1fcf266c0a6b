-- What goes with messages: each that a node keeps, stashes or posts has a number that is queued; and what a node acknowledges is recorded.
use Rattle.std.specs.Prelude.{◌≡◌, ℕ, ◌&&◌, nat_le, not, Bool, true, false, List, [], ◌∷◌, fold}
use Rattle.std.specs.List.{list_all}
use Rattle.yard_model.specs.declared.fact.Fact.{Fact}
use Rattle.yard_model.specs.declared.fact.Fact.TheVariants as fact
use Rattle.yard_model.specs.declared.out.Item.{Item}
use Rattle.yard_model.specs.declared.out.Item.TheVariants as item
use Rattle.yard_model.specs.declared.input.Input.{Input}
use Rattle.yard_model.specs.declared.input.Input.TheVariants as input
use Rattle.yard_model.specs.declared.packet.Body.{Body}
use Rattle.yard_model.specs.declared.packet.Body.TheVariants as body
use Rattle.yard_model.specs.declared.packet.Message.{Message}
use Rattle.yard_model.specs.Entities.{cell}
use Rattle.yard_model.specs.Node.{Node, Act, after, items_of, turn}
use Rattle.yard_model.specs.Region.{kept_of}
use Rattle.yard_model.specs.Script.{Script, IsScript, setting}
use Rattle.yard_model.specs.Setting.{shard_of}
use Rattle.yard_model.specs.SlotLists.{SlotLists, shard_list, queue_list}
use Rattle.yard_model.specs.SlotReads.{journal, position, queued}
use Rattle.yard_model.specs.World.{all_sends}
use Rattle.actor_laws.specs.Owes.{Hand, facts_in, hand_after}
use Rattle.node_laws.specs.NodeStands.{IsSoundNode, IsViewed, NodeInHand}
use Rattle.node_laws.specs.NodeFound.{Finds, AreLawful}
use Rattle.node_laws.specs.NodeTurns.{MayTake}

-- by these lists the message's number is queued
abbrev pub is_queued_in : SlotLists → Message → Bool
is_queued_in lists m = nat_le m.number (queued m.entity (queue_list lists m.producer))

-- so many of the producer's commands to the entity are recorded
abbrev pub is_recorded_in : Script → SlotLists → ℕ → List ℕ → ℕ → Bool
is_recorded_in c lists p e n = nat_le n (position p (journal e (shard_list lists (shard_of (setting c) e))))

-- a message that is sent is queued; what is acknowledged is recorded
abbrev pub is_carried_body : Script → SlotLists → Body → Bool
is_carried_body c lists (body.Sequenced m) = is_queued_in lists m
is_carried_body c lists (body.Request p e n u) = is_recorded_in c lists p e n
is_carried_body c lists (body.Ack p e n) = is_recorded_in c lists p e n
is_carried_body c lists b = true

-- a record's number is queued
abbrev pub is_carried_fact : SlotLists → Fact → Bool
is_carried_fact lists (fact.Wrote e r) = nat_le r.place (queued e (queue_list lists r.producer))
is_carried_fact lists f = true

abbrev pub is_view : Body → Bool
is_view (body.View v xs) = true
is_view b = false

-- so is each item where it is told, by what is in hand; and no view is posted
abbrev pub carried_in_hand : Script → Hand → List Item → Bool
carried_in_hand c h [] = true
carried_in_hand c h (item.Post p ∷ is) = not (is_view p.body) && is_carried_body c h.lists p.body && carried_in_hand c h is
carried_in_hand c h (item.Fact f ∷ is) = is_carried_fact h.lists f && carried_in_hand c (hand_after c h f) is

-- every message that the node keeps or stashes is queued
pub record Carries (lists : SlotLists) (st : Node) : Type 0 where
  pub kept : (s : ℕ) → list_all (is_queued_in lists) (kept_of st.region.kept s) ≡ true
  pub stashed : (e : List ℕ) → list_all (is_queued_in lists) (cell st.entities e).stash ≡ true

-- what a packet brings is so too
abbrev pub IsBrought : Script → SlotLists → Input → Type 0
IsBrought c lists (input.Packet p) = is_carried_body c lists p.body ≡ true
IsBrought c lists i = Unit {0}

pub record CarriesOn (c : Script) (h : Hand) (st : Node) (acts : List Act) : Type 0 where
  pub carried_are : carried_in_hand c h (items_of acts) ≡ true
  pub carries : Carries (fold (hand_after c) h (facts_in (items_of acts))).lists (fold after st acts)

-- each input keeps that, whatever lawful lists it finds of the slots that the node doesn't hold
abbrev pub TurnCarries : Type 0
TurnCarries = (c : Script) (vouches : List ℕ → ℕ → ℕ → Bool) (lists : SlotLists) (st : Node) (i : Input) (h : Hand) → IsScript c → IsSoundNode c st → IsViewed st → AreLawful c lists → MayTake c vouches st i
    → NodeInHand c h st → Finds lists st h → Carries h.lists st → IsBrought c h.lists i → CarriesOn c h st (turn (all_sends c) lists i st)
