-- What the items of a turn show of the node, each in turn, is what the turn's acts do to it.
use Rattle.std.specs.Prelude.{◌≡◌, ℕ, Bool, true, false, List, [], ◌∷◌, fold, Option, Some, None, slice_index_or}
use Rattle.yard_model.specs.declared.fact.Fact.{Fact}
use Rattle.yard_model.specs.declared.fact.Fact.TheVariants as fact
use Rattle.yard_model.specs.declared.out.Item.{Item}
use Rattle.yard_model.specs.declared.out.Item.TheVariants as item
use Rattle.yard_model.specs.declared.input.Input.{Input}
use Rattle.yard_model.specs.declared.input.Input.TheVariants as input
use Rattle.yard_model.specs.declared.input.Phase.{Phase}
use Rattle.yard_model.specs.declared.input.Phase.TheVariants as phase
use Rattle.yard_model.specs.declared.incarnation.Incarnation.{Incarnation}
use Rattle.yard_model.specs.declared.packet.Body.{Body}
use Rattle.yard_model.specs.declared.packet.Body.TheVariants as body
use Rattle.yard_model.specs.declared.packet.Packet.{Packet}
use Rattle.yard_model.specs.declared.charter.Order.TheVariants as order
use Rattle.yard_model.specs.Entities.{Cell, Entities, cell, is_running}
use Rattle.yard_model.specs.Node.{Node, Act, after, items_of, turn}
use Rattle.yard_model.specs.Queries.{Known, show, show_got, show_order}
use Rattle.yard_model.specs.Region.{Region, is_routable, kept_of}
use Rattle.yard_model.specs.Script.{Script, IsScript, setting}
use Rattle.yard_model.specs.Trace.{lists_step}
use Rattle.yard_model.specs.World.{all_sends}
use Rattle.actor_laws.specs.Owes.{Hand}
use Rattle.node_laws.specs.NodeStands.{IsSoundNode, IsViewed, NodeInHand}
use Rattle.node_laws.specs.NodeTurns.{MayTake}

-- the fact of an item, whatever the number of the packet
abbrev pub fact_of : Item → Fact
fact_of (item.Fact f) = f
fact_of (item.Post p) = fact.Sent 0 p

-- what is known of the lists after an item
abbrev pub known_after : Known → Item → Known
known_after k i = record k { world = record k.world { lists = lists_step k.world.set k.world.lists (fact_of i) } }

-- the node as the items show it, each in turn
abbrev pub shown : Known → Node → List Item → Node
shown k st [] = st
shown k st (i ∷ is) = shown (known_after k i) (fold after st (show k (fact_of i) st)) is

-- the node as the fact shows it that opens the input: the delivery of a packet, or the order
abbrev pub opened : Input → Node → Node
opened (input.Packet p) st = fold after st (show_got p.from p.body st)
opened input.Leave st = fold after st (show_order (Some (order.Leave 0)) st)
opened input.Tick st = fold after st (show_order (Some (order.Tick 0)) st)
opened i st = st

abbrev pub packet_of : Input → Option Packet
packet_of (input.Packet p) = Some p
packet_of i = None

-- a view that is delivered has the members of its version
abbrev pub IsToldBody : List (List Incarnation) → Body → Type 0
IsToldBody views (body.View v xs) = slice_index_or views v [] ≡ xs
IsToldBody views b = Unit {0}

abbrev pub IsTold : List (List Incarnation) → Input → Type 0
IsTold views (input.Packet p) = IsToldBody views p.body
IsTold views i = Unit {0}

-- no message is kept that could be routed
abbrev pub IsRouted : Region → Entities → Type 0
IsRouted r st = (s : ℕ) → is_routable r s (is_running st s) ≡ true → kept_of r.kept s ≡ []

-- an entity in this phase stashes nothing
abbrev pub is_calm : Phase → Bool
is_calm phase.Absent = true
is_calm phase.Active = true
is_calm p = false

abbrev pub IsCalm : Cell → Type 0
IsCalm x = is_calm x.phase ≡ true → x.stash ≡ []

-- an entity that doesn't exist has no stash, nor has one that is Active
abbrev pub AreCalm : Entities → Type 0
AreCalm st = (e : List ℕ) → IsCalm (cell st e)

-- so it is between two inputs
pub record IsTidy (st : Node) : Type 0 where
  pub routed : IsRouted st.region st.entities
  pub started : AreCalm st.entities

pub record IsShown (k : Known) (i : Input) (st : Node) (acts : List Act) : Type 0 where
  pub shown_is : shown k (opened i st) (items_of acts) ≡ fold after st acts
  pub tidy : IsTidy (fold after st acts)

-- a turn with these leases, where the queries know the lists, the views and the packet
abbrev pub TurnShown : Type 0
TurnShown = (c : Script) (vouches : List ℕ → ℕ → ℕ → Bool) (k : Known) (st : Node) (i : Input) (h : Hand) → IsScript c → IsSoundNode c st → IsViewed st → IsTidy st → NodeInHand c h st → MayTake c vouches st i
    → k.world.set ≡ setting c → k.world.lists ≡ h.lists → k.packet ≡ packet_of i → IsTold k.views i → IsShown k i st (turn (all_sends c) h.lists i st)
