-- An input at a node, as the world tells it, where the wire has room for what is posted.
use Rattle.std.specs.Prelude.{◌≡◌, ◌≤◌, ◌+◌, ◌-◌, true, List, [], ◌∷◌, ◌++◌, length, fold, Some, slice_set}
use Rattle.std.specs.List.{list_all}
use Rattle.yard_model.specs.declared.out.Item.{Item}
use Rattle.yard_model.specs.declared.out.Item.TheVariants as item
use Rattle.yard_model.specs.declared.input.Input.{Input}
use Rattle.yard_model.specs.declared.packet.Packet.{Packet}
use Rattle.yard_model.specs.Node.{Node, Act, after, items_of, turn}
use Rattle.yard_model.specs.Trace.{lists_step}
use Rattle.yard_model.specs.Words.{numbers}
use Rattle.yard_model.specs.World.{World, handle, count_posts}
use Rattle.actor_laws.specs.Owes.{facts_in}
use Rattle.play_laws.specs.TurnItems.{is_turn_item}

abbrev pub posts_in : List Item → List Packet
posts_in [] = []
posts_in (item.Fact f ∷ is) = posts_in is
posts_in (item.Post p ∷ is) = p ∷ posts_in is

-- what it posts joins the wire with the next numbers, the lists go on with what it tells, its node is put back, and nothing else changes
pub record HandedOn (w : World) (st : Node) (acts : List Act) (v : World) : Type 0 where
  pub set_is : v.set ≡ w.set
  pub behaviour_is : v.behaviour ≡ w.behaviour
  pub sends_are : v.sends ≡ w.sends
  pub limit_is : v.limit ≡ w.limit
  pub ordered_is : v.ordered ≡ w.ordered
  pub members_are : v.members ≡ w.members
  pub ups_are : v.ups ≡ w.ups
  pub past_is : v.past ≡ w.past
  pub full_is : v.full ≡ w.full
  pub wire_is : v.wire ≡ w.wire ++ posts_in (items_of acts)
  pub fresh_is : v.fresh ≡ w.fresh ++ numbers (length w.wire + 1) (length (posts_in (items_of acts)))
  pub lists_are : v.lists ≡ fold (lists_step w.set) w.lists (facts_in (items_of acts))
  pub nodes_are : v.nodes ≡ slice_set w.nodes ((fold after st acts).who.node - 1) (Some (fold after st acts))

-- any input whose turn tells what turns tell (each but that a write is to fail)
abbrev pub InputsHandOn : Type 0
InputsHandOn = (w : World) (st : Node) (i : Input) → let acts : List Act = turn w.sends w.lists i st in list_all is_turn_item (items_of acts) ≡ true → fold count_posts (length w.wire) (items_of acts) ≤ w.limit → HandedOn w st acts (handle i st w).world
