-- Members of the world: each is up, and a view tells members of different nodes.
use Rattle.std.specs.Prelude.{◌≡◌, Bool, true, Some}
use Rattle.yard_model.specs.declared.incarnation.Incarnation.{Incarnation}
use Rattle.yard_model.specs.declared.packet.Body.{Body}
use Rattle.yard_model.specs.declared.packet.Body.TheVariants as body
use Rattle.yard_model.specs.declared.packet.Packet.{Packet}
use Rattle.yard_model.specs.Members.{are_of_different_nodes}
use Rattle.yard_model.specs.Node.{Node}
use Rattle.yard_model.specs.World.{World, node_at}

abbrev pub is_different_body : Body → Bool
is_different_body (body.View v xs) = are_of_different_nodes xs
is_different_body b = true

-- the members that a packet tells, if it is a view, are of different nodes
abbrev pub has_different_members : Packet → Bool
has_different_members p = is_different_body p.body

-- it is up
pub record IsThere (w : World) (x : Incarnation) : Type 0 where
  pub node : Node
  pub is_up : node_at w x.node ≡ Some node
  pub who_is : node.who ≡ x
