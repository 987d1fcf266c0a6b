-- What a node that is up is given for an order of its worker.
use Rattle.std.specs.Prelude.{◌≡◌, ℕ, true, List, Bool, Option, Some, None}
use Rattle.yard_model.specs.declared.charter.Order.{Order}
use Rattle.yard_model.specs.declared.charter.Order.TheVariants as order
use Rattle.yard_model.specs.declared.incarnation.Slot.TheVariants as slot
use Rattle.yard_model.specs.declared.input.Input.{Input}
use Rattle.yard_model.specs.declared.input.Input.TheVariants as input
use Rattle.yard_model.specs.Behaviour.{is_in}
use Rattle.yard_model.specs.Node.{Node}
use Rattle.yard_model.specs.Script.{Script, IsScript}
use Rattle.node_laws.specs.NodeTurns.{MayTake}
use Rattle.node_core.specs.Leased.{IfPacket, IfProduce, IsFor}
use Rattle.lease_table.specs.Fits.{admits}
use Rattle.worker_orders.specs.Waiting.{IsDue}
use Rattle.shard_lease.specs.Meaning.{Meaning}

-- an `up`, a `crash` and what no worker takes are none
abbrev pub input_of : Order → Option Input
input_of (order.Leave m) = Some input.Leave
input_of (order.Tick m) = Some input.Tick
input_of (order.Produce p m) = Some (input.Produce p)
input_of (order.Rest p) = Some (input.Rest p)
input_of (order.Send p e k) = Some (input.Send p)
input_of (order.Passivate e) = Some (input.Passivate e)
input_of (order.Rebalance l) = Some (input.Rebalance l)
input_of o = None

-- what a turn of the node n asks of its input
pub record IsGiven (c : Script) (n : ℕ) (m : Meaning) (st : Node) (i : Input) : Type 0 where
  pub addressed : IfPacket i (IsFor m st.who)
  pub may : MayTake c m.vouches st i
  pub produces : IfProduce i (λ p. admits c n (slot.Queue p) ≡ true)

-- each order that is due to the worker of node n may be given to its node
abbrev pub DuesAreGiven : Type 0
DuesAreGiven = (c : Script) (n : ℕ) (m : Meaning) (st : Node) (o : Order) (i : Input) → IsScript c → is_in 1 c.config.nodes n ≡ true → IsDue c n o → input_of o ≡ Some i → IsGiven c n m st i
