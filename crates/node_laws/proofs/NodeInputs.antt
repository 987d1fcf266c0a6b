-- Each input of a node keeps what stands of it.
use Rattle.yard_model.specs.declared.input.Input.TheVariants as input
use Rattle.yard_model.specs.Node.{turn}
use Rattle.yard_model.specs.Producer as producer
use Rattle.yard_model.specs.World.{all_sends}
use Rattle.node_laws.specs.NodeFound.{Finds}
use Rattle.node_laws.specs.NodeTurns.{TurnStands}
use Rattle.node_laws.proofs.NodeLeases.{plain_if}
use Rattle.node_laws.proofs.NodePackets.{TurnLaws, rebalance_node, producer_node, send_node, produces_node, packet_node}
use Rattle.node_laws.proofs.NodeProducers.{above_zero, give_back_node}
use Rattle.node_laws.proofs.NodeRoutes.{leave_node, ask_to_passivate_node, arm_node}
use Rattle.node_laws.proofs.NodeTicks.{ticks_node}

pub turn_stands : TurnLaws → TurnStands
turn_stands laws c v lists st (input.Packet p) script is viewed lawful may = packet_node c v lists st p.from p.body laws script is viewed lawful may
turn_stands laws c v lists st input.Tick script is viewed lawful may = ticks_node c v lists st laws script is lawful
turn_stands laws c v lists st input.Leave script is viewed lawful may = plain_if (Finds lists st) c v st (turn (all_sends c) lists input.Leave st) (leave_node c v st laws.routes.region script is)
turn_stands laws c v lists st (input.Rebalance n) script is viewed lawful may = plain_if (Finds lists st) c v st (turn (all_sends c) lists (input.Rebalance n) st) (rebalance_node c v st n is)
turn_stands laws c v lists st (input.Produce p) script is viewed lawful may = produces_node c v lists p st laws is lawful may
turn_stands laws c v lists st (input.Rest p) script is viewed lawful may =
    plain_if (Finds lists st) c v st (turn (all_sends c) lists (input.Rest p) st) (producer_node c v st p producer.give_back is (λ k g. give_back_node laws.produces c v st p k is (above_zero p c.config.producers may).0 g))
turn_stands laws c v lists st (input.Send p) script is viewed lawful may = plain_if (Finds lists st) c v st (turn (all_sends c) lists (input.Send p) st) (send_node c v p st laws script is may)
turn_stands laws c v lists st (input.Passivate e) script is viewed lawful may =
    plain_if (Finds lists st) c v st (turn (all_sends c) lists (input.Passivate e) st) (ask_to_passivate_node c v st e (laws.routes.entities c st.entities is.entities) is may)
turn_stands laws c v lists st (input.FailWrite e k) script is viewed lawful may =
    plain_if (Finds lists st) c v st (turn (all_sends c) lists (input.FailWrite e k) st) (arm_node c v st e k (laws.routes.entities c st.entities is.entities) is may)
