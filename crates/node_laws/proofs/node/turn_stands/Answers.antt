use Rattle.node_laws.proofs.NodeInputs as inputs
use Rattle.node_laws.proofs.node.turn_stands.Goals as goal

pub returns : goal.returns
returns c = inputs.turn_stands (record {
  routes = record { region = c.region_keeps.ensures; entities = c.entities_stand.ensures; message = c.genuine_is_message.ensures };
  starts = c.shard_starts.ensures;
  begins = c.coordinator_begins.ensures;
  produces = c.producer_keeps.ensures;
  sends = c.producer_routes.ensures;
  granted = c.producer_is_granted.ensures;
})
