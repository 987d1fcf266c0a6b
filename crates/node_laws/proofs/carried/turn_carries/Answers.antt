use Rattle.node_laws.proofs.CarriedTurns as turns
use Rattle.node_laws.proofs.carried.turn_carries.Goals as goal

pub returns : goal.returns
returns c = turns.turn_carries (record {
  turns = record {
    routes = record { region = c.region_keeps.ensures; entities = c.entities_stand.ensures; message = c.genuine_is_message.ensures };
    starts = c.shard_starts.ensures;
    begins = c.coordinator_begins.ensures;
    produces = c.producer_keeps.ensures;
    sends = c.producer_routes.ensures;
    granted = c.producer_is_granted.ensures;
  };
  writes = c.next_message_follows.ensures;
  follows = c.entities_follow.ensures;
})
