use Rattle.shard_store.specs.Stores.{lists_at}
use Rattle.world_sim.proofs.GivenLaws.{stores_settled}
use Rattle.world_sim.proofs.stores.settle_stores.Goals as goal

pub returns-in_ok-last-in-Ok-clause-settled : goal.returns-in_ok-last-in-Ok-clause-settled
returns-in_ok-last-in-Ok-clause-settled g c =
    stores_settled c.args.charter.now (g.B.Behaviour.version_of c.args.behaviour) (lists_at c.args.charter.now.config c.args.stores.places) c.in_ok-world.world c.settle.new.self _ _ c.in_ok-last-in-Ok.last c.in_ok-last-in-Ok.settled.places
    c.in_ok-world.ensures c.in-Ok.ensures c.in_ok-last-in-Ok.ensures.same c.in_ok-last-in-Ok.ensures.given
