use Rattle.std.proofs.Common.{[], ◌∷◌}
use Rattle.yard_model.specs.declared.fact.Fact.TheVariants as fact
use Rattle.yard_model.specs.Entities.{snapshot_at}
use Rattle.yard_model.specs.Move.{told}
use Rattle.shard_entities.proofs.DeliverLaws.{number_grown, last_stays, place_stays}
use Rattle.shard_entities.proofs.shards.Shards.write_on.Goals as goal

pub snapshot_where_due-requires-clause-number : goal.snapshot_where_due-requires-clause-number
snapshot_where_due-requires-clause-number g c = number_grown c.args.entry.now c.knows.ensures c.requires.delivery.place_is c.requires.delivery.there.hosted_is c.tell_wrote.ensures.state c.requires.next.number_is

pub snapshot_where_due-requires-clause-newer : goal.snapshot_where_due-requires-clause-newer
snapshot_where_due-requires-clause-newer g c = last_stays c.args.entry.now c.knows.ensures c.requires.delivery.place_is c.requires.delivery.there.hosted_is c.tell_wrote.ensures.state c.requires.next.last

pub ask_more-requires-clause-delivery : goal.ask_more-requires-clause-delivery
ask_more-requires-clause-delivery g c = place_stays c.tell_wrote.new.self (snapshot_at c.args.place.now.entity c.args.entry.now.number c.tell_wrote.new.self.state) c.snapshot_where_due.ensures.state (place_stays c.args.self.now (told (fact.Wrote c.args.place.now.entity c.args.entry.now) ∷ []) c.tell_wrote.ensures.state c.requires.delivery.place_is)
