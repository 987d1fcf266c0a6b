use Rattle.std.proofs.Common.{refl}
use Rattle.yard_model.specs.declared.packet.Body.TheVariants as body
use Rattle.yard_model.specs.Move.{post}
use Rattle.entity_cells.specs.Celled.{celled_at, celled_after}
use Rattle.shard_entities.proofs.CountLaws.{request_leaves, stays}
use Rattle.shard_entities.proofs.LodgedLaws.{cell_read, reach_inside, cell_moved, stands}
use Rattle.shard_entities.proofs.MoveLaws.{of_request}
use Rattle.entity_cells.proofs.Keeping.{keeps_request}
use Rattle.shard_entities.proofs.RestlessLaws.{request_rests, rests_on}
use Rattle.shard_entities.proofs.shards.Shards.post_request.Goals as goal

pub invariant_of-self : goal.invariant_of-self
invariant_of-self c = rw (c.ask.ensures c.args.self.now.state.who c.args.message.now.origin c.args.message.now.entity c.args.confirmed) (record {
  kept = stays (celled_after (celled_at c.self.inside.cells c.args.place.now.at) (post c.args.self.now.state.who c.args.message.now.origin (body.Request c.args.message.now.producer c.args.message.now.entity c.args.confirmed c.args.up_to))) c.self.invariant.kept c.self.view_is c.requires.place (cell_read c.self.invariant.kept.lodged c.self.view_is c.requires.place) (request_leaves c.args.self.now.state.who c.args.message.now.origin c.args.message.now.producer c.args.message.now.entity c.args.confirmed c.args.up_to (celled_at c.self.inside.cells c.args.place.now.at) refl)
      (stands (keeps_request c.args.self.now.state.who c.args.message.now.origin c.args.message.now.producer c.args.message.now.entity c.args.confirmed c.args.up_to) c.self.invariant.kept.lodged c.self.view_is c.requires.place (cell_read c.self.invariant.kept.lodged c.self.view_is c.requires.place) refl);
  ready = c.self.invariant.ready;
  restless = rests_on (celled_after (celled_at c.self.inside.cells c.args.place.now.at) (post c.args.self.now.state.who c.args.message.now.origin (body.Request c.args.message.now.producer c.args.message.now.entity c.args.confirmed c.args.up_to))) c.self.invariant.kept.lodged c.self.view_is c.requires.place (cell_read c.self.invariant.kept.lodged c.self.view_is c.requires.place) (request_rests c.args.self.now.state.who c.args.message.now.origin c.args.message.now.producer c.args.message.now.entity c.args.confirmed c.args.up_to (celled_at c.self.inside.cells c.args.place.now.at) refl) c.self.invariant.restless;
})

pub returns-clause-state : goal.returns-clause-state
returns-clause-state c = rw (c.ask.ensures c.args.self.now.state.who c.args.message.now.origin c.args.message.now.entity c.args.confirmed) (cell_moved (of_request c.args.self.now.state.who c.args.message.now.origin c.args.message.now.producer c.args.confirmed c.args.up_to c.requires.entity) c.self.invariant.kept.lodged c.self.view_is c.requires.place (cell_read c.self.invariant.kept.lodged c.self.view_is c.requires.place) refl)

pub ask-requires-clause-producer : goal.ask-requires-clause-producer
ask-requires-clause-producer c = reach_inside c.args.message.now.producer c.self.invariant.kept.lodged c.self.view_is c.requires.place c.requires.producer
