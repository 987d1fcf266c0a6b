use Rattle.std.proofs.Common.{refl}
use Rattle.yard_model.specs.declared.fact.Fact.TheVariants as fact
use Rattle.yard_model.specs.Move.{told}
use Rattle.entity_cells.specs.Celled.{celled_at, celled_after}
use Rattle.shard_entities.proofs.CountLaws.{comes, count_fits}
use Rattle.shard_entities.proofs.LodgedLaws.{cell_read, cell_moved, stands}
use Rattle.shard_entities.proofs.MoveLaws.{of_start}
use Rattle.entity_cells.proofs.Keeping.{keeps_start}
use Rattle.shard_entities.proofs.RestlessLaws.{goes_on, place_there, all_there}
use Rattle.shard_entities.proofs.shards.Shards.tell_start.Goals as goal

pub count_in-requires : goal.count_in-requires
count_in-requires c = count_fits c.self.invariant.kept c.self.view_is c.requires.place c.get.ensures.value c.index_mut.ensures.value

pub note-requires-clause-place : goal.note-requires-clause-place
note-requires-clause-place c = place_there c.self.invariant.kept.lodged c.self.view_is c.requires.place

pub note-requires-clause-bound : goal.note-requires-clause-bound
note-requires-clause-bound c = all_there c.self.invariant.kept.lodged c.self.invariant.restless

pub invariant_of-self : goal.invariant_of-self
invariant_of-self c = rw (c.start.ensures c.args.self.now.state.who c.args.place.now.entity) (record {
  kept = comes (celled_after (celled_at c.self.inside.cells c.args.place.now.at) (told (fact.Start c.args.self.now.state.who c.args.place.now.entity))) c.self.invariant.kept c.self.view_is c.requires.place refl c.exists-was.ensures c.get.ensures.value c.index_mut.ensures.value c.count_in.ensures
      (stands (keeps_start c.args.self.now.state.who c.args.place.now.entity) c.self.invariant.kept.lodged c.self.view_is c.requires.place (cell_read c.self.invariant.kept.lodged c.self.view_is c.requires.place) refl);
  ready = c.self.invariant.ready;
  restless = goes_on (celled_after (celled_at c.self.inside.cells c.args.place.now.at) (told (fact.Start c.args.self.now.state.who c.args.place.now.entity))) c.self.invariant.kept.lodged c.self.view_is c.requires.place refl c.note.ensures c.self.invariant.restless;
})

pub returns-clause-state : goal.returns-clause-state
returns-clause-state c = rw (c.start.ensures c.args.self.now.state.who c.args.place.now.entity) (cell_moved (of_start c.args.self.now.state.who c.args.place.now.entity) c.self.invariant.kept.lodged c.self.view_is c.requires.place (cell_read c.self.invariant.kept.lodged c.self.view_is c.requires.place) refl)
