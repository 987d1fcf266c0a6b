use Rattle.std.proofs.Common.{refl}
use Rattle.yard_model.specs.declared.fact.Fact.TheVariants as fact
use Rattle.yard_model.specs.Move.{told}
use Rattle.entity_cells.specs.Celled.{celled_at, celled_after}
use Rattle.shard_entities.proofs.CountLaws.{stays}
use Rattle.shard_entities.proofs.LodgedLaws.{cell_read, stash_inside, cell_moved, cell_put, stashed_cell}
use Rattle.shard_entities.proofs.MoveLaws.{of_stashed}
use Rattle.shard_entities.proofs.RestlessLaws.{rests_on}
use Rattle.shard_entities.proofs.shards.Shards.tell_stashed.Goals as goal

pub invariant_of-self : goal.invariant_of-self
invariant_of-self c = rw (c.put.ensures c.args.self.now.state.who) (record {
  kept = stays (celled_after (celled_at c.self.inside.cells c.args.place.now.at) (told (fact.Stashed c.args.self.now.state.who c.args.message.now))) c.self.invariant.kept c.self.view_is c.requires.place (cell_read c.self.invariant.kept.lodged c.self.view_is c.requires.place) refl
      (cell_put c.self.invariant.kept.lodged c.self.view_is c.requires.place (stashed_cell c.args.self.now.state.who c.args.message.now c.self.invariant.kept.lodged c.self.view_is c.requires.place (cell_read c.self.invariant.kept.lodged c.self.view_is c.requires.place) refl c.requires.genuine c.requires.idle));
  ready = c.self.invariant.ready;
  restless = rests_on (celled_after (celled_at c.self.inside.cells c.args.place.now.at) (told (fact.Stashed c.args.self.now.state.who c.args.message.now))) c.self.invariant.kept.lodged c.self.view_is c.requires.place (cell_read c.self.invariant.kept.lodged c.self.view_is c.requires.place) refl c.self.invariant.restless;
})

pub returns-clause-state : goal.returns-clause-state
returns-clause-state c = rw (c.put.ensures c.args.self.now.state.who) (cell_moved (of_stashed c.args.self.now.state.who c.requires.entity) c.self.invariant.kept.lodged c.self.view_is c.requires.place (cell_read c.self.invariant.kept.lodged c.self.view_is c.requires.place) refl)

pub put-requires-clause-room : goal.put-requires-clause-room
put-requires-clause-room c = stash_inside c.self.invariant.kept.lodged c.self.view_is c.requires.place c.requires.stash
