use Rattle.std.proofs.Common.{refl, length}
use Rattle.entity_cells.specs.Celled.{celled_at, celled}
use Rattle.shard_entities.proofs.CountLaws.{count_some, goes}
use Rattle.shard_entities.proofs.DropLaws.{cleared_stands, cleared_moved}
use Rattle.shard_entities.proofs.RestlessLaws.{goes_on, place_there, all_there}
use Rattle.shard_entities.proofs.LodgedLaws.{cell_read}
use Rattle.shard_entities.proofs.shards.Shards.clear.Goals as goal

pub count_out-requires : goal.count_out-requires
count_out-requires c = count_some c.self.invariant.kept c.self.view_is c.requires.place c.exists-was.ensures c.get.ensures.value c.index_mut.ensures.value

pub note-requires-clause-place : goal.note-requires-clause-place
note-requires-clause-place c = place_there c.self.invariant.kept.lodged c.self.view_is c.requires.place

pub note-requires-clause-bound : goal.note-requires-clause-bound
note-requires-clause-bound c = all_there c.self.invariant.kept.lodged c.self.invariant.restless

pub invariant_of-self : goal.invariant_of-self
invariant_of-self c = rw (c.clear.ensures) (record {
  kept = goes (celled (length (celled_at c.self.inside.cells c.args.place.now.at).cell.reach) (celled_at c.self.inside.cells c.args.place.now.at).window) c.self.invariant.kept c.self.view_is c.requires.place refl c.exists-was.ensures c.get.ensures.value c.index_mut.ensures.value c.count_out.ensures
      (cleared_stands c.self.invariant.kept.lodged c.self.view_is c.requires.place (cell_read c.self.invariant.kept.lodged c.self.view_is c.requires.place) refl);
  ready = c.self.invariant.ready;
  restless = goes_on (celled (length (celled_at c.self.inside.cells c.args.place.now.at).cell.reach) (celled_at c.self.inside.cells c.args.place.now.at).window) c.self.invariant.kept.lodged c.self.view_is c.requires.place refl c.note.ensures c.self.invariant.restless;
})

pub returns : goal.returns
returns c = rw (c.clear.ensures) (cleared_moved c.self.invariant.kept.lodged c.self.view_is c.requires.place (cell_read c.self.invariant.kept.lodged c.self.view_is c.requires.place) refl)
