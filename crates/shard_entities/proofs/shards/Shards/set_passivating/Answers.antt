use Rattle.std.proofs.Common.{refl}
use Rattle.yard_model.specs.Move.{passivates}
use Rattle.entity_cells.specs.Celled.{celled_at, celled_after}
use Rattle.shard_entities.proofs.CountLaws.{stays}
use Rattle.shard_entities.proofs.LodgedLaws.{cell_read, cell_moved, stands}
use Rattle.shard_entities.proofs.MoveLaws.{of_passivates}
use Rattle.entity_cells.proofs.Keeping.{keeps_passivates}
use Rattle.shard_entities.proofs.RestlessLaws.{rests_on}
use Rattle.shard_entities.proofs.shards.Shards.set_passivating.Goals as goal

pub invariant_of-self : goal.invariant_of-self
invariant_of-self c = rw (c.passivate.ensures c.args.place.now.entity) (record {
  kept = stays (celled_after (celled_at c.self.inside.cells c.args.place.now.at) (passivates c.args.place.now.entity)) c.self.invariant.kept c.self.view_is c.requires.place (cell_read c.self.invariant.kept.lodged c.self.view_is c.requires.place) refl
      (stands (keeps_passivates c.args.place.now.entity) c.self.invariant.kept.lodged c.self.view_is c.requires.place (cell_read c.self.invariant.kept.lodged c.self.view_is c.requires.place) refl);
  ready = c.self.invariant.ready;
  restless = rests_on (celled_after (celled_at c.self.inside.cells c.args.place.now.at) (passivates c.args.place.now.entity)) c.self.invariant.kept.lodged c.self.view_is c.requires.place (cell_read c.self.invariant.kept.lodged c.self.view_is c.requires.place) refl c.self.invariant.restless;
})

pub returns : goal.returns
returns c = rw (c.passivate.ensures c.args.place.now.entity) (cell_moved (of_passivates c.args.place.now.entity) c.self.invariant.kept.lodged c.self.view_is c.requires.place (cell_read c.self.invariant.kept.lodged c.self.view_is c.requires.place) refl)
