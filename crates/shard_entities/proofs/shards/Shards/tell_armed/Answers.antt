use Rattle.std.proofs.Common.{refl}
use Rattle.yard_model.specs.declared.fact.Fact.TheVariants as fact
use Rattle.yard_model.specs.Move.{told}
use Rattle.entity_cells.specs.Celled.{celled_at, celled_after}
use Rattle.shard_entities.proofs.CountLaws.{stays}
use Rattle.shard_entities.proofs.LodgedLaws.{cell_read, cell_moved, stands}
use Rattle.shard_entities.proofs.MoveLaws.{of_arm}
use Rattle.entity_cells.proofs.Keeping.{keeps_arm}
use Rattle.shard_entities.proofs.RestlessLaws.{rests_on}
use Rattle.shard_entities.proofs.shards.Shards.tell_armed.Goals as goal

pub invariant_of-self : goal.invariant_of-self
invariant_of-self c = rw (c.arm.ensures c.args.place.now.entity) (record {
  kept = stays (celled_after (celled_at c.self.inside.cells c.args.place.now.at) (told (fact.Armed c.args.place.now.entity c.args.keep))) c.self.invariant.kept c.self.view_is c.requires.place (cell_read c.self.invariant.kept.lodged c.self.view_is c.requires.place) refl
      (stands (keeps_arm c.args.place.now.entity c.args.keep) c.self.invariant.kept.lodged c.self.view_is c.requires.place (cell_read c.self.invariant.kept.lodged c.self.view_is c.requires.place) refl);
  ready = c.self.invariant.ready;
  restless = rests_on (celled_after (celled_at c.self.inside.cells c.args.place.now.at) (told (fact.Armed c.args.place.now.entity c.args.keep))) c.self.invariant.kept.lodged c.self.view_is c.requires.place (cell_read c.self.invariant.kept.lodged c.self.view_is c.requires.place) refl c.self.invariant.restless;
})

pub returns-clause-state : goal.returns-clause-state
returns-clause-state c = rw (c.arm.ensures c.args.place.now.entity) (cell_moved (of_arm c.args.place.now.entity c.args.keep) c.self.invariant.kept.lodged c.self.view_is c.requires.place (cell_read c.self.invariant.kept.lodged c.self.view_is c.requires.place) refl)
