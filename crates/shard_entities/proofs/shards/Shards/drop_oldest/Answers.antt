use Rattle.std.proofs.Common.{ap, sym, ◌∙◌}
use Rattle.yard_model.specs.Entities.{Cell}
use Rattle.entity_cells.specs.Celled.{celled_at}
use Rattle.shard_entities.proofs.CountLaws.{drop_leaves, stays}
use Rattle.shard_entities.proofs.DropLaws.{dropped_stands, dropped_moved}
use Rattle.shard_entities.proofs.LodgedLaws.{cell_at, cell_read}
use Rattle.shard_entities.proofs.RestlessLaws.{drop_rests, rests_on}
use Rattle.shard_entities.proofs.shards.Shards.drop_oldest.Goals as goal

pub pop-requires-clause-gone : goal.pop-requires-clause-gone
pop-requires-clause-gone c = sym (ap (λ (x : Cell). x.phase) (cell_at c.self.invariant.kept.lodged c.self.view_is c.requires.place (cell_read c.self.invariant.kept.lodged c.self.view_is c.requires.place))) ∙ c.requires.gone

pub invariant_of-self : goal.invariant_of-self
invariant_of-self c = rw c.pop.ensures.others (record {
  kept = stays (celled_at c.pop.new.self c.args.place.now.at) c.self.invariant.kept c.self.view_is c.requires.place (cell_read c.self.invariant.kept.lodged c.self.view_is c.requires.place) (drop_leaves c.args.self.now.state.who c.pop.result (celled_at c.self.inside.cells c.args.place.now.at) (celled_at c.pop.new.self c.args.place.now.at) c.pop.ensures.cell c.pop.ensures.unchanged)
      (dropped_stands c.pop.result (celled_at c.pop.new.self c.args.place.now.at) c.self.invariant.kept.lodged c.self.view_is c.requires.place (cell_read c.self.invariant.kept.lodged c.self.view_is c.requires.place) c.requires.gone c.pop.ensures.cell c.pop.ensures.unchanged);
  ready = c.self.invariant.ready;
  restless = rests_on (celled_at c.pop.new.self c.args.place.now.at) c.self.invariant.kept.lodged c.self.view_is c.requires.place (cell_read c.self.invariant.kept.lodged c.self.view_is c.requires.place) (drop_rests c.args.self.now.state.who c.pop.result (celled_at c.self.inside.cells c.args.place.now.at) (celled_at c.pop.new.self c.args.place.now.at) c.pop.ensures.cell c.pop.ensures.unchanged) c.self.invariant.restless;
})

pub returns-clause-state : goal.returns-clause-state
returns-clause-state c = rw c.pop.ensures.others (dropped_moved c.pop.result (celled_at c.pop.new.self c.args.place.now.at) c.self.invariant.kept.lodged c.self.view_is c.requires.place (cell_read c.self.invariant.kept.lodged c.self.view_is c.requires.place) c.pop.ensures.empty c.pop.ensures.oldest c.pop.ensures.cell c.pop.ensures.unchanged)
