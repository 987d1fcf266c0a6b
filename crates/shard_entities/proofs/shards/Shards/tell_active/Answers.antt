use Rattle.std.proofs.Common.{refl, sym, ◌∙◌}
use Rattle.yard_model.specs.declared.fact.Fact.TheVariants as fact
use Rattle.yard_model.specs.Move.{told}
use Rattle.entity_cells.specs.Celled.{celled_at, celled_after}
use Rattle.shard_entities.proofs.CountLaws.{comes, count_fits}
use Rattle.shard_entities.proofs.LodgedLaws.{cell_read, window_is, pending_is, active_cell, cell_put, cell_moved_to}
use Rattle.shard_entities.proofs.MoveLaws.{of_active}
use Rattle.shard_entities.proofs.RestlessLaws.{goes_on, place_there, all_there}
use Rattle.shard_entities.proofs.shards.Shards.tell_active.Goals as goal

pub count_in-requires : goal.count_in-requires
count_in-requires c = count_fits c.self.invariant.kept c.self.view_is c.requires.place c.get.ensures.value c.index_mut.ensures.value

pub note-requires-clause-place : goal.note-requires-clause-place
note-requires-clause-place c = place_there c.self.invariant.kept.lodged c.self.view_is c.requires.place

pub note-requires-clause-bound : goal.note-requires-clause-bound
note-requires-clause-bound c = all_there c.self.invariant.kept.lodged c.self.invariant.restless

pub invariant_of-self : goal.invariant_of-self
invariant_of-self c = rw (c.activate.ensures.cell c.args.self.now.state.who c.args.place.now.entity c.args.number c.args.state.now) (record {
  kept = comes (record { cell = (celled_after (celled_at c.self.inside.cells c.args.place.now.at) (told (fact.Active c.args.self.now.state.who c.args.place.now.entity c.args.number c.args.state.now))).cell; state = c.args.state.now; window = (celled_at c.self.inside.cells c.args.place.now.at).window }) c.self.invariant.kept c.self.view_is c.requires.place refl c.exists-was.ensures c.get.ensures.value c.index_mut.ensures.value c.count_in.ensures
      (cell_put c.self.invariant.kept.lodged c.self.view_is c.requires.place (active_cell c.args.self.now.state.who c.args.place.now.entity c.args.number c.args.state.now c.self.invariant.kept.lodged c.self.view_is c.requires.place (cell_read c.self.invariant.kept.lodged c.self.view_is c.requires.place) refl c.requires.leads c.requires.valid));
  ready = c.self.invariant.ready;
  restless = goes_on (record { cell = (celled_after (celled_at c.self.inside.cells c.args.place.now.at) (told (fact.Active c.args.self.now.state.who c.args.place.now.entity c.args.number c.args.state.now))).cell; state = c.args.state.now; window = (celled_at c.self.inside.cells c.args.place.now.at).window }) c.self.invariant.kept.lodged c.self.view_is c.requires.place refl c.note.ensures c.self.invariant.restless;
})

pub returns-clause-state : goal.returns-clause-state
returns-clause-state c = rw (c.activate.ensures.cell c.args.self.now.state.who c.args.place.now.entity c.args.number c.args.state.now) (cell_moved_to c.args.state.now (of_active c.args.self.now.state.who c.args.place.now.entity c.args.number c.args.state.now) c.self.invariant.kept.lodged c.self.view_is c.requires.place (cell_read c.self.invariant.kept.lodged c.self.view_is c.requires.place) refl)

pub activate-requires-clause-window : goal.activate-requires-clause-window
activate-requires-clause-window c = c.requires.window ∙ sym (window_is c.self.invariant.kept.lodged c.self.view_is c.requires.place)

pub returns-clause-pending : goal.returns-clause-pending
returns-clause-pending c = c.activate.ensures.pending ∙ pending_is c.self.invariant.kept.lodged c.self.view_is c.requires.place
