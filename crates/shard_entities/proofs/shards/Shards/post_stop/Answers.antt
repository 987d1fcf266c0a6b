use Rattle.std.proofs.Common.{◌<◌, refl, subst, length-set, ap, sym, ◌∙◌, get_or-set_same}
use Rattle.yard_model.specs.declared.packet.Body.TheVariants as body
use Rattle.yard_model.specs.Move.{post}
use Rattle.entity_cells.specs.Celled.{celled_at, celled_after, celled}
use Rattle.shard_entities.specs.Restless.{is_restless}
use Rattle.shard_entities.proofs.CountLaws.{stays, stop_leaves}
use Rattle.shard_entities.proofs.LodgedLaws.{cell_read, cell_moved, stands, within}
use Rattle.shard_entities.proofs.MoveLaws.{of_stop_posted}
use Rattle.entity_cells.proofs.Keeping.{keeps_stop_posted}
use Rattle.shard_entities.proofs.RestlessLaws.{goes_on, rests, place_there, all_there}
use Rattle.shard_entities.proofs.shards.Shards.post_stop.Goals as goal

pub phase-now-requires : goal.phase-now-requires
phase-now-requires c = rw (c.ask_stop.ensures c.args.self.now.state.who c.args.self.now.state.who c.args.place.now.entity) (subst (λ n. c.args.place.now.at < n) (sym (length-set c.self.inside.cells c.args.place.now.at (celled_after (celled_at c.self.inside.cells c.args.place.now.at) (post c.args.self.now.state.who c.args.self.now.state.who (body.StopEntity c.args.place.now.entity))))) (within c.self.invariant.kept.lodged c.self.view_is c.requires.place))

pub note-requires-clause-place : goal.note-requires-clause-place
note-requires-clause-place c = place_there c.self.invariant.kept.lodged c.self.view_is c.requires.place

pub note-requires-clause-bound : goal.note-requires-clause-bound
note-requires-clause-bound c = all_there c.self.invariant.kept.lodged c.self.invariant.restless

pub invariant_of-self : goal.invariant_of-self
invariant_of-self c = rw (c.ask_stop.ensures c.args.self.now.state.who c.args.self.now.state.who c.args.place.now.entity) (record {
  kept = stays (celled_after (celled_at c.self.inside.cells c.args.place.now.at) (post c.args.self.now.state.who c.args.self.now.state.who (body.StopEntity c.args.place.now.entity))) c.self.invariant.kept c.self.view_is c.requires.place (cell_read c.self.invariant.kept.lodged c.self.view_is c.requires.place) (stop_leaves c.args.self.now.state.who c.args.self.now.state.who c.args.place.now.entity (celled_at c.self.inside.cells c.args.place.now.at) refl)
      (stands (keeps_stop_posted c.args.self.now.state.who c.args.self.now.state.who c.args.place.now.entity) c.self.invariant.kept.lodged c.self.view_is c.requires.place (cell_read c.self.invariant.kept.lodged c.self.view_is c.requires.place) refl);
  ready = c.self.invariant.ready;
  restless = goes_on (celled_after (celled_at c.self.inside.cells c.args.place.now.at) (post c.args.self.now.state.who c.args.self.now.state.who (body.StopEntity c.args.place.now.entity))) c.self.invariant.kept.lodged c.self.view_is c.requires.place (sym (ap is_restless c.phase-now.ensures ∙ ap rests (ap (λ l. celled_at l c.args.place.now.at) (c.ask_stop.ensures c.args.self.now.state.who c.args.self.now.state.who c.args.place.now.entity) ∙ get_or-set_same c.self.inside.cells c.args.place.now.at (celled_after (celled_at c.self.inside.cells c.args.place.now.at) (post c.args.self.now.state.who c.args.self.now.state.who (body.StopEntity c.args.place.now.entity))) (celled 0 0) (within c.self.invariant.kept.lodged c.self.view_is c.requires.place)))) c.note.ensures c.self.invariant.restless;
})

pub returns-clause-state : goal.returns-clause-state
returns-clause-state c = rw (c.ask_stop.ensures c.args.self.now.state.who c.args.self.now.state.who c.args.place.now.entity) (cell_moved (of_stop_posted c.args.self.now.state.who c.args.self.now.state.who c.args.place.now.entity) c.self.invariant.kept.lodged c.self.view_is c.requires.place (cell_read c.self.invariant.kept.lodged c.self.view_is c.requires.place) refl)
