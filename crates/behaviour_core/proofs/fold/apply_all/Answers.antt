use Rattle.std.proofs.Common.{◌+◌, drop}
use Rattle.std.specs.Prelude.{slice_index_or}
use Rattle.std.proofs.lemmas.List.{drop_more}
use Rattle.yard_model.specs.declared.event.Event.TheVariants as event
use Rattle.behaviour_core.specs.Laws.{valid_and_applicable}
use Rattle.behaviour_core.proofs.fold.apply_all.Goals as goal

pub loop-event-preserved : goal.loop-event-preserved
loop-event-preserved g c =
    let cut = drop_more c.args.events.now c.loop-event.event-index (event.Added 0) c.loop-event-test.true in
    let both = valid_and_applicable (g.B.Behaviour.kind_of c.args.behaviour.now) c.loop-event.state c.apply_in_place.new.state
    (slice_index_or c.args.events.now c.loop-event.event-index (event.Added 0)) (drop (c.loop-event.event-index + 1) c.args.events.now)
    c.apply_in_place.ensures c.loop-event.invariant.valid (rw cut at c.loop-event.invariant.may) in
    record {
      valid = both.0;
      may = both.1;
      value = rw c.apply_in_place.ensures (rw cut at c.loop-event.invariant.value);
    }
