use Rattle.std.proofs.Common.{◌<◌, ℕ}
use Rattle.std.specs.Prelude.{slice_index_or}
use Rattle.yard_model.specs.declared.event.Event.TheVariants as event
use Rattle.fact_lines.specs.Readable.{FitsEvent}
use Rattle.readable_lists.proofs.sized.look_at_events.Given as goal

abbrev pub invariant-loop-i : goal.invariant-loop-i
invariant-loop-i l = (k : ℕ) → k < l.i → FitsEvent (slice_index_or l.events k event.Created)
