use Rattle.std.proofs.Common.{[], arith, refl}
use Rattle.trace_text.specs.Places.{tally_of}
use Rattle.trace_text.proofs.RowLaws.{map_done, map_next}
use Rattle.trace_text.proofs.queues.no_tallies.Goals as goal

pub loop-preserved : goal.loop-preserved
loop-preserved c = map_next (tally_of []) c.args.names.now c.loop.index [] _ c.loop.tallies.items c.push.new.self.items _ (omega arith) c.in_ok-push.ensures.items refl c.loop.invariant

pub returns : goal.returns
returns c = map_done (tally_of []) c.args.names.now c.loop.index c.loop.tallies.items _ (omega arith) c.loop.invariant
