use Rattle.std.proofs.Common.{arith}
use Rattle.trace_text.proofs.JsonLaws.{record_next}
use Rattle.trace_text.proofs.json_text.put_others.Goals as goal

pub loop-written-preserved : goal.loop-written-preserved
loop-written-preserved c = record {
  items = record_next c.args.records.now c.loop-written.written-index c.written-item.result _ _ _ (omega arith) c.written-item.is c.in_ok-end.ensures.items c.loop-written.invariant.items;
  within = c.in_ok-end.ensures.end;
  more = omega (arith, c.in_ok-end.ensures.length, c.loop-written.invariant.more);
}
