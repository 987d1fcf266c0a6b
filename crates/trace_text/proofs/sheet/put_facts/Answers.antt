use Rattle.std.proofs.Common.{arith, take}
use Rattle.yard_model.specs.Text.{fact_line}
use Rattle.trace_text.proofs.GrownLaws.{each_done, each_next}
use Rattle.trace_text.proofs.sheet.put_facts.Goals as goal

pub loop-fact-preserved : goal.loop-fact-preserved
loop-fact-preserved c = record {
  items = each_next fact_line c.args.facts.now c.loop-fact.fact-index c.fact-item.result (take c.loop-fact.end c.loop-fact.cells.items) _ _ (omega arith) c.fact-item.is c.in_ok-end.ensures.items c.loop-fact.invariant.items;
  within = c.in_ok-end.ensures.end;
  more = omega (arith, c.in_ok-end.ensures.length, c.loop-fact.invariant.more);
}

pub returns-clause-items : goal.returns-clause-items
returns-clause-items c = each_done fact_line c.args.facts.now c.loop-fact.fact-index (take c.loop-fact.end c.loop-fact.cells.items) _ (omega arith) c.loop-fact.invariant.items
