use Rattle.std.proofs.Common.{◌∷◌, [], length, arith, ap, ◌∙◌, length-append}
use Rattle.solo_run.proofs.FactsLaws.{held_more}
use Rattle.solo_run.proofs.engine.held_lists.Goals as goal

pub loop-preserved : goal.loop-preserved
loop-preserved c = record {
  built = held_more c.loop.lists.items _ c.in_ok-held_list.field-0 c.loop.counter c.args.shards (omega arith) c.loop.invariant.long c.in_ok-push.ensures.items c.in_ok-held_list.ensures c.loop.invariant.built;
  long = ap length c.in_ok-push.ensures.items ∙ (length-append c.loop.lists.items (c.in_ok-held_list.field-0 ∷ []) ∙ omega arith);
  within = omega arith;
}
