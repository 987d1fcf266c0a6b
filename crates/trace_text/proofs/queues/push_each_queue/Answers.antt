use Rattle.std.proofs.Common.{◌≡◌, ◌+◌, ap, arith}
use Rattle.yard_model.specs.declared.charter.Config.{Config}
use Rattle.yard_model.specs.SlotLists.{queue_list}
use Rattle.trace_text.specs.Rows.{queue_rows}
use Rattle.trace_text.proofs.RowLaws.{numbers_step}
use Rattle.trace_text.proofs.queues.push_each_queue.Goals as goal

pub loop-i-preserved : goal.loop-i-preserved
loop-i-preserved g c =
    let same : c.config.result.now.producers ≡ c.args.charter.now.config.producers = ap (λ (k : Config). k.producers) c.config.ensures.value in
    record {
      parts = numbers_step (λ p. queue_rows g.R.ReportRows.pair_parts p (queue_list (g.T.Lists.lists c.args.stores.now) p) c.args.names.now) (c.loop-i.i + 1) c.loop-i.i c.args.charter.now.config.producers _ _ _ (omega arith) c.in_ok-push_queue.ensures c.loop-i.invariant.parts;
      within = omega arith;
    }
