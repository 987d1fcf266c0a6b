use Rattle.std.proofs.Common.{◌≡◌, ap, arith}
use Rattle.yard_model.specs.declared.charter.Config.{Config}
use Rattle.yard_model.specs.Script.{setting}
use Rattle.yard_model.specs.SlotLists.{shard_list}
use Rattle.trace_text.specs.Foldable.{is_foldable_shard}
use Rattle.trace_text.specs.Rows.{shard_rows}
use Rattle.trace_text.proofs.RowLaws.{numbers_step, all_below}
use Rattle.trace_text.proofs.report.push_entities.Goals as goal

pub push_shard-requires-clause-foldable : goal.push_shard-requires-clause-foldable
push_shard-requires-clause-foldable g c =
    let same : c.config.result.now.shards ≡ c.args.charter.now.config.shards = ap (λ (k : Config). k.shards) c.config.ensures.value in
    all_below (is_foldable_shard (setting c.args.charter.now) (g.T.Lists.lists c.args.stores.now)) c.args.charter.now.config.shards c.loop-i.i c.requires (omega arith)

pub loop-i-preserved : goal.loop-i-preserved
loop-i-preserved g c =
    let same : c.config.result.now.shards ≡ c.args.charter.now.config.shards = ap (λ (k : Config). k.shards) c.config.ensures.value in
    record {
      parts = numbers_step (λ s. shard_rows g.R.ReportRows.entity_parts (setting c.args.charter.now) s (shard_list (g.T.Lists.lists c.args.stores.now) s)) c.loop-i.i c.loop-i.i c.args.charter.now.config.shards _ _ _ (omega arith) c.in_ok-push_shard.ensures c.loop-i.invariant.parts;
      within = omega arith;
    }
