use Rattle.std.proofs.Common.{◌≡◌, ◌-◌, ap, arith}
use Rattle.std.specs.List.{flat_map}
use Rattle.yard_model.specs.declared.charter.Config.{Config}
use Rattle.yard_model.specs.declared.incarnation.Slot.TheVariants as slot
use Rattle.yard_model.specs.Words.{numbers}
use Rattle.yard_model.specs.SlotLists.{shard_list}
use Rattle.yard_model.specs.Text.{slot_lines}
use Rattle.trace_text.proofs.GrownLaws.{begins_more, begins_then, grows_done, grows_err}
use Rattle.trace_text.proofs.RowLaws.{numbers_step}
use Rattle.trace_text.proofs.slots.push_shards.Goals as goal

pub loop-i-preserved : goal.loop-i-preserved
loop-i-preserved g c =
    let same : c.config.result.now.shards ≡ c.args.charter.now.config.shards = ap (λ (k : Config). k.shards) c.config.ensures.value in
    record {
      text = numbers_step (λ s. slot_lines (slot.Shard s) (shard_list (g.T.Lists.lists c.args.stores.now) s)) c.loop-i.i c.loop-i.i c.args.charter.now.config.shards _ _ _ (omega arith) c.in_ok-push_shard.ensures c.loop-i.invariant.text;
      within = omega arith;
      begins = begins_then c.args.text.now.items c.loop-i.text.items c.push_shard.new.text.items c.loop-i.invariant.begins (begins_more c.loop-i.text.items c.push_shard.new.text.items _ c.in_ok-push_shard.ensures);
    }

pub returns : goal.returns
returns g c =
    let same : c.config.result.now.shards ≡ c.args.charter.now.config.shards = ap (λ (k : Config). k.shards) c.config.ensures.value in
    let none : c.args.charter.now.config.shards - c.loop-i.i ≡ 0 = omega arith in
    grows_done c.loop-i.text.items (flat_map (λ s. slot_lines (slot.Shard s) (shard_list (g.T.Lists.lists c.args.stores.now) s)) (numbers c.loop-i.i (c.args.charter.now.config.shards - c.loop-i.i))) _
    (ap (λ n. flat_map (λ s. slot_lines (slot.Shard s) (shard_list (g.T.Lists.lists c.args.stores.now) s)) (numbers c.loop-i.i n)) none) c.loop-i.invariant.text

pub returns-in_err-push_shard : goal.returns-in_err-push_shard
returns-in_err-push_shard g c =
    grows_err c.from_residual.result c.args.text.now.items c.push_shard.new.text.items _ c.from_residual.ensures.0
    (begins_then c.args.text.now.items c.loop-i.text.items c.push_shard.new.text.items c.loop-i.invariant.begins c.in_err-push_shard.ensures)
