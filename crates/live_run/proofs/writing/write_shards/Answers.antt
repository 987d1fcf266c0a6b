use Rattle.std.proofs.Common.{◌≡◌, ◌+◌, ap, subst, arith}
use Rattle.std.specs.List.{flat_map}
use Rattle.yard_model.specs.declared.charter.Config.{Config}
use Rattle.yard_model.specs.declared.incarnation.Slot.TheVariants as slot
use Rattle.yard_model.specs.SlotLists.{shard_list}
use Rattle.yard_model.specs.Text.{slot_lines}
use Rattle.live_run.proofs.PuttingLaws.{numbers_all, numbers_began, numbers_next, puts_err}
use Rattle.live_run.proofs.writing.write_shards.Goals as goal

pub loop-i-preserved : goal.loop-i-preserved
loop-i-preserved g c =
    let same : c.config.result.now.shards ≡ c.args.charter.now.config.shards = ap (λ (k : Config). k.shards) c.config.ensures.value in
    record {
      took = numbers_next (λ s. slot_lines (slot.Shard s) (shard_list (g.T.Lists.lists c.args.stores.now) s)) 0 c.loop-i.i c.loop-i.i _ _ _ (omega arith) c.loop-i.invariant.took c.in_ok-write_shard.ensures;
      within = omega arith;
    }

pub returns : goal.returns
returns g c =
    let same : c.config.result.now.shards ≡ c.args.charter.now.config.shards = ap (λ (k : Config). k.shards) c.config.ensures.value in
    numbers_all (λ s. slot_lines (slot.Shard s) (shard_list (g.T.Lists.lists c.args.stores.now) s)) 0 c.loop-i.i c.args.charter.now.config.shards _ _ (omega (arith, c.loop-i.invariant.within)) c.loop-i.invariant.took

pub returns-in_err-write_shard : goal.returns-in_err-write_shard
returns-in_err-write_shard g c =
    let same : c.config.result.now.shards ≡ c.args.charter.now.config.shards = ap (λ (k : Config). k.shards) c.config.ensures.value in
    puts_err c.from_residual.result _ _ _ c.from_residual.ensures.0
    (numbers_began (λ s. slot_lines (slot.Shard s) (shard_list (g.T.Lists.lists c.args.stores.now) s)) 0 c.loop-i.i c.args.charter.now.config.shards c.loop-i.i _ _ _ (omega arith) (omega arith) c.loop-i.invariant.took c.in_err-write_shard.ensures)
