use Rattle.std.proofs.Common.{◌≡◌, ◌+◌, ap, arith}
use Rattle.yard_model.specs.declared.charter.Config.{Config}
use Rattle.yard_model.specs.Script.{setting}
use Rattle.shard_store.specs.Stores.{lists_at}
use Rattle.trace_text.specs.Parts.{queue_part}
use Rattle.live_run.proofs.PuttingLaws.{numbers_all, numbers_began, numbers_next, puts_err}
use Rattle.live_run.proofs.reporting.write_pairs.Goals as goal

pub loop-i-preserved : goal.loop-i-preserved
loop-i-preserved g c =
    let same : c.config.result.now.producers ≡ c.args.charter.now.config.producers = ap (λ (k : Config). k.producers) c.config.ensures.value in
    record {
      took = numbers_next (queue_part (setting c.args.charter.now) (lists_at c.args.charter.now.config c.args.places.now)) 1 c.loop-i.i (c.loop-i.i + 1) _ _ _ (omega arith) c.loop-i.invariant.took c.in_ok-write_queue_pairs.ensures;
      within = omega arith;
    }

pub returns : goal.returns
returns g c =
    let same : c.config.result.now.producers ≡ c.args.charter.now.config.producers = ap (λ (k : Config). k.producers) c.config.ensures.value in
    numbers_all (queue_part (setting c.args.charter.now) (lists_at c.args.charter.now.config c.args.places.now)) 1 c.loop-i.i c.args.charter.now.config.producers _ _ (omega (arith, c.loop-i.invariant.within)) c.loop-i.invariant.took

pub returns-in_err-write_queue_pairs : goal.returns-in_err-write_queue_pairs
returns-in_err-write_queue_pairs g c =
    let same : c.config.result.now.producers ≡ c.args.charter.now.config.producers = ap (λ (k : Config). k.producers) c.config.ensures.value in
    puts_err c.from_residual.result _ _ _ c.from_residual.ensures.0
    (numbers_began (queue_part (setting c.args.charter.now) (lists_at c.args.charter.now.config c.args.places.now)) 1 c.loop-i.i c.args.charter.now.config.producers (c.loop-i.i + 1) _ _ _ (omega arith) (omega arith) c.loop-i.invariant.took c.in_err-write_queue_pairs.ensures)
