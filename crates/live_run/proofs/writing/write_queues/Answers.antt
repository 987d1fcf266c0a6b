use Rattle.std.proofs.Common.{◌≡◌, ◌+◌, ap, subst, arith}
use Rattle.std.specs.List.{flat_map}
use Rattle.yard_model.specs.declared.charter.Config.{Config}
use Rattle.yard_model.specs.declared.incarnation.Slot.TheVariants as slot
use Rattle.yard_model.specs.SlotLists.{queue_list}
use Rattle.yard_model.specs.Text.{slot_lines}
use Rattle.live_run.proofs.PuttingLaws.{numbers_all, numbers_began, numbers_next, puts_err}
use Rattle.live_run.proofs.writing.write_queues.Goals as goal

pub loop-i-preserved : goal.loop-i-preserved
loop-i-preserved g c =
    let same : c.config.result.now.producers ≡ c.args.charter.now.config.producers = ap (λ (k : Config). k.producers) c.config.ensures.value in
    record {
      took = numbers_next (λ p. slot_lines (slot.Queue p) (queue_list (g.T.Lists.lists c.args.stores.now) p)) 1 c.loop-i.i (c.loop-i.i + 1) _ _ _ (omega arith) c.loop-i.invariant.took c.in_ok-write_queue.ensures;
      within = omega arith;
    }

pub returns : goal.returns
returns g c =
    let same : c.config.result.now.producers ≡ c.args.charter.now.config.producers = ap (λ (k : Config). k.producers) c.config.ensures.value in
    numbers_all (λ p. slot_lines (slot.Queue p) (queue_list (g.T.Lists.lists c.args.stores.now) p)) 1 c.loop-i.i c.args.charter.now.config.producers _ _ (omega (arith, c.loop-i.invariant.within)) c.loop-i.invariant.took

pub returns-in_err-write_queue : goal.returns-in_err-write_queue
returns-in_err-write_queue g c =
    let same : c.config.result.now.producers ≡ c.args.charter.now.config.producers = ap (λ (k : Config). k.producers) c.config.ensures.value in
    puts_err c.from_residual.result _ _ _ c.from_residual.ensures.0
    (numbers_began (λ p. slot_lines (slot.Queue p) (queue_list (g.T.Lists.lists c.args.stores.now) p)) 1 c.loop-i.i c.args.charter.now.config.producers (c.loop-i.i + 1) _ _ _ (omega arith) (omega arith) c.loop-i.invariant.took c.in_err-write_queue.ensures)
