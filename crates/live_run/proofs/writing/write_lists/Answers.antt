use Rattle.std.proofs.Common.{ap}
use Rattle.yard_model.specs.declared.incarnation.Slot.TheVariants as slot
use Rattle.yard_model.specs.Text.{slot_lines}
use Rattle.run_parts.proofs.WritingLaws.{front_both, front_more, front_same, took_both, took_same}
use Rattle.live_run.proofs.PuttingLaws.{puts_err, puts_on}
use Rattle.live_run.proofs.writing.write_lists.Goals as goal

pub returns : goal.returns
returns g c =
    puts_on c.write_queues.result _ _ _ _ _
    (took_both _ _ _ _ _ c.in_ok-write_shards.ensures (took_same _ _ _ _ (ap (slot_lines slot.Coordinator) c.coordinator.ensures) c.in_ok-write_coordinator.ensures)) c.write_queues.ensures

pub returns-in_err-write_shards : goal.returns-in_err-write_shards
returns-in_err-write_shards g c =
    puts_err c.from_residual.result _ _ _ c.from_residual.ensures.0 (front_more _ _ _ _ _ (front_more _ _ _ _ _ c.in_err-write_shards.ensures))

pub returns-in_err-write_coordinator : goal.returns-in_err-write_coordinator
returns-in_err-write_coordinator g c =
    puts_err c.from_residual-in_err-write_coordinator.result _ _ _ c.from_residual-in_err-write_coordinator.ensures.0
    (front_more _ _ _ _ _ (front_both _ _ _ _ _ _ c.in_ok-write_shards.ensures (front_same _ _ _ _ _ (ap (slot_lines slot.Coordinator) c.coordinator.ensures) c.in_err-write_coordinator.ensures)))
