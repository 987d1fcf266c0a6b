use Rattle.std.proofs.Common.{sym, ◌∙◌}
use Rattle.yard_model.specs.declared.incarnation.Slot.TheVariants as slot
use Rattle.yard_model.specs.Entry.{shard_fact}
use Rattle.live_run.proofs.PuttingLaws.{slot_began, slot_put}
use Rattle.live_run.proofs.writing.write_shard_list.Goals as goal

pub returns : goal.returns
returns g c = slot_put (slot.Shard c.args.s) (shard_fact c.args.s) c.args.list.now c.write_shard_entries.result _ _ _ (sym c.is_empty.ensures ∙ c.if-is_empty.false) c.in_ok-write_head.ensures c.write_shard_entries.ensures

pub returns-in_err-write_head : goal.returns-in_err-write_head
returns-in_err-write_head g c = slot_began (slot.Shard c.args.s) (shard_fact c.args.s) c.args.list.now c.from_residual.result _ _ (sym c.is_empty.ensures ∙ c.if-is_empty.false) c.from_residual.ensures.0 c.in_err-write_head.ensures
