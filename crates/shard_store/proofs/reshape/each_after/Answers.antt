use Rattle.std.proofs.Common.{◌+◌, sym, subst}
use Rattle.std.specs.Prelude.{None, Some}
use Rattle.yard_model.specs.declared.incarnation.Slot.TheVariants as slot
use Rattle.shard_store.specs.Reshaped.{AreEach, IsAfterAt, next_lists}
use Rattle.shard_store.proofs.ReshapeLaws.{each_more}
use Rattle.shard_store.proofs.reshape.each_after.Goals as goal

pub loop-s-preserved : goal.loop-s-preserved
loop-s-preserved c =
    subst (λ l. AreEach None (λ k. IsAfterAt c.args.charter.now (next_lists c.args.stores.now c.args.charter.now.config.shards c.args.epoch) (slot.Shard k)) l (c.loop-s.s + 1)) (sym c.in_ok-push.ensures.items)
    (each_more None (λ k. IsAfterAt c.args.charter.now (next_lists c.args.stores.now c.args.charter.now.config.shards c.args.epoch) (slot.Shard k)) c.loop-s.places.items c.loop-s.s (Some c.in_ok-store.store) c.loop-s.invariant c.in_ok-store.ensures)
