use Rattle.shard_store.proofs.AfterLaws.{shard_is_after}
use Rattle.shard_store.proofs.reshape.shard_after.Goals as goal

pub returns : goal.returns
returns c = shard_is_after c.args.stores.now c.args.charter.now c.args.s c.in-Some.shard c.args.epoch c.in_ok-store.store c.reserve.new.self c.requires.within c.in-Some.ensures.value c.in_ok-store.ensures c.reserve.ensures.list c.in_ok-reserve.ensures.ok
