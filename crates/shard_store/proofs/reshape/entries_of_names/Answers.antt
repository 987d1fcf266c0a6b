use Rattle.std.proofs.Common.{map}
use Rattle.yard_model.specs.Entry.{shard_fact}
use Rattle.yard_model.specs.Genuine.{is_brought}
use Rattle.shard_store.proofs.ReshapeLaws.{all_at, entries_more, entries_all}
use Rattle.shard_store.proofs.reshape.entries_of_names.Goals as goal

pub store_of-requires : goal.store_of-requires
store_of-requires c = all_at (is_brought c.args.stores.now.script) c.args.names.now c.loop-name.name-index c.name-item.result c.requires c.loop-name-test.true c.name-item.is

pub loop-name-preserved : goal.loop-name-preserved
loop-name-preserved c = λ s.
    entries_more c.args.stores.now c.args.names.now c.loop-name.name-index c.store_of.result.now.shard c.name-item.result c.loop-name.entries.items c.add_entries.new.entries.items c.entries.result.now c.store_of.result.now.entries s
    c.loop-name-test.true c.name-item.is c.in_ok-add_entries.ensures c.entries.ensures.entries c.store_of.ensures.list (c.loop-name.invariant s)

pub returns : goal.returns
returns c = λ s. entries_all c.args.stores.now c.args.names.now c.loop-name.name-index (map (shard_fact s) c.loop-name.entries.items) c.loop-name-test.false (c.loop-name.invariant s)
