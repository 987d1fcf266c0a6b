use Rattle.std.proofs.Common.{◌+◌, refl, arith}
use Rattle.shard_store.proofs.SendCountLaws.{few_at, more_at}
use Rattle.shard_store.proofs.name_table.count_to.Goals as goal

pub overflow_add-index_mut : goal.overflow_add-index_mut
overflow_add-index_mut c = omega (arith, few_at c.args.names.now c.args.name.now c.in-Some.place c.index_mut.result.now c.args.counts.now.items c.requires.few c.requires.there c.in-Some.ensures.0 c.in-Some.ensures.1 c.index_mut.ensures.value)

pub returns-in-Some : goal.returns-in-Some
returns-in-Some c = more_at c.args.names.now c.args.name.now c.in-Some.place c.index_mut.result.now (c.index_mut.result.now + 1) c.args.counts.now.items _ c.requires.sorted c.requires.there c.in-Some.ensures.0 c.in-Some.ensures.1 c.index_mut.ensures.value refl refl
