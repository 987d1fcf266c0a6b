use Rattle.std.proofs.Common.{subst, sym}
use Rattle.std.specs.Ordering.{nat_cmp}
use Rattle.std.specs.Cmp.Lexicographic.{slice_cmp}
use Rattle.std.specs.List.Sorted.{IsStrictlySortedBy}
use Rattle.shard_store.proofs.NamesLaws.{sorted_names, few_names}
use Rattle.shard_store.proofs.names.Names.of_shard.Goals as goal

pub invariant_of-result : goal.invariant_of-result
invariant_of-result c = subst (IsStrictlySortedBy (slice_cmp nat_cmp)) (sym c.in_ok-names.ensures) (sorted_names c.config.result.now.shards c.args.s c.names.result.now c.names.ensures.sorted)

pub returns-clause-sorted : goal.returns-clause-sorted
returns-clause-sorted c = subst (IsStrictlySortedBy (slice_cmp nat_cmp)) (sym c.in_ok-names.ensures) (sorted_names c.config.result.now.shards c.args.s c.names.result.now c.names.ensures.sorted)

pub returns-clause-few : goal.returns-clause-few
returns-clause-few c = few_names c.args.charter.now c.config.result.now.shards c.args.s c.names.result.now c.in_ok-names.names.items c.config.ensures.script c.names.ensures.value c.in_ok-names.ensures
