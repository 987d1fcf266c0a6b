use Rattle.std.proofs.Common.{◌≡◌, ap, sym, subst, ◌<◌}
use Rattle.std.specs.Prelude.{◌==◌}
use Rattle.std.specs.Ordering.{nat_cmp}
use Rattle.std.specs.Cmp.Lexicographic.{slice_cmp}
use Rattle.std.specs.List.Sorted.{IsStrictlySortedBy}
use Rattle.std.proofs.lemmas.List.Kept.{IsStrictlySortedBy-filter}
use Rattle.std.proofs.lemmas.Result.{IfOk-weaker}
use Rattle.yard_model.specs.declared.charter.Config.{Config}
use Rattle.yard_model.specs.Shard.{shard}
use Rattle.trace_text.proofs.shards.names_by_shard.Goals as goal

pub returns-clause-sorted : goal.returns-clause-sorted
returns-clause-sorted c =
    let same : c.config.result.now.shards ≡ c.args.charter.now.config.shards = ap (λ (k : Config). k.shards) c.config.ensures.value in
    IfOk-weaker c.parted.result _ _ (λ all told s h. subst (IsStrictlySortedBy (slice_cmp nat_cmp)) (sym (told s (subst (λ n. s < n) (sym same) h)))
    (IsStrictlySortedBy-filter (slice_cmp nat_cmp) (λ e. shard c.config.result.now.shards e == s) c.names.result.now c.names.ensures.sorted)) c.parted.ensures.names
