use Rattle.std.proofs.Common.{◌≡◌, ◌<◌, ◌^◌, ℕ, true, ap, sym, ◌∙◌, arith}
use Rattle.std.specs.Int.{w128, trailing_zeros}
use Rattle.yard_model.specs.ShardSet.{has}
use Rattle.yard_model.proofs.ShardSetLaws.{lowest_in, some_not_none}
use Rattle.yard_model.proofs.shard_set.ShardSet.lowest.Goals as goal

pub returns-clause-none : goal.returns-clause-none
returns-clause-none c =
    let bits : ℕ = c.self.inside.bits in
    let here : bits ≡ c.args.self.now = c.self.view_is in
    let some : 0 < bits = omega arith in
    let fits : bits < 2 ^ 128 = omega arith in
    let there : has c.args.self.now (trailing_zeros w128 bits) ≡ true = ap (λ n. has n (trailing_zeros w128 bits)) (sym here) ∙ lowest_in bits some fits in
    some_not_none _ c.new.result (c.new.ensures.valid.1 (c.requires.all (trailing_zeros w128 bits) there))
