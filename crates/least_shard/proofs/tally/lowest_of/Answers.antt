use Rattle.std.proofs.Common.{◌∙◌, ap, Option, Some, None}
use Rattle.std.specs.Prelude.{◌≡◌, ℕ, ◌<◌, ◌^◌, true, false, [], IfSome, IfNone, slice_index_or}
use Rattle.yard_model.specs.ShardSet.{has}
use Rattle.least_shard.specs.Spread.{members}
use Rattle.least_shard.proofs.MemberLaws.{all_below, lowest_is, none_in}
use Rattle.least_shard.proofs.tally.lowest_of.Goals as goal

lowest_by : (set : ℕ) (o : Option ℕ) → set < 2 ^ 128 → IfSome o (λ s. has set s ≡ true) → IfSome o (λ s. (t : ℕ) → t < s → has set t ≡ false) → IfSome o (λ s. slice_index_or (members set) 0 0 ≡ s)
lowest_by set None fits here below = tt
lowest_by set (Some s) fits here below = lowest_is set s (all_below set s fits here) here below

none_by : (set : ℕ) (o : Option ℕ) → IfNone o (set ≡ 0) → IfNone o (members set ≡ [])
none_by set None h = ap members h ∙ none_in
none_by set (Some s) h = tt

pub lowest-requires-clause-all : goal.lowest-requires-clause-all
lowest-requires-clause-all c = λ t h. all_below c.args.set t c.requires h

pub returns-clause-lowest : goal.returns-clause-lowest
returns-clause-lowest c = lowest_by c.args.set c.lowest.result c.requires c.lowest.ensures.lowest c.lowest.ensures.below

pub returns-clause-none : goal.returns-clause-none
returns-clause-none c = none_by c.args.set c.lowest.result c.lowest.ensures.none
