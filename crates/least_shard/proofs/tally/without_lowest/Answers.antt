use Rattle.std.proofs.Common.{◌∙◌, ap, sym, drop}
use Rattle.least_shard.specs.Spread.{members}
use Rattle.least_shard.proofs.MemberLaws.{all_below, rest_is, none_in}
use Rattle.least_shard.proofs.tally.without_lowest.Goals as goal

pub lowest-requires-clause-all : goal.lowest-requires-clause-all
lowest-requires-clause-all c = λ t h. all_below c.args.set t c.requires h

pub returns-in-Some-clause-others : goal.returns-in-Some-clause-others
returns-in-Some-clause-others c =
    let here = c.in-Some.ensures.lowest in
    rest_is c.args.set c.without.result c.in-Some.s (all_below c.args.set c.in-Some.s c.requires here) here c.in-Some.ensures.below c.without.ensures.it c.without.ensures.others

pub returns-in-None-clause-others : goal.returns-in-None-clause-others
returns-in-None-clause-others c = let empty = ap members c.in-None.ensures.none ∙ none_in in empty ∙ sym (ap (drop 1) empty)
