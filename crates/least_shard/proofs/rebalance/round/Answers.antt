use Rattle.std.proofs.Common.{◌∙◌, ap, sym, subst}
use Rattle.yard_model.specs.ShardSet.{has, set_of}
use Rattle.yard_model.specs.Coordinator.{picks}
use Rattle.least_shard.specs.Spread.{shares_of}
use Rattle.least_shard.specs.Fair.{IsFair, CountsWithin}
use Rattle.least_shard.proofs.EvenLaws.{none_picked, even_where_none, few_picks, even_moved, even_loads, even_shares}
use Rattle.least_shard.proofs.HomeLaws.{picks_of_loads}
use Rattle.least_shard.proofs.PickLaws.{fair_first, counts_first}
use Rattle.least_shard.proofs.rebalance.round.Goals as goal

pub picks_of-requires : goal.picks_of-requires
picks_of-requires c = subst (CountsWithin 128) (sym c.tallies_of-tallies.ensures.seen) (counts_first c.args.loads.now)

pub returns-clause-picks : goal.returns-clause-picks
returns-clause-picks c = λ different.
    let same = c.tallies_of-tallies.ensures.seen in
    c.picks_of.ensures (subst IsFair (sym same) (fair_first c.args.loads.now different)) ∙ ap (λ xs. set_of (picks c.args.limit xs)) same

pub returns-clause-none : goal.returns-clause-none
returns-clause-none c = λ different even.
    returns-clause-picks c different ∙ ap set_of (none_picked c.args.limit (shares_of c.args.loads.now) (even_shares c.args.loads.now even))

pub returns-clause-even : goal.returns-clause-even
returns-clause-even c = λ different some none.
    even_loads c.args.loads.now (even_where_none c.args.limit (shares_of c.args.loads.now) some (sym (returns-clause-picks c different) ∙ none))

pub returns-clause-few : goal.returns-clause-few
returns-clause-few c = few_picks c.args.limit (shares_of c.args.loads.now)

pub returns-clause-moved : goal.returns-clause-moved
returns-clause-moved c = even_moved c.args.limit (shares_of c.args.loads.now)

pub returns-clause-homes : goal.returns-clause-homes
returns-clause-homes c = λ different s h.
    picks_of_loads s c.args.limit c.args.loads.now different (ap (λ n. has n s) (sym (returns-clause-picks c different)) ∙ h)
