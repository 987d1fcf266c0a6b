use Rattle.std.proofs.Common.{sym, ◌∙◌}
use Rattle.yard_model.specs.ShardSet.{has}
use Rattle.coordinator_actor.proofs.Same.{true_is_not_false}
use Rattle.coordinator_actor.proofs.ShareLaws.{none_in}
use Rattle.coordinator_actor.proofs.coordinator.Coordinator.no_homes.Goals as goal

pub returns-clause-homes : goal.returns-clause-homes
returns-clause-homes c = none_in (has c.empty.result) 0 c.args.self.now.state.set.config.shards (λ t u. c.empty.ensures.none t)

pub returns-clause-homed : goal.returns-clause-homed
returns-clause-homed c = λ s low e. absurd (true_is_not_false (sym e ∙ c.empty.ensures.none s))
