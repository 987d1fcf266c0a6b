use Rattle.std.specs.List.{All}
use Rattle.coordinator_state.specs.Coord.{IsLoadOf}
use Rattle.coordinator_actor.proofs.HomedLaws.{picks_homed}
use Rattle.std.proofs.Common.{List, sym, ap, subst, ◌∙◌}
use Rattle.yard_model.specs.declared.load.Load.{Load}
use Rattle.yard_model.specs.Coordinator.{Share, picks}
use Rattle.yard_model.specs.ShardSet.{set_of}
use Rattle.least_shard.specs.Spread.{shares_of, AreOfDifferentRegions}
use Rattle.coordinator_actor.proofs.PickedLaws.{picked_are}
use Rattle.coordinator_actor.proofs.coordinator.Coordinator.picked_of.Goals as goal

pub returns-clause-picks : goal.returns-clause-picks
returns-clause-picks c =
    picked_are c.round.result c.args.limit c.args.self.now.state
    (c.round.ensures.picks (subst (λ (ls : List Load). AreOfDifferentRegions ls) (sym c.as_slice.ensures.items) c.requires.different)
    ∙ (ap (λ (ls : List Load). set_of (picks c.args.limit (shares_of ls))) c.as_slice.ensures.items ∙ ap (λ (xs : List Share). set_of (picks c.args.limit xs)) c.requires.shares))

pub returns-clause-homed : goal.returns-clause-homed
returns-clause-homed c = λ s low e.
    let entries = c.args.self.now.state.entries in
    let staying : List Load = c.as_slice.result.now in
    let all : All (IsLoadOf entries) staying = subst (λ (ls : List Load). All (IsLoadOf entries) ls) (sym c.as_slice.ensures.items) c.requires.homes in
    picks_homed entries s low staying all (c.round.ensures.homes (subst (λ (ls : List Load). AreOfDifferentRegions ls) (sym c.as_slice.ensures.items) c.requires.different) s e)
