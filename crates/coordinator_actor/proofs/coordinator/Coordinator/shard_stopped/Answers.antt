use Rattle.std.proofs.Common.{ap, ◌∙◌}
use Rattle.yard_model.specs.Coordinator.{is_moving}
use Rattle.coordinator_actor.proofs.HeldLaws.{none_left}
use Rattle.coordinator_actor.proofs.coordinator.Coordinator.shard_stopped.Goals as goal

pub allocate-requires-clause-still : goal.allocate-requires-clause-still
allocate-requires-clause-still c = ap (λ k. is_moving k c.args.s) (c.stop.ensures.state c.if-not-stop.false) ∙ none_left c.args.s c.args.self.now.state.moving
