use Rattle.std.proofs.Common.{◌-◌, ◌≤◌, drop, length, [], ◌∷◌}
use Rattle.std.specs.Prelude.{filter, not}
use Rattle.std.specs.List.{flat_map}
use Rattle.yard_model.specs.declared.input.Phase.TheVariants as phase
use Rattle.yard_model.specs.declared.packet.Body.TheVariants as body
use Rattle.yard_model.specs.Entities.{is_in_phase, entities_of}
use Rattle.yard_model.specs.Move.{post}
use Rattle.yard_model.specs.Setting.{names_of}
use Rattle.shard_entities.specs.Settled.{IsSettled}
use Rattle.shard_entities.proofs.WayLaws.{IsOnTheWay}
use Rattle.shard_entities.proofs.WalkLaws.{IsSame, SamePhases}
use Rattle.shard_entities.proofs.shards.Shards.stop_each.Given as goal

abbrev pub invariant-loop-k : goal.invariant-loop-k
invariant-loop-k l = record {
  way : IsOnTheWay l.self l.out (flat_map (λ e. post l.fn.self.state.who l.fn.self.state.who (body.StopEntity e) ∷ []) (filter (λ e. not (is_in_phase phase.Absent l.fn.self.state e)) (drop l.k (names_of l.fn.self.state.set l.s)))) l.fn.self l.fn.out (flat_map (λ e. post l.fn.self.state.who l.fn.self.state.who (body.StopEntity e) ∷ []) (entities_of l.fn.self.state l.s));
  same : IsSame l.fn.self l.self;
  phases : SamePhases l.fn.self l.self;
  settled : IsSettled l.self;
  room : length (names_of l.fn.self.state.set l.s) - l.k ≤ l.out.spare;
}
