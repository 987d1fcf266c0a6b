use Rattle.std.proofs.Common.{◌≡◌, ◌+◌, ◌≤◌, drop, length, ◌++◌}
use Rattle.std.specs.Prelude.{fold}
use Rattle.std.specs.List.{flat_map}
use Rattle.yard_model.specs.Coordinator.{coordinator_after, registered, terminate_lost}
use Rattle.yard_model.specs.Move.{item_of}
use Rattle.coordinator_actor.proofs.MoveLaws.{rest_of}
use Rattle.coordinator_actor.proofs.RestLaws.{IsRest}
use Rattle.coordinator_actor.proofs.coordinator.Coordinator.lose_regions.Given as goal

abbrev pub invariant-loop-region : goal.invariant-loop-region
invariant-loop-region l = record {
  rest : IsRest l.view.members (drop l.region-index l.region-items) (registered l.self.state);
  items : l.out.items ++ flat_map item_of (rest_of l.view.members (drop l.region-index l.region-items) l.self.state) ≡ l.fn.out.items ++ flat_map item_of (terminate_lost l.view.members l.fn.self.state);
  state : fold coordinator_after l.self.state (rest_of l.view.members (drop l.region-index l.region-items) l.self.state) ≡ fold coordinator_after l.fn.self.state (terminate_lost l.view.members l.fn.self.state);
  script : l.self.script ≡ l.fn.self.script;
  spare : l.fn.out.spare + length (flat_map item_of (rest_of l.view.members (drop l.region-index l.region-items) l.self.state)) ≡ l.out.spare + length (flat_map item_of (terminate_lost l.view.members l.fn.self.state));
  entries : length l.self.state.entries + l.self.spare ≡ length l.fn.self.state.entries + l.fn.self.spare;
  least : l.fn.self.spare ≤ l.self.spare + l.region-index;
  places : l.self.places ≡ l.fn.self.places;
}
