use Rattle.std.proofs.Common.{◌≡◌, ◌≤◌, ◌+◌, ◌-◌, length, ◌++◌}
use Rattle.std.specs.List.{flat_map}
use Rattle.yard_model.specs.Move.{item_of}
use Rattle.yard_model.specs.Words.{numbers}
use Rattle.coordinator_actor.specs.Parts.{begin_each, begin_if}
use Rattle.coordinator_actor.proofs.coordinator.Coordinator.tell_each.Given as goal

abbrev pub invariant-loop-place : goal.invariant-loop-place
invariant-loop-place l = record {
  items : l.out.items ++ flat_map item_of (flat_map (begin_if l.shards l.next l.self.state) (numbers l.place (l.count - l.place))) ≡ l.fn.out.items ++ flat_map item_of (begin_each l.shards l.next l.self.state);
  spare : l.fn.out.spare + length (flat_map item_of (flat_map (begin_if l.shards l.next l.self.state) (numbers l.place (l.count - l.place)))) ≡ l.out.spare + length (flat_map item_of (begin_each l.shards l.next l.self.state));
  within : l.place ≤ l.count;
}
