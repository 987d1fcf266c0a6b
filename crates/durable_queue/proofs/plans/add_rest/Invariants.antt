use Rattle.std.proofs.Common.{◌≡◌, take, map, length}
use Rattle.durable_queue.specs.Kept.{ArePlans}
use Rattle.durable_queue.proofs.plans.add_rest.Given as goal

abbrev pub invariant-loop-at : goal.invariant-loop-at
invariant-loop-at l = record {
  sized : length l.plans.items ≡ length l.names;
  plans : ArePlans l.names (map (λ v. v.items) l.plans.items) (take l.at l.sends);
}
