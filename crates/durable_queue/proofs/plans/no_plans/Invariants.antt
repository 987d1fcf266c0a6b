use Rattle.std.proofs.Common.{◌≡◌, map, replicate, []}
use Rattle.durable_queue.proofs.plans.no_plans.Given as goal

abbrev pub invariant-loop-room : goal.invariant-loop-room
invariant-loop-room l = map (λ v. v.items) l.plans.items ≡ replicate l.room-index []
