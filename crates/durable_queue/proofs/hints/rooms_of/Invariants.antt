use Rattle.std.proofs.Common.{◌≡◌, length}
use Rattle.durable_queue.proofs.hints.rooms_of.Given as goal

abbrev pub invariant-loop-hint : goal.invariant-loop-hint
invariant-loop-hint l = length l.rooms.items ≡ l.fn.count
