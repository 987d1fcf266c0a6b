use Rattle.std.proofs.Common.{◌≡◌, take, map, length}
use Rattle.durable_queue.specs.Kept.{ArePlans}
use Rattle.entry_slots.proofs.plans.commands_of.Given as goal

abbrev pub invariant-loop-sending : goal.invariant-loop-sending
invariant-loop-sending l = record {
  sized : length l.all.items ≡ length l.names;
  plans : ArePlans l.names (map (λ v. v.items) l.all.items) (take l.sending-index l.sends);
}
