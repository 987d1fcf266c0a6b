use Rattle.entry_slots.specs.Kept.{AreSoFar}
use Rattle.entry_slots.proofs.slots.plans_of.Given as goal

abbrev pub invariant-loop-k : goal.invariant-loop-k
invariant-loop-k l = AreSoFar l.charter l.k l.plans.items
