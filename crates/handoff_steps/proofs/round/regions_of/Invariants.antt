use Rattle.std.proofs.Common.{◌≡◌, ◌≤◌, length, take}
use Rattle.handoff_steps.specs.Places.{regions_of}
use Rattle.handoff_steps.proofs.round.regions_of.Given as goal

abbrev pub invariant-loop-place : goal.invariant-loop-place
invariant-loop-place l = record {
  within : l.place ≤ length l.loads;
  end : l.place-end ≡ length l.loads;
  done : take l.place l.regions ≡ regions_of (take l.place l.loads);
}
