use Rattle.std.proofs.Common.{◌≡◌, ◌≤◌, length, drop}
use Rattle.handoff_steps.specs.Places.{home_in}
use Rattle.handoff_steps.proofs.cell.home_of.Given as goal

abbrev pub invariant-loop-place : goal.invariant-loop-place
invariant-loop-place l = record {
  within : l.place ≤ length l.loads;
  end : l.place-end ≡ length l.loads;
  rest : home_in (drop l.place l.loads) l.s ≡ home_in l.loads l.s;
}
