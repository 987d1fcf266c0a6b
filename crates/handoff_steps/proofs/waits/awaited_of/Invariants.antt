use Rattle.std.proofs.Common.{◌≡◌, ◌≤◌, ◌++◌, length, drop}
use Rattle.handoff_steps.specs.Awaited.{awaited_from, awaited_of}
use Rattle.handoff_steps.proofs.waits.awaited_of.Given as goal

abbrev pub invariant-loop-place : goal.invariant-loop-place
invariant-loop-place l = record {
  within : l.place ≤ length l.regions;
  end : l.place-end ≡ length l.regions;
  few : length l.list ≤ l.place;
  rest : l.list ++ awaited_from l.place (drop l.place l.regions) l.awaited ≡ awaited_of l.regions l.awaited;
}
