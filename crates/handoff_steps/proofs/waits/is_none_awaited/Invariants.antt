use Rattle.std.proofs.Common.{◌≡◌, ◌≤◌, length, drop}
use Rattle.yard_model.specs.Words.{is_empty}
use Rattle.handoff_steps.specs.Awaited.{awaited_from, awaited_of}
use Rattle.handoff_steps.proofs.waits.is_none_awaited.Given as goal

abbrev pub invariant-loop-place : goal.invariant-loop-place
invariant-loop-place l = record {
  within : l.place ≤ length l.regions;
  end : l.place-end ≡ length l.regions;
  rest : is_empty (awaited_from l.place (drop l.place l.regions) l.awaited) ≡ is_empty (awaited_of l.regions l.awaited);
}
