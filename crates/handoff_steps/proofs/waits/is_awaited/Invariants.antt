use Rattle.std.proofs.Common.{◌≡◌, ◌≤◌, length, drop}
use Rattle.yard_model.specs.Words.{is_among}
use Rattle.handoff_steps.specs.Awaited.{awaited_from, awaited_of}
use Rattle.handoff_steps.proofs.waits.is_awaited.Given as goal

abbrev pub invariant-loop-place : goal.invariant-loop-place
invariant-loop-place l = record {
  within : l.place ≤ length l.regions;
  end : l.place-end ≡ length l.regions;
  rest : is_among l.who (awaited_from l.place (drop l.place l.regions) l.awaited) ≡ is_among l.who (awaited_of l.regions l.awaited);
}
