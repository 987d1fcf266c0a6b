use Rattle.std.proofs.Common.{◌≡◌, ◌≤◌, length, drop, map}
use Rattle.yard_model.specs.Words.{is_empty}
use Rattle.handoff_steps.specs.Places.{moving_from}
use Rattle.handoff_steps.specs.Seen.{seen}
use Rattle.handoff_steps.proofs.round.is_none_open.Given as goal

abbrev pub invariant-loop-place : goal.invariant-loop-place
invariant-loop-place l = record {
  within : l.place ≤ length l.cells;
  end : l.place-end ≡ length l.cells;
  rest : is_empty (moving_from l.place (map (seen l.regions) (drop l.place l.cells))) ≡ is_empty (moving_from 0 (map (seen l.regions) l.cells));
}
