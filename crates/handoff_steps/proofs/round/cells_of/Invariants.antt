use Rattle.std.proofs.Common.{◌≡◌, ◌≤◌, length, map, take}
use Rattle.handoff_steps.specs.Places.{regions_of, first_place, all_shards}
use Rattle.handoff_steps.specs.Seen.{seen}
use Rattle.handoff_steps.proofs.round.cells_of.Given as goal

abbrev pub invariant-loop-s : goal.invariant-loop-s
invariant-loop-s l = record {
  within : l.s ≤ 128;
  size : length l.cells ≡ 128;
  done : map (seen (regions_of l.loads)) (take l.s l.cells) ≡ map (first_place l.picks l.loads) (take l.s all_shards);
}
