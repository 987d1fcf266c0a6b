use Rattle.std.proofs.Common.{◌-◌, ◌≤◌, length}
use Rattle.world_sim.proofs.SeekLaws.{NoneFrom}
use Rattle.world_sim.proofs.seek.seek.Given as goal

abbrev pub invariant-loop-later : goal.invariant-loop-later
invariant-loop-later g l = NoneFrom l.sought l.nodes.items (length l.nodes.items - l.later) × (l.later ≤ length l.nodes.items)
