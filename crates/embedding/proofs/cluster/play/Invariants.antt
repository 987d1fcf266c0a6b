use Rattle.std.proofs.Common.{◌≡◌}
use Rattle.std.specs.Prelude.{None}
use Rattle.embedding.proofs.cluster.play.Given as goal

-- so many orders were played, and the trace goes on
abbrev pub invariant-loop-k : goal.invariant-loop-k
invariant-loop-k l = l.world ≡ record { script = l.fn.world.script; given = None; count = l.k; fault = None }
