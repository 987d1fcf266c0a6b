use Rattle.std.specs.Io.KnownBytes.{Keeps}
use Rattle.yard_io.proofs.std_sink.write_retrying.Given as goal

-- a write that was interrupted wrote nothing
abbrev pub invariant-loop : goal.invariant-loop
invariant-loop g l = Keeps (g.W.Write.contents l.initial.writer) (g.W.Write.contents l.writer)
