use Rattle.std.specs.Io.KnownBytes.{Keeps}
use Rattle.std.specs.Io.Buffered.{writer_contents}
use Rattle.yard_io.proofs.std_sink.flush_retrying.Given as goal

-- no flush loses a byte
abbrev pub invariant-loop : goal.invariant-loop
invariant-loop g l = Keeps (writer_contents g.W.Write.contents l.initial.writer) (writer_contents g.W.Write.contents l.writer)
