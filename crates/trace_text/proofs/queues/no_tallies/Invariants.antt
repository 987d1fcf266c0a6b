use Rattle.std.proofs.Common.{◌≡◌, ◌++◌, [], drop}
use Rattle.trace_text.specs.Places.{tallies_of}
use Rattle.trace_text.proofs.queues.no_tallies.Given as goal

abbrev pub invariant-loop : goal.invariant-loop
invariant-loop l = l.tallies.items ++ tallies_of (drop l.index l.names) [] ≡ tallies_of l.names []
