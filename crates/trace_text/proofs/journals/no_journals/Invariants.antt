use Rattle.std.proofs.Common.{◌≡◌, ◌++◌, [], drop}
use Rattle.std.specs.Prelude.{map}
use Rattle.trace_text.specs.Places.{journals_of, lent_all}
use Rattle.trace_text.proofs.journals.no_journals.Given as goal

abbrev pub invariant-loop : goal.invariant-loop
invariant-loop l = map lent_all l.journals.items ++ journals_of (drop l.index l.names) [] ≡ journals_of l.names []
