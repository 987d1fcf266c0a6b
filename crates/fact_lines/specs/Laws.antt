-- What is printed is read, and what is read is printed so.
use Rattle.std.specs.Prelude.{◌≡◌, ℕ, true, List, ◌++◌, Some}
use Rattle.std.specs.List.{flat_map}
use Rattle.yard_model.specs.declared.fact.Fact.{Fact}
use Rattle.yard_model.specs.Text.{fact_line}
use Rattle.fact_lines.specs.Entry.{is_entry}
use Rattle.fact_lines.specs.Readable.{AreReadable, IsReadable}
use Rattle.fact_lines.specs.Reads.{line_at}

-- the line of a fact is read as that fact, whatever stands behind it
abbrev pub PrintedIsRead : Type 0
PrintedIsRead = (f : Fact) (rest : List ℕ) → IsReadable f → line_at (fact_line f ++ rest) ≡ Some (f, rest)

-- what is read as a fact is that fact's line
abbrev pub ReadIsPrinted : Type 0
ReadIsPrinted = (text : List ℕ) (f : Fact) (rest : List ℕ) → line_at text ≡ Some (f, rest) → text ≡ fact_line f ++ rest

-- different lists have different texts
abbrev pub TextsTell : Type 0
TextsTell = (fs gs : List Fact) → AreReadable fs → AreReadable gs → flat_map fact_line fs ≡ flat_map fact_line gs → fs ≡ gs

-- an entry is among the facts that are read
abbrev pub EntriesAreReadable : Type 0
EntriesAreReadable = (f : Fact) → is_entry f ≡ true → IsReadable f
