-- What is printed of such a fact is read as it, and only such facts are read.
use Rattle.std.specs.Prelude.{◌≡◌, ℕ, List, ◌++◌, Some}
use Rattle.yard_model.specs.declared.fact.Fact.{Fact}
use Rattle.yard_model.specs.Text.{fact_line}
use Rattle.state_lines.specs.States.{told_at}
use Rattle.state_lines.specs.Told.{IsTold}

-- the line of a fact is read as that fact, whatever stands behind it
abbrev pub ToldIsRead : Type 0
ToldIsRead = (f : Fact) (rest : List ℕ) → IsTold f → told_at (fact_line f ++ rest) ≡ Some f

-- what is read is such a fact
abbrev pub ReadIsTold : Type 0
ReadIsTold = (text : List ℕ) (f : Fact) → told_at text ≡ Some f → IsTold f

-- so two such facts with the same line are one
abbrev pub LinesTell : Type 0
LinesTell = (f g : Fact) → IsTold f → IsTold g → fact_line f ≡ fact_line g → f ≡ g
