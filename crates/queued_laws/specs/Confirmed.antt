-- That what is confirmed was recorded before.
use Rattle.std.specs.Prelude.{◌≡◌, ℕ, List, ◌∷◌, ◌++◌, IsTrue}
use Rattle.yard_model.specs.declared.fact.Fact.{Fact}
use Rattle.yard_model.specs.declared.fact.Fact.TheVariants as fact
use Rattle.yard_model.specs.declared.packet.Record.{Record}
use Rattle.yard_model.specs.Safe.{safe}
use Rattle.yard_model.specs.Script.{Script}

-- these facts have a record of e of the command with number n of producer p
pub record WasWritten (facts : List Fact) (e : List ℕ) (p n : ℕ) : Type 0 where
  pub front : List Fact
  pub entry : Record
  pub back : List Fact
  pub facts_are : facts ≡ front ++ fact.Wrote e entry ∷ back
  pub producer_is : entry.producer ≡ p
  pub place_is : entry.place ≡ n

-- wherever a number of e is confirmed in a safe trace, its record stands before
abbrev pub ConfirmedWasWritten : Type 0
ConfirmedWasWritten = (c : Script) (front back : List Fact) (e : List ℕ) (p n : ℕ) → IsTrue (safe c (front ++ fact.Confirmed p e n ∷ back)) → WasWritten front e p n
