-- Texts that are the lines of entries.
use Rattle.std.specs.Prelude.{◌≡◌, ℕ, true, List, [], ◌∷◌, ◌++◌}
use Rattle.std.specs.List.{flat_map, list_all}
use Rattle.yard_model.specs.declared.fact.Fact.{Fact}
use Rattle.yard_model.specs.Text.{fact_line}
use Rattle.fact_lines.specs.Entry.{is_entry}

-- the text is the lines of these facts, and each is an entry
pub record AreLines (text : List ℕ) (facts : List Fact) : Type 0 where
  pub each : list_all is_entry facts ≡ true
  pub lines : text ≡ flat_map fact_line facts

-- the text is the lines of no entries
abbrev pub IsOther : List ℕ → Type 0
IsOther text = (facts : List Fact) → AreLines text facts → ⊥

-- one more entry was taken, whose line stands at the front
pub record Took (text : List ℕ) (old new : List Fact) (rest : List ℕ) : Type 0 where
  pub fact : Fact
  pub entry : is_entry fact ≡ true
  pub facts : new ≡ old ++ fact ∷ []
  pub line : text ≡ fact_line fact ++ rest

-- no line of an entry stands at the front
abbrev pub IsNoEntry : List ℕ → Type 0
IsNoEntry text = (f : Fact) (rest : List ℕ) → is_entry f ≡ true → text ≡ fact_line f ++ rest → ⊥

-- so far these facts were taken, and this rest is left
pub record TookSo (text : List ℕ) (facts : List Fact) (rest : List ℕ) : Type 0 where
  pub each : list_all is_entry facts ≡ true
  pub lines : text ≡ flat_map fact_line facts ++ rest
