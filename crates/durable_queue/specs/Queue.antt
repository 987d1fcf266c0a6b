-- What a contract sees of a queue store.
use Rattle.std.specs.Prelude.{ℕ, List, [], slice_index_or}
use Rattle.yard_model.specs.declared.fact.Fact.{Fact}
use Rattle.yard_model.specs.Script.{Script, names_in}

pub record Queue : Type 0 where
  pub script : Script  -- the script that it was made for
  pub producer : ℕ
  pub entries : List Fact  -- its list, as the facts that the entries are
  pub spare : ℕ  -- how many more entries it takes with no memory

-- the name at a place, from 0, among those of a script
abbrev pub name_at : Script → ℕ → List ℕ
name_at c i = slice_index_or (names_in c.orders) i []
