-- What a contract sees of a store.
use Rattle.std.specs.Prelude.{◌≡◌, ℕ, ◌<◌, true, false, List}
use Rattle.yard_model.specs.declared.fact.Fact.{Fact}
use Rattle.yard_model.specs.declared.load.Load.{Load}
use Rattle.yard_model.specs.Script.{Script}
use Rattle.yard_model.specs.ShardSet.{has}
use Rattle.yard_model.specs.Words.{is_at}
use Rattle.yard_model.specs.SlotReads.{allocation}

-- the script that it was made for, its entries as the facts that they are, and how many more it takes with no memory
pub record Coord : Type 0 where
  pub script : Script
  pub entries : List Fact
  pub spare : ℕ

-- of the shards below 128, the load has exactly those that the entries allocate to its region
abbrev pub IsLoadOf : List Fact → Load → Type 0
IsLoadOf entries l = (s : ℕ) → s < 128 → has l.shards s ≡ is_at l.region (allocation s entries)

-- no shard is in both
abbrev pub AreApart : Load → Load → Type 0
AreApart x y = (s : ℕ) → s < 128 → has x.shards s ≡ true → has y.shards s ≡ false
