-- The names of a script as they are kept, with their shards.
use Rattle.std.specs.Prelude.{◌≡◌, ℕ, ◌≤◌, List, map}
use Rattle.std.specs.List.Sorted.{IsStrictlySortedBy}
use Rattle.std.specs.Ordering.{nat_cmp}
use Rattle.std.specs.Cmp.Lexicographic.{slice_cmp}
use Rattle.yard_model.specs.Script.{Script, setting}
use Rattle.yard_model.specs.Shard.{shard}
use Rattle.producer_ctl.specs.declared.names.Kept.{Kept}

-- the names of the script, and the shard of each
pub record IsNamed (c : Script) (names : List (List ℕ)) (shards : List ℕ) : Type 0 where
  pub names_are : names ≡ (setting c).names
  pub sorted : IsStrictlySortedBy (slice_cmp nat_cmp) names
  pub shards_are : shards ≡ map (shard c.config.shards) names
  pub some : 1 ≤ c.config.shards

-- what the names of a script keep
abbrev pub AreKept : Kept → Type 0
AreKept k = IsNamed k.script.value k.index k.shards.items
