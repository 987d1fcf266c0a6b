-- A trace goes through eras: each has a number of shards. Where that number changes, a shard's list begins anew with the entries of its names, and the trace goes on as that of a world that begins with these lists.
use Rattle.std.specs.Prelude.{ℕ, Bool, false, List, [], ◌∷◌, ◌++◌, map, filter, fold}
use Rattle.std.specs.List.{flat_map}
use Rattle.yard_model.specs.declared.fact.Fact.{Fact}
use Rattle.yard_model.specs.declared.fact.Fact.TheVariants as fact
use Rattle.yard_model.specs.Script.{Script, Setting, is_name, setting, with_shards}
use Rattle.yard_model.specs.Setting.{shard_of, names_of, set_shards, shards}
use Rattle.yard_model.specs.SlotLists.{SlotLists, shard_list}
use Rattle.yard_model.specs.Trace.{lists_of}

abbrev pub upgrade_step : ℕ → Fact → ℕ
upgrade_step old (fact.Upgrade v) = v
upgrade_step old f = old

-- the version of behaviours that is in force
abbrev pub version_in : List Fact → ℕ
version_in trace = fold upgrade_step 1 trace

-- Another number of shards.

-- an entry of this name
abbrev pub is_of_name : List ℕ → Fact → Bool
is_of_name e (fact.Wrote x r) = is_name x e
is_of_name e (fact.Snapshot x m) = is_name x e
is_of_name e (fact.Remembered x) = is_name x e
is_of_name e (fact.Forgotten x) = is_name x e
is_of_name e f = false

-- the entries of a name
abbrev pub entries_of : Setting → SlotLists → List ℕ → List Fact
entries_of set lists e = filter (is_of_name e) (shard_list lists (shard_of set e))

-- Base: the entries of the names that are of shard s from here on, name by name
abbrev pub base : Setting → Setting → SlotLists → ℕ → List Fact
base set new lists s = flat_map (entries_of set lists) (names_of new s)

-- the lists for n shards, whose epochs go on above k: each shard's begins anew
abbrev pub reshaped : Setting → ℕ → ℕ → SlotLists → SlotLists
reshaped set n k lists = let new : Setting = set_shards n set in record {
  shards = map (λ s. base set new lists s ++ fact.Resharded s n k ∷ []) (shards new);
  coordinator = lists.coordinator ++ fact.Reshard n k ∷ [];
  queues = lists.queues;
}

-- Eras.

pub record Era : Type 0 where
  pub script : Script  -- with the number of shards in force
  pub trace : List Fact  -- facts that come to the lists and the version that the era begins with, and then its own

-- facts that come to these lists and to this version, which is the last of them
abbrev pub opening_of : ℕ → SlotLists → List Fact
opening_of v lists = ((flat_map (λ l. l) lists.shards ++ lists.coordinator) ++ flat_map (λ l. l) lists.queues) ++ fact.Upgrade v ∷ []

-- of a world that begins with these lists, and behaviours of this version
abbrev pub era_with : Script → ℕ → SlotLists → Era
era_with c v lists = record { script = c; trace = opening_of v lists }

abbrev pub first_era : Script → Era
first_era c = record { script = c; trace = [] }

abbrev pub era_step : Era → Fact → Era
era_step old (fact.Reshard n k) = era_with (with_shards n old.script) (version_in old.trace) (reshaped (setting old.script) n k (lists_of (setting old.script) old.trace))
era_step old f = record { script = old.script; trace = old.trace ++ f ∷ [] }

-- the era in which a trace ends
abbrev pub era_of : Script → List Fact → Era
era_of c trace = fold era_step (first_era c) trace

-- List(T, slot), of each slot
abbrev pub lists_in : Era → SlotLists
lists_in era = lists_of (setting era.script) era.trace
