-- Journals that lead to a state.
use Rattle.std.specs.Prelude.{ℕ, Bool, true, ◌&&◌, List, [], ◌∷◌}
use Rattle.std.specs.List.{list_all}
use Rattle.yard_model.specs.declared.event.Kind.{Kind}
use Rattle.yard_model.specs.declared.packet.Record.{Record}
use Rattle.yard_model.specs.declared.state.State.{State}
use Rattle.yard_model.specs.declared.fact.Fact.{Fact}
use Rattle.yard_model.specs.Script.{Setting}
use Rattle.yard_model.specs.Setting.{shards, names_of}
use Rattle.yard_model.specs.Behaviour.{empty_state, are_applicable, after_record}
use Rattle.yard_model.specs.SlotLists.{SlotLists, shard_list}
use Rattle.yard_model.specs.SlotReads.{journal}

-- the events of these records are applicable one after the other, from this state on
abbrev pub are_foldable : State → List Record → Bool
are_foldable st [] = true
are_foldable st (r ∷ rs) = are_applicable st r.events && are_foldable (after_record st r) rs

-- the events of a name's journal are applicable one after the other, from the empty state on
abbrev pub is_foldable : Kind → List Fact → List ℕ → Bool
is_foldable k list e = are_foldable (empty_state k) (journal e list)

-- so is every journal of a shard
abbrev pub is_foldable_shard : Setting → SlotLists → ℕ → Bool
is_foldable_shard set lists s = list_all (is_foldable set.config.kind (shard_list lists s)) (names_of set s)

-- so is every journal
abbrev pub is_foldable_in_all : Setting → SlotLists → Bool
is_foldable_in_all set lists = list_all (is_foldable_shard set lists) (shards set)
