-- The lists of all slots.
use Rattle.std.specs.Prelude.{ℕ, ◌-◌, List, [], slice_index_or}
use Rattle.yard_model.specs.declared.fact.Fact.{Fact}

pub record SlotLists : Type 0 where
  pub shards : List (List Fact)  -- of each shard, from 0
  pub coordinator : List Fact
  pub queues : List (List Fact)  -- of each producer, from 1

abbrev pub shard_list : SlotLists → ℕ → List Fact
shard_list lists s = slice_index_or lists.shards s []

abbrev pub queue_list : SlotLists → ℕ → List Fact
queue_list lists p = slice_index_or lists.queues (p - 1) []
