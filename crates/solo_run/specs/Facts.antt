-- The lists of the shards, as facts.
use Rattle.std.specs.Prelude.{ℕ, ◌+◌, ◌==◌, List, [], ◌∷◌, ◌++◌, map, slice_index_or, slice_set, Option, Some, None, Vec, if◌then◌else◌}
use Rattle.std.specs.declared.alloc.Global.{Global}
use Rattle.yard_model.specs.declared.charter.Config.{Config}
use Rattle.yard_model.specs.declared.fact.Fact.{Fact}
use Rattle.yard_model.specs.declared.fact.Fact.TheVariants as fact
use Rattle.yard_model.specs.declared.entry.ShardEntry.{ShardEntry}
use Rattle.yard_model.specs.declared.packet.Message.{Message}
use Rattle.yard_model.specs.declared.packet.Record.{Record}
use Rattle.yard_model.specs.Entry.{shard_fact}
use Rattle.yard_model.specs.Shard.{shard}
use Rattle.yard_model.specs.SlotReads.{journal, position}
use Rattle.yard_model.specs.declared.incarnation.Slot.TheVariants as slot
use Rattle.yard_model.specs.Script.{Setting}
use Rattle.yard_model.specs.Words.{numbers}
use Rattle.yard_model.specs.SlotLists.{SlotLists}
use Rattle.yard_model.specs.Solo.{Solo, next_record, alone}

-- the lists of the shards from s on
abbrev pub facts_from : ℕ → List (Vec ShardEntry Global) → List (List Fact)
facts_from s [] = []
facts_from s (v ∷ vs) = map (shard_fact s) v.items ∷ facts_from (s + 1) vs

abbrev pub facts_of : List (Vec ShardEntry Global) → List (List Fact)
facts_of vs = facts_from 0 vs

-- one fact more in the list of a shard
abbrev pub with_fact : ℕ → Fact → List (List Fact) → List (List Fact)
with_fact s f lists = slice_set lists s (slice_index_or lists s [] ++ f ∷ [])

-- a message is recorded where it is the next of its pair
abbrev pub with_taken : Config → List (List Fact) → Message → List (List Fact)
with_taken config lists m =
    let before : List Record = journal m.entity (slice_index_or lists (shard config.shards m.entity) []) in
    if m.number == position m.producer before + 1 then with_fact (shard config.shards m.entity) (fact.Wrote m.entity (next_record config.kind before m)) lists else lists

abbrev pub with_one : Option Message → Config → List (List Fact) → List (List Fact)
with_one None config lists = lists
with_one (Some m) config lists = with_taken config lists m

-- the list of a shard that is held and has no records
abbrev pub held : ℕ → List Fact
held s = fact.Granted (slot.Shard s) 1 alone ∷ []

-- a setting of which the names don't matter
abbrev pub bare : Config → Setting
bare config = record { config = config; names = [] }

-- the lists of all slots, where these are the shards' and nothing is queued
abbrev pub lists_of : Config → List (List Fact) → SlotLists
lists_of config lists = record { shards = lists; coordinator = []; queues = map (λ p. []) (numbers 1 config.producers) }

-- the state that posted messages and lists stand for
abbrev pub state_of : Config → List Message → List (List Fact) → Solo
state_of config posted lists = record { posted = posted; lists = lists_of config lists }
