-- Lists for another number of shards.
use Rattle.std.specs.Prelude.{◌≡◌, ℕ, ◌≤◌, false, List, IsTrue}
use Rattle.yard_model.specs.Behaviour.{is_in}
use Rattle.yard_model.specs.Script.{Script, setting, is_config, with_shards}
use Rattle.yard_model.specs.Setting.{shard_of}
use Rattle.yard_model.specs.SlotLists.{SlotLists, shard_list}
use Rattle.yard_model.specs.SlotReads.{epoch, journal}
use Rattle.yard_model.specs.Lawful.{is_held, lawful}
use Rattle.yard_model.specs.Era.{reshaped}

-- each name has the journal that it had, in the list of its shard; one that the script doesn't bring has none in either
abbrev pub ReshapedKeepsJournals : Type 0
ReshapedKeepsJournals = (c : Script) (n k : ℕ) (lists : SlotLists) → IsTrue (is_in 1 128 n) → IsTrue (lawful c lists) → (e : List ℕ)
    → journal e (shard_list (reshaped (setting c) n k lists) (shard_of (setting (with_shards n c)) e)) ≡ journal e (shard_list lists (shard_of (setting c) e))

-- the lists are lawful for so many shards: the coordinator's isn't held, and no shard's epoch is above k
abbrev pub ReshapedIsLawful : Type 0
ReshapedIsLawful = (c : Script) (n k : ℕ) (lists : SlotLists) → IsTrue (is_config c.config) → IsTrue (is_in 1 128 n) → IsTrue (lawful c lists) → is_held lists.coordinator ≡ false
    → ((s : ℕ) → epoch (shard_list lists s) ≤ k) → IsTrue (lawful (with_shards n c) (reshaped (setting c) n k lists))
