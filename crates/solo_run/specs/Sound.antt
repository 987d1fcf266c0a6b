-- What is so of every journal.
use Rattle.std.specs.Prelude.{ℕ, List, IsTrue}
use Rattle.yard_model.specs.declared.packet.Record.{Record}
use Rattle.yard_model.specs.Behaviour.{empty_state}
use Rattle.yard_model.specs.Lawful.{is_folded, is_merged}
use Rattle.yard_model.specs.Script.{Script, setting}
use Rattle.yard_model.specs.Setting.{shard_of}
use Rattle.yard_model.specs.SlotLists.{shard_list}
use Rattle.yard_model.specs.SlotReads.{journal}
use Rattle.yard_model.specs.Solo.{solo}
use Rattle.trace_text.specs.Foldable.{are_foldable}

-- each record has the next number, and the events and the reply that are decided at the state of those before it;
-- of each producer there are the first commands of its plan, once and in order; the events are applicable one after the other
pub record IsSound (c : Script) (e : List ℕ) (records : List Record) : Type 0 where
  pub folded_is : IsTrue (is_folded c records)
  pub merged_is : IsTrue (is_merged c e records)
  pub foldable_is : IsTrue (are_foldable (empty_state c.config.kind) records)

-- the journal of a name after `solo`
abbrev pub solo_journal : Script → List ℕ → List Record
solo_journal c e = journal e (shard_list (solo c).lists (shard_of (setting c) e))
