-- The entries that the rules of entities give may follow in their shard's list.
use Rattle.std.specs.Prelude.{◌≡◌, ℕ, ◌+◌, true, false, List, [], ◌∷◌, ◌++◌, length, IsTrue}
use Rattle.yard_model.specs.declared.fact.Fact.{Fact}
use Rattle.yard_model.specs.declared.fact.Fact.TheVariants as fact
use Rattle.yard_model.specs.declared.packet.Message.{Message}
use Rattle.yard_model.specs.declared.incarnation.Slot.{Slot}
use Rattle.yard_model.specs.declared.incarnation.Slot.TheVariants as slot
use Rattle.yard_model.specs.declared.incarnation.Cause.TheVariants as cause
use Rattle.yard_model.specs.Script.{Script, setting, is_version}
use Rattle.yard_model.specs.Setting.{shard_of}
use Rattle.yard_model.specs.Genuine.{is_brought, is_producer, is_planned}
use Rattle.yard_model.specs.Behaviour.{folded}
use Rattle.yard_model.specs.Lawful.{own, is_held, is_decided}
use Rattle.yard_model.specs.SlotReads.{epoch, journal, position, is_remembered}
use Rattle.yard_model.specs.Entities.{Entities, entries, record_of}
use Rattle.yard_model.specs.Safe.{is_journal_state}

abbrev pub slot_for : Script → List ℕ → Slot
slot_for c e = slot.Shard (shard_of (setting c) e)

-- the shard of this name of the script's is hosted, and its list is lawful by itself
pub record IsHosted (c : Script) (st : Entities) (e : List ℕ) : Type 0 where
  pub set_is : st.set ≡ setting c
  pub brought_is : IsTrue (is_brought c e)
  pub own_is : IsTrue (own c (slot_for c e) (entries st e))
  pub held_is : IsTrue (is_held (entries st e))
  pub version_is : IsTrue (is_version c st.version)

-- the list with the record that a message gives
abbrev pub with_record : Entities → Message → List Fact
with_record st m = entries st m.entity ++ fact.Wrote m.entity (record_of m st (journal m.entity (entries st m.entity))) ∷ []

-- the next message of a plan gives a record that may follow, decided in the version of the node's behaviour; and so may a snapshot after it
pub record MessageFollows (c : Script) (st : Entities) (m : Message) : Type 0 where
  pub written : IsTrue (own c (slot_for c m.entity) (with_record st m))
  pub decided : IsTrue (is_decided st.version c (journal m.entity (entries st m.entity)) (record_of m st (journal m.entity (entries st m.entity))))
  pub saved : IsTrue (own c (slot_for c m.entity) (with_record st m ++ fact.Snapshot m.entity (length (journal m.entity (entries st m.entity)) + 1) ∷ []))

abbrev pub NextFollows : Type 0
NextFollows = (c : Script) (st : Entities) (m : Message) → IsHosted c st m.entity → IsTrue (is_producer c m.producer) → IsTrue (is_planned c m.producer m.entity m.number m.command)
    → m.number ≡ position m.producer (journal m.entity (entries st m.entity)) + 1 → MessageFollows c st m

-- a name is remembered or forgotten where it wasn't so before, and the shard may be freed; an entity that becomes active shows its journal
pub record EntityFollows (c : Script) (st : Entities) (e : List ℕ) : Type 0 where
  pub remembered : is_remembered e (entries st e) ≡ false → IsTrue (own c (slot_for c e) (entries st e ++ fact.Remembered e ∷ []))
  pub forgotten : is_remembered e (entries st e) ≡ true → IsTrue (own c (slot_for c e) (entries st e ++ fact.Forgotten e ∷ []))
  pub freed : IsTrue (own c (slot_for c e) (entries st e ++ fact.Freed (slot_for c e) (epoch (entries st e)) cause.Released ∷ []))
  pub active : IsTrue (is_journal_state c (length (journal e (entries st e))) (folded st.set.config.kind (journal e (entries st e))) (journal e (entries st e)))

abbrev pub EntitiesFollow : Type 0
EntitiesFollow = (c : Script) (st : Entities) (e : List ℕ) → IsHosted c st e → EntityFollows c st e
