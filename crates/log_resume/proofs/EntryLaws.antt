-- What is known of an entry that a log may have.
use Rattle.std.proofs.Common.{◌≡◌, sym, refl}
use Rattle.std.specs.Prelude.{true, false, ◌&&◌, Some}
use Rattle.plain_laws.proofs.Booleans.{true_is_not_false, and_both}
use Rattle.yard_model.specs.declared.fact.Fact.{Fact}
use Rattle.yard_model.specs.declared.fact.Fact.TheVariants as fact
use Rattle.yard_model.specs.declared.incarnation.Slot.{Slot}
use Rattle.yard_model.specs.declared.incarnation.Slot.TheVariants as slot
use Rattle.yard_model.specs.Behaviour.{is_in}
use Rattle.yard_model.specs.Opening.{begins}
use Rattle.yard_model.specs.Script.{Setting}
use Rattle.yard_model.specs.Setting.{shard_of}
use Rattle.yard_model.specs.Trace.{slot_of}
use Rattle.fact_lines.specs.Entry.{is_entry, is_incarnation, is_number, is_slot}
use Rattle.log_resume.specs.Restored.{is_numbered}

-- it belongs to a slot
pub entry_slot : (set : Setting) (f : Fact) → is_entry f ≡ true → (s : Slot) × (slot_of set f ≡ Some s)
entry_slot set (fact.Granted s n x) h = (s, refl)
entry_slot set (fact.Freed s n why) h = (s, refl)
entry_slot set (fact.Registered x) h = (slot.Coordinator, refl)
entry_slot set (fact.Terminated x) h = (slot.Coordinator, refl)
entry_slot set (fact.Allocated s x) h = (slot.Coordinator, refl)
entry_slot set (fact.Deallocated s) h = (slot.Coordinator, refl)
entry_slot set (fact.Wrote e r) h = (slot.Shard (shard_of set e), refl)
entry_slot set (fact.Snapshot e n) h = (slot.Shard (shard_of set e), refl)
entry_slot set (fact.Remembered e) h = (slot.Shard (shard_of set e), refl)
entry_slot set (fact.Forgotten e) h = (slot.Shard (shard_of set e), refl)
entry_slot set (fact.Queued p e n k) h = (slot.Queue p, refl)
entry_slot set (fact.Confirmed p e n) h = (slot.Queue p, refl)
entry_slot set f h = absurd (true_is_not_false (sym h))

-- its list doesn't begin anew with it
pub entry_within : (f : Fact) → is_entry f ≡ true → begins f ≡ false
entry_within (fact.Reshard n k) h = absurd (true_is_not_false (sym h))
entry_within (fact.Resharded s n k) h = absurd (true_is_not_false (sym h))
entry_within f h = refl

-- its incarnation's number is within the limit
pub entry_numbered : (f : Fact) → is_entry f ≡ true → is_numbered f ≡ true
entry_numbered (fact.Granted s n x) h = (and_both (is_in 1 16 x.node) (is_number x.number) (and_both (is_slot s && is_number n) (is_incarnation x) h).1).1
entry_numbered (fact.Registered x) h = (and_both (is_in 1 16 x.node) (is_number x.number) h).1
entry_numbered f h = refl
