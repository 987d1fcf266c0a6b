-- Entries that are taken one after the other.
use Rattle.std.specs.Prelude.{◌≡◌, Bool, true, false, ◌&&◌, nat_le, List, ◌++◌, if◌then◌else◌}
use Rattle.std.specs.List.{list_all}
use Rattle.yard_model.specs.declared.fact.Fact.{Fact}
use Rattle.yard_model.specs.declared.fact.Fact.TheVariants as fact
use Rattle.yard_model.specs.Lawful.{lawful}
use Rattle.yard_model.specs.Script.{Script, setting}
use Rattle.yard_model.specs.Setting.{shard_of}
use Rattle.yard_model.specs.SlotLists.{SlotLists, shard_list}
use Rattle.yard_model.specs.SlotReads.{journal, position}
use Rattle.yard_model.specs.Trace.{lists_of, lists_step, slot_of}
use Rattle.fact_lines.specs.Entry.{is_entry}
use Rattle.log_resume.specs.Restored.{are_taken, has_slot}

-- no number past the records of its pair is confirmed
abbrev pub is_within : Script → SlotLists → Fact → Bool
is_within c lists (fact.Confirmed p e n) = nat_le n (position p (journal e (shard_list lists (shard_of (setting c) e))))
is_within c lists f = true

-- an entry was tested, and taken where it may be
pub record Takes (c : Script) (old : SlotLists) (f : Fact) (taken : Bool) (new : SlotLists) : Type 0 where
  pub answer : taken ≡ (has_slot c (slot_of (setting c) f) && lawful c (lists_step (setting c) old f))
  pub lists_are : new ≡ (if taken then lists_step (setting c) old f else old)

-- these lists are those of these entries, each of which may stand behind those before it
pub record Stands (c : Script) (facts : List Fact) (lists : SlotLists) : Type 0 where
  pub each : are_taken c facts ≡ true
  pub entries : list_all is_entry facts ≡ true
  pub lists_are : lists ≡ lists_of (setting c) facts
  pub lawful_is : lawful c lists ≡ true

-- the entries of a batch were tested behind these, up to the first that may not be taken
pub record TakesAll (c : Script) (before facts : List Fact) (whole : Bool) (new : SlotLists) : Type 0 where
  pub yes : whole ≡ true → Stands c (before ++ facts) new
  pub no : whole ≡ false → are_taken c (before ++ facts) ≡ false
