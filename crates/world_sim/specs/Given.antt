-- A world that begins with given stores.
use Rattle.std.specs.Prelude.{◌≤◌, ℕ, nat_le, Bool, true, IsTrue}
use Rattle.std.specs.List.{list_all}
use Rattle.yard_model.specs.declared.fact.Fact.{Fact}
use Rattle.yard_model.specs.declared.fact.Fact.TheVariants as fact
use Rattle.yard_model.specs.declared.incarnation.Slot.{Slot}
use Rattle.yard_model.specs.Genuine.{is_slot_of}
use Rattle.yard_model.specs.Lawful.{lawful}
use Rattle.yard_model.specs.Script.{Script, is_version}
use Rattle.yard_model.specs.Limits.{number_limit}
use Rattle.yard_model.specs.SlotLists.{SlotLists}
use Rattle.yard_model.specs.Trace.{list_at}
use Rattle.yard_model.specs.World.{given_world, wire_limit}
use Rattle.settle_laws.specs.Settles.{IsUnheld, most_deliveries}

-- the lists that it begins with, and the version of its behaviours
pub record Given : Type 0 where
  pub version : ℕ
  pub lists : SlotLists

-- an incarnation that was granted the slot, or registered, has a number within the limit
abbrev pub is_numbered : Fact → Bool
is_numbered (fact.Granted s n x) = nat_le x.number number_limit
is_numbered (fact.Registered x) = nat_le x.number number_limit
is_numbered f = true

-- lawful lists of a script, of which no slot is held, and whose settling the wire has room for; and a version that it admits
pub record IsGiven (c : Script) (version : ℕ) (lists : SlotLists) : Type 0 where
  pub admitted : IsTrue (is_version c version)
  pub fits : most_deliveries (given_world c version lists) ≤ wire_limit
  pub lawful_is : IsTrue (lawful c lists)
  pub unheld : IsUnheld c lists
  pub numbered : (s : Slot) → IsTrue (is_slot_of c s) → IsTrue (list_all is_numbered (list_at lists s))
