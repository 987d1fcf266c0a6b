-- What a store keeps beside its list.
use Rattle.std.specs.Prelude.{◌≡◌, ℕ, ◌+◌, ◌<◌, ◌≤◌, ◌^◌, Bool, List, length, IsTrue}
use Rattle.yard_model.specs.declared.fact.Fact.{Fact}
use Rattle.yard_model.specs.declared.incarnation.Slot.TheVariants as slot
use Rattle.yard_model.specs.Script.{Script}
use Rattle.yard_model.specs.Words.{at}
use Rattle.yard_model.specs.Lawful.{own, is_held}
use Rattle.yard_model.specs.SlotReads.{epoch, regions, allocation}
use Rattle.coordinator_state.specs.Homes.{Placed}

-- the list is lawful; the regions, homes, lease and epoch kept at hand are those of the list
pub record IsKept (script : Script) (list : List Fact) (placed : Placed) (number : ℕ) (leased : Bool) : Type 0 where
  pub lawful : IsTrue (own script slot.Coordinator list)
  pub registered : placed.regions ≡ regions list
  pub homes : (s : ℕ) → s < 128 → at placed.homes s ≡ allocation s list
  pub epoch : number ≡ epoch list
  pub few : number ≤ length list
  pub held : leased ≡ is_held list

-- how many entries there are and may come with no memory taken
pub record HasRoom (count spare capacity : ℕ) : Type 0 where
  pub room : count + spare ≤ capacity
  pub fits : count + spare < 2 ^ 32
