-- What the type of a world keeps.
use Rattle.std.specs.Prelude.{◌≡◌, ℕ, ◌*◌, ◌≤◌, Bool, true, false, length, slice_index_or, Option, Some, None}
use Rattle.shard_store.specs.Stores.{lists_at}
use Rattle.yard_model.specs.Script.{Script, IsScript, with_shards}
use Rattle.world_sim.specs.declared.fault.StepFault.{StepFault}
use Rattle.world_sim.specs.declared.fault.StepFault.TheVariants as fault
use Rattle.world_sim.specs.declared.world.Origin.{Origin}
use Rattle.world_sim.specs.Given.{Given, IsGiven}
use Rattle.world_sim.specs.Played.{made_of, made_by}
use Rattle.world_sim.specs.Stands.{Stands}
use Rattle.world_sim.specs.Yard.{Yard, IsSeen}

-- its parts, with the number of shards in force, stand for the world after so many orders of this script, whose wire is full or isn't
pub record IsAt (c : Script) (y : Yard) (n : ℕ) (full : Bool) : Type 0 where
  pub era_is : y.script ≡ with_shards y.script.config.shards c
  pub seen_is : IsSeen y (made_of c n).world
  pub stands_is : Stands y.script (made_of c n).world
  pub full_is : (made_of c n).world.full ≡ full

-- so often at most have nodes come up or gone, or sends been ordered
pub record IsCounted (y : Yard) (n : ℕ) : Type 0 where
  pub version_is : y.version ≤ 20 * n
  pub ups_are : (k : ℕ) → slice_index_or y.ups k 0 ≤ 20 * n
  pub ordered_are : (k : ℕ) → slice_index_or y.ordered k 0 ≤ n

-- after want of memory nothing is known of it
abbrev pub IsKept : Script → Yard → ℕ → Option StepFault → Type 0
IsKept c y n None = IsAt c y n false × IsCounted y n
IsKept c y n (Some fault.WireFull) = IsAt c y n true × IsCounted y n
IsKept c y n (Some fault.OutOfMemory) = Unit {0}

-- of a world that plays orders
pub record IsPlaying (c : Script) (y : Yard) (n : ℕ) (f : Option StepFault) : Type 0 where
  pub script_is : IsScript c
  pub few : n ≤ length c.orders
  pub kept : IsKept c y n f

-- the parts of a world of given stores stand for it, and once it is settled for what its settle leads to
pub record IsOf (c : Script) (g : Given) (y : Yard) (n : ℕ) : Type 0 where
  pub script_is : y.script ≡ c
  pub seen_is : IsSeen y (made_by c (Some g) n).world
  pub stands_is : Stands c (made_by c (Some g) n).world
  pub version_is : y.version ≤ 20 * n

-- no wire of it fills
abbrev pub IsHeld : Script → Given → Yard → ℕ → Option StepFault → Type 0
IsHeld c g y n None = IsOf c g y n
IsHeld c g y n (Some fault.WireFull) = ⊥
IsHeld c g y n (Some fault.OutOfMemory) = Unit {0}

-- of a world of given stores
pub record IsFromStores (c : Script) (g : Given) (y : Yard) (n : ℕ) (f : Option StepFault) : Type 0 where
  pub script_is : IsScript c
  pub given_is : IsGiven c g.version g.lists
  pub few : n ≤ 1
  pub kept : IsHeld c g y n f

abbrev pub IsWorld : Script → Option Given → Yard → ℕ → Option StepFault → Type 0
IsWorld c None y n f = IsPlaying c y n f
IsWorld c (Some g) y n f = IsFromStores c g y n f

-- what it began with, by what is kept of that
abbrev pub given_in : Option Origin → Option Given
given_in None = None
given_in (Some o) = Some (record { version = o.version; lists = lists_at o.stores.value.script.config o.stores.value.places })
