-- How the list of a slot is kept with its lease.
use Rattle.std.specs.Prelude.{◌≡◌, ℕ, ◌+◌, ◌<◌, ◌≤◌, ◌^◌, Bool, List, length, Option}
use Rattle.yard_model.specs.declared.fact.Fact.{Fact}
use Rattle.yard_model.specs.declared.incarnation.Incarnation.{Incarnation}
use Rattle.yard_model.specs.Lawful.{is_held}
use Rattle.yard_model.specs.SlotReads.{epoch, epoch_step, holder_step}

-- a shard's list, and how many entries more take no memory
pub record Listed : Type 0 where
  pub shard : ℕ
  pub entries : List Fact
  pub spare : ℕ

-- the lease that the list tells of, of which each epoch yet to come fits; how many entries there can be
pub record IsLease (l : Listed) (epoch_now : ℕ) (leased : Bool) (room : ℕ) : Type 0 where
  pub epoch_is : epoch_now ≡ epoch l.entries
  pub leased_is : leased ≡ is_held l.entries
  pub counted : epoch_now + l.spare < 2 ^ 32
  pub few : length l.entries + l.spare < 2 ^ 32
  pub room_is : length l.entries + l.spare ≤ room

-- an entry that neither grants nor frees
pub record KeepsLease (f : Fact) : Type 0 where
  pub holder_is : (old : Option Incarnation) → holder_step old f ≡ old
  pub epoch_is : (old : ℕ) → epoch_step old f ≡ old
