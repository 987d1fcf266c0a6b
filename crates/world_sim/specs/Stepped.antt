-- What a step of the code did, for any world that what is kept stands for.
use Rattle.std.specs.Prelude.{◌≡◌, ℕ, ◌+◌, ◌≤◌, List, slice_index_or, Result, Ok, Err}
use Rattle.yard_model.specs.declared.fact.Fact.{Fact}
use Rattle.yard_model.specs.Script.{with_shards}
use Rattle.yard_model.specs.World.{World, Step}
use Rattle.world_sim.specs.Mail.{ToldSome}
use Rattle.world_sim.specs.Yard.{Yard, IsBacked, Goes}

-- so many times more at most have nodes come up or gone
pub record Counts (n : ℕ) (old new : Yard) : Type 0 where
  pub version_is : new.version ≤ old.version + n
  pub ups_are : (k : ℕ) → slice_index_or new.ups k 0 ≤ slice_index_or old.ups k 0 + n

-- it stands for the world after the step, and the step's facts were told
pub record IsWhole (P : Yard → World → Type 0) (n : ℕ) (q : Step) (old new : Yard) (before after : List Fact) : Type 0 where
  pub script_is : new.script ≡ old.script
  pub counts : Counts n old new
  pub goes : (w : World) → P old w → Goes before after new (q w)

-- memory ran out: a beginning of the step's facts was told
pub record IsCut (P : Yard → World → Type 0) (q : Step) (old new : Yard) (before after : List Fact) : Type 0 where
  pub script_is : new.script ≡ old.script
  pub told : (w : World) → P old w → ToldSome before after (q w).facts

-- an order was played, after which the number of shards may be another; before it all that is recorded was queued
pub record IsPlayed (n : ℕ) (q : Step) (old new : Yard) (before after : List Fact) : Type 0 where
  pub script_is : new.script ≡ with_shards new.script.config.shards old.script
  pub counts : Counts n old new
  pub goes : (w : World) → IsBacked old w → Goes before after new (q w)

abbrev pub Plays : {E : Type 0} → ℕ → Step → Result (Unit {0}) E → Yard → Yard → List Fact → List Fact → Type 0
Plays n q (Ok u) old new before after = IsPlayed n q old new before after
Plays n q (Err e) old new before after = IsCut IsBacked q old new before after

abbrev pub Stepped : {E : Type 0} → (Yard → World → Type 0) → ℕ → Step → Result (Unit {0}) E → Yard → Yard → List Fact → List Fact → Type 0
Stepped P n q (Ok u) old new before after = IsWhole P n q old new before after
Stepped P n q (Err e) old new before after = IsCut P q old new before after
