-- What is so of a world between any two inputs.
use Rattle.std.specs.Prelude.{List}
use Rattle.yard_model.specs.declared.fact.Fact.{Fact}
use Rattle.yard_model.specs.Script.{Script}
use Rattle.yard_model.specs.World.{World}
use Rattle.play_laws.specs.Sound.{SoundIf}

-- it is sound, by the trace of its era's facts, where c is the script with the number of shards in force, but that more may be recorded than is queued
pub record Stands (c : Script) (w : World) : Type 0 where
  pub trace : List Fact
  pub sound : SoundIf ⊥ c trace w
