-- Nodes that stop.
use Rattle.std.specs.Prelude.{◌≡◌, ℕ, ◌<◌, None}
use Rattle.yard_model.specs.SlotLists.{SlotLists}
use Rattle.yard_model.specs.Words.{at}
use Rattle.yard_model.specs.World.{World}
use Rattle.world_sim.specs.Played.{FreesSome}
use Rattle.world_sim.specs.Yard.{Yard, IsFirm}

-- no node of it is up
abbrev pub IsQuiet : World → Type 0
IsQuiet w = (k : ℕ) → at w.nodes k ≡ None

-- a world of which so many nodes have stopped: its lists are these, with entries more that free slots; none where no node was up
pub record IsStopped (quiet : Type 0) (n : ℕ) (lists : SlotLists) (y : Yard) (w : World) : Type 0 where
  pub firm_is : IsFirm y w
  pub down : (k : ℕ) → k < n → at w.nodes k ≡ None
  pub freed_are : FreesSome y.script lists w.lists
  pub still : quiet → (w.lists ≡ lists) × IsQuiet w
