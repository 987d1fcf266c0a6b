-- Steps of the world that keep what stands.
use Rattle.std.specs.Prelude.{◌≡◌, ℕ, ◌-◌, length, ◌==◌, false, IsTrue, None}
use Rattle.yard_model.specs.declared.input.Input.TheVariants as input
use Rattle.yard_model.specs.Behaviour.{is_in}
use Rattle.yard_model.specs.Genuine.{is_producer}
use Rattle.yard_model.specs.Script.{Script, IsScript, setting, with_shards}
use Rattle.yard_model.specs.Words.{at}
use Rattle.yard_model.specs.SlotLists.{SlotLists}
use Rattle.yard_model.specs.World.{World, Step, given_world, settle, settle_bound, is_any_up, go_down, come_up, deliver, drain, produce, tick_while_left}
use Rattle.play_laws.specs.Confirming.{MayDeliver, MayDrain, MaySettle}
use Rattle.play_laws.specs.Sound.{AreQueued}
use Rattle.world_sim.specs.Given.{IsGiven}
use Rattle.world_sim.specs.Played.{made_of}
use Rattle.world_sim.specs.Stands.{Stands}
use Rattle.world_sim.specs.Steps.{given, marked, ticked, all_down, all_taken, resharded}

-- after the step what stood stands
abbrev pub StepKeeps : Script → World → Step → Type 0
StepKeeps c w q = Stands c w → Stands c (q w).world

-- and where all that was recorded was queued, all that is recorded is queued
abbrev pub StepBacks : Script → World → Step → Type 0
StepBacks c w q = Stands c w → AreQueued c w.lists → AreQueued c (q w).world.lists

pub record Keeps : Type 0 where
  -- the world after any orders of a script stands, by the script with the number of shards in force then
  pub plays : (c d : Script) (n : ℕ) → IsScript c → d ≡ with_shards d.config.shards c → (made_of c n).world.set ≡ setting d → Stands d (made_of c n).world
  pub plays_queued : (c d : Script) (n : ℕ) → IsScript c → d ≡ with_shards d.config.shards c → (made_of c n).world.set ≡ setting d → AreQueued d (made_of c n).world.lists
  -- so does the world of given lists
  pub gives : (c : Script) (version : ℕ) (lists : SlotLists) → IsScript c → IsGiven c version lists → Stands c (given_world c version lists)
  pub settles : (c : Script) (w : World) → MaySettle c (length w.wire) (settle_bound w) w → StepKeeps c w settle
  -- and so does one that goes over to another number of shards
  pub reshards : (c : Script) (w : World) (n : ℕ) → IsTrue (is_in 1 128 n) → is_any_up w ≡ false → (n == w.set.config.shards) ≡ false → w.full ≡ false → Stands c w → AreQueued c w.lists → Stands (with_shards n c) (resharded n w).world
  pub marks : (c : Script) (w : World) (k : ℕ) → StepKeeps c w (marked k)
  pub delivers : (c : Script) (w : World) (k : ℕ) → MayDeliver c w k → StepKeeps c w (deliver k)
  pub drains : (c : Script) (w : World) (from n : ℕ) → MayDrain c from n w → StepKeeps c w (drain from n)
  pub produces : (c : Script) (w : World) (p n : ℕ) → IsTrue (is_producer c p) → StepKeeps c w (given n (input.Produce p))
  pub sends : (c : Script) (w : World) (p n : ℕ) → IsTrue (is_producer c p) → StepKeeps c w (given n (input.Send p))
  pub takes : (c : Script) (w : World) (p n : ℕ) → IsTrue (is_producer c p) → StepKeeps c w (produce p n)
  pub ticks : (c : Script) (w : World) (n : ℕ) → StepKeeps c w (given n input.Tick)
  pub ticks_one : (c : Script) (w : World) (from bound : ℕ) → AreQueued c w.lists → StepKeeps c w (ticked from bound)
  pub goes_down : (c : Script) (w : World) (n : ℕ) → StepKeeps c w (go_down n)
  pub comes_up : (c : Script) (w : World) (n : ℕ) → IsTrue (is_in 1 c.config.nodes n) → at w.nodes (n - 1) ≡ None → StepKeeps c w (come_up n)
  pub downs : (c : Script) (w : World) → StepKeeps c w (all_down c)
  pub takes_all : (c : Script) (w : World) → StepKeeps c w (all_taken c)
  pub ticks_on : (c : Script) (w : World) (from bound n : ℕ) → AreQueued c w.lists → StepKeeps c w (tick_while_left from bound n)
  -- where all that is recorded is queued, a drain and a settle may hand over each of their packets, and it stays so
  pub lets_drain : (c : Script) (w : World) (from n : ℕ) → Stands c w → AreQueued c w.lists → MayDrain c from n w
  pub lets_settle : (c : Script) (w : World) (from bound : ℕ) → Stands c w → AreQueued c w.lists → MaySettle c from bound w
  pub backs_drain : (c : Script) (w : World) (from n : ℕ) → StepBacks c w (drain from n)
  pub backs_tick : (c : Script) (w : World) (n : ℕ) → StepBacks c w (given n input.Tick)
  pub backs_ticked : (c : Script) (w : World) (from bound : ℕ) → StepBacks c w (ticked from bound)
