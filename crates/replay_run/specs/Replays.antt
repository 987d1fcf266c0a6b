-- A world that plays a script to its end.
use Rattle.std.specs.Prelude.{◌≡◌, ◌≢◌, ℕ, Bool, true, false, Some, None}
use Rattle.std.specs.List.{flat_map}
use Rattle.yard_model.specs.Script.{Script}
use Rattle.yard_model.specs.Text.{Bytes, fact_line}
use Rattle.yard_model.specs.World.{Made, played, trace_of, wire_limit}
use Rattle.trace_text.specs.Json.{json_text}
use Rattle.world_sim.specs.declared.fault.StepFault.TheVariants as fault
use Rattle.world_sim.specs.Played.{Played, made_of}

-- so many orders were played, and the trace goes on
pub record IsOn (c : Script) (n : ℕ) (world : Played) : Type 0 where
  pub world_is : world ≡ record { script = c; given = None; count = n; fault = None }
  pub going_is : (made_of c n).world.full ≡ false

-- all orders were played, or those up to the one with which the trace stops
pub record IsDone (c : Script) (world : Played) : Type 0 where
  pub script_is : world.script ≡ c
  pub given_is : world.given ≡ None
  pub memory_is : world.fault ≢ Some fault.OutOfMemory
  pub made_is : made_of c world.count ≡ played c wire_limit

-- they were so many
pub record IsThrough (c : Script) (n : ℕ) (world : Played) : Type 0 where
  pub done_is : IsDone c world
  pub made_is : made_of c n ≡ played c wire_limit

-- after one order more: the trace goes on, or it stopped
abbrev pub IsNext : Script → ℕ → Bool → Played → Type 0
IsNext c n true world = IsOn c n world
IsNext c n false world = IsThrough c n world

-- the lines of the trace
abbrev pub trace_text : Script → Bytes
trace_text c = flat_map fact_line (trace_of c)

-- the report as JSON, of the lists in which the trace ends
abbrev pub replay_json : Script → Bytes
replay_json c = let m : Made = played c wire_limit in json_text m.world.set m.world.lists
