-- A world of jobs that plays a script to its end.
use Rattle.std.specs.Prelude.{◌≡◌, ℕ, ◌+◌, Bool, true, false, List, Some, None, drop, length}
use Rattle.std.specs.List.{flat_map}
use Rattle.yard_model.specs.declared.fact.Fact.{Fact}
use Rattle.yard_model.specs.Script.{Script}
use Rattle.yard_model.specs.Text.{Bytes, fact_line}
use Rattle.yard_model.specs.World.{wire_limit}
use Rattle.pull_laws.specs.Pulling.{pulled, pull_trace}
use Rattle.work_pulling.specs.declared.fault.PullFault.TheVariants as fault
use Rattle.work_pulling.specs.Played.{Played, NotCut, told_by}

-- the facts told when so many lines were played
abbrev pub told_to : Script → ℕ → List Fact
told_to c n = (pulled c wire_limit n).told

-- what one line more tells
abbrev pub line_facts : Script → ℕ → List Fact
line_facts c n = drop (length (told_to c n)) (told_to c (n + 1))

-- the lines of the trace
abbrev pub trace_text : Script → Bytes
trace_text c = flat_map fact_line (pull_trace c)

-- so many lines were played, and the trace goes on
pub record IsOn (c : Script) (n : ℕ) (world : Played) : Type 0 where
  pub world_is : world ≡ record { script = c; count = n; fault = None }
  pub going_is : (pulled c wire_limit n).full ≡ false

-- so many were played, and the trace stopped with the last
pub record IsStopped (c : Script) (n : ℕ) (world : Played) : Type 0 where
  pub world_is : world ≡ record { script = c; count = n; fault = Some fault.WireFull }
  pub full_is : (pulled c wire_limit n).full ≡ true

-- after one line more
abbrev pub IsNext : Script → ℕ → Bool → Played → Type 0
IsNext c n true world = IsOn c n world
IsNext c n false world = IsStopped c n world

-- all lines were played, or those up to the one with which the trace stops
pub record IsDone (c : Script) (world : Played) : Type 0 where
  pub memory_is : NotCut world.fault
  pub told_is : (told_by world).told ≡ pull_trace c
