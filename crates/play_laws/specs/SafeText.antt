-- What a text is of, with no word on how it came about: a safe trace of the script, and the report of that trace's lists.
use Rattle.std.specs.Prelude.{◌≡◌, ℕ, List, ◌++◌, IsTrue}
use Rattle.std.specs.List.{flat_map}
use Rattle.yard_model.specs.declared.fact.Fact.{Fact}
use Rattle.yard_model.specs.Era.{Era, era_of, lists_in}
use Rattle.yard_model.specs.Lawful.{lawful}
use Rattle.yard_model.specs.Replay.{replay_within}
use Rattle.yard_model.specs.Safe.{safe}
use Rattle.yard_model.specs.Script.{Script, IsScript, setting}
use Rattle.yard_model.specs.Text.{Bytes, fact_line, report}

-- safe after each of its facts; and its lists are lawful, for the number of shards in force
pub record IsSafeTrace (c : Script) (trace : List Fact) : Type 0 where
  pub safe_is : IsTrue (safe c trace)
  pub lawful_is : IsTrue (lawful (era_of c trace).script (lists_in (era_of c trace)))

-- the report of a trace's lists
abbrev pub report_in : Era → Bytes
report_in era = report (setting era.script) (lists_in era)

-- the lines of such a trace, and its report
pub record SafeText (c : Script) (text : Bytes) : Type 0 where
  pub trace : List Fact
  pub trace_is : IsSafeTrace c trace
  pub text_is : text ≡ flat_map fact_line trace ++ report_in (era_of c trace)

-- what a replay prints is such a text, with any limit of packets
abbrev pub ReplayIsSafe : Type 0
ReplayIsSafe = (c : Script) (limit : ℕ) → IsScript c → SafeText c (replay_within limit c)
