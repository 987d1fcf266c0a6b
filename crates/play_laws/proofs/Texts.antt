-- What a replay prints is the text of a safe trace.
use Rattle.std.proofs.Common.{ap₂, ◌≡◌, ℕ, ◌++◌, sym, ap, ◌∙◌}
use Rattle.std.specs.List.{flat_map}
use Rattle.yard_model.specs.Era.{era_of}
use Rattle.yard_model.specs.Lawful.{lawful}
use Rattle.yard_model.specs.Script.{Script, IsScript}
use Rattle.yard_model.specs.Text.{fact_line, report}
use Rattle.yard_model.specs.World.{played}
use Rattle.play_laws.specs.Played.{PlayedIsSafe, PlayedLists}
use Rattle.play_laws.specs.SafeText.{ReplayIsSafe, report_in}

-- the report at the end is that of the trace's lists
report_is : PlayedLists → (c : Script) (limit : ℕ) → IsScript c → report (played c limit).world.set (played c limit).world.lists ≡ report_in (era_of c (played c limit).facts)
report_is lists c limit script = sym (ap₂ report (lists c limit script).1 (lists c limit script).0)

pub replay_is_safe : PlayedIsSafe → PlayedLists → ReplayIsSafe
replay_is_safe safes lists c limit script = record {
  trace = (played c limit).facts;
  trace_is = record {
    safe_is = safes c limit script;
    lawful_is = ap (lawful (era_of c (played c limit).facts).script) (lists c limit script).0 ∙ (lists c limit script).2;
  };
  text_is = ap (λ r. flat_map fact_line (played c limit).facts ++ r) (report_is lists c limit script);
}
