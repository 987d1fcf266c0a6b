use Rattle.std.proofs.Common.{◌≡◌, length, IsTrue}
use Rattle.std.specs.Prelude.{fold}
use Rattle.yard_model.specs.Script.{is_config}
use Rattle.script_text.specs.Settings.{with_setting, defaults}
use Rattle.script_text.specs.Words.{words}
use Rattle.script_text.proofs.settings.with_settings.Given as goal

abbrev pub invariant-loop-word : goal.invariant-loop-word
invariant-loop-word l = record {
  built : fold with_setting l.config (words l.rest) ≡ fold with_setting defaults (words l.line);
  valid : IsTrue (is_config l.config);
}

abbrev pub decreases-loop-word : goal.decreases-loop-word
decreases-loop-word l = length l.rest
