use Rattle.std.proofs.Common.{◌≡◌, length}
use Rattle.std.specs.List.{list_any}
use Rattle.script_text.specs.Settings.{is_reason, setting_of}
use Rattle.script_text.specs.Words.{words}
use Rattle.script_text.proofs.settings.is_any_refused.Given as goal

abbrev pub invariant-loop-word : goal.invariant-loop-word
invariant-loop-word l = list_any (λ w. is_reason l.why (setting_of w)) (words l.rest) ≡ list_any (λ w. is_reason l.why (setting_of w)) (words l.line)

abbrev pub decreases-loop-word : goal.decreases-loop-word
decreases-loop-word l = length l.rest
