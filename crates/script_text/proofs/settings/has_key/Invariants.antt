use Rattle.std.proofs.Common.{◌≡◌, length}
use Rattle.std.specs.List.{list_any}
use Rattle.script_text.specs.Settings.{has_key}
use Rattle.script_text.specs.Words.{words}
use Rattle.script_text.proofs.settings.has_key.Given as goal

abbrev pub invariant-loop-word : goal.invariant-loop-word
invariant-loop-word l = list_any (has_key l.key) (words l.rest) ≡ list_any (has_key l.key) (words l.line)

abbrev pub decreases-loop-word : goal.decreases-loop-word
decreases-loop-word l = length l.rest
