use Rattle.std.proofs.Common.{◌≡◌, length}
use Rattle.script_text.specs.Settings.{is_twice}
use Rattle.script_text.specs.Words.{words}
use Rattle.script_text.proofs.settings.is_twice.Given as goal

abbrev pub invariant-loop-word : goal.invariant-loop-word
invariant-loop-word l = is_twice (words l.rest) ≡ is_twice (words l.line)

abbrev pub decreases-loop-word : goal.decreases-loop-word
decreases-loop-word l = length l.rest
