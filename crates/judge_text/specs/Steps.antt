-- One line more.
use Rattle.std.specs.Prelude.{◌≡◌, ◌<◌, List, ℕ, [], ◌∷◌, ◌++◌, length}
use Rattle.trace_judge.specs.Judging.{Judged}
use Rattle.verdict_laws.specs.declared.answer.Step.{Step}
use Rattle.verdict_laws.specs.declared.answer.Step.TheVariants as step
use Rattle.verdict_laws.specs.Lines.{lines_of}

-- the first line, and what is behind it
pub record Cuts (bytes line rest : List ℕ) : Type 0 where
  pub split : (more : List ℕ) → lines_of (bytes ++ more) ≡ line ∷ lines_of (rest ++ more)
  pub shorter : length rest < length bytes

-- where a fact is heard, it is one more
abbrev pub went : Judged → Step → Judged
went old (step.Heard f) = record { script = old.script; trace = old.trace ++ f ∷ [] }
went old s = old

-- the line came to what it was to come to
pub record Goes (old : Judged) (wanted came : Step) (new : Judged) : Type 0 where
  pub step_is : came ≡ wanted
  pub judge_is : new ≡ went old came
