-- What a line came to, counted and answered.
use Rattle.std.specs.Prelude.{ℕ, List, None, Option, Some}
use Rattle.verdict_laws.specs.declared.answer.Answer.{Answer}
use Rattle.verdict_laws.specs.declared.answer.Answer.TheVariants as answer
use Rattle.verdict_laws.specs.declared.answer.Counts.{Counts}
use Rattle.verdict_laws.specs.declared.answer.Step.{Step}
use Rattle.verdict_laws.specs.declared.answer.Step.TheVariants as step
use Rattle.verdict_laws.specs.Lines.{shown}
use Rattle.verdict_laws.specs.Verdict.{counted}

abbrev pub counted_by : Counts → Step → Counts
counted_by n (step.Heard f) = counted n f
counted_by n s = n

abbrev pub stops_at : ℕ → List ℕ → Step → Option Answer
stops_at n l step.Quiet = None
stops_at n l (step.Heard f) = None
stops_at n l (step.Broken why) = Some (answer.Broken n why (shown l))
stops_at n l step.NoFact = Some (answer.NoFact n (shown l))
