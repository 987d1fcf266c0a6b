-- What is answered of a trace's text.
use Rattle.std.specs.Prelude.{ℕ, ◌+◌, min, Bool, true, false, List, [], ◌∷◌, ◌++◌, fold, Option, Some, None, if◌then◌else◌}
use Rattle.yard_model.specs.declared.fact.Fact.{Fact}
use Rattle.yard_model.specs.declared.fact.Fact.TheVariants as fact
use Rattle.yard_model.specs.Script.{Script}
use Rattle.judge_laws.specs.declared.breach.Breach.{Breach}
use Rattle.judge_laws.specs.Breached.{breach_of}
use Rattle.verdict_laws.specs.declared.answer.Answer.{Answer}
use Rattle.verdict_laws.specs.declared.answer.Answer.TheVariants as answer
use Rattle.verdict_laws.specs.declared.answer.Counts.{Counts}
use Rattle.verdict_laws.specs.declared.answer.Step.{Step}
use Rattle.verdict_laws.specs.declared.answer.Step.TheVariants as step
use Rattle.verdict_laws.specs.Lines.{is_end, is_long, is_quiet, lines_of, read_line, shown}

-- the greatest count
abbrev pub most : ℕ
most = 18446744073709551615

-- one more
abbrev pub next : ℕ → ℕ
next n = min (n + 1) most

-- One line.

abbrev pub seen_step : Fact → Option Breach → Step
seen_step f None = step.Heard f
seen_step f (Some why) = step.Broken why

abbrev pub read_step : Script → List Fact → Option Fact → Step
read_step c before None = step.NoFact
read_step c before (Some f) = seen_step f (breach_of c before f)

-- what a line comes to behind these facts
abbrev pub step_of : Script → List Fact → List ℕ → Step
step_of c before l = if is_long l then step.NoFact else (if is_quiet l then step.Quiet else read_step c before (read_line l))

-- Counts.

abbrev pub is_record : Fact → Bool
is_record (fact.Wrote e r) = true
is_record f = false

abbrev pub is_entry : Fact → Bool
is_entry (fact.Granted s n x) = true
is_entry (fact.Freed s n why) = true
is_entry (fact.Registered x) = true
is_entry (fact.Terminated x) = true
is_entry (fact.Allocated s x) = true
is_entry (fact.Deallocated s) = true
is_entry (fact.Wrote e r) = true
is_entry (fact.Snapshot e m) = true
is_entry (fact.Remembered e) = true
is_entry (fact.Forgotten e) = true
is_entry (fact.Queued p e n k) = true
is_entry (fact.Confirmed p e n) = true
is_entry f = false

abbrev pub no_counts : Counts
no_counts = record { facts = 0; entries = 0; records = 0 }

abbrev pub counted : Counts → Fact → Counts
counted n f = record {
  facts = next n.facts;
  entries = if is_entry f then next n.entries else n.entries;
  records = if is_record f then next n.records else n.records;
}

-- how many facts, entries and records there are
abbrev pub counts_of : List Fact → Counts
counts_of trace = fold counted no_counts trace

-- All lines.

-- by what a line, of this number, came to: what is answered where it is passed over, and where it tells a fact
abbrev pub answered : Step → ℕ → List ℕ → Answer → (Fact → Answer) → Answer
answered step.Quiet n l quiet heard = quiet
answered (step.Heard f) n l quiet heard = heard f
answered (step.Broken why) n l quiet heard = answer.Broken n why (shown l)
answered step.NoFact n l quiet heard = answer.NoFact n (shown l)

-- what is answered of these lines, behind these facts and so many lines
abbrev pub judged_from : Script → List Fact → ℕ → List (List ℕ) → Answer
judged_from c before n [] = answer.Safe (counts_of before)
judged_from c before n (l ∷ ls) =
    if is_end l then answer.Safe (counts_of before)
    else answered (step_of c before l) (next n) l (judged_from c before (next n) ls) (λ f. judged_from c (before ++ f ∷ []) (next n) ls)

abbrev pub verdict : Script → List ℕ → Answer
verdict c text = judged_from c [] 0 (lines_of text)
