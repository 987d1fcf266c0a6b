-- What was heard of a trace's text.
use Rattle.std.specs.Prelude.{◌≡◌, ℕ, None, List, ◌∷◌, ◌++◌, Option, Some}
use Rattle.std.specs.List.{position}
use Rattle.yard_model.specs.declared.fact.Fact.{Fact}
use Rattle.yard_model.specs.Script.{Script}
use Rattle.verdict_laws.specs.declared.answer.Answer.{Answer}
use Rattle.verdict_laws.specs.Lines.{is_lf, lines_of}
use Rattle.verdict_laws.specs.Verdict.{judged_from}
use Rattle.judge_text.specs.declared.hearing.Heard.{Heard}
use Rattle.judge_text.specs.declared.hearing.Heard.TheVariants as heard

-- the script, the facts so far, and how many lines told them
pub record Told : Type 0 where
  pub script : Script
  pub trace : List Fact
  pub lines : ℕ

-- what is answered of the lines to come
abbrev pub answer_to : Told → List (List ℕ) → Answer
answer_to h ls = judged_from h.script h.trace h.lines ls

-- of the bytes to come
abbrev pub answer_of : Told → List ℕ → Answer
answer_of h bytes = answer_to h (lines_of bytes)

-- one line more: an answer, whatever comes, or what is answered of the lines behind it
abbrev pub HearsLine : Told → List ℕ → Option Answer → Told → Type 0
HearsLine old line (Some a) new = (ls : List (List ℕ)) → answer_to old (line ∷ ls) ≡ a
HearsLine old line None new = (ls : List (List ℕ)) → answer_to old (line ∷ ls) ≡ answer_to new ls

-- no line is left, and whatever comes behind these bytes, it goes on so
pub record IsLeft (old : Told) (bytes rest : List ℕ) (new : Told) : Type 0 where
  pub goes_on : (more : List ℕ) → answer_of old (bytes ++ more) ≡ answer_of new (rest ++ more)
  pub no_line : position is_lf rest ≡ None

-- bytes more
abbrev pub HearsAll : Told → List ℕ → Heard → Told → Type 0
HearsAll old bytes (heard.Answered a) new = (more : List ℕ) → answer_of old (bytes ++ more) ≡ a
HearsAll old bytes (heard.Left rest) new = IsLeft old bytes rest.items new
