-- What an answer says, and which texts are answered so.
use Rattle.std.specs.Prelude.{◌≡◌, ℕ, ◌+◌, ◌<◌, ◌⊎◌, min, true, false, List, [], ◌∷◌, ◌++◌, length, Some}
use Rattle.yard_model.specs.declared.fact.Fact.{Fact}
use Rattle.yard_model.specs.Safe.{safe}
use Rattle.yard_model.specs.Script.{Script}
use Rattle.yard_model.specs.Text.{fact_line}
use Rattle.state_lines.specs.Told.{AreTold, IsTold}
use Rattle.judge_laws.specs.declared.breach.Breach.{Breach}
use Rattle.judge_laws.specs.Breached.{breach_of}
use Rattle.judge_laws.specs.Judged.{is_plain, is_reshard}
use Rattle.verdict_laws.specs.declared.answer.Answer.{Answer}
use Rattle.verdict_laws.specs.declared.answer.Answer.TheVariants as answer
use Rattle.verdict_laws.specs.declared.answer.Counts.{Counts}
use Rattle.verdict_laws.specs.Lines.{is_end, is_long, is_quiet, lines_of, shown}
use Rattle.verdict_laws.specs.Verdict.{counts_of, most, verdict}

-- the line of a fact
pub record IsLine (l : List ℕ) (f : Fact) : Type 0 where
  pub line : l ≡ fact_line f
  pub short : is_long l ≡ false

-- a line that is passed over
pub record IsPassed (l : List ℕ) : Type 0 where
  pub quiet : is_quiet l ≡ true
  pub short : is_long l ≡ false

-- these lines tell these facts: a fact a line, but for lines that are passed over
abbrev pub Tell : List (List ℕ) → List Fact → Type 0
Tell [] fs = fs ≡ []
Tell (l ∷ ls) fs = (IsPassed l × Tell ls fs) ⊎ ((f : Fact) × (gs : List Fact) × (fs ≡ f ∷ gs) × IsLine l f × Tell ls gs)

-- no line is left, or the one that ends a trace is next
abbrev pub IsEnded : List (List ℕ) → Type 0
IsEnded [] = Unit {0}
IsEnded (l ∷ ls) = is_end l ≡ true

-- a text tells this trace: its lines do, all or those before the one that ends it
pub record Tells (text : List ℕ) (trace : List Fact) : Type 0 where
  pub lines : List (List ℕ)
  pub behind : List (List ℕ)
  pub split : lines_of text ≡ lines ++ behind
  pub tell : Tell lines trace
  pub ended : IsEnded behind

-- its first lines tell this trace, and this line is the next, of this number from 1
pub record TellsUpTo (text : List ℕ) (trace : List Fact) (n : ℕ) (line : List ℕ) : Type 0 where
  pub lines : List (List ℕ)
  pub behind : List (List ℕ)
  pub split : lines_of text ≡ lines ++ line ∷ behind
  pub tell : Tell lines trace
  pub number : n ≡ min (length lines + 1) most
  pub goes_on : is_end line ≡ false

-- What an answer says.

-- a safe trace of facts that are read, in one number of shards
pub record HasTrace (c : Script) (trace : List Fact) : Type 0 where
  pub told : AreTold trace
  pub plain : is_plain trace ≡ true
  pub is_safe : safe c trace ≡ true

-- a line that is neither that of a fact that is read nor passed over
pub record IsOther (line : List ℕ) : Type 0 where
  pub loud : is_quiet line ≡ false
  pub no_fact : (f : Fact) → IsTold f → line ≡ fact_line f → ⊥

-- a line of no fact: such a one, or one that is too long
abbrev pub IsNoFact : List ℕ → Type 0
IsNoFact line = (is_long line ≡ true) ⊎ IsOther line

-- a line of a fact for which the trace isn't safe any more, or which isn't judged; and this is the first test that fails
pub record Breaks (c : Script) (trace : List Fact) (line : List ℕ) (why : Breach) : Type 0 where
  pub it : Fact
  pub told : IsTold it
  pub line_is : IsLine line it
  pub why_is : breach_of c trace it ≡ Some why
  pub with_it : is_reshard it ≡ false → safe c (trace ++ it ∷ []) ≡ false

-- the text tells a safe trace, of which these are the counts
pub record IsSafe (c : Script) (text : List ℕ) (n : Counts) : Type 0 where
  pub trace : List Fact
  pub tells : Tells text trace
  pub has : HasTrace c trace
  pub counts : n ≡ counts_of trace

-- its first lines tell a safe trace, which the next line breaks; so much is shown of that line
pub record IsBroken (c : Script) (text : List ℕ) (n : ℕ) (why : Breach) (q : List ℕ) : Type 0 where
  pub trace : List Fact
  pub line : List ℕ
  pub tells : TellsUpTo text trace n line
  pub has : HasTrace c trace
  pub breaks : Breaks c trace line why
  pub shows : q ≡ shown line

-- its first lines tell a safe trace, and the next line is of no fact; so much is shown of it
pub record IsUnread (c : Script) (text : List ℕ) (n : ℕ) (q : List ℕ) : Type 0 where
  pub trace : List Fact
  pub line : List ℕ
  pub tells : TellsUpTo text trace n line
  pub has : HasTrace c trace
  pub no_fact : IsNoFact line
  pub shows : q ≡ shown line

abbrev pub Means : Script → List ℕ → Answer → Type 0
Means c text (answer.Safe n) = IsSafe c text n
Means c text (answer.Broken n why q) = IsBroken c text n why q
Means c text (answer.NoFact n q) = IsUnread c text n q

-- each text is answered by what is so of it
abbrev pub VerdictMeans : Type 0
VerdictMeans = (c : Script) (text : List ℕ) → 0 < c.config.shards → Means c text (verdict c text)

-- and what is so of it is what it is answered by
abbrev pub MeantIsAnswered : Type 0
MeantIsAnswered = (c : Script) (text : List ℕ) (a : Answer) → 0 < c.config.shards → Means c text a → verdict c text ≡ a

-- The same by kinds of answers, for those who have a trace.

abbrev pub SafeIsAnswered : Type 0
SafeIsAnswered = (c : Script) (text : List ℕ) (trace : List Fact) → 0 < c.config.shards → HasTrace c trace → Tells text trace → verdict c text ≡ answer.Safe (counts_of trace)

-- the next line is of a fact with which the trace isn't safe
pub record IsUnsafe (c : Script) (trace : List Fact) (line : List ℕ) : Type 0 where
  pub it : Fact
  pub told : IsTold it
  pub line_is : IsLine line it
  pub plain : is_reshard it ≡ false
  pub with_it : safe c (trace ++ it ∷ []) ≡ false

-- it is answered by its line, and by the first test that this fact fails
pub record IsAnsweredBroken (c : Script) (text : List ℕ) (trace : List Fact) (it : Fact) (n : ℕ) (line : List ℕ) : Type 0 where
  pub why : Breach
  pub why_is : breach_of c trace it ≡ Some why
  pub answer_is : verdict c text ≡ answer.Broken n why (shown line)

abbrev pub BrokenIsAnswered : Type 0
BrokenIsAnswered = (c : Script) (text : List ℕ) (trace : List Fact) (n : ℕ) (line : List ℕ) → 0 < c.config.shards → HasTrace c trace → TellsUpTo text trace n line → (u : IsUnsafe c trace line) → IsAnsweredBroken c text trace u.it n line

abbrev pub UnreadIsAnswered : Type 0
UnreadIsAnswered = (c : Script) (text : List ℕ) (trace : List Fact) (n : ℕ) (line : List ℕ) → 0 < c.config.shards → HasTrace c trace → TellsUpTo text trace n line → IsNoFact line → verdict c text ≡ answer.NoFact n (shown line)
