-- What a line comes to.
use Rattle.std.proofs.Common.{◌≡◌, ◌<◌, ℕ, sym, ap, ◌∙◌, refl, inl, inr, true≢false}
use Rattle.std.specs.Prelude.{Bool, true, false, is_none, List, [], ◌∷◌, ◌++◌, Option, Some, None, if◌then◌else◌}
use Rattle.plain_laws.proofs.Lists.{none_is_not_some}
use Rattle.yard_model.specs.declared.fact.Fact.{Fact}
use Rattle.yard_model.specs.Safe.{safe}
use Rattle.yard_model.specs.Script.{Script}
use Rattle.yard_model.specs.Text.{fact_line}
use Rattle.state_lines.specs.Told.{IsTold}
use Rattle.judge_laws.specs.declared.breach.Breach.{Breach}
use Rattle.judge_laws.specs.Breached.{breach_of}
use Rattle.judge_laws.specs.Broken.{IsUnbroken}
use Rattle.judge_laws.specs.Judged.{is_reshard}
use Rattle.judge_laws.proofs.BrokenLaws.{unbroken_is_exact}
use Rattle.verdict_laws.specs.declared.answer.Step.{Step}
use Rattle.verdict_laws.specs.declared.answer.Step.TheVariants as step
use Rattle.verdict_laws.specs.Lines.{is_long, is_quiet, read_line}
use Rattle.verdict_laws.specs.Meaning.{Breaks, IsLine, IsNoFact, IsPassed}
use Rattle.verdict_laws.specs.Verdict.{read_step, seen_step, step_of}
use Rattle.verdict_laws.proofs.LineLaws.{IsRead, line_read, read_is, told_loud}

-- a line that isn't too long, nor passed over
step_loud : (c : Script) (before : List Fact) (l : List ℕ) → is_long l ≡ false → is_quiet l ≡ false → step_of c before l ≡ read_step c before (read_line l)
step_loud c before l short loud =
    ap (λ b. if b then step.NoFact else (if is_quiet l then step.Quiet else read_step c before (read_line l))) short
    ∙ ap (λ b. if b then step.Quiet else read_step c before (read_line l)) loud

pub step_quiet : (c : Script) (before : List Fact) (l : List ℕ) → IsPassed l → step_of c before l ≡ step.Quiet
step_quiet c before l p =
    ap (λ b. if b then step.NoFact else (if is_quiet l then step.Quiet else read_step c before (read_line l))) p.short
    ∙ ap (λ b. if b then step.Quiet else read_step c before (read_line l)) p.quiet

-- of a fact that may be told
pub step_read : (c : Script) (before : List Fact) (l : List ℕ) (f : Fact) → IsTold f → IsLine l f → step_of c before l ≡ seen_step f (breach_of c before f)
step_read c before l f k i =
    step_loud c before l i.short (ap is_quiet i.line ∙ told_loud f k) ∙ ap (read_step c before) (ap read_line i.line ∙ line_read f k)

-- What a line came to says what the line is.

pub record Hears (c : Script) (before : List Fact) (l : List ℕ) (f : Fact) : Type 0 where
  pub told : IsTold f
  pub line_is : IsLine l f
  pub passes : breach_of c before f ≡ None

abbrev pub Came : Script → List Fact → List ℕ → Step → Type 0
Came c before l step.Quiet = IsPassed l
Came c before l (step.Heard f) = Hears c before l f
Came c before l (step.Broken why) = Breaks c before l why
Came c before l step.NoFact = IsNoFact l

-- a fact that was read
came_seen : (c : Script) (before : List Fact) (l : List ℕ) (f : Fact) → 0 < c.config.shards → IsUnbroken c before → IsTold f → IsLine l f → Came c before l (seen_step f (breach_of c before f))
came_seen c before l f k u t i = by (breach_of c before f) refl
  where
    by : (o : Option Breach) → breach_of c before f ≡ o → Came c before l (seen_step f o)
    by None h = record { told = t; line_is = i; passes = h }
    by (Some why) h = record { it = f; told = t; line_is = i; why_is = h; with_it = λ r. (unbroken_is_exact c before f k u).with_it r ∙ ap is_none h }

-- no fact may be told that isn't read
not_read : (l : List ℕ) (f : Fact) → read_line l ≡ None → IsTold f → l ≡ fact_line f → ⊥
not_read l f r k is = none_is_not_some f (sym r ∙ (ap read_line is ∙ line_read f k))

pub came : (c : Script) (before : List Fact) (l : List ℕ) → 0 < c.config.shards → IsUnbroken c before → Came c before l (step_of c before l)
came c before l k u = by_long (is_long l) refl
  where
    by_read : is_long l ≡ false → is_quiet l ≡ false → (o : Option Fact) → read_line l ≡ o → Came c before l (read_step c before o)
    by_read short loud None r = inr (record { loud = loud; no_fact = λ f t is. not_read l f r t is })
    by_read short loud (Some f) r = let i : IsRead l f = read_is l f r in came_seen c before l f k u i.told (record { line = i.line; short = short })

    by_quiet : is_long l ≡ false → (b : Bool) → is_quiet l ≡ b → Came c before l (if b then step.Quiet else read_step c before (read_line l))
    by_quiet short true q = record { quiet = q; short = short }
    by_quiet short false q = by_read short q (read_line l) refl

    by_long : (b : Bool) → is_long l ≡ b → Came c before l (if b then step.NoFact else (if is_quiet l then step.Quiet else read_step c before (read_line l)))
    by_long true e = inl e
    by_long false e = by_quiet e (is_quiet l) refl

-- A fact with which the trace isn't safe is a breach.

pub record Breaking (c : Script) (before : List Fact) (f : Fact) : Type 0 where
  pub why : Breach
  pub why_is : breach_of c before f ≡ Some why

pub unsafe_breaks : (c : Script) (before : List Fact) (f : Fact) → 0 < c.config.shards → IsUnbroken c before → is_reshard f ≡ false → safe c (before ++ f ∷ []) ≡ false → Breaking c before f
unsafe_breaks c before f k u plain unsafe = by (breach_of c before f) refl (sym ((unbroken_is_exact c before f k u).with_it plain) ∙ unsafe)
  where
    by : (o : Option Breach) → breach_of c before f ≡ o → is_none o ≡ false → Breaking c before f
    by None h e = absurd (true≢false e)
    by (Some why) h e = record { why = why; why_is = h }

-- A line that is of no fact.

pub step_unread : (c : Script) (before : List Fact) (l : List ℕ) → IsNoFact l → step_of c before l ≡ step.NoFact
step_unread c before l (inl long) = ap (λ b. if b then step.NoFact else (if is_quiet l then step.Quiet else read_step c before (read_line l))) long
step_unread c before l (inr o) = by_long (is_long l) refl
  where
    by_read : (r : Option Fact) → read_line l ≡ r → read_step c before r ≡ step.NoFact
    by_read None e = refl
    by_read (Some f) e = let i : IsRead l f = read_is l f e in absurd (o.no_fact f i.told i.line)

    by_long : (b : Bool) → is_long l ≡ b → (if b then step.NoFact else (if is_quiet l then step.Quiet else read_step c before (read_line l))) ≡ step.NoFact
    by_long true e = refl
    by_long false e = ap (λ b. if b then step.Quiet else read_step c before (read_line l)) o.loud ∙ by_read (read_line l) refl
