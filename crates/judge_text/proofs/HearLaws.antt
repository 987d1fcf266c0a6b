-- Lines that were heard.
use Rattle.std.proofs.Common.{◌≡◌, ◌<◌, ◌≤◌, ℕ, ◌+◌, ◌-◌, sym, subst, ap, ap₂, ◌∙◌, refl, arith, length-drop}
use Rattle.std.specs.Prelude.{Bool, true, false, List, [], ◌∷◌, ◌++◌, length, take, drop, codes, Option, Some, None, if◌then◌else◌}
use Rattle.std.specs.List.{position}
use Rattle.std.proofs.lemmas.List.{take-append-le}
use Rattle.plain_laws.proofs.Booleans.{is_below, same_name}
use Rattle.trace_judge.specs.Judging.{Judged}
use Rattle.verdict_laws.specs.declared.answer.Answer.{Answer}
use Rattle.verdict_laws.specs.declared.answer.Answer.TheVariants as answer
use Rattle.verdict_laws.specs.declared.answer.Step.{Step}
use Rattle.verdict_laws.specs.declared.answer.Step.TheVariants as step
use Rattle.verdict_laws.specs.Lines.{is_end, is_lf, is_quiet, lines_of, most_of_line, most_shown, read_line, shown, up_to}
use Rattle.verdict_laws.specs.Verdict.{answered, counts_of, judged_from, next, read_step, step_of}
use Rattle.verdict_laws.proofs.CutLaws.{Begins, begins, cut_at, last_line, rest_is}
use Rattle.verdict_laws.proofs.MeaningLaws.{goes_on}
use Rattle.judge_counts.specs.Counted.{stops_at}
use Rattle.judge_text.specs.Hears.{HearsLine, Told, answer_of, answer_to}
use Rattle.judge_text.specs.Steps.{Cuts, Goes, went}

-- a line in the code's words
pub cuts_at : (bytes : List ℕ) (end : ℕ) → Some end ≡ position is_lf bytes → end < length bytes → Cuts bytes (take (end + 1) bytes) (take (length bytes - (end + 1)) (drop (end + 1) bytes))
cuts_at bytes end is within = record {
  split = λ more. cut_at bytes more end (sym is) ∙ ap (λ r. take (end + 1) bytes ∷ lines_of (r ++ more)) (sym (rest_is bytes (end + 1)));
  shorter = omega (arith, ap length (rest_is bytes (end + 1)), length-drop (end + 1) bytes);
}

-- the line that ends a trace
pub ended_line : (h : Told) (line : List ℕ) (ls : List (List ℕ)) → is_end line ≡ true → answer_to h (line ∷ ls) ≡ answer_to h []
ended_line h line ls e =
    ap (λ b. if b then answer.Safe (counts_of h.trace) else answered (step_of h.script h.trace line) (next h.lines) line (judged_from h.script h.trace (next h.lines) ls) (λ f. judged_from h.script (h.trace ++ f ∷ []) (next h.lines) ls)) e

pub ended_so : (h : Told) (line : List ℕ) (a : Answer) → is_end line ≡ true → a ≡ answer_to h [] → HearsLine h line (Some a) h
ended_so h line a e is = λ ls. ended_line h line ls e ∙ sym is

-- any other line
heard_by : (old new : Judged) (n m : ℕ) (line : List ℕ) (s : Step) → is_end line ≡ false → step_of old.script old.trace line ≡ s → new ≡ went old s → m ≡ next n
    → HearsLine (record { script = old.script; trace = old.trace; lines = n }) line (stops_at m line s) (record { script = new.script; trace = new.trace; lines = m })
heard_by old new n m line step.Quiet e is j k = λ ls.
    goes_on old.script old.trace n line ls step.Quiet e is
    ∙ (ap (λ i. judged_from old.script old.trace i ls) (sym k) ∙ ap (λ (x : Judged). judged_from x.script x.trace m ls) (sym j))
heard_by old new n m line (step.Heard f) e is j k = λ ls.
    goes_on old.script old.trace n line ls (step.Heard f) e is
    ∙ (ap (λ i. judged_from old.script (old.trace ++ f ∷ []) i ls) (sym k) ∙ ap (λ (x : Judged). judged_from x.script x.trace m ls) (sym j))
heard_by old new n m line (step.Broken why) e is j k = λ ls. goes_on old.script old.trace n line ls (step.Broken why) e is ∙ ap (λ i. answer.Broken i why (shown line)) (sym k)
heard_by old new n m line step.NoFact e is j k = λ ls. goes_on old.script old.trace n line ls step.NoFact e is ∙ ap (λ i. answer.NoFact i (shown line)) (sym k)

pub heard_line : (old new : Judged) (n m : ℕ) (line : List ℕ) (s : Step) (o : Option Answer) → is_end line ≡ false → Goes old (step_of old.script old.trace line) s new → m ≡ next n → o ≡ stops_at m line s
    → HearsLine (record { script = old.script; trace = old.trace; lines = n }) line o (record { script = new.script; trace = new.trace; lines = m })
heard_line old new n m line s o e g k is =
    subst (λ t. HearsLine (record { script = old.script; trace = old.trace; lines = n }) line t (record { script = new.script; trace = new.trace; lines = m })) (sym is) (heard_by old new n m line s e (sym g.step_is) g.judge_is k)

-- One after the other.

-- whatever comes behind these bytes, it goes on so behind those
abbrev pub GoesSo : Told → List ℕ → Told → List ℕ → Type 0
GoesSo old bytes new rest = (more : List ℕ) → answer_of old (bytes ++ more) ≡ answer_of new (rest ++ more)

pub so_on : (old now new : Told) (bytes rest line behind : List ℕ) → GoesSo old bytes now rest → Cuts rest line behind → HearsLine now line None new → GoesSo old bytes new behind
so_on old now new bytes rest line behind g k h = λ more. g more ∙ (ap (answer_to now) (k.split more) ∙ h (lines_of (behind ++ more)))

pub so_ends : (old now new : Told) (bytes rest line behind : List ℕ) (a : Answer) → GoesSo old bytes now rest → Cuts rest line behind → HearsLine now line (Some a) new → (more : List ℕ) → answer_of old (bytes ++ more) ≡ a
so_ends old now new bytes rest line behind a g k h = λ more. g more ∙ (ap (answer_to now) (k.split more) ∙ h (lines_of (behind ++ more)))

-- A line that is too long.

not_end : (l : List ℕ) → most_of_line < length l → is_end l ≡ false
not_end l h = by (is_end l) refl
  where
    by : (b : Bool) → is_end l ≡ b → b ≡ false
    by false e = refl
    by true e = absurd (omega (arith, ap length (same_name l (codes "report\n") e)))

long_line : (h : Told) (l : List ℕ) (ls : List (List ℕ)) → most_of_line < length l → answer_to h (l ∷ ls) ≡ answer.NoFact (next h.lines) (shown l)
long_line h l ls k =
    goes_on h.script h.trace h.lines l ls step.NoFact (not_end l k)
    (ap (λ b. if b then step.NoFact else (if is_quiet l then step.Quiet else read_step h.script h.trace (read_line l))) (is_below most_of_line (length l) k))

-- what is shown of it is shown of its first bytes
same_shown : (xs line rest : List ℕ) → line ≡ xs ++ rest → most_shown ≤ length xs → shown line ≡ shown xs
same_shown xs line rest is h = ap (up_to is_lf) (ap (take most_shown) is ∙ take-append-le most_shown xs rest h)

pub too_long : (old now : Told) (bytes rest : List ℕ) (n : ℕ) (q : List ℕ) → GoesSo old bytes now rest → position is_lf rest ≡ None → most_of_line < length rest → n ≡ next now.lines → q ≡ shown rest → (more : List ℕ) → answer_of old (bytes ++ more) ≡ answer.NoFact n q
too_long old now bytes rest n q g none long is shows = λ more.
    let b : Begins rest more = begins rest more none (omega arith) in
    g more ∙ (ap (answer_to now) b.split ∙ (long_line now b.line b.behind (omega (arith, b.longer)) ∙ ap₂ answer.NoFact (sym is) (same_shown rest b.line b.rest b.line_is (omega arith) ∙ sym shows)))

-- The last bytes.

pub last_heard : (old new : Told) (rest : List ℕ) (a : Answer) → position is_lf rest ≡ None → 0 < length rest → HearsLine old rest (Some a) new → answer_of old rest ≡ a
last_heard old new rest a none some h = ap (answer_to old) (last_line rest none some) ∙ h []

pub last_passed : (old new : Told) (rest : List ℕ) (a : Answer) → position is_lf rest ≡ None → 0 < length rest → HearsLine old rest None new → a ≡ answer_to new [] → answer_of old rest ≡ a
last_passed old new rest a none some h is = ap (answer_to old) (last_line rest none some) ∙ (h [] ∙ sym is)
