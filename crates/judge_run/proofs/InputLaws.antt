-- A script, a line `trace`, and a trace.
use Rattle.std.proofs.Common.{◌≡◌, ◌≤◌, ℕ, ◌+◌, ◌-◌, sym, subst, ap, ap₂, ◌∙◌, refl, arith, length-append, true≢false}
use Rattle.std.specs.Prelude.{Bool, true, false, not, ◌||◌, List, [], ◌∷◌, ◌++◌, length, take, codes, None, if◌then◌else◌}
use Rattle.std.specs.List.{list_all, list_any, position}
use Rattle.std.proofs.lemmas.List.{append-nil, append_assoc}
use Rattle.std.proofs.Math.Seq.{take-append_seam}
use Rattle.plain_laws.proofs.Booleans.{and_both, of_not, same_name}
use Rattle.verdict_laws.specs.Lines.{before_first, is_lf, lines_of}
use Rattle.verdict_laws.proofs.CutLaws.{Begins, begins, last_line}
use Rattle.judge_text.specs.Steps.{Cuts}
use Rattle.judge_run.specs.Input.{IsCut, IsUncut, before_it, behind_it, ends_line, has_trace, is_between, is_whole, joined, put_together, script_in, trace_in}

joined_before : (b : ℕ) (ls : List (List ℕ)) → joined (before_first b ls) ≡ b ∷ joined ls
joined_before b [] = refl
joined_before b (l ∷ ls) = refl

-- the lines are the text
pub joined_lines : (text : List ℕ) → joined (lines_of text) ≡ text
joined_lines [] = refl
joined_lines (b ∷ bs) = by (is_lf b) (joined_lines bs)
  where
    by : (t : Bool) → joined (lines_of bs) ≡ bs → joined (if t then (b ∷ []) ∷ lines_of bs else before_first b (lines_of bs)) ≡ b ∷ bs
    by true h = ap (λ r. b ∷ r) h
    by false h = joined_before b (lines_of bs) ∙ ap (λ r. b ∷ r) h

-- a line, and what is behind it
whole : (rest line behind : List ℕ) → Cuts rest line behind → rest ≡ line ++ behind
whole rest line behind k =
    sym (joined_lines rest) ∙ (ap (λ t. joined (lines_of t)) (sym (append-nil rest)) ∙ (ap joined (k.split []) ∙ ap (λ t. line ++ t) (joined_lines (behind ++ []) ∙ append-nil behind)))

-- the lines that were passed are none of a trace yet
pub record Passed (input rest : List ℕ) : Type 0 where
  pub passed : List ℕ
  pub input_is : input ≡ passed ++ rest
  pub script_is : (more : List ℕ) → script_in (input ++ more) ≡ passed ++ before_it (lines_of (rest ++ more))
  pub trace_is : (more : List ℕ) → trace_in (input ++ more) ≡ behind_it (lines_of (rest ++ more))
  pub there : (more : List ℕ) → has_trace (input ++ more) ≡ has_trace (rest ++ more)

pub none_passed : (input : List ℕ) → Passed input input
none_passed input = record { passed = []; input_is = refl; script_is = λ more. refl; trace_is = λ more. refl; there = λ more. refl }

pub one_passed : (input rest line behind : List ℕ) → Passed input rest → Cuts rest line behind → is_between line ≡ false → Passed input behind
one_passed input rest line behind p k other = record {
  passed = p.passed ++ line;
  input_is = p.input_is ∙ (ap (λ t. p.passed ++ t) (whole rest line behind k) ∙ sym (append_assoc p.passed line behind));
  script_is = λ more.
      p.script_is more
      ∙ (ap (λ ls. p.passed ++ before_it ls) (k.split more)
      ∙ (ap (λ b. p.passed ++ (if b then [] else line ++ before_it (lines_of (behind ++ more)))) other
      ∙ sym (append_assoc p.passed line (before_it (lines_of (behind ++ more))))));
  trace_is = λ more.
      p.trace_is more ∙ (ap behind_it (k.split more) ∙ ap (λ b. if b then joined (lines_of (behind ++ more)) else behind_it (lines_of (behind ++ more))) other);
  there = λ more. p.there more ∙ (ap (list_any is_between) (k.split more) ∙ ap (λ b. b || list_any is_between (lines_of (behind ++ more))) other);
}

pub shorter : (input rest : List ℕ) → Passed input rest → length rest ≤ length input
shorter input rest p = omega (arith, ap length p.input_is, length-append p.passed rest)

pub cut_here : (input rest line behind script : List ℕ) → Passed input rest → Cuts rest line behind → is_between line ≡ true → script ≡ take (length input - length rest) input → IsCut input script behind
cut_here input rest line behind script p k here is =
    let size : length input - length rest ≡ length p.passed = omega (arith, ap length p.input_is, length-append p.passed rest) in
    let it : script ≡ p.passed = is ∙ (ap₂ (λ n t. take n t) size p.input_is ∙ take-append_seam p.passed rest) in
    record {
      script_is = λ more.
          p.script_is more
          ∙ (ap (λ ls. p.passed ++ before_it ls) (k.split more)
          ∙ (ap (λ b. p.passed ++ (if b then [] else line ++ before_it (lines_of (behind ++ more)))) here
          ∙ (append-nil p.passed ∙ sym it)));
      trace_is = λ more.
          p.trace_is more
          ∙ (ap behind_it (k.split more)
          ∙ (ap (λ b. if b then joined (lines_of (behind ++ more)) else behind_it (lines_of (behind ++ more))) here ∙ joined_lines (behind ++ more)));
      there = λ more. p.there more ∙ (ap (list_any is_between) (k.split more) ∙ ap (λ b. b || list_any is_between (lines_of (behind ++ more))) here);
    }

-- bytes without LF are no such line
not_between : (rest : List ℕ) → position is_lf rest ≡ None → is_between rest ≡ false
not_between rest none = by (is_between rest) refl
  where
    lf : position is_lf (codes "trace\n") ≡ None → ⊥
    lf e = cc

    by : (b : Bool) → is_between rest ≡ b → b ≡ false
    by false e = refl
    by true e = absurd (lf (ap (position is_lf) (sym (same_name rest (codes "trace\n") e)) ∙ none))

open_script : (rest : List ℕ) → position is_lf rest ≡ None → before_it (lines_of rest) ≡ rest
open_script [] none = refl
open_script (b ∷ bs) none =
    ap before_it (last_line (b ∷ bs) none (omega arith)) ∙ (ap (λ t. if t then [] else (b ∷ bs) ++ []) (not_between (b ∷ bs) none) ∙ append-nil (b ∷ bs))

open_alone : (rest : List ℕ) → position is_lf rest ≡ None → has_trace rest ≡ false
open_alone [] none = refl
open_alone (b ∷ bs) none = ap (list_any is_between) (last_line (b ∷ bs) none (omega arith)) ∙ ap (λ t. t || false) (not_between (b ∷ bs) none)

open_longer : (rest more : List ℕ) → position is_lf rest ≡ None → length rest ≤ length (before_it (lines_of (rest ++ more))) + 6
open_longer [] more none = omega arith
open_longer (b ∷ bs) more none =
    let g : Begins (b ∷ bs) more = begins (b ∷ bs) more none (omega arith) in
    subst (λ ls. length (b ∷ bs) ≤ length (before_it ls) + 6) (sym g.split) (by g.line g.behind g.longer (is_between g.line) refl)
  where
    by : (l : List ℕ) (ls : List (List ℕ)) → length (b ∷ bs) ≤ length l → (t : Bool) → is_between l ≡ t → length (b ∷ bs) ≤ length (if t then [] else l ++ before_it ls) + 6
    by l ls h true e = let six : length l ≡ 6 = ap length (same_name l (codes "trace\n") e) in omega arith
    by l ls h false e = omega (arith, h, length-append l (before_it ls))

pub uncut : (input rest : List ℕ) → Passed input rest → position is_lf rest ≡ None → IsUncut input
uncut input rest p none = record {
  script_is =
      ap script_in (sym (append-nil input))
      ∙ (p.script_is [] ∙ (ap (λ t. p.passed ++ before_it (lines_of t)) (append-nil rest) ∙ (ap (λ t. p.passed ++ t) (open_script rest none) ∙ sym p.input_is)));
  none = ap has_trace (sym (append-nil input)) ∙ (p.there [] ∙ (ap has_trace (append-nil rest) ∙ open_alone rest none));
  longer = λ more.
      subst (λ t. length input ≤ length t + 6) (sym (p.script_is more))
      (omega (arith, ap length p.input_is, length-append p.passed rest, length-append p.passed (before_it (lines_of (rest ++ more))), open_longer rest more none));
}

-- Put together, and cut apart again.

record HasLine (ls : List (List ℕ)) : Type 0 where
  line : List ℕ
  behind : List (List ℕ)
  split : ls ≡ line ∷ behind

some_lines : (b : ℕ) (bs : List ℕ) → HasLine (lines_of (b ∷ bs))
some_lines b bs = by (is_lf b) (lines_of bs)
  where
    by : (t : Bool) (ls : List (List ℕ)) → HasLine (if t then (b ∷ []) ∷ ls else before_first b ls)
    by true ls = record { line = b ∷ []; behind = ls; split = refl }
    by false [] = record { line = b ∷ []; behind = []; split = refl }
    by false (l ∷ ls) = record { line = b ∷ l; behind = ls; split = refl }

-- behind whole lines
lines_joined : (xs more : List ℕ) → ends_line xs ≡ true → lines_of (xs ++ more) ≡ lines_of xs ++ lines_of more
lines_joined [] more h = refl
lines_joined (b ∷ []) more h = by (is_lf b) h
  where
    by : (t : Bool) → t ≡ true → (if t then (b ∷ []) ∷ lines_of more else before_first b (lines_of more)) ≡ (if t then (b ∷ []) ∷ [] else before_first b []) ++ lines_of more
    by true e = refl
    by false e = absurd (true≢false (sym e))
lines_joined (b ∷ d ∷ bs) more h = by (is_lf b) (lines_of ((d ∷ bs) ++ more)) (lines_of (d ∷ bs)) (lines_joined (d ∷ bs) more h) (some_lines d bs)
  where
    by : (t : Bool) (all first : List (List ℕ)) → all ≡ first ++ lines_of more → HasLine first → (if t then (b ∷ []) ∷ all else before_first b all) ≡ (if t then (b ∷ []) ∷ first else before_first b first) ++ lines_of more
    by true all first e s = ap (λ ls. (b ∷ []) ∷ ls) e
    by false all first e s = ap (before_first b) (e ∙ ap (λ ls. ls ++ lines_of more) s.split) ∙ ap (λ ls. before_first b ls ++ lines_of more) (sym s.split)

none_before : (ls ms : List (List ℕ)) → list_all (λ l. not (is_between l)) ls ≡ true → before_it (ls ++ ms) ≡ joined ls ++ before_it ms
none_before [] ms h = refl
none_before (l ∷ ls) ms h =
    let k = and_both (not (is_between l)) (list_all (λ l. not (is_between l)) ls) h in
    ap (λ b. if b then [] else l ++ before_it (ls ++ ms)) (of_not (is_between l) k.0) ∙ (ap (λ t. l ++ t) (none_before ls ms k.1) ∙ sym (append_assoc l (joined ls) (before_it ms)))

none_behind : (ls ms : List (List ℕ)) → list_all (λ l. not (is_between l)) ls ≡ true → behind_it (ls ++ ms) ≡ behind_it ms
none_behind [] ms h = refl
none_behind (l ∷ ls) ms h =
    let k = and_both (not (is_between l)) (list_all (λ l. not (is_between l)) ls) h in
    ap (λ b. if b then joined (ls ++ ms) else behind_it (ls ++ ms)) (of_not (is_between l) k.0) ∙ none_behind ls ms k.1

lines_together : (script trace : List ℕ) → is_whole script ≡ true → lines_of (put_together script trace) ≡ lines_of script ++ codes "trace\n" ∷ lines_of trace
lines_together script trace h = lines_joined script (codes "trace\n" ++ trace) (and_both (ends_line script) (list_all (λ l. not (is_between l)) (lines_of script)) h).0

pub script_apart : (script trace : List ℕ) → is_whole script ≡ true → script_in (put_together script trace) ≡ script
script_apart script trace h =
    ap before_it (lines_together script trace h)
    ∙ (none_before (lines_of script) (codes "trace\n" ∷ lines_of trace) (and_both (ends_line script) (list_all (λ l. not (is_between l)) (lines_of script)) h).1
    ∙ (append-nil (joined (lines_of script)) ∙ joined_lines script))

pub trace_apart : (script trace : List ℕ) → is_whole script ≡ true → trace_in (put_together script trace) ≡ trace
trace_apart script trace h =
    ap behind_it (lines_together script trace h)
    ∙ (none_behind (lines_of script) (codes "trace\n" ∷ lines_of trace) (and_both (ends_line script) (list_all (λ l. not (is_between l)) (lines_of script)) h).1
    ∙ joined_lines trace)

-- such a line is there
one_there : (ls ms : List (List ℕ)) → list_any is_between (ls ++ codes "trace\n" ∷ ms) ≡ true
one_there [] ms = refl
one_there (l ∷ ls) ms = by (is_between l) (one_there ls ms)
  where
    by : (b : Bool) → list_any is_between (ls ++ codes "trace\n" ∷ ms) ≡ true → (b || list_any is_between (ls ++ codes "trace\n" ∷ ms)) ≡ true
    by true e = refl
    by false e = e

pub there_together : (script trace : List ℕ) → is_whole script ≡ true → has_trace (put_together script trace) ≡ true
there_together script trace h = ap (list_any is_between) (lines_together script trace h) ∙ one_there (lines_of script) (lines_of trace)
