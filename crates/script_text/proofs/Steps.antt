-- Reading line by line.
use Rattle.std.proofs.Common.{◌≡◌, ℕ, ◌+◌, ◌≤◌, ◌<◌, true, false, List, [], ◌∷◌, length, refl, ap, ◌∙◌, arith}
use Rattle.std.specs.Prelude.{Option, None, Ok, nat_lt}
use Rattle.std.specs.Str.Lines.{lines}
use Rattle.std.proofs.lemmas.Bool.Decides.{nat_tests}
use Rattle.yard_model.specs.Script.{Script}
use Rattle.script_text.specs.declared.fault.Mode.{Mode}
use Rattle.script_text.specs.declared.fault.Stop.{Stop}
use Rattle.script_text.specs.declared.fault.Stop.TheVariants as stop
use Rattle.script_text.specs.declared.fault.Why.TheVariants as why
use Rattle.script_text.specs.Faults.{Stops}
use Rattle.script_text.specs.Reading.{Reading, Refused, reading, lines_read, line_read, going_on, ended, TellsFault, stopped_at}

pub reading_long : (m : Mode) (bytes : List ℕ) → 4194304 < length bytes → reading m bytes ≡ Refused 0 why.TooLong
unfolding reading
reading_long m bytes h = let long : nat_lt 4194304 (length bytes) ≡ true = grind (arith, nat_tests) in rw long refl

pub reading_short : (m : Mode) (bytes : List ℕ) → length bytes ≤ 4194304 → reading m bytes ≡ lines_read m None 1 (lines bytes)
unfolding reading
reading_short m bytes h = let short : nat_lt 4194304 (length bytes) ≡ false = grind (arith, nat_tests) in rw short refl

-- past a line that is taken
pub lines_more : (m : Mode) (so longer : Option Script) (n : ℕ) (line bytes more : List ℕ) → lines bytes ≡ line ∷ lines more → line_read m so n line ≡ Ok longer
    → lines_read m so n (lines bytes) ≡ lines_read m longer (n + 1) (lines more)
lines_more m so longer n line bytes more e r = ap (lines_read m so n) e ∙ ap (λ x. going_on n x (λ s. lines_read m s (n + 1) (lines more))) r

-- at a line that stops it
pub lines_stop : (m : Mode) (so : Option Script) (n : ℕ) (line bytes more : List ℕ) (r : Reading) (s : Stop) → lines bytes ≡ line ∷ lines more → Stops s (line_read m so n line)
    → r ≡ lines_read m so n (lines bytes) → TellsFault (stopped_at n s) r
lines_stop m so n line bytes more r (stop.Refused w) e d t = t ∙ (ap (lines_read m so n) e ∙ ap (λ x. going_on n x (λ s. lines_read m s (n + 1) (lines more))) d)
lines_stop m so n line bytes more r stop.OutOfMemory e d t = tt

-- after the last line
pub lines_end : (m : Mode) (so : Option Script) (n : ℕ) (bytes : List ℕ) → lines bytes ≡ [] → lines_read m so n (lines bytes) ≡ ended so
lines_end m so n bytes e = ap (lines_read m so n) e
