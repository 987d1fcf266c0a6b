-- What came is the whole input, or the most that is read.
use Rattle.std.proofs.Common.{◌≡◌, ◌<◌, ◌≤◌, ℕ, List, length, take, ap, ◌∙◌, refl, arith, inl, inr, length-take-le}
use Rattle.std.specs.Prelude.{true, false, nat_le, Option, Some, None, IfSome, ◌⊎◌, if◌then◌else◌}
use Rattle.std.proofs.lemmas.List.{take_all}
use Rattle.std.proofs.lemmas.Bool.Decides.{nat_tests}
use Rattle.std.specs.Str.Lines.{lines}
use Rattle.yard_model.specs.Script.{Script}
use Rattle.script_text.specs.declared.fault.Mode.{Mode}
use Rattle.script_text.specs.declared.fault.Why.TheVariants as why
use Rattle.script_text.specs.Reading.{Spelled, Refused, reading, lines_read, is_too_long}
use Rattle.yard_top.specs.Ends.{most_read}

taken_end : (xs bytes : List ℕ) → bytes ≡ take most_read xs → (bytes ≡ xs) ⊎ (length bytes ≡ most_read)
taken_end xs bytes e = elim (nat_le (length xs) most_read) as (λ v. nat_le (length xs) most_read ≡ v → (bytes ≡ xs) ⊎ (length bytes ≡ most_read)) [
  | true ↦ λ t. let h : length xs ≤ most_read = grind (arith, nat_tests) in inl (e ∙ take_all most_read xs h)
  | false ↦ λ t. let h : most_read ≤ length xs = grind (arith, nat_tests) in inr (ap length e ∙ length-take-le most_read xs h)
] refl

pub came_end : (had : Option (List ℕ)) (bytes : List ℕ) → IfSome had (λ xs. bytes ≡ take most_read xs) → IfSome had (λ xs. (bytes ≡ xs) ⊎ (length bytes ≡ most_read))
came_end None bytes e = tt
came_end (Some xs) bytes e = taken_end xs bytes e

-- what spells a script is not too long
spelled_fits : (m : Mode) (bytes : List ℕ) (c : Script) → reading m bytes ≡ Spelled c → length bytes < most_read
unfolding reading
spelled_fits m bytes c e = elim (is_too_long bytes) as (λ v. is_too_long bytes ≡ v → (if v then Refused 0 why.TooLong else lines_read m None 1 (lines bytes)) ≡ Spelled c → length bytes < most_read) [
  | true ↦ λ t bad. absurd (other bad)
  | false ↦ λ t ok. grind (arith, nat_tests)
] refl e
  where
    other : Refused 0 why.TooLong ≡ Spelled c → ⊥
    other bad = cc

pub all_came : (had : Option (List ℕ)) (m : Mode) (input : List ℕ) (c : Script) → reading m input ≡ Spelled c → IfSome had (λ xs. input ≡ take most_read xs) → IfSome had (λ xs. input ≡ xs)
all_came None m input c e h = tt
all_came (Some xs) m input c e h = whole (taken_end xs input h)
  where
    whole : (input ≡ xs) ⊎ (length input ≡ most_read) → input ≡ xs
    whole (inl same) = same
    whole (inr full) = let fits : length input < most_read = spelled_fits m input c e in absurd (omega arith)
