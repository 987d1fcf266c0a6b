-- Cutting bytes into lines, and the first word of a line.
use Rattle.std.proofs.Common.{◌≡◌, ℕ, suc, ◌+◌, ◌-◌, ◌<◌, ◌≤◌, Bool, true, false, not, List, [], ◌∷◌, ◌++◌, length, take, drop, refl, sym, ap, ◌∙◌, arith}
use Rattle.std.specs.Prelude.{Some, None, cond, nat_lt, ◌==◌, if◌then◌else◌}
use Rattle.std.specs.List.{position, position_or_len}
use Rattle.std.proofs.lemmas.List.{take_all, length-drop}
use Rattle.std.proofs.lemmas.Bool.Decides.{nat_tests}
use Rattle.verdict_laws.specs.Lines.{before_first, is_lf, lines_of, up_to}

-- the end of a slice
pub rest_is : (xs : List ℕ) (i : ℕ) → take (length xs - i) (drop i xs) ≡ drop i xs
rest_is xs i = take_all (length xs - i) (drop i xs) (omega (arith, length-drop i xs))

-- where the first one that passes stands
pub found : (p : ℕ → Bool) (xs : List ℕ) (i : ℕ) → position p xs ≡ Some i → (position_or_len p xs ≡ i) × (position_or_len p xs < length xs)
found p xs i e = step (nat_lt (position_or_len p xs) (length xs)) refl e
  where
    step : (b : Bool) → nat_lt (position_or_len p xs) (length xs) ≡ b → cond b (Some (position_or_len p xs)) None ≡ Some i → (position_or_len p xs ≡ i) × (position_or_len p xs < length xs)
    step true lt e = (cc, grind (arith, nat_tests))
    step false lt e = cc

pub missed : (p : ℕ → Bool) (xs : List ℕ) → position p xs ≡ None → length xs ≤ position_or_len p xs
missed p xs e = step (nat_lt (position_or_len p xs) (length xs)) refl e
  where
    step : (b : Bool) → nat_lt (position_or_len p xs) (length xs) ≡ b → cond b (Some (position_or_len p xs)) None ≡ None → length xs ≤ position_or_len p xs
    step true lt e = cc
    step false lt e = grind (arith, nat_tests)

further : (n : ℕ) → 1 + n + 1 ≡ suc (n + 1)
further n = omega arith

past : (n : ℕ) → 1 + n ≡ suc n
past n = omega arith

-- a line, whatever stands behind it
cut : (xs more : List ℕ) → position_or_len is_lf xs < length xs → lines_of (xs ++ more) ≡ take (position_or_len is_lf xs + 1) xs ∷ lines_of (drop (position_or_len is_lf xs + 1) xs ++ more)
cut [] more h = absurd (omega (arith, h))
cut (x ∷ xs) more h = by (x == 10) h (cut xs more)
  where
    by : (b : Bool) → cond (not b) (1 + position_or_len is_lf xs) 0 < length (x ∷ xs)
        → (position_or_len is_lf xs < length xs → lines_of (xs ++ more) ≡ take (position_or_len is_lf xs + 1) xs ∷ lines_of (drop (position_or_len is_lf xs + 1) xs ++ more))
        → (if b then (x ∷ []) ∷ lines_of (xs ++ more) else before_first x (lines_of (xs ++ more)))
        ≡ take (cond (not b) (1 + position_or_len is_lf xs) 0 + 1) (x ∷ xs) ∷ lines_of (drop (cond (not b) (1 + position_or_len is_lf xs) 0 + 1) (x ∷ xs) ++ more)
    by true w rest = refl
    by false w rest =
        ap (before_first x) (rest (omega (arith, w))) ∙ ap (λ n. take n (x ∷ xs) ∷ lines_of (drop n (x ∷ xs) ++ more)) (sym (further (position_or_len is_lf xs)))

pub cut_at : (xs more : List ℕ) (i : ℕ) → position is_lf xs ≡ Some i → lines_of (xs ++ more) ≡ take (i + 1) xs ∷ lines_of (drop (i + 1) xs ++ more)
cut_at xs more i e = let at = found is_lf xs i e in cut xs more at.1 ∙ ap (λ k. take (k + 1) xs ∷ lines_of (drop (k + 1) xs ++ more)) at.0

-- bytes without an end of a line are one line
open_line : (xs : List ℕ) → length xs ≤ position_or_len is_lf xs → 0 < length xs → lines_of xs ≡ xs ∷ []
open_line [] h some = absurd (omega (arith, some))
open_line (x ∷ xs) h some = by (x == 10) h (open_line xs)
  where
    rest : (ys : List ℕ) → (0 < length ys → lines_of ys ≡ ys ∷ []) → before_first x (lines_of ys) ≡ (x ∷ ys) ∷ []
    rest [] e = refl
    rest (y ∷ ys) e = ap (before_first x) (e (omega arith))

    by : (b : Bool) → length (x ∷ xs) ≤ cond (not b) (1 + position_or_len is_lf xs) 0 → (length xs ≤ position_or_len is_lf xs → 0 < length xs → lines_of xs ≡ xs ∷ [])
        → (if b then (x ∷ []) ∷ lines_of xs else before_first x (lines_of xs)) ≡ (x ∷ xs) ∷ []
    by true w more = absurd (omega (arith, w))
    by false w more = rest xs (more (omega (arith, w)))

pub last_line : (xs : List ℕ) → position is_lf xs ≡ None → 0 < length xs → lines_of xs ≡ xs ∷ []
last_line xs e some = open_line xs (missed is_lf xs e) some

-- and the first of a line, whatever stands behind them
pub record Begins (xs more : List ℕ) : Type 0 where
  pub line : List ℕ
  pub behind : List (List ℕ)
  pub rest : List ℕ
  pub split : lines_of (xs ++ more) ≡ line ∷ behind
  pub longer : length xs ≤ length line
  pub line_is : line ≡ xs ++ rest

first_of_any : (x : ℕ) (ys : List ℕ) → Begins (x ∷ []) ys
first_of_any x ys = by (x == 10) refl (lines_of ys) refl
  where
    by : (b : Bool) → (x == 10) ≡ b → (ls : List (List ℕ)) → lines_of ys ≡ ls → Begins (x ∷ []) ys
    by true e ls h = record { line = x ∷ []; behind = lines_of ys; rest = []; split = ap (λ c. if c then (x ∷ []) ∷ lines_of ys else before_first x (lines_of ys)) e; longer = omega arith; line_is = refl }
    by false e [] h = record { line = x ∷ []; behind = []; rest = []; split = ap (λ c. if c then (x ∷ []) ∷ lines_of ys else before_first x (lines_of ys)) e ∙ ap (before_first x) h; longer = omega arith; line_is = refl }
    by false e (l ∷ ls) h = record { line = x ∷ l; behind = ls; rest = l; split = ap (λ c. if c then (x ∷ []) ∷ lines_of ys else before_first x (lines_of ys)) e ∙ ap (before_first x) h; longer = omega arith; line_is = refl }

open_more : (xs more : List ℕ) → length xs ≤ position_or_len is_lf xs → 0 < length xs → Begins xs more
open_more [] more h some = absurd (omega (arith, some))
open_more (x ∷ []) more h some = first_of_any x more
open_more (x ∷ y ∷ xs) more h some = by (x == 10) refl h (open_more (y ∷ xs) more)
  where
    by : (b : Bool) → (x == 10) ≡ b → length (x ∷ y ∷ xs) ≤ cond (not b) (1 + position_or_len is_lf (y ∷ xs)) 0 → (length (y ∷ xs) ≤ position_or_len is_lf (y ∷ xs) → 0 < length (y ∷ xs) → Begins (y ∷ xs) more) → Begins (x ∷ y ∷ xs) more
    by true e w rest = absurd (omega (arith, w))
    by false e w rest =
        let r = rest (omega (arith, w)) (omega arith) in
        record {
          line = x ∷ r.line;
          behind = r.behind;
          rest = r.rest;
          split = ap (λ c. if c then (x ∷ []) ∷ lines_of (y ∷ xs ++ more) else before_first x (lines_of (y ∷ xs ++ more))) e ∙ ap (before_first x) r.split;
          longer = omega (arith, r.longer);
          line_is = ap (λ t. x ∷ t) r.line_is;
        }

pub begins : (xs more : List ℕ) → position is_lf xs ≡ None → 0 < length xs → Begins xs more
begins xs more e some = open_more xs more (missed is_lf xs e) some

-- The bytes up to the first of a kind.

taken : (p : ℕ → Bool) (l : List ℕ) → up_to p l ≡ take (position_or_len p l) l
taken p [] = refl
taken p (b ∷ bs) = by (p b) (taken p bs)
  where
    by : (s : Bool) → up_to p bs ≡ take (position_or_len p bs) bs → (if s then [] else b ∷ up_to p bs) ≡ take (cond (not s) (1 + position_or_len p bs) 0) (b ∷ bs)
    by true e = refl
    by false e = ap (λ t. b ∷ t) e ∙ ap (λ n. take n (b ∷ bs)) (sym (past (position_or_len p bs)))

pub up_to_at : (p : ℕ → Bool) (l : List ℕ) (i : ℕ) → position p l ≡ Some i → up_to p l ≡ take i l
up_to_at p l i e = taken p l ∙ ap (λ n. take n l) (found p l i e).0

pub up_to_whole : (p : ℕ → Bool) (l : List ℕ) → position p l ≡ None → up_to p l ≡ l
up_to_whole p l e = taken p l ∙ take_all (position_or_len p l) l (missed p l e)
