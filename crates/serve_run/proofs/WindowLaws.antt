-- Bytes that came of a source, and the lines at their front.
use Rattle.std.proofs.Common.{◌≡◌, ◌≢◌, ◌<◌, ◌≤◌, ℕ, zero, suc, ◌+◌, ◌-◌, All, sym, ap, ◌∙◌, refl, subst, arith, get_or, length-append, length-drop, length-take-le, ne_eqb}
use Rattle.std.specs.Prelude.{Bool, true, false, ◌==◌, cond, nat_lt, List, [], ◌∷◌, ◌++◌, length, take, drop, Option, Some, None, IfSome, IsTrue}
use Rattle.std.specs.List.{position, position_or_len}
use Rattle.std.specs.Str.Lines.{lines, lines_of_parts, strip_carriage_return}
use Rattle.std.proofs.lemmas.Bool.Decides.{nat_tests}
use Rattle.std.proofs.lemmas.List.{get_or-drop, get_or-take, take-append-drop, take-append-le, take_all, take_more}
use Rattle.std.proofs.lemmas.List.Elements.{All-from_get_or, All-head, All-tail}
use Rattle.std.proofs.lemmas.List.Splits.{slice_split_at}
use Rattle.std.proofs.lemmas.List.Sums.{fails_before_first, passes_at_first, position_or_len_is}
use Rattle.std.proofs.Math.Seq.{take-append_seam}
use Rattle.yard_io.proofs.ToldLemmas.{rest_is}
use Rattle.yard_io.specs.Told.{without_first}
use Rattle.yard_model.specs.Text.{Bytes}
use Rattle.serve_run.specs.Scenes.{ahead, ends_line}
use Rattle.serve_run.specs.Windows.{Came, IsGroup, IsPlain, Lost, is_lf, left_of}

-- What came.

-- the front of a list, and what is behind it
front : (n : ℕ) (xs ys : List ℕ) → n ≤ length xs → take n (take n xs ++ ys) ≡ take n xs
front n xs ys h = ap (λ k. take k (take n xs ++ ys)) (sym (length-take-le n xs h)) ∙ take-append_seam (take n xs) ys

pub told_read : (had has : Option Bytes) (old new : Bytes) (n : ℕ) → has ≡ without_first n had → IfSome had (λ xs. new ≡ take n xs ++ drop n old) → IfSome had (λ xs. n ≤ length xs) → had ≡ ahead (take n new) has
told_read None has old new n rest is there = sym (ap (ahead (take n new)) rest)
told_read (Some xs) has old new n rest is there =
    sym (ap (ahead (take n new)) rest ∙ (ap (λ (t : List ℕ). Some (t ++ drop n xs)) (ap (take n) is ∙ front n xs (drop n old) there) ∙ ap (λ t. Some t) (take-append-drop n xs)))

-- nothing came, and nothing is left
ended_read : (had has : Option Bytes) (n : ℕ) → has ≡ without_first n had → IfSome had (λ xs. xs ≡ []) → n ≡ 0 → left_of has ≡ []
ended_read None has n rest none z = ap left_of rest
ended_read (Some xs) has n rest none z = ap left_of (rest ∙ ap (λ k. Some (drop k xs)) z) ∙ none

pub came_so : (had has : Option Bytes) (before after old new bytes : Bytes) (n : ℕ) → has ≡ without_first n had → IfSome had (λ xs. new ≡ take n xs ++ drop n old) → IfSome had (λ xs. n ≤ length xs)
    → (n ≡ 0 → IfSome had (λ xs. xs ≡ [])) → bytes ≡ take n new → after ≡ before ++ bytes → Came before after n had has
came_so had has before after old new bytes n rest is there end these more = record {
  bytes = take n new;
  behind = more ∙ ap (λ t. before ++ t) these;
  told = told_read had has old new n rest is there;
  end = λ z. (ap (λ k. take k new) z, ended_read had has n rest (end z) z);
}

-- nothing was read
pub lost_none : (had has : Option Bytes) → has ≡ had → Lost had has
lost_none None has same = record { bytes = []; told = sym (ap (ahead []) same) }
lost_none (Some xs) has same = record { bytes = []; told = sym (ap (ahead []) same) }

-- Lines.

-- where the first line ends
record FirstEnd (bytes : Bytes) (i : ℕ) : Type 0 where
  within : i < length bytes
  first : position_or_len is_lf bytes ≡ i

none_some : (i : ℕ) → None ≡ Some i → ⊥
none_some i e = cc

found : (bytes : Bytes) (i : ℕ) → position is_lf bytes ≡ Some i → FirstEnd bytes i
found bytes i e = step (nat_lt (position_or_len is_lf bytes) (length bytes)) refl e
  where
    step : (t : Bool) → nat_lt (position_or_len is_lf bytes) (length bytes) ≡ t → cond t (Some (position_or_len is_lf bytes)) None ≡ Some i → FirstEnd bytes i
    step true lt e = let same : position_or_len is_lf bytes ≡ i = cc in record { within = grind (arith, nat_tests); first = same }
    step false lt e = absurd (none_some i e)

missed : (bytes : Bytes) → position is_lf bytes ≡ None → length bytes ≤ position_or_len is_lf bytes
missed bytes e = step (nat_lt (position_or_len is_lf bytes) (length bytes)) refl e
  where
    step : (t : Bool) → nat_lt (position_or_len is_lf bytes) (length bytes) ≡ t → cond t (Some (position_or_len is_lf bytes)) None ≡ None → length bytes ≤ position_or_len is_lf bytes
    step true lt e = cc
    step false lt e = grind (arith, nat_tests)

none_of : (bytes : Bytes) → position_or_len is_lf bytes ≡ length bytes → position is_lf bytes ≡ None
none_of bytes e = step (nat_lt (position_or_len is_lf bytes) (length bytes)) refl
  where
    step : (t : Bool) → nat_lt (position_or_len is_lf bytes) (length bytes) ≡ t → cond t (Some (position_or_len is_lf bytes)) None ≡ None
    step true lt = absurd (grind (arith, nat_tests))
    step false lt = refl

-- no line ends in no bytes, nor in these with one more in front that ends none
pub no_end : position is_lf [] ≡ None
no_end = refl

pub no_end_before : (b : ℕ) (bytes : Bytes) → is_lf b ≡ false → position is_lf bytes ≡ None → position is_lf (b ∷ bytes) ≡ None
no_end_before b bytes other none =
    none_of (b ∷ bytes) (position_or_len_is is_lf (b ∷ bytes) (length (b ∷ bytes)) 0 (omega arith) at (λ far. absurd (omega (arith, far))))
  where
    at : (k : ℕ) → k < length (b ∷ bytes) → is_lf (get_or (b ∷ bytes) k 0) ≡ false
    at zero lt = other
    at (suc k) lt = fails_before_first is_lf bytes k 0 (omega (arith, lt, missed bytes none))

-- Bytes of which the first are known to end no line.

pub plain_none : (bytes : Bytes) → IsPlain bytes 0
plain_none bytes = record { within = omega arith; none = refl }

pub plain_all : (bytes : Bytes) (n : ℕ) → n ≡ length bytes → position is_lf bytes ≡ None → IsPlain bytes n
plain_all bytes n long none = record { within = omega (arith, long); none = ap (position is_lf) (take_all n bytes (omega (arith, long))) ∙ none }

pub plain_more : (bytes more : Bytes) (n : ℕ) → IsPlain bytes n → IsPlain (bytes ++ more) n
plain_more bytes more n p = record {
  within = omega (arith, p.within, length-append bytes more);
  none = ap (position is_lf) (take-append-le n bytes more p.within) ∙ p.none;
}

no_lf_of : (bytes : Bytes) → position is_lf bytes ≡ None → (k : ℕ) → k < length bytes → is_lf (get_or bytes k 0) ≡ false
no_lf_of bytes none k lt = fails_before_first is_lf bytes k 0 (omega (arith, lt, missed bytes none))

no_lf_by : (bytes : Bytes) (n : ℕ) → IsPlain bytes n → (k : ℕ) → k < n → is_lf (get_or bytes k 0) ≡ false
no_lf_by bytes n p k lt = ap is_lf (sym (get_or-take n bytes k 0 lt)) ∙ no_lf_of (take n bytes) p.none k (omega (arith, lt, length-take-le n bytes p.within))

-- none of these, and none of so many behind them
no_lf_past : (bytes : Bytes) (n m : ℕ) → IsPlain bytes n → ((j : ℕ) → j < m → is_lf (get_or (drop n bytes) j 0) ≡ false) → (k : ℕ) → k < n + m → is_lf (get_or bytes k 0) ≡ false
no_lf_past bytes n m p behind k lt = by (nat_lt k n) refl
  where
    by : (t : Bool) → nat_lt k n ≡ t → is_lf (get_or bytes k 0) ≡ false
    by true e = no_lf_by bytes n p k (grind (arith, nat_tests))
    by false e =
        let low : n ≤ k = grind (arith, nat_tests) in
        let same : n + (k - n) ≡ k = omega (arith, low) in
        subst (λ i. is_lf (get_or bytes i 0) ≡ false) same (ap is_lf (sym (get_or-drop n bytes (k - n) 0)) ∙ behind (k - n) (omega (arith, low, lt)))

some_of : (bytes : Bytes) (i : ℕ) → i < length bytes → position_or_len is_lf bytes ≡ i → position is_lf bytes ≡ Some i
some_of bytes i within e = step (nat_lt (position_or_len is_lf bytes) (length bytes)) refl
  where
    step : (t : Bool) → nat_lt (position_or_len is_lf bytes) (length bytes) ≡ t → cond t (Some (position_or_len is_lf bytes)) None ≡ Some i
    step true lt = ap (λ n. Some n) e
    step false lt = absurd (grind (arith, nat_tests))

-- the first one behind them
pub first_past : (bytes : Bytes) (n i : ℕ) → IsPlain bytes n → position is_lf (drop n bytes) ≡ Some i → position is_lf bytes ≡ Some (n + i)
first_past bytes n i p e =
    let f : FirstEnd (drop n bytes) i = found (drop n bytes) i e in
    let within : n + i < length bytes = omega (arith, f.within, length-drop n bytes, p.within) in
    let is : is_lf (get_or (drop n bytes) i 0) ≡ true =
    subst (λ k. is_lf (get_or (drop n bytes) k 0) ≡ true) f.first (passes_at_first is_lf (drop n bytes) 0 (omega (arith, f.within, f.first))) in
    some_of bytes (n + i) within
    (position_or_len_is is_lf bytes (n + i) 0 (omega (arith, within)) (no_lf_past bytes n i p (λ j lt. fails_before_first is_lf (drop n bytes) j 0 (omega (arith, lt, f.first))))
    (λ far. ap is_lf (sym (get_or-drop n bytes i 0)) ∙ is))

pub none_past : (bytes : Bytes) (n : ℕ) → IsPlain bytes n → position is_lf (drop n bytes) ≡ None → position is_lf bytes ≡ None
none_past bytes n p none =
    none_of bytes (position_or_len_is is_lf bytes (length bytes) 0 (omega arith)
    (λ k lt. no_lf_past bytes n (length (drop n bytes)) p (no_lf_of (drop n bytes) none) k (omega (arith, lt, length-drop n bytes, p.within))) (λ far. absurd (omega (arith, far))))

ends_push : (bytes : Bytes) (b : ℕ) → ends_line (bytes ++ b ∷ []) ≡ (b == 10)
ends_push [] b = refl
ends_push (x ∷ []) b = refl
ends_push (x ∷ y ∷ bytes) b = ends_push (y ∷ bytes) b

pub ends_at : (bytes : Bytes) (i : ℕ) → i < length bytes → is_lf (get_or bytes i 0) ≡ true → IsTrue (ends_line (take (i + 1) bytes))
ends_at bytes i within is = ap ends_line (take_more bytes i 0 within) ∙ (ends_push (take i bytes) (get_or bytes i 0) ∙ is)

-- it ends no line
abbrev IsOther : ℕ → Type 0
IsOther b = b ≢ 10

pub none_all : (bytes : Bytes) → All IsOther bytes → position is_lf bytes ≡ None
none_all [] all = no_end
none_all (b ∷ bytes) all = no_end_before b bytes (ne_eqb b 10 (All-head IsOther b bytes all)) (none_all bytes (All-tail IsOther b bytes all))

pub none_behind : (bytes : Bytes) (n : ℕ) → ((k : ℕ) → n ≤ k → k < length bytes → get_or bytes k 0 ≢ 10) → position is_lf (drop n bytes) ≡ None
none_behind bytes n reads = none_all (drop n bytes) (All-from_get_or IsOther (drop n bytes) 0 at)
  where
    at : (k : ℕ) → k < length (drop n bytes) → IsOther (get_or (drop n bytes) k 0)
    at k inside = subst IsOther (sym (get_or-drop n bytes k 0)) (reads (n + k) (omega arith) (omega (arith, inside, length-drop n bytes)))

-- the first line alone
one_line : (bytes : Bytes) (i : ℕ) → FirstEnd bytes i → lines (take (i + 1) bytes) ≡ strip_carriage_return (take i bytes) ∷ []
one_line bytes i f =
    let is : is_lf (get_or bytes i 0) ≡ true = subst (λ k. is_lf (get_or bytes k 0) ≡ true) f.first (passes_at_first is_lf bytes 0 (omega (arith, f.within, f.first))) in
    ap lines (take_more bytes i 0 f.within) ∙ ap lines_of_parts (slice_split_at is_lf (take i bytes) (get_or bytes i 0) [] inner is)
  where
    inner : (k d : ℕ) → k < length (take i bytes) → is_lf (get_or (take i bytes) k d) ≡ false
    inner k d lt =
        let low : k < i = omega (arith, lt, length-take-le i bytes (omega (arith, f.within))) in
        ap is_lf (get_or-take i bytes k d low) ∙ fails_before_first is_lf bytes k d (omega (arith, low, f.first))

pub first_group : (bytes : Bytes) (i : ℕ) (alone : Bool) → position is_lf bytes ≡ Some i → IsGroup alone bytes (i + 1)
first_group bytes i alone e =
    let f : FirstEnd bytes i = found bytes i e in
    let is : is_lf (get_or bytes i 0) ≡ true = subst (λ k. is_lf (get_or bytes k 0) ≡ true) f.first (passes_at_first is_lf bytes 0 (omega (arith, f.within, f.first))) in
    record {
      some = omega arith;
      within = omega (arith, f.within);
      ends = ends_at bytes i f.within is;
      one = λ told. (strip_carriage_return (take i bytes), one_line bytes i f);
    }

pub whole_group : (bytes : Bytes) (n : ℕ) → 0 < n → n ≤ length bytes → IsTrue (ends_line (take n bytes)) → IsGroup false bytes n
whole_group bytes n some within ends = record { some = some; within = within; ends = ends; one = λ told. absurd (never told) }
  where
    never : IsTrue false → ⊥
    never e = cc

-- up to a byte that ends a line
pub last_group : (bytes : Bytes) (i : ℕ) → i < length bytes → get_or bytes i 0 ≡ 10 → IsGroup false bytes (i + 1)
last_group bytes i within here = whole_group bytes (i + 1) (omega arith) (omega (arith, within)) (ends_at bytes i within (ap is_lf here))

-- The same of those behind the first n, as a slice of them is seen.

abbrev behind : Bytes → ℕ → Bytes
behind bytes n = take (length bytes - n) (drop n bytes)

at_behind : (bytes : Bytes) (n k : ℕ) → get_or bytes (n + k) 0 ≡ get_or (behind bytes n) k 0
at_behind bytes n k = sym (get_or-drop n bytes k 0) ∙ ap (λ (l : Bytes). get_or l k 0) (sym (rest_is n bytes))

long_behind : (bytes : Bytes) (n : ℕ) → length (behind bytes n) ≡ length bytes - n
long_behind bytes n = ap length (rest_is n bytes) ∙ length-drop n bytes

pub last_past : (bytes : Bytes) (n i : ℕ) → i < length (behind bytes n) → get_or (behind bytes n) i 0 ≡ 10 → IsGroup false bytes (n + i + 1)
last_past bytes n i within here = last_group bytes (n + i) (omega (arith, within, long_behind bytes n)) (at_behind bytes n i ∙ here)

pub none_behind_past : (bytes : Bytes) (n i : ℕ) → ((k : ℕ) → i + 1 ≤ k → k < length (behind bytes n) → get_or (behind bytes n) k 0 ≢ 10) → position is_lf (drop (n + i + 1) bytes) ≡ None
none_behind_past bytes n i reads = none_behind bytes (n + i + 1) at
  where
    at : (k : ℕ) → n + i + 1 ≤ k → k < length bytes → get_or bytes k 0 ≢ 10
    at k low inside =
        let same : n + (k - n) ≡ k = omega (arith, low) in
        subst (λ j. get_or bytes j 0 ≢ 10) same (subst (λ x. x ≢ 10) (sym (at_behind bytes n (k - n))) (reads (k - n) (omega (arith, low)) (omega (arith, low, inside, long_behind bytes n))))

pub none_in_past : (bytes : Bytes) (n : ℕ) → IsPlain bytes n → All IsOther (behind bytes n) → position is_lf bytes ≡ None
none_in_past bytes n p all = none_past bytes n p (ap (position is_lf) (sym (rest_is n bytes)) ∙ none_all (behind bytes n) all)
