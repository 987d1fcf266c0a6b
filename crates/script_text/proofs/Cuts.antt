-- Cutting bytes into lines, and a line into words.
use Rattle.std.proofs.Common.{◌≡◌, ℕ, ◌+◌, ◌-◌, ◌<◌, ◌≤◌, Bool, true, false, not, List, [], ◌∷◌, length, get_or, take, drop, refl, sym, ap, ◌∙◌, arith, length-drop, length-take-le, get_or-drop, zero, suc}
use Rattle.std.specs.Prelude.{Option, Some, None, cond, nat_lt, nat_eq, filter, slice_index, codes, ◌==◌, ◌&&◌}
use Rattle.std.specs.List.{position, position_or_len, slice_split, onto_first}
use Rattle.std.specs.Str.Lines.{lines, lines_of_parts, strip_carriage_return}
use Rattle.std.proofs.lemmas.List.{take_all, drop_all}
use Rattle.std.proofs.lemmas.List.Sums.{fails_before_first, passes_at_first}
use Rattle.std.proofs.lemmas.List.Splits.{slice_split_none, slice_split_first, slice_split-cons_yes, slice_split-cons_no}
use Rattle.std.proofs.lemmas.Bool.Decides.{nat_tests}
use Rattle.std.proofs.lemmas.Bool.{false≢true}
use Rattle.std.specs.Cmp.Lexicographic.{pointwise}
use Rattle.script_text.specs.Words.{is_gap, is_some_word, words, is_blank, is_text, begins_comment}
use Rattle.script_text.specs.Reading.{is_config_line}

-- the end of a slice
pub rest_is : {X : Type 0} (xs : List X) (i : ℕ) → take (length xs - i) (drop i xs) ≡ drop i xs
rest_is {X} xs i = take_all (length xs - i) (drop i xs) (omega (arith, length-drop i xs))

module _ {X : Type 0} (p : X → Bool) where
  -- where the first one that passes stands
  pub found : (xs : List X) (i : ℕ) → position p xs ≡ Some i → (position_or_len p xs ≡ i) × (position_or_len p xs < length xs)
  found xs i e = step (nat_lt (position_or_len p xs) (length xs)) refl e
    where
      step : (b : Bool) → nat_lt (position_or_len p xs) (length xs) ≡ b → cond b (Some (position_or_len p xs)) None ≡ Some i → (position_or_len p xs ≡ i) × (position_or_len p xs < length xs)
      step true lt e = (cc, grind (arith, nat_tests))
      step false lt e = cc

  passes : (xs : List X) (i : ℕ) (d : X) → position p xs ≡ Some i → p (get_or xs i d) ≡ true
  passes xs i d e = let at = found xs i e in ap (λ k. p (get_or xs k d)) (sym at.0) ∙ passes_at_first p xs d at.1

  pub missed : (xs : List X) → position p xs ≡ None → length xs ≤ position_or_len p xs
  missed xs e = step (nat_lt (position_or_len p xs) (length xs)) refl e
    where
      step : (b : Bool) → nat_lt (position_or_len p xs) (length xs) ≡ b → cond b (Some (position_or_len p xs)) None ≡ None → length xs ≤ position_or_len p xs
      step true lt e = cc
      step false lt e = grind (arith, nat_tests)

  -- the first part ends where the first one that passes stands
  pub split_found : (xs : List X) (i : ℕ) (d : X) → position p xs ≡ Some i → slice_split p xs ≡ take i xs ∷ slice_split p (drop (i + 1) xs)
  split_found xs i d e =
      let at = found xs i e in
      slice_split_first p xs d at.1 ∙ ap (λ k. take k xs ∷ slice_split p (drop (k + 1) xs)) at.0

  -- where none passes there is one part
  pub split_missed : (xs : List X) → position p xs ≡ None → slice_split p xs ≡ xs ∷ []
  split_missed xs e =
      let far : length xs ≤ position_or_len p xs = missed xs e in
      slice_split_none p xs (λ k d h. fails_before_first p xs k d (omega arith))

-- there is a first part
some_part : {X : Type 0} (p : X → Bool) (xs : List X) → (x : List X) × (more : List (List X)) × (slice_split p xs ≡ x ∷ more)
some_part {X} p [] = ([], [], refl)
some_part {X} p (y ∷ ys) = step (p y) refl (some_part p ys)
  where
    step : (b : Bool) → p y ≡ b → (x : List X) × (more : List (List X)) × (slice_split p ys ≡ x ∷ more) → (x : List X) × (more : List (List X)) × (slice_split p (y ∷ ys) ≡ x ∷ more)
    step true e part = ([], slice_split p ys, slice_split-cons_yes p y ys e)
    step false e part = (y ∷ part.0, part.1, slice_split-cons_no p y ys e ∙ ap (onto_first y) part.2)

abbrev pub is_lf : ℕ → Bool
is_lf b = b == 10

pub lines_cut : (bs : List ℕ) (i : ℕ) → position is_lf bs ≡ Some i → lines bs ≡ strip_carriage_return (take i bs) ∷ lines (drop (i + 1) bs)
lines_cut bs i e =
    let more = some_part is_lf (drop (i + 1) bs) in
    ap lines_of_parts (split_found is_lf bs i 0 e) ∙ (ap (λ parts. lines_of_parts (take i bs ∷ parts)) more.2 ∙ ap (λ parts. strip_carriage_return (take i bs) ∷ lines_of_parts parts) (sym more.2))

pub lines_last : (bs : List ℕ) → position is_lf bs ≡ None → 0 < length bs → lines bs ≡ bs ∷ []
lines_last bs e h = let some : (length bs == 0) ≡ false = grind (arith, nat_tests) in ap lines_of_parts (split_missed is_lf bs e) ∙ rw some refl

abbrev pub is_word_byte : ℕ → Bool
is_word_byte b = not (is_gap b)

pub one_more : (n : ℕ) → 1 + n ≡ suc n
one_more n = omega arith

plus_zero : (n : ℕ) → n + 0 ≡ n
plus_zero n = omega arith

-- gaps before the first word
skip : (xs : List ℕ) → words (drop (position_or_len is_word_byte xs) xs) ≡ words xs
unfolding words
skip [] = refl
skip (x ∷ xs) = step (is_gap x) refl (skip xs)
  where
    step : (b : Bool) → is_gap x ≡ b → words (drop (position_or_len is_word_byte xs) xs) ≡ words xs → words (drop (cond (not (not b)) (1 + position_or_len is_word_byte xs) 0) (x ∷ xs)) ≡ words (x ∷ xs)
    step true e h = ap (λ n. words (drop n (x ∷ xs))) (one_more (position_or_len is_word_byte xs)) ∙ h ∙ ap (filter is_some_word) (sym (slice_split-cons_yes is_gap x xs e))
    step false e h = refl

pub words_skip : (xs : List ℕ) (i : ℕ) → position is_word_byte xs ≡ Some i → words xs ≡ words (drop i xs)
words_skip xs i e = sym (skip xs) ∙ ap (λ k. words (drop k xs)) (found is_word_byte xs i e).0

pub words_begin : (xs : List ℕ) (i : ℕ) → position is_word_byte xs ≡ Some i → is_gap (slice_index (drop i xs) 0) ≡ false
words_begin xs i e = not_not (is_gap (slice_index (drop i xs) 0)) (ap is_word_byte (get_or-drop i xs 0 0) ∙ ap (λ k. is_word_byte (get_or xs k 0)) (plus_zero i) ∙ passes is_word_byte xs i 0 e)
  where
    not_not : (b : Bool) → not b ≡ true → b ≡ false
    not_not true e = cc
    not_not false e = refl

pub words_none : (xs : List ℕ) → position is_word_byte xs ≡ None → words xs ≡ []
unfolding words
words_none xs e = sym (skip xs) ∙ ap words (drop_all (position_or_len is_word_byte xs) xs (missed is_word_byte xs e))

word_first : (x : List ℕ) (more : List (List ℕ)) → 0 < length x → filter is_some_word (x ∷ more) ≡ x ∷ filter is_some_word more
word_first x more h = let some : nat_lt 0 (length x) ≡ true = grind (arith, nat_tests) in rw some refl

pub words_cut : (xs : List ℕ) (i : ℕ) → position is_gap xs ≡ Some i → is_gap (slice_index xs 0) ≡ false → words xs ≡ take i xs ∷ words (drop (i + 1) xs)
unfolding words
words_cut xs i e n = ap (filter is_some_word) (split_found is_gap xs i 0 e) ∙ word_first (take i xs) (slice_split is_gap (drop (i + 1) xs)) (nonempty xs i e n)
  where
    nonempty : (xs : List ℕ) (i : ℕ) → position is_gap xs ≡ Some i → is_gap (slice_index xs 0) ≡ false → 0 < length (take i xs)
    nonempty xs zero e n = absurd (false≢true (sym n ∙ passes is_gap xs 0 0 e))
    nonempty xs (suc i) e n = let at = found is_gap xs (suc i) e in omega (arith, length-take-le (suc i) xs (omega (arith, at.0, at.1)))

pub words_last : (xs : List ℕ) → position is_gap xs ≡ None → 0 < length xs → words xs ≡ xs ∷ []
unfolding words
words_last xs e h = ap (filter is_some_word) (split_missed is_gap xs e) ∙ word_first xs [] h

-- nothing comes after the end
pub end_is : {X : Type 0} (xs : List X) → take (length xs - length xs) (drop (length xs) xs) ≡ []
end_is {X} xs = rest_is xs (length xs) ∙ drop_all (length xs) xs (omega arith)

pub words_of_none : [] ≡ words []
unfolding words
words_of_none = refl

-- where a line begins with a word, that is its first, and its first byte the line's
pub word_first_of : (xs : List ℕ) → is_gap (slice_index xs 0) ≡ false → 0 < length xs → (w : List ℕ) × (ws : List (List ℕ)) × (words xs ≡ w ∷ ws) × (slice_index w 0 ≡ slice_index xs 0)
word_first_of xs n h = step (position is_gap xs) refl
  where
    at : (ys : List ℕ) (i : ℕ) → position is_gap ys ≡ Some i → is_gap (slice_index ys 0) ≡ false → 0 < length ys → slice_index (take i ys) 0 ≡ slice_index ys 0
    at [] i e n h = absurd (omega arith)
    at (y ∷ ys) zero e n h = absurd (false≢true (sym n ∙ passes is_gap (y ∷ ys) 0 0 e))
    at (y ∷ ys) (suc i) e n h = refl

    step : (o : Option ℕ) → position is_gap xs ≡ o → (w : List ℕ) × (ws : List (List ℕ)) × (words xs ≡ w ∷ ws) × (slice_index w 0 ≡ slice_index xs 0)
    step None e = (xs, [], words_last xs e h, refl)
    step (Some i) e = (take i xs, words (drop (i + 1) xs), words_cut xs i e n, at xs i e n h)

-- a line that begins with a word is blank where it begins with a #
pub blank_first : (xs : List ℕ) → is_gap (slice_index xs 0) ≡ false → 0 < length xs → is_blank (words xs) ≡ begins_comment xs
blank_first xs n h = let f = word_first_of xs n h in ap is_blank f.2 ∙ ap (λ b. b == 35) f.3

not_config : (w : List ℕ) → (slice_index w 0 == 99) ≡ false → is_text w (codes "config") ≡ false
not_config [] e = refl
not_config (y ∷ ys) e = ap (λ b. b && pointwise nat_eq ys (codes "onfig")) e

-- no config begins with another byte
pub config_first : (xs : List ℕ) → is_gap (slice_index xs 0) ≡ false → 0 < length xs → (slice_index xs 0 == 99) ≡ false → is_config_line (words xs) ≡ false
config_first xs n h other = let f = word_first_of xs n h in ap is_config_line f.2 ∙ not_config f.0 (ap (λ b. b == 99) f.3 ∙ other)
