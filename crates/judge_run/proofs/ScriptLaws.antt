-- A script that is read has no line `trace`.
use Rattle.std.proofs.Common.{◌≡◌, ℕ, ◌+◌, sym, ap, ap₂, ◌∙◌, refl, true≢false}
use Rattle.std.specs.Prelude.{Bool, true, false, ◌&&◌, ◌||◌, not, cond, List, [], ◌∷◌, ◌++◌, codes, Option, Some, None, Result, Ok, Err, if◌then◌else◌}
use Rattle.std.specs.List.{list_all, list_any, onto_first, slice_split}
use Rattle.std.specs.Str.Lines.{lines, lines_of_parts, strip_carriage_return}
use Rattle.plain_laws.proofs.Booleans.{and_both, both, same_name, same_number}
use Rattle.yard_model.specs.Script.{Script, is_name}
use Rattle.script_text.specs.Reading.{Spelled, Refused, first_line, going_on, is_too_long, line_read, lines_read, next_line, plain, reading}
use Rattle.script_text.specs.Orders.{order_of, verb_of}
use Rattle.script_text.specs.Words.{words}
use Rattle.script_text.specs.declared.fault.Mode.TheVariants as mode
use Rattle.script_text.specs.declared.fault.Why.{Why}
use Rattle.script_text.specs.declared.fault.Why.TheVariants as why
use Rattle.verdict_laws.specs.Lines.{before_first, is_lf, lines_of}
use Rattle.judge_run.specs.Input.{ends_line, is_between, is_whole}

abbrev is_trace : List ℕ → Bool
is_trace l = is_name l (codes "trace")

-- Such a line is refused.

record Stopped (r : Result (Option Script) Why) : Type 0 where
  why : Why
  is : r ≡ Err why

no_order : (so : Option Script) (n : ℕ) → Stopped (line_read mode.Replay so n (codes "trace"))
unfolding line_read plain first_line next_line order_of verb_of words
no_order None n = record { why = why.NoConfig; is = refl }
no_order (Some s) n = record { why = why.UnknownWord; is = refl }

refused_spelled : (n : ℕ) (w : Why) (c : Script) → Refused n w ≡ Spelled c → ⊥
refused_spelled n w c e = cc

line_refused : (so : Option Script) (n : ℕ) (ls : List (List ℕ)) (c : Script) → list_any is_trace ls ≡ true → lines_read mode.Replay so n ls ≡ Spelled c → ⊥
line_refused so n [] c h e = true≢false (sym h)
line_refused so n (l ∷ ls) c h e = by (is_trace l) refl (line_read mode.Replay so n l) refl (λ more. line_refused more (n + 1) ls c) h e
  where
    by : (t : Bool) → is_trace l ≡ t → (r : Result (Option Script) Why) → line_read mode.Replay so n l ≡ r → ((more : Option Script) → list_any is_trace ls ≡ true → lines_read mode.Replay more (n + 1) ls ≡ Spelled c → ⊥)
        → (t || list_any is_trace ls) ≡ true → going_on n r (λ more. lines_read mode.Replay more (n + 1) ls) ≡ Spelled c → ⊥
    by t is (Err w) q later k f = refused_spelled n w c f
    by false is (Ok more) q later k f = later more k f
    by true is (Ok more) q later k f =
        let s = no_order so n in
        ok_err more s.why (sym q ∙ (ap (line_read mode.Replay so n) (same_name l (codes "trace") is) ∙ s.is))
      where
        ok_err : (x : Option Script) (w : Why) → Ok x ≡ Err w → ⊥
        ok_err x w e = cc

-- The lines of both readings.

-- what stands behind the last line end
abbrev last_line : List ℕ → List (List ℕ)
last_line [] = []
last_line (b ∷ bs) = (b ∷ bs) ∷ []

-- the parts between line ends, as lines with them
abbrev with_ends : List (List ℕ) → List (List ℕ)
with_ends [] = []
with_ends (p ∷ []) = last_line p
with_ends (p ∷ q ∷ ps) = (p ++ 10 ∷ []) ∷ with_ends (q ∷ ps)

record HasPart (ps : List (List ℕ)) : Type 0 where
  part : List ℕ
  others : List (List ℕ)
  split : ps ≡ part ∷ others

some_part : (bs : List ℕ) → HasPart (slice_split is_lf bs)
some_part [] = record { part = []; others = []; split = refl }
some_part (b ∷ bs) = by (is_lf b) (slice_split is_lf bs)
  where
    by : (t : Bool) (ps : List (List ℕ)) → HasPart (cond t ([] ∷ ps) (onto_first b ps))
    by true ps = record { part = []; others = ps; split = refl }
    by false [] = record { part = b ∷ []; others = []; split = refl }
    by false (p ∷ ps) = record { part = b ∷ p; others = ps; split = refl }

no_part : (p : List ℕ) (ps : List (List ℕ)) → [] ≡ p ∷ ps → ⊥
no_part p ps e = cc

same_lines : (bs : List ℕ) → lines_of bs ≡ with_ends (slice_split is_lf bs)
same_lines [] = refl
same_lines (b ∷ bs) = by (is_lf b) refl (lines_of bs) (slice_split is_lf bs) (same_lines bs) (some_part bs)
  where
    by : (t : Bool) → is_lf b ≡ t → (ls ps : List (List ℕ)) → ls ≡ with_ends ps → HasPart ps → (if t then (b ∷ []) ∷ ls else before_first b ls) ≡ with_ends (cond t ([] ∷ ps) (onto_first b ps))
    by t e ls [] h s = absurd (no_part s.part s.others s.split)
    by true e ls (q ∷ qs) h s = ap₂ (λ (x : ℕ) (more : List (List ℕ)). (x ∷ []) ∷ more) (same_number b 10 e) h
    by false e ls ([] ∷ []) h s = ap (before_first b) h
    by false e ls ((a ∷ more) ∷ []) h s = ap (before_first b) h
    by false e ls (p ∷ q ∷ qs) h s = ap (before_first b) h

-- no line end stands in a part
abbrev is_inner : List ℕ → Bool
is_inner p = list_all (λ b. not (is_lf b)) p

all_inner : (bs : List ℕ) → list_all is_inner (slice_split is_lf bs) ≡ true
all_inner [] = refl
all_inner (b ∷ bs) = by (is_lf b) refl (slice_split is_lf bs) (all_inner bs)
  where
    by : (t : Bool) → is_lf b ≡ t → (ps : List (List ℕ)) → list_all is_inner ps ≡ true → list_all is_inner (cond t ([] ∷ ps) (onto_first b ps)) ≡ true
    by true e ps h = h
    by false e [] h = both (not (is_lf b) && true) true (both (not (is_lf b)) true (ap not e) refl) refl
    by false e (p ∷ ps) h =
        let k = and_both (is_inner p) (list_all is_inner ps) h in
        both (not (is_lf b) && is_inner p) (list_all is_inner ps) (both (not (is_lf b)) (is_inner p) (ap not e) k.0) k.1

-- without the last byte
abbrev front : List ℕ → List ℕ
front [] = []
front (b ∷ []) = []
front (b ∷ d ∷ bs) = b ∷ front (d ∷ bs)

front_of : (p : List ℕ) → front (p ++ 10 ∷ []) ≡ p
front_of [] = refl
front_of (b ∷ []) = refl
front_of (b ∷ d ∷ bs) = ap (λ t. b ∷ t) (front_of (d ∷ bs))

between_among : (ps : List (List ℕ)) → list_all is_inner ps ≡ true → list_any is_between (with_ends ps) ≡ true → list_any is_trace (lines_of_parts ps) ≡ true
between_among [] k h = absurd (true≢false (sym h))
between_among ([] ∷ []) k h = absurd (true≢false (sym h))
between_among ((b ∷ bs) ∷ []) k h = by (is_between (b ∷ bs)) refl h
  where
    by : (t : Bool) → is_between (b ∷ bs) ≡ t → (t || false) ≡ true → list_any is_trace (lines_of_parts ((b ∷ bs) ∷ [])) ≡ true
    by false e f = absurd (true≢false (sym f))
    by true e f = absurd (true≢false (sym (and_both (is_inner (b ∷ bs)) true k).0 ∙ ap is_inner (same_name (b ∷ bs) (codes "trace\n") e)))
between_among (p ∷ q ∷ ps) k h = by (is_between (p ++ 10 ∷ [])) refl h (between_among (q ∷ ps) (and_both (is_inner p) (list_all is_inner (q ∷ ps)) k).1)
  where
    either : (a c : Bool) → c ≡ true → (a || c) ≡ true
    either true c e = refl
    either false c e = e

    by : (t : Bool) → is_between (p ++ 10 ∷ []) ≡ t → (t || list_any is_between (with_ends (q ∷ ps))) ≡ true → (list_any is_between (with_ends (q ∷ ps)) ≡ true → list_any is_trace (lines_of_parts (q ∷ ps)) ≡ true)
        → (is_trace (strip_carriage_return p) || list_any is_trace (lines_of_parts (q ∷ ps))) ≡ true
    by false e f more = either (is_trace (strip_carriage_return p)) (list_any is_trace (lines_of_parts (q ∷ ps))) (more f)
    by true e f more =
        let it : p ≡ codes "trace" = sym (front_of p) ∙ ap front (same_name (p ++ 10 ∷ []) (codes "trace\n") e) in
        ap (λ t. is_trace (strip_carriage_return t) || list_any is_trace (lines_of_parts (q ∷ ps))) it

none_between : (ls : List (List ℕ)) → list_any is_between ls ≡ false → list_all (λ l. not (is_between l)) ls ≡ true
none_between [] h = refl
none_between (l ∷ ls) h = by (is_between l) h (none_between ls)
  where
    by : (t : Bool) → (t || list_any is_between ls) ≡ false → (list_any is_between ls ≡ false → list_all (λ l. not (is_between l)) ls ≡ true) → (not t && list_all (λ l. not (is_between l)) ls) ≡ true
    by true f more = absurd (true≢false f)
    by false f more = more f

spelled_lines : (bytes : List ℕ) (c : Script) → reading mode.Replay bytes ≡ Spelled c → lines_read mode.Replay None 1 (lines bytes) ≡ Spelled c
unfolding reading
spelled_lines bytes c e = by (is_too_long bytes) e
  where
    by : (t : Bool) → (if t then Refused 0 why.TooLong else lines_read mode.Replay None 1 (lines bytes)) ≡ Spelled c → lines_read mode.Replay None 1 (lines bytes) ≡ Spelled c
    by true f = absurd (refused_spelled 0 why.TooLong c f)
    by false f = f

pub whole_script : (script : List ℕ) (c : Script) → ends_line script ≡ true → reading mode.Replay script ≡ Spelled c → is_whole script ≡ true
whole_script script c ends e = both (ends_line script) (list_all (λ l. not (is_between l)) (lines_of script)) ends (none_between (lines_of script) (by (list_any is_between (lines_of script)) refl))
  where
    by : (t : Bool) → list_any is_between (lines_of script) ≡ t → t ≡ false
    by false h = refl
    by true h =
        let there : list_any is_between (with_ends (slice_split is_lf script)) ≡ true = ap (list_any is_between) (sym (same_lines script)) ∙ h in
        absurd (line_refused None 1 (lines script) c (between_among (slice_split is_lf script) (all_inner script) there) (spelled_lines script c e))
