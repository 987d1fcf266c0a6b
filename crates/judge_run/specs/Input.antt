-- A script, a line `trace`, and a trace.
use Rattle.std.specs.Prelude.{◌≡◌, ℕ, ◌+◌, ◌≤◌, Bool, true, false, ◌&&◌, not, List, [], ◌∷◌, ◌++◌, length, codes, if◌then◌else◌}
use Rattle.std.specs.List.{list_all, list_any}
use Rattle.yard_model.specs.Script.{is_name}
use Rattle.verdict_laws.specs.Lines.{is_lf, lines_of}

-- the line between them
abbrev pub is_between : List ℕ → Bool
is_between l = is_name l (codes "trace\n")

-- lines as one text
abbrev pub joined : List (List ℕ) → List ℕ
joined [] = []
joined (l ∷ ls) = l ++ joined ls

-- the lines before the first such line
abbrev pub before_it : List (List ℕ) → List ℕ
before_it [] = []
before_it (l ∷ ls) = if is_between l then [] else l ++ before_it ls

-- and those behind it
abbrev pub behind_it : List (List ℕ) → List ℕ
behind_it [] = []
behind_it (l ∷ ls) = if is_between l then joined ls else behind_it ls

abbrev pub script_in : List ℕ → List ℕ
script_in input = before_it (lines_of input)

-- there is such a line
abbrev pub has_trace : List ℕ → Bool
has_trace input = list_any is_between (lines_of input)

-- empty where there is no such line
abbrev pub trace_in : List ℕ → List ℕ
trace_in input = behind_it (lines_of input)

-- Put together: a script, the line between, and a trace.

-- the text is empty, or ends with a line's end
abbrev pub ends_line : List ℕ → Bool
ends_line [] = true
ends_line (b ∷ []) = is_lf b
ends_line (b ∷ d ∷ bs) = ends_line (d ∷ bs)

-- whole lines, none of which is the one between
abbrev pub is_whole : List ℕ → Bool
is_whole script = ends_line script && list_all (λ l. not (is_between l)) (lines_of script)

abbrev pub put_together : List ℕ → List ℕ → List ℕ
put_together script trace = script ++ (codes "trace\n" ++ trace)

-- Cut apart.

-- the line stands between these, whatever comes
pub record IsCut (input script trace : List ℕ) : Type 0 where
  pub script_is : (more : List ℕ) → script_in (input ++ more) ≡ script
  pub trace_is : (more : List ℕ) → trace_in (input ++ more) ≡ trace ++ more
  pub there : (more : List ℕ) → has_trace (input ++ more) ≡ true

-- there is no such line yet
pub record IsUncut (input : List ℕ) : Type 0 where
  pub script_is : script_in input ≡ input
  pub none : has_trace input ≡ false
  pub longer : (more : List ℕ) → length input ≤ length (script_in (input ++ more)) + 6
