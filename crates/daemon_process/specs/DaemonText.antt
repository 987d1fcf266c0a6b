-- What `daemon` prints: of each line of the script with an order, which instances it moved; at the end where each is.
use Rattle.std.specs.Prelude.{ℕ, Bool, true, false, ◌==◌, not, List, [], ◌∷◌, ◌++◌, fold, codes, decimal, Option, Some, None, if◌then◌else◌}
use Rattle.std.specs.List.{flat_map}
use Rattle.yard_model.specs.declared.fact.Fact.{Fact}
use Rattle.yard_model.specs.declared.fact.Fact.TheVariants as fact
use Rattle.yard_model.specs.declared.incarnation.Incarnation.{Incarnation}
use Rattle.yard_model.specs.Script.{Script}
use Rattle.yard_model.specs.Text.{Bytes, incarnation_text, line}
use Rattle.yard_model.specs.Words.{numbers, is_at}
use Rattle.yard_model.specs.World.{trace_of}
use Rattle.daemon_process.specs.Daemon.{daemon, expanded}
use Rattle.daemon_process.specs.Where.{at_of}

abbrev pub place_text : Option Incarnation → Bytes
place_text None = codes "none"
place_text (Some x) = incarnation_text x

-- `instance I X` or `instance I none`
abbrev pub instance_line : ℕ → Option Incarnation → Bytes
instance_line i x = line (codes "instance" ∷ decimal i ∷ place_text x ∷ [])

abbrev pub is_same_place : Option Incarnation → Option Incarnation → Bool
is_same_place None None = true
is_same_place None (Some y) = false
is_same_place (Some x) y = is_at x y

abbrev pub moved_line : List Fact → List Fact → ℕ → Bytes
moved_line before now i =
    let old : Option Incarnation = at_of before (daemon i) in
    let new : Option Incarnation = at_of now (daemon i) in
    if is_same_place old new then [] else instance_line i new

-- the instances that are elsewhere after these facts than before
abbrev pub moved_text : ℕ → List Fact → List Fact → Bytes
moved_text n before now = flat_map (moved_line before now) (numbers 0 n)

-- where each instance is at the end
abbrev pub end_text : ℕ → List Fact → Bytes
end_text n now = flat_map (λ i. instance_line i (at_of now (daemon i))) (numbers 0 n) ++ line (codes "end" ∷ [])

-- the text so far; the line that goes on, and the facts before its first order; the facts so far
pub record Writing : Type 0 where
  pub text : Bytes
  pub line : ℕ
  pub before : List Fact
  pub now : List Fact

abbrev pub begins_line : ℕ → Fact → Bool
begins_line l (fact.At k) = not (k == l)
begins_line l f = false

abbrev pub line_after : ℕ → Fact → ℕ
line_after l (fact.At k) = k
line_after l f = l

-- where a line begins, what the one before it moved is written, and `at LINE`
abbrev pub writing_step : ℕ → Writing → Fact → Writing
writing_step n old f =
    if begins_line old.line f
    then record {
      text = (old.text ++ moved_text n old.before old.now) ++ line (codes "at" ∷ decimal (line_after old.line f) ∷ []);
      line = line_after old.line f;
      before = old.now;
      now = old.now ++ f ∷ [];
    }
    else record { text = old.text; line = old.line; before = old.before; now = old.now ++ f ∷ [] }

abbrev pub written : ℕ → List Fact → Writing
written n trace = fold (writing_step n) (record { text = []; line = 0; before = []; now = [] }) trace

-- the text of a trace
abbrev pub text_of : ℕ → List Fact → Bytes
text_of n trace = let w : Writing = written n trace in (w.text ++ moved_text n w.before w.now) ++ end_text n w.now

-- the text of a daemon of n instances that plays this script
abbrev pub daemon_text : ℕ → Script → Bytes
daemon_text n c = text_of n (trace_of (expanded n c))
