-- The lines of a trace's text.
use Rattle.std.specs.Prelude.{ℕ, Bool, false, ◌==◌, ◌||◌, nat_lt, List, [], ◌∷◌, length, take, codes, Option, Some, None, if◌then◌else◌}
use Rattle.yard_model.specs.declared.fact.Fact.{Fact}
use Rattle.yard_model.specs.Script.{is_name}
use Rattle.yard_model.specs.Text.{fact_line}
use Rattle.state_lines.specs.States.{told_at}

abbrev pub is_lf : ℕ → Bool
is_lf b = b == 10

-- a space or LF
abbrev pub is_stop : ℕ → Bool
is_stop b = (b == 32) || (b == 10)

-- this byte before the first line
abbrev pub before_first : ℕ → List (List ℕ) → List (List ℕ)
before_first b [] = (b ∷ []) ∷ []
before_first b (l ∷ ls) = (b ∷ l) ∷ ls

-- the lines, each with its LF; the last may have none
abbrev pub lines_of : List ℕ → List (List ℕ)
lines_of [] = []
lines_of (b ∷ bs) = if is_lf b then (b ∷ []) ∷ lines_of bs else before_first b (lines_of bs)

-- the most bytes of a line that isn't refused
abbrev pub most_of_line : ℕ
most_of_line = 4096

abbrev pub is_long : List ℕ → Bool
is_long l = nat_lt most_of_line (length l)

-- the bytes up to the first of this kind
abbrev pub up_to : (ℕ → Bool) → List ℕ → List ℕ
up_to p [] = []
up_to p (b ∷ bs) = if p b then [] else b ∷ up_to p bs

-- the bytes up to the first space or LF
abbrev pub first_word : List ℕ → List ℕ
first_word l = up_to is_stop l

-- the most bytes that an answer shows of a line
abbrev pub most_shown : ℕ
most_shown = 200

-- what an answer shows of a line: its first bytes, without its LF
abbrev pub shown : List ℕ → List ℕ
shown l = up_to is_lf (take most_shown l)

-- the first word of facts of which safety says nothing
abbrev pub is_quiet_word : List ℕ → Bool
is_quiet_word w =
    is_name w (codes "sent") || is_name w (codes "got") || is_name w (codes "at") || is_name w (codes "kept") || is_name w (codes "stashed") || is_name w (codes "home")
    || is_name w (codes "forget") || is_name w (codes "held") || is_name w (codes "view") || is_name w (codes "up") || is_name w (codes "moving") || is_name w (codes "dropped")
    || is_name w (codes "waits") || is_name w (codes "armed") || is_name w (codes "nothing") || is_name w (codes "settled") || is_name w (codes "wirefull")

-- it begins with a number sign
abbrev pub is_remark : List ℕ → Bool
is_remark [] = false
is_remark (b ∷ bs) = b == 35

-- a line that is passed over
abbrev pub is_quiet : List ℕ → Bool
is_quiet l = is_remark l || is_quiet_word (first_word l)

-- the line that ends a trace
abbrev pub is_end : List ℕ → Bool
is_end l = is_name l (codes "report\n")

-- the fact of a line, where it is what the line spells: that whose line it is
abbrev pub read_as : List ℕ → Option Fact → Option Fact
read_as l None = None
read_as l (Some f) = if is_name (fact_line f) l then Some f else None

abbrev pub read_line : List ℕ → Option Fact
read_line l = read_as l (told_at l)
