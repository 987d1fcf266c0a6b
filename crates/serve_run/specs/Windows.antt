-- What is at hand of the input.
use Rattle.std.specs.Prelude.{◌≡◌, ◌<◌, ◌≤◌, ℕ, Bool, ◌==◌, [], ◌∷◌, ◌++◌, length, take, Option, Some, None, IsTrue}
use Rattle.std.specs.List.{position}
use Rattle.std.specs.Str.Lines.{lines}
use Rattle.yard_model.specs.Text.{Bytes}
use Rattle.serve_run.specs.Scenes.{ahead, ends_line}

abbrev pub is_lf : ℕ → Bool
is_lf b = b == 10

-- the bytes that are left, where they are told
abbrev pub left_of : Option Bytes → Bytes
left_of None = []
left_of (Some xs) = xs

-- so many bytes came, behind these; none came at the end alone
pub record Came (old new : Bytes) (count : ℕ) (had has : Option Bytes) : Type 0 where
  pub bytes : Bytes
  pub behind : new ≡ old ++ bytes
  pub told : had ≡ ahead bytes has
  pub end : count ≡ 0 → (bytes ≡ []) × (left_of has ≡ [])

-- bytes may have been read, and are lost
pub record Lost (had has : Option Bytes) : Type 0 where
  pub bytes : Bytes
  pub told : had ≡ ahead bytes has

-- the first n bytes are whole lines, of which there is one alone where each is to be
pub record IsGroup (alone : Bool) (bytes : Bytes) (n : ℕ) : Type 0 where
  pub some : 0 < n
  pub within : n ≤ length bytes
  pub ends : IsTrue (ends_line (take n bytes))
  pub one : IsTrue alone → (l : Bytes) × (lines (take n bytes) ≡ l ∷ [])

-- the first n bytes are there, and end no line
pub record IsPlain (bytes : Bytes) (n : ℕ) : Type 0 where
  pub within : n ≤ length bytes
  pub none : position is_lf (take n bytes) ≡ None
