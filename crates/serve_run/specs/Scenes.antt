-- What a run of `serve` does between two moments: groups of lines, one after the other.
use Rattle.std.specs.Prelude.{◌≡◌, ◌⊎◌, ◌≤◌, ℕ, Bool, false, ◌==◌, List, [], ◌∷◌, ◌++◌, length, map, take, Option, Some, None, IsTrue}
use Rattle.std.specs.List.{flat_map, list_all}
use Rattle.std.specs.Str.Lines.{lines}
use Rattle.yard_io.specs.Told.{count_of, followed_by}
use Rattle.yard_model.specs.declared.fact.Fact.{Fact}
use Rattle.yard_model.specs.Script.{Script}
use Rattle.yard_model.specs.Text.{Bytes}
use Rattle.disk_log.specs.Frames.{Holds}
use Rattle.disk_log.specs.Images.{Images, LeavesOnly}
use Rattle.disk_log.specs.Rest.{HoldsPrefix}
use Rattle.serve_laws.specs.Served.{Desk, answers_in, frames, served}

-- these bytes, and then what is told
abbrev pub ahead : Bytes → Option Bytes → Option Bytes
ahead bytes None = None
ahead bytes (Some xs) = Some (bytes ++ xs)

-- the last byte ends a line
abbrev pub ends_line : Bytes → Bool
ends_line [] = false
ends_line (b ∷ []) = b == 10
ends_line (b ∷ d ∷ bs) = ends_line (d ∷ bs)

-- all bytes of these groups
abbrev pub joined : List Bytes → Bytes
joined groups = flat_map (λ g. g) groups

-- the lines of each group
abbrev pub lines_in : List Bytes → List (List Bytes)
lines_in groups = map lines groups

-- LinesAddUp: the lines of groups, each of whole lines, are those of all their bytes
abbrev pub LinesAddUp : Type 0
LinesAddUp = (groups : List Bytes) → IsTrue (list_all ends_line groups) → flat_map lines groups ≡ lines (joined groups)

-- nothing is written before there are settings
abbrev pub IsBehind : Option Script → List (List Fact) → Type 0
IsBehind None log = log ≡ []
IsBehind (Some c) log = Unit {0}

abbrev pub IsBehindSettings : Desk → Type 0
IsBehindSettings d = IsBehind d.so_far d.log

-- what is so at a moment: the desk; what was read and isn't heard yet; and what source and sink tell
pub record Scene : Type 0 where
  pub desk : Desk
  pub window : Bytes
  pub left : Option Bytes
  pub taken : Option Bytes
  pub flushed : Option ℕ

abbrev pub scene : Desk → Bytes → Option Bytes → Option Bytes → Option ℕ → Scene
scene d window left taken flushed = record { desk = d; window = window; left = left; taken = taken; flushed = flushed }

-- nothing was written since, or all of it is flushed
abbrev pub IsTold : Option Bytes → Option Bytes → Option ℕ → Option ℕ → Type 0
IsTold old new was is = ((new ≡ old) × (is ≡ was)) ⊎ (is ≡ count_of new)

-- From one moment to another these bytes were read, and of what was at hand these groups were heard, each of whole lines.
-- They were answered, and the answers are flushed.
pub record Hears (a b : Scene) : Type 0 where
  pub groups : List Bytes
  pub bytes : Bytes
  pub told : a.left ≡ ahead bytes b.left
  pub cut : a.window ++ bytes ≡ joined groups ++ b.window
  pub whole : IsTrue (list_all ends_line groups)
  pub desk : b.desk ≡ served a.desk (lines_in groups)
  pub taken : b.taken ≡ followed_by a.taken (answers_in a.desk (lines_in groups))
  pub flushed : IsTold a.taken b.taken a.flushed b.flushed

-- and a crash meanwhile leaves the frames of the desk then, at least those before
pub record Goes (tells : Bool) (old new : Images) (a b : Scene) : Type 0 where
  pub hears : Hears a b
  pub moment : IsTrue tells → LeavesOnly old new (HoldsPrefix (frames b.desk) (length (frames a.desk)))

-- what a stop leaves of the groups in work: nothing of them was told, and each crash leaves the frames before, or some of theirs; or a front of the answers was written, and each crash leaves all of theirs
abbrev pub IsLeft : Desk → List (List Bytes) → Bytes → Images → Type 0
IsLeft d groups front images =
    ((front ≡ []) × ((image : Bytes) → images.now image → HoldsPrefix (frames (served d groups)) (length (frames d)) image))
    ⊎ ((image : Bytes) → images.now image → Holds (frames (served d groups)) image)

-- It halts, with at most one group in work.
pub record Halts (tells : Bool) (a : Scene) (left taken : Option Bytes) (images : Images) : Type 0 where
  pub groups : List Bytes
  pub rest : Bytes
  pub bytes : Bytes
  pub few : length groups ≤ 1
  pub told : a.left ≡ ahead bytes left
  pub cut : a.window ++ bytes ≡ joined groups ++ rest
  pub whole : IsTrue (list_all ends_line groups)
  pub count : ℕ
  pub within : count ≤ length (answers_in a.desk (lines_in groups))
  pub taken_is : taken ≡ followed_by a.taken (take count (answers_in a.desk (lines_in groups)))
  pub at_exit : IsTrue tells → IsLeft a.desk (lines_in groups) (take count (answers_in a.desk (lines_in groups))) images

-- the desk with the groups in work
abbrev pub desk_behind : Desk → List Bytes → Desk
desk_behind d groups = served d (lines_in groups)

-- It went on to some moment, and halted there.
pub record Stopped (tells : Bool) (old new : Images) (a : Scene) (left taken : Option Bytes) : Type 0 where
  pub before : Scene
  pub hears : Hears a before
  pub halts : Halts tells before left taken new
  pub moment : IsTrue tells → LeavesOnly old new (HoldsPrefix (frames (desk_behind before.desk halts.groups)) (length (frames a.desk)))
