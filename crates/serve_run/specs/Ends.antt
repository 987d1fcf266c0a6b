-- How a run of `serve` may end, and what each end says.
use Rattle.std.specs.Prelude.{◌≡◌, ◌<◌, ◌≤◌, ◌⊎◌, ℕ, Bool, List, [], ◌++◌, length, take, Option, IsTrue}
use Rattle.yard_io.specs.Told.{followed_by}
use Rattle.yard_model.specs.Text.{Bytes}
use Rattle.disk_log.specs.Headed.{IsHeadDamaged}
use Rattle.disk_log.specs.Images.{Images, LeavesOnly}
use Rattle.disk_log.specs.Rest.{HoldsPrefix}
use Rattle.serve_laws.specs.Restarts.{HoldsDesk}
use Rattle.serve_laws.specs.Served.{Desk, answers_in, frames, grouped, served}
use Rattle.serve_laws.specs.Servings.{IsDesk, IsDone}
use Rattle.serve_service.specs.Openings.{IsForeignFrame, IsFound, LeftBy, Stays}
use Rattle.serve_run.specs.Scenes.{Halts, Hears, IsLeft, Scene, ahead, desk_behind, joined, lines_in, scene}
use Rattle.serve_run.specs.Turns.{AtEnd, IsDurable}
use Rattle.serve_run.specs.declared.status.Status.{Status}
use Rattle.serve_run.specs.declared.status.Status.TheVariants as status

-- what source, sink and disk tell
pub record Sides : Type 1 where
  pub left : Option Bytes
  pub taken : Option Bytes
  pub flushed : Option ℕ
  pub content : Bytes
  pub images : Images

abbrev pub sides : Option Bytes → Option Bytes → Option ℕ → Bytes → Images → Sides
sides left taken flushed content images = record { left = left; taken = taken; flushed = flushed; content = content; images = images }

-- the log was opened: what it said, and with what it left to do carried out
pub record Starts (tells : Bool) (content : Bytes) (d : Desk) : Type 0 where
  pub found : Desk
  pub is_found : IsFound found
  pub holds : IsTrue tells → HoldsDesk found content
  pub desk : d ≡ grouped found []
  pub done : IsDone d.so_far d.log

-- a crash meanwhile leaves the frames of the last desk, at least so many as one might have left before
abbrev pub LeavesUpTo : Bool → Desk → Desk → Images → Images → Type 0
LeavesUpTo tells found last old new =
    IsTrue tells → (n : ℕ) → n ≤ length (frames found) → ((image : Bytes) → old.now image → HoldsPrefix (frames found) n image) → LeavesOnly old new (HoldsPrefix (frames last) n)

-- the input was served to its end
pub record ServedAll (tells : Bool) (old new : Sides) : Type 0 where
  pub started : Desk
  pub starts : Starts tells old.content started
  pub desk : Desk
  pub window : Bytes
  pub hears : Hears (scene started [] old.left old.taken old.flushed) (scene desk window new.left new.taken new.flushed)
  pub end : AtEnd window new.left
  pub durable : IsDurable tells desk new.images
  pub moment : LeavesUpTo tells starts.found desk old.images new.images

-- or up to some group
pub record ServedSome (tells : Bool) (old new : Sides) : Type 0 where
  pub started : Desk
  pub starts : Starts tells old.content started
  pub before : Scene
  pub hears : Hears (scene started [] old.left old.taken old.flushed) before
  pub halts : Halts tells before new.left new.taken new.images
  pub moment : LeavesUpTo tells starts.found (desk_behind before.desk halts.groups) old.images new.images

-- or the log wasn't opened: nothing was read or written
pub record Unopened (tells : Bool) (old new : Sides) : Type 0 where
  pub unread : new.left ≡ old.left
  pub unwritten : new.taken ≡ old.taken
  pub left : IsTrue tells → LeftBy tells old.content old.images new.images

abbrev pub EndsAs : Bool → Sides → Sides → Status → Type 0
EndsAs tells old new status.Served = ServedAll tells old new
EndsAs tells old new status.Usage = ⊥
EndsAs tells old new status.ReadFault = ServedSome tells old new
EndsAs tells old new status.WriteFault = ServedSome tells old new
EndsAs tells old new status.OutOfMemory = ServedSome tells old new ⊎ Unopened tells old new
EndsAs tells old new status.DiskFault = ServedSome tells old new ⊎ Unopened tells old new
EndsAs tells old new (status.LogDamaged at) = (IsTrue tells → IsHeadDamaged old.content at) × Unopened tells old new
EndsAs tells old new (status.LogForeign frame) = IsForeignFrame tells old.content frame × Unopened tells old new

-- whose faults rose
abbrev pub Rose : Status → ℕ → ℕ → ℕ → ℕ → ℕ → ℕ → Type 0
Rose status.ReadFault source source' sink sink' disk disk' = source < source'
Rose status.WriteFault source source' sink sink' disk disk' = sink < sink'
Rose status.DiskFault source source' sink sink' disk disk' = disk < disk'
Rose s source source' sink sink' disk disk' = Unit {0}

-- some of the input was read, of which these groups are whole lines
pub record AreOf (old new : Option Bytes) (groups : List Bytes) : Type 0 where
  pub bytes : Bytes
  pub rest : Bytes
  pub told : old ≡ ahead bytes new
  pub cut : bytes ≡ joined groups ++ rest

-- Any crash leaves what one might have left before; or the frames of the desk that the log said, with those that some of the groups lead to.
abbrev pub AnyMoment : Bool → Sides → Sides → Type 0
AnyMoment tells old new =
    Stays old.content old.images new.images
    ⊎ ((found : Desk) × IsFound found × HoldsDesk found old.content × (groups : List Bytes) × AreOf old.left new.left groups
    × ((n : ℕ) → n ≤ length (frames found) → ((image : Bytes) → old.images.now image → HoldsPrefix (frames found) n image)
    → LeavesOnly old.images new.images (HoldsPrefix (frames (served (grouped found []) (lines_in groups))) n)))

-- At the end, of the groups all but the last are on the disk whatever a crash takes, and were answered; and where a byte of an answer to the last was written, so is that.
pub record AtExitOf (tells : Bool) (old new : Sides) : Type 0 where
  pub found : Desk
  pub is_found : IsFound found
  pub holds : HoldsDesk found old.content
  pub groups : List Bytes
  pub last : List Bytes
  pub few : length last ≤ 1
  pub are : AreOf old.left new.left (groups ++ last)
  pub count : ℕ
  pub taken : let d : Desk = served (grouped found []) (lines_in groups) in
      new.taken ≡ followed_by old.taken (answers_in (grouped found []) (lines_in groups) ++ take count (answers_in d (lines_in last)))
  pub left : let d : Desk = served (grouped found []) (lines_in groups) in IsLeft d (lines_in last) (take count (answers_in d (lines_in last))) new.images

abbrev pub AtExit : Bool → Sides → Sides → Type 0
AtExit tells old new = (new.taken ≡ old.taken) ⊎ AtExitOf tells old new

-- a disk that a run of `serve` left, or an empty one, is served to the end of the input
abbrev pub IsComplete : Bytes → Status → Type 0
IsComplete content s = (d : Desk) → IsDesk d → IsDone d.so_far d.log → HoldsDesk d content → (s ≡ status.Served) ⊎ (s ≡ status.OutOfMemory)
