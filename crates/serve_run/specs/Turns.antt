-- A run from its beginning to where it is over.
use Rattle.std.specs.Prelude.{◌≡◌, ℕ, Bool, [], Option, None, IsTrue}
use Rattle.std.specs.List.{position}
use Rattle.yard_model.specs.Text.{Bytes}
use Rattle.disk_log.specs.Frames.{Holds}
use Rattle.disk_log.specs.Images.{Images}
use Rattle.serve_laws.specs.Served.{Desk, frames}
use Rattle.serve_run.specs.Scenes.{Goes, Scene, scene}
use Rattle.serve_run.specs.Windows.{is_lf, left_of}

-- the input has ended, and no whole line is left of it
pub record AtEnd (window : Bytes) (left : Option Bytes) : Type 0 where
  pub none_left : left_of left ≡ []
  pub no_line : position is_lf window ≡ None

-- each crash leaves the frames of this desk, and no others
abbrev pub IsDurable : Bool → Desk → Images → Type 0
IsDurable tells d images = IsTrue tells → (image : Bytes) → images.now image → Holds (frames d) image

-- It came to the end: all whole lines of the input were heard, and each crash leaves the frames of the desk then.
pub record IsOver (tells : Bool) (old new : Images) (a : Scene) (left taken : Option Bytes) (flushed : Option ℕ) : Type 0 where
  pub desk : Desk
  pub window : Bytes
  pub goes : Goes tells old new a (scene desk window left taken flushed)
  pub end : AtEnd window left
  pub durable : IsDurable tells desk new
