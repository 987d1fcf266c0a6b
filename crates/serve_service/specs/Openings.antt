-- A log that a run goes on with, and those that it doesn't.
use Rattle.std.specs.Prelude.{◌≡◌, ◌⊎◌, ◌≤◌, ℕ, ◌+◌, Bool, List, [], ◌∷◌, ◌++◌, length, map, Some, IsTrue}
use Rattle.std.specs.List.{flat_map}
use Rattle.yard_model.specs.declared.charter.Config.{Config}
use Rattle.yard_model.specs.declared.fact.Fact.{Fact}
use Rattle.yard_model.specs.Script.{Script, is_config}
use Rattle.yard_model.specs.Text.{Bytes, line}
use Rattle.disk_log.specs.Frames.{Holds}
use Rattle.disk_log.specs.Images.{Images, LeavesOnly}
use Rattle.disk_log.specs.Rest.{HoldsPrefix}
use Rattle.disk_log.specs.Headed.{IsHeaded, IsLongHead}
use Rattle.disk_log.specs.Spelled.{AreBatches, lines}
use Rattle.log_resume.specs.Restored.{IsForeign, are_taken, entries}
use Rattle.serve_laws.specs.Hearings.{IsHeard}
use Rattle.serve_service.specs.declared.opening.Queued.{Queued}
use Rattle.serve_service.specs.declared.opening.Queued.TheVariants as queued
use Rattle.serve_laws.specs.Restarts.{HoldsDesk}
use Rattle.serve_laws.specs.Served.{Desk, config_words, desk_of, empty_desk, frames, grouped}
use Rattle.serve_laws.specs.Queues.{sends_of}
use Rattle.serve_laws.specs.Servings.{IsDesk, IsDone}

-- a script with what these entries queue
abbrev pub with_queued : Script → List Fact → Script
with_queued c facts = record { config = c.config; orders = c.orders ++ flat_map sends_of facts }

-- what entries queue, under these settings
abbrev pub script_of : Config → List Fact → Script
script_of config facts = record { config = config; orders = flat_map sends_of facts }

-- the settings' line, as it stands at a log's head
abbrev pub head_line : Config → Bytes
head_line config = line (config_words config)

-- the texts of a log that begins with this head and has these batches
abbrev pub texts_of : Bytes → List (List Fact) → List Bytes
texts_of head batches = head ∷ map lines batches

-- The desk that a log says: its settings, what its batches queue, and these, which may stand behind one another. None where it has no frame.
pub record IsFound (d : Desk) : Type 0 where
  pub desk : (d ≡ empty_desk) ⊎ ((config : Config) × (log : List (List Fact)) × (d ≡ desk_of config log) × IsTrue (is_config config) × AreBatches log)
  pub is_desk : IsDesk d

-- The log was opened, and what it left to do was carried out; a crash meanwhile leaves the frames that one might have left before, or more.
pub record Begins (tells : Bool) (content : Bytes) (old new : Images) (d : Desk) : Type 0 where
  pub found : Desk
  pub is_found : IsFound found
  pub holds : IsTrue tells → HoldsDesk found content
  pub desk : d ≡ grouped found []
  pub done : IsDone d.so_far d.log
  pub moment : IsTrue tells → (n : ℕ) → n ≤ length (frames found) → ((image : Bytes) → old.now image → HoldsPrefix (frames found) n image) → LeavesOnly old new (HoldsPrefix (frames d) n)

-- a crash leaves no more and no less than before, of whatever frames the disk has
abbrev pub Stays : Bytes → Images → Images → Type 0
Stays content old new = (texts : List Bytes) (n : ℕ) → Holds texts content → n ≤ length texts → ((image : Bytes) → old.now image → HoldsPrefix texts n image) → LeavesOnly old new (HoldsPrefix texts n)

-- it couldn't be opened, or what it left to do couldn't be carried out
abbrev pub LeftBy : Bool → Bytes → Images → Images → Type 0
LeftBy tells content old new = Stays content old new ⊎ ((d : Desk) × Begins tells content old new d)

-- behind this head these batches have a frame, from 1 and counted with the head, that no run of `serve` leaves
abbrev pub IsForeignBehind : Bytes → List (List Fact) → ℕ → Type 0
IsForeignBehind head batches frame =
    ((frame ≡ 1) × ((config : Config) → head ≡ head_line config → IsTrue (is_config config) → ⊥))
    ⊎ ((config : Config) × (head ≡ head_line config) × IsTrue (is_config config) × (k : ℕ) × (frame ≡ k + 1)
    × ((IsHeard (script_of config (entries batches)) → ⊥) ⊎ IsForeign (script_of config (entries batches)) batches k))

-- a log with a frame that no run of `serve` leaves: of its head alone, where that is long, or of head and batches
abbrev pub IsForeignFrame : Bool → Bytes → ℕ → Type 0
IsForeignFrame tells content frame =
    ((frame ≡ 1) × (IsTrue tells → IsLongHead content))
    ⊎ ((head : Bytes) × (batches : List (List Fact)) × (IsTrue tells → Holds (head ∷ map lines batches) content) × IsHeaded (Some head) batches × IsForeignBehind head batches frame)

-- the books of a log that begins with this head and has these batches, with what it left to do carried out
pub record IsSaid (head : Bytes) (batches : List (List Fact)) (d : Desk) : Type 0 where
  pub config : Config
  pub head_is : head ≡ head_line config
  pub valid : IsTrue (is_config config)
  pub heard : IsHeard (script_of config (entries batches))
  pub taken : IsTrue (are_taken (script_of config (entries batches)) (entries batches))
  pub desk : d ≡ grouped (desk_of config batches) []

-- what a crash leaves was there before, or some of the frames with what was left to do carried out, and no fewer than before
abbrev pub LeftOff : Bytes → List (List Fact) → Images → Images → Type 0
LeftOff head batches old new = LeavesOnly old new old.now ⊎ ((d : Desk) × IsSaid head batches d × LeavesOnly old new (HoldsPrefix (frames d) (length batches + 1)))

-- all that these batches queue is a script that was heard, or with some batch it isn't
abbrev pub QueuedIn : Config → List (List Fact) → Queued → Type 0
QueuedIn config batches (queued.All desk) = desk ≡ script_of config (entries batches)
QueuedIn config batches (queued.Refused k) = (k ≤ length batches) × (IsHeard (script_of config (entries batches)) → ⊥)
