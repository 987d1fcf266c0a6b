-- What becomes of an order whose batch is committed and whose lines are written then, and of a text of such lines.
use Rattle.std.specs.Prelude.{◌≡◌, ◌≤◌, ℕ, ◌+◌, List, [], ◌∷◌, ◌++◌, length, take, Option, Result, Ok, Err}
use Rattle.yard_io.specs.Told.{followed_by}
use Rattle.yard_model.specs.declared.fact.Fact.{Fact}
use Rattle.yard_model.specs.Text.{Bytes}
use Rattle.disk_log.specs.Images.{Images}
use Rattle.disk_log.specs.Spelled.{SpellsPrefix, lines}
use Rattle.log_orders.specs.Orders.{batch_of, begun}
use Rattle.run_parts.specs.declared.writing.WriteError.TheVariants as error
use Rattle.run_parts.specs.Writing.{Sunk, Took, TookFront}
use Rattle.logged_lines.specs.declared.log_fault.LogError.{LogError}
use Rattle.logged_lines.specs.declared.log_fault.LogError.TheVariants as fault

-- so many bytes of an order's lines were written, and each crash leaves the batches before: and its own where any were
pub record OrderEnds (facts : List Fact) (done : List (List Fact)) (before after : Option Bytes) (images : Images) : Type 0 where
  pub count : ℕ
  pub within : count ≤ length (lines facts)
  pub taken : after ≡ followed_by before (take count (lines facts))
  pub crash : (image : List ℕ) → images.now image → SpellsPrefix (done ++ batch_of facts) (length done + begun count (facts ∷ [])) image

-- what an error says of a text: a front of it was taken; of `There`, nothing was
abbrev pub Fails : Bytes → LogError → Sunk → Sunk → Type 0
Fails text fault.Failed old new = TookFront text error.Failed old new
Fails text fault.There old new = old ≡ new
Fails text fault.Disk old new = TookFront text error.OutOfMemory old new
Fails text fault.OutOfMemory old new = TookFront text error.OutOfMemory old new

-- what an answer says of it
abbrev pub WritesLog : {A : Type 0} → Bytes → Result A LogError → Sunk → Sunk → Type 0
WritesLog text (Ok x) old new = Took text old new
WritesLog text (Err e) old new = Fails text e old new
