-- What became of the text of a form.
use Rattle.std.specs.Prelude.{◌≡◌, ◌≤◌, Result, Ok, Err}
use Rattle.yard_model.specs.Script.{Script}
use Rattle.yard_model.specs.Text.{Bytes}
use Rattle.yard_top.specs.Ends.{IsText}
use Rattle.run_parts.specs.Writing.{Sunk, Took, TookFront}
use Rattle.program_words.specs.declared.forms.Form.{Form}
use Rattle.program_words.specs.declared.forms.Form.TheVariants as form
use Rattle.run_parts.specs.declared.writing.WriteError.{WriteError}
use Rattle.run_parts.specs.declared.writing.WriteError.TheVariants as error

-- it was taken whole
pub record TookText (f : Form) (c : Script) (old new : Sunk) : Type 0 where
  pub text : Bytes
  pub is_text : IsText f c text
  pub took : Took text old new

-- a front of it was taken
pub record TookSome (f : Form) (c : Script) (e : WriteError) (old new : Sunk) : Type 0 where
  pub text : Bytes
  pub is_text : IsText f c text
  pub front : TookFront text e old new

-- nothing was taken
pub record TookNone (old new : Sunk) : Type 0 where
  pub taken_is : new.taken ≡ old.taken
  pub flushed_is : new.flushed ≡ old.flushed
  pub faults_are : old.faults ≤ new.faults

-- there was no memory: a front was taken, and of `live`, `resume` and `apply` nothing
abbrev pub RanOut : Form → Script → Sunk → Sunk → Type 0
RanOut (form.Live n s) c old new = TookNone old new
RanOut form.Resume c old new = TookNone old new
RanOut form.Apply c old new = TookNone old new
RanOut f c old new = TookSome f c error.OutOfMemory old new

-- what an answer says
abbrev pub Gives : {A : Type 0} → Form → Script → Result A WriteError → Sunk → Sunk → Type 0
Gives f c (Ok x) old new = TookText f c old new
Gives f c (Err error.Failed) old new = TookSome f c error.Failed old new
Gives f c (Err error.OutOfMemory) old new = RanOut f c old new
