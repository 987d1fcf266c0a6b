-- A text that is written in parts: how a sink stands between two of them, and what became of a part.
use Rattle.std.specs.Prelude.{◌≡◌, ◌≤◌, ◌<◌, ℕ, Option, Result, Ok, Err}
use Rattle.yard_io.specs.Told.{followed_by, TakesFront}
use Rattle.yard_model.specs.Text.{Bytes}
use Rattle.run_parts.specs.declared.writing.WriteError.{WriteError}
use Rattle.run_parts.specs.declared.writing.WriteError.TheVariants as error

-- what a sink has taken and flushed, where it tells, and its faults so far
pub record Sunk : Type 0 where
  pub taken : Option Bytes
  pub flushed : Option ℕ
  pub faults : ℕ

abbrev pub IfFailed : WriteError → Type 0 → Type 0
IfFailed error.Failed P = P
IfFailed error.OutOfMemory P = Unit {0}

-- a text was taken whole
pub record Took (text : Bytes) (old new : Sunk) : Type 0 where
  pub taken_is : new.taken ≡ followed_by old.taken text
  pub flushed_is : new.flushed ≡ old.flushed
  pub faults_are : old.faults ≤ new.faults

-- a front of it was taken, since a write failed or there was no memory
pub record TookFront (text : Bytes) (e : WriteError) (old new : Sunk) : Type 0 where
  pub front : TakesFront old.taken new.taken text
  pub flushed_is : new.flushed ≡ old.flushed
  pub faults_are : old.faults ≤ new.faults
  pub cause : IfFailed e (old.faults < new.faults)

-- what an answer says of the text
abbrev pub Writes : {A : Type 0} → Bytes → Result A WriteError → Sunk → Sunk → Type 0
Writes text (Ok x) old new = Took text old new
Writes text (Err e) old new = TookFront text e old new
