-- What became of a text of `live`: it is written in pieces, for which no memory is wanted.
use Rattle.std.specs.Prelude.{◌≡◌, ℕ, MatchResult, Result, Ok, Err}
use Rattle.yard_model.specs.Script.{Script}
use Rattle.yard_model.specs.Text.{Bytes}
use Rattle.run_parts.specs.Writing.{Sunk, Took, TookFront}
use Rattle.run_parts.specs.declared.writing.WriteError.{WriteError}
use Rattle.run_parts.specs.declared.writing.WriteError.TheVariants as write_error
use Rattle.live_run.specs.LiveText.{LiveText}

-- where the only error is a failed write: the text was taken whole, or a front of it
abbrev pub Puts : {A E : Type 0} → Bytes → Result A E → Sunk → Sunk → Type 0
Puts text r old new = MatchResult r (λ _. Took text old new) (λ _. TookFront text write_error.Failed old new)

-- one of the texts was taken whole
pub record TookLive (c : Script) (turns : ℕ) (old new : Sunk) : Type 0 where
  pub text : Bytes
  pub is_text : LiveText c turns text
  pub took : Took text old new

-- a front of one of them was taken, since a write failed
pub record BeganLive (c : Script) (turns : ℕ) (old new : Sunk) : Type 0 where
  pub text : Bytes
  pub is_text : LiveText c turns text
  pub front : TookFront text write_error.Failed old new

-- what an answer says: where there was no memory nothing was taken
abbrev pub WritesLive : {A : Type 0} → Script → ℕ → Result A WriteError → Sunk → Sunk → Type 0
WritesLive c turns (Ok x) old new = TookLive c turns old new
WritesLive c turns (Err write_error.Failed) old new = BeganLive c turns old new
WritesLive c turns (Err write_error.OutOfMemory) old new = new ≡ old
