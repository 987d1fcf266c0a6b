-- What the log alone says is what was accepted.
use Rattle.std.specs.Prelude.{◌≡◌, ℕ, List, length, Option, Some, None}
use Rattle.std.specs.List.{list_any}
use Rattle.yard_model.specs.Script.{Script, is_pair, names_in, pairs_in, sends}
use Rattle.yard_model.specs.declared.fact.Fact.{Fact}
use Rattle.disk_log.specs.Frames.{Holds}
use Rattle.disk_log.specs.Spelled.{AreBatches}
use Rattle.serve_laws.specs.Hearing.{after_all, answers_all}
use Rattle.serve_laws.specs.Served.{Desk, answers, found, frames, grouped}
use Rattle.serve_laws.specs.Servings.{IsDesk, IsDone}

-- the same settings, sends of each producer and names, and as many pairs and orders, whatever the order of two producers' sends
pub record IsAlike (c d : Script) : Type 0 where
  pub config : d.config ≡ c.config
  pub sends : (p : ℕ) → sends d p ≡ sends c p
  pub names : names_in d.orders ≡ names_in c.orders
  pub pairs : length (pairs_in d.orders) ≡ length (pairs_in c.orders)
  pub known : (p : ℕ) (e : List ℕ) → list_any (is_pair p e) (pairs_in d.orders) ≡ list_any (is_pair p e) (pairs_in c.orders)
  pub orders : length d.orders ≡ length c.orders

abbrev pub AreAlike : Option Script → Option Script → Type 0
AreAlike None None = Unit {0}
AreAlike (Some c) (Some d) = IsAlike c d
AreAlike a b = ⊥

-- such scripts answer all lines alike, and stay so
abbrev pub AlikeHearAlike : Type 0
AlikeHearAlike = (c d : Script) (ls : List (List ℕ)) → IsAlike c d → (answers_all (Some d) ls ≡ answers_all (Some c) ls) × AreAlike (after_all (Some c) ls) (after_all (Some d) ls)

abbrev pub desk_with : Script → List (List Fact) → Desk
desk_with c log = record { so_far = Some c; log = log }

-- over the same log, what a group is told and what is written for it are the same to the byte
abbrev pub AlikeServeAlike : Type 0
AlikeServeAlike = (c d : Script) (log : List (List Fact)) (ls : List (List ℕ)) → IsAlike c d → (answers (desk_with d log) ls ≡ answers (desk_with c log) ls) × ((grouped (desk_with d log) ls).log ≡ (grouped (desk_with c log) ls).log)

-- RestartIsSame: the desk that a run finds hears every line as the desk that was left, where nothing was left to do
abbrev pub RestartIsSame : Type 0
RestartIsSame = (d : Desk) → IsDesk d → IsDone d.so_far d.log → AreAlike d.so_far (found d).so_far

-- and it is a desk with nothing left to do: so no log that was left is refused
abbrev pub FoundIsDesk : Type 0
FoundIsDesk = (d : Desk) → IsDesk d → IsDone d.so_far d.log → IsDesk (found d) × IsDone (found d).so_far (found d).log

-- Images.

-- an image holds a desk: the text of its settings, and of batches as a log can have them
pub record HoldsDesk (d : Desk) (image : List ℕ) : Type 0 where
  pub texts : Holds (frames d) image
  pub batches : AreBatches d.log

-- OneDesk: so it tells one desk that is found in it
abbrev pub OneDesk : Type 0
OneDesk = (a b : Desk) (image : List ℕ) → IsDesk a → IsDesk b → HoldsDesk a image → HoldsDesk b image → found a ≡ found b
