-- A log that has a head: its first text is no batch.
use Rattle.std.specs.Prelude.{◌<◌, ◌≡◌, ◌≤◌, ◌⊎◌, ℕ, ◌+◌, List, [], ◌∷◌, ◌++◌, length, map, drop, Bool, IsTrue, Option, Some, None}
use Rattle.yard_model.specs.declared.fact.Fact.{Fact}
use Rattle.disk_log.specs.Frames.{framed, IsText}
use Rattle.disk_log.specs.Spelled.{lines, AreBatches, Opens, IsUnfollowed}
use Rattle.disk_log.specs.Window.{Ahead, IsAhead}

-- its texts
abbrev pub headed_texts : Option (List ℕ) → List (List Fact) → List (List ℕ)
headed_texts None batches = map lines batches
headed_texts (Some head) batches = head ∷ map lines batches

-- what may be a head
pub record IsHead (head : List ℕ) : Type 0 where
  pub text : IsText head
  pub few : length head ≤ 1024

-- what may be a log with a head
abbrev pub IsHeaded : Option (List ℕ) → List (List Fact) → Type 0
IsHeaded None batches = batches ≡ []
IsHeaded (Some head) batches = IsHead head × AreBatches batches

-- at the front a text of more than 1,024 bytes stands behind an open gate
pub record IsLongHead (image : List ℕ) : Type 0 where
  pub text : List ℕ
  pub rest : List ℕ
  pub text_is : IsText text
  pub long : 1024 < length text
  pub opens : Opens (text ∷ []) image rest

-- no whole text and next gate stand there
abbrev pub IsTextless : List ℕ → Type 0
IsTextless bytes = (text behind : List ℕ) → IsText text → 0 < length behind → bytes ≡ framed text ++ behind → ⊥

-- The image has two bytes or more, and at the front an open gate that no whole text and next gate follow.
pub record IsHeadless (image : List ℕ) : Type 0 where
  pub gate : ℕ
  pub rest : List ℕ
  pub bytes : image ≡ gate ∷ rest
  pub is_open : 0 < gate
  pub long : 1 < length image
  pub textless : IsTextless rest

-- Behind a head and whole batches, at this place, stands an open gate that no whole batch and next gate follow.
pub record IsDamagedBehind (image : List ℕ) (at : ℕ) : Type 0 where
  pub head : List ℕ
  pub head_is : IsHead head
  pub batches : List (List Fact)
  pub batches_are : AreBatches batches
  pub gate : ℕ
  pub rest : List ℕ
  pub opens : Opens (headed_texts (Some head) batches) image (gate ∷ rest)
  pub is_open : 0 < gate
  pub place : at + length (gate ∷ rest) ≡ length image
  pub unfollowed : IsUnfollowed rest

-- at the front there is no whole head, or at this place behind it no whole batch
abbrev pub IsHeadDamaged : List ℕ → ℕ → Type 0
IsHeadDamaged image at = ((at ≡ 0) × IsHeadless image) ⊎ IsDamagedBehind image at

-- the head was read, and a gate is to be read
pub record HeadRead (tells : Bool) (content : List ℕ) (w : Ahead) (head : List ℕ) : Type 0 where
  pub head_is : IsHead head
  pub ahead : IsAhead tells content w
  pub there : w.place < w.size
  pub place : w.place ≡ length head + 5
  pub opens : IsTrue tells → Opens (head ∷ []) content (drop w.place content)

-- an open gate stands at the front
pub record IsOpenFront (content : List ℕ) : Type 0 where
  pub gate : ℕ
  pub is_open : 0 < gate
  pub front : content ≡ gate ∷ drop 1 content
