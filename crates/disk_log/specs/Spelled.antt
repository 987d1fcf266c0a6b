-- What an image spells: batches of entries, each text the lines of its facts.
use Rattle.std.specs.Prelude.{◌<◌, ◌≡◌, ◌≤◌, ℕ, ◌+◌, ◌^◌, List, [], ◌∷◌, ◌++◌, length, map, take, true}
use Rattle.std.specs.List.{flat_map, list_all}
use Rattle.yard_model.specs.declared.fact.Fact.{Fact}
use Rattle.yard_model.specs.Text.{fact_line}
use Rattle.disk_log.specs.Frames.{framed, Holds}
use Rattle.fact_lines.specs.Entry.{is_entry}

-- the lines of facts
abbrev pub lines : List Fact → List ℕ
lines facts = flat_map fact_line facts

-- what may be a batch: entries, with a text of 1 to 2^32 - 1 bytes
pub record IsBatch (facts : List Fact) : Type 0 where
  pub entries : list_all is_entry facts ≡ true
  pub some : 0 < length (lines facts)
  pub fits : length (lines facts) < 2 ^ 32

abbrev pub AreBatches : List (List Fact) → Type 0
AreBatches [] = Unit {0}
AreBatches (facts ∷ batches) = IsBatch facts × AreBatches batches

-- the image spells these batches
pub record Spells (image : List ℕ) (batches : List (List Fact)) : Type 0 where
  pub batches_are : AreBatches batches
  pub texts : Holds (map lines batches) image

-- texts behind open gates, and then this rest
abbrev pub Opens : List (List ℕ) → List ℕ → List ℕ → Type 0
Opens [] bytes rest = bytes ≡ rest
Opens (text ∷ texts) bytes rest = (gate : ℕ) × (more : List ℕ) × (0 < gate) × (bytes ≡ gate ∷ (framed text ++ more)) × Opens texts more rest

-- a whole batch stands behind a gate, and a next gate behind that
pub record IsFollowed (bytes : List ℕ) (facts : List Fact) (behind : List ℕ) : Type 0 where
  pub batch : IsBatch facts
  pub frame : bytes ≡ framed (lines facts) ++ behind
  pub gate : 0 < length behind

abbrev pub IsUnfollowed : List ℕ → Type 0
IsUnfollowed bytes = (facts : List Fact) (behind : List ℕ) → IsFollowed bytes facts behind → ⊥

-- The image has two bytes or more, and behind whole batches, at this place, an open gate that no whole batch and
-- next gate follow.
pub record IsDamaged (image : List ℕ) (at : ℕ) : Type 0 where
  pub batches : List (List Fact)
  pub batches_are : AreBatches batches
  pub gate : ℕ
  pub rest : List ℕ
  pub opens : Opens (map lines batches) image (gate ∷ rest)
  pub is_open : 0 < gate
  pub place : at + length (gate ∷ rest) ≡ length image
  pub long : 1 < length image
  pub unfollowed : IsUnfollowed rest

-- the image spells the first batches, and at least so many
pub record SpellsPrefix (batches : List (List Fact)) (least : ℕ) (image : List ℕ) : Type 0 where
  pub count : ℕ
  pub at_least : least ≤ count
  pub at_most : count ≤ length batches
  pub spells : Spells image (take count batches)
