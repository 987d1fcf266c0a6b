-- How batches are kept: all facts in one list, and where each batch ends in it.
use Rattle.std.specs.Prelude.{◌≡◌, ◌<◌, ◌≤◌, ℕ, ◌+◌, ◌-◌, ◌^◌, Bool, List, [], ◌∷◌, ◌++◌, length, take, drop, IsTrue}
use Rattle.yard_model.specs.declared.fact.Fact.{Fact}
use Rattle.disk_log.specs.Spelled.{AreBatches}
use Rattle.disk_log.specs.Window.{Ahead, ReadBatch, ReadFacts}

-- the batches that end at these places, from this place on
abbrev pub cut : ℕ → List ℕ → List Fact → List (List Fact)
cut from [] facts = []
cut from (end ∷ ends) facts = take (end - from) (drop from facts) ∷ cut end ends facts

-- these places rise, from this one to that
abbrev pub AreEnds : ℕ → List ℕ → ℕ → Type 0
AreEnds from [] to = from ≡ to
AreEnds from (end ∷ ends) to = (from ≤ end) × AreEnds end ends to

-- these facts are the batches that end at these places
pub record AreKept (ends : List ℕ) (facts : List Fact) : Type 0 where
  pub rise : AreEnds 0 ends (length facts)
  pub batches : AreBatches (cut 0 ends facts)
  pub few : length ends < 2 ^ 32

-- the entries of a text of n bytes were read, and stand behind those before
pub record ReadMore (tells : Bool) (content : List ℕ) (n : ℕ) (old new : Ahead) (facts more : List Fact) : Type 0 where
  pub read : List Fact
  pub more_are : more ≡ facts ++ read
  pub are : ReadFacts tells content n old new read

-- a batch was read, and its entries stand behind those before
pub record BatchMore (tells : Bool) (content : List ℕ) (old new : Ahead) (facts more : List Fact) : Type 0 where
  pub read : List Fact
  pub more_are : more ≡ facts ++ read
  pub are : ReadBatch tells content old new read

-- a closed gate stood there
pub record ClosedMore (tells : Bool) (content : List ℕ) (old new : Ahead) (facts more : List Fact) : Type 0 where
  pub same : more ≡ facts
  pub place : new.place ≡ old.place
  pub gate : IsTrue tells → (rest : List ℕ) × (drop old.place content ≡ 0 ∷ rest)

-- an open one, and a batch behind it, whose entries stand behind those before
pub record OpenedMore (tells : Bool) (content : List ℕ) (old new : Ahead) (facts more : List Fact) : Type 0 where
  pub batch : BatchMore tells content old new facts more
  pub gate : IsTrue tells → (gate : ℕ) × (0 < gate) × (drop old.place content ≡ gate ∷ drop (old.place + 1) content)
