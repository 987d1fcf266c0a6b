-- Bytes of a disk that were read ahead, and what reading does.
use Rattle.std.specs.Prelude.{◌≡◌, ◌<◌, ◌≤◌, ◌⊎◌, ℕ, ◌+◌, ◌^◌, List, [], ◌∷◌, ◌++◌, length, take, drop, Bool, true, IsTrue}
use Rattle.std.specs.Int.{w32, to_be_bytes}
use Rattle.std.specs.List.{list_all}
use Rattle.yard_model.specs.declared.fact.Fact.{Fact}
use Rattle.yard_model.specs.Text.{fact_line}
use Rattle.fact_lines.specs.Entries.{Took}
use Rattle.fact_lines.specs.Entry.{is_entry}
use Rattle.disk_log.specs.Frames.{framed}
use Rattle.disk_log.specs.Images.{Images, SameNow, Elapses}
use Rattle.disk_log.specs.Spelled.{lines, IsBatch, IsUnfollowed}

pub record Ahead : Type 0 where
  pub size : ℕ  -- how many bytes the disk has
  pub place : ℕ  -- where on it these stand
  pub bytes : List ℕ

-- they stand there, where the disk tells its bytes
pub record IsAhead (tells : Bool) (content : List ℕ) (w : Ahead) : Type 0 where
  pub within : w.place + length w.bytes ≤ w.size
  pub size : IsTrue tells → w.size ≡ length content
  pub front : IsTrue tells → (rest : List ℕ) × (drop w.place content ≡ w.bytes ++ rest)

-- what a call that only reads does to a disk
pub record IsUntouched (content after : List ℕ) (old new : Images) : Type 0 where
  pub bytes : after ≡ content
  pub now : SameNow old new
  pub time : Elapses old new

-- more bytes are at hand
pub record Came (tells : Bool) (content : List ℕ) (count : ℕ) (old new : Ahead) : Type 0 where
  pub ahead : IsAhead tells content new
  pub size : new.size ≡ old.size
  pub place : new.place ≡ old.place
  pub length_is : length new.bytes ≡ length old.bytes + count
  pub some : IsTrue tells → 0 < count

-- so many bytes are at hand, or all that are left
pub record Filled (tells : Bool) (content : List ℕ) (want : ℕ) (old new : Ahead) : Type 0 where
  pub ahead : IsAhead tells content new
  pub size : new.size ≡ old.size
  pub place : new.place ≡ old.place
  pub enough : IsTrue tells → (want ≤ length new.bytes) ⊎ (new.size ≤ new.place + length new.bytes)

-- one more entry was taken, whose line has so many bytes and stands at the front
pub record TookFront (bytes : List ℕ) (old new : List Fact) (used : ℕ) : Type 0 where
  pub rest : List ℕ
  pub took : Took bytes old new rest
  pub used_is : used + length rest ≡ length bytes

-- one more entry was read
pub record Passed (tells : Bool) (content : List ℕ) (left used : ℕ) (old new : Ahead) (facts more : List Fact) : Type 0 where
  pub fact : Fact
  pub entry : is_entry fact ≡ true
  pub facts_are : more ≡ facts ++ fact ∷ []
  pub used_is : used ≡ length (fact_line fact)
  pub some : 0 < used
  pub fits : used ≤ left
  pub ahead : IsAhead tells content new
  pub size : new.size ≡ old.size
  pub place : new.place ≡ old.place + used
  pub line : IsTrue tells → drop old.place content ≡ fact_line fact ++ drop new.place content

-- the entries of a text of n bytes were read
pub record ReadFacts (tells : Bool) (content : List ℕ) (n : ℕ) (old new : Ahead) (facts : List Fact) : Type 0 where
  pub entries : list_all is_entry facts ≡ true
  pub text_size : length (lines facts) ≡ n
  pub ahead : IsAhead tells content new
  pub size : new.size ≡ old.size
  pub place : new.place ≡ old.place + n
  pub text : IsTrue tells → drop old.place content ≡ lines facts ++ drop new.place content

-- the length of a text stands behind the gate at the front, and there is room for the text and a gate
pub record IsSize (bytes : List ℕ) (left n : ℕ) : Type 0 where
  pub long : 5 ≤ length bytes
  pub some : 0 < n
  pub fits : n < 2 ^ 32
  pub room : n + 5 < left
  pub says : take 4 (drop 1 bytes) ≡ to_be_bytes w32 n

-- a batch was read, behind the gate where the bytes stood
pub record ReadBatch (tells : Bool) (content : List ℕ) (old new : Ahead) (facts : List Fact) : Type 0 where
  pub batch : IsBatch facts
  pub ahead : IsAhead tells content new
  pub size : new.size ≡ old.size
  pub place : new.place ≡ old.place + (length (lines facts) + 5)
  pub within : new.place < new.size
  pub frame : IsTrue tells → drop (old.place + 1) content ≡ framed (lines facts) ++ drop new.place content

-- a closed gate stood there
pub record Closed (tells : Bool) (content : List ℕ) (old new : Ahead) (batches more : List (List Fact)) : Type 0 where
  pub same : more ≡ batches
  pub place : new.place ≡ old.place
  pub gate : IsTrue tells → (rest : List ℕ) × (drop old.place content ≡ 0 ∷ rest)

-- an open one, and a batch behind it
pub record Opened (tells : Bool) (content : List ℕ) (old new : Ahead) (batches more : List (List Fact)) : Type 0 where
  pub facts : List Fact
  pub read : ReadBatch tells content old new facts
  pub more_are : more ≡ batches ++ facts ∷ []
  pub gate : IsTrue tells → (gate : ℕ) × (0 < gate) × (drop old.place content ≡ gate ∷ drop (old.place + 1) content)

-- an open gate stands at this place, and no whole batch and next gate behind it
pub record IsBadGate (content : List ℕ) (place at : ℕ) : Type 0 where
  pub same : at ≡ place
  pub gate : ℕ
  pub is_open : 0 < gate
  pub here : drop place content ≡ gate ∷ drop (place + 1) content
  pub unfollowed : IsUnfollowed (drop (place + 1) content)
