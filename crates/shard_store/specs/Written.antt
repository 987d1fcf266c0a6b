-- Entries of a shard's list that wrote a record, and a journal with one of them more.
use Rattle.std.specs.Prelude.{◌≡◌, ℕ, ◌+◌, ◌<◌, Bool, true, false, List, [], ◌∷◌, ◌++◌, length}
use Rattle.yard_model.specs.declared.entry.ShardEntry.{ShardEntry}
use Rattle.yard_model.specs.declared.entry.ShardEntry.TheVariants as entry
use Rattle.yard_model.specs.declared.packet.Record.{Record}
use Rattle.yard_model.specs.Script.{is_name}
use Rattle.entity_journal.specs.Journal.{Journaled}

abbrev pub is_wrote : ShardEntry → Bool
is_wrote (entry.Wrote y r) = true
is_wrote x = false

-- of this name
abbrev pub is_record_of : List ℕ → ShardEntry → Bool
is_record_of e (entry.Wrote y r) = is_name y e
is_record_of e x = false

-- the record that it wrote; another where it wrote none
abbrev pub wrote_in : ShardEntry → Record → Record
wrote_in (entry.Wrote y r) d = r
wrote_in x d = d

-- this record may be the next one of a journal
pub record IsNext (r : Record) (j : Journaled) : Type 0 where
  pub room : 0 < j.spare
  pub number : r.number ≡ length j.items + 1

-- and is, at this place
pub record IsMore (r : Record) (p : ℕ) (old new : Journaled) : Type 0 where
  pub items : new.items ≡ old.items ++ r ∷ []
  pub places : new.places ≡ old.places ++ p ∷ []
  pub spare : new.spare + 1 ≡ old.spare
