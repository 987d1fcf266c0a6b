-- What is read off a journal.
use Rattle.std.specs.Prelude.{◌≡◌, ℕ, ◌+◌, ◌<◌, ◌==◌, List, length, slice_index_or, count_by}
use Rattle.yard_model.specs.declared.packet.Record.{Record}

-- how many records are of a producer
abbrev pub of_producer : ℕ → List Record → ℕ
of_producer p records = count_by (λ (r : Record). r.producer == p) records

-- a journal, as contracts see it
pub record Journaled : Type 0 where
  pub items : List Record  -- its records, oldest first
  pub places : List ℕ  -- where each of them stands, in the list that has them
  pub spare : ℕ  -- how many more records it takes with no memory

-- record i has number i, counted from 1
pub record AreNumbered (records : List Record) : Type 0 where
  pub each : (i : ℕ) (r : Record) → i < length records → (slice_index_or records i r).number ≡ i + 1
