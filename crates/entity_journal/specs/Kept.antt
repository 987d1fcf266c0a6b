-- How a journal is kept: the place of each record, and one count for each producer.
use Rattle.std.specs.Prelude.{◌≡◌, ℕ, ◌+◌, ◌-◌, ◌<◌, ◌≤◌, ◌^◌, List, length, slice_index_or}
use Rattle.yard_model.specs.declared.packet.Record.{Record}
use Rattle.entity_journal.specs.Journal.{AreNumbered, of_producer}

-- the count of producer p stands at place p - 1
pub record AreCounted (records : List Record) (counts : List ℕ) : Type 0 where
  pub size : length counts ≡ 32
  pub each : (p : ℕ) → 0 < p → p ≤ 32 → slice_index_or counts (p - 1) 0 ≡ of_producer p records

pub record IsKept (records : List Record) (places counts : List ℕ) (free capacity : ℕ) : Type 0 where
  pub as_many : length places ≡ length records
  pub spare : length places + free ≤ capacity
  pub few : length records < 2 ^ 32
  pub counted : AreCounted records counts
  pub numbered : AreNumbered records
