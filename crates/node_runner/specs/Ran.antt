-- What a run leaves.
use Rattle.std.specs.Prelude.{◌≡◌, ℕ, ◌<◌, ◌≤◌, true, false, None}
use Rattle.atomic_table.specs.Seated.{TableId}
use Rattle.yard_model.specs.Genuine.{is_producer}
use Rattle.yard_model.specs.Lawful.{lawful, is_held}
use Rattle.yard_model.specs.Script.{Script}
use Rattle.yard_model.specs.Words.{at}
use Rattle.yard_model.specs.Workers.{is_steady, worked}
use Rattle.shard_store.specs.Stores.{Shelves, entries_at, lists_at}
use Rattle.lease_table.specs.Fits.{slot_count, Fits}
use Rattle.lease_table.specs.Leasing.{Pass}
use Rattle.lease_table.specs.Lists.{Has}
use Rattle.live_laws.specs.Live.{SawQueued}

-- the pass of all nodes from this one on: it holds nothing, and has seen all sends of their steady producers queued
pub record Ran (z : TableId) (c : Script) (turns first : ℕ) (p : Pass) : Type 0 where
  pub table : p.table ≡ z
  pub charter : p.view.charter ≡ c
  pub nothing : (k : ℕ) → at p.view.held k ≡ None
  pub numbers : (m : ℕ) → first ≤ m → m ≤ c.config.nodes → Has m p.view.numbers
  pub saw : (m q : ℕ) → first ≤ m → m ≤ c.config.nodes → is_producer c q ≡ true → is_steady c turns q m ≡ true → SawQueued c p.view q

-- the stores of a run of the script: no slot is held, each list fits its slot (so no incarnation in it has a number above the limit), all together are lawful, and what a steady producer sends is queued
pub record IsRun (c : Script) (turns : ℕ) (s : Shelves) : Type 0 where
  pub script : s.script ≡ c
  pub free : (k : ℕ) → k < slot_count c → is_held (entries_at s.places k) ≡ false
  pub fits : (k : ℕ) → k < slot_count c → Fits c k (entries_at s.places k)
  pub lawful : lawful c (lists_at c.config s.places) ≡ true
  pub worked : worked c turns (lists_at c.config s.places) ≡ true
