-- What a judge keeps of a trace.
use Rattle.std.specs.Prelude.{◌≡◌, ℕ, ◌<◌, Bool, true, ◌==◌, ◌||◌, not, is_none, List, [], ◌∷◌, ◌++◌, length, map, Option, Some, None, slice_set, if◌then◌else◌}
use Rattle.yard_model.specs.declared.fact.Fact.{Fact}
use Rattle.yard_model.specs.declared.fact.Fact.TheVariants as fact
use Rattle.yard_model.specs.declared.incarnation.Incarnation.{Incarnation}
use Rattle.yard_model.specs.Era.{version_in}
use Rattle.yard_model.specs.Genuine.{is_brought}
use Rattle.yard_model.specs.Safe.{live_at}
use Rattle.yard_model.specs.Script.{Script, names_in, setting}
use Rattle.yard_model.specs.Setting.{shard_of}
use Rattle.yard_model.specs.Trace.{lists_of}
use Rattle.yard_model.specs.Words.{is_at}
use Rattle.durable_queue.specs.Kept.{kept_of, place_of}
use Rattle.entry_slots.specs.Entered.{AllLists}
use Rattle.judge_laws.specs.declared.breach.Breach.{Breach}
use Rattle.judge_laws.specs.Breached.{breach_of}
use Rattle.judge_laws.specs.Broken.{IsExact, IsUnbroken}
use Rattle.trace_judge.specs.declared.cells.Cell.{Cell}

-- what contracts see: the script, and the facts so far
pub record Judged : Type 0 where
  pub script : Script
  pub trace : List Fact

-- one, if there is one
abbrev pub as_list : Option Incarnation → List Incarnation
as_list None = []
as_list (Some x) = x ∷ []

abbrev pub without_it : Incarnation → Option Incarnation → Option Incarnation
without_it x old = if is_at x old then None else old

abbrev pub no_cell : Cell
no_cell = record { shard = 0; live = None }

-- before the first fact
abbrev pub new_cell : Script → List ℕ → Cell
new_cell c e = record { shard = shard_of (setting c) e; live = None }

-- the cell of a name
abbrev pub cell_of : Script → List Cell → List ℕ → Cell
cell_of c cells e = kept_of (names_in c.orders) cells no_cell e

-- of each name its shard, and where it is live
pub record AreCells (c : Script) (trace : List Fact) (cells : List Cell) : Type 0 where
  pub sized : length cells ≡ length (names_in c.orders)
  pub shard : (e : List ℕ) → is_brought c e ≡ true → (cell_of c cells e).shard ≡ shard_of (setting c) e
  pub live : (e : List ℕ) → is_brought c e ≡ true → live_at e trace ≡ as_list (cell_of c cells e).live

pub record IsJudge (slots : AllLists) (cells : List Cell) (version : ℕ) (trace : List Fact) : Type 0 where
  pub shards : 0 < slots.script.config.shards
  pub unbroken : IsUnbroken slots.script trace
  pub lists : slots.lists ≡ lists_of (setting slots.script) trace
  pub cells_are : AreCells slots.script trace cells
  pub version_is : version ≡ version_in trace

-- The cells after one fact more.

abbrev pub started : Incarnation → Cell → Cell
started x old = record { shard = old.shard; live = Some x }

abbrev pub stopped : Incarnation → Cell → Cell
stopped x old = record { shard = old.shard; live = without_it x old.live }

-- where the script brings the name, its cell after this step
abbrev pub cell_after : Script → (Cell → Cell) → List ℕ → List Cell → List Cell
cell_after c step e cells = if is_brought c e then slice_set cells (place_of (names_in c.orders) e) (step (cell_of c cells e)) else cells

abbrev pub noted : Script → List Cell → Fact → List Cell
noted c cells (fact.Start x e) = cell_after c (started x) e cells
noted c cells (fact.Stop x e) = cell_after c (stopped x) e cells
noted c cells (fact.WriteFailed x e) = cell_after c (stopped x) e cells
noted c cells (fact.Gone x) = map (stopped x) cells
noted c cells f = cells

-- no entity of this shard, if the cell is of one, is live
abbrev pub is_idle_cell : ℕ → Cell → Bool
is_idle_cell s x = not (x.shard == s) || is_none x.live

-- One fact more.

pub record Passes (old : Judged) (f : Fact) (done : Bool) (new : Judged) : Type 0 where
  pub answer : done ≡ is_none (breach_of old.script old.trace f)
  pub exact : IsExact old.script old.trace f
  pub script : new.script ≡ old.script
  pub trace : new.trace ≡ (if done then old.trace ++ f ∷ [] else old.trace)

-- the first test that fails, if one does; else the trace goes on
pub record Sees (old : Judged) (f : Fact) (why : Option Breach) (new : Judged) : Type 0 where
  pub answer : why ≡ breach_of old.script old.trace f
  pub exact : IsExact old.script old.trace f
  pub script : new.script ≡ old.script
  pub trace : new.trace ≡ (if is_none why then old.trace ++ f ∷ [] else old.trace)
