-- What is told of each name of a script: its shard, and how many sends go to it, which are never fewer than its records.
use Rattle.std.specs.Prelude.{◌≡◌, ℕ, ◌+◌, ◌<◌, Bool, true, false, List, [], ◌∷◌, length, map, slice_index_or, if◌then◌else◌}
use Rattle.yard_model.specs.declared.charter.Line.{Line}
use Rattle.yard_model.specs.declared.charter.Order.{Order}
use Rattle.yard_model.specs.declared.charter.Order.TheVariants as order
use Rattle.yard_model.specs.Script.{Script, is_name, names_in}
use Rattle.yard_model.specs.Shard.{shard}

abbrev pub is_send_to : List ℕ → Order → Bool
is_send_to e (order.Send p x c) = is_name x e
is_send_to e o = false

-- how many of these orders are sends to a name
abbrev pub sent_to : List ℕ → List Line → ℕ
sent_to e [] = 0
sent_to e (l ∷ ls) = if is_send_to e l.order then 1 + sent_to e ls else sent_to e ls

-- of each name, at its place, how many sends go to it, but for those of these orders
pub record AreCountedBut (c : Script) (names : List (List ℕ)) (counts : List ℕ) (left : List Line) : Type 0 where
  pub there : length counts ≡ length names
  pub each : (i : ℕ) → i < length names → slice_index_or counts i 0 + sent_to (slice_index_or names i []) left ≡ sent_to (slice_index_or names i []) c.orders

-- of each name of a script its shard, and how many sends go to it
pub record IsTable (c : Script) (names : List (List ℕ)) (shards counts : List ℕ) : Type 0 where
  pub names_are : names ≡ names_in c.orders
  pub shards_are : shards ≡ map (shard c.config.shards) names
  pub counted : AreCountedBut c names counts []

-- the count of each name for which that is so may be one more
pub record AreFew (names : List (List ℕ)) (so : List ℕ → Bool) (counts : List ℕ) : Type 0 where
  pub each : (i : ℕ) → i < length names → so (slice_index_or names i []) ≡ true → slice_index_or counts i 0 + 1 < 4294967296

-- and is
pub record AreMore (names : List (List ℕ)) (so : List ℕ → Bool) (old new : List ℕ) : Type 0 where
  pub there : length new ≡ length old
  pub each : (i : ℕ) → i < length names → slice_index_or new i 0 ≡ (if so (slice_index_or names i []) then 1 + slice_index_or old i 0 else slice_index_or old i 0)
