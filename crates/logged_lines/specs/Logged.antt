-- What a run logs, order by order, and what a crash leaves of it on the disk.
use Rattle.std.specs.Prelude.{◌≡◌, ◌≤◌, ℕ, ◌+◌, List, [], length, drop, take, map, Option}
use Rattle.yard_io.specs.Told.{followed_by}
use Rattle.yard_model.specs.declared.fact.Fact.{Fact}
use Rattle.yard_model.specs.Replay.{replay_text}
use Rattle.yard_model.specs.Script.{Script}
use Rattle.yard_model.specs.Text.{Bytes}
use Rattle.yard_model.specs.Words.{numbers}
use Rattle.yard_model.specs.World.{in_order, new_world, play_line, wire_limit}
use Rattle.disk_log.specs.Images.{Images, Only}
use Rattle.disk_log.specs.Spelled.{SpellsPrefix}
use Rattle.log_orders.specs.Orders.{batches, begun}

-- the facts of the first n orders
abbrev pub facts_to : Script → ℕ → List Fact
facts_to c n = (in_order (map play_line (take n c.orders)) (new_world c wire_limit)).facts

-- those of the order behind them; none where the trace stopped before it
abbrev pub order_facts : Script → ℕ → List Fact
order_facts c n = drop (length (facts_to c n)) (facts_to c (n + 1))

-- of each order its facts
abbrev pub orders_of : Script → List (List Fact)
orders_of c = map (order_facts c) (numbers 0 (length c.orders))

-- Batches of a script's trace: of each order with facts that belong to a list, these
abbrev pub batches_of : Script → List (List Fact)
batches_of c = batches (orders_of c)

-- the disk is empty, and nothing is pending on it
pub record IsFresh (content : List ℕ) (images : Images) : Type 0 where
  pub content_is : content ≡ []
  pub only : Only [] images

-- So many bytes of the text were written. Each crash leaves the batches of the first orders: at least of those of which
-- one of these bytes is.
pub record LogEnds (c : Script) (before after : Option Bytes) (images : Images) : Type 0 where
  pub count : ℕ
  pub within : count ≤ length (replay_text c)
  pub taken : after ≡ followed_by before (take count (replay_text c))
  pub crash : (image : List ℕ) → images.now image → SpellsPrefix (batches_of c) (begun count (orders_of c)) image
