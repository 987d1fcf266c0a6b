-- What is left of a script for the worker of a node.
use Rattle.std.specs.Prelude.{◌≡◌, ℕ, ◌-◌, ◌<◌, ◌≤◌, Bool, true, false, ◌==◌, ◌&&◌, List, [], ◌∷◌, ◌++◌, length, map, take, drop, slice_get, slice_index_or, Some}
use Rattle.std.specs.Option.{option_map_or}
use Rattle.yard_model.specs.declared.charter.Line.{Line}
use Rattle.yard_model.specs.declared.charter.Order.{Order}
use Rattle.yard_model.specs.declared.charter.Order.TheVariants as order
use Rattle.yard_model.specs.Script.{Script}
use Rattle.yard_model.specs.Workers.{produced, worker_orders_after, orders}

abbrev pub orders_in : List Line → List Order
orders_in lines = map (λ (l : Line). l.order) lines

-- what is left for the worker of node n past the first k lines
abbrev pub left_after : ℕ → List Line → ℕ → List Order
left_after n lines k = worker_orders_after n (orders_in (take k lines)) (orders_in (drop k lines))

pub record Waiting : Type 0 where
  pub script : Script
  pub node : ℕ  -- whose worker it is
  pub orders : List Order  -- what is left for the worker
  pub lines : ℕ  -- in so many lines

-- the last `produce p` of these names node n
abbrev pub is_producing : ℕ → ℕ → List Order → Bool
is_producing n p before = option_map_or (λ m. m == n) (produced p before) false

-- so it is known of each producer, by its place
abbrev pub Knows : ℕ → List Bool → List Order → Type 0
Knows n mine before = (p : ℕ) → 0 < p → p ≤ 32 → slice_index_or mine (p - 1) false ≡ is_producing n p before

pub record IsCursor (n : ℕ) (lines : List Line) (k : ℕ) (mine : List Bool) : Type 0 where
  pub inside : k ≤ length lines
  pub knows : Knows n mine (orders_in (take k lines))

-- where an order of a worker names a node, it is this one
abbrev pub is_named : ℕ → Order → Bool
is_named n (order.Up m) = m == n
is_named n (order.Crash m) = m == n
is_named n (order.Leave m) = m == n
is_named n (order.Tick m) = m == n
is_named n (order.Produce p m) = m == n
is_named n (order.Rest p) = true
is_named n (order.Send p e k) = true
is_named n (order.Rebalance l) = true
is_named n (order.Passivate e) = true
is_named n o = false

-- an order of the script for the worker of node n
pub record IsDue (c : Script) (n : ℕ) (o : Order) : Type 0 where
  pub place : ℕ
  pub line : slice_get (orders c) place ≡ Some o
  pub named : is_named n o ≡ true
