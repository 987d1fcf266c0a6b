-- The orders that each node's worker takes in a live run, and which producers' sends are sure to be queued there.
use Rattle.std.specs.Prelude.{ℕ, ◌*◌, Bool, true, false, ◌==◌, ◌&&◌, ◌||◌, nat_le, not, List, [], ◌∷◌, ◌++◌, length, map, fold, Option, Some, None, if◌then◌else◌}
use Rattle.std.specs.List.{list_any, list_all}
use Rattle.std.specs.Option.{option_map_or}
use Rattle.yard_model.specs.declared.fact.Fact.{Fact}
use Rattle.yard_model.specs.declared.fact.Fact.TheVariants as fact
use Rattle.yard_model.specs.declared.charter.Line.{Line}
use Rattle.yard_model.specs.declared.charter.Order.{Order}
use Rattle.yard_model.specs.declared.charter.Order.TheVariants as order
use Rattle.yard_model.specs.Script.{Script, setting, sends}
use Rattle.yard_model.specs.Setting.{producers}
use Rattle.yard_model.specs.Words.{numbers}
use Rattle.yard_model.specs.Follow.{each_follows}
use Rattle.yard_model.specs.SlotLists.{SlotLists, queue_list}
use Rattle.yard_model.specs.SlotReads.{holder, queued_in_all}

abbrev pub produced_step : ℕ → Option ℕ → Order → Option ℕ
produced_step p old (order.Produce q n) = if q == p then Some n else old
produced_step p old o = old

-- the node of the last `produce p`, if there is one
abbrev pub produced : ℕ → List Order → Option ℕ
produced p orders = fold (produced_step p) None orders

-- an order of the worker of node n, after these: one that names the node; a `rest` or `send` of a producer whose last `produce` names it; each `rebalance` and `passivate`
abbrev pub is_for : ℕ → List Order → Order → Bool
is_for n before (order.Up m) = m == n
is_for n before (order.Crash m) = m == n
is_for n before (order.Leave m) = m == n
is_for n before (order.Tick m) = m == n
is_for n before (order.Produce p m) = m == n
is_for n before (order.Rest p) = option_map_or (λ m. m == n) (produced p before) false
is_for n before (order.Send p e k) = option_map_or (λ m. m == n) (produced p before) false
is_for n before (order.Rebalance l) = true
is_for n before (order.Passivate e) = true
is_for n before o = false

abbrev pub worker_orders_after : ℕ → List Order → List Order → List Order
worker_orders_after n before [] = []
worker_orders_after n before (o ∷ os) = (if is_for n before o then o ∷ [] else []) ++ worker_orders_after n (before ++ o ∷ []) os

abbrev pub orders : Script → List Order
orders c = map (λ (l : Line). l.order) c.orders

-- Orders(c, n): the orders of the worker of node n, in script order
abbrev pub worker_orders : Script → ℕ → List Order
worker_orders c n = worker_orders_after n [] (orders c)

abbrev pub is_up : ℕ → Order → Bool
is_up n (order.Up m) = m == n
is_up n o = false

-- no `rest p`, no `crash n`, and each `produce p` names n and stands after an `up n`; a `send p` stands after a `produce p`
abbrev pub is_steady_after : ℕ → ℕ → List Order → Order → Bool
is_steady_after p n before (order.Rest q) = not (q == p)
is_steady_after p n before (order.Crash m) = not (m == n)
is_steady_after p n before (order.Produce q m) = not (q == p) || ((m == n) && list_any (is_up n) before)
is_steady_after p n before (order.Send q e k) = not (q == p) || option_map_or (λ m. true) (produced p before) false
is_steady_after p n before o = true

-- n is the one node that produces p, and is up whenever it does so; and it has turns enough for all its orders
abbrev pub is_steady : Script → ℕ → ℕ → ℕ → Bool
is_steady c turns p n = option_map_or (λ m. m == n) (produced p (orders c)) false && each_follows (is_steady_after p n) [] (orders c) && nat_le (4 * length (worker_orders c n)) turns

-- a queued entry stands under a grant to node n
abbrev pub is_queued_by : ℕ → List Fact → Fact → Bool
is_queued_by n before (fact.Queued p e k c) = option_map_or (λ x. x.node == n) (holder before) false
is_queued_by n before f = true

-- all of Sends(p) are queued, each by an incarnation of node n
abbrev pub is_all_queued : Script → SlotLists → ℕ → ℕ → Bool
is_all_queued c lists p n = (queued_in_all (queue_list lists p) == length (sends c p)) && each_follows (is_queued_by n) [] (queue_list lists p)

-- Worked: what a steady producer sends is queued
abbrev pub worked : Script → ℕ → SlotLists → Bool
worked c turns lists = list_all (λ p. list_all (λ n. not (is_steady c turns p n) || is_all_queued c lists p n) (numbers 1 c.config.nodes)) (producers (setting c))
