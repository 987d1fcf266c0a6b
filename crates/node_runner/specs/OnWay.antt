-- A worker between two of its turns.
use Rattle.std.specs.Prelude.{◌≡◌, ℕ, ◌+◌, ◌*◌, ◌<◌, ◌≤◌, ◌⊎◌, Bool, true, List, [], ◌∷◌, ◌++◌, length, Option, Some, None, IfSome, MatchOption}
use Rattle.atomic_table.specs.Seated.{TableId}
use Rattle.yard_model.specs.declared.charter.Order.{Order}
use Rattle.yard_model.specs.Script.{Script}
use Rattle.yard_model.specs.Workers.{worker_orders}
use Rattle.worker_orders.specs.Waiting.{Waiting, IsDue}
use Rattle.node_core.specs.Standing.{Standing}
use Rattle.lease_table.specs.Leasing.{Pass}
use Rattle.node_runner.specs.Progress.{StandsAt, Progressed}

-- the next order, and those after it
abbrev pub left_of : Option Order → List Order → List Order
left_of None os = os
left_of (Some o) os = o ∷ os

-- after t turns: at least every fourth takes an order while there are any, and so many of the last ones took none
abbrev pub KeepsUp : Script → ℕ → ℕ → List Order → ℕ → Type 0
KeepsUp c n t left idle = (left ≡ []) ⊎ (t + 4 * length left ≤ 4 * length (worker_orders c n) + idle)

-- what is ahead of a worker
pub record IsAhead (c : Script) (n : ℕ) (next : Option Order) (rest : Waiting) : Type 0 where
  pub script_is : rest.script ≡ c
  pub node_is : rest.node ≡ n
  pub due : IfSome next (IsDue c n)
  pub last : next ≡ None → rest.orders ≡ []

pub record OnWay (z : TableId) (c : Script) (n t : ℕ) (p : Pass) (node : Option Standing) (next : Option Order) (rest : Waiting) (idle : ℕ) : Type 0 where
  pub stands : StandsAt z c n p node
  pub ahead : IsAhead c n next rest
  pub few : idle ≤ 3
  pub keeps_up : KeepsUp c n t (left_of next rest.orders) idle
  pub progressed : (turns : ℕ) → Progressed c turns n (left_of next rest.orders) p node

-- the worker is done: where it had turns enough, no order is left
pub record IsDone (z : TableId) (c : Script) (turns n : ℕ) (p : Pass) (node : Option Standing) : Type 0 where
  pub stands : StandsAt z c n p node
  pub progressed : 4 * length (worker_orders c n) ≤ turns → Progressed c turns n [] p node
