-- Laws of numbers, names and tests.
use Rattle.std.specs.Prelude.{◌≡◌, ◌<◌, ◌≤◌, ◌+◌, ◌*◌, ℕ, true, false, nat_lt, List, IsTrue}
use Rattle.yard_model.specs.Limits.{most_orders, order_limit, number_limit, settle_limit}
use Rattle.yard_model.specs.Script.{is_name}

-- names that are found the same are equal
abbrev pub SameNameIsEqual : Type 0
SameNameIsEqual = (a b : List ℕ) → IsTrue (is_name a b) → a ≡ b

-- the test of a number below another decides it
abbrev pub LessIsDecided : Type 0
LessIsDecided = (a b : ℕ) → (nat_lt a b ≡ true → a < b) × (nat_lt a b ≡ false → b ≤ a)

-- each limit leaves room below the next one for all that a script's orders add, at most 20 an order, and all fit a u32
pub record LimitsFit : Type 0 where
  pub orders : 20 * most_orders ≤ order_limit
  pub numbers : order_limit + 20 * most_orders ≤ number_limit
  pub settle : number_limit + most_orders ≤ settle_limit
  pub fits : settle_limit < 4294967296
