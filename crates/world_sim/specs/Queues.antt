-- A producer's queue at a node, and the sends that wait for it.
use Rattle.std.specs.Prelude.{ℕ, ◌-◌, Bool, false, ◌||◌, nat_lt, List, not, is_some, Option, Some, None}
use Rattle.std.specs.List.{list_any}
use Rattle.std.specs.Option.{option_map}
use Rattle.yard_model.specs.declared.fact.Fact.{Fact}
use Rattle.yard_model.specs.Node.{Node}
use Rattle.yard_model.specs.SlotReads.{confirmed, queued, queued_in_all}
use Rattle.yard_model.specs.Words.{at}
use Rattle.node_core.specs.Standing.{Standing}

-- how many commands are queued in the queue of p that the node has in hand
abbrev pub total_at : ℕ → Node → Option ℕ
total_at p st = option_map (λ k. queued_in_all k.entries) (at st.producers (p - 1))

-- how many of so many ordered sends aren't queued; 0 without a queue
abbrev pub waiting_of : ℕ → Option ℕ → ℕ
waiting_of ordered None = 0
waiting_of ordered (Some total) = ordered - total

abbrev pub waiting_at : ℕ → ℕ → Option Standing → ℕ
waiting_at p ordered None = 0
waiting_at p ordered (Some v) = waiting_of ordered (total_at p v.state)

-- it is up, and doesn't hold the queue
abbrev pub is_without : ℕ → Option Standing → Bool
is_without p None = false
is_without p (Some v) = not (is_some (at v.state.producers (p - 1)))

-- some of so many ordered sends isn't queued, or isn't confirmed
abbrev pub is_left_in : ℕ → List (List ℕ) → List Fact → Bool
is_left_in ordered names list = nat_lt (queued_in_all list) ordered || list_any (λ e. nat_lt (confirmed e list) (queued e list)) names
