-- How often a node came up, and how many packets were let go.
use Rattle.std.specs.Prelude.{◌≡◌, ℕ, ◌+◌, ◌-◌, ◌^◌, min, nat_lt, Option, None, Some, if◌then◌else◌}
use Rattle.yard_model.specs.Limits.{number_limit}
use Rattle.node_core.specs.Standing.{Standing}

-- once more, up to the greatest number that an incarnation has
abbrev pub next_up : ℕ → ℕ
next_up ups = if nat_lt ups number_limit then ups + 1 else number_limit

-- a node that comes up does so once more, and that is its number; else it came up no more often
abbrev pub IsCounted : Option Standing → ℕ → Option Standing → ℕ → Type 0
IsCounted None ups (Some v) now = (now ≡ next_up ups) × (v.state.who.number ≡ now)
IsCounted None ups None now = now ≡ ups
IsCounted (Some u) ups later now = now ≡ ups

-- so many more, up to the end of the count
abbrev pub and_more : ℕ → ℕ → ℕ
and_more count more = min (count + more) (2 ^ 64 - 1)
