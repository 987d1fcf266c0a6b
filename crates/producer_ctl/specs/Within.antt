-- What bounds the numbers that a producer sends.
use Rattle.std.specs.Prelude.{ℕ, ◌+◌, ◌<◌, ◌≤◌, List, fold, max}
use Rattle.std.specs.List.{All}
use Rattle.yard_model.specs.Producer.{Producer, producer_after, progress}
use Rattle.yard_model.specs.SlotReads.{queued, confirmed}
use Rattle.producer_ctl.specs.Produced.{Gives}

-- a number to an entity that may be sent: it isn't confirmed, it is queued, and it is at most what was demanded, or the first that isn't confirmed
pub record IsWithin (e : List ℕ) (st : Producer) (n : ℕ) : Type 0 where
  pub unconfirmed : confirmed e st.entries < n
  pub is_queued : n ≤ queued e st.entries
  pub is_allowed : n ≤ max (progress st e).demand (confirmed e st.entries + 1)

-- each number that an input leaves to be routed is within, once the input's moves count
abbrev pub RoutesWithin : (Producer → Gives) → Type 0
RoutesWithin f = (st : Producer) → All (IsWithin (f st).entity (fold producer_after st (f st).moves)) (f st).numbers
