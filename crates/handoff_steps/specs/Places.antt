-- What a contract sees of a round of handoffs.
use Rattle.std.specs.List.{flat_map}
use Rattle.std.specs.Prelude.{ℕ, ◌+◌, ◌==◌, Bool, true, false, ◌&&◌, not, List, [], ◌∷◌, ◌++◌, map, filter, find, slice_index_or, slice_set, option_map, Option, Some, None, if◌then◌else◌}
use Rattle.yard_model.specs.declared.incarnation.Incarnation.{Incarnation}
use Rattle.yard_model.specs.declared.incarnation.Stamp.{Stamp}
use Rattle.yard_model.specs.declared.load.Load.{Load}
use Rattle.yard_model.specs.ShardSet.{has}
use Rattle.yard_model.specs.Words.{numbers, is_same, is_at, is_among, is_stamp, is_empty, without}
use Rattle.yard_model.specs.Coordinator.{Moving, not_awaited}
use Rattle.handoff_steps.specs.declared.step.Step.{Step}
use Rattle.handoff_steps.specs.declared.step.Step.TheVariants as step

-- a shard of the round
pub record Handoff : Type 0 where
  pub owner : Incarnation  -- its home when the round began
  pub awaited : List Incarnation  -- the regions that haven't acknowledged, in order of registration
  pub done : Bool

-- a round: its stamp, and at each shard's place the shard, where it is in the round
pub record Handoffs : Type 0 where
  pub stamp : Stamp
  pub places : List (Option Handoff)

abbrev pub place_at : Handoffs → ℕ → Option Handoff
place_at v s = slice_index_or v.places s None

-- the round with this at the place of s
abbrev pub with_place : Handoffs → ℕ → Option Handoff → Handoffs
with_place v s p = record { stamp = v.stamp; places = slice_set v.places s p }

-- the shard s, where it is in the round and not done
abbrev pub one_of : ℕ → Option Handoff → List Moving
one_of s None = []
one_of s (Some h) = if h.done then [] else record { shard = s; owner = Some h.owner; awaited = h.awaited } ∷ []

abbrev pub moving_from : ℕ → List (Option Handoff) → List Moving
moving_from s [] = []
moving_from s (p ∷ ps) = one_of s p ++ moving_from (s + 1) ps

-- the shards of the round that aren't done, rising
abbrev pub moving : Handoffs → List Moving
moving v = moving_from 0 v.places

-- it is in the round and not done
abbrev pub is_open : Option Handoff → Bool
is_open None = false
is_open (Some h) = not h.done

-- it is open, and this region is awaited
abbrev pub is_awaiting : Incarnation → Option Handoff → Bool
is_awaiting r None = false
is_awaiting r (Some h) = not h.done && is_among r h.awaited

-- it is open, nobody is awaited, and this region is its owner
abbrev pub is_stopping : Incarnation → Option Handoff → Bool
is_stopping r None = false
is_stopping r (Some h) = not h.done && (is_empty h.awaited && is_same r h.owner)

-- this region is its owner
abbrev pub is_owned : Incarnation → Option Handoff → Bool
is_owned r None = false
is_owned r (Some h) = is_same r h.owner

-- this region isn't awaited any more
abbrev pub acknowledged_by : Incarnation → Option Handoff → Option Handoff
acknowledged_by r None = None
acknowledged_by r (Some h) = Some (record { owner = h.owner; awaited = without r h.awaited; done = h.done })

-- it is done
abbrev pub ended : Option Handoff → Option Handoff
ended None = None
ended (Some h) = Some (record { owner = h.owner; awaited = []; done = true })

-- what comes next where it isn't done: its owner is told to hand off, once nobody is awaited
abbrev pub next_step : Option Handoff → Step
next_step None = step.Wait
next_step (Some h) = if is_empty h.awaited then step.HandOff h.owner else step.Wait

-- what comes next once a region is gone: its shards are done; else, where it was the last that was awaited, the owner is told to hand off
abbrev pub step_without : Incarnation → Option Handoff → Step
step_without r p = if is_owned r p then step.Done else if is_awaiting r p then next_step (acknowledged_by r p) else step.Wait

abbrev pub place_without : Incarnation → Option Handoff → Option Handoff
place_without r p = if is_owned r p then ended p else acknowledged_by r p

-- an acknowledgement with this stamp from this region is waited for
abbrev pub takes_ack : Handoffs → ℕ → Stamp → Incarnation → Bool
takes_ack v s stamp from = is_stamp stamp v.stamp && is_awaiting from (place_at v s)

-- the word with this stamp from this region that the shard has stopped is waited for
abbrev pub takes_stop : Handoffs → ℕ → Stamp → Incarnation → Bool
takes_stop v s stamp from = is_stamp stamp v.stamp && is_stopping from (place_at v s)

-- the regions that are awaited there
abbrev pub awaited_in : Option Handoff → List Incarnation
awaited_in None = []
awaited_in (Some h) = h.awaited

-- what is left of a shard that moves, once a region is lost: nothing of one of its own; it isn't awaited for another
abbrev pub left_of : Incarnation → Moving → List Moving
left_of r x = if is_at r x.owner then [] else not_awaited r x ∷ []

-- the shards that move, once a region is lost for s
abbrev pub lost_at : ℕ → Incarnation → List Moving → List Moving
lost_at s r xs = flat_map (λ x. if x.shard == s then left_of r x else x ∷ []) xs

-- How a round begins.

-- the region of the first load that has the shard
abbrev pub home_in : List Load → ℕ → Option Incarnation
home_in loads s = option_map (λ l. l.region) (find (λ l. has l.shards s) loads)

abbrev pub regions_of : List Load → List Incarnation
regions_of loads = map (λ l. l.region) loads

-- the place of a shard at first
abbrev pub first_place : ℕ → List Load → ℕ → Option Handoff
first_place picks loads s = if has picks s then option_map (λ r. record { owner = r; awaited = regions_of loads; done = false }) (home_in loads s) else None

-- all shards that can be, rising
unfoldable pub all_shards : List ℕ
all_shards = numbers 0 128

-- the shards of a set, rising
abbrev pub shards_in : ℕ → List ℕ
shards_in set = filter (has set) all_shards

-- a shard as it begins to move
abbrev pub begins : List Load → ℕ → Moving
begins loads s = record { shard = s; owner = home_in loads s; awaited = regions_of loads }
