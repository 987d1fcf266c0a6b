-- What takes the home of a shard.
use Rattle.std.specs.Prelude.{◌≡◌, ℕ, Bool, true, false, ◌==◌, ◌&&◌, List, [], ◌∷◌, ◌++◌, fold, Some, IfSome}
use Rattle.yard_model.specs.declared.fact.Fact.{Fact}
use Rattle.yard_model.specs.declared.fact.Fact.TheVariants as fact
use Rattle.yard_model.specs.declared.packet.Body.{Body}
use Rattle.yard_model.specs.declared.packet.Body.TheVariants as body
use Rattle.yard_model.specs.declared.incarnation.Incarnation.{Incarnation}
use Rattle.yard_model.specs.Coordinator.{Coordinator, coordinate, coordinator_after, home_of, rebalance, terminate_lost, tick_coordinator}
use Rattle.yard_model.specs.SlotReads.{allocation}
use Rattle.yard_model.specs.Words.{is_same, is_among}
use Rattle.coordinator_actor.specs.Parts.{is_stopped_by}

-- an entry after which s isn't at home h: it is deallocated, its home is terminated, or the number of shards changes; or it is allocated, which never follows while it has a home
abbrev pub takes_home : ℕ → Incarnation → Fact → Bool
takes_home s h (fact.Deallocated t) = t == s
takes_home s h (fact.Terminated r) = is_same r h
takes_home s h (fact.Reshard n k) = true
takes_home s h (fact.Allocated t r) = t == s
takes_home s h f = false

-- ShardStopped of s that matches the open round: its stamp is the round's, nobody is awaited for s, and the sender is its owner
abbrev pub is_stop_of : ℕ → Incarnation → Body → Coordinator → Bool
is_stop_of s from (body.ShardStopped t given) st = (t == s) && is_stopped_by from t given st
is_stop_of s from b st = false

-- s has its home still, if it has one
abbrev pub KeepsHome : ℕ → Coordinator → Coordinator → Type 0
KeepsHome s old new = IfSome (home_of old s) (λ h. home_of new s ≡ Some h)

-- s has its home still, if it has one and that is in the view
abbrev pub KeepsViewed : List Incarnation → ℕ → Coordinator → Coordinator → Type 0
KeepsViewed view s old new = IfSome (home_of old s) (λ h. is_among h view ≡ true → home_of new s ≡ Some h)

-- no other entry takes a home
abbrev pub EntriesKeep : Type 0
EntriesKeep = (s : ℕ) (list : List Fact) (f : Fact) → IfSome (allocation s list) (λ h. takes_home s h f ≡ false → allocation s (list ++ f ∷ []) ≡ Some h)

-- no other packet takes a home
abbrev pub PacketsKeep : Type 0
PacketsKeep = (s : ℕ) (from : Incarnation) (b : Body) (view : List Incarnation) (st : Coordinator) → is_stop_of s from b st ≡ false → KeepsHome s st (fold coordinator_after st (coordinate from b view st))

-- a view takes no home that is in it
abbrev pub ViewsKeep : Type 0
ViewsKeep = (s : ℕ) (view : List Incarnation) (st : Coordinator) → KeepsViewed view s st (fold coordinator_after st (terminate_lost view st))

-- a tick takes none
abbrev pub TicksKeep : Type 0
TicksKeep = (s : ℕ) (st : Coordinator) → KeepsHome s st (fold coordinator_after st (tick_coordinator st))

-- nor does a rebalancing, whatever its limit
abbrev pub RebalancesKeep : Type 0
RebalancesKeep = (s limit : ℕ) (st : Coordinator) → KeepsHome s st (fold coordinator_after st (rebalance limit st))
