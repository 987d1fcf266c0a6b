-- What stands of a node's entities between their calls.
use Rattle.std.specs.Prelude.{◌≡◌, ◌≢◌, ℕ, ◌<◌, Bool, true, false, List, [], ◌∷◌, ◌++◌, length, slice_index_or, Option, None, Some}
use Rattle.std.specs.List.{list_any}
use Rattle.std.specs.Option.{option_and_then}
use Rattle.yard_model.specs.declared.fact.Fact.TheVariants as fact
use Rattle.yard_model.specs.declared.incarnation.Cause.TheVariants as cause
use Rattle.yard_model.specs.declared.incarnation.Incarnation.{Incarnation}
use Rattle.yard_model.specs.declared.incarnation.Slot.TheVariants as slot
use Rattle.yard_model.specs.declared.input.Phase.TheVariants as phase
use Rattle.yard_model.specs.declared.out.Item.TheVariants as item
use Rattle.yard_model.specs.declared.packet.Body.TheVariants as body
use Rattle.yard_model.specs.Entities.{Cell, Hosted, hosted, new_cell}
use Rattle.yard_model.specs.Move.{Move, made, told, post}
use Rattle.yard_model.specs.Setting.{shard_of}
use Rattle.yard_model.specs.SlotReads.{epoch}
use Rattle.consumer_ctl.specs.Held.{Held}
use Rattle.shard_store.specs.Shelved.{name_at}
use Rattle.shard_entities.specs.declared.handoff.Stopped.{Stopped}
use Rattle.shard_entities.specs.Lodged.{Lodged, IsStore}

-- the cell of an entity whose shard is hosted so: it exists only where the shard is hosted, and only while it recovers or stops is something stashed for it
pub record IsQuiet (o : Option Hosted) (x : Cell) : Type 0 where
  pub at_home : o ≡ None → x.phase ≡ phase.Absent
  pub gone : x.phase ≡ phase.Absent → x.stash ≡ []
  pub clear : x.phase ≡ phase.Active → x.stash ≡ []

-- the cell of each name is so
abbrev pub IsSettled : Lodged → Type 0
IsSettled v = (i : ℕ) → i < length v.state.set.names → IsQuiet (hosted v.state (shard_of v.state.set (name_at v.state.set.names i))) (slice_index_or v.state.cells i (new_cell v.state.set))

-- a move frees a shard
abbrev pub frees : Move → Bool
frees (made (item.Fact (fact.Freed s n why))) = true
frees m = false

-- a shard that was hosted as in v and is let go as in w: its store, and the stamp and the addressee that were kept
pub record IsStopped (v w : Lodged) (s : ℕ) (x : Stopped) : Type 0 where
  pub shard_is : x.shard ≡ s
  pub store_is : IsStore w s x.store
  pub kept_is : option_and_then (λ h. h.stopping) (hosted v.state s) ≡ Some (record { stamp = x.stamp; to = x.to })

-- the moves of a rule that lets a shard go: after these the shard is freed, at the epoch of the list that is let go, as released; last, the addressee that was kept is posted that it stopped, with the stamp that was kept
pub record IsFreed (before all : List Move) (who : Incarnation) (x : Stopped) : Type 0 where
  pub frees_is : list_any frees all ≡ true
  pub moves_are : all ≡ before ++ told (fact.Freed (slot.Shard x.shard) (epoch x.store.entries) cause.Released) ∷ post who x.to (body.ShardStopped x.shard x.stamp) ∷ []

-- the same, but for the cell at a place
abbrev pub IsSettledBut : ℕ → Lodged → Type 0
IsSettledBut i v = (j : ℕ) → j < length v.state.set.names → j ≢ i → IsQuiet (hosted v.state (shard_of v.state.set (name_at v.state.set.names j))) (slice_index_or v.state.cells j (new_cell v.state.set))

-- between calls, with the spare stash
pub record IsIdle (v : Lodged) (pending : Held) : Type 0 where
  pub settled : IsSettled v
  pub window_is : pending.window ≡ v.script.config.window
  pub empty : pending.messages ≡ []
