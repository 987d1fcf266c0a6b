-- What a store is after an entry from outside was tested.
use Rattle.std.specs.Prelude.{◌≡◌, ◌-◌, Bool, [], ◌∷◌, ◌++◌, if◌then◌else◌}
use Rattle.yard_model.specs.declared.fact.Fact.{Fact}
use Rattle.yard_model.specs.declared.incarnation.Slot.TheVariants as slot
use Rattle.yard_model.specs.Lawful.{may_follow}
use Rattle.durable_queue.specs.Queue.{Queue}
use Rattle.coordinator_state.specs.Coord.{Coord}
use Rattle.shard_store.specs.Shelf.{Shelf, may}
use Rattle.shard_store.specs.Shelf as shelf

abbrev pub may_enter : Queue → Fact → Bool
may_enter q f = may_follow q.script (slot.Queue q.producer) q.entries f

abbrev pub with_entry : Queue → Fact → Queue
with_entry q f = record { script = q.script; producer = q.producer; entries = q.entries ++ f ∷ []; spare = q.spare - 1 }

-- the entry stands at the end where it may follow; else nothing changes
pub record Enters (old : Queue) (f : Fact) (result : Bool) (new : Queue) : Type 0 where
  pub answer : result ≡ may_enter old f
  pub store : new ≡ (if result then with_entry old f else old)

abbrev pub may_enter_coord : Coord → Fact → Bool
may_enter_coord q f = may_follow q.script slot.Coordinator q.entries f

-- the same of the coordinator's list
pub record EntersCoord (old : Coord) (f : Fact) (result : Bool) (new : Coord) : Type 0 where
  pub answer : result ≡ may_enter_coord old f
  pub script : new.script ≡ old.script
  pub entries : new.entries ≡ (if result then old.entries ++ f ∷ [] else old.entries)
  pub spare : new.spare ≡ (if result then old.spare - 1 else old.spare)

-- the same of a shard's list
pub record EntersShard (old : Shelf) (f : Fact) (result : Bool) (new : Shelf) : Type 0 where
  pub answer : result ≡ may old f
  pub store : new ≡ (if result then shelf.with_entry old f else old)
