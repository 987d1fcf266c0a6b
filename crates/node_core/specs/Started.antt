-- A shard that starts at a node.
use Rattle.std.specs.Prelude.{◌≡◌, ℕ, ◌+◌, ◌*◌, ◌≤◌, Bool, not, ◌&&◌, [], ◌∷◌, length, map, Some, slice_set, if◌then◌else◌}
use Rattle.yard_model.specs.declared.fact.Fact.TheVariants as fact
use Rattle.yard_model.specs.declared.incarnation.Incarnation.{Incarnation}
use Rattle.yard_model.specs.declared.incarnation.Slot.{Slot}
use Rattle.yard_model.specs.declared.incarnation.Slot.TheVariants as slot
use Rattle.yard_model.specs.declared.out.Item.{Item}
use Rattle.yard_model.specs.Entities.{is_hosted, start_remembered}
use Rattle.yard_model.specs.Move.{told, took}
use Rattle.yard_model.specs.Node.{Node, Rule, by_entities, after, acquire, of_entities, start}
use Rattle.yard_model.specs.Region.{is_home}
use Rattle.yard_model.specs.Script.{Script}
use Rattle.yard_model.specs.Setting.{names_of}
use Rattle.yard_model.specs.SlotLists.{SlotLists, shard_list}
use Rattle.yard_model.specs.SlotReads.{holder, epoch}
use Rattle.yard_model.specs.Spared.{Spared}
use Rattle.yard_model.specs.Turns.{in_turn}
use Rattle.shard_entities.specs.Lodged.{given}
use Rattle.shard_lease.specs.declared.leases.Acquire.{Acquire}
use Rattle.shard_lease.specs.declared.leases.Acquire.TheVariants as answer
use Rattle.shard_store.specs.declared.store.Store.TheVariants as store
use Rattle.shard_store.specs.Shelf.{Shelf}
use Rattle.node_core.specs.Found.{asks}
use Rattle.node_core.specs.Releasing.{HasReleaseRoom, kept_all}
use Rattle.node_core.specs.Standing.{Standing}
use Rattle.node_core.specs.Went.{Went}

-- the slot that Start asks for, if it asks
abbrev pub asks_start : ℕ → Node → Slot → Bool
asks_start s st t = not (is_hosted st.entities s) && asks (slot.Shard s) t

-- Start of a shard that isn't hosted
abbrev pub take_shard : SlotLists → ℕ → Rule
take_shard lists s = in_turn after (λ st. map by_entities (acquire (slot.Shard s) st.who (shard_list lists s))) (of_entities (start_remembered s))

-- a store of this shard, that is leased to this incarnation
pub record IsShardGrantOf (c : Script) (who : Incarnation) (s : ℕ) (x : Shelf) : Type 0 where
  pub script_is : x.script ≡ c
  pub shard_is : x.shard ≡ s
  pub spare_is : 99 ≤ x.spare
  pub leased : holder x.entries ≡ Some who

-- where the shard is granted it is such a store
abbrev pub IsShardGrant : Script → Incarnation → ℕ → Acquire → Type 0
IsShardGrant c who s (answer.Granted (store.Shard x)) = IsShardGrantOf c who s x
IsShardGrant c who s (answer.Granted x) = ⊥
IsShardGrant c who s (answer.Held h) = Unit {0}

-- the node with this store of a shard
abbrev pub with_store : ℕ → Shelf → Standing → Standing
with_store s x v = record v { state = after v.state (by_entities (took (slot.Shard s) x.entries)); rooms = slice_set v.rooms s x.spare }

-- a shard was granted: that was told, it is hosted, and its remembered entities have started
abbrev pub Hosts : ℕ → Shelf → Standing → Standing → Spared Item → Spared Item → Type 0
Hosts s x old new before late = Went (with_store s x old) new (given before (told (fact.Granted (slot.Shard s) (epoch x.entries) old.state.who) ∷ [])) late (of_entities (start_remembered s) (with_store s x old).state)

-- where it is granted it is hosted; else it is told who holds it
abbrev pub TookShard : ℕ → Acquire → Standing → Standing → Spared Item → Spared Item → Type 0
TookShard s (answer.Granted (store.Shard x)) old new before late = Hosts s x old new before late
TookShard s (answer.Granted x) old new before late = ⊥
TookShard s (answer.Held h) old new before late = (new ≡ old) × (late ≡ given before (told (fact.Held (slot.Shard s) old.state.who h) ∷ []))

-- what Start leaves: the region, and room to release any shard; it gives an item, and two for each name of the shard, at most
pub record StartLeaves (s : ℕ) (old new : Standing) (before late : Spared Item) : Type 0 where
  pub region_is : new.state.region ≡ old.state.region
  pub rooms : (t n : ℕ) → HasReleaseRoom n old t → HasReleaseRoom n new t
  pub room : before.spare ≤ late.spare + (1 + 2 * length (names_of old.state.set s))

-- Start, where the home of the shard is this node
abbrev pub start_home : SlotLists → ℕ → Rule
start_home lists s st = if is_home st.region s then start lists s st else []

-- the slot that it asks for, if it asks
abbrev pub asks_again : ℕ → Node → Slot → Bool
asks_again s st t = is_home st.region s && not (is_hosted st.entities s) && asks (slot.Shard s) t

-- after a shard that isn't hosted is to start and is released: room as before, and what it gave at most
pub record AgainLeaves (s : ℕ) (old new : Standing) (before late : Spared Item) : Type 0 where
  pub rooms : (t n : ℕ) → HasReleaseRoom n old t → HasReleaseRoom n new t
  pub room : before.spare + 4 * kept_all new ≤ late.spare + 4 * kept_all old + (1 + 2 * length (names_of old.state.set s))
