-- What a tick does again: Start of shards, and the routing of numbers that aren't confirmed.
use Rattle.std.specs.Prelude.{◌≡◌, ℕ, ◌+◌, ◌-◌, ◌*◌, ◌≤◌, Bool, true, false, ◌&&◌, ◌==◌, nat_lt, List, map, filter, length, sum_by, Option, None}
use Rattle.std.specs.Option.{option_map, option_map_or}
use Rattle.std.specs.List.{flat_map}
use Rattle.yard_model.specs.declared.fact.Fact.{Fact}
use Rattle.yard_model.specs.declared.incarnation.Slot.{Slot}
use Rattle.yard_model.specs.declared.incarnation.Slot.TheVariants as slot
use Rattle.yard_model.specs.declared.out.Item.{Item}
use Rattle.yard_model.specs.Entities.{hosted, tick_entities}
use Rattle.yard_model.specs.Coordinator.{tick_coordinator}
use Rattle.yard_model.specs.Node.{Node, Act, Rule, after, of_coordinator, of_entities, of_region, lead, start_again, send_again}
use Rattle.yard_model.specs.Producer.{Producer}
use Rattle.yard_model.specs.Region.{tick_region}
use Rattle.yard_model.specs.Script.{Script, Setting}
use Rattle.yard_model.specs.Setting.{shard_of, names_of}
use Rattle.yard_model.specs.SlotLists.{SlotLists}
use Rattle.yard_model.specs.SlotReads.{queued, confirmed}
use Rattle.yard_model.specs.Spared.{Spared}
use Rattle.yard_model.specs.Turns.{in_turn, for_each}
use Rattle.yard_model.specs.Words.{numbers, at}
use Rattle.actor_laws.specs.CoordinatorStands.{CoordinatorBegins}
use Rattle.actor_laws.specs.EntitiesStand.{EntitiesStandLaw}
use Rattle.actor_laws.specs.Messages.{GenuineIsMessage}
use Rattle.actor_laws.specs.ProducerStands.{ProducerKeeps, ProducerRoutes, ProducerIsGranted}
use Rattle.actor_laws.specs.RegionStands.{RegionKeeps, ShardsAreThere}
use Rattle.actor_laws.specs.ShardStart.{ShardStarts}
use Rattle.node_laws.specs.NodeStands.{IsSoundNode}
use Rattle.shard_lease.specs.Meaning.{Meaning}
use Rattle.node_core.specs.Gave.{Gave, moment}
use Rattle.node_core.specs.Releasing.{HasReleaseRoom}
use Rattle.node_core.specs.Standing.{Standing}
use Rattle.node_core.specs.Still.{is_of_shards}
use Rattle.node_core.specs.Went.{Went}

-- the laws of the actors by which each step of a tick leads from a node that stands to one that stands
pub record TickLaws : Type 0 where
  pub region : RegionKeeps
  pub there : ShardsAreThere
  pub entities : EntitiesStandLaw
  pub message : GenuineIsMessage
  pub starts : ShardStarts
  pub begins : CoordinatorBegins
  pub produces : ProducerKeeps
  pub sends : ProducerRoutes
  pub granted : ProducerIsGranted

-- a step that took n items at most: it let no shard go, and took no room that a release needs
pub record Stepped (n : ℕ) (asked : Slot → Bool) (acts : SlotLists → List Act) (old now : Standing) (meaning new : Meaning) (before late : Spared Item) : Type 0 where
  pub script_is : now.script ≡ old.script
  pub gave : Gave old.script asked acts (moment meaning old.state before.items) (moment new now.state late.items)
  pub stands : IsSoundNode old.script now.state
  pub hosted_are : (s : ℕ) → hosted now.state.entities s ≡ None → hosted old.state.entities s ≡ None
  pub room : before.spare ≤ late.spare + n
  pub rooms : (t k : ℕ) → HasReleaseRoom k old t → HasReleaseRoom k now t

-- Lead; the coordinator's part; the region's part
abbrev pub tick_members : SlotLists → Rule
tick_members lists = in_turn after (lead lists) (in_turn after (of_coordinator tick_coordinator) (of_region tick_region))

-- Shards.

-- the first n shards, rising
abbrev pub starts_again : ℕ → SlotLists → Rule
starts_again n lists = for_each after (start_again lists) (numbers 0 n)

abbrev pub is_shard_under : ℕ → Slot → Bool
is_shard_under n (slot.Shard s) = nat_lt s n
is_shard_under n s = false

-- how many items the shards from n on give at most: of each that it is held or granted, two for each of its names, and four for each message that is kept
abbrev pub start_room : ℕ → Node → ℕ
start_room n st = (st.set.config.shards - n) + 2 * length (flat_map (λ s. names_of st.set s) (numbers n (st.set.config.shards - n))) + 4 * sum_by length st.region.kept

-- after the first n shards: it asked for these alone, let no shard go, and took no room that a release needs
pub record StartedAgain (n : ℕ) (old now : Standing) (meaning new : Meaning) (before late : Spared Item) : Type 0 where
  pub asked : Slot → Bool
  pub asks_under : (s : Slot) → asked s ≡ true → is_shard_under n s ≡ true
  pub script_is : now.script ≡ old.script
  pub gave : Gave old.script asked (λ lists. starts_again n lists old.state) (moment meaning old.state before.items) (moment new now.state late.items)
  pub stands : IsSoundNode old.script now.state
  pub hosted_are : (s : ℕ) → hosted now.state.entities s ≡ None → hosted old.state.entities s ≡ None
  pub room : before.spare + start_room n now.state ≤ late.spare + start_room 0 old.state
  pub rooms : (t k : ℕ) → HasReleaseRoom k old t → HasReleaseRoom k now t

-- each shard, and then the entities' part
abbrev pub tick_shards : Script → SlotLists → Rule
tick_shards c lists = in_turn after (starts_again c.config.shards lists) (of_entities tick_entities)

-- it asks for shards alone
abbrev pub AsksShards : (Slot → Bool) → Type 0
AsksShards asked = (s : Slot) → asked s ≡ true → is_of_shards s ≡ true

-- Numbers.

-- the lists of the queues that a node holds
abbrev pub queues : Node → List (Option (List Fact))
queues st = map (option_map (λ k. k.entries)) st.producers

-- in queue p some number to e isn't confirmed
abbrev pub repeats : List (Option (List Fact)) → ℕ → List ℕ → Bool
repeats lists p e = option_map_or (λ list. nat_lt (confirmed e list) (queued e list)) (at lists (p - 1)) false

-- to which of these names p repeats a number; which of them are of shard t
abbrev pub repeated : List (Option (List Fact)) → List (List ℕ) → ℕ → List (List ℕ)
repeated lists es p = filter (repeats lists p) es

abbrev pub repeated_at : List (Option (List Fact)) → Setting → ℕ → List (List ℕ) → ℕ → List (List ℕ)
repeated_at lists set t es p = filter (λ e. repeats lists p e && (shard_of set e == t)) es

-- after these names of producer p: of the room of a shard each number took at most two
pub record NamesSent (p : ℕ) (es : List (List ℕ)) (old now : Standing) (before late : Spared Item) : Type 0 where
  pub went : Went old now before late (for_each after (send_again p) es old.state)
  pub stands : IsSoundNode old.script now.state
  pub lists_are : queues now.state ≡ queues old.state
  pub room : before.spare ≤ late.spare + 4 * length (repeated (queues old.state) es p)
  pub rooms : (t n : ℕ) → HasReleaseRoom (2 + (n + 2 * length (repeated_at (queues old.state) old.state.set t es p))) old t → HasReleaseRoom (2 + n) now t

-- after the first n producers
pub record ProducersSent (n : ℕ) (old now : Standing) (before late : Spared Item) : Type 0 where
  pub went : Went old now before late (for_each after (λ p. for_each after (send_again p) old.state.set.names) (numbers 1 n) old.state)
  pub stands : IsSoundNode old.script now.state
  pub lists_are : queues now.state ≡ queues old.state
  pub room : before.spare ≤ late.spare + 4 * length (flat_map (repeated (queues old.state) old.state.set.names) (numbers 1 n))
  pub rooms : (t k : ℕ) → HasReleaseRoom (2 + (k + 2 * length (flat_map (repeated_at (queues old.state) old.state.set t old.state.set.names) (numbers 1 n)))) old t → HasReleaseRoom (2 + k) now t
