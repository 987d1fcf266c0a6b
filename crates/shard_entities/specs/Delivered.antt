-- What a delivery rests on.
use Rattle.std.specs.Prelude.{◌≡◌, ℕ, ◌+◌, ◌<◌, ◌≤◌, List, true, [], length, None}
use Rattle.std.specs.List.Sorted.{IsStrictlySortedBy}
use Rattle.std.specs.Ordering.{nat_cmp}
use Rattle.std.specs.Cmp.Lexicographic.{slice_cmp}
use Rattle.yard_model.specs.Limits.{most_orders}
use Rattle.yard_model.specs.declared.fact.Fact.TheVariants as fact
use Rattle.yard_model.specs.declared.incarnation.Slot.TheVariants as slot
use Rattle.yard_model.specs.declared.packet.Record.{Record}
use Rattle.yard_model.specs.Behaviour.{folded, are_applicable}
use Rattle.yard_model.specs.Lawful.{may_follow, is_held}
use Rattle.yard_model.specs.declared.input.Phase.TheVariants as phase
use Rattle.yard_model.specs.declared.packet.Message.{Message}
use Rattle.yard_model.specs.Entities.{cell, entries, hosted, entries_in}
use Rattle.yard_model.specs.Script.{IsScript, setting, is_version}
use Rattle.yard_model.specs.SlotReads.{epoch, journal, position, last_snapshot}
use Rattle.shard_entities.specs.declared.place.Place.{Place}
use Rattle.shard_entities.specs.declared.delivery.Standing.{Standing}
use Rattle.shard_entities.specs.Lodged.{Lodged, HasRoom, is_for}
use Rattle.shard_entities.specs.Placed.{IsPlace}

-- what stands of any entities
pub record Stands (v : Lodged) : Type 0 where
  pub script_is : IsScript v.script
  pub set_is : v.state.set ≡ setting v.script
  pub admitted : is_version v.script v.state.version ≡ true
  pub sorted : IsStrictlySortedBy (slice_cmp nat_cmp) (setting v.script).names
  pub there : length v.state.cells ≡ length (setting v.script).names
  pub shards_there : length v.state.hosted ≡ v.script.config.shards
  pub rooms_there : length v.rooms ≡ v.script.config.shards
  pub leased : (s : ℕ) → (hosted v.state s ≡ None → ⊥) → is_held (entries_in (hosted v.state s)) ≡ true

-- a message for the entity at a place, whose shard is hosted, with room for a record and a snapshot; an entity that doesn't exist has nothing stashed
pub record IsDelivery (v : Lodged) (p : Place) (m : Message) : Type 0 where
  pub place_is : IsPlace v.script p
  pub entity_is : m.entity ≡ p.entity
  pub for_it : is_for v.script p.entity m ≡ true
  pub there : HasRoom v p.shard 1
  pub fresh : (cell v.state p.entity).phase ≡ phase.Absent → (cell v.state p.entity).stash ≡ []

-- how many records an entity has, how many of these are of a producer, and the epoch of its shard's lease
abbrev pub standing_of : Lodged → List ℕ → ℕ → Standing
standing_of v e p = record { count = length (journal e (entries v.state e)); position = position p (journal e (entries v.state e)); epoch = epoch (entries v.state e) }

-- the record that a message gives, which may come next; its events apply one after the other
pub record IsNext (v : Lodged) (p : Place) (m : Message) (r : Record) : Type 0 where
  pub may : may_follow v.script (slot.Shard p.shard) (entries v.state p.entity) (fact.Wrote p.entity r) ≡ true
  pub applies : are_applicable (folded v.script.config.kind (journal p.entity (entries v.state p.entity))) r.events ≡ true
  pub number_is : r.number ≡ length (journal p.entity (entries v.state p.entity)) + 1
  pub last : last_snapshot p.entity (entries v.state p.entity) < r.number
  pub few : m.number ≤ most_orders
