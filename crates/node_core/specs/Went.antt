-- What a step of a node did that asks for nothing: it is after these acts, whose items it told.
use Rattle.std.specs.Prelude.{◌≡◌, ℕ, ◌+◌, ◌-◌, List, [], ◌++◌, length, fold, Option, Some, None, IfSome, slice_index_or, slice_set}
use Rattle.std.specs.List.{flat_map}
use Rattle.std.specs.Option.{option_map}
use Rattle.yard_model.specs.declared.fact.Fact.{Fact}
use Rattle.yard_model.specs.declared.out.Item.{Item}
use Rattle.yard_model.specs.declared.incarnation.Incarnation.{Incarnation}
use Rattle.yard_model.specs.Coordinator.{Coordinator, coordinator_after}
use Rattle.yard_model.specs.Move.{Move, item_of}
use Rattle.yard_model.specs.Node.{Act, by_entities, by_producer, after, items_of}
use Rattle.yard_model.specs.Script.{Script, Setting, setting}
use Rattle.yard_model.specs.Spared.{Spared}
use Rattle.yard_model.specs.Turns.{where_some}
use Rattle.coordinator_actor.specs.Held.{Held}
use Rattle.producer_ctl.specs.Produced.{room_step}
use Rattle.shard_entities.specs.Lodged.{rooms_step}
use Rattle.node_core.specs.Standing.{Standing, IsOf, spare_in}

-- the room of each shard's store, as an act leaves it
abbrev pub rooms_after : Setting → List ℕ → Act → List ℕ
rooms_after set old (by_entities m) = rooms_step set old m
rooms_after set old a = old

-- the room of each queue, as an act leaves it
abbrev pub queues_after : List ℕ → Act → List ℕ
queues_after old (by_producer p m) = slice_set old (p - 1) (room_step (slice_index_or old (p - 1) 0) m)
queues_after old a = old

abbrev pub entries_of_office : Option Coordinator → List Fact
entries_of_office None = []
entries_of_office (Some k) = k.entries

pub record Went (old new : Standing) (before now : Spared Item) (acts : List Act) : Type 0 where
  pub script_is : new.script ≡ old.script
  pub node_is : new.state ≡ fold after old.state acts
  pub items_are : now.items ≡ before.items ++ items_of acts
  pub spare_is : now.spare ≡ before.spare - length (items_of acts)
  pub rooms_are : new.rooms ≡ fold (rooms_after (setting old.script)) old.rooms acts
  pub queues_are : new.queues ≡ fold queues_after old.queues acts
  -- what the coordinator writes is off the spare of its store
  pub office_is : new.spare + length (entries_of_office new.state.coordinator) ≡ old.spare + length (entries_of_office old.state.coordinator)

-- what a rule of the coordinator did, where there is one: it is after its moves, and of the same script and incarnation
pub record CoordinatorWent (p : Coordinator → List Move) (old new : Option Held) (before now : Spared Item) : Type 0 where
  pub state_is : option_map (λ k. k.state) new ≡ option_map (λ k. fold coordinator_after k.state (p k.state)) old
  pub items_are : now.items ≡ before.items ++ flat_map item_of (where_some p (option_map (λ k. k.state) old))
  pub spare_is : now.spare ≡ before.spare - length (flat_map item_of (where_some p (option_map (λ k. k.state) old)))
  pub office_is : spare_in new + length (entries_of_office (option_map (λ k. k.state) new)) ≡ spare_in old + length (entries_of_office (option_map (λ k. k.state) old))
  pub stays_of : (c : Script) (who : Incarnation) → IfSome old (IsOf c who) → IfSome new (IsOf c who)
