use Rattle.std.proofs.Common.{◌≡◌, ◌≤◌, ◌-◌, ◌+◌, ◌∙◌, ℕ, length, sym, ap, subst, refl, arith}
use Rattle.std.specs.Prelude.{Option, Some, None, slice_get, is_some, MatchOption}
use Rattle.std.specs.Option.{option_map}
use Rattle.yard_model.specs.declared.incarnation.Slot.TheVariants as slot
use Rattle.yard_model.specs.Node.{Node}
use Rattle.yard_model.specs.Script.{Script}
use Rattle.coordinator_actor.specs.Held.{Held}
use Rattle.node_core.specs.Slots.{held_of, last_slots, queue_slots}
use Rattle.node_core.specs.Standing.{Standing}
use Rattle.node_core.proofs.SlotLaws.{IsReached, reached_first, reached_past, reached_over, reached_it, reached_rest}
use Rattle.node_core.proofs.actors.Actors.held_last.Goals as goal
