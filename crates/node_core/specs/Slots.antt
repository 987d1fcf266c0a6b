-- The slots of a script, and those that a node holds.
use Rattle.std.specs.Prelude.{List, ◌∷◌, ◌++◌, map, filter, is_some}
use Rattle.yard_model.specs.declared.incarnation.Slot.{Slot}
use Rattle.yard_model.specs.declared.incarnation.Slot.TheVariants as slot
use Rattle.yard_model.specs.Node.{Node}
use Rattle.yard_model.specs.Script.{Script}
use Rattle.yard_model.specs.Words.{numbers}
use Rattle.actor_laws.specs.Hands.{held_list}

-- shards rising, the coordinator, queues rising
-- the queues, and before them the coordinator's
abbrev pub queue_slots : Script → List Slot
queue_slots c = map slot.Queue (numbers 1 c.config.producers)

abbrev pub last_slots : Script → List Slot
last_slots c = slot.Coordinator ∷ queue_slots c

abbrev pub slots : Script → List Slot
slots c = map slot.Shard (numbers 0 c.config.shards) ++ last_slots c

-- those of these that the node holds
abbrev pub held_of : List Slot → Node → List Slot
held_of ss st = filter (λ s. is_some (held_list s st)) ss

abbrev pub held_slots : Script → Node → List Slot
held_slots c st = held_of (slots c) st
