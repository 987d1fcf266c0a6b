-- The charter of the example, and what an order leaves.
use Rattle.std.specs.Prelude.{◌≡◌, ◌+◌, Bool, true, false, [], ◌∷◌, None, Some}
use Rattle.yard_model.specs.declared.charter.Order.TheVariants as order
use Rattle.yard_model.specs.declared.event.Command.TheVariants as command
use Rattle.yard_model.specs.declared.event.Kind.TheVariants as kind
use Rattle.yard_model.specs.Script.{Script}
use Rattle.world_sim.specs.declared.fault.StepFault.TheVariants as fault
use Rattle.world_sim.specs.Played.{Played}

-- two nodes and one producer, which sends the counter c1 a command
abbrev pub cluster : Script
cluster = record {
  config = record { nodes = 2; shards = 1; producers = 1; buffer = 100; window = 4; snapshot = 100; keep = 2; remember = false; kind = kind.Counter };
  orders = record { number = 1; order = order.Up 1 } ∷ record { number = 2; order = order.Produce 1 1 } ∷ record { number = 3; order = order.Send 1 (99 ∷ 49 ∷ []) (command.Add 5) } ∷ record { number = 4; order = order.Settle } ∷ [];
}

-- one order more was played: the trace goes on, or the wire is full
abbrev pub GoesOn : Played → Bool → Played → Type 0
GoesOn old true new = new ≡ record { script = old.script; given = old.given; count = old.count + 1; fault = None }
GoesOn old false new = new.fault ≡ Some fault.WireFull
