-- Which producers are steady, and what is then queued.
use Rattle.std.specs.Prelude.{ℕ, Bool, false, codes, List, [], ◌∷◌, length}
use Rattle.yard_model.specs.declared.event.Command.TheVariants as command
use Rattle.yard_model.specs.declared.event.Kind.TheVariants as kind
use Rattle.yard_model.specs.declared.charter.Order.TheVariants as order
use Rattle.yard_model.specs.Script.{Script, setting}
use Rattle.yard_model.specs.SlotLists.{SlotLists}
use Rattle.yard_model.specs.Trace.{no_lists, lists_of}
use Rattle.yard_model.specs.World.{trace_of, all_sends}
use Rattle.yard_model.specs.Settled.{settled}
use Rattle.yard_model.specs.Workers.{worker_orders, is_steady, worked}
use Rattle.worked_scripts.specs.Worked.{script_of}

abbrev pub script : Script
script = script_of (record { nodes = 2; shards = 4; producers = 2; buffer = 100; window = 50; snapshot = 100; keep = 2; remember = false; kind = kind.Counter }) (
    (order.Up 1) ∷
    (order.Up 2) ∷
    (order.Produce 1 1) ∷
    (order.Produce 2 2) ∷
    (order.Send 1 (codes "a") (command.Add 1)) ∷
    (order.Send 2 (codes "b") (command.Add 2)) ∷
    (order.Rest 2) ∷
    [])

abbrev pub counts : List ℕ
counts = length (worker_orders script 1) ∷ length (worker_orders script 2) ∷ []

abbrev pub steady : List Bool
steady = is_steady script 12 1 1 ∷ is_steady script 11 1 1 ∷ is_steady script 12 1 2 ∷ is_steady script 1000 2 2 ∷ []

abbrev pub lists : SlotLists
lists = lists_of (setting script) (trace_of script)

abbrev pub empty : SlotLists
empty = no_lists (setting script)

abbrev pub worked_where : List Bool
worked_where = worked script 12 lists ∷ worked script 12 empty ∷ worked script 11 empty ∷ []

abbrev pub settled_where : List Bool
settled_where = settled script (all_sends script) lists ∷ settled script (all_sends script) empty ∷ []
