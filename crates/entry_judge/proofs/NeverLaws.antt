-- What is no entry of a list follows nothing there.
use Rattle.std.proofs.Common.{◌≡◌, sym, refl}
use Rattle.std.specs.Prelude.{Bool, true, false, ◌&&◌}
use Rattle.yard_model.specs.declared.fact.Fact.{Fact}
use Rattle.yard_model.specs.Lawful.{is_coordinator_entry, is_leased, is_queue_entry}
use Rattle.durable_queue.specs.Queue.{Queue}
use Rattle.coordinator_state.specs.Coord.{Coord}
use Rattle.entry_judge.specs.Entered.{Enters, EntersCoord}

not_after : (a b : Bool) → b ≡ false → false ≡ (a && b)
not_after true b e = sym e
not_after false b e = refl

pub never_coordinator : (q : Coord) (f : Fact) → is_coordinator_entry q.script q.entries f ≡ false → EntersCoord q f false q
never_coordinator q f e = record { answer = not_after (is_leased q.entries f) (is_coordinator_entry q.script q.entries f) e; script = refl; entries = refl; spare = refl }

pub never_queue : (q : Queue) (f : Fact) → is_queue_entry q.script q.producer q.entries f ≡ false → Enters q f false q
never_queue q f e = record { answer = not_after (is_leased q.entries f) (is_queue_entry q.script q.producer q.entries f) e; store = refl }
