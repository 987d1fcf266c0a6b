use Rattle.std.proofs.Common.{◌≡◌, ◌-◌, ◌≤◌, map, take}
use Rattle.std.specs.Prelude.{sum}
use Rattle.yard_model.specs.Script.{names_in}
use Rattle.yard_model.specs.SlotReads.{confirmed}
use Rattle.world_sim.proofs.left.outstanding_in.Given as goal

abbrev pub invariant-loop-place : goal.invariant-loop-place
invariant-loop-place l = (l.outstanding ≡ l.ordered - sum (map (λ e. confirmed e l.store.entries) (take l.place (names_in l.store.script.orders)))) × (l.outstanding ≤ l.ordered)
