use Rattle.std.proofs.Common.{◌≡◌}
use Rattle.std.specs.Prelude.{drop, nat_lt}
use Rattle.std.specs.List.{list_any}
use Rattle.yard_model.specs.Script.{names_in}
use Rattle.yard_model.specs.SlotReads.{confirmed, queued}
use Rattle.world_sim.proofs.left.is_unconfirmed.Given as goal

abbrev pub invariant-loop-place : goal.invariant-loop-place
invariant-loop-place l = list_any (λ e. nat_lt (confirmed e l.store.entries) (queued e l.store.entries)) (drop l.place (names_in l.store.script.orders)) ≡ list_any (λ e. nat_lt (confirmed e l.store.entries) (queued e l.store.entries)) (names_in l.store.script.orders)
