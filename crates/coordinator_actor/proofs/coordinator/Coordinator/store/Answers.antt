use Rattle.std.proofs.Common.{ap}
use Rattle.coordinator_actor.specs.Held.{Held}
use Rattle.coordinator_actor.proofs.coordinator.Coordinator.store.Goals as goal

pub returns-clause-script : goal.returns-clause-script
returns-clause-script c = ap (λ (h : Held). h.script) c.self.view_is

pub returns-clause-entries : goal.returns-clause-entries
returns-clause-entries c = ap (λ (h : Held). h.state.entries) c.self.view_is

pub returns-clause-spare : goal.returns-clause-spare
returns-clause-spare c = ap (λ (h : Held). h.spare) c.self.view_is
