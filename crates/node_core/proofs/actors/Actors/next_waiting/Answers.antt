use Rattle.std.proofs.Common.{length, subst}
use Rattle.producer_ctl.specs.Paired.{IsNext, name_at}
use Rattle.node_core.specs.Again.{queues, repeats}
use Rattle.node_core.specs.Standing.{Standing}
use Rattle.node_core.proofs.RepeatLaws.{next_repeated}
use Rattle.node_core.proofs.actors.Actors.next_waiting.Goals as goal

pub returns : goal.returns
returns g c =
    subst (λ (v : Standing). IsNext (λ j. repeats (queues v.state) c.args.p (name_at v.state.set.names j)) c.args.from (length v.state.set.names) c.next_waiting.result) c.self.view_is
    (next_repeated c.self.inside.script.value c.self.inside.region.state c.self.inside.entities c.self.inside.producers c.self.inside.coordinator c.args.p c.args.from c.next_waiting.result c.self.invariant.0.queues_script c.next_waiting.ensures)
