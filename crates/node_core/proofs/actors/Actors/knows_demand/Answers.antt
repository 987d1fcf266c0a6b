use Rattle.std.proofs.Common.{◌-◌, subst}
use Rattle.std.specs.Prelude.{IfSome}
use Rattle.yard_model.specs.Words.{at}
use Rattle.node_core.specs.Calling.{AreDemanded}
use Rattle.node_core.specs.Standing.{Standing}
use Rattle.node_core.proofs.FitLaws.{demanded_of}
use Rattle.node_core.proofs.actors.Actors.knows_demand.Goals as goal

pub returns : goal.returns
returns g c = subst (λ (v : Standing). IfSome (at v.state.producers (c.args.p - 1)) (AreDemanded v.script.config.window)) c.self.view_is
    (demanded_of c.self.inside.script.value c.self.inside.producers c.args.p c.self.invariant.0.queues_script c.knows.ensures)
