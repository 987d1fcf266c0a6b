use Rattle.std.proofs.Common.{sym, ap, subst}
use Rattle.std.specs.Prelude.{OnOk}
use Rattle.std.proofs.lemmas.Result.{on_ok_weaker}
use Rattle.node_core.proofs.PartLaws.{parts_reserved, parts_ready}
use Rattle.node_core.proofs.actors.Actors.reserve.Goals as goal

pub invariant_of-self-2 : goal.invariant_of-self-2
invariant_of-self-2 g c = (parts_reserved c.reserve-2.ensures.state c.reserve-3.ensures.state c.reserve_office.ensures.same c.self.invariant.0, c.self.invariant.1)

pub returns-clause-ready : goal.returns-clause-ready
returns-clause-ready g c = on_ok_weaker c.reserve_office.result
    (λ office. parts_ready c.self.inside.entities c.reserve-2.new.self c.self.inside.producers c.reserve-3.new.self c.reserve_office.new.office c.self.inside.buffer c.reserve.new.self.spare c.self.invariant.0.script_is c.self.invariant.1.0 c.reserve-2.ensures.state c.reserve-3.ensures.state c.self.invariant.0.entities_script c.self.invariant.0.queues_script
    c.in_ok-reserve.ensures.ok c.in_ok-reserve-2.ensures.ok c.in_ok-reserve-3.ensures.ok office) c.reserve_office.ensures.ready
