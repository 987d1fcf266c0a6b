use Rattle.std.proofs.Common.{◌∙◌, sym, ap}
use Rattle.yard_model.specs.Region.{takes_host}
use Rattle.node_core.specs.Found.{none}
use Rattle.node_core.specs.Gave.{moment}
use Rattle.node_core.specs.Standing.{Standing}
use Rattle.node_core.proofs.HomeLaws.{host_refused}
use Rattle.node_core.proofs.actors.Actors.host_shard.Goals as goal

pub take_host-requires-clause-taken : goal.take_host-requires-clause-taken
take_host-requires-clause-taken g c = ap (λ (v : Standing). takes_host c.args.s c.args.stamp v.state.region) (sym c.self.view_is) ∙ (sym c.takes_host.ensures ∙ c.if-takes_host.true)

pub returns-else-takes_host-clause-gave : goal.returns-else-takes_host-clause-gave
returns-else-takes_host-clause-gave g c =
    let v : Standing = c.args.self.now in (
      none,
      host_refused v.script c.args.s c.args.stamp c.args.packet.now.from (moment (g.L.Leases.meaning c.args.leases.now) v.state c.args.out.now.items)
          (ap (λ (x : Standing). takes_host c.args.s c.args.stamp x.state.region) (sym c.self.view_is) ∙ (sym c.takes_host.ensures ∙ c.if-takes_host.false)) c.requires.rests,
    )
