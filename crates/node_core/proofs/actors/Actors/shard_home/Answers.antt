use Rattle.std.proofs.Common.{◌≡◌, ◌<◌, ◌∙◌, sym, ap, subst}
use Rattle.yard_model.specs.Region.{takes_home}
use Rattle.node_core.specs.Found.{none}
use Rattle.node_core.specs.Gave.{moment}
use Rattle.node_core.specs.Standing.{Standing}
use Rattle.plain_laws.proofs.Booleans.{below}
use Rattle.yard_model.specs.Script.{Script}
use Rattle.node_core.proofs.HomeLaws.{home_refused, home_shard}
use Rattle.node_core.proofs.actors.Actors.shard_home.Goals as goal

pub takes_home-requires : goal.takes_home-requires
takes_home-requires g c =
    let script : Script = c.args.self.now.script in
    let shards_are : c.self.inside.region.script.config.shards ≡ script.config.shards = ap (λ (d : Script). d.config.shards) c.self.invariant.0.region_script ∙ ap (λ (v : Standing). v.script.config.shards) c.self.view_is in
    subst (λ n. c.args.s < n) (sym shards_are) (below c.args.s script.config.shards (home_shard script c.args.s c.args.home c.args.stamp c.args.packet.now c.requires.body c.requires.genuine))

pub take_home-requires-clause-taken : goal.take_home-requires-clause-taken
take_home-requires-clause-taken g c = ap (λ (v : Standing). takes_home c.args.s c.args.home c.args.stamp v.state.region) (sym c.self.view_is) ∙ (sym c.takes_home.ensures ∙ c.if-takes_home.true)

pub returns-else-takes_home-clause-gave : goal.returns-else-takes_home-clause-gave
returns-else-takes_home-clause-gave g c =
    let v : Standing = c.args.self.now in (
      none,
      home_refused v.script c.args.s c.args.home c.args.stamp (moment (g.L.Leases.meaning c.args.leases.now) v.state c.args.out.now.items)
          (ap (λ (x : Standing). takes_home c.args.s c.args.home c.args.stamp x.state.region) (sym c.self.view_is) ∙ (sym c.takes_home.ensures ∙ c.if-takes_home.false)) c.requires.rests,
    )
