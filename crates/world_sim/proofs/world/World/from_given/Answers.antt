use Rattle.std.proofs.Common.{subst}
use Rattle.yard_model.specs.Script.{IsScript}
use Rattle.world_sim.specs.declared.world.Origin.{Origin}
use Rattle.world_sim.proofs.GivenLaws.{world_from, view_from}
use Rattle.world_sim.proofs.world.World.from_given.Goals as goal

pub invariant_of-result : goal.invariant_of-result
invariant_of-result g c =
    let e = c.in_ok-yard.ensures in
    let o : Origin = record { stores = c.of.result; version = c.version.result } in
    world_from c.standing_is_kept.ensures c.in_ok-yard.yard c.args.charter _ o (g.B.Behaviour.version_of c.args.behaviour) c.args.stores c.of-script.ensures c.of.ensures c.requires.script c.version.ensures.version (subst IsScript e.script e.known) c.requires.given e.script e.version e.seen

pub returns : goal.returns
returns g c =
    let o : Origin = record { stores = c.of.result; version = c.version.result } in
    view_from c.args.charter _ o (g.B.Behaviour.version_of c.args.behaviour) c.args.stores c.of-script.ensures c.of.ensures c.requires.script c.version.ensures.version
