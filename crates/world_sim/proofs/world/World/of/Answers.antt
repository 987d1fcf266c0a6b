use Rattle.std.proofs.Common.{sym, subst}
use Rattle.std.specs.Prelude.{None}
use Rattle.yard_model.specs.Script.{IsScript}
use Rattle.world_sim.specs.World.{IsWorld}
use Rattle.world_sim.proofs.NewLaws.{world_new}
use Rattle.world_sim.proofs.world.World.of.Goals as goal

pub invariant_of-result : goal.invariant_of-result
invariant_of-result g c =
    let e = c.in_ok-yard.ensures in
    subst (λ s. IsWorld s None c.in_ok-yard.yard 0 None) (sym c.of-script.ensures)
    (world_new c.standing_is_kept.ensures c.in_ok-yard.yard c.args.charter (subst IsScript e.script e.known) e.script e.version e.ups e.ordered e.seen)
