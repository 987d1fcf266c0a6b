use Rattle.std.proofs.Common.{◌∙◌, ◌<◌, length, ap, arith, length-take}
use Rattle.std.specs.Prelude.{slice_set}
use Rattle.std.proofs.Math.Seq.{take-set-lt}
use Rattle.coordinator_actor.proofs.flags.Flags.set.Goals as goal

pub returns : goal.returns
returns c =
    let within : c.args.s < c.self.inside.len = omega (arith, c.requires, ap length c.self.view_is, length-take c.self.inside.len c.self.inside.cells) in
    rw c.get.ensures.value (take-set-lt c.self.inside.len c.self.inside.cells c.args.s c.args.flag within ∙ ap (λ l. slice_set l c.args.s c.args.flag) c.self.view_is)
