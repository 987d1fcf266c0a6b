use Rattle.std.proofs.Common.{◌<◌, ◌∙◌, ap, arith, false, length, length-take, sym}
use Rattle.std.specs.Prelude.{slice_index_or}
use Rattle.std.proofs.lemmas.List.{get_or-take}
use Rattle.coordinator_actor.proofs.flags.Flags.get.Goals as goal

pub returns : goal.returns
returns c =
    let within : c.args.s < c.self.inside.len = omega (arith, c.requires, ap length c.self.view_is, length-take c.self.inside.len c.self.inside.cells) in
    ap (λ i. slice_index_or c.self.inside.cells i false) c.get.ensures.value ∙ (sym (get_or-take c.self.inside.len c.self.inside.cells c.args.s false within) ∙ ap (λ l. slice_index_or l c.args.s false) c.self.view_is)
