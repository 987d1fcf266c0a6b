use Rattle.std.proofs.Common.{◌<◌, ◌-◌, ap, length, sym, subst, ◌∙◌}
use Rattle.std.specs.Prelude.{take, slice_set}
use Rattle.yard_model.specs.declared.packet.Body.TheVariants as body
use Rattle.yard_model.specs.Move.{post}
use Rattle.entity_cells.specs.Celled.{Celled, celled_after}
use Rattle.entity_cells.proofs.CellLaws.{shown, asked, phase_stays}
use Rattle.entity_cells.proofs.cell.Cell.ask.Goals as goal

pub returns : goal.returns
returns c = λ x y e n.
    ap (λ rs. shown c.self.inside.phase c.self.inside.passivating c.self.inside.armed rs c.self.inside.state)
    (ap (λ j. take c.self.inside.producers (slice_set c.self.inside.reach (j - 1) c.args.up_to)) c.get.ensures.value
    ∙ asked c.self.inside.producers c.self.inside.reach (c.args.p - 1) c.args.up_to c.self.invariant.0 c.self.invariant.1 (subst (λ (z : Celled). c.args.p - 1 < length z.cell.reach) (sym c.self.view_is) c.requires))
    ∙ (ap (λ ph. shown ph c.self.inside.passivating c.self.inside.armed (slice_set (take c.self.inside.producers c.self.inside.reach) (c.args.p - 1) c.args.up_to) c.self.inside.state) (phase_stays c.self.inside.phase c.args.p e n c.args.up_to)
    ∙ ap (λ (z : Celled). celled_after z (post x y (body.Request c.args.p e n c.args.up_to))) c.self.view_is)
