use Rattle.std.proofs.Common.{ap, length, None, false, ◌∙◌}
use Rattle.yard_model.specs.declared.input.Phase.TheVariants as phase
use Rattle.yard_model.specs.declared.state.State.TheVariants as state
use Rattle.entity_cells.specs.Celled.{Celled, celled}
use Rattle.entity_cells.proofs.CellLaws.{shown, zeros}
use Rattle.entity_cells.proofs.cell.Cell.clear.Goals as goal

pub returns : goal.returns
returns c =
    ap (λ rs. shown phase.Absent false None rs state.NoAccount) (zeros c.self.inside.producers c.self.inside.reach c.self.invariant.0 c.self.invariant.1)
    ∙ ap (λ (y : Celled). celled (length y.cell.reach) 0) c.self.view_is
