use Rattle.std.proofs.Common.{ap, ◌∙◌}
use Rattle.yard_model.specs.declared.fact.Fact.TheVariants as fact
use Rattle.yard_model.specs.declared.input.Phase.TheVariants as phase
use Rattle.yard_model.specs.Move.{told}
use Rattle.entity_cells.specs.Celled.{Celled, celled_after}
use Rattle.entity_cells.proofs.CellLaws.{shown, at_state, zeros}
use Rattle.entity_cells.proofs.cell.Cell.activate.Goals as goal

pub returns : goal.returns
returns c = λ x e n st.
    ap (λ rs. shown phase.Active c.self.inside.passivating c.self.inside.armed rs c.args.state.now) (zeros c.self.inside.producers c.self.inside.reach c.self.invariant.0 c.self.invariant.1)
    ∙ ap (λ (y : Celled). at_state c.args.state.now (celled_after y (told (fact.Active x e n st)))) c.self.view_is
