use Rattle.std.proofs.Common.{None, false, ap}
use Rattle.yard_model.specs.declared.input.Phase.TheVariants as phase
use Rattle.yard_model.specs.declared.state.State.TheVariants as state
use Rattle.entity_cells.proofs.CellLaws.{shown, none_yet}
use Rattle.entity_cells.proofs.cell.Cell.new.Goals as goal

pub returns : goal.returns
returns c = ap (λ rs. shown phase.Absent false None rs state.NoAccount) (none_yet c.args.producers c.requires)
