use Rattle.entity_cells.proofs.MadeLaws.{cell_found}
use Rattle.entity_cells.proofs.cells.cell_in.Goals as goal

pub returns : goal.returns
returns c = cell_found c.requires.made c.requires.there c.index.ensures c.index-2.ensures
