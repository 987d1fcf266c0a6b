use Rattle.std.proofs.Common.{arith, ◌≤◌, ap, sym, subst, length, ◌∙◌}
use Rattle.entity_cells.specs.Celled.{Celled, all_made}
use Rattle.entity_cells.proofs.StashLaws.{inside_stashes, place_fits, stash_at}
use Rattle.entity_cells.proofs.cells.Cells.stashed.Goals as goal

pub overflow_cast-at : goal.overflow_cast-at
overflow_cast-at c = omega (arith, place_fits c.self.invariant.1 c.self.view_is c.requires)

pub len-requires : goal.len-requires
len-requires c = inside_stashes c.self.invariant.1 c.self.view_is c.requires

pub returns-clause-count : goal.returns-clause-count
returns-clause-count c = c.len.ensures ∙ sym (ap (λ (x : Celled). length x.cell.stash) (stash_at c.self.inside.window (all_made c.self.inside.slots.items c.self.inside.made.items) c.self.inside.stashes.lists c.self.view_is c.requires))

pub returns-clause-fits : goal.returns-clause-fits
returns-clause-fits c = subst (λ (x : Celled). length x.cell.stash ≤ x.window) (sym (stash_at c.self.inside.window (all_made c.self.inside.slots.items c.self.inside.made.items) c.self.inside.stashes.lists c.self.view_is c.requires)) (c.self.invariant.1.short c.args.at)
