use Rattle.envelope_pool.specs.Keyed.{list_of}
use Rattle.std.proofs.Common.{drop, arith}
use Rattle.entity_cells.specs.Celled.{all_made}
use Rattle.entity_cells.proofs.StashLaws.{inside_stashes, list_at, one_out, place_fits, pop_cell, pop_empty, pop_none, pop_oldest, pop_others, stashed_on}
use Rattle.entity_cells.proofs.cells.Cells.pop.Goals as goal

pub overflow_cast-at : goal.overflow_cast-at
overflow_cast-at c = omega (arith, place_fits c.self.invariant.1 c.self.view_is c.requires.there)

pub pop-requires : goal.pop-requires
pop-requires c = inside_stashes c.self.invariant.1 c.self.view_is c.requires.there

pub invariant_of-self : goal.invariant_of-self
invariant_of-self c = (c.self.invariant.0, stashed_on (drop 1 (list_of c.self.inside.stashes c.args.at)) c.self.invariant.1 (inside_stashes c.self.invariant.1 c.self.view_is c.requires.there) c.pop.ensures.lists c.pop.ensures.cells (one_out (list_of c.self.inside.stashes c.args.at) (c.self.invariant.1.short c.args.at)))

pub returns-clause-empty : goal.returns-clause-empty
returns-clause-empty c = pop_empty c.pop.result (list_at c.self.inside.window (all_made c.self.inside.slots.items c.self.inside.made.items) c.self.inside.stashes.lists c.self.view_is c.requires.there) c.pop.ensures.item

pub returns-clause-oldest : goal.returns-clause-oldest
returns-clause-oldest c = pop_oldest c.pop.result (list_at c.self.inside.window (all_made c.self.inside.slots.items c.self.inside.made.items) c.self.inside.stashes.lists c.self.view_is c.requires.there) c.pop.ensures.item

pub returns-clause-cell : goal.returns-clause-cell
returns-clause-cell c = pop_cell c.self.inside.window (all_made c.self.inside.slots.items c.self.inside.made.items) c.self.inside.stashes.lists c.pop.result c.self.view_is c.requires.there (inside_stashes c.self.invariant.1 c.self.view_is c.requires.there) c.pop.ensures.lists c.requires.gone

pub returns-clause-unchanged : goal.returns-clause-unchanged
returns-clause-unchanged c = pop_none c.self.inside.window (all_made c.self.inside.slots.items c.self.inside.made.items) c.self.inside.stashes.lists c.pop.result c.self.view_is c.requires.there (inside_stashes c.self.invariant.1 c.self.view_is c.requires.there) c.pop.ensures.lists c.pop.ensures.item

pub returns-clause-others : goal.returns-clause-others
returns-clause-others c = pop_others c.self.inside.window (all_made c.self.inside.slots.items c.self.inside.made.items) c.self.inside.stashes.lists c.self.view_is c.requires.there (inside_stashes c.self.invariant.1 c.self.view_is c.requires.there) c.pop.ensures.lists
