use Rattle.envelope_pool.specs.Keyed.{list_of}
use Rattle.std.proofs.Common.{[], ◌∷◌, ◌++◌, arith}
use Rattle.entity_cells.specs.Celled.{all_made}
use Rattle.entity_cells.proofs.StashLaws.{has_cell, inside_stashes, one_more, place_fits, put_seen, stash_room, stashed_on}
use Rattle.entity_cells.proofs.cells.Cells.put.Goals as goal

pub overflow_cast-at : goal.overflow_cast-at
overflow_cast-at c = omega (arith, place_fits c.self.invariant.1 c.self.view_is c.requires.there)

pub push-requires : goal.push-requires
push-requires c = inside_stashes c.self.invariant.1 c.self.view_is c.requires.there

pub unreachable-requires : goal.unreachable-requires
unreachable-requires c = has_cell c.self.invariant.1 c.self.view_is c.requires.there c.requires.room c.in-Err.ensures.full

pub invariant_of-self : goal.invariant_of-self
invariant_of-self c = (c.self.invariant.0, stashed_on (list_of c.self.inside.stashes c.args.at ++ c.args.message ∷ []) c.self.invariant.1 (inside_stashes c.self.invariant.1 c.self.view_is c.requires.there) c.in-Ok.ensures.ok c.in-Ok.ensures.cells (one_more (list_of c.self.inside.stashes c.args.at) c.args.message (stash_room c.self.inside.window (all_made c.self.inside.slots.items c.self.inside.made.items) c.self.inside.stashes.lists c.self.view_is c.requires.there c.requires.room)))

pub returns : goal.returns
returns c = λ x. put_seen c.self.inside.window (all_made c.self.inside.slots.items c.self.inside.made.items) c.self.inside.stashes.lists x c.args.message c.self.view_is c.requires.there (inside_stashes c.self.invariant.1 c.self.view_is c.requires.there) c.in-Ok.ensures.ok
