use Rattle.std.proofs.Common.{[], ◌<◌, length, sym, subst, arith}
use Rattle.entity_cells.specs.Celled.{AreStashed}
use Rattle.entity_cells.proofs.MadeLaws.{IsCleared, cleared_made, clear_made, inside_slots, slot_is, slot_within}
use Rattle.entity_cells.proofs.StashLaws.{inside_stashes, kept_stashed, place_fits, stashed_on}
use Rattle.entity_cells.proofs.cells.Cells.clear.Goals as goal

pub index-requires : goal.index-requires
index-requires c = omega (arith, inside_slots c.self.inside.window c.self.inside.slots.items c.self.inside.made.items c.self.inside.stashes.lists c.self.view_is c.requires, c.self.inside.slots.ok.0)

pub index_mut-requires : goal.index_mut-requires
index_mut-requires c = omega (arith, slot_within c.self.invariant.0 (inside_slots c.self.inside.window c.self.inside.slots.items c.self.inside.made.items c.self.inside.stashes.lists c.self.view_is c.requires) c.index.ensures, c.self.inside.made.ok.0)

pub overflow_cast-at : goal.overflow_cast-at
overflow_cast-at c = omega (arith, place_fits c.self.invariant.1 c.self.view_is c.requires)

pub drop_all-requires : goal.drop_all-requires
drop_all-requires c = inside_stashes c.self.invariant.1 c.self.view_is c.requires

pub invariant_of-self : goal.invariant_of-self
invariant_of-self c =
    let inside : c.args.at < length c.self.inside.slots.items = inside_slots c.self.inside.window c.self.inside.slots.items c.self.inside.made.items c.self.inside.stashes.lists c.self.view_is c.requires in
    let cleared : IsCleared c.self.inside.slots.items c.self.inside.made.items _ _ c.args.at _ _ = cleared_made c.self.invariant.0 inside (slot_is c.self.inside.slots.items inside c.index.ensures) c.index_mut.ensures.value c.clear.ensures in
    (cleared.made_is, stashed_on [] (subst (λ l. AreStashed c.self.inside.window l c.self.inside.stashes) (sym cleared.list_is) (kept_stashed c.args.at _ c.self.invariant.1)) (inside_stashes c.self.invariant.1 c.self.view_is c.requires) c.drop_all.ensures.lists c.drop_all.ensures.cells (omega arith))

pub returns : goal.returns
returns c =
    let inside : c.args.at < length c.self.inside.slots.items = inside_slots c.self.inside.window c.self.inside.slots.items c.self.inside.made.items c.self.inside.stashes.lists c.self.view_is c.requires in
    let cleared : IsCleared c.self.inside.slots.items c.self.inside.made.items _ _ c.args.at _ _ = cleared_made c.self.invariant.0 inside (slot_is c.self.inside.slots.items inside c.index.ensures) c.index_mut.ensures.value c.clear.ensures in
    clear_made c.self.inside.window c.self.inside.slots.items c.self.inside.made.items c.self.inside.stashes.lists c.self.view_is c.requires (inside_stashes c.self.invariant.1 c.self.view_is c.requires) cleared c.clear.ensures c.drop_all.ensures.lists
