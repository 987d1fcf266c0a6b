use Rattle.std.proofs.Common.{arith}
use Rattle.entity_cells.specs.Celled.{all_made}
use Rattle.entity_cells.proofs.Keeping.{keeps_failed}
use Rattle.entity_cells.proofs.MadeLaws.{few_slots, inside_slots, made_put, moved_made, stashed_made}
use Rattle.entity_cells.proofs.cells.Cells.fail.Goals as goal

pub made_at-slot-requires : goal.made_at-slot-requires
made_at-slot-requires c = record { made = c.self.invariant.0; there = inside_slots c.self.inside.window c.self.inside.slots.items c.self.inside.made.items c.self.inside.stashes.lists c.self.view_is c.requires; few = few_slots c.self.inside.slots.items c.self.inside.made.items c.self.invariant.1 }

pub index_mut-requires : goal.index_mut-requires
index_mut-requires c = omega (arith, c.made_at-slot.ensures.slot.within, c.made_at-slot.new.made.ok.0)

pub invariant_of-self : goal.invariant_of-self
invariant_of-self c = (made_put _ c.made_at-slot.ensures.made c.made_at-slot.ensures.slot, stashed_made _ c.self.invariant.1 c.made_at-slot.ensures.seen c.made_at-slot.ensures.made c.made_at-slot.ensures.slot)

pub returns : goal.returns
returns c = λ x e. moved_made c.self.inside.window (all_made c.self.inside.slots.items c.self.inside.made.items) c.self.inside.stashes.lists (keeps_failed x e) c.self.view_is c.requires c.made_at-slot.ensures.seen c.made_at-slot.ensures.made c.made_at-slot.ensures.slot c.index_mut.ensures.value (c.fail.ensures x e)
