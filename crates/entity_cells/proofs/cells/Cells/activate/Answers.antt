use Rattle.std.proofs.Common.{[], ℕ, List, ◌≤◌, arith, length, sym, subst, ap₂, ◌∙◌}
use Rattle.consumer_ctl.specs.Held.{Held}
use Rattle.envelope_pool.specs.Keyed.{list_of}
use Rattle.yard_model.specs.declared.packet.Message.{Message}
use Rattle.entity_cells.specs.Celled.{all_made}
use Rattle.entity_cells.proofs.MadeLaws.{active_made, few_slots, inside_slots, made_put, stashed_made}
use Rattle.entity_cells.proofs.StashLaws.{inside_stashes, list_at, place_fits, stashed_on, window_at}
use Rattle.entity_cells.proofs.cells.Cells.activate.Goals as goal

abbrev held : List Message → ℕ → Held
held messages window = record { messages = messages; window = window }

pub made_at-slot-requires : goal.made_at-slot-requires
made_at-slot-requires c = record { made = c.self.invariant.0; there = inside_slots c.self.inside.window c.self.inside.slots.items c.self.inside.made.items c.self.inside.stashes.lists c.self.view_is c.requires.there; few = few_slots c.self.inside.slots.items c.self.inside.made.items c.self.invariant.1 }

pub index_mut-requires : goal.index_mut-requires
index_mut-requires c = omega (arith, c.made_at-slot.ensures.slot.within, c.made_at-slot.new.made.ok.0)

pub overflow_cast-at : goal.overflow_cast-at
overflow_cast-at c = omega (arith, place_fits c.self.invariant.1 c.self.view_is c.requires.there)

pub move_out-requires-clause-key : goal.move_out-requires-clause-key
move_out-requires-clause-key c = inside_stashes c.self.invariant.1 c.self.view_is c.requires.there

pub move_out-requires-clause-room : goal.move_out-requires-clause-room
move_out-requires-clause-room c = subst (λ n. length (list_of c.self.inside.stashes c.args.at) ≤ n) (sym (c.requires.window ∙ window_at c.self.inside.window (all_made c.self.inside.slots.items c.self.inside.made.items) c.self.inside.stashes.lists c.self.view_is c.requires.there)) (c.self.invariant.1.short c.args.at)

pub invariant_of-self : goal.invariant_of-self
invariant_of-self c = (made_put _ c.made_at-slot.ensures.made c.made_at-slot.ensures.slot, stashed_on [] (stashed_made _ c.self.invariant.1 c.made_at-slot.ensures.seen c.made_at-slot.ensures.made c.made_at-slot.ensures.slot) (inside_stashes c.self.invariant.1 c.self.view_is c.requires.there) c.move_out.ensures.lists c.move_out.ensures.cells (omega arith))

pub returns-clause-cell : goal.returns-clause-cell
returns-clause-cell c = λ x e n st. active_made c.self.inside.window (all_made c.self.inside.slots.items c.self.inside.made.items) c.self.inside.stashes.lists x e n st c.self.view_is c.requires.there (inside_stashes c.self.invariant.1 c.self.view_is c.requires.there) c.made_at-slot.ensures.seen c.made_at-slot.ensures.made c.made_at-slot.ensures.slot c.index_mut.ensures.value (c.activate.ensures x e n st) c.move_out.ensures.lists

pub returns-clause-pending : goal.returns-clause-pending
returns-clause-pending c = c.move_out.ensures.pending ∙ ap₂ (held) (sym (list_at c.self.inside.window (all_made c.self.inside.slots.items c.self.inside.made.items) c.self.inside.stashes.lists c.self.view_is c.requires.there)) c.requires.window
