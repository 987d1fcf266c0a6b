use Rattle.std.proofs.Common.{◌≡◌, arith, subst, true}
use Rattle.yard_model.specs.declared.state.State.{State}
use Rattle.yard_model.specs.Behaviour.{are_applicable, is_valid}
use Rattle.entity_cells.specs.Celled.{all_made}
use Rattle.entity_cells.proofs.MadeLaws.{applied_made, few_slots, inside_slots, made_put, state_seen, stashed_made}
use Rattle.entity_cells.proofs.cells.Cells.apply.Goals as goal

pub made_at-slot-requires : goal.made_at-slot-requires
made_at-slot-requires g c = record { made = c.self.invariant.0; there = inside_slots c.self.inside.window c.self.inside.slots.items c.self.inside.made.items c.self.inside.stashes.lists c.self.view_is c.requires.there; few = few_slots c.self.inside.slots.items c.self.inside.made.items c.self.invariant.1 }

pub index_mut-requires : goal.index_mut-requires
index_mut-requires g c = omega (arith, c.made_at-slot.ensures.slot.within, c.made_at-slot.new.made.ok.0)

pub apply-requires-clause-valid : goal.apply-requires-clause-valid
apply-requires-clause-valid g c = subst (λ (s : State). is_valid (g.B.Behaviour.kind_of c.args.behaviour.now) s ≡ true) (state_seen c.self.inside.window (all_made c.self.inside.slots.items c.self.inside.made.items) c.self.inside.stashes.lists c.self.view_is c.requires.there c.made_at-slot.ensures.seen c.made_at-slot.ensures.slot c.index_mut.ensures.value) c.requires.valid

pub apply-requires-clause-events : goal.apply-requires-clause-events
apply-requires-clause-events g c = subst (λ (s : State). are_applicable s c.args.events.now ≡ true) (state_seen c.self.inside.window (all_made c.self.inside.slots.items c.self.inside.made.items) c.self.inside.stashes.lists c.self.view_is c.requires.there c.made_at-slot.ensures.seen c.made_at-slot.ensures.slot c.index_mut.ensures.value) c.requires.events

pub invariant_of-self : goal.invariant_of-self
invariant_of-self g c = (made_put _ c.made_at-slot.ensures.made c.made_at-slot.ensures.slot, stashed_made _ c.self.invariant.1 c.made_at-slot.ensures.seen c.made_at-slot.ensures.made c.made_at-slot.ensures.slot)

pub returns : goal.returns
returns g c = applied_made c.self.inside.window (all_made c.self.inside.slots.items c.self.inside.made.items) c.self.inside.stashes.lists c.args.events.now c.self.view_is c.requires.there c.made_at-slot.ensures.seen c.made_at-slot.ensures.made c.made_at-slot.ensures.slot c.index_mut.ensures.value c.apply.ensures
