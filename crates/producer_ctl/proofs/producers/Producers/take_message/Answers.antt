use Rattle.std.proofs.Common.{sym}
use Rattle.producer_ctl.proofs.SendLaws.{pending_placed, pending_queued, pending_within, after_is, message_is, message_may_go, message_to, left_below, pending_passed}
use Rattle.producer_ctl.proofs.producers.Producers.take_message.Goals as goal

pub name-entity-requires : goal.name-entity-requires
name-entity-requires c = pending_within c.self.invariant.0 c.in-Some.is

pub message_in-requires-clause-place : goal.message_in-requires-clause-place
message_in-requires-clause-place c = pending_placed c.name-entity.result.now c.self.invariant.0 c.in-Some.is (left_below c.self.inside.held.items c.self.inside.pending c.self.view_is c.in-Some.is c.requires.left) c.place_of-place.ensures c.index.ensures c.name-entity.ensures

pub message_in-requires-clause-queued : goal.message_in-requires-clause-queued
message_in-requires-clause-queued c = pending_queued c.name-entity.result.now c.self.invariant.0 c.in-Some.is (left_below c.self.inside.held.items c.self.inside.pending c.self.view_is c.in-Some.is c.requires.left) c.place_of-place.ensures c.index.ensures c.name-entity.ensures

pub invariant_of-self : goal.invariant_of-self
invariant_of-self c = (pending_passed c.self.invariant.0 c.in-Some.is (left_below c.self.inside.held.items c.self.inside.pending c.self.view_is c.in-Some.is c.requires.left), c.self.invariant.1)

pub returns-clause-state : goal.returns-clause-state
returns-clause-state c = after_is c.self.inside.held.items c.self.inside.pending c.self.view_is c.in-Some.is (left_below c.self.inside.held.items c.self.inside.pending c.self.view_is c.in-Some.is c.requires.left)

pub returns-clause-message : goal.returns-clause-message
returns-clause-message c = sym (message_is c.name-entity.result.now c.self.invariant.0 c.self.view_is c.in-Some.is (left_below c.self.inside.held.items c.self.inside.pending c.self.view_is c.in-Some.is c.requires.left) c.place_of-place.ensures c.index.ensures c.name-entity.ensures c.message_in.ensures)

pub returns-clause-entity : goal.returns-clause-entity
returns-clause-entity c = message_to c.args.self.now c.message_in.result (sym (message_is c.name-entity.result.now c.self.invariant.0 c.self.view_is c.in-Some.is (left_below c.self.inside.held.items c.self.inside.pending c.self.view_is c.in-Some.is c.requires.left) c.place_of-place.ensures c.index.ensures c.name-entity.ensures c.message_in.ensures))

pub returns-clause-within : goal.returns-clause-within
returns-clause-within c = message_may_go c.name-entity.result.now c.self.invariant.0 c.self.view_is c.in-Some.is (left_below c.self.inside.held.items c.self.inside.pending c.self.view_is c.in-Some.is c.requires.left) c.place_of-place.ensures c.index.ensures c.name-entity.ensures c.message_in.ensures
