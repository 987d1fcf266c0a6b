use Rattle.std.proofs.Common.{subst, sym, ◌∙◌}
use Rattle.shard_entities.specs.Placed.{IsPlace}
use Rattle.shard_entities.proofs.LoopLaws.{delivering_first, deliver_next, deliver_room, deliver_spare, first_for, for_entity, delivering_some, delivering_state, delivering_out, delivering_pending, delivering_takes}
use Rattle.shard_entities.proofs.shards.Shards.deliver_all.Goals as goal

pub loop-init : goal.loop-init
loop-init g c = delivering_first c.requires.for_it c.requires.there c.requires.space c.requires.settled c.requires.room

pub oldest-message-requires : goal.oldest-message-requires
oldest-message-requires g c = delivering_some c.loop.invariant c.loop-test.true c.len-end.ensures.len

pub deliver_to-requires-clause-version : goal.deliver_to-requires-clause-version
deliver_to-requires-clause-version g c = c.requires.version ∙ sym c.loop.invariant.version_is

pub deliver_to-requires-clause-place : goal.deliver_to-requires-clause-place
deliver_to-requires-clause-place g c = subst (λ s. IsPlace s c.args.place.now) (sym c.loop.invariant.script_is) c.requires.place

pub deliver_to-requires-clause-entity : goal.deliver_to-requires-clause-entity
deliver_to-requires-clause-entity g c = for_entity c.loop.self.script c.args.place.now.entity c.oldest-message.result (first_for c.loop.self.script c.args.place.now.entity c.loop.invariant.for_it c.oldest-message.ensures.message)

pub deliver_to-requires-clause-for_it : goal.deliver_to-requires-clause-for_it
deliver_to-requires-clause-for_it g c = first_for c.loop.self.script c.args.place.now.entity c.loop.invariant.for_it c.oldest-message.ensures.message

pub deliver_to-requires-clause-there : goal.deliver_to-requires-clause-there
deliver_to-requires-clause-there g c = deliver_room c.loop.invariant c.oldest-message.ensures.message

pub deliver_to-requires-clause-settled : goal.deliver_to-requires-clause-settled
deliver_to-requires-clause-settled g c = c.loop.invariant.settled

pub deliver_to-requires-clause-room : goal.deliver_to-requires-clause-room
deliver_to-requires-clause-room g c = deliver_spare c.loop.invariant c.oldest-message.ensures.message

pub loop-preserved : goal.loop-preserved
loop-preserved g c = deliver_next c.oldest-message.result c.loop.invariant c.knows.ensures (subst (λ s. IsPlace s c.args.place.now) (sym c.loop.invariant.script_is) c.requires.place) c.oldest-message.ensures.message c.oldest-message.ensures.window c.deliver_to.ensures.state c.deliver_to.ensures.out c.deliver_to.ensures.settled

pub returns-clause-state : goal.returns-clause-state
returns-clause-state g c = delivering_state c.loop.invariant c.loop-test.false c.len-end.ensures.len

pub returns-clause-out : goal.returns-clause-out
returns-clause-out g c = delivering_out c.loop.invariant c.loop-test.false c.len-end.ensures.len

pub returns-clause-settled : goal.returns-clause-settled
returns-clause-settled g c = c.loop.invariant.settled

pub returns-clause-pending : goal.returns-clause-pending
returns-clause-pending g c = delivering_pending c.loop.invariant c.loop-test.false c.len-end.ensures.len

pub returns-clause-takes : goal.returns-clause-takes
returns-clause-takes g c = delivering_takes c.loop.invariant c.loop-test.false c.len-end.ensures.len
