use Rattle.std.proofs.Common.{sym}
use Rattle.producer_ctl.specs.Produced.{queueing}
use Rattle.producer_ctl.specs.Producing.{held}
use Rattle.producer_ctl.proofs.ProducingLaws.{sent_stands, sent_moved}
use Rattle.producer_ctl.proofs.PlainLaws.{plain_queueing}
use Rattle.producer_ctl.proofs.SendLaws.{next_brought, next_there, room_there, written_ready}
use Rattle.producer_ctl.proofs.WithinLaws.{queueing_within}
use Rattle.producer_ctl.proofs.producers.Producers.queue.Goals as goal

pub find_near-place-requires : goal.find_near-place-requires
find_near-place-requires c = record { name = next_brought c.args.self.now.script c.args.p (held c.args.p c.args.self.now) c.requires.next }

pub queue_in-sends-requires-clause-next : goal.queue_in-sends-requires-clause-next
queue_in-sends-requires-clause-next c = next_there c.args.p c.self.invariant.0 c.self.view_is c.requires.producer c.place_of-own.ensures c.index_mut.ensures.value c.requires.next

pub queue_in-sends-requires-clause-store : goal.queue_in-sends-requires-clause-store
queue_in-sends-requires-clause-store c = room_there c.args.p c.self.invariant.0 c.self.view_is c.requires.producer c.place_of-own.ensures c.index_mut.ensures.value c.requires.store

pub invariant_of-self : goal.invariant_of-self
invariant_of-self c = (sent_stands c.args.p c.find_near-place.result (queueing c.args.sending.now) (λ st. sym c.find_near-place.ensures.entity) (queueing_within c.args.sending.now) c.find_near-place.ensures.place c.self.invariant.0 c.self.view_is c.requires.producer c.place_of-own.ensures c.index_mut.ensures.value c.queue_in-sends.ensures.sent c.pending_of-self-inside.ensures, λ e. written_ready c.place_of-own.result c.self.inside.held.items c.queue_in-sends.new.held c.self.invariant.1 c.is_ready-self-inside.ensures.before c.is_ready-self-inside.ensures.own e)

pub returns-clause-state : goal.returns-clause-state
returns-clause-state c = sent_moved c.args.p c.find_near-place.result (queueing c.args.sending.now) (λ st. sym c.find_near-place.ensures.entity) (plain_queueing c.args.sending.now) c.find_near-place.ensures.place c.self.invariant.0 c.self.view_is c.requires.producer c.place_of-own.ensures c.index_mut.ensures.value c.queue_in-sends.ensures.sent c.pending_of-self-inside.ensures
