use Rattle.std.proofs.Common.{◌<◌, ◌∙◌, length, ap, sym, subst, refl}
use Rattle.yard_model.specs.Script.{setting}
use Rattle.producer_ctl.specs.Paired.{name_at}
use Rattle.producer_ctl.specs.Produced.{Produced, IsProduced}
use Rattle.producer_ctl.proofs.PairLaws.{next_stored, queued_written, queue_stands, queue_moved}
use Rattle.producer_ctl.proofs.producer.Producer.tell_queued.Goals as goal

pub queue_at-requires-clause-within : goal.queue_at-requires-clause-within
queue_at-requires-clause-within c = subst (λ (v : Produced). c.args.place.now.at < length (setting v.script).names) (sym c.self.view_is) c.requires.place.within

pub queue_at-requires-clause-it : goal.queue_at-requires-clause-it
queue_at-requires-clause-it c = ap (λ (v : Produced). name_at (setting v.script).names c.args.place.now.at) c.self.view_is ∙ (c.requires.place.it ∙ c.requires.entity)

pub queue_at-requires-clause-next : goal.queue_at-requires-clause-next
queue_at-requires-clause-next c = next_stored c.self.invariant c.self.view_is c.requires.next

pub invariant_of-self : goal.invariant_of-self
invariant_of-self c = subst (IsProduced _ _ _) (sym c.put.ensures) (queue_stands c.self.invariant c.self.view_is c.requires.place c.requires.entity
    (queued_written c.args.sending.now.entity c.args.sending.now.number c.args.sending.now.command c.self.invariant c.self.view_is c.queue_at.ensures.script c.queue_at.ensures.producer c.queue_at.ensures.entries c.queue_at.ensures.spare)
    c.queue_at.ensures.number c.get-pair.ensures c.queue.ensures)

pub returns-clause-state : goal.returns-clause-state
returns-clause-state c = rw c.put.ensures (queue_moved c.args.place.now.at {x = c.args.sending.now} refl c.self.invariant c.self.view_is
    (queued_written c.args.sending.now.entity c.args.sending.now.number c.args.sending.now.command c.self.invariant c.self.view_is c.queue_at.ensures.script c.queue_at.ensures.producer c.queue_at.ensures.entries c.queue_at.ensures.spare)
    c.get-pair.ensures c.queue.ensures)
