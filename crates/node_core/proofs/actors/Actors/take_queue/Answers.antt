use Rattle.std.proofs.Common.{◌<◌, ◌-◌, sym, subst}
use Rattle.yard_model.specs.declared.incarnation.Incarnation.{Incarnation}
use Rattle.yard_model.specs.declared.incarnation.Slot.TheVariants as slot
use Rattle.node_laws.proofs.NodeProducers.{above_zero}
use Rattle.shard_lease.specs.Meaning.{Meaning, Acquired}
use Rattle.node_core.specs.Standing.{Standing}
use Rattle.node_core.proofs.ProduceLaws.{queue_granted_is, took_queue_gave}
use Rattle.node_core.proofs.actors.Actors.take_queue.Goals as goal

pub returns-clause-gave : goal.returns-clause-gave
returns-clause-gave g c =
    let v : Standing = c.args.self.now in
    let old : Meaning = g.L.Leases.meaning c.args.leases.now in
    let new : Meaning = g.L.Leases.meaning c.acquire-answer.new.self in
    took_queue_gave v.script old new v c.take_queue_answer.new.self c.args.p c.acquire-answer.result c.args.out.now c.take_queue_answer.new.out c.requires.producer
    (subst (λ n. c.args.p - 1 < n) (sym c.requires.sound.producers_full) (above_zero c.args.p v.script.config.producers c.requires.producer).1) c.requires.new c.requires.rests c.acquire-answer.ensures.stays
    (subst (λ (x : Incarnation). Acquired old x (slot.Queue c.args.p) c.acquire-answer.result new) c.who-who.ensures c.acquire-answer.ensures.answer) c.take_queue_answer.ensures

pub take_queue_answer-requires-clause-granted : goal.take_queue_answer-requires-clause-granted
take_queue_answer-requires-clause-granted g c =
    let v : Standing = c.args.self.now in
    let old : Meaning = g.L.Leases.meaning c.args.leases.now in
    let new : Meaning = g.L.Leases.meaning c.acquire-answer.new.self in
    queue_granted_is v.script old new v.state.who c.args.p c.acquire-answer.result c.requires.rests.script_is
    (subst (λ (x : Incarnation). Acquired old x (slot.Queue c.args.p) c.acquire-answer.result new) c.who-who.ensures c.acquire-answer.ensures.answer)
