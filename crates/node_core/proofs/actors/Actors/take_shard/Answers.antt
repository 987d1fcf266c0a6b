use Rattle.std.proofs.Common.{◌<◌, sym, subst}
use Rattle.yard_model.specs.declared.incarnation.Incarnation.{Incarnation}
use Rattle.yard_model.specs.declared.incarnation.Slot.TheVariants as slot
use Rattle.plain_laws.proofs.Booleans.{below}
use Rattle.shard_lease.specs.Meaning.{Meaning, Acquired}
use Rattle.node_core.specs.Standing.{Standing}
use Rattle.node_core.proofs.StartLaws.{took_leaves, took_shard_gave, shard_granted_is}
use Rattle.node_core.proofs.actors.Actors.take_shard.Goals as goal

pub returns-clause-gave : goal.returns-clause-gave
returns-clause-gave g c =
    let v : Standing = c.args.self.now in
    let old : Meaning = g.L.Leases.meaning c.args.leases.now in
    let new : Meaning = g.L.Leases.meaning c.acquire-answer.new.self in
    took_shard_gave old new v c.take_answer.new.self c.args.s c.acquire-answer.result c.args.out.now c.take_answer.new.out c.knows.ensures.entities c.requires.shard
    (subst (λ n. c.args.s < n) (sym c.requires.sound.entities.shards_there) (below c.args.s v.script.config.shards c.requires.shard)) c.requires.new c.requires.rests c.acquire-answer.ensures.stays
    (subst (λ (x : Incarnation). Acquired old x (slot.Shard c.args.s) c.acquire-answer.result new) c.who-who.ensures c.acquire-answer.ensures.answer) c.take_answer.ensures

pub take_answer-requires-clause-granted : goal.take_answer-requires-clause-granted
take_answer-requires-clause-granted g c =
    let v : Standing = c.args.self.now in
    let old : Meaning = g.L.Leases.meaning c.args.leases.now in
    let new : Meaning = g.L.Leases.meaning c.acquire-answer.new.self in
    shard_granted_is v.script old new v.state.who c.args.s c.acquire-answer.result c.requires.rests.script_is
    (subst (λ (x : Incarnation). Acquired old x (slot.Shard c.args.s) c.acquire-answer.result new) c.who-who.ensures c.acquire-answer.ensures.answer)

pub returns-clause-leaves : goal.returns-clause-leaves
returns-clause-leaves g c =
    let v : Standing = c.args.self.now in
    let old : Meaning = g.L.Leases.meaning c.args.leases.now in
    let new : Meaning = g.L.Leases.meaning c.acquire-answer.new.self in
    took_leaves c.args.s c.acquire-answer.result c.requires.sound (subst (λ n. c.args.s < n) (sym c.knows.ensures.rooms) (below c.args.s v.script.config.shards c.requires.shard)) c.requires.new
    (shard_granted_is v.script old new v.state.who c.args.s c.acquire-answer.result c.requires.rests.script_is (subst (λ (x : Incarnation). Acquired old x (slot.Shard c.args.s) c.acquire-answer.result new) c.who-who.ensures c.acquire-answer.ensures.answer))
    c.take_answer.ensures
