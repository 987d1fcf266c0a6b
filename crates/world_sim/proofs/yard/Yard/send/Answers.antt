use Rattle.std.proofs.Common.{sym, subst}
use Rattle.world_sim.specs.declared.seek.Sought.TheVariants as sought
use Rattle.world_sim.specs.Yard.{IsSound}
use Rattle.world_sim.proofs.ProduceLaws.{holder_at, may_send, send_here, send_waits}
use Rattle.world_sim.proofs.SeekLaws.{IsFoundIn, nodes_few, may_seek_any}
use Rattle.world_sim.proofs.yard.Yard.send.Goals as goal

pub seek-requires-clause-few : goal.seek-requires-clause-few
seek-requires-clause-few g c = let r = c.requires.world in nodes_few _ r.0 (subst (λ v. IsSound v r.0) (sym c.self.view_is) r.1)

pub seek-requires-clause-may : goal.seek-requires-clause-may
seek-requires-clause-may g c = let r = c.requires.world in may_seek_any _ r.0 (sought.Queue c.args.p) (λ k. tt) (subst (λ v. IsSound v r.0) (sym c.self.view_is) r.1)

pub give-requires : goal.give-requires
give-requires g c =
    let r = c.requires.world in
    let found = subst (IsFoundIn (sought.Queue c.args.p) c.args.self.now) c.in-Some.is (subst (λ v. IsFoundIn (sought.Queue c.args.p) v c.seek.result) c.self.view_is c.seek.ensures) in
    (r.0, may_send c.args.p c.in-Some.n c.args.self.now r.0 c.requires.producer (holder_at c.args.self.now r.0 c.args.p c.in-Some.n found r.1))

pub returns-in-Some : goal.returns-in-Some
returns-in-Some g c =
    send_here c.args.self.now c.give.new.self c.args.p c.in-Some.n c.args.entity.now c.args.command.now c.seek.result c.give.result c.args.facts.now c.give.new.facts c.requires.producer c.in-Some.is
    (subst (λ v. IsFoundIn (sought.Queue c.args.p) v c.seek.result) c.self.view_is c.seek.ensures) c.give.ensures.stepped

pub returns-in-None : goal.returns-in-None
returns-in-None g c =
    send_waits c.args.self.now c.args.p c.args.entity.now c.args.command.now c.seek.result c.push.result c.args.facts.now c.push.new.self c.requires.producer c.in-None.is
    (subst (λ v. IsFoundIn (sought.Queue c.args.p) v c.seek.result) c.self.view_is c.seek.ensures) c.push.ensures.ok c.push.ensures.err
