use Rattle.std.proofs.Common.{◌≡◌, ◌∙◌, sym, ap, subst, refl, true}
use Rattle.std.specs.Prelude.{Some, IfNone, []}
use Rattle.yard_model.specs.declared.packet.Message.{Message}
use Rattle.yard_model.specs.Genuine.{is_brought, is_genuine}
use Rattle.yard_model.specs.Script.{Script, IsScript, setting}
use Rattle.producer_ctl.specs.Producing.{Routing}
use Rattle.node_core.specs.Calling.{next_pending, without_first}
use Rattle.node_core.specs.Standing.{Standing}
use Rattle.node_core.proofs.CallLaws.{sendable, sends_first, sends_next, sends_fewer, sends_all, sends_leave, nothing_next}
use Rattle.node_core.proofs.actors.Actors.route_pending.Goals as goal

pub loop-s-init : goal.loop-s-init
loop-s-init g c = sends_first c.args.out.now c.requires.well c.requires.rooms c.requires.room

pub loop-s-smaller : goal.loop-s-smaller
loop-s-smaller g c = sends_fewer c.loop-s.self c.route_to.new.self c.take_pending-message.result c.take_pending-message.ensures.message (c.route_to.ensures.pending ∙ ap (λ (x : Standing). x.pending) c.take_pending-message.ensures.state)

pub loop-s-preserved : goal.loop-s-preserved
loop-s-preserved g c =
    let now : Standing = c.loop-s.self in
    let m : Message = c.take_pending-message.result in
    let next : next_pending now ≡ Some m = c.take_pending-message.ensures.message in
    let script : now.script ≡ c.args.self.now.script = c.loop-s.invariant.went.script_is in
    sends_next m
    (subst (λ (d : Script). is_brought d m.entity ≡ true) (sym script) (c.genuine_is_message.ensures c.args.self.now.script m c.knows.ensures.script
    (subst (λ (d : Script). is_genuine d m ≡ true) (ap (λ (x : Standing). x.script) c.take_pending-message.ensures.state ∙ script) (sendable (without_first now.pending) m c.loop-s.invariant next c.take_pending-message.ensures.state).genuine)).brought)
    (c.loop-s.invariant.set_is ∙ (c.knows.ensures.set ∙ ap setting (sym script)))
    c.loop-s.invariant next c.take_pending-message.ensures.state c.route_to.ensures.went c.route_to.ensures.taken c.route_to.ensures.pending

pub returns-clause-went : goal.returns-clause-went
returns-clause-went g c = sends_all c.loop-s.self.pending c.loop-s.invariant (nothing_next c.loop-s.self (subst (λ r. IfNone r (c.loop-s.self.pending.numbers ≡ [])) c.in_default.is c.pending_shard.ensures.none)) refl

pub returns-clause-leaves : goal.returns-clause-leaves
returns-clause-leaves g c = sends_leave c.loop-s.self.pending c.loop-s.invariant (nothing_next c.loop-s.self (subst (λ r. IfNone r (c.loop-s.self.pending.numbers ≡ [])) c.in_default.is c.pending_shard.ensures.none)) refl
