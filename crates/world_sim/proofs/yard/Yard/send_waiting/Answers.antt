use Rattle.std.proofs.Common.{◌≡◌, ◌+◌, ◌-◌, suc, sym, ap, ◌∙◌, arith}
use Rattle.yard_model.specs.Genuine.{is_producer}
use Rattle.yard_model.specs.Script.{Script}
use Rattle.yard_model.specs.World.{send_waiting}
use Rattle.world_sim.specs.Yard.{Yard, IsSoundAt}
use Rattle.world_sim.proofs.ProduceLaws.{may_send, send_first, send_stops, send_goes_on, send_done, send_cut}
use Rattle.world_sim.proofs.StepLaws.{step_err}
use Rattle.world_sim.proofs.yard.Yard.send_waiting.Goals as goal

pub loop-init : goal.loop-init
loop-init g c = record { sending = send_first c.args.self.now c.args.facts.now c.args.p c.args.n c.args.count (c.args.count - 0) (omega arith); within = omega arith }

pub give-requires : goal.give-requires
give-requires g c =
    let i = c.loop.invariant.sending.goes_on c.requires.world.0 c.requires.world.1 in
    let producer = ap (λ (x : Script). is_producer x c.args.p) c.loop.invariant.sending.script_is ∙ c.requires.producer in
    (i.now, may_send c.args.p c.args.n c.loop.self i.now producer i.sound)

pub returns-then-is_full : goal.returns-then-is_full
returns-then-is_full g c =
    let one : c.args.count - c.loop.counter ≡ suc (c.args.count - (c.loop.counter + 1)) = omega (arith, c.loop-test.true) in
    let producer = ap (λ (x : Script). is_producer x c.args.p) c.loop.invariant.sending.script_is ∙ c.requires.producer in
    send_stops c.args.self.now c.loop.self c.give.new.self c.args.facts.now c.loop.facts c.give.new.facts c.args.p c.args.n c.args.count (c.args.count - c.loop.counter) (c.args.count - (c.loop.counter + 1)) one producer c.loop.invariant.sending
    c.in_ok-give.ensures.stepped (ap (λ (v : Yard). v.mail.full) (sym c.self.view_is) ∙ (sym c.is_full.ensures ∙ c.if-is_full.true))

pub loop-preserved : goal.loop-preserved
loop-preserved g c =
    let one : c.args.count - c.loop.counter ≡ suc (c.args.count - (c.loop.counter + 1)) = omega (arith, c.loop-test.true) in
    let producer = ap (λ (x : Script). is_producer x c.args.p) c.loop.invariant.sending.script_is ∙ c.requires.producer in
    record {
      sending = send_goes_on c.standing_is_kept.ensures c.args.self.now c.loop.self c.give.new.self c.args.facts.now c.loop.facts c.give.new.facts c.args.p c.args.n c.args.count (c.args.count - c.loop.counter) (c.args.count - (c.loop.counter + 1)) one producer c.loop.invariant.sending
          c.in_ok-give.ensures.stepped c.in_ok-give.ensures.up (ap (λ (v : Yard). v.mail.full) (sym c.self.view_is) ∙ (sym c.is_full.ensures ∙ c.if-is_full.false));
      within = omega (arith, c.loop-test.true);
    }

pub returns : goal.returns
returns g c = send_done c.args.self.now c.loop.self c.args.facts.now c.loop.facts c.args.p c.args.n c.args.count (c.args.count - c.loop.counter) (omega (arith, c.loop-test.false)) c.loop.invariant.sending

pub returns-in_err-give : goal.returns-in_err-give
returns-in_err-give g c =
    let one : c.args.count - c.loop.counter ≡ suc (c.args.count - (c.loop.counter + 1)) = omega (arith, c.loop-test.true) in
    let producer = ap (λ (x : Script). is_producer x c.args.p) c.loop.invariant.sending.script_is ∙ c.requires.producer in
    step_err (IsSoundAt c.args.n) 0 (send_waiting c.args.p c.args.n c.args.count) c.from_residual.result _ _ _ _ c.from_residual.ensures.0
    (send_cut c.args.self.now c.loop.self c.give.new.self c.args.facts.now c.loop.facts c.give.new.facts c.args.p c.args.n c.args.count (c.args.count - c.loop.counter) (c.args.count - (c.loop.counter + 1)) one producer c.loop.invariant.sending c.in_err-give.ensures.stepped)
