use Rattle.std.proofs.Common.{◌≡◌, ◌+◌, ◌-◌, suc, filter, nat_lt, sym, ap, ◌∙◌, subst, arith}
use Rattle.yard_model.specs.World.{drain}
use Rattle.world_sim.specs.Mail.{Heads}
use Rattle.world_sim.specs.Yard.{Yard, IsSoundTo, Drains}
use Rattle.world_sim.proofs.DeliveryLaws.{drain_next, drain_ends, drain_stops, drain_goes_on, drain_done, drain_cut}
use Rattle.world_sim.proofs.StepLaws.{step_err}
use Rattle.world_sim.proofs.yard.Yard.drain.Goals as goal

pub returns-in_default : goal.returns-in_default
returns-in_default g c =
    drain_ends c.args.self.now c.loop.self c.args.facts.now c.loop.facts c.args.from c.args.n (c.args.n - c.loop.counter) c.loop.invariant.draining
    (ap (λ (v : Yard). filter (nat_lt c.args.from) v.mail.fresh) (sym c.self.view_is) ∙ c.in_default.ensures)

pub deliver_over-requires : goal.deliver_over-requires
deliver_over-requires g c =
    let i = c.loop.invariant.draining.goes_on c.requires.world.0 c.requires.world.1 in
    let one : c.args.n - c.loop.counter ≡ suc (c.args.n - (c.loop.counter + 1)) = omega (arith, c.loop-test.true) in (
      i.now,
      drain_next c.loop.self c.args.from c.args.n (c.args.n - c.loop.counter) (c.args.n - (c.loop.counter + 1)) c.in-Some.number c.requires.world.0 c.args.facts.now c.loop.facts one i
          (subst (λ (v : Yard). Heads c.in-Some.number (filter (nat_lt c.args.from) v.mail.fresh)) c.self.view_is c.in-Some.ensures),
    )

pub returns-then-is_full : goal.returns-then-is_full
returns-then-is_full g c =
    let one : c.args.n - c.loop.counter ≡ suc (c.args.n - (c.loop.counter + 1)) = omega (arith, c.loop-test.true) in
    drain_stops c.args.self.now c.loop.self c.deliver_over.new.self c.args.facts.now c.loop.facts c.deliver_over.new.facts c.args.from c.args.n (c.args.n - c.loop.counter) (c.args.n - (c.loop.counter + 1)) c.in-Some.number one c.loop.invariant.draining
    (subst (λ (v : Yard). Heads c.in-Some.number (filter (nat_lt c.args.from) v.mail.fresh)) c.self.view_is c.in-Some.ensures)
    c.in_ok-deliver_over.ensures (ap (λ (v : Yard). v.mail.full) (sym c.self-in-loop.view_is) ∙ (sym c.is_full.ensures ∙ c.if-is_full.true))

pub loop-preserved : goal.loop-preserved
loop-preserved g c =
    let one : c.args.n - c.loop.counter ≡ suc (c.args.n - (c.loop.counter + 1)) = omega (arith, c.loop-test.true) in
    record {
      draining = drain_goes_on c.standing_is_kept.ensures c.args.self.now c.loop.self c.deliver_over.new.self c.args.facts.now c.loop.facts c.deliver_over.new.facts c.args.from c.args.n (c.args.n - c.loop.counter) (c.args.n - (c.loop.counter + 1)) c.in-Some.number one c.loop.invariant.draining
          (subst (λ (v : Yard). Heads c.in-Some.number (filter (nat_lt c.args.from) v.mail.fresh)) c.self.view_is c.in-Some.ensures)
          c.in_ok-deliver_over.ensures (ap (λ (v : Yard). v.mail.full) (sym c.self-in-loop.view_is) ∙ (sym c.is_full.ensures ∙ c.if-is_full.false));
      within = omega (arith, c.loop-test.true);
    }

pub returns : goal.returns
returns g c = drain_done c.args.self.now c.loop.self c.args.facts.now c.loop.facts c.args.from c.args.n (c.args.n - c.loop.counter) (omega (arith, c.loop-test.false)) c.loop.invariant.draining

pub returns-in_err-deliver_over : goal.returns-in_err-deliver_over
returns-in_err-deliver_over g c =
    let one : c.args.n - c.loop.counter ≡ suc (c.args.n - (c.loop.counter + 1)) = omega (arith, c.loop-test.true) in
    step_err (IsSoundTo (Drains c.args.from c.args.n)) 0 (drain c.args.from c.args.n) c.from_residual.result _ _ _ _ c.from_residual.ensures.0
    (drain_cut c.args.self.now c.loop.self c.deliver_over.new.self c.args.facts.now c.loop.facts c.deliver_over.new.facts c.args.from c.args.n (c.args.n - c.loop.counter) (c.args.n - (c.loop.counter + 1)) c.in-Some.number one c.loop.invariant.draining
    (subst (λ (v : Yard). Heads c.in-Some.number (filter (nat_lt c.args.from) v.mail.fresh)) c.self.view_is c.in-Some.ensures)
    c.in_err-deliver_over.ensures)
