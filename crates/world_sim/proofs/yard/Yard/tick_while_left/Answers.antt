use Rattle.std.proofs.Common.{◌≡◌, ◌+◌, ◌-◌, suc, sym, ◌∙◌, arith}
use Rattle.yard_model.specs.World.{tick_while_left}
use Rattle.world_sim.specs.Steps.{ticked}
use Rattle.world_sim.specs.Yard.{Backed, IsBacked}
use Rattle.world_sim.proofs.LoopLaws.{keeps_to, to_seen, way_first, way_on, way_stops, way_cut, way_ends, way_now}
use Rattle.world_sim.proofs.SettleLaws.{ticks_next, ticks_done, ticks_none}
use Rattle.world_sim.proofs.StepLaws.{step_err}
use Rattle.world_sim.proofs.yard.Yard.tick_while_left.Goals as goal

pub loop-init : goal.loop-init
loop-init g c = record { way = way_first IsBacked (tick_while_left c.args.from c.args.bound) c.args.bound (c.args.bound - 0) c.args.self.now c.args.facts.now (omega arith); within = omega arith }

pub is_any_left-requires : goal.is_any_left-requires
is_any_left-requires g c = let r = way_now IsBacked (tick_while_left c.args.from c.args.bound) c.args.bound (c.args.bound - c.loop.counter) 0 c.args.self.now c.loop.self c.args.facts.now c.loop.facts c.loop.invariant.way c.requires.world in (r.0, r.1.sound)

pub tick_and_drain-requires-clause-world : goal.tick_and_drain-requires-clause-world
tick_and_drain-requires-clause-world g c = way_now IsBacked (tick_while_left c.args.from c.args.bound) c.args.bound (c.args.bound - c.loop.counter) 0 c.args.self.now c.loop.self c.args.facts.now c.loop.facts c.loop.invariant.way c.requires.world

pub returns-then-not-is_any_left : goal.returns-then-not-is_any_left
returns-then-not-is_any_left g c =
    way_ends IsBacked (tick_while_left c.args.from c.args.bound) c.args.bound (c.args.bound - c.loop.counter) 0 0 c.args.self.now c.loop.self c.args.facts.now c.loop.facts (to_seen Backed _) (omega arith) c.loop.invariant.way (λ w s. ticks_done c.args.from c.args.bound (c.args.bound - c.loop.counter) w (sym (c.is_any_left.ensures w s.sound) ∙ c.if-not-is_any_left.true))

pub returns-then-is_full : goal.returns-then-is_full
returns-then-is_full g c =
    let one : c.args.bound - c.loop.counter ≡ suc (c.args.bound - (c.loop.counter + 1)) = omega (arith, c.loop-test.true) in
    way_stops IsBacked (tick_while_left c.args.from c.args.bound) c.args.bound (c.args.bound - c.loop.counter) (c.args.bound - (c.loop.counter + 1)) 0 0 0 (ticked c.args.from c.args.bound) c.args.self.now c.loop.self c.tick_and_drain.new.self c.args.facts.now c.loop.facts c.tick_and_drain.new.facts (omega arith) c.loop.invariant.way (ticks_next c.loop.self c.args.from c.args.bound (c.args.bound - c.loop.counter) (c.args.bound - (c.loop.counter + 1)) one (λ w s. sym (c.is_any_left.ensures w s.sound) ∙ c.if-not-is_any_left.false)) c.in_ok-tick_and_drain.ensures (sym c.is_full.ensures ∙ c.if-is_full.true)

pub loop-preserved : goal.loop-preserved
loop-preserved g c =
    let one : c.args.bound - c.loop.counter ≡ suc (c.args.bound - (c.loop.counter + 1)) = omega (arith, c.loop-test.true) in
    record {
      way = way_on IsBacked (tick_while_left c.args.from c.args.bound) c.args.bound (c.args.bound - c.loop.counter) (c.args.bound - (c.loop.counter + 1)) 0 0 (ticked c.args.from c.args.bound) c.args.self.now c.loop.self c.tick_and_drain.new.self c.args.facts.now c.loop.facts c.tick_and_drain.new.facts c.loop.invariant.way (ticks_next c.loop.self c.args.from c.args.bound (c.args.bound - c.loop.counter) (c.args.bound - (c.loop.counter + 1)) one (λ w s. sym (c.is_any_left.ensures w s.sound) ∙ c.if-not-is_any_left.false))
          (keeps_to Backed Backed c.loop.self c.tick_and_drain.new.self (ticked c.args.from c.args.bound) c.in_ok-tick_and_drain.ensures.script_is (λ w s. c.standing_is_kept.ensures.ticks_one c.loop.self.script w c.args.from c.args.bound s.may s.sound.stands_is) (λ w s going. c.standing_is_kept.ensures.backs_ticked c.loop.self.script w c.args.from c.args.bound s.sound.stands_is s.may)) c.in_ok-tick_and_drain.ensures (sym c.is_full.ensures ∙ c.if-is_full.false);
      within = omega (arith, c.loop-test.true);
    }

pub returns : goal.returns
returns g c = way_ends IsBacked (tick_while_left c.args.from c.args.bound) c.args.bound (c.args.bound - c.loop.counter) 0 0 c.args.self.now c.loop.self c.args.facts.now c.loop.facts (to_seen Backed _) (omega arith) c.loop.invariant.way (λ w s. ticks_none c.args.from c.args.bound (c.args.bound - c.loop.counter) w (omega (arith, c.loop-test.false)))

pub returns-in_err-tick_and_drain : goal.returns-in_err-tick_and_drain
returns-in_err-tick_and_drain g c =
    let one : c.args.bound - c.loop.counter ≡ suc (c.args.bound - (c.loop.counter + 1)) = omega (arith, c.loop-test.true) in
    step_err IsBacked 0 (tick_while_left c.args.from c.args.bound c.args.bound) c.from_residual.result _ _ _ _ c.from_residual.ensures.0
    (way_cut IsBacked (tick_while_left c.args.from c.args.bound) c.args.bound (c.args.bound - c.loop.counter) (c.args.bound - (c.loop.counter + 1)) 0 (ticked c.args.from c.args.bound) c.args.self.now c.loop.self c.tick_and_drain.new.self c.args.facts.now c.loop.facts c.tick_and_drain.new.facts c.loop.invariant.way (ticks_next c.loop.self c.args.from c.args.bound (c.args.bound - c.loop.counter) (c.args.bound - (c.loop.counter + 1)) one (λ w s. sym (c.is_any_left.ensures w s.sound) ∙ c.if-not-is_any_left.false)) c.in_err-tick_and_drain.ensures)
