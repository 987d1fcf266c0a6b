use Rattle.std.proofs.Common.{sym, ◌∙◌, arith}
use Rattle.yard_model.specs.declared.input.Input.TheVariants as input
use Rattle.yard_model.specs.World.{drain}
use Rattle.world_sim.specs.Steps.{given, ticked}
use Rattle.world_sim.specs.Yard.{IsSound, IsSoundTo, Backed, IsBacked, Drains}
use Rattle.world_sim.proofs.LoopLaws.{keeps_to, next_to, plain, step_to, stops_to}
use Rattle.world_sim.proofs.StepLaws.{cut_from, step_cut, step_err, whole_from}
use Rattle.world_sim.proofs.yard.Yard.tick_and_drain.Goals as goal

pub tick_first-requires : goal.tick_first-requires
tick_first-requires g c = (c.requires.world.0, c.requires.world.1.sound)

pub drain-requires-clause-world : goal.drain-requires-clause-world
drain-requires-clause-world g c =
    let f = whole_from IsSound IsBacked 0 (given 1 input.Tick) c.args.self.now c.tick_first.new.self c.args.facts.now c.tick_first.new.facts (plain Backed c.args.self.now) c.in_ok-tick_first.ensures in
    let k = c.standing_is_kept.ensures in
    next_to IsBacked (IsSoundTo (Drains c.args.from c.args.n)) 0 (given 1 input.Tick) c.args.self.now c.tick_first.new.self c.args.facts.now c.tick_first.new.facts f
    (keeps_to Backed (Drains c.args.from c.args.n) c.args.self.now c.tick_first.new.self (given 1 input.Tick) f.script_is (λ w s. k.ticks c.args.self.now.script w 1 s.sound.stands_is)
    (λ w s going. k.lets_drain c.args.self.now.script (given 1 input.Tick w).world c.args.from c.args.n (k.ticks c.args.self.now.script w 1 s.sound.stands_is) (k.backs_tick c.args.self.now.script w 1 s.sound.stands_is s.may)))
    (sym c.is_full.ensures ∙ c.if-is_full.false) c.requires.world

pub returns-then-is_full : goal.returns-then-is_full
returns-then-is_full g c =
    let f = whole_from IsSound IsBacked 0 (given 1 input.Tick) c.args.self.now c.tick_first.new.self c.args.facts.now c.tick_first.new.facts (plain Backed c.args.self.now) c.in_ok-tick_first.ensures in
    stops_to IsBacked 0 0 (given 1 input.Tick) (drain c.args.from c.args.n) c.args.self.now c.tick_first.new.self c.args.facts.now c.tick_first.new.facts (omega arith) f (sym c.is_full.ensures ∙ c.if-is_full.true)

pub returns : goal.returns
returns g c =
    let f = whole_from IsSound IsBacked 0 (given 1 input.Tick) c.args.self.now c.tick_first.new.self c.args.facts.now c.tick_first.new.facts (plain Backed c.args.self.now) c.in_ok-tick_first.ensures in
    let k = c.standing_is_kept.ensures in
    step_to IsBacked (IsSoundTo (Drains c.args.from c.args.n)) 0 0 (given 1 input.Tick) (drain c.args.from c.args.n) c.drain.result c.args.self.now c.tick_first.new.self c.drain.new.self c.args.facts.now c.tick_first.new.facts c.drain.new.facts f
    (keeps_to Backed (Drains c.args.from c.args.n) c.args.self.now c.tick_first.new.self (given 1 input.Tick) f.script_is (λ w s. k.ticks c.args.self.now.script w 1 s.sound.stands_is)
    (λ w s going. k.lets_drain c.args.self.now.script (given 1 input.Tick w).world c.args.from c.args.n (k.ticks c.args.self.now.script w 1 s.sound.stands_is) (k.backs_tick c.args.self.now.script w 1 s.sound.stands_is s.may)))
    (sym c.is_full.ensures ∙ c.if-is_full.false) c.drain.ensures

pub returns-in_err-tick_first : goal.returns-in_err-tick_first
returns-in_err-tick_first g c = step_err IsBacked 0 (ticked c.args.from c.args.n) c.from_residual.result _ _ _ _ c.from_residual.ensures.0
    (step_cut IsBacked (given 1 input.Tick) (drain c.args.from c.args.n) c.args.self.now c.tick_first.new.self c.args.facts.now c.tick_first.new.facts
    (cut_from IsSound IsBacked (given 1 input.Tick) c.args.self.now c.tick_first.new.self c.args.facts.now c.tick_first.new.facts (plain Backed c.args.self.now) c.in_err-tick_first.ensures))
