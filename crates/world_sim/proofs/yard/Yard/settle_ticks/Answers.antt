use Rattle.std.proofs.Common.{◌+◌, ◌<◌, ◌≤◌, [], ◌∷◌, sym, ◌∙◌, arith}
use Rattle.yard_model.specs.World.{tick_while_left, settle_end, in_order}
use Rattle.world_sim.specs.Steps.{from_ticks}
use Rattle.world_sim.specs.Yard.{IsSound, Backed, IsBacked}
use Rattle.world_sim.proofs.LoopLaws.{keeps_plain, next_to, order_one, step_to, stops_to}
use Rattle.world_sim.proofs.StepLaws.{step_as, step_cut, step_err}
use Rattle.world_sim.proofs.yard.Yard.settle_ticks.Goals as goal

pub settle_end-requires-clause-world : goal.settle_end-requires-clause-world
settle_end-requires-clause-world g c =
    let f = c.in_ok-tick_while_left.ensures in
    next_to IsBacked IsSound 0 (tick_while_left c.args.from c.args.bound c.args.bound) c.args.self.now c.tick_while_left.new.self c.args.facts.now c.tick_while_left.new.facts f
    (keeps_plain Backed c.args.self.now c.tick_while_left.new.self (tick_while_left c.args.from c.args.bound c.args.bound) f.script_is (λ w s. c.standing_is_kept.ensures.ticks_on c.args.self.now.script w c.args.from c.args.bound c.args.bound s.may s.sound.stands_is))
    (sym c.is_full.ensures ∙ c.if-is_full.false) c.requires.world

pub settle_end-requires-clause-version : goal.settle_end-requires-clause-version
settle_end-requires-clause-version g c =
    let less : c.args.self.now.version < 4000000000 = c.requires.version in
    let more : c.tick_while_left.new.self.version ≤ c.args.self.now.version + 0 = c.in_ok-tick_while_left.ensures.counts.version_is in
    omega (arith, less, more)

pub returns-then-is_full : goal.returns-then-is_full
returns-then-is_full g c = stops_to IsBacked 0 1 (tick_while_left c.args.from c.args.bound c.args.bound) (in_order (settle_end c.args.from ∷ [])) c.args.self.now c.tick_while_left.new.self c.args.facts.now c.tick_while_left.new.facts (omega arith) c.in_ok-tick_while_left.ensures (sym c.is_full.ensures ∙ c.if-is_full.true)

pub returns : goal.returns
returns g c =
    let f = c.in_ok-tick_while_left.ensures in
    step_to IsBacked IsSound 0 1 (tick_while_left c.args.from c.args.bound c.args.bound) (in_order (settle_end c.args.from ∷ [])) c.settle_end.result c.args.self.now c.tick_while_left.new.self c.settle_end.new.self c.args.facts.now c.tick_while_left.new.facts c.settle_end.new.facts f
    (keeps_plain Backed c.args.self.now c.tick_while_left.new.self (tick_while_left c.args.from c.args.bound c.args.bound) f.script_is (λ w s. c.standing_is_kept.ensures.ticks_on c.args.self.now.script w c.args.from c.args.bound c.args.bound s.may s.sound.stands_is))
    (sym c.is_full.ensures ∙ c.if-is_full.false)
    (step_as IsSound IsSound 1 1 (settle_end c.args.from) (in_order (settle_end c.args.from ∷ [])) c.settle_end.result c.tick_while_left.new.self c.settle_end.new.self c.tick_while_left.new.facts c.settle_end.new.facts (omega arith) (λ w s. (s, order_one (settle_end c.args.from) w)) c.settle_end.ensures)

pub returns-in_err-tick_while_left : goal.returns-in_err-tick_while_left
returns-in_err-tick_while_left g c = step_err IsBacked 1 (from_ticks c.args.from c.args.bound) c.from_residual.result _ _ _ _ c.from_residual.ensures.0 (step_cut IsBacked (tick_while_left c.args.from c.args.bound c.args.bound) (in_order (settle_end c.args.from ∷ [])) c.args.self.now c.tick_while_left.new.self c.args.facts.now c.tick_while_left.new.facts c.in_err-tick_while_left.ensures)
