use Rattle.std.proofs.Common.{◌+◌, ◌<◌, ◌≤◌, sym, ◌∙◌, arith}
use Rattle.yard_model.specs.World.{drain}
use Rattle.world_sim.specs.Steps.{from_ticks, from_second}
use Rattle.world_sim.specs.Yard.{IsSoundTo, Backed, IsBacked, Drains}
use Rattle.world_sim.proofs.DeliveryLaws.{drains_backed}
use Rattle.world_sim.proofs.LoopLaws.{keeps_to, next_to, step_to, stops_to}
use Rattle.world_sim.proofs.StepLaws.{cut_from, step_cut, step_err, whole_from}
use Rattle.world_sim.proofs.yard.Yard.settle_second.Goals as goal

pub drain-requires-clause-world : goal.drain-requires-clause-world
drain-requires-clause-world g c = (c.requires.world.0, drains_backed c.standing_is_kept.ensures c.args.from c.args.bound c.args.self.now c.requires.world.0 c.requires.world.1)

pub settle_ticks-requires-clause-world : goal.settle_ticks-requires-clause-world
settle_ticks-requires-clause-world g c =
    let k = c.standing_is_kept.ensures in
    let f = whole_from (IsSoundTo (Drains c.args.from c.args.bound)) IsBacked 0 (drain c.args.from c.args.bound) c.args.self.now c.drain.new.self c.args.facts.now c.drain.new.facts (drains_backed k c.args.from c.args.bound c.args.self.now) c.in_ok-drain.ensures in
    next_to IsBacked IsBacked 0 (drain c.args.from c.args.bound) c.args.self.now c.drain.new.self c.args.facts.now c.drain.new.facts f
    (keeps_to Backed Backed c.args.self.now c.drain.new.self (drain c.args.from c.args.bound) f.script_is (λ w s. k.drains c.args.self.now.script w c.args.from c.args.bound (k.lets_drain c.args.self.now.script w c.args.from c.args.bound s.sound.stands_is s.may) s.sound.stands_is)
    (λ w s going. k.backs_drain c.args.self.now.script w c.args.from c.args.bound s.sound.stands_is s.may))
    (sym c.is_full.ensures ∙ c.if-is_full.false) c.requires.world

pub settle_ticks-requires-clause-version : goal.settle_ticks-requires-clause-version
settle_ticks-requires-clause-version g c =
    let less : c.args.self.now.version < 4000000000 = c.requires.version in
    let more : c.drain.new.self.version ≤ c.args.self.now.version + 0 = c.in_ok-drain.ensures.counts.version_is in
    omega (arith, less, more)

pub returns-then-is_full : goal.returns-then-is_full
returns-then-is_full g c =
    let f = whole_from (IsSoundTo (Drains c.args.from c.args.bound)) IsBacked 0 (drain c.args.from c.args.bound) c.args.self.now c.drain.new.self c.args.facts.now c.drain.new.facts (drains_backed c.standing_is_kept.ensures c.args.from c.args.bound c.args.self.now) c.in_ok-drain.ensures in
    stops_to IsBacked 0 1 (drain c.args.from c.args.bound) (from_ticks c.args.from c.args.bound) c.args.self.now c.drain.new.self c.args.facts.now c.drain.new.facts (omega arith) f (sym c.is_full.ensures ∙ c.if-is_full.true)

pub returns : goal.returns
returns g c =
    let k = c.standing_is_kept.ensures in
    let f = whole_from (IsSoundTo (Drains c.args.from c.args.bound)) IsBacked 0 (drain c.args.from c.args.bound) c.args.self.now c.drain.new.self c.args.facts.now c.drain.new.facts (drains_backed k c.args.from c.args.bound c.args.self.now) c.in_ok-drain.ensures in
    step_to IsBacked IsBacked 0 1 (drain c.args.from c.args.bound) (from_ticks c.args.from c.args.bound) c.settle_ticks.result c.args.self.now c.drain.new.self c.settle_ticks.new.self c.args.facts.now c.drain.new.facts c.settle_ticks.new.facts f
    (keeps_to Backed Backed c.args.self.now c.drain.new.self (drain c.args.from c.args.bound) f.script_is (λ w s. k.drains c.args.self.now.script w c.args.from c.args.bound (k.lets_drain c.args.self.now.script w c.args.from c.args.bound s.sound.stands_is s.may) s.sound.stands_is)
    (λ w s going. k.backs_drain c.args.self.now.script w c.args.from c.args.bound s.sound.stands_is s.may))
    (sym c.is_full.ensures ∙ c.if-is_full.false) c.settle_ticks.ensures

pub returns-in_err-drain : goal.returns-in_err-drain
returns-in_err-drain g c = step_err IsBacked 1 (from_second c.args.from c.args.bound) c.from_residual.result _ _ _ _ c.from_residual.ensures.0
    (step_cut IsBacked (drain c.args.from c.args.bound) (from_ticks c.args.from c.args.bound) c.args.self.now c.drain.new.self c.args.facts.now c.drain.new.facts
    (cut_from (IsSoundTo (Drains c.args.from c.args.bound)) IsBacked (drain c.args.from c.args.bound) c.args.self.now c.drain.new.self c.args.facts.now c.drain.new.facts (drains_backed c.standing_is_kept.ensures c.args.from c.args.bound c.args.self.now) c.in_err-drain.ensures))
