use Rattle.std.proofs.Common.{◌+◌, ◌<◌, ◌≤◌, sym, ◌∙◌, arith}
use Rattle.world_sim.specs.Steps.{all_taken, from_second, from_taking}
use Rattle.world_sim.specs.Yard.{IsSound, IsSoundTo, Backed, IsBacked, Takes}
use Rattle.world_sim.proofs.LoopLaws.{keeps_to, next_to, plain, step_to, stops_to}
use Rattle.world_sim.proofs.StepLaws.{cut_from, step_cut, step_err, whole_from}
use Rattle.world_sim.proofs.yard.Yard.settle_taking.Goals as goal

pub take_all-requires : goal.take_all-requires
take_all-requires g c = (c.requires.world.0, c.requires.world.1.sound)

pub settle_second-requires-clause-world : goal.settle_second-requires-clause-world
settle_second-requires-clause-world g c =
    let f = whole_from IsSound (IsSoundTo Takes) 0 (all_taken c.args.self.now.script) c.args.self.now c.take_all.new.self c.args.facts.now c.take_all.new.facts (plain Takes c.args.self.now) c.in_ok-take_all.ensures in
    next_to (IsSoundTo Takes) IsBacked 0 (all_taken c.args.self.now.script) c.args.self.now c.take_all.new.self c.args.facts.now c.take_all.new.facts f
    (keeps_to Takes Backed c.args.self.now c.take_all.new.self (all_taken c.args.self.now.script) f.script_is (λ w s. c.standing_is_kept.ensures.takes_all c.args.self.now.script w s.sound.stands_is) (λ w s going. s.may going))
    (sym c.is_full.ensures ∙ c.if-is_full.false) c.requires.world

pub settle_second-requires-clause-version : goal.settle_second-requires-clause-version
settle_second-requires-clause-version g c =
    let less : c.args.self.now.version < 4000000000 = c.requires.version in
    let more : c.take_all.new.self.version ≤ c.args.self.now.version + 0 = c.in_ok-take_all.ensures.counts.version_is in
    omega (arith, less, more)

pub returns-then-is_full : goal.returns-then-is_full
returns-then-is_full g c =
    let f = whole_from IsSound (IsSoundTo Takes) 0 (all_taken c.args.self.now.script) c.args.self.now c.take_all.new.self c.args.facts.now c.take_all.new.facts (plain Takes c.args.self.now) c.in_ok-take_all.ensures in
    stops_to (IsSoundTo Takes) 0 1 (all_taken c.args.self.now.script) (from_second c.args.from c.args.bound) c.args.self.now c.take_all.new.self c.args.facts.now c.take_all.new.facts (omega arith) f (sym c.is_full.ensures ∙ c.if-is_full.true)

pub returns : goal.returns
returns g c =
    let f = whole_from IsSound (IsSoundTo Takes) 0 (all_taken c.args.self.now.script) c.args.self.now c.take_all.new.self c.args.facts.now c.take_all.new.facts (plain Takes c.args.self.now) c.in_ok-take_all.ensures in
    step_to (IsSoundTo Takes) IsBacked 0 1 (all_taken c.args.self.now.script) (from_second c.args.from c.args.bound) c.settle_second.result c.args.self.now c.take_all.new.self c.settle_second.new.self c.args.facts.now c.take_all.new.facts c.settle_second.new.facts f
    (keeps_to Takes Backed c.args.self.now c.take_all.new.self (all_taken c.args.self.now.script) f.script_is (λ w s. c.standing_is_kept.ensures.takes_all c.args.self.now.script w s.sound.stands_is) (λ w s going. s.may going))
    (sym c.is_full.ensures ∙ c.if-is_full.false) c.settle_second.ensures

pub returns-in_err-take_all : goal.returns-in_err-take_all
returns-in_err-take_all g c = step_err (IsSoundTo Takes) 1 (from_taking c.args.self.now.script c.args.from c.args.bound) c.from_residual.result _ _ _ _ c.from_residual.ensures.0
    (step_cut (IsSoundTo Takes) (all_taken c.args.self.now.script) (from_second c.args.from c.args.bound) c.args.self.now c.take_all.new.self c.args.facts.now c.take_all.new.facts
    (cut_from IsSound (IsSoundTo Takes) (all_taken c.args.self.now.script) c.args.self.now c.take_all.new.self c.args.facts.now c.take_all.new.facts (plain Takes c.args.self.now) c.in_err-take_all.ensures))
