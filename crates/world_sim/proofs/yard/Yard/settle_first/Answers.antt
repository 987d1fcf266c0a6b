use Rattle.std.proofs.Common.{◌+◌, ◌<◌, ◌≤◌, sym, ◌∙◌, subst, arith}
use Rattle.yard_model.specs.World.{drain}
use Rattle.world_sim.specs.Stepped.{Stepped}
use Rattle.world_sim.specs.Steps.{from_taking, from_first}
use Rattle.world_sim.specs.Yard.{IsSoundTo, Begins, Drains, Takes}
use Rattle.world_sim.proofs.DeliveryLaws.{drains_first}
use Rattle.world_sim.proofs.LoopLaws.{keeps_to, next_to, step_to, stops_to}
use Rattle.world_sim.proofs.StepLaws.{cut_from, step_cut, step_err, whole_from}
use Rattle.world_sim.proofs.yard.Yard.settle_first.Goals as goal

pub drain-requires-clause-world : goal.drain-requires-clause-world
drain-requires-clause-world g c = (c.requires.world.0, drains_first c.args.from c.args.bound c.args.self.now c.requires.world.0 c.requires.world.1)

pub settle_taking-requires-clause-world : goal.settle_taking-requires-clause-world
settle_taking-requires-clause-world g c =
    let f = whole_from (IsSoundTo (Drains c.args.from c.args.bound)) (IsSoundTo (Begins c.args.from c.args.bound)) 0 (drain c.args.from c.args.bound) c.args.self.now c.drain.new.self c.args.facts.now c.drain.new.facts (drains_first c.args.from c.args.bound c.args.self.now) c.in_ok-drain.ensures in
    next_to (IsSoundTo (Begins c.args.from c.args.bound)) (IsSoundTo Takes) 0 (drain c.args.from c.args.bound) c.args.self.now c.drain.new.self c.args.facts.now c.drain.new.facts f
    (keeps_to (Begins c.args.from c.args.bound) Takes c.args.self.now c.drain.new.self (drain c.args.from c.args.bound) f.script_is (λ w s. c.standing_is_kept.ensures.drains c.args.self.now.script w c.args.from c.args.bound s.may.0 s.sound.stands_is) (λ w s going. s.may.1 going))
    (sym c.is_full.ensures ∙ c.if-is_full.false) c.requires.world

pub settle_taking-requires-clause-version : goal.settle_taking-requires-clause-version
settle_taking-requires-clause-version g c =
    let less : c.args.self.now.version < 4000000000 = c.requires.version in
    let more : c.drain.new.self.version ≤ c.args.self.now.version + 0 = c.in_ok-drain.ensures.counts.version_is in
    omega (arith, less, more)

pub returns-then-is_full : goal.returns-then-is_full
returns-then-is_full g c =
    let f = whole_from (IsSoundTo (Drains c.args.from c.args.bound)) (IsSoundTo (Begins c.args.from c.args.bound)) 0 (drain c.args.from c.args.bound) c.args.self.now c.drain.new.self c.args.facts.now c.drain.new.facts (drains_first c.args.from c.args.bound c.args.self.now) c.in_ok-drain.ensures in
    stops_to (IsSoundTo (Begins c.args.from c.args.bound)) 0 1 (drain c.args.from c.args.bound) (from_taking c.args.self.now.script c.args.from c.args.bound) c.args.self.now c.drain.new.self c.args.facts.now c.drain.new.facts (omega arith) f (sym c.is_full.ensures ∙ c.if-is_full.true)

pub returns : goal.returns
returns g c =
    let f = whole_from (IsSoundTo (Drains c.args.from c.args.bound)) (IsSoundTo (Begins c.args.from c.args.bound)) 0 (drain c.args.from c.args.bound) c.args.self.now c.drain.new.self c.args.facts.now c.drain.new.facts (drains_first c.args.from c.args.bound c.args.self.now) c.in_ok-drain.ensures in
    step_to (IsSoundTo (Begins c.args.from c.args.bound)) (IsSoundTo Takes) 0 1 (drain c.args.from c.args.bound) (from_taking c.args.self.now.script c.args.from c.args.bound) c.settle_taking.result c.args.self.now c.drain.new.self c.settle_taking.new.self c.args.facts.now c.drain.new.facts c.settle_taking.new.facts f
    (keeps_to (Begins c.args.from c.args.bound) Takes c.args.self.now c.drain.new.self (drain c.args.from c.args.bound) f.script_is (λ w s. c.standing_is_kept.ensures.drains c.args.self.now.script w c.args.from c.args.bound s.may.0 s.sound.stands_is) (λ w s going. s.may.1 going))
    (sym c.is_full.ensures ∙ c.if-is_full.false)
    (subst (λ x. Stepped (IsSoundTo Takes) 1 (from_taking x c.args.from c.args.bound) c.settle_taking.result c.drain.new.self c.settle_taking.new.self c.drain.new.facts c.settle_taking.new.facts) c.in_ok-drain.ensures.script_is c.settle_taking.ensures)

pub returns-in_err-drain : goal.returns-in_err-drain
returns-in_err-drain g c = step_err (IsSoundTo (Begins c.args.from c.args.bound)) 1 (from_first c.args.self.now.script c.args.from c.args.bound) c.from_residual.result _ _ _ _ c.from_residual.ensures.0
    (step_cut (IsSoundTo (Begins c.args.from c.args.bound)) (drain c.args.from c.args.bound) (from_taking c.args.self.now.script c.args.from c.args.bound) c.args.self.now c.drain.new.self c.args.facts.now c.drain.new.facts
    (cut_from (IsSoundTo (Drains c.args.from c.args.bound)) (IsSoundTo (Begins c.args.from c.args.bound)) (drain c.args.from c.args.bound) c.args.self.now c.drain.new.self c.args.facts.now c.drain.new.facts (drains_first c.args.from c.args.bound c.args.self.now) c.in_err-drain.ensures))
