use Rattle.std.proofs.Common.{◌+◌, ◌-◌, ◌<◌, ◌≤◌, ap, sym, ◌∙◌, subst, arith}
use Rattle.std.specs.Prelude.{slice_index_or}
use Rattle.yard_model.specs.Behaviour.{is_in}
use Rattle.yard_model.specs.Words.{at}
use Rattle.yard_model.specs.World.{come_up}
use Rattle.world_sim.specs.Stepped.{IsCut, IsWhole, Stepped}
use Rattle.world_sim.specs.Steps.{from_first, from_up}
use Rattle.world_sim.specs.Yard.{IsSound, IsSoundTo, Begins, ComesUp}
use Rattle.world_sim.proofs.LoopLaws.{keeps_to, next_to, plain, step_to, stops_to}
use Rattle.world_sim.proofs.StepLaws.{cut_from, step_cut, step_err, whole_from}
use Rattle.world_sim.proofs.SettleLaws.{come_keeps, first_in}
use Rattle.world_sim.proofs.yard.Yard.settle_up.Goals as goal

pub come_up-requires-clause-world : goal.come_up-requires-clause-world
come_up-requires-clause-world g c = (c.requires.world.0, c.requires.world.1.sound)

pub come_up-requires-clause-node : goal.come_up-requires-clause-node
come_up-requires-clause-node g c = ap (is_in 1 c.args.self.now.script.config.nodes) c.first.ensures ∙ first_in c.args.self.now (c.requires.world.0, c.requires.world.1.sound)

pub come_up-requires-clause-down : goal.come_up-requires-clause-down
come_up-requires-clause-down g c = ap (λ n. at c.args.self.now.nodes (n - 1)) c.first.ensures ∙ c.requires.down

pub come_up-requires-clause-ups : goal.come_up-requires-clause-ups
come_up-requires-clause-ups g c = subst (λ n. slice_index_or c.args.self.now.ups (n - 1) 0 < 4100000000) (sym c.first.ensures) c.requires.ups

pub settle_first-requires-clause-world : goal.settle_first-requires-clause-world
settle_first-requires-clause-world g c =
    next_to (IsSoundTo (ComesUp c.args.from c.args.bound)) (IsSoundTo (Begins c.args.from c.args.bound)) 1 (come_up 1) c.args.self.now c.come_up.new.self c.args.facts.now c.come_up.new.facts (whole_from IsSound (IsSoundTo (ComesUp c.args.from c.args.bound)) 1 (come_up 1) c.args.self.now c.come_up.new.self c.args.facts.now c.come_up.new.facts (plain (ComesUp c.args.from c.args.bound) c.args.self.now) (subst (λ k. IsWhole IsSound 1 (come_up k) c.args.self.now c.come_up.new.self c.args.facts.now c.come_up.new.facts) c.first.ensures c.in_ok-come_up.ensures)) (keeps_to (ComesUp c.args.from c.args.bound) (Begins c.args.from c.args.bound) c.args.self.now c.come_up.new.self (come_up 1) c.in_ok-come_up.ensures.script_is (λ w s. come_keeps c.standing_is_kept.ensures c.args.self.now c.requires.down w s.sound) (λ w s going. s.may going)) (sym c.is_full.ensures ∙ c.if-is_full.false) c.requires.world

pub settle_first-requires-clause-version : goal.settle_first-requires-clause-version
settle_first-requires-clause-version g c =
    let less : c.args.self.now.version < 3999999999 = c.requires.version in
    let more : c.come_up.new.self.version ≤ c.args.self.now.version + 1 = c.in_ok-come_up.ensures.counts.version_is in
    omega (arith, less, more)

pub returns-then-is_full : goal.returns-then-is_full
returns-then-is_full g c = stops_to (IsSoundTo (ComesUp c.args.from c.args.bound)) 1 2 (come_up 1) (from_first c.args.self.now.script c.args.from c.args.bound) c.args.self.now c.come_up.new.self c.args.facts.now c.come_up.new.facts (omega arith) (whole_from IsSound (IsSoundTo (ComesUp c.args.from c.args.bound)) 1 (come_up 1) c.args.self.now c.come_up.new.self c.args.facts.now c.come_up.new.facts (plain (ComesUp c.args.from c.args.bound) c.args.self.now) (subst (λ k. IsWhole IsSound 1 (come_up k) c.args.self.now c.come_up.new.self c.args.facts.now c.come_up.new.facts) c.first.ensures c.in_ok-come_up.ensures)) (sym c.is_full.ensures ∙ c.if-is_full.true)

pub returns : goal.returns
returns g c =
    step_to (IsSoundTo (ComesUp c.args.from c.args.bound)) (IsSoundTo (Begins c.args.from c.args.bound)) 1 1 (come_up 1) (from_first c.args.self.now.script c.args.from c.args.bound) c.settle_first.result c.args.self.now c.come_up.new.self c.settle_first.new.self c.args.facts.now c.come_up.new.facts c.settle_first.new.facts
    (whole_from IsSound (IsSoundTo (ComesUp c.args.from c.args.bound)) 1 (come_up 1) c.args.self.now c.come_up.new.self c.args.facts.now c.come_up.new.facts (plain (ComesUp c.args.from c.args.bound) c.args.self.now) (subst (λ k. IsWhole IsSound 1 (come_up k) c.args.self.now c.come_up.new.self c.args.facts.now c.come_up.new.facts) c.first.ensures c.in_ok-come_up.ensures)) (keeps_to (ComesUp c.args.from c.args.bound) (Begins c.args.from c.args.bound) c.args.self.now c.come_up.new.self (come_up 1) c.in_ok-come_up.ensures.script_is (λ w s. come_keeps c.standing_is_kept.ensures c.args.self.now c.requires.down w s.sound) (λ w s going. s.may going)) (sym c.is_full.ensures ∙ c.if-is_full.false)
    (subst (λ x. Stepped (IsSoundTo (Begins c.args.from c.args.bound)) 1 (from_first x c.args.from c.args.bound) c.settle_first.result c.come_up.new.self c.settle_first.new.self c.come_up.new.facts c.settle_first.new.facts) c.in_ok-come_up.ensures.script_is c.settle_first.ensures)

pub returns-in_err-come_up : goal.returns-in_err-come_up
returns-in_err-come_up g c =
    step_err (IsSoundTo (ComesUp c.args.from c.args.bound)) 2 (from_up c.args.self.now.script c.args.from c.args.bound) c.from_residual.result _ _ _ _ c.from_residual.ensures.0
    (step_cut (IsSoundTo (ComesUp c.args.from c.args.bound)) (come_up 1) (from_first c.args.self.now.script c.args.from c.args.bound) c.args.self.now c.come_up.new.self c.args.facts.now c.come_up.new.facts
    (cut_from IsSound (IsSoundTo (ComesUp c.args.from c.args.bound)) (come_up 1) c.args.self.now c.come_up.new.self c.args.facts.now c.come_up.new.facts (plain (ComesUp c.args.from c.args.bound) c.args.self.now) (subst (λ k. IsCut IsSound (come_up k) c.args.self.now c.come_up.new.self c.args.facts.now c.come_up.new.facts) c.first.ensures c.in_err-come_up.ensures)))
