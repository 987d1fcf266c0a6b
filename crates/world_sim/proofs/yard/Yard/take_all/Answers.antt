use Rattle.std.proofs.Common.{◌≡◌, ◌+◌, ◌-◌, suc, true, ap, sym, ◌∙◌, subst, arith}
use Rattle.yard_model.specs.declared.charter.Config.{Config}
use Rattle.yard_model.specs.Behaviour.{is_in}
use Rattle.yard_model.specs.Genuine.{is_producer}
use Rattle.yard_model.specs.Script.{Script}
use Rattle.yard_model.specs.Words.{numbers}
use Rattle.yard_model.specs.World.{produce}
use Rattle.world_sim.specs.Stepped.{IsCut, IsWhole}
use Rattle.world_sim.specs.Steps.{all_taken}
use Rattle.world_sim.specs.Yard.{Yard, IsSound}
use Rattle.world_sim.proofs.LoopLaws.{keeps_sound, sound_seen, way_first, way_on, way_stops, way_cut, way_ends, way_now}
use Rattle.world_sim.proofs.SettleLaws.{first_in, takes, takes_next, takes_done}
use Rattle.world_sim.proofs.StepLaws.{step_err}
use Rattle.world_sim.proofs.StoresLaws.{node_in}
use Rattle.world_sim.proofs.yard.Yard.take_all.Goals as goal

pub loop-i-init : goal.loop-i-init
loop-i-init g c = record { way = way_first IsSound takes (numbers 1 c.args.self.now.script.config.producers) (numbers 1 (c.args.self.now.script.config.producers - 0)) c.args.self.now c.args.facts.now (ap (numbers 1) (omega arith)); within = omega arith }

pub produce-requires-clause-world : goal.produce-requires-clause-world
produce-requires-clause-world g c =
    let n = c.args.self.now.script.config.producers in
    way_now IsSound takes (numbers 1 n) (numbers (c.loop-i.i + 1) (n - c.loop-i.i)) 0 c.args.self.now c.loop-i.self c.args.facts.now c.loop-i.facts c.loop-i.invariant.way c.requires

pub produce-requires-clause-producer : goal.produce-requires-clause-producer
produce-requires-clause-producer g c =
    let n = c.args.self.now.script.config.producers in
    let count : c.config.result.now.producers ≡ n = ap (λ (x : Config). x.producers) c.config.ensures.value ∙ ap (λ (v : Yard). v.script.config.producers) c.self.view_is in
    let one : n - c.loop-i.i ≡ suc (n - (c.loop-i.i + 1)) = omega (arith, count, c.loop-i-test.true) in
    let same : c.loop-i.self.script.config.producers ≡ n = ap (λ (x : Script). x.config.producers) c.loop-i.invariant.way.script_is in
    let producer : is_producer c.loop-i.self.script c.in-Some.p ≡ true = node_in c.loop-i.self.script.config.producers c.loop-i.i c.in-Some.p c.in-Some.ensures.value (omega (arith, count, same, c.loop-i-test.true)) in
    producer

pub produce-requires-clause-node : goal.produce-requires-clause-node
produce-requires-clause-node g c =
    let n = c.args.self.now.script.config.producers in
    let r = way_now IsSound takes (numbers 1 n) (numbers (c.loop-i.i + 1) (n - c.loop-i.i)) 0 c.args.self.now c.loop-i.self c.args.facts.now c.loop-i.facts c.loop-i.invariant.way c.requires in
    ap (is_in 1 c.loop-i.self.script.config.nodes) c.first.ensures ∙ first_in c.loop-i.self r

pub returns-then-is_full : goal.returns-then-is_full
returns-then-is_full g c =
    let n = c.args.self.now.script.config.producers in
    let count : c.config.result.now.producers ≡ n = ap (λ (x : Config). x.producers) c.config.ensures.value ∙ ap (λ (v : Yard). v.script.config.producers) c.self.view_is in
    let one : n - c.loop-i.i ≡ suc (n - (c.loop-i.i + 1)) = omega (arith, count, c.loop-i-test.true) in
    let same : c.loop-i.self.script.config.producers ≡ n = ap (λ (x : Script). x.config.producers) c.loop-i.invariant.way.script_is in
    let producer : is_producer c.loop-i.self.script c.in-Some.p ≡ true = node_in c.loop-i.self.script.config.producers c.loop-i.i c.in-Some.p c.in-Some.ensures.value (omega (arith, count, same, c.loop-i-test.true)) in
    way_stops IsSound takes (numbers 1 n) (numbers (c.loop-i.i + 1) (n - c.loop-i.i)) (numbers (c.loop-i.i + 1 + 1) (n - (c.loop-i.i + 1))) 0 0 0 (produce c.in-Some.p 1) c.args.self.now c.loop-i.self c.produce.new.self c.args.facts.now c.loop-i.facts c.produce.new.facts (omega arith) c.loop-i.invariant.way (takes_next c.loop-i.self c.loop-i.i c.in-Some.p (n - c.loop-i.i) (n - (c.loop-i.i + 1)) c.in-Some.ensures.value one)
    (subst (λ k. IsWhole IsSound 0 (produce c.in-Some.p k) c.loop-i.self c.produce.new.self c.loop-i.facts c.produce.new.facts) c.first.ensures c.in_ok-produce.ensures) (sym c.is_full.ensures ∙ c.if-is_full.true)

pub loop-i-preserved : goal.loop-i-preserved
loop-i-preserved g c =
    let n = c.args.self.now.script.config.producers in
    let count : c.config.result.now.producers ≡ n = ap (λ (x : Config). x.producers) c.config.ensures.value ∙ ap (λ (v : Yard). v.script.config.producers) c.self.view_is in
    let one : n - c.loop-i.i ≡ suc (n - (c.loop-i.i + 1)) = omega (arith, count, c.loop-i-test.true) in
    let same : c.loop-i.self.script.config.producers ≡ n = ap (λ (x : Script). x.config.producers) c.loop-i.invariant.way.script_is in
    let producer : is_producer c.loop-i.self.script c.in-Some.p ≡ true = node_in c.loop-i.self.script.config.producers c.loop-i.i c.in-Some.p c.in-Some.ensures.value (omega (arith, count, same, c.loop-i-test.true)) in
    record {
      way = way_on IsSound takes (numbers 1 n) (numbers (c.loop-i.i + 1) (n - c.loop-i.i)) (numbers (c.loop-i.i + 1 + 1) (n - (c.loop-i.i + 1))) 0 0 (produce c.in-Some.p 1) c.args.self.now c.loop-i.self c.produce.new.self c.args.facts.now c.loop-i.facts c.produce.new.facts c.loop-i.invariant.way (takes_next c.loop-i.self c.loop-i.i c.in-Some.p (n - c.loop-i.i) (n - (c.loop-i.i + 1)) c.in-Some.ensures.value one)
          (keeps_sound c.loop-i.self c.produce.new.self (produce c.in-Some.p 1) c.in_ok-produce.ensures.script_is (λ w k. c.standing_is_kept.ensures.takes c.loop-i.self.script w c.in-Some.p 1 producer k.stands_is)) (subst (λ k. IsWhole IsSound 0 (produce c.in-Some.p k) c.loop-i.self c.produce.new.self c.loop-i.facts c.produce.new.facts) c.first.ensures c.in_ok-produce.ensures) (sym c.is_full.ensures ∙ c.if-is_full.false);
      within = omega (arith, count, c.loop-i-test.true);
    }

pub returns : goal.returns
returns g c =
    let n = c.args.self.now.script.config.producers in
    let count : c.config.result.now.producers ≡ n = ap (λ (x : Config). x.producers) c.config.ensures.value ∙ ap (λ (v : Yard). v.script.config.producers) c.self.view_is in
    let none : n - c.loop-i.i ≡ 0 = omega (arith, count, c.loop-i-test.false) in
    way_ends IsSound takes (numbers 1 n) (numbers (c.loop-i.i + 1) (n - c.loop-i.i)) 0 0 c.args.self.now c.loop-i.self c.args.facts.now c.loop-i.facts (sound_seen _) (omega arith) c.loop-i.invariant.way (λ w s. takes_done c.loop-i.i (n - c.loop-i.i) w none)

pub returns-in_err-produce : goal.returns-in_err-produce
returns-in_err-produce g c =
    let n = c.args.self.now.script.config.producers in
    let count : c.config.result.now.producers ≡ n = ap (λ (x : Config). x.producers) c.config.ensures.value ∙ ap (λ (v : Yard). v.script.config.producers) c.self.view_is in
    let one : n - c.loop-i.i ≡ suc (n - (c.loop-i.i + 1)) = omega (arith, count, c.loop-i-test.true) in
    let same : c.loop-i.self.script.config.producers ≡ n = ap (λ (x : Script). x.config.producers) c.loop-i.invariant.way.script_is in
    let producer : is_producer c.loop-i.self.script c.in-Some.p ≡ true = node_in c.loop-i.self.script.config.producers c.loop-i.i c.in-Some.p c.in-Some.ensures.value (omega (arith, count, same, c.loop-i-test.true)) in
    step_err IsSound 0 (all_taken c.args.self.now.script) c.from_residual.result _ _ _ _ c.from_residual.ensures.0
    (way_cut IsSound takes (numbers 1 n) (numbers (c.loop-i.i + 1) (n - c.loop-i.i)) (numbers (c.loop-i.i + 1 + 1) (n - (c.loop-i.i + 1))) 0 (produce c.in-Some.p 1) c.args.self.now c.loop-i.self c.produce.new.self c.args.facts.now c.loop-i.facts c.produce.new.facts c.loop-i.invariant.way (takes_next c.loop-i.self c.loop-i.i c.in-Some.p (n - c.loop-i.i) (n - (c.loop-i.i + 1)) c.in-Some.ensures.value one)
    (subst (λ k. IsCut IsSound (produce c.in-Some.p k) c.loop-i.self c.produce.new.self c.loop-i.facts c.produce.new.facts) c.first.ensures c.in_err-produce.ensures))
