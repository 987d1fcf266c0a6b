use Rattle.std.proofs.Common.{◌≡◌, ap, sym, ◌∙◌, arith}
use Rattle.yard_model.specs.declared.charter.Config.{Config}
use Rattle.world_sim.specs.Yard.{Yard}
use Rattle.world_sim.proofs.LeftLaws.{left_first, left_next, left_here, left_none}
use Rattle.world_sim.proofs.StoresLaws.{node_in}
use Rattle.world_sim.proofs.yard.Yard.is_any_left.Goals as goal

pub loop-i-init : goal.loop-i-init
loop-i-init g c = record { none = left_first c.args.self.now }

pub is_left-requires-clause-producer : goal.is_left-requires-clause-producer
is_left-requires-clause-producer g c =
    let n = c.args.self.now.script.config.producers in
    let count : c.config.result.now.producers ≡ n = ap (λ (x : Config). x.producers) c.config.ensures.value ∙ ap (λ (v : Yard). v.script.config.producers) c.self.view_is in
    node_in n c.loop-i.i c.in-Some.p c.in-Some.ensures.value (omega (arith, count, c.loop-i-test.true))

pub returns-then-is_left : goal.returns-then-is_left
returns-then-is_left g c = λ w s.
    let n = c.args.self.now.script.config.producers in
    let count : c.config.result.now.producers ≡ n = ap (λ (x : Config). x.producers) c.config.ensures.value ∙ ap (λ (v : Yard). v.script.config.producers) c.self.view_is in
    left_here c.args.self.now c.loop-i.i c.in-Some.p w c.in-Some.ensures.value (omega (arith, count, c.loop-i-test.true)) s (sym (c.is_left.ensures w s) ∙ c.if-is_left.true) c.loop-i.invariant.none

pub loop-i-preserved : goal.loop-i-preserved
loop-i-preserved g c =
    let n = c.args.self.now.script.config.producers in
    let count : c.config.result.now.producers ≡ n = ap (λ (x : Config). x.producers) c.config.ensures.value ∙ ap (λ (v : Yard). v.script.config.producers) c.self.view_is in
    record { none = left_next c.args.self.now c.loop-i.i c.in-Some.p c.in-Some.ensures.value (omega (arith, count, c.loop-i-test.true)) (λ w s. sym (c.is_left.ensures w s) ∙ c.if-is_left.false) c.loop-i.invariant.none }

pub returns : goal.returns
returns g c = λ w s.
    let n = c.args.self.now.script.config.producers in
    let count : c.config.result.now.producers ≡ n = ap (λ (x : Config). x.producers) c.config.ensures.value ∙ ap (λ (v : Yard). v.script.config.producers) c.self.view_is in
    left_none c.args.self.now c.loop-i.i w (omega (arith, count, c.loop-i-test.false)) s c.loop-i.invariant.none
