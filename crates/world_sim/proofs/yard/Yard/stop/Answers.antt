use Rattle.std.proofs.Common.{◌≡◌, ap, sym, ◌∙◌, subst, arith}
use Rattle.yard_model.specs.declared.charter.Config.{Config}
use Rattle.yard_model.specs.Script.{Script}
use Rattle.world_sim.specs.Stopped.{IsQuiet, IsStopped}
use Rattle.world_sim.specs.Yard.{Yard}
use Rattle.world_sim.proofs.StoresLaws.{stopping_first, stopping_next, node_in}
use Rattle.world_sim.proofs.yard.Yard.stop.Goals as goal

pub loop-i-preserved : goal.loop-i-preserved
loop-i-preserved g c =
    let s = c.loop-i.invariant.stopping in
    let count : c.config.result.now.nodes ≡ c.loop-i.self.script.config.nodes = ap (λ (x : Config). x.nodes) c.config.ensures.value ∙ (ap (λ (v : Yard). v.script.config.nodes) c.self.view_is ∙ sym (ap (λ (x : Script). x.config.nodes) s.script_is)) in
    record {
      stopping = stopping_next c.standing_is_kept.ensures c.args.self.now c.loop-i.self c.go_down.new.self c.loop-i.facts c.go_down.new.facts c.loop-i.i c.in-Some.n c.in-Some.ensures.value
          (node_in c.loop-i.self.script.config.nodes c.loop-i.i c.in-Some.n c.in-Some.ensures.value (omega (arith, count, c.loop-i-test.true))) s c.in_ok-go_down.ensures;
    }

pub returns-clause-stopped : goal.returns-clause-stopped
returns-clause-stopped g c = λ w f.
    let r = c.loop-i.invariant.stopping.goes_on w f in
    let count : c.config.result.now.nodes ≡ c.args.self.now.script.config.nodes = ap (λ (x : Config). x.nodes) c.config.ensures.value ∙ ap (λ (v : Yard). v.script.config.nodes) c.self.view_is in
    let all : c.loop-i.i ≡ c.args.self.now.script.config.nodes = omega (arith, count, c.loop-i.auto.i-end, c.loop-i-test.false) in
    (r.0, subst (λ k. IsStopped (IsQuiet w) k w.lists c.loop-i.self r.0) all r.1)

pub loop-i-init : goal.loop-i-init
loop-i-init g c = record { stopping = stopping_first c.args.self.now }

pub go_down-requires-clause-world : goal.go_down-requires-clause-world
go_down-requires-clause-world g c = let r = c.loop-i.invariant.stopping.goes_on c.requires.world.0 c.requires.world.1 in (r.0, r.1.firm_is)
