use Rattle.std.proofs.Common.{◌-◌, ap, sym, ◌∙◌}
use Rattle.std.specs.Prelude.{is_none}
use Rattle.yard_model.specs.Words.{at}
use Rattle.yard_model.specs.World.{go_down, crash_node}
use Rattle.world_sim.specs.Yard.{Yard, IsSound}
use Rattle.world_sim.proofs.DownLaws.{crash_nothing, crash_stepped, crash_cut}
use Rattle.world_sim.proofs.StepLaws.{step_err}
use Rattle.world_sim.proofs.UpLaws.{firm_of}
use Rattle.world_sim.proofs.yard.Yard.crash.Goals as goal

pub go_down-requires-clause-world : goal.go_down-requires-clause-world
go_down-requires-clause-world g c = (c.requires.world.0, firm_of _ c.requires.world.0 c.requires.world.1)

pub views-requires : goal.views-requires
views-requires g c = let r = c.requires.world in ((go_down c.args.n r.0).world, (c.in_ok-go_down.ensures.goes r.0 (firm_of _ r.0 r.1)).seen_is)

pub returns-then-is_down : goal.returns-then-is_down
returns-then-is_down g c = crash_nothing c.args.self.now c.args.n c.push.result c.args.facts.now c.push.new.self (ap (λ (v : Yard). is_none (at v.nodes (c.args.n - 1))) (sym c.self.view_is) ∙ (sym c.is_down.ensures ∙ c.if-is_down.true)) c.push.ensures.ok c.push.ensures.err

pub returns : goal.returns
returns g c = crash_stepped c.args.self.now c.go_down.new.self c.views.new.self c.args.n c.views.result c.args.facts.now c.go_down.new.facts c.views.new.facts
    (ap (λ (v : Yard). is_none (at v.nodes (c.args.n - 1))) (sym c.self.view_is) ∙ (sym c.is_down.ensures ∙ c.if-is_down.false)) c.in_ok-go_down.ensures c.views.ensures

pub returns-in_err-go_down : goal.returns-in_err-go_down
returns-in_err-go_down g c = step_err IsSound 1 (crash_node c.args.n) c.from_residual.result _ _ _ _ c.from_residual.ensures.0
    (crash_cut c.args.self.now c.go_down.new.self c.args.n c.args.facts.now c.go_down.new.facts (ap (λ (v : Yard). is_none (at v.nodes (c.args.n - 1))) (sym c.self.view_is) ∙ (sym c.is_down.ensures ∙ c.if-is_down.false)) c.in_err-go_down.ensures)
