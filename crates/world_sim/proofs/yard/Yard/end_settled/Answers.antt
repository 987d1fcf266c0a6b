use Rattle.std.proofs.Common.{[], ◌∷◌, ap, ◌∙◌, subst}
use Rattle.yard_model.specs.declared.fact.Fact.TheVariants as fact
use Rattle.yard_model.specs.Behaviour.{is_in}
use Rattle.yard_model.specs.World.{go_down, in_order, tell}
use Rattle.world_sim.specs.Stepped.{IsCut}
use Rattle.world_sim.specs.Steps.{ended}
use Rattle.world_sim.specs.Yard.{IsFirm, IsSound}
use Rattle.world_sim.proofs.SettleLaws.{ended_stepped, first_in}
use Rattle.world_sim.proofs.StepLaws.{cut_from, step_cut, step_err, whole_from}
use Rattle.world_sim.proofs.UpLaws.{firm_of}
use Rattle.world_sim.proofs.yard.Yard.end_settled.Goals as goal

pub go_down-requires-clause-world : goal.go_down-requires-clause-world
go_down-requires-clause-world g c = (c.requires.world.0, firm_of c.args.self.now c.requires.world.0 c.requires.world.1)

pub go_down-requires-clause-node : goal.go_down-requires-clause-node
go_down-requires-clause-node g c = ap (is_in 1 c.args.self.now.script.config.nodes) c.first.ensures ∙ first_in c.args.self.now c.requires.world

pub returns : goal.returns
returns g c =
    ended_stepped c.args.self.now c.go_down.new.self c.first.result c.push.result c.args.facts.now c.go_down.new.facts c.push.new.self c.first.ensures
    (whole_from IsFirm IsSound 1 (go_down c.first.result) c.args.self.now c.go_down.new.self c.args.facts.now c.go_down.new.facts (firm_of c.args.self.now) c.in_ok-go_down.ensures) c.push.ensures.ok c.push.ensures.err

pub returns-in_err-go_down : goal.returns-in_err-go_down
returns-in_err-go_down g c =
    step_err IsSound 1 ended c.from_residual.result _ _ _ _ c.from_residual.ensures.0
    (step_cut IsSound (go_down 1) (in_order (tell (fact.Settled ∷ []) ∷ [])) c.args.self.now c.go_down.new.self c.args.facts.now c.go_down.new.facts
    (subst (λ k. IsCut IsSound (go_down k) c.args.self.now c.go_down.new.self c.args.facts.now c.go_down.new.facts) c.first.ensures
    (cut_from IsFirm IsSound (go_down c.first.result) c.args.self.now c.go_down.new.self c.args.facts.now c.go_down.new.facts (firm_of c.args.self.now) c.in_err-go_down.ensures)))
