use Rattle.std.proofs.Common.{◌-◌, ap, sym, ◌∙◌, subst}
use Rattle.std.specs.Prelude.{is_none}
use Rattle.yard_model.specs.Behaviour.{is_in}
use Rattle.yard_model.specs.Words.{at}
use Rattle.plain_laws.proofs.Lists.{none_of}
use Rattle.world_sim.specs.Yard.{Yard, IsSound}
use Rattle.world_sim.proofs.DownLaws.{up_stepped, up_nothing}
use Rattle.world_sim.proofs.UpLaws.{firm_inside, firm_of}
use Rattle.world_sim.proofs.yard.Yard.up.Goals as goal

pub returns-then-is_down : goal.returns-then-is_down
returns-then-is_down g c = up_stepped c.args.self.now c.come_up.new.self c.args.n c.come_up.result c.args.facts.now c.come_up.new.facts (ap (λ (v : Yard). is_none (at v.nodes (c.args.n - 1))) (sym c.self.view_is) ∙ (sym c.is_down.ensures ∙ c.if-is_down.true)) c.come_up.ensures

pub returns-else-is_down : goal.returns-else-is_down
returns-else-is_down g c = up_nothing c.args.self.now c.args.n c.push.result c.args.facts.now c.push.new.self (ap (λ (v : Yard). is_none (at v.nodes (c.args.n - 1))) (sym c.self.view_is) ∙ (sym c.is_down.ensures ∙ c.if-is_down.false)) c.push.ensures.ok c.push.ensures.err

pub is_down-requires : goal.is_down-requires
is_down-requires g c =
    let w = c.requires.world.0 in
    firm_inside _ w c.args.n (firm_of _ w (subst (λ v. IsSound v w) (sym c.self.view_is) c.requires.world.1)) (ap (λ (v : Yard). is_in 1 v.script.config.nodes c.args.n) c.self.view_is ∙ c.requires.node)

pub come_up-requires-clause-down : goal.come_up-requires-clause-down
come_up-requires-clause-down g c =
    none_of (at c.args.self.now.nodes (c.args.n - 1)) (ap (λ (v : Yard). is_none (at v.nodes (c.args.n - 1))) (sym c.self.view_is) ∙ (sym c.is_down.ensures ∙ c.if-is_down.true))
