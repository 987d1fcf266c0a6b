use Rattle.std.proofs.Common.{◌-◌, ap, sym, ◌∙◌, subst, arith}
use Rattle.std.specs.Prelude.{is_none}
use Rattle.yard_model.specs.Words.{at}
use Rattle.world_sim.specs.Yard.{Yard, IsSound}
use Rattle.world_sim.proofs.SeekLaws.{number_inside}
use Rattle.world_sim.proofs.SettleLaws.{first_in, may_tick, tick_given, tick_none}
use Rattle.yard_model.specs.Behaviour.{is_in}
use Rattle.world_sim.proofs.yard.Yard.tick_first.Goals as goal

pub is_down-requires : goal.is_down-requires
is_down-requires g c =
    let r = c.requires in
    number_inside _ r.0 c.first-n.result (subst (λ v. IsSound v r.0) (sym c.self.view_is) r.1) (ap (λ (v : Yard). v.script) c.self.view_is) (ap (is_in 1 c.args.self.now.script.config.nodes) c.first-n.ensures ∙ first_in c.args.self.now r)

pub give-requires : goal.give-requires
give-requires g c =
    let r = c.requires in
    (r.0, may_tick c.args.self.now r.0 c.first-n.result (omega (arith, c.first-n.ensures)) (ap (λ (v : Yard). is_none (at v.nodes (c.first-n.result - 1))) (sym c.self.view_is) ∙ (sym c.is_down.ensures ∙ c.if-is_down.false)) r.1)

pub returns-then-is_down : goal.returns-then-is_down
returns-then-is_down g c = tick_none c.args.self.now c.first-n.result c.args.facts.now c.first-n.ensures (ap (λ (v : Yard). is_none (at v.nodes (c.first-n.result - 1))) (sym c.self.view_is) ∙ (sym c.is_down.ensures ∙ c.if-is_down.true))

pub returns : goal.returns
returns g c = tick_given c.args.self.now c.give.new.self c.first-n.result c.give.result c.args.facts.now c.give.new.facts c.first-n.ensures (ap (λ (v : Yard). is_none (at v.nodes (c.first-n.result - 1))) (sym c.self.view_is) ∙ (sym c.is_down.ensures ∙ c.if-is_down.false)) c.give.ensures.stepped
