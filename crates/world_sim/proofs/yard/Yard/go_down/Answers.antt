use Rattle.std.proofs.Common.{◌-◌, ap, sym, ◌∙◌, subst, refl}
use Rattle.std.specs.Prelude.{is_none}
use Rattle.yard_model.specs.Behaviour.{is_in}
use Rattle.yard_model.specs.Words.{at}
use Rattle.yard_model.specs.World.{go_down}
use Rattle.world_sim.specs.Yard.{Yard, IsFirm}
use Rattle.world_sim.proofs.DownLaws.{may_end, down_none, down_told}
use Rattle.world_sim.proofs.SeenLaws.{all_told_is}
use Rattle.world_sim.proofs.StepLaws.{cut_none, step_err, step_seen}
use Rattle.world_sim.proofs.UpLaws.{node_within, firm_inside, yard_is}
use Rattle.world_sim.proofs.yard.Yard.go_down.Goals as goal

pub is_down-requires : goal.is_down-requires
is_down-requires g c =
    let w = c.requires.world.0 in
    firm_inside _ w c.args.n (subst (λ v. IsFirm v w) (sym c.self.view_is) c.requires.world.1) (ap (λ (v : Yard). is_in 1 v.script.config.nodes c.args.n) c.self.view_is ∙ c.requires.node)

pub end_at-requires-clause-there : goal.end_at-requires-clause-there
end_at-requires-clause-there g c =
    let w = c.requires.world.0 in
    firm_inside _ w c.args.n (subst (λ v. IsFirm v w) (sym c.self.view_is) c.requires.world.1) (ap (λ (v : Yard). is_in 1 v.script.config.nodes c.args.n) c.self.view_is ∙ c.requires.node)

pub end_at-requires-clause-up : goal.end_at-requires-clause-up
end_at-requires-clause-up g c =
    let w = c.requires.world.0 in
    may_end _ w c.args.n (subst (λ v. IsFirm v w) (sym c.self.view_is) c.requires.world.1) (sym c.is_down.ensures ∙ c.if-is_down.false)

pub returns-then-is_down : goal.returns-then-is_down
returns-then-is_down g c = down_none c.args.self.now c.args.n c.args.facts.now (ap (λ (v : Yard). is_none (at v.nodes (c.args.n - 1))) (sym c.self.view_is) ∙ (sym c.is_down.ensures ∙ c.if-is_down.true))

pub returns : goal.returns
returns g c =
    let t = c.tell_items.ensures in
    let mid = c.end_at.new.mail in
    let e = c.in_ok-who.ensures in
    step_seen IsFirm 1 (go_down c.args.n) c.tell_items.result _ _ _ _ _ c.self.view_is
    (down_told _ _ c.args.n c.in_ok-who.field-0 c.end_at.new.book mid c.tell_items.new.self c.tell_items.result c.args.facts.now c.push.new.self c.tell_items.new.facts
    (yard_is _ _ refl refl refl c.end_at.ensures.nodes c.leave.ensures refl refl refl refl) (node_within c.args.n _ c.requires.node).0 c.len-posted.ensures.fits e.ended c.in_ok-push.ensures.ok
    (all_told_is c.tell_items.result mid c.tell_items.new.self c.push.new.self c.tell_items.new.facts t.facts t.packets t.fresh t.full t.items) t.told)

pub returns-in_err-who : goal.returns-in_err-who
returns-in_err-who g c = step_err IsFirm 1 (go_down c.args.n) c.from_residual.result _ _ _ _ c.from_residual.ensures.0 (cut_none IsFirm (go_down c.args.n) _ _ _ _ (ap (λ (v : Yard). v.script) c.self.view_is) refl)

pub returns-in_err-push : goal.returns-in_err-push
returns-in_err-push g c = step_err IsFirm 1 (go_down c.args.n) c.from_residual-in_err-push.result _ _ _ _ c.from_residual-in_err-push.ensures.0 (cut_none IsFirm (go_down c.args.n) _ _ _ _ (ap (λ (v : Yard). v.script) c.self.view_is) c.in_err-push.ensures.err)
