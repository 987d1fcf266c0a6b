use Rattle.std.proofs.Common.{ap, ◌∙◌, ◌++◌, refl}
use Rattle.yard_model.specs.World.{views}
use Rattle.world_sim.specs.Yard.{Yard, IsSeen}
use Rattle.world_sim.proofs.DownLaws.{views_told}
use Rattle.world_sim.proofs.SeenLaws.{all_told_is, view_items}
use Rattle.world_sim.proofs.StepLaws.{cut_none, step_err, step_seen}
use Rattle.world_sim.proofs.yard.Yard.views.Goals as goal

pub returns : goal.returns
returns g c =
    let t = c.tell_items.ensures in
    let mid = c.post_views.new.mail in
    let p = c.post_views.ensures in
    let q = c.reserve.ensures in
    step_seen IsSeen 0 views c.tell_items.result _ _ _ _ _ c.self.view_is
    (views_told _ mid c.tell_items.new.self c.tell_items.result c.args.facts.now c.tell_items.new.facts (p.packets ∙ q.packets) (p.fresh ∙ q.fresh) (p.full ∙ q.full)
    (p.items ∙ ap (λ i. i ++ view_items c.self.inside.version c.self.inside.members c.self.inside.members) q.items)
    (all_told_is c.tell_items.result mid c.tell_items.new.self c.args.facts.now c.tell_items.new.facts t.facts t.packets t.fresh t.full t.items) t.told)

pub returns-in_err-reserve : goal.returns-in_err-reserve
returns-in_err-reserve g c = step_err IsSeen 0 views c.from_residual.result _ _ _ _ c.from_residual.ensures.0 (cut_none IsSeen views _ _ _ _ (ap (λ (v : Yard). v.script) c.self.view_is) refl)
