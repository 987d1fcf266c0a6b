use Rattle.std.proofs.Common.{ap, sym, ◌∙◌, subst}
use Rattle.yard_model.specs.declared.charter.Order.TheVariants as order
use Rattle.yard_model.specs.Script.{is_order}
use Rattle.world_sim.specs.Yard.{Yard, IsSound}
use Rattle.world_sim.proofs.DeliveryLaws.{count_there}
use Rattle.world_sim.proofs.yard.Yard.note.Goals as goal

pub count_one-requires-clause-within : goal.count_one-requires-clause-within
count_one-requires-clause-within g c = count_there _ c.requires.world.0 c.in-Send.p c.in-Send.field-1 c.in-Send.field-2 (subst (λ v. IsSound v c.requires.world.0) (sym c.self.view_is) c.requires.world.1)
    (ap (λ (v : Yard). is_order v.script.config (order.Send c.in-Send.p c.in-Send.field-1 c.in-Send.field-2)) c.self.view_is ∙ (ap (is_order c.args.self.now.script.config) (sym c.in-Send.is) ∙ c.requires.order))
