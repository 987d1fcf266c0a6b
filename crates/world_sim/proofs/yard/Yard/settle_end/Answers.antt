use Rattle.std.proofs.Common.{sym, ◌∙◌}
use Rattle.world_sim.proofs.SettleLaws.{not_settled, is_settled}
use Rattle.world_sim.proofs.yard.Yard.settle_end.Goals as goal

pub returns-then-is_unsettled : goal.returns-then-is_unsettled
returns-then-is_unsettled g c = not_settled c.args.self.now c.args.from c.args.facts.now (λ w s. sym (c.is_unsettled.ensures w s) ∙ c.if-is_unsettled.true)

pub returns : goal.returns
returns g c = is_settled c.args.self.now c.end_settled.new.self c.args.from c.end_settled.result c.args.facts.now c.end_settled.new.facts (λ w s. sym (c.is_unsettled.ensures w s) ∙ c.if-is_unsettled.false) c.end_settled.ensures
