use Rattle.std.proofs.Common.{not, sym, ap, ◌∙◌}
use Rattle.yard_model.specs.Words.{is_empty}
use Rattle.yard_model.specs.World.{pump}
use Rattle.world_sim.specs.Yard.{Yard, Backed}
use Rattle.world_sim.proofs.DeliveryLaws.{drains_backed, nothing_stepped, pump_none, pump_stepped, weak_to}
use Rattle.world_sim.proofs.yard.Yard.pump.Goals as goal

pub returns-then-not-has_fresh : goal.returns-then-not-has_fresh
returns-then-not-has_fresh g c =
    weak_to Backed 0 (pump c.args.n) c.push.result c.args.self.now _ c.args.facts.now c.push.new.self
    (nothing_stepped (pump c.args.n) 0 c.push.result c.args.self.now c.args.facts.now c.push.new.self c.push.ensures.ok c.push.ensures.err
    (λ w s. pump_none c.args.self.now c.args.n w (ap (λ (v : Yard). not (is_empty v.mail.fresh)) (sym c.self.view_is) ∙ (sym c.has_fresh.ensures ∙ c.if-not-has_fresh.true)) s))

pub returns : goal.returns
returns g c =
    pump_stepped c.standing_is_kept.ensures c.args.self.now c.args.n c.drain.result c.drain.new.self c.args.facts.now c.drain.new.facts (ap (λ (v : Yard). not (is_empty v.mail.fresh)) (sym c.self.view_is) ∙ (sym c.has_fresh.ensures ∙ c.if-not-has_fresh.false)) c.drain.ensures

pub drain-requires-clause-world : goal.drain-requires-clause-world
drain-requires-clause-world g c = (c.requires.0, drains_backed c.standing_is_kept.ensures 0 c.args.n c.args.self.now c.requires.0 c.requires.1)
