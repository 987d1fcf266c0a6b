use Rattle.std.proofs.Common.{sym, subst, ap, ◌∙◌}
use Rattle.yard_model.specs.declared.charter.Order.TheVariants as order
use Rattle.yard_model.specs.declared.input.Input.TheVariants as input
use Rattle.yard_model.specs.Genuine.{is_brought}
use Rattle.world_sim.specs.declared.seek.Sought.TheVariants as sought
use Rattle.world_sim.specs.Yard.{Yard, IsSound}
use Rattle.world_sim.proofs.AskLaws.{asks, fail_fits}
use Rattle.world_sim.proofs.SeekLaws.{IsFoundIn, nodes_few, may_seek_active}
use Rattle.world_sim.proofs.yard.Yard.fail_write.Goals as goal

pub seek-to-requires-clause-few : goal.seek-to-requires-clause-few
seek-to-requires-clause-few g c = let r = c.requires.world in nodes_few _ r.0 (subst (λ v. IsSound v r.0) (sym c.self.view_is) r.1)

pub seek-to-requires-clause-may : goal.seek-to-requires-clause-may
seek-to-requires-clause-may g c = let r = c.requires.world in may_seek_active _ r.0 c.args.entity.now (subst (λ v. IsSound v r.0) (sym c.self.view_is) r.1) (ap (λ (v : Yard). is_brought v.script c.args.entity.now) c.self.view_is ∙ c.requires.brought)

pub ask-requires : goal.ask-requires
ask-requires g c =
    let r = c.requires.world in
    let fits = fail_fits c.args.self.now c.args.entity.now c.args.keep c.seek-to.result c.requires.brought (subst (λ v. IsFoundIn (sought.Active c.args.entity.now) v c.seek-to.result) c.self.view_is c.seek-to.ensures) in
    (r.0, (fits r.0 r.1).0)

pub returns : goal.returns
returns g c =
    let fits = fail_fits c.args.self.now c.args.entity.now c.args.keep c.seek-to.result c.requires.brought (subst (λ v. IsFoundIn (sought.Active c.args.entity.now) v c.seek-to.result) c.self.view_is c.seek-to.ensures) in
    asks c.args.self.now c.ask.new.self c.seek-to.result (input.FailWrite c.args.entity.now c.args.keep) (order.FailWrite c.args.entity.now c.args.keep) c.ask.result c.args.facts.now c.ask.new.facts fits c.ask.ensures
