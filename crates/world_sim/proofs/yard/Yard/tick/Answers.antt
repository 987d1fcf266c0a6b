use Rattle.std.proofs.Common.{◌-◌, ap, sym, ◌∙◌, subst}
use Rattle.std.specs.Prelude.{Some, None, is_none, if◌then◌else◌}
use Rattle.yard_model.specs.declared.charter.Order.TheVariants as order
use Rattle.yard_model.specs.declared.input.Input.TheVariants as input
use Rattle.yard_model.specs.Words.{at}
use Rattle.world_sim.specs.Yard.{Yard, IsSound}
use Rattle.world_sim.proofs.AskLaws.{asks, tick_fits}
use Rattle.world_sim.proofs.SeekLaws.{number_inside}
use Rattle.world_sim.proofs.UpLaws.{node_within}
use Rattle.world_sim.proofs.yard.Yard.tick.Goals as goal

pub where_up-to-requires : goal.where_up-to-requires
where_up-to-requires g c = number_inside _ c.requires.world.0 c.args.n (subst (λ v. IsSound v c.requires.world.0) (sym c.self.view_is) c.requires.world.1) (ap (λ (v : Yard). v.script) c.self.view_is) c.requires.node

pub ask-requires : goal.ask-requires
ask-requires g c =
    let fits = tick_fits c.args.self.now c.args.n c.where_up-to.result (node_within c.args.n _ c.requires.node).0 (c.where_up-to.ensures ∙ ap (λ (v : Yard). if is_none (at v.nodes (c.args.n - 1)) then None else Some c.args.n) c.self.view_is) in
    (c.requires.world.0, (fits c.requires.world.0 c.requires.world.1).0)

pub returns : goal.returns
returns g c =
    let fits = tick_fits c.args.self.now c.args.n c.where_up-to.result (node_within c.args.n _ c.requires.node).0 (c.where_up-to.ensures ∙ ap (λ (v : Yard). if is_none (at v.nodes (c.args.n - 1)) then None else Some c.args.n) c.self.view_is) in
    asks c.args.self.now c.ask.new.self c.where_up-to.result input.Tick (order.Tick c.args.n) c.ask.result c.args.facts.now c.ask.new.facts fits c.ask.ensures
