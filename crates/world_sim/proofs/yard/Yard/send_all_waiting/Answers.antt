use Rattle.std.proofs.Common.{◌-◌, sym, ap, ◌∙◌, subst}
use Rattle.std.specs.Prelude.{slice_index_or}
use Rattle.yard_model.specs.Genuine.{is_producer}
use Rattle.yard_model.specs.Words.{at}
use Rattle.world_sim.specs.Queues.{waiting_at}
use Rattle.world_sim.specs.Yard.{Yard, IsSoundAt}
use Rattle.world_sim.proofs.GiveLaws.{up_inside}
use Rattle.world_sim.proofs.ProduceLaws.{waiting_stepped, place_there, producer_there}
use Rattle.world_sim.proofs.yard.Yard.send_all_waiting.Goals as goal

pub count_at-ordered-requires : goal.count_at-ordered-requires
count_at-ordered-requires g c = place_there _ c.requires.world.0 c.args.n c.args.p (subst (λ v. IsSoundAt c.args.n v c.requires.world.0) (sym c.self.view_is) c.requires.world.1) (ap (λ (v : Yard). is_producer v.script c.args.p) c.self.view_is ∙ c.requires.producer)

pub waiting-count-requires-clause-there : goal.waiting-count-requires-clause-there
waiting-count-requires-clause-there g c = let s = subst (λ v. IsSoundAt c.args.n v c.requires.world.0) (sym c.self.view_is) c.requires.world.1 in up_inside c.self.inside.nodes.items c.args.n s.up

pub waiting-count-requires-clause-producer : goal.waiting-count-requires-clause-producer
waiting-count-requires-clause-producer g c = producer_there _ c.requires.world.0 c.args.n c.args.p (subst (λ v. IsSoundAt c.args.n v c.requires.world.0) (sym c.self.view_is) c.requires.world.1) (ap (λ (v : Yard). is_producer v.script c.args.p) c.self.view_is ∙ c.requires.producer)

pub returns : goal.returns
returns g c =
    waiting_stepped c.args.self.now c.send_waiting.new.self c.args.p c.args.n c.waiting-count.result c.send_waiting.result c.args.facts.now c.send_waiting.new.facts c.requires.producer
    (c.waiting-count.ensures ∙ (ap (λ k. waiting_at c.args.p k (at c.self.inside.nodes.items (c.args.n - 1))) c.count_at-ordered.ensures
    ∙ ap (λ (v : Yard). waiting_at c.args.p (slice_index_or v.ordered (c.args.p - 1) 0) (at v.nodes (c.args.n - 1))) c.self.view_is))
    c.send_waiting.ensures
