use Rattle.std.proofs.Common.{◌-◌, sym, ap, ◌∙◌, subst}
use Rattle.yard_model.specs.Words.{at}
use Rattle.world_sim.specs.Queues.{is_without}
use Rattle.world_sim.specs.Yard.{Yard, IsSound}
use Rattle.world_sim.proofs.ProduceLaws.{free_at, may_produce, produce_free, produce_nothing}
use Rattle.world_sim.proofs.SeekLaws.{number_inside}
use Rattle.world_sim.proofs.UpLaws.{node_within}
use Rattle.world_sim.proofs.yard.Yard.produce.Goals as goal

pub is_without-requires : goal.is_without-requires
is_without-requires g c = number_inside _ c.requires.world.0 c.args.n (subst (λ v. IsSound v c.requires.world.0) (sym c.self.view_is) c.requires.world.1) (ap (λ (v : Yard). v.script) c.self.view_is) c.requires.node

pub take-requires-clause-world : goal.take-requires-clause-world
take-requires-clause-world g c =
    let free = ap (λ (v : Yard). is_without c.args.p (at v.nodes (c.args.n - 1))) (sym c.self.view_is) ∙ (sym c.is_without.ensures ∙ c.if-is_without.true) in
    (c.requires.world.0, may_produce c.args.p c.args.n c.args.self.now c.requires.world.0 c.requires.producer (free_at c.args.self.now c.requires.world.0 c.args.p c.args.n (node_within c.args.n _ c.requires.node).0 free c.requires.world.1))

pub returns-then-is_without : goal.returns-then-is_without
returns-then-is_without g c =
    let free = ap (λ (v : Yard). is_without c.args.p (at v.nodes (c.args.n - 1))) (sym c.self.view_is) ∙ (sym c.is_without.ensures ∙ c.if-is_without.true) in
    produce_free c.args.self.now c.take.new.self c.args.p c.args.n c.take.result c.args.facts.now c.take.new.facts c.requires.producer (node_within c.args.n _ c.requires.node).0 free c.take.ensures

pub returns-else-is_without : goal.returns-else-is_without
returns-else-is_without g c =
    let not = ap (λ (v : Yard). is_without c.args.p (at v.nodes (c.args.n - 1))) (sym c.self.view_is) ∙ (sym c.is_without.ensures ∙ c.if-is_without.false) in
    produce_nothing c.args.self.now c.args.p c.args.n c.push.result c.args.facts.now c.push.new.self c.requires.producer (node_within c.args.n _ c.requires.node).0 not c.push.ensures.ok c.push.ensures.err
