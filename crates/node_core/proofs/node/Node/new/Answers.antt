use Rattle.std.proofs.Common.{◌≡◌, ap, ◌∙◌, sym, subst}
use Rattle.std.specs.Prelude.{None}
use Rattle.yard_model.specs.Entities.{new_entities}
use Rattle.yard_model.specs.Node.{Node, new_node}
use Rattle.yard_model.specs.Script.{Script, setting}
use Rattle.node_laws.specs.NodeStands.{IsSoundNode}
use Rattle.node_laws.specs.NodeTurns.{IsNew}
use Rattle.producer_ctl.specs.Producing.{Producing}
use Rattle.region_actor.specs.Made.{Made}
use Rattle.shard_entities.specs.Lodged.{Lodged}
use Rattle.node_core.specs.Standing.{node_of}
use Rattle.node_core.proofs.node.Node.new.Goals as goal

pub invariant_of-result-2 : goal.invariant_of-result-2
invariant_of-result-2 g c =
    let script : Script = c.args.charter.now in
    let start : Node = new_node (setting script) (g.B.Behaviour.version_of c.args.behaviour) c.args.who in
    let new : IsNew script (g.B.Behaviour.version_of c.args.behaviour) c.args.who = c.new_node_stands.ensures script (g.B.Behaviour.version_of c.args.behaviour) c.args.who c.requires.who c.requires.version in
    let state_is : node_of c.of.result.value c.in_ok-first.first.region.state c.in_ok-first.first.entities c.in_ok-first.first.producers None ≡ start =
    ap (λ (s : Script). node_of s c.in_ok-first.first.region.state c.in_ok-first.first.entities c.in_ok-first.first.producers None) c.of.ensures
    ∙ (ap (λ (r : Made). node_of script r.state c.in_ok-first.first.entities c.in_ok-first.first.producers None) c.in_ok-first.ensures.region
    ∙ (ap (λ (e : Lodged). record start { entities = e.state; producers = c.in_ok-first.first.producers.producers }) c.in_ok-first.ensures.entities
    ∙ (ap (λ n. record start { entities = new_entities (setting script) n c.args.who; producers = c.in_ok-first.first.producers.producers }) c.version.ensures.version ∙ ap (λ (q : Producing). record start { producers = q.producers }) c.in_ok-first.ensures.producers))) in
    (subst (λ (s : Script). IsSoundNode s (node_of c.of.result.value c.in_ok-first.first.region.state c.in_ok-first.first.entities c.in_ok-first.first.producers None)) (sym c.of.ensures) (subst (λ (st : Node). IsSoundNode script st) (sym state_is) new.stands), tt)
