use Rattle.std.proofs.Common.{◌≡◌, true, sym, ap, ◌∙◌, subst}
use Rattle.yard_model.specs.Genuine.{is_node}
use Rattle.yard_model.specs.Node.{new_node}
use Rattle.yard_model.specs.Script.{Script, setting}
use Rattle.lease_table.specs.Belongs.{id_of, charter_of}
use Rattle.node_runner.proofs.Fresh.{new_node_rests, new_shown}
use Rattle.node_core.specs.Standing.{Standing}
use Rattle.node_runner.specs.Rested.{Rested, ArePublished}
use Rattle.node_runner.proofs.Stepping.{if_ok}
use Rattle.node_runner.proofs.turn.node_starts.Goals as goal

pub returns-clause-rested : goal.returns-clause-rested
returns-clause-rested g c =
    let node : is_node (charter_of c.args.table.now) c.args.who ≡ true = subst (λ (y : Script). is_node y c.args.who ≡ true) c.requires.charter c.requires.who in
    if_ok c.new-3.result (λ u is. subst (Rested (id_of c.args.table.now) (charter_of c.args.table.now) c.args.who.node c.args.pass.now) (sym is) (new_node_rests (id_of c.args.table.now) (charter_of c.args.table.now) (g.B.Behaviour.version_of c.args.behaviour) c.args.who c.args.pass.now c.in_ok-node.node c.requires.idle node c.requires.within (c.in_ok-node.ensures.script ∙ c.requires.charter)
    (c.in_ok-node.ensures.state ∙ ap (λ (y : Script). new_node (setting y) (g.B.Behaviour.version_of c.args.behaviour) c.args.who) c.requires.charter))) c.new-3.ensures

pub returns-clause-published : goal.returns-clause-published
returns-clause-published g c =
    if_ok c.new-3.result (λ u is. subst (λ (n : Standing). ArePublished (charter_of c.args.table.now) c.args.pass.now n.state) (sym is) (new_shown (charter_of c.args.table.now) (g.B.Behaviour.version_of c.args.behaviour) c.args.who c.args.pass.now c.in_ok-node.node
    (c.in_ok-node.ensures.state ∙ ap (λ (y : Script). new_node (setting y) (g.B.Behaviour.version_of c.args.behaviour) c.args.who) c.requires.charter))) c.new-3.ensures
