use Rattle.std.proofs.Common.{◌≡◌, true, sym, ◌∙◌, subst}
use Rattle.std.specs.Prelude.{Some}
use Rattle.yard_model.specs.Behaviour.{is_in}
use Rattle.yard_model.specs.Script.{Script, IsScript}
use Rattle.lease_table.specs.Belongs.{charter_of}
use Rattle.node_runner.specs.Ordered.{input_of}
use Rattle.node_runner.specs.Rested.{means}
use Rattle.node_runner.proofs.Dues.{dues_are_given}
use Rattle.node_runner.proofs.steps.act.Goals as goal

pub give-requires-clause-given : goal.give-requires-clause-given
give-requires-clause-given g c =
    let y : Script = charter_of c.args.table.now in
    let script : IsScript y = subst IsScript c.requires.charter c.config.ensures.script in
    let node : is_in 1 y.config.nodes c.args.me ≡ true = subst (λ (z : Script). is_in 1 z.config.nodes c.args.me ≡ true) c.requires.charter c.requires.node in
    let is : input_of c.args.order.now ≡ Some c.in-Some.input = sym c.input_of.ensures ∙ c.in-Some.is in
    dues_are_given y c.args.me (means c.args.me c.args.pass) c.args.node.state c.args.order.now c.in-Some.input script node c.requires.due is
