use Rattle.std.proofs.Common.{◌≡◌, sym, ◌∙◌, subst}
use Rattle.std.specs.Prelude.{Option, IfOk}
use Rattle.plain_laws.proofs.Lists.{none_is_not_some}
use Rattle.lease_table.specs.Belongs.{charter_of}
use Rattle.node_core.specs.Standing.{Standing}
use Rattle.node_runner.specs.Progress.{Takes}
use Rattle.node_runner.proofs.Stepping.{if_ok}
use Rattle.node_runner.proofs.steps.take_order.Goals as goal

pub returns-in-Some-clause-takes : goal.returns-in-Some-clause-takes
returns-in-Some-clause-takes g c =
    subst (λ (o : Option Standing). IfOk c.up_order.result (λ r. Takes (charter_of c.args.table.now) c.args.me c.args.order.now c.args.place.pass o r.pass r.node)) (sym c.in-Some.is) c.up_order.ensures.takes

pub returns-in-None-clause-number : goal.returns-in-None-clause-number
returns-in-None-clause-number g c = if_ok c.down_order.result (λ r is. λ none. is) c.down_order.ensures.number

pub returns-in-Some-clause-number : goal.returns-in-Some-clause-number
returns-in-Some-clause-number g c = if_ok c.up_order.result (λ r takes. λ none. absurd (none_is_not_some c.in-Some.node (sym none ∙ c.in-Some.is))) c.up_order.ensures.takes
