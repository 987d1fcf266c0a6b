use Rattle.std.proofs.Common.{◌≡◌, sym, subst}
use Rattle.std.specs.Prelude.{Option, IfOk}
use Rattle.lease_table.specs.Belongs.{charter_of}
use Rattle.node_core.specs.Standing.{Standing}
use Rattle.node_runner.specs.Progress.{GoesOn}
use Rattle.node_runner.proofs.worker.tick.Goals as goal

pub returns-in-Some-clause-goes_on : goal.returns-in-Some-clause-goes_on
returns-in-Some-clause-goes_on g c =
    subst (λ (o : Option Standing). IfOk c.wake.result (λ r. GoesOn (charter_of c.args.table.now) c.args.me c.args.place.pass o r.pass r.node)) (sym c.in-Some.is) c.wake.ensures.goes_on
