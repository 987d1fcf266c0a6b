use Rattle.std.proofs.Common.{◌≡◌, refl}
use Rattle.std.specs.Prelude.{Some}
use Rattle.lease_table.specs.Belongs.{id_of, charter_of}
use Rattle.node_runner.specs.Progress.{GoesOn}
use Rattle.node_runner.proofs.Stepping.{seen_goes_on, goes_both, if_ok}
use Rattle.node_runner.proofs.steps.take_packet.Goals as goal

pub returns-then-not-may-clause-goes_on : goal.returns-then-not-may-clause-goes_on
returns-then-not-may-clause-goes_on g c = seen_goes_on (id_of c.args.table.now) (charter_of c.args.table.now) c.args.me c.args.pass c.handed-pass.result.0 c.args.node c.requires.rested c.handed-pass.ensures.rested c.handed-pass.ensures.sees

pub returns-clause-goes_on : goal.returns-clause-goes_on
returns-clause-goes_on g c =
    let first : GoesOn (charter_of c.args.table.now) c.args.me c.args.pass (Some c.args.node) c.handed-pass.result.0 (Some c.args.node) = seen_goes_on (id_of c.args.table.now) (charter_of c.args.table.now) c.args.me c.args.pass c.handed-pass.result.0 c.args.node c.requires.rested c.handed-pass.ensures.rested c.handed-pass.ensures.sees in
    if_ok c.give.result (λ r h. goes_both (charter_of c.args.table.now) c.args.me c.args.pass c.handed-pass.result.0 r.pass (Some c.args.node) (Some c.args.node) r.node first (h refl)) c.give.ensures.goes_on
