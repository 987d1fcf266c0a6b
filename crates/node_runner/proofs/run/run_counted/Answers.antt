use Rattle.lease_table.specs.Belongs.{id_of, charter_of}
use Rattle.lease_table.specs.Leasing.{lists_in}
use Rattle.lease_table.specs.Left.{left_of}
use Rattle.node_runner.proofs.Joins.{ran_closes}
use Rattle.node_runner.proofs.Working.{is_dealt, is_run_of}
use Rattle.node_runner.proofs.run.run_counted.Goals as goal

pub run_all-requires-clause-passes : goal.run_all-requires-clause-passes
run_all-requires-clause-passes g c κs within =
    is_dealt (id_of c.in_ok-table.table) (charter_of c.in_ok-table.table) c.args.charter.now (lists_in c.in_ok-stores.stores.places) (left_of c.in_ok-table.passes) c.in_ok-table.ensures.table c.in_ok-table.ensures.passes

pub close-requires-clause-all : goal.close-requires-clause-all
close-requires-clause-all g c = ran_closes (id_of c.in_ok-table.table) (charter_of c.in_ok-table.table) c.args.turns c.in_ok-pass.pass c.in_ok-pass.ensures

pub returns : goal.returns
returns g c =
    is_run_of (id_of c.in_ok-table.table) (charter_of c.in_ok-table.table) c.args.charter.now c.args.turns c.in_ok-pass.pass c.close.result c.closed_is_lawful.ensures c.closed_is_worked.ensures c.in_ok-table.ensures.table c.in_ok-pass.ensures c.close.ensures.script c.close.ensures.closed
