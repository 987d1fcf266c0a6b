use Rattle.lease_table.specs.Belongs.{id_of, charter_of}
use Rattle.node_runner.proofs.run.run_counted.Given as goal

abbrev pub ghosts-run_all : goal.ghosts-run_all
ghosts-run_all g a = record { script = charter_of a.table.now; table = id_of a.table.now }
