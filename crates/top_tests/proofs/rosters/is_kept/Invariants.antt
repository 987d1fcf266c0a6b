use Rattle.std.specs.Prelude.{[], false}
use Rattle.yard_model.specs.declared.event.Kind.TheVariants as kind
use Rattle.node_runner.specs.Parcels.{no_table}
use Rattle.top_tests.proofs.rosters.is_kept.Given as goal

abbrev pub ghosts-members : goal.ghosts-members
ghosts-members g a = record {
  script = record { config = record { nodes = 2; shards = 2; producers = 1; buffer = 10; window = 4; snapshot = 100; keep = 1; remember = false; kind = kind.Counter }; orders = [] };
  table = no_table;
}
