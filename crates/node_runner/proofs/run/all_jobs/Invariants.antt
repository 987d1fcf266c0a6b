use Rattle.lease_table.specs.Belongs.{id_of, charter_of}
use Rattle.lease_table.specs.Left.{left_of}
use Rattle.post_box.specs.Left as boxes_left
use Rattle.node_runner.proofs.Working.{Dealing}
use Rattle.node_runner.proofs.run.all_jobs.Given as goal

abbrev pub invariant-loop-done : goal.invariant-loop-done
invariant-loop-done g l = Dealing (id_of l.table) (charter_of l.table) l.boxes.tables l.done (left_of l.passes) (boxes_left.left_of l.box_passes) l.jobs.items
