use Rattle.std.proofs.Common.{refl}
use Rattle.lease_table.specs.Belongs.{id_of, charter_of}
use Rattle.lease_table.specs.Left.{left_of}
use Rattle.post_box.specs.Left as boxes_left
use Rattle.node_runner.proofs.Working.{deals_none, deals_one}
use Rattle.node_runner.proofs.run.all_jobs.Goals as goal

pub loop-done-init : goal.loop-done-init
loop-done-init g c =
    deals_none (id_of c.args.table.now) (charter_of c.args.table.now) c.args.boxes.now.tables (left_of c.args.passes) (boxes_left.left_of c.args.box_passes) c.new-jobs.result.items c.requires.passes c.requires.nodes c.requires.boxes c.new-jobs.ensures.items

pub loop-done-preserved : goal.loop-done-preserved
loop-done-preserved g c =
    deals_one (id_of c.args.table.now) (charter_of c.args.table.now) c.args.boxes.now.tables c.loop-done.done (left_of c.loop-done.passes) (left_of c.next.new.self) c.in-Some.pass (boxes_left.left_of c.loop-done.box_passes) (boxes_left.left_of c.next-in-loop-done.new.self)
    c.in-Some-next.box_pass c.loop-done.jobs.items c.push.new.self.items (record { node = c.node_at-node.result; pass = c.in-Some.pass; box_pass = c.in-Some-next.box_pass }) c.loop-done.invariant c.in-Some.ensures c.in-Some-next.ensures c.node_at-node.ensures refl refl c.in_ok-push.ensures.items
