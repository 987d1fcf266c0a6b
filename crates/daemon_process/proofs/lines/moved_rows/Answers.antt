use Rattle.std.proofs.Common.{◌<◌, length, subst}
use Rattle.daemon_process.specs.Lines as lines
use Rattle.daemon_process.proofs.MovedLaws.{next_one}
use Rattle.daemon_process.proofs.lines.moved_rows.Goals as goal

pub loop-i-preserved : goal.loop-i-preserved
loop-i-preserved c =
    let inside : c.loop-i.i < length c.args.watch.now.here = subst (λ n. c.loop-i.i < n) c.count-i-end.ensures.count c.loop-i-test.true in
    next_one (lines.moved_row c.args.watch.now) c.loop-i.rows.items c.push_if_moved.new.rows.items (lines.moved_rows c.args.watch.now) c.loop-i.i (length c.args.watch.now.here) inside c.in_ok-push_if_moved.ensures c.loop-i.invariant
