use Rattle.std.proofs.Common.{◌+◌}
use Rattle.std.proofs.lemmas.Result.{err_from_is_err_and}
use Rattle.yard_model.specs.Script.{Script}
use Rattle.pull_run.specs.Pulls.{IsStopped}
use Rattle.pull_run.proofs.PullLaws.{took_here, took_whole, front_here, course_here, course_whole, done_stopped, stopped_here, on_here}
use Rattle.pull_run.proofs.pull.play.Goals as goal

pub returns-in_err-write_next-clause-wrote : goal.returns-in_err-write_next-clause-wrote
returns-in_err-write_next-clause-wrote g c =
    let s : Script = c.args.charter.now in
    let p = err_from_is_err_and c.from_residual.result c.from_residual.ensures.1 in
    rw (p.1, p.2) (front_here s c.loop-k.k c.loop-k.world _ _ _ _ c.loop-k.invariant.on c.loop-k.invariant.took c.in_err-write_next.ensures.wrote)

pub returns-then-not-branch-clause-wrote : goal.returns-then-not-branch-clause-wrote
returns-then-not-branch-clause-wrote g c =
    let s : Script = c.args.charter.now in
    let on = c.loop-k.invariant.on in
    let stop : IsStopped s (c.loop-k.k + 1) c.write_next.new.world = stopped_here s c.loop-k.k c.loop-k.world _ _ on c.if-not-branch.true c.in_ok-write_next.ensures.next in
    took_whole s c.loop-k.k c.loop-k.world _ _ _ _ on stop c.loop-k.invariant.took c.in_ok-write_next.ensures.wrote

pub returns-then-not-branch-clause-course : goal.returns-then-not-branch-clause-course
returns-then-not-branch-clause-course g c =
    let s : Script = c.args.charter.now in
    let on = c.loop-k.invariant.on in
    let stop : IsStopped s (c.loop-k.k + 1) c.write_next.new.world = stopped_here s c.loop-k.k c.loop-k.world _ _ on c.if-not-branch.true c.in_ok-write_next.ensures.next in
    course_whole s c.loop-k.k c.loop-k.world _ _ _ on stop c.loop-k.invariant.course_is c.in_ok-write_next.ensures.course

pub returns-then-not-branch-clause-done : goal.returns-then-not-branch-clause-done
returns-then-not-branch-clause-done g c =
    let s : Script = c.args.charter.now in
    let stop : IsStopped s (c.loop-k.k + 1) c.write_next.new.world = stopped_here s c.loop-k.k c.loop-k.world _ _ c.loop-k.invariant.on c.if-not-branch.true c.in_ok-write_next.ensures.next in
    done_stopped s (c.loop-k.k + 1) c.write_next.new.world stop

pub loop-k-preserved : goal.loop-k-preserved
loop-k-preserved g c =
    let s : Script = c.args.charter.now in
    let on = c.loop-k.invariant.on in
    record {
      on = on_here s c.loop-k.k c.loop-k.world _ _ on c.if-not-branch.false c.in_ok-write_next.ensures.next;
      course_is = course_here s c.loop-k.k c.loop-k.world _ _ on c.loop-k.invariant.course_is c.in_ok-write_next.ensures.course;
      took = took_here s c.loop-k.k c.loop-k.world _ _ _ on c.loop-k.invariant.took c.in_ok-write_next.ensures.wrote;
    }
