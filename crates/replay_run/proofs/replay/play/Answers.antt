use Rattle.std.proofs.Common.{◌≡◌, ◌+◌}
use Rattle.std.specs.Prelude.{slice_get, Some}
use Rattle.std.proofs.lemmas.Result.{err_from_is_err_and}
use Rattle.yard_model.specs.Script.{Script}
use Rattle.replay_run.specs.Replays.{IsThrough}
use Rattle.replay_run.proofs.TraceLaws.{order_inside, order_there, course_here, course_all, took_next, took_all, front_next, through_here, on_here}
use Rattle.replay_run.proofs.replay.play.Goals as goal

pub bounds-orders-k : goal.bounds-orders-k
bounds-orders-k g c = order_inside c.args.world.now.script c.loop-k.k c.loop-k.world _ _ c.loop-k.invariant.on c.orders.ensures c.orders-k-end.ensures c.loop-k-test.true

pub returns-in_err-write_next-clause-wrote : goal.returns-in_err-write_next-clause-wrote
returns-in_err-write_next-clause-wrote g c =
    let s : Script = c.args.world.now.script in
    let on = c.loop-k.invariant.on in
    let it : slice_get s.orders c.loop-k.k ≡ Some c.index-orders-k.result = order_there s c.loop-k.k c.loop-k.world _ _ _ on c.orders.ensures c.orders-k-end.ensures c.loop-k-test.true c.index-orders-k.is in
    let p = err_from_is_err_and c.from_residual.result c.from_residual.ensures.1 in
    rw (p.1, p.2) (front_next c.made_law.ensures.next s c.loop-k.k c.loop-k.world _ _ _ _ _ on it c.loop-k.invariant.took c.in_err-write_next.ensures.wrote)

pub returns-then-not-branch-clause-wrote : goal.returns-then-not-branch-clause-wrote
returns-then-not-branch-clause-wrote g c =
    let s : Script = c.args.world.now.script in
    let on = c.loop-k.invariant.on in
    let it : slice_get s.orders c.loop-k.k ≡ Some c.index-orders-k.result = order_there s c.loop-k.k c.loop-k.world _ _ _ on c.orders.ensures c.orders-k-end.ensures c.loop-k-test.true c.index-orders-k.is in
    let through : IsThrough s (c.loop-k.k + 1) c.write_next.new.world = through_here s c.loop-k.k c.loop-k.world _ _ on c.if-not-branch.true c.in_ok-write_next.ensures.next in
    took_all c.made_law.ensures.next s c.loop-k.k c.loop-k.world _ _ _ _ _ on it through c.loop-k.invariant.took c.in_ok-write_next.ensures.wrote

pub returns-then-not-branch-clause-course : goal.returns-then-not-branch-clause-course
returns-then-not-branch-clause-course g c =
    let s : Script = c.args.world.now.script in
    let on = c.loop-k.invariant.on in
    let it : slice_get s.orders c.loop-k.k ≡ Some c.index-orders-k.result = order_there s c.loop-k.k c.loop-k.world _ _ _ on c.orders.ensures c.orders-k-end.ensures c.loop-k-test.true c.index-orders-k.is in
    let through : IsThrough s (c.loop-k.k + 1) c.write_next.new.world = through_here s c.loop-k.k c.loop-k.world _ _ on c.if-not-branch.true c.in_ok-write_next.ensures.next in
    course_all c.made_law.ensures.next s c.loop-k.k c.loop-k.world _ _ _ _ on it through c.loop-k.invariant.course_is c.in_ok-write_next.ensures.course

pub loop-k-preserved : goal.loop-k-preserved
loop-k-preserved g c =
    let s : Script = c.args.world.now.script in
    let on = c.loop-k.invariant.on in
    let it : slice_get s.orders c.loop-k.k ≡ Some c.index-orders-k.result = order_there s c.loop-k.k c.loop-k.world _ _ _ on c.orders.ensures c.orders-k-end.ensures c.loop-k-test.true c.index-orders-k.is in
    record {
      on = on_here s c.loop-k.k c.loop-k.world _ _ on c.if-not-branch.false c.in_ok-write_next.ensures.next;
      course_is = course_here c.made_law.ensures.next s c.loop-k.k c.loop-k.world _ _ _ on it c.loop-k.invariant.course_is c.in_ok-write_next.ensures.course;
      took = took_next c.made_law.ensures.next s c.loop-k.k c.loop-k.world _ _ _ _ on it c.loop-k.invariant.took c.in_ok-write_next.ensures.wrote;
    }
