use Rattle.std.proofs.Common.{◌≡◌, ◌+◌, ◌<◌, ◌≤◌, ◌∙◌, [], ap, refl, sym, length, subst, take, arith}
use Rattle.std.specs.Prelude.{Err, slice_get, Some}
use Rattle.std.proofs.lemmas.Result.{err_from_is_err_and}
use Rattle.yard_model.specs.Script.{Script}
use Rattle.disk_log.proofs.CommitLaws.{rests_at}
use Rattle.log_orders.specs.Orders.{batches}
use Rattle.log_orders.proofs.GatherLaws.{leaves_none}
use Rattle.logged_lines.specs.Logged.{batches_of, orders_of}
use Rattle.logged_lines.proofs.TellLaws.{rests_prefix}
use Rattle.run_parts.specs.Writing.{Sunk}
use Rattle.run_parts.proofs.WritingLaws.{took_nothing}
use Rattle.replay_run.specs.Replays.{IsThrough}
use Rattle.replay_run.proofs.LogLaws.{all_rests, last_rests, next_ends, next_leaves, next_rests, next_wrote}
use Rattle.replay_run.proofs.TraceLaws.{order_inside, order_there, course_here, course_all, took_next, took_all, through_here, on_here}
use Rattle.replay_run.proofs.log.play.Goals as goal

pub bounds-orders-k : goal.bounds-orders-k
bounds-orders-k g c = order_inside c.args.world.now.script c.loop-k.k c.loop-k.world _ _ c.loop-k.invariant.on c.orders.ensures c.orders-k-end.ensures c.loop-k-test.true

pub loop-k-init : goal.loop-k-init
loop-k-init g c =
    let s0 : Sunk = record { taken = g.K.Sink.taken c.args.sink.now; flushed = g.K.Sink.flushed c.args.sink.now; faults = g.K.Sink.faults c.args.sink.now } in
    record {
      on = record { world_is = c.requires.world; going_is = refl };
      course_is = c.requires.course;
      took = took_nothing s0;
      rests = record { are = tt; rests = c.requires.rests };
      leaves = λ told. leaves_none (g.D.Disk.images c.args.disk.now) (g.met.D.Disk.timed c.args.disk.now)
          (rests_prefix g.D.Disk.tells c.args.log (g.D.Disk.content c.args.disk.now) (g.D.Disk.images c.args.disk.now) [] (batches_of c.args.world.now.script) (record { are = tt; rests = c.requires.rests }) told);
      room = omega (arith, rests_at g.D.Disk.tells c.args.log (g.D.Disk.content c.args.disk.now) (g.D.Disk.images c.args.disk.now) [] c.requires.rests);
      faults = omega arith;
    }

pub log_next-requires-clause-rests : goal.log_next-requires-clause-rests
log_next-requires-clause-rests g c = (batches (take c.loop-k.k (orders_of c.args.world.now.script)), c.loop-k.invariant.rests)

pub log_next-requires-clause-room : goal.log_next-requires-clause-room
log_next-requires-clause-room g c =
    let inside : c.loop-k.k < length c.args.world.now.script.orders = subst (λ ls. c.loop-k.k < length ls) c.orders-k-end.ensures c.loop-k-test.true in
    omega (arith, inside, c.requires.few, c.loop-k.invariant.room)

pub returns-in_err-next-clause-wrote : goal.returns-in_err-next-clause-wrote
returns-in_err-next-clause-wrote g c =
    let s0 : Sunk = record { taken = g.K.Sink.taken c.args.sink.now; flushed = g.K.Sink.flushed c.args.sink.now; faults = g.K.Sink.faults c.args.sink.now } in
    let s1 : Sunk = record { taken = g.K.Sink.taken c.loop-k.sink; flushed = g.K.Sink.flushed c.loop-k.sink; faults = g.K.Sink.faults c.loop-k.sink } in
    let s2 : Sunk = record { taken = g.K.Sink.taken c.log_next.new.sink; flushed = g.K.Sink.flushed c.log_next.new.sink; faults = g.K.Sink.faults c.log_next.new.sink } in
    let s : Script = c.args.world.now.script in
    let on = c.loop-k.invariant.on in
    let it : slice_get s.orders c.loop-k.k ≡ Some c.index-orders-k.result = order_there s c.loop-k.k c.loop-k.world _ _ _ on c.orders.ensures c.orders-k-end.ensures c.loop-k-test.true c.index-orders-k.is in
    let inside : c.loop-k.k < length s.orders = subst (λ ls. c.loop-k.k < length ls) c.orders-k-end.ensures c.loop-k-test.true in
    let p = err_from_is_err_and c.from_residual.result c.from_residual.ensures.1 in
    next_wrote c.made_law.ensures.next s c.loop-k.k c.loop-k.world c.index-orders-k.result on it inside _ s0 s1 s2 c.from_residual.result (p.1 ∙ ap Err p.2) c.in_err-next.ensures.never_there c.loop-k.invariant.took c.in_err-next.ensures.wrote

pub returns-in_err-next-clause-any_moment : goal.returns-in_err-next-clause-any_moment
returns-in_err-next-clause-any_moment g c told =
    let s : Script = c.args.world.now.script in
    let on = c.loop-k.invariant.on in
    let it : slice_get s.orders c.loop-k.k ≡ Some c.index-orders-k.result = order_there s c.loop-k.k c.loop-k.world _ _ _ on c.orders.ensures c.orders-k-end.ensures c.loop-k-test.true c.index-orders-k.is in
    let inside : c.loop-k.k < length s.orders = subst (λ ls. c.loop-k.k < length ls) c.orders-k-end.ensures c.loop-k-test.true in
    next_leaves c.made_law.ensures.next s c.loop-k.k c.loop-k.world c.index-orders-k.result on it inside
    (g.D.Disk.images c.args.disk.now) (g.D.Disk.images c.loop-k.disk) (g.D.Disk.images c.log_next.new.disk) (c.loop-k.invariant.leaves told)
    (c.log_next.ensures.any_moment (batches (take c.loop-k.k (orders_of s))) c.loop-k.invariant.rests told)

pub returns-in_err-next-clause-at_exit : goal.returns-in_err-next-clause-at_exit
returns-in_err-next-clause-at_exit g c =
    let s0 : Sunk = record { taken = g.K.Sink.taken c.args.sink.now; flushed = g.K.Sink.flushed c.args.sink.now; faults = g.K.Sink.faults c.args.sink.now } in
    let s1 : Sunk = record { taken = g.K.Sink.taken c.loop-k.sink; flushed = g.K.Sink.flushed c.loop-k.sink; faults = g.K.Sink.faults c.loop-k.sink } in
    let s : Script = c.args.world.now.script in
    let on = c.loop-k.invariant.on in
    let it : slice_get s.orders c.loop-k.k ≡ Some c.index-orders-k.result = order_there s c.loop-k.k c.loop-k.world _ _ _ on c.orders.ensures c.orders-k-end.ensures c.loop-k-test.true c.index-orders-k.is in
    let inside : c.loop-k.k < length s.orders = subst (λ ls. c.loop-k.k < length ls) c.orders-k-end.ensures c.loop-k-test.true in
    let p = err_from_is_err_and c.from_residual.result c.from_residual.ensures.1 in
    rw p.1 (λ told. next_ends c.made_law.ensures.next s c.loop-k.k c.loop-k.world c.index-orders-k.result on it inside s0 s1 (g.K.Sink.taken c.log_next.new.sink) (g.D.Disk.images c.log_next.new.disk) c.loop-k.invariant.took
    (c.log_next.ensures.at_exit (batches (take c.loop-k.k (orders_of s))) c.loop-k.invariant.rests told))

pub returns-then-not-goes_on-clause-wrote : goal.returns-then-not-goes_on-clause-wrote
returns-then-not-goes_on-clause-wrote g c =
    let s0 : Sunk = record { taken = g.K.Sink.taken c.args.sink.now; flushed = g.K.Sink.flushed c.args.sink.now; faults = g.K.Sink.faults c.args.sink.now } in
    let s1 : Sunk = record { taken = g.K.Sink.taken c.loop-k.sink; flushed = g.K.Sink.flushed c.loop-k.sink; faults = g.K.Sink.faults c.loop-k.sink } in
    let s2 : Sunk = record { taken = g.K.Sink.taken c.log_next.new.sink; flushed = g.K.Sink.flushed c.log_next.new.sink; faults = g.K.Sink.faults c.log_next.new.sink } in
    let s : Script = c.args.world.now.script in
    let on = c.loop-k.invariant.on in
    let it : slice_get s.orders c.loop-k.k ≡ Some c.index-orders-k.result = order_there s c.loop-k.k c.loop-k.world _ _ _ on c.orders.ensures c.orders-k-end.ensures c.loop-k-test.true c.index-orders-k.is in
    let through : IsThrough s (c.loop-k.k + 1) c.log_next.new.world = through_here s c.loop-k.k c.loop-k.world _ _ on c.if-not-goes_on.true c.in_ok-next.ensures.next in
    took_all c.made_law.ensures.next s c.loop-k.k c.loop-k.world c.log_next.new.world c.index-orders-k.result s0 s1 s2 on it through c.loop-k.invariant.took c.in_ok-next.ensures.wrote

pub returns-then-not-goes_on-clause-course : goal.returns-then-not-goes_on-clause-course
returns-then-not-goes_on-clause-course g c =
    let s : Script = c.args.world.now.script in
    let on = c.loop-k.invariant.on in
    let it : slice_get s.orders c.loop-k.k ≡ Some c.index-orders-k.result = order_there s c.loop-k.k c.loop-k.world _ _ _ on c.orders.ensures c.orders-k-end.ensures c.loop-k-test.true c.index-orders-k.is in
    let through : IsThrough s (c.loop-k.k + 1) c.log_next.new.world = through_here s c.loop-k.k c.loop-k.world _ _ on c.if-not-goes_on.true c.in_ok-next.ensures.next in
    course_all c.made_law.ensures.next s c.loop-k.k c.loop-k.world c.log_next.new.world c.index-orders-k.result c.loop-k.desk.course c.log_next.new.desk.course on it through c.loop-k.invariant.course_is c.in_ok-next.ensures.course

pub returns-then-not-goes_on-clause-any_moment : goal.returns-then-not-goes_on-clause-any_moment
returns-then-not-goes_on-clause-any_moment g c told =
    let s : Script = c.args.world.now.script in
    let on = c.loop-k.invariant.on in
    let it : slice_get s.orders c.loop-k.k ≡ Some c.index-orders-k.result = order_there s c.loop-k.k c.loop-k.world _ _ _ on c.orders.ensures c.orders-k-end.ensures c.loop-k-test.true c.index-orders-k.is in
    let inside : c.loop-k.k < length s.orders = subst (λ ls. c.loop-k.k < length ls) c.orders-k-end.ensures c.loop-k-test.true in
    next_leaves c.made_law.ensures.next s c.loop-k.k c.loop-k.world c.index-orders-k.result on it inside
    (g.D.Disk.images c.args.disk.now) (g.D.Disk.images c.loop-k.disk) (g.D.Disk.images c.log_next.new.disk) (c.loop-k.invariant.leaves told)
    (c.log_next.ensures.any_moment (batches (take c.loop-k.k (orders_of s))) c.loop-k.invariant.rests told)

pub returns-then-not-goes_on-clause-all : goal.returns-then-not-goes_on-clause-all
returns-then-not-goes_on-clause-all g c =
    let s : Script = c.args.world.now.script in
    let on = c.loop-k.invariant.on in
    let it : slice_get s.orders c.loop-k.k ≡ Some c.index-orders-k.result = order_there s c.loop-k.k c.loop-k.world _ _ _ on c.orders.ensures c.orders-k-end.ensures c.loop-k-test.true c.index-orders-k.is in
    let inside : c.loop-k.k < length s.orders = subst (λ ls. c.loop-k.k < length ls) c.orders-k-end.ensures c.loop-k-test.true in
    let through : IsThrough s (c.loop-k.k + 1) c.log_next.new.world = through_here s c.loop-k.k c.loop-k.world _ _ on c.if-not-goes_on.true c.in_ok-next.ensures.next in
    last_rests c.made_law.ensures.next s c.loop-k.k c.loop-k.world c.index-orders-k.result on it inside c.log_next.new.world g.D.Disk.tells c.in_ok-next.next (g.D.Disk.content c.log_next.new.disk) (g.D.Disk.images c.log_next.new.disk) through
    (c.in_ok-next.ensures.logged (batches (take c.loop-k.k (orders_of s))) c.loop-k.invariant.rests)

pub loop-k-preserved : goal.loop-k-preserved
loop-k-preserved g c =
    let s0 : Sunk = record { taken = g.K.Sink.taken c.args.sink.now; flushed = g.K.Sink.flushed c.args.sink.now; faults = g.K.Sink.faults c.args.sink.now } in
    let s1 : Sunk = record { taken = g.K.Sink.taken c.loop-k.sink; flushed = g.K.Sink.flushed c.loop-k.sink; faults = g.K.Sink.faults c.loop-k.sink } in
    let s2 : Sunk = record { taken = g.K.Sink.taken c.log_next.new.sink; flushed = g.K.Sink.flushed c.log_next.new.sink; faults = g.K.Sink.faults c.log_next.new.sink } in
    let s : Script = c.args.world.now.script in
    let on = c.loop-k.invariant.on in
    let it : slice_get s.orders c.loop-k.k ≡ Some c.index-orders-k.result = order_there s c.loop-k.k c.loop-k.world _ _ _ on c.orders.ensures c.orders-k-end.ensures c.loop-k-test.true c.index-orders-k.is in
    let inside : c.loop-k.k < length s.orders = subst (λ ls. c.loop-k.k < length ls) c.orders-k-end.ensures c.loop-k-test.true in
    record {
      on = on_here s c.loop-k.k c.loop-k.world _ _ on c.if-not-goes_on.false c.in_ok-next.ensures.next;
      course_is = course_here c.made_law.ensures.next s c.loop-k.k c.loop-k.world c.index-orders-k.result c.loop-k.desk.course c.log_next.new.desk.course on it c.loop-k.invariant.course_is c.in_ok-next.ensures.course;
      took = took_next c.made_law.ensures.next s c.loop-k.k c.loop-k.world c.index-orders-k.result s0 s1 s2 on it c.loop-k.invariant.took c.in_ok-next.ensures.wrote;
      rests = next_rests c.made_law.ensures.next s c.loop-k.k c.loop-k.world c.index-orders-k.result on it inside g.D.Disk.tells c.in_ok-next.next (g.D.Disk.content c.log_next.new.disk) (g.D.Disk.images c.log_next.new.disk)
          (c.in_ok-next.ensures.logged (batches (take c.loop-k.k (orders_of s))) c.loop-k.invariant.rests);
      leaves = λ told. next_leaves c.made_law.ensures.next s c.loop-k.k c.loop-k.world c.index-orders-k.result on it inside
          (g.D.Disk.images c.args.disk.now) (g.D.Disk.images c.loop-k.disk) (g.D.Disk.images c.log_next.new.disk) (c.loop-k.invariant.leaves told)
          (c.log_next.ensures.any_moment (batches (take c.loop-k.k (orders_of s))) c.loop-k.invariant.rests told);
      room = omega (arith, c.in_ok-next.ensures.end, c.loop-k.invariant.room);
      faults = omega (arith, c.loop-k.invariant.faults, c.log_next.ensures.disk_faults);
    }

pub returns-clause-all : goal.returns-clause-all
returns-clause-all g c =
    let s : Script = c.args.world.now.script in
    let le : length s.orders ≤ c.loop-k.k = omega (arith, c.loop-k-test.false, ap length c.orders-k-end.ensures) in
    all_rests s c.loop-k.k g.D.Disk.tells c.loop-k.log (g.D.Disk.content c.loop-k.disk) (g.D.Disk.images c.loop-k.disk) le c.loop-k.invariant.rests
