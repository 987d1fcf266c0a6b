use Rattle.std.proofs.Common.{sym, ◌∙◌, arith}
use Rattle.work_pulling.proofs.ProduceLaws.{queueing_begins, queueing_next, queueing_some, queueing_ends}
use Rattle.work_pulling.proofs.steps.produce.Goals as goal

pub loop-init : goal.loop-init
loop-init c = queueing_begins c.args.cluster.now c.tell_granted.new.self c.args.out.now c.tell_granted.new.out c.args.node c.waiting-end.result c.in_ok-tell_granted.ensures (sym c.waiting-end.ensures)

pub tell_queued-requires-clause-runs : goal.tell_queued-requires-clause-runs
tell_queued-requires-clause-runs c = c.loop.invariant.runs

pub tell_queued-requires-clause-some : goal.tell_queued-requires-clause-some
tell_queued-requires-clause-some c = queueing_some c.args.cluster.now c.tell_granted.new.self c.loop.cluster c.args.out.now c.loop.out c.loop.counter c.waiting-end.result c.loop.invariant c.loop-test.true

pub loop-preserved : goal.loop-preserved
loop-preserved c = queueing_next c.args.cluster.now c.tell_granted.new.self c.loop.cluster c.tell_queued.new.self c.args.out.now c.loop.out c.tell_queued.new.out c.loop.counter c.waiting-end.result c.loop.invariant c.loop-test.true c.in_ok-tell_queued.ensures

pub returns : goal.returns
returns c = queueing_ends c.args.cluster.now c.tell_granted.new.self c.loop.cluster c.args.out.now c.tell_granted.new.out c.loop.out c.args.node c.loop.counter c.waiting-end.result (sym c.is_running.ensures ∙ c.if-is_running.false) c.in_ok-tell_granted.ensures c.loop.invariant (omega (arith, c.loop-test.false))
