use Rattle.std.proofs.Common.{sym, ◌∙◌, subst, ◌≤◌, ◌<◌, arith}
use Rattle.work_pulling.proofs.JobLaws.{assigning_begins, assigning_next, assigning_ends, assigning_stops, ready_is_up, rests_assigns}
use Rattle.work_pulling.proofs.steps.assign.Goals as goal

pub loop-job-init : goal.loop-job-init
loop-job-init c = assigning_begins c.args.cluster.now c.args.out.now c.next_free-job.result (λ i lt. c.queued-queued.ensures.names i (subst (λ n. i < n) (sym c.queued-queued.ensures.value) lt)) c.next_free-job.ensures.within c.next_free-job.ensures.it c.next_free-job.ensures.between

pub returns-in_default : goal.returns-in_default
returns-in_default c = assigning_stops c.args.cluster.now c.loop-job.cluster c.args.out.now c.loop-job.out c.loop-job.job (sym c.is_running.ensures ∙ c.if-not-is_running.false) (sym c.first_ready.ensures ∙ c.in_default.is) c.loop-job.invariant

pub give-requires-clause-up : goal.give-requires-clause-up
give-requires-clause-up c = ready_is_up c.loop-job.cluster.pulling.window c.loop-job.cluster.pulling.told c.in-Some.who (sym c.first_ready.ensures ∙ c.in-Some.is)

pub loop-job-preserved : goal.loop-job-preserved
loop-job-preserved c =
    assigning_next c.args.cluster.now c.loop-job.cluster c.give.new.cluster c.args.out.now c.loop-job.out c.give.new.out c.loop-job.job c.next_free-job-in-loop-job.result c.in-Some.who
    (λ i lt. c.queued-queued.ensures.names i (subst (λ n. i < n) (sym c.queued-queued.ensures.value) lt)) c.loop-job.invariant
    (subst (λ n. c.loop-job.job < n) c.queued-queued.ensures.value c.loop-job-test.true) (sym c.first_ready.ensures ∙ c.in-Some.is) c.in_ok-give.ensures
    c.next_free-job-in-loop-job.ensures.from c.next_free-job-in-loop-job.ensures.within c.next_free-job-in-loop-job.ensures.it c.next_free-job-in-loop-job.ensures.between

pub returns : goal.returns
returns c = assigning_ends c.args.cluster.now c.loop-job.cluster c.args.out.now c.loop-job.out c.loop-job.job (sym c.is_running.ensures ∙ c.if-not-is_running.false) (subst (λ n. n ≤ c.loop-job.job) c.queued-queued.ensures.value (omega (arith, c.loop-job-test.false))) c.loop-job.invariant

pub returns-then-not-is_running : goal.returns-then-not-is_running
returns-then-not-is_running c = rests_assigns c.args.cluster.now c.args.out.now (sym c.is_running.ensures ∙ c.if-not-is_running.true)
