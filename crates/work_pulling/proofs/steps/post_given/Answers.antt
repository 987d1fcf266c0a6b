use Rattle.std.proofs.Common.{sym, subst, ◌≤◌, ◌<◌, arith}
use Rattle.work_pulling.proofs.PostLaws.{posting_begins, posting_next, posting_ends}
use Rattle.work_pulling.proofs.steps.post_given.Goals as goal

pub loop-job-init : goal.loop-job-init
loop-job-init c = posting_begins c.args.who.now c.args.cluster.now c.args.out.now c.next_given-job.result (λ i lt. c.queued-queued.ensures.names i (subst (λ n. i < n) (sym c.queued-queued.ensures.value) lt)) c.next_given-job.ensures.within c.next_given-job.ensures.it c.next_given-job.ensures.between

pub loop-job-preserved : goal.loop-job-preserved
loop-job-preserved c =
    posting_next c.args.who.now c.args.cluster.now c.loop-job.cluster c.post.new.self c.args.out.now c.loop-job.out c.post.new.out c.loop-job.job c.next_given-job-in-loop-job.result
    (λ i lt. c.queued-queued.ensures.names i (subst (λ n. i < n) (sym c.queued-queued.ensures.value) lt)) c.loop-job.invariant
    (subst (λ n. c.loop-job.job < n) c.queued-queued.ensures.value c.loop-job-test.true) c.in_ok-post.ensures
    c.next_given-job-in-loop-job.ensures.from c.next_given-job-in-loop-job.ensures.within c.next_given-job-in-loop-job.ensures.it c.next_given-job-in-loop-job.ensures.between

pub returns : goal.returns
returns c = posting_ends c.args.who.now c.args.cluster.now c.loop-job.cluster c.args.out.now c.loop-job.out c.loop-job.job (subst (λ n. n ≤ c.loop-job.job) c.queued-queued.ensures.value (omega (arith, c.loop-job-test.false))) c.loop-job.invariant
