use Rattle.std.proofs.Common.{◌++◌, ◌<◌, subst}
use Rattle.std.specs.List.{flat_map}
use Rattle.pull_laws.specs.Pulled.{jobs}
use Rattle.pull_laws.specs.PullText.{job_line}
use Rattle.work_pulling.proofs.ReportLaws.{lines_next}
use Rattle.work_pulling.proofs.report.push_jobs.Goals as goal

pub loop-job-preserved : goal.loop-job-preserved
loop-job-preserved c =
    let t = c.args.cluster.now.pulling.told in
    lines_next t (jobs t) c.loop-job.job c.loop-job.text.items c.push_job_at.new.text.items (c.extend_from_slice.new.self.items ++ flat_map (job_line t) (jobs t)) (subst (λ n. c.loop-job.job < n) c.queued-job-end.ensures.value c.loop-job-test.true) c.in_ok-push_job_at.ensures c.loop-job.invariant
