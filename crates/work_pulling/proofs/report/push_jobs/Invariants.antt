use Rattle.std.proofs.Common.{◌≡◌, ◌++◌}
use Rattle.std.specs.Prelude.{drop}
use Rattle.std.specs.List.{flat_map}
use Rattle.pull_laws.specs.Pulled.{jobs}
use Rattle.pull_laws.specs.PullText.{job_line}
use Rattle.work_pulling.proofs.report.push_jobs.Given as goal

abbrev pub invariant-loop-job : goal.invariant-loop-job
invariant-loop-job l = l.text.items ++ flat_map (job_line l.cluster.pulling.told) (drop l.job (jobs l.cluster.pulling.told)) ≡ l.initial.text.items ++ flat_map (job_line l.cluster.pulling.told) (jobs l.cluster.pulling.told)
