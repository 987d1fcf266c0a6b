use Rattle.std.proofs.Common.{ap}
use Rattle.std.proofs.lemmas.Result.{err_from_is_err_and}
use Rattle.pull_laws.specs.PullText.{pull_report}
use Rattle.run_parts.proofs.WritingLaws.{front_both, front_more, front_same}
use Rattle.pull_run.proofs.pull.write_pull.Goals as goal

pub returns-in_err-play-clause-wrote : goal.returns-in_err-play-clause-wrote
returns-in_err-play-clause-wrote g c =
    let p = err_from_is_err_and c.from_residual-in_err-play.result c.from_residual-in_err-play.ensures.1 in
    rw (p.1, p.2) (front_more _ _ _ _ _ c.in_err-play.ensures.wrote)

pub returns-in_err-write_jobs-clause-wrote : goal.returns-in_err-write_jobs-clause-wrote
returns-in_err-write_jobs-clause-wrote g c =
    let p = err_from_is_err_and c.from_residual-in_err-write_jobs.result c.from_residual-in_err-write_jobs.ensures.1 in
    rw (p.1, p.2) (front_both _ _ _ _ _ _ c.in_ok-play.ensures.wrote (front_same _ _ _ _ _ (ap pull_report c.in_ok-play.ensures.done.told_is) c.in_err-write_jobs.ensures))
