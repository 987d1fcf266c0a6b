use Rattle.std.proofs.lemmas.Result.{err_from_is_err_and}
use Rattle.run_parts.proofs.WritingLaws.{none_taken}
use Rattle.replay_run.proofs.bulk.write_bulk.Goals as goal

pub returns-in_err-text-clause-wrote : goal.returns-in_err-text-clause-wrote
returns-in_err-text-clause-wrote g c =
    let p = err_from_is_err_and c.from_residual.result c.from_residual.ensures.1 in
    rw (p.1, p.2) (none_taken _ _)
