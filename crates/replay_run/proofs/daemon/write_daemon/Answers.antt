use Rattle.std.proofs.lemmas.Result.{err_from_is_err_and}
use Rattle.replay_run.proofs.DaemonLaws.{count_fits}
use Rattle.run_parts.proofs.WritingLaws.{none_taken}
use Rattle.replay_run.proofs.daemon.write_daemon.Goals as goal

pub daemon_holds-requires-clause-count : goal.daemon_holds-requires-clause-count
daemon_holds-requires-clause-count g c = count_fits c.args.count c.requires.count

pub text_of_daemon-requires-clause-count : goal.text_of_daemon-requires-clause-count
text_of_daemon-requires-clause-count g c = count_fits c.args.count c.requires.count

pub returns-in_err-text-clause-wrote : goal.returns-in_err-text-clause-wrote
returns-in_err-text-clause-wrote g c =
    let p = err_from_is_err_and c.from_residual.result c.from_residual.ensures.1 in
    rw (p.1, p.2) (none_taken _ _)
