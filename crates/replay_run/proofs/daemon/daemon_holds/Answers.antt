use Rattle.replay_run.proofs.DaemonLaws.{holds}
use Rattle.replay_run.proofs.daemon.daemon_holds.Goals as goal

pub returns : goal.returns
returns c =
    holds c.args.charter.now c.args.count c.config.ensures.script c.requires.fit c.requires.few c.requires.count c.expanded_is_script.ensures c.trace_is_safe.ensures c.safe_is_single.ensures
    c.written_is_live.ensures c.recorded_is_queued.ensures c.confirmed_was_written.ensures c.settle_line_settles.ensures
