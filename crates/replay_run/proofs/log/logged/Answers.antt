use Rattle.std.proofs.Common.{◌∙◌, ap, refl}
use Rattle.std.specs.Prelude.{Err}
use Rattle.std.proofs.lemmas.Result.{err_from_is_err_and}
use Rattle.yard_model.specs.Replay.{replay_text}
use Rattle.disk_log.proofs.Moments.{leaves_then}
use Rattle.logged_lines.specs.Logged.{batches_of}
use Rattle.logged_lines.proofs.TellLaws.{ends_empty, fails_wrote, fresh_leaves, fresh_prefix, made_leaves, made_prefix, make_disk, make_there, make_wrote}
use Rattle.run_parts.specs.declared.course.Course.{Course}
use Rattle.run_parts.specs.Writing.{Sunk}
use Rattle.run_parts.proofs.WritingLaws.{none_taken}
use Rattle.replay_run.proofs.log.logged.Goals as goal

pub returns-in_err-batch-clause-wrote : goal.returns-in_err-batch-clause-wrote
returns-in_err-batch-clause-wrote g c =
    let s0 : Sunk = record { taken = g.K.Sink.taken c.args.sink.now; flushed = g.K.Sink.flushed c.args.sink.now; faults = g.K.Sink.faults c.args.sink.now } in
    let p = err_from_is_err_and c.from_residual.result c.from_residual.ensures.1 in
    rw (p.1, p.2) (none_taken (replay_text c.args.charter) s0)

pub returns-in_err-batch-clause-any_moment : goal.returns-in_err-batch-clause-any_moment
returns-in_err-batch-clause-any_moment g c told only = fresh_leaves (batches_of c.args.charter) (g.D.Disk.images c.args.disk.now) (g.met.D.Disk.timed c.args.disk.now) only

pub returns-in_err-batch-clause-at_exit : goal.returns-in_err-batch-clause-at_exit
returns-in_err-batch-clause-at_exit g c told fresh = ends_empty c.args.charter (g.K.Sink.taken c.args.sink.now) (g.K.Sink.taken c.args.sink.now) (g.D.Disk.images c.args.disk.now) refl (fresh_prefix (batches_of c.args.charter) (g.D.Disk.images c.args.disk.now) fresh.only)

pub returns-in_err-log-clause-wrote : goal.returns-in_err-log-clause-wrote
returns-in_err-log-clause-wrote g c =
    let s0 : Sunk = record { taken = g.K.Sink.taken c.args.sink.now; flushed = g.K.Sink.flushed c.args.sink.now; faults = g.K.Sink.faults c.args.sink.now } in
    let p = err_from_is_err_and c.from_residual-in_err-log.result c.from_residual-in_err-log.ensures.1 in
    make_wrote (replay_text c.args.charter) _ s0 c.from_residual-in_err-log.result (p.1 ∙ ap Err p.2)

pub returns-in_err-log-clause-any_moment : goal.returns-in_err-log-clause-any_moment
returns-in_err-log-clause-any_moment g c told only =
    made_leaves (batches_of c.args.charter) (g.D.Disk.images c.args.disk.now) (g.D.Disk.images c.make.new.disk) (c.make.ensures.any_moment only)

pub returns-in_err-log-clause-at_exit : goal.returns-in_err-log-clause-at_exit
returns-in_err-log-clause-at_exit g c told fresh =
    ends_empty c.args.charter (g.K.Sink.taken c.args.sink.now) (g.K.Sink.taken c.args.sink.now) (g.D.Disk.images c.make.new.disk) refl
    (made_prefix (batches_of c.args.charter) (g.D.Disk.images c.args.disk.now) (g.D.Disk.images c.make.new.disk) (g.met.D.Disk.timed c.make.new.disk) (c.make.ensures.any_moment fresh.only))

pub returns-in_err-log-clause-there : goal.returns-in_err-log-clause-there
returns-in_err-log-clause-there g c is told =
    let p = err_from_is_err_and c.from_residual-in_err-log.result c.from_residual-in_err-log.ensures.1 in
    c.in_err-log.ensures.there (ap Err (make_there _ c.from_residual-in_err-log.result (p.1 ∙ ap Err p.2) is)) told

pub returns-in_err-log-clause-untouched : goal.returns-in_err-log-clause-untouched
returns-in_err-log-clause-untouched g c is =
    let p = err_from_is_err_and c.from_residual-in_err-log.result c.from_residual-in_err-log.ensures.1 in
    c.in_err-log.ensures.untouched (ap Err (make_there _ c.from_residual-in_err-log.result (p.1 ∙ ap Err p.2) is))

pub returns-in_err-log-clause-disk_cause : goal.returns-in_err-log-clause-disk_cause
returns-in_err-log-clause-disk_cause g c is =
    let p = err_from_is_err_and c.from_residual-in_err-log.result c.from_residual-in_err-log.ensures.1 in
    c.in_err-log.ensures.cause (ap Err (make_disk _ c.from_residual-in_err-log.result (p.1 ∙ ap Err p.2) is))

pub returns-in_err-log_world-clause-wrote : goal.returns-in_err-log_world-clause-wrote
returns-in_err-log_world-clause-wrote g c =
    let s0 : Sunk = record { taken = g.K.Sink.taken c.args.sink.now; flushed = g.K.Sink.flushed c.args.sink.now; faults = g.K.Sink.faults c.args.sink.now } in
    let s1 : Sunk = record { taken = g.K.Sink.taken c.log_world.new.sink; flushed = g.K.Sink.flushed c.log_world.new.sink; faults = g.K.Sink.faults c.log_world.new.sink } in
    let p = err_from_is_err_and c.from_residual-in_err-log_world.result c.from_residual-in_err-log_world.ensures.1 in
    fails_wrote (replay_text c.args.charter) _ s0 s1 c.from_residual-in_err-log_world.result (p.1 ∙ ap Err p.2) c.in_err-log_world.ensures.wrote

pub returns-clause-wrote : goal.returns-clause-wrote
returns-clause-wrote g c = c.in_ok-log_world.ensures.wrote

pub returns-in_err-log_world-clause-any_moment : goal.returns-in_err-log_world-clause-any_moment
returns-in_err-log_world-clause-any_moment g c told only =
    leaves_then (g.D.Disk.images c.args.disk.now) (g.D.Disk.images c.make.new.disk) (g.D.Disk.images c.log_world.new.disk)
    (made_leaves (batches_of c.args.charter) (g.D.Disk.images c.args.disk.now) (g.D.Disk.images c.make.new.disk) (c.make.ensures.any_moment only)) (c.log_world.ensures.any_moment told)

pub returns-clause-any_moment : goal.returns-clause-any_moment
returns-clause-any_moment g c told only =
    leaves_then (g.D.Disk.images c.args.disk.now) (g.D.Disk.images c.make.new.disk) (g.D.Disk.images c.log_world.new.disk)
    (made_leaves (batches_of c.args.charter) (g.D.Disk.images c.args.disk.now) (g.D.Disk.images c.make.new.disk) (c.make.ensures.any_moment only)) (c.log_world.ensures.any_moment told)

pub returns-in_err-log_world-clause-at_exit : goal.returns-in_err-log_world-clause-at_exit
returns-in_err-log_world-clause-at_exit g c told fresh = c.log_world.ensures.at_exit told

pub returns-clause-at_exit : goal.returns-clause-at_exit
returns-clause-at_exit g c told fresh = c.log_world.ensures.at_exit told

pub returns-clause-stop : goal.returns-clause-stop
returns-clause-stop g c = ap (λ (k : Course). k.stop) c.in_ok-log_world.ensures.course
