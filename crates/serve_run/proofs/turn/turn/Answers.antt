use Rattle.std.proofs.lemmas.Result.{err_from_is_err_and}
use Rattle.serve_run.proofs.FaultLaws.{on_err}
use Rattle.serve_run.proofs.TurnLaws.{goes_read, stopped_read}
use Rattle.serve_run.proofs.turn.turn.Goals as goal

pub returns-in_err-count-in-None-clause-stopped : goal.returns-in_err-count-in-None-clause-stopped
returns-in_err-count-in-None-clause-stopped g c =
    let p = err_from_is_err_and c.from_residual-in_err-count-in-None.result c.from_residual-in_err-count-in-None.ensures.1 in
    on_err c.from_residual-in_err-count-in-None.result p.0 p.1
    (stopped_read g.D.Disk.tells c.args.service.desk c.args.service.end (g.D.Disk.content c.args.disk.now) (g.D.Disk.images c.args.disk.now) c.args.window.now (g.S.Source.left c.args.source.now)
    (g.S.Source.left c.read.new.source) (g.K.Sink.taken c.args.sink.now) (g.K.Sink.flushed c.args.sink.now) c.requires.rests (g.met.D.Disk.timed c.args.disk.now) c.in_err-count-in-None.ensures.lost)

pub returns-in_ok-next-in-Some-clause-goes : goal.returns-in_ok-next-in-Some-clause-goes
returns-in_ok-next-in-Some-clause-goes g c = c.in_ok-next-in-Some.ensures.goes (g.S.Source.left c.args.source.now)

pub returns-in_ok-count-in-None-clause-goes : goal.returns-in_ok-count-in-None-clause-goes
returns-in_ok-count-in-None-clause-goes g c =
    goes_read g.D.Disk.tells c.args.service.desk c.args.service.end (g.D.Disk.content c.args.disk.now) (g.D.Disk.images c.args.disk.now) c.args.window.now c.read.new.self c.in_ok-count-in-None.count
    (g.S.Source.left c.args.source.now) (g.S.Source.left c.read.new.source) (g.K.Sink.taken c.args.sink.now) (g.K.Sink.flushed c.args.sink.now) c.requires.rests (g.met.D.Disk.timed c.args.disk.now)
    c.in_ok-count-in-None.ensures.came
