use Rattle.std.proofs.Common.{[], arith}
use Rattle.std.proofs.lemmas.Result.{err_from_is_err_and}
use Rattle.serve_run.specs.Scenes.{scene}
use Rattle.serve_run.proofs.FaultLaws.{on_err}
use Rattle.serve_run.proofs.SceneLaws.{goes_then, stopped_then}
use Rattle.serve_run.proofs.TurnLaws.{goes_first, over_so, stopped_first, stopped_here}
use Rattle.serve_run.proofs.turn.serve_all.Goals as goal

pub returns-in_err-piece-clause-stopped : goal.returns-in_err-piece-clause-stopped
returns-in_err-piece-clause-stopped g c =
    let p = err_from_is_err_and c.from_residual.result c.from_residual.ensures.1 in
    on_err c.from_residual.result p.0 p.1
    (stopped_first g.D.Disk.tells (g.D.Disk.images c.args.disk.now) c.args.service.desk (g.S.Source.left c.args.source.now) (g.K.Sink.taken c.args.sink.now) (g.K.Sink.flushed c.args.sink.now) c.args.service.end
    (g.D.Disk.content c.args.disk.now) (g.met.D.Disk.timed c.args.disk.now) c.requires.rests)

pub loop-init : goal.loop-init
loop-init g c = record {
  goes = goes_first g.D.Disk.tells (g.D.Disk.images c.args.disk.now) c.args.service.desk _ (g.S.Source.left c.args.source.now) (g.K.Sink.taken c.args.sink.now) (g.K.Sink.flushed c.args.sink.now) c.args.service.end
      (g.D.Disk.content c.args.disk.now) c.new-window.ensures (g.met.D.Disk.timed c.args.disk.now) c.requires.rests;
  rests = c.requires.rests;
  source = omega arith;
  sink = omega arith;
  disk = omega arith;
  room = c.in_ok-piece.ensures;
}

pub loop-preserved : goal.loop-preserved
loop-preserved g c = record {
  goes =
      goes_then c.all_go_on.ensures g.D.Disk.tells (g.D.Disk.images c.args.disk.now) (g.D.Disk.images c.loop.disk) (g.D.Disk.images c.turn.new.disk)
      (scene c.args.service.desk [] (g.S.Source.left c.args.source.now) (g.K.Sink.taken c.args.sink.now) (g.K.Sink.flushed c.args.sink.now))
      (scene c.loop.service.desk c.loop.window (g.S.Source.left c.loop.source) (g.K.Sink.taken c.loop.sink) (g.K.Sink.flushed c.loop.sink))
      (scene c.in_ok-next.next.desk c.turn.new.window (g.S.Source.left c.turn.new.source) (g.K.Sink.taken c.turn.new.sink) (g.K.Sink.flushed c.turn.new.sink))
      c.requires.behind c.loop.invariant.goes c.in_ok-next.ensures.goes;
  rests = c.in_ok-next.ensures.rests;
  source = omega (arith, c.loop.invariant.source, c.turn.ensures.source_faults);
  sink = omega (arith, c.loop.invariant.sink, c.turn.ensures.sink_faults);
  disk = omega (arith, c.loop.invariant.disk, c.turn.ensures.disk_faults);
  room = c.loop.invariant.room;
}

-- a turn stopped
pub returns-in_err-next-clause-stopped : goal.returns-in_err-next-clause-stopped
returns-in_err-next-clause-stopped g c =
    let p = err_from_is_err_and c.from_residual-in_err-next.result c.from_residual-in_err-next.ensures.1 in
    on_err c.from_residual-in_err-next.result p.0 p.1
    (stopped_then c.all_go_on.ensures g.D.Disk.tells (g.D.Disk.images c.args.disk.now) (g.D.Disk.images c.loop.disk) (g.D.Disk.images c.turn.new.disk)
    (scene c.args.service.desk [] (g.S.Source.left c.args.source.now) (g.K.Sink.taken c.args.sink.now) (g.K.Sink.flushed c.args.sink.now))
    (scene c.loop.service.desk c.loop.window (g.S.Source.left c.loop.source) (g.K.Sink.taken c.loop.sink) (g.K.Sink.flushed c.loop.sink))
    (g.S.Source.left c.turn.new.source) (g.K.Sink.taken c.turn.new.sink) c.requires.behind c.loop.invariant.goes c.in_err-next.ensures.stopped)

-- the input has ended
pub returns-then-not-more-clause-ok : goal.returns-then-not-more-clause-ok
returns-then-not-more-clause-ok g c =
    over_so g.D.Disk.tells (g.D.Disk.images c.args.disk.now) (g.D.Disk.images c.turn.new.disk)
    (scene c.args.service.desk [] (g.S.Source.left c.args.source.now) (g.K.Sink.taken c.args.sink.now) (g.K.Sink.flushed c.args.sink.now))
    c.in_ok-next.next.desk c.turn.new.window (g.S.Source.left c.turn.new.source) (g.K.Sink.taken c.turn.new.sink) (g.K.Sink.flushed c.turn.new.sink) c.in_ok-next.next.end (g.D.Disk.content c.turn.new.disk)
    (goes_then c.all_go_on.ensures g.D.Disk.tells (g.D.Disk.images c.args.disk.now) (g.D.Disk.images c.loop.disk) (g.D.Disk.images c.turn.new.disk)
    (scene c.args.service.desk [] (g.S.Source.left c.args.source.now) (g.K.Sink.taken c.args.sink.now) (g.K.Sink.flushed c.args.sink.now))
    (scene c.loop.service.desk c.loop.window (g.S.Source.left c.loop.source) (g.K.Sink.taken c.loop.sink) (g.K.Sink.flushed c.loop.sink))
    (scene c.in_ok-next.next.desk c.turn.new.window (g.S.Source.left c.turn.new.source) (g.K.Sink.taken c.turn.new.sink) (g.K.Sink.flushed c.turn.new.sink))
    c.requires.behind c.loop.invariant.goes c.in_ok-next.ensures.goes)
    (c.in_ok-next.ensures.end c.if-not-more.true) c.in_ok-next.ensures.rests

-- no number is left for a turn
pub returns-clause-stopped : goal.returns-clause-stopped
returns-clause-stopped g c =
    stopped_here c.all_go_on.ensures g.D.Disk.tells (g.D.Disk.images c.args.disk.now) (g.D.Disk.images c.loop.disk)
    (scene c.args.service.desk [] (g.S.Source.left c.args.source.now) (g.K.Sink.taken c.args.sink.now) (g.K.Sink.flushed c.args.sink.now))
    c.loop.service.desk c.loop.window (g.S.Source.left c.loop.source) (g.K.Sink.taken c.loop.sink) (g.K.Sink.flushed c.loop.sink) c.loop.service.end (g.D.Disk.content c.loop.disk)
    c.requires.behind (g.met.D.Disk.timed c.loop.disk) c.loop.invariant.goes c.loop.invariant.rests
