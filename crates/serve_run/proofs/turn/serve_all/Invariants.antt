use Rattle.std.proofs.Common.{◌<◌, ◌≤◌, vec_len, []}
use Rattle.disk_log.specs.Rest.{Rests}
use Rattle.serve_laws.specs.Served.{frames}
use Rattle.serve_run.specs.Scenes.{Goes, scene}
use Rattle.serve_run.proofs.turn.serve_all.Given as goal

-- it went on so far
abbrev pub invariant-loop : goal.invariant-loop
invariant-loop g l = record {
  goes : Goes g.D.Disk.tells (g.D.Disk.images l.fn.disk) (g.D.Disk.images l.disk)
      (scene l.initial.service.desk [] (g.S.Source.left l.fn.source) (g.K.Sink.taken l.fn.sink) (g.K.Sink.flushed l.fn.sink))
      (scene l.service.desk l.window (g.S.Source.left l.source) (g.K.Sink.taken l.sink) (g.K.Sink.flushed l.sink));
  rests : Rests g.D.Disk.tells l.service.end (g.D.Disk.content l.disk) (g.D.Disk.images l.disk) (frames l.service.desk);
  source : g.S.Source.faults l.fn.source ≤ g.S.Source.faults l.source;
  sink : g.K.Sink.faults l.fn.sink ≤ g.K.Sink.faults l.sink;
  disk : g.D.Disk.faults l.fn.disk ≤ g.D.Disk.faults l.disk;
  room : 0 < vec_len l.piece;
}
