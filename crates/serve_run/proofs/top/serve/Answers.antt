use Rattle.serve_run.specs.Ends.{sides}
use Rattle.serve_run.proofs.CompleteLaws.{Readings, complete_of}
use Rattle.serve_run.proofs.LineLaws as lines
use Rattle.serve_run.proofs.EndLaws.{exit_of, moment_of}
use Rattle.serve_run.proofs.top.serve.Goals as goal

pub returns-clause-ends : goal.returns-clause-ends
returns-clause-ends g c = c.serve_input.ensures.ends

pub returns-clause-rose : goal.returns-clause-rose
returns-clause-rose g c = c.serve_input.ensures.rose

pub returns-clause-any_moment : goal.returns-clause-any_moment
returns-clause-any_moment g c told =
    moment_of g.D.Disk.tells told
    (sides (g.S.Source.left c.args.source.now) (g.K.Sink.taken c.args.sink.now) (g.K.Sink.flushed c.args.sink.now) (g.D.Disk.content c.args.disk.now) (g.D.Disk.images c.args.disk.now))
    (sides (g.S.Source.left c.serve_input.new.source) (g.K.Sink.taken c.serve_input.new.sink) (g.K.Sink.flushed c.serve_input.new.sink) (g.D.Disk.content c.serve_input.new.disk) (g.D.Disk.images c.serve_input.new.disk))
    c.serve_input.result c.serve_input.ensures.ends

pub returns-clause-at_exit : goal.returns-clause-at_exit
returns-clause-at_exit g c told =
    exit_of g.D.Disk.tells told
    (sides (g.S.Source.left c.args.source.now) (g.K.Sink.taken c.args.sink.now) (g.K.Sink.flushed c.args.sink.now) (g.D.Disk.content c.args.disk.now) (g.D.Disk.images c.args.disk.now))
    (sides (g.S.Source.left c.serve_input.new.source) (g.K.Sink.taken c.serve_input.new.sink) (g.K.Sink.flushed c.serve_input.new.sink) (g.D.Disk.content c.serve_input.new.disk) (g.D.Disk.images c.serve_input.new.disk))
    c.serve_input.result c.serve_input.ensures.ends

pub returns-clause-complete : goal.returns-clause-complete
returns-clause-complete g c told source sink disk =
    let readings : Readings = record {
      damaged = c.one_head.ensures.damaged;
      long_head = c.one_head.ensures.long_head;
      texts = c.one_holding.ensures.texts;
      batches = c.one_holding.ensures.batches;
      lines = c.one_holding.ensures.lines;
      found = c.found_is_desk.ensures;
      one = c.one_desk.ensures;
    } in
    complete_of readings g.D.Disk.tells told
    (sides (g.S.Source.left c.args.source.now) (g.K.Sink.taken c.args.sink.now) (g.K.Sink.flushed c.args.sink.now) (g.D.Disk.content c.args.disk.now) (g.D.Disk.images c.args.disk.now))
    (sides (g.S.Source.left c.serve_input.new.source) (g.K.Sink.taken c.serve_input.new.sink) (g.K.Sink.flushed c.serve_input.new.sink) (g.D.Disk.content c.serve_input.new.disk) (g.D.Disk.images c.serve_input.new.disk))
    c.serve_input.result _ _ _ _ _ _ c.serve_input.ensures.ends c.serve_input.ensures.rose source sink disk

pub returns-clause-lines_add_up : goal.returns-clause-lines_add_up
returns-clause-lines_add_up g c = lines.lines_add_up
