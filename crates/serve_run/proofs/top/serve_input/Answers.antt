use Rattle.std.proofs.Common.{◌∙◌, sym, ap, refl, subst}
use Rattle.std.specs.Prelude.{Err}
use Rattle.serve_run.specs.Ends.{EndsAs, Rose, sides}
use Rattle.serve_run.specs.declared.status.Status.{Status}
use Rattle.serve_run.proofs.EndLaws.{behind_begun, none_ends, none_rose, served_ends, served_rose}
use Rattle.serve_run.proofs.top.serve_input.Goals as goal

pub serve_all-requires-clause-behind : goal.serve_all-requires-clause-behind
serve_all-requires-clause-behind g c =
    behind_begun c.all_go_on.ensures g.D.Disk.tells (g.D.Disk.content c.args.disk.now) (g.D.Disk.images c.args.disk.now) (g.D.Disk.images c.open.new.disk) c.in-Ok.service.desk c.in-Ok.ensures.begins

pub returns-in-Ok-clause-ends : goal.returns-in-Ok-clause-ends
returns-in-Ok-clause-ends g c =
    subst
    (EndsAs g.D.Disk.tells
    (sides (g.S.Source.left c.args.source.now) (g.K.Sink.taken c.args.sink.now) (g.K.Sink.flushed c.args.sink.now) (g.D.Disk.content c.args.disk.now) (g.D.Disk.images c.args.disk.now))
    (sides (g.S.Source.left c.serve_all.new.source) (g.K.Sink.taken c.serve_all.new.sink) (g.K.Sink.flushed c.serve_all.new.sink) (g.D.Disk.content c.serve_all.new.disk) (g.D.Disk.images c.serve_all.new.disk)))
    (sym c.status_with.ensures)
    (served_ends c.all_go_on.ensures g.D.Disk.tells
    (sides (g.S.Source.left c.args.source.now) (g.K.Sink.taken c.args.sink.now) (g.K.Sink.flushed c.args.sink.now) (g.D.Disk.content c.args.disk.now) (g.D.Disk.images c.args.disk.now))
    (sides (g.S.Source.left c.serve_all.new.source) (g.K.Sink.taken c.serve_all.new.sink) (g.K.Sink.flushed c.serve_all.new.sink) (g.D.Disk.content c.serve_all.new.disk) (g.D.Disk.images c.serve_all.new.disk))
    (g.D.Disk.images c.open.new.disk) c.in-Ok.service.desk c.serve_all.result c.in-Ok.ensures.begins c.serve_all.ensures.ok c.serve_all.ensures.stopped)

pub returns-in-Ok-clause-rose : goal.returns-in-Ok-clause-rose
returns-in-Ok-clause-rose g c =
    subst
    (λ (s : Status). Rose s (g.S.Source.faults c.args.source.now) (g.S.Source.faults c.serve_all.new.source) (g.K.Sink.faults c.args.sink.now) (g.K.Sink.faults c.serve_all.new.sink)
    (g.D.Disk.faults c.args.disk.now) (g.D.Disk.faults c.serve_all.new.disk))
    (sym c.status_with.ensures)
    (served_rose c.serve_all.result (g.S.Source.faults c.args.source.now) (g.S.Source.faults c.serve_all.new.source) (g.K.Sink.faults c.args.sink.now) (g.K.Sink.faults c.serve_all.new.sink)
    (g.D.Disk.faults c.args.disk.now) (g.D.Disk.faults c.open.new.disk) (g.D.Disk.faults c.serve_all.new.disk) c.open.ensures.never_falls c.serve_all.ensures.read c.serve_all.ensures.write c.serve_all.ensures.disk)

pub returns-in-Err-clause-ends : goal.returns-in-Err-clause-ends
returns-in-Err-clause-ends g c =
    subst
    (EndsAs g.D.Disk.tells
    (sides (g.S.Source.left c.args.source.now) (g.K.Sink.taken c.args.sink.now) (g.K.Sink.flushed c.args.sink.now) (g.D.Disk.content c.args.disk.now) (g.D.Disk.images c.args.disk.now))
    (sides (g.S.Source.left c.args.source.now) (g.K.Sink.taken c.args.sink.now) (g.K.Sink.flushed c.args.sink.now) (g.D.Disk.content c.open.new.disk) (g.D.Disk.images c.open.new.disk)))
    (sym c.status_without.ensures)
    (none_ends g.D.Disk.tells
    (sides (g.S.Source.left c.args.source.now) (g.K.Sink.taken c.args.sink.now) (g.K.Sink.flushed c.args.sink.now) (g.D.Disk.content c.args.disk.now) (g.D.Disk.images c.args.disk.now))
    (sides (g.S.Source.left c.args.source.now) (g.K.Sink.taken c.args.sink.now) (g.K.Sink.flushed c.args.sink.now) (g.D.Disk.content c.open.new.disk) (g.D.Disk.images c.open.new.disk))
    c.in-Err.fault refl refl c.in-Err.ensures.left (λ at e. c.open.ensures.damaged at (c.in-Err.is ∙ ap Err e)) (λ frame e. c.open.ensures.foreign frame (c.in-Err.is ∙ ap Err e)))

pub returns-in-Err-clause-rose : goal.returns-in-Err-clause-rose
returns-in-Err-clause-rose g c =
    subst
    (λ (s : Status). Rose s (g.S.Source.faults c.args.source.now) (g.S.Source.faults c.args.source.now) (g.K.Sink.faults c.args.sink.now) (g.K.Sink.faults c.args.sink.now)
    (g.D.Disk.faults c.args.disk.now) (g.D.Disk.faults c.open.new.disk))
    (sym c.status_without.ensures)
    (none_rose c.in-Err.fault (g.S.Source.faults c.args.source.now) (g.S.Source.faults c.args.source.now) (g.K.Sink.faults c.args.sink.now) (g.K.Sink.faults c.args.sink.now)
    (g.D.Disk.faults c.args.disk.now) (g.D.Disk.faults c.open.new.disk) (λ e. c.open.ensures.cause (c.in-Err.is ∙ ap Err e)))
