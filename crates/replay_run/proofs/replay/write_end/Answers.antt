use Rattle.std.proofs.Common.{subst}
use Rattle.std.proofs.lemmas.Result.{err_from_is_err_and}
use Rattle.run_parts.specs.Writing.{Writes}
use Rattle.run_parts.proofs.WritingLaws.{none_taken}
use Rattle.replay_run.proofs.replay.write_end.Goals as goal

pub returns : goal.returns
returns g c =
    subst (λ text. Writes text c.write_report-wrote.result
    (record { taken = g.K.Sink.taken c.args.sink.now; flushed = g.K.Sink.flushed c.args.sink.now; faults = g.K.Sink.faults c.args.sink.now })
    (record { taken = g.K.Sink.taken c.write_report-wrote.new.sink; flushed = g.K.Sink.flushed c.write_report-wrote.new.sink; faults = g.K.Sink.faults c.write_report-wrote.new.sink }))
    c.in_ok-last.ensures.report c.write_report-wrote.ensures

pub returns-in_err-last : goal.returns-in_err-last
returns-in_err-last g c =
    let p = err_from_is_err_and c.from_residual.result c.from_residual.ensures.1 in
    rw (p.1, p.2) (none_taken _ _)
