use Rattle.std.proofs.lemmas.Result.{err_from_is_err_and}
use Rattle.replay_run.specs.Replays.{replay_json}
use Rattle.run_parts.specs.Writing.{Sunk}
use Rattle.run_parts.proofs.WritingLaws.{none_taken}
use Rattle.replay_run.proofs.json.write_json.Goals as goal

pub returns-in_err-text-clause-wrote : goal.returns-in_err-text-clause-wrote
returns-in_err-text-clause-wrote g c =
    let s0 : Sunk = record { taken = g.K.Sink.taken c.args.sink.now; flushed = g.K.Sink.flushed c.args.sink.now; faults = g.K.Sink.faults c.args.sink.now } in
    let p = err_from_is_err_and c.from_residual.result c.from_residual.ensures.1 in
    rw (p.1, p.2) (none_taken (replay_json c.args.charter) s0)
