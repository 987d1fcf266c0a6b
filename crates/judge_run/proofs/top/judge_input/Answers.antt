use Rattle.std.proofs.Common.{◌<◌}
use Rattle.judge_run.specs.Ends.{Lacks, Refuses, Sunk}
use Rattle.judge_run.proofs.EndLaws.{complete_early, complete_told, early_runs, told_began, told_read, told_refused, told_runs, told_there, told_unwritten, told_wrote}
use Rattle.judge_run.proofs.top.judge_input.Goals as goal

pub returns-in-Ok-clause-complete : goal.returns-in-Ok-clause-complete
returns-in-Ok-clause-complete g c s k =
    let old : Sunk = record { taken = record { bytes = g.K.Sink.taken c.args.sink.now; flushed = g.K.Sink.flushed c.args.sink.now }; faults = g.K.Sink.faults c.args.sink.now } in
    let new : Sunk = record { taken = record { bytes = g.K.Sink.taken c.tell.new.sink; flushed = g.K.Sink.flushed c.tell.new.sink }; faults = g.K.Sink.faults c.tell.new.sink } in
    complete_told (g.S.Source.left c.args.source.now) (g.S.Source.left c.answer_of.new.source) c.in-Ok.answer c.tell.result old new c.in-Ok.ensures.answers c.tell.ensures k

pub returns-in-Ok-clause-has_run : goal.returns-in-Ok-clause-has_run
returns-in-Ok-clause-has_run g c =
    let old : Sunk = record { taken = record { bytes = g.K.Sink.taken c.args.sink.now; flushed = g.K.Sink.flushed c.args.sink.now }; faults = g.K.Sink.faults c.args.sink.now } in
    let new : Sunk = record { taken = record { bytes = g.K.Sink.taken c.tell.new.sink; flushed = g.K.Sink.flushed c.tell.new.sink }; faults = g.K.Sink.faults c.tell.new.sink } in
    told_runs c.in-Ok.answer c.tell.result old new c.tell.ensures

pub returns-in-Ok-clause-answered : goal.returns-in-Ok-clause-answered
returns-in-Ok-clause-answered g c =
    let old : Sunk = record { taken = record { bytes = g.K.Sink.taken c.args.sink.now; flushed = g.K.Sink.flushed c.args.sink.now }; faults = g.K.Sink.faults c.args.sink.now } in
    let new : Sunk = record { taken = record { bytes = g.K.Sink.taken c.tell.new.sink; flushed = g.K.Sink.flushed c.tell.new.sink }; faults = g.K.Sink.faults c.tell.new.sink } in
    told_wrote (g.S.Source.left c.args.source.now) (g.S.Source.left c.answer_of.new.source) c.in-Ok.answer c.tell.result old new c.in-Ok.ensures.answers c.tell.ensures

pub returns-in-Ok-clause-refused : goal.returns-in-Ok-clause-refused
returns-in-Ok-clause-refused g c =
    let old : Sunk = record { taken = record { bytes = g.K.Sink.taken c.args.sink.now; flushed = g.K.Sink.flushed c.args.sink.now }; faults = g.K.Sink.faults c.args.sink.now } in
    let new : Sunk = record { taken = record { bytes = g.K.Sink.taken c.tell.new.sink; flushed = g.K.Sink.flushed c.tell.new.sink }; faults = g.K.Sink.faults c.tell.new.sink } in
    told_refused c.in-Ok.answer c.tell.result old new (Refuses (g.S.Source.left c.args.source.now) (g.S.Source.left c.answer_of.new.source)) c.tell.ensures

pub returns-in-Ok-clause-no_trace : goal.returns-in-Ok-clause-no_trace
returns-in-Ok-clause-no_trace g c =
    let old : Sunk = record { taken = record { bytes = g.K.Sink.taken c.args.sink.now; flushed = g.K.Sink.flushed c.args.sink.now }; faults = g.K.Sink.faults c.args.sink.now } in
    let new : Sunk = record { taken = record { bytes = g.K.Sink.taken c.tell.new.sink; flushed = g.K.Sink.flushed c.tell.new.sink }; faults = g.K.Sink.faults c.tell.new.sink } in
    told_there c.in-Ok.answer c.tell.result old new (Lacks (g.S.Source.left c.args.source.now) (g.S.Source.left c.answer_of.new.source)) c.tell.ensures

pub returns-in-Ok-clause-read_fault : goal.returns-in-Ok-clause-read_fault
returns-in-Ok-clause-read_fault g c =
    let old : Sunk = record { taken = record { bytes = g.K.Sink.taken c.args.sink.now; flushed = g.K.Sink.flushed c.args.sink.now }; faults = g.K.Sink.faults c.args.sink.now } in
    let new : Sunk = record { taken = record { bytes = g.K.Sink.taken c.tell.new.sink; flushed = g.K.Sink.flushed c.tell.new.sink }; faults = g.K.Sink.faults c.tell.new.sink } in
    told_read c.in-Ok.answer c.tell.result old new (g.S.Source.faults c.args.source.now < g.S.Source.faults c.answer_of.new.source) c.tell.ensures

pub returns-in-Ok-clause-write_fault_front : goal.returns-in-Ok-clause-write_fault_front
returns-in-Ok-clause-write_fault_front g c =
    let old : Sunk = record { taken = record { bytes = g.K.Sink.taken c.args.sink.now; flushed = g.K.Sink.flushed c.args.sink.now }; faults = g.K.Sink.faults c.args.sink.now } in
    let new : Sunk = record { taken = record { bytes = g.K.Sink.taken c.tell.new.sink; flushed = g.K.Sink.flushed c.tell.new.sink }; faults = g.K.Sink.faults c.tell.new.sink } in
    told_began (g.S.Source.left c.args.source.now) (g.S.Source.left c.answer_of.new.source) c.in-Ok.answer c.tell.result old new c.in-Ok.ensures.answers c.tell.ensures

pub returns-in-Ok-clause-unwritten : goal.returns-in-Ok-clause-unwritten
returns-in-Ok-clause-unwritten g c =
    let old : Sunk = record { taken = record { bytes = g.K.Sink.taken c.args.sink.now; flushed = g.K.Sink.flushed c.args.sink.now }; faults = g.K.Sink.faults c.args.sink.now } in
    let new : Sunk = record { taken = record { bytes = g.K.Sink.taken c.tell.new.sink; flushed = g.K.Sink.flushed c.tell.new.sink }; faults = g.K.Sink.faults c.tell.new.sink } in
    told_unwritten c.in-Ok.answer c.tell.result old new c.tell.ensures

pub returns-in-Err-clause-complete : goal.returns-in-Err-clause-complete
returns-in-Err-clause-complete g c s k =
    complete_early (g.S.Source.left c.args.source.now) (g.S.Source.left c.answer_of.new.source) c.in-Err.status (g.S.Source.faults c.args.source.now) (g.S.Source.faults c.answer_of.new.source)
    c.in-Err.ensures.refused c.in-Err.ensures.no_trace c.in-Err.ensures.read_fault c.in-Err.ensures.early s

pub returns-in-Err-clause-has_run : goal.returns-in-Err-clause-has_run
returns-in-Err-clause-has_run g c = early_runs c.in-Err.status c.in-Err.ensures.early
