use Rattle.std.proofs.Common.{◌∙◌, ap, sym, subst}
use Rattle.std.proofs.lemmas.Result.{err_from_is_err_and}
use Rattle.yard_model.specs.Replay.{replay_text}
use Rattle.yard_model.specs.Script.{Script}
use Rattle.yard_model.specs.Text.{report}
use Rattle.yard_model.specs.World.{played, trace_of, wire_limit}
use Rattle.world_sim.specs.Played.{Played}
use Rattle.replay_run.specs.Replays.{IsDone, trace_text}
use Rattle.run_parts.specs.Stops.{course}
use Rattle.run_parts.specs.Writing.{Sunk}
use Rattle.run_parts.proofs.WritingLaws.{none_taken, took_both, took_same, front_both, front_more, front_same}
use Rattle.replay_run.proofs.replay.replay_world.Goals as goal

pub returns-in_err-world-clause-wrote : goal.returns-in_err-world-clause-wrote
returns-in_err-world-clause-wrote g c =
    let s0 : Sunk = record { taken = g.K.Sink.taken c.args.sink.now; flushed = g.K.Sink.flushed c.args.sink.now; faults = g.K.Sink.faults c.args.sink.now } in
    let p = err_from_is_err_and c.from_residual.result c.from_residual.ensures.1 in
    rw (p.1, p.2) (none_taken (replay_text c.args.charter) s0)

pub write_end-requires : goal.write_end-requires
write_end-requires g c =
    let done = c.in-Ok.ensures.done in
    subst (λ s. IsDone s c.play.new.world) (sym done.script_is) done

pub returns-in-Err-clause-wrote : goal.returns-in-Err-clause-wrote
returns-in-Err-clause-wrote g c =
    let trace = ap (λ (w : Played). trace_text w.script) c.in_ok-world.ensures in
    front_more _ _ _ _ _ (front_same _ _ _ _ _ trace c.in-Err.ensures.wrote)

pub returns-in_err-write_end-clause-wrote : goal.returns-in_err-write_end-clause-wrote
returns-in_err-write_end-clause-wrote g c =
    let p = err_from_is_err_and c.from_residual-in_err-write_end.result c.from_residual-in_err-write_end.ensures.1 in
    let trace = ap (λ (w : Played). trace_text w.script) c.in_ok-world.ensures in
    let script = c.in-Ok.ensures.done.script_is ∙ ap (λ (w : Played). w.script) c.in_ok-world.ensures in
    let end = ap (λ (s : Script). report (played s wire_limit).world.set (played s wire_limit).world.lists) script in
    rw (p.1, p.2) (front_both _ _ _ _ _ _ (took_same _ _ _ _ trace c.in-Ok.ensures.wrote) (front_same _ _ _ _ _ end c.in_err-write_end.ensures))

pub returns-clause-wrote : goal.returns-clause-wrote
returns-clause-wrote g c =
    let trace = ap (λ (w : Played). trace_text w.script) c.in_ok-world.ensures in
    let script = c.in-Ok.ensures.done.script_is ∙ ap (λ (w : Played). w.script) c.in_ok-world.ensures in
    let end = ap (λ (s : Script). report (played s wire_limit).world.set (played s wire_limit).world.lists) script in
    took_both _ _ _ _ _ (took_same _ _ _ _ trace c.in-Ok.ensures.wrote) (took_same _ _ _ _ end c.in_ok-write_end.ensures)

pub returns-clause-course : goal.returns-clause-course
returns-clause-course g c = c.in-Ok.ensures.course ∙ ap (λ (w : Played). course (trace_of w.script)) c.in_ok-world.ensures
