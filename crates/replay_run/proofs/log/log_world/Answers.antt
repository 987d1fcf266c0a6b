use Rattle.std.proofs.Common.{◌≡◌, ◌∙◌, ap, refl, sym, subst, List, [], ℕ, length}
use Rattle.std.specs.Prelude.{Err}
use Rattle.std.proofs.lemmas.Result.{err_from_is_err_and}
use Rattle.yard_io.proofs.ToldLemmas.{front_whole}
use Rattle.yard_model.specs.Replay.{replay_text}
use Rattle.yard_model.specs.Script.{Script}
use Rattle.yard_model.specs.World.{trace_of}
use Rattle.disk_log.specs.Images.{LeavesOnly}
use Rattle.disk_log.specs.Spelled.{SpellsPrefix}
use Rattle.logged_lines.specs.Logged.{LogEnds, batches_of}
use Rattle.logged_lines.specs.Told.{WritesLog}
use Rattle.log_orders.proofs.GatherLaws.{leaves_none}
use Rattle.logged_lines.proofs.TellLaws.{ends_all_logged, ends_empty, rests_prefix, write_wrote}
use Rattle.world_sim.specs.Played.{Played}
use Rattle.run_parts.specs.declared.course.Course.{Course}
use Rattle.run_parts.specs.Stops.{course}
use Rattle.run_parts.specs.Writing.{Sunk}
use Rattle.run_parts.proofs.WritingLaws.{took_both, took_same, front_both, front_same, none_taken}
use Rattle.replay_run.specs.Replays.{IsDone, trace_text}
use Rattle.replay_run.proofs.LogLaws.{end_of, text_wrote, write_never_there, write_no_disk}
use Rattle.replay_run.proofs.log.log_world.Goals as goal

pub write_end-requires : goal.write_end-requires
write_end-requires g c = let done = c.in-Ok.ensures.done in subst (λ s. IsDone s c.play.new.world) (sym done.script_is) done

pub returns-in_err-world-clause-wrote : goal.returns-in_err-world-clause-wrote
returns-in_err-world-clause-wrote g c =
    let s0 : Sunk = record { taken = g.K.Sink.taken c.args.sink.now; flushed = g.K.Sink.flushed c.args.sink.now; faults = g.K.Sink.faults c.args.sink.now } in
    let p = err_from_is_err_and c.from_residual.result c.from_residual.ensures.1 in
    rw (p.1, p.2) (none_taken (replay_text c.args.charter) s0)

pub returns-in_err-world-clause-any_moment : goal.returns-in_err-world-clause-any_moment
returns-in_err-world-clause-any_moment g c told =
    leaves_none (g.D.Disk.images c.args.disk.now) (g.met.D.Disk.timed c.args.disk.now)
    (rests_prefix g.D.Disk.tells c.args.log (g.D.Disk.content c.args.disk.now) (g.D.Disk.images c.args.disk.now) [] (batches_of c.args.charter) (record { are = tt; rests = c.requires.rests }) told)

pub returns-in_err-world-clause-at_exit : goal.returns-in_err-world-clause-at_exit
returns-in_err-world-clause-at_exit g c told =
    ends_empty c.args.charter (g.K.Sink.taken c.args.sink.now) (g.K.Sink.taken c.args.sink.now) (g.D.Disk.images c.args.disk.now) refl
    (rests_prefix g.D.Disk.tells c.args.log (g.D.Disk.content c.args.disk.now) (g.D.Disk.images c.args.disk.now) [] (batches_of c.args.charter) (record { are = tt; rests = c.requires.rests }) told)

pub returns-in-Err-clause-wrote : goal.returns-in-Err-clause-wrote
returns-in-Err-clause-wrote g c =
    let s0 : Sunk = record { taken = g.K.Sink.taken c.args.sink.now; flushed = g.K.Sink.flushed c.args.sink.now; faults = g.K.Sink.faults c.args.sink.now } in
    let s1 : Sunk = record { taken = g.K.Sink.taken c.play.new.sink; flushed = g.K.Sink.flushed c.play.new.sink; faults = g.K.Sink.faults c.play.new.sink } in
    let script : c.in_ok-world.world.script ≡ c.args.charter = ap (λ (w : Played). w.script) c.in_ok-world.ensures in
    subst (λ (s : Script). WritesLog {A = Unit {0}} (replay_text s) (Err c.in-Err.error)
    (record { taken = g.K.Sink.taken c.args.sink.now; flushed = g.K.Sink.flushed c.args.sink.now; faults = g.K.Sink.faults c.args.sink.now })
    (record { taken = g.K.Sink.taken c.play.new.sink; flushed = g.K.Sink.flushed c.play.new.sink; faults = g.K.Sink.faults c.play.new.sink })) script
    (text_wrote {A = Unit {0}} c.in_ok-world.world.script c.in-Err.error s0 s1 (Err c.in-Err.error) refl c.in-Err.ensures.never_there c.in-Err.ensures.wrote)

pub returns-in-Err-clause-never_there : goal.returns-in-Err-clause-never_there
returns-in-Err-clause-never_there g c = c.in-Err.ensures.never_there

pub returns-in-Err-clause-any_moment : goal.returns-in-Err-clause-any_moment
returns-in-Err-clause-any_moment g c told =
    let script : c.in_ok-world.world.script ≡ c.args.charter = ap (λ (w : Played). w.script) c.in_ok-world.ensures in
    subst (λ (s : Script). LeavesOnly (g.D.Disk.images c.args.disk.now) (g.D.Disk.images c.play.new.disk) (SpellsPrefix (batches_of s) 0)) script (c.play.ensures.any_moment told)

pub returns-in_err-write_end-clause-any_moment : goal.returns-in_err-write_end-clause-any_moment
returns-in_err-write_end-clause-any_moment g c told =
    let script : c.in_ok-world.world.script ≡ c.args.charter = ap (λ (w : Played). w.script) c.in_ok-world.ensures in
    subst (λ (s : Script). LeavesOnly (g.D.Disk.images c.args.disk.now) (g.D.Disk.images c.play.new.disk) (SpellsPrefix (batches_of s) 0)) script (c.play.ensures.any_moment told)

pub returns-clause-any_moment : goal.returns-clause-any_moment
returns-clause-any_moment g c told =
    let script : c.in_ok-world.world.script ≡ c.args.charter = ap (λ (w : Played). w.script) c.in_ok-world.ensures in
    subst (λ (s : Script). LeavesOnly (g.D.Disk.images c.args.disk.now) (g.D.Disk.images c.play.new.disk) (SpellsPrefix (batches_of s) 0)) script (c.play.ensures.any_moment told)

pub returns-in-Err-clause-at_exit : goal.returns-in-Err-clause-at_exit
returns-in-Err-clause-at_exit g c told =
    let script : c.in_ok-world.world.script ≡ c.args.charter = ap (λ (w : Played). w.script) c.in_ok-world.ensures in
    subst (λ (s : Script). LogEnds s (g.K.Sink.taken c.args.sink.now) (g.K.Sink.taken c.play.new.sink) (g.D.Disk.images c.play.new.disk)) script (c.in-Err.ensures.at_exit told)

pub returns-in_err-write_end-clause-at_exit : goal.returns-in_err-write_end-clause-at_exit
returns-in_err-write_end-clause-at_exit g c told =
    let s0 : Sunk = record { taken = g.K.Sink.taken c.args.sink.now; flushed = g.K.Sink.flushed c.args.sink.now; faults = g.K.Sink.faults c.args.sink.now } in
    let s1 : Sunk = record { taken = g.K.Sink.taken c.play.new.sink; flushed = g.K.Sink.flushed c.play.new.sink; faults = g.K.Sink.faults c.play.new.sink } in
    let s2 : Sunk = record { taken = g.K.Sink.taken c.write_end.new.sink; flushed = g.K.Sink.flushed c.write_end.new.sink; faults = g.K.Sink.faults c.write_end.new.sink } in
    let script : c.in_ok-world.world.script ≡ c.args.charter = ap (λ (w : Played). w.script) c.in_ok-world.ensures in
    let trace : trace_text c.in_ok-world.world.script ≡ trace_text c.args.charter = ap trace_text script in
    let end : end_of c.play.new.world.script ≡ end_of c.args.charter = ap end_of (c.in-Ok.ensures.done.script_is ∙ script) in
    let all : (image : List ℕ) → (g.D.Disk.images c.play.new.disk).now image → SpellsPrefix (batches_of c.args.charter) (length (batches_of c.args.charter)) image =
    subst (λ (s : Script). (image : List ℕ) → (g.D.Disk.images c.play.new.disk).now image → SpellsPrefix (batches_of s) (length (batches_of s)) image) script (c.in-Ok.ensures.all told) in
    ends_all_logged c.args.charter (g.K.Sink.taken c.args.sink.now) (g.K.Sink.taken c.write_end.new.sink) (g.D.Disk.images c.play.new.disk)
    (front_both (trace_text c.args.charter) (end_of c.args.charter) _ s0 s1 s2 (took_same (trace_text c.in_ok-world.world.script) (trace_text c.args.charter) s0 s1 trace c.in-Ok.ensures.wrote) (front_same (end_of c.play.new.world.script) (end_of c.args.charter) _ s1 s2 end c.in_err-write_end.ensures)).front all

pub returns-clause-at_exit : goal.returns-clause-at_exit
returns-clause-at_exit g c told =
    let s0 : Sunk = record { taken = g.K.Sink.taken c.args.sink.now; flushed = g.K.Sink.flushed c.args.sink.now; faults = g.K.Sink.faults c.args.sink.now } in
    let s1 : Sunk = record { taken = g.K.Sink.taken c.play.new.sink; flushed = g.K.Sink.flushed c.play.new.sink; faults = g.K.Sink.faults c.play.new.sink } in
    let s2 : Sunk = record { taken = g.K.Sink.taken c.write_end.new.sink; flushed = g.K.Sink.flushed c.write_end.new.sink; faults = g.K.Sink.faults c.write_end.new.sink } in
    let script : c.in_ok-world.world.script ≡ c.args.charter = ap (λ (w : Played). w.script) c.in_ok-world.ensures in
    let trace : trace_text c.in_ok-world.world.script ≡ trace_text c.args.charter = ap trace_text script in
    let end : end_of c.play.new.world.script ≡ end_of c.args.charter = ap end_of (c.in-Ok.ensures.done.script_is ∙ script) in
    let all : (image : List ℕ) → (g.D.Disk.images c.play.new.disk).now image → SpellsPrefix (batches_of c.args.charter) (length (batches_of c.args.charter)) image =
    subst (λ (s : Script). (image : List ℕ) → (g.D.Disk.images c.play.new.disk).now image → SpellsPrefix (batches_of s) (length (batches_of s)) image) script (c.in-Ok.ensures.all told) in
    ends_all_logged c.args.charter (g.K.Sink.taken c.args.sink.now) (g.K.Sink.taken c.write_end.new.sink) (g.D.Disk.images c.play.new.disk)
    (front_whole (g.K.Sink.taken c.args.sink.now) (g.K.Sink.taken c.write_end.new.sink) (replay_text c.args.charter) (took_both (trace_text c.args.charter) (end_of c.args.charter) s0 s1 s2 (took_same (trace_text c.in_ok-world.world.script) (trace_text c.args.charter) s0 s1 trace c.in-Ok.ensures.wrote) (took_same (end_of c.play.new.world.script) (end_of c.args.charter) s1 s2 end c.in_ok-write_end.ensures)).taken_is) all

pub returns-in_err-write_end-clause-wrote : goal.returns-in_err-write_end-clause-wrote
returns-in_err-write_end-clause-wrote g c =
    let s0 : Sunk = record { taken = g.K.Sink.taken c.args.sink.now; flushed = g.K.Sink.flushed c.args.sink.now; faults = g.K.Sink.faults c.args.sink.now } in
    let s1 : Sunk = record { taken = g.K.Sink.taken c.play.new.sink; flushed = g.K.Sink.flushed c.play.new.sink; faults = g.K.Sink.faults c.play.new.sink } in
    let s2 : Sunk = record { taken = g.K.Sink.taken c.write_end.new.sink; flushed = g.K.Sink.flushed c.write_end.new.sink; faults = g.K.Sink.faults c.write_end.new.sink } in
    let p = err_from_is_err_and c.from_residual-in_err-write_end.result c.from_residual-in_err-write_end.ensures.1 in
    let script : c.in_ok-world.world.script ≡ c.args.charter = ap (λ (w : Played). w.script) c.in_ok-world.ensures in
    let trace : trace_text c.in_ok-world.world.script ≡ trace_text c.args.charter = ap trace_text script in
    let end : end_of c.play.new.world.script ≡ end_of c.args.charter = ap end_of (c.in-Ok.ensures.done.script_is ∙ script) in
    write_wrote (replay_text c.args.charter) _ s0 s2 c.from_residual-in_err-write_end.result (p.1 ∙ ap Err p.2)
    (front_both (trace_text c.args.charter) (end_of c.args.charter) _ s0 s1 s2 (took_same (trace_text c.in_ok-world.world.script) (trace_text c.args.charter) s0 s1 trace c.in-Ok.ensures.wrote) (front_same (end_of c.play.new.world.script) (end_of c.args.charter) _ s1 s2 end c.in_err-write_end.ensures))

pub returns-in_err-write_end-clause-never_there : goal.returns-in_err-write_end-clause-never_there
returns-in_err-write_end-clause-never_there g c =
    let p = err_from_is_err_and c.from_residual-in_err-write_end.result c.from_residual-in_err-write_end.ensures.1 in
    write_never_there _ c.from_residual-in_err-write_end.result (p.1 ∙ ap Err p.2)

pub returns-in_err-write_end-clause-disk_cause : goal.returns-in_err-write_end-clause-disk_cause
returns-in_err-write_end-clause-disk_cause g c is =
    let p = err_from_is_err_and c.from_residual-in_err-write_end.result c.from_residual-in_err-write_end.ensures.1 in
    absurd (write_no_disk _ c.from_residual-in_err-write_end.result (p.1 ∙ ap Err p.2) is)

pub returns-clause-wrote : goal.returns-clause-wrote
returns-clause-wrote g c =
    let s0 : Sunk = record { taken = g.K.Sink.taken c.args.sink.now; flushed = g.K.Sink.flushed c.args.sink.now; faults = g.K.Sink.faults c.args.sink.now } in
    let s1 : Sunk = record { taken = g.K.Sink.taken c.play.new.sink; flushed = g.K.Sink.flushed c.play.new.sink; faults = g.K.Sink.faults c.play.new.sink } in
    let s2 : Sunk = record { taken = g.K.Sink.taken c.write_end.new.sink; flushed = g.K.Sink.flushed c.write_end.new.sink; faults = g.K.Sink.faults c.write_end.new.sink } in
    let script : c.in_ok-world.world.script ≡ c.args.charter = ap (λ (w : Played). w.script) c.in_ok-world.ensures in
    let trace : trace_text c.in_ok-world.world.script ≡ trace_text c.args.charter = ap trace_text script in
    let end : end_of c.play.new.world.script ≡ end_of c.args.charter = ap end_of (c.in-Ok.ensures.done.script_is ∙ script) in
    (took_both (trace_text c.args.charter) (end_of c.args.charter) s0 s1 s2 (took_same (trace_text c.in_ok-world.world.script) (trace_text c.args.charter) s0 s1 trace c.in-Ok.ensures.wrote) (took_same (end_of c.play.new.world.script) (end_of c.args.charter) s1 s2 end c.in_ok-write_end.ensures))

pub returns-clause-course : goal.returns-clause-course
returns-clause-course g c = c.in-Ok.ensures.course ∙ ap (λ (w : Played). course (trace_of w.script)) c.in_ok-world.ensures
