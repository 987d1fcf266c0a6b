use Rattle.std.proofs.Common.{length, ap, subst, ◌∙◌}
use Rattle.yard_model.specs.Script.{Script}
use Rattle.yard_model.specs.World.{trace_of}
use Rattle.daemon_process.specs.Daemon.{expanded}
use Rattle.daemon_process.specs.Lines.{Drawn, IsDrawnOf}
use Rattle.run_parts.specs.declared.course.Course.{Course}
use Rattle.run_parts.specs.Stops.{course}
use Rattle.run_parts.proofs.WritingLaws.{after_nothing}
use Rattle.replay_run.proofs.daemon.drawn_text.Goals as goal

pub returns-clause-text : goal.returns-clause-text
returns-clause-text c =
    let full : Script = expanded c.args.count c.args.charter.now in
    let lines : Drawn = c.notes-daemon.result.now.lines in
    let drawn : IsDrawnOf (length lines.watch.here) lines (trace_of full) = subst (IsDrawnOf (length lines.watch.here) lines) c.requires.trace c.notes-daemon.ensures.1 in
    after_nothing _ _ _ c.in_ok-push_whole.ensures.text c.new-text.ensures.items
    ∙ c.drawn_is_text.ensures full c.args.count (length lines.watch.here) lines (trace_of full) c.push_whole.ensures.count c.daemon_holds.ensures.safe_is drawn

pub returns-clause-stop : goal.returns-clause-stop
returns-clause-stop c = ap (λ (k : Course). k.stop) (c.notes-daemon.ensures.0 ∙ ap course c.requires.trace)
