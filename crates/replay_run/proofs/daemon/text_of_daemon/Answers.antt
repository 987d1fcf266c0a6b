use Rattle.replay_run.proofs.DaemonLaws.{is_pinged}
use Rattle.std.proofs.Common.{ap, ◌∙◌}
use Rattle.yard_model.specs.World.{trace_of}
use Rattle.replay_run.proofs.daemon.text_of_daemon.Goals as goal

pub expand-requires-clause-pinged : goal.expand-requires-clause-pinged
expand-requires-clause-pinged c = is_pinged c.args.charter.now c.requires.fit c.requires.few

pub drawn_text-requires-clause-trace : goal.drawn_text-requires-clause-trace
drawn_text-requires-clause-trace c = c.in_ok-tell_trace.ensures ∙ ap trace_of c.in_ok-full.ensures
