use Rattle.std.proofs.Common.{◌∙◌, ap, subst}
use Rattle.yard_model.specs.World.{trace_of}
use Rattle.bulk_gen.specs.Counted.{IsSummary}
use Rattle.run_parts.specs.declared.course.Course.{Course}
use Rattle.run_parts.specs.Stops.{course}
use Rattle.run_parts.proofs.WritingLaws.{after_nothing}
use Rattle.replay_run.proofs.bulk.counted_text.Goals as goal

pub returns-clause-text : goal.returns-clause-text
returns-clause-text c = after_nothing _ _ _ (c.in_ok-push_summary.ensures (trace_of c.args.charter.now) c.requires.script (subst (IsSummary c.notes-counts.result.now.summary) c.requires.trace c.notes-counts.ensures.1)) c.new-text.ensures.items

pub returns-clause-stop : goal.returns-clause-stop
returns-clause-stop c = ap (λ (k : Course). k.stop) (c.notes-counts.ensures.0 ∙ ap course c.requires.trace)
