use Rattle.std.proofs.Common.{◌∙◌, ap}
use Rattle.run_parts.specs.declared.course.Course.{Course}
use Rattle.run_parts.specs.Stops.{course}
use Rattle.run_parts.proofs.WritingLaws.{after_nothing}
use Rattle.replay_run.proofs.json.json_of.Goals as goal

pub returns-clause-text : goal.returns-clause-text
returns-clause-text g c = after_nothing _ _ _ c.in_ok-tell_json.ensures.text c.new-text.ensures.items

pub returns-clause-stop : goal.returns-clause-stop
returns-clause-stop g c = ap (λ (k : Course). k.stop) (c.notes.ensures ∙ ap course c.in_ok-tell_json.ensures.told)
