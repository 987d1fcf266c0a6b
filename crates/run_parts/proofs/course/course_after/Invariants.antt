use Rattle.std.proofs.Common.{◌≡◌, drop}
use Rattle.std.specs.Prelude.{fold}
use Rattle.run_parts.specs.Stops.{course_step}
use Rattle.run_parts.proofs.course.course_after.Given as goal

-- the facts that are left lead from the course so far to the one after all
abbrev pub invariant-loop-fact : goal.invariant-loop-fact
invariant-loop-fact l = fold course_step l.course (drop l.fact-index l.facts) ≡ fold course_step l.initial.course l.facts
