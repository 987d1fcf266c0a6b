-- Where a trace stops: the line whose order would have posted a packet too many.
use Rattle.std.specs.Prelude.{ℕ, List, fold, Option, Some, None}
use Rattle.yard_model.specs.declared.fact.Fact.{Fact}
use Rattle.yard_model.specs.declared.fact.Fact.TheVariants as fact
use Rattle.run_parts.specs.declared.course.Course.{Course}

abbrev pub course_step : Course → Fact → Course
course_step old (fact.At n) = record { line = n; stop = old.stop }
course_step old fact.WireFull = record { line = old.line; stop = Some old.line }
course_step old f = old

abbrev pub start : Course
start = record { line = 0; stop = None }

-- what these facts tell
abbrev pub course : List Fact → Course
course facts = fold course_step start facts

-- the line of the last `at` before `wirefull`, where the trace has it
abbrev pub stop_in : List Fact → Option ℕ
stop_in facts = (course facts).stop
