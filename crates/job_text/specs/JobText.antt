-- The line of a job in the report of work pulling.
use Rattle.std.specs.Prelude.{ℕ, List, [], ◌∷◌, ◌++◌, codes, decimal}
use Rattle.yard_model.specs.declared.event.Command.{Command}
use Rattle.yard_model.specs.Text.{Bytes, line, command_text, incarnation_text}
use Rattle.job_board.specs.declared.state.JobState.{JobState}
use Rattle.job_board.specs.declared.state.JobState.TheVariants as state

-- what is known of it
abbrev pub state_words : JobState → List Bytes
state_words state.Confirmed = codes "confirmed" ∷ []
state_words (state.Given x) = codes "given" ∷ incarnation_text x ∷ []
state_words s = codes "free" ∷ []

-- its name, its command, what is known of it, and how often it was done
abbrev pub job_line : List ℕ → Command → JobState → ℕ → Bytes
job_line entity command state dids = line (codes "job" ∷ entity ∷ command_text command ∷ (state_words state ++ codes "dids" ∷ decimal dids ∷ []))
