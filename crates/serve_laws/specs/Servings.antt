-- What is so of the desk, group after group.
use Rattle.std.specs.Prelude.{◌≡◌, ℕ, List, [], ◌∷◌, ◌++◌, filter, Option, Some, None, IsTrue}
use Rattle.yard_model.specs.declared.event.Command.{Command}
use Rattle.yard_model.specs.declared.event.Reply.{Reply}
use Rattle.yard_model.specs.declared.fact.Fact.{Fact}
use Rattle.yard_model.specs.declared.packet.Record.{Record}
use Rattle.yard_model.specs.Script.{Script}
use Rattle.log_resume.specs.Restored.{are_taken, entries}
use Rattle.grow_laws.specs.Once.{EachOnce}
use Rattle.apply_laws.specs.Applied.{is_done, lists_in}
use Rattle.serve_laws.specs.Hearing.{Done, after_all, heard}
use Rattle.serve_laws.specs.Hearings.{Asks, IsHeard, request_for}
use Rattle.serve_laws.specs.Served.{Desk, grouped, is_record_of, journal_in, reply_at, served}

-- Without settings nothing was written; with them the log's entries may stand behind one another.
abbrev pub IsLogOf : Option Script → List (List Fact) → Type 0
IsLogOf None log = log ≡ []
IsLogOf (Some c) log = IsHeard c × IsTrue (are_taken c (entries log))

abbrev pub IsDesk : Desk → Type 0
IsDesk d = IsLogOf d.so_far d.log

-- all that was accepted is queued, recorded and confirmed, and recorded once
abbrev pub IsDone : Option Script → List (List Fact) → Type 0
IsDone None log = Unit {0}
IsDone (Some c) log = IsTrue (is_done c log) × EachOnce c (lists_in c log)

-- a group leaves a desk, with nothing left to do
abbrev pub GroupedIsDesk : Type 0
GroupedIsDesk = (d : Desk) (ls : List (List ℕ)) → IsDesk d → IsDesk (grouped d ls) × IsDone (grouped d ls).so_far (grouped d ls).log

abbrev pub ServedIsDesk : Type 0
ServedIsDesk = (d : Desk) (groups : List (List (List ℕ))) → IsDesk d → IsDesk (served d groups)

-- and the log before is a front of it
abbrev pub LogStays : Type 0
LogStays = (d : Desk) (groups : List (List (List ℕ))) → (more : List (List Fact)) × ((served d groups).log ≡ d.log ++ more)

-- Right.

-- the journal has exactly one record of the producer with this place; it is of this command, and its reply is answered
pub record IsRight (c : Script) (log : List (List Fact)) (p : ℕ) (e : List ℕ) (n : ℕ) (k : Command) (r : Reply) : Type 0 where
  pub it : Record
  pub alone : filter (is_record_of p n) (journal_in c log e) ≡ it ∷ []
  pub command : it.command ≡ k
  pub reply : it.reply ≡ r
  pub answer : reply_at p n (journal_in c log e) ≡ Some r

abbrev pub Right : Desk → ℕ → List ℕ → ℕ → Command → Reply → Type 0
Right d p e n k r = (c : Script) × (d.so_far ≡ Some c) × IsRight c d.log p e n k r

-- a line of a group that is answered `done`: so it is of the command that it asks for, behind that group, and behind any later ones, with the same reply
abbrev pub DoneIsRight : Type 0
DoneIsRight = (d : Desk) (xs ys : List (List ℕ)) (line : List ℕ) (groups : List (List (List ℕ))) (p : ℕ) (e : List ℕ) (n : ℕ) → IsDesk d → (heard (after_all d.so_far xs) line).answer ≡ Done p e n
    → let first : Desk = grouped d (xs ++ line ∷ ys) in (k : Command) × (r : Reply) × Asks (after_all d.so_far xs) line (request_for p e n k) × Right first p e n k r × Right (served first groups) p e n k r
