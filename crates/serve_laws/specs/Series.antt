-- Runs one after the other, each cut off at any moment.
use Rattle.std.specs.Prelude.{◌≡◌, ◌⊎◌, ℕ, List, [], ◌∷◌, ◌++◌, take, Option, Some, None, IsTrue}
use Rattle.std.specs.List.{flat_map}
use Rattle.yard_model.specs.declared.event.Command.{Command}
use Rattle.yard_model.specs.declared.event.Reply.{Reply}
use Rattle.yard_model.specs.declared.fact.Fact.{Fact}
use Rattle.yard_model.specs.Lawful.{lawful}
use Rattle.yard_model.specs.Script.{Script}
use Rattle.yard_model.specs.Text.{Bytes}
use Rattle.grow_laws.specs.Once.{EachOnce}
use Rattle.apply_laws.specs.Applied.{lists_in}
use Rattle.serve_laws.specs.Hearing.{Done, after_all, heard}
use Rattle.serve_laws.specs.Hearings.{Asks, request_for}
use Rattle.serve_laws.specs.Served.{Desk, answers_in, empty_desk, found, frames, journal_in, reply_at, served}
use Rattle.serve_laws.specs.Servings.{IsRight, Right}
use Rattle.serve_laws.specs.Restarts.{AreAlike}

-- a run: the groups that it heard, and how many of them are on the disk when it ends or is killed; it answered none of the others
pub record Run : Type 0 where
  pub groups : List (List Bytes)
  pub kept : ℕ

abbrev pub kept_of : Run → List (List Bytes)
kept_of r = take r.kept r.groups

-- it begins with the desk that it finds, and leaves that behind its groups
abbrev pub behind_run : Desk → Run → Desk
behind_run d r = served (found d) (kept_of r)

abbrev pub behind_runs : Desk → List Run → Desk
behind_runs d [] = d
behind_runs d (r ∷ runs) = behind_runs (behind_run d r) runs

-- what is answered in all of them
abbrev pub told_by : Desk → List Run → Bytes
told_by d [] = []
told_by d (r ∷ runs) = answers_in (found d) (kept_of r) ++ told_by (behind_run d r) runs

-- RunsAreOne: one run that was never cut off, of the groups that they left, leaves the same on the disk, and answers the same; so numbers of a pair go on over all runs
abbrev pub RunsAreOne : Type 0
RunsAreOne = (runs : List Run) → let groups : List (List Bytes) = flat_map kept_of runs in
    AreAlike (served empty_desk groups).so_far (behind_runs empty_desk runs).so_far
    × (frames (behind_runs empty_desk runs) ≡ frames (served empty_desk groups))
    × (told_by empty_desk runs ≡ answers_in empty_desk groups)

-- What was told.

-- a `done`: the command, with its number in its pair, and the reply
pub record Told : Type 0 where
  pub producer : ℕ
  pub entity : List ℕ
  pub number : ℕ
  pub command : Command
  pub reply : Reply

-- the reply that an answer has
abbrev pub reply_in : Option Script → List (List Fact) → Told → Option Reply
reply_in None log t = None
reply_in (Some c) log t = reply_at t.producer t.number (journal_in c log t.entity)

-- in one of these groups a line asked for the command, and was answered `done` with that reply
pub record IsTold (d : Desk) (groups : List (List Bytes)) (t : Told) : Type 0 where
  pub front : List (List Bytes)
  pub before : List Bytes
  pub line : Bytes
  pub behind : List Bytes
  pub back : List (List Bytes)
  pub groups_are : groups ≡ front ++ (before ++ line ∷ behind) ∷ back
  pub asks : Asks (after_all (served d front).so_far before) line (request_for t.producer t.entity t.number t.command)
  pub done : (heard (after_all (served d front).so_far before) line).answer ≡ Done t.producer t.entity t.number
  pub reply : let after : Desk = served d (front ++ (before ++ line ∷ behind) ∷ []) in reply_in after.so_far after.log t ≡ Some t.reply

-- in one of these runs
abbrev pub ToldIn : Desk → List Run → Told → Type 0
ToldIn d [] t = ⊥
ToldIn d (r ∷ runs) t = IsTold (found d) (kept_of r) t ⊎ ToldIn (behind_run d r) runs t

-- ServedSeries: whatever was told in any run is so on the disk at the end of all
abbrev pub ServedSeries : Type 0
ServedSeries = (runs : List Run) (t : Told) → ToldIn empty_desk runs t → Right (behind_runs empty_desk runs) t.producer t.entity t.number t.command t.reply

-- ExactlyOnce: the lists of the log are lawful; of each pair the journals have exactly the accepted commands, once and in order; and of each that was told exactly one record, with its command and its reply
pub record ExactlyOnce (c : Script) (log : List (List Fact)) (Tells : Told → Type 0) : Type 0 where
  pub lawful_is : IsTrue (lawful c (lists_in c log))
  pub once : EachOnce c (lists_in c log)
  pub right : (t : Told) → Tells t → IsRight c log t.producer t.entity t.number t.command t.reply

-- SeriesIsExact: so it is behind runs
abbrev pub SeriesIsExact : Type 0
SeriesIsExact = (runs : List Run) (c : Script) → (behind_runs empty_desk runs).so_far ≡ Some c → ExactlyOnce c (behind_runs empty_desk runs).log (ToldIn empty_desk runs)
