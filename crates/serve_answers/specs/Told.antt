-- What a line is answered, as it is kept until the answers are written.
use Rattle.std.specs.Prelude.{◌≡◌, ℕ, List, [], ◌∷◌, filter, Some}
use Rattle.yard_model.specs.declared.charter.Config.{Config}
use Rattle.yard_model.specs.declared.packet.Record.{Record}
use Rattle.yard_model.specs.Script.{Script, setting}
use Rattle.yard_model.specs.Setting.{shard_of}
use Rattle.yard_model.specs.SlotLists.{SlotLists, shard_list}
use Rattle.yard_model.specs.SlotReads.{journal}
use Rattle.yard_model.specs.Text.{Bytes, line, report}
use Rattle.serve_laws.specs.Hearing.{Answer as Told, Conflict, Done, Gap, InForce, Others, Refused, Report, Show, Silent}
use Rattle.serve_laws.specs.Served.{answers, config_words, empty_desk, grouped, is_record_of, Desk}
use Rattle.yard_model.specs.declared.fact.Fact.{Fact}
use Rattle.serve_answers.specs.declared.answers.Answer.{Answer}
use Rattle.serve_answers.specs.declared.answers.Answer.TheVariants as answer
use Rattle.serve_answers.specs.declared.hearing.First.{First}
use Rattle.serve_answers.specs.declared.hearing.First.TheVariants as first

-- the desk of settings and what was accepted, with the batches on the disk
abbrev pub desk_at : Script → List (List Fact) → Desk
desk_at c log = record { so_far = Some c; log = log }

-- what is told of these lists is what is told of those: a free more changes nothing of it
pub record ReadsAs (c : Script) (lists others : SlotLists) : Type 0 where
  pub report_is : report (setting c) lists ≡ report (setting c) others
  pub journals : (s : ℕ) (e : Bytes) → journal e (shard_list lists s) ≡ journal e (shard_list others s)

-- settings that begin, with nothing accepted yet
abbrev pub begun : Config → Desk
begun config = grouped (desk_at (record { config = config; orders = [] }) []) []

abbrev pub answer_value : Answer → Told
answer_value answer.Silent = Silent
answer_value (answer.Refused w) = Refused w
answer_value answer.InForce = InForce
answer_value answer.Others = Others
answer_value (answer.Done p e n) = Done p e n
answer_value (answer.Gap p e n k) = Gap p e n k
answer_value (answer.Conflict p e n k) = Conflict p e n k
answer_value answer.Report = Report
answer_value (answer.Show e) = Show e

-- of settings that are in force now this is so
abbrev pub IfBegins : First → (Config → Type 0) → Type 0
IfBegins (first.Begins config) P = P config
IfBegins f P = Unit {0}

-- of one that is answered `done` this is so
abbrev pub IfDone : Told → (ℕ → List ℕ → ℕ → Type 0) → Type 0
IfDone (Done p e n) P = P p e n
IfDone a P = Unit {0}

-- the command of this number has one record
abbrev pub IsRecorded : Script → SlotLists → ℕ → List ℕ → ℕ → Type 0
IsRecorded c lists p e n = (r : Record) × (filter (is_record_of p n) (journal e (shard_list lists (shard_of (setting c) e))) ≡ r ∷ [])

-- so has each that is answered `done`
abbrev pub AreRecorded : Script → SlotLists → List Told → Type 0
AreRecorded c lists [] = Unit {0}
AreRecorded c lists (a ∷ more) = IfDone a (IsRecorded c lists) × AreRecorded c lists more

-- the answer to settings that are in force now
abbrev pub settings_told : Config → Bytes
settings_told config = line (config_words config)

-- what a line comes to where no settings are in force: its answer, or settings that are in force now
abbrev pub IsFirst : List Bytes → First → Type 0
IsFirst ls (first.Told text) = (grouped empty_desk ls ≡ empty_desk) × (answers empty_desk ls ≡ text.items)
IsFirst ls (first.Begins config) = (grouped empty_desk ls ≡ begun config) × (answers empty_desk ls ≡ settings_told config)
