-- What `serve` keeps, writes and answers, group after group of lines.
use Rattle.std.specs.Prelude.{ℕ, Bool, true, false, ◌==◌, ◌&&◌, codes, decimal, if◌then◌else◌, List, [], ◌∷◌, ◌++◌, length, map, Option, Some, None}
use Rattle.std.specs.List.{flat_map}
use Rattle.yard_model.specs.declared.charter.Config.{Config}
use Rattle.yard_model.specs.declared.event.Kind.{Kind}
use Rattle.yard_model.specs.declared.event.Kind.TheVariants as kind
use Rattle.yard_model.specs.declared.event.Reply.{Reply}
use Rattle.yard_model.specs.declared.fact.Fact.{Fact}
use Rattle.yard_model.specs.declared.packet.Record.{Record}
use Rattle.yard_model.specs.Behaviour.{folded}
use Rattle.yard_model.specs.Script.{Script, setting}
use Rattle.yard_model.specs.Setting.{shard_of}
use Rattle.yard_model.specs.SlotLists.{shard_list}
use Rattle.yard_model.specs.SlotReads.{journal}
use Rattle.yard_model.specs.Text.{Bytes, command_text, line, reply_text, report, state_text}
use Rattle.script_text.specs.Faults.{number_of}
use Rattle.disk_log.specs.Spelled.{lines}
use Rattle.log_resume.specs.Restored.{entries}
use Rattle.apply_laws.specs.Applied.{lists_in, log_after}
use Rattle.serve_laws.specs.Queues.{sends_of}
use Rattle.serve_laws.specs.Hearing.{Answer, Silent, Refused, InForce, Others, Done, Gap, Conflict, Report, Show, after_all, answers_all, heard}

-- what is kept: the settings and what was accepted, and the batches on the disk
pub record Desk : Type 0 where
  pub so_far : Option Script
  pub log : List (List Fact)

abbrev pub empty_desk : Desk
empty_desk = record { so_far = None; log = [] }

-- The settings' line.

abbrev pub switch_text : Bool → Bytes
switch_text true = codes "on"
switch_text false = codes "off"

abbrev pub kind_text : Kind → Bytes
kind_text kind.Counter = codes "counter"
kind_text kind.Account = codes "account"
kind_text kind.Cart = codes "cart"

abbrev pub config_words : Config → List Bytes
config_words c =
    codes "config" ∷ (codes "nodes=" ++ decimal c.nodes) ∷ (codes "shards=" ++ decimal c.shards) ∷ (codes "producers=" ++ decimal c.producers) ∷ (codes "buffer=" ++ decimal c.buffer)
    ∷ (codes "window=" ++ decimal c.window) ∷ (codes "snapshot=" ++ decimal c.snapshot) ∷ (codes "keep=" ++ decimal c.keep) ∷ (codes "remember=" ++ switch_text c.remember)
    ∷ (codes "kind=" ++ kind_text c.kind) ∷ []

-- The log.

abbrev pub head_of : Option Script → List Bytes
head_of None = []
head_of (Some c) = line (config_words c.config) ∷ []

-- the texts of its frames
abbrev pub frames : Desk → List Bytes
frames d = head_of d.so_far ++ map lines d.log

-- what was accepted is carried out
abbrev pub log_of : Option Script → List (List Fact) → List (List Fact)
log_of None log = log
log_of (Some c) log = log_after c log

-- after the lines of a group; nothing is written where nothing was accepted
abbrev pub grouped : Desk → List Bytes → Desk
grouped d ls = record { so_far = after_all d.so_far ls; log = log_of (after_all d.so_far ls) d.log }

-- after groups
abbrev pub served : Desk → List (List Bytes) → Desk
served d [] = d
served d (ls ∷ groups) = served (grouped d ls) groups

-- The groups of the lines that one read ends: until settings are in force each line is one of its own, so these are on disk before a command is carried out; all lines behind them are one.
abbrev pub groups_of : Option Script → List Bytes → List (List Bytes)
groups_of (Some c) ls = ls ∷ []
groups_of None [] = []
groups_of None (l ∷ ls) = (l ∷ []) ∷ groups_of (heard None l).so_far ls

-- Answers.

abbrev pub is_record_of : ℕ → ℕ → Record → Bool
is_record_of p n r = (r.producer == p) && (r.place == n)

-- the reply of the record that P's command N has
abbrev pub reply_at : ℕ → ℕ → List Record → Option Reply
reply_at p n [] = None
reply_at p n (r ∷ rs) = if is_record_of p n r then Some r.reply else reply_at p n rs

abbrev pub reply_words : Option Reply → List Bytes
reply_words None = []
reply_words (Some r) = reply_text r ∷ []

-- an entity's journal in these lists
abbrev pub journal_in : Script → List (List Fact) → List ℕ → List Record
journal_in c log e = journal e (shard_list (lists_in c log) (shard_of (setting c) e))

abbrev pub entity_words : Script → List ℕ → List Record → List Bytes
entity_words c e records =
    codes "entity" ∷ e ∷ codes "shard" ∷ decimal (shard_of (setting c) e) ∷ codes "records" ∷ decimal (length records) ∷ codes "state" ∷ state_text (folded c.config.kind records) ∷ []

-- where settings are in force
abbrev pub text_in : Script → List (List Fact) → Answer → Bytes
text_in c log Silent = []
text_in c log (Refused w) = line (codes "refused" ∷ decimal (number_of w) ∷ [])
text_in c log InForce = line (config_words c.config)
text_in c log Others = line (codes "conflict" ∷ config_words c.config)
text_in c log (Done p e n) = line (codes "done" ∷ decimal p ∷ e ∷ decimal n ∷ reply_words (reply_at p n (journal_in c log e)))
text_in c log (Gap p e n k) = line (codes "gap" ∷ decimal p ∷ e ∷ decimal n ∷ codes "next" ∷ decimal k ∷ [])
text_in c log (Conflict p e n k) = line (codes "conflict" ∷ decimal p ∷ e ∷ decimal n ∷ command_text k ∷ [])
text_in c log Report = report (setting c) (lists_in c log)
text_in c log (Show e) = line (entity_words c e (journal_in c log e))

-- where none are, lines are refused or have no answer
abbrev pub text_before : Answer → Bytes
text_before (Refused w) = line (codes "refused" ∷ decimal (number_of w) ∷ [])
text_before a = []

abbrev pub text_for : Option Script → List (List Fact) → Answer → Bytes
text_for None log a = text_before a
text_for (Some c) log a = text_in c log a

abbrev pub answer_text : Desk → Answer → Bytes
answer_text d a = text_for d.so_far d.log a

-- what a group is answered: of what is on disk behind it
abbrev pub answers : Desk → List Bytes → Bytes
answers d ls = flat_map (answer_text (grouped d ls)) (answers_all d.so_far ls)

-- groups, one after the other
abbrev pub answers_in : Desk → List (List Bytes) → Bytes
answers_in d [] = []
answers_in d (ls ∷ groups) = answers d ls ++ answers_in (grouped d ls) groups

-- The desk that a log alone says.

-- these settings, and the sends of the `queued` entries
abbrev pub desk_of : Config → List (List Fact) → Desk
desk_of config log = record { so_far = Some (record { config = config; orders = flat_map sends_of (entries log) }); log = log }

-- the desk that a run finds where this one was left: what was accepted is read off the log
abbrev pub found_in : Option Script → List (List Fact) → Desk
found_in None log = record { so_far = None; log = log }
found_in (Some c) log = desk_of c.config log

abbrev pub found : Desk → Desk
found d = found_in d.so_far d.log
