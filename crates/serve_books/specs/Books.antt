-- What is kept between two groups.
use Rattle.std.specs.Prelude.{◌≡◌, ◌⊎◌, true, List, [], ◌∷◌, ◌++◌, IsTrue}
use Rattle.yard_model.specs.declared.fact.Fact.{Fact}
use Rattle.yard_model.specs.Lawful.{lawful}
use Rattle.yard_model.specs.Script.{Script}
use Rattle.yard_model.specs.Text.{Bytes}
use Rattle.shard_store.specs.Stores.{Shelves, lists_at}
use Rattle.disk_log.specs.Spelled.{AreBatches, IsBatch, lines}
use Rattle.log_resume.specs.Restored.{are_taken, entries}
use Rattle.apply_laws.specs.Applied.{is_done, lists_in}
use Rattle.serve_laws.specs.Hearing.{Answer, answers_all}
use Rattle.serve_laws.specs.Hearings.{IsHeard}
use Rattle.serve_laws.specs.Served.{Desk, grouped}
use Rattle.serve_laws.specs.Servings.{IsDesk}
use Rattle.serve_answers.specs.Told.{ReadsAs}

-- the charter is what was accepted, the batches may stand behind one another and have all of it done, and the stores have their lists
pub record IsKept (c charter : Script) (log : List (List Fact)) (stores : Shelves) : Type 0 where
  pub charter_is : charter ≡ c
  pub heard : IsHeard c
  pub taken : IsTrue (are_taken c (entries log))
  pub done : IsTrue (is_done c log)
  pub script : stores.script ≡ c
  pub same : ReadsAs c (lists_at c.config stores.places) (lists_in c log)
  pub lawful_is : lawful c (lists_at c.config stores.places) ≡ true
  pub are : AreBatches log

-- the log has one batch more, of this text; or none, where there is no text
abbrev pub Adds : List (List Fact) → List (List Fact) → Bytes → Type 0
Adds old new text = ((text ≡ []) × (new ≡ old)) ⊎ ((facts : List Fact) × (new ≡ old ++ facts ∷ []) × (lines facts ≡ text) × IsBatch facts)

-- these are the answers to a group that this desk stands behind
pub record AreOf (now : Desk) (told : List Answer) : Type 0 where
  pub before : Desk
  pub group : List Bytes
  pub is_desk : IsDesk before
  pub now_is : now ≡ grouped before group
  pub told_are : told ≡ answers_all before.so_far group
