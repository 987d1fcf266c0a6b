-- What is restored is settled, and what it comes to.
use Rattle.std.proofs.Common.{◌≡◌, ◌≤◌, ℕ, sym, ap, ◌∙◌, refl, subst, length}
use Rattle.std.specs.Prelude.{Bool, true, false, ◌==◌, List, [], ◌∷◌, ◌++◌, Option, Some, None, IfSome, IsSome, IsTrue, if◌then◌else◌}
use Rattle.std.specs.List.{list_any}
use Rattle.yard_model.specs.declared.charter.Line.{Line}
use Rattle.yard_model.specs.declared.fact.Fact.{Fact}
use Rattle.yard_model.specs.Lawful.{lawful}
use Rattle.yard_model.specs.Script.{Script, is_upgrade, is_version}
use Rattle.yard_model.specs.Settled.{settled}
use Rattle.yard_model.specs.SlotLists.{SlotLists}
use Rattle.yard_model.specs.World.{Made, all_sends, given_world, is_any_up, settled_from, wire_limit}
use Rattle.shard_store.specs.declared.store.Store.{Store}
use Rattle.shard_store.specs.Stores.{lists_at}
use Rattle.settle_laws.specs.Settles.{most_deliveries}
use Rattle.world_sim.specs.Given.{Given, IsGiven}
use Rattle.world_sim.specs.Played.{Played, WasSettled, made_at}
use Rattle.log_resume.specs.Left.{is_confirmed_all}
use Rattle.log_resume.specs.Restored.{MayGoOn, are_taken, entries, restored}
use Rattle.apply_laws.specs.Applied.{frees, is_done, lists_in}
use Rattle.apply_laws.specs.Applying.{ConfirmedIsDone, RestoredIsDone}
use Rattle.resume_run.proofs.ResumeLaws as resume
use Rattle.apply_run.specs.Applying.{lists_behind, told_behind}

-- what a log comes to may be settled, in version 1
first_version : (c : Script) → is_version c 1 ≡ true
first_version c = by (list_any (λ (l : Line). is_upgrade l.order) c.orders)
  where
    by : (b : Bool) → list_any (λ w. w == 1) (if b then 1 ∷ 2 ∷ [] else 1 ∷ []) ≡ true
    by true = refl
    by false = refl

pub may_settle : (c : Script) (version : ℕ) (lists : SlotLists) → version ≡ 1 → most_deliveries (given_world c 1 lists) ≤ wire_limit → MayGoOn c lists → IsGiven c version lists
may_settle c version lists first fits on = subst (λ v. IsGiven c v lists) (sym first) (resume.may_settle c 1 lists (first_version c) fits on)

-- what the world of given stores settles to
module _ (c : Script) (version : ℕ) (given : SlotLists) (w v : Played) (before after : List Fact) (d : Script) (places : List (Option Store)) (first : version ≡ 1)
    (is : w ≡ record { script = c; given = Some (record { version = version; lists = given }); count = 0; fault = None }) (told : IfSome w.given (λ g. WasSettled w g before v after))
    (same : is_any_up (made_at v).world ≡ false → lists_at d.config places ≡ (made_at v).world.lists) (script : IsSome v.given → d ≡ v.script) where
  abbrev g : Given
  g = record { version = version; lists = given }

  abbrev began : Played
  began = record { script = c; given = Some g; count = 0; fault = None }

  pub was : WasSettled began g before v after
  was = subst (λ (x : Played). IfSome x.given (λ o. WasSettled x o before v after)) is told

  pub its : d ≡ c
  its = subst (λ (x : Played). IsSome x.given → d ≡ x.script) was.new_is script refl

  here : is_any_up (settled_from c version given).world ≡ false → lists_at d.config places ≡ (settled_from c version given).world.lists
  here = subst (λ (x : Played). is_any_up (made_at x).world ≡ false → lists_at d.config places ≡ (made_at x).world.lists) was.new_is same

  pub lists_are : lists_at c.config places ≡ (settled_from c 1 given).world.lists
  lists_are = ap (λ (x : Script). lists_at x.config places) (sym its) ∙ (here was.ends.ends.none_up ∙ ap (λ v. (settled_from c v given).world.lists) first)

  pub facts_are : after ≡ before ++ (settled_from c 1 given).facts
  facts_are = was.facts_are ∙ ap (λ v. before ++ (settled_from c v given).facts) first

  pub lawful_are : lawful c (lists_at c.config places) ≡ true
  lawful_are = ap (lawful c) lists_are ∙ (ap (λ v. lawful c (settled_from c v given).world.lists) (sym first) ∙ was.ends.ends.lawful_is)

-- it is so exactly where nothing is left to do
pub done_is : ConfirmedIsDone → RestoredIsDone → (c : Script) (log : List (List Fact)) (b : Bool) → lawful c (restored c log) ≡ true → are_taken c (entries log) ≡ true → b ≡ is_confirmed_all c (restored c log) → b ≡ is_done c log
done_is confirmed back c log b law taken is = is ∙ (sym (confirmed c (restored c log) law) ∙ back c log taken)

-- what is told, and the lists
pub told_is : (c : Script) (log : List (List Fact)) (b : Bool) (lists : SlotLists) (freed before after : List Fact) → b ≡ is_done c log → lists ≡ restored c log → freed ≡ frees c (lists_in c log)
    → after ≡ before ++ (if b then [] else freed ++ (settled_from c 1 lists).facts) → after ≡ before ++ told_behind c log
told_is c log b lists freed before after done is frees_are told =
    told ∙ ap (λ l. before ++ l) (ap (λ x. if x then [] else freed ++ (settled_from c 1 lists).facts) done
    ∙ ap (λ l. if is_done c log then [] else l) (ap (λ l. l ++ (settled_from c 1 lists).facts) frees_are ∙ ap (λ l. frees c (lists_in c log) ++ (settled_from c 1 l).facts) is))

pub lists_is : (c : Script) (log : List (List Fact)) (b : Bool) (lists new : SlotLists) → b ≡ is_done c log → lists ≡ restored c log → new ≡ (if b then lists else (settled_from c 1 lists).world.lists) → new ≡ lists_behind c log
lists_is c log b lists new done is came =
    came ∙ (ap (λ x. if x then lists else (settled_from c 1 lists).world.lists) done ∙ ap (λ l. if is_done c log then l else (settled_from c 1 l).world.lists) is)
