-- What a log leaves: which slots are held at its end, and whether all that the script sends is confirmed.
use Rattle.std.specs.Prelude.{◌≡◌, ℕ, Bool, ◌==◌, List, [], ◌∷◌, ◌++◌, if◌then◌else◌}
use Rattle.std.specs.List.{flat_map, list_all}
use Rattle.yard_model.specs.declared.fact.Fact.{Fact}
use Rattle.yard_model.specs.declared.fact.Fact.TheVariants as fact
use Rattle.yard_model.specs.declared.incarnation.Cause.TheVariants as cause
use Rattle.yard_model.specs.declared.incarnation.Slot.{Slot}
use Rattle.yard_model.specs.Lawful.{is_held}
use Rattle.yard_model.specs.Script.{Script, count_to, sends, setting}
use Rattle.yard_model.specs.Setting.{producers}
use Rattle.yard_model.specs.SlotLists.{SlotLists, queue_list}
use Rattle.yard_model.specs.SlotReads.{confirmed, epoch}
use Rattle.yard_model.specs.Trace.{list_at, lists_of}
use Rattle.log_resume.specs.Restored.{entries, slots}

-- the lists of a log's entries
abbrev pub lists_in : Script → List (List Fact) → SlotLists
lists_in c log = lists_of (setting c) (entries log)

-- each slot that is held is freed
abbrev pub free_if : SlotLists → Slot → List Fact
free_if lists s = if is_held (list_at lists s) then fact.Freed s (epoch (list_at lists s)) cause.Stopped ∷ [] else []

abbrev pub frees : Script → SlotLists → List Fact
frees c lists = flat_map (free_if lists) (slots c)

-- of a producer with this queue, all that it sends is confirmed
abbrev pub sends_confirmed : Script → ℕ → List Fact → Bool
sends_confirmed c p list = list_all (λ e. confirmed e list == count_to e (sends c p)) (setting c).names

-- so it is of each producer
abbrev pub is_confirmed_all : Script → SlotLists → Bool
is_confirmed_all c lists = list_all (λ p. list_all (λ e. confirmed e (queue_list lists p) == count_to e (sends c p)) (setting c).names) (producers (setting c))

-- behind the old facts stands a front of these
pub record IsBegun (old all new : List Fact) : Type 0 where
  pub front : List Fact
  pub rest : List Fact
  pub all_are : all ≡ front ++ rest
  pub new_is : new ≡ old ++ front
