-- Safety of a trace: one live instance of an entity, states that are the journals', lawful lists at each prefix.
use Rattle.std.specs.Prelude.{ℕ, Bool, true, false, ◌==◌, ◌&&◌, List, [], ◌∷◌, ◌++◌, length, fold, not, Option, if◌then◌else◌}
use Rattle.std.specs.List.{list_all}
use Rattle.std.specs.Option.{option_map_or}
use Rattle.yard_model.specs.declared.fact.Fact.{Fact}
use Rattle.yard_model.specs.declared.fact.Fact.TheVariants as fact
use Rattle.yard_model.specs.declared.packet.Record.{Record}
use Rattle.yard_model.specs.declared.incarnation.Incarnation.{Incarnation}
use Rattle.yard_model.specs.declared.state.State.{State}
use Rattle.yard_model.specs.Script.{Script, is_name, setting}
use Rattle.yard_model.specs.Setting.{shard_of}
use Rattle.yard_model.specs.Words.{is_at, is_empty, without}
use Rattle.yard_model.specs.Equal.{is_state}
use Rattle.yard_model.specs.Genuine.{is_slot_of, is_brought}
use Rattle.yard_model.specs.Behaviour.{folded}
use Rattle.yard_model.specs.SlotLists.{shard_list}
use Rattle.yard_model.specs.SlotReads.{holder, epoch, journal}
use Rattle.yard_model.specs.Trace.{slot_of, lists_of}
use Rattle.yard_model.specs.Era.{Era, first_era, era_step, version_in}
use Rattle.yard_model.specs.Lawful.{is_decided, lawful}

-- Live.

abbrev pub live_step : List ℕ → List Incarnation → Fact → List Incarnation
live_step e old (fact.Start x y) = if is_name y e then without x old ++ x ∷ [] else old
live_step e old (fact.Stop x y) = if is_name y e then without x old else old
live_step e old (fact.WriteFailed x y) = if is_name y e then without x old else old
live_step e old (fact.Gone x) = without x old
live_step e old f = old

-- where e is live: a `start X e` with no later `stop X e`, `writefailed X e` or `gone X`
abbrev pub live_at : List ℕ → List Fact → List Incarnation
live_at e trace = fold (live_step e) [] trace

-- what the trace lists of the shard of e
abbrev pub shard_list_of : Script → List ℕ → List Fact → List Fact
shard_list_of c e trace = shard_list (lists_of (setting c) trace) (shard_of (setting c) e)

-- Safe, at each prefix.

-- at most one, and that is the holder
abbrev pub at_most_holder : Option Incarnation → List Incarnation → Bool
at_most_holder h [] = true
at_most_holder h (x ∷ []) = is_at x h
at_most_holder h (x ∷ y ∷ xs) = false

-- e is live at one incarnation at most, and that one holds the lease of its shard
abbrev pub one_live : Script → List Fact → List ℕ → Bool
one_live c trace e = at_most_holder (holder (shard_list_of c e trace)) (live_at e trace)

-- so many records, and the state that they fold to
abbrev pub is_journal_state : Script → ℕ → State → List Record → Bool
is_journal_state c m st records = (m == length records) && is_state st (folded c.config.kind records)

-- a name and a slot are the script's; a record is written where the entity is live, under the epoch of its shard's lease, and is decided in the version in force; an Active entity's records and state are its journal's; where the number of shards changes, nothing is live
abbrev pub shows : Script → List Fact → Fact → Bool
shows c trace (fact.Start x e) = is_brought c e
shows c trace (fact.Wrote e r) = not (is_empty (live_at e trace)) && (r.epoch == epoch (shard_list_of c e trace)) && is_decided (version_in trace) c (journal e (shard_list_of c e trace)) r
shows c trace (fact.Active x e m st) = is_journal_state c m st (journal e (shard_list_of c e trace))
shows c trace (fact.Reshard n k) = list_all (λ e. is_empty (live_at e trace)) (setting c).names
shows c trace (fact.Resharded s n k) = false
shows c trace f = option_map_or (is_slot_of c) (slot_of (setting c) f) true

abbrev pub is_safe_now : Script → List Fact → Bool
is_safe_now c trace = list_all (one_live c trace) (setting c).names && lawful c (lists_of (setting c) trace)

-- from an era on, at each prefix
abbrev pub safe_from : Era → List Fact → Bool
safe_from era [] = is_safe_now era.script era.trace
safe_from era (f ∷ fs) = is_safe_now era.script era.trace && shows era.script era.trace f && safe_from (era_step era f) fs

-- Safe: OneLive, StateShown, and Lawful of the lists at each prefix
abbrev pub safe : Script → List Fact → Bool
safe c trace = safe_from (first_era c) trace
