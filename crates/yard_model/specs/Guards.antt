-- Guards: what makes a fact safe after a safe trace, within an era. Who reads what is safe needs none of it.
use Rattle.std.specs.Prelude.{Bool, true, false, ◌&&◌, List, [], ◌∷◌, ◌++◌, fold, not, nat_le, Option, Some, None, if◌then◌else◌}
use Rattle.std.specs.List.{list_all}
use Rattle.yard_model.specs.declared.fact.Fact.{Fact}
use Rattle.yard_model.specs.declared.fact.Fact.TheVariants as fact
use Rattle.yard_model.specs.declared.incarnation.Slot.{Slot}
use Rattle.yard_model.specs.declared.incarnation.Slot.TheVariants as slot
use Rattle.yard_model.specs.Script.{Script, setting}
use Rattle.yard_model.specs.Setting.{names_of}
use Rattle.yard_model.specs.Words.{is_at, is_empty}
use Rattle.yard_model.specs.Genuine.{is_slot_of, is_brought}
use Rattle.yard_model.specs.SlotReads.{holder, journal, position}
use Rattle.yard_model.specs.Trace.{slot_of, list_at, lists_of}
use Rattle.yard_model.specs.Follow.{each_follows}
use Rattle.yard_model.specs.Era.{version_in}
use Rattle.yard_model.specs.Lawful.{is_decided, may_follow}
use Rattle.yard_model.specs.Safe.{live_at, shard_list_of, is_journal_state, is_safe_now}

abbrev pub own_guard : Script → List Fact → Fact → Option Slot → Bool
own_guard c trace f None = true
own_guard c trace f (Some s) = is_slot_of c s && may_follow c s (list_at (lists_of (setting c) trace) s) f

-- the holder of its shard starts an entity that isn't live; a live one writes; a shard is freed when none of its entities is live; an Active one is its journal; a confirmed number is recorded
abbrev pub cross_guard : Script → List Fact → Fact → Bool
cross_guard c trace (fact.Start x e) = is_brought c e && is_at x (holder (shard_list_of c e trace)) && is_empty (live_at e trace)
cross_guard c trace (fact.Wrote e r) = not (is_empty (live_at e trace)) && is_decided (version_in trace) c (journal e (shard_list_of c e trace)) r
cross_guard c trace (fact.Freed (slot.Shard s) n why) = list_all (λ e. is_empty (live_at e trace)) (names_of (setting c) s)
cross_guard c trace (fact.Active x e m st) = is_journal_state c m st (journal e (shard_list_of c e trace))
cross_guard c trace (fact.Confirmed p e n) = nat_le n (position p (journal e (shard_list_of c e trace)))
cross_guard c trace (fact.Upgrade v) = false
cross_guard c trace f = true

-- a fact is guarded after these: an entry may follow in the list of its slot, and what other lists and live entities have to say
abbrev pub guard : Script → List Fact → Fact → Bool
guard c trace f = own_guard c trace f (slot_of (setting c) f) && cross_guard c trace f

-- each fact is guarded, after these
abbrev pub guarded_after : Script → List Fact → List Fact → Bool
guarded_after c opening fs = each_follows (guard c) opening fs

-- what a version begins with: an era's opening ends so, too
abbrev pub opens : Fact → Bool
opens (fact.Upgrade v) = true
opens f = false

-- the facts up to the last such, and those since
pub record Opened : Type 0 where
  pub opening : List Fact
  pub since : List Fact

abbrev pub opened_step : Opened → Fact → Opened
opened_step old f =
    if opens f
    then record { opening = (old.opening ++ old.since) ++ f ∷ []; since = [] }
    else record { opening = old.opening; since = old.since ++ f ∷ [] }

abbrev pub opened : List Fact → Opened
opened trace = fold opened_step (record { opening = []; since = [] }) trace

-- a guarded trace, within an era: it was safe when the version came into force, and each fact since is guarded
abbrev pub guarded : Script → List Fact → Bool
guarded c trace = let o : Opened = opened trace in is_safe_now c o.opening && guarded_after c o.opening o.since
