-- What a fact changes of the trace's words: the list of its slot, and who is live by its actor. So an actor guards its facts by its own part of them.
use Rattle.std.specs.Prelude.{◌≡◌, ◌≢◌, ℕ, Bool, true, false, ◌&&◌, nat_le, not, List, [], ◌∷◌, ◌++◌, Option, Some, None, IsTrue}
use Rattle.std.specs.List.{list_all}
use Rattle.std.specs.Option.{option_map_or}
use Rattle.yard_model.specs.Era.{version_in}
use Rattle.yard_model.specs.Lawful.{is_decided}
use Rattle.yard_model.specs.declared.fact.Fact.{Fact}
use Rattle.yard_model.specs.declared.fact.Fact.TheVariants as fact
use Rattle.yard_model.specs.declared.incarnation.Incarnation.{Incarnation}
use Rattle.yard_model.specs.declared.incarnation.Slot.{Slot}
use Rattle.yard_model.specs.declared.incarnation.Slot.TheVariants as slot
use Rattle.yard_model.specs.Script.{Script, setting}
use Rattle.yard_model.specs.Setting.{names_of}
use Rattle.yard_model.specs.Words.{is_at, is_among}
use Rattle.yard_model.specs.Genuine.{is_slot_of, is_brought}
use Rattle.yard_model.specs.SlotLists.{shard_list}
use Rattle.yard_model.specs.SlotReads.{holder, journal, position}
use Rattle.yard_model.specs.Trace.{slot_of, list_at, lists_of}
use Rattle.yard_model.specs.Safe.{live_at, shard_list_of, one_live, is_journal_state}
use Rattle.yard_model.specs.Guards.{own_guard, guard}

-- an entry stands at the end of its slot's list
abbrev pub ListGrows : Type 0
ListGrows = (c : Script) (trace : List Fact) (f : Fact) (s : Slot) → slot_of (setting c) f ≡ Some s → IsTrue (is_slot_of c s)
    → list_at (lists_of (setting c) (trace ++ f ∷ [])) s ≡ list_at (lists_of (setting c) trace) s ++ f ∷ []

-- and the lists of the other slots stay
abbrev pub OtherListsStay : Type 0
OtherListsStay = (c : Script) (trace : List Fact) (f : Fact) (s : Slot) → slot_of (setting c) f ≢ Some s → IsTrue (is_slot_of c s) → IsTrue (option_map_or (is_slot_of c) (slot_of (setting c) f) true)
    → list_at (lists_of (setting c) (trace ++ f ∷ [])) s ≡ list_at (lists_of (setting c) trace) s

-- whose live entities a fact changes
abbrev pub starter : Fact → Option Incarnation
starter (fact.Start x e) = Some x
starter (fact.Stop x e) = Some x
starter (fact.WriteFailed x e) = Some x
starter (fact.Gone x) = Some x
starter f = None

-- what is live at any other incarnation stays so
abbrev pub OthersLiveOn : Type 0
OthersLiveOn = (e : List ℕ) (trace : List Fact) (f : Fact) (x : Incarnation) → is_at x (starter f) ≡ false → is_among x (live_at e (trace ++ f ∷ [])) ≡ is_among x (live_at e trace)

-- the guard of a fact of x by what x has: it starts a name of the script that isn't live at it, of a shard that it holds, writes what is live at it, as the version in force decides, and frees what it holds where none of it is live at it
abbrev pub guard_at : Incarnation → Script → List Fact → Fact → Bool
guard_at x c trace (fact.Start y e) = is_brought c e && is_at y (holder (shard_list_of c e trace)) && not (is_among y (live_at e trace))
guard_at x c trace (fact.Wrote e r) = is_among x (live_at e trace) && is_decided (version_in trace) c (journal e (shard_list_of c e trace)) r
guard_at x c trace (fact.Freed (slot.Shard s) n why) = is_at x (holder (shard_list (lists_of (setting c) trace) s)) && list_all (λ e. not (is_among x (live_at e trace))) (names_of (setting c) s)
guard_at x c trace (fact.Active y e m st) = is_journal_state c m st (journal e (shard_list_of c e trace))
guard_at x c trace (fact.Confirmed p e n) = nat_le n (position p (journal e (shard_list_of c e trace)))
guard_at x c trace (fact.Upgrade v) = false
guard_at x c trace f = true

-- where at most one is live of each name, at the holder of its shard, that is the guard by all
abbrev pub GuardedByItsActor : Type 0
GuardedByItsActor = (x : Incarnation) (c : Script) (trace : List Fact) (f : Fact) → IsTrue (list_all (one_live c trace) (setting c).names)
    → IsTrue (own_guard c trace f (slot_of (setting c) f)) → IsTrue (guard_at x c trace f) → IsTrue (guard c trace f)
