-- What follows from guards.
use Rattle.std.specs.Prelude.{◌≡◌, ℕ, ◌<◌, List, [], ◌++◌, length, fold, IsTrue}
use Rattle.yard_model.specs.declared.fact.Fact.{Fact}
use Rattle.yard_model.specs.declared.incarnation.Slot.TheVariants as slot
use Rattle.yard_model.specs.Script.{Script, setting}
use Rattle.yard_model.specs.Lawful.{own}
use Rattle.yard_model.specs.SlotLists.{SlotLists, shard_list, queue_list}
use Rattle.yard_model.specs.Trace.{lists_of}
use Rattle.yard_model.specs.Era.{Era, era_step}
use Rattle.yard_model.specs.Safe.{is_safe_now, safe_from}
use Rattle.yard_model.specs.Guards.{guarded_after, guarded}

-- there is a list for each slot, and each is lawful by itself
pub record Owns (c : Script) (lists : SlotLists) : Type 0 where
  pub shards : length lists.shards ≡ c.config.shards
  pub queues : length lists.queues ≡ c.config.producers
  pub shard : (k : ℕ) → IsTrue (own c (slot.Shard k) (shard_list lists k))
  pub coordinator : IsTrue (own c slot.Coordinator lists.coordinator)
  pub queue : (p : ℕ) → 0 < p → IsTrue (own c (slot.Queue p) (queue_list lists p))

-- where a trace is safe now, the list of each slot is lawful by itself
abbrev pub SafeIsOwn : Type 0
SafeIsOwn = (c : Script) (trace : List Fact) → IsTrue (is_safe_now c trace) → Owns c (lists_of (setting c) trace)

-- so it is after guarded facts
abbrev pub GuardedIsOwn : Type 0
GuardedIsOwn = (c : Script) (trace : List Fact) → IsTrue (guarded c trace) → Owns c (lists_of (setting c) trace)

-- a guarded trace is safe now
abbrev pub GuardedIsSafeNow : Type 0
GuardedIsSafeNow = (c : Script) (trace : List Fact) → IsTrue (guarded c trace) → IsTrue (is_safe_now c trace)

-- before the first fact it is safe
abbrev pub SafeBegins : Type 0
SafeBegins = (c : Script) → IsTrue (is_safe_now c [])

-- after guarded facts it is safe again
abbrev pub SafeGoesOn : Type 0
SafeGoesOn = (c : Script) (trace fs : List Fact) → IsTrue (is_safe_now c trace) → IsTrue (guarded_after c trace fs) → IsTrue (is_safe_now c (trace ++ fs))

-- and at each prefix of them: guarded facts stay within the era
pub record GoesSafely (c : Script) (trace fs : List Fact) : Type 0 where
  pub safe : IsTrue (safe_from (record { script = c; trace = trace }) fs)
  pub era : fold era_step (record { script = c; trace = trace }) fs ≡ record { script = c; trace = trace ++ fs }

abbrev pub GuardedIsSafe : Type 0
GuardedIsSafe = (c : Script) (trace fs : List Fact) → IsTrue (is_safe_now c trace) → IsTrue (guarded_after c trace fs) → GoesSafely c trace fs

-- what is safe, and safe from the era where it ends, is safe together
abbrev pub SafeBoth : Type 0
SafeBoth = (era : Era) (fs gs : List Fact) → IsTrue (safe_from era fs) → IsTrue (safe_from (fold era_step era fs) gs) → IsTrue (safe_from era (fs ++ gs))
