-- The first fact after which a trace isn't safe; and the facts of which safety says nothing.
use Rattle.std.specs.Prelude.{◌≡◌, ℕ, ◌+◌, ◌<◌, Bool, true, false, List, [], ◌∷◌, ◌++◌, filter, is_none, length, take, Option, Some, None}
use Rattle.std.specs.List.{slice_get}
use Rattle.yard_model.specs.declared.fact.Fact.{Fact}
use Rattle.yard_model.specs.declared.fact.Fact.TheVariants as fact
use Rattle.yard_model.specs.Safe.{is_safe_now, safe}
use Rattle.yard_model.specs.Script.{Script}
use Rattle.judge_laws.specs.declared.breach.Breach.{Breach}
use Rattle.judge_laws.specs.Breached.{breach_of}
use Rattle.judge_laws.specs.Judged.{is_plain, is_reshard}

pub record Broken : Type 0 where
  pub place : ℕ  -- of the fact, from 0
  pub why : Breach

abbrev pub broken_by : ℕ → Option Breach → Option Broken → Option Broken
broken_by k None rest = rest
broken_by k (Some b) rest = Some (record { place = k; why = b })

-- the first of these facts that is a breach, from this place on, after those
abbrev pub broken_from : Script → ℕ → List Fact → List Fact → Option Broken
broken_from c k before [] = None
broken_from c k before (f ∷ fs) = broken_by k (breach_of c before f) (broken_from c (k + 1) (before ++ f ∷ []) fs)

abbrev pub broken_in : Script → List Fact → Option Broken
broken_in c trace = broken_from c 0 [] trace

-- the trace is safe up to this fact, which is this breach; and where it doesn't change the number of shards, it isn't safe with it
pub record IsBroken (c : Script) (trace : List Fact) (x : Broken) : Type 0 where
  pub it : Fact
  pub there : slice_get trace x.place ≡ Some it
  pub why : breach_of c (take x.place trace) it ≡ Some x.why
  pub before : safe c (take x.place trace) ≡ true
  pub with_it : is_reshard it ≡ false → safe c (take (x.place + 1) trace) ≡ false

abbrev pub BrokenIsFirst : Type 0
BrokenIsFirst = (c : Script) (trace : List Fact) (x : Broken) → 0 < c.config.shards → broken_in c trace ≡ Some x → IsBroken c trace x

-- a trace that isn't broken is safe
abbrev pub UnbrokenIsSafe : Type 0
UnbrokenIsSafe = (c : Script) (trace : List Fact) → 0 < c.config.shards → broken_in c trace ≡ None → safe c trace ≡ true

-- and in one number of shards, exactly such a one
abbrev pub SafeIsUnbroken : Type 0
SafeIsUnbroken = (c : Script) (trace : List Fact) → 0 < c.config.shards → is_plain trace ≡ true → safe c trace ≡ is_none (broken_in c trace)

-- no fact so far is a breach, and the trace is safe now
pub record IsUnbroken (c : Script) (trace : List Fact) : Type 0 where
  pub now : is_safe_now c trace ≡ true
  pub unbroken : broken_in c trace ≡ None

-- so it begins, and so it goes on with a fact that is no breach
abbrev pub UnbrokenBegins : Type 0
UnbrokenBegins = (c : Script) → IsUnbroken c []

abbrev pub UnbrokenGoesOn : Type 0
UnbrokenGoesOn = (c : Script) (trace : List Fact) (f : Fact) → 0 < c.config.shards → IsUnbroken c trace → breach_of c trace f ≡ None → IsUnbroken c (trace ++ f ∷ [])

-- and a breach breaks it there, whatever comes
abbrev pub BreachBreaks : Type 0
BreachBreaks = (c : Script) (trace : List Fact) (f : Fact) (b : Breach) (rest : List Fact) → IsUnbroken c trace → breach_of c trace f ≡ Some b → broken_in c (trace ++ f ∷ rest) ≡ Some (record { place = length trace; why = b })

-- after such a trace: it is safe, and with another fact, in the same number of shards, exactly where that is no breach
pub record IsExact (c : Script) (trace : List Fact) (f : Fact) : Type 0 where
  pub before : safe c trace ≡ true
  pub with_it : is_reshard f ≡ false → safe c (trace ++ f ∷ []) ≡ is_none (breach_of c trace f)

abbrev pub UnbrokenIsExact : Type 0
UnbrokenIsExact = (c : Script) (trace : List Fact) (f : Fact) → 0 < c.config.shards → IsUnbroken c trace → IsExact c trace f

-- Facts of which safety says something: entries of lists, where entities are live, their states, the version in force.

abbrev pub is_loud : Fact → Bool
is_loud (fact.Granted s n x) = true
is_loud (fact.Freed s n why) = true
is_loud (fact.Registered x) = true
is_loud (fact.Terminated x) = true
is_loud (fact.Allocated s x) = true
is_loud (fact.Deallocated s) = true
is_loud (fact.Wrote e r) = true
is_loud (fact.Snapshot e n) = true
is_loud (fact.Remembered e) = true
is_loud (fact.Forgotten e) = true
is_loud (fact.Queued p e n k) = true
is_loud (fact.Confirmed p e n) = true
is_loud (fact.Reshard n k) = true
is_loud (fact.Resharded s n k) = true
is_loud (fact.Start x e) = true
is_loud (fact.Stop x e) = true
is_loud (fact.WriteFailed x e) = true
is_loud (fact.Gone x) = true
is_loud (fact.Active x e m st) = true
is_loud (fact.Upgrade v) = true
is_loud f = false

abbrev pub loud : List Fact → List Fact
loud trace = filter is_loud trace

-- the others may be left out
abbrev pub QuietSaysNothing : Type 0
QuietSaysNothing = (c : Script) (trace : List Fact) → safe c trace ≡ safe c (loud trace)

-- so a judge who hears the others alone finds a safe trace safe, in one number of shards
abbrev pub LoudIsUnbroken : Type 0
LoudIsUnbroken = (c : Script) (trace : List Fact) → 0 < c.config.shards → is_plain trace ≡ true → safe c trace ≡ true → broken_in c (loud trace) ≡ None
