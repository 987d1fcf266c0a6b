-- What is so of a daemon of n instances.
use Rattle.std.specs.Prelude.{◌≡◌, ◌<◌, ◌≤◌, ℕ, false, List, ◌∷◌, ◌++◌, IsTrue, take}
use Rattle.yard_model.specs.declared.fact.Fact.{Fact}
use Rattle.yard_model.specs.declared.fact.Fact.TheVariants as fact
use Rattle.yard_model.specs.declared.packet.Record.{Record}
use Rattle.yard_model.specs.Era.{era_of, lists_in}
use Rattle.yard_model.specs.Safe.{live_at, safe}
use Rattle.yard_model.specs.Script.{Script}
use Rattle.yard_model.specs.SlotLists.{queue_list}
use Rattle.yard_model.specs.SlotReads.{queued}
use Rattle.yard_model.specs.Words.{is_empty}
use Rattle.yard_model.specs.World.{trace_of}
use Rattle.daemon_process.specs.Daemon.{daemon, expanded}
use Rattle.daemon_process.specs.Single.{IsSingle}
use Rattle.queued_laws.specs.Confirmed.{WasWritten}
use Rattle.replay_run.specs.Settling.{EachSettles}

-- after each of its facts each instance is live at one incarnation at most, which holds the lease of its shard
abbrev pub InstancesHold : ℕ → Script → List Fact → Type 0
InstancesHold n c trace = (k i : ℕ) → i < n → IsSingle c (take k trace) (daemon i)

-- where a record of e is written, e is live, and the command was queued before
pub record IsAnswered (c : Script) (front : List Fact) (e : List ℕ) (r : Record) : Type 0 where
  pub live_is : is_empty (live_at e front) ≡ false
  pub queued_is : r.place ≤ queued e (queue_list (lists_in (era_of c front)) r.producer)

-- so an instance that took a ping was live at a moment after the ping was queued
abbrev pub PingsAreAnswered : ℕ → Script → List Fact → Type 0
PingsAreAnswered n c trace = (i : ℕ) (front back : List Fact) (r : Record) → i < n → trace ≡ front ++ fact.Wrote (daemon i) r ∷ back → IsAnswered c front (daemon i) r

-- where a number of e is confirmed, its record stands before, as above
pub record IsConfirmed (c : Script) (front : List Fact) (e : List ℕ) (p m : ℕ) : Type 0 where
  pub written : WasWritten front e p m
  pub answered : IsAnswered c written.front e written.entry

-- so an instance of which a ping is confirmed took it, and was live at a moment after it was queued
abbrev pub ConfirmedAreAnswered : ℕ → Script → List Fact → Type 0
ConfirmedAreAnswered n c trace = (i p m : ℕ) (front back : List Fact) → i < n → trace ≡ front ++ fact.Confirmed p (daemon i) m ∷ back → IsConfirmed c front (daemon i) p m

-- the trace of the script with its pings as sends is safe, and so its instances are; and each settle comes to its end
pub record DaemonHolds (n : ℕ) (c : Script) : Type 0 where
  pub safe_is : IsTrue (safe (expanded n c) (trace_of (expanded n c)))
  pub instances_hold : InstancesHold n (expanded n c) (trace_of (expanded n c))
  pub pings_are : PingsAreAnswered n (expanded n c) (trace_of (expanded n c))
  pub confirmed_are : ConfirmedAreAnswered n (expanded n c) (trace_of (expanded n c))
  pub settles_are : EachSettles (expanded n c)
