-- Why a trace isn't safe any more with one fact more: the first test that fails, in a fixed order.
use Rattle.std.specs.Prelude.{◌≡◌, ℕ, ◌+◌, ◌<◌, Bool, true, false, ◌==◌, ◌&&◌, not, nat_lt, nat_le, List, length, is_none, Option, Some, None, if◌then◌else◌}
use Rattle.std.specs.List.{list_all, list_any}
use Rattle.yard_model.specs.declared.fact.Fact.{Fact}
use Rattle.yard_model.specs.declared.fact.Fact.TheVariants as fact
use Rattle.yard_model.specs.declared.incarnation.Incarnation.{Incarnation}
use Rattle.yard_model.specs.declared.incarnation.Slot.{Slot}
use Rattle.yard_model.specs.declared.incarnation.Slot.TheVariants as slot
use Rattle.yard_model.specs.declared.packet.Record.{Record}
use Rattle.yard_model.specs.declared.state.State.{State}
use Rattle.yard_model.specs.Era.{version_in}
use Rattle.yard_model.specs.Genuine.{is_brought, is_node, is_producer, is_shard, is_slot_of}
use Rattle.yard_model.specs.Lawful.{is_coordinator_entry, is_decided, is_held, is_merged_after, is_queue_entry, is_shard_entry}
use Rattle.yard_model.specs.Safe.{is_journal_state, live_at, shard_list_of}
use Rattle.yard_model.specs.Script.{Script, setting, versions}
use Rattle.yard_model.specs.Setting.{names_of, shard_of}
use Rattle.yard_model.specs.SlotReads.{confirmed, epoch, holder, journal, position, queued}
use Rattle.yard_model.specs.Trace.{list_at, lists_of}
use Rattle.yard_model.specs.Words.{is_at, is_empty, without}
use Rattle.judge_laws.specs.declared.breach.Breach.{Breach}
use Rattle.judge_laws.specs.declared.breach.Breach.TheVariants as breach
use Rattle.judge_laws.specs.Judged.{judged}

-- this breach, where the test doesn't hold
abbrev pub unless : Bool → Breach → Option Breach → Option Breach
unless true b rest = rest
unless false b rest = Some b

-- the list of a slot
abbrev pub slot_list : Script → List Fact → Slot → List Fact
slot_list c trace s = list_at (lists_of (setting c) trace) s

abbrev pub start_breach : Script → List Fact → Incarnation → List ℕ → Option Breach
start_breach c trace x e =
    unless (is_brought c e) breach.NoName
    (unless (is_empty (without x (live_at e trace))) breach.TwoLive
    (unless (is_at x (holder (shard_list_of c e trace))) breach.NoLease None))

abbrev pub active_breach : Script → List Fact → List ℕ → ℕ → State → Option Breach
active_breach c trace e m st = unless (is_journal_state c m st (journal e (shard_list_of c e trace))) breach.OtherState None

abbrev pub granted_breach : Script → Slot → List Fact → ℕ → Incarnation → Option Breach
granted_breach c s list n x =
    unless (is_slot_of c s) breach.NoSlot
    (unless (not (is_held list)) breach.GrantedHeld
    (unless (n == epoch list + 1) breach.NotNextEpoch
    (unless (is_node c x) breach.NoNode None)))

-- no entity of the slot is live
abbrev pub is_idle : Script → List Fact → Slot → Bool
is_idle c trace (slot.Shard s) = list_all (λ e. is_empty (live_at e trace)) (names_of (setting c) s)
is_idle c trace s = true

abbrev pub freed_breach : Script → List Fact → Slot → List Fact → ℕ → Option Breach
freed_breach c trace s list n =
    unless (is_slot_of c s) breach.NoSlot
    (unless (is_held list) breach.Unheld
    (unless (n == epoch list) breach.NotItsGrant
    (unless (is_idle c trace s) breach.FreedLive None)))

-- an entry of a slot that is held, which is this breach where it may not follow
abbrev pub entry_breach : List Fact → Bool → Breach → Option Breach
entry_breach list may b = unless (is_held list) breach.Unheld (unless may b None)

abbrev pub coordinator_breach : Script → List Fact → Fact → Breach → Option Breach
coordinator_breach c trace f b = entry_breach (lists_of (setting c) trace).coordinator (is_coordinator_entry c (lists_of (setting c) trace).coordinator f) b

-- this breach of an entry, where the script has the shard; where it has the node
abbrev pub of_shard : Script → ℕ → Breach → Breach
of_shard c s b = if is_shard c s then b else breach.NoShard

abbrev pub of_node : Script → Incarnation → Breach → Breach
of_node c x b = if is_node c x then b else breach.NoNode

abbrev pub entity_breach : Script → List Fact → List ℕ → Fact → Breach → Option Breach
entity_breach c trace e f b =
    unless (is_brought c e) breach.NoName
    (entry_breach (shard_list_of c e trace) (is_shard_entry c (shard_of (setting c) e) (shard_list_of c e trace) f) b)

-- its events and reply are decided in the version in force, and in one that the script admits
abbrev pub is_answer : Script → List Fact → List Record → Record → Bool
is_answer c trace before r = is_decided (version_in trace) c before r && list_any (λ v. is_decided v c before r) (versions c)

abbrev pub wrote_breach : Script → List Fact → List ℕ → Record → List Fact → List Record → Option Breach
wrote_breach c trace e r list before =
    unless (is_brought c e) breach.NoName
    (unless (is_held list) breach.Unheld
    (unless (not (is_empty (live_at e trace))) breach.NotLive
    (unless (r.epoch == epoch list) breach.OtherEpoch
    (unless (r.number == length before + 1) breach.NotNextRecord
    (unless (is_producer c r.producer && is_merged_after c e before r) breach.NotNextCommand
    (unless (is_answer c trace before r) breach.NotDecided None))))))

abbrev pub queued_breach : Script → ℕ → List Fact → Fact → Option Breach
queued_breach c p list f = unless (is_producer c p) breach.NoProducer (entry_breach list (is_queue_entry c p list f) breach.OutOfOrder)

abbrev pub confirmed_breach : Script → List Fact → ℕ → List ℕ → ℕ → List Fact → Option Breach
confirmed_breach c trace p e n list =
    unless (is_producer c p) breach.NoProducer
    (unless (is_held list) breach.Unheld
    (unless (nat_lt (confirmed e list) n && nat_le n (queued e list)) breach.NotRising
    (unless (nat_le n (position p (journal e (shard_list_of c e trace)))) breach.NotRecorded None)))

-- after these, if any
abbrev pub breach_of : Script → List Fact → Fact → Option Breach
breach_of c trace (fact.Start x e) = start_breach c trace x e
breach_of c trace (fact.Active x e m st) = active_breach c trace e m st
breach_of c trace (fact.Granted s n x) = granted_breach c s (slot_list c trace s) n x
breach_of c trace (fact.Freed s n why) = freed_breach c trace s (slot_list c trace s) n
breach_of c trace (fact.Registered x) = coordinator_breach c trace (fact.Registered x) (of_node c x breach.NotToRegister)
breach_of c trace (fact.Terminated x) = coordinator_breach c trace (fact.Terminated x) breach.NotRegistered
breach_of c trace (fact.Allocated s x) = coordinator_breach c trace (fact.Allocated s x) (of_shard c s breach.NotToAllocate)
breach_of c trace (fact.Deallocated s) = coordinator_breach c trace (fact.Deallocated s) (of_shard c s breach.NoHome)
breach_of c trace (fact.Wrote e r) = wrote_breach c trace e r (shard_list_of c e trace) (journal e (shard_list_of c e trace))
breach_of c trace (fact.Snapshot e n) = entity_breach c trace e (fact.Snapshot e n) breach.NotASnapshot
breach_of c trace (fact.Remembered e) = entity_breach c trace e (fact.Remembered e) breach.IsRemembered
breach_of c trace (fact.Forgotten e) = entity_breach c trace e (fact.Forgotten e) breach.IsNotRemembered
breach_of c trace (fact.Queued p e n k) = queued_breach c p (slot_list c trace (slot.Queue p)) (fact.Queued p e n k)
breach_of c trace (fact.Confirmed p e n) = confirmed_breach c trace p e n (slot_list c trace (slot.Queue p))
breach_of c trace (fact.Reshard n k) = Some breach.NotJudged
breach_of c trace (fact.Resharded s n k) = Some breach.NotJudged
breach_of c trace f = None

-- none exactly where the fact passes
abbrev pub BreachIsJudged : Type 0
BreachIsJudged = (c : Script) (trace : List Fact) (f : Fact) → 0 < c.config.shards → is_none (breach_of c trace f) ≡ judged c trace f
