-- No test fails exactly where the fact passes.
use Rattle.std.proofs.Common.{◌≡◌, ◌<◌, ℕ, ◌+◌, sym, ap, ◌∙◌, refl}
use Rattle.std.specs.Prelude.{Bool, true, false, ◌==◌, ◌&&◌, not, nat_lt, nat_le, is_none, List, length, Option, Some, None}
use Rattle.std.specs.List.{list_any}
use Rattle.std.proofs.Math.Bool.{and-true}
use Rattle.yard_model.specs.declared.fact.Fact.{Fact}
use Rattle.yard_model.specs.declared.fact.Fact.TheVariants as fact
use Rattle.yard_model.specs.declared.incarnation.Slot.{Slot}
use Rattle.yard_model.specs.declared.incarnation.Slot.TheVariants as slot
use Rattle.yard_model.specs.declared.packet.Record.{Record}
use Rattle.yard_model.specs.Equal.{is_slot}
use Rattle.yard_model.specs.Era.{version_in}
use Rattle.yard_model.specs.Genuine.{is_brought, is_node, is_producer, is_shard, is_slot_of}
use Rattle.yard_model.specs.Guards.{own_guard}
use Rattle.yard_model.specs.Lawful.{is_decided, is_folded_after, is_held, is_leased, is_merged_after, is_of_shard, is_shard_entry, may_follow}
use Rattle.yard_model.specs.Safe.{live_at, shard_list_of}
use Rattle.yard_model.specs.Script.{Script, setting, versions}
use Rattle.yard_model.specs.Setting.{shard_of}
use Rattle.yard_model.specs.SlotReads.{confirmed, epoch, holder, journal, position, queued}
use Rattle.yard_model.specs.Trace.{lists_of}
use Rattle.yard_model.specs.Words.{is_at, is_empty, without}
use Rattle.plain_laws.proofs.Booleans.{true_is_not_false, and_both, both, number_itself}
use Rattle.judge_laws.specs.declared.breach.Breach.{Breach}
use Rattle.judge_laws.specs.declared.breach.Breach.TheVariants as breach
use Rattle.judge_laws.specs.Breached.{unless, slot_list, is_idle, of_node, of_shard, breach_of, BreachIsJudged}
use Rattle.judge_laws.specs.Judged.{judged}
use Rattle.judge_laws.proofs.BackLaws.{same_truth, shard_is}

-- Chains of tests.

pub one : (a : Bool) (x : Breach) → is_none (unless a x None) ≡ a
one true x = refl
one false x = refl

pub next : (a : Bool) (x : Breach) (rest : Option Breach) → is_none (unless a x rest) ≡ (a && is_none rest)
next true x rest = refl
next false x rest = refl

passed : (a : Bool) (x : Breach) (rest : Option Breach) → is_none (unless a x rest) ≡ true → (a ≡ true) × (is_none rest ≡ true)
passed a x rest h = and_both a (is_none rest) (sym (next a x rest) ∙ h)

passes : (a : Bool) (x : Breach) (rest : Option Breach) → a ≡ true → is_none rest ≡ true → is_none (unless a x rest) ≡ true
passes a x rest h k = next a x rest ∙ both a (is_none rest) h k

and-false : (a : Bool) → (a && false) ≡ false
and-false true = refl
and-false false = refl

slot_itself : (s : Slot) → is_slot s s ≡ true
slot_itself (slot.Shard s) = number_itself s s refl
slot_itself slot.Coordinator = refl
slot_itself (slot.Queue p) = number_itself p p refl

-- Each kind.

started : (a b d : Bool) (x y z : Breach) → is_none (unless a x (unless b y (unless d z None))) ≡ (a && d && b)
started true true true x y z = refl
started true true false x y z = refl
started true false true x y z = refl
started true false false x y z = refl
started false true true x y z = refl
started false true false x y z = refl
started false false true x y z = refl
started false false false x y z = refl

granted : (a h n k s : Bool) (x y z w : Breach) → s ≡ true → is_none (unless a x (unless (not h) y (unless n z (unless k w None)))) ≡ ((a && (not h && n && (s && k))) && true)
granted a h n k s x y z w e =
    by a h n k x y z w ∙ (ap (λ v. a && (not h && n && (v && k))) (sym e) ∙ sym (and-true (a && (not h && n && (s && k)))))
  where
    by : (a h n k : Bool) (x y z w : Breach) → is_none (unless a x (unless (not h) y (unless n z (unless k w None)))) ≡ (a && (not h && n && (true && k)))
    by true true n k x y z w = refl
    by true false true k x y z w = one k w
    by true false false k x y z w = refl
    by false h n k x y z w = refl

freed : (a h n i s : Bool) (x y z w : Breach) → s ≡ true → is_none (unless a x (unless h y (unless n z (unless i w None)))) ≡ ((a && (h && n && s)) && i)
freed a h n i s x y z w e = by a h n i x y z w ∙ ap (λ v. (a && (h && n && v)) && i) (sym e)
  where
    by : (a h n i : Bool) (x y z w : Breach) → is_none (unless a x (unless h y (unless n z (unless i w None)))) ≡ ((a && (h && n && true)) && i)
    by true true true i x y z w = one i w
    by true true false i x y z w = refl
    by true false n i x y z w = refl
    by false h n i x y z w = refl

-- an entry of which other lists say nothing
entry : (h may : Bool) (x y : Breach) → is_none (unless h x (unless may y None)) ≡ ((true && (h && may)) && true)
entry true may x y = one may y ∙ sym (and-true may)
entry false may x y = refl

-- the entry of an entity that has a name of the script
entity : (a h may k : Bool) (x y z : Breach) → k ≡ true → (may ≡ true → a ≡ true) → is_none (unless a x (unless h y (unless may z None))) ≡ ((k && (h && may)) && true)
entity a h may k x y z in_range named = by a h may x y z named ∙ ap (λ v. (v && (h && may)) && true) (sym in_range)
  where
    by : (a h may : Bool) (x y z : Breach) → (may ≡ true → a ≡ true) → is_none (unless a x (unless h y (unless may z None))) ≡ ((true && (h && may)) && true)
    by true h may x y z named = entry h may y z
    by false true true x y z named = absurd (true_is_not_false (sym (named refl)))
    by false true false x y z named = refl
    by false false may x y z named = refl

queued_one : (a h may : Bool) (x y z : Breach) → is_none (unless a x (unless h y (unless may z None))) ≡ ((a && (h && may)) && true)
queued_one true h may x y z = entry h may y z
queued_one false h may x y z = refl

confirmed_one : (a h s low high there : Bool) (x y z w : Breach) → s ≡ true → is_none (unless a x (unless h y (unless (low && high) z (unless there w None)))) ≡ ((a && (h && (s && low && high))) && there)
confirmed_one a h s low high there x y z w e = by a h (low && high) there x y z w ∙ (ap (λ v. (a && (h && v)) && there) (ap (λ v. v && low && high) (sym e)))
  where
    by : (a h m there : Bool) (x y z w : Breach) → is_none (unless a x (unless h y (unless m z (unless there w None)))) ≡ ((a && (h && m)) && there)
    by true true true there x y z w = one there w
    by true true false there x y z w = refl
    by true false m there x y z w = refl
    by false h m there x y z w = refl

-- A record.

-- the script brings the name of a shard's entity
brought_of : (c : Script) (s : ℕ) (e : List ℕ) → is_of_shard c s e ≡ true → is_brought c e ≡ true
brought_of c s e h = (and_both (is_brought c e) (shard_of (setting c) e == s) h).0

wrote_forth : (c : Script) (trace : List Fact) (e : List ℕ) (r : Record) → 0 < c.config.shards → is_none (breach_of c trace (fact.Wrote e r)) ≡ true → judged c trace (fact.Wrote e r) ≡ true
wrote_forth c trace e r k h =
    let f : Fact = fact.Wrote e r in
    let s : ℕ = shard_of (setting c) e in
    let list : List Fact = shard_list_of c e trace in
    let before : List Record = journal e list in
    let any : Bool = list_any (λ v. is_decided v c before r) (versions c) in
    let now : Bool = is_decided (version_in trace) c before r in
    let live : Bool = not (is_empty (live_at e trace)) in
    let answered : Option Breach = unless (now && any) breach.NotDecided None in
    let planned : Option Breach = unless (is_producer c r.producer && is_merged_after c e before r) breach.NotNextCommand answered in
    let numbered : Option Breach = unless (r.number == length before + 1) breach.NotNextRecord planned in
    let leased : Option Breach = unless (r.epoch == epoch list) breach.OtherEpoch numbered in
    let alive : Option Breach = unless live breach.NotLive leased in
    let held : Option Breach = unless (is_held list) breach.Unheld alive in
    let p1 = passed (is_brought c e) breach.NoName held h in
    let p2 = passed (is_held list) breach.Unheld alive p1.1 in
    let p3 = passed live breach.NotLive leased p2.1 in
    let p4 = passed (r.epoch == epoch list) breach.OtherEpoch numbered p3.1 in
    let p5 = passed (r.number == length before + 1) breach.NotNextRecord planned p4.1 in
    let p6 = passed (is_producer c r.producer && is_merged_after c e before r) breach.NotNextCommand answered p5.1 in
    let p7 = and_both now any (sym (one (now && any) breach.NotDecided) ∙ p6.1) in
    let merged = and_both (is_producer c r.producer) (is_merged_after c e before r) p6.0 in
    let of_shard : is_of_shard c s e ≡ true = both (is_brought c e) (s == s) p1.0 (number_itself s s refl) in
    let folds : is_folded_after c before r ≡ true = both (r.number == length before + 1) any p5.0 p7.1 in
    let first : Bool = is_of_shard c s e && is_producer c r.producer in
    let entry_is : is_shard_entry c s list f ≡ true = both (first && is_folded_after c before r) (is_merged_after c e before r) (both first (is_folded_after c before r) (both (is_of_shard c s e) (is_producer c r.producer) of_shard merged.0) folds) merged.1 in
    let under : is_leased list f ≡ true = both (is_held list) (r.epoch == epoch list) p2.0 p4.0 in
    let own_is : own_guard c trace f (Some (slot.Shard s)) ≡ true = both (is_shard c s) (may_follow c (slot.Shard s) list f) (shard_is c e k) (both (is_leased list f) (is_shard_entry c s list f) under entry_is) in
    both (own_guard c trace f (Some (slot.Shard s))) (live && now) own_is (both live now p3.0 p7.0)

wrote_back : (c : Script) (trace : List Fact) (e : List ℕ) (r : Record) → judged c trace (fact.Wrote e r) ≡ true → is_none (breach_of c trace (fact.Wrote e r)) ≡ true
wrote_back c trace e r h =
    let f : Fact = fact.Wrote e r in
    let s : ℕ = shard_of (setting c) e in
    let list : List Fact = shard_list_of c e trace in
    let before : List Record = journal e list in
    let any : Bool = list_any (λ v. is_decided v c before r) (versions c) in
    let now : Bool = is_decided (version_in trace) c before r in
    let live : Bool = not (is_empty (live_at e trace)) in
    let both_parts = and_both (own_guard c trace f (Some (slot.Shard s))) (live && now) h in
    let crosses = and_both live now both_parts.1 in
    let may = (and_both (is_shard c s) (may_follow c (slot.Shard s) list f) both_parts.0).1 in
    let parts = and_both (is_leased list f) (is_shard_entry c s list f) may in
    let under = and_both (is_held list) (r.epoch == epoch list) parts.0 in
    let first : Bool = is_of_shard c s e && is_producer c r.producer in
    let q1 = and_both (first && is_folded_after c before r) (is_merged_after c e before r) parts.1 in
    let q2 = and_both first (is_folded_after c before r) q1.0 in
    let q3 = and_both (is_of_shard c s e) (is_producer c r.producer) q2.0 in
    let folds = and_both (r.number == length before + 1) any q2.1 in
    let answered : Option Breach = unless (now && any) breach.NotDecided None in
    let planned : Option Breach = unless (is_producer c r.producer && is_merged_after c e before r) breach.NotNextCommand answered in
    let numbered : Option Breach = unless (r.number == length before + 1) breach.NotNextRecord planned in
    let leased : Option Breach = unless (r.epoch == epoch list) breach.OtherEpoch numbered in
    let alive : Option Breach = unless live breach.NotLive leased in
    let held : Option Breach = unless (is_held list) breach.Unheld alive in
    passes (is_brought c e) breach.NoName held (brought_of c s e q3.0)
    (passes (is_held list) breach.Unheld alive under.0
    (passes live breach.NotLive leased crosses.0
    (passes (r.epoch == epoch list) breach.OtherEpoch numbered under.1
    (passes (r.number == length before + 1) breach.NotNextRecord planned folds.0
    (passes (is_producer c r.producer && is_merged_after c e before r) breach.NotNextCommand answered (both (is_producer c r.producer) (is_merged_after c e before r) q3.1 q1.1)
    (one (now && any) breach.NotDecided ∙ both now any crosses.1 folds.1))))))

-- All facts.

pub breach_is_judged : BreachIsJudged
breach_is_judged c trace (fact.Start x e) k = started (is_brought c e) (is_empty (without x (live_at e trace))) (is_at x (holder (shard_list_of c e trace))) breach.NoName breach.TwoLive breach.NoLease
breach_is_judged c trace (fact.Active x e m st) k = one _ breach.OtherState
breach_is_judged c trace (fact.Granted s n x) k =
    let list : List Fact = slot_list c trace s in
    by s list
  where
    by : (s : Slot) (list : List Fact) → is_none (unless (is_slot_of c s) breach.NoSlot (unless (not (is_held list)) breach.GrantedHeld (unless (n == epoch list + 1) breach.NotNextEpoch (unless (is_node c x) breach.NoNode None)))) ≡ ((is_slot_of c s && may_follow c s list (fact.Granted s n x)) && true)
    by (slot.Shard s) list = granted (is_shard c s) (is_held list) (n == epoch list + 1) (is_node c x) (s == s) breach.NoSlot breach.GrantedHeld breach.NotNextEpoch breach.NoNode (number_itself s s refl)
    by slot.Coordinator list = granted true (is_held list) (n == epoch list + 1) (is_node c x) true breach.NoSlot breach.GrantedHeld breach.NotNextEpoch breach.NoNode refl
    by (slot.Queue p) list = granted (is_producer c p) (is_held list) (n == epoch list + 1) (is_node c x) (p == p) breach.NoSlot breach.GrantedHeld breach.NotNextEpoch breach.NoNode (number_itself p p refl)
breach_is_judged c trace (fact.Freed (slot.Shard s) n why) k =
    let list : List Fact = slot_list c trace (slot.Shard s) in
    freed (is_shard c s) (is_held list) (n == epoch list) (is_idle c trace (slot.Shard s)) (s == s) breach.NoSlot breach.Unheld breach.NotItsGrant breach.FreedLive (number_itself s s refl)
breach_is_judged c trace (fact.Freed slot.Coordinator n why) k =
    let list : List Fact = slot_list c trace slot.Coordinator in
    freed true (is_held list) (n == epoch list) true true breach.NoSlot breach.Unheld breach.NotItsGrant breach.FreedLive refl
breach_is_judged c trace (fact.Freed (slot.Queue p) n why) k =
    let list : List Fact = slot_list c trace (slot.Queue p) in
    freed (is_producer c p) (is_held list) (n == epoch list) true (p == p) breach.NoSlot breach.Unheld breach.NotItsGrant breach.FreedLive (number_itself p p refl)
breach_is_judged c trace (fact.Registered x) k = entry _ _ breach.Unheld (of_node c x breach.NotToRegister)
breach_is_judged c trace (fact.Terminated x) k = entry _ _ breach.Unheld breach.NotRegistered
breach_is_judged c trace (fact.Allocated s x) k = entry _ _ breach.Unheld (of_shard c s breach.NotToAllocate)
breach_is_judged c trace (fact.Deallocated s) k = entry _ _ breach.Unheld (of_shard c s breach.NoHome)
breach_is_judged c trace (fact.Wrote e r) k = same_truth _ _ (wrote_forth c trace e r k) (wrote_back c trace e r)
breach_is_judged c trace (fact.Snapshot e n) k =
    let s : ℕ = shard_of (setting c) e in
    let list : List Fact = shard_list_of c e trace in
    entity (is_brought c e) (is_held list) (is_shard_entry c s list (fact.Snapshot e n)) (is_shard c s) breach.NoName breach.Unheld breach.NotASnapshot (shard_is c e k)
    (λ h. let p = and_both (is_of_shard c s e && _) _ h in brought_of c s e (and_both (is_of_shard c s e) _ p.0).0)
breach_is_judged c trace (fact.Remembered e) k =
    let s : ℕ = shard_of (setting c) e in
    let list : List Fact = shard_list_of c e trace in
    entity (is_brought c e) (is_held list) (is_shard_entry c s list (fact.Remembered e)) (is_shard c s) breach.NoName breach.Unheld breach.IsRemembered (shard_is c e k)
    (λ h. brought_of c s e (and_both (is_of_shard c s e) _ h).0)
breach_is_judged c trace (fact.Forgotten e) k =
    let s : ℕ = shard_of (setting c) e in
    let list : List Fact = shard_list_of c e trace in
    entity (is_brought c e) (is_held list) (is_shard_entry c s list (fact.Forgotten e)) (is_shard c s) breach.NoName breach.Unheld breach.IsNotRemembered (shard_is c e k)
    (λ h. brought_of c s e (and_both (is_of_shard c s e) _ h).0)
breach_is_judged c trace (fact.Queued p e n x) k = queued_one _ _ _ breach.NoProducer breach.Unheld breach.OutOfOrder
breach_is_judged c trace (fact.Confirmed p e n) k =
    let list : List Fact = slot_list c trace (slot.Queue p) in
    confirmed_one (is_producer c p) (is_held list) (p == p) (nat_lt (confirmed e list) n) (nat_le n (queued e list)) (nat_le n (position p (journal e (shard_list_of c e trace)))) breach.NoProducer breach.Unheld breach.NotRising breach.NotRecorded (number_itself p p refl)
breach_is_judged c trace (fact.Reshard n m) k = sym (ap (λ v. (true && v) && true) (and-false (is_held (lists_of (setting c) trace).coordinator)))
breach_is_judged c trace (fact.Resharded s n m) k =
    let list : List Fact = slot_list c trace (slot.Shard s) in
    sym (ap (λ v. (is_shard c s && v) && true) (and-false (is_held list)) ∙ ap (λ v. v && true) (and-false (is_shard c s)))
breach_is_judged c trace f k = refl
