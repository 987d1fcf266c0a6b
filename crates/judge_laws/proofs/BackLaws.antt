-- What the test asks follows from a trace that stays safe; and so the trace is safe exactly where each fact passes.
use Rattle.std.proofs.Common.{◌≡◌, ◌<◌, ◌≤◌, ℕ, zero, suc, ◌-◌, sym, ap, ap₂, ◌∙◌, refl, subst, arith}
use Rattle.std.specs.Prelude.{Bool, true, false, ◌==◌, ◌&&◌, ◌||◌, not, cond, List, [], ◌∷◌, ◌++◌, length, filter, take, Option, Some, None, if◌then◌else◌}
use Rattle.std.specs.List.{list_all, list_any}
use Rattle.std.proofs.Math.Bool.{and-true, and_assoc}
use Rattle.std.proofs.lemmas.List.{get_or-set_same}
use Rattle.std.proofs.lemmas.List.Folds.{list_all-append}
use Rattle.yard_model.specs.declared.fact.Fact.{Fact}
use Rattle.yard_model.specs.declared.fact.Fact.TheVariants as fact
use Rattle.yard_model.specs.declared.incarnation.Incarnation.{Incarnation}
use Rattle.yard_model.specs.declared.incarnation.Slot.{Slot}
use Rattle.yard_model.specs.declared.incarnation.Slot.TheVariants as slot
use Rattle.yard_model.specs.Era.{Era, era_step, version_in}
use Rattle.yard_model.specs.Follow.{each_follows}
use Rattle.yard_model.specs.Genuine.{is_brought, is_producer, is_shard, is_slot_of}
use Rattle.yard_model.specs.Guards.{own_guard, guard}
use Rattle.yard_model.specs.Lawful.{lawful, own, is_decided, is_recorded, has_place, may_follow}
use Rattle.yard_model.specs.Opening.{begins}
use Rattle.yard_model.specs.Safe.{live_at, at_most_holder, is_safe_now, safe_from, shard_list_of, shows}
use Rattle.yard_model.specs.Script.{Script, is_name, setting}
use Rattle.yard_model.specs.Setting.{shard_of}
use Rattle.yard_model.specs.SlotLists.{SlotLists, shard_list, queue_list}
use Rattle.yard_model.specs.SlotReads.{holder, epoch, journal, position}
use Rattle.yard_model.specs.Trace.{slot_of, list_at, with_entry, lists_of}
use Rattle.yard_model.specs.Words.{is_at, is_empty, without}
use Rattle.yard_model.proofs.FollowLaws.{own_grows}
use Rattle.plain_laws.proofs.Booleans.{true_is_not_false, and_both, both, below, is_below, within, same_name, same_number, all_get, all_map}
use Rattle.plain_laws.proofs.Names.{name_itself}
use Rattle.yard_laws.specs.Guarded.{Owns, GoesSafely}
use Rattle.yard_laws.proofs.Live.{held_at, holder_more}
use Rattle.yard_laws.proofs.Owns.{lists_more, producer_above, producer_within}
use Rattle.yard_laws.proofs.SafetyLaws.{IsKept, kept_of, live_more, guarded_is_safe, safe_begins}
use Rattle.yard_laws.proofs.Guarding.{upgraded_safe}
use Rattle.era_laws.proofs.ShapeLaws.{shard_below}
use Rattle.judge_laws.specs.Judged.{SafeIsJudged, StepIsExact, crossed, is_plain, is_reshard, judged}
use Rattle.judge_laws.proofs.WithinLaws as places

-- The test, then safe.

goes : (c : Script) (trace : List Fact) (f : Fact) → GoesSafely c trace (f ∷ []) → (shows c trace f && is_safe_now c (trace ++ f ∷ [])) ≡ true
goes c trace f g =
    let era : Era = record { script = c; trace = trace } in
    let p = and_both (is_safe_now c trace && shows c trace f) (safe_from (era_step era f) []) g.safe in
    both (shows c trace f) (is_safe_now c (trace ++ f ∷ []))
    (and_both (is_safe_now c trace) (shows c trace f) p.0).1
    (subst (λ (x : Era). is_safe_now x.script x.trace ≡ true) g.era p.1)

guard_goes : (c : Script) (trace : List Fact) (f : Fact) → is_safe_now c trace ≡ true → guard c trace f ≡ true → (shows c trace f && is_safe_now c (trace ++ f ∷ [])) ≡ true
guard_goes c trace f h g = goes c trace f (guarded_is_safe c trace (f ∷ []) h (both (guard c trace f) true g refl))

-- it alone is live, and it holds the lease
alone : (h : Option Incarnation) (others : List Incarnation) (x : Incarnation) → is_at x h ≡ true → is_empty others ≡ true → at_most_holder h (others ++ x ∷ []) ≡ true
alone h [] x at none = at
alone h (y ∷ ys) x at none = absurd (true_is_not_false (sym none))

-- where the holder starts an entity that isn't live at another, it alone is live; the lists stay
start_goes : (c : Script) (trace : List Fact) (x : Incarnation) (e : List ℕ) → is_safe_now c trace ≡ true → crossed c trace (fact.Start x e) ≡ true
    → (shows c trace (fact.Start x e) && is_safe_now c (trace ++ fact.Start x e ∷ [])) ≡ true
start_goes c trace x e h g =
    let f : Fact = fact.Start x e in
    let lists : SlotLists = lists_of (setting c) trace in
    let at : Bool = is_at x (holder (shard_list lists (shard_of (setting c) e))) in
    let none : Bool = is_empty (without x (live_at e trace)) in
    let m = and_both (is_brought c e && at) none g in
    let p = and_both (is_brought c e) at m.0 in
    let old = and_both (list_all (held_at c trace) (setting c).names) (lawful c lists) h in
    let live : list_all (held_at c (trace ++ f ∷ [])) (setting c).names ≡ true =
    all_map (held_at c trace) (held_at c (trace ++ f ∷ [])) (λ n k. ap₂ (λ (l : SlotLists) xs. at_most_holder (holder (shard_list l (shard_of (setting c) n))) xs) (lists_more c trace f) (live_more n trace f) ∙ by n k p.1 m.1 (is_name e n) refl) (setting c).names old.0 in
    both (is_brought c e) (is_safe_now c (trace ++ f ∷ [])) p.0
    (both (list_all (held_at c (trace ++ f ∷ [])) (setting c).names) (lawful c (lists_of (setting c) (trace ++ f ∷ []))) live (ap (lawful c) (lists_more c trace f) ∙ old.1))
  where
    held : List ℕ → Option Incarnation
    held n = holder (shard_list_of c n trace)

    by : (n : List ℕ) → held_at c trace n ≡ true → is_at x (held e) ≡ true → is_empty (without x (live_at e trace)) ≡ true
        → (b : Bool) → is_name e n ≡ b → at_most_holder (held n) (if b then without x (live_at n trace) ++ x ∷ [] else live_at n trace) ≡ true
    by n k at none true same =
        alone (held n) (without x (live_at n trace)) x
        (subst (λ z. is_at x (held z) ≡ true) (same_name e n same) at)
        (subst (λ z. is_empty (without x (live_at z trace)) ≡ true) (same_name e n same) none)
    by n k at none false same = k

forth : (c : Script) (trace : List Fact) (f : Fact) → is_safe_now c trace ≡ true → judged c trace f ≡ true → (shows c trace f && is_safe_now c (trace ++ f ∷ [])) ≡ true
forth c trace (fact.Upgrade v) h g = upgraded_safe c trace v h
forth c trace (fact.Start x e) h g = start_goes c trace x e h g
forth c trace f h g = guard_goes c trace f h g

-- Safe, then the test.

list_more : (c : Script) (lists : SlotLists) (f : Fact) (s : Slot) → Owns c lists → is_slot_of c s ≡ true → list_at (with_entry f lists (Some s)) s ≡ list_at lists s ++ f ∷ []
list_more c lists f (slot.Shard s) k h =
    let inside : s < length lists.shards = subst (λ n. s < n) (sym k.shards) (below s c.config.shards h) in
    get_or-set_same lists.shards s (shard_list lists s ++ f ∷ []) [] inside
list_more c lists f slot.Coordinator k h = refl
list_more c lists f (slot.Queue p) k h =
    let above : 0 < p = producer_above c p h in
    let most : p ≤ c.config.producers = producer_within c p h in
    let inside : p - 1 < length lists.queues = omega (arith, above, most, k.queues) in
    get_or-set_same lists.queues (p - 1) (queue_list lists p ++ f ∷ []) [] inside

own_at : (c : Script) (lists : SlotLists) (s : Slot) → Owns c lists → is_slot_of c s ≡ true → own c s (list_at lists s) ≡ true
own_at c lists (slot.Shard s) k h = k.shard s
own_at c lists slot.Coordinator k h = k.coordinator
own_at c lists (slot.Queue p) k h = k.queue p (producer_above c p h)

-- the lists with the fact, where it belongs to a slot
entered : (c : Script) (trace : List Fact) (f : Fact) (o : Option Slot) → slot_of (setting c) f ≡ o → lists_of (setting c) (trace ++ f ∷ []) ≡ with_entry f (lists_of (setting c) trace) o
entered c trace f o h = lists_more c trace f ∙ ap (with_entry f (lists_of (setting c) trace)) h

own_back : (c : Script) (trace : List Fact) (f : Fact) (s : Slot) → slot_of (setting c) f ≡ Some s → begins f ≡ false → is_slot_of c s ≡ true → IsKept c trace → IsKept c (trace ++ f ∷ []) → own_guard c trace f (Some s) ≡ true
own_back c trace f s at within h old new =
    let lists : SlotLists = lists_of (setting c) trace in
    let after : SlotLists = lists_of (setting c) (trace ++ f ∷ []) in
    let list : List Fact = list_at lists s in
    let same : list_at after s ≡ list ++ f ∷ [] = ap (λ l. list_at l s) (entered c trace f (Some s) at) ∙ list_more c lists f s old.owns h in
    let grown : own c s (list ++ f ∷ []) ≡ true = ap (own c s) (sym same) ∙ own_at c after s new.owns h in
    both (is_slot_of c s) (may_follow c s list f) h (and_both (own c s list) (may_follow c s list f) (sym (own_grows c s list f within) ∙ grown)).1

found : (p : List ℕ → Bool) (q : List ℕ) (xs : List (List ℕ)) → list_all p xs ≡ true → list_any (is_name q) xs ≡ true → p q ≡ true
found p q [] a h = absurd (true_is_not_false (sym h))
found p q (x ∷ xs) a h = by (is_name q x) refl h (and_both (p x) (list_all p xs) a) (found p q xs)
  where
    by : (b : Bool) → is_name q x ≡ b → (b || list_any (is_name q) xs) ≡ true → (p x ≡ true) × (list_all p xs ≡ true) → (list_all p xs ≡ true → list_any (is_name q) xs ≡ true → p q ≡ true) → p q ≡ true
    by true e k parts rest = ap p (same_name q x e) ∙ parts.0
    by false e k parts rest = rest parts.1 k

-- one more is live: none but it was, and it holds the lease
one_more_live : (h : Option Incarnation) (live : List Incarnation) (x : Incarnation) → at_most_holder h (live ++ x ∷ []) ≡ true → (is_at x h && is_empty live) ≡ true
one_more_live h [] x e = both (is_at x h) true e refl
one_more_live h (y ∷ []) x e = absurd (true_is_not_false (sym e))
one_more_live h (y ∷ z ∷ zs) x e = absurd (true_is_not_false (sym e))

none_held : (live : List Incarnation) → at_most_holder None live ≡ true → is_empty live ≡ true
none_held [] e = refl
none_held (x ∷ []) e = absurd (true_is_not_false (sym e))
none_held (x ∷ y ∷ xs) e = absurd (true_is_not_false (sym e))

start_back : (c : Script) (trace : List Fact) (x : Incarnation) (e : List ℕ) → is_brought c e ≡ true → IsKept c (trace ++ fact.Start x e ∷ []) → crossed c trace (fact.Start x e) ≡ true
start_back c trace x e h new =
    let f : Fact = fact.Start x e in
    let lists : SlotLists = lists_of (setting c) trace in
    let held : Option Incarnation = holder (shard_list lists (shard_of (setting c) e)) in
    let here : held_at c (trace ++ f ∷ []) e ≡ true = found (held_at c (trace ++ f ∷ [])) e (setting c).names new.live h in
    let others : List Incarnation = without x (live_at e trace) in
    let live : live_at e (trace ++ f ∷ []) ≡ others ++ x ∷ [] = live_more e trace f ∙ ap (λ b. if b then others ++ x ∷ [] else live_at e trace) (name_itself e) in
    let one : at_most_holder held (others ++ x ∷ []) ≡ true =
    sym (ap₂ (λ (l : SlotLists) xs. at_most_holder (holder (shard_list l (shard_of (setting c) e))) xs) (lists_more c trace f) live) ∙ here in
    let two = and_both (is_at x held) (is_empty others) (one_more_live held others x one) in
    both (is_brought c e && is_at x held) (is_empty others) (both (is_brought c e) (is_at x held) h two.0) two.1

all_picked : {X : Type 0} (p pick r : X → Bool) → ((x : X) → p x ≡ true → pick x ≡ true → r x ≡ true) → (xs : List X) → list_all p xs ≡ true → list_all r (filter pick xs) ≡ true
all_picked p pick r f [] h = refl
all_picked p pick r f (x ∷ xs) h = by (pick x) refl (and_both (p x) (list_all p xs) h) (all_picked p pick r f xs)
  where
    by : (b : Bool) → pick x ≡ b → (p x ≡ true) × (list_all p xs ≡ true) → (list_all p xs ≡ true → list_all r (filter pick xs) ≡ true) → list_all r (cond b (x ∷ filter pick xs) (filter pick xs)) ≡ true
    by true e m rest = both (r x) (list_all r (filter pick xs)) (f x m.0 e) (rest m.1)
    by false e m rest = rest m.1

freed_back : (c : Script) (trace : List Fact) (s n : ℕ) (why : _) → is_shard c s ≡ true → IsKept c trace → IsKept c (trace ++ fact.Freed (slot.Shard s) n why ∷ []) → crossed c trace (fact.Freed (slot.Shard s) n why) ≡ true
freed_back c trace s n why h old new =
    let f : Fact = fact.Freed (slot.Shard s) n why in
    let lists : SlotLists = lists_of (setting c) trace in
    let after : SlotLists = lists_of (setting c) (trace ++ f ∷ []) in
    let list : shard_list after s ≡ shard_list lists s ++ f ∷ [] = ap (λ l. shard_list l s) (lists_more c trace f) ∙ list_more c lists f (slot.Shard s) old.owns h in
    let none : holder (shard_list after s) ≡ None = ap holder list ∙ holder_more (shard_list lists s) f in
    all_picked (held_at c (trace ++ f ∷ [])) (λ e. shard_of (setting c) e == s) (λ e. is_empty (live_at e trace))
    (λ e k at.
    let held : at_most_holder (holder (shard_list after (shard_of (setting c) e))) (live_at e (trace ++ f ∷ [])) ≡ true = k in
    none_held (live_at e trace)
    (sym (ap₂ (λ (o : Option Incarnation) xs. at_most_holder o xs) (ap (λ t. holder (shard_list after t)) (same_number (shard_of (setting c) e) s at) ∙ none) (live_more e trace f)) ∙ held))
    (setting c).names new.live

confirmed_back : (c : Script) (trace : List Fact) (p n : ℕ) (e : List ℕ) → is_producer c p ≡ true → IsKept c trace → IsKept c (trace ++ fact.Confirmed p e n ∷ []) → crossed c trace (fact.Confirmed p e n) ≡ true
confirmed_back c trace p n e h old new =
    let f : Fact = fact.Confirmed p e n in
    let lists : SlotLists = lists_of (setting c) trace in
    let after : SlotLists = lists_of (setting c) (trace ++ f ∷ []) in
    let s : ℕ = shard_of (setting c) e in
    let list : queue_list after p ≡ queue_list lists p ++ f ∷ [] = ap (λ l. queue_list l p) (lists_more c trace f) ∙ list_more c lists f (slot.Queue p) old.owns h in
    let all : list_all (is_recorded c after) (queue_list after p) ≡ true = all_get (list_all (is_recorded c after)) after.queues (p - 1) [] new.there refl in
    let last : (list_all (is_recorded c after) (queue_list lists p) && (is_recorded c after f && true)) ≡ true =
    sym (list_all-append (is_recorded c after) (queue_list lists p) (f ∷ [])) ∙ (ap (list_all (is_recorded c after)) (sym list) ∙ all) in
    let there : is_recorded c after f ≡ true = (and_both (is_recorded c after f) true (and_both (list_all (is_recorded c after) (queue_list lists p)) (is_recorded c after f && true) last).1).0 in
    let has : has_place p n (journal e (shard_list lists s)) ≡ true = sym (ap (λ (l : SlotLists). has_place p n (journal e (shard_list l s))) (lists_more c trace f)) ∙ there in
    within n (position p (journal e (shard_list lists s))) (places.within c s e (shard_list lists s) (old.owns.shard s) p n has)

pub shard_is : (c : Script) (e : List ℕ) → 0 < c.config.shards → is_shard c (shard_of (setting c) e) ≡ true
shard_is c e h = is_below (shard_of (setting c) e) c.config.shards (shard_below c.config.shards e h)

-- an entry of which other lists say nothing
entry_back : (c : Script) (trace : List Fact) (f : Fact) (s : Slot) → slot_of (setting c) f ≡ Some s → begins f ≡ false → crossed c trace f ≡ true → is_slot_of c s ≡ true → IsKept c trace → IsKept c (trace ++ f ∷ []) → judged c trace f ≡ true
entry_back c trace f s at within x h old new =
    both (own_guard c trace f (slot_of (setting c) f)) (crossed c trace f) (ap (own_guard c trace f) at ∙ own_back c trace f s at within h old new) x

back : (c : Script) (trace : List Fact) (f : Fact) → 0 < c.config.shards → is_reshard f ≡ false → IsKept c trace → shows c trace f ≡ true → IsKept c (trace ++ f ∷ []) → judged c trace f ≡ true
back c trace (fact.Granted s n x) k r old h new = entry_back c trace (fact.Granted s n x) s refl refl refl h old new
back c trace (fact.Freed (slot.Shard s) n why) k r old h new = entry_back c trace (fact.Freed (slot.Shard s) n why) (slot.Shard s) refl refl (freed_back c trace s n why h old new) h old new
back c trace (fact.Freed slot.Coordinator n why) k r old h new = entry_back c trace (fact.Freed slot.Coordinator n why) slot.Coordinator refl refl refl h old new
back c trace (fact.Freed (slot.Queue p) n why) k r old h new = entry_back c trace (fact.Freed (slot.Queue p) n why) (slot.Queue p) refl refl refl h old new
back c trace (fact.Registered x) k r old h new = entry_back c trace (fact.Registered x) slot.Coordinator refl refl refl refl old new
back c trace (fact.Terminated x) k r old h new = entry_back c trace (fact.Terminated x) slot.Coordinator refl refl refl refl old new
back c trace (fact.Allocated s x) k r old h new = entry_back c trace (fact.Allocated s x) slot.Coordinator refl refl refl refl old new
back c trace (fact.Deallocated s) k r old h new = entry_back c trace (fact.Deallocated s) slot.Coordinator refl refl refl refl old new
back c trace (fact.Wrote e x) k r old h new =
    let live : Bool = not (is_empty (live_at e trace)) in
    let same : Bool = x.epoch == epoch (shard_list_of c e trace) in
    let decided : Bool = is_decided (version_in trace) c (journal e (shard_list_of c e trace)) x in
    let m = and_both (live && same) decided h in
    entry_back c trace (fact.Wrote e x) (slot.Shard (shard_of (setting c) e)) refl refl (both live decided (and_both live same m.0).0 m.1) (shard_is c e k) old new
back c trace (fact.Snapshot e n) k r old h new = entry_back c trace (fact.Snapshot e n) (slot.Shard (shard_of (setting c) e)) refl refl refl h old new
back c trace (fact.Remembered e) k r old h new = entry_back c trace (fact.Remembered e) (slot.Shard (shard_of (setting c) e)) refl refl refl h old new
back c trace (fact.Forgotten e) k r old h new = entry_back c trace (fact.Forgotten e) (slot.Shard (shard_of (setting c) e)) refl refl refl h old new
back c trace (fact.Queued p e n x) k r old h new = entry_back c trace (fact.Queued p e n x) (slot.Queue p) refl refl refl h old new
back c trace (fact.Confirmed p e n) k r old h new = entry_back c trace (fact.Confirmed p e n) (slot.Queue p) refl refl (confirmed_back c trace p n e h old new) h old new
back c trace (fact.Start x e) k r old h new = start_back c trace x e h new
back c trace (fact.Active x e m st) k r old h new = h
back c trace (fact.Reshard n m) k r old h new = absurd (true_is_not_false r)
back c trace (fact.Resharded s n m) k r old h new = absurd (true_is_not_false (sym h))
back c trace f k r old h new = refl

pub same_truth : (a b : Bool) → (a ≡ true → b ≡ true) → (b ≡ true → a ≡ true) → a ≡ b
same_truth true b f g = sym (f refl)
same_truth false true f g = g refl
same_truth false false f g = refl

pub step_is_exact : StepIsExact
step_is_exact c trace f k r h =
    same_truth (shows c trace f && is_safe_now c (trace ++ f ∷ [])) (judged c trace f)
    (λ e. let m = and_both (shows c trace f) (is_safe_now c (trace ++ f ∷ [])) e in back c trace f k r (kept_of c trace h) m.0 (kept_of c (trace ++ f ∷ []) m.1))
    (forth c trace f h)

pub now_of : (c : Script) (trace : List Fact) (f : Fact) → 0 < c.config.shards → not (is_reshard f) ≡ true → is_safe_now c trace ≡ true → judged c trace f ≡ true → is_safe_now c (trace ++ f ∷ []) ≡ true
now_of c trace f k r h g = (and_both (shows c trace f) (is_safe_now c (trace ++ f ∷ [])) (forth c trace f h g)).1

-- The whole trace.

era_same : (c : Script) (trace : List Fact) (f : Fact) → is_reshard f ≡ false → era_step (record { script = c; trace = trace }) f ≡ record { script = c; trace = trace ++ f ∷ [] }
era_same c trace (fact.Reshard n k) r = absurd (true_is_not_false r)
era_same c trace f r = refl

of_not : (b : Bool) → not b ≡ true → b ≡ false
of_not true e = absurd (true_is_not_false (sym e))
of_not false e = refl

judged_from : (c : Script) (trace fs : List Fact) → 0 < c.config.shards → is_plain fs ≡ true → safe_from (record { script = c; trace = trace }) fs ≡ (is_safe_now c trace && each_follows (judged c) trace fs)
judged_from c trace [] k r = sym (and-true (is_safe_now c trace))
judged_from c trace (f ∷ fs) k r =
    let m = and_both (not (is_reshard f)) (is_plain fs) r in
    let plain : is_reshard f ≡ false = of_not (is_reshard f) m.0 in
    ap (λ (x : Era). is_safe_now c trace && shows c trace f && safe_from x fs) (era_same c trace f plain)
    ∙ (ap (λ b. is_safe_now c trace && shows c trace f && b) (judged_from c (trace ++ f ∷ []) fs k m.1)
    ∙ by (is_safe_now c trace) refl (step_is_exact c trace f k plain))
  where
    now : Bool
    now = is_safe_now c (trace ++ f ∷ [])

    rest : Bool
    rest = each_follows (judged c) (trace ++ f ∷ []) fs

    by : (b : Bool) → is_safe_now c trace ≡ b → (is_safe_now c trace ≡ true → (shows c trace f && now) ≡ judged c trace f) → (b && shows c trace f && (now && rest)) ≡ (b && (judged c trace f && rest))
    by true e h = sym (and_assoc (shows c trace f) now rest) ∙ ap (λ x. x && rest) (h e)
    by false e h = refl

pub safe_is_judged : SafeIsJudged
safe_is_judged c trace k r = judged_from c [] trace k r ∙ ap (λ b. b && each_follows (judged c) [] trace) (safe_begins c)

pub plain_take : (n : ℕ) (trace : List Fact) → is_plain trace ≡ true → is_plain (take n trace) ≡ true
plain_take zero [] h = refl
plain_take zero (x ∷ xs) h = refl
plain_take (suc n) [] h = refl
plain_take (suc n) (x ∷ xs) h = let m = and_both (not (is_reshard x)) (is_plain xs) h in both (not (is_reshard x)) (is_plain (take n xs)) m.0 (plain_take n xs m.1)
