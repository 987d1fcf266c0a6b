-- Guarded facts make a safe trace.
use Rattle.std.proofs.Common.{◌≡◌, ◌<◌, ◌≤◌, ℕ, zero, suc, ◌+◌, ◌-◌, sym, ap, ◌∙◌, refl, arith}
use Rattle.std.specs.Prelude.{Bool, true, false, ◌==◌, ◌&&◌, not, nat_lt, List, [], ◌∷◌, ◌++◌, length, fold, Option, Some, None}
use Rattle.std.specs.List.{list_all}
use Rattle.std.specs.Option.{option_map_or}
use Rattle.std.proofs.lemmas.List.{append-nil, append_assoc, get_or_past}
use Rattle.std.proofs.lemmas.List.Sums.{fold-append}
use Rattle.yard_model.specs.declared.fact.Fact.{Fact}
use Rattle.yard_model.specs.declared.fact.Fact.TheVariants as fact
use Rattle.yard_model.specs.declared.incarnation.Slot.{Slot}
use Rattle.yard_model.specs.declared.incarnation.Slot.TheVariants as slot
use Rattle.yard_model.specs.Script.{Script, setting}
use Rattle.yard_model.specs.Setting.{shard_of, shards, producers}
use Rattle.yard_model.specs.Words.{numbers, is_empty, is_at}
use Rattle.yard_model.specs.Genuine.{is_slot_of, is_brought}
use Rattle.yard_model.specs.SlotLists.{SlotLists, shard_list, queue_list}
use Rattle.yard_model.specs.SlotReads.{holder, epoch, journal}
use Rattle.yard_model.specs.Trace.{slot_of, list_at, lists_step, lists_of, no_lists}
use Rattle.yard_model.specs.Lawful.{own, is_decided, may_follow, is_leased, is_entry, is_held, is_recorded, confirmed_there, lawful}
use Rattle.yard_model.specs.Opening.{begins}
use Rattle.yard_model.specs.Era.{Era, era_step, version_in}
use Rattle.yard_model.specs.Safe.{live_at, live_step, shard_list_of, shows, is_safe_now, safe_from}
use Rattle.yard_model.specs.Guards.{own_guard, cross_guard, guard, guarded_after, Opened, opened}
use Rattle.yard_laws.proofs.Guarding.{opened_whole}
use Rattle.yard_model.proofs.FollowLaws.{follows_within}
use Rattle.yard_laws.specs.Guarded.{Owns, SafeIsOwn, SafeBegins, SafeGoesOn, GoesSafely, GuardedIsSafe, GuardedIsSafeNow, GuardedIsOwn, SafeBoth}
use Rattle.plain_laws.proofs.Booleans.{true_is_not_false, and_both, both, number_itself, same_number, other_number, below, not_below, all_of, all_map, all_replicate}
use Rattle.yard_laws.proofs.Follows.{follows_to}
use Rattle.yard_laws.proofs.Owns.{no_lists_own, owns_step, lists_more}
use Rattle.yard_laws.proofs.Live.{held_in, held_at, live_held}
use Rattle.yard_laws.proofs.Recorded.{there_more, guarded_recorded}

-- what each guarded fact keeps: lists that are lawful by themselves, live means holder, and what is confirmed stands in the journals
pub record IsKept (c : Script) (trace : List Fact) : Type 0 where
  pub owns : Owns c (lists_of (setting c) trace)
  pub live : list_all (held_at c trace) (setting c).names ≡ true
  pub there : confirmed_there c (lists_of (setting c) trace) ≡ true

all_from : (p : ℕ → Bool) → ((x : ℕ) → 0 < x → p x ≡ true) → (a n : ℕ) → 0 < a → list_all p (numbers a n) ≡ true
all_from p h a zero above = refl
all_from p h a (suc n) above = both (p a) (list_all p (numbers (a + 1) n)) (h a above) (all_from p h (a + 1) n (omega arith))

pub lawful_of : (c : Script) (lists : SlotLists) → Owns c lists → confirmed_there c lists ≡ true → lawful c lists ≡ true
lawful_of c lists k there =
    let a : Bool = length lists.shards == c.config.shards in
    let b : Bool = length lists.queues == c.config.producers in
    let d : Bool = list_all (λ s. own c (slot.Shard s) (shard_list lists s)) (shards (setting c)) in
    let e : Bool = own c slot.Coordinator lists.coordinator in
    let f : Bool = list_all (λ p. own c (slot.Queue p) (queue_list lists p)) (producers (setting c)) in
    both (a && b && d && e && f) (confirmed_there c lists)
    (both (a && b && d && e) f
    (both (a && b && d) e
    (both (a && b) d
    (both a b (number_itself (length lists.shards) c.config.shards k.shards) (number_itself (length lists.queues) c.config.producers k.queues))
    (all_of (λ s. own c (slot.Shard s) (shard_list lists s)) k.shard (shards (setting c))))
    k.coordinator)
    (all_from (λ p. own c (slot.Queue p) (queue_list lists p)) k.queue 1 c.config.producers (omega arith)))
    there

now_safe : (c : Script) (trace : List Fact) → IsKept c trace → is_safe_now c trace ≡ true
now_safe c trace k = both (list_all (held_at c trace) (setting c).names) (lawful c (lists_of (setting c) trace)) k.live (lawful_of c (lists_of (setting c) trace) k.owns k.there)

-- each of the numbers from a on
of_number : (p : ℕ → Bool) (a n k : ℕ) → list_all p (numbers a n) ≡ true → a ≤ k → k < a + n → p k ≡ true
of_number p a zero k h low high = absurd (omega arith)
of_number p a (suc n) k h low high =
    let m : (p a ≡ true) × (list_all p (numbers (a + 1) n) ≡ true) = and_both (p a) (list_all p (numbers (a + 1) n)) h in
    pick m.0 (k == a) refl (λ e. let other : k ≡ a → ⊥ = other_number k a e in of_number p (a + 1) n k m.1 (omega arith) (omega arith))
  where
    pick : p a ≡ true → (b : Bool) → (k == a) ≡ b → ((k == a) ≡ false → p k ≡ true) → p k ≡ true
    pick h true e rest = ap p (same_number k a e) ∙ h
    pick h false e rest = rest e

pub owns_of : (c : Script) (lists : SlotLists) → lawful c lists ≡ true → (Owns c lists) × (confirmed_there c lists ≡ true)
owns_of c lists h =
    let a : Bool = length lists.shards == c.config.shards in
    let b : Bool = length lists.queues == c.config.producers in
    let d : Bool = list_all (λ s. own c (slot.Shard s) (shard_list lists s)) (shards (setting c)) in
    let e : Bool = own c slot.Coordinator lists.coordinator in
    let f : Bool = list_all (λ p. own c (slot.Queue p) (queue_list lists p)) (producers (setting c)) in
    let g : ((a && b && d && e && f) ≡ true) × (confirmed_there c lists ≡ true) = and_both (a && b && d && e && f) (confirmed_there c lists) h in
    let hf : ((a && b && d && e) ≡ true) × (f ≡ true) = and_both (a && b && d && e) f g.0 in
    let he : ((a && b && d) ≡ true) × (e ≡ true) = and_both (a && b && d) e hf.0 in
    let hd : ((a && b) ≡ true) × (d ≡ true) = and_both (a && b) d he.0 in
    let hb : (a ≡ true) × (b ≡ true) = and_both a b hd.0 in
    let long : length lists.shards ≡ c.config.shards = same_number (length lists.shards) c.config.shards hb.0 in
    let wide : length lists.queues ≡ c.config.producers = same_number (length lists.queues) c.config.producers hb.1 in (
      record {
        shards = long;
        queues = wide;
        shard = λ k. shard_at k (nat_lt k c.config.shards) refl long hd.1;
        coordinator = he.1;
        queue = λ p above. queue_at p above (nat_lt (p - 1) c.config.producers) refl wide hf.1;
      },
      g.1,
    )
  where
    shard_at : (k : ℕ) (t : Bool) → nat_lt k c.config.shards ≡ t → length lists.shards ≡ c.config.shards → list_all (λ s. own c (slot.Shard s) (shard_list lists s)) (shards (setting c)) ≡ true → own c (slot.Shard k) (shard_list lists k) ≡ true
    shard_at k true t long all = of_number (λ s. own c (slot.Shard s) (shard_list lists s)) 0 c.config.shards k all (omega arith) (let in_range : k < c.config.shards = below k c.config.shards t in omega arith)
    shard_at k false t long all = ap (own c (slot.Shard k)) (get_or_past lists.shards k [] (let past : c.config.shards ≤ k = not_below k c.config.shards t in omega (arith, long)))

    queue_at : (p : ℕ) → 0 < p → (t : Bool) → nat_lt (p - 1) c.config.producers ≡ t → length lists.queues ≡ c.config.producers → list_all (λ q. own c (slot.Queue q) (queue_list lists q)) (producers (setting c)) ≡ true → own c (slot.Queue p) (queue_list lists p) ≡ true
    queue_at p above true t wide all = of_number (λ q. own c (slot.Queue q) (queue_list lists q)) 1 c.config.producers p all (omega arith) (let in_range : p - 1 < c.config.producers = below (p - 1) c.config.producers t in omega arith)
    queue_at p above false t wide all = ap (own c (slot.Queue p)) (get_or_past lists.queues (p - 1) [] (let past : c.config.producers ≤ p - 1 = not_below (p - 1) c.config.producers t in omega (arith, wide)))

pub kept_of : (c : Script) (trace : List Fact) → is_safe_now c trace ≡ true → IsKept c trace
kept_of c trace h =
    let m : (list_all (held_at c trace) (setting c).names ≡ true) × (lawful c (lists_of (setting c) trace) ≡ true) = and_both (list_all (held_at c trace) (setting c).names) (lawful c (lists_of (setting c) trace)) h in
    let o : (Owns c (lists_of (setting c) trace)) × (confirmed_there c (lists_of (setting c) trace) ≡ true) = owns_of c (lists_of (setting c) trace) m.1 in
    record { owns = o.0; live = m.0; there = o.1 }

pub safe_is_own : SafeIsOwn
safe_is_own c trace h = (kept_of c trace h).owns

kept_none : (c : Script) → IsKept c []
kept_none c = record {
  owns = no_lists_own c;
  live = all_of (held_at c []) (λ e. refl) (setting c).names;
  there = all_replicate (list_all (is_recorded c (no_lists (setting c)))) c.config.producers [] refl;
}

pub safe_begins : SafeBegins
safe_begins c = now_safe c [] (kept_none c)

pub live_more : (e : List ℕ) (trace : List Fact) (f : Fact) → live_at e (trace ++ f ∷ []) ≡ live_step e (live_at e trace) f
live_more e trace f = fold-append (live_step e) [] trace (f ∷ [])

kept_more : (c : Script) (trace : List Fact) (f : Fact)
    → IsKept c trace → guard c trace f ≡ true → IsKept c (trace ++ f ∷ [])
kept_more c trace f k g =
    let lists : SlotLists = lists_of (setting c) trace in
    let new : SlotLists = lists_step (setting c) lists f in
    record {
      owns = owns_step c trace f k.owns g;
      live = all_map (λ e. held_in c new e (live_step e (live_at e trace) f)) (held_at c (trace ++ f ∷ []))
          (λ e h. ap (λ l. held_in c l e (live_at e (trace ++ f ∷ []))) (lists_more c trace f) ∙ (ap (held_in c new e) (live_more e trace f) ∙ h))
          (setting c).names (live_held c trace f k.owns k.live g);
      there = ap (confirmed_there c) (lists_more c trace f) ∙ there_more c lists f (slot_of (setting c) f) k.there (guarded_recorded c trace f k.owns g);
    }

slot_shown : (c : Script) (trace : List Fact) (f : Fact) (o : Option Slot) → own_guard c trace f o ≡ true → option_map_or (is_slot_of c) o true ≡ true
slot_shown c trace f None g = refl
slot_shown c trace f (Some s) g = (and_both (is_slot_of c s) (may_follow c s (list_at (lists_of (setting c) trace) s) f) g).0

-- a guarded fact begins no list anew
guard_within : (c : Script) (trace : List Fact) (f : Fact) → guard c trace f ≡ true → begins f ≡ false
guard_within c trace (fact.Reshard n k) g =
    let f : Fact = fact.Reshard n k in
    let s : Slot = slot.Coordinator in
    follows_within c s (list_at (lists_of (setting c) trace) s) f (and_both (is_slot_of c s) (may_follow c s (list_at (lists_of (setting c) trace) s) f) (and_both (own_guard c trace f (Some s)) (cross_guard c trace f) g).0).1
guard_within c trace (fact.Resharded t n k) g =
    let f : Fact = fact.Resharded t n k in
    let s : Slot = slot.Shard t in
    follows_within c s (list_at (lists_of (setting c) trace) s) f (and_both (is_slot_of c s) (may_follow c s (list_at (lists_of (setting c) trace) s) f) (and_both (own_guard c trace f (Some s)) (cross_guard c trace f) g).0).1
guard_within c trace f g = refl

shown : (c : Script) (trace : List Fact) (f : Fact) → guard c trace f ≡ true → shows c trace f ≡ true
shown c trace (fact.Start x e) g =
    let at_holder : Bool = is_at x (holder (shard_list_of c e trace)) in
    let none : Bool = is_empty (live_at e trace) in
    (and_both (is_brought c e) at_holder (and_both (is_brought c e && at_holder) none (and_both true (is_brought c e && at_holder && none) g).1).0).0
shown c trace (fact.Wrote e r) g =
    let f : Fact = fact.Wrote e r in
    let list : List Fact = shard_list (lists_of (setting c) trace) (shard_of (setting c) e) in
    let s : Slot = slot.Shard (shard_of (setting c) e) in
    let live : Bool = not (is_empty (live_at e trace)) in
    let decided : Bool = is_decided (version_in trace) c (journal e list) r in
    let guards : (own_guard c trace f (Some s) ≡ true) × ((live && decided) ≡ true) = and_both (own_guard c trace f (Some s)) (live && decided) g in
    let crossed : (live ≡ true) × (decided ≡ true) = and_both live decided guards.1 in
    let may : may_follow c s list f ≡ true = (and_both (is_slot_of c s) (may_follow c s list f) guards.0).1 in
    let leased : (is_held list && (r.epoch == epoch list)) ≡ true = (and_both (is_leased list f) (is_entry c s list f) may).0 in
    both (live && (r.epoch == epoch list)) decided (both live (r.epoch == epoch list) crossed.0 (and_both (is_held list) (r.epoch == epoch list) leased).1) crossed.1
shown c trace (fact.Active x e m st) g = (and_both true (cross_guard c trace (fact.Active x e m st)) g).1
shown c trace (fact.Reshard n k) g = absurd (true_is_not_false (guard_within c trace (fact.Reshard n k) g))
shown c trace (fact.Resharded s n k) g = absurd (true_is_not_false (guard_within c trace (fact.Resharded s n k) g))
shown c trace f g = slot_shown c trace f (slot_of (setting c) f) (and_both (own_guard c trace f (slot_of (setting c) f)) (cross_guard c trace f) g).0

-- such a fact stays within the era
stays : (c : Script) (trace : List Fact) (f : Fact) → begins f ≡ false → era_step (record { script = c; trace = trace }) f ≡ record { script = c; trace = trace ++ f ∷ [] }
stays c trace (fact.Reshard n k) within = absurd (true_is_not_false within)
stays c trace f within = refl

pub guarded_is_safe : GuardedIsSafe
guarded_is_safe c trace [] k g = record { safe = k; era = ap (λ t. record { script = c; trace = t }) (sym (append-nil trace)) }
guarded_is_safe c trace (f ∷ fs) k g =
    let m : (guard c trace f ≡ true) × (guarded_after c (trace ++ f ∷ []) fs ≡ true) = and_both (guard c trace f) (guarded_after c (trace ++ f ∷ []) fs) g in
    let new : is_safe_now c (trace ++ f ∷ []) ≡ true = now_safe c (trace ++ f ∷ []) (kept_more c trace f (kept_of c trace k) m.0) in
    let rest : GoesSafely c (trace ++ f ∷ []) fs = guarded_is_safe c (trace ++ f ∷ []) fs new m.1 in
    let here : Era = record { script = c; trace = trace } in
    let next : era_step here f ≡ record { script = c; trace = trace ++ f ∷ [] } = stays c trace f (guard_within c trace f m.0) in
    record {
      safe = both (is_safe_now c trace && shows c trace f) (safe_from (era_step here f) fs) (both (is_safe_now c trace) (shows c trace f) k (shown c trace f m.0)) (ap (λ e. safe_from e fs) next ∙ rest.safe);
      era = ap (λ e. fold era_step e fs) next ∙ (rest.era ∙ ap (λ t. record { script = c; trace = t }) (append_assoc trace (f ∷ []) fs));
    }

pub safe_goes_on : SafeGoesOn
safe_goes_on c trace fs k g =
    now_safe c (trace ++ fs) (follows_to (guard c) (IsKept c) (λ before f h m. kept_more c before f h m) trace fs (kept_of c trace k) g)

pub safe_both : SafeBoth
safe_both era [] gs a b = b
safe_both era (f ∷ fs) gs a b =
    let t : Bool = is_safe_now era.script era.trace && shows era.script era.trace f in
    let m : (t ≡ true) × (safe_from (era_step era f) fs ≡ true) = and_both t (safe_from (era_step era f) fs) a in
    both t (safe_from (era_step era f) (fs ++ gs)) m.0 (safe_both (era_step era f) fs gs m.1 b)

pub guarded_is_safe_now : GuardedIsSafeNow
guarded_is_safe_now c trace g =
    let o : Opened = opened trace in
    let m : (is_safe_now c o.opening ≡ true) × (guarded_after c o.opening o.since ≡ true) = and_both (is_safe_now c o.opening) (guarded_after c o.opening o.since) g in
    ap (is_safe_now c) (sym (opened_whole trace)) ∙ safe_goes_on c o.opening o.since m.0 m.1

pub guarded_is_own : GuardedIsOwn
guarded_is_own c trace g = safe_is_own c trace (guarded_is_safe_now c trace g)
