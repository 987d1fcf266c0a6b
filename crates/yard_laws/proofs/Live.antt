-- Who is live holds the shard: one guarded fact more.
use Rattle.std.proofs.Common.{◌≡◌, ◌<◌, ℕ, sym, ap, ◌∙◌, refl, subst}
use Rattle.std.specs.Prelude.{Bool, true, false, ◌==◌, not, cond, is_some, List, [], ◌∷◌, ◌++◌, length, if◌then◌else◌, Option, Some, None, slice_index_or, slice_set, ◌&&◌}
use Rattle.std.specs.List.{list_all}
use Rattle.std.proofs.lemmas.List.Sums.{fold-append}
use Rattle.std.proofs.lemmas.List.{get_or-set_same, get_or-set_other}
use Rattle.yard_model.specs.declared.fact.Fact.{Fact}
use Rattle.yard_model.specs.declared.fact.Fact.TheVariants as fact
use Rattle.yard_model.specs.declared.incarnation.Incarnation.{Incarnation}
use Rattle.yard_model.specs.declared.incarnation.Slot.TheVariants as slot
use Rattle.yard_model.specs.Script.{Script, setting, is_name}
use Rattle.yard_model.specs.Setting.{shard_of}
use Rattle.yard_model.specs.Words.{is_same, is_at, is_empty, without}
use Rattle.yard_model.specs.Genuine.{is_shard, is_brought}
use Rattle.yard_model.specs.SlotLists.{SlotLists, shard_list}
use Rattle.yard_model.specs.SlotReads.{holder, holder_step}
use Rattle.yard_model.specs.Trace.{with_entry, lists_step, lists_of}
use Rattle.yard_model.specs.Lawful.{may_follow, is_leased, is_held, is_entry}
use Rattle.yard_model.specs.Safe.{live_at, live_step, at_most_holder}
use Rattle.yard_model.specs.Guards.{own_guard, cross_guard, guard}
use Rattle.plain_laws.proofs.Booleans.{true_is_not_false, and_both, of_not, same_number, number_itself, other_number, below, same_name, all_map, all_where}
use Rattle.plain_laws.proofs.Members.{same_both}
use Rattle.yard_laws.specs.Guarded.{Owns}

-- Incarnations that are found the same.

pub both_held : (x y : Incarnation) (h : Option Incarnation) → is_at x h ≡ true → is_at y h ≡ true → is_same x y ≡ true
both_held x y None e f = absurd (true_is_not_false (sym e))
both_held x y (Some w) e f = same_both x y w e f

-- At most one live, and that is the holder.

none_live : (h : Option Incarnation) (live : List Incarnation) → is_some h ≡ false → at_most_holder h live ≡ true → live ≡ []
none_live h [] n e = refl
none_live None (x ∷ []) n e = absurd (true_is_not_false (sym e))
none_live (Some y) (x ∷ []) n e = absurd (true_is_not_false n)
none_live h (x ∷ y ∷ xs) n e = absurd (true_is_not_false (sym e))

empty_is : {A : Type 0} (xs : List A) → is_empty xs ≡ true → xs ≡ []
empty_is [] e = refl
empty_is (x ∷ xs) e = absurd (true_is_not_false (sym e))

-- one more is live: the holder, where none was
live_more : (h : Option Incarnation) (live : List Incarnation) (x : Incarnation) → is_at x h ≡ true → is_empty live ≡ true → at_most_holder h (without x live ++ x ∷ []) ≡ true
live_more h [] x at new = at
live_more h (y ∷ ys) x at new = absurd (true_is_not_false (sym new))

live_fewer : (h : Option Incarnation) (live : List Incarnation) (x : Incarnation) → at_most_holder h live ≡ true → at_most_holder h (without x live) ≡ true
live_fewer h [] x e = refl
live_fewer h (y ∷ []) x e = step (not (is_same x y))
  where
    step : (b : Bool) → at_most_holder h (cond b (y ∷ []) []) ≡ true
    step true = e
    step false = refl
live_fewer h (y ∷ z ∷ xs) x e = absurd (true_is_not_false (sym e))

none_held : (h : Option Incarnation) (live : List Incarnation) → live ≡ [] → at_most_holder h live ≡ true
none_held h live n = ap (at_most_holder h) n

held_if : (b : Bool) (h : Option Incarnation) (old new : List Incarnation) → at_most_holder h old ≡ true → (b ≡ true → at_most_holder h new ≡ true) → at_most_holder h (if b then new else old) ≡ true
held_if true h old new e f = f refl
held_if false h old new e f = e

-- The holder of a shard, with one entry more in the list of a shard.

pub holder_more : (list : List Fact) (f : Fact) → holder (list ++ f ∷ []) ≡ holder_step (holder list) f
holder_more list f = fold-append holder_step None list (f ∷ [])

-- what holds of the holder of every shard, where it holds of that of the shard with an entry more and of the others
holder_in : (lists : SlotLists) (f : Fact) (s k : ℕ) (P : Option Incarnation → Type 0) → s < length lists.shards
    → (k ≡ s → P (holder_step (holder (shard_list lists s)) f)) → P (holder (shard_list lists k))
    → P (holder (slice_index_or (slice_set lists.shards s (shard_list lists s ++ f ∷ [])) k []))
holder_in lists f s k P inside here there = at (k == s) refl
  where
    at : (b : Bool) → (k == s) ≡ b → P (holder (slice_index_or (slice_set lists.shards s (shard_list lists s ++ f ∷ [])) k []))
    at true e =
        let v : List Fact = shard_list lists s ++ f ∷ [] in
        let same : k ≡ s = same_number k s e in
        subst P (sym (ap (λ t. holder (slice_index_or (slice_set lists.shards s v) t [])) same ∙ (ap holder (get_or-set_same lists.shards s v [] inside) ∙ holder_more (shard_list lists s) f))) (here same)
    at false e = subst P (sym (ap holder (get_or-set_other lists.shards s k (shard_list lists s ++ f ∷ []) [] (other_number k s e)))) there

-- at most one is live, and that is the holder of e's shard in these lists
abbrev pub held_in : Script → SlotLists → List ℕ → List Incarnation → Bool
held_in c lists e live = at_most_holder (holder (shard_list lists (shard_of (setting c) e))) live

abbrev pub held_at : Script → List Fact → List ℕ → Bool
held_at c trace e = held_in c (lists_of (setting c) trace) e (live_at e trace)

-- an entry that isn't about the lease changes nothing
kept : (c : Script) (lists : SlotLists) (f : Fact) (s : ℕ) (e : List ℕ) (live : List Incarnation) → s < length lists.shards
    → (holder_step (holder (shard_list lists s)) f ≡ holder (shard_list lists s)) → held_in c lists e live ≡ true → held_in c (with_entry f lists (Some (slot.Shard s))) e live ≡ true
kept c lists f s e live inside same h =
    let k : ℕ = shard_of (setting c) e in
    holder_in lists f s k (λ o. at_most_holder o live ≡ true) inside (λ it. subst (λ o. at_most_holder o live ≡ true) (ap (λ t. holder (shard_list lists t)) it ∙ sym same) h) h

-- the names whose live ones are the holders, after a fact more
abbrev pub AllHeld : Script → List Fact → Fact → Type 0
AllHeld c trace f = list_all (λ e. held_in c (lists_step (setting c) (lists_of (setting c) trace) f) e (live_step e (live_at e trace) f)) (setting c).names ≡ true

-- the shard of an entry is there
inside_of : (c : Script) (trace : List Fact) (f : Fact) (s : ℕ) → Owns c (lists_of (setting c) trace) → own_guard c trace f (Some (slot.Shard s)) ≡ true → s < length (lists_of (setting c) trace).shards
inside_of c trace f s k g = subst (λ n. s < n) (sym k.shards) (below s c.config.shards (and_both (is_shard c s) (may_follow c (slot.Shard s) (shard_list (lists_of (setting c) trace) s) f) g).0)

entry_held : (c : Script) (trace : List Fact) (f : Fact) (s : ℕ) → Owns c (lists_of (setting c) trace) → list_all (held_at c trace) (setting c).names ≡ true → own_guard c trace f (Some (slot.Shard s)) ≡ true
    → ((h : Option Incarnation) → holder_step h f ≡ h)
    → list_all (λ e. held_in c (with_entry f (lists_of (setting c) trace) (Some (slot.Shard s))) e (live_at e trace)) (setting c).names ≡ true
entry_held c trace f s k h g same =
    let lists : SlotLists = lists_of (setting c) trace in
    all_map (held_at c trace) (λ e. held_in c (with_entry f lists (Some (slot.Shard s))) e (live_at e trace))
    (λ e old. kept c lists f s e (live_at e trace) (inside_of c trace f s k g) (same (holder (shard_list lists s))) old) (setting c).names h

pub live_held : (c : Script) (trace : List Fact) (f : Fact) → Owns c (lists_of (setting c) trace) → list_all (held_at c trace) (setting c).names ≡ true → guard c trace f ≡ true → AllHeld c trace f
live_held c trace (fact.Granted (slot.Shard s) n x) k h g =
    let f : Fact = fact.Granted (slot.Shard s) n x in
    let lists : SlotLists = lists_of (setting c) trace in
    let own_is : own_guard c trace f (Some (slot.Shard s)) ≡ true = (and_both (own_guard c trace f (Some (slot.Shard s))) true g).0 in
    let may : may_follow c (slot.Shard s) (shard_list lists s) f ≡ true = (and_both (is_shard c s) (may_follow c (slot.Shard s) (shard_list lists s) f) own_is).1 in
    let leased : is_leased (shard_list lists s) f ≡ true = (and_both (is_leased (shard_list lists s) f) (is_entry c (slot.Shard s) (shard_list lists s) f) may).0 in
    let free : is_held (shard_list lists s) ≡ false = of_not (is_held (shard_list lists s)) (and_both (not (is_held (shard_list lists s))) _ leased).0 in
    all_map (held_at c trace) (λ e. held_in c (with_entry f lists (Some (slot.Shard s))) e (live_at e trace))
    (λ e old.
    holder_in lists f s (shard_of (setting c) e) (λ o. at_most_holder o (live_at e trace) ≡ true) (inside_of c trace f s k own_is)
    (λ it. none_held (Some x) (live_at e trace) (none_live (holder (shard_list lists (shard_of (setting c) e))) (live_at e trace) (ap (λ t. is_held (shard_list lists t)) it ∙ free) old))
    old)
    (setting c).names h
live_held c trace (fact.Granted s n x) k h g = h
live_held c trace (fact.Freed (slot.Shard s) n why) k h g =
    let f : Fact = fact.Freed (slot.Shard s) n why in
    let lists : SlotLists = lists_of (setting c) trace in
    let guards : (own_guard c trace f (Some (slot.Shard s)) ≡ true) × (cross_guard c trace f ≡ true) = and_both (own_guard c trace f (Some (slot.Shard s))) (cross_guard c trace f) g in
    all_where (held_at c trace) (λ e. held_in c (with_entry f lists (Some (slot.Shard s))) e (live_at e trace)) (λ e. shard_of (setting c) e == s) (λ e. is_empty (live_at e trace))
    (λ e old none.
    holder_in lists f s (shard_of (setting c) e) (λ o. at_most_holder o (live_at e trace) ≡ true) (inside_of c trace f s k guards.0)
    (λ it. none_held None (live_at e trace) (empty_is (live_at e trace) (none (number_itself (shard_of (setting c) e) s it))))
    old)
    (setting c).names h guards.1
live_held c trace (fact.Freed s n why) k h g = h
live_held c trace (fact.Wrote x r) k h g = entry_held c trace (fact.Wrote x r) (shard_of (setting c) x) k h (and_both (own_guard c trace (fact.Wrote x r) (Some (slot.Shard (shard_of (setting c) x)))) _ g).0 (λ o. refl)
live_held c trace (fact.Snapshot x m) k h g = entry_held c trace (fact.Snapshot x m) (shard_of (setting c) x) k h (and_both (own_guard c trace (fact.Snapshot x m) (Some (slot.Shard (shard_of (setting c) x)))) _ g).0 (λ o. refl)
live_held c trace (fact.Remembered x) k h g = entry_held c trace (fact.Remembered x) (shard_of (setting c) x) k h (and_both (own_guard c trace (fact.Remembered x) (Some (slot.Shard (shard_of (setting c) x)))) _ g).0 (λ o. refl)
live_held c trace (fact.Forgotten x) k h g = entry_held c trace (fact.Forgotten x) (shard_of (setting c) x) k h (and_both (own_guard c trace (fact.Forgotten x) (Some (slot.Shard (shard_of (setting c) x)))) _ g).0 (λ o. refl)
live_held c trace (fact.Resharded s n j) k h g = entry_held c trace (fact.Resharded s n j) s k h (and_both (own_guard c trace (fact.Resharded s n j) (Some (slot.Shard s))) _ g).0 (λ o. refl)
live_held c trace (fact.Start x y) k h g =
    let lists : SlotLists = lists_of (setting c) trace in
    let guards : (is_at x (holder (shard_list lists (shard_of (setting c) y))) ≡ true) × (is_empty (live_at y trace) ≡ true) = (let at_holder : Bool = is_at x (holder (shard_list lists (shard_of (setting c) y))) in let none : Bool = is_empty (live_at y trace) in let m : ((is_brought c y && at_holder) ≡ true) × (none ≡ true) = and_both (is_brought c y && at_holder) none (and_both true (is_brought c y && at_holder && none) g).1 in ((and_both (is_brought c y) at_holder m.0).1, m.1)) in
    all_map (held_at c trace) (λ e. held_in c lists e (if is_name y e then without x (live_at e trace) ++ x ∷ [] else live_at e trace))
    (λ e old.
    held_if (is_name y e) (holder (shard_list lists (shard_of (setting c) e))) (live_at e trace) (without x (live_at e trace) ++ x ∷ []) old (λ it.
    live_more (holder (shard_list lists (shard_of (setting c) e))) (live_at e trace) x
    (subst (λ z. is_at x (holder (shard_list lists (shard_of (setting c) z))) ≡ true) (same_name y e it) guards.0)
    (subst (λ z. is_empty (live_at z trace) ≡ true) (same_name y e it) guards.1)))
    (setting c).names h
live_held c trace (fact.Stop x y) k h g =
    let lists : SlotLists = lists_of (setting c) trace in
    all_map (held_at c trace) (λ e. held_in c lists e (if is_name y e then without x (live_at e trace) else live_at e trace))
    (λ e old. held_if (is_name y e) (holder (shard_list lists (shard_of (setting c) e))) (live_at e trace) (without x (live_at e trace)) old (λ it. live_fewer (holder (shard_list lists (shard_of (setting c) e))) (live_at e trace) x old))
    (setting c).names h
live_held c trace (fact.WriteFailed x y) k h g =
    let lists : SlotLists = lists_of (setting c) trace in
    all_map (held_at c trace) (λ e. held_in c lists e (if is_name y e then without x (live_at e trace) else live_at e trace))
    (λ e old. held_if (is_name y e) (holder (shard_list lists (shard_of (setting c) e))) (live_at e trace) (without x (live_at e trace)) old (λ it. live_fewer (holder (shard_list lists (shard_of (setting c) e))) (live_at e trace) x old))
    (setting c).names h
live_held c trace (fact.Gone x) k h g =
    let lists : SlotLists = lists_of (setting c) trace in
    all_map (held_at c trace) (λ e. held_in c lists e (without x (live_at e trace)))
    (λ e old. live_fewer (holder (shard_list lists (shard_of (setting c) e))) (live_at e trace) x old)
    (setting c).names h
live_held c trace f k h g = h
