-- What is confirmed stands in the journals: one guarded fact more.
use Rattle.std.proofs.Common.{◌≡◌, ◌<◌, ◌≤◌, ℕ, ◌-◌, ap, ◌∙◌, refl, subst, arith}
use Rattle.std.specs.Prelude.{Bool, true, false, ◌==◌, ◌&&◌, ◌||◌, nat_lt, nat_le, List, [], ◌∷◌, ◌++◌, length, if◌then◌else◌, Option, Some, None, slice_index_or, slice_set}
use Rattle.std.specs.List.{list_all}
use Rattle.std.proofs.lemmas.List.{get_or-set_same, get_or-set_other, set_past}
use Rattle.std.proofs.lemmas.List.Folds.{list_all-append}
use Rattle.yard_model.specs.declared.fact.Fact.{Fact}
use Rattle.yard_model.specs.declared.fact.Fact.TheVariants as fact
use Rattle.yard_model.specs.declared.incarnation.Slot.{Slot}
use Rattle.yard_model.specs.declared.incarnation.Slot.TheVariants as slot
use Rattle.yard_model.specs.Script.{Script, setting, is_name}
use Rattle.yard_model.specs.Setting.{shard_of}
use Rattle.yard_model.specs.Genuine.{is_producer}
use Rattle.yard_model.specs.SlotLists.{SlotLists, shard_list, queue_list}
use Rattle.yard_model.specs.SlotReads.{journal, journal_step, position, confirmed, queued}
use Rattle.yard_model.specs.Trace.{with_entry, lists_of}
use Rattle.yard_model.specs.Lawful.{may_follow, is_leased, is_entry, has_place, is_recorded, confirmed_there}
use Rattle.yard_model.specs.Guards.{own_guard, cross_guard, guard}
use Rattle.yard_laws.specs.Guarded.{Owns}
use Rattle.plain_laws.proofs.Booleans.{and_both, both, left_of, same_number, other_number, below, not_below, at_most, all_map, all_set, all_get}
use Rattle.yard_laws.proofs.Places.{places, place_more}
use Rattle.plain_laws.proofs.Read.{journal_more}

-- A record that is there stays there.

place_stays : (p n : ℕ) (e : List ℕ) (list : List Fact) (f : Fact) → has_place p n (journal e list) ≡ true → has_place p n (journal_step e (journal e list) f) ≡ true
place_stays p n e list (fact.Wrote x r) h = step (is_name x e)
  where
    step : (b : Bool) → has_place p n (if b then journal e list ++ r ∷ [] else journal e list) ≡ true
    step true = place_more p n (journal e list) r ∙ left_of (has_place p n (journal e list)) (((r.producer == p) && (r.place == n)) || false) h
    step false = h
place_stays p n e list f h = h

-- in the lists with one entry more of shard s
there_stays : (p n : ℕ) (e : List ℕ) (shards : List (List Fact)) (s k : ℕ) (f : Fact) → has_place p n (journal e (slice_index_or shards k [])) ≡ true
    → has_place p n (journal e (slice_index_or (slice_set shards s (slice_index_or shards s [] ++ f ∷ [])) k [])) ≡ true
there_stays p n e shards s k f h = at (k == s) refl (nat_lt s (length shards)) refl
  where
    v : List Fact
    v = slice_index_or shards s [] ++ f ∷ []

    at : (b : Bool) → (k == s) ≡ b → (w : Bool) → nat_lt s (length shards) ≡ w → has_place p n (journal e (slice_index_or (slice_set shards s v) k [])) ≡ true
    at true t true inside =
        let same : k ≡ s = same_number k s t in
        let was : has_place p n (journal e (slice_index_or shards s [])) ≡ true = subst (λ j. has_place p n (journal e (slice_index_or shards j [])) ≡ true) same h in
        ap (λ j. has_place p n (journal e (slice_index_or (slice_set shards s v) j []))) same
        ∙ (ap (λ l. has_place p n (journal e l)) (get_or-set_same shards s v [] (below s (length shards) inside))
        ∙ (ap (has_place p n) (journal_more e (slice_index_or shards s []) f)
        ∙ place_stays p n e (slice_index_or shards s []) f was))
    at true t false past = ap (λ l. has_place p n (journal e (slice_index_or l k []))) (set_past shards s v (not_below s (length shards) past)) ∙ h
    at false t w i = ap (λ l. has_place p n (journal e l)) (get_or-set_other shards s k v [] (other_number k s t)) ∙ h

recorded_stays : (c : Script) (lists : SlotLists) (s : ℕ) (f g : Fact) → is_recorded c lists g ≡ true → is_recorded c (with_entry f lists (Some (slot.Shard s))) g ≡ true
recorded_stays c lists s f (fact.Confirmed p e n) h = there_stays p n e lists.shards s (shard_of (setting c) e) f h
recorded_stays c lists s f g h = refl

recorded_else : (c : Script) (lists new : SlotLists) (g : Fact) → new.shards ≡ lists.shards → is_recorded c lists g ≡ true → is_recorded c new g ≡ true
recorded_else c lists new (fact.Confirmed p e n) same h = ap (λ l. has_place p n (journal e (slice_index_or l (shard_of (setting c) e) []))) same ∙ h
recorded_else c lists new g same h = refl

-- one entry more, that is recorded where it says that something is
pub there_more : (c : Script) (lists : SlotLists) (f : Fact) (o : Option Slot) → confirmed_there c lists ≡ true → is_recorded c lists f ≡ true → confirmed_there c (with_entry f lists o) ≡ true
there_more c lists f None h r = h
there_more c lists f (Some (slot.Shard s)) h r =
    all_map (list_all (is_recorded c lists)) (list_all (is_recorded c (with_entry f lists (Some (slot.Shard s)))))
    (λ l e. all_map (is_recorded c lists) (is_recorded c (with_entry f lists (Some (slot.Shard s)))) (λ g t. recorded_stays c lists s f g t) l e)
    lists.queues h
there_more c lists f (Some slot.Coordinator) h r =
    all_map (list_all (is_recorded c lists)) (list_all (is_recorded c (with_entry f lists (Some slot.Coordinator))))
    (λ l e. all_map (is_recorded c lists) (is_recorded c (with_entry f lists (Some slot.Coordinator))) (λ g t. recorded_else c lists (with_entry f lists (Some slot.Coordinator)) g refl t) l e)
    lists.queues h
there_more c lists f (Some (slot.Queue p)) h r =
    let new : SlotLists = with_entry f lists (Some (slot.Queue p)) in
    let old : List Fact = queue_list lists p in
    let here : list_all (is_recorded c lists) (old ++ f ∷ []) ≡ true =
    list_all-append (is_recorded c lists) old (f ∷ [])
    ∙ both (list_all (is_recorded c lists) old) (is_recorded c lists f && true) (all_get (list_all (is_recorded c lists)) lists.queues (p - 1) [] h refl) (both (is_recorded c lists f) true r refl) in
    all_map (list_all (is_recorded c lists)) (list_all (is_recorded c new))
    (λ l e. all_map (is_recorded c lists) (is_recorded c new) (λ g t. recorded_else c lists new g refl t) l e)
    (slice_set lists.queues (p - 1) (old ++ f ∷ []))
    (all_set (list_all (is_recorded c lists)) lists.queues (p - 1) (old ++ f ∷ []) h here)

-- a guarded confirmation is recorded
pub guarded_recorded : (c : Script) (trace : List Fact) (f : Fact) → Owns c (lists_of (setting c) trace) → guard c trace f ≡ true → is_recorded c (lists_of (setting c) trace) f ≡ true
guarded_recorded c trace (fact.Confirmed p e n) k g =
    let f : Fact = fact.Confirmed p e n in
    let lists : SlotLists = lists_of (setting c) trace in
    let list : List Fact = queue_list lists p in
    let guards : (own_guard c trace f (Some (slot.Queue p)) ≡ true) × (cross_guard c trace f ≡ true) = and_both (own_guard c trace f (Some (slot.Queue p))) (cross_guard c trace f) g in
    let may : may_follow c (slot.Queue p) list f ≡ true = (and_both (is_producer c p) (may_follow c (slot.Queue p) list f) guards.0).1 in
    let entry : ((p == p) && nat_lt (confirmed e list) n && nat_le n (queued e list)) ≡ true = (and_both (is_leased list f) (is_entry c (slot.Queue p) list f) may).1 in
    let rises : nat_lt (confirmed e list) n ≡ true = (and_both (p == p) (nat_lt (confirmed e list) n) (and_both ((p == p) && nat_lt (confirmed e list) n) (nat_le n (queued e list)) entry).0).1 in
    let low : confirmed e list < n = below (confirmed e list) n rises in
    let shard : ℕ = shard_of (setting c) e in
    let high : n ≤ position p (journal e (shard_list lists shard)) = at_most n (position p (journal e (shard_list lists shard))) guards.1 in
    places c shard e (shard_list lists shard) (k.shard shard) p n (omega arith) high
guarded_recorded c trace f k g = refl
