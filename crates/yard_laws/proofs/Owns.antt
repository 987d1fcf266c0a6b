-- The lists of all slots, each lawful by itself: one guarded fact more.
use Rattle.std.proofs.Common.{◌≡◌, ◌<◌, ◌≤◌, ℕ, ◌-◌, sym, ap, ◌∙◌, refl, subst, arith}
use Rattle.std.specs.Prelude.{Bool, true, false, ◌==◌, ◌&&◌, List, [], ◌∷◌, ◌++◌, length, Option, Some, None, slice_index_or, slice_set}
use Rattle.std.proofs.lemmas.List.{get_or-set_same, get_or-set_other, length-set, length-replicate}
use Rattle.std.proofs.lemmas.List.Sums.{fold-append}
use Rattle.yard_model.specs.declared.fact.Fact.{Fact}
use Rattle.yard_model.specs.declared.incarnation.Slot.{Slot}
use Rattle.yard_model.specs.declared.incarnation.Slot.TheVariants as slot
use Rattle.yard_model.specs.Script.{Script, setting}
use Rattle.yard_model.specs.Genuine.{is_slot_of, is_shard, is_producer}
use Rattle.yard_model.specs.Lawful.{may_follow, own}
use Rattle.yard_model.specs.SlotLists.{SlotLists, shard_list, queue_list}
use Rattle.yard_model.specs.Trace.{slot_of, list_at, with_entry, no_lists, lists_step, lists_of}
use Rattle.yard_model.specs.Guards.{own_guard, cross_guard, guard}
use Rattle.yard_model.proofs.FollowLaws.{own_more}
use Rattle.plain_laws.proofs.Booleans.{and_both, same_number, other_number, below, at_most, get_replicate}
use Rattle.yard_laws.specs.Guarded.{Owns}

pub no_lists_own : (c : Script) → Owns c (no_lists (setting c))
no_lists_own c = record {
  shards = length-replicate c.config.shards [];
  queues = length-replicate c.config.producers [];
  shard = λ k. ap (own c (slot.Shard k)) (get_replicate c.config.shards k []);
  coordinator = refl;
  queue = λ p h. ap (own c (slot.Queue p)) (get_replicate c.config.producers (p - 1) []);
}

-- the own guard of an entry of this slot
abbrev pub may_enter : Script → SlotLists → Fact → Option Slot → Bool
may_enter c lists f None = true
may_enter c lists f (Some s) = is_slot_of c s && may_follow c s (list_at lists s) f

pub producer_above : (c : Script) (p : ℕ) → is_producer c p ≡ true → 0 < p
producer_above c p e = let low : 1 ≤ p = at_most 1 p (and_both _ _ e).0 in omega arith

pub producer_within : (c : Script) (p : ℕ) → is_producer c p ≡ true → p ≤ c.config.producers
producer_within c p e = at_most p c.config.producers (and_both _ _ e).1

pub owns_more : (c : Script) (lists : SlotLists) (f : Fact) (o : Option Slot) → Owns c lists → may_enter c lists f o ≡ true → Owns c (with_entry f lists o)
owns_more c lists f None k g = k
owns_more c lists f (Some (slot.Shard s)) k g =
    let v : List Fact = shard_list lists s ++ f ∷ [] in
    let m : (is_shard c s ≡ true) × (may_follow c (slot.Shard s) (shard_list lists s) f ≡ true) = and_both (is_shard c s) (may_follow c (slot.Shard s) (shard_list lists s) f) g in
    let inside : s < length lists.shards = subst (λ n. s < n) (sym k.shards) (below s c.config.shards m.0) in
    record {
      shards = length-set lists.shards s v ∙ k.shards;
      queues = k.queues;
      shard = λ t. at t (t == s) refl inside m.1;
      coordinator = k.coordinator;
      queue = k.queue;
    }
  where
    at : (t : ℕ) (b : Bool) → (t == s) ≡ b → s < length lists.shards → may_follow c (slot.Shard s) (shard_list lists s) f ≡ true → own c (slot.Shard t) (slice_index_or (slice_set lists.shards s (shard_list lists s ++ f ∷ [])) t []) ≡ true
    at t true e inside may =
        let v : List Fact = shard_list lists s ++ f ∷ [] in
        subst (λ t. own c (slot.Shard t) (slice_index_or (slice_set lists.shards s v) t []) ≡ true) (sym (same_number t s e))
        (ap (own c (slot.Shard s)) (get_or-set_same lists.shards s v [] inside) ∙ own_more c (slot.Shard s) (shard_list lists s) f (k.shard s) may)
    at t false e inside may = ap (own c (slot.Shard t)) (get_or-set_other lists.shards s t (shard_list lists s ++ f ∷ []) [] (other_number t s e)) ∙ k.shard t
owns_more c lists f (Some slot.Coordinator) k g = record {
  shards = k.shards;
  queues = k.queues;
  shard = k.shard;
  coordinator = own_more c slot.Coordinator lists.coordinator f k.coordinator g;
  queue = k.queue;
}
owns_more c lists f (Some (slot.Queue p)) k g =
    let v : List Fact = queue_list lists p ++ f ∷ [] in
    let m : (is_producer c p ≡ true) × (may_follow c (slot.Queue p) (queue_list lists p) f ≡ true) = and_both (is_producer c p) (may_follow c (slot.Queue p) (queue_list lists p) f) g in
    let above : 0 < p = producer_above c p m.0 in
    let within : p ≤ c.config.producers = producer_within c p m.0 in
    let inside : p - 1 < length lists.queues = omega (arith, k.queues) in
    record {
      shards = k.shards;
      queues = length-set lists.queues (p - 1) v ∙ k.queues;
      shard = k.shard;
      coordinator = k.coordinator;
      queue = λ q h. at q h (q - 1 == p - 1) refl above inside m.1;
    }
  where
    at : (q : ℕ) → 0 < q → (b : Bool) → (q - 1 == p - 1) ≡ b → 0 < p → p - 1 < length lists.queues → may_follow c (slot.Queue p) (queue_list lists p) f ≡ true → own c (slot.Queue q) (slice_index_or (slice_set lists.queues (p - 1) (queue_list lists p ++ f ∷ [])) (q - 1) []) ≡ true
    at q h true e above inside may =
        let v : List Fact = queue_list lists p ++ f ∷ [] in
        let same : q - 1 ≡ p - 1 = same_number (q - 1) (p - 1) e in
        let it : q ≡ p = omega arith in
        subst (λ t. own c (slot.Queue t) (slice_index_or (slice_set lists.queues (p - 1) v) (t - 1) []) ≡ true) (sym it)
        (ap (own c (slot.Queue p)) (get_or-set_same lists.queues (p - 1) v [] inside) ∙ own_more c (slot.Queue p) (queue_list lists p) f (k.queue p above) may)
    at q h false e above inside may = ap (own c (slot.Queue q)) (get_or-set_other lists.queues (p - 1) (q - 1) (queue_list lists p ++ f ∷ []) [] (other_number (q - 1) (p - 1) e)) ∙ k.queue q h

-- an entry more in the trace is an entry more in the list of its slot
pub lists_more : (c : Script) (trace : List Fact) (f : Fact) → lists_of (setting c) (trace ++ f ∷ []) ≡ lists_step (setting c) (lists_of (setting c) trace) f
lists_more c trace f = fold-append (lists_step (setting c)) (no_lists (setting c)) trace (f ∷ [])

enters : (c : Script) (trace : List Fact) (f : Fact) (o : Option Slot) → own_guard c trace f o ≡ true → may_enter c (lists_of (setting c) trace) f o ≡ true
enters c trace f None g = refl
enters c trace f (Some s) g = g

pub owns_step : (c : Script) (trace : List Fact) (f : Fact) → Owns c (lists_of (setting c) trace) → guard c trace f ≡ true → Owns c (lists_of (setting c) (trace ++ f ∷ []))
owns_step c trace f k g =
    let own_is : own_guard c trace f (slot_of (setting c) f) ≡ true = (and_both (own_guard c trace f (slot_of (setting c) f)) (cross_guard c trace f) g).0 in
    subst (Owns c) (sym (lists_more c trace f)) (owns_more c (lists_of (setting c) trace) f (slot_of (setting c) f) k (enters c trace f (slot_of (setting c) f) own_is))
