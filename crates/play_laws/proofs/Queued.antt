-- What is queued and what is recorded, along facts.
use Rattle.std.proofs.Common.{◌≡◌, ◌<◌, ◌≤◌, ℕ, ◌+◌, List, [], ◌∷◌, ◌++◌, length, sym, ap, subst, ◌∙◌, refl, true, false, arith}
use Rattle.std.proofs.lemmas.Bool.Decides.{nat_tests}
use Rattle.std.specs.Prelude.{Bool, ◌==◌, ◌&&◌, nat_le, nat_lt, fold, Option, Some, None, slice_index_or, slice_set, if◌then◌else◌}
use Rattle.std.proofs.lemmas.List.{get_or-set_same, get_or-set_other, set_past}
use Rattle.std.proofs.lemmas.List.Sums.{fold-append}
use Rattle.yard_model.specs.declared.fact.Fact.{Fact}
use Rattle.yard_model.specs.declared.fact.Fact.TheVariants as fact
use Rattle.yard_model.specs.declared.packet.Body.{Body}
use Rattle.yard_model.specs.declared.packet.Message.{Message}
use Rattle.yard_model.specs.declared.packet.Record.{Record}
use Rattle.yard_model.specs.declared.incarnation.Slot.{Slot}
use Rattle.yard_model.specs.declared.incarnation.Slot.TheVariants as slot
use Rattle.yard_model.specs.Genuine.{is_slot_of, is_producer, is_planned}
use Rattle.yard_model.specs.Lawful.{may_follow, is_leased, is_entry, is_of_shard, is_folded_after, is_merged_after}
use Rattle.yard_model.specs.Guards.{own_guard, cross_guard, guard}
use Rattle.yard_model.specs.Script.{Script, Setting, setting, is_name}
use Rattle.yard_model.specs.Setting.{shard_of}
use Rattle.yard_model.specs.SlotLists.{SlotLists, shard_list, queue_list}
use Rattle.yard_model.specs.SlotReads.{journal, journal_step, position, queued}
use Rattle.yard_model.specs.Trace.{slot_of, with_entry, lists_step, lists_of}
use Rattle.plain_laws.proofs.Booleans.{and_both, same_number, same_name}
use Rattle.yard_laws.proofs.Owns.{lists_more}
use Rattle.plain_laws.proofs.Lists.{by_place}
use Rattle.node_laws.proofs.CarriedLists.{queue_grows, queued_on, body_on}
use Rattle.node_laws.specs.Carried.{is_queued_in, is_carried_body, is_carried_fact}
use Rattle.play_laws.specs.Sound.{AreQueued}

-- One list more.

-- what holds of a list at a place, and of the list with its entry where it is at that place, holds of the list at the place afterwards
entered : (P : List Fact → Type 0) (xs : List (List Fact)) (j i : ℕ) (f : Fact) → P (slice_index_or xs i []) → (i ≡ j → P (slice_index_or xs i [] ++ f ∷ [])) → P (slice_index_or (slice_set xs j (slice_index_or xs j [] ++ f ∷ [])) i [])
entered P xs j i f old new = by_place (P (slice_index_or (slice_set xs j (slice_index_or xs j [] ++ f ∷ [])) i [])) i j
    (λ same. subst (λ n. P (slice_index_or (slice_set xs n (slice_index_or xs n [] ++ f ∷ [])) i [])) same (here (nat_lt i (length xs)) refl (new same)))
    (λ ne. subst P (sym (get_or-set_other xs j i (slice_index_or xs j [] ++ f ∷ []) [] ne)) old)
  where
    within : (a b : ℕ) → nat_lt a b ≡ true → a < b
    within a b e = grind (arith, nat_tests)

    past : (a b : ℕ) → nat_lt a b ≡ false → b ≤ a
    past a b e = grind (arith, nat_tests)

    here : (b : Bool) → nat_lt i (length xs) ≡ b → P (slice_index_or xs i [] ++ f ∷ []) → P (slice_index_or (slice_set xs i (slice_index_or xs i [] ++ f ∷ [])) i [])
    here true e n = subst P (sym (get_or-set_same xs i (slice_index_or xs i [] ++ f ∷ []) [] (within i (length xs) e))) n
    here false e n = subst (λ ys. P (slice_index_or ys i [])) (sym (set_past xs i (slice_index_or xs i [] ++ f ∷ []) (past i (length xs) e))) old

shard_entered : (P : List Fact → Type 0) (lists : SlotLists) (f : Fact) (o : Option Slot) (s : ℕ) → P (shard_list lists s) → (o ≡ Some (slot.Shard s) → P (shard_list lists s ++ f ∷ [])) → P (shard_list (with_entry f lists o) s)
shard_entered P lists f None s old new = old
shard_entered P lists f (Some (slot.Shard t)) s old new = entered P lists.shards t s f old (λ same. new (ap (λ n. Some (slot.Shard n)) (sym same)))
shard_entered P lists f (Some slot.Coordinator) s old new = old
shard_entered P lists f (Some (slot.Queue q)) s old new = old

-- By the lists after facts.

pub all_carried_on : (c : Script) (fs : List Fact) (lists : SlotLists) (b : Body) → is_carried_body c lists b ≡ true → is_carried_body c (fold (lists_step (setting c)) lists fs) b ≡ true
all_carried_on c [] lists b h = h
all_carried_on c (f ∷ fs) lists b h = all_carried_on c fs (lists_step (setting c) lists f) b (body_on c lists f b h)

pub all_queued_on : (set : Setting) (fs : List Fact) (lists : SlotLists) (m : Message) → is_queued_in lists m ≡ true → is_queued_in (fold (lists_step set) lists fs) m ≡ true
all_queued_on set [] lists m q = q
all_queued_on set (f ∷ fs) lists m q = all_queued_on set fs (lists_step set lists f) m (queued_on set lists f m.producer m.entity m.number q)

-- What is recorded stays queued.

-- an entry that is no record
quiet_entry : (p : ℕ) (e : List ℕ) (list : List Fact) (f : Fact) → ((old : List Record) → journal_step e old f ≡ old) → position p (journal e (list ++ f ∷ [])) ≡ position p (journal e list)
quiet_entry p e list f still = ap (position p) (fold-append (journal_step e) [] list (f ∷ []) ∙ still (journal e list))

quiet_queued : (c : Script) (lists : SlotLists) (f : Fact) → ((e : List ℕ) (old : List Record) → journal_step e old f ≡ old) → AreQueued c lists → AreQueued c (lists_step (setting c) lists f)
quiet_queued c lists f still q p e =
    let s : ℕ = shard_of (setting c) e in
    let more : queued e (queue_list lists p) ≤ queued e (queue_list (lists_step (setting c) lists f) p) = queue_grows f lists (slot_of (setting c) f) p e in
    shard_entered (λ l. position p (journal e l) ≤ queued e (queue_list (lists_step (setting c) lists f) p)) lists f (slot_of (setting c) f) s (most (position p (journal e (shard_list lists s))) (queued e (queue_list lists p)) (queued e (queue_list (lists_step (setting c) lists f) p)) (q p e) more)
    (λ same. subst (λ n. n ≤ queued e (queue_list (lists_step (setting c) lists f) p)) (sym (quiet_entry p e (shard_list lists s) f (still e))) (most (position p (journal e (shard_list lists s))) (queued e (queue_list lists p)) (queued e (queue_list (lists_step (setting c) lists f) p)) (q p e) more))
  where
    most : (a b d : ℕ) → a ≤ b → b ≤ d → a ≤ d
    most a b d h g = omega (arith, h, g)

-- a record that is merged
wrote_queued : (c : Script) (lists : SlotLists) (x : List ℕ) (r : Record) → is_merged_after c x (journal x (shard_list lists (shard_of (setting c) x))) r ≡ true → is_carried_fact lists (fact.Wrote x r) ≡ true → AreQueued c lists
    → AreQueued c (lists_step (setting c) lists (fact.Wrote x r))
wrote_queued c lists x r merged carried q p e =
    let s : ℕ = shard_of (setting c) e in
    shard_entered (λ l. position p (journal e l) ≤ queued e (queue_list lists p)) lists (fact.Wrote x r) (Some (slot.Shard (shard_of (setting c) x))) s (q p e)
    (λ same. subst (λ l. position p l ≤ queued e (queue_list lists p)) (sym (fold-append (journal_step e) [] (shard_list lists s) (fact.Wrote x r ∷ []))) (of_name (is_name x e) refl))
  where
    records : List Record
    records = journal e (shard_list lists (shard_of (setting c) e))

    next : (a b n m : ℕ) → (n == a + 1) ≡ true → nat_le n b ≡ true → m ≡ a + 1 → m ≤ b
    next a b n m h g e = grind (arith, nat_tests)

    of_producer : (b : Bool) → (r.producer == p) ≡ b → x ≡ e → position p (records ++ r ∷ []) ≤ queued e (queue_list lists p)
    of_producer true mine named =
        let same : r.producer ≡ p = same_number r.producer p mine in
        let merges : is_merged_after c e records r ≡ true = subst (λ y. is_merged_after c y (journal y (shard_list lists (shard_of (setting c) y))) r ≡ true) named merged in
        let placed : (r.place == position r.producer records + 1) ≡ true = (and_both (r.place == position r.producer records + 1) (is_planned c r.producer e r.place r.command) merges).0 in
        let there : nat_le r.place (queued e (queue_list lists r.producer)) ≡ true = subst (λ y. nat_le r.place (queued y (queue_list lists r.producer)) ≡ true) named carried in
        next (position p records) (queued e (queue_list lists p)) r.place (position p (records ++ r ∷ []))
        (subst (λ n. (r.place == position n records + 1) ≡ true) same placed) (subst (λ n. nat_le r.place (queued e (queue_list lists n)) ≡ true) same there)
        (fold-append (λ a (y : Record). a + (if y.producer == p then 1 else 0)) 0 records (r ∷ []) ∙ ap (λ b. position p records + (if b then 1 else 0)) mine)
    of_producer false other named =
        subst (λ n. n ≤ queued e (queue_list lists p)) (sym (fold-append (λ a (y : Record). a + (if y.producer == p then 1 else 0)) 0 records (r ∷ []) ∙ (ap (λ b. position p records + (if b then 1 else 0)) other ∙ zero_more (position p records)))) (q p e)
      where
        zero_more : (a : ℕ) → a + 0 ≡ a
        zero_more a = omega (arith)

    of_name : (b : Bool) → is_name x e ≡ b → position p (if b then records ++ r ∷ [] else records) ≤ queued e (queue_list lists p)
    of_name true k = of_producer (r.producer == p) refl (same_name x e k)
    of_name false k = q p e

-- a record that may stand is merged
merged_of : (c : Script) (s : ℕ) (list : List Fact) (x : List ℕ) (r : Record) → may_follow c (slot.Shard s) list (fact.Wrote x r) ≡ true → is_merged_after c x (journal x list) r ≡ true
merged_of c s list x r h =
    let entry : is_entry c (slot.Shard s) list (fact.Wrote x r) ≡ true = (and_both (is_leased list (fact.Wrote x r)) (is_entry c (slot.Shard s) list (fact.Wrote x r)) h).1 in
    (and_both (is_of_shard c s x && is_producer c r.producer && is_folded_after c (journal x list) r) (is_merged_after c x (journal x list) r) entry).1

pub fact_queued : (c : Script) (u : List Fact) (f : Fact) → guard c u f ≡ true → is_carried_fact (lists_of (setting c) u) f ≡ true → AreQueued c (lists_of (setting c) u) → AreQueued c (lists_of (setting c) (u ++ f ∷ []))
fact_queued c u f g carried q = subst (AreQueued c) (sym (lists_more c u f)) (by f g carried)
  where
    lists : SlotLists
    lists = lists_of (setting c) u

    by : (f : Fact) → guard c u f ≡ true → is_carried_fact lists f ≡ true → AreQueued c (lists_step (setting c) lists f)
    by (fact.Wrote x r) g h =
        let s : ℕ = shard_of (setting c) x in
        let own_is : own_guard c u (fact.Wrote x r) (Some (slot.Shard s)) ≡ true = (and_both (own_guard c u (fact.Wrote x r) (Some (slot.Shard s))) (cross_guard c u (fact.Wrote x r)) g).0 in
        let follows : may_follow c (slot.Shard s) (shard_list lists s) (fact.Wrote x r) ≡ true = (and_both (is_slot_of c (slot.Shard s)) (may_follow c (slot.Shard s) (shard_list lists s) (fact.Wrote x r)) own_is).1 in
        wrote_queued c lists x r (merged_of c s (shard_list lists s) x r follows) h q
    by f g h = quiet_queued c lists f (λ e old. refl) q
