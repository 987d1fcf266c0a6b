-- One entry more: the lists are lawful with it exactly where it may follow in the list of its slot, and is recorded.
use Rattle.std.proofs.Common.{◌≡◌, ◌<◌, ◌≤◌, ℕ, ◌-◌, sym, ap, ◌∙◌, refl, subst, arith}
use Rattle.std.specs.Prelude.{Bool, true, false, ◌==◌, ◌&&◌, nat_lt, nat_le, List, [], ◌∷◌, ◌++◌, length, Option, Some, None, if◌then◌else◌}
use Rattle.std.specs.List.{list_all}
use Rattle.std.proofs.lemmas.List.{get_or-set_same}
use Rattle.std.proofs.lemmas.List.Folds.{list_all-append}
use Rattle.plain_laws.proofs.Booleans.{true_is_not_false, and_both, both, below, at_most, within, all_get}
use Rattle.yard_model.specs.declared.fact.Fact.{Fact}
use Rattle.yard_model.specs.declared.fact.Fact.TheVariants as fact
use Rattle.yard_model.specs.declared.incarnation.Slot.{Slot}
use Rattle.yard_model.specs.declared.incarnation.Slot.TheVariants as slot
use Rattle.yard_model.specs.Genuine.{is_producer, is_slot_of}
use Rattle.yard_model.specs.Lawful.{confirmed_there, has_place, is_entry, is_leased, is_recorded, lawful, may_follow, own}
use Rattle.yard_model.specs.Opening.{begins}
use Rattle.yard_model.specs.Script.{Script, setting}
use Rattle.yard_model.specs.Setting.{shard_of}
use Rattle.yard_model.specs.SlotLists.{SlotLists, queue_list, shard_list}
use Rattle.yard_model.specs.SlotReads.{confirmed, journal, position, queued}
use Rattle.yard_model.specs.Trace.{list_at, lists_step, slot_of, with_entry}
use Rattle.yard_model.proofs.FollowLaws.{own_grows}
use Rattle.yard_laws.specs.Guarded.{Owns}
use Rattle.yard_laws.proofs.Owns.{may_enter, owns_more, producer_above, producer_within}
use Rattle.yard_laws.proofs.Places.{places}
use Rattle.yard_laws.proofs.Recorded.{there_more}
use Rattle.yard_laws.proofs.SafetyLaws.{lawful_of, owns_of}
use Rattle.judge_laws.proofs.WithinLaws as recorded
use Rattle.fact_lines.specs.Entry as lines
use Rattle.log_resume.specs.Restored.{has_slot}
use Rattle.log_resume.specs.Taken.{Takes, is_within}
use Rattle.log_resume.proofs.EntryLaws.{entry_slot, entry_within}

pub list_more : (c : Script) (lists : SlotLists) (f : Fact) (s : Slot) → Owns c lists → is_slot_of c s ≡ true → list_at (with_entry f lists (Some s)) s ≡ list_at lists s ++ f ∷ []
list_more c lists f (slot.Shard s) k h =
    let inside : s < length lists.shards = subst (λ n. s < n) (sym k.shards) (below s c.config.shards h) in
    get_or-set_same lists.shards s (shard_list lists s ++ f ∷ []) [] inside
list_more c lists f slot.Coordinator k h = refl
list_more c lists f (slot.Queue p) k h =
    let above : 0 < p = producer_above c p h in
    let most : p ≤ c.config.producers = producer_within c p h in
    let inside : p - 1 < length lists.queues = omega (arith, above, most, k.queues) in
    get_or-set_same lists.queues (p - 1) (queue_list lists p ++ f ∷ []) [] inside

own_at : (c : Script) (lists : SlotLists) (s : Slot) → Owns c lists → is_slot_of c s ≡ true → own c s (list_at lists s) ≡ true
own_at c lists (slot.Shard s) k h = k.shard s
own_at c lists slot.Coordinator k h = k.coordinator
own_at c lists (slot.Queue p) k h = k.queue p (producer_above c p h)

-- what the lists with an entry more say of it
may_back : (c : Script) (lists : SlotLists) (f : Fact) (o : Option Slot) → has_slot c o ≡ true → begins f ≡ false → Owns c lists → Owns c (with_entry f lists o) → may_enter c lists f o ≡ true
may_back c lists f None h within old new = absurd (true_is_not_false (sym h))
may_back c lists f (Some s) h within old new =
    let list : List Fact = list_at lists s in
    let grown : own c s (list ++ f ∷ []) ≡ true = ap (own c s) (sym (list_more c lists f s old h)) ∙ own_at c (with_entry f lists (Some s)) s new h in
    both (is_slot_of c s) (may_follow c s list f) h (and_both (own c s list) (may_follow c s list f) (sym (own_grows c s list f within) ∙ grown)).1

recorded_back : (c : Script) (lists : SlotLists) (f : Fact) → has_slot c (slot_of (setting c) f) ≡ true → Owns c lists → confirmed_there c (lists_step (setting c) lists f) ≡ true → is_recorded c lists f ≡ true
recorded_back c lists (fact.Confirmed p e n) h owns there =
    let f : Fact = fact.Confirmed p e n in
    let after : SlotLists = with_entry f lists (Some (slot.Queue p)) in
    let list : queue_list after p ≡ queue_list lists p ++ f ∷ [] = list_more c lists f (slot.Queue p) owns h in
    let all : list_all (is_recorded c after) (queue_list after p) ≡ true = all_get (list_all (is_recorded c after)) after.queues (p - 1) [] there refl in
    let last : (list_all (is_recorded c after) (queue_list lists p) && (is_recorded c after f && true)) ≡ true =
    sym (list_all-append (is_recorded c after) (queue_list lists p) (f ∷ [])) ∙ (ap (list_all (is_recorded c after)) (sym list) ∙ all) in
    (and_both (is_recorded c after f) true (and_both (list_all (is_recorded c after) (queue_list lists p)) (is_recorded c after f && true) last).1).0
recorded_back c lists f h owns there = refl

slot_has : (c : Script) (lists : SlotLists) (f : Fact) (o : Option Slot) (s : Slot) → o ≡ Some s → may_enter c lists f o ≡ true → has_slot c o ≡ true
slot_has c lists f o s is may =
    let m : may_enter c lists f (Some s) ≡ true = ap (may_enter c lists f) (sym is) ∙ may in
    ap (has_slot c) is ∙ (and_both (is_slot_of c s) (may_follow c s (list_at lists s) f) m).0

same_truth : (a b : Bool) → (a ≡ true → b ≡ true) → (b ≡ true → a ≡ true) → a ≡ b
same_truth true b f g = sym (f refl)
same_truth false true f g = g refl
same_truth false false f g = refl

module _ (c : Script) (lists : SlotLists) (f : Fact) (entry : lines.is_entry f ≡ true) (law : lawful c lists ≡ true) where
  abbrev with_it : Bool
  with_it = has_slot c (slot_of (setting c) f) && lawful c (lists_step (setting c) lists f)

  pub exact : with_it ≡ (may_enter c lists f (slot_of (setting c) f) && is_recorded c lists f)
  exact =
      let old = owns_of c lists law in
      same_truth with_it (may_enter c lists f (slot_of (setting c) f) && is_recorded c lists f)
      (λ (e : with_it ≡ true).
      let m = and_both (has_slot c (slot_of (setting c) f)) (lawful c (lists_step (setting c) lists f)) e in
      let new = owns_of c (lists_step (setting c) lists f) m.1 in
      both (may_enter c lists f (slot_of (setting c) f)) (is_recorded c lists f)
      (may_back c lists f (slot_of (setting c) f) m.0 (entry_within f entry) old.0 new.0) (recorded_back c lists f m.0 old.0 new.1))
      (λ (e : (may_enter c lists f (slot_of (setting c) f) && is_recorded c lists f) ≡ true).
      let m = and_both (may_enter c lists f (slot_of (setting c) f)) (is_recorded c lists f) e in
      let s = entry_slot (setting c) f entry in
      both (has_slot c (slot_of (setting c) f)) (lawful c (lists_step (setting c) lists f))
      (slot_has c lists f (slot_of (setting c) f) s.0 s.1 m.0)
      (lawful_of c (lists_step (setting c) lists f) (owns_more c lists f (slot_of (setting c) f) old.0 m.0) (there_more c lists f (slot_of (setting c) f) old.1 m.1)))

-- a number past the records isn't recorded
past : (c : Script) (lists : SlotLists) (f : Fact) → Owns c lists → is_within c lists f ≡ false → is_recorded c lists f ≡ false
past c lists (fact.Confirmed p e n) owns beyond = by (has_place p n (journal e list)) refl
  where
    list : List Fact
    list = shard_list lists (shard_of (setting c) e)

    by : (b : Bool) → has_place p n (journal e list) ≡ b → has_place p n (journal e list) ≡ false
    by true h =
        let inside : n ≤ position p (journal e list) = recorded.within c (shard_of (setting c) e) e list (owns.shard (shard_of (setting c) e)) p n h in
        absurd (true_is_not_false (sym (within n (position p (journal e list)) inside) ∙ beyond))
    by false h = h
past c lists f owns beyond = absurd (true_is_not_false beyond)

-- one that may enter isn't 0
recorded_here : (c : Script) (lists : SlotLists) (f : Fact) → Owns c lists → is_within c lists f ≡ true → may_enter c lists f (slot_of (setting c) f) ≡ true → is_recorded c lists f ≡ true
recorded_here c lists (fact.Confirmed p e n) owns inside may =
    let f : Fact = fact.Confirmed p e n in
    let list : List Fact = queue_list lists p in
    let shard : ℕ = shard_of (setting c) e in
    let follows : may_follow c (slot.Queue p) list f ≡ true = (and_both (is_producer c p) (may_follow c (slot.Queue p) list f) may).1 in
    let entry : ((p == p) && nat_lt (confirmed e list) n && nat_le n (queued e list)) ≡ true = (and_both (is_leased list f) (is_entry c (slot.Queue p) list f) follows).1 in
    let rises : nat_lt (confirmed e list) n ≡ true = (and_both (p == p) (nat_lt (confirmed e list) n) (and_both ((p == p) && nat_lt (confirmed e list) n) (nat_le n (queued e list)) entry).0).1 in
    let low : confirmed e list < n = below (confirmed e list) n rises in
    let high : n ≤ position p (journal e (shard_list lists shard)) = at_most n (position p (journal e (shard_list lists shard))) inside in
    places c shard e (shard_list lists shard) (owns.shard shard) p n (omega (arith, low)) high
recorded_here c lists f owns inside may = refl

module _ (c : Script) (old : SlotLists) (f : Fact) (entry : lines.is_entry f ≡ true) (law : lawful c old ≡ true) where
  -- a number past the records
  pub takes_no : (new : SlotLists) → is_within c old f ≡ false → new ≡ old → Takes c old f false new
  takes_no new beyond same = record {
    answer = sym (exact c old f entry law ∙ (ap (λ b. may_enter c old f (slot_of (setting c) f) && b) (past c old f (owns_of c old law).0 beyond) ∙ none (may_enter c old f (slot_of (setting c) f))));
    lists_are = same;
  }
    where
      none : (b : Bool) → (b && false) ≡ false
      none true = refl
      none false = refl

  -- else its slot's list alone tells
  pub takes : (taken : Bool) (new : SlotLists) → is_within c old f ≡ true → taken ≡ may_enter c old f (slot_of (setting c) f) → new ≡ (if taken then lists_step (setting c) old f else old) → Takes c old f taken new
  takes taken new inside is lists_is = record {
    answer = is ∙ (sym (alone (may_enter c old f (slot_of (setting c) f)) refl) ∙ sym (exact c old f entry law));
    lists_are = lists_is;
  }
    where
      alone : (b : Bool) → may_enter c old f (slot_of (setting c) f) ≡ b → (b && is_recorded c old f) ≡ b
      alone true may = recorded_here c old f (owns_of c old law).0 inside may
      alone false may = refl
