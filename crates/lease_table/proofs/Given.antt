-- What a pass keeps where it gives a slot back, and what a closed table has.
use Rattle.std.proofs.Common.{◌&&◌, ◌≡◌, ◌≢◌, ℕ, zero, suc, ◌-◌, ◌<◌, ◌≤◌, ⊎_elim, Bool, true, false, ◌||◌, List, [], ◌∷◌, ◌++◌, length, map, refl, sym, ap, ◌∙◌, subst, arith, eqb, ne_eqb}
use Rattle.std.proofs.lemmas.List.{get_or-set_same, get_or-set_other, length-set}
use Rattle.std.specs.Prelude.{Option, None, Some, is_some, slice_index}
use Rattle.std.specs.List.{list_any, list_all}
use Rattle.std.proofs.lemmas.List.Folds.{list_all-append}
use Rattle.std.proofs.lemmas.List.Sums.{fold-append}
use Rattle.plain_laws.proofs.Booleans.{both}
use Rattle.plain_laws.proofs.Lists.{some_is, none_is_not_some}
use Rattle.yard_model.specs.declared.incarnation.Incarnation.{Incarnation}
use Rattle.yard_model.specs.declared.incarnation.Slot.{Slot}
use Rattle.lease_table.proofs.Records.{home_inside, confirms_before}
use Rattle.lease_table.proofs.Seats.{got_at}
use mathlib.Core.Option as maybe
use lib.ListN.{get_elem?}
use Rattle.atomic_table.specs.Table.{rest, Final, Seen}
use Rattle.yard_model.specs.Script.{Script}
use Rattle.yard_model.specs.declared.incarnation.Cause.{Cause}
use Rattle.yard_model.specs.declared.fact.Fact.{Fact}
use Rattle.yard_model.specs.declared.fact.Fact.TheVariants as fact
use Rattle.shard_store.specs.declared.store.Store.{Store}
use Rattle.lease_table.specs.Fits.{slot_count, is_fit, Fits, recorded, home_of}
use Rattle.shard_lease.specs.Meaning.{Begins, confirms}
use Rattle.yard_model.specs.Lawful.{own, is_held}
use Rattle.yard_model.specs.SlotReads.{epoch, holder_step}
use Rattle.shard_store.specs.Stores.{script_of, slot_of, entries_of, spare_of, slot_at, entries_in, entries_at, IsHome, IsThere, AreHomes}
use Rattle.lease_table.specs.declared.View.{View}
use Rattle.lease_table.specs.Lists.{seen_at, Has}
use Rattle.yard_model.specs.Words.{at}
use Rattle.std.specs.Prelude.{slice_set}
use Rattle.lease_table.specs.Rule.{IsTable, IsFree}
use Rattle.lease_table.specs.Tells.{SeatState, published, freed}
use Rattle.lease_table.specs.Leasing.{empty, counted, IsPass, MayRelease, MayPublish, Closes, Closed, ClosedAt}
use Rattle.lease_table.specs.Fronts.{Brought}
use Rattle.lease_table.proofs.Places.{same_or_not, begins_on, at_snoc_place, not_some}
use Rattle.lease_table.proofs.Steps.{nothing_held}
use Rattle.lease_table.proofs.Charters.{admitted_some}
use Rattle.lease_table.proofs.Taken.{counted_put_again}

abbrev ended : Slot → List Fact → Cause → List Fact
ended s h cause = h ++ fact.Freed s (epoch h) cause ∷ []

pub may_end : (v : View) (k : ℕ) (x : Store) (cause : Cause) (new : List Fact) → MayRelease v k x → own v.charter (slot_at v.charter.config k) new ≡ true → new ≡ ended (slot_at v.charter.config k) (entries_of x) cause → MayPublish v k new
may_end v k x cause new may lawful is =
    let s : Slot = slot_at v.charter.config k in record {
      old = may.old;
      held = may.held;
      extends = subst (λ (l : List Fact). Begins may.old l) (sym is) (begins_on may.old (entries_of x) (ended s (entries_of x) cause) may.extends record { rest = fact.Freed s (epoch (entries_of x)) cause ∷ []; is = refl });
      vouched = λ e p n h. may.vouched e p n (confirms_before e p n (entries_of x) (fact.Freed s (epoch (entries_of x)) cause) refl (subst (λ (l : List Fact). confirms e p n l ≡ true) is h));
      own = record {
        lawful = lawful;
        fit = subst (λ (l : List Fact). list_all (is_fit v.charter s) l ≡ true) (sym is) (list_all-append (is_fit v.charter s) (entries_of x) (fact.Freed s (epoch (entries_of x)) cause ∷ []) ∙ both (list_all (is_fit v.charter s) (entries_of x)) (true && true) may.fit refl);
      };
    }

pub not_held_then : (s : Slot) (h : List Fact) (n : ℕ) (cause : Cause) → is_held (h ++ fact.Freed s n cause ∷ []) ≡ false
not_held_then s h n cause = ap (λ (o : Option Incarnation). is_some o) (fold-append holder_step None h (fact.Freed s n cause ∷ []))

pub rests_ended : (c : Script) (v : View) (k : ℕ) (x y : Store) (cause : Cause) → v.charter ≡ c → MayRelease v k x → (entries_of y) ≡ (entries_of x) ++ fact.Freed (slot_of x) (epoch (entries_of x)) cause ∷ [] → (spare_of y) ≡ (spare_of x) - 1 → script_of y ≡ script_of x → slot_of y ≡ slot_of x
    → IsFree c k (entries_of y) y
rests_ended c v k x y cause is may log spare script slot = record {
  log = refl;
  spare = let a : 101 ≤ (spare_of x) = may.spare in omega arith;
  script = script ∙ may.script ∙ is;
  slot = slot ∙ may.slot ∙ ap (λ (z : Script). slot_at z.config k) is;
  closed = ap is_held log ∙ not_held_then (slot_of x) (entries_of x) (epoch (entries_of x)) cause;
}

pub counted_out : (l : List (Option (List Fact))) (k : ℕ) (old : List Fact) → at l k ≡ Some old → suc (counted (slice_set l k None)) ≡ counted l
counted_out [] k old e = cc
counted_out (None ∷ xs) zero old e = cc
counted_out (Some x ∷ xs) zero old e = refl
counted_out (None ∷ xs) (suc k) old e = counted_out xs k old e
counted_out (Some x ∷ xs) (suc k) old e = ap suc (counted_out xs k old e)

or_then : (a b : Bool) → a ≡ false → (a || b) ≡ true → b ≡ true
or_then true b e h = cc
or_then false b e h = h

-- m at entry, w after the publish, n at the end
pub gave_ok : (c : Script) (m n : SeatState) (order now last : List ℕ) (cs : List (ℕ × Option Store)) (room room' k : ℕ) (old h : List Fact) → IsPass c m order room → at m.0.held k ≡ Some old → k < slot_count c → (b : Brought k order now cs) → last ≡ b.tail
    → n ≡ (freed (published m.0 k h) k, rest cs) → room' ≡ room → IsPass c n last room'
gave_ok c m n order now last cs room room' k old h ok has lt b is_last is same =
    let w : View = freed (published m.0 k h) k in
    let held1 : List (Option (List Fact)) = slice_set m.0.held k (Some h) in
    let wide : length m.0.held ≡ slot_count c = ok.helds in
    let in1 : at held1 k ≡ Some h = get_or-set_same m.0.held k (Some h) None (omega arith) in
    let none : at (slice_set held1 k None) k ≡ None = get_or-set_same held1 k None None (let e : length held1 ≡ length m.0.held = length-set m.0.held k (Some h) in omega arith) in
    let other : (j : ℕ) → j ≢ k → at (slice_set held1 k None) j ≡ at m.0.held j = λ j p. get_or-set_other held1 k j None None p ∙ get_or-set_other m.0.held k j (Some h) None p in
    let carried : rest cs ≡ map empty b.tail = ap (λ (l : List (ℕ × Option Store)). rest l) (b.all ∙ ap (λ (l : List ℕ). map empty l) b.is) in
    let long : suc (length b.tail) ≡ length order = ap (λ (l : List ℕ). length l) (sym b.is) ∙ b.long in
    let count1 : counted held1 ≡ counted m.0.held = counted_put_again m.0.held k h old has in
    let count2 : suc (counted (slice_set held1 k None)) ≡ counted held1 = counted_out held1 k h in1 in
    let count0 : length order ≡ counted m.0.held = ok.count in
    subst (λ (y : SeatState). IsPass c y last room') (sym is) (subst (λ (y : List ℕ). IsPass c (w, rest cs) y room') (sym is_last) record {
      carried = carried;
      charter = ok.charter;
      live = ok.live;
      helds = length-set held1 k None ∙ length-set m.0.held k (Some h) ∙ ok.helds;
      seens = length-set m.0.seen k h ∙ ok.seens;
      oldss = ok.oldss;
      listed = λ j e. ⊎_elim (λ (p : j ≡ k). absurd (not_some _ (subst (λ (y : ℕ). at (slice_set held1 k None) y ≡ None) (sym p) none) e))
          (λ (p : j ≢ k). or_then (eqb j k) (list_any (eqb j) b.tail) (ne_eqb j k p)
          (ap (λ (l : List ℕ). list_any (eqb j) l) (sym b.is) ∙ b.same j ∙ ok.listed j (ap (λ (o : Option (List Fact)). is_some o) (sym (other j p)) ∙ e))) (same_or_not j k);
      count = omega arith;
      room = let e : slot_count c ≤ room = ok.room in omega arith;
    })

-- no slot is out where the pass has every number and holds nothing
not_out : (c : Script) (id : ℕ) (v : View) (ws : List ℕ) (xs : List (Option Store)) → (f : Final (Seen (IsTable c) id v) ws xs) → Closes c v → (k : ℕ) → k < slot_count c → slice_index f.0.words k ≢ 0 → ⊥
not_out c id v ws xs f all k lt n =
    let s = f.0 in let r = f.1.0 in let here = f.1.1 in let sl = r.slots k lt in let me = r.views id v here in
    let t = sl.out n in let a = admitted_some c (slice_index s.words k) (slot_at c.config k) t.admitted in
    let to : r.seat (slice_index s.words k) ≡ id = me.numbers _ (all.numbers (slice_index s.words k) a.0 a.1) in
    let u : v ≡ t.view = maybe.some-injective v t.view (sym here ∙ ap (λ (i : ℕ). get_elem? s.views i) (sym to) ∙ t.there) in
    nothing_held (at v.held k) (r.hist k) (all.nothing k) (ap (λ (y : View). at y.held k) u ∙ t.held)

-- each slot's store at the end
pub final_store : (c : Script) (id : ℕ) (v : View) (ws : List ℕ) (xs : List (Option Store)) → Final (Seen (IsTable c) id v) ws xs → Closes c v → (k : ℕ) → k < slot_count c
    → (x : Store) × (get_elem? xs k ≡ maybe.some (Some x)) × IsFree c k (entries_of x) x × Fits c k (entries_of x) × Begins (seen_at v.seen k) (entries_of x) × ((y : List Fact) → Has y (seen_at v.olds k) → Begins y (entries_of x))
final_store c id v ws xs f all k lt =
    let s = f.0 in let r = f.1.0 in let here = f.1.1 in let sl = r.slots k lt in let me = r.views id v here in ⊎_elim
    (λ (e : slice_index s.words k ≡ 0). let x = sl.free e in let log : (entries_of x.0) ≡ r.hist k = x.2.log in (
      x.0,
      f.4 k (Some x.0) x.1,
      subst (λ (l : List Fact). IsFree c k l x.0) (sym log) x.2,
      subst (λ (l : List Fact). Fits c k l) (sym log) sl.own,
      subst (λ (l : List Fact). Begins (seen_at v.seen k) l) (sym log) (me.seen k lt),
      subst (λ (l : List Fact). (y : List Fact) → Has y (seen_at v.olds k) → Begins y l) (sym log) (me.olds k lt),
    ))
    (λ (n : slice_index s.words k ≢ 0). absurd (not_out c id v ws xs f all k lt n))
    (same_or_not (slice_index s.words k) 0)

-- what was pushed so far is what lies in the slots
pub got_more : (xs ys : List (Option Store)) (x : Option Store) (i : ℕ) → length xs ≡ i → ((k : ℕ) (y : Option Store) → get_elem? xs k ≡ maybe.some y → get_elem? ys k ≡ maybe.some y) → get_elem? ys i ≡ maybe.some x
    → (k : ℕ) (y : Option Store) → get_elem? (xs ++ x ∷ []) k ≡ maybe.some y → get_elem? ys k ≡ maybe.some y
got_more xs ys x i long got here k y e = ⊎_elim (λ h. got k y h) (λ (t : (k ≡ length xs) × (x ≡ y)). ap (λ (j : ℕ). get_elem? ys j) (t.0 ∙ long) ∙ here ∙ ap (λ (z : Option Store). maybe.some z) t.1) (at_snoc_place xs x y k e)

-- a closed table's lists are those of the rule
module _ (c : Script) (id : ℕ) (v : View) (ws : List ℕ) (xs ys : List (Option Store)) (f : Final (Seen (IsTable c) id v) ws ys) (all : Closes c v) (long : length xs ≡ slot_count c)
    (got : (k : ℕ) (y : Option Store) → get_elem? xs k ≡ maybe.some y → get_elem? ys k ≡ maybe.some y) where
  pub closed_at : (k : ℕ) → k < slot_count c → ClosedAt c v k (at xs k)
  closed_at k lt =
      let t = final_store c id v ws ys f all k lt in let there = got_at xs k (omega arith) in
      let is : at xs k ≡ Some t.0 = maybe.some-injective (at xs k) (Some t.0) (sym (got k (at xs k) there) ∙ t.1) in record {
        store = t.0;
        there = is;
        rests = t.2;
        own = t.3;
        seen = t.4;
        olds = t.5;
      }

  final_list : (k : ℕ) → k < slot_count c → f.1.0.hist k ≡ entries_at xs k
  final_list k lt =
      let s = f.0 in let r = f.1.0 in let here = f.1.1 in let sl = r.slots k lt in let there = got_at xs k (omega arith) in ⊎_elim
      (λ (e : slice_index s.words k ≡ 0). let x = sl.free e in
      let is : at xs k ≡ Some x.0 = maybe.some-injective (at xs k) (Some x.0) (sym (got k (at xs k) there) ∙ f.4 k (Some x.0) x.1) in
      sym (ap entries_in is ∙ x.2.log))
      (λ (n : slice_index s.words k ≢ 0). absurd (not_out c id v ws ys f all k lt n))
      (same_or_not (slice_index s.words k) 0)

  pub all_closed : Closed c v xs
  all_closed = record {
    script = f.1.0.script;
    all = long;
    confirmed = λ k e p n lt h. subst (λ (l : List Fact). recorded e p n l ≡ true) (final_list (home_of c e) (home_inside c e f.1.0.script))
        (f.1.0.confirmed k e p n lt (subst (λ (l : List Fact). confirms e p n l ≡ true) (sym (final_list k lt)) h));
    each = closed_at;
  }

there_home : (c : Script) (v : View) (k : ℕ) (o : Option Store) → ClosedAt c v k o → IsThere c (slot_at c.config k) o
there_home c v k None h = absurd (none_is_not_some h.store h.there)
there_home c v k (Some x) h =
    let is : h.store ≡ x = sym (some_is x h.store h.there) in
    subst (λ (y : Store). IsHome c (slot_at c.config k) y) is record { script_is = h.rests.script; slot_is = h.rests.slot; spare_is = λ e. h.rests.spare }

pub homes_closed : (c : Script) (v : View) (xs : List (Option Store)) → Closed c v xs → AreHomes c xs
homes_closed c v xs h = record {
  script_is = h.script;
  all = h.all;
  each = λ k lt. there_home c v k (at xs k) (h.each k (let e : length xs ≡ slot_count c = h.all in omega arith));
}
