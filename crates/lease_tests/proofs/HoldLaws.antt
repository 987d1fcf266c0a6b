-- What a pass that holds one slot may do, and what it has then.
use Rattle.std.proofs.Common.{◌≡◌, ◌≢◌, ℕ, zero, suc, ◌+◌, ◌<◌, ◌≤◌, inl, ⊎_elim, Bool, true, false, ◌||◌, List, [], ◌∷◌, ◌++◌, refl, sym, ap, ◌∙◌, subst, arith}
use Rattle.std.proofs.lemmas.List.{get_or-set_same, get_or-set_other}
use Rattle.std.proofs.lemmas.List.Sums.{fold-append}
use Rattle.std.proofs.lemmas.List.Folds.{list_any-append, list_all-append}
use Rattle.std.specs.Prelude.{Option, None, Some, is_some, fold, slice_set}
use Rattle.std.specs.List.{list_all}
use Rattle.atomic_table.specs.Seated.{TableId}
use Rattle.plain_laws.proofs.Booleans.{and_both, both}
use Rattle.yard_model.specs.declared.fact.Fact.{Fact}
use Rattle.yard_model.specs.declared.fact.Fact.TheVariants as fact
use Rattle.yard_model.specs.declared.incarnation.Incarnation.{Incarnation}
use Rattle.yard_model.specs.declared.incarnation.Slot.{Slot}
use Rattle.yard_model.specs.Genuine.{is_slot_of}
use Rattle.yard_model.specs.Lawful.{own, is_held}
use Rattle.yard_model.specs.Script.{Script}
use Rattle.yard_model.specs.SlotReads.{epoch, holder, holder_step}
use Rattle.yard_model.specs.Words.{at}
use Rattle.shard_store.specs.declared.store.Store.{Store}
use Rattle.shard_store.specs.Stores.{script_of, slot_of, entries_of, spare_of, place_of, slot_at}
use Rattle.shard_store.proofs.PlaceLaws.{place_within, slot_back}
use Rattle.shard_lease.specs.declared.leases.Acquire.{Acquire}
use Rattle.shard_lease.specs.declared.leases.Acquire.TheVariants as answer
use Rattle.shard_lease.specs.Meaning.{Begins, confirms, is_confirmed}
use Rattle.lease_table.specs.declared.View.{View}
use Rattle.lease_table.specs.Fits.{slot_count, admits, is_fit}
use Rattle.lease_table.specs.Leasing.{Pass, Idle, Spans, MayAct, Answers, MayPublish, MayRelease}
use Rattle.lease_table.specs.Lists.{seen_at, Has}
use Rattle.lease_table.specs.Tells.{published, freed}
use Rattle.lease_table.proofs.Places.{same_or_not, begins_here, begins_on}
use Rattle.lease_table.proofs.Records.{confirms_before}
use Rattle.lease_tests.specs.Holding.{two_nodes, MayAsk, Holding, Asked, is_of_region, Wrote}

abbrev place : Slot → ℕ
place s = place_of two_nodes.config s

pub may_act : (z : TableId) (who : Incarnation) (s : Slot) (p : Pass) → MayAsk who s → Idle z two_nodes who.node p → MayAct p.view who (place s)
may_act z who s p may idle = record {
  slot = subst (λ (c : Script). place s < slot_count c) (sym idle.charter) (place_within two_nodes s may.slot);
  number = subst (λ (l : List ℕ). Has who.node l) (sym idle.numbers) (inl refl);
  limit = may.number;
  admitted = subst (λ (c : Script). admits c who.node (slot_at c.config (place s)) ≡ true) (sym idle.charter) (subst (λ q. admits two_nodes who.node q ≡ true) (sym (slot_back two_nodes s may.slot)) may.admitted);
}

is_granted : (l : List Fact) (s : Slot) (n : ℕ) (x : Incarnation) → is_held (l ++ fact.Granted s n x ∷ []) ≡ true
is_granted l s n x = ap (λ (o : Option Incarnation). is_some o) (fold-append holder_step None l (fact.Granted s n x ∷ []))

slot_there : (v : View) (s : Slot) → v.charter ≡ two_nodes → is_slot_of two_nodes s ≡ true → slot_at v.charter.config (place s) ≡ s
slot_there v s charter here = ap (λ (c : Script). slot_at c.config (place s)) charter ∙ slot_back two_nodes s here

pub asked : (z : TableId) (who : Incarnation) (s : Slot) (r : Acquire) (p q : Pass) → MayAsk who s → Idle z two_nodes who.node p → q.table ≡ p.table → Answers p.view who (place s) r q.view → Asked z who s r q
asked z who s (answer.Granted x) p q may idle same t =
    let at_is : slot_at p.view.charter.config (place s) ≡ s = slot_there p.view s idle.charter may.slot in
    let f : Fact = fact.Granted (slot_at p.view.charter.config (place s)) (epoch t.hist + 1) who in record {
      table = same ∙ idle.table;
      charter = ap (λ (u : View). u.charter) t.now ∙ idle.charter;
      numbers = ap (λ (u : View). u.numbers) t.now ∙ idle.numbers;
      list = t.hist;
      held = t.held;
      others = λ k ne. ap (λ (u : View). at u.held k) t.now ∙ get_or-set_other p.view.held (place s) k (Some t.hist) None ne ∙ idle.nothing k;
      extends = record { rest = f ∷ []; is = t.log };
      confirmed = λ e i m h. confirms_before e i m t.hist f refl (ap (confirms e i m) (sym t.log) ∙ h);
      fit = subst (λ (y : Slot). list_all (is_fit two_nodes y) (entries_of x) ≡ true) at_is (subst (λ (c : Script). list_all (is_fit c (slot_at p.view.charter.config (place s))) (entries_of x) ≡ true) idle.charter t.own.fit);
      leased = ap is_held t.log ∙ is_granted t.hist (slot_at p.view.charter.config (place s)) (epoch t.hist + 1) who;
      script = t.script ∙ idle.charter;
      slot = t.slot ∙ at_is;
    }
asked z who s (answer.Held h) p q may idle same t = record {
  table = same ∙ idle.table;
  charter = ap (λ (u : View). u.charter) t.now ∙ idle.charter;
  numbers = ap (λ (u : View). u.numbers) t.now ∙ idle.numbers;
  nothing = λ k. ap (λ (u : View). at u.held k) t.now ∙ idle.nothing k;
}

pub may_release : (z : TableId) (n : ℕ) (s : Slot) (x : Store) (p : Pass) → is_slot_of two_nodes s ≡ true → Holding z n s x p → 101 ≤ spare_of x → MayRelease p.view (place s) x
may_release z n s x p here h room =
    let at_is : slot_at p.view.charter.config (place s) ≡ s = slot_there p.view s h.charter here in record {
      old = h.list;
      held = h.held;
      extends = h.extends;
      vouched = λ e i m k. inl (h.confirmed e i m k);
      fit = subst (λ (c : Script). list_all (is_fit c (slot_at p.view.charter.config (place s))) (entries_of x) ≡ true) (sym h.charter) (subst (λ (y : Slot). list_all (is_fit two_nodes y) (entries_of x) ≡ true) (sym at_is) h.fit);
      leased = h.leased;
      script = h.script ∙ sym h.charter;
      slot = h.slot ∙ sym at_is;
      spare = room;
    }

pub may_publish : (z : TableId) (n : ℕ) (s : Slot) (x : Store) (p : Pass) → is_slot_of two_nodes s ≡ true → Holding z n s x p → own (script_of x) (slot_of x) (entries_of x) ≡ true → MayPublish p.view (place s) (entries_of x)
may_publish z n s x p here h lawful =
    let at_is : slot_at p.view.charter.config (place s) ≡ s = slot_there p.view s h.charter here in record {
      old = h.list;
      held = h.held;
      extends = h.extends;
      vouched = λ e i m k. inl (h.confirmed e i m k);
      own = record {
        lawful = ap (λ (c : Script). own c (slot_at p.view.charter.config (place s)) (entries_of x)) (h.charter ∙ sym h.script) ∙ ap (λ (y : Slot). own (script_of x) y (entries_of x)) (at_is ∙ sym h.slot) ∙ lawful;
        fit = subst (λ (c : Script). list_all (is_fit c (slot_at p.view.charter.config (place s))) (entries_of x) ≡ true) (sym h.charter) (subst (λ (y : Slot). list_all (is_fit two_nodes y) (entries_of x) ≡ true) (sym at_is) h.fit);
      };
    }

put_none : (l : List (Option (List Fact))) (k : ℕ) → at (slice_set l k None) k ≡ None
put_none [] k = refl
put_none (x ∷ xs) zero = refl
put_none (x ∷ xs) (suc k) = put_none xs k

pub given_back : (z : TableId) (n : ℕ) (s : Slot) (x : Store) (p q : Pass) (l : List Fact) → Holding z n s x p → q.table ≡ p.table → q.view ≡ freed (published p.view (place s) l) (place s) → Idle z two_nodes n q
given_back z n s x p q l h same now = record {
  table = same ∙ h.table;
  charter = ap (λ (u : View). u.charter) now ∙ h.charter;
  numbers = ap (λ (u : View). u.numbers) now ∙ h.numbers;
  nothing = λ j. ap (λ (u : View). at u.held j) now ∙ ⊎_elim
      (λ (e : j ≡ place s). ap (λ (i : ℕ). at (slice_set (slice_set p.view.held (place s) (Some l)) (place s) None) i) e ∙ put_none (slice_set p.view.held (place s) (Some l)) (place s))
      (λ (ne : j ≢ place s). get_or-set_other (slice_set p.view.held (place s) (Some l)) (place s) j None None ne ∙ get_or-set_other p.view.held (place s) j (Some l) None ne ∙ h.others j ne)
      (same_or_not j (place s));
}

-- entries of regions confirm nothing, fit, and leave who holds the slot
none_confirmed : (e : List ℕ) (i m : ℕ) (fs : List Fact) → list_all is_of_region fs ≡ true → confirms e i m fs ≡ false
none_confirmed e i m [] h = refl
none_confirmed e i m (f ∷ fs) h = let b = and_both (is_of_region f) (list_all is_of_region fs) h in
    ap (λ x. x || confirms e i m fs) (one f b.0) ∙ none_confirmed e i m fs b.1
  where
    one : (f : Fact) → is_of_region f ≡ true → is_confirmed e i m f ≡ false
    one (fact.Registered r) h = refl
    one (fact.Terminated r) h = refl
    one (fact.Confirmed q y k) h = cc
    one f h = refl

all_fit : (s : Slot) (fs : List Fact) → list_all is_of_region fs ≡ true → list_all (is_fit two_nodes s) fs ≡ true
all_fit s [] h = refl
all_fit s (f ∷ fs) h = let b = and_both (is_of_region f) (list_all is_of_region fs) h in
    both (is_fit two_nodes s f) (list_all (is_fit two_nodes s) fs) (one f b.0) (all_fit s fs b.1)
  where
    one : (f : Fact) → is_of_region f ≡ true → is_fit two_nodes s f ≡ true
    one (fact.Registered r) h = h
    one (fact.Terminated r) h = h
    one (fact.Granted t n x) h = cc
    one (fact.Allocated k r) h = cc
    one f h = refl

same_holder : (o : Option Incarnation) (fs : List Fact) → list_all is_of_region fs ≡ true → fold holder_step o fs ≡ o
same_holder o [] h = refl
same_holder o (f ∷ fs) h = let b = and_both (is_of_region f) (list_all is_of_region fs) h in
    ap (λ x. fold holder_step x fs) (one f b.0) ∙ same_holder o fs b.1
  where
    one : (f : Fact) → is_of_region f ≡ true → holder_step o f ≡ o
    one (fact.Granted t n x) h = cc
    one (fact.Freed t n y) h = cc
    one f h = refl

or_no : (a b : Bool) → b ≡ false → (a || b) ≡ true → a ≡ true
or_no true b e h = refl
or_no false true e h = sym e
or_no false false e h = h

pub wrote_holds : (z : TableId) (n : ℕ) (s : Slot) (x y : Store) (p : Pass) → Holding z n s x p → Wrote x y → Holding z n s y p
wrote_holds z n s x y p h w = record {
  table = h.table;
  charter = h.charter;
  numbers = h.numbers;
  list = h.list;
  held = h.held;
  others = h.others;
  extends = begins_on h.list (entries_of x) (entries_of y) h.extends record { rest = w.more; is = w.entries };
  confirmed = λ e i m k. h.confirmed e i m (or_no (confirms e i m (entries_of x)) (confirms e i m w.more) (none_confirmed e i m w.more w.regions) (sym (list_any-append (is_confirmed e i m) (entries_of x) w.more) ∙ ap (confirms e i m) (sym w.entries) ∙ k));
  fit = ap (list_all (is_fit two_nodes s)) w.entries ∙ list_all-append (is_fit two_nodes s) (entries_of x) w.more ∙ both (list_all (is_fit two_nodes s) (entries_of x)) (list_all (is_fit two_nodes s) w.more) h.fit (all_fit s w.more w.regions);
  leased = ap is_held w.entries ∙ ap (λ (o : Option Incarnation). is_some o) (fold-append holder_step None (entries_of x) w.more ∙ same_holder (holder (entries_of x)) w.more w.regions) ∙ h.leased;
  script = w.script ∙ h.script;
  slot = w.slot ∙ h.slot;
}

-- with other entries of the same store
pub same_holds : (z : TableId) (n : ℕ) (s : Slot) (x y : Store) (p : Pass) → Holding z n s x p → script_of y ≡ script_of x → slot_of y ≡ slot_of x → entries_of y ≡ entries_of x → Holding z n s y p
same_holds z n s x y p h script slot entries = record {
  table = h.table;
  charter = h.charter;
  numbers = h.numbers;
  list = h.list;
  held = h.held;
  others = h.others;
  extends = subst (λ l. Begins h.list l) (sym entries) h.extends;
  confirmed = λ e i m k. h.confirmed e i m (ap (confirms e i m) (sym entries) ∙ k);
  fit = ap (list_all (is_fit two_nodes s)) entries ∙ h.fit;
  leased = ap is_held entries ∙ h.leased;
  script = script ∙ h.script;
  slot = slot ∙ h.slot;
}

-- a list that was published is held and seen
pub published_holds : (z : TableId) (n : ℕ) (s : Slot) (x : Store) (p q : Pass) → is_slot_of two_nodes s ≡ true → Spans p.view → Holding z n s x p → q.table ≡ p.table → q.view ≡ published p.view (place s) (entries_of x) → Holding z n s x q
published_holds z n s x p q here wide h same now = record {
  table = same ∙ h.table;
  charter = ap (λ (u : View). u.charter) now ∙ h.charter;
  numbers = ap (λ (u : View). u.numbers) now ∙ h.numbers;
  list = entries_of x;
  held = ap (λ (u : View). at u.held (place s)) now ∙ get_or-set_same p.view.held (place s) (Some (entries_of x)) None (subst (λ (m : ℕ). place s < m) (sym (wide.helds ∙ ap slot_count h.charter)) (place_within two_nodes s here));
  others = λ k ne. ap (λ (u : View). at u.held k) now ∙ get_or-set_other p.view.held (place s) k (Some (entries_of x)) None ne ∙ h.others k ne;
  extends = begins_here (entries_of x);
  confirmed = λ e i m k. k;
  fit = h.fit;
  leased = h.leased;
  script = h.script;
  slot = h.slot;
}

pub seen_then : (v w : View) (s : Slot) (l : List Fact) → Spans v → v.charter ≡ two_nodes → is_slot_of two_nodes s ≡ true → w ≡ published v (place s) l → seen_at w.seen (place s) ≡ l
seen_then v w s l wide charter here now =
    ap (λ (u : View). seen_at u.seen (place s)) now
    ∙ get_or-set_same v.seen (place s) l [] (subst (λ (m : ℕ). place s < m) (sym (wide.seens ∙ ap slot_count charter)) (place_within two_nodes s here))

-- what is seen is neither more nor less
pub just_so : (a b l n : ℕ) → n ≤ a → a ≤ b → b ≤ l → l ≡ n → b ≡ n
just_so a b l n low up most is = omega arith
