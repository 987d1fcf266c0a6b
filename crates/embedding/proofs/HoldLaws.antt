-- What a pass that holds the coordinator's slot may do, and what it has then.
use Rattle.std.proofs.Common.{◌≡◌, ◌≢◌, ℕ, zero, suc, ◌+◌, ◌<◌, ◌≤◌, inl, ⊎_elim, true, List, [], ◌∷◌, ◌++◌, refl, sym, ap, ◌∙◌, subst, arith}
use Rattle.std.proofs.lemmas.List.{get_or-set_same, get_or-set_other}
use Rattle.std.proofs.lemmas.List.Sums.{fold-append}
use Rattle.std.specs.Prelude.{Option, None, Some, is_some, slice_set}
use Rattle.std.specs.List.{list_all}
use Rattle.atomic_table.specs.Seated.{TableId}
use Rattle.yard_model.specs.declared.fact.Fact.{Fact}
use Rattle.yard_model.specs.declared.fact.Fact.TheVariants as fact
use Rattle.yard_model.specs.declared.incarnation.Incarnation.{Incarnation}
use Rattle.yard_model.specs.declared.incarnation.Slot.{Slot}
use Rattle.yard_model.specs.declared.incarnation.Slot.TheVariants as slot
use Rattle.yard_model.specs.Behaviour.{is_in}
use Rattle.yard_model.specs.Lawful.{own, is_held}
use Rattle.yard_model.specs.Script.{Script}
use Rattle.yard_model.specs.SlotReads.{epoch, holder_step}
use Rattle.yard_model.specs.Words.{at}
use Rattle.plain_laws.proofs.Booleans.{both}
use Rattle.shard_store.specs.declared.store.Store.{Store}
use Rattle.shard_store.specs.Stores.{script_of, slot_of, entries_of, entries_in, spare_of, slot_at}
use Rattle.shard_lease.specs.declared.leases.Acquire.{Acquire}
use Rattle.shard_lease.specs.declared.leases.Acquire.TheVariants as answer
use Rattle.shard_lease.specs.Meaning.{Begins, confirms}
use Rattle.lease_table.specs.declared.View.{View}
use Rattle.lease_table.specs.Fits.{slot_count, admits, is_fit}
use Rattle.lease_table.specs.Leasing.{Pass, Idle, Spans, MayAct, Answers, MayPublish, MayRelease, Closed, ClosedAt}
use Rattle.lease_table.specs.Lists.{Has}
use Rattle.lease_table.specs.Tells.{published, freed}
use Rattle.lease_table.proofs.Places.{same_or_not, begins_here}
use Rattle.lease_table.proofs.Records.{confirms_before}
use Rattle.embedding.specs.Cluster.{cluster}
use Rattle.embedding.specs.Holding.{place, MayAsk, Holding, Asked, AreFree}

-- the table's slot at that place is the coordinator's
slot_there : (v : View) → v.charter ≡ cluster → slot_at v.charter.config place ≡ slot.Coordinator
slot_there v charter = ap (λ (c : Script). slot_at c.config place) charter

place_within : (v : View) → v.charter ≡ cluster → place < slot_count v.charter
place_within v charter = subst (λ (c : Script). place < slot_count c) (sym charter) (omega arith)

pub may_act : (z : TableId) (who : Incarnation) (p : Pass) → MayAsk who → Idle z cluster who.node p → MayAct p.view who place
may_act z who p may idle = record {
  slot = place_within p.view idle.charter;
  number = subst (λ (l : List ℕ). Has who.node l) (sym idle.numbers) (inl refl);
  limit = may.number;
  admitted = subst (λ (c : Script). admits c who.node (slot_at c.config place) ≡ true) (sym idle.charter) (both _ _ (both _ _ may.node refl) refl);
}

is_granted : (l : List Fact) (s : Slot) (n : ℕ) (x : Incarnation) → is_held (l ++ fact.Granted s n x ∷ []) ≡ true
is_granted l s n x = ap (λ (o : Option Incarnation). is_some o) (fold-append holder_step None l (fact.Granted s n x ∷ []))

pub asked : (z : TableId) (who : Incarnation) (r : Acquire) (p q : Pass) → Idle z cluster who.node p → q.table ≡ p.table → Answers p.view who place r q.view → Asked z who r q
asked z who (answer.Granted x) p q idle same t =
    let at_is : slot_at p.view.charter.config place ≡ slot.Coordinator = slot_there p.view idle.charter in
    let f : Fact = fact.Granted (slot_at p.view.charter.config place) (epoch t.hist + 1) who in record {
      table = same ∙ idle.table;
      charter = ap (λ (u : View). u.charter) t.now ∙ idle.charter;
      numbers = ap (λ (u : View). u.numbers) t.now ∙ idle.numbers;
      list = t.hist;
      held = t.held;
      others = λ k ne. ap (λ (u : View). at u.held k) t.now ∙ get_or-set_other p.view.held place k (Some t.hist) None ne ∙ idle.nothing k;
      extends = record { rest = f ∷ []; is = t.log };
      confirmed = λ e i m h. confirms_before e i m t.hist f refl (ap (confirms e i m) (sym t.log) ∙ h);
      fit = subst (λ (y : Slot). list_all (is_fit cluster y) (entries_of x) ≡ true) at_is (subst (λ (c : Script). list_all (is_fit c (slot_at p.view.charter.config place)) (entries_of x) ≡ true) idle.charter t.own.fit);
      leased = ap is_held t.log ∙ is_granted t.hist (slot_at p.view.charter.config place) (epoch t.hist + 1) who;
      script = t.script ∙ idle.charter;
      slot = t.slot ∙ at_is;
    }
asked z who (answer.Held h) p q idle same t = record {
  table = same ∙ idle.table;
  charter = ap (λ (u : View). u.charter) t.now ∙ idle.charter;
  numbers = ap (λ (u : View). u.numbers) t.now ∙ idle.numbers;
  nothing = λ k. ap (λ (u : View). at u.held k) t.now ∙ idle.nothing k;
}

-- the store's entries fit, by the pass's charter
fit_there : (z : TableId) (n : ℕ) (x : Store) (p : Pass) → Holding z n x p → list_all (is_fit p.view.charter (slot_at p.view.charter.config place)) (entries_of x) ≡ true
fit_there z n x p h = subst (λ (c : Script). list_all (is_fit c (slot_at c.config place)) (entries_of x) ≡ true) (sym h.charter) h.fit

pub may_release : (z : TableId) (n : ℕ) (x : Store) (p : Pass) → Holding z n x p → 101 ≤ spare_of x → MayRelease p.view place x
may_release z n x p h room = record {
  old = h.list;
  held = h.held;
  extends = h.extends;
  vouched = λ e i m k. inl (h.confirmed e i m k);
  fit = fit_there z n x p h;
  leased = h.leased;
  script = h.script ∙ sym h.charter;
  slot = h.slot ∙ sym (slot_there p.view h.charter);
  spare = room;
}

pub may_publish : (z : TableId) (n : ℕ) (x : Store) (p : Pass) → Holding z n x p → own (script_of x) (slot_of x) (entries_of x) ≡ true → MayPublish p.view place (entries_of x)
may_publish z n x p h lawful =
    let at_is : slot_at p.view.charter.config place ≡ slot.Coordinator = slot_there p.view h.charter in record {
      old = h.list;
      held = h.held;
      extends = h.extends;
      vouched = λ e i m k. inl (h.confirmed e i m k);
      own = record {
        lawful = ap (λ (c : Script). own c (slot_at p.view.charter.config place) (entries_of x)) (h.charter ∙ sym h.script) ∙ ap (λ (y : Slot). own (script_of x) y (entries_of x)) (at_is ∙ sym h.slot) ∙ lawful;
        fit = fit_there z n x p h;
      };
    }

-- a list that was published is held
pub published_holds : (z : TableId) (n : ℕ) (x : Store) (p q : Pass) → Spans p.view → Holding z n x p → q.table ≡ p.table → q.view ≡ published p.view place (entries_of x) → Holding z n x q
published_holds z n x p q wide h same now = record {
  table = same ∙ h.table;
  charter = ap (λ (u : View). u.charter) now ∙ h.charter;
  numbers = ap (λ (u : View). u.numbers) now ∙ h.numbers;
  list = entries_of x;
  held = ap (λ (u : View). at u.held place) now ∙ get_or-set_same p.view.held place (Some (entries_of x)) None (subst (λ (m : ℕ). place < m) (sym wide.helds) (place_within p.view h.charter));
  others = λ k ne. ap (λ (u : View). at u.held k) now ∙ get_or-set_other p.view.held place k (Some (entries_of x)) None ne ∙ h.others k ne;
  extends = begins_here (entries_of x);
  confirmed = λ e i m k. k;
  fit = h.fit;
  leased = h.leased;
  script = h.script;
  slot = h.slot;
}

-- the same store, with more room
pub same_holds : (z : TableId) (n : ℕ) (x y : Store) (p : Pass) → Holding z n x p → script_of y ≡ script_of x → slot_of y ≡ slot_of x → entries_of y ≡ entries_of x → Holding z n y p
same_holds z n x y p h script there entries = record {
  table = h.table;
  charter = h.charter;
  numbers = h.numbers;
  list = h.list;
  held = h.held;
  others = h.others;
  extends = subst (λ l. Begins h.list l) (sym entries) h.extends;
  confirmed = λ e i m k. h.confirmed e i m (ap (confirms e i m) (sym entries) ∙ k);
  fit = ap (list_all (is_fit cluster slot.Coordinator)) entries ∙ h.fit;
  leased = ap is_held entries ∙ h.leased;
  script = script ∙ h.script;
  slot = there ∙ h.slot;
}

put_none : (l : List (Option (List Fact))) (k : ℕ) → at (slice_set l k None) k ≡ None
put_none [] k = refl
put_none (x ∷ xs) zero = refl
put_none (x ∷ xs) (suc k) = put_none xs k

pub given_back : (z : TableId) (n : ℕ) (x : Store) (p q : Pass) (l : List Fact) → Holding z n x p → q.table ≡ p.table → q.view ≡ freed (published p.view place l) place → Idle z cluster n q
given_back z n x p q l h same now = record {
  table = same ∙ h.table;
  charter = ap (λ (u : View). u.charter) now ∙ h.charter;
  numbers = ap (λ (u : View). u.numbers) now ∙ h.numbers;
  nothing = λ j. ap (λ (u : View). at u.held j) now ∙ ⊎_elim
      (λ (e : j ≡ place). ap (λ (i : ℕ). at (slice_set (slice_set p.view.held place (Some l)) place None) i) e ∙ put_none (slice_set p.view.held place (Some l)) place)
      (λ (ne : j ≢ place). get_or-set_other (slice_set p.view.held place (Some l)) place j None None ne ∙ get_or-set_other p.view.held place j (Some l) None ne ∙ h.others j ne)
      (same_or_not j place);
}

-- what a closed table leaves
pub all_free : (v : View) (places : List (Option Store)) → Closed cluster v places → AreFree places
all_free v places c = record {
  lawful = λ k inside. let a : ClosedAt cluster v k (at places k) = c.each k inside in ap (λ (o : Option Store). own cluster (slot_at cluster.config k) (entries_in o)) a.there ∙ a.own.lawful;
  free = λ k inside. let a : ClosedAt cluster v k (at places k) = c.each k inside in ap (λ (o : Option Store). is_held (entries_in o)) a.there ∙ a.rests.closed;
}
