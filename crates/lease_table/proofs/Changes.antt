-- A step that changes one slot and one view keeps the rule.
use Rattle.std.proofs.Common.{◌≡◌, ◌≢◌, ℕ, ◌<◌, ◌^◌, ◌⊎◌, ⊎_elim, List, length, set, sym, ap, ◌∙◌, subst}
use Rattle.std.specs.Prelude.{slice_index, Option, Some}
use mathlib.Core.Option as maybe
use lib.ListN.{get_elem?}
use Rattle.atomic_table.proofs.Lists.{at_set, set_here, set_else}
use Rattle.yard_model.specs.Script.{Script}
use Rattle.yard_model.specs.declared.fact.Fact.{Fact}
use Rattle.shard_store.specs.declared.store.Store.{Store}
use Rattle.lease_table.specs.Fits.{slot_count, Fits, AreConfirmed}
use Rattle.shard_lease.specs.Meaning.{Begins}
use Rattle.lease_table.specs.declared.View.{View}
use Rattle.lease_table.specs.Lists.{seen_at, Has}
use Rattle.yard_model.specs.Words.{at}
use Rattle.lease_table.specs.Rule.{TableState, IsFree, LeasedTo, IsSlot, Holds, IsView, IsTable, head_at}
use Rattle.lease_table.proofs.Places.{same_or_not, begins_on, there_inside}

abbrev pub Homes : Type 0
Homes = List (maybe.Option (Option Store))

abbrev pub at_state : List ℕ → Homes → List View → TableState
at_state ws hs vs = record { words = ws; homes = hs; views = vs }

-- nothing happened at the slot j
pub record Same (c : Script) (s : TableState) (ws : List ℕ) (hs : Homes) (old new : ℕ → List Fact) (j : ℕ) : Type 0 where
  pub owner : slice_index ws j ≡ slice_index s.words j
  pub head : slice_index ws (head_at (slot_count c) j) ≡ slice_index s.words (head_at (slot_count c) j)
  pub home : get_elem? hs j ≡ get_elem? s.homes j
  pub hist : new j ≡ old j

module _ (c : Script) (s : TableState) (id : ℕ) (v w : View) (ws : List ℕ) (hs : Homes) (hist hist' : ℕ → List Fact) (seat : ℕ → ℕ) where
  abbrev Then : TableState
  Then = at_state ws hs (set s.views id w)

  -- where the seat n is this one, its view is w, else as before
  leased_stays : (j n : ℕ) → get_elem? s.views id ≡ maybe.some v → get_elem? hs j ≡ get_elem? s.homes j → hist' j ≡ hist j → w.numbers ≡ v.numbers → at w.held j ≡ at v.held j
      → LeasedTo c s seat j (hist j) n → LeasedTo c Then seat j (hist' j) n
  leased_stays j n here home same nums helds x = ⊎_elim
      (λ (e : seat n ≡ id). let is : v ≡ x.view = maybe.some-injective v x.view (sym here ∙ ap (λ (i : ℕ). get_elem? s.views i) (sym e) ∙ x.there) in record {
        away = home ∙ x.away;
        view = w;
        there = ap (λ (i : ℕ). get_elem? (set s.views id w) i) e ∙ set_here s.views id w (there_inside s.views id v here);
        held = helds ∙ ap (λ (u : View). at u.held j) is ∙ x.held ∙ ap (λ (l : List Fact). Some l) (sym same);
        number = subst (λ (l : List ℕ). Has n l) (ap (λ (u : View). u.numbers) (sym is) ∙ sym nums) x.number;
        admitted = x.admitted;
      })
      (λ (ne : seat n ≢ id). record {
        away = home ∙ x.away;
        view = x.view;
        there = set_else s.views id (seat n) w ne ∙ x.there;
        held = x.held ∙ ap (λ (l : List Fact). Some l) (sym same);
        number = x.number;
        admitted = x.admitted;
      })
      (same_or_not (seat n) id)

  -- a slot where nothing happened
  slot_stays : (j : ℕ) → get_elem? s.views id ≡ maybe.some v → Same c s ws hs hist hist' j → w.numbers ≡ v.numbers → at w.held j ≡ at v.held j → IsSlot c s seat j (hist j) → IsSlot c Then seat j (hist' j)
  slot_stays j here same nums helds old = record {
    head = same.head ∙ old.head ∙ ap (λ (l : List Fact). length l) (sym same.hist);
    few = subst (λ (l : List Fact). length l < 2 ^ 32) (sym same.hist) old.few;
    own = subst (λ (l : List Fact). Fits c j l) (sym same.hist) old.own;
    free = λ e. let x = old.free (sym same.owner ∙ e) in (x.0, same.home ∙ x.1, subst (λ (l : List Fact). IsFree c j l x.0) (sym same.hist) x.2);
    out = λ n. subst (λ (o : ℕ). LeasedTo c Then seat j (hist' j) o) (sym same.owner)
        (leased_stays j (slice_index s.words j) here same.home same.hist nums helds (old.out (λ e. n (same.owner ∙ e))));
  }

  -- the view of another seat
  view_stays : (k : ℕ) (i : ℕ) (u : View) → i ≢ id → ((j : ℕ) → j < slot_count c → j ≢ k → Same c s ws hs hist hist' j) → ((j : ℕ) → j < slot_count c → Begins (hist j) (hist' j))
      → (k < slot_count c → (slice_index s.words k ≡ 0) ⊎ (seat (slice_index s.words k) ≡ id)) → IsView c s hist seat i u → IsView c Then hist' seat i u
  view_stays k i u ne same grows mine old = record {
    charter = old.charter;
    numbers = old.numbers;
    held = λ j l h. let o = old.held j l h in ⊎_elim
        (λ (e : j ≡ k). ⊎_elim (λ (z : slice_index s.words k ≡ 0). absurd (o.leased (ap (λ (y : ℕ). slice_index s.words y) e ∙ z)))
        (λ (z : seat (slice_index s.words k) ≡ id). absurd (ne (sym o.mine ∙ ap (λ (y : ℕ). seat (slice_index s.words y)) e ∙ z))) (mine (subst (λ (y : ℕ). y < slot_count c) e o.inside)))
        (λ (n : j ≢ k). let t = same j o.inside n in record {
          inside = o.inside;
          leased = λ e. o.leased (sym t.owner ∙ e);
          mine = ap seat t.owner ∙ o.mine;
          whole = o.whole ∙ sym t.hist;
          seen = o.seen ∙ sym t.hist;
        })
        (same_or_not j k);
    seen = λ j lt. begins_on _ _ _ (old.seen j lt) (grows j lt);
    olds = λ j lt y h. begins_on _ _ _ (old.olds j lt y h) (grows j lt);
  }

-- the slot k alone changes, and it is free or leased to a number of this seat
pub changes : (c : Script) (s : TableState) (r : IsTable c s) (id : ℕ) (v w : View) (k : ℕ) (ws : List ℕ) (hs : Homes) (hist' : ℕ → List Fact) → get_elem? s.views id ≡ maybe.some v
    → length ws ≡ head_at (slot_count c) (slot_count c) → ((j : ℕ) → j < slot_count c → j ≢ k → Same c s ws hs r.hist hist' j) → w.numbers ≡ v.numbers → ((j : ℕ) → j ≢ k → at w.held j ≡ at v.held j)
    → ((j : ℕ) → j < slot_count c → Begins (r.hist j) (hist' j)) → (k < slot_count c → (slice_index s.words k ≡ 0) ⊎ (r.seat (slice_index s.words k) ≡ id))
    → (k < slot_count c → IsSlot c (at_state ws hs (set s.views id w)) r.seat k (hist' k)) → IsView c (at_state ws hs (set s.views id w)) hist' r.seat id w → AreConfirmed c hist'
    → IsTable c (at_state ws hs (set s.views id w))
changes c s r id v w k ws hs hist' here wide same nums helds grows mine slot view told = record {
  script = r.script;
  hist = hist';
  confirmed = told;
  seat = r.seat;
  wide = wide;
  slots = λ j lt. ⊎_elim
      (λ (e : j ≡ k). subst (λ (i : ℕ). IsSlot c (at_state ws hs (set s.views id w)) r.seat i (hist' i)) (sym e) (slot (subst (λ (y : ℕ). y < slot_count c) e lt)))
      (λ (n : j ≢ k). slot_stays c s id v w ws hs r.hist hist' r.seat j here (same j lt n) nums (helds j n) (r.slots j lt))
      (same_or_not j k);
  views = λ i u e. ⊎_elim
      (λ (t : (i ≡ id) × (w ≡ u)). subst (λ (y : ℕ × View). IsView c (at_state ws hs (set s.views id w)) hist' r.seat y.0 y.1) (λ p. (sym t.0 p, t.1 p)) view)
      (λ (t : (i ≢ id) × (get_elem? s.views i ≡ maybe.some u)). view_stays c s id v w ws hs r.hist hist' r.seat k i u t.0 same grows mine (r.views i u t.1))
      (at_set s.views id i w u e);
}

-- what the seat's own new view owes: its held and seen lists are as before but at k, and it has no other old lists
pub own_view : (c : Script) (s : TableState) (id : ℕ) (v w : View) (k : ℕ) (ws : List ℕ) (hs : Homes) (hist hist' : ℕ → List Fact) (seat : ℕ → ℕ) → IsView c s hist seat id v → w.spent ≡ v.spent → w.charter ≡ v.charter → w.numbers ≡ v.numbers
    → ((j : ℕ) → j ≢ k → at w.held j ≡ at v.held j) → ((j : ℕ) → j ≢ k → seen_at w.seen j ≡ seen_at v.seen j) → ((j : ℕ) (y : List Fact) → Has y (seen_at w.olds j) → Has y (seen_at v.olds j))
    → ((j : ℕ) → j < slot_count c → j ≢ k → Same c s ws hs hist hist' j) → ((j : ℕ) → j < slot_count c → Begins (hist j) (hist' j))
    → ((l : List Fact) → at w.held k ≡ Some l → Holds c (at_state ws hs (set s.views id w)) hist' seat id k w l) → (k < slot_count c → Begins (seen_at w.seen k) (hist' k))
    → IsView c (at_state ws hs (set s.views id w)) hist' seat id w
own_view c s id v w k ws hs hist hist' seat old spent charter nums helds seens oldss same grows here_held here_seen = record {
  charter = λ e. charter ∙ old.charter (sym spent ∙ e);
  numbers = λ n h. old.numbers n (subst (λ (l : List ℕ). Has n l) nums h);
  held = λ j l h. ⊎_elim
      (λ (e : j ≡ k). subst (λ (i : ℕ). Holds c (at_state ws hs (set s.views id w)) hist' seat id i w l) (sym e) (here_held l (subst (λ (i : ℕ). at w.held i ≡ Some l) e h)))
      (λ (n : j ≢ k). let o = old.held j l (sym (helds j n) ∙ h) in let t = same j o.inside n in record {
        inside = o.inside;
        leased = λ e. o.leased (sym t.owner ∙ e);
        mine = ap seat t.owner ∙ o.mine;
        whole = o.whole ∙ sym t.hist;
        seen = seens j n ∙ (o.seen ∙ sym t.hist);
      })
      (same_or_not j k);
  seen = λ j lt. ⊎_elim
      (λ (e : j ≡ k). subst (λ (i : ℕ). Begins (seen_at w.seen i) (hist' i)) (sym e) (here_seen (subst (λ (y : ℕ). y < slot_count c) e lt)))
      (λ (n : j ≢ k). subst (λ (l : List Fact). Begins l (hist' j)) (sym (seens j n)) (begins_on _ _ _ (old.seen j lt) (grows j lt)))
      (same_or_not j k);
  olds = λ j lt y h. begins_on _ _ _ (old.olds j lt y (oldss j y h)) (grows j lt);
}
