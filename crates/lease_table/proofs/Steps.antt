-- The steps that keep the rule: claim, free, publish and look.
use Rattle.shard_store.specs.Stores.{slot_at}
use Rattle.std.proofs.Common.{◌≡◌, ◌≢◌, ℕ, ◌-◌, ◌<◌, ◌≤◌, ◌^◌, ◌⊎◌, inl, inr, ⊎_elim, List, [], ◌∷◌, length, set, refl, sym, ap, ◌∙◌, subst, arith, true, false, eqb, length-set, ◌/◌}
use Rattle.std.proofs.lemmas.List.{set-get_or, get_or-set_same, get_or-set_other}
use Rattle.std.specs.Prelude.{slice_index, Option, None, Some}
use mathlib.Core.Option as maybe
use lib.ListN.{get_elem?}
use prog.Atomic.{either}
use Rattle.atomic_table.specs.Table.{Act, step, keeps, takes, gives, Valid, Allows, stepped, carried_after}
use Rattle.atomic_table.proofs.Lists.{set_here, set_else, exchanged}
use Rattle.yard_model.specs.Script.{Script}
use Rattle.yard_model.specs.declared.fact.Fact.{Fact}
use Rattle.shard_store.specs.declared.store.Store.{Store}
use Rattle.lease_table.specs.Fits.{slot_count, admits, Fits, recorded}
use Rattle.shard_lease.specs.Meaning.{Begins, confirms}
use Rattle.lease_table.specs.declared.View.{View}
use Rattle.lease_table.specs.Lists.{seen_at, Has}
use Rattle.yard_model.specs.Words.{at}
use Rattle.lease_table.specs.Rule.{TableState, IsFree, LeasedTo, IsSlot, IsView, IsTable, head_at}
use Rattle.lease_table.specs.Tells.{SeatState, won, missed, published, freed, looked, Won, Missed, Claimed, Published, Freed, Looked}
use Rattle.plain_laws.proofs.Lists.{some_is}
use Rattle.lease_table.proofs.Heads.{which_head}
use Rattle.lease_table.proofs.Records.{recorded_begins, home_inside}
use Rattle.yard_model.specs.Lawful.{own}
use Rattle.lease_table.specs.Fits.{home_of, AreConfirmed}
use Rattle.lease_table.proofs.Places.{same_or_not, begins_here, begins_length, there_inside, edit, edit_here, edit_else}
use Rattle.lease_table.proofs.Changes.{Homes, at_state, Same, changes, own_view}

pub nothing_held : (o : Option (List Fact)) (l : List Fact) → o ≡ None → o ≡ Some l → ⊥
nothing_held o l p q = cc

-- what a step has to give, where the word becomes x
abbrev Gives : (c : Script) → TableState → ℕ → ℕ → SeatState → (SeatState → Type 0) → ℕ → Type 0
Gives c s i id m told x = (w : View) × (a : Act (Option Store)) × Valid s.homes m.1 a × IsTable c (stepped s i x id m.1 w a) × told (w, carried_after m.1 a)

module _ (c : Script) (s : TableState) (r : IsTable c s) (id : ℕ) (m : SeatState) (here : get_elem? s.views id ≡ maybe.some m.0) where
  abbrev v : View
  v = m.0

  mine : IsView c s r.hist r.seat id m.0
  mine = r.views id m.0 here

  wins : (k node : ℕ) → m.0.spent ≡ false → k < slot_count c → length s.homes ≡ slot_count c → node ≢ 0 → Has node m.0.numbers → admits c node (slot_at c.config k) ≡ true → length m.0.held ≡ slot_count c → length m.0.seen ≡ slot_count c → slice_index s.words k ≡ 0
      → Gives c s k id m (Won m.0 m.1 k) node
  wins k node live lt wide some_node has may helds seens free =
      let sl = r.slots k lt in let h = r.hist k in let x = sl.free free in let w : View = won m.0 k h in let ws : List ℕ = set s.words k node in let hs : Homes = set s.homes k maybe.none in
      let me = r.views id m.0 here in let is : m.0.charter ≡ c = me.charter live in let long : length s.words ≡ head_at (slot_count c) (slot_count c) = r.wide in
      let word_here : slice_index ws k ≡ node = get_or-set_same s.words k node 0 (omega arith) in
      let to : r.seat node ≡ id = me.numbers node has in
      let same : (j : ℕ) → j < slot_count c → j ≢ k → Same c s ws hs r.hist r.hist j = λ j lj n. record {
        owner = get_or-set_other s.words k j node 0 n;
        head = get_or-set_other s.words k (head_at (slot_count c) j) node 0 (λ e. omega arith);
        home = set_else s.homes k j maybe.none n;
        hist = refl;
      } in
      let grows : (j : ℕ) → j < slot_count c → Begins (r.hist j) (r.hist j) = λ j _. begins_here (r.hist j) in
      let held_now : at w.held k ≡ Some h = get_or-set_same m.0.held k (Some h) None (omega arith) in
      let seen_now : seen_at w.seen k ≡ h = get_or-set_same m.0.seen k h [] (omega arith) in
      let slot : IsSlot c (at_state ws hs (set s.views id w)) r.seat k h = record {
        head = get_or-set_other s.words k (head_at (slot_count c) k) node 0 (λ e. omega arith) ∙ sl.head;
        few = sl.few;
        own = sl.own;
        free = λ e. absurd (some_node (sym word_here ∙ e));
        out = λ _. subst (λ (o : ℕ). LeasedTo c (at_state ws hs (set s.views id w)) r.seat k h o) (sym word_here) record {
          away = set_here s.homes k maybe.none (omega arith);
          view = w;
          there = ap (λ (i : ℕ). get_elem? (set s.views id w) i) to ∙ set_here s.views id w (there_inside s.views id m.0 here);
          held = held_now;
          number = has;
          admitted = may;
        };
      } in (
        w,
        takes k (Some x.0),
        x.1,
        changes c s r id m.0 w k ws hs r.hist here (length-set s.words k node ∙ long) same refl (λ j n. get_or-set_other m.0.held k j (Some h) None n) grows (λ _. inl free) (λ _. slot)
            (own_view c s id m.0 w k ws hs r.hist r.hist r.seat me refl refl refl (λ j n. get_or-set_other m.0.held k j (Some h) None n) (λ j n. get_or-set_other m.0.seen k j h [] n) (λ j y p. p) same grows
            (λ l e. record {
              inside = lt;
              leased = λ z. some_node (sym word_here ∙ z);
              mine = ap r.seat word_here ∙ to;
              whole = some_is l h (sym e ∙ held_now);
              seen = seen_now;
            })
            (λ _. subst (λ (l : List Fact). Begins l h) (sym seen_now) (begins_here h))) r.confirmed,
        record {
          hist = h;
          store = x.0;
          now = refl;
          rests = subst (λ (y : Script). IsFree y k h x.0) (sym is) x.2;
          own = subst (λ (y : Script). Fits y k h) (sym is) sl.own;
          seen = me.seen k lt;
          olds = me.olds k lt;
        },
      )

  -- nothing changes but what the seat has counted
  counts : (i : ℕ) (w : View) → w.spent ≡ m.0.spent → w.charter ≡ m.0.charter → w.numbers ≡ m.0.numbers → w.held ≡ m.0.held → w.seen ≡ m.0.seen → w.olds ≡ m.0.olds → IsTable c (stepped s i (slice_index s.words i) id m.1 w keeps)
  counts i w refl' charter nums helds seens oldss =
      let same : (j : ℕ) → j < slot_count c → j ≢ (slot_count c) → Same c s s.words s.homes r.hist r.hist j = λ j lj n. record { owner = refl; head = refl; home = refl; hist = refl } in
      let grows : (j : ℕ) → j < slot_count c → Begins (r.hist j) (r.hist j) = λ j _. begins_here (r.hist j) in
      let me = r.views id m.0 here in
      let no_slot : slot_count c < slot_count c → ⊥ = λ (h : slot_count c < slot_count c). omega arith in
      let held_same : (j : ℕ) → at w.held j ≡ at m.0.held j = λ j. ap (λ l. at l j) helds in
      subst (λ (ws : List ℕ). IsTable c (at_state ws s.homes (set s.views id w))) (sym (set-get_or s.words i 0))
      (changes c s r id m.0 w (slot_count c) s.words s.homes r.hist here r.wide same nums (λ j _. held_same j) grows (λ h. absurd (no_slot h)) (λ h. absurd (no_slot h))
      (own_view c s id m.0 w (slot_count c) s.words s.homes r.hist r.hist r.seat me refl' charter nums (λ j _. held_same j) (λ j _. ap (λ l. seen_at l j) seens) (λ j y p. subst (λ l. Has y (seen_at l j)) oldss p) same grows
      (λ l e. absurd (no_slot (me.held (slot_count c) l (sym (held_same (slot_count c)) ∙ e)).inside)) (λ h. absurd (no_slot h))) r.confirmed)

  misses : (k : ℕ) → m.0.spent ≡ false → k < slot_count c → at m.0.held k ≡ None → slice_index s.words k ≢ 0 → Gives c s k id m (Missed m.0 m.1 k (slice_index s.words k)) (slice_index s.words k)
  misses k live lt none taken =
      let me = r.views id m.0 here in let is : m.0.charter ≡ c = me.charter live in let n : ℕ = slice_index s.words k in let t = (r.slots k lt).out taken in (
        missed m.0 n,
        keeps,
        tt,
        counts k (missed m.0 n) refl refl refl refl refl refl,
        record {
          now = refl;
          admitted = subst (λ (y : Script). admits y n (slot_at y.config k) ≡ true) (sym is) t.admitted;
          other = λ h. let e : r.seat n ≡ id = me.numbers n h in
              let u : m.0 ≡ t.view = maybe.some-injective m.0 t.view (sym here ∙ ap (λ (i : ℕ). get_elem? s.views i) (sym e) ∙ t.there) in
              nothing_held (at m.0.held k) (r.hist k) none (ap (λ (y : View). at y.held k) u ∙ t.held);
        },
      )

-- one compare-exchange of the owner word, which also takes the slot where it wins
pub claims : (c : Script) (slots id : ℕ) (m : SeatState) (k node : ℕ) → m.0.spent ≡ false → slots ≡ slot_count c → k < slot_count c → node ≢ 0 → Has node m.0.numbers → admits c node (slot_at c.config k) ≡ true → at m.0.held k ≡ None → length m.0.held ≡ slot_count c → length m.0.seen ≡ slot_count c
    → Allows (IsTable c) slots id m k (λ n. either (eqb n 0) node n) (Claimed (step slots k 0 node maybe.none) m)
claims c slots id m k node live is lt some_node has may none helds seens s r wide here _ =
    let n : ℕ = slice_index s.words k in
    exchanged n 0 node (λ x. Gives c s k id m (Claimed (step slots k 0 node maybe.none) m n) x)
    (λ hit. let g = wins c s r id m here k node live lt (wide ∙ is) some_node has may helds seens hit in (g.0, g.1, g.2, g.3, record { hit = λ _. g.4; miss = λ e. absurd (e hit) }))
    (λ miss. let g = misses c s r id m here k live lt none miss in (g.0, g.1, g.2, g.3, record { hit = λ e. absurd (miss e); miss = λ _. g.4 }))

pub looks : (c : Script) (slots id : ℕ) (m : SeatState) (k : ℕ) → slots ≡ slot_count c → k < slot_count c → Allows (IsTable c) slots id m (head_at slots k) (λ n. n) (Looked (step slots (head_at slots k) 0 0 maybe.none) m)
looks c slots id m k is lt s r wide here _ =
    let i : ℕ = head_at slots k in let n : ℕ = slice_index s.words i in
    let head : n ≡ length (r.hist k) = ap (λ (z : ℕ). slice_index s.words (head_at z k)) is ∙ (r.slots k lt).head in
    let least : length (seen_at m.0.seen k) ≤ n = let b = begins_length _ _ ((r.views id m.0 here).seen k lt) in omega arith in
    let few : n < 2 ^ 32 = subst (λ (z : ℕ). z < 2 ^ 32) (sym head) (r.slots k lt).few in
    let which : (head_at slots k - slots) / 8 ≡ k = which_head slots k in (
      looked m.0 n,
      keeps,
      tt,
      counts c s r id m here i (looked m.0 n) refl refl refl refl refl refl,
      record { now = refl; least = subst (λ (z : ℕ). length (seen_at m.0.seen z) ≤ n) (sym which) least; few = few },
    )

abbrev Announced : SeatState → List Fact → View → ℕ → Type 0
Announced m new w y = let a : SeatState = (w, m.1) in let b : SeatState = (published m.0 y new, m.1) in (a ≡ b) × Begins (seen_at m.0.seen y) new

-- one store of the head word
pub publishes : (c : Script) (slots id : ℕ) (m : SeatState) (k : ℕ) (old new : List Fact) → ((e : List ℕ) (p n : ℕ) → confirms e p n new ≡ true → (confirms e p n old ≡ true) ⊎ (recorded e p n (seen_at m.0.seen (home_of c e)) ≡ true)) → slots ≡ slot_count c → at m.0.held k ≡ Some old → length m.0.held ≡ slot_count c → length m.0.seen ≡ slot_count c → Begins old new → Fits c k new → length new < 2 ^ 32
    → Allows (IsTable c) slots id m (head_at slots k) (λ _. length new) (λ _. Published new (step slots (head_at slots k) (length new) 0 maybe.none) m (length new))
publishes c slots id m k old new vouched is has helds seens more own short s r wide here _ =
    let me = r.views id m.0 here in let o = me.held k old has in let lt : k < slot_count c = o.inside in let sl = r.slots k lt in let long : length s.words ≡ head_at (slot_count c) (slot_count c) = r.wide in
    let i : ℕ = head_at slots k in let w : View = published m.0 k new in let ws : List ℕ = set s.words i (length new) in
    let hist' : ℕ → List Fact = edit r.hist k new in let now : hist' k ≡ new = edit_here r.hist k new in
    let i_is : i ≡ head_at (slot_count c) k = omega arith in
    let owners : (j : ℕ) → j < slot_count c → slice_index ws j ≡ slice_index s.words j = λ j lj. get_or-set_other s.words i j (length new) 0 (λ e. omega arith) in
    let same : (j : ℕ) → j < slot_count c → j ≢ k → Same c s ws s.homes r.hist hist' j = λ j lj n. record {
      owner = owners j lj;
      head = get_or-set_other s.words i (head_at (slot_count c) j) (length new) 0 (λ e. omega arith);
      home = refl;
      hist = edit_else r.hist k new j n;
    } in
    let old_is : old ≡ r.hist k = o.whole in
    let more' : Begins (r.hist k) (hist' k) = subst (λ (l : List Fact). Begins (r.hist k) l) (sym now) (subst (λ (l : List Fact). Begins l new) old_is more) in
    let grows : (j : ℕ) → j < slot_count c → Begins (r.hist j) (hist' j) = λ j _. ⊎_elim
    (λ (e : j ≡ k). subst (λ (y : ℕ). Begins (r.hist y) (hist' y)) (sym e) more')
    (λ (n : j ≢ k). subst (λ (l : List Fact). Begins (r.hist j) l) (sym (edit_else r.hist k new j n)) (begins_here (r.hist j))) (same_or_not j k) in
    let on : (e : List ℕ) (p n : ℕ) → recorded e p n (r.hist (home_of c e)) ≡ true → recorded e p n (hist' (home_of c e)) ≡ true =
    λ e p n h. recorded_begins e p n (r.hist (home_of c e)) (hist' (home_of c e)) (grows (home_of c e) (home_inside c e r.script)) h in
    let shown : AreConfirmed c hist' = λ i e p n li x. ⊎_elim
    (λ (z : i ≡ k). ⊎_elim (λ h. on e p n (r.confirmed k e p n lt (subst (λ (l : List Fact). confirms e p n l ≡ true) old_is h)))
    (λ h. on e p n (recorded_begins e p n (seen_at m.0.seen (home_of c e)) (r.hist (home_of c e)) (me.seen (home_of c e) (home_inside c e r.script)) h))
    (vouched e p n (subst (λ (l : List Fact). confirms e p n l ≡ true) (ap hist' z ∙ now) x)))
    (λ (z : i ≢ k). on e p n (r.confirmed i e p n li (subst (λ (l : List Fact). confirms e p n l ≡ true) (edit_else r.hist k new i z) x)))
    (same_or_not i k) in
    let held_now : at w.held k ≡ Some (hist' k) = get_or-set_same m.0.held k (Some new) None (omega arith) ∙ ap (λ (l : List Fact). Some l) (sym now) in
    let seen_now : seen_at w.seen k ≡ hist' k = get_or-set_same m.0.seen k new [] (omega arith) ∙ sym now in
    let t = sl.out o.leased in let to : r.seat (slice_index s.words k) ≡ id = o.mine in
    let is_view : m.0 ≡ t.view = maybe.some-injective m.0 t.view (sym here ∙ ap (λ (y : ℕ). get_elem? s.views y) (sym to) ∙ t.there) in
    let slot : IsSlot c (at_state ws s.homes (set s.views id w)) r.seat k (hist' k) = record {
      head = ap (λ (y : ℕ). slice_index ws y) (sym i_is) ∙ get_or-set_same s.words i (length new) 0 (omega arith) ∙ ap (λ (l : List Fact). length l) (sym now);
      few = subst (λ (l : List Fact). length l < 2 ^ 32) (sym now) short;
      own = subst (λ (l : List Fact). Fits c k l) (sym now) own;
      free = λ e. absurd (o.leased (sym (owners k lt) ∙ e));
      out = λ _. subst (λ (y : ℕ). LeasedTo c (at_state ws s.homes (set s.views id w)) r.seat k (hist' k) y) (sym (owners k lt)) record {
        away = t.away;
        view = w;
        there = ap (λ (y : ℕ). get_elem? (set s.views id w) y) to ∙ set_here s.views id w (there_inside s.views id m.0 here);
        held = held_now;
        number = subst (λ (y : View). Has (slice_index s.words k) y.numbers) (sym is_view) t.number;
        admitted = t.admitted;
      };
    } in (
      w,
      keeps,
      tt,
      changes c s r id m.0 w k ws s.homes hist' here (length-set s.words i (length new) ∙ long) same refl (λ j n. get_or-set_other m.0.held k j (Some new) None n) grows (λ _. inr to) (λ _. slot)
          (own_view c s id m.0 w k ws s.homes r.hist hist' r.seat me refl refl refl (λ j n. get_or-set_other m.0.held k j (Some new) None n) (λ j n. get_or-set_other m.0.seen k j new [] n) (λ j y p. p) same grows
          (λ l e. record {
            inside = lt;
            leased = λ z. o.leased (sym (owners k lt) ∙ z);
            mine = ap r.seat (owners k lt) ∙ to;
            whole = some_is l (hist' k) (sym e ∙ held_now);
            seen = seen_now;
          })
          (λ _. subst (λ (l : List Fact). Begins l (hist' k)) (sym seen_now) (begins_here (hist' k)))) shown,
      subst (λ (y : ℕ). Announced m new w y) (sym (which_head slots k)) (refl, subst (λ (l : List Fact). Begins l new) (sym (o.seen ∙ sym old_is)) more),
    )

-- one store of the owner word, which also gives the slot back
pub frees : (c : Script) (slots id : ℕ) (m : SeatState) (k : ℕ) (h : List Fact) (x : Store) (cs : List (ℕ × Option Store)) → slots ≡ slot_count c → at m.0.held k ≡ Some h → length m.0.held ≡ slot_count c → m.1 ≡ (k, Some x) ∷ cs → IsFree c k h x
    → Allows (IsTable c) slots id m k (λ _. 0) (λ _. Freed (step slots k 0 0 maybe.none) m 0)
frees c slots id m k h x cs is has helds carried rests s r wide here _ =
    let me = r.views id m.0 here in let o = me.held k h has in let lt : k < slot_count c = o.inside in let sl = r.slots k lt in let long : length s.words ≡ head_at (slot_count c) (slot_count c) = r.wide in
    let w : View = freed m.0 k in let ws : List ℕ = set s.words k 0 in let hs : Homes = set s.homes k (maybe.some (Some x)) in
    let word_here : slice_index ws k ≡ 0 = get_or-set_same s.words k 0 0 (omega arith) in
    let same : (j : ℕ) → j < slot_count c → j ≢ k → Same c s ws hs r.hist r.hist j = λ j lj n. record {
      owner = get_or-set_other s.words k j 0 0 n;
      head = get_or-set_other s.words k (head_at (slot_count c) j) 0 0 (λ e. omega arith);
      home = set_else s.homes k j (maybe.some (Some x)) n;
      hist = refl;
    } in
    let grows : (j : ℕ) → j < slot_count c → Begins (r.hist j) (r.hist j) = λ j _. begins_here (r.hist j) in
    let none_now : at w.held k ≡ None = get_or-set_same m.0.held k None None (omega arith) in
    let slot : IsSlot c (at_state ws hs (set s.views id w)) r.seat k (r.hist k) = record {
      head = get_or-set_other s.words k (head_at (slot_count c) k) 0 0 (λ e. omega arith) ∙ sl.head;
      few = sl.few;
      own = sl.own;
      free = λ _. (x, set_here s.homes k (maybe.some (Some x)) (omega arith), subst (λ (l : List Fact). IsFree c k l x) o.whole rests);
      out = λ n. absurd (n word_here);
    } in (
      w,
      gives,
      tt,
      subst (λ (l : List (ℕ × Option Store)). IsTable c (stepped s k 0 id l w gives)) (sym carried)
          (changes c s r id m.0 w k ws hs r.hist here (length-set s.words k 0 ∙ long) same refl (λ j n. get_or-set_other m.0.held k j None None n) grows (λ _. inr o.mine) (λ _. slot)
          (own_view c s id m.0 w k ws hs r.hist r.hist r.seat me refl refl refl (λ j n. get_or-set_other m.0.held k j None None n) (λ j n. refl) (λ j y p. p) same grows
          (λ l e. absurd (nothing_held _ l none_now e)) (λ lk. me.seen k lk)) r.confirmed),
      refl,
    )
