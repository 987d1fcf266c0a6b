-- How seats are made and joined.
use Rattle.std.proofs.Common.{arith, ◌≡◌, ◌≢◌, ℕ, zero, suc, ◌<◌, ◌^◌, ◌⊎◌, inl, inr, ⊎_elim, List, [], ◌∷◌, ◌++◌, length, set, replicate, refl, sym, ap, ◌∙◌, subst, true≢false, length-set}
use Rattle.plain_laws.proofs.Booleans.{get_replicate}
use Rattle.std.specs.Prelude.{slice_index, Option, None, Some}
use mathlib.Core.Option as maybe
use lib.ListN.{get_elem?}
use Rattle.atomic_table.specs.Table.{Splits, Joins, opening}
use Rattle.atomic_table.proofs.Lists.{at_set, set_here, set_else, at_longer, at_map}
use Rattle.yard_model.specs.Script.{Script, IsScript}
use Rattle.yard_model.specs.declared.fact.Fact.{Fact}
use Rattle.shard_store.specs.declared.store.Store.{Store}
use Rattle.lease_table.specs.Fits.{slot_count, Fits, AreConfirmed}
use Rattle.shard_lease.specs.Meaning.{Begins}
use Rattle.shard_store.specs.Stores.{entries_of}
use Rattle.lease_table.specs.declared.View.{View}
use Rattle.lease_table.specs.Lists.{seen_at, Has}
use Rattle.yard_model.specs.Words.{at}
use Rattle.std.specs.Prelude.{slice_index_or}
use Rattle.lease_table.specs.Rule.{TableState, IsFree, LeasedTo, IsView, IsTable, head_at}
use Rattle.shard_store.specs.Stores.{entries_in, entries_at}
use Rattle.lease_table.specs.Leasing.{lists_in}
use Rattle.lease_table.specs.Tells.{opening_view, first_of, rest_of, dealt_left, dealt_right, noted, gathered, united, spent_view}
use Rattle.lease_table.proofs.Places.{same_or_not, begins_here, begins_empty, there_inside, at_snoc_place, has_left, has_either, edit, edit_here, edit_else, chosen, chosen_yes, chosen_no}
use Rattle.lease_table.proofs.Steps.{nothing_held}

-- the new view has what the old one had, but for its numbers, what it holds and its counts
pub record Alike (v w : View) : Type 0 where
  pub spent : w.spent ≡ v.spent
  pub charter : w.charter ≡ v.charter
  pub seen : w.seen ≡ v.seen
  pub olds : w.olds ≡ v.olds

module _ (c : Script) (s : TableState) (r : IsTable c s) (id : ℕ) (v left right : View) (seat' : ℕ → ℕ) (here : get_elem? s.views id ≡ maybe.some v) (al : Alike v left) (ar : Alike v right) (helds : left.held ≡ v.held) (nothing : (k : ℕ) → at right.held k ≡ None)
    (numsL : (m : ℕ) → Has m left.numbers → seat' m ≡ id) (numsR : (m : ℕ) → Has m right.numbers → seat' m ≡ length s.views) (others : (i m : ℕ) → i ≢ id → r.seat m ≡ i → seat' m ≡ i)
    (mine : (k : ℕ) (l : List Fact) → at v.held k ≡ Some l → (seat' (slice_index s.words k) ≡ id) × (Has (slice_index s.words k) v.numbers → Has (slice_index s.words k) left.numbers)) where
  abbrev Then : TableState
  Then = record { words = s.words; homes = s.homes; views = set s.views id left ++ right ∷ [] }

  split_leased : (j : ℕ) → LeasedTo c s r.seat j (r.hist j) (slice_index s.words j) → LeasedTo c Then seat' j (r.hist j) (slice_index s.words j)
  split_leased j t = let o : ℕ = slice_index s.words j in ⊎_elim
      (λ (e : r.seat o ≡ id). let is : v ≡ t.view = maybe.some-injective v t.view (sym here ∙ ap (λ (i : ℕ). get_elem? s.views i) (sym e) ∙ t.there) in
      let has : at v.held j ≡ Some (r.hist j) = ap (λ (u : View). at u.held j) is ∙ t.held in let m = mine j (r.hist j) has in record {
        away = t.away;
        view = left;
        there = ap (λ (i : ℕ). get_elem? (set s.views id left ++ right ∷ []) i) m.0 ∙ at_longer (set s.views id left) (right ∷ []) id left (set_here s.views id left (there_inside s.views id v here));
        held = ap (λ l. at l j) helds ∙ has;
        number = m.1 (subst (λ (u : View). Has o u.numbers) (sym is) t.number);
        admitted = t.admitted;
      })
      (λ (ne : r.seat o ≢ id). record {
        away = t.away;
        view = t.view;
        there = ap (λ (i : ℕ). get_elem? (set s.views id left ++ right ∷ []) i) (others (r.seat o) o ne refl) ∙ at_longer (set s.views id left) (right ∷ []) (r.seat o) t.view (set_else s.views id (r.seat o) left ne ∙ t.there);
        held = t.held;
        number = t.number;
        admitted = t.admitted;
      })
      (same_or_not (r.seat o) id)

  split_view : (i : ℕ) (u : View) → get_elem? Then.views i ≡ maybe.some u → IsView c Then r.hist seat' i u
  split_view i u e = let me = r.views id v here in ⊎_elim
      (λ (e' : get_elem? (set s.views id left) i ≡ maybe.some u). ⊎_elim
      (λ (t : (i ≡ id) × (left ≡ u)). subst (λ (y : ℕ × View). IsView c Then r.hist seat' y.0 y.1) (λ p. (sym t.0 p, t.1 p)) record {
        charter = λ z. al.charter ∙ me.charter (sym al.spent ∙ z);
        numbers = numsL;
        held = λ j l h. let h' : at v.held j ≡ Some l = ap (λ y. at y j) (sym helds) ∙ h in let o = me.held j l h' in record {
          inside = o.inside;
          leased = o.leased;
          mine = (mine j l h').0;
          whole = o.whole;
          seen = ap (λ y. seen_at y j) al.seen ∙ o.seen;
        };
        seen = λ j lt. subst (λ y. Begins (seen_at y j) (r.hist j)) (sym al.seen) (me.seen j lt);
        olds = λ j lt y h. me.olds j lt y (subst (λ z. Has y (seen_at z j)) al.olds h);
      })
      (λ (t : (i ≢ id) × (get_elem? s.views i ≡ maybe.some u)). let old = r.views i u t.1 in record {
        charter = old.charter;
        numbers = λ m h. others i m t.0 (old.numbers m h);
        held = λ j l h. let o = old.held j l h in record {
          inside = o.inside;
          leased = o.leased;
          mine = others i (slice_index s.words j) t.0 o.mine;
          whole = o.whole;
          seen = o.seen;
        };
        seen = old.seen;
        olds = old.olds;
      })
      (at_set s.views id i left u e'))
      (λ (t : (i ≡ length (set s.views id left)) × (right ≡ u)). let at_end : i ≡ length s.views = t.0 ∙ length-set s.views id left in subst (λ (y : ℕ × View). IsView c Then r.hist seat' y.0 y.1) (λ p. (sym at_end p, t.1 p)) record {
        charter = λ z. ar.charter ∙ me.charter (sym ar.spent ∙ z);
        numbers = numsR;
        held = λ j l h. absurd (nothing_held (at right.held j) l (nothing j) h);
        seen = λ j lt. subst (λ y. Begins (seen_at y j) (r.hist j)) (sym ar.seen) (me.seen j lt);
        olds = λ j lt y h. me.olds j lt y (subst (λ z. Has y (seen_at z j)) ar.olds h);
      })
      (at_snoc_place (set s.views id left) right u i e)

  pub forks : IsTable c Then
  forks = record {
    hist = r.hist;
    script = r.script;
    confirmed = r.confirmed;
    seat = seat';
    wide = r.wide;
    slots = λ j lt. let old = r.slots j lt in record { head = old.head; few = old.few; own = old.own; free = old.free; out = λ n. split_leased j (old.out n) };
    views = split_view;
  }

pub notes : (c : Script) (id : ℕ) (v : View) → Splits (IsTable c) id v v (noted v)
notes c id v s r here = let me = r.views id v here in
    forks c s r id v v (noted v) r.seat here record { spent = refl; charter = refl; seen = refl; olds = refl } record { spent = refl; charter = refl; seen = refl; olds = refl } refl (λ k. refl)
    me.numbers (λ m h. elim h [ ]) (λ i m n e. e) (λ k l h. ((me.held k l h).mine, λ x. x))

pub deals : (c : Script) (id : ℕ) (v : View) (n : ℕ) (ns : List ℕ) → v.numbers ≡ n ∷ ns → (Has n ns → ⊥) → ((k : ℕ) → at v.held k ≡ None) → Splits (IsTable c) id v (dealt_left v) (dealt_right v)
deals c id v n ns nums apart nothing s r here =
    let me = r.views id v here in let seat' : ℕ → ℕ = edit r.seat n (length s.views) in
    let left : rest_of v.numbers ≡ ns = ap (λ (l : List ℕ). rest_of l) nums in let right : first_of v.numbers ≡ n = ap (λ (l : List ℕ). first_of l) nums in
    let mine : r.seat n ≡ id = me.numbers n (subst (λ (l : List ℕ). Has n l) (sym nums) (inl refl)) in
    forks c s r id v (dealt_left v) (dealt_right v) seat' here record { spent = refl; charter = refl; seen = refl; olds = refl } record { spent = refl; charter = refl; seen = refl; olds = refl } refl nothing
    (λ m h. let h' : Has m ns = subst (λ (l : List ℕ). Has m l) left h in let ne : m ≢ n = λ e. apart (subst (λ (y : ℕ). Has y ns) e h') in
    edit_else r.seat n (length s.views) m ne ∙ me.numbers m (subst (λ (l : List ℕ). Has m l) (sym nums) (inr h')))
    (λ m h. ⊎_elim (λ (e : first_of v.numbers ≡ m). ap seat' (sym e ∙ right) ∙ edit_here r.seat n (length s.views)) (λ z. elim z [ ]) h)
    (λ i m ne e. edit_else r.seat n (length s.views) m (λ z. ne (sym e ∙ ap r.seat z ∙ mine)) ∙ e)
    (λ k l h. absurd (nothing_held (at v.held k) l (nothing k) h))

at_rest : {A : Type 0} (d : A) (l : List A) (j : ℕ) → slice_index_or (rest_of l) j d ≡ slice_index_or l (suc j) d
at_rest d [] j = refl
at_rest d (x ∷ xs) j = refl

-- an old list was one before, or is what the other had
gathered_has : (os : List (List (List Fact))) (ss : List (List Fact)) (ps : List (List (List Fact))) (j : ℕ) (y : List Fact) → Has y (seen_at (gathered os ss ps) j) → Has y (seen_at os j) ⊎ ((seen_at ss j ≡ y) ⊎ Has y (seen_at ps j))
gathered_has [] ss ps j y h = elim h [ ]
gathered_has (o ∷ os) ss ps zero y h = has_either y o (seen_at ss 0 ∷ seen_at ps 0) h
gathered_has (o ∷ os) ss ps (suc j) y h = ⊎_elim (λ a. inl a)
    (λ b. inr (⊎_elim (λ (e : seen_at (rest_of ss) j ≡ y). inl (sym (at_rest [] ss j) ∙ e)) (λ z. inr (subst (λ (l : List (List Fact)). Has y l) (at_rest [] ps j) z)) b)) (gathered_has os (rest_of ss) (rest_of ps) j y h)

module _ (c : Script) (s : TableState) (r : IsTable c s) (id : ℕ) (v : View) (other : ℕ) (w : View) (here : get_elem? s.views id ≡ maybe.some v) (two : other ≢ id) (there : get_elem? s.views other ≡ maybe.some w) (nothing : (k : ℕ) → at w.held k ≡ None) where
  abbrev both : View
  both = united v w

  abbrev Joined : TableState
  Joined = record { words = s.words; homes = s.homes; views = set (set s.views id both) other spent_view }

  abbrev seat' : ℕ → ℕ
  seat' m = chosen (same_or_not (r.seat m) other) id (r.seat m)

  stays : (m : ℕ) → r.seat m ≢ other → seat' m ≡ r.seat m
  stays m n = chosen_no (same_or_not (r.seat m) other) id (r.seat m) n

  moves : (m : ℕ) → r.seat m ≡ other → seat' m ≡ id
  moves m e = chosen_yes (same_or_not (r.seat m) other) id (r.seat m) e

  join_leased : (j : ℕ) → LeasedTo c s r.seat j (r.hist j) (slice_index s.words j) → LeasedTo c Joined seat' j (r.hist j) (slice_index s.words j)
  join_leased j t = let o : ℕ = slice_index s.words j in
      let apart : r.seat o ≢ other = λ e. let is : w ≡ t.view = maybe.some-injective w t.view (sym there ∙ ap (λ (i : ℕ). get_elem? s.views i) (sym e) ∙ t.there) in
      nothing_held (at w.held j) (r.hist j) (nothing j) (ap (λ (u : View). at u.held j) is ∙ t.held) in ⊎_elim
      (λ (e : r.seat o ≡ id). let is : v ≡ t.view = maybe.some-injective v t.view (sym here ∙ ap (λ (i : ℕ). get_elem? s.views i) (sym e) ∙ t.there) in record {
        away = t.away;
        view = both;
        there = ap (λ (i : ℕ). get_elem? (set (set s.views id both) other spent_view) i) (stays o apart ∙ e) ∙ set_else (set s.views id both) other id spent_view (λ z. two (sym z)) ∙ set_here s.views id both (there_inside s.views id v here);
        held = ap (λ (u : View). at u.held j) is ∙ t.held;
        number = has_left o v.numbers w.numbers (subst (λ (u : View). Has o u.numbers) (sym is) t.number);
        admitted = t.admitted;
      })
      (λ (ne : r.seat o ≢ id). record {
        away = t.away;
        view = t.view;
        there = ap (λ (i : ℕ). get_elem? (set (set s.views id both) other spent_view) i) (stays o apart) ∙ set_else (set s.views id both) other (r.seat o) spent_view apart ∙ set_else s.views id (r.seat o) both ne ∙ t.there;
        held = t.held;
        number = t.number;
        admitted = t.admitted;
      })
      (same_or_not (r.seat o) id)

  join_view : (i : ℕ) (u : View) → get_elem? Joined.views i ≡ maybe.some u → IsView c Joined r.hist seat' i u
  join_view i u e = let me = r.views id v here in let you = r.views other w there in ⊎_elim
      (λ (t : (i ≡ other) × (spent_view ≡ u)). subst (λ (y : ℕ × View). IsView c Joined r.hist seat' y.0 y.1) (λ p. (sym t.0 p, t.1 p)) record {
        charter = λ z. absurd (true≢false z);
        numbers = λ m h. elim h [ ];
        held = λ j l h. absurd (nothing_held None l refl h);
        seen = λ j lt. begins_empty (r.hist j);
        olds = λ j lt y h. elim h [ ];
      })
      (λ (t : (i ≢ other) × (get_elem? (set s.views id both) i ≡ maybe.some u)). ⊎_elim
      (λ (t' : (i ≡ id) × (both ≡ u)). subst (λ (y : ℕ × View). IsView c Joined r.hist seat' y.0 y.1) (λ p. (sym t'.0 p, t'.1 p)) record {
        charter = me.charter;
        numbers = λ m h. ⊎_elim (λ a. let q : r.seat m ≡ id = me.numbers m a in stays m (λ z. two (sym z ∙ q)) ∙ q) (λ b. moves m (you.numbers m b)) (has_either m v.numbers w.numbers h);
        held = λ j l h. let o = me.held j l h in record {
          inside = o.inside;
          leased = o.leased;
          mine = stays (slice_index s.words j) (λ z. two (sym z ∙ o.mine)) ∙ o.mine;
          whole = o.whole;
          seen = o.seen;
        };
        seen = me.seen;
        olds = λ j lt y h. ⊎_elim (λ a. me.olds j lt y a) (λ b. ⊎_elim (λ (p : seen_at w.seen j ≡ y). subst (λ (z : List Fact). Begins z (r.hist j)) p (you.seen j lt)) (λ q. you.olds j lt y q) b) (gathered_has v.olds w.seen w.olds j y h);
      })
      (λ (t' : (i ≢ id) × (get_elem? s.views i ≡ maybe.some u)). let old = r.views i u t'.1 in record {
        charter = old.charter;
        numbers = λ m h. let q : r.seat m ≡ i = old.numbers m h in stays m (λ z. t.0 (sym q ∙ z)) ∙ q;
        held = λ j l h. let o = old.held j l h in record {
          inside = o.inside;
          leased = o.leased;
          mine = stays (slice_index s.words j) (λ z. t.0 (sym o.mine ∙ z)) ∙ o.mine;
          whole = o.whole;
          seen = o.seen;
        };
        seen = old.seen;
        olds = old.olds;
      })
      (at_set s.views id i both u t.1))
      (at_set (set s.views id both) other i spent_view u e)

  pub joined : IsTable c Joined
  joined = record {
    hist = r.hist;
    script = r.script;
    confirmed = r.confirmed;
    seat = seat';
    wide = r.wide;
    slots = λ j lt. let old = r.slots j lt in record { head = old.head; few = old.few; own = old.own; free = old.free; out = λ n. join_leased j (old.out n) };
    views = join_view;
  }

pub joins : (c : Script) (id : ℕ) (v : View) (other : ℕ) (w : View) → ((k : ℕ) → at w.held k ≡ None) → Joins (IsTable c) id v other w (united v w) spent_view
joins c id v other w nothing s r here two there = ⊎_elim (λ t. absurd (two t.0)) (λ t. joined c s r id v other w here two t.1 nothing) (at_set s.views id other (united v w) w there)

-- what lies in the table at the start
pub record Lies (c : Script) (ws : List ℕ) (xs : List (Option Store)) (k : ℕ) : Type 0 where
  pub store : Store
  pub there : get_elem? xs k ≡ maybe.some (Some store)
  pub rests : IsFree c k (entries_of store) store
  pub own : Fits c k (entries_of store)
  pub free : slice_index ws k ≡ 0
  pub head : slice_index ws (head_at (slot_count c) k) ≡ length (entries_of store)
  pub few : length (entries_of store) < 2 ^ 32

pub at_got : (l : List (Option Store)) (k : ℕ) (x : Option Store) → get_elem? l k ≡ maybe.some x → at l k ≡ x
at_got [] k x e = absurd (maybe.some-ne-none x (sym e))
at_got (y ∷ ys) zero x e = maybe.some-injective y x e
at_got (y ∷ ys) (suc k) x e = at_got ys k x e

pub got_at : (l : List (Option Store)) (k : ℕ) → k < length l → get_elem? l k ≡ maybe.some (at l k)
got_at [] k h = absurd (omega arith)
got_at (y ∷ ys) zero h = refl
got_at (y ∷ ys) (suc k) h = got_at ys k (omega arith)

one_only : (v u : View) (i : ℕ) → get_elem? (v ∷ []) i ≡ maybe.some u → (i ≡ 0) × (v ≡ u)
one_only v u zero e = (refl, maybe.some-injective v u e)
one_only v u (suc i) e = absurd (maybe.some-ne-none u (sym e))

pub at_lists : (xs : List (Option Store)) (j : ℕ) → seen_at (lists_in xs) j ≡ entries_at xs j
at_lists [] j = refl
at_lists (x ∷ xs) zero = refl
at_lists (x ∷ xs) (suc j) = at_lists xs j

pub begins : (c : Script) (ws : List ℕ) (xs : List (Option Store)) → IsScript c → length ws ≡ head_at (slot_count c) (slot_count c) → ((k : ℕ) → k < slot_count c → Lies c ws xs k) → AreConfirmed c (entries_at xs) → IsTable c (opening ws xs (opening_view c (lists_in xs)))
begins c ws xs script wide lies told =
    let hist : ℕ → List Fact = entries_at xs in let first : View = opening_view c (lists_in xs) in record {
      script = script;
      hist = hist;
      confirmed = told;
      seat = λ _. 0;
      wide = wide;
      slots = λ k lt. let l = lies k lt in let is : hist k ≡ (entries_of l.store) = ap entries_in (at_got xs k (Some l.store) l.there) in record {
        head = l.head ∙ ap (λ (z : List Fact). length z) (sym is);
        few = subst (λ (z : List Fact). length z < 2 ^ 32) (sym is) l.few;
        own = subst (λ (z : List Fact). Fits c k z) (sym is) l.own;
        free = λ _. (l.store, at_map maybe.some xs k (Some l.store) l.there, subst (λ (z : List Fact). IsFree c k z l.store) (sym is) l.rests);
        out = λ n. absurd (n l.free);
      };
      views = λ i u e. let t = one_only first u i e in subst (λ (y : ℕ × View). IsView c (opening ws xs first) hist (λ _. 0) y.0 y.1) (λ p. (sym t.0 p, t.1 p)) record {
        charter = λ _. refl;
        numbers = λ _ _. refl;
        held = λ j l h. absurd (nothing_held (at (replicate (slot_count c) None) j) l (get_replicate (slot_count c) j None) h);
        seen = λ j lt. subst (λ (z : List Fact). Begins z (hist j)) (sym (at_lists xs j)) (begins_here (hist j));
        olds = λ j lt y h. elim (subst (λ (z : List (List Fact)). Has y z) (get_replicate (slot_count c) j []) h) [ ];
      };
    }
