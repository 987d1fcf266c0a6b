-- A sender of the next node is made at each queue.
use Rattle.std.proofs.Common.{◌≡◌, ℕ, zero, suc, ◌+◌, ◌-◌, ◌<◌, ◌≤◌, List, [], ◌∷◌, ◌++◌, length, get_or, map, replicate, take, refl, sym, ap, ◌∙◌, subst, arith, ⊎_elim, length-set, append-nil}
use Rattle.std.specs.Prelude.{slice_set}
use Rattle.std.specs.Global.{Vec}
use Rattle.std.proofs.lemmas.List.{length-map, length-append, map-append, map-set, replicate_more, take_more, take_all}
use Rattle.std.proofs.Math.Seq.{map-set_same}
use mathlib.Core.Option as maybe
use lib.ListN.{get_elem?}
use Rattle.atomic_table.specs.Seated.{TableId}
use Rattle.atomic_table.proofs.Lists.{at_longer, at_last}
use Rattle.crossbeam_queue.specs.Passes.{view}
use Rattle.post_box.specs.declared.queue.View.{View}
use Rattle.post_box.specs.Holding.{QueuePass, QueueState, At, state, table_of, taken_by, new_holder}
use Rattle.post_box.specs.Rule.{taker, sender}
use Rattle.post_box.specs.Making.{idle_taker, idle_sender, AreAll, AreRows, AreTakers, dealt_down}
use Rattle.post_box.proofs.Places.{got, mixed_at, mixed_set, at_map, at_snoc_place, replicate_at, there_inside}

module _ {P : Type 0} where
  -- the first k senders of the node are made
  pub record Row (ids : List TableId) (node k : ℕ) (row takers : List (QueuePass P)) : Type 0 where
    pub tables : map table_of row ≡ take k ids
    pub states : map state row ≡ replicate k (idle_sender node)
    pub makers : map table_of takers ≡ ids
    pub mixed : map state takers ≡ replicate k (idle_taker (node + 1)) ++ replicate (length ids - k) (idle_taker node)

  pub row_begins : (ids : List TableId) (node : ℕ) (row takers : List (QueuePass P)) → row ≡ [] → AreAll ids (idle_taker node) takers → Row ids node 0 row takers
  row_begins ids node row takers none all = record { tables = ap (map table_of) none; states = ap (map state) none; makers = all.tables; mixed = all.states ∙ ap (λ n. replicate n (idle_taker node)) (let e : length ids ≡ length ids - 0 = omega arith in e) }

  -- the state of the taker whose turn it is
  turn_of : (ids : List TableId) (node k : ℕ) (row takers : List (QueuePass P)) → Row ids node k row takers → (s : QueuePass P) → get_elem? takers k ≡ maybe.some s → idle_taker node ≡ state s
  turn_of ids node k row takers r s here = mixed_at k (length ids - k) (idle_taker (node + 1)) (idle_taker node) (state s) (ap (λ (l : List (QueueState P)). get_elem? l k) (sym r.mixed) ∙ at_map state takers k s here)

  pub row_may : (ids : List TableId) (node k : ℕ) (row takers : List (QueuePass P)) (id : TableId) → Row ids node k row takers → get_elem? ids k ≡ maybe.some id → (s : QueuePass P) → get_elem? takers k ≡ maybe.some s
      → (table_of s ≡ id) × (state s ≡ (taker (view s).next (taken_by s), []))
  row_may ids node k row takers id r home s here =
      let is : idle_taker node ≡ state s = turn_of ids node k row takers r s here in
      let v : taker node [] ≡ view s = ap (λ (x : QueueState P). x.0) is in (
        maybe.some-injective (table_of s) id (sym (at_map table_of takers k s here) ∙ ap (λ (l : List TableId). get_elem? l k) r.makers ∙ home),
        sym is ∙ ap (λ (w : View P). (taker w.next w.taken, [])) v,
      )

  pub row_more : (ids : List TableId) (node k : ℕ) (row takers row' takers' : List (QueuePass P)) (id : TableId) (x : QueuePass P) → Row ids node k row takers → k < length ids → get_elem? ids k ≡ maybe.some id
      → At takers takers' k (λ s t. (state t ≡ (taker ((view s).next + 1) (taken_by s), [])) × (table_of x ≡ id) × (state x ≡ (sender (view s).next [], []))) → row' ≡ row ++ x ∷ [] → Row ids node (k + 1) row' takers'
  row_more ids node k row takers row' takers' id x r low home at pushed =
      let v : taker node [] ≡ view at.old = ap (λ (x : QueueState P). x.0) (turn_of ids node k row takers r at.old at.there) in
      let new_is : state at.new ≡ idle_taker (node + 1) = at.step.0 ∙ ap (λ (w : View P). (taker (w.next + 1) w.taken, [])) (sym v) in
      let x_is : state x ≡ idle_sender node = at.step.2 ∙ ap (λ (w : View P). (sender w.next [], [])) (sym v) in
      let less : length ids - k ≡ suc (length ids - (k + 1)) = omega arith in record {
        tables = ap (map table_of) pushed ∙ map-append table_of row (x ∷ []) ∙ ap (λ l. l ++ table_of x ∷ []) r.tables ∙ ap (λ y. take k ids ++ y ∷ []) (at.step.1 ∙ sym (got ids k id id home)) ∙ sym (take_more ids k id low);
        states = ap (map state) pushed ∙ map-append state row (x ∷ []) ∙ ap (λ l. l ++ state x ∷ []) r.states ∙ ap (λ y. replicate k (idle_sender node) ++ y ∷ []) x_is ∙ replicate_more k (idle_sender node);
        makers = ap (map table_of) at.is ∙ map-set_same table_of takers k at.new at.old (at.table ∙ ap table_of (sym (got takers k at.old at.old at.there))) ∙ r.makers;
        mixed = ap (map state) at.is ∙ map-set state takers k at.new ∙ ap (λ (l : List (QueueState P)). slice_set l k (state at.new)) r.mixed ∙ ap (λ y. slice_set (replicate k (idle_taker (node + 1)) ++ replicate (length ids - k) (idle_taker node)) k y) new_is
            ∙ ap (λ n. slice_set (replicate k (idle_taker (node + 1)) ++ replicate n (idle_taker node)) k (idle_taker (node + 1))) less ∙ mixed_set k (length ids - (k + 1)) (idle_taker (node + 1)) (idle_taker node)
            ∙ ap (λ n. replicate n (idle_taker (node + 1)) ++ replicate (length ids - (k + 1)) (idle_taker node)) (let e : suc k ≡ k + 1 = omega arith in e);
      }

  pub row_ends : (ids : List TableId) (node k : ℕ) (row takers : List (QueuePass P)) → Row ids node k row takers → k ≡ length ids → AreAll ids (idle_sender node) row × AreAll ids (idle_taker (node + 1)) takers
  row_ends ids node k row takers r end =
      let none : length ids - k ≡ 0 = omega arith in (
        record { tables = r.tables ∙ ap (λ n. take n ids) end ∙ take_all (length ids) ids (omega arith); states = r.states ∙ ap (λ n. replicate n (idle_sender node)) end },
        record { tables = r.makers; states = r.mixed ∙ ap (λ n. replicate k (idle_taker (node + 1)) ++ replicate n (idle_taker node)) none ∙ append-nil (replicate k (idle_taker (node + 1))) ∙ ap (λ n. replicate n (idle_taker (node + 1))) end },
      )

  -- a row for one node more
  pub rows_more : (ids : List TableId) (k : ℕ) (rows rows' : List (Vec (QueuePass P))) (r : Vec (QueuePass P)) → AreRows ids k rows → AreAll ids (idle_sender (k + 1)) r.items → rows' ≡ rows ++ r ∷ [] → AreRows ids (k + 1) rows'
  rows_more ids k rows rows' r all row pushed = subst (λ l. AreRows ids (k + 1) l) (sym pushed) record {
    count = length-append rows (r ∷ []) ∙ ap (λ n. n + 1) all.count;
    each = λ j y e. ⊎_elim (λ here. all.each j y here) (λ (t : (j ≡ length rows) × (r ≡ y)). subst (λ (z : ℕ × Vec (QueuePass P)). AreAll ids (idle_sender (z.0 + 1)) z.1.items) (λ i. (sym (t.0 ∙ all.count) i, t.1 i)) row) (at_snoc_place rows r y j e);
  }

  pub rows_less : (ids : List TableId) (n : ℕ) (rows : List (Vec (QueuePass P))) (r : Vec (QueuePass P)) → AreRows ids n (rows ++ r ∷ []) → AreRows ids (n - 1) rows × AreAll ids (idle_sender n) r.items
  rows_less ids n rows r all =
      let long : length rows + 1 ≡ n = sym (length-append rows (r ∷ [])) ∙ all.count in (
        record { count = omega arith; each = λ j y e. all.each j y (at_longer rows (r ∷ []) j y e) },
        subst (λ m. AreAll ids (idle_sender m) r.items) long (all.each (length rows) r (at_last rows r (length rows) refl)),
      )

  pub takers_less : (ids : List TableId) (n : ℕ) (s : QueueState P) (passes : List (QueuePass P)) (t : QueuePass P) → AreTakers ids n s (passes ++ t ∷ []) → AreTakers ids (n - 1) s passes × (get_elem? ids (n - 1) ≡ maybe.some (table_of t)) × (state t ≡ s)
  takers_less ids n s passes t all =
      let long : length passes + 1 ≡ n = sym (length-append passes (t ∷ [])) ∙ all.count in
      let place : length passes ≡ n - 1 = omega arith in
      let last = all.each (length passes) t (at_last passes t (length passes) refl) in (
        record { count = place; each = λ j y e. all.each j y (at_longer passes (t ∷ []) j y e) },
        ap (λ (k : ℕ). get_elem? ids k) (sym place) ∙ last.0,
        last.1,
      )

  pub takers_of : (ids : List TableId) (s : QueueState P) (passes : List (QueuePass P)) → AreAll ids s passes → AreTakers ids (length ids) s passes
  takers_of ids s passes all = record {
    count = sym (length-map passes table_of) ∙ ap (λ (l : List TableId). length l) all.tables;
    each = λ k t e. (
      ap (λ (l : List TableId). get_elem? l k) (sym all.tables) ∙ at_map table_of passes k t e,
      sym (replicate_at (length ids) k s (state t) (ap (λ (l : List (QueueState P)). get_elem? l k) (sym all.states) ∙ at_map state passes k t e)),
    );
  }

  -- the last row and the last taker, apart from those before
  pub record Last (ids : List TableId) (n m : ℕ) (rows : List (Vec (QueuePass P))) (senders : List (QueuePass P)) (takers : List (QueuePass P)) (t : QueuePass P) : Type 0 where
    pub rows_left : AreRows ids (n - 1) rows
    pub takers_left : AreTakers ids (n - 1) (idle_taker (m + 1)) takers
    pub tables : map table_of senders ≡ ids
    pub long : length senders ≡ m
    pub idle : AreAll (map table_of senders) (idle_sender n) senders
    pub reader : state t ≡ idle_taker (length senders + 1)
    pub own : get_elem? (map table_of senders) (n - 1) ≡ maybe.some (table_of t)

  pub last_of : (ids : List TableId) (n m : ℕ) (rows rows' : List (Vec (QueuePass P))) (senders : Vec (QueuePass P)) (takers takers' : List (QueuePass P)) (t : QueuePass P) → length ids ≡ m → AreRows ids n rows → AreTakers ids n (idle_taker (m + 1)) takers
      → rows ≡ rows' ++ senders ∷ [] → takers ≡ takers' ++ t ∷ [] → Last ids n m rows' senders.items takers' t
  last_of ids n m rows rows' senders takers takers' t size a b r_is t_is =
      let x = rows_less ids n rows' senders (subst (λ l. AreRows ids n l) r_is a) in
      let y = takers_less ids n (idle_taker (m + 1)) takers' t (subst (λ l. AreTakers ids n (idle_taker (m + 1)) l) t_is b) in
      let long : length senders.items ≡ m = sym (length-map senders.items table_of) ∙ ap (λ (l : List TableId). length l) x.1.tables ∙ size in record {
        rows_left = x.0;
        takers_left = y.0;
        tables = x.1.tables;
        long = long;
        idle = subst (λ l. AreAll l (idle_sender n) senders.items) (sym x.1.tables) x.1;
        reader = y.2 ∙ ap (λ k. idle_taker (k + 1)) (sym long);
        own = ap (λ (l : List TableId). get_elem? l (n - 1)) x.1.tables ∙ y.1;
      }

  pub takers_read : (ids ids' : List TableId) (n m : ℕ) (passes : List (QueuePass P)) → AreAll ids (idle_taker (m + 1)) passes → ids ≡ ids' → length ids ≡ n → m ≡ n → AreTakers ids' n (idle_taker (n + 1)) passes
  takers_read ids ids' n m passes all same size sized = subst (λ (y : List TableId × ℕ). AreTakers y.0 n (idle_taker (y.1 + 1)) passes) (λ i. (same i, sized i)) (subst (λ k. AreTakers ids k (idle_taker (m + 1)) passes) size (takers_of ids (idle_taker (m + 1)) passes all))
