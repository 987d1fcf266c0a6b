-- What a post and a take make of a node's pass.
use Rattle.std.proofs.Common.{◌≡◌, ℕ, zero, suc, ◌+◌, ◌-◌, ◌<◌, ◌≤◌, List, [], ◌∷◌, ◌++◌, length, get_or, map, refl, sym, ap, ◌∙◌, subst, arith, length-set}
use Rattle.std.specs.Prelude.{slice_set, slice_index_or, Result, Ok, Err, MatchResult, Option, None, Some, MatchOption}
use Rattle.std.proofs.lemmas.List.{length-map, map-set}
use Rattle.std.proofs.Math.Seq.{map-set_same}
use mathlib.Core.Option as maybe
use lib.ListN.{get_elem?}
use Rattle.atomic_table.specs.Seated.{TableId}
use Rattle.crossbeam_queue.specs.Fifo.{Held}
use Rattle.crossbeam_queue.specs.Passes.{view}
use Rattle.post_box.specs.declared.queue.Envelope.{Envelope}
use Rattle.post_box.specs.declared.queue.View.{View}
use Rattle.post_box.specs.Holding.{QueuePass, QueueState, Holder, holder, with_posted, with_taken, posted_to, WasHolding, WasEmpty, IsHolder, At, state, posting, taking, table_of, posted_by, taken_by}
use Rattle.post_box.specs.Rule.{taker, sender, envelope, parcels_of, Stands}
use Rattle.post_box.proofs.Places.{got, at_map, same_at, same_set}

module _ {P : Type 0} where
  abbrev pub shown : ℕ → List (QueuePass P) → QueuePass P → Holder P
  shown node senders reader = holder (map table_of senders) node (map posted_by senders) (taken_by reader)

  -- two states that are alike in both parts
  pub state_is : (s : QueuePass P) (v : View P) → view s ≡ v → s.me.1 ≡ [] → state s ≡ (v, [])
  state_is s v a b i = (a i, b i)

  -- the sender at a place belongs to the queue of that place
  pub may_post : (ids : List TableId) (node k : ℕ) (senders : List (QueuePass P)) (reader : QueuePass P) (id : TableId) → IsHolder node senders reader → map table_of senders ≡ ids → get_elem? ids k ≡ maybe.some id → (s : QueuePass P) → get_elem? senders k ≡ maybe.some s
      → (table_of s ≡ id) × (state s ≡ posting node s)
  may_post ids node k senders reader id h same home s here = (
    maybe.some-injective (table_of s) id (sym (at_map table_of senders k s here) ∙ ap (λ (l : List TableId). get_elem? l k) same ∙ home),
    same_at state (posting node) senders h.posts k s here,
  )

  -- a pass in whose place another stands, of the same table
  tables_same : (senders : List (QueuePass P)) (k : ℕ) (s t : QueuePass P) → get_elem? senders k ≡ maybe.some s → table_of t ≡ table_of s → map table_of (slice_set senders k t) ≡ map table_of senders
  tables_same senders k s t here same = map-set_same table_of senders k t s (same ∙ ap table_of (sym (got senders k s s here)))

  -- whatever the step, the passes stay those of their queues
  pub tables_kept : {Step : QueuePass P → QueuePass P → Type 0} (before now : List (QueuePass P)) (k : ℕ) → At before now k Step → map table_of now ≡ map table_of before
  tables_kept before now k at = ap (map table_of) at.is ∙ tables_same before k at.old at.new at.there at.table

  pub stands_again : (node k : ℕ) (senders : List (QueuePass P)) (reader s t : QueuePass P) → IsHolder node senders reader → get_elem? senders k ≡ maybe.some s → table_of t ≡ table_of s → state t ≡ posting node t → IsHolder node (slice_set senders k t) reader
  stands_again node k senders reader s t h here same is = record {
    some = h.some;
    within = let e : length (slice_set senders k t) ≡ length senders = length-set senders k t in let w : node ≤ length senders = h.within in omega arith;
    posts = same_set state (posting node) senders k t h.posts is;
    takes = h.takes ∙ ap (λ n. taking n reader) (sym (length-set senders k t));
    own = ap (λ (l : List TableId). get_elem? l (node - 1)) (tables_same senders k s t here same) ∙ h.own;
  }

  shown_again : (node k : ℕ) (senders : List (QueuePass P)) (reader s t : QueuePass P) → get_elem? senders k ≡ maybe.some s → table_of t ≡ table_of s → shown node (slice_set senders k t) reader ≡ holder (map table_of senders) node (slice_set (map posted_by senders) k (posted_by t)) (taken_by reader)
  shown_again node k senders reader s t here same =
      ap (λ l. holder l node (map posted_by (slice_set senders k t)) (taken_by reader)) (tables_same senders k s t here same)
      ∙ ap (λ l. holder (map table_of senders) node l (taken_by reader)) (map-set posted_by senders k t)

  alone : (node : ℕ) (t : QueuePass P) (l : List P) → state t ≡ (sender node l, []) → state t ≡ posting node t
  alone node t l e = e ∙ ap (λ (q : QueueState P). (sender node q.0.posted, [])) (sym e)

  -- what a post at a place told of the pass there
  abbrev pub Pushed : {U : Type 0} → ℕ → ℕ → P → Result U P → QueuePass P → QueuePass P → Type 0
  Pushed n from parcel r s t = MatchResult r (λ _. state t ≡ (sender from (posted_by s ++ parcel ∷ []), [])) (λ x. (x ≡ parcel) × (state t ≡ state s) × Held n (Stands (view s)))

  pub pushed : {U : Type 0} (xs : List (QueuePass P)) (k n from : ℕ) (s t : QueuePass P) (parcel : P) (r : Result U P) → get_elem? xs k ≡ maybe.some s → table_of t ≡ table_of s → t.me.1 ≡ s.me.1 → s.me.1 ≡ []
      → MatchResult r (λ _. view t ≡ sender from ((view s).posted ++ parcel ∷ [])) (λ x. (x ≡ parcel) × (view t ≡ view s) × Held n (Stands (view s))) → At xs (slice_set xs k t) k (Pushed n from parcel r)
  pushed {U} xs k n from s t parcel r here same out none told = record { old = s; new = t; there = here; is = refl; table = same; step = by_answer r told }
    where
      by_answer : (q : Result U P) → MatchResult q (λ _. view t ≡ sender from ((view s).posted ++ parcel ∷ [])) (λ x. (x ≡ parcel) × (view t ≡ view s) × Held n (Stands (view s))) → Pushed n from parcel q s t
      by_answer (Ok u) e = state_is t (sender from (posted_by s ++ parcel ∷ [])) e (out ∙ none)
      by_answer (Err x) e = (e.0, state_is t (view s) e.1 (out ∙ none) ∙ sym (state_is s (view s) refl none), e.2)

  pub posted_stands : {U : Type 0} (node n k : ℕ) (senders senders' : List (QueuePass P)) (reader : QueuePass P) (parcel : P) (r : Result U P) → IsHolder node senders reader → At senders senders' k (Pushed n node parcel r) → IsHolder node senders' reader
  posted_stands {U} node n k senders senders' reader parcel r h at = subst (λ l. IsHolder node l reader) (sym at.is) (stands_again node k senders reader at.old at.new h at.there at.table (by_answer r at.step))
    where
      by_answer : (q : Result U P) → Pushed n node parcel q at.old at.new → state at.new ≡ posting node at.new
      by_answer (Ok u) e = alone node at.new (posted_by at.old ++ parcel ∷ []) e
      by_answer (Err x) e = alone node at.new (posted_by at.old) (e.1 ∙ same_at state (posting node) senders h.posts k at.old at.there)

  pub posted_shows : {U : Type 0} (node n to : ℕ) (senders senders' : List (QueuePass P)) (reader : QueuePass P) (parcel : P) (r : Result U P) → IsHolder node senders reader → At senders senders' (to - 1) (Pushed n node parcel r)
      → MatchResult r (λ _. shown node senders' reader ≡ with_posted (shown node senders reader) to parcel) (λ x. (x ≡ parcel) × (shown node senders' reader ≡ shown node senders reader) × WasHolding n (shown node senders reader) to)
  posted_shows {U} node n to senders senders' reader parcel r h at = by_answer r at.step
    where
      k : ℕ
      k = to - 1

      here : posted_to (shown node senders reader) to ≡ posted_by at.old
      here = got (map posted_by senders) k (posted_by at.old) [] (at_map posted_by senders k at.old at.there)

      known : view at.old ≡ sender node (posted_to (shown node senders reader) to)
      known = ap (λ (q : QueueState P). q.0) (same_at state (posting node) senders h.posts k at.old at.there) ∙ ap (sender node) (sym here)

      again : shown node senders' reader ≡ holder (map table_of senders) node (slice_set (map posted_by senders) k (posted_by at.new)) (taken_by reader)
      again = ap (λ l. shown node l reader) at.is ∙ shown_again node k senders reader at.old at.new at.there at.table

      by_answer : (q : Result U P) → Pushed n node parcel q at.old at.new
          → MatchResult q (λ _. shown node senders' reader ≡ with_posted (shown node senders reader) to parcel) (λ x. (x ≡ parcel) × (shown node senders' reader ≡ shown node senders reader) × WasHolding n (shown node senders reader) to)
      by_answer (Ok u) e = again ∙ ap (λ l. holder (map table_of senders) node (slice_set (map posted_by senders) k l) (taken_by reader)) (ap (λ (q : QueueState P). q.0.posted) e ∙ ap (λ l. l ++ parcel ∷ []) (sym here))
      by_answer (Err x) e = (
        e.0,
        again
            ∙ ap (λ l. holder (map table_of senders) node l (taken_by reader))
            (sym (map-set posted_by senders k at.new) ∙ map-set_same posted_by senders k at.new at.old (ap (λ (q : QueueState P). q.0.posted) e.1 ∙ ap posted_by (sym (got senders k at.old at.old at.there)))),
        subst (λ v. Held n (Stands v)) known e.2,
      )

  -- what a look at a place told of the pass there
  abbrev pub Counted : ℕ → QueuePass P → QueuePass P → Type 0
  Counted n s t = (state t ≡ state s) × Held n (Stands (view s))

  pub counted : (xs : List (QueuePass P)) (k n : ℕ) (s t : QueuePass P) → get_elem? xs k ≡ maybe.some s → table_of t ≡ table_of s → t.me.1 ≡ s.me.1 → s.me.1 ≡ [] → view t ≡ view s → Held n (Stands (view s)) → At xs (slice_set xs k t) k (Counted n)
  counted xs k n s t here same out none seen told = record { old = s; new = t; there = here; is = refl; table = same; step = (state_is t (view s) seen (out ∙ none) ∙ sym (state_is s (view s) refl none), told) }

  pub counted_stands : (node n k : ℕ) (senders senders' : List (QueuePass P)) (reader : QueuePass P) → IsHolder node senders reader → At senders senders' k (Counted n) → IsHolder node senders' reader
  counted_stands node n k senders senders' reader h at =
      subst (λ l. IsHolder node l reader) (sym at.is) (stands_again node k senders reader at.old at.new h at.there at.table (alone node at.new (posted_by at.old) (at.step.0 ∙ same_at state (posting node) senders h.posts k at.old at.there)))

  counted_shows : (node n to : ℕ) (senders senders' : List (QueuePass P)) (reader : QueuePass P) → IsHolder node senders reader → At senders senders' (to - 1) (Counted n)
      → (shown node senders' reader ≡ shown node senders reader) × WasHolding n (shown node senders reader) to
  counted_shows node n to senders senders' reader h at = (
    again
        ∙ ap (λ l. holder (map table_of senders) node l (taken_by reader))
        (sym (map-set posted_by senders k at.new) ∙ map-set_same posted_by senders k at.new at.old (ap (λ (q : QueueState P). q.0.posted) at.step.0 ∙ ap posted_by (sym (got senders k at.old at.old at.there)))),
    subst (λ v. Held n (Stands v)) known at.step.1,
  )
    where
      k : ℕ
      k = to - 1

      here : posted_to (shown node senders reader) to ≡ posted_by at.old
      here = got (map posted_by senders) k (posted_by at.old) [] (at_map posted_by senders k at.old at.there)

      known : view at.old ≡ sender node (posted_to (shown node senders reader) to)
      known = ap (λ (q : QueueState P). q.0) (same_at state (posting node) senders h.posts k at.old at.there) ∙ ap (sender node) (sym here)

      again : shown node senders' reader ≡ holder (map table_of senders) node (slice_set (map posted_by senders) k (posted_by at.new)) (taken_by reader)
      again = ap (λ l. shown node l reader) at.is ∙ shown_again node k senders reader at.old at.new at.there at.table

  pub counted_told : (node n to k : ℕ) (senders senders' : List (QueuePass P)) (reader : QueuePass P) (h : Holder P) → IsHolder node senders reader → shown node senders reader ≡ h → k ≡ to - 1 → At senders senders' k (Counted n)
      → (shown node senders' reader ≡ h) × WasHolding n h to
  counted_told node n to k senders senders' reader h stands is place at =
      subst (λ (y : Holder P). (shown node senders' reader ≡ y) × WasHolding n y to) is (counted_shows node n to senders senders' reader stands (subst (λ j. At senders senders' j (Counted n)) place at))

  -- the pass that takes belongs to the queue of the node
  pub may_take : (ids : List TableId) (node : ℕ) (senders : List (QueuePass P)) (reader : QueuePass P) (id : TableId) → IsHolder node senders reader → map table_of senders ≡ ids → get_elem? ids (node - 1) ≡ maybe.some id
      → (table_of reader ≡ id) × (reader.me.1 ≡ []) × (view reader ≡ taker (view reader).next (taken_by reader)) × (view reader ≡ taker (length (map table_of senders) + 1) (taken_by reader))
  may_take ids node senders reader id h same home =
      let v : view reader ≡ taker (length senders + 1) (taken_by reader) = ap (λ (q : QueueState P). q.0) h.takes in (
        maybe.some-injective (table_of reader) id (sym h.own ∙ ap (λ (l : List TableId). get_elem? l (node - 1)) same ∙ home),
        ap (λ (q : QueueState P). q.1) h.takes,
        v ∙ ap (λ n. taker n (taken_by reader)) (sym (ap (λ (w : View P). w.next) v)),
        v ∙ ap (λ n. taker (n + 1) (taken_by reader)) (sym (length-map senders table_of)),
      )

  -- what a take told of the pass
  abbrev pub Popped : Option P → QueuePass P → QueuePass P → Type 0
  Popped r s t = MatchOption r ((view t ≡ view s) × Held 0 (Stands (view s))) (λ x. (from : ℕ) × (view t ≡ taker (view s).next ((view s).taken ++ envelope from x ∷ [])))

  taken_view : (r : Option P) (s t : QueuePass P) → view s ≡ taker (view s).next (taken_by s) → Popped r s t → view t ≡ taker (view s).next (taken_by t)
  taken_view None s t is e = e.0 ∙ is ∙ ap (λ (v : View P). taker (view s).next v.taken) (sym e.0)
  taken_view (Some x) s t is e = e.1 ∙ ap (λ (v : View P). taker (view s).next v.taken) (sym e.1)

  -- what the pass that takes knows
  reads : (node : ℕ) (senders : List (QueuePass P)) (reader : QueuePass P) → IsHolder node senders reader → view reader ≡ taker (view reader).next (taken_by reader)
  reads node senders reader h = let v : view reader ≡ taker (length senders + 1) (taken_by reader) = ap (λ (q : QueueState P). q.0) h.takes in v ∙ ap (λ n. taker n (taken_by reader)) (sym (ap (λ (w : View P). w.next) v))

  pub taken_stands : (node : ℕ) (senders : List (QueuePass P)) (reader reader' : QueuePass P) (r : Option P) → IsHolder node senders reader → table_of reader' ≡ table_of reader → reader'.me.1 ≡ reader.me.1 → Popped r reader reader' → IsHolder node senders reader'
  taken_stands node senders reader reader' r h same out told = record {
    some = h.some;
    within = h.within;
    posts = h.posts;
    takes = state_is reader' (taker (length senders + 1) (taken_by reader')) (taken_view r reader reader' (reads node senders reader h) told ∙ ap (λ n. taker n (taken_by reader')) (ap (λ (q : QueueState P). q.0.next) h.takes)) (out ∙ ap (λ (q : QueueState P). q.1) h.takes);
    own = h.own ∙ ap (λ z. maybe.some z) (sym same);
  }

  pub taken_told : (node : ℕ) (senders : List (QueuePass P)) (reader reader' : QueuePass P) (r : Option P) (h : Holder P) → IsHolder node senders reader → shown node senders reader ≡ h → Popped r reader reader'
      → MatchOption r ((shown node senders reader' ≡ h) × WasEmpty h) (λ x. (from : ℕ) × (shown node senders reader' ≡ with_taken h (envelope from x)))
  taken_told node senders reader reader' r h stands is told = subst (λ y. MatchOption r ((shown node senders reader' ≡ y) × WasEmpty y) (λ x. (from : ℕ) × (shown node senders reader' ≡ with_taken y (envelope from x)))) is (by_answer r told)
    where
      again : (v : View P) → view reader' ≡ v → shown node senders reader' ≡ holder (map table_of senders) node (map posted_by senders) v.taken
      again v e = ap (λ (w : View P). holder (map table_of senders) node (map posted_by senders) w.taken) e

      by_answer : (q : Option P) → Popped q reader reader'
          → MatchOption q ((shown node senders reader' ≡ shown node senders reader) × WasEmpty (shown node senders reader)) (λ x. (from : ℕ) × (shown node senders reader' ≡ with_taken (shown node senders reader) (envelope from x)))
      by_answer None e = (
        again (view reader) e.0,
        subst (λ v. Held 0 (Stands v)) (ap (λ (s : QueueState P). s.0) stands.takes ∙ ap (λ n. taker (n + 1) (taken_by reader)) (sym (length-map senders table_of))) e.1,
      )
      by_answer (Some x) e = (e.0, again (taker (view reader).next (taken_by reader ++ envelope e.0 x ∷ [])) e.1)

  -- what a sender that is done with knows
  pub sends : (node : ℕ) (s : QueuePass P) → state s ≡ posting node s → view s ≡ sender (view s).from (view s).posted
  sends node s e = let v : view s ≡ sender node (posted_by s) = ap (λ (q : QueueState P). q.0) e in v ∙ ap (λ n. sender n (posted_by s)) (sym (ap (λ (w : View P). w.from) v))

  pub ordered : (node node' : ℕ) (senders senders' : List (QueuePass P)) (reader reader' s : QueuePass P) (items : List (Envelope P)) (h h' : Holder P) → shown node senders reader ≡ h → shown node' senders' reader' ≡ h' → get_elem? senders' (node - 1) ≡ maybe.some s → state s ≡ posting node' s
      → (view s).posted ≡ parcels_of (view s).from (view reader).taken ++ parcels_of (view s).from items → posted_to h' h.node ≡ parcels_of h'.node h.taken ++ parcels_of (view s).from items
  ordered node node' senders senders' reader reader' s items h h' is is' here e told =
      subst (λ (y : Holder P × Holder P). posted_to y.1 y.0.node ≡ parcels_of y.1.node y.0.taken ++ parcels_of (view s).from items) (λ i. (is i, is' i))
      (got (map posted_by senders') (node - 1) (posted_by s) [] (at_map posted_by senders' (node - 1) s here) ∙ told ∙ ap (λ n. parcels_of n (taken_by reader) ++ parcels_of (view s).from items) (ap (λ (q : QueueState P). q.0.from) e))

  pub posted_told : {U : Type 0} (node n m to k : ℕ) (senders senders' : List (QueuePass P)) (reader : QueuePass P) (parcel : P) (r : Result U P) (h : Holder P) → IsHolder node senders reader → shown node senders reader ≡ h → k ≡ to - 1 → n ≡ m → At senders senders' k (Pushed n node parcel r)
      → MatchResult r (λ _. shown node senders' reader ≡ with_posted h to parcel) (λ x. (x ≡ parcel) × (shown node senders' reader ≡ h) × WasHolding m h to)
  posted_told node n m to k senders senders' reader parcel r h stands is place room at =
      subst (λ (y : Holder P × ℕ). MatchResult r (λ _. shown node senders' reader ≡ with_posted y.0 to parcel) (λ x. (x ≡ parcel) × (shown node senders' reader ≡ y.0) × WasHolding y.1 y.0 to)) (λ i. (is i, room i))
      (posted_shows node n to senders senders' reader parcel r stands (subst (λ j. At senders senders' j (Pushed n node parcel r)) place at))
