-- Each step keeps the rule of a box.
use Rattle.std.proofs.Common.{◌≡◌, ◌≢◌, ℕ, zero, suc, ◌+◌, ◌<◌, ⊎_elim, Bool, true, true≢false, List, [], ◌∷◌, ◌++◌, length, set, refl, sym, ap, ◌∙◌, subst, arith, eq-eqb, ne_eqb, append_assoc, append-nil, length-set}
use Rattle.std.specs.Prelude.{if◌then◌else◌, ◌==◌}
use mathlib.Core.Option as maybe
use lib.ListN.{get_elem?}
use Rattle.crossbeam_queue.specs.Fifo.{Pushes, Pops, Forks, Merges, Learns}
use Rattle.atomic_table.proofs.Lists.{at_set}
use Rattle.post_box.proofs.Places.{same_or_not, edit, edit_here, edit_else, at_snoc_place}
use Rattle.post_box.specs.declared.queue.Envelope.{Envelope}
use Rattle.post_box.specs.declared.queue.View.{View}
use Rattle.post_box.specs.Rule.{taker, sender, paired, spent, parcels_of, Knows, IsOrdered, Stands}

module _ {P : Type 0} where
  parcels-append : (p : ℕ) (xs ys : List (Envelope P)) → parcels_of p (xs ++ ys) ≡ parcels_of p xs ++ parcels_of p ys
  parcels-append p [] ys = refl
  parcels-append p (x ∷ xs) ys = ap (λ (l : List P). (if x.from == p then x.parcel ∷ [] else []) ++ l) (parcels-append p xs ys) ∙ sym (append_assoc (if x.from == p then x.parcel ∷ [] else []) (parcels_of p xs) (parcels_of p ys))

  parcels_mine : (x : Envelope P) → parcels_of x.from (x ∷ []) ≡ x.parcel ∷ []
  parcels_mine x = ap (λ (b : Bool). (if b then x.parcel ∷ [] else []) ++ []) (eq-eqb x.from x.from refl)

  parcels_other : (p : ℕ) (x : Envelope P) → p ≢ x.from → parcels_of p (x ∷ []) ≡ []
  parcels_other p x ne = ap (λ (b : Bool). (if b then x.parcel ∷ [] else []) ++ []) (ne_eqb x.from p (λ e. ne (sym e)))

  only : (v u : View P) (i : ℕ) → get_elem? (v ∷ []) i ≡ maybe.some u → (i ≡ 0) × (v ≡ u)
  only v u zero e = (refl, maybe.some-injective v u e)
  only v u (suc i) e = absurd (maybe.some-ne-none u (sym e))

  pub opens : IsOrdered [] (taker {P = P} 1 [] ∷ [])
  opens = record {
    pass_of = λ _. 0;
    sent = λ _. [];
    reader = 0;
    next = 1;
    got = [];
    all = λ p. refl;
    later = λ p h. refl;
    each = λ i u e. let t = only (taker 1 []) u i e in subst (λ (y : ℕ × View P). Knows (λ _. 0) (λ _. []) 0 1 [] y.0 y.1) (λ k. (sym t.0 k, t.1 k)) record { posting = λ p. absurd (true≢false (sym p)); taking = λ _. (refl, refl, refl) };
  }

  pub posts : (n pass from : ℕ) (v : View P) (parcel : P) → v ≡ sender from v.posted → Pushes IsOrdered n pass v record { from = from; parcel = parcel } (λ w. w ≡ sender v.from (v.posted ++ parcel ∷ []))
  posts n pass from v parcel is items views _ r here =
      let x : Envelope P = record { from = from; parcel = parcel } in let from_is : v.from ≡ from = ap (λ (u : View P). u.from) is in let w : View P = sender v.from (v.posted ++ parcel ∷ []) in
      let me = (r.each pass v here).posting (ap (λ (u : View P). u.posts) is) in let new : List P = v.posted ++ parcel ∷ [] in let sent' : ℕ → List P = edit r.sent v.from new in (
        w,
        record {
          pass_of = r.pass_of;
          sent = sent';
          reader = r.reader;
          next = r.next;
          got = r.got;
          all = λ p. let more : parcels_of p (r.got ++ (items ++ x ∷ [])) ≡ parcels_of p (r.got ++ items) ++ parcels_of p (x ∷ []) = ap (λ (l : List (Envelope P)). parcels_of p l) (sym (append_assoc r.got items (x ∷ []))) ∙ parcels-append p (r.got ++ items) (x ∷ []) in ⊎_elim
              (λ (e : p ≡ v.from). let px : p ≡ x.from = e ∙ from_is in ap sent' e ∙ edit_here r.sent v.from new ∙ ap (λ (l : List P). l ++ parcel ∷ []) (me.1 ∙ ap r.sent (sym e) ∙ r.all p)
              ∙ ap (λ (l : List P). parcels_of p (r.got ++ items) ++ l) (sym (ap (λ (q : ℕ). parcels_of q (x ∷ [])) px ∙ parcels_mine x)) ∙ sym more)
              (λ (ne : p ≢ v.from). edit_else r.sent v.from new p ne ∙ r.all p ∙ sym (more ∙ ap (λ (l : List P). parcels_of p (r.got ++ items) ++ l) (parcels_other p x (λ e. ne (e ∙ sym from_is))) ∙ append-nil (parcels_of p (r.got ++ items))))
              (same_or_not p v.from);
          later = λ p h. let lt : v.from < r.next = me.2 in edit_else r.sent v.from new p (λ e. omega arith) ∙ r.later p h;
          each = λ i u e. ⊎_elim
              (λ (t : (i ≡ pass) × (w ≡ u)). subst (λ (y : ℕ × View P). Knows r.pass_of sent' r.reader r.next r.got y.0 y.1) (λ k. (sym t.0 k, t.1 k)) record { posting = λ _. (me.0, sym (edit_here r.sent v.from new), me.2); taking = λ p. absurd (true≢false (sym p)) })
              (λ (t : (i ≢ pass) × (get_elem? views i ≡ maybe.some u)). let o = r.each i u t.1 in record {
                posting = λ p. let s = o.posting p in (s.0, s.1 ∙ sym (edit_else r.sent v.from new u.from (λ z. t.0 (sym s.0 ∙ ap r.pass_of z ∙ me.0))), s.2);
                taking = o.taking;
              })
              (at_set views pass i w u e);
        },
        refl,
      )

  pub takes : (pass : ℕ) (v : View P) → v ≡ taker v.next v.taken → Pops IsOrdered pass v (λ x w. w ≡ taker v.next (v.taken ++ x ∷ []))
  takes pass v is x items views r here =
      let me = (r.each pass v here).taking (ap (λ (u : View P). u.takes) is) in let w : View P = taker v.next (v.taken ++ x ∷ []) in (
        w,
        record {
          pass_of = r.pass_of;
          sent = r.sent;
          reader = r.reader;
          next = r.next;
          got = r.got ++ x ∷ [];
          all = λ p. r.all p ∙ ap (λ (l : List (Envelope P)). parcels_of p l) (sym (append_assoc r.got (x ∷ []) items));
          later = r.later;
          each = λ i u e. ⊎_elim
              (λ (t : (i ≡ pass) × (w ≡ u)). subst (λ (y : ℕ × View P). Knows r.pass_of r.sent r.reader r.next (r.got ++ x ∷ []) y.0 y.1) (λ k. (sym t.0 k, t.1 k))
              record { posting = λ p. absurd (true≢false (sym p)); taking = λ _. (me.0, ap (λ (l : List (Envelope P)). l ++ x ∷ []) me.1, me.2) })
              (λ (t : (i ≢ pass) × (get_elem? views i ≡ maybe.some u)). let o = r.each i u t.1 in record { posting = o.posting; taking = λ p. absurd (t.0 ((o.taking p).0 ∙ sym me.0)) })
              (at_set views pass i w u e);
        },
        refl,
      )

  pub senders : (pass : ℕ) (v : View P) → v ≡ taker v.next v.taken → Forks IsOrdered pass v (taker (v.next + 1) v.taken) (sender v.next [])
  senders pass v is items views r here =
      let me = (r.each pass v here).taking (ap (λ (u : View P). u.takes) is) in let l : View P = taker (v.next + 1) v.taken in let q : View P = sender v.next [] in let pass_of' : ℕ → ℕ = edit r.pass_of v.next (length views) in
      let made : v.next ≡ r.next = me.2 in record {
        pass_of = pass_of';
        sent = r.sent;
        reader = r.reader;
        next = r.next + 1;
        got = r.got;
        all = r.all;
        later = λ p h. r.later p (omega arith);
        each = λ i u e. ⊎_elim
            (λ (e' : get_elem? (set views pass l) i ≡ maybe.some u). ⊎_elim
            (λ (t : (i ≡ pass) × (l ≡ u)). subst (λ (y : ℕ × View P). Knows pass_of' r.sent r.reader (r.next + 1) r.got y.0 y.1) (λ k. (sym t.0 k, t.1 k))
            record { posting = λ p. absurd (true≢false (sym p)); taking = λ _. (me.0, me.1, ap (λ (n : ℕ). n + 1) made) })
            (λ (t : (i ≢ pass) × (get_elem? views i ≡ maybe.some u)). let o = r.each i u t.1 in record {
              posting = λ p. let s = o.posting p in let lt : u.from < r.next = s.2 in (edit_else r.pass_of v.next (length views) u.from (λ z. omega arith) ∙ s.0, s.1, omega arith);
              taking = λ p. absurd (t.0 ((o.taking p).0 ∙ sym me.0));
            })
            (at_set views pass i l u e'))
            (λ (t : (i ≡ length (set views pass l)) × (q ≡ u)). subst (λ (y : ℕ × View P). Knows pass_of' r.sent r.reader (r.next + 1) r.got y.0 y.1) (λ k. (sym t.0 k, t.1 k)) record {
              posting = λ _. (edit_here r.pass_of v.next (length views) ∙ sym (length-set views pass l), sym (ap r.sent made ∙ r.later r.next (omega arith)), omega arith);
              taking = λ p. absurd (true≢false (sym p));
            })
            (at_snoc_place (set views pass l) q u i e);
      }

  pub joins : (pass other : ℕ) (v w : View P) → v ≡ taker v.next v.taken → w ≡ sender w.from w.posted → Merges IsOrdered pass v other w (paired v w) spent
  joins pass other v w v_is w_is items views r here two there =
      let apart : (other ≢ pass) × (get_elem? views other ≡ maybe.some w) = ⊎_elim (λ t. absurd (two t.0)) (λ t. t) (at_set views pass other (paired v w) w there) in
      let me = (r.each pass v here).taking (ap (λ (u : View P). u.takes) v_is) in let theirs = (r.each other w apart.1).posting (ap (λ (u : View P). u.posts) w_is) in
      let pass_of' : ℕ → ℕ = edit r.pass_of w.from pass in record {
        pass_of = pass_of';
        sent = r.sent;
        reader = r.reader;
        next = r.next;
        got = r.got;
        all = r.all;
        later = r.later;
        each = λ i u e. ⊎_elim
            (λ (t : (i ≡ other) × (spent ≡ u)). subst (λ (y : View P). Knows pass_of' r.sent r.reader r.next r.got i y) t.1 record { posting = λ p. absurd (true≢false (sym p)); taking = λ p. absurd (true≢false (sym p)) })
            (λ (t : (i ≢ other) × (get_elem? (set views pass (paired v w)) i ≡ maybe.some u)). ⊎_elim
            (λ (s : (i ≡ pass) × (paired v w ≡ u)). subst (λ (y : ℕ × View P). Knows pass_of' r.sent r.reader r.next r.got y.0 y.1) (λ k. (sym s.0 k, s.1 k)) record { posting = λ _. (edit_here r.pass_of w.from pass, theirs.1, theirs.2); taking = λ _. me })
            (λ (s : (i ≢ pass) × (get_elem? views i ≡ maybe.some u)). let o = r.each i u s.1 in record {
              posting = λ p. let m = o.posting p in (edit_else r.pass_of w.from pass u.from (λ z. t.0 (sym m.0 ∙ ap r.pass_of z ∙ theirs.0)) ∙ m.0, m.1, m.2);
              taking = o.taking;
            })
            (at_set views pass i (paired v w) u t.1))
            (at_set (set views pass (paired v w)) other i spent u e);
      }

  pub matches : (pass : ℕ) (v : View P) → Learns IsOrdered pass v (λ items. v.posts ≡ true → v.takes ≡ true → v.posted ≡ parcels_of v.from v.taken ++ parcels_of v.from items)
  matches pass v items views r here a b =
      let k = r.each pass v here in
      (k.posting a).1 ∙ r.all v.from ∙ parcels-append v.from r.got items ∙ ap (λ (l : List (Envelope P)). parcels_of v.from l ++ parcels_of v.from items) (sym (k.taking b).1)

  pub stands : (pass : ℕ) (v : View P) → Learns IsOrdered pass v (Stands v)
  stands pass v items views r here = record { views = views; id = pass; rule = r; known = here }
