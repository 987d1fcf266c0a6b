-- The passes of the nodes, as they are made.
use Rattle.std.proofs.Common.{◌≡◌, ℕ, zero, suc, ◌+◌, ◌-◌, ◌<◌, ◌≤◌, List, [], ◌∷◌, ◌++◌, length, map, replicate, refl, sym, ap, ◌∙◌, subst, arith, append_assoc}
use Rattle.std.proofs.lemmas.List.{length-map, map-append, reverse-append}
use Rattle.std.specs.Prelude.{reverse}
use mathlib.Core.Option as maybe
use lib.ListN.{get_elem?}
use Rattle.atomic_table.specs.Seated.{TableId}
use Rattle.crossbeam_queue.specs.Passes.{view}
use Rattle.yard_model.specs.Words.{numbers}
use Rattle.post_box.specs.declared.queue.Envelope.{Envelope}
use Rattle.post_box.specs.declared.queue.View.{View}
use Rattle.post_box.specs.Holding.{QueuePass, QueueState, Holder, holder, new_holder, dealt, IsHolder, state, posting, taking, table_of, posted_by, taken_by}
use Rattle.post_box.specs.Rule.{taker, sender}
use Rattle.post_box.specs.Making.{idle_taker, idle_sender, AreAll, dealt_down, down}
use Rattle.post_box.proofs.Places.{map_replicate, map_map}

numbers_last : (a n b : ℕ) → b ≡ a + n → numbers a (suc n) ≡ numbers a n ++ b ∷ []
numbers_last a zero b e = ap (λ k. k ∷ []) (let same : a ≡ b = omega arith in same)
numbers_last a (suc n) b e = ap (λ l. a ∷ l) (numbers_last (a + 1) n b (omega arith))

down_split : (n : ℕ) → 0 < n → down n ≡ n ∷ down (n - 1)
down_split zero h = absurd (omega arith)
down_split (suc n) h = ap (λ (k : ℕ). suc n ∷ down k) (let e : n ≡ suc n - 1 = omega arith in e)

pub popped : {A : Type 0} (old new : List A) (x : A) → old ≡ new ++ x ∷ [] → reverse old ≡ x ∷ reverse new
popped old new x e = ap reverse e ∙ reverse-append new (x ∷ [])

module _ {P : Type 0} where
  rising : (ids : List TableId) (n : ℕ) → reverse (dealt_down {P = P} ids n) ≡ map (new_holder ids) (numbers 1 n)
  rising ids zero = refl
  rising ids (suc n) =
      reverse-append (new_holder ids (suc n) ∷ []) (dealt_down ids n)
      ∙ ap (λ l. l ++ new_holder ids (suc n) ∷ []) (rising ids n)
      ∙ sym (map-append (new_holder ids) (numbers 1 n) (suc n ∷ []))
      ∙ ap (map (new_holder ids)) (sym (numbers_last 1 n (suc n) (omega arith)))

  -- by rising node
  pub in_order : (ids : List TableId) (n : ℕ) (left : List (Holder P)) → left ≡ dealt_down ids n → n ≡ length ids → reverse left ≡ dealt ids
  in_order ids n left is all = ap reverse is ∙ rising ids n ∙ ap (λ k. map (new_holder ids) (numbers 1 k)) all

  -- one pass more
  pub dealt_more : (ids : List TableId) (n : ℕ) (passes passes' : List (Holder P)) (x : Holder P) (end : List (Holder P)) → 0 < n → passes ++ dealt_down ids n ≡ end → passes' ≡ passes ++ x ∷ [] → x ≡ new_holder ids n → passes' ++ dealt_down ids (n - 1) ≡ end
  dealt_more ids n passes passes' x end some before pushed is =
      ap (λ l. l ++ dealt_down ids (n - 1)) pushed
      ∙ append_assoc passes (x ∷ []) (dealt_down ids (n - 1))
      ∙ ap (λ (y : Holder P). passes ++ y ∷ dealt_down ids (n - 1)) is
      ∙ ap (λ (l : List ℕ). passes ++ map (new_holder ids) l) (sym (down_split n some))
      ∙ before

  posted_none : (node : ℕ) (senders : List (QueuePass P)) → AreAll (map table_of senders) (idle_sender node) senders → map posted_by senders ≡ replicate (length (map table_of senders)) []
  posted_none node senders all =
      sym (map_map (λ (s : QueueState P). s.0.posted) state senders)
      ∙ ap (map (λ (s : QueueState P). s.0.posted)) all.states
      ∙ map_replicate (λ (s : QueueState P). s.0.posted) (length (map table_of senders)) (idle_sender node)

  pub new_is : (node : ℕ) (senders : List (QueuePass P)) (reader : QueuePass P) → AreAll (map table_of senders) (idle_sender node) senders → state reader ≡ idle_taker (length senders + 1) → holder (map table_of senders) node (map posted_by senders) (taken_by reader) ≡ new_holder (map table_of senders) node
  new_is node senders reader all is =
      ap (λ l. holder (map table_of senders) node l (taken_by reader)) (posted_none node senders all)
      ∙ ap (λ (s : QueueState P). holder (map table_of senders) node (replicate (length (map table_of senders)) []) s.0.taken) is

  pub new_stands : (node : ℕ) (senders : List (QueuePass P)) (reader : QueuePass P) → 0 < node → node ≤ length senders → AreAll (map table_of senders) (idle_sender node) senders → state reader ≡ idle_taker (length senders + 1)
      → get_elem? (map table_of senders) (node - 1) ≡ maybe.some (table_of reader) → IsHolder node senders reader
  new_stands node senders reader some within all is home = record {
    some = some;
    within = within;
    posts =
        all.states
        ∙ sym (map_replicate (λ (l : List P). (sender node l, [])) (length (map table_of senders)) [])
        ∙ ap (map (λ (l : List P). (sender node l, []))) (sym (posted_none node senders all))
        ∙ map_map (λ (l : List P). (sender node l, [])) posted_by senders;
    takes = is ∙ ap (λ (s : QueueState P). (taker (length senders + 1) s.0.taken, [])) (sym is);
    own = home;
  }
