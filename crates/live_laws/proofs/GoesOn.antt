-- Lawful lists whose queues go on from those of worked ones are worked.
use Rattle.std.proofs.Common.{◌≡◌, ◌<◌, ◌≤◌, ℕ, zero, suc, ◌+◌, sym, ap, ◌∙◌, subst, arith, refl}
use Rattle.std.specs.Prelude.{Bool, true, false, ◌==◌, ◌&&◌, ◌||◌, nat_lt, not, List, [], ◌∷◌, ◌++◌, length, fold}
use Rattle.std.specs.List.{list_all}
use Rattle.std.proofs.lemmas.List.{append-nil, append_assoc}
use Rattle.std.proofs.lemmas.List.Sums.{fold-append}
use Rattle.plain_laws.proofs.Booleans.{and_both, both, below, not_below, same_number, number_itself}
use Rattle.yard_model.specs.declared.fact.Fact.{Fact}
use Rattle.yard_model.specs.declared.fact.Fact.TheVariants as fact
use Rattle.yard_model.specs.declared.incarnation.Slot.TheVariants as slot
use Rattle.yard_model.specs.Follow.{each_follows}
use Rattle.yard_model.specs.Lawful.{own, lawful}
use Rattle.yard_model.specs.Script.{Script, sends}
use Rattle.yard_model.specs.SlotLists.{SlotLists, queue_list}
use Rattle.yard_model.specs.SlotReads.{queued_in_all, queued_in_all_step}
use Rattle.yard_model.specs.Words.{numbers}
use Rattle.yard_model.specs.Workers.{is_steady, is_queued_by, is_all_queued, worked}
use Rattle.yard_laws.specs.Guarded.{Owns}
use Rattle.yard_laws.proofs.SafetyLaws.{owns_of}
use Rattle.shard_lease.specs.Meaning.{Begins}
use Rattle.live_laws.specs.Live.{WorkedGoesOn}
use Rattle.live_laws.proofs.Closes.{all_numbers}
use Rattle.live_laws.proofs.Steadies.{fold_more, queued_grows, queued_within}

follows_join : {A : Type 0} (may : List A → A → Bool) (before xs ys : List A) → each_follows may before xs ≡ true → each_follows may (before ++ xs) ys ≡ true → each_follows may before (xs ++ ys) ≡ true
follows_join may before [] ys e f = subst (λ l. each_follows may l ys ≡ true) (append-nil before) f
follows_join may before (x ∷ xs) ys e f =
    let m : (may before x ≡ true) × (each_follows may (before ++ x ∷ []) xs ≡ true) = and_both (may before x) (each_follows may (before ++ x ∷ []) xs) e in
    both (may before x) (each_follows may (before ++ x ∷ []) (xs ++ ys)) m.0
    (follows_join may (before ++ x ∷ []) xs ys m.1 (subst (λ l. each_follows may l ys ≡ true) (sym (append_assoc before (x ∷ []) xs)) f))

-- one of the numbers from a on
of_numbers : (q : ℕ → Bool) (a n i : ℕ) → list_all q (numbers a n) ≡ true → a ≤ i → i < a + n → q i ≡ true
of_numbers q a zero i all low high = absurd (omega arith)
of_numbers q a (suc n) i all low high =
    let t : (q a ≡ true) × (list_all q (numbers (a + 1) n) ≡ true) = and_both (q a) (list_all q (numbers (a + 1) n)) all in
    by t.0 (nat_lt a i) refl (λ up. of_numbers q (a + 1) n i t.1 (omega (arith, up)) (omega arith))
  where
    by : q a ≡ true → (b : Bool) → nat_lt a i ≡ b → (a < i → q i ≡ true) → q i ≡ true
    by here true e rest = rest (below a i e)
    by here false e rest = let back : i ≤ a = not_below a i e in let same : a ≡ i = omega arith in subst (λ k. q k ≡ true) same here

-- Where no more is queued, the rest of a list queues nothing.

abbrev is_not_queued : Fact → Bool
is_not_queued (fact.Queued p e n k) = false
is_not_queued f = true

none_queued : (k : ℕ) (fs : List Fact) → fold queued_in_all_step k fs ≤ k → list_all is_not_queued fs ≡ true
none_queued k [] h = refl
none_queued k (fact.Queued p e n c ∷ fs) h = let more : k + 1 ≤ fold queued_in_all_step (k + 1) fs = fold_more (k + 1) fs in absurd (omega arith)
none_queued k (f ∷ fs) h = none_queued k fs h

by_rest : (n : ℕ) (before rest : List Fact) → list_all is_not_queued rest ≡ true → each_follows (is_queued_by n) before rest ≡ true
by_rest n before [] h = refl
by_rest n before (fact.Queued p e m k ∷ fs) h = cc
by_rest n before (f ∷ fs) h = by_rest n (before ++ f ∷ []) fs h

module _ (c : Script) (turns : ℕ) (old new : SlotLists) (lawful_is : lawful c new ≡ true) (begins : (p : ℕ) → Begins (queue_list old p) (queue_list new p)) where
  all_queued : (p n : ℕ) → 0 < p → is_all_queued c old p n ≡ true → is_all_queued c new p n ≡ true
  all_queued p n some h =
      let xs : List Fact = queue_list old p in
      let ys : List Fact = queue_list new p in
      let b : Begins xs ys = begins p in
      let t : ((queued_in_all xs == length (sends c p)) ≡ true) × (each_follows (is_queued_by n) [] xs ≡ true) = and_both (queued_in_all xs == length (sends c p)) (each_follows (is_queued_by n) [] xs) h in
      let count : queued_in_all xs ≡ length (sends c p) = same_number (queued_in_all xs) (length (sends c p)) t.0 in
      let own_is : own c (slot.Queue p) ys ≡ true = (owns_of c new lawful_is).0.queue p some in
      let high : queued_in_all ys ≤ length (sends c p) = queued_within c p ys own_is in
      let low : queued_in_all xs ≤ queued_in_all ys = queued_grows xs ys b in
      let split : queued_in_all ys ≡ fold queued_in_all_step (queued_in_all xs) b.rest = ap queued_in_all b.is ∙ fold-append queued_in_all_step 0 xs b.rest in
      let none : list_all is_not_queued b.rest ≡ true = none_queued (queued_in_all xs) b.rest (omega arith) in
      both (queued_in_all ys == length (sends c p)) (each_follows (is_queued_by n) [] ys) (number_itself (queued_in_all ys) (length (sends c p)) (omega arith))
      (subst (λ l. each_follows (is_queued_by n) [] l ≡ true) (sym b.is) (follows_join (is_queued_by n) [] xs b.rest t.1 (by_rest n xs b.rest none)))

  one : (p n : ℕ) → 0 < p → (not (is_steady c turns p n) || is_all_queued c old p n) ≡ true → (not (is_steady c turns p n) || is_all_queued c new p n) ≡ true
  one p n some h = by (is_steady c turns p n) h
    where
      by : (b : Bool) → (not b || is_all_queued c old p n) ≡ true → (not b || is_all_queued c new p n) ≡ true
      by true g = all_queued p n some g
      by false g = refl

abbrev is_worked : Script → ℕ → SlotLists → ℕ → ℕ → Bool
is_worked c turns lists p n = not (is_steady c turns p n) || is_all_queued c lists p n

abbrev are_worked : Script → ℕ → SlotLists → ℕ → Bool
are_worked c turns lists p = list_all (is_worked c turns lists p) (numbers 1 c.config.nodes)

pub worked_goes_on : WorkedGoesOn
worked_goes_on c turns old new lawful_is begins h =
    all_numbers (are_worked c turns new) 1 c.config.producers (λ p low high.
    let here : are_worked c turns old p ≡ true = of_numbers (are_worked c turns old) 1 c.config.producers p h low high in
    all_numbers (is_worked c turns new p) 1 c.config.nodes (λ n lown highn.
    one c turns old new lawful_is begins p n (omega arith) (of_numbers (is_worked c turns old p) 1 c.config.nodes n here lown highn)))
