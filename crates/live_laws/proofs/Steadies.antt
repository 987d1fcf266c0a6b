-- What is steady is worked.
use Rattle.std.proofs.Common.{◌≡◌, ◌<◌, ◌≤◌, ℕ, zero, suc, sym, ap, ◌∙◌, refl, subst, arith, ◌*◌}
use Rattle.std.specs.Prelude.{Bool, true, false, ◌==◌, ◌&&◌, ◌||◌, nat_le, not, List, [], ◌∷◌, ◌++◌, length, map, fold, is_some, Option, Some, None, IfSome}
use Rattle.std.specs.List.{list_all, list_any, slice_get}
use Rattle.std.specs.Option.{option_map_or}
use Rattle.std.proofs.lemmas.List.Sums.{fold-append}
use Rattle.std.proofs.lemmas.List.Folds.{list_all-append}
use Rattle.plain_laws.proofs.Booleans.{and_both, both, within, same_number, number_itself}
use Rattle.yard_model.proofs.FollowLaws.{follows_more}
use Rattle.yard_laws.proofs.Owned.{queue_to}
use Rattle.yard_model.specs.declared.charter.Line.{Line}
use Rattle.yard_model.specs.declared.charter.Order.{Order}
use Rattle.yard_model.specs.declared.charter.Order.TheVariants as order
use Rattle.yard_model.specs.declared.fact.Fact.{Fact}
use Rattle.yard_model.specs.declared.fact.Fact.TheVariants as fact
use Rattle.yard_model.specs.declared.incarnation.Incarnation.{Incarnation}
use Rattle.yard_model.specs.declared.incarnation.Slot.TheVariants as slot
use Rattle.yard_model.specs.Behaviour.{is_in}
use Rattle.yard_model.specs.Equal.{is_sending}
use Rattle.yard_model.specs.Follow.{each_follows}
use Rattle.yard_model.specs.Genuine.{is_producer, is_slot_of}
use Rattle.yard_model.specs.Lawful.{own, may_follow, is_leased, is_entry}
use Rattle.yard_model.specs.Script.{Script, sends}
use Rattle.yard_model.specs.SlotLists.{SlotLists, queue_list}
use Rattle.yard_model.specs.SlotReads.{holder, holder_step, queued_in_all, queued_in_all_step}
use Rattle.yard_model.specs.Words.{numbers}
use Rattle.yard_model.specs.Workers.{produced, orders, worker_orders, is_up, is_steady_after, is_steady, is_queued_by, is_all_queued}
use Rattle.lease_table.specs.Fits.{admits, is_let, is_fit, is_within, is_produce}
use Rattle.live_laws.specs.Live.{SteadyAlone, QueuedBy, QueuedWithin, QueuedGrows, HasSeen, SteadyIsWorked}
use Rattle.live_laws.proofs.Closes.{all_numbers}

-- The one node of a steady producer.

-- the order is a produce of p at m, and it is steady for n
one_produce : (p n m : ℕ) (before : List Order) (o : Order) → is_steady_after p n before o ≡ true → is_produce p m o ≡ true → m ≡ n
one_produce p n m before (order.Produce q k) steady is =
    let t : ((q == p) ≡ true) × ((k == m) ≡ true) = and_both (q == p) (k == m) is in
    let s : ((k == n) && list_any (is_up n) before) ≡ true = drop_not (q == p) ((k == n) && list_any (is_up n) before) t.0 steady in
    sym (same_number k m t.1) ∙ same_number k n (and_both (k == n) (list_any (is_up n) before) s).0
  where
    drop_not : (a b : Bool) → a ≡ true → (not a || b) ≡ true → b ≡ true
    drop_not true b e h = h
    drop_not false b e h = cc
one_produce p n m before o steady is = cc

each_produce : (p n m : ℕ) (before : List Order) (ls : List Line) → each_follows (is_steady_after p n) before (map (λ (l : Line). l.order) ls) ≡ true → list_any (λ (l : Line). is_produce p m l.order) ls ≡ true → m ≡ n
each_produce p n m before [] steady is = cc
each_produce p n m before (l ∷ ls) steady is =
    let t : (is_steady_after p n before l.order ≡ true) × (each_follows (is_steady_after p n) (before ++ l.order ∷ []) (map (λ (l : Line). l.order) ls) ≡ true) = and_both (is_steady_after p n before l.order) (each_follows (is_steady_after p n) (before ++ l.order ∷ []) (map (λ (l : Line). l.order) ls)) steady in
    by (is_produce p m l.order) refl t.0 (each_produce p n m (before ++ l.order ∷ []) ls t.1) is
  where
    by : (b : Bool) → is_produce p m l.order ≡ b → is_steady_after p n before l.order ≡ true → (list_any (λ (l : Line). is_produce p m l.order) ls ≡ true → m ≡ n) → (b || list_any (λ (l : Line). is_produce p m l.order) ls) ≡ true → m ≡ n
    by true e s rest h = one_produce p n m before l.order s e
    by false e s rest h = rest h

pub steady_alone : SteadyAlone
steady_alone c turns p n m steady may =
    let A : Bool = option_map_or (λ m. m == n) (produced p (orders c)) false in let B : Bool = each_follows (is_steady_after p n) [] (orders c) in let D : Bool = nat_le (4 * length (worker_orders c n)) turns in
    each_produce p n m [] c.orders (and_both A B (and_both (A && B) D steady).0).1 (and_both (is_in 1 c.config.nodes m && is_slot_of c (slot.Queue p)) (is_let c m (slot.Queue p)) may).1

-- By whom commands are queued.

abbrev IsBy : ℕ → Option Incarnation → Type 0
IsBy n o = IfSome o (λ x. x.node ≡ n)

-- a held list's holder
by_holder : (n : ℕ) (o : Option Incarnation) → IsBy n o → is_some o ≡ true → option_map_or (λ x. x.node == n) o false ≡ true
by_holder n None h e = cc
by_holder n (Some x) h e = number_itself x.node n h

module _ (c : Script) (p n : ℕ) (alone : (m : ℕ) → admits c m (slot.Queue p) ≡ true → m ≡ n) where
  step_by : (before : List Fact) (f : Fact) → IsBy n (holder before) → is_fit c (slot.Queue p) f ≡ true → IsBy n (holder_step (holder before) f)
  step_by before (fact.Granted t m x) h fit = alone x.node (and_both (admits c x.node (slot.Queue p)) (is_within x.number) fit).0
  step_by before (fact.Freed t m why) h fit = tt
  step_by before f h fit = h

  one_by : (before : List Fact) (f : Fact) → IsBy n (holder before) → may_follow c (slot.Queue p) before f ≡ true → is_queued_by n before f ≡ true
  one_by before (fact.Queued q e m k) h may = by_holder n (holder before) h (and_both (is_leased before (fact.Queued q e m k)) (is_entry c (slot.Queue p) before (fact.Queued q e m k)) may).0
  one_by before f h may = refl

pub queued_by : QueuedBy
queued_by c p n list lawful alone fit = (queue_to c p So (λ e. (tt, refl)) more list lawful fit).1
  where
    So : List Fact → Type 0
    So l = list_all (is_fit c (slot.Queue p)) l ≡ true → IsBy n (holder l) × (each_follows (is_queued_by n) [] l ≡ true)

    more : (l : List Fact) (f : Fact) → So l → may_follow c (slot.Queue p) l f ≡ true → So (l ++ f ∷ [])
    more l f h may e =
        let t : (list_all (is_fit c (slot.Queue p)) l ≡ true) × ((is_fit c (slot.Queue p) f && true) ≡ true) = and_both (list_all (is_fit c (slot.Queue p)) l) (is_fit c (slot.Queue p) f && true) (sym (list_all-append (is_fit c (slot.Queue p)) l (f ∷ [])) ∙ e) in
        let old : IsBy n (holder l) × (each_follows (is_queued_by n) [] l ≡ true) = h t.0 in (
          subst (IsBy n) (sym (fold-append holder_step None l (f ∷ []))) (step_by c p n alone l f old.0 (and_both (is_fit c (slot.Queue p) f) true t.1).0),
          follows_more (is_queued_by n) [] l f ∙ both (each_follows (is_queued_by n) [] l) (is_queued_by n l f) old.1 (one_by c p n alone l f old.0 may),
        )

-- How many are queued.

step_more : (old : ℕ) (f : Fact) → old ≤ queued_in_all_step old f
step_more old (fact.Queued p e n k) = omega arith
step_more old f = omega arith

pub fold_more : (old : ℕ) (fs : List Fact) → old ≤ fold queued_in_all_step old fs
fold_more old [] = omega arith
fold_more old (f ∷ fs) = let a = step_more old f in let b = fold_more (queued_in_all_step old f) fs in omega arith

pub queued_grows : QueuedGrows
queued_grows xs ys b = subst (λ n. queued_in_all xs ≤ n) (sym (ap queued_in_all b.is ∙ fold-append queued_in_all_step 0 xs b.rest)) (fold_more (queued_in_all xs) b.rest)

got_inside : {A : Type 0} (xs : List A) (i : ℕ) (q : A → Bool) → option_map_or q (slice_get xs i) false ≡ true → i < length xs
got_inside [] i q h = cc
got_inside (x ∷ xs) zero q h = omega arith
got_inside (x ∷ xs) (suc i) q h = let k = got_inside xs i q h in omega arith

module _ (c : Script) (p : ℕ) where
  one_within : (before : List Fact) (f : Fact) → queued_in_all before ≤ length (sends c p) → may_follow c (slot.Queue p) before f ≡ true → queued_in_all_step (queued_in_all before) f ≤ length (sends c p)
  one_within before (fact.Queued q e n k) h may =
      let entry : ((q == p) && option_map_or (is_sending (record { entity = e; number = n; command = k })) (slice_get (sends c p) (queued_in_all before)) false) ≡ true = (and_both (is_leased before (fact.Queued q e n k)) (is_entry c (slot.Queue p) before (fact.Queued q e n k)) may).1 in
      let i = got_inside (sends c p) (queued_in_all before) (is_sending (record { entity = e; number = n; command = k })) (and_both (q == p) (option_map_or (is_sending (record { entity = e; number = n; command = k })) (slice_get (sends c p) (queued_in_all before)) false) entry).1 in omega arith
  one_within before f h may = h

pub queued_within : QueuedWithin
queued_within c p list lawful =
    queue_to c p (λ l. queued_in_all l ≤ length (sends c p)) (omega arith) (λ l f h may. subst (λ n. n ≤ length (sends c p)) (sym (fold-append queued_in_all_step 0 l (f ∷ []))) (one_within c p l f h may)) list lawful

-- All together.

module _ (c : Script) (turns : ℕ) (lists : SlotLists) (owned : (p : ℕ) → is_producer c p ≡ true → own c (slot.Queue p) (queue_list lists p) ≡ true) (fit : (p : ℕ) → is_producer c p ≡ true → list_all (is_fit c (slot.Queue p)) (queue_list lists p) ≡ true)
    (seen : (p n : ℕ) → is_producer c p ≡ true → is_steady c turns p n ≡ true → HasSeen c p (queue_list lists p)) where
  steady_queued : (p n : ℕ) → is_producer c p ≡ true → is_steady c turns p n ≡ true → is_all_queued c lists p n ≡ true
  steady_queued p n h steady =
      let list : List Fact = queue_list lists p in
      let s = seen p n h steady in
      let high : queued_in_all list ≤ length (sends c p) = queued_within c p list (owned p h) in
      let grows : queued_in_all s.seen ≤ queued_in_all list = queued_grows s.seen list s.begins in
      let low : length (sends c p) ≤ queued_in_all s.seen = s.all in
      both (queued_in_all list == length (sends c p)) (each_follows (is_queued_by n) [] list) (number_itself (queued_in_all list) (length (sends c p)) (omega arith))
      (queued_by c p n list (owned p h) (λ m may. steady_alone c turns p n m steady may) (fit p h))

  one_worked : (p n : ℕ) → is_producer c p ≡ true → (not (is_steady c turns p n) || is_all_queued c lists p n) ≡ true
  one_worked p n h = by (is_steady c turns p n) refl
    where
      by : (b : Bool) → is_steady c turns p n ≡ b → (not b || is_all_queued c lists p n) ≡ true
      by true e = steady_queued p n h e
      by false e = refl

pub steady_is_worked : SteadyIsWorked
steady_is_worked c turns lists owned fit seen =
    all_numbers (λ p. list_all (λ n. not (is_steady c turns p n) || is_all_queued c lists p n) (numbers 1 c.config.nodes)) 1 c.config.producers (λ p low high.
    all_numbers (λ n. not (is_steady c turns p n) || is_all_queued c lists p n) 1 c.config.nodes (λ n lown highn.
    one_worked c turns lists owned fit seen p n (both (nat_le 1 p) (nat_le p c.config.producers) (within 1 p low) (within p c.config.producers (omega arith)))))
