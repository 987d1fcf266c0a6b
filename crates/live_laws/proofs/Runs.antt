-- What a steady producer's worker is told to do.
use Rattle.std.proofs.Common.{◌≡◌, ℕ, ◌+◌, sym, ap, ◌∙◌, refl, arith, length-append, ◌*◌}
use Rattle.std.specs.Prelude.{Bool, true, false, ◌==◌, ◌&&◌, ◌||◌, not, nat_le, List, [], ◌∷◌, ◌++◌, length, map, fold, count_by, Option, Some, None, if◌then◌else◌}
use Rattle.std.specs.List.{list_any}
use Rattle.std.specs.Option.{option_map_or}
use Rattle.std.proofs.lemmas.List.Sums.{fold-append}
use Rattle.std.proofs.lemmas.List.Folds.{list_any-append}
use Rattle.plain_laws.proofs.Booleans.{and_both, both, left_of, right_of, same_number, number_itself}
use Rattle.yard_model.specs.declared.charter.Line.{Line}
use Rattle.yard_model.specs.declared.charter.Order.{Order}
use Rattle.yard_model.specs.declared.charter.Order.TheVariants as order
use Rattle.yard_model.specs.declared.charter.Sending.{Sending}
use Rattle.yard_model.specs.Follow.{each_follows}
use Rattle.yard_model.specs.Script.{with_send, count_to, with_order, with_send_of}
use Rattle.yard_model.specs.Workers.{produced, produced_step, is_for, worker_orders_after, worker_orders, orders, is_up, is_steady_after}
use Rattle.live_laws.specs.Live.{is_produce_of, is_send, is_run_after, SteadyRun}

-- what is known of the worker's orders so far, beside the script's
record Beside (p n : ℕ) (before mine : List Order) : Type 0 where
  pub ups : list_any (is_up n) before ≡ true → list_any (is_up n) mine ≡ true
  pub node : (m : ℕ) → produced p before ≡ Some m → m ≡ n
  pub produces : (m : ℕ) → produced p before ≡ Some m → list_any (is_produce_of p) mine ≡ true

any_more : (q : Order → Bool) (os : List Order) (o : Order) → list_any q os ≡ true → list_any q (os ++ o ∷ []) ≡ true
any_more q os o h = list_any-append q os (o ∷ []) ∙ left_of (list_any q os) (q o || false) h

any_last : (q : Order → Bool) (os : List Order) (o : Order) → q o ≡ true → list_any q (os ++ o ∷ []) ≡ true
any_last q os o h = list_any-append q os (o ∷ []) ∙ right_of (list_any q os) (q o || false) (left_of (q o) false h)

any_split : (q : Order → Bool) (os : List Order) (o : Order) → q o ≡ false → list_any q (os ++ o ∷ []) ≡ true → list_any q os ≡ true
any_split q os o none h = by (list_any q os) (q o) none (sym (list_any-append q os (o ∷ [])) ∙ h)
  where
    by : (a b : Bool) → b ≡ false → (a || (b || false)) ≡ true → a ≡ true
    by true b e k = refl
    by false true e k = cc
    by false false e k = k

produced_more : (p : ℕ) (before : List Order) (o : Order) → produced p (before ++ o ∷ []) ≡ produced_step p (produced p before) o
produced_more p before o = fold-append (produced_step p) None before (o ∷ [])

drop_not : (a b : Bool) → a ≡ true → (not a || b) ≡ true → b ≡ true
drop_not true b e h = h
drop_not false b e h = cc

-- an order that isn't the worker's: it is no `up n` and no `produce p`
passed : (p n : ℕ) (before mine : List Order) (o : Order) → is_for n before o ≡ false → is_steady_after p n before o ≡ true → Beside p n before mine → Beside p n (before ++ o ∷ []) mine
passed p n before mine o other steady b = record {
  ups = λ h. b.ups (any_split (is_up n) before o (no_up o other) h);
  node = λ m h. b.node m (same o other steady m (sym (produced_more p before o) ∙ h));
  produces = λ m h. b.produces m (same o other steady m (sym (produced_more p before o) ∙ h));
}
  where
    no_up : (o : Order) → is_for n before o ≡ false → is_up n o ≡ false
    no_up (order.Up m) h = h
    no_up o h = refl

    same : (o : Order) → is_for n before o ≡ false → is_steady_after p n before o ≡ true → (m : ℕ) → produced_step p (produced p before) o ≡ Some m → produced p before ≡ Some m
    same (order.Produce q k) h s m e = by (q == p) refl s e
      where
        by : (c : Bool) → (q == p) ≡ c → (not c || ((k == n) && list_any (is_up n) before)) ≡ true → (if c then Some k else produced p before) ≡ Some m → produced p before ≡ Some m
        by true t s e = let is : (k == n) ≡ true = (and_both (k == n) (list_any (is_up n) before) s).0 in let never : true ≡ false = sym is ∙ h in cc
        by false t s e = e
    same o h s m e = e

-- one that is
taken : (p n : ℕ) (before mine : List Order) (o : Order) → is_steady_after p n before o ≡ true → Beside p n before mine → Beside p n (before ++ o ∷ []) (mine ++ o ∷ [])
taken p n before mine o steady b = record {
  ups = λ h. up (is_up n o) refl h;
  node = λ m h. node o steady m (sym (produced_more p before o) ∙ h);
  produces = λ m h. produces o m (sym (produced_more p before o) ∙ h);
}
  where
    up : (c : Bool) → is_up n o ≡ c → list_any (is_up n) (before ++ o ∷ []) ≡ true → list_any (is_up n) (mine ++ o ∷ []) ≡ true
    up true e h = any_last (is_up n) mine o e
    up false e h = any_more (is_up n) mine o (b.ups (any_split (is_up n) before o e h))

    some_is : (k m : ℕ) → Some k ≡ Some m → k ≡ m
    some_is k m e = cc

    node : (o : Order) → is_steady_after p n before o ≡ true → (m : ℕ) → produced_step p (produced p before) o ≡ Some m → m ≡ n
    node (order.Produce q k) s m e = by (q == p) refl s e
      where
        by : (c : Bool) → (q == p) ≡ c → (not c || ((k == n) && list_any (is_up n) before)) ≡ true → (if c then Some k else produced p before) ≡ Some m → m ≡ n
        by true t s e = sym (some_is k m e) ∙ same_number k n (and_both (k == n) (list_any (is_up n) before) s).0
        by false t s e = b.node m e
    node o s m e = b.node m e

    produces : (o : Order) (m : ℕ) → produced_step p (produced p before) o ≡ Some m → list_any (is_produce_of p) (mine ++ o ∷ []) ≡ true
    produces (order.Produce q k) m e = by (q == p) refl e
      where
        by : (c : Bool) → (q == p) ≡ c → (if c then Some k else produced p before) ≡ Some m → list_any (is_produce_of p) (mine ++ order.Produce q k ∷ []) ≡ true
        by true t e = any_last (is_produce_of p) mine (order.Produce q k) t
        by false t e = any_more (is_produce_of p) mine (order.Produce q k) (b.produces m e)
    produces o m e = any_more (is_produce_of p) mine o (b.produces m e)

-- what is steady of an order of the worker
one_run : (p n : ℕ) (before mine : List Order) (o : Order) → is_for n before o ≡ true → is_steady_after p n before o ≡ true → Beside p n before mine → is_run_after p n mine o ≡ true
one_run p n before mine (order.Rest q) mine_is steady b = steady
one_run p n before mine (order.Crash m) mine_is steady b = no_crash (m == n) mine_is steady
  where
    no_crash : (c : Bool) → c ≡ true → not c ≡ true → false ≡ true
    no_crash true e h = h
    no_crash false e h = e
one_run p n before mine (order.Produce q m) mine_is steady b = by (q == p) steady
  where
    by : (c : Bool) → (not c || ((m == n) && list_any (is_up n) before)) ≡ true → (not c || list_any (is_up n) mine) ≡ true
    by true s = b.ups (and_both (m == n) (list_any (is_up n) before) s).1
    by false s = refl
one_run p n before mine (order.Send q e k) mine_is steady b = by (q == p) (produced p before) refl steady
  where
    by : (c : Bool) (o : Option ℕ) → produced p before ≡ o → (not c || option_map_or (λ m. true) o false) ≡ true → (not c || list_any (is_produce_of p) mine) ≡ true
    by true None e s = cc
    by true (Some m) e s = b.produces m e
    by false o e s = refl
one_run p n before mine o mine_is steady b = refl

run_all : (p n : ℕ) (before mine os : List Order) → each_follows (is_steady_after p n) before os ≡ true → Beside p n before mine → each_follows (is_run_after p n) mine (worker_orders_after n before os) ≡ true
run_all p n before mine [] steady b = refl
run_all p n before mine (o ∷ os) steady b =
    let t : (is_steady_after p n before o ≡ true) × (each_follows (is_steady_after p n) (before ++ o ∷ []) os ≡ true) = and_both (is_steady_after p n before o) (each_follows (is_steady_after p n) (before ++ o ∷ []) os) steady in
    by (is_for n before o) refl t.0 (λ now h. run_all p n (before ++ o ∷ []) now os t.1 h)
  where
    by : (c : Bool) → is_for n before o ≡ c → is_steady_after p n before o ≡ true → ((now : List Order) → Beside p n (before ++ o ∷ []) now → each_follows (is_run_after p n) now (worker_orders_after n (before ++ o ∷ []) os) ≡ true)
        → each_follows (is_run_after p n) mine ((if c then o ∷ [] else []) ++ worker_orders_after n (before ++ o ∷ []) os) ≡ true
    by true e s rest = both (is_run_after p n mine o) (each_follows (is_run_after p n) (mine ++ o ∷ []) (worker_orders_after n (before ++ o ∷ []) os)) (one_run p n before mine o e s b) (rest (mine ++ o ∷ []) (taken p n before mine o s b))
    by false e s rest = rest mine (passed p n before mine o e s b)

-- The sends.

-- a recursion that counts
abbrev counted : (Order → Bool) → List Order → ℕ
counted q [] = 0
counted q (o ∷ os) = (if q o then 1 else 0) + counted q os

count_from : (q : Order → Bool) (n : ℕ) (os : List Order) → fold (λ a (o : Order). a + (if q o then 1 else 0)) n os ≡ n + counted q os
count_from q n [] = omega arith
count_from q n (o ∷ os) = let h = count_from q (n + (if q o then 1 else 0)) os in omega (arith, h)

count_is : (q : Order → Bool) (os : List Order) → count_by q os ≡ counted q os
count_is q os = let h = count_from q 0 os in omega (arith, h)

counted-append : (q : Order → Bool) (xs ys : List Order) → counted q (xs ++ ys) ≡ counted q xs + counted q ys
counted-append q [] ys = omega arith
counted-append q (x ∷ xs) ys = let h = counted-append q xs ys in omega (arith, h)

-- each send of p is the worker's
send_is_for : (p n : ℕ) (before mine : List Order) (o : Order) → is_steady_after p n before o ≡ true → Beside p n before mine → is_send p o ≡ true → is_for n before o ≡ true
send_is_for p n before mine (order.Send q e k) steady b is = by (produced p before) refl (drop_not (q == p) (option_map_or (λ m. true) (produced p before) false) is steady) (ap (λ r. produced r before) (same_number q p is))
  where
    by : (o : Option ℕ) → produced p before ≡ o → option_map_or (λ m. true) o false ≡ true → produced q before ≡ produced p before → option_map_or (λ m. m == n) (produced q before) false ≡ true
    by None e h s = cc
    by (Some m) e h s = ap (λ r. option_map_or (λ m. m == n) r false) (s ∙ e) ∙ number_itself m n (b.node m e)
send_is_for p n before mine o steady b is = cc

count_all : (p n : ℕ) (before mine os : List Order) → each_follows (is_steady_after p n) before os ≡ true → Beside p n before mine → counted (is_send p) (worker_orders_after n before os) ≡ counted (is_send p) os
count_all p n before mine [] steady b = refl
count_all p n before mine (o ∷ os) steady b =
    let t : (is_steady_after p n before o ≡ true) × (each_follows (is_steady_after p n) (before ++ o ∷ []) os ≡ true) = and_both (is_steady_after p n before o) (each_follows (is_steady_after p n) (before ++ o ∷ []) os) steady in
    by (is_for n before o) refl t.0 (λ now h. count_all p n (before ++ o ∷ []) now os t.1 h)
  where
    no_send : is_for n before o ≡ false → is_steady_after p n before o ≡ true → is_send p o ≡ false
    no_send e s = at (is_send p o) refl
      where
        at : (c : Bool) → is_send p o ≡ c → is_send p o ≡ false
        at true is = let yes : is_for n before o ≡ true = send_is_for p n before mine o s b is in let never : true ≡ false = sym yes ∙ e in cc
        at false is = is

    by : (c : Bool) → is_for n before o ≡ c → is_steady_after p n before o ≡ true → ((now : List Order) → Beside p n (before ++ o ∷ []) now → counted (is_send p) (worker_orders_after n (before ++ o ∷ []) os) ≡ counted (is_send p) os)
        → counted (is_send p) ((if c then o ∷ [] else []) ++ worker_orders_after n (before ++ o ∷ []) os) ≡ (if is_send p o then 1 else 0) + counted (is_send p) os
    by true e s rest = ap (λ (k : ℕ). (if is_send p o then 1 else 0) + k) (rest (mine ++ o ∷ []) (taken p n before mine o s b))
    by false e s rest = let none : counted (is_send p) os ≡ 0 + counted (is_send p) os = omega arith in rest mine (passed p n before mine o e s b) ∙ (none ∙ ap (λ (c : Bool). (if c then 1 else 0) + counted (is_send p) os) (sym (no_send e s)))

sends_count : (p : ℕ) (old : List Sending) (ls : List Line) → length (fold (with_send_of p) old ls) ≡ length old + counted (is_send p) (map (λ (l : Line). l.order) ls)
sends_count p old [] = omega arith
sends_count p old (l ∷ ls) = let h = sends_count p (with_send_of p old l) ls in let g = one old l.order in omega (arith, h, g)
  where
    one : (old : List Sending) (o : Order) → length (with_order p old o) ≡ length old + (if is_send p o then 1 else 0)
    one old (order.Send q e k) = by (q == p)
      where
        by : (c : Bool) → length (if c then with_send old e k else old) ≡ length old + (if c then 1 else 0)
        by true = length-append old (record { entity = e; number = count_to e old + 1; command = k } ∷ [])
        by false = omega arith
    one old o = omega arith

none_yet : (p n : ℕ) → Beside p n [] []
none_yet p n = record { ups = λ h. h; node = λ m h. cc; produces = λ m h. cc }

pub steady_run : SteadyRun
steady_run c turns p n steady =
    let A : Bool = option_map_or (λ m. m == n) (produced p (orders c)) false in let B : Bool = each_follows (is_steady_after p n) [] (orders c) in let D : Bool = nat_le (4 * length (worker_orders c n)) turns in
    let s : B ≡ true = (and_both A B (and_both (A && B) D steady).0).1 in record {
      follows = run_all p n [] [] (orders c) s (none_yet p n);
      count = count_is (is_send p) (worker_orders c n) ∙ count_all p n [] [] (orders c) s (none_yet p n) ∙ (let h = sends_count p [] c.orders in omega (arith, h));
    }
