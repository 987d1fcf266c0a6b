-- What a script is that a command takes, with one line more.
use Rattle.std.proofs.Common.{◌≡◌, ℕ, ◌+◌, ◌≤◌, Bool, true, false, List, [], ◌∷◌, ◌++◌, length, refl, sym, ap, subst, ◌∙◌, arith, length-append, eqb-true}
use Rattle.std.specs.Prelude.{◌==◌, ◌&&◌, ◌||◌, if◌then◌else◌, not, nat_le, nat_lt, min, filter, fold, IsTrue, IfOk, Result, Ok, Err, Option, Some, None}
use Rattle.std.specs.List.{list_all, list_any}
use Rattle.std.proofs.lemmas.Bool.Decides.{nat_tests}
use Rattle.std.proofs.lemmas.List.Elements.{filter-append}
use Rattle.std.proofs.lemmas.List.Folds.{list_all-append, list_any-append}
use Rattle.std.proofs.lemmas.List.Sums.{fold_push}
use Rattle.yard_model.specs.declared.charter.Config.{Config}
use Rattle.yard_model.specs.declared.charter.Line.{Line}
use Rattle.yard_model.specs.declared.charter.Order.{Order}
use Rattle.yard_model.specs.declared.charter.Order.TheVariants as order
use Rattle.yard_model.specs.declared.charter.Sending.{Sending}
use Rattle.yard_model.specs.declared.event.Kind.{Kind}
use Rattle.yard_model.specs.declared.event.Kind.TheVariants as kind
use Rattle.yard_model.specs.Behaviour.{is_in}
use Rattle.yard_model.specs.Script.{Script, Pair, is_order, is_name, is_pair, count_to, names_in, pairs_in, sends_in, with_order, with_pair, with_send_of}
use Rattle.script_text.specs.declared.fault.Mode.{Mode}
use Rattle.script_text.specs.declared.fault.Mode.TheVariants as mode
use Rattle.script_text.specs.Fit.{IsFit, is_ping, is_pulled, is_send, pings}
use Rattle.script_text.specs.declared.fault.Why.{Why}
use Rattle.script_text.specs.Orders.{is_foreign, under}
use Rattle.script_text.specs.Reading.{IsFitWithin, IsWithin, is_over, is_pull, is_sent, is_wrong_kind, has_many_pings, most_names, takes, with_line}
use Rattle.script_text.proofs.Names.{and_true}
use Rattle.script_text.proofs.Pairs.{same_name}

-- Tests.

neither : (a b : Bool) → (a || b) ≡ false → (a ≡ false) × (b ≡ false)
neither false b h = (refl, h)
neither true b h = cc

is_so : (b : Bool) → not b ≡ false → b ≡ true
is_so true h = refl
is_so false h = cc

or_no : (b : Bool) → (b || false) ≡ b
or_no true = refl
or_no false = refl

or_so : (b : Bool) → (b || true) ≡ true
or_so true = refl
or_so false = refl

at_most : (n k : ℕ) → nat_lt n k ≡ false → k ≤ n
at_most n k h = grind (arith, nat_tests)

all_more : {X : Type 0} (test : X → Bool) (xs : List X) (x : X) → list_all test xs ≡ true → test x ≡ true → list_all test (xs ++ x ∷ []) ≡ true
all_more test xs x h t = list_all-append test xs (x ∷ []) ∙ (ap (λ b. b && list_all test (x ∷ [])) h ∙ ap (λ b. b && true) t)

-- Pings.

counted_ping : (ls : List Line) (l : Line) (b : Bool) → is_ping l.order ≡ b → pings (ls ++ l ∷ []) ≡ (if b then pings ls + 1 else pings ls)
counted_ping ls l true h =
    let one : pings (l ∷ []) ≡ 1 = rw h refl in
    ap length (filter-append (λ (x : Line). is_ping x.order) ls (l ∷ [])) ∙ (length-append (filter (λ (x : Line). is_ping x.order) ls) (filter (λ (x : Line). is_ping x.order) (l ∷ [])) ∙ ap (λ n. pings ls + n) one)
counted_ping ls l false h =
    let none : pings (l ∷ []) ≡ 0 = rw h refl in
    ap length (filter-append (λ (x : Line). is_ping x.order) ls (l ∷ [])) ∙ (length-append (filter (λ (x : Line). is_ping x.order) ls) (filter (λ (x : Line). is_ping x.order) (l ∷ []))
    ∙ (ap (λ n. pings ls + n) none ∙ omega arith))

pub pings_more : (pinged : ℕ) (ls : List Line) (l : Line) → pinged ≡ min (pings ls) 4294967295 → (if is_ping l.order then min (pinged + 1) 4294967295 else pinged) ≡ min (pings (ls ++ l ∷ [])) 4294967295
pings_more pinged ls l h = step (is_ping l.order) refl
  where
    step : (b : Bool) → is_ping l.order ≡ b → (if b then min (pinged + 1) 4294967295 else pinged) ≡ min (pings (ls ++ l ∷ [])) 4294967295
    step true e = ap (λ n. min (n + 1) 4294967295) h ∙ (omega arith ∙ ap (λ n. min n 4294967295) (sym (counted_ping ls l true e)))
    step false e = h ∙ ap (λ n. min n 4294967295) (sym (counted_ping ls l false e))

-- Jobs.

counted_send : (e : List ℕ) (xs : List Sending) (x : Sending) (b : Bool) → is_name x.entity e ≡ b → count_to e (xs ++ x ∷ []) ≡ (if b then count_to e xs + 1 else count_to e xs)
counted_send e xs x true h =
    let one : count_to e (x ∷ []) ≡ 1 = rw h refl in
    ap length (filter-append (λ (y : Sending). is_name y.entity e) xs (x ∷ [])) ∙ (length-append (filter (λ (y : Sending). is_name y.entity e) xs) (filter (λ (y : Sending). is_name y.entity e) (x ∷ [])) ∙ ap (λ n. count_to e xs + n) one)
counted_send e xs x false h =
    let none : count_to e (x ∷ []) ≡ 0 = rw h refl in
    ap length (filter-append (λ (y : Sending). is_name y.entity e) xs (x ∷ [])) ∙ (length-append (filter (λ (y : Sending). is_name y.entity e) xs) (filter (λ (y : Sending). is_name y.entity e) (x ∷ []))
    ∙ (ap (λ n. count_to e xs + n) none ∙ omega arith))

-- a pair is known where there is a send of it
one_more : (p : ℕ) (e : List ℕ) (o : Order) (pairs : List Pair) (xs : List Sending) → list_any (is_pair p e) pairs ≡ nat_lt 0 (count_to e xs)
    → list_any (is_pair p e) (with_pair pairs o) ≡ nat_lt 0 (count_to e (with_order p xs o))
one_more p e (order.Send q f c) pairs xs h = step (list_any (is_pair q f) pairs) refl (q == p) refl (is_name f e) refl
  where
    pair : Pair
    pair = record { producer = q; entity = f }

    send : Sending
    send = record { entity = f; number = count_to f xs + 1; command = c }

    pushed : list_any (is_pair p e) (pairs ++ pair ∷ []) ≡ (list_any (is_pair p e) pairs || (((q == p) && is_name f e) || false))
    pushed = list_any-append (is_pair p e) pairs (pair ∷ [])

    there : (q == p) ≡ true → is_name f e ≡ true → list_any (is_pair q f) pairs ≡ true → list_any (is_pair p e) pairs ≡ true
    there d n b = subst (λ k. list_any (is_pair k e) pairs ≡ true) (eqb-true q p d) (subst (λ g. list_any (is_pair q g) pairs ≡ true) (same_name f e n) b)

    more : is_name f e ≡ true → nat_lt 0 (count_to e (xs ++ send ∷ [])) ≡ true
    more n = let k : count_to e (xs ++ send ∷ []) ≡ count_to e xs + 1 = counted_send e xs send true n in grind (arith, nat_tests)

    step : (b : Bool) → list_any (is_pair q f) pairs ≡ b → (d : Bool) → (q == p) ≡ d → (n : Bool) → is_name f e ≡ n
        → list_any (is_pair p e) (if b then pairs else pairs ++ pair ∷ []) ≡ nat_lt 0 (count_to e (if d then xs ++ send ∷ [] else xs))
    step true b true d true n = there d n b ∙ sym (more n)
    step false b true d true n = pushed ∙ (rw (d, n) (or_so (list_any (is_pair p e) pairs)) ∙ sym (more n))
    step true b true d false n = h ∙ ap (λ k. nat_lt 0 k) (sym (counted_send e xs send false n))
    step false b true d false n = pushed ∙ (rw (d, n) (or_no (list_any (is_pair p e) pairs)) ∙ (h ∙ ap (λ k. nat_lt 0 k) (sym (counted_send e xs send false n))))
    step true b false d n g = h
    step false b false d n g = pushed ∙ (rw d (or_no (list_any (is_pair p e) pairs)) ∙ h)
one_more p e o pairs xs h = h

along : (p : ℕ) (e : List ℕ) (ls : List Line) (pairs : List Pair) (xs : List Sending) → list_any (is_pair p e) pairs ≡ nat_lt 0 (count_to e xs)
    → list_any (is_pair p e) (fold (λ ys (l : Line). with_pair ys l.order) pairs ls) ≡ nat_lt 0 (count_to e (fold (with_send_of p) xs ls))
along p e [] pairs xs h = h
along p e (l ∷ ls) pairs xs h = along p e ls (with_pair pairs l.order) (with_order p xs l.order) (one_more p e l.order pairs xs h)

first_send : (p : ℕ) (e : List ℕ) (ls : List Line) → list_any (is_pair p e) (pairs_in ls) ≡ false → count_to e (sends_in p ls) ≡ 0
first_send p e ls h =
    let none : nat_lt 0 (count_to e (sends_in p ls)) ≡ false = sym (along p e ls [] [] refl) ∙ h in
    grind (arith, nat_tests)

once_more : (o : Order) (ls : List Line) → is_foreign mode.Pull o ≡ false → is_sent (pairs_in ls) o ≡ false → list_all (λ (j : Sending). j.number == 1) (sends_in 1 ls) ≡ true
    → list_all (λ (j : Sending). j.number == 1) (with_order 1 (sends_in 1 ls) o) ≡ true
once_more (order.Send p e c) ls f s h = subst (λ b. list_all (λ (j : Sending). j.number == 1) (if b then sends_in 1 ls ++ send ∷ [] else sends_in 1 ls) ≡ true) (sym one) (all_more (λ (j : Sending). j.number == 1) (sends_in 1 ls) send h number)
  where
    send : Sending
    send = record { entity = e; number = count_to e (sends_in 1 ls) + 1; command = c }

    one : (p == 1) ≡ true
    one = is_so (p == 1) f

    number : (count_to e (sends_in 1 ls) + 1 == 1) ≡ true
    number = ap (λ n. n + 1 == 1) (first_send 1 e ls (subst (λ k. list_any (is_pair k e) (pairs_in ls) ≡ false) (eqb-true p 1 one) s))
once_more o ls f s h = h

pulled_order : (o : Order) → takes mode.Pull o ≡ true → is_foreign mode.Pull o ≡ false → is_pulled o ≡ true
pulled_order (order.Produce p n) t f = is_so (p == 1) f
pulled_order (order.Rest p) t f = is_so (p == 1) f
pulled_order (order.Send p e c) t f = is_so (p == 1) f
pulled_order o t f = t

silent_order : (o : Order) → takes mode.Daemon o ≡ true → not (is_send o) ≡ true
silent_order (order.Send p e c) t = t
silent_order o t = refl

-- no orders yet
pub nothing_fits : (m : Mode) (n : ℕ) (c : Config) → is_wrong_kind m c.kind ≡ false → IsFitWithin m n (record { config = c; orders = [] })
nothing_fits m n c h = record { few_names = omega arith; few_pairs = omega arith; few_orders = omega arith; fit = fit m h }
  where
    counter : (k : Kind) → is_wrong_kind mode.Daemon k ≡ false → k ≡ kind.Counter
    counter kind.Counter e = refl
    counter kind.Account e = cc
    counter kind.Cart e = cc

    fit : (m : Mode) → is_wrong_kind m c.kind ≡ false → IsFit m (record { config = c; orders = [] })
    fit mode.Solo e = tt
    fit mode.Replay e = tt
    fit mode.Live e = tt
    fit mode.Log e = tt
    fit mode.Pull e = record { orders = refl; once = refl }
    fit mode.Daemon e = record { counters = counter c.kind e; silent = refl; few_names = omega arith; few_pings = omega arith }

few : (m : Mode) (k : ℕ) → nat_lt (most_names m) k ≡ false → k ≤ 1000
few mode.Solo k h = at_most 1000 k h
few mode.Replay k h = at_most 1000 k h
few mode.Live k h = at_most 1000 k h
few mode.Log k h = at_most 1000 k h
few mode.Pull k h = at_most 1000 k h
few mode.Daemon k h = let less : k ≤ 900 = at_most 900 k h in omega arith

-- one order more
pub line_fits : (m : Mode) (n : ℕ) (s : Script) (number : ℕ) (o : Order) → IsFitWithin m n s → is_foreign m o ≡ false → is_over m (with_line s number o) ≡ false → takes m o ≡ true
    → (is_pull m && is_sent (pairs_in s.orders) o) ≡ false → has_many_pings (with_line s number o) ≡ false → IsFitWithin m (n + 1) (with_line s number o)
line_fits m n s number o old known over taken job pinged = record {
  few_names = few m (length (names_in more)) (neither (nat_lt (most_names m) (length (names_in more))) (nat_lt 4000 (length (pairs_in more))) over).0;
  few_pairs = at_most 4000 (length (pairs_in more)) (neither (nat_lt (most_names m) (length (names_in more))) (nat_lt 4000 (length (pairs_in more))) over).1;
  few_orders = let long : length more ≡ length s.orders + 1 = length-append s.orders (line ∷ []) in omega (arith, old.few_orders);
  fit = fit m old.fit known over taken job;
}
  where
    line : Line
    line = record { number = number; order = o }

    more : List Line
    more = s.orders ++ line ∷ []

    fit : (m : Mode) → IsFit m s → is_foreign m o ≡ false → is_over m (with_line s number o) ≡ false → takes m o ≡ true → (is_pull m && is_sent (pairs_in s.orders) o) ≡ false
        → IsFit m (with_line s number o)
    fit mode.Solo f k v t j = tt
    fit mode.Replay f k v t j = tt
    fit mode.Live f k v t j = tt
    fit mode.Log f k v t j = tt
    fit mode.Pull f k v t j = record {
      orders = all_more (λ (l : Line). is_pulled l.order) s.orders line f.orders (pulled_order o t k);
      once = subst (λ xs. list_all (λ (x : Sending). x.number == 1) xs ≡ true) (sym (fold_push (with_send_of 1) [] s.orders line)) (once_more o s.orders k j f.once);
    }
    fit mode.Daemon f k v t j = record {
      counters = f.counters;
      silent = all_more (λ (l : Line). not (is_send l.order)) s.orders line f.silent (silent_order o t);
      few_names = at_most 900 (length (names_in more)) (neither (nat_lt 900 (length (names_in more))) (nat_lt 4000 (length (pairs_in more))) v).0;
      few_pings = at_most 1000 (pings more) pinged;
    }

-- Producers.

one_alone : (p : ℕ) → IsTrue (is_in 1 1 p) → not (p == 1) ≡ false
one_alone p h =
    let ends : IsTrue (nat_le 1 p) × IsTrue (nat_le p 1) = and_true (nat_le 1 p) (nat_le p 1) h in
    let low : nat_le 1 p ≡ true = ends.0 in
    let high : nat_le p 1 ≡ true = ends.1 in
    let one : (p == 1) ≡ true = grind (arith, nat_tests) in
    ap not one

known : (m : Mode) (c : Config) (o : Order) → IsTrue (is_order (under m c) o) → is_foreign m o ≡ false
known mode.Pull c (order.Produce p n) h = one_alone p (and_true (is_in 1 1 p) (is_in 1 c.nodes n) h).0
known mode.Pull c (order.Rest p) h = one_alone p h
known mode.Pull c (order.Send p e k) h = one_alone p (and_true (is_in 1 1 p) _ h).0
known m c o h = refl

pub known_if : (m : Mode) (c : Config) (r : Result Order Why) → IfOk r (λ o. (d : Config) → IsTrue (is_order d o)) → IfOk r (λ o. is_foreign m o ≡ false)
known_if m c (Ok o) h = known m c o (h (under m c))
known_if m c (Err w) h = tt

-- with more orders
pub within_more : (m : Mode) (n k : ℕ) (so : Option Script) → n ≤ k → IsWithin m n so → IsWithin m k so
within_more m n k None h w = tt
within_more m n k (Some s) h w = record { few_names = w.few_names; few_pairs = w.few_pairs; few_orders = let few : length s.orders ≤ n = w.few_orders in omega arith; fit = w.fit }
