-- A script of sends with one command more.
use Rattle.std.proofs.Common.{◌≡◌, ◌<◌, ◌≤◌, ℕ, ◌+◌, ◌-◌, sym, ap, ap₂, ◌∙◌, refl, subst, arith, zero, suc, true≢false}
use Rattle.std.specs.Prelude.{Bool, true, false, ◌==◌, ◌&&◌, ◌||◌, not, cond, nat_le, nat_lt, if◌then◌else◌, List, [], ◌∷◌, ◌++◌, length, map, filter, fold, slice_index_or, Some, None, IsTrue}
use Rattle.std.specs.List.{list_all, list_any}
use Rattle.std.specs.Ordering.{nat_cmp}
use Rattle.std.specs.Cmp.Lexicographic.{slice_cmp}
use Rattle.std.specs.BTreeSet.{insert_key}
use Rattle.std.specs.Map.{keys_of}
use Rattle.std.proofs.lemmas.Bool.Decides.{nat_tests}
use Rattle.std.proofs.lemmas.List.{append-nil, length-append, map-append}
use Rattle.std.proofs.lemmas.List.Elements.{filter-append}
use Rattle.std.proofs.lemmas.List.Folds.{list_all-append, list_any-append}
use Rattle.std.proofs.lemmas.List.Sums.{fold-append}
use Rattle.yard_model.specs.declared.charter.Config.{Config}
use Rattle.yard_model.specs.declared.charter.Line.{Line}
use Rattle.yard_model.specs.declared.charter.Order.{Order}
use Rattle.yard_model.specs.declared.charter.Order.TheVariants as order
use Rattle.yard_model.specs.declared.charter.Sending.{Sending}
use Rattle.yard_model.specs.declared.event.Command.{Command}
use Rattle.yard_model.specs.Equal.{is_command}
use Rattle.yard_model.specs.Script.{Script, Pair, count_to, is_config, is_name, is_order, is_pair, names_in, pairs_in, plan, sends, with_name_of, with_order, with_pair, with_send, with_send_of}
use Rattle.script_text.specs.declared.fault.Mode.TheVariants as mode
use Rattle.script_text.specs.declared.fault.Why.TheVariants as why
use Rattle.script_text.specs.Fit.{is_send}
use Rattle.script_text.specs.Reading.{is_over, with_line}
use Rattle.plain_laws.proofs.Booleans.{and_both, both, is_below, not_below, of_not, or_both, same_name, same_number, number_itself, within}
use Rattle.serve_laws.specs.Hearing.{Done, Conflict, Gap, Refused, accepted, again, requested, still, with_request}
use Rattle.serve_laws.specs.Hearings.{IsHeard, request_for}
use Rattle.serve_desk.specs.declared.desk.Heard.{Heard as Told}
use Rattle.serve_desk.specs.declared.desk.Heard.TheVariants as say
use Rattle.serve_desk.specs.Desks.{IsDesk, answer_to, may_enter, told}
use Rattle.serve_desk.specs.Rows.{HasOneMore, kept_of, row_in}

-- with this send more
abbrev pub with_command : Script → ℕ → ℕ → List ℕ → Command → Script
with_command c n p e k = with_line c n (order.Send p e k)

abbrev line_of : ℕ → ℕ → List ℕ → Command → Line
line_of n p e k = record { number = n; order = order.Send p e k }

-- Plans.

abbrev plan_of : List ℕ → List Sending → List Command
plan_of e xs = map (λ (x : Sending). x.command) (filter (λ (x : Sending). is_name x.entity e) xs)

plan_append : (e : List ℕ) (xs ys : List Sending) → plan_of e (xs ++ ys) ≡ plan_of e xs ++ plan_of e ys
plan_append e xs ys =
    let to : Sending → Bool = λ (x : Sending). is_name x.entity e in
    let command : Sending → Command = λ (x : Sending). x.command in
    ap (map command) (filter-append to xs ys) ∙ map-append command (filter to xs) (filter to ys)

plan_more : (c : Script) (n p : ℕ) (e : List ℕ) (k : Command) (q : ℕ) (f : List ℕ) → plan (with_command c n p e k) q f ≡ plan c q f ++ (if (p == q) && is_name e f then k ∷ [] else [])
plan_more c n p e k q f = ap (plan_of f) (fold-append (with_send_of q) [] c.orders (line_of n p e k ∷ [])) ∙ by (p == q)
  where
    x : Sending
    x = record { entity = e; number = count_to e (sends c q) + 1; command = k }

    one : (b : Bool) → map (λ (y : Sending). y.command) (cond b (x ∷ []) []) ≡ (if b then k ∷ [] else [])
    one true = refl
    one false = refl

    by : (b : Bool) → plan_of f (if b then with_send (sends c q) e k else sends c q) ≡ plan c q f ++ (if b && is_name e f then k ∷ [] else [])
    by true = plan_append f (sends c q) (x ∷ []) ∙ ap (λ l. plan c q f ++ l) (one (is_name e f))
    by false = sym (append-nil (plan c q f))

at_most_one : (b : Bool) (x : Sending) → length (map (λ (y : Sending). y.command) (cond b (x ∷ []) [])) ≤ 1
at_most_one true x = omega arith
at_most_one false x = omega arith

one_more : (e : List ℕ) (xs : List Sending) (f : List ℕ) (k : Command) → length (plan_of e (with_send xs f k)) ≤ length (plan_of e xs) + 1
one_more e xs f k =
    let x : Sending = record { entity = f; number = count_to f xs + 1; command = k } in
    let cut : plan_of e (xs ++ x ∷ []) ≡ plan_of e xs ++ plan_of e (x ∷ []) = plan_append e xs (x ∷ []) in
    let long : length (plan_of e xs ++ plan_of e (x ∷ [])) ≡ length (plan_of e xs) + length (plan_of e (x ∷ [])) = length-append (plan_of e xs) (plan_of e (x ∷ [])) in
    let few : length (plan_of e (x ∷ [])) ≤ 1 = at_most_one (is_name f e) x in
    subst (λ (l : List Command). length l ≤ length (plan_of e xs) + 1) (sym cut) (omega (arith, long, few))

order_short : (p : ℕ) (e : List ℕ) (xs : List Sending) (o : Order) → length (plan_of e (with_order p xs o)) ≤ length (plan_of e xs) + 1
order_short p e xs (order.Send q f k) = by (q == p)
  where
    by : (b : Bool) → length (plan_of e (if b then with_send xs f k else xs)) ≤ length (plan_of e xs) + 1
    by true = one_more e xs f k
    by false = omega arith
order_short p e xs (order.Up n) = omega arith
order_short p e xs (order.Crash n) = omega arith
order_short p e xs (order.Leave n) = omega arith
order_short p e xs (order.Tick n) = omega arith
order_short p e xs (order.Produce q n) = omega arith
order_short p e xs (order.Rest q) = omega arith
order_short p e xs (order.Passivate f) = omega arith
order_short p e xs (order.FailWrite f j) = omega arith
order_short p e xs (order.Deliver j) = omega arith
order_short p e xs (order.Pump j) = omega arith
order_short p e xs (order.Rebalance j) = omega arith
order_short p e xs order.Settle = omega arith
order_short p e xs (order.Reshard n) = omega arith
order_short p e xs order.Upgrade = omega arith
order_short p e xs (order.Ping q) = omega arith

all_short : (p : ℕ) (e : List ℕ) (xs : List Sending) (os : List Line) → length (plan_of e (fold (with_send_of p) xs os)) ≤ length (plan_of e xs) + length os
all_short p e xs [] = omega arith
all_short p e xs (l ∷ os) =
    let more : length (plan_of e (with_send_of p xs l)) ≤ length (plan_of e xs) + 1 = order_short p e xs l.order in
    let rest : length (plan_of e (fold (with_send_of p) (with_send_of p xs l) os)) ≤ length (plan_of e (with_send_of p xs l)) + length os = all_short p e (with_send_of p xs l) os in
    omega (arith, more, rest)

-- there are no more than there are orders
pub plan_short : (c : Script) (p : ℕ) (e : List ℕ) → length (plan c p e) ≤ length c.orders
plan_short c p e =
    let h : length (plan c p e) ≤ length (plan_of e []) + length c.orders = all_short p e [] c.orders in
    omega (arith, h)

-- Pairs: one is there where it has commands.

abbrev sent : List ℕ → List Sending → Bool
sent e xs = list_any (λ (x : Sending). is_name x.entity e) xs

or_false : (b : Bool) → (b || false) ≡ b
or_false true = refl
or_false false = refl

or_true : (b : Bool) → (b || true) ≡ true
or_true true = refl
or_true false = refl

any_push : {X : Type 0} (test : X → Bool) (xs : List X) (x : X) → list_any test (xs ++ x ∷ []) ≡ (list_any test xs || test x)
any_push test xs x = list_any-append test xs (x ∷ []) ∙ ap (λ b. list_any test xs || b) (or_false (test x))

abbrev AreKnown : List Pair → (ℕ → List Sending) → Type 0
AreKnown pairs s = (p : ℕ) (e : List ℕ) → list_any (is_pair p e) pairs ≡ sent e (s p)

known_more : (pairs : List Pair) (s : ℕ → List Sending) (o : Order) → AreKnown pairs s → (p : ℕ) (e : List ℕ) → list_any (is_pair p e) (with_pair pairs o) ≡ sent e (with_order p (s p) o)
known_more pairs s (order.Send q f k) h p e = left (list_any (is_pair q f) pairs) refl ∙ (ap (λ b. b || ((q == p) && is_name f e)) (h p e) ∙ sym (right (q == p)))
  where
    right : (b : Bool) → sent e (if b then with_send (s p) f k else s p) ≡ (sent e (s p) || (b && is_name f e))
    right true = any_push (λ (x : Sending). is_name x.entity e) (s p) (record { entity = f; number = count_to f (s p) + 1; command = k })
    right false = sym (or_false (sent e (s p)))

    there : list_any (is_pair q f) pairs ≡ true → (b : Bool) → ((q == p) && is_name f e) ≡ b → list_any (is_pair p e) pairs ≡ (list_any (is_pair p e) pairs || b)
    there t true is =
        let m : ((q == p) ≡ true) × (is_name f e ≡ true) = and_both (q == p) (is_name f e) is in
        let known : list_any (is_pair p e) pairs ≡ true = ap₂ (λ a b. list_any (is_pair a b) pairs) (sym (same_number q p m.0)) (sym (same_name f e m.1)) ∙ t in
        known ∙ sym (or_true (list_any (is_pair p e) pairs))
    there t false is = sym (or_false (list_any (is_pair p e) pairs))

    left : (b : Bool) → list_any (is_pair q f) pairs ≡ b
        → list_any (is_pair p e) (if b then pairs else pairs ++ record { producer = q; entity = f } ∷ []) ≡ (list_any (is_pair p e) pairs || ((q == p) && is_name f e))
    left true t = there t ((q == p) && is_name f e) refl
    left false t = any_push (is_pair p e) pairs (record { producer = q; entity = f })
known_more pairs s (order.Up n) h p e = h p e
known_more pairs s (order.Crash n) h p e = h p e
known_more pairs s (order.Leave n) h p e = h p e
known_more pairs s (order.Tick n) h p e = h p e
known_more pairs s (order.Produce q n) h p e = h p e
known_more pairs s (order.Rest q) h p e = h p e
known_more pairs s (order.Passivate f) h p e = h p e
known_more pairs s (order.FailWrite f j) h p e = h p e
known_more pairs s (order.Deliver j) h p e = h p e
known_more pairs s (order.Pump j) h p e = h p e
known_more pairs s (order.Rebalance j) h p e = h p e
known_more pairs s order.Settle h p e = h p e
known_more pairs s (order.Reshard n) h p e = h p e
known_more pairs s order.Upgrade h p e = h p e
known_more pairs s (order.Ping q) h p e = h p e

all_known : (os : List Line) (pairs : List Pair) (s : ℕ → List Sending) → AreKnown pairs s → AreKnown (fold (λ pairs (l : Line). with_pair pairs l.order) pairs os) (λ p. fold (with_send_of p) (s p) os)
all_known [] pairs s h = h
all_known (l ∷ os) pairs s h = all_known os (with_pair pairs l.order) (λ p. with_order p (s p) l.order) (known_more pairs s l.order h)

some_left : (e : List ℕ) (xs : List Sending) → (length (plan_of e xs) == 0) ≡ not (sent e xs)
some_left e [] = refl
some_left e (x ∷ xs) = by (is_name x.entity e) (some_left e xs)
  where
    more : (n : ℕ) → (suc n == 0) ≡ false
    more n = grind (arith, nat_tests)

    by : (b : Bool) → (length (plan_of e xs) == 0) ≡ not (sent e xs) → (length (map (λ (y : Sending). y.command) (cond b (x ∷ filter (λ (y : Sending). is_name y.entity e) xs) (filter (λ (y : Sending). is_name y.entity e) xs))) == 0) ≡ not (b || sent e xs)
    by true r = more (length (plan_of e xs))
    by false r = r

-- how many pairs there are with this one
pub pairs_more : (c : Script) (count : ℕ) (n p : ℕ) (e : List ℕ) (k : Command) → count ≡ length (pairs_in c.orders)
    → (if length (plan c p e) == 0 then count + 1 else count) ≡ length (pairs_in (with_command c n p e k).orders)
pairs_more c count n p e k is =
    let known : list_any (is_pair p e) (pairs_in c.orders) ≡ sent e (sends c p) = all_known c.orders [] (λ p. []) (λ p e. refl) p e in
    let none : (length (plan c p e) == 0) ≡ not (list_any (is_pair p e) (pairs_in c.orders)) = some_left e (sends c p) ∙ ap not (sym known) in
    ap (λ b. if b then count + 1 else count) none ∙ (by (list_any (is_pair p e) (pairs_in c.orders)) ∙ sym (ap length (fold-append (λ pairs (l : Line). with_pair pairs l.order) [] c.orders (line_of n p e k ∷ []))))
  where
    by : (b : Bool) → (if not b then count + 1 else count) ≡ length (if b then pairs_in c.orders else pairs_in c.orders ++ record { producer = p; entity = e } ∷ [])
    by true = is
    by false = ap (λ m. m + 1) is ∙ sym (length-append (pairs_in c.orders) (record { producer = p; entity = e } ∷ []))

-- the names with this one
pub names_more : (c : Script) (rows : List (List ℕ × List (List Command))) (count n p : ℕ) (e : List ℕ) (k : Command) → IsDesk c rows count
    → insert_key (slice_cmp nat_cmp) (keys_of rows) e ≡ names_in (with_command c n p e k).orders
names_more c rows count n p e k d = ap (λ l. insert_key (slice_cmp nat_cmp) l e) d.names ∙ sym (fold-append with_name_of [] c.orders (line_of n p e k ∷ []))

-- What a desk keeps.

pub desk_begun : (config : Config) (rows : List (List ℕ × List (List Command))) → IsTrue (is_config config) → rows ≡ [] → IsDesk (record { config = config; orders = [] }) rows 0
desk_begun config rows h none = subst (λ r. IsDesk (record { config = config; orders = [] }) r 0) (sym none) (record {
  heard = record { script = record { config = h; orders = refl; names = omega arith; pairs = omega arith; fits = omega arith }; sends = refl; few = omega arith };
  names = refl;
  plans = λ p e. none_of p;
  pairs = refl;
})
  where
    none_of : (p : ℕ) → slice_index_or (row_in None) p [] ≡ []
    none_of zero = refl
    none_of (suc p) = refl

pub desk_more : (c : Script) (rows new : List (List ℕ × List (List Command))) (count more n p : ℕ) (e : List ℕ) (k : Command) → IsDesk c rows count → HasOneMore rows new p e k → IsHeard (with_command c n p e k)
    → more ≡ length (pairs_in (with_command c n p e k).orders) → IsDesk (with_command c n p e k) new more
desk_more c rows new count more n p e k d m h is = record {
  heard = h;
  names = m.names ∙ names_more c rows count n p e k d;
  plans = λ q f. by q f ((p == q) && is_name e f) refl;
  pairs = is;
}
  where
    by : (q : ℕ) (f : List ℕ) (b : Bool) → ((p == q) && is_name e f) ≡ b → kept_of new q f ≡ plan (with_command c n p e k) q f
    by q f true t =
        let w : ((p == q) ≡ true) × (is_name e f ≡ true) = and_both (p == q) (is_name e f) t in
        let pq : p ≡ q = same_number p q w.0 in
        let ef : e ≡ f = same_name e f w.1 in
        ap₂ (λ a b. kept_of new a b) (sym pq) (sym ef) ∙ (m.here ∙ (ap (λ l. l ++ k ∷ []) (d.plans p e ∙ ap₂ (λ a b. plan c a b) pq ef)
        ∙ sym (plan_more c n p e k q f ∙ ap (λ b. plan c q f ++ (if b then k ∷ [] else [])) t)))
    by q f false t = m.others q f t ∙ (d.plans q f ∙ (sym (append-nil (plan c q f)) ∙ sym (plan_more c n p e k q f ∙ ap (λ b. plan c q f ++ (if b then k ∷ [] else [])) t)))

-- One command more keeps a script a script, where there is room for it, and nowhere else.

pub heard_more : (c : Script) (n p : ℕ) (e : List ℕ) (k : Command) → IsHeard c → is_order c.config (order.Send p e k) ≡ true → is_over mode.Log (with_command c n p e k) ≡ false → length c.orders < 20000
    → IsHeard (with_command c n p e k)
heard_more c n p e k h is over room =
    let d : Script = with_command c n p e k in
    let m : (nat_lt 1000 (length (names_in d.orders)) ≡ false) × (nat_lt 4000 (length (pairs_in d.orders)) ≡ false) = or_both (nat_lt 1000 (length (names_in d.orders))) (nat_lt 4000 (length (pairs_in d.orders))) over in
    let l : Line = line_of n p e k in
    let long : length (c.orders ++ l ∷ []) ≡ length c.orders + 1 = length-append c.orders (l ∷ []) in
    record {
      script = record {
        config = h.script.config;
        orders = list_all-append (λ (x : Line). is_order c.config x.order) c.orders (l ∷ []) ∙ both (list_all (λ (x : Line). is_order c.config x.order) c.orders) _ h.script.orders (both (is_order c.config l.order) true is refl);
        names = not_below 1000 (length (names_in d.orders)) m.0;
        pairs = not_below 4000 (length (pairs_in d.orders)) m.1;
        fits = subst (λ n. n ≤ 3000000) (sym long) (omega (arith, room));
      };
      sends = list_all-append (λ (x : Line). is_send x.order) c.orders (l ∷ []) ∙ both (list_all (λ (x : Line). is_send x.order) c.orders) _ h.sends refl;
      few = subst (λ n. n ≤ 20000) (sym long) (omega (arith, room));
    }

past : (n m : ℕ) → m < n → nat_le n m ≡ false
past n m h = grind (arith, nat_tests)

pub not_full : (n : ℕ) → nat_le 20000 n ≡ false → n < 20000
not_full n t = grind (arith, nat_tests)

within_limits : (m n : ℕ) → n ≤ m → nat_lt m n ≡ false
within_limits m n h = grind (arith, nat_tests)

heard_back : (c : Script) (n p : ℕ) (e : List ℕ) (k : Command) → IsHeard (with_command c n p e k) → may_enter c n (order.Send p e k) ≡ true
heard_back c n p e k h =
    let d : Script = with_command c n p e k in
    let l : Line = line_of n p e k in
    let ok : Line → Bool = λ (x : Line). is_order c.config x.order in
    let all : (list_all ok c.orders ≡ true) × (list_all ok (l ∷ []) ≡ true) = and_both (list_all ok c.orders) (list_all ok (l ∷ [])) (sym (list_all-append ok c.orders (l ∷ [])) ∙ h.script.orders) in
    let is : (is_order c.config l.order ≡ true) × (true ≡ true) = and_both (is_order c.config l.order) true all.1 in
    let names : nat_lt 1000 (length (names_in d.orders)) ≡ false = within_limits 1000 (length (names_in d.orders)) h.script.names in
    let pairs : nat_lt 4000 (length (pairs_in d.orders)) ≡ false = within_limits 4000 (length (pairs_in d.orders)) h.script.pairs in
    let over : not (is_over mode.Log d) ≡ true = ap₂ (λ a b. not (a || b)) names pairs in
    let long : length (c.orders ++ l ∷ []) ≡ length c.orders + 1 = length-append c.orders (l ∷ []) in
    let few : length (c.orders ++ l ∷ []) ≤ 20000 = h.few in
    let room : length c.orders < 20000 = omega (arith, long, few) in
    both (is_order c.config l.order && not (is_over mode.Log d)) (not (nat_le 20000 (length c.orders))) (both (is_order c.config l.order) (not (is_over mode.Log d)) is.0 over) (ap not (past 20000 (length c.orders) room))

pub may_not : (c : Script) (n : ℕ) (o : Order) → is_order c.config o ≡ false → false ≡ may_enter c n o
may_not c n o t = sym (ap (λ b. b && not (is_over mode.Log (with_line c n o)) && not (nat_le 20000 (length c.orders))) t)

pub may_not_over : (c : Script) (n : ℕ) (o : Order) → is_order c.config o ≡ true → is_over mode.Log (with_line c n o) ≡ true → false ≡ may_enter c n o
may_not_over c n o t u = sym (ap₂ (λ a b. a && not b && not (nat_le 20000 (length c.orders))) t u)

pub may_so : (c : Script) (n : ℕ) (o : Order) (b : Bool) → is_order c.config o ≡ true → is_over mode.Log (with_line c n o) ≡ false → b ≡ nat_le 20000 (length c.orders) → not b ≡ may_enter c n o
may_so c n o b t u full = ap not full ∙ sym (ap₂ (λ a b. a && not b && not (nat_le 20000 (length c.orders))) t u)

pub entered_heard : (c : Script) (n p : ℕ) (e : List ℕ) (k : Command) → IsHeard c → may_enter c n (order.Send p e k) ≡ true → IsHeard (with_command c n p e k)
entered_heard c n p e k h t =
    let a : ((is_order c.config (order.Send p e k) && not (is_over mode.Log (with_command c n p e k))) ≡ true) × (not (nat_le 20000 (length c.orders)) ≡ true) =
    and_both (is_order c.config (order.Send p e k) && not (is_over mode.Log (with_command c n p e k))) (not (nat_le 20000 (length c.orders))) t in
    let b : (is_order c.config (order.Send p e k) ≡ true) × (not (is_over mode.Log (with_command c n p e k)) ≡ true) = and_both (is_order c.config (order.Send p e k)) (not (is_over mode.Log (with_command c n p e k))) a.0 in
    heard_more c n p e k h b.0 (of_not (is_over mode.Log (with_command c n p e k)) b.1) (not_full (length c.orders) (of_not (nat_le 20000 (length c.orders)) a.1))

pub refused_not_heard : (c : Script) (n p : ℕ) (e : List ℕ) (k : Command) → may_enter c n (order.Send p e k) ≡ false → IsHeard (with_command c n p e k) → ⊥
refused_not_heard c n p e k t h = true≢false (sym (heard_back c n p e k h) ∙ t)

-- Answers.

pub again_told : (c : Script) (p : ℕ) (e : List ℕ) (n : ℕ) (k : Command) (h : Told) → n ≤ length (plan c p e)
    → answer_to (request_for p e n k) h ≡ (if is_command (slice_index_or (plan c p e) (n - 1) k) k then Done p e n else Conflict p e n (slice_index_or (plan c p e) (n - 1) k))
    → told c (request_for p e n k) h ≡ requested c (request_for p e n k)
again_told c p e n k h few is =
    ap (still (Some c)) is
    ∙ sym (ap (λ b. if b then again c (request_for p e n k) (slice_index_or (plan c p e) (n - 1) k) else if n == length (plan c p e) + 1 then accepted c (request_for p e n k) else still (Some c) (Gap p e n (length (plan c p e) + 1)))
    (within n (length (plan c p e)) few))

pub gap_told : (c : Script) (p : ℕ) (e : List ℕ) (n next : ℕ) (k : Command) → length (plan c p e) < n → (n == length (plan c p e) + 1) ≡ false → next ≡ length (plan c p e) + 1
    → told c (request_for p e n k) (say.Gap next) ≡ requested c (request_for p e n k)
gap_told c p e n next k over other is =
    ap (λ m. still (Some c) (Gap p e n m)) is
    ∙ sym (ap₂ (λ a b. if a then again c (request_for p e n k) (slice_index_or (plan c p e) (n - 1) k) else if b then accepted c (request_for p e n k) else still (Some c) (Gap p e n (length (plan c p e) + 1)))
    (past n (length (plan c p e)) over) other)

pub next_told : (c d : Script) (p : ℕ) (e : List ℕ) (n : ℕ) (k : Command) (h : Told) → n ≡ length (plan c p e) + 1 → told d (request_for p e n k) h ≡ accepted c (request_for p e n k)
    → told d (request_for p e n k) h ≡ requested c (request_for p e n k)
next_told c d p e n k h is eq =
    let over : length (plan c p e) < n = omega (arith, is) in
    eq ∙ sym (ap₂ (λ a b. if a then again c (request_for p e n k) (slice_index_or (plan c p e) (n - 1) k) else if b then accepted c (request_for p e n k) else still (Some c) (Gap p e n (length (plan c p e) + 1)))
    (past n (length (plan c p e)) over) (number_itself n (length (plan c p e) + 1) is))

pub over_told : (c : Script) (p : ℕ) (e : List ℕ) (n : ℕ) (k : Command) → is_over mode.Log (with_command c (length c.orders + 1) p e k) ≡ true
    → told c (request_for p e n k) (say.Refused why.OutOfRange) ≡ accepted c (request_for p e n k)
over_told c p e n k t =
    sym (ap (λ b. if b then still (Some c) (Refused why.OutOfRange) else if nat_le 20000 (length c.orders) then still (Some c) (Refused why.TooManyLines)
    else record { so_far = Some (with_request c (request_for p e n k)); answer = Done p e n }) t)

pub full_told : (c : Script) (p : ℕ) (e : List ℕ) (n : ℕ) (k : Command) → is_over mode.Log (with_command c (length c.orders + 1) p e k) ≡ false → 20000 ≤ length c.orders
    → told c (request_for p e n k) (say.Refused why.TooManyLines) ≡ accepted c (request_for p e n k)
full_told c p e n k t full =
    sym (ap₂ (λ a b. if a then still (Some c) (Refused why.OutOfRange) else if b then still (Some c) (Refused why.TooManyLines)
    else record { so_far = Some (with_request c (request_for p e n k)); answer = Done p e n }) t (within 20000 (length c.orders) full))

pub done_told : (c d : Script) (p : ℕ) (e : List ℕ) (n : ℕ) (k : Command) → is_over mode.Log (with_command c (length c.orders + 1) p e k) ≡ false → length c.orders < 20000 → d ≡ with_command c (length c.orders + 1) p e k
    → told d (request_for p e n k) say.Done ≡ accepted c (request_for p e n k)
done_told c d p e n k t room is =
    ap (λ s. told s (request_for p e n k) say.Done) is
    ∙ sym (ap₂ (λ a b. if a then still (Some c) (Refused why.OutOfRange) else if b then still (Some c) (Refused why.TooManyLines)
    else record { so_far = Some (with_request c (request_for p e n k)); answer = Done p e n }) t (past 20000 (length c.orders) room))

-- Names and pairs that are counted.

pub over_by_names : (c : Script) (n p : ℕ) (e : List ℕ) (k : Command) (names : ℕ) → names ≡ length (names_in (with_command c n p e k).orders) → 1000 < names → nat_lt 1000 names ≡ is_over mode.Log (with_command c n p e k)
over_by_names c n p e k names is over =
    is_below 1000 names over ∙ sym (ap (λ b. b || nat_lt 4000 (length (pairs_in (with_command c n p e k).orders))) (ap (nat_lt 1000) (sym is) ∙ is_below 1000 names over))

pub over_by_pairs : (c : Script) (n p : ℕ) (e : List ℕ) (k : Command) (names pairs : ℕ) → names ≡ length (names_in (with_command c n p e k).orders) → names ≤ 1000
    → pairs ≡ length (pairs_in (with_command c n p e k).orders) → nat_lt 4000 pairs ≡ is_over mode.Log (with_command c n p e k)
over_by_pairs c n p e k names pairs is few are =
    ap (nat_lt 4000) are ∙ sym (ap (λ b. b || nat_lt 4000 (length (pairs_in (with_command c n p e k).orders))) (ap (nat_lt 1000) (sym is) ∙ within_limits 1000 names few))

-- how many names there are with that of a command more
pub names_counted : (c d : Script) (rows : List (List ℕ × List (List Command))) (count n p : ℕ) (e : List ℕ) (k : Command) (names : ℕ) → IsDesk c rows count → c ≡ d
    → names ≡ length (insert_key (slice_cmp nat_cmp) (keys_of rows) e) → names ≡ length (names_in (with_command d n p e k).orders)
names_counted c d rows count n p e k names desk same is = is ∙ (ap length (names_more c rows count n p e k desk) ∙ ap (λ (v : Script). length (names_in (with_command v n p e k).orders)) same)
