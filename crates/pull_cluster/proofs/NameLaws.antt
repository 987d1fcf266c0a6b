-- The names of the jobs are different.
use Rattle.std.proofs.Common.{◌≡◌, ◌≢◌, ℕ, zero, suc, ◌+◌, ◌<◌, ◌≤◌, sym, ap, ◌∙◌, refl, subst, arith, length, get_or}
use Rattle.std.specs.Prelude.{Bool, true, false, ◌==◌, nat_lt, List, [], ◌∷◌, ◌++◌, filter, fold, map, Some, if◌then◌else◌}
use Rattle.std.specs.List.{list_all, slice_get}
use Rattle.std.proofs.lemmas.List.{length-map}
use Rattle.yard_model.specs.declared.charter.Line.{Line}
use Rattle.yard_model.specs.declared.charter.Order.{Order}
use Rattle.yard_model.specs.declared.charter.Order.TheVariants as order
use Rattle.yard_model.specs.declared.charter.Sending.{Sending}
use Rattle.yard_model.specs.Script.{Script, is_name, with_order, with_send_of, count_to, sends, sends_in}
use Rattle.plain_laws.proofs.Booleans.{true_is_not_false, and_both, both, same_number, same_name, below, not_below}
use Rattle.plain_laws.proofs.Lists.{none_is_not_some, some_is, all_got}
use Rattle.plain_laws.proofs.Names.{name_itself}
use Rattle.pull_laws.specs.PullSafe.{IsPulled}
use Rattle.pull_laws.proofs.Small.{positive}
use Rattle.pull_cluster.specs.Cluster.{names_of, name_at}

-- Lists with one item more.

pub get_front : {A : Type 0} (xs ys : List A) (i : ℕ) → i < length xs → slice_get (xs ++ ys) i ≡ slice_get xs i
get_front [] ys i lt = absurd (below_none i lt)
  where
    below_none : (i : ℕ) → i < 0 → ⊥
    below_none i lt = omega (arith, lt)
get_front (x ∷ xs) ys zero lt = refl
get_front (x ∷ xs) ys (suc i) lt = get_front xs ys i (omega (arith, lt))

pub get_last : {A : Type 0} (xs : List A) (x : A) → slice_get (xs ++ x ∷ []) (length xs) ≡ Some x
get_last [] x = refl
get_last (y ∷ ys) x = get_last ys x

pub got_below : {A : Type 0} (xs : List A) (i : ℕ) (x : A) → slice_get xs i ≡ Some x → i < length xs
got_below [] i x e = absurd (none_is_not_some x e)
got_below (y ∷ ys) zero x e = positive_length (length ys)
  where
    positive_length : (n : ℕ) → 0 < suc n
    positive_length n = omega arith
got_below (y ∷ ys) (suc i) x e = more i (length ys) (got_below ys i x e)
  where
    more : (n m : ℕ) → n < m → suc n < suc m
    more n m h = omega (arith, h)

pub got_is : {A : Type 0} (xs : List A) (i : ℕ) (d : A) → i < length xs → slice_get xs i ≡ Some (get_or xs i d)
got_is [] i d lt = absurd (below_none i lt)
  where
    below_none : (i : ℕ) → i < 0 → ⊥
    below_none i lt = omega (arith, lt)
got_is (x ∷ xs) zero d lt = refl
got_is (x ∷ xs) (suc i) d lt = got_is xs i d (omega (arith, lt))

pub long_push : {A : Type 0} (xs : List A) (x : A) → length (xs ++ x ∷ []) ≡ suc (length xs)
long_push [] x = refl
long_push (y ∷ ys) x = ap suc (long_push ys x)

-- the front is there, or the last
pub got_more : {A : Type 0} (P : Type 0) (xs : List A) (x : A) (i : ℕ) (y : A) → slice_get (xs ++ x ∷ []) i ≡ Some y → (slice_get xs i ≡ Some y → P) → (i ≡ length xs → x ≡ y → P) → P
got_more P xs x i y e front last = by (nat_lt i (length xs)) refl
  where
    at_end : (i n : ℕ) → i < suc n → n ≤ i → i ≡ n
    at_end i n lt le = omega (arith, lt, le)

    ends : i < length (xs ++ x ∷ []) → length xs ≤ i → i ≡ length xs
    ends lt le = at_end i (length xs) (subst (λ n. i < n) (long_push xs x) lt) le

    by : (b : Bool) → nat_lt i (length xs) ≡ b → P
    by true f = front (sym (get_front xs (x ∷ []) i (below i (length xs) f)) ∙ e)
    by false f =
        let at : i ≡ length xs = ends (got_below (xs ++ x ∷ []) i y e) (not_below i (length xs) f) in
        last at (some_is x y (sym (get_last xs x) ∙ (ap (slice_get (xs ++ x ∷ [])) (sym at) ∙ e)))

-- Names.

-- a name that isn't sent to is none of them
pub none_named : (e : List ℕ) (xs : List Sending) (i : ℕ) (x : Sending) → count_to e xs ≡ 0 → slice_get xs i ≡ Some x → is_name x.entity e ≡ false
none_named e [] i x n g = absurd (none_is_not_some x g)
none_named e (y ∷ ys) i x n g = by (λ none j h. none_named e ys j x none h) (is_name y.entity e) refl i g
  where
    suc_is_not_none : (k : ℕ) → suc k ≡ 0 → ⊥
    suc_is_not_none k h = omega (arith, h)

    counted : (b : Bool) → is_name y.entity e ≡ b → length (if b then y ∷ filter (λ (z : Sending). is_name z.entity e) ys else filter (λ (z : Sending). is_name z.entity e) ys) ≡ 0
    counted b f = ap (λ c. length (if c then y ∷ filter (λ (z : Sending). is_name z.entity e) ys else filter (λ (z : Sending). is_name z.entity e) ys)) (sym f) ∙ n

    by : (count_to e ys ≡ 0 → (j : ℕ) → slice_get ys j ≡ Some x → is_name x.entity e ≡ false) → (b : Bool) → is_name y.entity e ≡ b → (i : ℕ) → slice_get (y ∷ ys) i ≡ Some x → is_name x.entity e ≡ false
    by rest true f i g = absurd (suc_is_not_none (count_to e ys) (counted true f))
    by rest false f zero g = ap (λ (z : Sending). is_name z.entity e) (sym (some_is y x g)) ∙ f
    by rest false f (suc i) g = rest (counted false f) i g

-- and back
pub named_none : (e : List ℕ) (xs : List Sending) → ((i : ℕ) (x : Sending) → slice_get xs i ≡ Some x → is_name x.entity e ≡ false) → count_to e xs ≡ 0
named_none e [] h = refl
named_none e (y ∷ ys) h = ap (λ c. length (if c then y ∷ filter (λ (z : Sending). is_name z.entity e) ys else filter (λ (z : Sending). is_name z.entity e) ys)) (h 0 y refl) ∙ named_none e ys (λ i x g. h (suc i) x g)

-- a name that is one of them is sent to
pub some_named : (xs : List Sending) (i : ℕ) (x : Sending) → slice_get xs i ≡ Some x → nat_lt 0 (count_to x.entity xs) ≡ true
some_named [] i x g = absurd (none_is_not_some x g)
some_named (y ∷ ys) i x g = by (λ j h. some_named ys j x h) (is_name y.entity x.entity) refl i g
  where
    pick : Bool → Bool
    pick c = nat_lt 0 (length (if c then y ∷ filter (λ (z : Sending). is_name z.entity x.entity) ys else filter (λ (z : Sending). is_name z.entity x.entity) ys))

    by : ((j : ℕ) → slice_get ys j ≡ Some x → nat_lt 0 (count_to x.entity ys) ≡ true) → (b : Bool) → is_name y.entity x.entity ≡ b → (i : ℕ) → slice_get (y ∷ ys) i ≡ Some x → pick (is_name y.entity x.entity) ≡ true
    by rest true f i g = ap pick f ∙ positive (count_to x.entity ys)
    by rest false f zero g = absurd (true_is_not_false (sym (name_itself x.entity) ∙ (ap (λ (z : Sending). is_name z.entity x.entity) (sym (some_is y x g)) ∙ f)))
    by rest false f (suc i) g = ap pick f ∙ rest i g

pub count_push : (e : List ℕ) (xs : List Sending) (x : Sending) → count_to e (xs ++ x ∷ []) ≡ count_to e xs + (if is_name x.entity e then 1 else 0)
count_push e [] x = by (is_name x.entity e)
  where
    by : (b : Bool) → length (if b then x ∷ [] else []) ≡ 0 + (if b then 1 else 0)
    by true = refl
    by false = refl
count_push e (y ∷ ys) x = by (is_name y.entity e) (count_push e ys x)
  where
    n : ℕ
    n = if is_name x.entity e then 1 else 0

    more : (a b : ℕ) → a ≡ b + n → suc a ≡ suc b + n
    more a b h = omega (arith, h)

    by : (b : Bool) → count_to e (ys ++ x ∷ []) ≡ count_to e ys + n
        → length (if b then y ∷ filter (λ (z : Sending). is_name z.entity e) (ys ++ x ∷ []) else filter (λ (z : Sending). is_name z.entity e) (ys ++ x ∷ [])) ≡ length (if b then y ∷ filter (λ (z : Sending). is_name z.entity e) ys else filter (λ (z : Sending). is_name z.entity e) ys) + n
    by true h = more (count_to e (ys ++ x ∷ [])) (count_to e ys) h
    by false h = h

-- The sends of a script of which each name is sent once.

-- names at different places are different
abbrev pub Apart : List Sending → Type 0
Apart xs = (i j : ℕ) (x y : Sending) → i < j → slice_get xs i ≡ Some x → slice_get xs j ≡ Some y → is_name x.entity y.entity ≡ false

apart_push : (xs : List Sending) (z : Sending) → count_to z.entity xs ≡ 0 → Apart xs → Apart (xs ++ z ∷ [])
apart_push xs z n a i j x y lt f g = got_more (is_name x.entity y.entity ≡ false) xs z j y g
    (λ old. a i j x y lt (sym (get_front xs (z ∷ []) i (earlier (got_below xs j y old))) ∙ f) old)
    (λ at is. ap (is_name x.entity) (ap (λ (w : Sending). w.entity) (sym is)) ∙ none_named z.entity xs i x n (sym (get_front xs (z ∷ []) i (subst (λ k. i < k) at lt)) ∙ f))
  where
    earlier : j < length xs → i < length xs
    earlier l = before i j (length xs) lt l
      where
        before : (i j n : ℕ) → i < j → j < n → i < n
        before i j n a b = omega (arith, a, b)

abbrev is_one : Sending → Bool
is_one j = j.number == 1

all_front : (p : Sending → Bool) (xs ys : List Sending) → list_all p (xs ++ ys) ≡ true → list_all p xs ≡ true
all_front p [] ys h = refl
all_front p (x ∷ xs) ys h = both (p x) (list_all p xs) (and_both (p x) (list_all p (xs ++ ys)) h).0 (all_front p xs ys (and_both (p x) (list_all p (xs ++ ys)) h).1)

all_last : (p : Sending → Bool) (xs : List Sending) (y : Sending) → list_all p (xs ++ y ∷ []) ≡ true → p y ≡ true
all_last p [] y h = (and_both (p y) true h).0
all_last p (x ∷ xs) y h = all_last p xs y (and_both (p x) (list_all p (xs ++ y ∷ [])) h).1

grown_order : (acc : List Sending) (o : Order) → list_all is_one (with_order 1 acc o) ≡ true → list_all is_one acc ≡ true
grown_order acc (order.Send q e k) h = by (q == 1) h
  where
    j : Sending
    j = record { entity = e; number = count_to e acc + 1; command = k }

    by : (b : Bool) → list_all is_one (if b then acc ++ j ∷ [] else acc) ≡ true → list_all is_one acc ≡ true
    by true h = all_front is_one acc (j ∷ []) h
    by false h = h
grown_order acc o h = h

grown_lines : (ls : List Line) (acc : List Sending) → list_all is_one (fold (with_send_of 1) acc ls) ≡ true → list_all is_one acc ≡ true
grown_lines [] acc h = h
grown_lines (l ∷ ls) acc h = grown_order acc l.order (grown_lines ls (with_order 1 acc l.order) h)

apart_order : (acc : List Sending) (o : Order) → list_all is_one (with_order 1 acc o) ≡ true → Apart acc → Apart (with_order 1 acc o)
apart_order acc (order.Send q e k) h a = by (q == 1) h
  where
    j : Sending
    j = record { entity = e; number = count_to e acc + 1; command = k }

    first : (n : ℕ) → n + 1 ≡ 1 → n ≡ 0
    first n e = omega (arith, e)

    by : (b : Bool) → list_all is_one (if b then acc ++ j ∷ [] else acc) ≡ true → Apart (if b then acc ++ j ∷ [] else acc)
    by true h = apart_push acc j (first (count_to e acc) (same_number (count_to e acc + 1) 1 (all_last is_one acc j h))) a
    by false h = a
apart_order acc o h a = a

apart_lines : (ls : List Line) (acc : List Sending) → list_all is_one (fold (with_send_of 1) acc ls) ≡ true → Apart acc → Apart (fold (with_send_of 1) acc ls)
apart_lines [] acc h a = a
apart_lines (l ∷ ls) acc h a = apart_lines ls (with_order 1 acc l.order) h (apart_order acc l.order (grown_lines ls (with_order 1 acc l.order) h) a)

pub sends_apart : (c : Script) → IsPulled c → Apart (sends c 1)
sends_apart c is = apart_lines c.orders [] is.once (λ i j x y lt f g. absurd (none_is_not_some x f))

-- each send has number 1
pub number_one : (c : Script) → IsPulled c → (i : ℕ) (j : Sending) → slice_get (sends c 1) i ≡ Some j → j.number ≡ 1
number_one c is i j g = same_number j.number 1 (all_got is_one (sends c 1) i j is.once g)

-- Names by place.

pub names_long : (c : Script) → length (names_of c) ≡ length (sends c 1)
names_long c = length-map (sends c 1) (λ (j : Sending). j.entity)

named_at : (xs : List Sending) (i : ℕ) (j : Sending) → slice_get xs i ≡ Some j → get_or (map (λ (x : Sending). x.entity) xs) i [] ≡ j.entity
named_at [] i j g = absurd (none_is_not_some j g)
named_at (x ∷ xs) zero j g = ap (λ (y : Sending). y.entity) (some_is x j g)
named_at (x ∷ xs) (suc i) j g = named_at xs i j g

pub name_is : (c : Script) (i : ℕ) (j : Sending) → slice_get (sends c 1) i ≡ Some j → name_at c i ≡ j.entity
name_is c i j g = named_at (sends c 1) i j g

name_turned : (a b : List ℕ) → is_name a b ≡ false → is_name b a ≡ false
name_turned a b e = by (is_name b a) refl
  where
    by : (t : Bool) → is_name b a ≡ t → is_name b a ≡ false
    by true f = absurd (true_is_not_false (sym (name_itself b) ∙ (ap (λ x. is_name x b) (same_name b a f) ∙ e)))
    by false f = f

pub names_differ : (c : Script) → IsPulled c → (i j : ℕ) → i < length (sends c 1) → j < length (sends c 1) → i ≢ j → is_name (name_at c i) (name_at c j) ≡ false
names_differ c is i j il jl n = by (sends c 1) refl
  where
    by : (xs : List Sending) → sends c 1 ≡ xs → is_name (name_at c i) (name_at c j) ≡ false
    by [] e = absurd (below_none i (subst (λ (l : List Sending). i < length l) e il))
      where
        below_none : (i : ℕ) → i < 0 → ⊥
        below_none i lt = omega (arith, lt)
    by (d ∷ ds) e = order_by (nat_lt i j) refl
      where
        x : Sending
        x = get_or (sends c 1) i d

        y : Sending
        y = get_or (sends c 1) j d

        gx : slice_get (sends c 1) i ≡ Some x
        gx = got_is (sends c 1) i d il

        gy : slice_get (sends c 1) j ≡ Some y
        gy = got_is (sends c 1) j d jl

        names : is_name x.entity y.entity ≡ false → is_name (name_at c i) (name_at c j) ≡ false
        names f = ap (λ a. is_name a (name_at c j)) (name_is c i x gx) ∙ (ap (is_name x.entity) (name_is c j y gy) ∙ f)

        above : j ≤ i → i ≢ j → j < i
        above le n = above_by i j le n
          where
            above_by : (i j : ℕ) → j ≤ i → i ≢ j → j < i
            above_by i j le n = grind (arith, le, n)

        order_by : (b : Bool) → nat_lt i j ≡ b → is_name (name_at c i) (name_at c j) ≡ false
        order_by true f = names (sends_apart c is i j x y (below i j f) gx gy)
        order_by false f = names (name_turned y.entity x.entity (sends_apart c is j i y x (above (not_below i j f) n) gy gx))

-- no more sends than orders
pub sends_few : (p : ℕ) (orders : List Line) → length (sends_in p orders) ≤ length orders
sends_few p orders = no_more (length (sends_in p orders)) (length orders) (grown orders [])
  where
    no_more : (a n : ℕ) → a ≤ 0 + n → a ≤ n
    no_more a n h = omega (arith, h)

    pushed : (xs : List Sending) (x : Sending) (b : Bool) → length (if b then xs ++ x ∷ [] else xs) ≤ suc (length xs)
    pushed xs x true = subst (λ n. n ≤ suc (length xs)) (sym (long_push xs x)) (same (suc (length xs)))
      where
        same : (n : ℕ) → n ≤ n
        same n = omega arith
    pushed xs x false = next (length xs)
      where
        next : (n : ℕ) → n ≤ suc n
        next n = omega arith

    at_most : (n : ℕ) → n ≤ suc n
    at_most n = omega arith

    one : (xs : List Sending) (o : Order) → length (with_order p xs o) ≤ suc (length xs)
    one xs (order.Send q e k) = pushed xs (record { entity = e; number = count_to e xs + 1; command = k }) (q == p)
    one xs o = at_most (length xs)

    step : (a b c n : ℕ) → a ≤ b + n → b ≤ suc c → a ≤ c + suc n
    step a b c n f g = omega (arith, f, g)

    grown : (rest : List Line) (xs : List Sending) → length (fold (with_send_of p) xs rest) ≤ length xs + length rest
    grown [] xs = omega arith
    grown (l ∷ rest) xs = step (length (fold (with_send_of p) (with_order p xs l.order) rest)) (length (with_order p xs l.order)) (length xs) (length rest) (grown rest (with_order p xs l.order)) (one xs l.order)
