-- Where few commands are outstanding the wire has room for their settling; a script of few orders sends few.
use Rattle.std.proofs.Common.{◌≡◌, ◌<◌, ◌≤◌, ℕ, zero, suc, ◌+◌, ◌-◌, ◌*◌, List, [], ◌∷◌, ◌++◌, length, sym, ap, subst, ◌∙◌, refl, true, false, arith, length-append}
use Rattle.std.specs.Prelude.{Bool, ◌==◌, ◌&&◌, nat_le, fold, sum_by, if◌then◌else◌}
use Rattle.std.proofs.lemmas.List.Sums.{sum_by-cons}
use Rattle.yard_model.specs.declared.charter.Config.{Config}
use Rattle.yard_model.specs.declared.charter.Line.{Line}
use Rattle.yard_model.specs.declared.charter.Order.{Order}
use Rattle.yard_model.specs.declared.charter.Order.TheVariants as order
use Rattle.yard_model.specs.declared.charter.Sending.{Sending}
use Rattle.yard_model.specs.Behaviour.{is_in}
use Rattle.yard_model.specs.Script.{Script, IsScript, setting, count_to, sends, with_order, with_send_of}
use Rattle.yard_model.specs.Words.{numbers}
use Rattle.yard_model.specs.World.{given_world, ordered_of, wire_limit}
use Rattle.plain_laws.proofs.Booleans.{and_both, at_most, same_number}
use Rattle.settle_laws.specs.Settles.{FewOrdersFit, OutstandingFits, outstanding_in_all}
use Rattle.settle_laws.proofs.Lonely.{differ}
use Rattle.settle_laws.proofs.Records.{le_itself, le_then}
use Rattle.settle_laws.proofs.Tops.{most_is, given_ordered}
use Rattle.settle_laws.proofs.Whole.{out_of, outs_of, producer_in}

-- how many sends of p an order brings
abbrev pub sends_by : ℕ → Order → ℕ
sends_by p (order.Send q e c) = if q == p then 1 else 0
sends_by p o = 0

one_more : (p : ℕ) (o : Order) (xs : List Sending) → length (with_order p xs o) ≡ length xs + sends_by p o
one_more p (order.Send q e c) xs = by (q == p)
  where
    none : (n : ℕ) → n ≡ n + 0
    none n = omega arith

    by : (t : Bool) → length (if t then xs ++ record { entity = e; number = count_to e xs + 1; command = c } ∷ [] else xs) ≡ length xs + (if t then 1 else 0)
    by true = length-append xs (record { entity = e; number = count_to e xs + 1; command = c } ∷ [])
    by false = none (length xs)
one_more p o xs = none (length xs)
  where
    none : (n : ℕ) → n ≡ n + 0
    none n = omega arith

abbrev pub all_by : ℕ → List Line → ℕ
all_by p [] = 0
all_by p (l ∷ ls) = sends_by p l.order + all_by p ls

pub all_more : (p : ℕ) (ls : List Line) (xs : List Sending) → length (fold (with_send_of p) xs ls) ≡ length xs + all_by p ls
all_more p [] xs = none (length xs)
  where
    none : (n : ℕ) → n ≡ n + 0
    none n = omega arith
all_more p (l ∷ ls) xs = all_more p ls (with_order p xs l.order) ∙ (ap (λ n. n + all_by p ls) (one_more p l.order xs) ∙ joined (length xs) (sends_by p l.order) (all_by p ls))
  where
    joined : (a b c : ℕ) → a + b + c ≡ a + (b + c)
    joined a b c = omega arith

-- an order brings one at most
none_above : (q n a : ℕ) → q < a → sum_by (λ p. if q == p then 1 else 0) (numbers a n) ≤ 0
none_above q zero a h = le_itself 0
none_above q (suc n) a h = subst (λ m. m ≤ 0) (sym (sum_by-cons (λ p. if q == p then 1 else 0) a (numbers (a + 1) n) ∙ ap (λ t. (if t then 1 else 0) + sum_by (λ p. if q == p then 1 else 0) (numbers (a + 1) n)) (differ q a (apart q a h)))) (zero_plus (sum_by (λ p. if q == p then 1 else 0) (numbers (a + 1) n)) (none_above q n (a + 1) (more q a h)))
  where
    apart : (q a : ℕ) → q < a → q ≡ a → ⊥
    apart q a h e = omega (arith, h, e)

    more : (q a : ℕ) → q < a → q < a + 1
    more q a h = omega (arith, h)

    zero_plus : (n : ℕ) → n ≤ 0 → 0 + n ≤ 0
    zero_plus n h = omega (arith, h)

one_of : (q n a : ℕ) → sum_by (λ p. if q == p then 1 else 0) (numbers a n) ≤ 1
one_of q zero a = omega arith
one_of q (suc n) a = subst (λ m. m ≤ 1) (sym (sum_by-cons (λ p. if q == p then 1 else 0) a (numbers (a + 1) n))) (by (q == a) refl (one_of q n (a + 1)))
  where
    rest : ℕ
    rest = sum_by (λ p. if q == p then 1 else 0) (numbers (a + 1) n)

    next : (q a : ℕ) → q ≡ a → q < a + 1
    next q a e = omega (arith, e)

    one_plus : (n : ℕ) → n ≤ 0 → 1 + n ≤ 1
    one_plus n h = omega (arith, h)

    zero_plus : (n : ℕ) → n ≤ 1 → 0 + n ≤ 1
    zero_plus n h = omega (arith, h)

    by : (t : Bool) → (q == a) ≡ t → rest ≤ 1 → (if t then 1 else 0) + rest ≤ 1
    by true e h = one_plus rest (none_above q n (a + 1) (next q a (same_number q a e)))
    by false e h = zero_plus rest h

order_one : (o : Order) (n a : ℕ) → sum_by (λ p. sends_by p o) (numbers a n) ≤ 1
order_one (order.Send q e c) n a = one_of q n a
order_one o n a = none (numbers a n)
  where
    none : (ps : List ℕ) → sum_by (λ p. 0) ps ≤ 1
    none ps = le_then (sum_by (λ p. 0) ps) 0 1 (zeros ps) (omega arith)
      where
        zeros : (ps : List ℕ) → sum_by (λ p. 0) ps ≤ 0
        zeros [] = le_itself 0
        zeros (p ∷ ps) = subst (λ m. m ≤ 0) (sym (sum_by-cons (λ p. 0) p ps)) (zero_plus (sum_by (λ p. 0) ps) (zeros ps))
          where
            zero_plus : (n : ℕ) → n ≤ 0 → 0 + n ≤ 0
            zero_plus n h = omega (arith, h)

sum_both : (f g : ℕ → ℕ) (ps : List ℕ) → sum_by (λ p. f p + g p) ps ≡ sum_by f ps + sum_by g ps
sum_both f g [] = refl
sum_both f g (p ∷ ps) = sum_by-cons (λ p. f p + g p) p ps ∙ (ap (λ n. f p + g p + n) (sum_both f g ps) ∙ (swap (f p) (g p) (sum_by f ps) (sum_by g ps) ∙ sym (both (sum_by-cons f p ps) (sum_by-cons g p ps))))
  where
    swap : (a b x y : ℕ) → a + b + (x + y) ≡ a + x + (b + y)
    swap a b x y = omega arith

    both : {a b x y : ℕ} → a ≡ x → b ≡ y → a + b ≡ x + y
    both {b = b} {x = x} e g = ap (λ n. n + b) e ∙ ap (λ n. x + n) g

all_orders : (ls : List Line) (n a : ℕ) → sum_by (λ p. all_by p ls) (numbers a n) ≤ length ls
all_orders [] n a = zeros (numbers a n)
  where
    zeros : (ps : List ℕ) → sum_by (λ p. 0) ps ≤ 0
    zeros [] = le_itself 0
    zeros (p ∷ ps) = subst (λ m. m ≤ 0) (sym (sum_by-cons (λ p. 0) p ps)) (zero_plus (sum_by (λ p. 0) ps) (zeros ps))
      where
        zero_plus : (n : ℕ) → n ≤ 0 → 0 + n ≤ 0
        zero_plus n h = omega (arith, h)
all_orders (l ∷ ls) n a = subst (λ m. m ≤ suc (length ls)) (sym (sum_both (λ p. sends_by p l.order) (λ p. all_by p ls) (numbers a n))) (sums (sum_by (λ p. sends_by p l.order) (numbers a n)) (sum_by (λ p. all_by p ls) (numbers a n)) (length ls) (order_one l.order n a) (all_orders ls n a))
  where
    sums : (x y n : ℕ) → x ≤ 1 → y ≤ n → x + y ≤ suc n
    sums x y n h k = omega (arith, h, k)

-- each number
sum_within : (f g : ℕ → ℕ) (n a : ℕ) → ((p : ℕ) → a ≤ p → p < a + n → f p ≤ g p) → sum_by f (numbers a n) ≤ sum_by g (numbers a n)
sum_within f g zero a h = le_itself 0
sum_within f g (suc n) a h = subst (λ m. m ≤ sum_by g (a ∷ numbers (a + 1) n)) (sym (sum_by-cons f a (numbers (a + 1) n))) (subst (λ m. f a + sum_by f (numbers (a + 1) n) ≤ m) (sym (sum_by-cons g a (numbers (a + 1) n))) (sums (f a) (g a) (sum_by f (numbers (a + 1) n)) (sum_by g (numbers (a + 1) n)) (h a (le_itself a) (in_range a n)) (sum_within f g n (a + 1) (λ p l k. h p (down a p l) (unshift a n p k)))))
  where
    sums : (a b c d : ℕ) → a ≤ b → c ≤ d → a + c ≤ b + d
    sums a b c d h k = omega (arith, h, k)

    in_range : (a n : ℕ) → a < a + suc n
    in_range a n = omega arith

    down : (a p : ℕ) → a + 1 ≤ p → a ≤ p
    down a p h = omega (arith, h)

    unshift : (a n p : ℕ) → p < a + 1 + n → p < a + suc n
    unshift a n p h = omega (arith, h)

-- a script has few shards, and few names
few_shards : (c : Script) → IsScript c → c.config.shards ≤ 128
few_shards c script = at_most c.config.shards 128 (and_both (nat_le 1 c.config.shards) (nat_le c.config.shards 128) (second (is_in 1 16 k.nodes) (is_in 1 128 k.shards) (is_in 1 32 k.producers) (is_in 1 1000 k.buffer) (is_in 1 64 k.window) (is_in 1 10000 k.snapshot) (is_in 1 10 k.keep) script.config)).1
  where
    k : Config
    k = c.config

    second : (a b d e f g h : Bool) → (a && b && d && e && f && g && h) ≡ true → b ≡ true
    second a b d e f g h t = (and_both a b (and_both (a && b) d (and_both (a && b && d) e (and_both (a && b && d && e) f (and_both (a && b && d && e && f) g (and_both (a && b && d && e && f && g) h t).0).0).0).0).0).1

pub outstanding_fits : OutstandingFits
outstanding_fits c version lists script few = fits (outstanding_in_all (given_world c version lists)) c.config.shards (length (setting c).names) few (few_shards c script) script.names
  where
    fits : (o s n : ℕ) → o ≤ 40000 → s ≤ 128 → n ≤ 1000 → 24 * o + 18 * s + n + 3 ≤ 1000000
    fits o s n h k j = omega (arith, h, k, j)

pub few_orders_fit : FewOrdersFit
few_orders_fit c version lists script few = subst (λ n. n ≤ wire_limit) (sym (most_is c (given_world c version lists) refl)) (fits (outs_of c (given_world c version lists)) c.config.shards (length (setting c).names) (le_then (outs_of c (given_world c version lists)) (length c.orders) 20000 outs few) (few_shards c script) script.names)
  where
    fits : (o s n : ℕ) → o ≤ 20000 → s ≤ 128 → n ≤ 1000 → 24 * o + 18 * s + n + 3 ≤ 1000000
    fits o s n h k j = omega (arith, h, k, j)

    outs : outs_of c (given_world c version lists) ≤ length c.orders
    outs = le_then (outs_of c (given_world c version lists)) (sum_by (λ p. all_by p c.orders) (numbers 1 c.config.producers)) (length c.orders)
        (sum_within (out_of c (given_world c version lists)) (λ p. all_by p c.orders) c.config.producers 1 (λ p low high. less (ordered_of (given_world c version lists) p) _ (length (sends c p)) (all_by p c.orders) (given_ordered c version lists p (producer_in c p low high)) (all_more p c.orders [])))
        (all_orders c.orders c.config.producers 1)
      where
        less : (o f n a : ℕ) → o ≡ n → n ≡ 0 + a → o - f ≤ a
        less o f n a e g = omega (arith, e, g)
