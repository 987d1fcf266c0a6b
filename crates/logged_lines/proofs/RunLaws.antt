-- The orders of a run: their facts make the trace, and their lines its text.
use Rattle.std.proofs.Common.{◌≡◌, refl, sym, ap, ◌∙◌, subst, arith, ℕ, zero, suc, ◌+◌, ◌-◌, ◌<◌, ◌≤◌, length, get_or, Bool, true, false, List, [], ◌∷◌, ◌++◌, take, drop, append_assoc, take-append-drop, length-append}
use Rattle.std.specs.Prelude.{map}
use Rattle.std.proofs.lemmas.List.{append-nil, map-append, take_all, drop_all}
use Rattle.std.proofs.Math.Seq.{drop-append_seam}
use Rattle.yard_model.specs.declared.charter.Line.{Line}
use Rattle.yard_model.specs.declared.fact.Fact.{Fact}
use Rattle.yard_model.specs.Script.{Script}
use Rattle.yard_model.specs.Words.{numbers}
use Rattle.yard_model.specs.World.{World, Made, Step, in_order, play_line, new_world, wire_limit, trace_of}
use Rattle.disk_log.specs.Spelled.{lines}
use Rattle.log_orders.specs.Orders.{batch_of, batches, text_of}
use Rattle.log_orders.proofs.GatherLaws.{lines_both}
use Rattle.log_orders.proofs.OrderLaws.{batches_more, text_more}
use Rattle.logged_lines.specs.Logged.{batches_of, facts_to, order_facts, orders_of}

abbrev then_if : Made → Bool → Step → Made
then_if m b q = elim b as (λ b. Made) [
  | true ↦ m
  | false ↦ let n : Made = q m.world in record { facts = m.facts ++ n.facts; world = n.world }
]

-- these facts begin with those
abbrev Begins : List Fact → List Fact → Type 0
Begins xs ys = (zs : List Fact) × (ys ≡ xs ++ zs)

begins_by : (m : Made) (b : Bool) (ps qs : List Step) → Begins (in_order ps m.world).facts (in_order (ps ++ qs) m.world).facts → Begins (then_if m b (in_order ps)).facts (then_if m b (in_order (ps ++ qs))).facts
begins_by m true ps qs h = ([], sym (append-nil m.facts))
begins_by m false ps qs h = (h.0, ap (λ zs. m.facts ++ zs) h.1 ∙ sym (append_assoc m.facts (in_order ps m.world).facts h.0))

order_begins : (ps qs : List Step) (w : World) → Begins (in_order ps w).facts (in_order (ps ++ qs) w).facts
order_begins [] qs w = ((in_order qs w).facts, refl)
order_begins (p ∷ ps) qs w = begins_by (p w) (p w).world.full ps qs (order_begins ps qs (p w).world)

front_begins : (c : Script) (front rest whole : List Line) → whole ≡ front ++ rest → Begins (in_order (map play_line front) (new_world c wire_limit)).facts (in_order (map play_line whole) (new_world c wire_limit)).facts
front_begins c front rest whole is =
    let h = order_begins (map play_line front) (map play_line rest) (new_world c wire_limit) in
    (h.0, ap (λ ls. (in_order ls (new_world c wire_limit)).facts) (ap (map play_line) is ∙ map-append play_line front rest) ∙ h.1)

take_suc : (n : ℕ) (ls : List Line) → take (suc n) ls ≡ take n ls ++ take 1 (drop n ls)
take_suc zero [] = refl
take_suc zero (l ∷ ls) = refl
take_suc (suc n) [] = refl
take_suc (suc n) (l ∷ ls) = ap (λ x. l ∷ x) (take_suc n ls)

take_one : (n : ℕ) (ls : List Line) → take (n + 1) ls ≡ take n ls ++ take 1 (drop n ls)
take_one n ls = let e : n + 1 ≡ suc n = omega arith in ap (λ k. take k ls) e ∙ take_suc n ls

-- one order more goes on from those before
pub facts_more : (c : Script) (n : ℕ) → facts_to c (n + 1) ≡ facts_to c n ++ order_facts c n
facts_more c n =
    let h = front_begins c (take n c.orders) (take 1 (drop n c.orders)) (take (n + 1) c.orders) (take_one n c.orders) in
    h.1 ∙ ap (λ l. facts_to c n ++ l) (sym (ap (drop (length (facts_to c n))) h.1 ∙ drop-append_seam (facts_to c n) h.0))

-- all make the trace
pub facts_all : (c : Script) → facts_to c (length c.orders) ≡ trace_of c
facts_all c = ap (λ ls. (in_order (map play_line ls) (new_world c wire_limit)).facts) (take_all (length c.orders) c.orders (omega arith))

facts_begin : (c : Script) (n : ℕ) → Begins (facts_to c n) (trace_of c)
facts_begin c n = front_begins c (take n c.orders) (drop n c.orders) c.orders (sym (take-append-drop n c.orders))

-- Places.

map_at : {A : Type 0} (f : ℕ → A) (a n i : ℕ) (d : A) → i < n → get_or (map f (numbers a n)) i d ≡ f (a + i)
map_at f a zero i d inside = absurd (omega (arith, inside))
map_at f a (suc n) zero d inside = let e : a ≡ a + 0 = omega arith in ap f e
map_at f a (suc n) (suc i) d inside = map_at f (a + 1) n i d (omega (arith, inside)) ∙ (let e : (a + 1) + i ≡ a + suc i = omega arith in ap f e)

map_long : {A : Type 0} (f : ℕ → A) (a n : ℕ) → length (map f (numbers a n)) ≡ n
map_long f a zero = refl
map_long f a (suc n) = ap suc (map_long f (a + 1) n)

pub orders_long : (c : Script) → length (orders_of c) ≡ length c.orders
orders_long c = map_long (order_facts c) 0 (length c.orders)

pub order_at : (c : Script) (n : ℕ) (d : List Fact) → n < length c.orders → order_facts c n ≡ get_or (orders_of c) n d
order_at c n d inside = sym (map_at (order_facts c) 0 (length c.orders) n d inside ∙ (let e : 0 + n ≡ n = omega arith in ap (order_facts c) e))

inside_of : (c : Script) (n : ℕ) → n < length c.orders → n < length (orders_of c)
inside_of c n inside = subst (λ k. n < k) (sym (orders_long c)) inside

-- The text of the first orders is that of their facts.
pub text_to : (c : Script) (n : ℕ) → n ≤ length c.orders → text_of (take n (orders_of c)) ≡ lines (facts_to c n)
text_to c zero le = refl
text_to c (suc n) le =
    let inside : n < length c.orders = omega (arith, le) in
    let e : n + 1 ≡ suc n = omega arith in
    subst (λ k. text_of (take k (orders_of c)) ≡ lines (facts_to c k)) e
    (text_more (orders_of c) n (order_facts c n) (inside_of c n inside) (order_at c n (order_facts c n) inside)
    ∙ (ap (λ t. t ++ lines (order_facts c n)) (text_to c n (omega (arith, le)))
    ∙ (sym (lines_both (facts_to c n) (order_facts c n)) ∙ ap lines (sym (facts_more c n)))))

all_orders : (c : Script) → take (length c.orders) (orders_of c) ≡ orders_of c
all_orders c = take_all (length c.orders) (orders_of c) (omega (arith, orders_long c))

pub text_all : (c : Script) → text_of (orders_of c) ≡ lines (trace_of c)
text_all c = ap text_of (sym (all_orders c)) ∙ (text_to c (length c.orders) (omega arith) ∙ ap lines (facts_all c))

-- Behind the order with which the trace stops there are no facts.
none_behind : (c : Script) (n : ℕ) → length (trace_of c) ≤ length (facts_to c n) → order_facts c n ≡ []
none_behind c n le =
    let h = facts_begin c (n + 1) in
    let short : length (facts_to c (n + 1)) ≤ length (facts_to c n) = omega (arith, le, ap length h.1, length-append (facts_to c (n + 1)) h.0) in
    drop_all (length (facts_to c n)) (facts_to c (n + 1)) short

same_behind : (c : Script) (n d : ℕ) → facts_to c n ≡ trace_of c → n + d ≤ length c.orders → (batches (take (n + d) (orders_of c)) ≡ batches (take n (orders_of c))) × (length (trace_of c) ≤ length (facts_to c (n + d)))
same_behind c n zero stopped le =
    let e : n + 0 ≡ n = omega arith in
    (ap (λ k. batches (take k (orders_of c))) e, omega (arith, ap length stopped, ap (λ k. length (facts_to c k)) e))
same_behind c n (suc d) stopped le =
    let e : n + suc d ≡ (n + d) + 1 = omega arith in
    let before = same_behind c n d stopped (omega (arith, le)) in
    let inside : n + d < length c.orders = omega (arith, le) in
    let more = batches_more (orders_of c) (n + d) (order_facts c (n + d)) (inside_of c (n + d) inside) (order_at c (n + d) (order_facts c (n + d)) inside) in (
      ap (λ k. batches (take k (orders_of c))) e
          ∙ (more ∙ (ap (λ fs. batches (take (n + d) (orders_of c)) ++ batch_of fs) (none_behind c (n + d) before.1) ∙ (append-nil (batches (take (n + d) (orders_of c))) ∙ before.0))),
      omega (arith, before.1, ap (λ k. length (facts_to c k)) e, ap length (facts_more c (n + d)), length-append (facts_to c (n + d)) (order_facts c (n + d))),
    )

-- so their batches are all
pub batches_stopped : (c : Script) (n : ℕ) → n ≤ length c.orders → facts_to c n ≡ trace_of c → batches (take n (orders_of c)) ≡ batches_of c
batches_stopped c n le stopped =
    let left : n + (length c.orders - n) ≡ length c.orders = omega (arith, le) in
    let same = same_behind c n (length c.orders - n) stopped (omega (arith, le)) in
    sym same.0 ∙ (ap (λ k. batches (take k (orders_of c))) left ∙ ap batches (all_orders c))
