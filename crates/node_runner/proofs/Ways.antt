-- One turn more of a worker.
use Rattle.std.proofs.Common.{◌≡◌, ℕ, zero, suc, ◌+◌, ◌-◌, ◌*◌, ◌<◌, ◌≤◌, ◌⊎◌, inl, inr, ⊎_elim, true, false, List, [], ◌∷◌, ◌++◌, length, refl, sym, ap, ap₂, ◌∙◌, subst, arith}
use Rattle.std.specs.Prelude.{Bool, ◌==◌, ◌&&◌, not, nat_lt, nat_le, Option, None, Some, is_some, IfSome, MatchOption, count_by, if◌then◌else◌}
use Rattle.std.specs.List.{list_any}
use Rattle.std.specs.Option.{option_map_or}
use Rattle.atomic_table.specs.Seated.{TableId}
use Rattle.plain_laws.proofs.Booleans.{true_is_not_false, and_both, at_most, below, is_below}
use Rattle.plain_laws.proofs.Lists.{none_is_not_some, some_is}
use Rattle.yard_model.specs.declared.charter.Order.{Order}
use Rattle.yard_model.specs.Follow.{each_follows}
use Rattle.yard_model.specs.Genuine.{is_producer}
use Rattle.yard_model.specs.Script.{Script}
use Rattle.yard_model.specs.Workers.{worker_orders, is_steady, is_steady_after, produced, orders}
use Rattle.worker_orders.specs.Waiting.{Waiting, IsDue}
use Rattle.node_core.specs.Standing.{Standing}
use Rattle.lease_table.specs.Leasing.{Pass, Idle}
use Rattle.node_runner.specs.Counted.{IsCounted, next_up}
use Rattle.node_runner.specs.OnWay.{OnWay, IsAhead, IsDone, KeepsUp, left_of}
use Rattle.node_runner.specs.Progress.{StandsAt, Progressed, GoesOn, Takes, SawAll}

-- what `next` makes of what is ahead
abbrev pub IsNextOf : Option Order → Waiting → Waiting → Type 0
IsNextOf next before now = MatchOption next ((before.orders ≡ []) × (now.orders ≡ [])) (λ o. before.orders ≡ o ∷ now.orders)

left_is : (next : Option Order) (before now : Waiting) → IsNextOf next before now → left_of next now.orders ≡ before.orders
left_is None before now h = h.1 ∙ sym h.0
left_is (Some o) before now h = sym h

last_is : (next : Option Order) (before now : Waiting) → IsNextOf next before now → next ≡ None → now.orders ≡ []
last_is None before now h e = h.1
last_is (Some o) before now h e = absurd (none_is_not_some o (sym e))

ahead_of : (c : Script) (n : ℕ) (next : Option Order) (before now : Waiting) → before.script ≡ c → before.node ≡ n → now.script ≡ before.script → now.node ≡ before.node → IsNextOf next before now → IfSome next (IsDue before.script before.node) → IsAhead c n next now
ahead_of c n next before now script node same_script same_node h due = record {
  script_is = same_script ∙ script;
  node_is = same_node ∙ node;
  due = subst (λ k. IfSome next (IsDue c k)) node (subst (λ y. IfSome next (IsDue y before.node)) script due);
  last = last_is next before now h;
}

-- the first
pub first_way : (z : TableId) (c : Script) (n : ℕ) (p : Pass) (next : Option Order) (before now : Waiting) → Idle z c n p → before.script ≡ c → before.node ≡ n → before.orders ≡ worker_orders c n → now.script ≡ before.script → now.node ≡ before.node → IsNextOf next before now → IfSome next (IsDue before.script before.node) → OnWay z c n 0 p None next now 0
first_way z c n p next before now idle script node all same_script same_node h due = record {
  stands = idle;
  ahead = ahead_of c n next before now script node same_script same_node h due;
  few = omega arith;
  keeps_up = inr (let e : length (left_of next now.orders) ≡ length (worker_orders c n) = ap (λ (l : List Order). length l) (left_is next before now h ∙ all) in omega (arith, e));
  progressed = λ turns. record {
    taken = [];
    all = sym (left_is next before now h ∙ all);
    each = λ q here steady. record { sent = omega arith; up = λ x. absurd (true_is_not_false (sym x)); held = λ x. absurd (true_is_not_false (sym x)) };
  };
}

-- one that takes an order
pub order_way : (z : TableId) (c : Script) (n t : ℕ) (p r : Pass) (node after : Option Standing) (o : Order) (waits now : Waiting) (next : Option Order) (idle : ℕ) → OnWay z c n t p node (Some o) waits idle → StandsAt z c n r after → Takes c n o p node r after
    → now.script ≡ waits.script → now.node ≡ waits.node → IsNextOf next waits now → IfSome next (IsDue waits.script waits.node) → OnWay z c n (t + 1) r after next now 0
order_way z c n t p r _ after o waits now next idle w stands takes same_script same_node h due = record {
  stands = stands;
  ahead = ahead_of c n next waits now w.ahead.script_is w.ahead.node_is same_script same_node h due;
  few = omega arith;
  keeps_up = inr (⊎_elim (λ e. absurd (no_cons o waits.orders e)) (λ k. let f : idle ≤ 3 = w.few in let e : length (left_of next now.orders) ≡ length waits.orders = ap (λ (l : List Order). length l) (left_is next waits now h) in fewer t (length waits.orders) (length (left_of next now.orders)) (length (worker_orders c n)) idle e f k) w.keeps_up);
  progressed = λ turns. subst (λ l. Progressed c turns n l r after) (sym (left_is next waits now h)) (takes turns waits.orders (w.progressed turns));
}
  where
    no_cons : (x : Order) (xs : List Order) → x ∷ xs ≡ [] → ⊥
    no_cons x xs e = cc

    fewer : (t k m all idle : ℕ) → m ≡ k → idle ≤ 3 → t + 4 * suc k ≤ 4 * all + idle → (t + 1) + 4 * m ≤ 4 * all + 0
    fewer t k m all idle e f h = omega (arith, e, f, h)

-- one that takes none
pub other_way : (z : TableId) (c : Script) (n t : ℕ) (p r : Pass) (node after : Option Standing) (next : Option Order) (waits : Waiting) (idle : ℕ) → OnWay z c n t p node next waits idle → (next ≡ None) ⊎ ((is_some node ≡ true) × (idle < 3)) → StandsAt z c n r after → GoesOn c n p node r after
    → OnWay z c n (t + 1) r after next waits (if nat_lt idle 3 then idle + 1 else idle)
other_way z c n t p r _ after next waits idle w none stands goes = record {
  stands = stands;
  ahead = w.ahead;
  few = few (nat_lt idle 3) refl;
  keeps_up = ⊎_elim (λ e. inl (empty next e w.ahead.last)) (λ k. ⊎_elim (λ e. inl e) (λ h. inr (subst (λ b. (t + 1) + 4 * length (left_of next waits.orders) ≤ 4 * length (worker_orders c n) + (if b then idle + 1 else idle)) (sym (lt idle k.1)) (one t (4 * length (left_of next waits.orders)) (4 * length (worker_orders c n)) idle h))) w.keeps_up) none;
  progressed = λ turns. goes turns (left_of next waits.orders) (w.progressed turns);
}
  where
    lt : (i : ℕ) → i < 3 → nat_lt i 3 ≡ true
    lt i h = is_below i 3 h

    one : (t a b i : ℕ) → t + a ≤ b + i → (t + 1) + a ≤ b + (i + 1)
    one t a b i h = omega (arith, h)

    few : (b : Bool) → nat_lt idle 3 ≡ b → (if b then idle + 1 else idle) ≤ 3
    few true e = let l : idle < 3 = below idle 3 e in omega (arith, l)
    few false e = w.few

    empty : (next : Option Order) → next ≡ None → (next ≡ None → waits.orders ≡ []) → left_of next waits.orders ≡ []
    empty None e last = last e
    empty (Some o) e last = absurd (none_is_not_some o (sym e))

-- the end

none_left : (c : Script) (n t idle : ℕ) (left : List Order) → KeepsUp c n t left idle → idle ≤ 3 → 4 * length (worker_orders c n) ≤ t → left ≡ []
none_left c n t idle [] k few many = refl
none_left c n t idle (o ∷ os) k few many = ⊎_elim (λ e. e) (λ h. absurd (never t (length os) (length (worker_orders c n)) idle few many h)) k
  where
    never : (t k all idle : ℕ) → idle ≤ 3 → 4 * all ≤ t → t + 4 * suc k ≤ 4 * all + idle → ⊥
    never t k all idle f m h = omega (arith, f, m, h)

pub last_way : (z : TableId) (c : Script) (n turns : ℕ) (p : Pass) (node : Option Standing) (next : Option Order) (waits : Waiting) (idle : ℕ) → OnWay z c n turns p node next waits idle → IsDone z c turns n p node
last_way z c n turns p node next waits idle w = record {
  stands = w.stands;
  progressed = λ many. subst (λ l. Progressed c turns n l p node) (none_left c n turns idle (left_of next waits.orders) w.keeps_up w.few many) (w.progressed turns);
}

pub over_way : (z : TableId) (c : Script) (n t turns : ℕ) (p : Pass) (node : Option Standing) (next : Option Order) (waits : Waiting) (idle : ℕ) → OnWay z c n t p node next waits idle → next ≡ None → IsDone z c turns n p node
over_way z c n t turns p node next waits idle w over = record {
  stands = w.stands;
  progressed = λ many. subst (λ l. Progressed c turns n l p node) (empty next over w.ahead.last) (w.progressed turns);
}
  where
    empty : (next : Option Order) → next ≡ None → (next ≡ None → waits.orders ≡ []) → left_of next waits.orders ≡ []
    empty None e last = last e
    empty (Some o) e last = absurd (none_is_not_some o (sym e))

-- a steady producer's worker had turns enough
turns_enough : (c : Script) (turns q n : ℕ) → is_steady c turns q n ≡ true → 4 * length (worker_orders c n) ≤ turns
turns_enough c turns q n h = at_most (4 * length (worker_orders c n)) turns (and_both (option_map_or (λ m. m == n) (produced q (orders c)) false && each_follows (is_steady_after q n) [] (orders c)) (nat_le (4 * length (worker_orders c n)) turns) h).1

pub done_saw : (z : TableId) (c : Script) (turns n : ℕ) (p r : Pass) (node : Option Standing) → IsDone z c turns n p node → (Progressed c turns n [] p node → SawAll c turns n r) → SawAll c turns n r
done_saw z c turns n p r _ done saw q here steady = saw (done.progressed (turns_enough c turns q n steady)) q here steady

-- how often the node came up, and the number of one that comes up
pub counted_of : (was after : Option Standing) (ups number now : ℕ) (was_up up : Bool) → was_up ≡ is_some was → up ≡ is_some after → number ≡ next_up ups → now ≡ (if not was_up && up then number else ups)
    → (was ≡ None → IfSome after (λ v. v.state.who.number ≡ number)) → IsCounted was ups after now
counted_of None None ups number now was_up up e f n h k = h ∙ ap₂ (λ a b. if not a && b then number else ups) e f
counted_of None (Some v) ups number now was_up up e f n h k =
    let one : now ≡ number = h ∙ ap₂ (λ a b. if not a && b then number else ups) e f in
    (one ∙ n, k refl ∙ sym one)
counted_of (Some u) after ups number now was_up up e f n h k = h ∙ ap₂ (λ a b. if not a && b then number else ups) e f
