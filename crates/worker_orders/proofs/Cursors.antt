-- What is known of producers before the first order, and what is left past the last line.
use Rattle.std.proofs.Common.{◌≡◌, ℕ, zero, suc, ◌-◌, ◌<◌, ◌≤◌, List, [], ◌∷◌, length, take, drop, map, replicate, true, false, Some, slice_get, slice_index_or, ap, sym, ◌∙◌, refl, arith, drop_of_length-le}
use Rattle.plain_laws.proofs.Booleans.{get_replicate}
use Rattle.yard_model.specs.declared.charter.Line.{Line}
use Rattle.yard_model.specs.declared.charter.Order.{Order}
use Rattle.yard_model.specs.declared.charter.Order.TheVariants as order
use Rattle.yard_model.specs.Script.{Script}
use Rattle.yard_model.specs.Workers.{worker_orders_after, is_for}
use Rattle.worker_orders.specs.Waiting.{orders_in, left_after, is_named, IsCursor, IsDue}

pub first : (n : ℕ) (lines : List Line) → IsCursor n lines 0 (replicate 32 false)
first n lines = record { inside = omega arith; knows = λ p low high. get_replicate 32 (p - 1) false }

pub past : (n : ℕ) (lines : List Line) (k : ℕ) → length lines - k ≡ 0 → left_after n lines k ≡ []
past n lines k h = ap (λ ls. worker_orders_after n (orders_in (take k lines)) (orders_in ls)) (drop_of_length-le lines (let m : length lines ≤ k = omega (arith, h) in m))

-- an order of the worker is due to it

named_of : (n : ℕ) (before : List Order) (o : Order) → is_for n before o ≡ true → is_named n o ≡ true
named_of n before (order.Up m) h = h
named_of n before (order.Crash m) h = h
named_of n before (order.Leave m) h = h
named_of n before (order.Tick m) h = h
named_of n before (order.Produce p m) h = h
named_of n before (order.Rest p) h = refl
named_of n before (order.Send p e k) h = refl
named_of n before (order.Rebalance l) h = refl
named_of n before (order.Passivate e) h = refl
named_of n before o h = h

get_there : (lines : List Line) (k : ℕ) (d : Line) → k < length lines → slice_get (orders_in lines) k ≡ Some (slice_index_or lines k d).order
get_there [] k d h = absurd (never k h)
  where
    never : (k : ℕ) → k < 0 → ⊥
    never k h = omega (arith, h)
get_there (x ∷ xs) zero d h = refl
get_there (x ∷ xs) (suc k) d h = get_there xs k d (down k (length xs) h)
  where
    down : (k n : ℕ) → suc k < suc n → k < n
    down k n h = omega (arith, h)

pub due_of : (c : Script) (n k : ℕ) (line d : Line) (before : List Order) → k < length c.orders → line ≡ slice_index_or c.orders k d → is_for n before line.order ≡ true → IsDue c n line.order
due_of c n k line d before less is mine = record {
  place = k;
  line = get_there c.orders k d less ∙ ap (λ (l : Line). Some l.order) (sym is);
  named = named_of n before line.order mine;
}
