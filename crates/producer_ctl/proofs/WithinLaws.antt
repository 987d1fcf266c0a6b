-- Each number that is routed may be sent.
use Rattle.std.proofs.Common.{◌≡◌, ℕ, zero, suc, ◌<◌, ◌≤◌, ◌+◌, ◌-◌, List, [], ◌∷◌, map, sym, subst, refl, true, false, arith}
use Rattle.std.specs.Prelude.{Bool, fold, max, nat_lt, slice_index_or, slice_set, if◌then◌else◌}
use Rattle.std.specs.List.{All}
use Rattle.std.proofs.lemmas.List.Sums.{fold-append}
use Rattle.yard_model.specs.declared.charter.Sending.{Sending}
use Rattle.yard_model.specs.Move.{Move, demanded, pushed}
use Rattle.yard_model.specs.Producer.{Producer, Progress, no_progress, producer_after, progress, allowed, confirm, push_marks, queue}
use Rattle.yard_model.specs.Setting.{place}
use Rattle.yard_model.specs.SlotReads.{confirmed, queued}
use Rattle.yard_model.specs.Words.{from_to, numbers}
use Rattle.plain_laws.proofs.Booleans.{below}
use Rattle.producer_ctl.specs.Produced.{Gives, acking, and_then, asking, pushing, queueing, repeating, resending}
use Rattle.producer_ctl.specs.Within.{IsWithin, RoutesWithin}

-- Lists of numbers.

pub first_of_all : (P : ℕ → Type 0) (n : ℕ) (ns : List ℕ) → All P (n ∷ ns) → P n
first_of_all P n ns all = all 0 0 (omega arith)

pub rest_of_all : (P : ℕ → Type 0) (n : ℕ) (ns : List ℕ) → All P (n ∷ ns) → All P ns
rest_of_all P n ns all k d inside = all (suc k) d (omega (arith, inside))

none_all : (P : ℕ → Type 0) → All P []
none_all P k d inside = absurd (omega (arith, inside))

one_all : (P : ℕ → Type 0) (n : ℕ) → P n → All P (n ∷ [])
one_all P n is zero d inside = is
one_all P n is (suc k) d inside = absurd (omega (arith, inside))

numbers_all : (P : ℕ → Type 0) (a k : ℕ) → ((n : ℕ) → a ≤ n → n < a + k → P n) → All P (numbers a k)
numbers_all P a zero each i d inside = absurd (omega (arith, inside))
numbers_all P a (suc k) each zero d inside = each a (omega arith) (omega arith)
numbers_all P a (suc k) each (suc i) d inside = numbers_all P (a + 1) k (λ n low high. each n (omega (arith, low)) (omega (arith, high))) i d (omega (arith, inside))

from_to_all : (P : ℕ → Type 0) (a b : ℕ) → ((n : ℕ) → a ≤ n → n ≤ b → P n) → All P (from_to a b)
from_to_all P a b each = numbers_all P a (b + 1 - a) (λ n low high. each n low (omega (arith, low, high)))

-- What may be sent.

up_to_allowed : (e : List ℕ) (st : Producer) (n : ℕ) → confirmed e st.entries < n → n ≤ allowed e st → IsWithin e st n
up_to_allowed e st n above up_to = record {
  unconfirmed = above;
  is_queued = grind (arith, up_to);
  is_allowed = grind (arith, up_to);
}

-- that more is marked as sent changes nothing of it
demand_stays : (xs : List Progress) (i n : ℕ) → (slice_index_or (slice_set xs i (record { demand = (slice_index_or xs i no_progress).demand; sent = n })) i no_progress).demand ≡ (slice_index_or xs i no_progress).demand
demand_stays [] i n = refl
demand_stays (x ∷ xs) zero n = refl
demand_stays (x ∷ xs) (suc i) n = demand_stays xs i n

marked : (e : List ℕ) (st : Producer) (m n : ℕ) → IsWithin e st n → IsWithin e (producer_after st (pushed e m)) n
marked e st m n is = record {
  unconfirmed = is.unconfirmed;
  is_queued = is.is_queued;
  is_allowed = subst (λ d. n ≤ max d (confirmed e st.entries + 1)) (sym (demand_stays st.pairs (place st.set e) (max (progress st e).sent m))) is.is_allowed;
}

-- Rules.

push_within : (e : List ℕ) → RoutesWithin (pushing e)
push_within e st = from_to_all (IsWithin e (fold producer_after st (push_marks e st))) (max (progress st e).sent (confirmed e st.entries) + 1) (allowed e st)
    (λ n low high. marked e st (max (confirmed e st.entries) (allowed e st)) n (up_to_allowed e st n (above (progress st e).sent (confirmed e st.entries) n low) high))
  where
    above : (s c n : ℕ) → max s c + 1 ≤ n → c < n
    above s c n low = grind (arith, low)

then_within : (p : Producer → List Move) (q : Producer → Gives) → RoutesWithin q → RoutesWithin (and_then p q)
then_within p q within st =
    subst (λ x. All (IsWithin (q (fold producer_after st (p st))).entity x) (q (fold producer_after st (p st))).numbers) (sym (fold-append producer_after st (p st) (q (fold producer_after st (p st))).moves)) (within (fold producer_after st (p st)))

pub queueing_within : (x : Sending) → RoutesWithin (queueing x)
queueing_within x = then_within (queue x) (pushing x.entity) (push_within x.entity)

pub asking_within : (e : List ℕ) (n u : ℕ) → RoutesWithin (asking e n u)
asking_within e n u = then_within (confirm e n) (and_then (λ st. demanded e u ∷ []) (pushing e)) (then_within (λ st. demanded e u ∷ []) (pushing e) (push_within e))

pub acking_within : (e : List ℕ) (n : ℕ) → RoutesWithin (acking e n)
acking_within e n = then_within (confirm e n) (pushing e) (push_within e)

pub resending_within : (e : List ℕ) (f : ℕ) → RoutesWithin (resending e f)
resending_within e f st = from_to_all (IsWithin e st) (max f (confirmed e st.entries + 1)) (allowed e st) (λ n low high. up_to_allowed e st n (above f (confirmed e st.entries) n low) high)
  where
    above : (f c n : ℕ) → max f (c + 1) ≤ n → c < n
    above f c n low = grind (arith, low)

pub repeating_within : (e : List ℕ) → RoutesWithin (repeating e)
repeating_within e st = by (nat_lt (confirmed e st.entries) (queued e st.entries)) refl
  where
    by : (b : Bool) → nat_lt (confirmed e st.entries) (queued e st.entries) ≡ b
        → All (IsWithin e (fold producer_after st (map (pushed e) (if b then (confirmed e st.entries + 1) ∷ [] else [])))) (if b then (confirmed e st.entries + 1) ∷ [] else [])
    by false waits = none_all (IsWithin e st)
    by true waits = one_all (IsWithin e (producer_after st (pushed e (confirmed e st.entries + 1)))) (confirmed e st.entries + 1) (marked e st (confirmed e st.entries + 1) (confirmed e st.entries + 1) first)
      where
        first : IsWithin e st (confirmed e st.entries + 1)
        first = record {
          unconfirmed = omega arith;
          is_queued = omega (arith, below (confirmed e st.entries) (queued e st.entries) waits);
          is_allowed = grind (arith);
        }
