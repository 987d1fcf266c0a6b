-- What clearing one bit does, and the regions whose bits are one.
use Rattle.std.proofs.Common.{◌≡◌, ◌≢◌, ℕ, suc, ◌+◌, ◌*◌, ◌%◌, ◌^◌, ◌<◌, ◌≤◌, Bool, true, false, not, ◌&&◌, ◌||◌, List, [], ◌∷◌, ◌++◌, length, length-append, drop, get_or, ap, sym, ◌∙◌, refl, arith, if◌then◌else◌}
use Rattle.std.specs.Prelude.{◌==◌}
use Rattle.std.specs.Int.{w16, bit_not}
use Rattle.std.proofs.lemmas.List.{drop_more, drop_all, append_assoc}
use Rattle.std.proofs.lemmas.Nat.Bits.{bit_at_clear_same, bit_at_clear_other, bit_at_ones}
use lib.Bits.{bit_and}
use Rattle.yard_model.specs.declared.incarnation.Incarnation.{Incarnation}
use Rattle.yard_model.specs.Members.{no_member}
use Rattle.yard_model.specs.ShardSet.{has}
use Rattle.yard_model.specs.Words.{is_same, is_among, is_empty, without}
use Rattle.handoff_steps.specs.Awaited.{awaited_from}

pub clear_same : (n k : ℕ) → k < 16 → has (bit_and n (bit_not w16 (1 * 2 ^ k % 2 ^ 16))) k ≡ false
clear_same n k within = ap (λ b. b == 1) (bit_at_clear_same w16 n k within)

pub clear_other : (n k t : ℕ) → k < 16 → t < 16 → t ≢ k → has (bit_and n (bit_not w16 (1 * 2 ^ k % 2 ^ 16))) t ≡ has n t
clear_other n k t within inside other = ap (λ b. b == 1) (bit_at_clear_other w16 n k within t inside other)

among_by : (who x : Incarnation) (l : List Incarnation) (b : Bool) → is_among who (if b then x ∷ l else l) ≡ ((b && is_same who x) || is_among who l)
among_by who x l true = refl
among_by who x l false = refl

-- one region more
pub among_more : (who : Incarnation) (rs : List Incarnation) (p bits : ℕ) → p < length rs
    → is_among who (awaited_from p (drop p rs) bits) ≡ ((has bits p && is_same who (get_or rs p no_member)) || is_among who (awaited_from (p + 1) (drop (p + 1) rs) bits))
among_more who rs p bits h = ap (λ l. is_among who (awaited_from p l bits)) (drop_more rs p no_member h) ∙ among_by who _ _ (has bits p)

pub among_end : (who : Incarnation) (rs : List Incarnation) (p bits : ℕ) → length rs ≤ p → is_among who (awaited_from p (drop p rs) bits) ≡ false
among_end who rs p bits h = ap (λ l. is_among who (awaited_from p l bits)) (drop_all p rs h)

empty_by : (x : Incarnation) (l : List Incarnation) (b : Bool) → is_empty (if b then x ∷ l else l) ≡ (not b && is_empty l)
empty_by x l true = refl
empty_by x l false = refl

pub empty_more : (rs : List Incarnation) (p bits : ℕ) → p < length rs → is_empty (awaited_from p (drop p rs) bits) ≡ (not (has bits p) && is_empty (awaited_from (p + 1) (drop (p + 1) rs) bits))
empty_more rs p bits h = ap (λ l. is_empty (awaited_from p l bits)) (drop_more rs p no_member h) ∙ empty_by _ _ (has bits p)

pub empty_end : (rs : List Incarnation) (p bits : ℕ) → length rs ≤ p → is_empty (awaited_from p (drop p rs) bits) ≡ true
empty_end rs p bits h = ap (λ l. is_empty (awaited_from p l bits)) (drop_all p rs h)

kept_by : (who x : Incarnation) (l m : List Incarnation) → l ≡ without who m → (b c : Bool) → is_same who x ≡ c → (if (b && not c) then x ∷ l else l) ≡ without who (if b then x ∷ m else m)
kept_by who x l m h false c e = h
kept_by who x l m h true true e = h ∙ ap (λ c. if not c then x ∷ without who m else without who m) (sym e)
kept_by who x l m h true false e = ap (λ l. x ∷ l) h ∙ ap (λ c. if not c then x ∷ without who m else without who m) (sym e)

-- the regions whose bits stay are those without `who`
pub kept : (who : Incarnation) (rs : List Incarnation) (i new old : ℕ) → ((k : ℕ) → k < length rs → has new (i + k) ≡ (has old (i + k) && not (is_same who (get_or rs k no_member))))
    → awaited_from i rs new ≡ without who (awaited_from i rs old)
kept who [] i new old h = refl
kept who (r ∷ rs) i new old h =
    let zeroth : i + 0 ≡ i = omega arith in
    let here : has new i ≡ (has old i && not (is_same who r)) = ap (has new) (sym zeroth) ∙ (h 0 (omega arith) ∙ ap (λ n. has old n && not (is_same who r)) zeroth) in
    ap (λ b. if b then r ∷ awaited_from (i + 1) rs new else awaited_from (i + 1) rs new) here
    ∙ kept_by who r (awaited_from (i + 1) rs new) (awaited_from (i + 1) rs old) (kept who rs (i + 1) new old (λ k low. later k low)) (has old i) (is_same who r) refl
  where
    later : (k : ℕ) → k < length rs → has new (i + 1 + k) ≡ (has old (i + 1 + k) && not (is_same who (get_or rs k no_member)))
    later k low = let next : i + suc k ≡ i + 1 + k = omega arith in
        ap (has new) (sym next) ∙ (h (suc k) (omega arith) ∙ ap (λ n. has old n && not (is_same who (get_or rs k no_member))) next)

all_by : (i : ℕ) → i < 16 → has 65535 i ≡ true
all_by i h = ap (λ b. b == 1) (bit_at_ones 16 i h)

-- with every bit one, all regions are awaited
pub all_awaited : (i : ℕ) (rs : List Incarnation) → i + length rs ≤ 16 → awaited_from i rs 65535 ≡ rs
all_awaited i [] h = refl
all_awaited i (r ∷ rs) h =
    ap (λ b. if b then r ∷ awaited_from (i + 1) rs 65535 else awaited_from (i + 1) rs 65535) (all_by i (omega arith)) ∙ ap (λ l. r ∷ l) (all_awaited (i + 1) rs (omega arith))

-- The list of those that are awaited.

one_by : (x : Incarnation) (l : List Incarnation) (b : Bool) → (if b then x ∷ l else l) ≡ (if b then x ∷ [] else []) ++ l
one_by x l true = refl
one_by x l false = refl

-- with the region at p pushed, where it is awaited
pub awaited_more : (old new rs all : List Incarnation) (p bits : ℕ) → p < length rs → new ≡ old ++ (if has bits p then get_or rs p no_member ∷ [] else [])
    → old ++ awaited_from p (drop p rs) bits ≡ all → new ++ awaited_from (p + 1) (drop (p + 1) rs) bits ≡ all
awaited_more old new rs all p bits h pushed inv =
    let rest : List Incarnation = awaited_from (p + 1) (drop (p + 1) rs) bits in
    let one : List Incarnation = if has bits p then get_or rs p no_member ∷ [] else [] in
    ap (λ l. l ++ rest) pushed
    ∙ (append_assoc old one rest
    ∙ (ap (λ l. old ++ l) (sym (ap (λ l. awaited_from p l bits) (drop_more rs p no_member h) ∙ one_by (get_or rs p no_member) rest (has bits p))) ∙ inv))

-- one region is pushed at most
pub few_more : (old new : List Incarnation) (x : Incarnation) (b : Bool) (p : ℕ) → new ≡ old ++ (if b then x ∷ [] else []) → length old ≤ p → length new ≤ p + 1
few_more old new x true p pushed h = omega (arith, ap (λ l. length l) pushed, length-append old (x ∷ []), h)
few_more old new x false p pushed h = omega (arith, ap (λ l. length l) pushed, length-append old [], h)
