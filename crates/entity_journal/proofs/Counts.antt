-- The counts and the numbers with one record more.
use Rattle.std.proofs.Common.{◌≡◌, ◌≢◌, ℕ, ◌+◌, ◌-◌, ◌<◌, ◌≤◌, Bool, true, false, List, [], ◌∷◌, ◌++◌, length, refl, ap, ◌∙◌, sym, arith, length-append}
use Rattle.std.specs.Prelude.{◌==◌, nat_lt, slice_set, slice_index_or, replicate, cond}
use Rattle.std.proofs.lemmas.List.{get_or-set_other, get_or_append_left, get_or_at, get_or-replicate, length-replicate, length-set}
use Rattle.std.proofs.lemmas.Grind.{get_or-set_at}
use Rattle.std.proofs.lemmas.List.Sums.{sum_by_push, count_by-le-length}
use Rattle.std.proofs.lemmas.Bool.Decides.{nat_tests}
use Rattle.yard_model.specs.declared.packet.Record.{Record}
use Rattle.entity_journal.specs.Journal.{AreNumbered, of_producer}
use Rattle.entity_journal.specs.Kept.{AreCounted}

count_more : (p : ℕ) (records : List Record) (r : Record) → of_producer p (records ++ r ∷ []) ≡ of_producer p records + cond (r.producer == p) 1 0
count_more p records r = sum_by_push (λ (x : Record). cond (x.producer == p) 1 0) records r

same : (n p : ℕ) → (n == p) ≡ true → n ≡ p
same n p e = grind (arith, nat_tests)

other : (n p : ℕ) → (n == p) ≡ false → n ≢ p
other n p e = grind (arith, nat_tests)

before_same : (a b : ℕ) → 0 < a → 0 < b → a - 1 ≡ b - 1 → a ≡ b
before_same a b h k e = omega arith

pub counted_none : (counts : List ℕ) → counts ≡ replicate 32 0 → AreCounted [] counts
counted_none counts e = record {
  size = rw e (length-replicate {A = ℕ} 32 0);
  each = λ p above within. rw e (get_or-replicate {A = ℕ} 32 (p - 1) 0 0 (omega arith));
}

-- the place of a producer, with one more at the place of another or its own
counted_at : (records : List Record) (counts : List ℕ) (r : Record) (k p : ℕ) (b : Bool) → (r.producer == p) ≡ b → k ≡ r.producer - 1 → 0 < r.producer → r.producer ≤ 32 → 0 < p → p ≤ 32 → AreCounted records counts →
    slice_index_or (slice_set counts k (slice_index_or counts k 0 + 1)) (p - 1) 0 ≡ of_producer p records + cond b 1 0
counted_at records counts r k p true t at some most above within counted =
    let own : r.producer ≡ p = same r.producer p t in
    let here : p - 1 ≡ k = omega arith in
    get_or-set_at counts k (p - 1) (slice_index_or counts k 0 + 1) 0 here (rw counted.size (omega arith)) ∙ ap (λ n. n + 1) (rw (← here) (counted.each p above within))
counted_at records counts r k p false t at some most above within counted =
    let differs : r.producer ≢ p = other r.producer p t in
    get_or-set_other counts k (p - 1) (slice_index_or counts k 0 + 1) 0 (λ e. differs (before_same r.producer p some above (sym (e ∙ at)))) ∙ (counted.each p above within ∙ omega arith)

pub counted_more : (records : List Record) (counts : List ℕ) (r : Record) (k : ℕ) → k ≡ r.producer - 1 → 0 < r.producer → r.producer ≤ 32 → AreCounted records counts → AreCounted (records ++ r ∷ []) (slice_set counts k (slice_index_or counts k 0 + 1))
counted_more records counts r k at some most counted = record {
  size = rw length-set counted.size;
  each = λ p above within. counted_at records counts r k p (r.producer == p) refl at some most above within counted ∙ sym (count_more p records r);
}

pub count_fits : (records : List Record) (counts : List ℕ) (p : ℕ) → 0 < p → p ≤ 32 → AreCounted records counts → slice_index_or counts (p - 1) 0 ≤ length records
count_fits records counts p above within counted = rw (counted.each p above within) (count_by-le-length (λ (x : Record). x.producer == p) records)

pub numbered_none : AreNumbered []
numbered_none = record { each = λ i r h. absurd (omega arith) }

lt_of : (a b : ℕ) → nat_lt a b ≡ true → a < b
lt_of a b e = grind (arith, nat_tests)

le_of : (a b : ℕ) → nat_lt a b ≡ false → b ≤ a
le_of a b e = grind (arith, nat_tests)

numbered_at : (records : List Record) (r : Record) (i : ℕ) (x : Record) (b : Bool) → nat_lt i (length records) ≡ b → i < length (records ++ r ∷ []) → r.number ≡ length records + 1 → AreNumbered records → (slice_index_or (records ++ r ∷ []) i x).number ≡ i + 1
numbered_at records r i x true t h e numbered =
    ap (λ (y : Record). y.number) (get_or_append_left records (r ∷ []) x i (lt_of i (length records) t)) ∙ numbered.each i x (lt_of i (length records) t)
numbered_at records r i x false t h e numbered =
    let past : length records ≤ i = le_of i (length records) t in
    let last : length records ≡ i = omega (arith, length-append records (r ∷ [])) in
    ap (λ (y : Record). y.number) (get_or_at records r [] x i last) ∙ (e ∙ ap (λ n. n + 1) last)

pub numbered_more : (records : List Record) (r : Record) → r.number ≡ length records + 1 → AreNumbered records → AreNumbered (records ++ r ∷ [])
numbered_more records r e numbered = record {
  each = λ i x h. numbered_at records r i x (nat_lt i (length records)) refl h e numbered;
}
