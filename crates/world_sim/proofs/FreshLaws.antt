-- The numbers that aren't marked.
use Rattle.std.proofs.Common.{◌≡◌, ◌≢◌, ℕ, ◌+◌, ◌-◌, ◌<◌, ◌≤◌, ◌==◌, Bool, true, false, not, List, [], ◌∷◌, ◌++◌, length, drop, refl, ap, sym, ◌∙◌, subst, arith, zero, suc, nat_lt, cond, filter, max, slice_set, position, Option, Some, None, option_map, is_some, MatchOption}
use Rattle.std.specs.List.{position_or_len}
use Rattle.std.proofs.lemmas.Bool.Decides.{nat_tests}
use Rattle.yard_model.specs.Words.{is_empty}
use Rattle.wire_packet.specs.Wire.{next_fresh}
use Rattle.world_sim.specs.Mail.{fresh_from, fresh_of, Heads}

pub lt_true : (a b : ℕ) → a < b → nat_lt a b ≡ true
lt_true a b h = grind (arith, nat_tests)

pub lt_false : (a b : ℕ) → b ≤ a → nat_lt a b ≡ false
lt_false a b h = grind (arith, nat_tests)

tie : (a b : ℕ) → a ≡ b → (a == b) ≡ true
tie a b h = grind (arith, nat_tests)

differ : (a b : ℕ) → a ≢ b → (a == b) ≡ false
differ a b h = grind (arith, nat_tests)

-- one more that isn't marked
pub fresh_more : (n : ℕ) (marks : List Bool) → fresh_from n (marks ++ false ∷ []) ≡ fresh_from n marks ++ (n + length marks) ∷ []
fresh_more n [] = let e : n ≡ n + 0 = omega arith in ap (λ (k : ℕ). k ∷ []) e
fresh_more n (true ∷ ms) = let e : n + 1 + length ms ≡ n + suc (length ms) = omega arith in fresh_more (n + 1) ms ∙ ap (λ (k : ℕ). fresh_from (n + 1) ms ++ k ∷ []) e
fresh_more n (false ∷ ms) = let e : n + 1 + length ms ≡ n + suc (length ms) = omega arith in ap (λ (l : List ℕ). n ∷ l) (fresh_more (n + 1) ms ∙ ap (λ (k : ℕ). fresh_from (n + 1) ms ++ k ∷ []) e)

-- none of them is below the first
none_below : (t n : ℕ) (marks : List Bool) → t < n → filter (λ j. not (j == t)) (fresh_from n marks) ≡ fresh_from n marks
none_below t n [] h = refl
none_below t n (true ∷ ms) h = none_below t (n + 1) ms (omega arith)
none_below t n (false ∷ ms) h = let e : (n == t) ≡ false = differ n t (omega arith) in rw e (ap (λ (l : List ℕ). n ∷ l) (none_below t (n + 1) ms (omega arith)))

-- one mark takes its number out
marked : (t n k : ℕ) (marks : List Bool) → k < length marks → t ≡ n + k → fresh_from n (slice_set marks k true) ≡ filter (λ j. not (j == t)) (fresh_from n marks)
marked t n k [] h e = absurd (omega arith)
marked t n zero (true ∷ ms) h e = sym (none_below t (n + 1) ms (omega arith))
marked t n zero (false ∷ ms) h e = let s : (n == t) ≡ true = tie n t (omega arith) in rw s (sym (none_below t (n + 1) ms (omega arith)))
marked t n (suc k) (true ∷ ms) h e = marked t (n + 1) k ms (omega arith) (omega arith)
marked t n (suc k) (false ∷ ms) h e = let s : (n == t) ≡ false = differ n t (omega arith) in rw s (ap (λ (l : List ℕ). n ∷ l) (marked t (n + 1) k ms (omega arith) (omega arith)))

pub marked_one : (marks : List Bool) (number : ℕ) → 0 < number → number ≤ length marks → fresh_of (slice_set marks (number - 1) true) ≡ filter (λ j. not (j == number)) (fresh_of marks)
marked_one marks number h k = marked number 1 (number - 1) marks (omega arith) (omega arith)

-- all of them are above what is below the first
all_above : (t n : ℕ) (marks : List Bool) → t < n → filter (nat_lt t) (fresh_from n marks) ≡ fresh_from n marks
all_above t n [] h = refl
all_above t n (true ∷ ms) h = all_above t (n + 1) ms (omega arith)
all_above t n (false ∷ ms) h = let e : nat_lt t n ≡ true = lt_true t n h in rw e (ap (λ (l : List ℕ). n ∷ l) (all_above t (n + 1) ms (omega arith)))

pub above : (t n d : ℕ) (marks : List Bool) → n + d ≡ t + 1 → filter (nat_lt t) (fresh_from n marks) ≡ fresh_from (t + 1) (drop d marks)
above t n zero marks h = let e : n ≡ t + 1 = omega arith in all_above t n marks (omega arith) ∙ ap (λ (k : ℕ). fresh_from k marks) e
above t n (suc d) [] h = refl
above t n (suc d) (true ∷ ms) h = above t (n + 1) d ms (omega arith)
above t n (suc d) (false ∷ ms) h = let e : nat_lt t n ≡ false = lt_false t n (omega arith) in rw e (above t (n + 1) d ms (omega arith))

-- a place counted from the number before
found_at : (a b : Bool) (f p g q : ℕ) → a ≡ b → f + p ≡ g + q → option_map (λ k. f + k) (cond a (Some p) None) ≡ option_map (λ k. g + k) (cond b (Some q) None)
found_at true true f p g q e h = ap Some h
found_at false false f p g q e h = refl
found_at true false f p g q e h = cc
found_at false true f p g q e h = cc

tests_alike : (p m : ℕ) → nat_lt (1 + p) (suc m) ≡ nat_lt p m
tests_alike p m = grind (arith, nat_tests)

-- what is found is the first of them
pub heads : (n : ℕ) (marks : List Bool) (r : Option ℕ) → r ≡ option_map (λ k. n + k) (position not marks) → MatchOption r (fresh_from n marks ≡ []) (λ k. Heads k (fresh_from n marks))
heads n [] r e = rw e refl
heads n (false ∷ ms) r e =
    let t : nat_lt 0 (suc (length ms)) ≡ true = lt_true 0 (suc (length ms)) (omega arith) in
    let z : n ≡ n + 0 = omega arith in
    let found : r ≡ Some (n + 0) = e ∙ found_at (nat_lt 0 (suc (length ms))) true n 0 n 0 t refl in
    rw found (record { rest = fresh_from (n + 1) ms; is = ap (λ (k : ℕ). k ∷ fresh_from (n + 1) ms) z })
heads n (true ∷ ms) r e = heads (n + 1) ms r (e ∙ found_at (nat_lt (1 + position_or_len not ms) (suc (length ms))) (nat_lt (position_or_len not ms) (length ms)) n (1 + position_or_len not ms) (n + 1) (position_or_len not ms) (tests_alike (position_or_len not ms) (length ms)) (omega arith))

-- what is found from a number on
found_from : (marks : List Bool) (first place f : ℕ) (r : Option ℕ) → first ≡ f → first - 1 ≡ place → r ≡ option_map (λ k. first + k) (position not (drop (first - 1) marks)) → r ≡ option_map (λ k. f + k) (position not (drop place marks))
found_from marks first place f r e h s = s ∙ rw (h, e) refl

pub next_after : (marks : List Bool) (from : ℕ) (r : Option ℕ) → r ≡ next_fresh marks (from + 1) → MatchOption r (filter (nat_lt from) (fresh_of marks) ≡ []) (λ k. Heads k (filter (nat_lt from) (fresh_of marks)))
next_after marks from r e =
    let s : r ≡ option_map (λ k. from + 1 + k) (position not (drop from marks)) = found_from marks (max (from + 1) 1) from (from + 1) r (omega arith) (omega arith) e in
    let same : filter (nat_lt from) (fresh_of marks) ≡ fresh_from (from + 1) (drop from marks) = above from 1 from marks (omega arith) in
    subst (λ (l : List ℕ). MatchOption r (l ≡ []) (λ k. Heads k l)) (sym same) (heads (from + 1) (drop from marks) r s)

pub some_heads : (r : Option ℕ) (l : List ℕ) → MatchOption r (l ≡ []) (λ k. Heads k l) → is_some r ≡ not (is_empty l)
some_heads None l h = rw h refl
some_heads (Some k) l h = rw h.is refl

pub any_fresh : (marks : List Bool) (r : Option ℕ) → r ≡ next_fresh marks 1 → is_some r ≡ not (is_empty (fresh_of marks))
any_fresh marks r e = some_heads r (fresh_of marks) (heads 1 marks r e)
