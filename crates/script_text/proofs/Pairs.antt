-- Pairs of producer and entity that are counted.
use Rattle.std.proofs.Common.{◌≡◌, ℕ, ◌+◌, ◌<◌, Bool, true, false, List, [], ◌∷◌, ◌++◌, refl, sym, ap, ap₂, ◌∙◌, arith, length-append, eqb-true}
use Rattle.std.specs.Prelude.{◌==◌, ◌&&◌, ◌||◌, if◌then◌else◌, nat_lt, min}
use Rattle.std.specs.List.{list_any}
use Rattle.std.proofs.lemmas.Bool.Decides.{nat_tests, Decides-eqb}
use Rattle.std.proofs.lemmas.Slice.Eq.{slice_eq-Decides}
use Rattle.yard_model.specs.Counts.{Counted, count_of, CountsNone, CountsOneMore, CountsTheSame}
use Rattle.yard_model.specs.Script.{Pair, is_pair, is_name}
use Rattle.script_text.proofs.Names.{and_true}
use Rattle.script_text.specs.Drafts.{KeepsPairs}

-- names that are found the same are equal
pub same_name : (a b : List ℕ) → is_name a b ≡ true → a ≡ b
same_name a b e = (slice_eq-Decides Decides-eqb a b (is_name a b) refl).0 e

list_any_push : {X : Type 0} (test : X → Bool) (xs : List X) (x : X) → list_any test (xs ++ x ∷ []) ≡ (list_any test xs || test x)
list_any_push test [] x = or_false (test x)
  where
    or_false : (b : Bool) → (b || false) ≡ (false || b)
    or_false true = refl
    or_false false = refl
list_any_push test (y ∷ ys) x = ap (λ b. test y || b) (list_any_push test ys x) ∙ or_assoc (test y) (list_any test ys) (test x)
  where
    or_assoc : (a b c : Bool) → (a || (b || c)) ≡ ((a || b) || c)
    or_assoc true b c = refl
    or_assoc false b c = refl

-- no pairs
pub pairs_none : (c : Counted) → CountsNone c → KeepsPairs c 0 []
pairs_none c n = record { count = refl; same = λ p e. ap (λ k. nat_lt 0 k) (n.each p e) }

-- no pair more
pub pairs_same : (old new : Counted) (number : ℕ) (known : List Pair) → KeepsPairs old number known → CountsTheSame old new → KeepsPairs new number known
pairs_same old new number known k t = record { count = k.count; same = λ p e. ap (λ n. nat_lt 0 n) (t.each p e) ∙ k.same p e }

-- numbers of sends, told by the count
some : (n : ℕ) → nat_lt 0 n ≡ true → 0 < n
some n h = grind (arith, nat_tests)

none : (n : ℕ) → nat_lt 0 n ≡ false → n ≡ 0
none n h = grind (arith, nat_tests)

later : (old n : ℕ) → n ≡ min (old + 1) 4294967295 → nat_lt 0 old ≡ true → (n == 1) ≡ false
later old n e h = let more : 0 < old = some old h in let two : 1 < n = omega arith in grind (arith, nat_tests)

first : (old n : ℕ) → n ≡ min (old + 1) 4294967295 → nat_lt 0 old ≡ false → (n == 1) ≡ true
first old n e h = let zero : old ≡ 0 = none old h in let one : n ≡ 1 = omega arith in grind (arith, nat_tests)

seen : (old n : ℕ) → n ≡ min (old + 1) 4294967295 → nat_lt 0 n ≡ true
seen old n e = let more : 0 < n = omega arith in grind (arith, nat_tests)

-- one send more of a pair
pub pairs_more : (old new : Counted) (number count : ℕ) (known : List Pair) (p : ℕ) (e : List ℕ) → KeepsPairs old number known → CountsOneMore old new p e → count ≡ count_of new p e
    → KeepsPairs new (if count == 1 then min (number + 1) 4294967295 else number) (if list_any (is_pair p e) known then known else known ++ record { producer = p; entity = e } ∷ [])
pairs_more old new number count known p e k more is = step (list_any (is_pair p e) known) refl
  where
    counted : count ≡ min (count_of old p e + 1) 4294967295
    counted = is ∙ more.here

    there : (q : ℕ) (f : List ℕ) → ((p == q) && is_name e f) ≡ true → nat_lt 0 (count_of new q f) ≡ true
    there q f s =
        let parts = and_true (p == q) (is_name e f) s in
        ap₂ (λ a b. nat_lt 0 (count_of new a b)) (sym (eqb-true p q parts.0)) (sym (same_name e f parts.1)) ∙ seen (count_of old p e) (count_of new p e) more.here

    known_too : (q : ℕ) (f : List ℕ) → list_any (is_pair p e) known ≡ true → ((p == q) && is_name e f) ≡ true → list_any (is_pair q f) known ≡ true
    known_too q f t s =
        let parts = and_true (p == q) (is_name e f) s in
        ap₂ (λ a b. list_any (is_pair a b) known) (sym (eqb-true p q parts.0)) (sym (same_name e f parts.1)) ∙ t

    or_true : (a : Bool) → (a || true) ≡ true
    or_true true = refl
    or_true false = refl

    or_false : (a : Bool) → (a || false) ≡ a
    or_false true = refl
    or_false false = refl

    kept : list_any (is_pair p e) known ≡ true → (q : ℕ) (f : List ℕ) (c : Bool) → ((p == q) && is_name e f) ≡ c → nat_lt 0 (count_of new q f) ≡ list_any (is_pair q f) known
    kept t q f true s = there q f s ∙ sym (known_too q f t s)
    kept t q f false s = ap (λ n. nat_lt 0 n) (more.others q f s) ∙ k.same q f

    grown : (q : ℕ) (f : List ℕ) (c : Bool) → ((p == q) && is_name e f) ≡ c → nat_lt 0 (count_of new q f) ≡ (list_any (is_pair q f) known || ((p == q) && is_name e f))
    grown q f true s = there q f s ∙ sym (ap (λ b. list_any (is_pair q f) known || b) s ∙ or_true (list_any (is_pair q f) known))
    grown q f false s = ap (λ n. nat_lt 0 n) (more.others q f s) ∙ (k.same q f ∙ sym (ap (λ b. list_any (is_pair q f) known || b) s ∙ or_false (list_any (is_pair q f) known)))

    step : (b : Bool) → list_any (is_pair p e) known ≡ b
        → KeepsPairs new (if count == 1 then min (number + 1) 4294967295 else number) (if b then known else known ++ record { producer = p; entity = e } ∷ [])
    step true t = record {
      count = ap (λ b. if b then min (number + 1) 4294967295 else number) (later (count_of old p e) count counted (k.same p e ∙ t)) ∙ k.count;
      same = λ q f. kept t q f ((p == q) && is_name e f) refl;
    }
    step false t = record {
      count = ap (λ b. if b then min (number + 1) 4294967295 else number) (first (count_of old p e) count counted (k.same p e ∙ t))
          ∙ (ap (λ n. min (n + 1) 4294967295) k.count ∙ (omega arith ∙ ap (λ n. min n 4294967295) (sym (length-append known (record { producer = p; entity = e } ∷ [])))));
      same = λ q f. grown q f ((p == q) && is_name e f) refl ∙ sym (list_any_push (is_pair q f) known (record { producer = p; entity = e }));
    }
