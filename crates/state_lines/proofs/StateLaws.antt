-- States, as they are printed, are read.
use Rattle.std.proofs.Common.{◌≡◌, ◌<◌, ◌≤◌, ℕ, suc, zero, ◌+◌, ◌-◌, sym, ap, ◌∙◌, refl, arith}
use Rattle.std.specs.Prelude.{Bool, true, false, ◌==◌, ◌&&◌, nat_le, List, [], ◌∷◌, ◌++◌, length, codes, decimal, Option, Some, None, if◌then◌else◌}
use Rattle.std.proofs.lemmas.List.{append-nil, append_assoc}
use Rattle.plain_laws.proofs.Booleans.{same_number, true_is_not_false}
use Rattle.plain_laws.proofs.Lists.{some_is}
use Rattle.yard_model.specs.declared.state.CartItem.{CartItem}
use Rattle.yard_model.specs.declared.state.State.{State}
use Rattle.yard_model.specs.declared.state.State.TheVariants as state
use Rattle.yard_model.specs.Text.{item_text, items_text, state_text, words}
use Rattle.fact_lines.specs.Readable.{FitsItem}
use Rattle.fact_lines.specs.Reads.{Read, and_then, begins_digit, digits_from, is_digit, long, number_at, numbered, short, text_at}
use Rattle.fact_lines.proofs.NumberLaws.{none_some, number_read}
use Rattle.fact_lines.proofs.PartLaws.{long_read, short_read}
use Rattle.state_lines.specs.States.{full, item_after, item_at, item_more, items_at, items_on, standing_at, state_at}
use Rattle.state_lines.specs.Told.{FitItems, FitsState}

full_read : (n : ℕ) (rest : List ℕ) → n ≤ full → begins_digit rest ≡ false → number_at full (decimal n ++ rest) ≡ Some (n, rest)
full_read n rest h e = number_read full n rest h (omega arith) e

item_read : (x : CartItem) (rest : List ℕ) → FitsItem x → begins_digit rest ≡ false → item_at (item_text x ++ rest) ≡ Some (x, rest)
item_read x rest k e =
    ap item_at (append_assoc (decimal x.item) (58 ∷ decimal x.quantity) rest)
    ∙ rw (short_read x.item (58 ∷ (decimal x.quantity ++ rest)) k.0 refl, short_read x.quantity rest k.1 e) refl

-- each item behind the first, with its comma
abbrev commas : List CartItem → List ℕ
commas [] = []
commas (x ∷ xs) = 44 ∷ (item_text x ++ commas xs)

comma_first : (x : CartItem) (xs : List CartItem) → items_text (x ∷ xs) ≡ item_text x ++ commas xs
comma_first x [] = sym (append-nil (item_text x))
comma_first x (y ∷ xs) = ap (λ t. item_text x ++ (44 ∷ t)) (comma_first y xs)

-- what stands behind the items
abbrev tail : List CartItem → List ℕ → List ℕ
tail xs rest = commas xs ++ (10 ∷ rest)

tail_digit : (xs : List CartItem) (rest : List ℕ) → begins_digit (tail xs rest) ≡ false
tail_digit [] rest = refl
tail_digit (x ∷ xs) rest = refl

one_more : (done : List CartItem) (x : CartItem) (xs : List CartItem) (rest : List ℕ) → FitsItem x → item_more (done, tail (x ∷ xs) rest) ≡ (done ++ x ∷ [], tail xs rest)
one_more done x xs rest k =
    ap (λ t. item_more (done, 44 ∷ t)) (append_assoc (item_text x) (commas xs) (10 ∷ rest))
    ∙ ap (λ (o : Read CartItem). item_after (done, 44 ∷ (item_text x ++ tail xs rest)) o) (item_read x (tail xs rest) k (tail_digit xs rest))

no_more : (n : ℕ) (done : List CartItem) (rest : List ℕ) → items_on n (done, 10 ∷ rest) ≡ (done, 10 ∷ rest)
no_more zero done rest = refl
no_more (suc n) done rest = no_more n done rest

all_more : (n : ℕ) (done xs : List CartItem) (rest : List ℕ) → length xs ≤ n → FitItems xs → items_on n (done, tail xs rest) ≡ (done ++ xs, 10 ∷ rest)
all_more n done [] rest l k = no_more n done rest ∙ ap (λ (d : List CartItem). (d, 10 ∷ rest)) (sym (append-nil done))
all_more zero done (x ∷ xs) rest l k = absurd (omega (arith, l))
all_more (suc n) done (x ∷ xs) rest l k =
    ap (items_on n) (one_more done x xs rest k.0)
    ∙ (all_more n (done ++ x ∷ []) xs rest (omega (arith, l)) k.1 ∙ ap (λ (d : List CartItem). (d, 10 ∷ rest)) (append_assoc done (x ∷ []) xs))

items_read : (xs : List CartItem) (rest : List ℕ) → length xs ≤ 16 → FitItems xs → items_at (items_text xs ++ (10 ∷ rest)) ≡ Some (xs, 10 ∷ rest)
items_read [] rest l k = refl
items_read (x ∷ xs) rest l k =
    let text : items_text (x ∷ xs) ++ (10 ∷ rest) ≡ item_text x ++ tail xs rest = ap (λ t. t ++ (10 ∷ rest)) (comma_first x xs) ∙ append_assoc (item_text x) (commas xs) (10 ∷ rest) in
    ap items_at text ∙ rw (item_read x (tail xs rest) k.0 (tail_digit xs rest), all_more 15 (x ∷ []) xs rest (omega (arith, l)) k.1) refl

-- A number alone is no item, and no dash.

-- a smaller number of the same digits
narrowed : (top n : ℕ) (line rest : List ℕ) → number_at full line ≡ Some (n, rest) → number_at top line ≡ (if nat_le n top then Some (n, rest) else None)
narrowed top n line rest h = by (begins_digit line) (nat_le (digits_from 0 line).0 full) (digits_from 0 line) h
  where
    by : (a b : Bool) (d : ℕ × List ℕ) → (if a && b then Some d else None) ≡ Some (n, rest) → (if a && nat_le d.0 top then Some d else None) ≡ (if nat_le n top then Some (n, rest) else None)
    by true true d e = ap (λ (x : ℕ × List ℕ). if nat_le x.0 top then Some x else None) (some_is d (n, rest) e)
    by true false d e = absurd (none_some (n, rest) e)
    by false b d e = absurd (none_some (n, rest) e)

abbrev item_from : Read ℕ → Read CartItem
item_from o = and_then o (λ a. and_then (numbered (codes ":") short a.1) (λ b. Some (record { item = a.0; quantity = b.0 }, b.1)))

no_item : (n : ℕ) (line rest : List ℕ) → number_at full line ≡ Some (n, rest) → text_at (codes ":") rest ≡ None → item_at line ≡ None
no_item n line rest h e = ap (λ (o : Read ℕ). item_from o) (narrowed short n line rest h) ∙ by (nat_le n short)
  where
    by : (b : Bool) → item_from (if b then Some (n, rest) else None) ≡ None
    by true = ap (λ (o : Option (List ℕ)). and_then (and_then o (number_at short)) (λ b. Some (record { item = n; quantity = b.0 }, b.1))) e
    by false = refl

begins_of : (x : ℕ × List ℕ) (line : List ℕ) → number_at full line ≡ Some x → begins_digit line ≡ true
begins_of x line h = by (begins_digit line) (nat_le (digits_from 0 line).0 full) (digits_from 0 line) h
  where
    by : (a b : Bool) (d : ℕ × List ℕ) → (if a && b then Some d else None) ≡ Some x → a ≡ true
    by true b d e = refl
    by false b d e = absurd (none_some x e)

no_dash : (line : List ℕ) → begins_digit line ≡ true → text_at (45 ∷ []) line ≡ None
no_dash [] h = refl
no_dash (x ∷ xs) h = by (45 == x) refl
  where
    by : (b : Bool) → (45 == x) ≡ b → (if b then Some xs else None) ≡ None
    by true e = absurd (true_is_not_false (sym h ∙ ap is_digit (sym (same_number 45 x e))))
    by false e = refl

no_items : (n : ℕ) (line rest : List ℕ) → number_at full line ≡ Some (n, rest) → text_at (codes ":") rest ≡ None → items_at line ≡ None
no_items n line rest h e = rw (no_item n line rest h e, no_dash line (begins_of (n, rest) line h)) refl

-- States.

open_read : (b m : ℕ) (rest : List ℕ) (z : Bool) → (m == 0) ≡ z → b ≤ full → m ≤ short
    → state_at (words (codes "open" ∷ decimal b ∷ (if z then [] else codes "memo" ∷ decimal m ∷ [])) ++ (10 ∷ rest)) ≡ Some (state.Open b m, 10 ∷ rest)
open_read b m rest true z k l =
    let n = full_read b (10 ∷ rest) k refl in
    rw (no_items b (decimal b ++ (10 ∷ rest)) (10 ∷ rest) n refl, n) (ap (λ (i : ℕ). Some (state.Open b i, 10 ∷ rest)) (sym (same_number m 0 z)))
open_read b m rest false z k l =
    let behind : List ℕ = codes " memo " ++ (decimal m ++ (10 ∷ rest)) in
    let n = full_read b behind k refl in
    let text : words (codes "open" ∷ decimal b ∷ codes "memo" ∷ decimal m ∷ []) ++ (10 ∷ rest) ≡ codes "open " ++ (decimal b ++ behind) =
    ap (λ t. codes "open " ++ t) (append_assoc (decimal b) (codes " memo " ++ decimal m) (10 ∷ rest)) in
    ap state_at text ∙ rw (no_items b (decimal b ++ behind) behind n refl, n, short_read m (10 ∷ rest) l refl) refl

cart_read : (out : Bool) (xs : List CartItem) (rest : List ℕ) → length xs ≤ 16 → FitItems xs
    → state_at (words ((if out then codes "out" else codes "open") ∷ items_text xs ∷ []) ++ (10 ∷ rest)) ≡ Some (state.Cart out xs, 10 ∷ rest)
cart_read true xs rest l k = rw (items_read xs rest l k) refl
cart_read false xs rest l k = rw (items_read xs rest l k) refl

pub state_read : (st : State) (rest : List ℕ) → FitsState st → state_at (state_text st ++ (10 ∷ rest)) ≡ Some (st, 10 ∷ rest)
state_read (state.Counter n) rest k = rw (full_read n (10 ∷ rest) k refl) refl
state_read state.NoAccount rest k = refl
state_read (state.Open b m) rest k = open_read b m rest (m == 0) refl k.0 k.1
state_read state.Closed rest k = refl
state_read (state.Cart out xs) rest k = cart_read out xs rest k.0 k.1

pub standing_read : (m : ℕ) (st : State) (rest : List ℕ) → m ≤ long → FitsState st → standing_at (32 ∷ (decimal m ++ (32 ∷ (state_text st ++ (10 ∷ rest))))) ≡ Some ((m, st), 10 ∷ rest)
standing_read m st rest k h = rw (long_read m (32 ∷ (state_text st ++ (10 ∷ rest))) k refl, state_read st rest h) refl

-- one item more of so many
pub items_step : (i : ℕ) (done : List CartItem × List ℕ) → i < 15 → items_on (15 - i) done ≡ items_on (15 - (i + 1)) (item_more done)
items_step i done h = let e : 15 - i ≡ suc (15 - (i + 1)) = omega (arith, h) in ap (λ k. items_on k done) e
