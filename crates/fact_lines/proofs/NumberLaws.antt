-- Numbers, texts and names that are read.
use Rattle.std.proofs.Common.{◌≡◌, ◌<◌, ◌≤◌, ℕ, ◌+◌, ◌-◌, ◌*◌, ◌/◌, ◌%◌, ◌^◌, sym, subst, ap, ap₂, ◌∙◌, refl, arith}
use Rattle.std.specs.Prelude.{Bool, true, false, ◌==◌, ◌&&◌, nat_le, List, [], ◌∷◌, ◌++◌, length, take, drop, decimal, Some, None, if◌then◌else◌, slice_index_or}
use Rattle.std.specs.List.{list_all}
use Rattle.std.proofs.lemmas.List.{append_assoc, drop_more, drop_all, take-append-drop}
use Rattle.std.proofs.lemmas.Fmt.{decimal_by_steps}
use Rattle.plain_laws.proofs.Booleans.{and_both, both, number_itself, same_number, within}
use Rattle.yard_model.specs.Behaviour.{is_in}
use Rattle.yard_model.specs.Name.{IsName, is_name_byte}
use Rattle.fact_lines.specs.Reads.{begins_digit, begins_name, digits_from, entity_at, is_digit, is_entity, name_from, number_at, text_at}

pub rises : (n : ℕ) (line : List ℕ) → n ≤ (digits_from n line).0
rises n [] = omega arith
rises n (b ∷ bs) = by (is_digit b) (rises (n * 10 + (b - 48)) bs)
  where
    by : (d : Bool) → n * 10 + (b - 48) ≤ (digits_from (n * 10 + (b - 48)) bs).0 → n ≤ (if d then digits_from (n * 10 + (b - 48)) bs else (n, b ∷ bs)).0
    by true up = omega (arith, up)
    by false up = omega arith

one_on : (n b : ℕ) (bs : List ℕ) → is_digit b ≡ true → digits_from n (b ∷ bs) ≡ digits_from (n * 10 + (b - 48)) bs
one_on n b bs h = ap (λ d. if d then digits_from (n * 10 + (b - 48)) bs else (n, b ∷ bs)) h

-- the digits so far are too many
pub over : (top n i : ℕ) (line : List ℕ) → i < length line → is_digit (slice_index_or line i 0) ≡ true → top < n * 10 + (slice_index_or line i 0 - 48) → digits_from n (drop i line) ≡ digits_from 0 line → top < (digits_from 0 line).0
over top n i line l d h e =
    let b : ℕ = slice_index_or line i 0 in
    let next : digits_from 0 line ≡ digits_from (n * 10 + (b - 48)) (drop (i + 1) line) = sym e ∙ (ap (digits_from n) (drop_more line i 0 l) ∙ one_on n b (drop (i + 1) line) d) in
    let up : n * 10 + (b - 48) ≤ (digits_from (n * 10 + (b - 48)) (drop (i + 1) line)).0 = rises (n * 10 + (b - 48)) (drop (i + 1) line) in
    subst (λ (x : ℕ × List ℕ). top < x.0) (sym next) (omega (arith, up, h))

-- A text that isn't there.

pub text_short : (text line : List ℕ) (i : ℕ) → i < length text → length line ≤ i → text_at (drop i text) (drop i line) ≡ text_at text line → text_at text line ≡ None
text_short text line i l s e = sym e ∙ ap₂ text_at (drop_more text i 0 l) (drop_all i line s)

-- A text that is there.

pub text_front : (text rest : List ℕ) → text_at text (text ++ rest) ≡ Some rest
text_front [] rest = refl
text_front (t ∷ ts) rest = rw same (text_front ts rest)
  where
    same : (t == t) ≡ true
    same = number_itself t t refl

pub none_some : {A : Type 0} (x : A) → None ≡ Some x → ⊥
none_some x e = cc

pub text_is : (text line rest : List ℕ) → text_at text line ≡ Some rest → line ≡ text ++ rest
text_is [] line rest h = some line rest h
  where
    some : (a b : List ℕ) → Some a ≡ Some b → a ≡ b
    some a b e = cc
text_is (t ∷ ts) [] rest h = absurd (none_some rest h)
text_is (t ∷ ts) (b ∷ bs) rest h = by (t == b) refl h (text_is ts bs rest)
  where
    by : (d : Bool) → (t == b) ≡ d → (if d then text_at ts bs else None) ≡ Some rest → (text_at ts bs ≡ Some rest → bs ≡ ts ++ rest) → b ∷ bs ≡ t ∷ (ts ++ rest)
    by true e k more = ap₂ (λ x xs. x ∷ xs) (sym (same_number t b e)) (more k)
    by false e k more = absurd (none_some rest k)

-- A number that is printed is read.

digit_is : (n : ℕ) → n < 10 → is_digit (48 + n) ≡ true
digit_is n h = both (nat_le 48 (48 + n)) (nat_le (48 + n) 57) (within 48 (48 + n) (omega arith)) (within (48 + n) 57 (omega (arith, h)))

abbrev Adds : ℕ → List ℕ → Type 0
Adds n ds = (rest : List ℕ) → digits_from 0 (ds ++ rest) ≡ digits_from n rest

adds : (n : ℕ) → n < 2 ^ 64 → Adds n (decimal n)
adds n h = decimal_by_steps Adds one more n h
  where
    one : (n : ℕ) → n < 10 → Adds n ((48 + n) ∷ [])
    one n l rest = let same : 0 * 10 + ((48 + n) - 48) ≡ n = omega arith in one_on 0 (48 + n) rest (digit_is n l) ∙ ap (λ k. digits_from k rest) same

    more : (n : ℕ) (ds : List ℕ) → 10 ≤ n → Adds (n / 10) ds → Adds n (ds ++ ((48 + n % 10) ∷ []))
    more n ds l a rest =
        let small : n % 10 < 10 = omega arith in
        let same : (n / 10) * 10 + ((48 + n % 10) - 48) ≡ n = omega arith in
        ap (digits_from 0) (append_assoc ds ((48 + n % 10) ∷ []) rest) ∙ (a ((48 + n % 10) ∷ rest) ∙ (one_on (n / 10) (48 + n % 10) rest (digit_is (n % 10) small) ∙ ap (λ k. digits_from k rest) same))

stops : (n : ℕ) (rest : List ℕ) → begins_digit rest ≡ false → digits_from n rest ≡ (n, rest)
stops n [] h = refl
stops n (b ∷ bs) h = ap (λ d. if d then digits_from (n * 10 + (b - 48)) bs else (n, b ∷ bs)) h

abbrev Begins : List ℕ → Type 0
Begins ds = (rest : List ℕ) → begins_digit (ds ++ rest) ≡ true

begins : (n : ℕ) → n < 2 ^ 64 → Begins (decimal n)
begins n h = decimal_by_steps (λ m ds. Begins ds) one more n h
  where
    one : (n : ℕ) → n < 10 → Begins ((48 + n) ∷ [])
    one n l rest = digit_is n l

    more : (n : ℕ) (ds : List ℕ) → 10 ≤ n → Begins ds → Begins (ds ++ ((48 + n % 10) ∷ []))
    more n ds l a rest = ap begins_digit (append_assoc ds ((48 + n % 10) ∷ []) rest) ∙ a ((48 + n % 10) ∷ rest)

pub number_read : (top n : ℕ) (rest : List ℕ) → n ≤ top → top < 2 ^ 64 → begins_digit rest ≡ false → number_at top (decimal n ++ rest) ≡ Some (n, rest)
number_read top n rest h t e =
    let small : n < 2 ^ 64 = omega (arith, h, t) in
    let whole : digits_from 0 (decimal n ++ rest) ≡ (n, rest) = adds n small rest ∙ stops n rest e in
    ap₂ (λ (b : Bool) (x : ℕ × List ℕ). if b && nat_le x.0 top then Some x else None) (begins n small rest) whole
    ∙ ap (λ (b : Bool). if b then Some (n, rest) else None) (within n top h)

-- Names.

pub name_read : (e rest : List ℕ) → list_all is_name_byte e ≡ true → begins_name rest ≡ false → name_from (e ++ rest) ≡ (e, rest)
name_read [] [] a h = refl
name_read [] (b ∷ bs) a h = ap (λ d. if d then (b ∷ (name_from bs).0, (name_from bs).1) else ([], b ∷ bs)) h
name_read (b ∷ bs) rest a h =
    let k = and_both (is_name_byte b) (list_all is_name_byte bs) a in
    let more : name_from (bs ++ rest) ≡ (bs, rest) = name_read bs rest k.1 h in
    ap₂ (λ (d : Bool) (x : List ℕ × List ℕ). if d then (b ∷ x.0, x.1) else ([], b ∷ (bs ++ rest))) k.0 more

pub entity_read : (e rest : List ℕ) → is_entity e ≡ true → begins_name rest ≡ false → entity_at (e ++ rest) ≡ Some (e, rest)
entity_read e rest h b =
    let k = and_both (is_in 1 32 (length e)) (list_all is_name_byte e) h in
    ap (λ (x : List ℕ × List ℕ). if is_entity x.0 then Some x else None) (name_read e rest k.1 b) ∙ ap (λ d. if d then Some (e, rest) else None) h

-- what makes a name
pub is_name : (e : List ℕ) → IsName e → is_entity e ≡ true
is_name e n = both (is_in 1 32 (length e)) (list_all is_name_byte e) (both (nat_le 1 (length e)) (nat_le (length e) 32) (within 1 (length e) n.some) (within (length e) 32 n.fits)) n.each

pub name_stops : (i : ℕ) (line : List ℕ) → i < length line → list_all is_name_byte (take i line) ≡ true → is_name_byte (slice_index_or line i 0) ≡ false → name_from line ≡ (take i line, drop i line)
name_stops i line l a h = ap name_from (sym (take-append-drop i line)) ∙ name_read (take i line) (drop i line) a (ap begins_name (drop_more line i 0 l) ∙ h)

pub name_ends : (i : ℕ) (line : List ℕ) → length line ≤ i → list_all is_name_byte (take i line) ≡ true → name_from line ≡ (take i line, drop i line)
name_ends i line s a = ap name_from (sym (take-append-drop i line)) ∙ name_read (take i line) (drop i line) a (ap begins_name (drop_all i line s))
