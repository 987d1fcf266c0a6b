-- What is confirmed, after one more; counts and stamps after one fact more.
use Rattle.std.proofs.Common.{◌≡◌, ℕ, ◌+◌, ◌-◌, Bool, true, false, List, [], ◌∷◌, ◌++◌, refl, sym, subst, ap, ap₂, ◌∙◌, arith, append_assoc, lt-ltb, Option}
use Rattle.std.specs.Prelude.{◌==◌, ◌&&◌, ◌||◌, ◌<◌, ◌≢◌, if◌then◌else◌, not, length, replicate, slice_index_or, slice_set, is_some, Some, None, zero, suc}
use Rattle.std.specs.List.{list_any, position, position_or_len, slice_get}
use Rattle.std.specs.Cmp.Lexicographic.{nat_list_eq_equiv, slice_cmp}
use Rattle.std.specs.List.Sorted.{IsStrictlySortedBy}
use Rattle.std.specs.Ordering.{nat_cmp}
use Rattle.std.proofs.lemmas.Grind.{get_or-set_at}
use Rattle.std.proofs.lemmas.List.{get_or_default, get_or-set_other, length-append}
use Rattle.std.proofs.lemmas.List.Quantifiers.{position-Some}
use Rattle.std.proofs.lemmas.List.Folds.{list_any-append, list_any_at}
use Rattle.std.proofs.lemmas.List.Sums.{passes_at_first, position_or_len_is}
use Rattle.std.proofs.lemmas.Option.{slice_get_within, get_or_from_slice_get}
use Rattle.yard_model.specs.Script.{is_name}
use Rattle.name_index.proofs.NameLaws.{placed}
use Rattle.plain_laws.proofs.Names.{name_itself}
use Rattle.plain_laws.proofs.Booleans.{get_replicate, number_itself, or_both, same_name, same_number, true_is_not_false}
use Rattle.bulk_gen.specs.Counted.{AreConfirmed, IsPlace, last_of, number_of}
use Rattle.bulk_gen.specs.SummaryText.{Confirmation, is_of_pair, sum_of_last}

-- pairs as names
pair_symm : (x y : Confirmation) → is_of_pair x y ≡ is_of_pair y x
pair_symm x y = nat_list_eq_equiv.symm (x.producer ∷ x.entity) (y.producer ∷ y.entity)

same_any : (x y : Confirmation) (zs : List Confirmation) → is_of_pair x y ≡ true → list_any (is_of_pair x) zs ≡ list_any (is_of_pair y) zs
same_any x y [] h = refl
same_any x y (z ∷ zs) h = ap₂ (λ a b. a || b) (nat_list_eq_equiv.congr (x.producer ∷ x.entity) (y.producer ∷ y.entity) (z.producer ∷ z.entity) h) (same_any x y zs h)

none_last : (x : Confirmation) (zs : List Confirmation) → list_any (is_of_pair x) zs ≡ false → last_of x zs ≡ 0
none_last x [] h = refl
none_last x (z ∷ zs) h =
    let parts = or_both (is_of_pair x z) (list_any (is_of_pair x) zs) h in
    ap₂ (λ a b. if a then last_of x zs else if b then z.number else 0) parts.1 parts.0

-- the last number, after one more
last_push : (y x : Confirmation) (zs : List Confirmation) → last_of y (zs ++ x ∷ []) ≡ (if is_of_pair y x then x.number else last_of y zs)
last_push y x [] = refl
last_push y x (z ∷ zs) =
    by (if is_of_pair y z then z.number else 0) (last_of y zs) (list_any (is_of_pair y) zs) (is_of_pair y x) (list_any (is_of_pair y) (zs ++ x ∷ [])) (last_of y (zs ++ x ∷ []))
    (list_any-append (is_of_pair y) zs (x ∷ [])) (last_push y x zs)
  where
    by : (t l : ℕ) (b s a : Bool) (k : ℕ) → a ≡ (b || (s || false)) → k ≡ (if s then x.number else l) → (if a then k else t) ≡ (if s then x.number else (if b then l else t))
    by t l true true a k h e = ap (λ c. if c then k else t) h ∙ e
    by t l true false a k h e = ap (λ c. if c then k else t) h ∙ e
    by t l false true a k h e = ap (λ c. if c then k else t) h ∙ e
    by t l false false a k h e = ap (λ c. if c then k else t) h

-- the sum, after one more
sum_push : (x : Confirmation) (zs : List Confirmation) → sum_of_last (zs ++ x ∷ []) + last_of x zs ≡ sum_of_last zs + x.number
sum_push x [] = omega arith
sum_push x (z ∷ zs) =
    ap₂ (λ a s. ((if a then 0 else z.number) + sum_of_last (zs ++ x ∷ [])) + (if list_any (is_of_pair x) zs then last_of x zs else (if s then z.number else 0)))
    (list_any-append (is_of_pair z) zs (x ∷ [])) (pair_symm x z)
    ∙ by (list_any (is_of_pair z) zs) (list_any (is_of_pair x) zs) (is_of_pair z x) (last_of x zs) (sum_of_last zs) (sum_of_last (zs ++ x ∷ [])) (same_any z x zs) (none_last x zs) (sum_push x zs)
  where
    by : (a b s : Bool) (l t u : ℕ) → (s ≡ true → a ≡ b) → (b ≡ false → l ≡ 0) → u + l ≡ t + x.number
        → ((if a || (s || false) then 0 else z.number) + u) + (if b then l else (if s then z.number else 0)) ≡ ((if a then 0 else z.number) + t) + x.number
    by true true s l t u f g e = omega (arith, e)
    by true false true l t u f g e = absurd (true_is_not_false (f refl))
    by true false false l t u f g e = let none : l ≡ 0 = g refl in omega (arith, e, none)
    by false true true l t u f g e = absurd (true_is_not_false (sym (f refl)))
    by false true false l t u f g e = omega (arith, e)
    by false false true l t u f g e = let none : l ≡ 0 = g refl in omega (arith, e, none)
    by false false false l t u f g e = let none : l ≡ 0 = g refl in omega (arith, e, none)

-- the name at its first place
stands : (names : List (List ℕ)) (e : List ℕ) (k : ℕ) → IsPlace names e k → slice_index_or names k [] ≡ e
stands names e k p = ap (λ i. slice_index_or names i []) (sym p.first) ∙ sym (same_name e (slice_index_or names j []) (passes_at_first (is_name e) names [] (let within : k < length names = p.within in let first : j ≡ k = p.first in omega (arith, within, first))))
  where
    j : ℕ
    j = position_or_len (is_name e) names

-- the number of a pair, once that of one pair is another
number_after : (names rows : List (List ℕ)) (k sum after : ℕ) (x y : Confirmation) → length rows ≡ length names → IsPlace names x.entity k → x.producer < length (slice_index_or rows k [])
    → number_of (record { names = names; rows = slice_set rows k (slice_set (slice_index_or rows k []) x.producer x.number); sum = after }) y.producer y.entity
    ≡ (if is_of_pair y x then x.number else number_of (record { names = names; rows = rows; sum = sum }) y.producer y.entity)
number_after names rows k sum after x y sized p wide = by (is_name y.entity x.entity) refl
  where
    within : k < length names
    within = p.within

    it : slice_index_or names k [] ≡ x.entity
    it = stands names x.entity k p

    row : List ℕ
    row = slice_index_or rows k []

    now : List ℕ
    now = slice_set row x.producer x.number

    there : k < length rows
    there = omega (arith, sized, within)

    j : ℕ
    j = position_or_len (is_name y.entity) names

    same : (s : Bool) → (y.producer == x.producer) ≡ s → slice_index_or now y.producer 0 ≡ (if s && true then x.number else slice_index_or row y.producer 0)
    same true e = get_or-set_at row x.producer y.producer x.number 0 (same_number y.producer x.producer e) wide
    same false e = get_or-set_other row x.producer y.producer x.number 0 (λ z. true_is_not_false (sym (number_itself y.producer x.producer z) ∙ e))

    by : (b : Bool) → is_name y.entity x.entity ≡ b → slice_index_or (slice_index_or (slice_set rows k now) j []) y.producer 0 ≡ (if is_of_pair y x then x.number else slice_index_or (slice_index_or rows j []) y.producer 0)
    by true e =
        let one : y.entity ≡ x.entity = same_name y.entity x.entity e in
        let at : k ≡ j = sym p.first ∙ ap (λ (e : List ℕ). position_or_len (is_name e) names) (sym one) in
        ap (λ (r : List ℕ). slice_index_or r y.producer 0) (get_or-set_at rows k j now [] (sym at) there)
        ∙ (same (y.producer == x.producer) refl
        ∙ (ap (λ b. if (y.producer == x.producer) && b then x.number else slice_index_or row y.producer 0) (sym e)
        ∙ ap (λ i. if is_of_pair y x then x.number else slice_index_or (slice_index_or rows i []) y.producer 0) at))
    by false e =
        let apart : j ≢ k = λ z. true_is_not_false (sym (found z) ∙ e) in
        ap (λ (r : List ℕ). slice_index_or r y.producer 0) (get_or-set_other rows k j now [] apart)
        ∙ sym (none (y.producer == x.producer) ∙ refl)
      where
        found : j ≡ k → is_name y.entity x.entity ≡ true
        found z = ap (is_name y.entity) (sym it ∙ ap (λ i. slice_index_or names i []) (sym z)) ∙ passes_at_first (is_name y.entity) names [] (let h : k < length names = within in omega (arith, h, z))

        none : (s : Bool) → (if s && is_name y.entity x.entity then x.number else slice_index_or (slice_index_or rows j []) y.producer 0) ≡ slice_index_or (slice_index_or rows j []) y.producer 0
        none true = ap (λ b. if b then x.number else slice_index_or (slice_index_or rows j []) y.producer 0) e
        none false = refl

-- one more is confirmed, where a row is read and then written
pub confirmed_more : (names rows : List (List ℕ)) (k : ℕ) (read row now : List ℕ) (x : Confirmation) (sum more before after : ℕ) (xs : List Confirmation) → AreConfirmed (record { names = names; rows = rows; sum = sum }) xs
    → length rows ≡ length names → IsPlace names x.entity k → read ≡ slice_index_or rows k read → row ≡ slice_index_or rows k row → now ≡ slice_set row x.producer x.number → x.producer < length row
    → before ≡ slice_index_or read x.producer 0 → more ≡ sum + x.number → after ≡ more - before → AreConfirmed (record { names = names; rows = slice_set rows k now; sum = after }) (xs ++ x ∷ [])
confirmed_more names rows k read row now x sum more before after xs c sized p reads writes sets wide b m s = record {
  each = λ y. ap (λ (l : List ℕ). number_of (record { names = names; rows = slice_set rows k l; sum = after }) y.producer y.entity) (sets ∙ ap (λ (l : List ℕ). slice_set l x.producer x.number) there)
      ∙ (number_after names rows k sum after x y sized p (subst (λ (l : List ℕ). x.producer < length l) there wide) ∙ (ap (λ n. if is_of_pair y x then x.number else n) (c.each y) ∙ sym (last_push y x xs)));
  sum =
      let at : k ≡ position_or_len (is_name x.entity) names = sym p.first in
      let last : before ≡ last_of x xs = b ∙ (ap (λ (l : List ℕ). slice_index_or l x.producer 0) (reads ∙ get_or_default rows k read [] inside) ∙ (ap (λ i. slice_index_or (slice_index_or rows i []) x.producer 0) at ∙ c.each x)) in
      let total : sum_of_last (xs ++ x ∷ []) + last_of x xs ≡ sum_of_last xs + x.number = sum_push x xs in
      let so_far : sum ≡ sum_of_last xs = c.sum in
      omega (arith, last, total, so_far, m, s);
}
  where
    inside : k < length rows
    inside = let within : k < length names = p.within in omega (arith, sized, within)

    there : row ≡ slice_index_or rows k []
    there = writes ∙ get_or_default rows k row [] inside

-- the first place of a name among more
first_of_more : (p : List ℕ → Bool) (names more : List (List ℕ)) → position_or_len p names < length names → position_or_len p (names ++ more) ≡ position_or_len p names
first_of_more p [] more within = absurd (omega (arith, within))
first_of_more p (n ∷ ns) more within = by (p n) (λ near. first_of_more p ns more near) within
  where
    by : (b : Bool) → (position_or_len p ns < length ns → position_or_len p (ns ++ more) ≡ position_or_len p ns) → (if not b then 1 + position_or_len p ns else 0) < suc (length ns)
        → (if not b then 1 + position_or_len p (ns ++ more) else 0) ≡ (if not b then 1 + position_or_len p ns else 0)
    by true rest far = refl
    by false rest far = ap (λ i. 1 + i) (rest (let near : 1 + position_or_len p ns < suc (length ns) = far in omega (arith, near)))

first_behind : (p : List ℕ → Bool) (names more : List (List ℕ)) → list_any p names ≡ false → position_or_len p (names ++ more) ≡ length names + position_or_len p more
first_behind p [] more h = none_more (position_or_len p more)
  where
    none_more : (n : ℕ) → n ≡ 0 + n
    none_more n = omega arith
first_behind p (n ∷ ns) more h =
    let parts = or_both (p n) (list_any p ns) h in
    ap (λ b. if not b then 1 + position_or_len p (ns ++ more) else 0) parts.0 ∙ (ap (λ i. 1 + i) (first_behind p ns more parts.1) ∙ one_more (length ns) (position_or_len p more))
  where
    one_more : (n m : ℕ) → 1 + (n + m) ≡ suc n + m
    one_more n m = omega arith

-- the place of a name of the script, and of another
pub named_place : (names others : List (List ℕ)) (e : List ℕ) (k : ℕ) → IsStrictlySortedBy (slice_cmp nat_cmp) names → k < length names → slice_index_or names k [] ≡ e → IsPlace (names ++ others) e k
named_place names others e k sorted within it = record {
  within = let all : length (names ++ others) ≡ length names + length others = length-append names others in omega (arith, all, within);
  first = let at : k ≡ position_or_len (is_name e) names = placed names e k sorted within it in first_of_more (is_name e) names others (subst (λ i. i < length names) at within) ∙ sym at;
}

pub other_place : (names others : List (List ℕ)) (e : List ℕ) (i : ℕ) → list_any (is_name e) names ≡ false → position (is_name e) others ≡ Some i → IsPlace (names ++ others) e (length names + i)
other_place names others e i none is =
    let at = position-Some (is_name e) others i [] is in
    record {
      within = let all : length (names ++ others) ≡ length names + length others = length-append names others in let one : i < length others = at.0 in omega (arith, all, one);
      first = first_behind (is_name e) names others none ∙ ap (λ j. length names + j) (position_or_len_is (is_name e) others i [] (let one : i < length others = at.0 in omega (arith, one)) at.2 (λ h. at.1));
    }

there_below : (p : List ℕ → Bool) (xs : List (List ℕ)) → list_any p xs ≡ true → position_or_len p xs < length xs
there_below p [] h = absurd (true_is_not_false (sym h))
there_below p (x ∷ xs) h = by (p x) (λ rest. there_below p xs rest) h
  where
    by : (b : Bool) → (list_any p xs ≡ true → position_or_len p xs < length xs) → (b || list_any p xs) ≡ true → (if not b then 1 + position_or_len p xs else 0) < suc (length xs)
    by true rest h = omega arith
    by false rest h = let near : position_or_len p xs < length xs = rest h in omega (arith, near)

some_is_none : (i : ℕ) → Some i ≡ None → ⊥
some_is_none i e = true_is_not_false (ap (λ (o : Option ℕ). is_some o) e)

none_there : (p : List ℕ → Bool) (xs : List (List ℕ)) → position p xs ≡ None → list_any p xs ≡ false
none_there p xs is = by (list_any p xs) refl
  where
    by : (b : Bool) → list_any p xs ≡ b → b ≡ false
    by false e = refl
    by true e = absurd (some_is_none (position_or_len p xs) (sym (ap (λ b. if b then Some (position_or_len p xs) else None) (lt-ltb (position_or_len p xs) (length xs) (there_below p xs e))) ∙ is))

pub no_place : (names others : List (List ℕ)) (e : List ℕ) → list_any (is_name e) names ≡ false → position (is_name e) others ≡ None → list_any (is_name e) (names ++ others) ≡ false
no_place names others e none is = list_any-append (is_name e) names others ∙ ap₂ (λ a b. a || b) none (none_there (is_name e) others is)

behind : (r : List ℕ) (rs : List (List ℕ)) (n : ℕ) → slice_index_or (r ∷ rs) (1 + n) [] ≡ slice_index_or rs n []
behind r rs n = let next : 1 + n ≡ suc n = omega arith in ap (λ i. slice_index_or (r ∷ rs) i []) next

-- a name that is entered behind the others, with nothing confirmed
row_entered : (p : List ℕ → Bool) (names rows : List (List ℕ)) (e z : List ℕ) (q : ℕ) → length rows ≡ length names → slice_index_or z q 0 ≡ 0
    → slice_index_or (slice_index_or (rows ++ z ∷ []) (position_or_len p (names ++ e ∷ [])) []) q 0 ≡ slice_index_or (slice_index_or rows (position_or_len p names) []) q 0
row_entered p [] [] e z q sized none = by (p e)
  where
    by : (b : Bool) → slice_index_or (slice_index_or (z ∷ []) (if not b then 1 else 0) []) q 0 ≡ 0
    by true = none
    by false = refl
row_entered p [] (r ∷ rs) e z q sized none = absurd (omega (arith, sized))
row_entered p (n ∷ ns) [] e z q sized none = absurd (omega (arith, sized))
row_entered p (n ∷ ns) (r ∷ rs) e z q sized none = by (p n) (row_entered p ns rs e z q (omega (arith, sized)) none)
  where
    by : (b : Bool) → slice_index_or (slice_index_or (rs ++ z ∷ []) (position_or_len p (ns ++ e ∷ [])) []) q 0 ≡ slice_index_or (slice_index_or rs (position_or_len p ns) []) q 0
        → slice_index_or (slice_index_or (r ∷ (rs ++ z ∷ [])) (if not b then 1 + position_or_len p (ns ++ e ∷ []) else 0) []) q 0 ≡ slice_index_or (slice_index_or (r ∷ rs) (if not b then 1 + position_or_len p ns else 0) []) q 0
    by true rest = refl
    by false rest = ap (λ (l : List ℕ). slice_index_or l q 0) (behind r (rs ++ z ∷ []) (position_or_len p (ns ++ e ∷ []))) ∙ (rest ∙ sym (ap (λ (l : List ℕ). slice_index_or l q 0) (behind r rs (position_or_len p ns))))

entered : (names rows : List (List ℕ)) (e : List ℕ) (sum : ℕ) (xs : List Confirmation) → length rows ≡ length names → AreConfirmed (record { names = names; rows = rows; sum = sum }) xs
    → AreConfirmed (record { names = names ++ e ∷ []; rows = rows ++ replicate 33 0 ∷ []; sum = sum }) xs
entered names rows e sum xs sized c = record { each = λ y. row_entered (is_name y.entity) names rows e (replicate 33 0) y.producer sized (get_replicate 33 y.producer 0) ∙ c.each y; sum = c.sum }

pub entered_place : (names others new : List (List ℕ)) (e : List ℕ) (k : ℕ) → list_any (is_name e) (names ++ others) ≡ false → new ≡ others ++ e ∷ [] → k ≡ length names + length others → IsPlace (names ++ new) e k
entered_place names others new e k none is at = record {
  within =
      let all : length (names ++ new) ≡ length names + length new = length-append names new in
      let some : length new ≡ length others + 1 = ap length is ∙ length-append others (e ∷ []) in
      omega (arith, all, some, at);
  first =
      ap (λ (l : List (List ℕ)). position_or_len (is_name e) (names ++ l)) is
      ∙ (ap (position_or_len (is_name e)) (sym (append_assoc names others (e ∷ [])))
      ∙ (first_behind (is_name e) (names ++ others) (e ∷ []) none
      ∙ (ap₂ (λ n b. n + (if not b then 1 else 0)) (length-append names others) (name_itself e) ∙ (add_zero (length names + length others) ∙ sym at))));
}
  where
    add_zero : (n : ℕ) → n + 0 ≡ n
    add_zero n = omega arith

pub entered_kept : (names others new : List (List ℕ)) (rows now : List (List ℕ)) (e nought : List ℕ) (sum : ℕ) (xs : List Confirmation) → length rows ≡ length names + length others → new ≡ others ++ e ∷ [] → now ≡ rows ++ nought ∷ [] → nought ≡ replicate 33 0
    → AreConfirmed (record { names = names ++ others; rows = rows; sum = sum }) xs → AreConfirmed (record { names = names ++ new; rows = now; sum = sum }) xs
entered_kept names others new rows now e nought sum xs sized is there zeroed c =
    subst (λ (l : List (List ℕ)). AreConfirmed (record { names = l; rows = now; sum = sum }) xs) (append_assoc names others (e ∷ []) ∙ ap (λ (l : List (List ℕ)). names ++ l) (sym is))
    (subst (λ (l : List (List ℕ)). AreConfirmed (record { names = (names ++ others) ++ e ∷ []; rows = l; sum = sum }) xs) (sym (there ∙ ap (λ (z : List ℕ). rows ++ z ∷ []) zeroed))
    (entered (names ++ others) rows e sum xs (sized ∙ sym (length-append names others)) c))

-- nothing is confirmed in rows of zeros
abbrev zeros : List ℕ
zeros = replicate 33 0

none_at : (n j p : ℕ) → slice_index_or (slice_index_or (replicate n zeros) j []) p 0 ≡ 0
none_at zero j p = refl
none_at (suc n) zero p = get_replicate 33 p 0
none_at (suc n) (suc j) p = none_at n j p

pub none_confirmed : (names rows : List (List ℕ)) (n : ℕ) → rows ≡ replicate n (replicate 33 0) → AreConfirmed (record { names = names; rows = rows; sum = 0 }) []
none_confirmed names rows n e = record {
  each = λ x. ap (λ (rs : List (List ℕ)). slice_index_or (slice_index_or rs (position_or_len (is_name x.entity) names) []) x.producer 0) e ∙ none_at n (position_or_len (is_name x.entity) names) x.producer;
  sum = refl;
}

-- the last of a list passes
pub any_last : {A : Type 0} (p : A → Bool) (xs : List A) (i : ℕ) (y : A) → slice_get xs i ≡ Some y → p y ≡ true → list_any p xs ≡ true
any_last p xs i y e h = list_any_at p xs i y (slice_get_within xs i y e) (ap p (get_or_from_slice_get xs i y y e) ∙ h)
