use Rattle.std.proofs.Common.{◌≡◌, ◌≤◌, ℕ, zero, suc, ◌+◌, ◌-◌, List, [], ◌∷◌, ◌++◌, length, take, drop, refl, sym, ap, ◌∙◌, arith, zero-add, append_assoc, length-append}
use Rattle.std.proofs.lemmas.List.{append-nil, drop-drop, take_all, drop_all, length-drop, take-append-le}
use Rattle.std.proofs.Math.Seq.{take-length, take-nil, take-append-add}
use Rattle.std.proofs.Math.Nat.{suc-add}
use Rattle.std.specs.Prelude.{Option, Some, None, IfSome}
use Rattle.yard_io.specs.Told.{followed_by, without_first, TakesFront, LosesUpTo}

-- a front, and then a front of the rest
pub take_then : (i n : ℕ) (xs : List ℕ) → take i xs ++ take n (drop i xs) ≡ take (i + n) xs
take_then zero n xs = rw zero-add refl
take_then (suc i) n [] = take-nil n ∙ sym (take-nil (suc i + n))
take_then (suc i) n (x ∷ xs) = rw suc-add (ap (λ zs. x ∷ zs) (take_then i n xs))

-- how `&xs[i..]` is seen
pub rest_is : (i : ℕ) (xs : List ℕ) → take (length xs - i) (drop i xs) ≡ drop i xs
rest_is i xs = let long : length (drop i xs) ≡ length xs - i = length-drop i xs in take_all (length xs - i) (drop i xs) (omega arith)

-- two pieces taken one after the other are one piece
pub followed_more : (told : Option (List ℕ)) (xs : List ℕ) (i n : ℕ) → followed_by (followed_by told (take i xs)) (take n (drop i xs)) ≡ followed_by told (take (i + n) xs)
followed_more None xs i n = refl
followed_more (Some ys) xs i n = ap Some (append_assoc ys (take i xs) (take n (drop i xs)) ∙ ap (λ zs. ys ++ zs) (take_then i n xs))

-- what is taken of two pieces one after the other
pub followed_nil : (told : Option (List ℕ)) → followed_by told [] ≡ told
followed_nil None = refl
followed_nil (Some zs) = ap Some (append-nil zs)

pub followed_both : (told : Option (List ℕ)) (xs ys : List ℕ) → followed_by (followed_by told xs) ys ≡ followed_by told (xs ++ ys)
followed_both None xs ys = refl
followed_both (Some zs) xs ys = ap Some (append_assoc zs xs ys)

pub front_whole : (old new : Option (List ℕ)) (xs : List ℕ) → new ≡ followed_by old xs → TakesFront old new xs
front_whole old new xs is = (length xs, omega arith, is ∙ ap (followed_by old) (sym (take-length xs)))

pub front_first : (old new : Option (List ℕ)) (xs ys : List ℕ) → TakesFront old new xs → TakesFront old new (xs ++ ys)
front_first old new xs ys p =
    let long : length (xs ++ ys) ≡ length xs + length ys = length-append xs ys in
    (p.0, omega (arith, p.1), rw (take-append-le p.0 xs ys p.1) p.2)

pub front_second : (old new : Option (List ℕ)) (xs ys : List ℕ) → TakesFront (followed_by old xs) new ys → TakesFront old new (xs ++ ys)
front_second old new xs ys p =
    let long : length (xs ++ ys) ≡ length xs + length ys = length-append xs ys in
    (length xs + p.0, omega (arith, p.1), p.2 ∙ (followed_both old xs (take p.0 ys) ∙ ap (followed_by old) (sym (take-append-add xs ys p.0))))

-- two fronts lost one after the other are one front
pub without_more : (told : Option (List ℕ)) (i n : ℕ) → without_first n (without_first i told) ≡ without_first (i + n) told
without_more None i n = refl
without_more (Some xs) i n = ap Some (drop-drop n i xs)

-- no byte lost
pub without_none : (told : Option (List ℕ)) (n : ℕ) → n ≡ 0 → without_first n told ≡ told
without_none None n none = refl
without_none (Some xs) n none = rw none refl

-- what is lost after a front is a longer front
pub lost_more : (told now after : Option (List ℕ)) (i room limit : ℕ) → i + room ≤ limit → now ≡ without_first i told →
    LosesUpTo now after room → LosesUpTo told after limit
lost_more told now after i room limit within e p = (i + p.0, omega (arith, p.1), p.2 ∙ (ap (without_first p.0) e ∙ without_more told i p.0))

-- one read more
pub read_more : (told now : Option (List ℕ)) (old new : List ℕ) (i n : ℕ) → now ≡ without_first i told →
    IfSome told (λ xs. old ≡ take i xs) → IfSome now (λ xs. new ≡ old ++ take n xs) → IfSome told (λ xs. new ≡ take (i + n) xs)
read_more None now old new i n e had came = tt
read_more (Some xs) None old new i n e had came = cc
read_more (Some xs) (Some ys) old new i n e had came =
    let rest : ys ≡ drop i xs = cc in
    came ∙ (ap (λ zs. zs ++ take n ys) had ∙ (ap (λ zs. take i xs ++ take n zs) rest ∙ take_then i n xs))

-- a read of nothing
pub read_none : (told now : Option (List ℕ)) (old new : List ℕ) (i n : ℕ) → n ≡ 0 → now ≡ without_first i told →
    IfSome told (λ xs. old ≡ take i xs) → IfSome now (λ xs. new ≡ old ++ take n xs) → IfSome told (λ xs. new ≡ take i xs)
read_none None now old new i n none e had came = tt
read_none (Some xs) None old new i n none e had came = cc
read_none (Some xs) (Some ys) old new i n none e had came = came ∙ (rw none (append-nil old) ∙ had)

none_left : (i : ℕ) (xs : List ℕ) → drop i xs ≡ [] → length xs ≤ i
none_left i xs none = let none_long : length xs - i ≡ 0 = sym (length-drop i xs) ∙ ap length none in omega arith

-- where nothing is left before the limit, what has come is all that comes up to the limit
pub all_read : (told now : Option (List ℕ)) (old : List ℕ) (i limit : ℕ) → i ≤ limit → now ≡ without_first i told →
    IfSome told (λ xs. old ≡ take i xs) → IfSome now (λ xs. xs ≡ []) → IfSome told (λ xs. old ≡ take limit xs)
all_read None now old i limit within e had none = tt
all_read (Some xs) None old i limit within e had none = cc
all_read (Some xs) (Some ys) old i limit within e had none =
    let rest : ys ≡ drop i xs = cc in
    let short : length xs ≤ i = none_left i xs (sym rest ∙ none) in
    had ∙ (take_all i xs short ∙ sym (take_all limit xs (omega arith)))

-- and nothing is left past the limit
pub all_gone : (told now : Option (List ℕ)) (i limit : ℕ) → i ≤ limit → now ≡ without_first i told →
    IfSome now (λ xs. xs ≡ []) → now ≡ without_first limit told
all_gone None now i limit within e none = e
all_gone (Some xs) None i limit within e none = cc
all_gone (Some xs) (Some ys) i limit within e none =
    let rest : ys ≡ drop i xs = cc in
    let short : length xs ≤ i = none_left i xs (sym rest ∙ none) in
    ap Some (none ∙ sym (drop_all limit xs (omega arith)))
