-- How lists of moves that give at most so many items are put together.
use Rattle.std.proofs.Common.{◌≡◌, ℕ, ◌+◌, ◌*◌, ◌-◌, ◌≤◌, List, [], ◌∷◌, ◌++◌, length, ap, ◌∙◌, refl, arith, length-append}
use Rattle.std.specs.Prelude.{Bool, true, false, zero, suc, map, filter, Option, Some, None, if◌then◌else◌}
use Rattle.std.specs.List.{flat_map}
use Rattle.std.proofs.lemmas.Grind.{flat_map-append}
use Rattle.std.proofs.lemmas.List.{length-map}
use Rattle.std.proofs.lemmas.List.Sums.{length-filter, count_by-le-length}
use Rattle.yard_model.specs.Move.{Move, made, item_of}
use Rattle.yard_model.specs.Turns.{where_some}
use Rattle.yard_model.specs.Words.{numbers, at}

-- these moves give at most n items
abbrev pub Gives : ℕ → List Move → Type 0
Gives n ms = length (flat_map item_of ms) ≤ n

-- How lists of moves are put together.

pub more : (m n : ℕ) (xs : List Move) → m ≤ n → Gives m xs → Gives n xs
more m n xs h k = omega (arith, h, k)

pub if_gives : (n : ℕ) (xs ys : List Move) → Gives n xs → Gives n ys → (b : Bool) → Gives n (if b then xs else ys)
if_gives n xs ys h k true = h
if_gives n xs ys h k false = k

pub some_gives : {X : Type 0} (n : ℕ) (f : X → List Move) → ((x : X) → Gives n (f x)) → (o : Option X) → Gives n (where_some f o)
some_gives n f h None = omega arith
some_gives n f h (Some x) = h x

pub both_give : (m n : ℕ) (xs ys : List Move) → Gives m xs → Gives n ys → Gives (m + n) (xs ++ ys)
both_give m n xs ys h k =
    let e : length (flat_map item_of (xs ++ ys)) ≡ length (flat_map item_of xs) + length (flat_map item_of ys) = ap length (flat_map-append item_of xs ys) ∙ length-append (flat_map item_of xs) (flat_map item_of ys) in
    omega (arith, e, h, k)

one_item : (m : Move) → length (item_of m) ≤ 1
one_item (made i) = omega arith
one_item m = omega arith

-- there are no more items than moves
pub moves_give : (ms : List Move) → Gives (length ms) ms
moves_give [] = omega arith
moves_give (m ∷ ms) =
    let e : length (flat_map item_of (m ∷ ms)) ≡ length (item_of m) + length (flat_map item_of ms) = length-append (item_of m) (flat_map item_of ms) in
    omega (arith, e, one_item m, moves_give ms)

pub each_gives : {X : Type 0} (m : ℕ) (p : X → List Move) → ((x : X) → Gives m (p x)) → (xs : List X) → Gives (length xs * m) (flat_map p xs)
each_gives m p h [] = omega arith
each_gives m p h (x ∷ xs) =
    let k : Gives (m + length xs * m) (p x ++ flat_map p xs) = both_give m (length xs * m) (p x) (flat_map p xs) (h x) (each_gives m p h xs) in
    let e : suc (length xs) * m ≡ m + length xs * m = omega arith in
    omega (arith, k, e)

pub map_gives : {X : Type 0} (p : X → Move) (xs : List X) → Gives (length xs) (map p xs)
map_gives p xs = let e : length (map p xs) ≡ length xs = length-map xs p in let k : Gives (length (map p xs)) (map p xs) = moves_give (map p xs) in omega (arith, e, k)

pub filter_few : {X : Type 0} (p : X → Bool) (xs : List X) → length (filter p xs) ≤ length xs
filter_few p xs = omega (arith, length-filter p xs, count_by-le-length p xs)

pub length_numbers : (a n : ℕ) → length (numbers a n) ≡ n
length_numbers a zero = refl
length_numbers a (suc n) = ap suc (length_numbers (a + 1) n)
