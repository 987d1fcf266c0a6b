-- The first bytes of a name as a number.
use Rattle.std.specs.Prelude.{ℕ, zero, suc, ◌+◌, ◌*◌, ◌^◌, List, [], ◌∷◌}

-- the number that the first n bytes spell, the first the greatest; 0 for each that isn't there
abbrev pub front : ℕ → List ℕ → ℕ
front zero xs = 0
front (suc n) [] = 0
front (suc n) (x ∷ xs) = 256 ^ n * x + front n xs
