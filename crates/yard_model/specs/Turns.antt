-- How rules are put together: one and then another; one for each. A rule is a function from a state to moves, and the state after it is the fold of the actor's step over its moves.
use Rattle.std.specs.Prelude.{List, [], ◌∷◌, ◌++◌, fold, Option, Some, None}

-- what p gives, and then what q gives where p's moves count
abbrev pub in_turn : {S M : Type 0} → (S → M → S) → (S → List M) → (S → List M) → S → List M
in_turn after p q st = let made : List _ = p st in made ++ q (fold after st made)

-- p for each of the xs, each where the moves before it count
abbrev pub for_each : {S M X : Type 0} → (S → M → S) → (X → S → List M) → List X → S → List M
for_each after p [] st = []
for_each after p (x ∷ xs) st = let made : List _ = p x st in made ++ for_each after p xs (fold after st made)

-- p of what is there, if anything is
abbrev pub where_some : {M X : Type 0} → (X → List M) → Option X → List M
where_some p None = []
where_some p (Some x) = p x
