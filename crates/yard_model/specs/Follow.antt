-- Lists in which each item may follow those before it.
use Rattle.std.specs.Prelude.{Bool, true, ◌&&◌, List, [], ◌∷◌, ◌++◌}

-- each item may follow those before it
abbrev pub each_follows : {A : Type 0} → (List A → A → Bool) → List A → List A → Bool
each_follows may before [] = true
each_follows may before (x ∷ xs) = may before x && each_follows may (before ++ x ∷ []) xs
