-- Names that are different.
use Rattle.std.proofs.Common.{◌≡◌, ℕ, [], ◌∷◌, List, true}
use Rattle.std.specs.Prelude.{not}
use Rattle.std.specs.List.{list_all}
use Rattle.yard_model.specs.Script.{is_name}

-- each name is different from those after it
abbrev pub AllDiffer : List (List ℕ) → Type 0
AllDiffer [] = Unit {0}
AllDiffer (x ∷ xs) = (list_all (λ y. not (is_name x y)) xs ≡ true) × AllDiffer xs
