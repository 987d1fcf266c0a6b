-- Where a slot's list begins anew: a change of the number of shards (a rule of this project's own).
use Rattle.std.specs.Prelude.{Bool, true, false, List, [], ◌∷◌, ◌++◌, fold, if◌then◌else◌}
use Rattle.yard_model.specs.declared.fact.Fact.{Fact}
use Rattle.yard_model.specs.declared.fact.Fact.TheVariants as fact

-- an entry that begins its list anew
abbrev pub begins : Fact → Bool
begins (fact.Reshard n k) = true
begins (fact.Resharded s n k) = true
begins f = false

pub record Parts : Type 0 where
  pub opening : List Fact  -- up to the last entry that begins the list anew
  pub since : List Fact

abbrev pub parts_step : Parts → Fact → Parts
parts_step old f =
    if begins f
    then record { opening = (old.opening ++ old.since) ++ f ∷ []; since = [] }
    else record { opening = old.opening; since = old.since ++ f ∷ [] }

abbrev pub parts_of : List Fact → Parts
parts_of list = fold parts_step (record { opening = []; since = [] }) list
