-- The names of a script are different.
use Rattle.std.proofs.Common.{ℕ, List, [], ◌∷◌}
use Rattle.std.specs.Prelude.{fold, Option, Some, None}
use Rattle.std.specs.List.Sorted.{IsStrictlySortedBy}
use Rattle.yard_model.specs.declared.charter.Line.{Line}
use Rattle.yard_model.specs.Script.{brought, with_brought, with_name_of, names_in}
use Rattle.plain_laws.specs.Names.{AllDiffer}
use Rattle.plain_laws.proofs.Names.{name_cmp, inserted_sorted, sorted_differ}

names_sorted : (orders : List Line) (names : List (List ℕ)) → IsStrictlySortedBy name_cmp names → IsStrictlySortedBy name_cmp (fold with_name_of names orders)
names_sorted [] names h = h
names_sorted (l ∷ ls) names h = names_sorted ls (with_name_of names l) (by (brought l.order))
  where
    by : (o : Option (List ℕ)) → IsStrictlySortedBy name_cmp (with_brought names o)
    by None = h
    by (Some e) = inserted_sorted e names h

pub names_differ : (orders : List Line) → AllDiffer (names_in orders)
unfolding IsStrictlySortedBy
names_differ orders = sorted_differ (names_in orders) (names_sorted orders [] tt)
