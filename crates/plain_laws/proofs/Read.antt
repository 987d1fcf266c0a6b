-- What is read off a list of facts, after one more.
use Rattle.std.proofs.Common.{◌≡◌, ℕ}
use Rattle.std.specs.Prelude.{[], ◌∷◌, ◌++◌, List}
use Rattle.std.proofs.lemmas.List.Sums.{fold-append}
use Rattle.yard_model.specs.declared.fact.Fact.{Fact}
use Rattle.yard_model.specs.SlotReads.{regions, regions_step, journal, journal_step}

pub regions_more : (list : List Fact) (f : Fact) → regions (list ++ f ∷ []) ≡ regions_step (regions list) f
regions_more list f = fold-append regions_step [] list (f ∷ [])

pub journal_more : (e : List ℕ) (list : List Fact) (f : Fact) → journal e (list ++ f ∷ []) ≡ journal_step e (journal e list) f
journal_more e list f = fold-append (journal_step e) [] list (f ∷ [])
