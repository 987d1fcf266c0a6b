-- Which facts a line is read as: those of fact_lines, but of upgrades the one to version 2 alone; and that an entity is active, with numbers that fit what
-- keeps them.
use Rattle.std.specs.Prelude.{◌≡◌, ◌≤◌, List, [], ◌∷◌, length}
use Rattle.yard_model.specs.declared.fact.Fact.{Fact}
use Rattle.yard_model.specs.declared.fact.Fact.TheVariants as fact
use Rattle.yard_model.specs.declared.state.CartItem.{CartItem}
use Rattle.yard_model.specs.declared.state.State.{State}
use Rattle.yard_model.specs.declared.state.State.TheVariants as state
use Rattle.fact_lines.specs.Readable.{FitsIncarnation, FitsItem, IsEntity, IsReadable}
use Rattle.fact_lines.specs.Reads.{long, short}
use Rattle.state_lines.specs.States.{full}

abbrev pub FitItems : List CartItem → Type 0
FitItems [] = Unit {0}
FitItems (x ∷ xs) = FitsItem x × FitItems xs

abbrev pub FitsState : State → Type 0
FitsState (state.Counter n) = n ≤ full
FitsState state.NoAccount = Unit {0}
FitsState (state.Open b m) = (b ≤ full) × (m ≤ short)
FitsState state.Closed = Unit {0}
FitsState (state.Cart out items) = (length items ≤ 16) × FitItems items

abbrev pub IsTold : Fact → Type 0
IsTold (fact.Active x e m st) = FitsIncarnation x × IsEntity e × (m ≤ long) × FitsState st
IsTold (fact.Upgrade v) = v ≡ 2
IsTold f = IsReadable f

abbrev pub AreTold : List Fact → Type 0
AreTold [] = Unit {0}
AreTold (f ∷ fs) = IsTold f × AreTold fs
