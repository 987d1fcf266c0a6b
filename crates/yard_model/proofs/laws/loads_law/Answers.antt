use Rattle.std.proofs.Common.{refl}
use Rattle.std.proofs.lemmas.Slice.Eq.{slice_eq-Decides}
use Rattle.yard_model.proofs.laws.loads_law.Goals as goal

pub returns : goal.returns
returns c a b = slice_eq-Decides c.load_law.ensures a b _ refl
