use Rattle.std.proofs.Common.{refl}
use Rattle.std.specs.Fmt.{digits}
use Rattle.worked_scripts.proofs.dropped_and_asked.Goals as goal

pub returns : goal.returns
unfolding digits
returns c = refl
