use Rattle.std.proofs.Common.{refl}
use Rattle.std.specs.Fmt.{digits}
use Rattle.worked_scripts.proofs.failed_write_lost.Goals as goal

pub returns : goal.returns
unfolding digits
returns c = refl
