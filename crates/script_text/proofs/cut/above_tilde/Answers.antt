use Rattle.script_text.proofs.Lanes.{bits_above}
use Rattle.script_text.proofs.cut.above_tilde.Goals as goal

pub returns : goal.returns
returns c k = bits_above c.args.chunk k c.fits-chunk.0
