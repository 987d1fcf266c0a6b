use Rattle.script_text.proofs.Lanes.{bits_below}
use Rattle.script_text.proofs.cut.below_space.Goals as goal

pub returns : goal.returns
returns c k = bits_below c.args.chunk k c.fits-chunk.0
