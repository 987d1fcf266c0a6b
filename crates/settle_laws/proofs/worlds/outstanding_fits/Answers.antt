use Rattle.settle_laws.proofs.Few as few
use Rattle.settle_laws.proofs.worlds.outstanding_fits.Goals as goal

pub returns : goal.returns
returns c d version lists = few.outstanding_fits d version lists
