use Rattle.settle_laws.proofs.Tops as tops
use Rattle.settle_laws.proofs.worlds.budget_suffices.Goals as goal

pub returns : goal.returns
returns c w = tops.most_within w
