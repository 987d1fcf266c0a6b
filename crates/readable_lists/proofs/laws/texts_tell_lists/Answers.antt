use Rattle.readable_lists.proofs.TellLaws as laws
use Rattle.readable_lists.proofs.laws.texts_tell_lists.Goals as goal

pub returns : goal.returns
returns c = laws.texts_tell_lists
