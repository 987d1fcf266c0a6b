use Rattle.yard_laws.proofs.EntryLaws as laws
use Rattle.yard_laws.proofs.entities.entities_follow.Goals as goal

pub returns : goal.returns
returns c = laws.entities_follow c.state_law.ensures c.slot_law.ensures
