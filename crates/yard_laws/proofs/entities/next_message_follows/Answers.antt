use Rattle.yard_laws.proofs.EntryLaws as laws
use Rattle.yard_laws.proofs.entities.next_message_follows.Goals as goal

pub returns : goal.returns
returns c = laws.next_follows c.decision_law.ensures
