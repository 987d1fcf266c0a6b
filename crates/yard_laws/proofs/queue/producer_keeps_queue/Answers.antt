use Rattle.yard_laws.proofs.QueueLaws as laws
use Rattle.yard_laws.proofs.queue.producer_keeps_queue.Goals as goal

pub returns : goal.returns
returns c = laws.producer_keeps_queue c.sending_law.ensures c.slot_law.ensures
