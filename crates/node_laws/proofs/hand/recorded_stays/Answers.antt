use Rattle.node_laws.proofs.TraceRecords as records
use Rattle.node_laws.proofs.hand.recorded_stays.Goals as goal

pub returns : goal.returns
returns c = records.recorded_stays
