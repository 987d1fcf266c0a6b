use Rattle.queued_laws.proofs.Confirmed as confirmed
use Rattle.queued_laws.proofs.laws.confirmed_was_written.Goals as goal

pub returns : goal.returns
returns c = confirmed.confirmed_was_written
