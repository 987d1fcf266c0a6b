use Rattle.post_box.proofs.Rules.{opens}
use Rattle.post_box.proofs.queue.open.Goals as goal

pub ruled-requires-clause-rule : goal.ruled-requires-clause-rule
ruled-requires-clause-rule g c = opens
