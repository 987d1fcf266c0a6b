use Rattle.post_box.proofs.Rules.{stands}
use Rattle.post_box.proofs.queue.count.Goals as goal

pub len_as-requires-clause-rule : goal.len_as-requires-clause-rule
len_as-requires-clause-rule g c = stands _ _
