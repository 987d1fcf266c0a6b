use Rattle.post_box.proofs.Rules.{senders}
use Rattle.post_box.proofs.queue.next_sender.Goals as goal

pub another-requires-clause-rule : goal.another-requires-clause-rule
another-requires-clause-rule g c = senders _ _ c.requires.takes
