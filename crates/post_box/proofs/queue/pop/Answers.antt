use Rattle.post_box.proofs.Rules.{takes, stands}
use Rattle.post_box.proofs.queue.pop.Goals as goal

pub pop_as-requires-clause-rule : goal.pop_as-requires-clause-rule
pop_as-requires-clause-rule g c = (takes _ _ c.requires.takes, stands _ _)
