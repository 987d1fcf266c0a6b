use Rattle.post_box.proofs.Rules.{joins, matches}
use Rattle.post_box.proofs.queue.compare.Goals as goal

pub absorb-requires-clause-rule : goal.absorb-requires-clause-rule
absorb-requires-clause-rule g c = joins _ _ _ _ c.requires.takes c.requires.posts

pub learn_as-requires-clause-rule : goal.learn_as-requires-clause-rule
learn_as-requires-clause-rule g c = matches _ _
