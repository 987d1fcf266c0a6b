use Rattle.post_box.proofs.Rules.{posts, stands}
use Rattle.post_box.proofs.queue.push.Goals as goal

pub push_as-requires-clause-rule : goal.push_as-requires-clause-rule
push_as-requires-clause-rule g c = (posts _ _ c.args.from _ c.args.parcel c.requires.posts, stands _ _)
