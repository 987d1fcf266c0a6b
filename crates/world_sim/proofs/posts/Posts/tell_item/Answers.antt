use Rattle.std.proofs.Common.{length, sym}
use Rattle.yard_model.specs.World.{wire_limit}
use Rattle.world_sim.proofs.FreshLaws.{lt_false}
use Rattle.world_sim.proofs.posts.Posts.tell_item.Goals as goal

pub returns-in_ok-push_copy-in-Fact-clause-past : goal.returns-in_ok-push_copy-in-Fact-clause-past
returns-in_ok-push_copy-in-Fact-clause-past g c = rw c.in-Fact.is (sym (lt_false wire_limit (length c.args.self.now.packets) c.requires))
