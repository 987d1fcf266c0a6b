use Rattle.std.proofs.Common.{◌++◌, ap, ◌∙◌, map}
use Rattle.world_sim.specs.Steps.{view_item}
use Rattle.world_sim.proofs.members.post_views.Goals as goal

pub returns-clause-items : goal.returns-clause-items
returns-clause-items c = c.post_to_all.ensures.items ∙ ap (λ l. c.args.mail.now.items ++ map (view_item c.args.version l) l) c.members-all.ensures
