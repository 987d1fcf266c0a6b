use Rattle.yard_laws.proofs.SafetyLaws.{owns_of}
use Rattle.readable_lists.proofs.SizedLaws.{lists_read}
use Rattle.readable_lists.proofs.sized.look_at_lists.Goals as goal

pub returns : goal.returns
returns g c =
    lists_read c.args.charter.now (g.T.Lists.lists c.args.lists.now) c.decision_law.ensures (owns_of c.args.charter.now (g.T.Lists.lists c.args.lists.now) c.requires).0.shard c.look_at_all.ensures
